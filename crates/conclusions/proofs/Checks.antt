-- A check of a new image.
use Rattle.std.proofs.Common.{◌≡◌, ◌⊎◌, ⊎_elim, ℕ, zero, suc, ◌+◌, ◌<◌, ◌≤◌, ◌==◌, false, List, refl, ◌∙◌, ap, subst, arith}
use Rattle.std.proofs.lemmas.Bool.Decides.{nat_tests}
use Rattle.byte_ports.specs.Sink.{SinkMeaning, Takes}
use Rattle.byte_ports.specs.Source.{SourceMeaning}
use Rattle.page_device.specs.Block.{Block}
use Rattle.page_device.specs.Disk.{newest}
use Rattle.page_device.specs.Possible.{newest_at_rest}
use Rattle.page_device.specs.Meaning.{Meaning}
use Rattle.page_layout.specs.Shape.{ShapeView}
use Rattle.page_layout.specs.Tables.{shape_of, map_of, count_of}
use Rattle.trace_text.specs.Texts.{sound_line}
use Rattle.array_model.specs.Counting.{sum_below}
use Rattle.array_model.specs.Images.{waste_of}
use Rattle.mount_reader.specs.Format.{IsNew}
use Rattle.image_check.specs.declared.verdict.Verdict.{Verdict}
use Rattle.image_check.specs.declared.verdict.Verdict.TheVariants as verdict
use Rattle.image_check.specs.declared.verdict.CheckError.{CheckError}
use Rattle.image_check.specs.declared.verdict.CheckError.TheVariants as unread_by
use Rattle.image_check.specs.Verdicts.{IsVerdict}
use Rattle.session.specs.declared.status.Status.TheVariants.{Done, DeviceFault, NotFormatted, NoMemory, Unsound}
use Rattle.session.specs.Statuses.{verdict_line}
use Rattle.session.specs.Opening.{verdict_status, unread_status}
use Rattle.session.specs.Endings.{LinePut, put_whole, put_part, LastPut}
use Rattle.session.specs.Run.{IsReady, NoneDone, CheckOutcome, CheckEnd, checked, unread, new_shape}
use Rattle.conclusions.proofs.Served.{no_line}

module _ (d d' : Meaning) (source source' : SourceMeaning) (sink sink' : SinkMeaning) (ready : IsReady d) (new : IsNew (new_shape 4 4) d.state.fixed) where
  told : (found : Verdict) → IsVerdict found (newest d.state) → LinePut (verdict_line found) (verdict_status found) Done sink sink' → Takes (sound_line 0) sink sink'
  told (verdict.Sound waste) is (put_whole _ put) =
      subst (λ (n : ℕ). Takes (sound_line n) sink sink') (is.1 ∙ ap waste_of (newest_at_rest d.state ready.rest) ∙ new.waste) put
  told (verdict.Sound waste) is (put_part fault _) = absurd (cc fault)
  told (verdict.Damaged damage) is line = absurd (no_line _ (Unsound (verdict.Damaged damage)) sink sink' (λ e. cc e) line)
  told (verdict.LowCount page stored named) is line = absurd (no_line _ (Unsound (verdict.LowCount page stored named)) sink sink' (λ e. cc e) line)
  told (verdict.WrongPrint page) is line = absurd (no_line _ (Unsound (verdict.WrongPrint page)) sink sink' (λ e. cc e) line)
  told (verdict.PrintOnZero page) is line = absurd (no_line _ (Unsound (verdict.PrintOnZero page)) sink sink' (λ e. cc e) line)

  not_read : (why : CheckError) → LastPut (unread_status why) Done sink sink' → ⊥
  not_read unread_by.Device line = no_line _ DeviceFault sink sink' (λ e. cc e) line
  not_read unread_by.NotFormatted line = no_line _ NotFormatted sink sink' (λ e. cc e) line
  not_read unread_by.NoMemory line = no_line _ NoMemory sink sink' (λ e. cc e) line

  pub new_is_sound : NoneDone Done d d' source source' sink sink' ⊎ (CheckOutcome Done d d' sink sink' × (source' ≡ source)) → Takes (sound_line 0) sink sink'
  new_is_sound h = ⊎_elim (λ none. absurd (no_line _ _ sink sink' (λ e. cc e) none.last_line)) (λ some. by some.0.ended) h
    where
      by : CheckEnd Done d d' sink sink' → Takes (sound_line 0) sink sink'
      by (checked found is unsound _ line) = told found (is ready.honest ready.tells_pages) line
      by (unread why cause line) = absurd (not_read why line)
