-- A crash within formatting, and a check of what it left.
use Rattle.std.proofs.Common.{◌≡◌, ◌⊎◌, ⊎_elim, inl, inr, ℕ, zero, suc, take, true, List, [], ◌∷◌, ◌++◌, refl, sym, ◌∙◌, ap, subst, arith}
use Rattle.std.proofs.lemmas.List.{append-nil, append_cancel_left}
use Rattle.byte_ports.specs.Source.{SourceMeaning}
use Rattle.byte_ports.specs.Sink.{SinkMeaning}
use Rattle.page_device.specs.Block.{Block, zero_block}
use Rattle.page_device.specs.declared.device.LogEntry.{LogEntry}
use Rattle.page_device.specs.Disk.{DeviceState, IsImage, state_after, newest}
use Rattle.page_device.specs.Faults.{IsCalm}
use Rattle.page_device.specs.Meaning.{Meaning, IsCounted}
use Rattle.page_device.specs.Moments.{Leaves, each_at}
use Rattle.page_device.specs.Possible.{newest_at_rest}
use Rattle.page_layout.specs.Tables.{HasShape}
use Rattle.trace_text.specs.Texts.{sound_line}
use Rattle.array_model.specs.Images.{IsSound, IsTight, waste_of}
use Rattle.mount_reader.specs.Format.{IsNew, IsUnformatted, MayBePartway, with_pages}
use Rattle.image_check.specs.declared.verdict.Verdict.{Verdict}
use Rattle.image_check.specs.declared.verdict.Verdict.TheVariants as verdict
use Rattle.image_check.specs.declared.verdict.CheckError.{CheckError}
use Rattle.image_check.specs.declared.verdict.CheckError.TheVariants as unread_by
use Rattle.image_check.specs.Verdicts.{IsVerdict, IsUnsound, CheckCause}
use Rattle.session.specs.declared.status.Status.{Status}
use Rattle.session.specs.declared.status.Status.TheVariants.{Done, SinkFault, NotFormatted, NoMemory}
use Rattle.session.specs.Statuses.{last_text, verdict_line}
use Rattle.session.specs.Opening.{verdict_status, unread_status}
use Rattle.session.specs.Endings.{LinePut, put_whole, put_part, LastPut}
use Rattle.session.specs.Run.{IsReady, NoneDone, FormatOutcome, formatted, failed, CheckOutcome, CheckEnd, checked, unread, new_shape}
use Rattle.conclusions.specs.Sentences.{LeavesPartway, TellsOf}

-- no call was made
still_partway : (d d' : Meaning) → d'.log ≡ d.log → LeavesPartway d d'
unfolding state_after
still_partway d d' same image left =
    let s = (with_pages d d'.pages).state in
    let none : left.calls ≡ [] = append_cancel_left d.log left.calls [] (sym left.log ∙ same ∙ sym (append-nil d.log)) in
    let is : IsImage s image = subst (λ (x : DeviceState). IsImage x image) (ap (λ (l : List LogEntry). state_after s (take left.k l)) none ∙ nothing_taken s left.k) left.left in
    record { is = inl is; data_kept = record { pages = is.pages; each = λ k block from at. is.each k block at } }
  where
    nothing_taken : (s : DeviceState) (n : ℕ) → state_after s (take n (let l : List LogEntry = [] in l)) ≡ s
    nothing_taken s zero = refl
    nothing_taken s (suc n) = refl

-- these calls were made
made_partway : (d d' : Meaning) → d.tells_log ≡ true → IsCounted d' → Leaves (with_pages d d'.pages) d' (MayBePartway (new_shape 4 4) (with_pages d d'.pages).state) → LeavesPartway d d'
made_partway d d' tells few leaves image left =
    let s = (with_pages d d'.pages).state in
    let made : left.calls ≡ leaves.calls = append_cancel_left d.log left.calls leaves.calls (sym left.log ∙ leaves.log tells few) in
    each_at (MayBePartway (new_shape 4 4) s) s leaves.calls left.k leaves.each image (subst (λ (l : List LogEntry). IsImage (state_after s (take left.k l)) image) made left.left)

module _ (status : Status) (d d' : Meaning) (source source' : SourceMeaning) (sink sink' : SinkMeaning) (honest : d.honest ≡ true) (tells : d.tells_pages ≡ true) (log : d.tells_log ≡ true) (few : IsCounted d') where
  by_outcome : FormatOutcome (new_shape 4 4) status d d' sink sink' → LeavesPartway d d'
  by_outcome (formatted f _ _) = made_partway d d' log few (f.formats.leaves honest tells)
  by_outcome (failed _ some _) = ⊎_elim (λ still. still_partway d d' (still.log log)) (λ f. made_partway d d' log few (f.leaves honest tells)) some

  pub crash_partway : NoneDone status d d' source source' sink sink' ⊎ (FormatOutcome (new_shape 4 4) status d d' sink sink' × (source' ≡ source)) → LeavesPartway d d'
  crash_partway h = ⊎_elim (λ none. still_partway d d' (ap (λ (m : Meaning). m.log) none.same_device)) (λ some. by_outcome some.0) h

-- where page 0 is zeros there is no shape
zeros_first : take 8 zero_block ≡ 0 ∷ 0 ∷ 0 ∷ 0 ∷ 0 ∷ 0 ∷ 0 ∷ 0 ∷ []
zeros_first = refl

shapeless : (image : List Block) → IsUnformatted image → HasShape image → ⊥
shapeless image zeros has = absurd (cc (sym zeros_first ∙ ap (take 8) (sym zeros) ∙ has.superblock.starts))

has_shape : (found : Verdict) (image : List Block) → IsVerdict found image → HasShape image
has_shape (verdict.Sound waste) image is = is.0.shape
has_shape (verdict.Damaged damage) image is = is.0
has_shape (verdict.LowCount page stored named) image is = is.shape
has_shape (verdict.WrongPrint page) image is = is.shape
has_shape (verdict.PrintOnZero page) image is = is.shape

-- a line was put whole where the sink did not fail
put_line : (text : List ℕ) (wanted status : Status) (old new : SinkMeaning) → old.tells ≡ true → (status ≡ SinkFault → ⊥) → LinePut text wanted status old new → (status ≡ wanted) × (new.held ≡ old.held ++ text)
put_line text wanted status old new tells never (put_whole is put) = (is, put.held tells)
put_line text wanted status old new tells never (put_part is _) = absurd (never is)

module _ (status : Status) (d d' : Meaning) (source source' : SourceMeaning) (sink sink' : SinkMeaning) (ready : IsReady d) (calm : IsCalm d d') (told : sink.tells ≡ true) (never : status ≡ SinkFault → ⊥) where
  not_read : (why : CheckError) → CheckCause why d d' → LastPut (unread_status why) status sink sink' → (HasShape d.state.fixed → ⊥) × TellsOf NotFormatted (last_text NotFormatted) status sink sink' ⊎ ((status ≡ NoMemory) × (sink'.held ≡ sink.held ++ last_text NoMemory))
  not_read unread_by.Device cause line = absurd (omega (arith, cause calm.few, calm.same))
  not_read unread_by.NotFormatted cause line = inl (subst (λ (i : List Block). HasShape i → ⊥) (newest_at_rest d.state ready.rest) (cause ready.honest ready.tells_pages), inl (put_line _ NotFormatted status sink sink' told never line))
  not_read unread_by.NoMemory cause line = inr (put_line _ NoMemory status sink sink' told never line)

  zeros_are_told : IsUnformatted d.state.fixed → NoneDone status d d' source source' sink sink' ⊎ (CheckOutcome status d d' sink sink' × (source' ≡ source)) → TellsOf NotFormatted (last_text NotFormatted) status sink sink'
  zeros_are_told zeros h = ⊎_elim (λ none. inr (put_line _ NoMemory status sink sink' told never none.last_line)) (λ some. by some.0.ended) h
    where
      by : CheckEnd status d d' sink sink' → TellsOf NotFormatted (last_text NotFormatted) status sink sink'
      by (checked found is unsound _ line) = absurd (shapeless d.state.fixed zeros (subst HasShape (newest_at_rest d.state ready.rest) (has_shape found (newest d.state) (is ready.honest ready.tells_pages))))
      by (unread why cause line) = ⊎_elim (λ said. said.1) (λ none. inr none) (not_read why cause line)

  module _ (weaken : (image : List Block) → IsTight image → IsSound image) (new : IsNew (new_shape 4 4) d.state.fixed) where
    sound_now : IsSound (newest d.state)
    sound_now = subst IsSound (sym (newest_at_rest d.state ready.rest)) (weaken d.state.fixed new.tight)

    of_verdict : (found : Verdict) → IsVerdict found (newest d.state) → IsUnsound found d → LinePut (verdict_line found) (verdict_status found) status sink sink' → TellsOf Done (sound_line 0) status sink sink'
    of_verdict (verdict.Sound waste) is unsound line = subst (λ (n : ℕ). TellsOf Done (sound_line n) status sink sink') (is.1 ∙ ap waste_of (newest_at_rest d.state ready.rest) ∙ new.waste) (inl (put_line (sound_line waste) Done status sink sink' told never line))
    of_verdict (verdict.Damaged damage) is unsound line = absurd (unsound ready.honest ready.tells_pages sound_now)
    of_verdict (verdict.LowCount page stored named) is unsound line = absurd (unsound ready.honest ready.tells_pages sound_now)
    of_verdict (verdict.WrongPrint page) is unsound line = absurd (unsound ready.honest ready.tells_pages sound_now)
    of_verdict (verdict.PrintOnZero page) is unsound line = absurd (unsound ready.honest ready.tells_pages sound_now)

    new_is_told : NoneDone status d d' source source' sink sink' ⊎ (CheckOutcome status d d' sink sink' × (source' ≡ source)) → TellsOf Done (sound_line 0) status sink sink'
    new_is_told h = ⊎_elim (λ none. inr (put_line _ NoMemory status sink sink' told never none.last_line)) (λ some. by some.0.ended) h
      where
        by : CheckEnd status d d' sink sink' → TellsOf Done (sound_line 0) status sink sink'
        by (checked found is unsound _ line) = of_verdict found (is ready.honest ready.tells_pages) unsound line
        by (unread why cause line) = ⊎_elim (λ said. absurd (said.0 new.fresh.shape)) (λ none. inr none) (not_read why cause line)

  -- of each image that may be left
  pub part_is_told : (weaken : (image : List Block) → IsTight image → IsSound image) (Old : Type 0) → Old ⊎ IsUnformatted d.state.fixed ⊎ IsNew (new_shape 4 4) d.state.fixed
      → NoneDone status d d' source source' sink sink' ⊎ (CheckOutcome status d d' sink sink' × (source' ≡ source)) → Old ⊎ TellsOf NotFormatted (last_text NotFormatted) status sink sink' ⊎ TellsOf Done (sound_line 0) status sink sink'
  part_is_told weaken Old (inl old) h = inl old
  part_is_told weaken Old (inr (inl zeros)) h = inr (inl (zeros_are_told zeros h))
  part_is_told weaken Old (inr (inr new)) h = inr (inr (new_is_told weaken new h))
