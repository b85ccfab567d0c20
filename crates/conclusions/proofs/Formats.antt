-- Formatting, and what is read of a new image.
use Rattle.std.proofs.Common.{◌≡◌, ◌⊎◌, ⊎_elim, inl, ℕ, ◌<◌, true, List, length, refl, sym, ◌∙◌, ap, subst, arith}
use Rattle.byte_ports.specs.Source.{SourceMeaning}
use Rattle.byte_ports.specs.Sink.{SinkMeaning, Takes}
use Rattle.page_device.specs.declared.device.LogEntry.{LogEntry}
use Rattle.page_device.specs.Block.{zero_block}
use Rattle.page_device.specs.Disk.{DeviceState, IsImage, at_rest}
use Rattle.page_device.specs.Meaning.{Meaning}
use Rattle.page_layout.specs.Shape.{ShapeView}
use Rattle.page_layout.specs.Tables.{shape_of}
use Rattle.trace_text.specs.declared.command.Command.TheVariants.{Read}
use Rattle.trace_text.specs.declared.reply.Reply.{Reply}
use Rattle.trace_text.specs.declared.reply.Reply.TheVariants as reply
use Rattle.trace_text.specs.Texts.{formatted_line}
use Rattle.array_model.specs.Images.{fit, block_of}
use Rattle.array_model.specs.Replies.{FitsWith}
use Rattle.mount_reader.specs.Format.{IsNew, AreFormat, zeros_before}
use Rattle.session.specs.declared.status.Status.TheVariants.{Done, DeviceFault}
use Rattle.session.specs.Chain.{IsSure, fault_count}
use Rattle.session.specs.Endings.{LinePut, put_whole, put_part}
use Rattle.session.specs.Run.{IsReady, NoneDone, FormatOutcome, formatted, failed, new_shape, session_start}
use Rattle.conclusions.proofs.Arrays.{OneOver, last_one, read_is}
use Rattle.conclusions.proofs.Served.{no_line}

pub record Fresh (blocks pages : ℕ) (d : Meaning) (sink sink' : SinkMeaning) : Type 0 where
  pub ready : IsReady d
  pub image : IsNew (new_shape blocks pages) d.state.fixed
  pub put : Takes (formatted_line blocks pages) sink sink'

fixed_is_image : (s : DeviceState) → s ≡ at_rest s.fixed → IsImage s s.fixed
fixed_is_image s rest = subst (λ (x : DeviceState). IsImage x s.fixed) (sym rest) (record { pages = refl; each = λ page block e. inl e })

pub fresh_from : (blocks pages : ℕ) (d d' : Meaning) (source source' : SourceMeaning) (sink sink' : SinkMeaning) → d.honest ≡ true → d.tells_pages ≡ true
    → NoneDone Done d d' source source' sink sink' ⊎ (FormatOutcome (new_shape blocks pages) Done d d' sink sink' × (source' ≡ source)) → Fresh blocks pages d' sink sink' × (source' ≡ source)
fresh_from blocks pages d d' source source' sink sink' honest tells h = ⊎_elim (λ none. absurd (no_line _ _ sink sink' (λ is. cc is) none.last_line)) (λ some. (by some.0, some.1)) h
  where
    text : LinePut (formatted_line blocks pages) Done Done sink sink' → Takes (formatted_line blocks pages) sink sink'
    text (put_whole _ put) = put
    text (put_part is _) = absurd (cc is)

    by : FormatOutcome (new_shape blocks pages) Done d d' sink sink' → Fresh blocks pages d' sink sink'
    by (formatted f _ line) =
        let holds = f.holds honest tells in
        record {
          ready = record { honest = f.formats.kind.honest ∙ honest; tells_pages = f.formats.kind.tells_pages ∙ tells; rest = holds.rest };
          image = (holds.images d'.state.fixed (fixed_is_image d'.state holds.rest)).is_new;
          put = text line;
        }
    by (failed _ _ last) = absurd (no_line _ DeviceFault sink sink' (λ is. cc is) last)

pub zeros_read : (d d' : Meaning) (answer : Reply) (pages : ℕ) → IsNew (new_shape 4 4) d.state.fixed → IsSure pages answer → fault_count answer ≡ 0 → OneOver (session_start fit d) (Read 0) answer d' → answer ≡ reply.Bytes zero_block
unfolding FitsWith
zeros_read d d' answer pages new sure none o =
    let blocks : (shape_of d.state.fixed).blocks ≡ 4 = ap (λ (s : ShapeView). s.blocks) new.is in
    let some : 0 < (shape_of d.state.fixed).blocks = omega (arith, blocks) in
    read_is pages _ answer (o.fits.0 some) sure none ∙ ap reply.Bytes (last_one (block_of d.state.fixed 0) ∙ new.zeros 0 (omega arith))

-- how many calls a formatting of four blocks and four data pages makes
pub eight_calls : (calls : List LogEntry) → AreFormat (new_shape 4 4) calls → length calls ≡ 8
unfolding zeros_before
eight_calls calls are = ap length are.calls_are
