-- A stop of a later part is one of the whole.
use Rattle.std.proofs.Common.{◌≡◌, ⊎_elim, ◌+◌, ◌<◌, ◌≤◌, ◌^◌, List, Result, Ok, Err, IfOk, IfErr, arith}
use Rattle.std.proofs.lemmas.Bool.{cases_lt}
use Rattle.page_device.specs.Block.{Block}
use Rattle.page_device.specs.Meaning.{Meaning}
use Rattle.page_layout.specs.Shape.{ShapeView}
use Rattle.page_layout.specs.Tables.{shape_of, HasShape}
use Rattle.image_reader.specs.Looked.{Looked, Holds}
use Rattle.image_reader.proofs.Looking.{held_before}
use Rattle.image_check.specs.declared.verdict.Stop.{Stop}
use Rattle.image_check.specs.declared.verdict.Stop.TheVariants.{Device, Told}
use Rattle.image_check.specs.Verdicts.{IsVerdict}
use Rattle.image_check.specs.Stops.{StopCause}

module _ (shape : ShapeView) (known later : List Block → Type 0) (d0 d1 e : Meaning) (looked : Looked d0 d1) (never_falls : d0.faults ≤ d1.faults) (nor_then : d1.faults ≤ e.faults)
    (gives : Holds (λ image. HasShape image → shape_of image ≡ shape → known image → later image) d0) where
  pub rose_before : (d1.faults + 1 < 2 ^ 64 → d1.faults < e.faults) → d0.faults + 1 < 2 ^ 64 → d0.faults < e.faults
  rose_before rose few = ⊎_elim (λ lt. omega (arith, never_falls, rose lt)) (λ le. omega (arith, few, le, nor_then)) (cases_lt (d1.faults + 1) (2 ^ 64))

  pub stop_before : (stop : Stop) → StopCause shape later stop d1 e → StopCause shape known stop d0 e
  stop_before Device h = rose_before h
  stop_before (Told verdict) h = λ honest tells has told is.
      held_before (λ image. HasShape image → shape_of image ≡ shape → later image → IsVerdict verdict image) d0 d1 looked h honest tells has told (gives honest tells has told is)

-- what follows from an error, or from what is answered
pub if_err : {T E : Type 0} (r : Result T E) (P Q : E → Type 0) → ((e : E) → P e → Q e) → IfErr r P → IfErr r Q
if_err (Ok t) P Q f h = h
if_err (Err e) P Q f h = f e h

pub if_ok : {T E : Type 0} (r : Result T E) (P Q : T → Type 0) → ((t : T) → P t → Q t) → IfOk r P → IfOk r Q
if_ok (Ok t) P Q f h = f t h
if_ok (Err e) P Q f h = h
