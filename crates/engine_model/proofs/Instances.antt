-- The edits in general, met by a write and by a touched page.
use Rattle.std.proofs.Common.{inl, true, arith, refl, ◌∷◌, []}
use Rattle.std.proofs.lemmas.Bool.{or_left}
use Rattle.engine_model.specs.Edits.{ContentEdits, Edits, Grown}
use Rattle.engine_model.specs.Invariant.{ToldPool}
use Rattle.engine_model.specs.SmallSteps.{touched}
use Rattle.engine_model.specs.Examples.{asked, empty, empty_array, printed, written, written_array}
use Rattle.engine_model.specs.Session.{mounted}
use Rattle.engine_model.specs.SmallSession.{content_placed}
use Rattle.engine_model.proofs.Examples.{empty_tells, write_content, write_gains, write_renamed}
use Rattle.engine_model.proofs.Graphs.{acyclic_none}
use Rattle.engine_model.proofs.Renamed.{write_edits}
use Rattle.engine_model.proofs.RenamedContents.{write_content_edits}
use Rattle.engine_model.proofs.Session.{mounted_kept, printed_apart}
use Rattle.engine_model.proofs.Whole.{pool_untold}

pub some_edits : Edits printed 5 empty written
some_edits = write_edits printed (asked true) 5 empty written 0 0 1 printed_apart mounted_kept.counts empty_tells write_renamed

pub some_content_edits : ContentEdits printed true empty_array written_array empty written
some_content_edits = write_content_edits printed (asked true) 5 true empty_array written_array empty written 0 0 1 (7 ∷ []) empty_tells write_renamed write_content (inl write_gains.here) write_gains.other

pub some_growth : Grown printed 5 empty (touched 1 empty)
some_growth = record {
  rest = record {
    newest = λ a. refl;
    possible = λ a c q. q;
    cached_clean = λ a t off. refl;
    hung = λ a. refl;
    dirty_kept = λ a h. or_left _ _ h;
    live_kept = λ a b h. h;
    barred_kept = λ a b h. h;
    live_ends = λ a b h. inl h;
    barred_ends = λ a b h. inl h;
  };
  kinds = λ a b h. inl h;
  acyclic = acyclic_none empty.live (λ a b. refl);
  queue = refl;
  names = λ l lt. refl;
  prints = λ q d. refl;
  counts = λ q d. (omega arith, omega arith);
}

pub some_told_pool : ToldPool printed mounted content_placed
some_told_pool = pool_untold printed 5 true mounted content_placed mounted_kept (λ q. refl) (λ q d. refl)
