-- A session in small: a block is written and discarded, so that its name and its print are never born, and the page is free again.
use Rattle.std.specs.Prelude.{List, [], cond, eqb, false, ℕ, ◌&&◌, ◌||◌, ◌∷◌}
use Rattle.order_model.specs.World.{Release, World}
use Rattle.order_model.specs.declared.Slot.TheVariants.{Name, Print}
use Rattle.engine_model.specs.Births.{Edit, told}
use Rattle.order_model.specs.Pool.{Told, after_fixed, after_take, after_zeroed, new_pool, taken_all, written_all}
use Rattle.engine_model.specs.Invariant.{Moment}
use Rattle.engine_model.specs.Examples.{empty, empty_array, printed, written, written_array}

abbrev pub mounted_pool : ℕ → Told
mounted_pool = after_fixed (written_all printed (2 ∷ []) (taken_all [] new_pool))

abbrev pub mounted : Moment
mounted = record { world = empty; array = empty_array; calls = []; pool = mounted_pool }

abbrev pub write_edits : List Edit
write_edits = (record { slot = Name 0; at = 1; from = 0; to = 1 }) ∷ ((record { slot = Print 1; at = 3; from = 0; to = 1 }) ∷ [])

abbrev pub wrote : Moment
wrote = record { world = written; array = written_array; calls = told write_edits []; pool = after_take 1 mounted_pool }

-- the name was unborn
abbrev pub unborn_release : Release
unborn_release = record { block = 0; page = 1; stage = 3 }

abbrev pub discard_edits : List Edit
discard_edits = (record { slot = Name 0; at = 1; from = 1; to = 0 }) ∷ []

abbrev pub discarded_world : World
discarded_world = record {
  newest = λ page. 0 ∷ [];
  older = λ page. [];
  cached = λ page. cond (eqb page 2) (1 ∷ []) (cond (eqb page 3) (1 ∷ (7 ∷ [])) (cond (eqb page 4) (7 ∷ []) (0 ∷ [])));
  dirty = λ page. (eqb page 1 || eqb page 3) || (eqb page 2 || eqb page 4);
  hung = λ page. false;
  live = λ a b. (eqb a 2 || eqb a 4) && (eqb b 1 || eqb b 3);
  barred = λ a b. false;
  queue = unborn_release ∷ [];
}

abbrev pub twice_array : ℕ → List (List ℕ)
twice_array l = cond (eqb l 0) ((0 ∷ []) ∷ ((7 ∷ []) ∷ ((0 ∷ []) ∷ []))) ((0 ∷ []) ∷ [])

abbrev pub discarded : Moment
discarded = record { world = discarded_world; array = twice_array; calls = told discard_edits (told write_edits []); pool = after_take 1 mounted_pool }

-- the release is applied at once, and the print was unborn
abbrev pub release_edits : List Edit
release_edits = (record { slot = Print 1; at = 3; from = 1; to = 0 }) ∷ []

abbrev pub count_gone_world : World
count_gone_world = record {
  newest = λ page. 0 ∷ [];
  older = λ page. [];
  cached = λ page. cond (eqb page 4) (7 ∷ []) (0 ∷ []);
  dirty = λ page. (eqb page 1 || eqb page 3) || (eqb page 2 || eqb page 4);
  hung = λ page. false;
  live = λ a b. (eqb a 2 || eqb a 4) && (eqb b 1 || eqb b 3);
  barred = λ a b. false;
  queue = [];
}

abbrev pub count_gone : Moment
count_gone = record {
  world = count_gone_world;
  array = twice_array;
  calls = told release_edits (told discard_edits (told write_edits []));
  pool = after_zeroed 1 (after_take 1 mounted_pool);
}

-- the page's content is dropped
abbrev pub dropped_world : World
dropped_world = record {
  newest = λ page. 0 ∷ [];
  older = λ page. [];
  cached = λ page. 0 ∷ [];
  dirty = λ page. (eqb page 1 || eqb page 3) || eqb page 2;
  hung = λ page. false;
  live = λ a b. eqb a 2 && (eqb b 1 || eqb b 3);
  barred = λ a b. false;
  queue = [];
}

abbrev pub dropped : Moment
dropped = record {
  world = dropped_world;
  array = twice_array;
  calls = told release_edits (told discard_edits (told write_edits []));
  pool = after_zeroed 1 (after_take 1 mounted_pool);
}
