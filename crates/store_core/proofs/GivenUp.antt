-- A data page that is given up: the state, and what the core stands for.
use Rattle.std.proofs.Common.{◌≡◌, inl, inr, ◌≤◌, ℕ, Bool, true, false, cond, refl, sym, ap, ◌∙◌, List, Option, None, eqb, eq-eqb, ne_eqb, is_some}
use Rattle.std.proofs.lemmas.Bool.{cases_eq}
use Rattle.page_device.specs.Block.{Block}
use Rattle.page_device.specs.Meaning.{Meaning}
use Rattle.page_layout.specs.Shape.{data_page}
use Rattle.page_cache.specs.Calls.{TakenOut}
use Rattle.page_cache.specs.View.{CacheView, content_in, is_there}
use Rattle.dep_graph.specs.Calls.{Dropped}
use Rattle.dep_graph.specs.Lists.{GraphLists}
use Rattle.dep_graph.specs.Pages.{holds}
use Rattle.engine_model.specs.Disk.{newest_on}
use Rattle.engine_model.specs.SmallSteps.{given_up}
use Rattle.engine_model.proofs.GivenUp.{given_up_keeps}
use Rattle.engine_model.proofs.Same.{same_is}
use Rattle.store_core.specs.declared.Core.{Core}
use Rattle.store_core.specs.declared.ledger.Ledger.{Ledger}
use Rattle.store_core.specs.Layout.{lay_of, top}
use Rattle.store_core.specs.Views.{held_or, world_in, world_of}
use Rattle.store_core.specs.Edits.{Makes}
use Rattle.store_core.specs.Frames.{OnlyEngine}
use Rattle.store_core.specs.Placed.{DropStands}
use Rattle.store_core.specs.Stands.{moment_of}
use Rattle.store_core.proofs.Edited.{state_stands}
use Rattle.store_core.proofs.Clean.{apart_pages}

pub given_world : (d : Meaning) (old : Core) (cache : CacheView) (graph : GraphLists) (page : ℕ) → TakenOut old.engine.cache cache page → Dropped page old.engine.graph graph
    → world_in d cache graph old.ledger.queue ≡ given_up page (world_of d old)
given_world d old cache graph page t g = same_is (given_up page (world_of d old)) (world_in d cache graph old.ledger.queue) (record {
  newest = λ a. refl;
  older = λ a. refl;
  cached = λ a. ap (λ (o : Option Block). held_or o (newest_on d.state a)) (t.content a) ∙ elim (cases_eq a page) [
    | inl is ↦ rw (eq-eqb a page is) (ap (newest_on d.state) is)
    | inr ne ↦ rw (ne_eqb a page ne) refl
  ];
  dirty = g.dirty;
  hung = λ a. ap (λ (l : List ℕ). holds l a) g.hung;
  live = g.live;
  barred = g.barred;
  queue = refl;
})

some_before : (b : Bool) (o : Option Block) → is_some (cond b None o) ≡ true → is_some o ≡ true
some_before true o h = cc
some_before false o h = h

pub within_given : (old new : CacheView) (page : ℕ) → TakenOut old new page → (a : ℕ) → is_there new a ≡ true → is_there old a ≡ true
within_given old new page t a h = some_before (eqb a page) (content_in old a) (ap is_some (sym (t.content a)) ∙ h)

pub drop_stands : (old new : Core) (p : ℕ) → 1 ≤ p → p ≤ old.shape.pages → OnlyEngine old new → Makes (given_up (data_page old.shape p)) old new → DropStands p old new
drop_stands old new p first last rest world = λ sound d array s none.
    state_stands sound d old new array s rest.shape (ap (λ (l : Ledger). l.births) rest.ledger) (ap (λ (l : Ledger). l.pool) rest.ledger) (given_up (data_page old.shape p) (world_of d old)) (world d)
    (given_up_keeps (lay_of old.shape) top sound (apart_pages old.shape) (moment_of d old array s.calls s.told) s.kept p (first, last) none)
