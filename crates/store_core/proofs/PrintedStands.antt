-- A print that is set or cleared: what the core stands for.
use Rattle.std.proofs.Common.{arith, ◌≡◌, inl, inr, ◌<◌, ◌≤◌, ◌-◌, ◌/◌, ℕ, Bool, true, refl, sym, ap, ◌∙◌, subst, List, ◌∷◌, Option, Some, None}
use Rattle.page_device.specs.Block.{Block}
use Rattle.page_device.specs.Meaning.{Meaning}
use Rattle.page_layout.specs.Entries as entries
use Rattle.page_layout.specs.Formed.{is_formed}
use Rattle.page_layout.specs.Shape.{ShapeView, print_page, print_pages, print_place}
use Rattle.page_layout.proofs.FormedPages.{formed_print}
use Rattle.page_cache.specs.View.{is_there}
use Rattle.dep_graph.specs.Lists.{dirty_in}
use Rattle.order_model.specs.declared.Slot.TheVariants.{Print}
use Rattle.order_model.specs.Calls.{Change, is_changed, is_unborn, since}
use Rattle.order_model.specs.World.{IsData}
use Rattle.birth_marks.specs.Births.{is_unborn_in, recorded_in, value_in}
use Rattle.birth_marks.proofs.CallLemmas.{changed_remembered, unborn_remembered}
use Rattle.page_alloc.specs.Pool.{told_of}
use Rattle.engine_model.specs.Births.{has_print}
use Rattle.engine_model.specs.Invariant.{EngineInvariant}
use Rattle.engine_model.specs.Entries.{cached_print}
use Rattle.engine_model.specs.SmallSteps.{SetsPrint, put}
use Rattle.engine_model.proofs.SetPrints.{cleared_keeps, printed_keeps}
use Rattle.store_core.specs.declared.Core.{Core}
use Rattle.store_core.specs.declared.ledger.Ledger.{Ledger}
use Rattle.store_core.specs.Layout.{lay_of, place_of, top}
use Rattle.store_core.specs.Views.{page_in, world_of}
use Rattle.store_core.specs.Printed.{MayBe, PrintStands, PrintsPage, had_print}
use Rattle.store_core.specs.Stands.{StandsFor, moment_of}
use Rattle.store_core.proofs.Edited.{cached_there, edit_stands}
use Rattle.store_core.proofs.Clean.{apart_pages}

pub index_few : (shape : ShapeView) (p : ℕ) → 1 ≤ p → p ≤ shape.pages → (p - 1) / 170 < print_pages shape
index_few shape p first last = omega (arith, first, last)

-- a print of a page that was well formed
pub sets_print : (shape : ShapeView) (old new : Block) (p : ℕ) (print : Option (List ℕ)) → 1 ≤ p → p ≤ shape.pages → is_formed shape (print_page shape p) old ≡ true → entries.SetsPrint old (print_place p) print new
    → SetsPrint (lay_of shape) old new p print
sets_print shape old new p print first last was s = record {
  here = s.entry;
  other = λ q is ne same. s.others (print_place q) (λ e. ne (omega (arith, e, same, is, first)));
  formed = (formed_print shape ((p - 1) / 170) new (index_few shape p first last)).1 (s.formed shape ((p - 1) / 170) (omega (arith, first, last)) ((formed_print shape ((p - 1) / 170) old (index_few shape p first last)).0 was));
}

module _ (old : Core) (p : ℕ) (first : 1 ≤ p) (last : p ≤ old.shape.pages) (dirty : dirty_in old.engine.graph (print_page old.shape p) ≡ true) where
  kept : (sound : Bool) (d : Meaning) (array : ℕ → List Block) (s : StandsFor sound d old array) (print : Option (List ℕ)) → MayBe d old p print → (c : Block)
      → SetsPrint (lay_of old.shape) ((world_of d old).cached (print_page old.shape p)) c p print
      → EngineInvariant (lay_of old.shape) top sound (record (moment_of d old array (Change (Print p) (print_page old.shape p) (had_print print) (has_print print) ∷ s.calls) s.told) { world = put (print_page old.shape p) c (world_of d old) })
  kept sound d array s (Some print) may c sets = printed_keeps (lay_of old.shape) top sound (apart_pages old.shape) (moment_of d old array s.calls s.told) s.kept p c print (record {
    is_data = (first, last);
    sets = sets;
    dirty = dirty;
    counted = may.counted;
    had_none = may.had_none;
    count_first = may.count_first;
    data_first = may.data_first;
    is_true = may.is_true;
  })
  kept sound d array s None may c sets =
      let m = moment_of d old array s.calls s.told in
      let unborn : is_unborn_in old.ledger.births (Print p) 1 ≡ is_unborn (Print p) (print_page old.shape p) 1 s.calls = unborn_remembered (place_of old.shape) old.ledger.births s.calls s.births (Print p) 1 in
      cleared_keeps (lay_of old.shape) top sound (apart_pages old.shape) m s.kept p c may.print (record {
        is_data = (first, last);
        sets = sets;
        dirty = dirty;
        had = may.had;
        ordered_or_unborn = elim may.ordered_or_unborn [ inl o ↦ inl o | inr u ↦ inr (sym unborn ∙ u) ];
      })

-- what births recorded last of a print is what is cached
print_value : (sound : Bool) (d : Meaning) (old : Core) (array : ℕ → List Block) (s : StandsFor sound d old array) (p : ℕ) → IsData (lay_of old.shape) p → recorded_in old.ledger.births (Print p) ≡ true
    → value_in old.ledger.births (Print p) ≡ has_print (cached_print (lay_of old.shape) (world_of d old) p)
print_value sound d old array s p is rec =
    let changed : is_changed (Print p) (since (print_page old.shape p) s.calls) ≡ true = sym (s.births.recorded (Print p)) ∙ rec in
    s.births.value (Print p) rec ∙ (s.kept.births (Print p) is).left changed

had : (d : Meaning) (old : Core) (p : ℕ) (print : Option (List ℕ)) → MayBe d old p print → has_print (cached_print (lay_of old.shape) (world_of d old) p) ≡ had_print print
had d old p (Some print) may = ap has_print may.had_none
had d old p None may = ap has_print may.had

pub print_stands : (old new : Core) (p : ℕ) (print : Option (List ℕ)) → 1 ≤ p → p ≤ old.shape.pages → is_there old.engine.cache (print_page old.shape p) ≡ true → dirty_in old.engine.graph (print_page old.shape p) ≡ true
    → PrintsPage p print old new → PrintStands p print old new
print_stands old new p print first last there dirty r = λ sound d array s may.
    let lay = lay_of old.shape in
    let w = world_of d old in
    let at = print_page old.shape p in
    let held : w.cached at ≡ page_in old at = cached_there d old at there in
    let formed_was : is_formed old.shape at (page_in old at) ≡ true = ap (is_formed old.shape at) (sym held) ∙ s.kept.contents.well_formed.cached at (inr (p, (first, last), inr refl)) in
    let sets : SetsPrint lay (w.cached at) r.page p print = subst (λ (c : Block). SetsPrint lay c r.page p print) (sym held) (sets_print old.shape (page_in old at) r.page p print first last formed_was r.sets) in
    edit_stands sound d old new array s r.only.shape array (Change (Print p) at (had_print print) (has_print print) ∷ s.calls) s.told (put at r.page w) (r.world d)
    (kept old p first last dirty sound d array s print may r.page sets)
    (changed_remembered (place_of old.shape) old.ledger.births new.ledger.births s.calls s.births (Print p) at (had_print print) (has_print print) refl
    (r.births (λ rec. print_value sound d old array s p (first, last) rec ∙ had d old p print may))) (λ q is. ap (λ (x : Ledger). told_of x.pool q) r.ledger ∙ s.pool q is)
