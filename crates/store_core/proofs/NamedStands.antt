-- A block that takes another name: what the core stands for.
use Rattle.std.proofs.Common.{arith, ◌≡◌, inl, inr, ◌<◌, ◌≤◌, ◌/◌, ℕ, Bool, true, refl, sym, ap, ◌∙◌, subst, List, ◌∷◌}
use Rattle.std.proofs.lemmas.Bool.{cases_Bool, cases_eq}
use Rattle.page_device.specs.Block.{Block}
use Rattle.page_device.specs.Meaning.{Meaning}
use Rattle.page_layout.specs.Formed.{is_formed}
use Rattle.page_layout.specs.Shape.{ShapeView, map_page, map_pages}
use Rattle.page_layout.proofs.FormedPages.{formed_map}
use Rattle.page_cache.specs.View.{is_there}
use Rattle.dep_graph.specs.Lists.{dirty_in}
use Rattle.order_model.specs.declared.Slot.{Slot}
use Rattle.order_model.specs.declared.Slot.TheVariants.{Name}
use Rattle.order_model.specs.Calls.{Change, is_changed, is_unborn, same_slot, since}
use Rattle.birth_marks.specs.Births.{BirthsView, PlacedAt, place_in, recorded_in, value_in}
use Rattle.birth_marks.proofs.CallLemmas.{changed_remembered, unborn_remembered}
use Rattle.birth_marks.proofs.TableLemmas.{slot_is}
use Rattle.logical_map.specs.Slots.{SetsSlot, slot_of}
use Rattle.page_alloc.specs.Pool.{told_of}
use Rattle.engine_model.specs.Entries.{cached_name}
use Rattle.engine_model.specs.Invariant.{known_at}
use Rattle.engine_model.specs.SmallSteps.{CanName, SetsName, named, put}
use Rattle.engine_model.proofs.SetNames.{named_keeps}
use Rattle.store_core.specs.declared.Core.{Core}
use Rattle.store_core.specs.declared.ledger.Ledger.{Ledger}
use Rattle.store_core.specs.Layout.{lay_of, place_of, top}
use Rattle.store_core.specs.Views.{page_in, world_of}
use Rattle.store_core.specs.Edits.{NamesBlock, is_name_unborn, named_in, plain_owed}
use Rattle.store_core.specs.Named.{NameStands}
use Rattle.store_core.specs.Stands.{StandsFor, moment_of}
use Rattle.store_core.proofs.Edited.{cached_there, edit_stands}
use Rattle.store_core.proofs.Clean.{apart_pages}

-- each recorded slot is in its place still, where one of them was changed at its place
pub slots_placed : (shape : ShapeView) (old new : BirthsView) (slot : Slot) (at : ℕ) → PlacedAt old new slot at → at ≡ place_of shape slot → ((s : Slot) → recorded_in old s ≡ true → place_in old s ≡ place_of shape s)
    → (s : Slot) → recorded_in new s ≡ true → place_in new s ≡ place_of shape s
slots_placed shape old new slot at placed here all s recorded = elim (cases_Bool (same_slot slot s)) [
  | inl is ↦ placed.place s ∙ rw is (here ∙ ap (place_of shape) (slot_is slot s is))
  | inr off ↦ placed.place s ∙ rw off (all s (sym (placed.recorded s ∙ rw off refl) ∙ recorded))
]

index_few : (shape : ShapeView) (l : ℕ) → l < shape.blocks → l / 1024 < map_pages shape
index_few shape l lt = omega (arith, lt)

-- one slot of a page that was well formed
pub sets_name : (shape : ShapeView) (old new : Block) (l p : ℕ) → l < shape.blocks → p ≤ shape.pages → is_formed shape (map_page l) old ≡ true → SetsSlot shape old l p new → SetsName (lay_of shape) old new l p
sets_name shape old new l p lt few was s = record {
  here = s.here;
  other = λ k kt ne same. s.others k ne same;
  formed = (formed_map shape (l / 1024) new (index_few shape l lt)).1 (s.formed few ((formed_map shape (l / 1024) old (index_few shape l lt)).0 was));
}

-- what births recorded last of a name is what is cached
name_value : (sound : Bool) (d : Meaning) (old : Core) (array : ℕ → List Block) (s : StandsFor sound d old array) (l : ℕ) → l < old.shape.blocks → recorded_in old.ledger.births (Name l) ≡ true
    → value_in old.ledger.births (Name l) ≡ cached_name (lay_of old.shape) (world_of d old) l
name_value sound d old array s l lt rec =
    let changed : is_changed (Name l) (since (map_page l) s.calls) ≡ true = sym (s.births.recorded (Name l)) ∙ rec in
    s.births.value (Name l) rec ∙ (s.kept.births (Name l) lt).left changed

pub name_stands : (old new : Core) (l p : ℕ) → l < old.shape.blocks → is_there old.engine.cache (map_page l) ≡ true → dirty_in old.engine.graph (map_page l) ≡ true
    → named_in old l ≤ old.shape.pages → NamesBlock l p old new → NameStands l p old new
name_stands old new l p lt there dirty few n = λ sound d array after s may gains.
    let lay = lay_of old.shape in
    let w = world_of d old in
    let o = named_in old l in
    let m = moment_of d old array s.calls s.told in
    let held : w.cached (map_page l) ≡ page_in old (map_page l) = cached_there d old (map_page l) there in
    let was : cached_name lay w l ≡ o = ap (λ (c : Block). slot_of c l) held in
    let formed_was : is_formed old.shape (map_page l) (page_in old (map_page l)) ≡ true = ap (is_formed old.shape (map_page l)) (sym held) ∙ s.kept.contents.well_formed.cached (map_page l) (inl (l, lt, refl)) in
    let can : CanName lay w l o p n.page = record {
      in_range = lt;
      was = was;
      none_or_data = elim (cases_eq o 0) [ inl z ↦ inl z | inr some ↦ inr (omega (arith, some), few) ];
      other = λ e. may.other (e ∙ sym was);
      sets = subst (λ (c : Block). SetsName lay c n.page l p) (sym held) (sets_name old.shape (page_in old (map_page l)) n.page l p lt may.fits formed_was n.sets);
      dirty = dirty;
      backed = may.backed;
    } in
    let unborn : is_name_unborn old l ≡ is_unborn (Name l) (map_page l) o s.calls = unborn_remembered (place_of old.shape) old.ledger.births s.calls s.births (Name l) o in
    edit_stands sound d old new array s n.only.shape after (Change (Name l) (map_page l) o p ∷ s.calls) s.told (named (known_at lay m) (map_page l) n.page l o w)
    (n.world d ∙ ap (λ (u : Bool). record (put (map_page l) n.page w) { queue = plain_owed u l o w.queue }) unborn)
    (named_keeps lay top sound (apart_pages old.shape) m s.kept l o p n.page can after gains)
    (changed_remembered (place_of old.shape) old.ledger.births new.ledger.births s.calls s.births (Name l) (map_page l) o p refl
    (n.births (λ r. name_value sound d old array s l lt r ∙ was)))
    (λ q is. ap (λ (x : Ledger). told_of x.pool q) n.ledger ∙ s.pool q is)
