-- A print is set once its edges stand, and cleared once its edge stands or where it is unborn.
use Rattle.std.proofs.Common.{◌≡◌, ◌≢◌, ◌⊎◌, inl, inr, ◌<◌, ℕ, Bool, true, arith, refl, sym, ap, ◌∙◌, subst, List, [], ◌∷◌, Option, Some, None}
use Rattle.std.proofs.lemmas.Bool.{cases_eq}
use Rattle.order_model.specs.World.{Layout, Possible, World, IsData}
use Rattle.engine_model.specs.Entries.{Apart, MayPrint, cached_count, cached_name, cached_print}
use Rattle.order_model.specs.Calls.{Change}
use Rattle.order_model.specs.declared.Slot.TheVariants.{Print}
use Rattle.engine_model.specs.Births.{has_print}
use Rattle.engine_model.specs.Invariant.{EngineInvariant, Moment, ToldBirths, known_at}
use Rattle.engine_model.specs.Edits.{CacheOnly, ContentEdits, Edits, Ordered}
use Rattle.engine_model.specs.SmallSteps.{CanClear, CanPrint, SetsPrint, put}
use Rattle.engine_model.specs.Frames.{EntriesKept, no_reach}
use Rattle.engine_model.proofs.Puts.{puts_print}
use Rattle.engine_model.proofs.TellsBirths.{print_told}
use Rattle.engine_model.proofs.Quiet.{print_table, put_formed, put_here, put_other, put_rest}
use Rattle.engine_model.proofs.Schedule.{tells}
use Rattle.engine_model.proofs.Views.{names_by, none_some, some_is}
use Rattle.engine_model.proofs.Whole.{edits_keep_all, pool_untold}

-- the print page of p gets a content with another print of p
module _ (lay : Layout) (top : ℕ) (sound : Bool) (apart : Apart lay) (m : Moment) (k : EngineInvariant lay top sound m) (p : ℕ) (c : List ℕ) (print : Option (List ℕ))
    (is : IsData lay p) (sets : SetsPrint lay (m.world.cached (lay.print_page p)) c p print) (dirty : m.world.dirty (lay.print_page p) ≡ true) where
  abbrev w : World
  w = m.world

  abbrev v : World
  v = put (lay.print_page p) c w

  print_here : cached_print lay v p ≡ print
  print_here = ap (λ x. lay.print_in x p) (put_here w (lay.print_page p) c) ∙ sets.here

  kept : EntriesKept lay (record no_reach { prints = p ∷ [] }) w.cached v.cached
  kept = puts_print lay apart w c p print is sets

  print_other : (q : ℕ) → IsData lay q → q ≢ p → cached_print lay v q ≡ cached_print lay w q
  print_other q d ne = kept.prints q d (ne, tt)

  names : (l : ℕ) → l < lay.blocks → cached_name lay v l ≡ cached_name lay w l
  names l lt = kept.names l lt tt

  counts : (q : ℕ) → IsData lay q → cached_count lay v q ≡ cached_count lay w q
  counts q d = kept.counts q d tt

  data_same : (q : ℕ) → IsData lay q → v.cached (lay.data_page q) ≡ w.cached (lay.data_page q)
  data_same q d = kept.contents q d tt

  rest : CacheOnly lay w v
  rest = put_rest lay w (lay.print_page p) c dirty

  -- what the change brings: where the print is gained, where it is lost, and that a print stands on a count
  module _ (gained : (x : List ℕ) → print ≡ Some x → (w.live (lay.count_page p) (lay.print_page p) ≡ true) ⊎ ((d : List ℕ) → Possible w (lay.count_page p) d → 0 < lay.count_in d p))
      (ordered : (x : List ℕ) → print ≡ Some x → Ordered w (lay.data_page p) (lay.print_page p) × (x ≡ lay.finger (w.cached (lay.data_page p))))
      (lost : (x : List ℕ) → MayPrint lay w p x → cached_print lay w p ≡ Some x → w.live (lay.print_page p) (lay.count_page p) ≡ true)
      (counted : (x : List ℕ) → print ≡ Some x → 0 < cached_count lay w p) where
    print_of : (q : ℕ) (x : List ℕ) → q ≡ p → cached_print lay v q ≡ Some x → print ≡ Some x
    print_of q x e h = sym print_here ∙ ap (cached_print lay v) (sym e) ∙ h

    edits : Edits lay top w v
    edits = record {
      rest = rest;
      kinds = λ a b h. inl h;
      acyclic = k.counts.marks_and_edges.acyclic;
      name_gained = λ l q lt d h. inl (sym (names l lt) ∙ h);
      name_lost = λ l q lt d may h. inl (names l lt ∙ h);
      print_gained = λ q x d h. elim (cases_eq q p) [
        | inr ne ↦ inl (sym (print_other q d ne) ∙ h)
        | inl e ↦ inr (elim (gained x (print_of q x e h)) [
          | inl edge ↦ inl (subst (λ y. w.live (lay.count_page y) (lay.print_page y) ≡ true) (sym e) edge)
          | inr sure ↦ inr (subst (λ y. (d : List ℕ) → Possible w (lay.count_page y) d → 0 < lay.count_in d y) (sym e) sure)
        ])
      ];
      print_lost = λ q x d may h. elim (cases_eq q p) [
        | inr ne ↦ inl (print_other q d ne ∙ h)
        | inl e ↦ inr (subst (λ y. w.live (lay.print_page y) (lay.count_page y) ≡ true) (sym e)
            (lost x (subst (λ y. MayPrint lay w y x) e may) (ap (cached_print lay w) (sym e) ∙ h)))
      ];
      enough = λ q d.
          let was = (k.counts.count_balance q d).enough in
          let same = counts q d in
          let as_many = names_by lay w v names q in
          omega arith;
      in_range = λ q d. let was = (k.counts.count_balance q d).in_range in let same = counts q d in omega arith;
      print_counted = λ q x d h. let same = counts q d in elim (cases_eq q p) [
        | inr ne ↦ let was = k.counts.print_needs_count q x d (sym (print_other q d ne) ∙ h) in omega arith
        | inl e ↦ let was : 0 < cached_count lay w q = subst (λ y. 0 < cached_count lay w y) (sym e) (counted x (print_of q x e h)) in omega arith
      ];
      zero_kept = λ l q s. inl s;
      one_kept = λ l q s. inl s;
      zero_dirty = k.counts.lost_name_owes_release.dirty;
      one_hung = k.counts.lost_name_owes_release.hung;
      queue_in_range = k.counts.lost_name_owes_release.in_range;
    }

    contents : ContentEdits lay sound m.array m.array w v
    contents = record {
      rest = rest;
      dirty_fresh = λ q d h. inl h;
      cached = λ q d. inl (data_same q d);
      name_gained = λ l q lt d h. inl (sym (names l lt) ∙ h);
      print_gained = λ q x d h. elim (cases_eq q p) [
        | inr ne ↦ inl (sym (print_other q d ne) ∙ h)
        | inl e ↦ let o = ordered x (print_of q x e h) in inr (
          subst (λ y. Ordered v (lay.data_page y) (lay.print_page y)) (sym e) (record { dirty = o.0.dirty; hung = o.0.hung }),
          o.1 ∙ ap lay.finger (sym (data_same p is) ∙ ap (λ y. v.cached (lay.data_page y)) (sym e)),
        )
      ];
      count_risen = λ q d h. inl (subst (λ x. 0 < x) (counts q d) h);
      blocks = λ l lt. inl (names l lt, refl);
      well_formed = put_formed lay w (lay.print_page p) c sets.formed k.contents.well_formed.cached;
      first_page = (k.contents.first_page.clean, put_other w (lay.print_page p) c 0 (λ e. apart.first_table (lay.print_page p) (print_table lay p is) (sym e)));
    }

    abbrev after : Moment
    after = record m { world = v; calls = Change (Print p) (lay.print_page p) (has_print (cached_print lay w p)) (has_print print) ∷ m.calls }

    told : ToldBirths lay m after
    told = print_told lay m after p (has_print (cached_print lay w p)) (has_print print) refl (ap has_print print_here) refl dirty names print_other

    print_keeps : EngineInvariant lay top sound after
    print_keeps = edits_keep_all lay top sound m after k edits contents told (pool_untold lay top sound m after k (λ q. refl) counts)

module _ (lay : Layout) (top : ℕ) (sound : Bool) (apart : Apart lay) (m : Moment) (k : EngineInvariant lay top sound m) (p : ℕ) (c print : List ℕ) where
  pub printed_keeps : CanPrint lay m.world p c print
      → EngineInvariant lay top sound (record m { world = put (lay.print_page p) c m.world; calls = Change (Print p) (lay.print_page p) 0 1 ∷ m.calls })
  printed_keeps can =
      let now = print_keeps lay top sound apart m k p c (Some print) can.is_data can.sets can.dirty
      (λ x e. can.count_first)
      (λ x e. (can.data_first, sym (some_is print x e) ∙ can.is_true))
      (λ x may h. absurd (none_some x (sym can.had_none ∙ h)))
      (λ x e. can.counted) in
      subst (λ n. EngineInvariant lay top sound (record m { world = put (lay.print_page p) c m.world; calls = Change (Print p) (lay.print_page p) n 1 ∷ m.calls })) (ap has_print can.had_none) now

  pub cleared_keeps : CanClear lay (known_at lay m) m.world p c print
      → EngineInvariant lay top sound (record m { world = put (lay.print_page p) c m.world; calls = Change (Print p) (lay.print_page p) 1 0 ∷ m.calls })
  cleared_keeps can =
      let now = print_keeps lay top sound apart m k p c None can.is_data can.sets can.dirty
      (λ x e. absurd (none_some x e))
      (λ x e. absurd (none_some x e))
      (λ x may h. elim can.ordered_or_unborn [ inl edge ↦ edge | inr unborn ↦ absurd ((tells lay top sound m k).unborn_print p x can.is_data unborn may) ])
      (λ x e. absurd (none_some x e)) in
      subst (λ n. EngineInvariant lay top sound (record m { world = put (lay.print_page p) c m.world; calls = Change (Print p) (lay.print_page p) n 0 ∷ m.calls })) (ap has_print can.had) now
