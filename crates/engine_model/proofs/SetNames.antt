-- A name is set or taken away, and the old one is owed a release.
use Rattle.std.proofs.Common.{◌≡◌, ◌≢◌, inl, inr, ◌+◌, ◌<◌, ◌≤◌, ℕ, Bool, true, cond, arith, refl, sym, ap, ◌∙◌, subst, List, [], ◌∷◌, ◌++◌, eq-eqb, ne_eqb}
use Rattle.std.proofs.lemmas.Bool.{cases_eq}
use Rattle.order_model.specs.World.{Layout, World, queued, IsData}
use Rattle.engine_model.specs.Entries.{Apart, cached_count, cached_name, cached_names, cached_print}
use Rattle.order_model.specs.Calls.{Change}
use Rattle.order_model.specs.declared.Slot.TheVariants.{Name}
use Rattle.engine_model.specs.Invariant.{EngineInvariant, Moment, ToldBirths, known_at}
use Rattle.engine_model.specs.Known.{Known, Tells}
use Rattle.engine_model.specs.Edits.{CacheOnly, ContentEdits, Edits, Ordered}
use Rattle.engine_model.specs.Commands.{Released}
use Rattle.engine_model.specs.SmallSteps.{CanName, GainsOrHolds, IsBacked, held_by, named, pushed, put}
use Rattle.engine_model.specs.Frames.{EntriesKept, no_reach}
use Rattle.engine_model.proofs.Puts.{puts_name}
use Rattle.engine_model.proofs.TellsBirths.{name_told}
use Rattle.engine_model.proofs.Quiet.{map_table, put_formed, put_here, put_other, put_rest, queue_rest}
use Rattle.engine_model.proofs.Renamed.{names_gained, names_lost, names_other, name_lost, one_hung, queue_here, queue_in_range, queue_other, still, zero_dirty}
use Rattle.engine_model.proofs.Schedule.{tells}
use Rattle.engine_model.proofs.Whole.{edits_keep_all, pool_untold}

module _ (lay : Layout) (top : ℕ) (sound : Bool) (apart : Apart lay) (m : Moment) (k : EngineInvariant lay top sound m) (l o p : ℕ) (c : List ℕ) (can : CanName lay m.world l o p c) where
  abbrev w : World
  w = m.world

  abbrev known : Known
  known = known_at lay m

  abbrev v : World
  v = named known (lay.map_page l) c l o w

  here : v.cached (lay.map_page l) ≡ c
  here = put_here w (lay.map_page l) c

  away : (a : ℕ) → a ≢ lay.map_page l → v.cached a ≡ w.cached a
  away a ne = put_other w (lay.map_page l) c a ne

  name_here : cached_name lay v l ≡ p
  name_here = ap (λ x. lay.name_in x l) here ∙ can.sets.here

  kept : EntriesKept lay (record no_reach { names = l ∷ [] }) w.cached v.cached
  kept = puts_name lay apart w c l p can.in_range can.sets

  name_other : (j : ℕ) → j < lay.blocks → j ≢ l → cached_name lay v j ≡ cached_name lay w j
  name_other j lt ne = kept.names j lt (ne, tt)

  counts : (q : ℕ) → IsData lay q → cached_count lay v q ≡ cached_count lay w q
  counts q d = kept.counts q d tt

  prints : (q : ℕ) → IsData lay q → cached_print lay v q ≡ cached_print lay w q
  prints q d = kept.prints q d tt

  data_same : (q : ℕ) → IsData lay q → v.cached (lay.data_page q) ≡ w.cached (lay.data_page q)
  data_same q d = kept.contents q d tt

  rest : CacheOnly lay w v
  rest = queue_rest lay w (put (lay.map_page l) c w) (pushed known l o w.queue) (put_rest lay w (lay.map_page l) c can.dirty)

  released : Released lay known w v l o
  released = record {
    in_range = can.in_range;
    was = can.was;
    none_or_data = can.none_or_data;
    other_names = name_other;
    map_dirty = can.dirty;
    pushed = elim (cases_eq o 0) [
      | inl z ↦ inl (z, rw (eq-eqb o 0 z))
      | inr pos ↦ inr (let q : 0 < o = omega arith in q, rw (ne_eqb o 0 pos))
    ];
  }

  true_known : Tells lay w known
  true_known = tells lay top sound m k

  not_old : cached_name lay w l ≢ p
  not_old q = can.other (sym q ∙ can.was)

  -- the new name of l is that of a data page only where it is backed
  backs : (q : ℕ) → IsData lay q → p ≡ q → IsBacked lay w l p
  backs q d e = elim can.backed [ inl z ↦ absurd (omega (arith, z, e, d)) | inr b ↦ b ]

  waste : (q : ℕ) → IsData lay q → cached_names lay v q + queued v.queue q ≤ cached_count lay v q
  waste q d =
      let count = counts q d in
      let enough = (k.counts.count_balance q d).enough in
      elim (cases_eq p q) [
        | inl e ↦
            let names : cached_names lay v q ≡ cached_names lay w q + 1 =
            subst (λ y. cached_names lay v y ≡ cached_names lay w y + 1) e (names_gained lay known top w v l o k.counts true_known rest released p not_old name_here) in
            let queue : queued v.queue q ≡ queued w.queue q =
            subst (λ y. queued v.queue y ≡ queued w.queue y) e (queue_other lay known top w v l o k.counts true_known rest released p (λ s. can.other (sym s))) in
            let room : cached_names lay w q + queued w.queue q < cached_count lay w q =
            subst (λ y. cached_names lay w y + queued w.queue y < cached_count lay w y) e (backs q d e).spare in
            omega arith
        | inr ne ↦
            let now : cached_name lay v l ≢ q = λ s. ne (sym name_here ∙ s) in
            elim (cases_eq o q) [
              | inl e ↦
                  let names = names_lost lay known top w v l o k.counts true_known rest released q (can.was ∙ e) now in
                  let queue = subst (λ y. queued v.queue y ≡ queued w.queue y + 1) e (queue_here lay known top w v l o k.counts true_known rest released (rw e d.0)) in
                  omega arith
              | inr other ↦
                  let names = names_other lay known top w v l o k.counts true_known rest released q (λ s. other (sym can.was ∙ s)) now in
                  let queue = queue_other lay known top w v l o k.counts true_known rest released q other in
                  omega arith
            ]
      ]

  edits : Edits lay top w v
  edits = record {
    rest = rest;
    kinds = λ a b h. inl h;
    acyclic = k.counts.marks_and_edges.acyclic;
    name_gained = λ j q lt d h. elim (cases_eq j l) [
      | inr ne ↦ inl (sym (name_other j lt ne) ∙ h)
      | inl e ↦
          let same : p ≡ q = sym name_here ∙ ap (cached_name lay v) (sym e) ∙ h in
          inr (subst (λ y. v.live (lay.count_page q) (lay.map_page y) ≡ true) (sym e) (subst (λ y. v.live (lay.count_page y) (lay.map_page l) ≡ true) same (backs q d same).count_first))
    ];
    name_lost = name_lost lay known top w v l o k.counts true_known rest released;
    print_gained = λ q print d h. inl (sym (prints q d) ∙ h);
    print_lost = λ q print d may h. inl (prints q d ∙ h);
    enough = waste;
    in_range = λ q d. let same = counts q d in let was = (k.counts.count_balance q d).in_range in omega arith;
    print_counted = λ q print d h. let same = counts q d in let pos = k.counts.print_needs_count q print d (sym (prints q d) ∙ h) in omega arith;
    zero_kept = λ j q s. inl (still lay known top w v l o k.counts true_known rest released j q 0 s);
    one_kept = λ j q s. inl (still lay known top w v l o k.counts true_known rest released j q 1 s);
    zero_dirty = zero_dirty lay known top w v l o k.counts true_known rest released;
    one_hung = one_hung lay known top w v l o k.counts true_known rest released;
    queue_in_range = queue_in_range lay known top w v l o k.counts true_known rest released;
  }

  -- what l holds now
  holds_none : cached_name lay v l ≡ 0 → held_by lay w p ≡ lay.zero_block
  holds_none h = ap (λ b. cond b lay.zero_block (w.cached (lay.data_page p))) (eq-eqb p 0 (sym name_here ∙ h))

  holds_data : (q : ℕ) → IsData lay q → cached_name lay v l ≡ q → held_by lay w p ≡ v.cached (lay.data_page q)
  holds_data q d h =
      let e : p ≡ q = sym name_here ∙ h in
      ap (λ b. cond b lay.zero_block (w.cached (lay.data_page p))) (ne_eqb p 0 (λ z. omega (arith, z, e, d))) ∙ ap (λ y. w.cached (lay.data_page y)) e ∙ sym (data_same q d)

  module _ (array : ℕ → List (List ℕ)) (gain : GainsOrHolds m.array array l (held_by lay m.world p)) where
    abbrev after : Moment
    after = record { world = v; array = array; calls = Change (Name l) (lay.map_page l) o p ∷ m.calls; pool = m.pool }

    contents : ContentEdits lay sound m.array array w v
    contents = record {
      rest = rest;
      dirty_fresh = λ q d h. inl h;
      cached = λ q d. inl (data_same q d);
      name_gained = λ j q lt d h. elim (cases_eq j l) [
        | inr ne ↦ inl (sym (name_other j lt ne) ∙ h)
        | inl e ↦
            let same : p ≡ q = sym name_here ∙ ap (cached_name lay v) (sym e) ∙ h in
            let first = (backs q d same).data_first in
            let order : Ordered v (lay.data_page p) (lay.map_page l) = record { dirty = first.dirty; hung = first.hung } in
            inr (subst (λ z. Ordered v (lay.data_page q) (lay.map_page z)) (sym e) (subst (λ z. Ordered v (lay.data_page z) (lay.map_page l)) same order))
      ];
      print_gained = λ q print d h. inl (sym (prints q d) ∙ h);
      count_risen = λ q d h. inl (subst (λ x. 0 < x) (counts q d) h);
      blocks = λ j lt. elim (cases_eq j l) [
        | inr ne ↦ inl (name_other j lt ne, elim gain [ inl g ↦ g.other j ne | inr same ↦ same.0 j ])
        | inl e ↦ inr (
          held_by lay w p,
          elim gain [
            | inl g ↦ inl (ap array e ∙ g.here ∙ ap (λ z. m.array z ++ held_by lay w p ∷ []) (sym e))
            | inr same ↦ inr (same.0 j, rw e same.1)
          ],
          (λ h. holds_none (ap (cached_name lay v) (sym e) ∙ h)),
          (λ q d h. holds_data q d (ap (cached_name lay v) (sym e) ∙ h)),
        )
      ];
      well_formed = put_formed lay w (lay.map_page l) c can.sets.formed k.contents.well_formed.cached;
      first_page = (k.contents.first_page.clean, away 0 (λ e. apart.first_table (lay.map_page l) (map_table lay l can.in_range) (sym e)));
    }

    told : ToldBirths lay m after
    told = name_told lay m after l o p can.was name_here refl can.dirty name_other prints

    pub named_keeps : EngineInvariant lay top sound
        (record { world = named (known_at lay m) (lay.map_page l) c l o m.world; array = array; calls = Change (Name l) (lay.map_page l) o p ∷ m.calls; pool = m.pool })
    named_keeps = edits_keep_all lay top sound m after k edits contents told (pool_untold lay top sound m after k (λ q. refl) counts)
