-- A pass by small steps keeps the engine invariant.
use Rattle.std.proofs.Common.{◌≡◌, inl, inr, ◌+◌, ◌<◌, ℕ, Bool, true, false, arith, refl, sym, ap, ◌∙◌, subst, List, [], ◌∷◌, ◌++◌, Some, eqb, eq-eqb, ◌&&◌, cond}
use Rattle.std.proofs.lemmas.Bool.{and_from, or_left, or_right}
use Rattle.order_model.specs.World.{Layout, Queued, Release, World, queued, IsData}
use Rattle.engine_model.specs.Entries.{Apart, cached_count, cached_print}
use Rattle.engine_model.specs.Invariant.{EngineInvariant, Moment, known_at}
use Rattle.order_model.specs.Paths.{Closes}
use Rattle.engine_model.specs.SmallRuns.{in_state, with_release_out}
use Rattle.engine_model.specs.SmallSteps.{ordered, touched}
use Rattle.engine_model.proofs.GivenUp.{given_up_keeps}
use Rattle.engine_model.proofs.Lowered.{lowered_keeps}
use Rattle.engine_model.proofs.Passes.{append_one}
use Rattle.engine_model.proofs.Queues.{middle, queued_out}
use Rattle.engine_model.proofs.Quiet.{barred_keeps, count_table, ordered_keeps, print_table, put_here, some_edge, touched_here, touched_keeps}
use Rattle.engine_model.proofs.SetPrints.{cleared_keeps}
use Rattle.engine_model.specs.SmallPass.{Applies, Clears, ClearsLast, ClearsUnborn, GivenUp, Leaves, NothingToClear, SmallPass, StaysThere, map_edge, print_readied, readied}
use Rattle.engine_model.proofs.AppliedFrames.{clears_barred, clears_cached, clears_dirty, clears_live, clears_none, clears_queue, edge_by, edge_cases, ready_cached}
use Rattle.engine_model.proofs.StaysBlocked.{out_queue}
use Rattle.engine_model.proofs.Ways.{still_open}

module _ (lay : Layout) (top : ℕ) (sound : Bool) (apart : Apart lay) where
  abbrev Kept : Moment → Type 0
  Kept m = EngineInvariant lay top sound m

  module _ (m n : Moment) (r : Release) (before after : List Release) (k : Kept m) (queue : m.world.queue ≡ before ++ r ∷ after) (x : Applies lay m n r before after) where
    edge_here : (a b : ℕ) → (eqb a a && eqb b b) ≡ true
    edge_here a b = and_from _ _ (eq-eqb a a refl) (eq-eqb b b refl)

    abbrev K : ℕ
    K = lay.count_page r.page

    abbrev M : ℕ
    M = lay.map_page r.block

    abbrev F : ℕ
    F = lay.print_page r.page

    abbrev begun : World
    begun = touched K m.world

    abbrev ready : Moment
    ready = in_state (readied lay r m.world) m

    range : (r.block < lay.blocks) × IsData lay r.page
    range = k.counts.lost_name_owes_release.in_range r.block r.page r.stage (rw queue (middle before after r))

    begun_keeps : Kept (in_state begun m)
    begun_keeps = touched_keeps lay top sound apart m k K (count_table lay r.page range.1)

    ready_keeps : Kept ready
    ready_keeps = edge_cases (λ w. Kept (in_state w m)) r.stage M K begun
        (λ z. ordered_keeps lay top sound apart (in_state begun m) begun_keeps M K (inr (inl (r.block, range.0, refl), (r.page, range.1, refl))) (touched_here m.world K)
        (or_left _ _ (k.counts.lost_name_owes_release.dirty r.block r.page range.0 (subst (λ s. Queued m.world.queue r.block r.page s) z (rw queue (middle before after r)))))
        (λ c. x.not_blocked (inl (z, c))))
        (λ o. barred_keeps lay top sound apart (in_state begun m) begun_keeps M K (inr (inl (r.block, range.0, refl), (r.page, range.1, refl))) (touched_here m.world K)
        (k.counts.lost_name_owes_release.hung r.block r.page range.0 (subst (λ s. Queued m.world.queue r.block r.page s) o (rw queue (middle before after r)))))
        begun_keeps

    ready_dirty : ready.world.dirty K ≡ true
    ready_dirty = edge_by (λ w. w.dirty K ≡ true) r.stage M K begun (touched_here m.world K) (touched_here m.world K) (touched_here m.world K)

    ready_queue : ready.world.queue ≡ m.world.queue
    ready_queue = edge_by (λ w. w.queue ≡ m.world.queue) r.stage M K begun refl refl refl

    ready_count : cached_count lay ready.world r.page ≡ cached_count lay m.world r.page
    ready_count = ap (λ c. lay.count_in c r.page) (ready_cached lay r m.world K)

    ready_print : cached_print lay ready.world r.page ≡ cached_print lay m.world r.page
    ready_print = ap (λ c. lay.print_in c r.page) (ready_cached lay r m.world F)

    -- where the print is the last, its edge closes nothing, with the edge from the map page beside
    print_open : x.count ≡ 0 → (print : List ℕ) → cached_print lay ready.world r.page ≡ Some print → (known_at lay m).unborn_print r.page ≡ false → Closes ready.world.live F K → ⊥
    print_open z print some born =
        let was : Closes m.world.live F K → ⊥ = λ c. x.not_blocked (inr (((let one = x.counted in omega arith), (print, sym ready_print ∙ some), born), c)) in
        edge_by (λ w. Closes w.live F K → ⊥) r.stage M K begun (still_open m.world.live (ordered M K begun).live K (λ a b h. elim (some_edge m.world M K a b h) [ inl old ↦ inl old | inr new ↦ inr new.1 ]) F was) was was

    cleared_kept : (c : Moment) → Clears lay r.page x.count ready c → Kept c
    cleared_kept c (NothingToClear h e) = subst Kept (sym e) ready_keeps
    cleared_kept c (ClearsUnborn d print z some born sets e) = subst Kept (sym e) (cleared_keeps lay top sound apart (in_state (touched F ready.world) ready)
        (touched_keeps lay top sound apart ready ready_keeps F (print_table lay r.page range.1)) r.page d print
        (record { is_data = range.1; sets = sets; dirty = touched_here ready.world F; had = some; ordered_or_unborn = inr born }))
    cleared_kept c (ClearsLast d print z some born sets e) =
        let touched_kept = touched_keeps lay top sound apart ready ready_keeps F (print_table lay r.page range.1) in
        let ordered_kept = ordered_keeps lay top sound apart (in_state (touched F ready.world) ready) touched_kept F K (inr (inr (r.page, range.1, refl), (r.page, range.1, refl)))
        (or_left _ _ ready_dirty) (touched_here ready.world F) (print_open z print some born) in
        subst Kept (sym e) (cleared_keeps lay top sound apart (in_state (print_readied lay r.page ready.world) ready) ordered_kept r.page d print
        (record { is_data = range.1; sets = sets; dirty = touched_here ready.world F; had = some; ordered_or_unborn = inl (or_right _ _ (edge_here F K)) }))

    abbrev out : Moment
    out = with_release_out lay r.page x.content (before ++ after) x.pool x.cleared

    pub out_keeps : Kept out
    out_keeps = lowered_keeps lay top sound apart x.cleared (cleared_kept x.cleared x.clears) r before after x.content x.count (record {
      was_queued = clears_queue lay r.page x.count ready x.cleared x.clears ∙ ready_queue ∙ queue;
      counted = x.counted ∙ sym (ap (λ c. lay.count_in c r.page) (clears_cached lay r.page x.count ready x.cleared x.clears K (apart.count_print r.page r.page range.1 range.1)) ∙ ready_count);
      sets = x.sets;
      dirty = clears_dirty lay r.page x.count ready x.cleared x.clears K ready_dirty;
      no_print = clears_none lay r.page x.count ready x.cleared x.clears;
      from_map = λ z. clears_live lay r.page x.count ready x.cleared x.clears M K (map_live z);
      from_hung_map = λ o. clears_barred lay r.page x.count ready x.cleared x.clears M K ∙ map_barred o;
    }) x.pool x.told
      where
        map_live : r.stage ≡ 0 → ready.world.live M K ≡ true
        map_live z = subst (λ s. (map_edge s M K begun).live M K ≡ true) (sym z) (or_right _ _ (edge_here M K))

        map_barred : r.stage ≡ 1 → ready.world.barred M K ≡ true
        map_barred o = subst (λ s. (map_edge s M K begun).barred M K ≡ true) (sym o) (or_right _ _ (edge_here M K))

    pub applies_keeps : Kept n
    applies_keeps = elim x.gives_up [
      | StaysThere e ↦ subst Kept (sym e) out_keeps
      | GivenUp z none e ↦ subst Kept (sym e) (given_up_keeps lay top sound apart out out_keeps r.page range.1
          (ap (λ c. lay.count_in c r.page) (put_here x.cleared.world K x.content) ∙ x.sets.here ∙ z))
    ]

  -- an honest device never brings about a count of 0 under a release
  pub no_leaves : (m n : Moment) (r : Release) (before after : List Release) → Kept m → m.world.queue ≡ before ++ r ∷ after → Leaves lay m n r before after → ⊥
  no_leaves m n r before after k queue x =
      let range = k.counts.lost_name_owes_release.in_range r.block r.page r.stage (rw queue (middle before after r)) in
      let enough = (k.counts.count_balance r.page range.1).enough in
      let none = x.no_count in
      let some : queued m.world.queue r.page ≡ cond (eqb r.page r.page) 1 0 + queued (before ++ after) r.page = ap (λ rs. queued rs r.page) queue ∙ queued_out before after r r.page in
      let one : cond {A = ℕ} (eqb r.page r.page) 1 0 ≡ 1 = ap (λ b. cond b 1 0) (eq-eqb r.page r.page refl) in
      omega arith

  pub small_pass_keeps : (m n : Moment) (kept todo : List Release) → Kept m → m.world.queue ≡ kept ++ todo → SmallPass lay m kept todo n → Kept n
  small_pass_keeps m n kept [] k queue p = subst Kept (sym p) k
  small_pass_keeps m n kept (r ∷ todo) k queue (inl p) = small_pass_keeps m n (kept ++ r ∷ []) todo k (queue ∙ sym (append_one kept todo r)) p.1
  small_pass_keeps m n kept (r ∷ todo) k queue (inr p) = elim p.1 [
    | inl x ↦ small_pass_keeps p.0 n kept todo (applies_keeps m p.0 r kept todo k queue x)
        (out_queue lay apart m p.0 r kept todo (k.counts.lost_name_owes_release.in_range r.block r.page r.stage (rw queue (middle kept todo r))).1 (inl x)) p.2
    | inr x ↦ absurd (no_leaves m p.0 r kept todo k queue x)
  ]
