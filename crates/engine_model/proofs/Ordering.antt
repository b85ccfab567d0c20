-- On every device: each step keeps the marks, edges and stages in order, and a pass after which no page was dirty leaves nothing.
use Rattle.std.proofs.Common.{Bool, ◌≡◌, ◌≢◌, ◌⊎◌, inl, inr, ◌<◌, ℕ, true, false, ◌&&◌, cond, arith, refl, sym, ap, ◌∙◌, subst, List, [], ◌∷◌, ◌++◌, true≢false, eqb, ne_eqb, eq-eqb, map}
use Rattle.std.proofs.lemmas.Bool.{cases_eq, cases_Bool, or_left, or_right, or_cases, and_parts, and_from, not_from_false, false_from_ne_true}
use Rattle.order_model.specs.World.{Layout, Queued, Release, World, IsData}
use Rattle.engine_model.specs.DeviceSteps.{barrier_made, fixed_release, page_taken, page_written, written_release}
use Rattle.engine_model.specs.Entries.{Apart, EdgeKind, IsCount, IsPrint}
use Rattle.engine_model.specs.Invariant.{Moment, known_at}
use Rattle.engine_model.specs.Known.{Known}
use Rattle.engine_model.specs.Pass.{Member}
use Rattle.engine_model.specs.Releases.{IsBlocked}
use Rattle.engine_model.specs.SmallRuns.{in_state, with_release_out}
use Rattle.engine_model.specs.SmallSteps.{given_up, lowered, named, ordered, ordered_by_barrier, pushed, put, touched}
use Rattle.engine_model.proofs.Graphs.{way_begins}
use Rattle.engine_model.proofs.NewEdges.{none_to_data}
use Rattle.engine_model.proofs.Passes.{append_one, member_queued}
use Rattle.engine_model.proofs.Queues.{middle, push_back, was_in}
use Rattle.engine_model.proofs.Quiet.{map_table, some_barred, some_edge, touched_here}
use Rattle.engine_model.specs.AnyDevice.{AnyFixed, AnyRefused, AnyRun, AnyStep, AnyTaken, AnyWritten, FewerQueued, IsOrdered}
use Rattle.engine_model.specs.SmallPass.{Applies, Clears, ClearsLast, ClearsUnborn, GivenUp, InRange, Leaves, NothingToClear, SmallPass, StaysThere, readied}
use Rattle.engine_model.proofs.AppliedFrames.{clears_queue, edge_by, edge_cases}
use Rattle.engine_model.proofs.StaysBlocked.{out_queue}
use Rattle.engine_model.specs.Schedule.{NoNode, last_of}

abbrev moved : (Release → ℕ) → Release → Release
moved f r = record r { stage = f r }

-- a release among those whose stage a call of the device moved was one before
moved_back : (f : Release → ℕ) (rs : List Release) (l p stage : ℕ) → Queued (map (moved f) rs) l p stage
    → (r : Release) × Member r rs × (r.block ≡ l) × (r.page ≡ p) × (f r ≡ stage)
moved_back f [] l p stage h = absurd h
moved_back f (x ∷ xs) l p stage (inl q) = (x, inl refl, q.0, q.1, q.2)
moved_back f (x ∷ xs) l p stage (inr q) = let b = moved_back f xs l p stage q in (b.0, inr b.1, b.2, b.3, b.4)

never : (b : Bool) → cond {A = ℕ} b 3 0 ≡ 1 → ⊥
never true e = omega (arith, e)
never false e = omega (arith, e)

module _ (lay : Layout) (w : World) (k : IsOrdered lay w) where
  pub touch_order : (page : ℕ) → IsOrdered lay (touched page w)
  touch_order page = record {
    live_before = λ a b h. or_left _ _ (k.live_before a b h);
    edge_kinds = k.edge_kinds;
    zero_dirty = λ l p h. or_left _ _ (k.zero_dirty l p h);
    one_hung = k.one_hung;
    in_range = k.in_range;
  }

  pub put_order : (page : ℕ) (c : List ℕ) → IsOrdered lay (put page c w)
  put_order page c = record { live_before = k.live_before; edge_kinds = k.edge_kinds; zero_dirty = k.zero_dirty; one_hung = k.one_hung; in_range = k.in_range }

  kind_at : (x y a b : ℕ) → EdgeKind lay x y → (a ≡ x) × (b ≡ y) → EdgeKind lay a b
  kind_at x y a b kind new = subst (λ z. EdgeKind lay a z) (sym new.1) (subst (λ z. EdgeKind lay z y) (sym new.0) kind)

  pub order_order : (x y : ℕ) → EdgeKind lay x y → w.dirty x ≡ true → IsOrdered lay (ordered x y w)
  order_order x y kind dirty = record {
    live_before = λ a b h. elim (some_edge w x y a b h) [ inl was ↦ k.live_before a b was | inr new ↦ ap w.dirty new.0 ∙ dirty ];
    edge_kinds = λ a b h. elim h [
      | inl l ↦ elim (some_edge w x y a b l) [ inl was ↦ k.edge_kinds a b (inl was) | inr new ↦ kind_at x y a b kind new ]
      | inr r ↦ k.edge_kinds a b (inr r)
    ];
    zero_dirty = k.zero_dirty;
    one_hung = k.one_hung;
    in_range = k.in_range;
  }

  pub barred_order : (x y : ℕ) → EdgeKind lay x y → IsOrdered lay (ordered_by_barrier x y w)
  barred_order x y kind = record {
    live_before = k.live_before;
    edge_kinds = λ a b h. elim h [
      | inl l ↦ k.edge_kinds a b (inl l)
      | inr r ↦ elim (some_barred w x y a b r) [ inl was ↦ k.edge_kinds a b (inr was) | inr new ↦ kind_at x y a b kind new ]
    ];
    zero_dirty = k.zero_dirty;
    one_hung = k.one_hung;
    in_range = k.in_range;
  }

  pub queue_order : (page : ℕ) (c : List ℕ) (rs : List Release) → FewerQueued rs w.queue → IsOrdered lay (lowered page c rs w)
  queue_order page c rs fewer = record {
    live_before = k.live_before;
    edge_kinds = k.edge_kinds;
    zero_dirty = λ l p h. k.zero_dirty l p (fewer l p 0 h);
    one_hung = λ l p h. k.one_hung l p (fewer l p 1 h);
    in_range = λ l p stage h. k.in_range l p stage (fewer l p stage h);
  }

  pub name_order : (known : Known) (l o : ℕ) (c : List ℕ) → l < lay.blocks → (o ≡ 0) ⊎ IsData lay o → w.dirty (lay.map_page l) ≡ true → IsOrdered lay (named known (lay.map_page l) c l o w)
  name_order known l o c lt data_or dirty = record {
    live_before = k.live_before;
    edge_kinds = k.edge_kinds;
    zero_dirty = λ j p h. elim (back j p 0 h) [ inl was ↦ k.zero_dirty j p was | inr new ↦ ap (λ z. w.dirty (lay.map_page z)) (sym new.0) ∙ dirty ];
    one_hung = λ j p h. elim (back j p 1 h) [ inl was ↦ k.one_hung j p was | inr new ↦ absurd (never (known.unborn_name l o) new.3) ];
    in_range = λ j p stage h. elim (back j p stage h) [
      | inl was ↦ k.in_range j p stage was
      | inr new ↦ (subst (λ z. z < lay.blocks) new.0 lt, subst (λ z. IsData lay z) new.1 (elim data_or [ inl z ↦ absurd (new.2 z) | inr d ↦ d ]))
    ];
  }
    where
      back : (j p stage : ℕ) → Queued (pushed known l o w.queue) j p stage → Queued w.queue j p stage ⊎ ((l ≡ j) × (o ≡ p) × (o ≢ 0) × (cond (known.unborn_name l o) 3 0 ≡ stage))
      back j p stage h = elim (cases_eq o 0) [
        | inl z ↦ inl (subst (λ b. Queued (cond b w.queue (w.queue ++ new ∷ [])) j p stage) (eq-eqb o 0 z) h)
        | inr ne ↦ elim (push_back w.queue new j p stage (subst (λ b. Queued (cond b w.queue (w.queue ++ new ∷ [])) j p stage) (ne_eqb o 0 ne) h)) [
          | inl was ↦ inl was
          | inr is ↦ inr (is.0, is.1, ne, is.2)
        ]
      ]
        where
          new : Release
          new = record { block = l; page = o; stage = cond (known.unborn_name l o) 3 0 }

  pub data_open : Apart lay → (a p : ℕ) → IsData lay p → w.live a (lay.data_page p) ≡ false
  data_open apart a p d = false_from_ne_true _ (λ h. none_to_data lay w p apart k.edge_kinds d a (inl h))

  pub give_up_order : Apart lay → (p : ℕ) → IsData lay p → IsOrdered lay (given_up (lay.data_page p) w)
  give_up_order apart p d = record {
    live_before = λ a b h. let q = and_parts _ _ h in and_from _ _ (k.live_before a b q.0) q.1;
    edge_kinds = λ a b h. elim h [ inl l ↦ k.edge_kinds a b (inl (and_parts _ _ l).0) | inr r ↦ k.edge_kinds a b (inr r) ];
    zero_dirty = λ l q h. and_from _ _ (k.zero_dirty l q h)
        (not_from_false _ (ne_eqb (lay.map_page l) (lay.data_page p) (apart.table_data (lay.map_page l) p (map_table lay l (k.in_range l q 0 h).0) d)));
    one_hung = k.one_hung;
    in_range = k.in_range;
  }

  pub take_order : (page : ℕ) → IsOrdered lay (page_taken page w)
  take_order page = record { live_before = k.live_before; edge_kinds = k.edge_kinds; zero_dirty = k.zero_dirty; one_hung = k.one_hung; in_range = k.in_range }

  queued_is : (f : Release → ℕ) (l p stage : ℕ) → Queued (map (moved f) w.queue) l p stage → (r : Release) × Queued w.queue l p r.stage × (r.block ≡ l) × (f r ≡ stage)
  queued_is f l p stage h =
      let b = moved_back f w.queue l p stage h in
      (b.0, subst (λ z. Queued w.queue z p b.0.stage) b.2 (subst (λ z. Queued w.queue b.0.block z b.0.stage) b.3 (member_queued b.0 w.queue b.1)), b.2, b.4)

  pub write_order : (page : ℕ) → IsOrdered lay (page_written lay page w)
  write_order page = record {
    live_before = λ a b h. let q = and_parts _ _ h in and_from _ _ (k.live_before a b q.0) q.1;
    edge_kinds = λ a b h. elim h [
      | inl l ↦ k.edge_kinds a b (inl (and_parts _ _ l).0)
      | inr r ↦ elim (or_cases _ _ r) [ inl was ↦ k.edge_kinds a b (inr was) | inr now ↦ k.edge_kinds a b (inl (and_parts _ _ now).0) ]
    ];
    zero_dirty = λ l p h.
        let q = queued_is (λ r. cond (eqb (lay.map_page r.block) page && eqb r.stage 0) 1 r.stage) l p 0 h in
        elim (cases_Bool (eqb (lay.map_page q.0.block) page && eqb q.0.stage 0)) [
          | inl moved ↦ absurd (let one : 1 ≡ 0 = sym (ap (λ b. cond b 1 q.0.stage) moved) ∙ q.3 in omega arith)
          | inr stays ↦
              let zero : q.0.stage ≡ 0 = sym (ap (λ b. cond b 1 q.0.stage) stays) ∙ q.3 in
              let off : eqb (lay.map_page l) page ≡ false = false_from_ne_true _ (λ is. true≢false (sym (and_from _ _ (ap (λ z. eqb (lay.map_page z) page) q.2 ∙ is) (eq-eqb q.0.stage 0 zero)) ∙ stays)) in
              and_from _ _ (k.zero_dirty l p (subst (λ z. Queued w.queue l p z) zero q.1)) (not_from_false _ off)
        ];
    one_hung = λ l p h.
        let q = queued_is (λ r. cond (eqb (lay.map_page r.block) page && eqb r.stage 0) 1 r.stage) l p 1 h in
        elim (cases_Bool (eqb (lay.map_page q.0.block) page && eqb q.0.stage 0)) [
          | inl went ↦ or_right _ _ (ap (λ z. eqb (lay.map_page z) page) (sym q.2) ∙ (and_parts _ _ went).0)
          | inr stays ↦ or_left _ _ (k.one_hung l p (subst (λ z. Queued w.queue l p z) (sym (ap (λ b. cond b 1 q.0.stage) stays) ∙ q.3) q.1))
        ];
    in_range = λ l p stage h. let q = queued_is (λ r. cond (eqb (lay.map_page r.block) page && eqb r.stage 0) 1 r.stage) l p stage h in k.in_range l p q.0.stage q.1;
  }

  pub barrier_order : IsOrdered lay (barrier_made w)
  barrier_order = record {
    live_before = k.live_before;
    edge_kinds = λ a b h. elim h [ inl l ↦ k.edge_kinds a b (inl l) | inr r ↦ absurd (true≢false (sym r)) ];
    zero_dirty = λ l p h.
        let q = queued_is (λ r. cond (eqb r.stage 1) 2 r.stage) l p 0 h in
        elim (cases_Bool (eqb q.0.stage 1)) [
          | inl moved ↦ absurd (let two : 2 ≡ 0 = sym (ap (λ b. cond b 2 q.0.stage) moved) ∙ q.3 in omega arith)
          | inr stays ↦ k.zero_dirty l p (subst (λ z. Queued w.queue l p z) (sym (ap (λ b. cond b 2 q.0.stage) stays) ∙ q.3) q.1)
        ];
    one_hung = λ l p h.
        let q = queued_is (λ r. cond (eqb r.stage 1) 2 r.stage) l p 1 h in
        elim (cases_Bool (eqb q.0.stage 1)) [
          | inl went ↦ absurd (let two : 2 ≡ 1 = sym (ap (λ b. cond b 2 q.0.stage) went) ∙ q.3 in omega arith)
          | inr stays ↦ absurd (true≢false (sym (eq-eqb q.0.stage 1 (sym (ap (λ b. cond b 2 q.0.stage) stays) ∙ q.3)) ∙ stays))
        ];
    in_range = λ l p stage h. let q = queued_is (λ r. cond (eqb r.stage 1) 2 r.stage) l p stage h in k.in_range l p q.0.stage q.1;
  }

-- an applied release
module _ (lay : Layout) (apart : Apart lay) (m n : Moment) (r : Release) (before after : List Release) where
  abbrev K : ℕ
  K = lay.count_page r.page

  abbrev M : ℕ
  M = lay.map_page r.block

  abbrev F : ℕ
  F = lay.print_page r.page

  abbrev ready : Moment
  ready = in_state (readied lay r m.world) m

  abbrev begun : World
  begun = touched K m.world

  fewer : FewerQueued (before ++ after) (before ++ r ∷ after)
  fewer l p stage h = was_in before after r l p stage h

  module _ (k : IsOrdered lay m.world) (queue : m.world.queue ≡ before ++ r ∷ after) where
    range : (r.block < lay.blocks) × IsData lay r.page
    range = k.in_range r.block r.page r.stage (rw queue (middle before after r))

    ready_order : IsOrdered lay ready.world
    ready_order =
        let map_kind : EdgeKind lay M K = inr (inl (r.block, range.0, refl), (r.page, range.1, refl)) in
        let old = touch_order lay m.world k K in
        edge_cases (IsOrdered lay) r.stage M K begun
        (λ z. order_order lay begun old M K map_kind (or_left _ _ (k.zero_dirty r.block r.page (subst (λ s. Queued m.world.queue r.block r.page s) z (rw queue (middle before after r))))))
        (λ o. barred_order lay begun old M K map_kind) old

    clears_order : (count : ℕ) (c : Moment) → Clears lay r.page count ready c → IsOrdered lay c.world
    clears_order count c (NothingToClear h e) = subst (λ z. IsOrdered lay z.world) (sym e) ready_order
    clears_order count c (ClearsUnborn d print z some born sets e) = subst (λ z. IsOrdered lay z.world) (sym e) (put_order lay _ (touch_order lay _ ready_order F) F d)
    clears_order count c (ClearsLast d print z some born sets e) = subst (λ z. IsOrdered lay z.world) (sym e)
        (put_order lay _ (order_order lay (touched F ready.world) (touch_order lay _ ready_order F) F K (inr (inr (r.page, range.1, refl), (r.page, range.1, refl))) (touched_here ready.world F)) F d)

    applies_order : Applies lay m n r before after → IsOrdered lay n.world
    applies_order x =
        let was : x.cleared.world.queue ≡ before ++ r ∷ after =
        clears_queue lay r.page x.count ready x.cleared x.clears ∙ edge_by (λ w. w.queue ≡ m.world.queue) r.stage M K begun refl refl refl ∙ queue in
        let out : Moment = with_release_out lay r.page x.content (before ++ after) x.pool x.cleared in
        let out_order : IsOrdered lay out.world = queue_order lay x.cleared.world (clears_order x.count x.cleared x.clears) K x.content (before ++ after)
        (λ l p stage h. subst (λ rs. Queued rs l p stage) (sym was) (fewer l p stage h)) in
        elim x.gives_up [
          | StaysThere e ↦ subst (λ z. IsOrdered lay z.world) (sym e) out_order
          | GivenUp z none e ↦ subst (λ z. IsOrdered lay z.world) (sym e) (give_up_order lay out.world out_order apart r.page range.1)
        ]

    leaves_order : Leaves lay m n r before after → IsOrdered lay n.world
    leaves_order x = subst (λ z. IsOrdered lay z.world) (sym x.is) (record {
      live_before = k.live_before;
      edge_kinds = k.edge_kinds;
      zero_dirty = λ l p h. k.zero_dirty l p (rw queue (fewer l p 0 h));
      one_hung = λ l p h. k.one_hung l p (rw queue (fewer l p 1 h));
      in_range = λ l p stage h. k.in_range l p stage (rw queue (fewer l p stage h));
    })

  -- the edges after it, where its map page was written
  module _ (late : r.stage ≢ 0) (x : Applies lay m n r before after) (a b : ℕ) where
    ready_back : ready.world.live a b ≡ true → m.world.live a b ≡ true
    ready_back = edge_cases (λ w. w.live a b ≡ true → m.world.live a b ≡ true) r.stage M K begun (λ z. absurd (late z)) (λ o h. h) (λ h. h)

    clears_back : (c : Moment) → Clears lay r.page x.count ready c → c.world.live a b ≡ true → (m.world.live a b ≡ true) ⊎ ((a ≡ F) × (b ≡ K))
    clears_back c (NothingToClear h e) l = inl (ready_back (sym (ap (λ z. z.world.live a b) e) ∙ l))
    clears_back c (ClearsUnborn d print z some born sets e) l = inl (ready_back (sym (ap (λ z. z.world.live a b) e) ∙ l))
    clears_back c (ClearsLast d print z some born sets e) l = elim (some_edge (touched F ready.world) F K a b (sym (ap (λ z. z.world.live a b) e) ∙ l)) [ inl was ↦ inl (ready_back was) | inr new ↦ inr new ]

    applies_back : n.world.live a b ≡ true → (m.world.live a b ≡ true) ⊎ ((a ≡ F) × (b ≡ K))
    applies_back l = elim x.gives_up [
      | StaysThere e ↦ clears_back x.cleared x.clears (sym (ap (λ z. z.world.live a b) e) ∙ l)
      | GivenUp z none e ↦ clears_back x.cleared x.clears (and_parts _ _ (sym (ap (λ z. z.world.live a b) e) ∙ l)).0
    ]

pub in_range : (lay : Layout) (w : World) → IsOrdered lay w → InRange lay w.queue
in_range lay w k r is = k.in_range r.block r.page r.stage (member_queued r w.queue is)

module _ (lay : Layout) (apart : Apart lay) where
  pub pass_order : (m n : Moment) (kept todo : List Release) → IsOrdered lay m.world → m.world.queue ≡ kept ++ todo → SmallPass lay m kept todo n → IsOrdered lay n.world
  pass_order m n kept [] k queue p = subst (λ z. IsOrdered lay z.world) (sym p) k
  pass_order m n kept (r ∷ todo) k queue (inl p) = pass_order m n (kept ++ r ∷ []) todo k (queue ∙ sym (append_one kept todo r)) p.1
  pass_order m n kept (r ∷ todo) k queue (inr p) =
      pass_order p.0 n kept todo (elim p.1 [ inl x ↦ applies_order lay apart m p.0 r kept todo k queue x | inr x ↦ leaves_order lay apart m p.0 r kept todo k queue x ])
      (out_queue lay apart m p.0 r kept todo (range lay apart m p.0 r kept todo k queue).1 p.1) p.2

  -- where each edge leads from a print page to a count page, and no map page waits, each release leaves
  none_blocked : (m : Moment) (r : Release) → IsData lay r.page → r.stage ≢ 0 → ((a b : ℕ) → m.world.live a b ≡ true → IsPrint lay a × IsCount lay b)
      → IsBlocked lay (known_at lay m) m.world r → ⊥
  none_blocked m r d late edges (inl z) = late z.0
  none_blocked m r d late edges (inr f) = elim f.1 [
    | inl e ↦ apart.count_print r.page r.page d d (sym e)
    | inr way ↦ let q = way_begins way in let from = (edges _ _ q.1).0 in apart.count_print r.page from.0 d from.1 from.2
  ]

  pub pass_empties : (m n : Moment) (todo : List Release) → InRange lay todo → m.world.queue ≡ todo → ((r : Release) → Member r todo → r.stage ≢ 0)
      → ((a b : ℕ) → m.world.live a b ≡ true → IsPrint lay a × IsCount lay b) → SmallPass lay m [] todo n → n.world.queue ≡ []
  pass_empties m n [] fits queue late edges p = ap (λ z. z.world.queue) p ∙ queue
  pass_empties m n (r ∷ todo) fits queue late edges (inl p) = absurd (none_blocked m r (fits r (inl refl)).1 (late r (inl refl)) edges p.0)
  pass_empties m n (r ∷ todo) fits queue late edges (inr p) =
      let d = (fits r (inl refl)).1 in
      pass_empties p.0 n todo (λ x is. fits x (inr is)) (out_queue lay apart m p.0 r [] todo d p.1) (λ x is. late x (inr is))
      (λ a b h. elim p.1 [
        | inr x ↦ edges a b (sym (ap (λ z. z.world.live a b) x.is) ∙ h)
        | inl x ↦ elim (applies_back lay apart m p.0 r [] todo (late r (inl refl)) x a b h) [
          | inl was ↦ edges a b was
          | inr new ↦ ((r.page, d, new.0), (r.page, d, new.1))
        ]
      ]) p.2

  pub clean_pass : (m n : Moment) → IsOrdered lay m.world → ((a : ℕ) → m.world.dirty a ≡ false) → SmallPass lay m [] m.world.queue n → n.world.queue ≡ []
  clean_pass m n k clean p = pass_empties m n m.world.queue (in_range lay m.world k) refl
      (λ r is z. true≢false (sym (k.zero_dirty r.block r.page (subst (λ s. Queued m.world.queue r.block r.page s) z (member_queued r m.world.queue is))) ∙ clean _))
      (λ a b h. absurd (true≢false (sym (k.live_before a b h) ∙ clean a))) p

-- a drain
module _ (lay : Layout) where
  step_order : (m n : Moment) → IsOrdered lay m.world → AnyStep lay m n → IsOrdered lay n.world
  step_order m n k (AnyWritten page e) = subst (λ z. IsOrdered lay z.world) (sym e) (write_order lay m.world k page)
  step_order m n k (AnyTaken page e) = subst (λ z. IsOrdered lay z.world) (sym e) (take_order lay m.world k page)
  step_order m n k (AnyRefused page e) = subst (λ z. IsOrdered lay z.world) (sym e) k
  step_order m n k (AnyFixed e) = subst (λ z. IsOrdered lay z.world) (sym e) (barrier_order lay m.world k)

  pub run_order : (m : Moment) (ns : List Moment) → IsOrdered lay m.world → AnyRun lay m ns → IsOrdered lay (last_of m ns).world
  run_order m [] k r = k
  run_order m (n ∷ ns) k r = run_order n ns (step_order m n k r.0) r.1

  step_empty : (m n : Moment) → m.world.queue ≡ [] → AnyStep lay m n → n.world.queue ≡ []
  step_empty m n none (AnyWritten page e) = ap (λ z. z.world.queue) e ∙ ap (map (written_release lay page)) none
  step_empty m n none (AnyTaken page e) = ap (λ z. z.world.queue) e ∙ none
  step_empty m n none (AnyRefused page e) = ap (λ z. z.world.queue) e ∙ none
  step_empty m n none (AnyFixed e) = ap (λ z. z.world.queue) e ∙ ap (map fixed_release) none

  run_empty : (m : Moment) (ns : List Moment) → m.world.queue ≡ [] → AnyRun lay m ns → (last_of m ns).world.queue ≡ []
  run_empty m [] none r = none
  run_empty m (n ∷ ns) none r = run_empty n ns (step_empty m n none r.0) r.1

  pub any_drained : Apart lay → (m n o : Moment) (ns : List Moment) → IsOrdered lay m.world → ((a : ℕ) → m.world.dirty a ≡ false) → SmallPass lay m [] m.world.queue n → AnyRun lay n ns
      → NoNode (last_of n ns) → SmallPass lay (last_of n ns) [] (last_of n ns).world.queue o → NoNode o × (o.world.queue ≡ [])
  any_drained apart m n o ns k clean first run done second =
      let none = run_empty n ns (clean_pass lay apart m n k clean first) run in
      let same : o ≡ last_of n ns = subst (λ rs. SmallPass lay (last_of n ns) [] rs o) none second in
      ((λ a. (ap (λ y. y.world.dirty a) same ∙ (done a).0, ap (λ y. y.world.hung a) same ∙ (done a).1)), ap (λ y. y.world.queue) same ∙ none)
