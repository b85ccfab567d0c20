-- Edits that leave the names, the prints and the queue: a page is touched, a fresh page gets its content, a count is raised, an edge is added.
use Rattle.std.proofs.Common.{◌≡◌, ◌≢◌, ◌⊎◌, inl, inr, ◌+◌, ◌<◌, ◌≤◌, ℕ, Bool, true, false, not, ◌||◌, ◌&&◌, cond, arith, refl, sym, ap, ◌∙◌, subst, List, eqb, eq-eqb, ne_eqb, eqb-true, true≢false}
use Rattle.std.proofs.lemmas.Bool.{cases_Bool, cases_eq, or_left, or_right, or_cases, and_parts, and_from, not_from_false}
use Rattle.std.proofs.Math.Bool.{or-false}
use Rattle.order_model.specs.World.{Layout, Release, World, IsData}
use Rattle.engine_model.specs.Entries.{Apart, EdgeKind, HasEdge, IsTable, cached_count}
use Rattle.order_model.specs.Paths.{IsAcyclic, Closes}
use Rattle.engine_model.specs.Known.{Free}
use Rattle.order_model.specs.Pool.{Told, after_take}
use Rattle.engine_model.specs.Invariant.{EngineInvariant, Moment, ToldPool, ToldTake}
use Rattle.engine_model.specs.Edits.{CacheOnly, ContentEdits, Grown}
use Rattle.engine_model.specs.SmallSteps.{CanRaise, ordered, ordered_after, ordered_by_barrier, placed, put, touched}
use Rattle.engine_model.proofs.Grown.{grown_edits}
use Rattle.engine_model.proofs.Graphs.{acyclic_more}
use Rattle.engine_model.proofs.Whole.{edits_keep_all, nothing_told, pool_untold}

-- what a grown state leaves of the contents
record Quiet (lay : Layout) (w v : World) : Type 0 where
  dirty_fresh : (q : ℕ) → IsData lay q → v.dirty (lay.data_page q) ≡ true → (w.dirty (lay.data_page q) ≡ true) ⊎ Free lay w q
  cached : (q : ℕ) → IsData lay q → (v.cached (lay.data_page q) ≡ w.cached (lay.data_page q)) ⊎ (Free lay w q × (v.dirty (lay.data_page q) ≡ true))
  count_risen : (q : ℕ) → IsData lay q → 0 < cached_count lay v q → (0 < cached_count lay w q) ⊎ (v.dirty (lay.data_page q) ≡ true)
  well_formed : (page : ℕ) → IsTable lay page → lay.well_formed page (v.cached page) ≡ true
  first_page : (v.dirty 0 ≡ false) × (v.cached 0 ≡ w.cached 0)

module _ (lay : Layout) (top : ℕ) (sound : Bool) (m : Moment) (v : World) (pool : ℕ → Told) (k : EngineInvariant lay top sound m)
    (g : Grown lay top m.world v) (x : Quiet lay m.world v) where
  quiet_contents : ContentEdits lay sound m.array m.array m.world v
  quiet_contents = record {
    rest = g.rest;
    dirty_fresh = x.dirty_fresh;
    cached = x.cached;
    name_gained = λ l p lt d h. inl (sym (g.names l lt) ∙ h);
    print_gained = λ p print d h. inl (sym (g.prints p d) ∙ h);
    count_risen = x.count_risen;
    blocks = λ l lt. inl (g.names l lt, refl);
    well_formed = x.well_formed;
    first_page = x.first_page;
  }

  quiet_keeps : ToldPool lay m (record m { world = v; pool = pool }) → EngineInvariant lay top sound (record m { world = v; pool = pool })
  quiet_keeps told = edits_keep_all lay top sound m (record m { world = v; pool = pool }) k (grown_edits lay top m.world v k.counts g) quiet_contents
      (nothing_told lay m (record m { world = v; pool = pool }) refl g.names g.prints) told

-- pages of tables
pub map_table : (lay : Layout) (l : ℕ) → l < lay.blocks → IsTable lay (lay.map_page l)
map_table lay l lt = inl (l, lt, refl)

pub count_table : (lay : Layout) (p : ℕ) → IsData lay p → IsTable lay (lay.count_page p)
count_table lay p d = inr (p, d, inl refl)

pub print_table : (lay : Layout) (p : ℕ) → IsData lay p → IsTable lay (lay.print_page p)
print_table lay p d = inr (p, d, inr refl)

pub data_off : (lay : Layout) (page q : ℕ) → Apart lay → IsTable lay page → IsData lay q → lay.data_page q ≢ page
data_off lay page q apart t d e = apart.table_data page q t d (sym e)

-- the moves, at their page and at another
pub touched_here : (w : World) (page : ℕ) → (touched page w).dirty page ≡ true
touched_here w page = or_right (w.dirty page) (eqb page page) (eq-eqb page page refl)

pub touched_other : (w : World) (page a : ℕ) → a ≢ page → (touched page w).dirty a ≡ w.dirty a
touched_other w page a ne = rw (ne_eqb a page ne) (or-false (w.dirty a))

pub put_here : (w : World) (page : ℕ) (c : List ℕ) → (put page c w).cached page ≡ c
put_here w page c = rw (eq-eqb page page refl)

pub put_other : (w : World) (page : ℕ) (c : List ℕ) (a : ℕ) → a ≢ page → (put page c w).cached a ≡ w.cached a
put_other w page c a ne = rw (ne_eqb a page ne)

-- a content of a dirty page
pub put_rest : (lay : Layout) (w : World) (page : ℕ) (c : List ℕ) → w.dirty page ≡ true → CacheOnly lay w (put page c w)
put_rest lay w page c dirty = record {
  newest = λ a. refl;
  possible = λ a d q. q;
  cached_clean = λ a t off. put_other w page c a (λ e. true≢false (sym (ap w.dirty e ∙ dirty) ∙ off));
  hung = λ a. refl;
  dirty_kept = λ a h. h;
  live_kept = λ a b h. h;
  barred_kept = λ a b h. h;
  live_ends = λ a b h. inl h;
  barred_ends = λ a b h. inl h;
}

-- and another queue beside
pub queue_rest : (lay : Layout) (w v : World) (queue : List Release) → CacheOnly lay w v → CacheOnly lay w (record v { queue = queue })
queue_rest lay w v queue r = record {
  newest = r.newest;
  possible = r.possible;
  cached_clean = r.cached_clean;
  hung = r.hung;
  dirty_kept = r.dirty_kept;
  live_kept = r.live_kept;
  barred_kept = r.barred_kept;
  live_ends = r.live_ends;
  barred_ends = r.barred_ends;
}

-- a content of a table page is well formed, and so are the others
pub put_formed : (lay : Layout) (w : World) (page : ℕ) (c : List ℕ) → lay.well_formed page c ≡ true → ((a : ℕ) → IsTable lay a → lay.well_formed a (w.cached a) ≡ true)
    → (a : ℕ) → IsTable lay a → lay.well_formed a ((put page c w).cached a) ≡ true
put_formed lay w page c here was a t = elim (cases_eq a page) [
  | inl e ↦ subst (λ x. lay.well_formed x ((put page c w).cached x) ≡ true) (sym e) (subst (λ y. lay.well_formed page y ≡ true) (sym (put_here w page c)) here)
  | inr ne ↦ rw (put_other w page c a ne) (was a t)
]

pub some_edge : (w : World) (before after a b : ℕ) → (w.live a b || (eqb a before && eqb b after)) ≡ true → (w.live a b ≡ true) ⊎ ((a ≡ before) × (b ≡ after))
some_edge w before after a b h = elim (or_cases _ _ h) [ inl was ↦ inl was | inr new ↦ let q = and_parts _ _ new in inr (eqb-true a before q.0, eqb-true b after q.1) ]

pub some_barred : (w : World) (before after a b : ℕ) → (w.barred a b || (eqb a before && eqb b after)) ≡ true → (w.barred a b ≡ true) ⊎ ((a ≡ before) × (b ≡ after))
some_barred w before after a b h = elim (or_cases _ _ h) [ inl was ↦ inl was | inr new ↦ let q = and_parts _ _ new in inr (eqb-true a before q.0, eqb-true b after q.1) ]

module _ (lay : Layout) (top : ℕ) (sound : Bool) (apart : Apart lay) (m : Moment) (k : EngineInvariant lay top sound m) where
  abbrev w : World
  w = m.world

  same_pool : (v : World) → ((q : ℕ) → IsData lay q → cached_count lay v q ≡ cached_count lay w q) → ToldPool lay m (record m { world = v })
  same_pool v counts = pool_untold lay top sound m (record m { world = v }) k (λ q. refl) counts

  still_counted : (q : ℕ) → IsData lay q → (cached_count lay w q ≤ cached_count lay w q) × (cached_count lay w q ≤ top)
  still_counted q d = (omega arith, (k.counts.count_balance q d).in_range)

  pub touched_keeps : (page : ℕ) → IsTable lay page → EngineInvariant lay top sound (record m { world = touched page m.world })
  touched_keeps page is = quiet_keeps lay top sound m (touched page w) m.pool k (record {
    rest = record {
      newest = λ a. refl;
      possible = λ a c q. q;
      cached_clean = λ a t off. refl;
      hung = λ a. refl;
      dirty_kept = λ a h. or_left (w.dirty a) (eqb a page) h;
      live_kept = λ a b h. h;
      barred_kept = λ a b h. h;
      live_ends = λ a b h. inl h;
      barred_ends = λ a b h. inl h;
    };
    kinds = λ a b h. inl h;
    acyclic = k.counts.marks_and_edges.acyclic;
    queue = refl;
    names = λ l lt. refl;
    prints = λ q d. refl;
    counts = still_counted;
  }) (record {
    dirty_fresh = λ q d h. inl (sym (touched_other w page (lay.data_page q) (λ e. apart.table_data page q is d (sym e))) ∙ h);
    cached = λ q d. inl refl;
    count_risen = λ q d h. inl h;
    well_formed = k.contents.well_formed.cached;
    first_page = (touched_other w page 0 (λ e. apart.first_table page is (sym e)) ∙ k.contents.first_page.clean, refl);
  }) (same_pool (touched page w) (λ q d. refl))

  -- an edge leaves all but itself
  module _ (v : World) (rest : CacheOnly lay w v) (kinds : (a b : ℕ) → HasEdge v a b → HasEdge w a b ⊎ EdgeKind lay a b) (acyclic : IsAcyclic v.live)
      (queue : v.queue ≡ w.queue) (cached : (a : ℕ) → v.cached a ≡ w.cached a) (dirty : (a : ℕ) → v.dirty a ≡ w.dirty a) where
    edge_keeps : EngineInvariant lay top sound (record m { world = v })
    edge_keeps =
        let count : (q : ℕ) → cached_count lay v q ≡ cached_count lay w q = λ q. ap (λ c. lay.count_in c q) (cached _) in
        quiet_keeps lay top sound m v m.pool k (record {
          rest = rest;
          kinds = kinds;
          acyclic = acyclic;
          queue = queue;
          names = λ l lt. ap (λ c. lay.name_in c l) (cached _);
          prints = λ q d. ap (λ c. lay.print_in c q) (cached _);
          counts = λ q d. let same = count q in let was = (k.counts.count_balance q d).in_range in (omega arith, omega arith);
        }) (record {
          dirty_fresh = λ q d h. inl (sym (dirty _) ∙ h);
          cached = λ q d. inl (cached _);
          count_risen = λ q d h. inl (subst (λ n. 0 < n) (count q) h);
          well_formed = λ a t. ap (lay.well_formed a) (cached a) ∙ k.contents.well_formed.cached a t;
          first_page = (dirty 0 ∙ k.contents.first_page.clean, cached 0);
        }) (same_pool v (λ q d. count q))

  module _ (before after : ℕ) (kind : EdgeKind lay before after) (dirty : w.dirty after ≡ true) where
    pub ordered_keeps : w.dirty before ≡ true → (Closes w.live before after → ⊥) → EngineInvariant lay top sound (record m { world = ordered before after m.world })
    ordered_keeps first no_cycle = edge_keeps (ordered before after w) (record {
      newest = λ a. refl;
      possible = λ a c q. q;
      cached_clean = λ a t off. refl;
      hung = λ a. refl;
      dirty_kept = λ a h. h;
      live_kept = λ a b h. or_left _ _ h;
      barred_kept = λ a b h. h;
      live_ends = λ a b h. elim (some_edge w before after a b h) [ inl was ↦ inl was | inr new ↦ inr (ap w.dirty new.0 ∙ first, ap w.dirty new.1 ∙ dirty) ];
      barred_ends = λ a b h. inl h;
    })
        (λ a b h. elim h [
          | inl l ↦ elim (some_edge w before after a b l) [ inl was ↦ inl (inl was) | inr new ↦ inr (subst (λ y. EdgeKind lay a y) (sym new.1) (subst (λ x. EdgeKind lay x after) (sym new.0) kind)) ]
          | inr r ↦ inl (inr r)
        ])
        (acyclic_more w.live (ordered before after w).live (λ a b. (a ≡ before) × (b ≡ after)) (some_edge w before after) k.counts.marks_and_edges.acyclic
        (λ a b x y n o h. no_cycle (subst (λ z. Closes w.live before z) o.1 (subst (λ z. Closes w.live z y) n.0 h))))
        refl (λ a. refl) (λ a. refl)

    pub barred_keeps : w.hung before ≡ true → EngineInvariant lay top sound (record m { world = ordered_by_barrier before after m.world })
    barred_keeps first = edge_keeps (ordered_by_barrier before after w) (record {
      newest = λ a. refl;
      possible = λ a c q. q;
      cached_clean = λ a t off. refl;
      hung = λ a. refl;
      dirty_kept = λ a h. h;
      live_kept = λ a b h. h;
      barred_kept = λ a b h. or_left _ _ h;
      live_ends = λ a b h. inl h;
      barred_ends = λ a b h. elim (some_barred w before after a b h) [ inl was ↦ inl was | inr new ↦ inr (ap w.hung new.0 ∙ first, ap w.dirty new.1 ∙ dirty) ];
    })
        (λ a b h. elim h [
          | inl l ↦ inl (inl l)
          | inr r ↦ elim (some_barred w before after a b r) [ inl was ↦ inl (inr was) | inr new ↦ inr (subst (λ y. EdgeKind lay a y) (sym new.1) (subst (λ x. EdgeKind lay x after) (sym new.0) kind)) ]
        ])
        k.counts.marks_and_edges.acyclic refl (λ a. refl) (λ a. refl)

    abbrev in_world : World → Type 0
    in_world v = EngineInvariant lay top sound (record m { world = v })

    barred_or_same : in_world (cond (w.hung before) (ordered_by_barrier before after w) w)
    barred_or_same = elim (cases_Bool (w.hung before)) [
      | inl is ↦ subst in_world (sym (ap (λ b. cond b (ordered_by_barrier before after w) w) is)) (barred_keeps is)
      | inr none ↦ subst in_world (sym (ap (λ b. cond b (ordered_by_barrier before after w) w) none)) k
    ]

    pub either_keeps : (w.dirty before ≡ true → Closes w.live before after → ⊥) → EngineInvariant lay top sound (record m { world = ordered_after before after m.world })
    either_keeps no_cycle = elim (cases_Bool (w.dirty before)) [
      | inl is ↦ subst in_world (sym (ap (λ b. cond b (ordered before after w) (cond (w.hung before) (ordered_by_barrier before after w) w)) is)) (ordered_keeps is (no_cycle is))
      | inr off ↦ subst in_world (sym (ap (λ b. cond b (ordered before after w) (cond (w.hung before) (ordered_by_barrier before after w) w)) off)) barred_or_same
    ]

  -- a fresh data page gets its content
  module _ (p : ℕ) (content : List ℕ) (is : IsData lay p) (free : Free lay w p) where
    abbrev fresh : World
    fresh = placed (lay.data_page p) content w

    table_kept : (a : ℕ) → IsTable lay a → fresh.cached a ≡ w.cached a
    table_kept a t = put_other (touched (lay.data_page p) w) (lay.data_page p) content a (apart.table_data a p t is)

    fresh_count : (q : ℕ) → IsData lay q → cached_count lay fresh q ≡ cached_count lay w q
    fresh_count q d = ap (λ c. lay.count_in c q) (table_kept (lay.count_page q) (count_table lay q d))

    pub placed_keeps : EngineInvariant lay top sound (record m { world = placed (lay.data_page p) content m.world })
    placed_keeps = quiet_keeps lay top sound m fresh m.pool k (record {
      rest = record {
        newest = λ a. refl;
        possible = λ a c q. q;
        cached_clean = λ a t off. table_kept a t;
        hung = λ a. refl;
        dirty_kept = λ a h. or_left (w.dirty a) (eqb a (lay.data_page p)) h;
        live_kept = λ a b h. h;
        barred_kept = λ a b h. h;
        live_ends = λ a b h. inl h;
        barred_ends = λ a b h. inl h;
      };
      kinds = λ a b h. inl h;
      acyclic = k.counts.marks_and_edges.acyclic;
      queue = refl;
      names = λ l lt. ap (λ c. lay.name_in c l) (table_kept (lay.map_page l) (map_table lay l lt));
      prints = λ q d. ap (λ c. lay.print_in c q) (table_kept (lay.print_page q) (print_table lay q d));
      counts = λ q d. let same = fresh_count q d in let was = (k.counts.count_balance q d).in_range in (omega arith, omega arith);
    }) (record {
      dirty_fresh = λ q d h. elim (cases_eq q p) [
        | inl e ↦ inr (subst (λ x. Free lay w x) (sym e) free)
        | inr ne ↦ inl (sym (touched_other w (lay.data_page p) (lay.data_page q) (apart.data_data q p d is ne)) ∙ h)
      ];
      cached = λ q d. elim (cases_eq q p) [
        | inl e ↦ inr (subst (λ x. Free lay w x) (sym e) free, ap (λ x. fresh.dirty (lay.data_page x)) e ∙ touched_here w (lay.data_page p))
        | inr ne ↦ inl (put_other (touched (lay.data_page p) w) (lay.data_page p) content (lay.data_page q) (apart.data_data q p d is ne))
      ];
      count_risen = λ q d h. inl (subst (λ n. 0 < n) (fresh_count q d) h);
      well_formed = λ a t. ap (lay.well_formed a) (table_kept a t) ∙ k.contents.well_formed.cached a t;
      first_page = (
        touched_other w (lay.data_page p) 0 (λ e. apart.first_data p is (sym e)) ∙ k.contents.first_page.clean,
        put_other (touched (lay.data_page p) w) (lay.data_page p) content 0 (λ e. apart.first_data p is (sym e)),
      );
    }) (same_pool fresh fresh_count)

  -- a count is one higher
  module _ (p : ℕ) (c : List ℕ) (can : CanRaise lay top w p c) where
    abbrev raised : World
    raised = put (lay.count_page p) c w

    raised_here : cached_count lay raised p ≡ cached_count lay w p + 1
    raised_here = ap (λ x. lay.count_in x p) (put_here w (lay.count_page p) c) ∙ can.sets.here

    raised_other : (q : ℕ) → IsData lay q → q ≢ p → cached_count lay raised q ≡ cached_count lay w q
    raised_other q d ne = elim (cases_eq (lay.count_page q) (lay.count_page p)) [
      | inl e ↦ ap (λ x. lay.count_in (raised.cached x) q) e ∙ ap (λ x. lay.count_in x q) (put_here w (lay.count_page p) c) ∙ can.sets.other q d ne e
          ∙ ap (λ x. lay.count_in (w.cached x) q) (sym e)
      | inr off ↦ ap (λ x. lay.count_in x q) (put_other w (lay.count_page p) c (lay.count_page q) off)
    ]

    raised_pool : (pool : ℕ → Told) → ToldTake lay p m (record m { world = raised; pool = pool }) → ToldPool lay m (record m { world = raised; pool = pool })
    raised_pool pool (inl fresh) = record {
      zero = λ q d h. let zero : (after_take p m.pool q).zero ≡ true = sym (ap (λ t. t.zero) (fresh.1 q)) ∙ h in elim (cases_eq q p) [
        | inl e ↦ absurd (true≢false (sym (and_parts _ _ zero).0 ∙ ap not (eq-eqb p q (sym e))))
        | inr ne ↦ raised_other q d ne ∙ (k.pool_knows_counts q d).zero (and_parts _ _ zero).1
      ];
      above = λ q d h. ap (λ t. t.zero) (fresh.1 q) ∙ elim (cases_eq q p) [
        | inl e ↦ absurd (let more : cached_count lay raised q ≡ cached_count lay w q + 1 = subst (λ x. cached_count lay raised x ≡ cached_count lay w x + 1) (sym e) raised_here in omega arith)
        | inr ne ↦ and_from _ _ (not_from_false _ (ne_eqb p q (λ e. ne (sym e)))) ((k.pool_knows_counts q d).above (sym (raised_other q d ne) ∙ h))
      ];
      tried = λ q d. ap (λ t. t.tried) (fresh.1 q);
      newest = λ q d. ap (λ t. t.newest) (fresh.1 q);
    }
    raised_pool pool (inr was) = record {
      zero = λ q d h. let zero = (k.pool_knows_counts q d).zero (sym (ap (λ t. t.zero) (was.1 q)) ∙ h) in elim (cases_eq q p) [
        | inl e ↦ absurd (let pos : 0 < cached_count lay w q = subst (λ x. 0 < cached_count lay w x) (sym e) was.0 in omega arith)
        | inr ne ↦ raised_other q d ne ∙ zero
      ];
      above = λ q d h. ap (λ t. t.zero) (was.1 q) ∙ elim (cases_eq q p) [
        | inl e ↦ absurd (let more : cached_count lay raised q ≡ cached_count lay w q + 1 = subst (λ x. cached_count lay raised x ≡ cached_count lay w x + 1) (sym e) raised_here in omega arith)
        | inr ne ↦ (k.pool_knows_counts q d).above (sym (raised_other q d ne) ∙ h)
      ];
      tried = λ q d. ap (λ t. t.tried) (was.1 q);
      newest = λ q d. ap (λ t. t.newest) (was.1 q);
    }

    pub raised_keeps : (pool : ℕ → Told) → ToldTake lay p m (record m { world = raised; pool = pool }) → EngineInvariant lay top sound (record m { world = put (lay.count_page p) c m.world; pool = pool })
    raised_keeps pool told = quiet_keeps lay top sound m raised pool k (record {
      rest = put_rest lay w (lay.count_page p) c can.dirty;
      kinds = λ a b h. inl h;
      acyclic = k.counts.marks_and_edges.acyclic;
      queue = refl;
      names = λ l lt. ap (λ x. lay.name_in x l) (put_other w (lay.count_page p) c (lay.map_page l) (apart.map_count l p lt can.is_data));
      prints = λ q d. ap (λ x. lay.print_in x q) (put_other w (lay.count_page p) c (lay.print_page q) (λ e. apart.count_print p q can.is_data d (sym e)));
      counts = λ q d. let was = (k.counts.count_balance q d).in_range in elim (cases_eq q p) [
        | inl e ↦
            let more : cached_count lay raised q ≡ cached_count lay w q + 1 = subst (λ x. cached_count lay raised x ≡ cached_count lay w x + 1) (sym e) raised_here in
            let room : cached_count lay w q < top = subst (λ x. cached_count lay w x < top) (sym e) can.below_top in
            (omega arith, omega arith)
        | inr ne ↦ let same = raised_other q d ne in (omega arith, omega arith)
      ];
    }) (record {
      dirty_fresh = λ q d h. inl h;
      cached = λ q d. inl (put_other w (lay.count_page p) c (lay.data_page q) (λ e. apart.table_data (lay.count_page p) q (count_table lay p can.is_data) d (sym e)));
      count_risen = λ q d h. elim (cases_eq q p) [
        | inl e ↦ subst (λ x. (0 < cached_count lay w x) ⊎ (w.dirty (lay.data_page x) ≡ true)) (sym e) can.counted_or_fresh
        | inr ne ↦ inl (subst (λ x. 0 < x) (raised_other q d ne) h)
      ];
      well_formed = put_formed lay w (lay.count_page p) c can.sets.formed k.contents.well_formed.cached;
      first_page = (k.contents.first_page.clean, put_other w (lay.count_page p) c 0 (λ e. apart.first_table (lay.count_page p) (count_table lay p can.is_data) (sym e)));
    }) (raised_pool pool told)
