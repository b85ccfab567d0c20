-- The small steps of an applied release are the big one.
use Rattle.std.proofs.Common.{◌≡◌, ◌≢◌, ◌⊎◌, inl, inr, ◌+◌, ◌<◌, ℕ, Bool, true, false, ◌&&◌, arith, refl, sym, ap, ◌∙◌, subst, List, [], ◌∷◌, ◌++◌, Some, None, true≢false, eqb, eq-eqb}
use Rattle.std.proofs.lemmas.Bool.{cases_eq, or_left, or_right, and_from}
use Rattle.order_model.specs.World.{Agree, IsData, Layout, Queued, Release, World}
use Rattle.order_model.specs.Contents.{IsAmong}
use Rattle.order_model.specs.Calls.{Change}
use Rattle.engine_model.specs.Births.{IsSlot, Leads, cached_value, has_print}
use Rattle.order_model.specs.declared.Slot.TheVariants.{Name, Print}
use Rattle.order_model.specs.declared.Slot.{Slot}
use Rattle.engine_model.specs.Commands.{DataKept}
use Rattle.engine_model.specs.DeviceSteps.{Same}
use Rattle.engine_model.specs.Drops.{Dropped}
use Rattle.engine_model.specs.Edits.{CacheOnly}
use Rattle.engine_model.specs.Entries.{Apart, IsTable, cached_count, cached_name, cached_print}
use Rattle.engine_model.specs.Invariant.{EngineInvariant, Moment, ToldBirths, ToldZero, known_at}
use Rattle.engine_model.specs.Pass.{Drops, Lowers, Pass}
use Rattle.order_model.specs.Pool.{Told, after_zeroed}
use Rattle.engine_model.specs.Pool.{PoolExact}
use Rattle.engine_model.specs.Releases.{Applied, IsLastPrint, NeededBarrier, NeededEdge}
use Rattle.engine_model.specs.Schedule.{DeviceRun, NoNode, last_of}
use Rattle.engine_model.specs.SmallRuns.{in_state, with_release_out}
use Rattle.engine_model.specs.SmallSteps.{touched}
use Rattle.engine_model.proofs.Frames.{ToldNothing, lowered_told}
use Rattle.engine_model.proofs.PoolExact.{edited_exact}
use Rattle.engine_model.proofs.TellsBirths.{print_told}
use Rattle.engine_model.proofs.Views.{none_some}
use Rattle.engine_model.proofs.GivenUp.{given_up_is}
use Rattle.engine_model.proofs.Passes.{append_one, drained_twice}
use Rattle.engine_model.proofs.Queues.{middle}
use Rattle.engine_model.proofs.Same.{same_self}
use Rattle.engine_model.proofs.Quiet.{count_table, data_off, print_table, put_here, put_other, some_barred, some_edge, touched_here, touched_other}
use Rattle.engine_model.specs.SmallPass.{Applies, Clears, ClearsLast, ClearsUnborn, GivenUp, GivesUp, NothingToClear, SmallPass, StaysThere, map_edge, readied}
use Rattle.engine_model.proofs.AppliedFrames.{clears_barred, clears_cached, clears_dirty, clears_live, clears_none, clears_print, edge_by, edge_cases, ready_cached, ready_live}
use Rattle.engine_model.proofs.PassKeeps.{applies_keeps, no_leaves, out_keeps}
use Rattle.engine_model.proofs.StaysBlocked.{out_queue}

-- what no step of an applied release changes before the release is taken out
record Rest : Type 0 where
  newest : ℕ → List ℕ
  older : ℕ → List (List ℕ)
  hung : ℕ → Bool
  array : ℕ → List (List ℕ)
  pool : ℕ → Told

abbrev rest_of : Moment → Rest
rest_of m = record { newest = m.world.newest; older = m.world.older; hung = m.world.hung; array = m.array; pool = m.pool }

module _ (lay : Layout) (top : ℕ) (sound : Bool) (apart : Apart lay) (m n : Moment) (r : Release) (before after : List Release) (k : EngineInvariant lay top sound m)
    (queue : m.world.queue ≡ before ++ r ∷ after) (x : Applies lay m n r before after) where
  abbrev K : ℕ
  K = lay.count_page r.page

  abbrev M : ℕ
  M = lay.map_page r.block

  abbrev F : ℕ
  F = lay.print_page r.page

  abbrev begun : World
  begun = touched K m.world

  abbrev ready : Moment
  ready = in_state (readied lay r m.world) m

  abbrev out : Moment
  out = with_release_out lay r.page x.content (before ++ after) x.pool x.cleared

  kept_out : EngineInvariant lay top sound out
  kept_out = out_keeps lay top sound apart m n r before after k queue x

  range : (r.block < lay.blocks) × IsData lay r.page
  range = k.counts.lost_name_owes_release.in_range r.block r.page r.stage (rw queue (middle before after r))

  ready_rest : rest_of ready ≡ rest_of m
  ready_rest = edge_by (λ w. rest_of (in_state w m) ≡ rest_of m) r.stage M K begun refl refl refl

  clears_rest : (c : Moment) → Clears lay r.page x.count ready c → rest_of c ≡ rest_of ready
  clears_rest c (NothingToClear h e) = ap rest_of e
  clears_rest c (ClearsUnborn d print z some born sets e) = ap rest_of e
  clears_rest c (ClearsLast d print z some born sets e) = ap rest_of e

  rest : rest_of x.cleared ≡ rest_of m
  rest = clears_rest x.cleared x.clears ∙ ready_rest

  -- marks
  ready_dirty : (a : ℕ) → ready.world.dirty a ≡ begun.dirty a
  ready_dirty a = edge_by (λ w. w.dirty a ≡ begun.dirty a) r.stage M K begun refl refl refl

  dirty_kept : (a : ℕ) → m.world.dirty a ≡ true → out.world.dirty a ≡ true
  dirty_kept a h = clears_dirty lay r.page x.count ready x.cleared x.clears a (ready_dirty a ∙ or_left _ _ h)

  count_dirty : out.world.dirty K ≡ true
  count_dirty = clears_dirty lay r.page x.count ready x.cleared x.clears K (ready_dirty K ∙ touched_here m.world K)

  clears_other : (c : Moment) → Clears lay r.page x.count ready c → (a : ℕ) → a ≢ F → c.world.dirty a ≡ ready.world.dirty a
  clears_other c (NothingToClear h e) a ne = ap (λ z. z.world.dirty a) e
  clears_other c (ClearsUnborn d print z some born sets e) a ne = ap (λ z. z.world.dirty a) e ∙ touched_other ready.world F a ne
  clears_other c (ClearsLast d print z some born sets e) a ne = ap (λ z. z.world.dirty a) e ∙ touched_other ready.world F a ne

  -- the print page is dirty, or it is cached as it was
  clears_page : (c : Moment) → Clears lay r.page x.count ready c → (c.world.dirty F ≡ true) ⊎ (c.world.cached F ≡ ready.world.cached F)
  clears_page c (NothingToClear h e) = inr (ap (λ z. z.world.cached F) e)
  clears_page c (ClearsUnborn d print z some born sets e) = inl (ap (λ z. z.world.dirty F) e ∙ touched_here ready.world F)
  clears_page c (ClearsLast d print z some born sets e) = inl (ap (λ z. z.world.dirty F) e ∙ touched_here ready.world F)

  cached_other : (a : ℕ) → a ≢ K → a ≢ F → out.world.cached a ≡ m.world.cached a
  cached_other a off ne = put_other x.cleared.world K x.content a off ∙ clears_cached lay r.page x.count ready x.cleared x.clears a ne ∙ ready_cached lay r m.world a

  cached_clean : (a : ℕ) → IsTable lay a → out.world.dirty a ≡ false → out.world.cached a ≡ m.world.cached a
  cached_clean a t clean = elim (cases_eq a K) [
    | inl e ↦ absurd (true≢false (sym (ap out.world.dirty e ∙ count_dirty) ∙ clean))
    | inr off ↦ elim (cases_eq a F) [
      | inr ne ↦ cached_other a off ne
      | inl e ↦ elim (clears_page x.cleared x.clears) [
        | inl dirty ↦ absurd (true≢false (sym (ap out.world.dirty e ∙ dirty) ∙ clean))
        | inr same ↦ put_other x.cleared.world K x.content a off ∙ ap x.cleared.world.cached e ∙ same ∙ ready_cached lay r m.world F ∙ ap m.world.cached (sym e)
      ]
    ]
  ]

  -- edges
  ready_back : (a b : ℕ) → ready.world.live a b ≡ true → (m.world.live a b ≡ true) ⊎ ((r.stage ≡ 0) × (a ≡ M) × (b ≡ K))
  ready_back a b = edge_cases (λ w. w.live a b ≡ true → (m.world.live a b ≡ true) ⊎ ((r.stage ≡ 0) × (a ≡ M) × (b ≡ K))) r.stage M K begun
      (λ z h. elim (some_edge m.world M K a b h) [ inl was ↦ inl was | inr new ↦ inr (z, new.0, new.1) ]) (λ o h. inl h) (λ h. inl h)

  barred_back : (a b : ℕ) → ready.world.barred a b ≡ true → (m.world.barred a b ≡ true) ⊎ ((r.stage ≡ 1) × (a ≡ M) × (b ≡ K))
  barred_back a b = edge_cases (λ w. w.barred a b ≡ true → (m.world.barred a b ≡ true) ⊎ ((r.stage ≡ 1) × (a ≡ M) × (b ≡ K))) r.stage M K begun
      (λ z h. inl h) (λ o h. elim (some_barred m.world M K a b h) [ inl was ↦ inl was | inr new ↦ inr (o, new.0, new.1) ]) (λ h. inl h)

  last : x.count ≡ 0 → (print : List ℕ) → cached_print lay ready.world r.page ≡ Some print → (known_at lay m).unborn_print r.page ≡ false → IsLastPrint lay (known_at lay m) m.world r.page
  last z print some born = ((let one = x.counted in omega arith), (print, sym (ap (λ c. lay.print_in c r.page) (ready_cached lay r m.world F)) ∙ some), born)

  clears_back : (c : Moment) → Clears lay r.page x.count ready c → (a b : ℕ) → c.world.live a b ≡ true → (m.world.live a b ≡ true) ⊎ (NeededEdge lay (known_at lay m) m.world r a b × (c.world.dirty a ≡ true))
  clears_back c y a b h = from y
    where
      old : ready.world.live a b ≡ true → (m.world.live a b ≡ true) ⊎ (NeededEdge lay (known_at lay m) m.world r a b × (c.world.dirty a ≡ true))
      old l = elim (ready_back a b l) [
        | inl was ↦ inl was
        | inr new ↦ inr (
          (inl (new.0, new.1), new.2),
          ap c.world.dirty new.1 ∙ clears_dirty lay r.page x.count ready c y M (ready_dirty M ∙ or_left _ _
              (k.counts.lost_name_owes_release.dirty r.block r.page range.0 (subst (λ s. Queued m.world.queue r.block r.page s) new.0 (rw queue (middle before after r))))),
        )
      ]

      from : Clears lay r.page x.count ready c → (m.world.live a b ≡ true) ⊎ (NeededEdge lay (known_at lay m) m.world r a b × (c.world.dirty a ≡ true))
      from (NothingToClear g e) = old (sym (ap (λ z. z.world.live a b) e) ∙ h)
      from (ClearsUnborn d print z some born sets e) = old (sym (ap (λ z. z.world.live a b) e) ∙ h)
      from (ClearsLast d print z some born sets e) = elim (some_edge (touched F ready.world) F K a b (sym (ap (λ z. z.world.live a b) e) ∙ h)) [
        | inl was ↦ old was
        | inr new ↦ inr ((inr (last z print some born, new.0), new.1), ap c.world.dirty new.0 ∙ ap (λ z. z.world.dirty F) e ∙ touched_here ready.world F)
      ]

  live_back : (a b : ℕ) → out.world.live a b ≡ true → (m.world.live a b ≡ true) ⊎ (NeededEdge lay (known_at lay m) m.world r a b × (out.world.dirty a ≡ true))
  live_back = clears_back x.cleared x.clears

  bar_back : (a b : ℕ) → out.world.barred a b ≡ true → (m.world.barred a b ≡ true) ⊎ NeededBarrier lay r a b
  bar_back a b h = barred_back a b (sym (clears_barred lay r.page x.count ready x.cleared x.clears a b) ∙ h)

  edge_here : (a b : ℕ) → (eqb a a && eqb b b) ≡ true
  edge_here a b = and_from _ _ (eq-eqb a a refl) (eq-eqb b b refl)

  map_barred : r.stage ≡ 1 → out.world.barred M K ≡ true
  map_barred o = clears_barred lay r.page x.count ready x.cleared x.clears M K ∙ subst (λ s. (map_edge s M K begun).barred M K ≡ true) (sym o) (or_right _ _ (edge_here M K))

  cache_only : CacheOnly lay m.world out.world
  cache_only = record {
    newest = λ a. ap (λ y. y.newest a) rest;
    possible = λ a c h. elim h [ inl e ↦ inl (e ∙ ap (λ y. y.newest a) rest) | inr has ↦ inr (subst (λ ys. IsAmong c ys) (ap (λ y. y.older a) rest) has) ];
    cached_clean = cached_clean;
    hung = λ a. ap (λ y. y.hung a) rest;
    dirty_kept = dirty_kept;
    live_kept = λ a b l. clears_live lay r.page x.count ready x.cleared x.clears a b (ready_live lay r m.world a b l);
    barred_kept = λ a b l. clears_barred lay r.page x.count ready x.cleared x.clears a b ∙ edge_by (λ w. w.barred a b ≡ true) r.stage M K begun l (or_left _ _ l) l;
    live_ends = λ a b l. elim (live_back a b l) [ inl was ↦ inl was | inr new ↦ inr (new.1, ap out.world.dirty new.0.1 ∙ count_dirty) ];
    barred_ends = λ a b l. elim (bar_back a b l) [
      | inl was ↦ inl was
      | inr new ↦ inr (
        ap out.world.hung new.1 ∙ ap (λ y. y.hung M) rest ∙ k.counts.lost_name_owes_release.hung r.block r.page range.0
            (subst (λ s. Queued m.world.queue r.block r.page s) new.0 (rw queue (middle before after r))),
        ap out.world.dirty new.2 ∙ count_dirty,
      )
    ];
  }

  -- entries
  count_out : cached_count lay out.world r.page ≡ x.count
  count_out = ap (λ c. lay.count_in c r.page) (put_here x.cleared.world K x.content) ∙ x.sets.here

  cleared_count : (q : ℕ) → IsData lay q → x.cleared.world.cached (lay.count_page q) ≡ m.world.cached (lay.count_page q)
  cleared_count q d = clears_cached lay r.page x.count ready x.cleared x.clears (lay.count_page q) (apart.count_print q r.page d range.1) ∙ ready_cached lay r m.world (lay.count_page q)

  count_other : (q : ℕ) → IsData lay q → q ≢ r.page → cached_count lay out.world q ≡ cached_count lay m.world q
  count_other q d ne = elim (cases_eq (lay.count_page q) K) [
    | inl e ↦ ap (λ y. lay.count_in (out.world.cached y) q) e ∙ ap (λ y. lay.count_in y q) (put_here x.cleared.world K x.content) ∙ x.sets.other q d ne e
        ∙ ap (λ y. lay.count_in (x.cleared.world.cached y) q) (sym e) ∙ ap (λ y. lay.count_in y q) (cleared_count q d)
    | inr off ↦ ap (λ y. lay.count_in y q) (put_other x.cleared.world K x.content (lay.count_page q) off ∙ cleared_count q d)
  ]

  out_print : (q : ℕ) → IsData lay q → cached_print lay out.world q ≡ cached_print lay x.cleared.world q
  out_print q d = ap (λ c. lay.print_in c q) (put_other x.cleared.world K x.content (lay.print_page q) (λ e. apart.count_print r.page q range.1 d (sym e)))

  ready_print : (q : ℕ) → cached_print lay ready.world q ≡ cached_print lay m.world q
  ready_print q = ap (λ c. lay.print_in c q) (ready_cached lay r m.world (lay.print_page q))

  print_other : (q : ℕ) → IsData lay q → q ≢ r.page → cached_print lay out.world q ≡ cached_print lay m.world q
  print_other q d ne = out_print q d ∙ clears_print lay r.page x.count ready x.cleared x.clears q d ne ∙ ready_print q

  clears_keep : (c : Moment) → Clears lay r.page x.count ready c → 0 < x.count → cached_print lay c.world r.page ≡ cached_print lay ready.world r.page
  clears_keep c (NothingToClear h e) pos = ap (λ z. cached_print lay z.world r.page) e
  clears_keep c (ClearsUnborn d print z some born sets e) pos = absurd (omega arith)
  clears_keep c (ClearsLast d print z some born sets e) pos = absurd (omega arith)

  clears_edge : (c : Moment) → Clears lay r.page x.count ready c → IsLastPrint lay (known_at lay m) m.world r.page → c.world.live F K ≡ true
  clears_edge c (NothingToClear (inl pos) e) l = absurd (let one = x.counted in let is = l.0 in omega arith)
  clears_edge c (NothingToClear (inr none) e) l = absurd (none_some l.1.0 (sym none ∙ ready_print r.page ∙ l.1.1))
  clears_edge c (ClearsUnborn d print z some born sets e) l = absurd (true≢false (sym born ∙ l.2))
  clears_edge c (ClearsLast d print z some born sets e) l = ap (λ z. z.world.live F K) e ∙ or_right _ _ (edge_here F K)

  name_same : (l : ℕ) → l < lay.blocks → cached_name lay out.world l ≡ cached_name lay m.world l
  name_same l lt = ap (λ c. lay.name_in c l) (cached_other (lay.map_page l) (apart.map_count l r.page lt range.1) (apart.map_print l r.page lt range.1))

  applied : Applied lay (known_at lay m) m.world out.world r before after
  applied = record {
    rest = cache_only;
    edges = record { live = λ a b l. elim (live_back a b l) [ inl was ↦ inl was | inr new ↦ inr new.0 ]; barred = bar_back };
    no_cycle = x.not_blocked;
    was_queued = queue;
    removed = refl;
    names = name_same;
    count_here = ap (λ y. y + 1) count_out ∙ x.counted;
    count_other = count_other;
    print_kept = λ pos. out_print r.page range.1 ∙ clears_keep x.cleared x.clears (subst (λ y. 0 < y) count_out pos) ∙ ready_print r.page;
    print_gone = λ z. out_print r.page range.1 ∙ clears_none lay r.page x.count ready x.cleared x.clears (sym count_out ∙ z);
    print_other = print_other;
    from_map = λ z. clears_live lay r.page x.count ready x.cleared x.clears M K (subst (λ s. (map_edge s M K begun).live M K ≡ true) (sym z) (or_right _ _ (edge_here M K)));
    from_hung_map = map_barred;
    from_print = clears_edge x.cleared x.clears;
  }

  off_tables : (q : ℕ) → IsData lay q → (lay.data_page q ≢ K) × (lay.data_page q ≢ F)
  off_tables q d = (data_off lay K q apart (count_table lay r.page range.1) d, data_off lay F q apart (print_table lay r.page range.1) d)

  data_kept : DataKept lay m.world out.world
  data_kept = record {
    pages = λ q d. let off = off_tables q d in (
      cached_other (lay.data_page q) off.0 off.1,
      clears_other x.cleared x.clears (lay.data_page q) off.1 ∙ ready_dirty (lay.data_page q) ∙ touched_other m.world K (lay.data_page q) off.0,
    );
    well_formed = kept_out.contents.well_formed.cached;
    first_page = (
      kept_out.contents.first_page.clean,
      cached_other 0 (λ e. apart.first_table K (count_table lay r.page range.1) (sym e)) (λ e. apart.first_table F (print_table lay r.page range.1) (sym e)),
    );
  }

  -- what birth_marks is told
  name_leads : (l : ℕ) → l < lay.blocks → cached_value lay m.world (Name l) ≡ cached_value lay out.world (Name l)
  name_leads l lt = sym (name_same l lt)

  changed : (print : List ℕ) → cached_print lay m.world r.page ≡ Some print → cached_print lay out.world r.page ≡ None → out.calls ≡ Change (Print r.page) F 1 0 ∷ m.calls
      → out.world.dirty F ≡ true → ToldBirths lay m out
  changed print had gone calls dirty = print_told lay m out r.page 1 0 (ap has_print had) (ap has_print gone) calls dirty name_same print_other

  untold : out.calls ≡ m.calls → cached_print lay out.world r.page ≡ cached_print lay m.world r.page → ToldBirths lay m out
  untold calls same = record { edits = []; calls = calls; dirty = tt; leads = leads }
    where
      leads : (slot : Slot) → IsSlot lay slot → Leads lay slot [] (cached_value lay m.world slot) (cached_value lay out.world slot)
      leads (Name l) lt = name_leads l lt
      leads (Print q) d = elim (cases_eq q r.page) [
        | inl e ↦ ap has_print (ap (cached_print lay m.world) e ∙ sym same ∙ ap (cached_print lay out.world) (sym e))
        | inr ne ↦ ap has_print (sym (print_other q d ne))
      ]

  births : ToldBirths lay m out
  births = from x.clears
    where
      from : Clears lay r.page x.count ready x.cleared → ToldBirths lay m out
      from (NothingToClear h e) = untold (ap (λ z. z.calls) e) (out_print r.page range.1 ∙ ap (λ z. cached_print lay z.world r.page) e ∙ ready_print r.page)
      from (ClearsUnborn d print z some born sets e) = changed print (sym (ready_print r.page) ∙ some)
          (out_print r.page range.1 ∙ clears_none lay r.page x.count ready x.cleared x.clears z) (ap (λ z. z.calls) e) (ap (λ z. z.world.dirty F) e ∙ touched_here ready.world F)
      from (ClearsLast d print z some born sets e) = changed print (sym (ready_print r.page) ∙ some)
          (out_print r.page range.1 ∙ clears_none lay r.page x.count ready x.cleared x.clears z) (ap (λ z. z.calls) e) (ap (λ z. z.world.dirty F) e ∙ touched_here ready.world F)

  pool_told : ToldZero lay r.page m out
  pool_told =
      let pool : x.cleared.pool ≡ m.pool = ap (λ y. y.pool) rest in
      let count : cached_count lay x.cleared.world r.page ≡ cached_count lay m.world r.page = ap (λ c. lay.count_in c r.page) (cleared_count r.page range.1) in
      elim x.told [
        | inl z ↦ inl (z.0, subst (λ y. Agree out.pool (after_zeroed r.page y)) pool z.1)
        | inr o ↦ inr (elim o.0 [ inl pos ↦ inl pos | inr same ↦ inr (same ∙ count) ], subst (λ y. Agree out.pool y) pool o.1)
      ]

  pub lowers : Lowers lay m out r before after
  lowers = record { applied = applied; data_kept = data_kept; array = λ l. ap (λ y. y.array l) rest; births = births; pool = pool_told }

  pub drops : Drops lay out n r.page
  drops = from x.gives_up
    where
      from : GivesUp lay r.page x.count out n → Drops lay out n r.page
      from (StaysThere e) = record {
        world = inl (subst (λ z. Same out.world z.world) (sym e) (same_self out.world));
        array = λ l. ap (λ z. z.array l) e;
        calls = ap (λ z. z.calls) e;
        pool = λ q. ap (λ z. z.pool q) e;
      }
      from (GivenUp z none e) = record {
        world = inr (subst (λ y. Dropped lay out.world y.world r.page) (sym e) (given_up_is lay out.world r.page range.1 (count_out ∙ z)));
        array = λ l. ap (λ y. y.array l) e;
        calls = ap (λ y. y.calls) e;
        pool = λ q. ap (λ y. y.pool q) e;
      }

  -- what the pool knows stays exact
  pub applies_exact : (p : ℕ) → PoolExact lay m.world (m.pool p) p → PoolExact lay n.world (n.pool p) p
  applies_exact p old = from x.gives_up
    where
      told : ToldNothing x.cleared.pool x.pool
      told = lowered_told lay r.page x.cleared out x.told

      pool : (q : ℕ) → x.cleared.pool q ≡ m.pool q
      pool q = ap (λ y. y.pool q) rest

      at_out : PoolExact lay out.world (out.pool p) p
      at_out = edited_exact lay m.world out.world (m.pool p) (out.pool p) p old (ap (λ y. y.newest (lay.count_page p)) rest) (λ page c h. elim h [
        | inl e ↦ inl (e ∙ sym (ap (λ y. y.newest page) rest))
        | inr has ↦ inr (subst (λ ys. IsAmong c ys) (sym (ap (λ y. y.older page) rest)) has)
      ]) (told.tried p ∙ ap (λ y. y.tried) (pool p)) (told.newest p ∙ ap (λ y. y.newest) (pool p))

      from : GivesUp lay r.page x.count out n → PoolExact lay n.world (n.pool p) p
      from (StaysThere e) = subst (λ z. PoolExact lay z.world (z.pool p) p) (sym e) at_out
      from (GivenUp z none e) = subst (λ y. PoolExact lay y.world (y.pool p) p) (sym e) (record { possible = at_out.possible; newest = at_out.newest })

module _ (lay : Layout) (top : ℕ) (sound : Bool) (apart : Apart lay) where
  pub pass_exact : (m n : Moment) (kept todo : List Release) → EngineInvariant lay top sound m → m.world.queue ≡ kept ++ todo → SmallPass lay m kept todo n
      → (p : ℕ) → PoolExact lay m.world (m.pool p) p → PoolExact lay n.world (n.pool p) p
  pass_exact m n kept [] k queue s p old = subst (λ z. PoolExact lay z.world (z.pool p) p) (sym s) old
  pass_exact m n kept (r ∷ todo) k queue (inl s) p old = pass_exact m n (kept ++ r ∷ []) todo k (queue ∙ sym (append_one kept todo r)) s.1 p old
  pass_exact m n kept (r ∷ todo) k queue (inr s) p old = elim s.1 [
    | inl x ↦ pass_exact s.0 n kept todo (applies_keeps lay top sound apart m s.0 r kept todo k queue x)
        (out_queue lay apart m s.0 r kept todo (k.counts.lost_name_owes_release.in_range r.block r.page r.stage (rw queue (middle kept todo r))).1 (inl x)) s.2 p
        (applies_exact lay top sound apart m s.0 r kept todo k queue x p old)
    | inr x ↦ absurd (no_leaves lay top sound apart m s.0 r kept todo k queue x)
  ]

  pub pass_composed : (m n : Moment) (kept todo : List Release) → EngineInvariant lay top sound m → m.world.queue ≡ kept ++ todo → SmallPass lay m kept todo n → Pass lay m kept todo n
  pass_composed m n kept [] k queue p = p
  pass_composed m n kept (r ∷ todo) k queue (inl p) = inl (p.0, pass_composed m n (kept ++ r ∷ []) todo k (queue ∙ sym (append_one kept todo r)) p.1)
  pass_composed m n kept (r ∷ todo) k queue (inr p) = elim p.1 [
    | inl x ↦ inr (
      with_release_out lay r.page x.content (kept ++ todo) x.pool x.cleared,
      p.0,
      lowers lay top sound apart m p.0 r kept todo k queue x,
      drops lay top sound apart m p.0 r kept todo k queue x,
      pass_composed p.0 n kept todo (applies_keeps lay top sound apart m p.0 r kept todo k queue x)
          (out_queue lay apart m p.0 r kept todo (k.counts.lost_name_owes_release.in_range r.block r.page r.stage (rw queue (middle kept todo r))).1 (inl x)) p.2,
    )
    | inr x ↦ absurd (no_leaves lay top sound apart m p.0 r kept todo k queue x)
  ]

  pub drained : (m n o : Moment) (ns : List Moment) → EngineInvariant lay top sound m → NoNode m → SmallPass lay m [] m.world.queue n → DeviceRun lay top n ns
      → NoNode (last_of n ns) → SmallPass lay (last_of n ns) [] (last_of n ns).world.queue o → NoNode o × (o.world.queue ≡ [])
  drained m n o ns k clean first run done second =
      let none = drained_twice lay top sound apart m n ns k clean (pass_composed m n [] m.world.queue k refl first) run in
      let same : o ≡ last_of n ns = subst (λ rs. SmallPass lay (last_of n ns) [] rs o) none second in
      ((λ a. (ap (λ y. y.world.dirty a) same ∙ (done a).0, ap (λ y. y.world.hung a) same ∙ (done a).1)), ap (λ y. y.world.queue) same ∙ none)
