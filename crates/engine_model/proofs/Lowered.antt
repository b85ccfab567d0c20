-- A count is lowered: by its release that is taken out, once the edge of the release stands, or by waste.
use Rattle.std.proofs.Common.{◌≡◌, ◌≢◌, ◌⊎◌, inl, inr, ◌+◌, ◌<◌, ◌≤◌, ℕ, Bool, true, cond, arith, refl, sym, ap, ◌∙◌, subst, List, [], ◌∷◌, ◌++◌, None, eqb, eqb-true, eq-eqb, ne_eqb}
use Rattle.std.proofs.lemmas.Bool.{cases_eq, or_cases, or_left, or_right}
use Rattle.order_model.specs.World.{Layout, Queued, Release, World, queued, IsData}
use Rattle.engine_model.specs.Entries.{Apart, HasEdge, cached_count, cached_name, cached_names, cached_print}
use Rattle.order_model.specs.Pool.{Told, after_zeroed}
use Rattle.engine_model.specs.Invariant.{EngineInvariant, Moment, ToldPool, ToldZero}
use Rattle.engine_model.specs.Edits.{CacheOnly, ContentEdits, Edits}
use Rattle.engine_model.specs.SmallSteps.{CanLower, CanRecount, SetsCount, lowered, put}
use Rattle.engine_model.proofs.Queues.{kept_out, middle, queued_out, was_in}
use Rattle.engine_model.specs.Frames.{EntriesKept, no_reach}
use Rattle.engine_model.proofs.Puts.{puts_count}
use Rattle.engine_model.proofs.Quiet.{count_table, put_formed, put_here, put_other, put_rest, queue_rest}
use Rattle.engine_model.proofs.Views.{names_by, none_some}
use Rattle.engine_model.proofs.Whole.{edits_keep_all, nothing_told, pool_untold}

-- the count of p becomes n, and these releases are left: what that asks
record Recounts (lay : Layout) (w : World) (p n : ℕ) (c : List ℕ) (queue : List Release) : Type 0 where
  is_data : IsData lay p
  sets : SetsCount lay (w.cached (lay.count_page p)) c p n
  dirty : w.dirty (lay.count_page p) ≡ true
  less : n ≤ cached_count lay w p
  enough : cached_names lay w p + queued queue p ≤ n
  no_print : n ≡ 0 → cached_print lay w p ≡ None
  other : (q : ℕ) → q ≢ p → queued queue q ≡ queued w.queue q
  still : (l q stage : ℕ) → Queued queue l q stage → Queued w.queue l q stage
  zero_kept : (l q : ℕ) → Queued w.queue l q 0 → Queued queue l q 0 ⊎ (w.live (lay.map_page l) (lay.count_page q) ≡ true)
  one_kept : (l q : ℕ) → Queued w.queue l q 1 → Queued queue l q 1 ⊎ HasEdge w (lay.map_page l) (lay.count_page q)

module _ (lay : Layout) (top : ℕ) (sound : Bool) (apart : Apart lay) (m : Moment) (k : EngineInvariant lay top sound m) (p n : ℕ) (c : List ℕ) (queue : List Release)
    (x : Recounts lay m.world p n c queue) where
  abbrev w : World
  w = m.world

  abbrev v : World
  v = lowered (lay.count_page p) c queue w

  away : (a : ℕ) → a ≢ lay.count_page p → v.cached a ≡ w.cached a
  away a ne = put_other w (lay.count_page p) c a ne

  count_here : cached_count lay v p ≡ n
  count_here = ap (λ y. lay.count_in y p) (put_here w (lay.count_page p) c) ∙ x.sets.here

  here : (q : ℕ) → q ≡ p → cached_count lay v q ≡ n
  here q e = ap (cached_count lay v) e ∙ count_here

  was_here : (q : ℕ) → q ≡ p → n ≤ cached_count lay w q
  was_here q e = subst (λ y. n ≤ cached_count lay w y) (sym e) x.less

  kept : EntriesKept lay (record no_reach { counts = p ∷ [] }) w.cached v.cached
  kept = puts_count lay apart w c p n x.is_data x.sets

  count_other : (q : ℕ) → IsData lay q → q ≢ p → cached_count lay v q ≡ cached_count lay w q
  count_other q d ne = kept.counts q d (ne, tt)

  count_less : (q : ℕ) → IsData lay q → cached_count lay v q ≤ cached_count lay w q
  count_less q d = elim (cases_eq q p) [
    | inl e ↦ let now = here q e in let was = was_here q e in omega arith
    | inr ne ↦ let same = count_other q d ne in omega arith
  ]

  names : (l : ℕ) → l < lay.blocks → cached_name lay v l ≡ cached_name lay w l
  names l lt = kept.names l lt tt

  prints : (q : ℕ) → IsData lay q → cached_print lay v q ≡ cached_print lay w q
  prints q d = kept.prints q d tt

  data_same : (q : ℕ) → IsData lay q → v.cached (lay.data_page q) ≡ w.cached (lay.data_page q)
  data_same q d = kept.contents q d tt

  rest : CacheOnly lay w v
  rest = queue_rest lay w (put (lay.count_page p) c w) queue (put_rest lay w (lay.count_page p) c x.dirty)

  edits : Edits lay top w v
  edits = record {
    rest = rest;
    kinds = λ a b h. inl h;
    acyclic = k.counts.marks_and_edges.acyclic;
    name_gained = λ l q lt d h. inl (sym (names l lt) ∙ h);
    name_lost = λ l q lt d may h. inl (names l lt ∙ h);
    print_gained = λ q y d h. inl (sym (prints q d) ∙ h);
    print_lost = λ q y d may h. inl (prints q d ∙ h);
    enough = λ q d. let as_many = names_by lay w v names q in elim (cases_eq q p) [
      | inl e ↦
          let room : cached_names lay w q + queued queue q ≤ n = subst (λ y. cached_names lay w y + queued queue y ≤ n) (sym e) x.enough in
          let now = here q e in
          omega arith
      | inr ne ↦ let was = (k.counts.count_balance q d).enough in let same = count_other q d ne in let left = x.other q ne in omega arith
    ];
    in_range = λ q d. let was = (k.counts.count_balance q d).in_range in let less = count_less q d in omega arith;
    print_counted = λ q y d h. let was = k.counts.print_needs_count q y d (sym (prints q d) ∙ h) in elim (cases_eq q p) [
      | inl e ↦ elim (cases_eq n 0) [
        | inl z ↦ absurd (none_some y (sym (x.no_print z) ∙ ap (cached_print lay w) (sym e) ∙ sym (prints q d) ∙ h))
        | inr pos ↦ let now = here q e in omega arith
      ]
      | inr ne ↦ let same = count_other q d ne in omega arith
    ];
    zero_kept = x.zero_kept;
    one_kept = x.one_kept;
    zero_dirty = λ l q lt h. k.counts.lost_name_owes_release.dirty l q lt (x.still l q 0 h);
    one_hung = λ l q lt h. k.counts.lost_name_owes_release.hung l q lt (x.still l q 1 h);
    queue_in_range = λ l q stage h. k.counts.lost_name_owes_release.in_range l q stage (x.still l q stage h);
  }

  contents : ContentEdits lay sound m.array m.array w v
  contents = record {
    rest = rest;
    dirty_fresh = λ q d h. inl h;
    cached = λ q d. inl (data_same q d);
    name_gained = λ l q lt d h. inl (sym (names l lt) ∙ h);
    print_gained = λ q y d h. inl (sym (prints q d) ∙ h);
    count_risen = λ q d h. inl (let less = count_less q d in omega arith);
    blocks = λ l lt. inl (names l lt, refl);
    well_formed = put_formed lay w (lay.count_page p) c x.sets.formed k.contents.well_formed.cached;
    first_page = (k.contents.first_page.clean, away 0 (λ e. apart.first_table (lay.count_page p) (count_table lay p x.is_data) (sym e)));
  }

  module _ (pool : ℕ → Told) (told : ToldZero lay p m (record m { world = v; pool = pool })) where
    abbrev later : Moment
    later = record m { world = v; pool = pool }

    -- where the pool was told of a count that became 0, and where it was not
    pool_zero : (cached_count lay v p ≡ 0) × ((q : ℕ) → pool q ≡ after_zeroed p m.pool q) → ToldPool lay m later
    pool_zero z = record {
      zero = λ q d h. elim (cases_eq q p) [
        | inl e ↦ ap (cached_count lay v) e ∙ z.0
        | inr ne ↦ count_other q d ne ∙ (k.pool_knows_counts q d).zero (elim (or_cases _ _ (sym (ap (λ t. t.zero) (z.1 q)) ∙ h)) [ inl is ↦ absurd (ne (sym (eqb-true p q is))) | inr y ↦ y ])
      ];
      above = λ q d h. ap (λ t. t.zero) (z.1 q) ∙ elim (cases_eq q p) [
        | inl e ↦ or_left _ _ (eq-eqb p q (sym e))
        | inr ne ↦ or_right _ _ ((k.pool_knows_counts q d).above (sym (count_other q d ne) ∙ h))
      ];
      tried = λ q d. ap (λ t. t.tried) (z.1 q);
      newest = λ q d. ap (λ t. t.newest) (z.1 q);
    }

    pool_same : 0 < cached_count lay v p → ((q : ℕ) → pool q ≡ m.pool q) → ToldPool lay m later
    pool_same pos same = record {
      zero = λ q d h. let z = (k.pool_knows_counts q d).zero (sym (ap (λ t. t.zero) (same q)) ∙ h) in elim (cases_eq q p) [
        | inl e ↦ absurd (let was = was_here q e in omega (arith, was, z, pos, count_here))
        | inr ne ↦ count_other q d ne ∙ z
      ];
      above = λ q d h. ap (λ t. t.zero) (same q) ∙ elim (cases_eq q p) [
        | inl e ↦ absurd (let now = here q e in omega (arith, now, h, pos, count_here))
        | inr ne ↦ (k.pool_knows_counts q d).above (sym (count_other q d ne) ∙ h)
      ];
      tried = λ q d. ap (λ t. t.tried) (same q);
      newest = λ q d. ap (λ t. t.newest) (same q);
    }

    pool_told : ToldPool lay m later
    pool_told = elim told [
      | inl z ↦ pool_zero z
      | inr left ↦ elim left.0 [
        | inl pos ↦ pool_same pos left.1
        | inr same ↦ pool_untold lay top sound m later k left.1 (λ q d. elim (cases_eq q p) [
          | inl e ↦ ap (cached_count lay v) e ∙ same ∙ ap (cached_count lay w) (sym e)
          | inr ne ↦ count_other q d ne
        ])
      ]
    ]

    recounts_keeps : EngineInvariant lay top sound later
    recounts_keeps = edits_keep_all lay top sound m later k edits contents (nothing_told lay m later refl names prints) pool_told

-- a release is taken out
module _ (lay : Layout) (top : ℕ) (sound : Bool) (apart : Apart lay) (m : Moment) (k : EngineInvariant lay top sound m) (r : Release) (before after : List Release) (c : List ℕ) (n : ℕ)
    (can : CanLower lay m.world r before after c n) where
  range : (r.block < lay.blocks) × IsData lay r.page
  range = k.counts.lost_name_owes_release.in_range r.block r.page r.stage (rw can.was_queued (middle before after r))

  queued_less : (q : ℕ) → queued m.world.queue q ≡ cond (eqb r.page q) 1 0 + queued (before ++ after) q
  queued_less q = ap (λ rs. queued rs q) can.was_queued ∙ queued_out before after r q

  lowered_recounts : Recounts lay m.world r.page n c (before ++ after)
  lowered_recounts = record {
    is_data = range.1;
    sets = can.sets;
    dirty = can.dirty;
    less = let was = can.counted in omega arith;
    enough =
        let was = (k.counts.count_balance r.page range.1).enough in
        let less = queued_less r.page in
        let one : cond {A = ℕ} (eqb r.page r.page) 1 0 ≡ 1 = ap (λ b. cond b 1 0) (eq-eqb r.page r.page refl) in
        let count = can.counted in
        omega arith;
    no_print = can.no_print;
    other = λ q ne. let less = queued_less q in let none : cond {A = ℕ} (eqb r.page q) 1 0 ≡ 0 = ap (λ b. cond b 1 0) (ne_eqb r.page q (λ e. ne (sym e))) in omega arith;
    still = λ l q stage h. rw can.was_queued (was_in before after r l q stage h);
    zero_kept = λ l q h. elim (kept_out before after r l q 0 (rw can.was_queued at h)) [
      | inl stays ↦ inl stays
      | inr is ↦ inr (subst (λ y. m.world.live (lay.map_page y) (lay.count_page q) ≡ true) is.0
          (subst (λ y. m.world.live (lay.map_page r.block) (lay.count_page y) ≡ true) is.1 (can.from_map is.2)))
    ];
    one_kept = λ l q h. elim (kept_out before after r l q 1 (rw can.was_queued at h)) [
      | inl stays ↦ inl stays
      | inr is ↦ inr (inr (subst (λ y. m.world.barred (lay.map_page y) (lay.count_page q) ≡ true) is.0
          (subst (λ y. m.world.barred (lay.map_page r.block) (lay.count_page y) ≡ true) is.1 (can.from_hung_map is.2))))
    ];
  }

  pub lowered_keeps : (pool : ℕ → Told) → ToldZero lay r.page m (record m { world = lowered (lay.count_page r.page) c (before ++ after) m.world; pool = pool })
      → EngineInvariant lay top sound (record m { world = lowered (lay.count_page r.page) c (before ++ after) m.world; pool = pool })
  lowered_keeps pool told = recounts_keeps lay top sound apart m k r.page n c (before ++ after) lowered_recounts pool told

-- waste is taken away
module _ (lay : Layout) (top : ℕ) (sound : Bool) (apart : Apart lay) (m : Moment) (k : EngineInvariant lay top sound m) (p : ℕ) (c : List ℕ) (n : ℕ) (can : CanRecount lay m.world p c n) where
  pub recounted_keeps : (pool : ℕ → Told) → ToldZero lay p m (record m { world = put (lay.count_page p) c m.world; pool = pool })
      → EngineInvariant lay top sound (record m { world = put (lay.count_page p) c m.world; pool = pool })
  recounted_keeps pool told = recounts_keeps lay top sound apart m k p n c m.world.queue (record {
    is_data = can.is_data;
    sets = can.sets;
    dirty = can.dirty;
    less = can.less;
    enough = can.enough;
    no_print = can.no_print;
    other = λ q ne. refl;
    still = λ l q stage h. h;
    zero_kept = λ l q h. inl h;
    one_kept = λ l q h. inl h;
  }) pool told
