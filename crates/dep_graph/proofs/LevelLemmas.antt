-- Levels while they are found: what each edge and each page changes.
use Rattle.std.proofs.Common.{◌≡◌, ◌⊎◌, inl, inr, ℕ, zero, suc, ◌+◌, ◌-◌, ◌<◌, ◌≤◌, Bool, true, false, not, ◌&&◌, ◌||◌, cond, List, [], ◌∷◌, ◌++◌, length, take, get_or, set, filter, max, refl, sym, ◌∙◌, ap, subst, arith, eqb, eqb-true, eq-eqb, ne_eqb, add-one}
use Rattle.std.specs.List.{list_any}
use Rattle.std.proofs.lemmas.Bool.{and_from, and_parts, cases_Bool, cases_eq, cases_lt, cases_order, not-true, not_from_false, or_cases, or_left, or_right, true≢false}
use Rattle.std.proofs.lemmas.List.{get_or_append_left, get_or_push, get_or_read, get_or-take, length-take-le, length_push}
use Rattle.dep_graph.specs.declared.pairs.Pair.{Pair}
use Rattle.dep_graph.specs.Pages.{holds, IsAt, IsRising}
use Rattle.dep_graph.specs.Pairs.{ends_at, from_page, has_pair}
use Rattle.order_model.specs.Paths.{LivePath, leg, IsAcyclic}
use Rattle.dep_graph.specs.Trails.{seen, AreApart, AreWithin}
use Rattle.dep_graph.specs.Heights.{AreClimbed}
use Rattle.order_model.specs.Levels.{HasLevels, IsGreatestLevel, Marks}
use Rattle.dep_graph.specs.Waits.{count_at}
use Rattle.dep_graph.proofs.GraphLemmas.{has_ends, has_from}
use Rattle.dep_graph.proofs.MoveLemmas.{ends_next}
use Rattle.dep_graph.proofs.PageLemmas.{flip, found, holds_filter}
use Rattle.dep_graph.proofs.PathLemmas.{way_join}
use Rattle.dep_graph.proofs.RisingLemmas.{any_at, any_where, rises_at}
use Rattle.dep_graph.proofs.SearchLemmas.{place_of_seen, seen_visit, visit_within, visit_front, visit_grows}
use Rattle.dep_graph.proofs.WaitLemmas.{count_place, read_count, set_count}

-- a number that is read and changed
module _ (pages nums : List ℕ) (k page n : ℕ) (up : IsRising pages) (each : length nums ≡ length pages) (at : IsAt pages page k) (read : n ≡ get_or nums k n) where
  pub read_num : n ≡ count_at pages nums page
  read_num = get_or_read nums k n (omega (arith, at.within, each)) read 0 ∙ read_count pages nums k page up each at

  pub changed_num : (f : ℕ → ℕ) (p : ℕ) → count_at pages (set nums k (f n)) p ≡ cond (eqb p page) (f (count_at pages nums p)) (count_at pages nums p)
  changed_num f p = set_count pages nums k page (f n) p up each at ∙ (elim (cases_eq p page) [
    | inl e ↦ rw (e, eq-eqb page page refl) (ap f read_num)
    | inr ne ↦ rw (ne_eqb p page ne)
  ])

apart_push : (reached : List ℕ) (place : ℕ) → AreApart reached → holds reached place ≡ false → AreApart (reached ++ place ∷ [])
apart_push reached place apart off i j lt within same =
    let len = length_push reached place in
    let i_lt : i < length reached = omega arith in
    elim (cases_lt j (length reached)) [
      | inl old ↦ apart i j lt old (sym (get_or_append_left reached (place ∷ []) 0 i i_lt) ∙ same ∙ get_or_append_left reached (place ∷ []) 0 j old)
      | inr new ↦
          let is : get_or reached i 0 ≡ place = sym (get_or_append_left reached (place ∷ []) 0 i i_lt) ∙ same ∙ get_or_push reached place 0 j (omega arith) in
          let there : holds reached place ≡ true = found reached i place i_lt is in
          true≢false (sym there ∙ off)
    ]

-- a place that is visited where its page waits for none
module _ (pages reached later : List ℕ) (place page count : ℕ) (at : get_or pages place 0 ≡ page)
    (is : later ≡ cond (eqb count 0) (cond (holds reached place) reached (reached ++ place ∷ [])) reached) where
  pub free_seen : (x : ℕ) → seen pages later x ≡ seen pages reached x || (eqb x page && eqb count 0)
  free_seen x = elim (cases_Bool (eqb count 0)) [
    | inl free ↦ seen_visit pages reached later place page at (rw free at is) x ∙ rw (flip page x, free) (same (seen pages reached x) (eqb x page))
    | inr waits ↦ rw (rw waits at is, waits) (none (seen pages reached x) (eqb x page))
  ]
    where
      same : (x y : Bool) → (x || y) ≡ (x || (y && true))
      same x y = grind arith

      none : (x y : Bool) → x ≡ (x || (y && false))
      none x y = grind arith

  pub free_within : (n : ℕ) → place < n → AreWithin reached n → AreWithin later n
  free_within n lt within = elim (cases_Bool (eqb count 0)) [
    | inl free ↦ visit_within pages reached later place page at (rw free at is) n lt within
    | inr waits ↦ rw (rw waits at is) within
  ]

  pub free_front : (k : ℕ) → k < length reached → get_or later k 0 ≡ get_or reached k 0
  free_front k lt = elim (cases_Bool (eqb count 0)) [
    | inl free ↦ visit_front pages reached later place page at (rw free at is) k lt
    | inr waits ↦ rw (rw waits at is)
  ]

  pub free_grows : length reached ≤ length later
  free_grows = elim (cases_Bool (eqb count 0)) [
    | inl free ↦ visit_grows pages reached later place page at (rw free at is)
    | inr waits ↦ rw (rw waits at is) (omega arith)
  ]

  pub free_apart : AreApart reached → AreApart later
  free_apart apart = elim (cases_Bool (eqb count 0)) [
    | inr waits ↦ rw (rw waits at is) apart
    | inl free ↦ elim (cases_Bool (holds reached place)) [
      | inl on ↦ rw (rw (free, on) at is) apart
      | inr off ↦ rw (rw (free, off) at is) (apart_push reached place apart off)
    ]
  ]

-- the edge that comes next is one more
pub raised_ends : (live : List Pair) (i : ℕ) → i < length live → ends_at (take i live) (get_or live i (record { before = 0; after = 0 })).after < ends_at live (get_or live i (record { before = 0; after = 0 })).after
raised_ends live i lt = ends_next live i (record { before = 0; after = 0 }) lt

pub next_height : (now before : Bool) (old height : ℕ) → cond now (max (cond before (max old height) old) height) (cond before (max old height) old) ≡ cond (before || now) (max old height) old
next_height true true old height = omega arith
next_height true false old height = refl
next_height false true old height = refl
next_height false false old height = refl

pub next_reached : (x page : ℕ) (start before : Bool) (old : ℕ → ℕ) (new : ℕ) → 0 < old page → new ≡ cond (eqb x page) (old x - 1) (old x)
    → ((start || (before && eqb (old x) 0)) || (eqb x page && eqb new 0)) ≡ (start || ((before || eqb page x) && eqb new 0))
next_reached x page start before old new some is = elim (cases_eq x page) [
  | inl e ↦
      let off : eqb (old x) 0 ≡ false = ne_eqb _ _ (λ z. let same = ap old e in omega arith) in
      rw (off, eq-eqb x page e, eq-eqb page x (sym e)) (here start before (eqb new 0))
  | inr ne ↦
      let same : new ≡ old x = rw (ne_eqb x page ne) at is in
      rw (same, ne_eqb x page ne, ne_eqb page x (λ e. ne (sym e))) (there start before (eqb (old x) 0))
]
  where
    here : (s b n : Bool) → ((s || (b && false)) || (true && n)) ≡ (s || ((b || true) && n))
    here s b n = grind arith

    there : (s b n : Bool) → ((s || (b && n)) || (false && n)) ≡ (s || ((b || false) && n))
    there s b n = grind arith

-- pairs that do not begin at a done page
abbrev pub undone : (ℕ → Bool) → List Pair → List Pair
undone done live = filter (λ r. not (done r.before)) live

has_undone : (done : ℕ → Bool) (live : List Pair) (a b : ℕ) → done a ≡ false → has_pair live a b ≡ true → has_pair (undone done live) a b ≡ true
has_undone done [] a b off h = h
has_undone done (r ∷ rs) a b off h = elim (or_cases (eqb r.before a && eqb r.after b) (has_pair rs a b) h) [
  | inl here ↦
      let is : done r.before ≡ false = ap done (eqb-true r.before a (and_parts (eqb r.before a) (eqb r.after b) here).0) ∙ off in
      rw (is, here)
  | inr later ↦ elim (cases_Bool (done r.before)) [
    | inl on ↦ rw on (has_undone done rs a b off later)
    | inr no' ↦ rw no' (or_right (eqb r.before a && eqb r.after b) (has_pair (undone done rs) a b) (has_undone done rs a b off later))
  ]
]

undone_has : (done : ℕ → Bool) (live : List Pair) (a b : ℕ) → has_pair (undone done live) a b ≡ true → (has_pair live a b ≡ true) × (done a ≡ false)
undone_has done [] a b h = absurd (cc)
undone_has done (r ∷ rs) a b h = elim (cases_Bool (done r.before)) [
  | inl on ↦ let rest = undone_has done rs a b (rw on at h) in (or_right _ _ rest.0, rest.1)
  | inr off ↦ elim (or_cases (eqb r.before a && eqb r.after b) (has_pair (undone done rs) a b) (rw off at h)) [
    | inl here ↦ (or_left _ _ here, ap done (sym (eqb-true r.before a (and_parts (eqb r.before a) (eqb r.after b) here).0)) ∙ off)
    | inr later ↦ let rest = undone_has done rs a b later in (or_right _ _ rest.0, rest.1)
  ]
]

ends_where : (ps : List Pair) (b : ℕ) → 0 < ends_at ps b → (a : ℕ) × (has_pair ps a b ≡ true)
unfolding ends_at
ends_where [] b h = absurd (omega arith)
ends_where (p ∷ ps) b h = elim (cases_Bool (eqb p.after b)) [
  | inl is ↦ (p.before, rw (is, eq-eqb p.before p.before refl))
  | inr off ↦ let lt : 1 ≤ 0 + ends_at ps b = rw off at h in let rest = ends_where ps b (omega arith) in (rest.0, or_right (eqb p.before rest.0 && eqb p.after b) (has_pair ps rest.0 b) rest.1)
]

ends_undone : (done later : ℕ → Bool) (x : ℕ) (live : List Pair) (p : ℕ) → ((a : ℕ) → later a ≡ done a || eqb x a) → done x ≡ false
    → ends_at (undone done live) p ≡ ends_at (undone later live) p + ends_at (from_page live x) p
unfolding ends_at
ends_undone done later x [] p more off = omega arith
ends_undone done later x (r ∷ rs) p more off = let rest = ends_undone done later x rs p more off in elim (cases_eq x r.before) [
  | inl e ↦
      let not_done : done r.before ≡ false = ap done (sym e) ∙ off in
      let is_later : later r.before ≡ true = more r.before ∙ or_right _ _ (eq-eqb x r.before e) in
      rw (not_done, is_later, eq-eqb r.before x (sym e)) (omega arith)
  | inr ne ↦ let same : later r.before ≡ done r.before = more r.before ∙ rw (ne_eqb x r.before ne) (nothing (done r.before)) in elim (cases_Bool (done r.before)) [
    | inl on ↦ rw (same, on, ne_eqb r.before x (λ e. ne (sym e))) rest
    | inr no' ↦ rw (same, no', ne_eqb r.before x (λ e. ne (sym e))) (omega arith)
  ]
]
  where
    nothing : (x : Bool) → (x || false) ≡ x
    nothing x = grind arith

-- one page more is done
module _ (live : List Pair) (dirty done later queued queued' : ℕ → Bool) (start height height' left left' : ℕ → ℕ) (x steps : ℕ)
    (ends : (a b : ℕ) → has_pair live a b ≡ true → (dirty a ≡ true) × (dirty b ≡ true)) (adds : (p : ℕ) → later p ≡ done p || eqb x p) (fresh : done x ≡ false) (taken : queued x ≡ true)
    (done_queued : (p : ℕ) → done p ≡ true → queued p ≡ true) (left_is : (p : ℕ) → left p ≡ ends_at (undone done live) p) (left'_is : (p : ℕ) → left' p + ends_at (from_page live x) p ≡ left p)
    (height'_is : (p : ℕ) → height' p ≡ cond (has_pair live x p) (max (height p) (height x + 1)) (height p)) (queued_is : (p : ℕ) → queued p ≡ dirty p && eqb (left p) 0)
    (queued'_is : (p : ℕ) → queued' p ≡ queued p || (has_pair live x p && eqb (left' p) 0)) where
  untouched : (p : ℕ) → queued p ≡ true → has_pair live x p ≡ false
  untouched p q = elim (cases_Bool (has_pair live x p)) [
    | inr off ↦ off
    | inl on ↦ absurd (
        let some = has_ends (undone done live) x p (has_undone done live x p fresh on) in
        let none : left p ≡ 0 = eqb-true _ _ (and_parts _ _ (sym (queued_is p) ∙ q)).1 in
        let is = left_is p in
        omega arith)
  ]

  same_height : (p : ℕ) → queued p ≡ true → height' p ≡ height p
  same_height p q = height'_is p ∙ rw (untouched p q)

  pub next_left : (p : ℕ) → left' p ≡ ends_at (undone later live) p
  next_left p = let split = ends_undone done later x live p adds fresh in let is = left_is p in let now = left'_is p in omega arith

  pub next_queued : (p : ℕ) → queued' p ≡ dirty p && eqb (left' p) 0
  next_queued p = elim (cases_Bool (has_pair live x p)) [
    | inl on ↦
        let held : dirty p ≡ true = (ends x p on).1 in
        let waits : queued p ≡ false = elim (cases_Bool (queued p)) [ inl q ↦ absurd (true≢false (sym on ∙ untouched p q)) | inr q ↦ q ] in
        queued'_is p ∙ rw (on, waits, held)
    | inr off ↦
        let none : ends_at (from_page live x) p ≡ 0 = elim (cases_eq (ends_at (from_page live x) p) 0) [
          | inl z ↦ z
          | inr nz ↦ absurd (
              let w = ends_where (from_page live x) p (omega arith) in
              let both = and_parts _ _ (sym (has_from live x w.0 p) ∙ w.1) in
              true≢false (sym (subst (λ n. has_pair live n p ≡ true) (eqb-true _ _ both.1) both.0) ∙ off))
        ] in
        let now = left'_is p in
        let same : left' p ≡ left p = omega arith in
        queued'_is p ∙ rw off (nothing (queued p)) ∙ queued_is p ∙ rw same
  ]
    where
      nothing : (x : Bool) → (x || false) ≡ x
      nothing x = grind arith

  rises : (p : ℕ) → height p ≤ height' p
  rises p = elim (cases_Bool (has_pair live x p)) [
    | inl on ↦ rw (height'_is p, on) (omega arith)
    | inr off ↦ rw (height'_is p, off) (omega arith)
  ]

  pub next_above : ((a b : ℕ) → done a ≡ true → has_pair live a b ≡ true → height a < height b) → (a b : ℕ) → later a ≡ true → has_pair live a b ≡ true → height' a < height' b
  next_above above a b on edge = elim (or_cases _ _ (sym (adds a) ∙ on)) [
    | inl old ↦ let lt = above a b old edge in let same = same_height a (done_queued a old) in let up = rises b in omega arith
    | inr new ↦
        let e : x ≡ a = eqb-true _ _ new in
        let edge_x : has_pair live x b ≡ true = subst (λ n. has_pair live n b ≡ true) (sym e) edge in
        let same : height' a ≡ height x = ap height' (sym e) ∙ same_height x taken in
        let is : height' b ≡ max (height b) (height x + 1) = height'_is b ∙ rw edge_x in
        omega arith
  ]

  pub next_is : ((p : ℕ) → (height p ≡ start p) ⊎ ((a : ℕ) × ((has_pair live a p ≡ true) × ((done a ≡ true) × (height p ≡ height a + 1)))))
      → (p : ℕ) → (height' p ≡ start p) ⊎ ((a : ℕ) × ((has_pair live a p ≡ true) × ((later a ≡ true) × (height' p ≡ height' a + 1))))
  next_is was p = elim (cases_Bool (has_pair live x p)) [
    | inr off ↦ stays (height'_is p ∙ rw off)
    | inl on ↦ elim (cases_lt (height p) (height x + 1)) [
      | inl low ↦
          let is : height' p ≡ max (height p) (height x + 1) = height'_is p ∙ rw on in
          let same = same_height x taken in
          inr (x, (on, (adds x ∙ or_right _ _ (eq-eqb x x refl), omega arith)))
      | inr high ↦ let is : height' p ≡ max (height p) (height x + 1) = height'_is p ∙ rw on in stays (omega arith)
    ]
  ]
    where
      stays : height' p ≡ height p → (height' p ≡ start p) ⊎ ((a : ℕ) × ((has_pair live a p ≡ true) × ((later a ≡ true) × (height' p ≡ height' a + 1))))
      stays same = elim (was p) [
        | inl first ↦ inl (same ∙ first)
        | inr q ↦ let same_a = same_height q.0 (done_queued q.0 q.1.1.0) in let is = q.1.1.1 in inr (q.0, (q.1.0, (adds q.0 ∙ or_left _ _ q.1.1.0, omega arith)))
      ]

  pub next_grows : ((p : ℕ) → start p ≤ height p) → (p : ℕ) → start p ≤ height' p
  next_grows grows p = let g = grows p in let r = rises p in omega arith

  pub next_low : ((p : ℕ) → height p ≤ steps + 2) → (p : ℕ) → height' p ≤ steps + 1 + 2
  next_low low p = elim (cases_Bool (has_pair live x p)) [
    | inl on ↦ let a = low p in let b = low x in rw (height'_is p, on) (omega arith)
    | inr off ↦ let a = low p in rw (height'_is p, off) (omega arith)
  ]

-- of pages that go on for ever backward there is none
pub no_source : (live : ℕ → ℕ → Bool) → IsAcyclic live → (pages : List ℕ) → ((p : ℕ) → holds pages p ≡ true → (a : ℕ) × (LivePath live a p × (holds pages a ≡ true))) → (p : ℕ) → holds pages p ≡ true → ⊥
no_source live acyclic [] back p h = absurd (cc)
no_source live acyclic (s ∷ ss) back p h = elim (or_cases (eqb s p) (holds ss p) h) [
  | inl here ↦ let q = before_s in no_source live acyclic ss shorter q.0 q.1.1
  | inr later ↦ no_source live acyclic ss shorter p later
]
  where
    before_s : (a : ℕ) × (LivePath live a s × (holds ss a ≡ true))
    before_s = let q = back s (or_left (eqb s s) (holds ss s) (eq-eqb s s refl)) in elim (or_cases (eqb s q.0) (holds ss q.0) q.1.1) [
      | inl same ↦ absurd (acyclic s (subst (λ n. LivePath live n s) (sym (eqb-true s q.0 same)) q.1.0))
      | inr later ↦ (q.0, (q.1.0, later))
    ]

    shorter : (y : ℕ) → holds ss y ≡ true → (a : ℕ) × (LivePath live a y × (holds ss a ≡ true))
    shorter y on = let q = back y (or_right (eqb s y) (holds ss y) on) in elim (or_cases (eqb s q.0) (holds ss q.0) q.1.1) [
      | inr later ↦ (q.0, (q.1.0, later))
      | inl same ↦ let c = before_s in (c.0, (way_join c.1.0 (subst (λ n. LivePath live n y) (sym (eqb-true s q.0 same)) q.1.0), c.1.1))
    ]

-- where each page that waits for none was done, all pages were
pub all_done : (live : List Pair) (pages : List ℕ) (done : ℕ → Bool) (left : ℕ → ℕ) → IsAcyclic (has_pair live) → ((a b : ℕ) → has_pair live a b ≡ true → holds pages a ≡ true)
    → ((p : ℕ) → left p ≡ ends_at (undone done live) p) → ((p : ℕ) → done p ≡ holds pages p && eqb (left p) 0) → (p : ℕ) → holds pages p ≡ true → done p ≡ true
all_done live pages done left acyclic ends left_is done_is p h = elim (cases_Bool (done p)) [
  | inl on ↦ on
  | inr off ↦ absurd (no_source (has_pair live) acyclic (filter (λ x. not (done x)) pages) back p (holds_filter (λ x. not (done x)) pages p ∙ and_from _ _ h (not_from_false _ off)))
]
  where
    back : (y : ℕ) → holds (filter (λ x. not (done x)) pages) y ≡ true → (a : ℕ) × (LivePath (has_pair live) a y × (holds (filter (λ x. not (done x)) pages) a ≡ true))
    back y on =
        let both = and_parts (holds pages y) (not (done y)) (sym (holds_filter (λ x. not (done x)) pages y) ∙ on) in
        let waits : left y ≡ 0 → ⊥ = λ z. true≢false (sym (done_is y ∙ and_from _ _ both.0 (eq-eqb _ _ z)) ∙ not-true _ both.1) in
        let is = left_is y in
        let w = ends_where (undone done live) y (omega arith) in
        let u = undone_has done live w.0 y w.1 in
        (w.0, (leg u.0, holds_filter (λ x. not (done x)) pages w.0 ∙ and_from _ _ (ends w.0 y u.0) (not_from_false _ u.1)))

-- the places of one queue, one more
seen_take : (pages reached : List ℕ) (k x : ℕ) → k < length reached → seen pages (take (k + 1) reached) x ≡ seen pages (take k reached) x || eqb (get_or pages (get_or reached k 0) 0) x
seen_take pages [] k x lt = absurd (omega arith)
seen_take pages (r ∷ rs) zero x lt = last (eqb (get_or pages r 0) x)
  where
    last : (x : Bool) → (x || false) ≡ (false || x)
    last x = grind arith
seen_take pages (r ∷ rs) (suc k) x lt = rw add-one (ap (λ b. eqb (get_or pages r 0) x || b) (rw add-one at (seen_take pages rs k x (omega arith))) ∙ join (eqb (get_or pages r 0) x) (seen pages (take k rs) x) _)
  where
    join : (x y z : Bool) → (x || (y || z)) ≡ ((x || y) || z)
    join x y z = grind arith

take_same : (n : ℕ) (xs ys : List ℕ) → n ≤ length xs → n ≤ length ys → ((j : ℕ) → j < n → get_or ys j 0 ≡ get_or xs j 0) → take n ys ≡ take n xs
take_same zero xs ys a b same = refl
take_same (suc n) [] ys a b same = absurd (omega arith)
take_same (suc n) (x ∷ xs) [] a b same = absurd (omega arith)
take_same (suc n) (x ∷ xs) (y ∷ ys) a b same = rw (same zero (omega arith), take_same n xs ys (omega arith) (omega arith) (λ j lt. same (suc j) (omega arith)))

-- the pages at the first places, one more
pub seen_next : (pages reached later : List ℕ) (k x : ℕ) → k < length reached → length reached ≤ length later → ((j : ℕ) → j < length reached → get_or later j 0 ≡ get_or reached j 0)
    → seen pages (take (k + 1) later) x ≡ seen pages (take k reached) x || eqb (get_or pages (get_or reached k 0) 0) x
seen_next pages reached later k x lt le front =
    ap (λ q. seen pages q x) (take_same (k + 1) reached later (omega arith) (omega arith) (λ j j_lt. front j (omega arith))) ∙ seen_take pages reached k x lt

pub before_all : (pages reached : List ℕ) (k x : ℕ) → seen pages (take k reached) x ≡ true → seen pages reached x ≡ true
before_all pages reached zero x h = absurd (cc)
before_all pages [] (suc k) x h = absurd (cc)
before_all pages (r ∷ rs) (suc k) x h = elim (or_cases (eqb (get_or pages r 0) x) (seen pages (take k rs) x) h) [
  | inl here ↦ or_left _ _ here
  | inr later ↦ or_right _ _ (before_all pages rs k x later)
]

-- the page at a place that comes next is not among those before
pub not_before : (pages reached : List ℕ) (k : ℕ) → IsRising pages → AreWithin reached (length pages) → AreApart reached → k < length reached → seen pages (take k reached) (get_or pages (get_or reached k 0) 0) ≡ false
not_before pages reached k up within apart lt = elim (cases_Bool (seen pages (take k reached) (get_or pages (get_or reached k 0) 0))) [
  | inr off ↦ off
  | inl on ↦ absurd (
      let q = place_of_seen pages (take k reached) (get_or pages (get_or reached k 0) 0) on in
      let len = length-take-le k reached (omega arith) in
      let j_lt : q.0 < k = omega (arith, q.1) in
      let is : get_or (take k reached) q.0 0 ≡ get_or reached q.0 0 = get_or-take k reached q.0 0 j_lt in
      let same : get_or pages (get_or reached q.0 0) 0 ≡ get_or pages (get_or reached k 0) 0 = ap (λ n. get_or pages n 0) (sym is) ∙ q.2 in
      let a = within q.0 (omega arith) in
      let b = within k lt in
      elim (cases_order (get_or reached q.0 0) (get_or reached k 0)) [
        | inl e ↦ apart q.0 k j_lt lt e
        | inr (inl less) ↦ let more = rises_at (λ a b. a < b) pages 0 up _ _ less b in omega arith
        | inr (inr more') ↦ let more = rises_at (λ a b. a < b) pages 0 up _ _ more' a in omega arith
      ])
]

pub ends_none_done : (live : List Pair) (p : ℕ) → ends_at live p ≡ ends_at (filter (λ (r : Pair). not false) live) p
unfolding ends_at
ends_none_done [] p = refl
ends_none_done (r ∷ rs) p = ap (λ n. cond (eqb r.after p) 1 0 + n) (ends_none_done rs p)

pub ends_undone_le : (done : ℕ → Bool) (live : List Pair) (x p : ℕ) → done x ≡ false → ends_at (from_page live x) p ≤ ends_at (undone done live) p
unfolding ends_at
ends_undone_le done [] x p off = omega arith
ends_undone_le done (r ∷ rs) x p off = let rest = ends_undone_le done rs x p off in elim (cases_eq r.before x) [
  | inl e ↦ let is : done r.before ≡ false = ap done e ∙ off in rw (is, eq-eqb r.before x e) (omega arith)
  | inr ne ↦ elim (cases_Bool (done r.before)) [
    | inl on ↦ rw (on, ne_eqb r.before x ne) rest
    | inr no' ↦ rw (no', ne_eqb r.before x ne) (omega arith)
  ]
]

-- a pair that stands in the list
pub pair_at : (ps : List Pair) (k : ℕ) (d : Pair) → k < length ps → has_pair ps (get_or ps k d).before (get_or ps k d).after ≡ true
pair_at ps k d lt = any_at (λ p. eqb p.before (get_or ps k d).before && eqb p.after (get_or ps k d).after) ps k d lt (and_from _ _ (eq-eqb (get_or ps k d).before (get_or ps k d).before refl) (eq-eqb (get_or ps k d).after (get_or ps k d).after refl))

any_before : (ps : List Pair) (b : ℕ) → list_any (λ (e : Pair). eqb e.after b) ps ≡ true → (a : ℕ) × (has_pair ps a b ≡ true)
any_before [] b h = absurd (cc)
any_before (p ∷ ps) b h = elim (or_cases (eqb p.after b) (list_any (λ (e : Pair). eqb e.after b) ps) h) [
  | inl here ↦ (p.before, rw (eq-eqb p.before p.before refl, here))
  | inr later ↦ let q = any_before ps b later in (q.0, or_right (eqb p.before q.0 && eqb p.after b) (has_pair ps q.0 b) q.1)
]

any_after : (ps : List Pair) (a b : ℕ) → has_pair ps a b ≡ true → list_any (λ (e : Pair). eqb e.after b) ps ≡ true
any_after [] a b h = h
any_after (p ∷ ps) a b h = elim (or_cases (eqb p.before a && eqb p.after b) (has_pair ps a b) h) [
  | inl here ↦ or_left _ _ (and_parts (eqb p.before a) (eqb p.after b) here).1
  | inr later ↦ or_right (eqb p.after b) (list_any (λ (e : Pair). eqb e.after b) ps) (any_after ps a b later)
]

-- equal numbers beside all pages
pub count_filled : (pages nums : List ℕ) (v p : ℕ) → length nums ≡ length pages → ((k : ℕ) → k < length pages → get_or nums k 0 ≡ v) → count_at pages nums p ≡ cond (holds pages p) v 0
unfolding count_at
count_filled [] nums v p each same = refl
count_filled (q ∷ qs) [] v p each same = absurd (omega arith)
count_filled (q ∷ qs) (n ∷ ns) v p each same = elim (cases_Bool (eqb q p)) [
  | inl is ↦ rw is (same zero (omega arith))
  | inr off ↦ rw off (count_filled qs ns v p (omega arith) (λ k lt. same (suc k) (omega arith)))
]

-- the levels that the last numbers give
module _ (live barred : List Pair) (pages first nums : List ℕ) (greatest : ℕ) (up : IsRising pages) (each : length nums ≡ length pages)
    (first_is : (p : ℕ) → count_at pages first p ≡ cond (list_any (λ (e : Pair). eqb e.after p) barred) 2 (cond (holds pages p) 1 0)) where
  pub climbed : ((a b : ℕ) → has_pair live a b ≡ true → count_at pages nums a < count_at pages nums b)
      → ((p : ℕ) → (count_at pages nums p ≡ count_at pages first p) ⊎ ((a : ℕ) × ((has_pair live a p ≡ true) × (count_at pages nums p ≡ count_at pages nums a + 1))))
      → ((p : ℕ) → count_at pages first p ≤ count_at pages nums p) → ((k : ℕ) → k < length nums → get_or nums k 0 ≤ greatest)
      → ((greatest ≡ 0) × (length nums ≡ 0)) ⊎ ((k : ℕ) × ((k < length nums) × (get_or nums k 0 ≡ greatest))) → AreClimbed pages (has_pair live) (has_pair barred) greatest
  climbed above is grows most reached = record {
    level = count_at pages nums;
    above_live = above;
    above_barred = λ a b h. let two : count_at pages first b ≡ 2 = first_is b ∙ rw (any_after barred a b h) in let g = grows b in omega arith;
    is = λ p on. elim (is p) [
      | inr q ↦ inr (inl q)
      | inl same ↦ elim (cases_Bool (list_any (λ (e : Pair). eqb e.after p) barred)) [
        | inl any ↦ let q = any_before barred p any in inr (inr (q.0, (q.1, same ∙ first_is p ∙ rw any)))
        | inr none ↦ inl (same ∙ first_is p ∙ rw (none, on))
      ]
    ];
    most = λ p on.
        let w = any_where (λ q. eqb q p) pages 0 on in
        let lt : w.0 < length nums = omega (arith, w.1) in
        let le = most w.0 lt in
        let place = count_place pages nums w.0 up each w.1 in
        let same = ap (λ q. count_at pages nums q) (eqb-true _ _ w.2) in
        omega arith;
    reached = elim reached [
      | inl none ↦ inl (none.0, λ p on. let w = any_where (λ q. eqb q p) pages 0 on in let z = none.1 in omega (arith, w.1))
      | inr top ↦ let lt : top.0 < length pages = omega (arith, top.1.0) in
          inr (get_or pages top.0 0, (found pages top.0 (get_or pages top.0 0) lt refl, count_place pages nums top.0 up each lt ∙ top.1.1))
    ];
  }

-- the levels of all nodes: a page that is hung alone has level 1
module _ (m : Marks) (pages : List ℕ) (live barred : ℕ → ℕ → Bool) (greatest : ℕ) (dirty : (p : ℕ) → m.dirty p ≡ holds pages p) (live_is : (a b : ℕ) → m.live a b ≡ live a b)
    (barred_is : (a b : ℕ) → m.barred a b ≡ barred a b) (live_ends : (a b : ℕ) → live a b ≡ true → (holds pages a ≡ true) × (holds pages b ≡ true)) (barred_ends : (a b : ℕ) → barred a b ≡ true → holds pages b ≡ true)
    (c : AreClimbed pages live barred greatest) where
  level_in : ℕ → ℕ
  level_in p = cond (holds pages p) (c.level p) 1

  held_level : (p : ℕ) → holds pages p ≡ true → level_in p ≡ c.level p
  unfolding level_in
  held_level p on = rw on

  other_level : (p : ℕ) → holds pages p ≡ false → level_in p ≡ 1
  unfolding level_in
  other_level p off = rw off

  levels_in : HasLevels m level_in
  levels_in = record {
    is = λ p node. elim (cases_Bool (holds pages p)) [
      | inr off ↦ inl (other_level p off)
      | inl on ↦ elim (c.is p on) [
        | inl one ↦ inl (held_level p on ∙ one)
        | inr (inl q) ↦
            let same_a = held_level q.0 (live_ends q.0 p q.1.0).0 in
            let same = held_level p on in
            let is = q.1.1 in
            inr (dirty p ∙ on, inl (q.0, (live_is q.0 p ∙ q.1.0, omega arith)))
        | inr (inr q) ↦ inr (dirty p ∙ on, inr (q.0, (barred_is q.0 p ∙ q.1.0, held_level p on ∙ q.1.1)))
      ]
    ];
    above_live = λ a b h.
        let edge : live a b ≡ true = sym (live_is a b) ∙ h in
        let held = live_ends a b edge in
        let same_a = held_level a held.0 in
        let same_b = held_level b held.1 in
        let lt = c.above_live a b edge in
        omega arith;
    above_barred = λ a b h.
        let edge : barred a b ≡ true = sym (barred_is a b) ∙ h in
        let same = held_level b (barred_ends a b edge) in
        let lt = c.above_barred a b edge in
        omega arith;
  }

  pub greatest_alone : ((p : ℕ) → m.hung p ≡ false) → IsGreatestLevel m greatest
  greatest_alone none = record {
    level = level_in;
    levels = levels_in;
    most = λ p node.
        let on : holds pages p ≡ true = elim node [ inl d ↦ sym (dirty p) ∙ d | inr h ↦ absurd (true≢false (sym h ∙ none p)) ] in
        let same = held_level p on in
        let le = c.most p on in
        omega arith;
    reached = elim c.reached [
      | inl z ↦ inl (z.0, λ p node. elim node [ inl d ↦ z.1 p (sym (dirty p) ∙ d) | inr h ↦ true≢false (sym h ∙ none p) ])
      | inr top ↦ inr (top.0, (inl (dirty top.0 ∙ top.1.0), held_level top.0 top.1.0 ∙ top.1.1))
    ];
  }

  at_least : (p : ℕ) → holds pages p ≡ true → 1 ≤ c.level p
  at_least p on = elim (c.is p on) [
    | inl one ↦ omega arith
    | inr (inl q) ↦ let is = q.1.1 in omega arith
    | inr (inr q) ↦ let is = q.1.1 in omega arith
  ]

  pub greatest_with_hung : (h : ℕ) → m.hung h ≡ true → IsGreatestLevel m (max greatest 1)
  greatest_with_hung h hung = record {
    level = level_in;
    levels = levels_in;
    most = λ p node. elim (cases_Bool (holds pages p)) [
      | inl on ↦ let same = held_level p on in let le = c.most p on in omega arith
      | inr off ↦ let same = other_level p off in omega arith
    ];
    reached = elim c.reached [
      | inl z ↦
          let zero' = z.0 in
          let off : holds pages h ≡ false = elim (cases_Bool (holds pages h)) [ inl on ↦ absurd (z.1 h on) | inr off ↦ off ] in
          let same = other_level h off in
          inr (h, (inr hung, omega arith))
      | inr top ↦
          let same = held_level top.0 top.1.0 in
          let is = top.1.1 in
          let one = at_least top.0 top.1.0 in
          inr (top.0, (inl (dirty top.0 ∙ top.1.0), omega arith))
    ];
  }

-- a list that is not empty holds a page
pub holds_some : (xs : List ℕ) → (length xs ≡ 0 → ⊥) → (h : ℕ) × (holds xs h ≡ true)
holds_some [] some = absurd (some refl)
holds_some (x ∷ xs) some = (x, or_left (eqb x x) (holds xs x) (eq-eqb x x refl))

pub holds_none : (xs : List ℕ) → length xs ≡ 0 → (p : ℕ) → holds xs p ≡ false
holds_none [] none p = refl
holds_none (x ∷ xs) none p = absurd (omega arith)
