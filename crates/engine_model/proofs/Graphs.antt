-- The edges of a list after the calls of a graph, and that no call makes a cycle.
use Rattle.std.proofs.Common.{◌≡◌, ◌⊎◌, inl, inr, ℕ, Bool, true, false, not, ◌&&◌, ◌||◌, arith, refl, sym, ap, ◌∙◌, subst, true≢false, List, [], ◌∷◌, cond, eqb, ne_eqb}
use Rattle.std.proofs.lemmas.Bool.{cases_eq, cases_Bool, and_parts}
use Rattle.order_model.specs.declared.Kind.{Kind}
use Rattle.order_model.specs.declared.Kind.TheVariants.{Barrier, Live}
use Rattle.order_model.specs.Edges.{Edge, has_barred, has_live, is_live}
use Rattle.engine_model.specs.EdgeList.{after_add, after_drop, after_wrote, after_barrier}
use Rattle.order_model.specs.Paths.{LivePath, leg, via, IsAcyclic, Closes}

live_bits : (x y l p rest : Bool) → ((x && (y && (l && not p))) || (rest && not p)) ≡ ((x && (y && l)) || rest) && not p
live_bits x y l p rest = grind arith

barred_bits : (x y l p b rest : Bool) → ((x && (y && not (l && not p))) || (b || (rest && p))) ≡ ((x && (y && not l)) || b) || (((x && (y && l)) || rest) && p)
barred_bits x y l p b rest = grind arith

-- the test on the edge is the test on its page
same_page : (e : Edge) (a b page : ℕ) → (live : Bool) → (eqb e.before a && (eqb e.after b && (live && not (eqb e.before page)))) ≡ (eqb e.before a && (eqb e.after b && (live && not (eqb a page))))
same_page e a b page live = elim (cases_eq e.before a) [
  | inl is ↦ rw (← is)
  | inr ne ↦ rw (ne_eqb e.before a ne)
]

same_barred : (e : Edge) (a b page : ℕ) → (live : Bool) → (eqb e.before a && (eqb e.after b && not (live && not (eqb e.before page)))) ≡ (eqb e.before a && (eqb e.after b && not (live && not (eqb a page))))
same_barred e a b page live = elim (cases_eq e.before a) [
  | inl is ↦ rw (← is)
  | inr ne ↦ rw (ne_eqb e.before a ne)
]

-- an edge from the written page waits for the barrier alone
wrote_live : (b : Bool) (k : Kind) → is_live (cond b Barrier k) ≡ (is_live k && not b)
wrote_live true Live = refl
wrote_live true Barrier = refl
wrote_live false Live = refl
wrote_live false Barrier = refl

pub live_wrote : (es : List Edge) (page a b : ℕ) → has_live (after_wrote page es) a b ≡ has_live es a b && not (eqb a page)
live_wrote [] page a b = refl
live_wrote (e ∷ es) page a b = rw (wrote_live (eqb e.before page) e.kind, live_wrote es page a b, same_page e a b page (is_live e.kind)) (live_bits (eqb e.before a) (eqb e.after b) (is_live e.kind) (eqb a page) (has_live es a b))

pub barred_wrote : (es : List Edge) (page a b : ℕ) → has_barred (after_wrote page es) a b ≡ has_barred es a b || (has_live es a b && eqb a page)
barred_wrote [] page a b = refl
barred_wrote (e ∷ es) page a b = rw (wrote_live (eqb e.before page) e.kind, barred_wrote es page a b, same_barred e a b page (is_live e.kind)) (barred_bits (eqb e.before a) (eqb e.after b) (is_live e.kind) (eqb a page) (has_barred es a b) (has_live es a b))

pub live_barrier : (es : List Edge) (a b : ℕ) → has_live (after_barrier es) a b ≡ has_live es a b
live_barrier [] a b = refl
live_barrier (e ∷ es) a b = elim (cases_Bool (is_live e.kind)) [
  | inl is ↦ rw is (rw (is, live_barrier es a b) refl)
  | inr off ↦ rw (off, live_barrier es a b) (gone (eqb e.before a) (eqb e.after b) (has_live es a b))
]
  where
    gone : (x y rest : Bool) → rest ≡ ((x && (y && false)) || rest)
    gone x y rest = grind arith

pub barred_barrier : (es : List Edge) (a b : ℕ) → has_barred (after_barrier es) a b ≡ false
barred_barrier [] a b = refl
barred_barrier (e ∷ es) a b = elim (cases_Bool (is_live e.kind)) [
  | inl is ↦ rw is (rw (is, barred_barrier es a b) (gone (eqb e.before a) (eqb e.after b)))
  | inr off ↦ rw off (barred_barrier es a b)
]
  where
    gone : (x y : Bool) → ((x && (y && false)) || false) ≡ false
    gone x y = grind arith

there : (a b x y : ℕ) (f : ℕ → ℕ → Bool) → f a b ≡ true → f x y ≡ ((eqb a x && (eqb b y && true)) || f x y)
there a b x y f h = elim (cases_eq a x) [
  | inr ne ↦ rw (ne_eqb a x ne)
  | inl e ↦ elim (cases_eq b y) [
    | inr ne ↦ rw (ne_eqb b y ne) (no_more (eqb a x) (f x y))
    | inl d ↦ let is : f x y ≡ true = sym (ap (λ z. f z y) e) ∙ sym (ap (λ z. f a z) d) ∙ h in rw is (all_true (eqb a x && (eqb b y && true)))
  ]
]
  where
    no_more : (p q : Bool) → q ≡ ((p && (false && true)) || q)
    no_more p q = grind arith

    all_true : (p : Bool) → true ≡ (p || true)
    all_true p = grind arith

off : (p q r : Bool) → r ≡ ((p && (q && false)) || r)
off p q r = grind arith

pub live_added : (e : Edge) (es : List Edge) (a b : ℕ) → has_live (after_add e es) a b ≡ (eqb e.before a && (eqb e.after b && is_live e.kind)) || has_live es a b
live_added e es a b = elim (cases_Bool (is_live e.kind)) [
  | inl is ↦ elim (cases_Bool (has_live es e.before e.after)) [
    | inl old ↦ rw (is, old) (there e.before e.after a b (has_live es) old)
    | inr new ↦ rw (is, new) (rw is refl)
  ]
  | inr barrier ↦ elim (cases_Bool (has_barred es e.before e.after)) [
    | inl old ↦ rw (barrier, old) (off (eqb e.before a) (eqb e.after b) (has_live es a b))
    | inr new ↦ rw (barrier, new) (rw barrier refl)
  ]
]

pub barred_added : (e : Edge) (es : List Edge) (a b : ℕ) → has_barred (after_add e es) a b ≡ (eqb e.before a && (eqb e.after b && not (is_live e.kind))) || has_barred es a b
barred_added e es a b = elim (cases_Bool (is_live e.kind)) [
  | inr is ↦ elim (cases_Bool (has_barred es e.before e.after)) [
    | inl old ↦ rw (is, old) (there e.before e.after a b (has_barred es) old)
    | inr new ↦ rw (is, new) (rw is refl)
  ]
  | inl live ↦ elim (cases_Bool (has_live es e.before e.after)) [
    | inl old ↦ rw (live, old) (off (eqb e.before a) (eqb e.after b) (has_barred es a b))
    | inr new ↦ rw (live, new) (rw live refl)
  ]
]

keep_bits : (x y l p rest : Bool) → (p && l) ≡ false → ((x && (y && l)) || (rest && not p)) ≡ ((x && (y && l)) || rest) && not p
keep_bits x y l p rest h = grind arith

pub live_dropped : (es : List Edge) (page a b : ℕ) → has_live (after_drop page es) a b ≡ has_live es a b && not (eqb a page)
live_dropped [] page a b = refl
live_dropped (e ∷ es) page a b = elim (cases_Bool (eqb e.before page && is_live e.kind)) [
  | inl gone ↦ rw (gone, live_dropped es page a b) (gone_here (and_parts _ _ gone).0)
  | inr stays ↦ rw (stays, live_dropped es page a b) (stays_here stays)
]
  where
    gone_here : eqb e.before page ≡ true → (has_live es a b && not (eqb a page)) ≡ ((eqb e.before a && (eqb e.after b && is_live e.kind)) || has_live es a b) && not (eqb a page)
    gone_here at = elim (cases_eq e.before a) [
      | inr ne ↦ rw (ne_eqb e.before a ne)
      | inl same ↦ rw (← same, at) (all_off (has_live es e.before b) (eqb e.before e.before && (eqb e.after b && is_live e.kind)))
    ]
      where
        all_off : (p q : Bool) → (p && not true) ≡ ((q || p) && not true)
        all_off p q = grind arith

    stays_here : (eqb e.before page && is_live e.kind) ≡ false → ((eqb e.before a && (eqb e.after b && is_live e.kind)) || (has_live es a b && not (eqb a page))) ≡ ((eqb e.before a && (eqb e.after b && is_live e.kind)) || has_live es a b) && not (eqb a page)
    stays_here h = elim (cases_eq e.before a) [
      | inr ne ↦ rw (ne_eqb e.before a ne)
      | inl same ↦ rw (← same) (keep_bits (eqb e.before e.before) (eqb e.after b) (is_live e.kind) (eqb e.before page) (has_live es e.before b) h)
    ]

pub barred_dropped : (es : List Edge) (page a b : ℕ) → has_barred (after_drop page es) a b ≡ has_barred es a b
barred_dropped [] page a b = refl
barred_dropped (e ∷ es) page a b = elim (cases_Bool (eqb e.before page && is_live e.kind)) [
  | inl gone ↦ let live : is_live e.kind ≡ true = (and_parts (eqb e.before page) (is_live e.kind) gone).1 in rw (gone, barred_dropped es page a b, live) (off (eqb e.before a) (eqb e.after b) (has_barred es a b))
  | inr stays ↦ rw (stays, barred_dropped es page a b)
]

-- fewer edges make no cycle
path_old : {live less : ℕ → ℕ → Bool} {a b : ℕ} → ((a b : ℕ) → less a b ≡ true → live a b ≡ true) → LivePath less a b → LivePath live a b
path_old sub (leg e) = leg (sub _ _ e)
path_old sub (via e p) = via (sub _ _ e) (path_old sub p)

pub acyclic_fewer : (live less : ℕ → ℕ → Bool) → ((a b : ℕ) → less a b ≡ true → live a b ≡ true) → IsAcyclic live → IsAcyclic less
acyclic_fewer live less sub old a p = old a (path_old sub p)

-- new edges none of which begins where a way from the end of one of them leads make no cycle
join : {live : ℕ → ℕ → Bool} {a b c : ℕ} → LivePath live a b → LivePath live b c → LivePath live a c
join (leg e) q = via e q
join (via e p) q = via e (join p q)

module _ (live more : ℕ → ℕ → Bool) (New : ℕ → ℕ → Type 0) (only : (a b : ℕ) → more a b ≡ true → (live a b ≡ true) ⊎ New a b) where
  abbrev Reach : ℕ → ℕ → Type 0
  Reach a b = (a ≡ b) ⊎ LivePath live a b

  -- from a along old edges to the first new one, and from the end of the last one on to b
  record Crosses (a b : ℕ) : Type 0 where
    start : ℕ
    first_end : ℕ
    first : New start first_end
    last_start : ℕ
    end : ℕ
    last : New last_start end
    there : Reach a start
    on : Reach end b

  reach_on : (a b c : ℕ) → live a b ≡ true → Reach b c → Reach a c
  reach_on a b c e (inl same) = inr (subst (λ z. LivePath live a z) same (leg e))
  reach_on a b c e (inr p) = inr (via e p)

  reach_join : (a b c : ℕ) → Reach a b → Reach b c → Reach a c
  reach_join a b c (inl same) q = subst (λ z. Reach z c) (sym same) q
  reach_join a b c (inr p) (inl same) = inr (subst (λ z. LivePath live a z) same p)
  reach_join a b c (inr p) (inr q) = inr (join p q)

  split : {a b : ℕ} → LivePath more a b → LivePath live a b ⊎ Crosses a b
  split {a = a} {b = b} (leg e) = elim (only _ _ e) [
    | inl l ↦ inl (leg l)
    | inr n ↦ inr (record { start = a; first_end = b; first = n; last_start = a; end = b; last = n; there = inl refl; on = inl refl })
  ]
  split {b = c} (via {a = a} {b = b} e p) = elim (only _ _ e) [
    | inl l ↦ elim (split p) [ inl q ↦ inl (via l q) | inr q ↦ inr (record { start = q.start; first_end = q.first_end; first = q.first; last_start = q.last_start; end = q.end; last = q.last; there = reach_on a b q.start l q.there; on = q.on }) ]
    | inr n ↦ inr (elim (split p) [
      | inl q ↦ record { start = a; first_end = b; first = n; last_start = a; end = b; last = n; there = inl refl; on = inr q }
      | inr q ↦ record { start = a; first_end = b; first = n; last_start = q.last_start; end = q.end; last = q.last; there = inl refl; on = q.on }
    ])
  ]

  pub acyclic_more : IsAcyclic live → ((a b x y : ℕ) → New a b → New x y → Closes live a y → ⊥) → IsAcyclic more
  acyclic_more old no_cycle a p = elim (split p) [
    | inl q ↦ old a q
    | inr q ↦ elim (reach_join q.end a q.start q.on q.there) [
      | inl same ↦ no_cycle _ _ _ _ q.first q.last (inl (sym same))
      | inr r ↦ no_cycle _ _ _ _ q.first q.last (inr r)
    ]
  ]

-- a way ends in an edge, and begins with one
pub way_ends : {live : ℕ → ℕ → Bool} {a b : ℕ} → LivePath live a b → (c : ℕ) × (live c b ≡ true)
way_ends {a = a} (leg e) = (a, e)
way_ends (via e p) = way_ends p

pub way_begins : {live : ℕ → ℕ → Bool} {a b : ℕ} → LivePath live a b → (c : ℕ) × (live a c ≡ true)
way_begins {b = b} (leg e) = (b, e)
way_begins (via {b = b} e p) = (b, e)

pub way_longer : {live more : ℕ → ℕ → Bool} {a b : ℕ} → ((a b : ℕ) → live a b ≡ true → more a b ≡ true) → LivePath live a b → LivePath more a b
way_longer sub p = path_old sub p

pub acyclic_none : (live : ℕ → ℕ → Bool) → ((a b : ℕ) → live a b ≡ false) → IsAcyclic live
acyclic_none live none a p = let q = way_begins p in true≢false (sym q.1 ∙ none a q.0)

-- no edge begins at the page, so none to it closes
pub begins_none : (live : ℕ → ℕ → Bool) (a b : ℕ) → (a ≡ b → ⊥) → ((c : ℕ) → live b c ≡ false) → Closes live a b → ⊥
begins_none live a b ne none (inl e) = ne e
begins_none live a b ne none (inr way) = let q = way_begins way in true≢false (sym q.1 ∙ none q.0)
