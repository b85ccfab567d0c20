-- What the vectors of a graph say of its lists.
use Rattle.std.proofs.Common.{◌≡◌, inl, inr, ℕ, suc, ◌+◌, ◌<◌, ◌≤◌, Bool, true, false, not, ◌&&◌, ◌||◌, List, [], ◌∷◌, ◌++◌, length, map, filter, refl, sym, ◌∙◌, ap, arith, eqb, eqb-true, eq-eqb, ne_eqb, Option, Some, None}
use Rattle.std.specs.Prelude.{if◌then◌else◌}
use Rattle.std.specs.List.{list_any}
use Rattle.std.proofs.lemmas.Bool.{and_parts, cases_Bool, cases_eq, or_from, true≢false}
use Rattle.dep_graph.specs.declared.pairs.Pair.{Pair}
use Rattle.dep_graph.specs.Pages.{holds, IsLeast, IsRising}
use Rattle.order_model.specs.Paths.{LivePath}
use Rattle.dep_graph.specs.Pairs.{has_pair, ends_at, from_page, not_from_page, AreRising, Precedes}
use Rattle.order_model.specs.Edges.{Edge, is_live}
use Rattle.dep_graph.specs.Lists.{AreOnce, IsGraph, barrier_edge, edges_of, live_edge}
use Rattle.dep_graph.specs.Waits.{Waits, waits_for}
use Rattle.std.proofs.lemmas.List.Filters.{length-filter_both}
use Rattle.dep_graph.specs.Kept.{IsKept, hung_alone}
use Rattle.dep_graph.proofs.PathLemmas.{acyclic_fewer, way_begins, way_ends}
use Rattle.dep_graph.proofs.PageLemmas.{fewer, fewer_by_one, holds_filter}
use Rattle.dep_graph.proofs.RisingLemmas.{any_where, rises_append, rises_filter, rises_map}

any_append : {X : Type 0} (q : X → Bool) (xs ys : List X) → list_any q (xs ++ ys) ≡ list_any q xs || list_any q ys
any_append q [] ys = refl
any_append q (x ∷ xs) ys = rw (any_append q xs ys) (join (q x) (list_any q xs) (list_any q ys))
  where
    join : (x y z : Bool) → (x || (y || z)) ≡ ((x || y) || z)
    join x y z = grind arith

-- a test of edges, over edges of one kind
any_map : {X Y : Type 0} (f : X → Y) (q : Y → Bool) (r : X → Bool) → ((x : X) → q (f x) ≡ r x) → (xs : List X) → list_any q (map f xs) ≡ list_any r xs
any_map f q r same [] = refl
any_map f q r same (x ∷ xs) = rw (same x, any_map f q r same xs)

none : {X : Type 0} (xs : List X) → list_any (λ x. false) xs ≡ false
none [] = refl
none (x ∷ xs) = none xs

on_true : (x y : Bool) → (x && (y && true)) ≡ (x && y)
on_true x y = grind arith

on_false : (x y : Bool) → (x && (y && false)) ≡ false
on_false x y = grind arith

nothing_more : (x : Bool) → (x || false) ≡ x
nothing_more x = grind arith

pub live_is : (live barred : List Pair) (a b : ℕ) → list_any (λ (e : Edge). eqb e.before a && (eqb e.after b && is_live e.kind)) (edges_of live barred) ≡ has_pair live a b
live_is live barred a b =
    any_append (λ (e : Edge). eqb e.before a && (eqb e.after b && is_live e.kind)) (map live_edge live) (map barrier_edge barred)
    ∙ rw (
      any_map live_edge (λ (e : Edge). eqb e.before a && (eqb e.after b && is_live e.kind)) (λ p. eqb p.before a && eqb p.after b) (λ p. on_true (eqb p.before a) (eqb p.after b)) live,
      any_map barrier_edge (λ (e : Edge). eqb e.before a && (eqb e.after b && is_live e.kind)) (λ p. false) (λ p. on_false (eqb p.before a) (eqb p.after b)) barred,
      none barred,
    ) (nothing_more (has_pair live a b))

pub barred_is : (live barred : List Pair) (a b : ℕ) → list_any (λ (e : Edge). eqb e.before a && (eqb e.after b && not (is_live e.kind))) (edges_of live barred) ≡ has_pair barred a b
barred_is live barred a b =
    any_append (λ (e : Edge). eqb e.before a && (eqb e.after b && not (is_live e.kind))) (map live_edge live) (map barrier_edge barred)
    ∙ rw (
      any_map live_edge (λ (e : Edge). eqb e.before a && (eqb e.after b && not (is_live e.kind))) (λ p. false) (λ p. on_false (eqb p.before a) (eqb p.after b)) live,
      any_map barrier_edge (λ (e : Edge). eqb e.before a && (eqb e.after b && not (is_live e.kind))) (λ p. eqb p.before a && eqb p.after b) (λ p. on_true (eqb p.before a) (eqb p.after b)) barred,
      none live,
    )

ends_any : (ps : List Pair) (b : ℕ) → list_any (λ p. eqb p.after b) ps ≡ not (eqb (ends_at ps b) 0)
unfolding ends_at
ends_any [] b = refl
ends_any (p ∷ ps) b = elim (cases_Bool (eqb p.after b)) [
  | inl is ↦ rw (is, ne_eqb (1 + ends_at ps b) 0 (λ e. omega arith))
  | inr off ↦ rw (off, ends_any ps b) (let same : 0 + ends_at ps b ≡ ends_at ps b = omega arith in rw same)
]

both_none : (x y : ℕ) → not (eqb x 0) || not (eqb y 0) ≡ not (eqb (x + y) 0)
both_none x y = elim (cases_eq x 0) [
  | inl e ↦ elim (cases_eq y 0) [
    | inl f ↦ rw (eq-eqb x 0 e, eq-eqb y 0 f, eq-eqb (x + y) 0 (omega arith))
    | inr nf ↦ rw (eq-eqb x 0 e, ne_eqb y 0 nf, ne_eqb (x + y) 0 (λ g. nf (omega arith)))
  ]
  | inr ne ↦ rw (ne_eqb x 0 ne, ne_eqb (x + y) 0 (λ g. ne (omega arith)))
]

-- the pages to which an edge leads are those that an edge of one kind or the other ends at
pub waits_is : (live barred : List Pair) (b : ℕ) → list_any (λ (e : Edge). eqb e.after b) (edges_of live barred) ≡ not (eqb (ends_at live b + ends_at barred b) 0)
waits_is live barred b =
    any_append (λ (e : Edge). eqb e.after b) (map live_edge live) (map barrier_edge barred)
    ∙ rw (any_map live_edge (λ (e : Edge). eqb e.after b) (λ p. eqb p.after b) (λ p. refl) live, any_map barrier_edge (λ (e : Edge). eqb e.after b) (λ p. eqb p.after b) (λ p. refl) barred, ends_any live b, ends_any barred b)
    (both_none (ends_at live b) (ends_at barred b))

-- of two pairs of which one precedes the other no edges are the same
not_same : (p q : Pair) → Precedes p q → p.before ≡ q.before → p.after ≡ q.after → ⊥
not_same p q (inl less) same last = omega arith
not_same p q (inr both) same last = let less = both.1 in omega arith

-- each edge stands once
each_once : (live barred : List Pair) → AreRising live → AreRising barred → AreOnce (edges_of live barred)
each_once live barred live_up barred_up = rises_append (λ (e f : Edge). e ≡ f → ⊥) barrier_edge live_edge live barred
    (rises_map Precedes (λ (e f : Edge). e ≡ f → ⊥) live_edge (λ p q less same. not_same p q less (ap (λ (e : Edge). e.before) same) (ap (λ (e : Edge). e.after) same)) live live_up)
    (rises_map Precedes (λ (e f : Edge). e ≡ f → ⊥) barrier_edge (λ p q less same. not_same p q less (ap (λ (e : Edge). e.before) same) (ap (λ (e : Edge). e.after) same)) barred barred_up)
    (λ p q same. true≢false (ap (λ (e : Edge). is_live e.kind) same))

pub graph_of : (dirty : Waits) (hung : List ℕ) (hung_only : ℕ) (live barred : List Pair) (n e : ℕ) → IsKept dirty hung hung_only live barred
    → IsGraph (record { dirty = dirty.pages; hung = hung; edges = edges_of live barred; spare_nodes = n; spare_edges = e })
graph_of dirty hung hung_only live barred n e k = record {
  dirty_once = k.dirty_rising;
  hung_once = k.hung_rising;
  edges_once = each_once live barred k.live_rising k.barred_rising;
  live_ends = λ a b h. k.live_ends a b (sym (live_is live barred a b) ∙ h);
  barred_ends = λ a b h. k.barred_ends a b (sym (barred_is live barred a b) ∙ h);
  acyclic = acyclic_fewer (has_pair live) _ (λ a b h. sym (live_is live barred a b) ∙ h) k.acyclic;
}

-- no more pages are hung than there are nodes
pub hung_within : (dirty : Waits) (hung : List ℕ) (hung_only : ℕ) (live barred : List Pair) → IsKept dirty hung hung_only live barred → length hung ≤ length dirty.pages + hung_only
hung_within dirty hung hung_only live barred k =
    let both = length-filter_both (holds dirty.pages) (λ a. not (holds dirty.pages a)) (λ a. refl) hung in
    let marked = fewer (filter (holds dirty.pages) hung) dirty.pages (rises_filter (λ a b. a < b) (holds dirty.pages) hung k.hung_rising) k.dirty_rising
    (λ a h. (and_parts _ _ (sym (holds_filter (holds dirty.pages) hung a) ∙ h)).1) in
    omega (arith, k.alone)

-- where a pair ends, the number of those that end there is above 0
pub has_ends : (ps : List Pair) (a b : ℕ) → has_pair ps a b ≡ true → 0 < ends_at ps b
unfolding ends_at
has_ends [] a b h = absurd (cc)
has_ends (p ∷ ps) a b h = elim (cases_Bool (eqb p.after b)) [
  | inl is ↦ rw is (omega arith)
  | inr off ↦ let rest = has_ends ps a b (rw (off, never (eqb p.before a) (has_pair ps a b)) at h) in rw off (omega arith)
]
  where
    never : (x y : Bool) → ((x && false) || y) ≡ y
    never x y = grind arith

-- what the pairs that begin at a page, and the others, hold
pub has_from : (ps : List Pair) (page a b : ℕ) → has_pair (from_page ps page) a b ≡ has_pair ps a b && eqb a page
has_from [] page a b = refl
has_from (p ∷ ps) page a b = elim (cases_Bool (eqb p.before page)) [
  | inl is ↦ rw (is, has_from ps page a b) (elim (cases_eq p.before a) [
    | inl e ↦ rw (e, ap (λ x. eqb x page) (sym e) ∙ is) (yes_here (eqb a a && eqb p.after b) (has_pair ps a b))
    | inr ne ↦ rw (ne_eqb p.before a ne)
  ])
  | inr off ↦ rw (off, has_from ps page a b) (elim (cases_eq p.before a) [
    | inl e ↦ rw (e, ap (λ x. eqb x page) (sym e) ∙ off) (not_here (eqb a a && eqb p.after b) (has_pair ps a b))
    | inr ne ↦ rw (ne_eqb p.before a ne)
  ])
]
  where
    yes_here : (x y : Bool) → (x || (y && true)) ≡ ((x || y) && true)
    yes_here x y = grind arith

    not_here : (x y : Bool) → (y && false) ≡ ((x || y) && false)
    not_here x y = grind arith

pub has_not_from : (ps : List Pair) (page a b : ℕ) → has_pair (not_from_page ps page) a b ≡ has_pair ps a b && not (eqb a page)
has_not_from [] page a b = refl
has_not_from (p ∷ ps) page a b = elim (cases_Bool (eqb p.before page)) [
  | inl is ↦ rw (is, has_not_from ps page a b) (elim (cases_eq p.before a) [
    | inl e ↦ rw (e, ap (λ x. eqb x page) (sym e) ∙ is) (gone (eqb a a && eqb p.after b) (has_pair ps a b))
    | inr ne ↦ rw (ne_eqb p.before a ne)
  ])
  | inr off ↦ rw (off, has_not_from ps page a b) (elim (cases_eq p.before a) [
    | inl e ↦ rw (e, ap (λ x. eqb x page) (sym e) ∙ off) (stays (eqb a a && eqb p.after b) (has_pair ps a b))
    | inr ne ↦ rw (ne_eqb p.before a ne)
  ])
]
  where
    gone : (x y : Bool) → (y && not true) ≡ ((x || y) && not true)
    gone x y = grind arith

    stays : (x y : Bool) → (x || (y && not false)) ≡ ((x || y) && not false)
    stays x y = grind arith

pub ends_parts : (ps : List Pair) (page b : ℕ) → ends_at (from_page ps page) b + ends_at (not_from_page ps page) b ≡ ends_at ps b
unfolding ends_at
ends_parts [] page b = omega arith
ends_parts (p ∷ ps) page b = let rest = ends_parts ps page b in elim (cases_Bool (eqb p.before page)) [
  | inl is ↦ rw is (omega arith)
  | inr off ↦ rw off (omega arith)
]

-- a page to which no edge leads has the number 0
pub none_leads : (dirty : Waits) (hung : List ℕ) (hung_only : ℕ) (live barred : List Pair) (page : ℕ) → IsKept dirty hung hung_only live barred → list_any (λ (e : Edge). eqb e.after page) (edges_of live barred) ≡ false → waits_for dirty page ≡ 0
none_leads dirty hung hung_only live barred page k off = elim (cases_eq (waits_for dirty page) 0) [
  | inl e ↦ e
  | inr ne ↦ absurd (let is : not (eqb (waits_for dirty page) 0) ≡ false = ap (λ n. not (eqb n 0)) (k.counts page) ∙ sym (waits_is live barred page) ∙ off in let no' = ne_eqb _ _ ne in let bad : true ≡ false = sym (ap not no') ∙ is in cc)
]

pub ready_is : (dirty : Waits) (hung : List ℕ) (hung_only : ℕ) (live barred : List Pair) (page : ℕ) → IsKept dirty hung hung_only live barred
    → (holds dirty.pages page && eqb (waits_for dirty page) 0) ≡ (holds dirty.pages page && not (list_any (λ (e : Edge). eqb e.after page) (edges_of live barred)))
ready_is dirty hung hung_only live barred page k = rw (waits_is live barred page, k.counts page) (twice (holds dirty.pages page) (eqb (ends_at live page + ends_at barred page) 0))
  where
    twice : (x y : Bool) → (x && y) ≡ (x && not (not y))
    twice x y = grind arith

pub ends_le : (ps : List Pair) (b : ℕ) → ends_at ps b ≤ length ps
unfolding ends_at
ends_le [] b = omega arith
ends_le (p ∷ ps) b = let rest = ends_le ps b in elim (cases_Bool (eqb p.after b)) [
  | inl is ↦ rw is (omega arith)
  | inr off ↦ rw off (omega arith)
]

pub length_parts : (ps : List Pair) (page : ℕ) → length (from_page ps page) + length (not_from_page ps page) ≡ length ps
length_parts ps page = length-filter_both (λ (p : Pair). eqb p.before page) (λ p. not (eqb p.before page)) (λ x. refl) ps

-- the least of the same pages
pub least_same : (P Q : ℕ → Type 0) (from : ℕ) (r : Option ℕ) → ((a : ℕ) → P a → Q a) → ((a : ℕ) → Q a → P a) → IsLeast P from r → IsLeast Q from r
least_same P Q from (Some page) to back h = (to page h.0, h.1, λ a q. h.2 a (back a q))
least_same P Q from None to back h = λ a q. h a (back a q)

-- the hung pages that are not dirty
pub alone_is : (dirty hung : List ℕ) (a : ℕ) → holds (hung_alone dirty hung) a ≡ holds hung a && not (holds dirty a)
alone_is dirty hung a = holds_filter (λ p. not (holds dirty p)) hung a

pub alone_rises : (dirty hung : List ℕ) → IsRising hung → IsRising (hung_alone dirty hung)
alone_rises dirty hung up = rises_filter (λ a b. a < b) (λ p. not (holds dirty p)) hung up

-- where there is one, their number is above 0
pub some_alone : (dirty : Waits) (hung : List ℕ) (hung_only : ℕ) (live barred : List Pair) (page : ℕ) → IsKept dirty hung hung_only live barred → holds dirty.pages page ≡ false → holds hung page ≡ true → 0 < hung_only
some_alone dirty hung hung_only live barred page k off on =
    let w = any_where (λ p. eqb p page) (hung_alone dirty.pages hung) 0 (alone_is dirty.pages hung page ∙ rw (off, on)) in
    omega (arith, k.alone, w.1)

-- room for one dirty page more, where it is not dirty
pub dirty_room : (dirty : Waits) (hung : List ℕ) (hung_only : ℕ) (live barred : List Pair) (page spare : ℕ) → IsKept dirty hung hung_only live barred → holds dirty.pages page ≡ false
    → ((holds dirty.pages page || holds hung page) ≡ false → 0 < spare) → 0 < hung_only + spare
dirty_room dirty hung hung_only live barred page spare k off room = elim (cases_Bool (holds hung page)) [
  | inl on ↦ let some = some_alone dirty hung hung_only live barred page k off on in omega arith
  | inr none' ↦ let some : 0 < spare = room (or_from _ _ off none') in omega arith
]

-- no Live edge leads from a page that is not dirty
pub none_from : (dirty : Waits) (hung : List ℕ) (hung_only : ℕ) (live barred : List Pair) (page a b : ℕ) → IsKept dirty hung hung_only live barred → holds dirty.pages page ≡ false → has_pair live a b ≡ has_pair live a b && not (eqb a page)
none_from dirty hung hung_only live barred page a b k off = elim (cases_eq a page) [
  | inr ne ↦ rw (ne_eqb a page ne) (keeps (has_pair live a b))
  | inl e ↦ elim (cases_Bool (has_pair live a b)) [
    | inr none' ↦ rw none'
    | inl on ↦ absurd (let held = (k.live_ends a b on).0 in let same = ap (holds dirty.pages) e in cc)
  ]
]
  where
    keeps : (x : Bool) → x ≡ (x && not false)
    keeps x = grind arith

filter_append : {X : Type 0} (q : X → Bool) (xs ys : List X) → length (filter q (xs ++ ys)) ≡ length (filter q xs) + length (filter q ys)
filter_append q [] ys = omega arith
filter_append q (x ∷ xs) ys = let rest = filter_append q xs ys in elim (cases_Bool (q x)) [
  | inl is ↦ rw is (omega arith)
  | inr off ↦ rw off rest
]

filter_map' : {X Y : Type 0} (f : X → Y) (q : Y → Bool) (r : X → Bool) → ((x : X) → q (f x) ≡ r x) → (xs : List X) → length (filter q (map f xs)) ≡ length (filter r xs)
filter_map' f q r same [] = refl
filter_map' f q r same (x ∷ xs) = let rest = filter_map' f q r same xs in elim (cases_Bool (r x)) [
  | inl is ↦ rw (same x, is) (ap (λ n. suc n) rest)
  | inr off ↦ rw (same x, off) rest
]

filter_nothing : {X : Type 0} (xs : List X) → length (filter (λ x. false) xs) ≡ 0
filter_nothing [] = refl
filter_nothing (x ∷ xs) = filter_nothing xs

pub waiters_are : (live barred : List Pair) (page : ℕ) → length (filter (λ (e : Edge). eqb e.before page && is_live e.kind) (edges_of live barred)) ≡ length (from_page live page)
waiters_are live barred page =
    filter_append (λ (e : Edge). eqb e.before page && is_live e.kind) (map live_edge live) (map barrier_edge barred)
    ∙ rw (
      filter_map' live_edge (λ (e : Edge). eqb e.before page && is_live e.kind) (λ p. eqb p.before page) (λ p. yes_live (eqb p.before page)) live,
      filter_map' barrier_edge (λ (e : Edge). eqb e.before page && is_live e.kind) (λ p. false) (λ p. not_live (eqb p.before page)) barred,
      filter_nothing barred,
    ) (omega arith)
  where
    yes_live : (x : Bool) → (x && true) ≡ x
    yes_live x = grind arith

    not_live : (x : Bool) → (x && false) ≡ false
    not_live x = grind arith

-- room for one hung page more, where a dirty page is not hung
pub hung_room : (dirty : Waits) (hung : List ℕ) (hung_only : ℕ) (live barred : List Pair) (page : ℕ) → IsKept dirty hung hung_only live barred → holds dirty.pages page ≡ true → holds hung page ≡ false → length hung < length dirty.pages + hung_only
hung_room dirty hung hung_only live barred page k on off =
    let both = length-filter_both (holds dirty.pages) (λ a. not (holds dirty.pages a)) (λ a. refl) hung in
    let marked = fewer_by_one (filter (holds dirty.pages) hung) dirty.pages page (rises_filter (λ a b. a < b) (holds dirty.pages) hung k.hung_rising) k.dirty_rising
    (λ a h. (and_parts _ _ (sym (holds_filter (holds dirty.pages) hung a) ∙ h)).1) on (holds_filter (holds dirty.pages) hung page ∙ rw off) in
    omega (arith, k.alone)

-- no way leads to a page that is not dirty, and none from it
pub no_way_to : (dirty : Waits) (hung : List ℕ) (hung_only : ℕ) (live barred : List Pair) (a b : ℕ) → IsKept dirty hung hung_only live barred → holds dirty.pages b ≡ false → LivePath (has_pair live) a b → ⊥
no_way_to dirty hung hung_only live barred a b k off way = let q = way_ends way in true≢false (sym (k.live_ends q.0 b q.1).1 ∙ off)

pub no_way_from : (dirty : Waits) (hung : List ℕ) (hung_only : ℕ) (live barred : List Pair) (a b : ℕ) → IsKept dirty hung hung_only live barred → holds dirty.pages a ≡ false → LivePath (has_pair live) a b → ⊥
no_way_from dirty hung hung_only live barred a b k off way = let q = way_begins way in true≢false (sym (k.live_ends a q.0 q.1).0 ∙ off)

-- of the pairs that begin not at one page, those that begin at another are all of that page's, and none begins at the one
pub from_others : (ps : List Pair) (page a : ℕ) → length (from_page (not_from_page ps page) a) ≡ (if eqb a page then 0 else length (from_page ps a))
from_others ps page a = elim (cases_eq a page) [
  | inl e ↦ rw (e, eq-eqb page page refl) (none_left ps)
  | inr ne ↦ rw (ne_eqb a page ne) (others ps ne)
]
  where
    none_left : (ps : List Pair) → length (from_page (not_from_page ps page) page) ≡ 0
    none_left [] = refl
    none_left (p ∷ ps) = elim (cases_Bool (eqb p.before page)) [
      | inl is ↦ rw is (none_left ps)
      | inr off ↦ rw (off, off) (none_left ps)
    ]

    others : (ps : List Pair) → (a ≡ page → ⊥) → length (from_page (not_from_page ps page) a) ≡ length (from_page ps a)
    others [] ne = refl
    others (p ∷ ps) ne = elim (cases_Bool (eqb p.before page)) [
      | inl is ↦ rw (is, ne_eqb p.before a (λ e. ne (sym e ∙ eqb-true p.before page is))) (others ps ne)
      | inr off ↦ elim (cases_Bool (eqb p.before a)) [
        | inl here ↦ rw (off, here) (ap suc (others ps ne))
        | inr there ↦ rw (off, there) (others ps ne)
      ]
    ]
