-- A graph has a node where its count is above 0.
use Rattle.std.proofs.Common.{◌≡◌, ◌⊎◌, inl, inr, ◌<◌, ℕ, Bool, true, false, not, List, [], ◌∷◌, length, filter, eq-eqb, sym, ◌∙◌, ap, refl, arith}
use Rattle.std.proofs.lemmas.Bool.{and_from, cases_Bool, not_from_false, or_cases, or_left, or_right, true≢false}
use Rattle.dep_graph.specs.Lists.{GraphLists, dirty_in, hung_in, is_node, node_count}
use Rattle.dep_graph.specs.Pages.{holds}
use Rattle.dep_graph.proofs.PageLemmas.{holds_filter}

some_of : (l : List ℕ) → 0 < length l → (a : ℕ) × (holds l a ≡ true)
some_of [] lt = absurd (omega arith)
some_of (x ∷ xs) lt = (x, or_left _ _ (eq-eqb x x refl))

is_some : (l : List ℕ) (a : ℕ) → holds l a ≡ true → 0 < length l
is_some [] a h = absurd (true≢false (sym h))
is_some (x ∷ xs) a h = omega arith

some_filter : (q : ℕ → Bool) (l : List ℕ) → 0 < length (filter q l) → 0 < length l
some_filter q [] lt = lt
some_filter q (x ∷ xs) lt = omega arith

-- a page that is hung alone counts beside the dirty ones
pub hung_counts : (g : GraphLists) (a : ℕ) → dirty_in g a ≡ false → hung_in g a ≡ true → length g.dirty < node_count g
hung_counts g a clean hung =
    let there : holds (filter (λ a. not (dirty_in g a)) g.hung) a ≡ true = holds_filter (λ a. not (dirty_in g a)) g.hung a ∙ and_from _ _ hung (not_from_false _ clean) in
    let pos = is_some (filter (λ a. not (dirty_in g a)) g.hung) a there in
    omega (arith, pos)

pub some_node : (g : GraphLists) → 0 < node_count g → (a : ℕ) × (is_node g a ≡ true)
some_node g up = elim (some g.dirty refl) [
  | inl pos ↦ let s = some_of g.dirty pos in (s.0, or_left _ _ s.1)
  | inr none ↦
      let pos : 0 < length (filter (λ a. not (dirty_in g a)) g.hung) = omega (arith, up, none) in
      let s = some_of g.hung (some_filter (λ a. not (dirty_in g a)) g.hung pos) in
      (s.0, or_right _ _ s.1)
]
  where
    some : (l : List ℕ) → g.dirty ≡ l → (0 < length g.dirty) ⊎ (length g.dirty ≡ 0)
    some [] e = inr (ap length e)
    some (x ∷ xs) e = inl (let is : length g.dirty ≡ length (x ∷ xs) = ap length e in omega (arith, is))

pub no_node : (g : GraphLists) → node_count g ≡ 0 → (a : ℕ) → is_node g a ≡ false
no_node g none a = elim (cases_Bool (is_node g a)) [
  | inr off ↦ off
  | inl node ↦ absurd (elim (cases_Bool (dirty_in g a)) [
    | inl dirty ↦ let pos = is_some g.dirty a dirty in omega (arith, pos, none)
    | inr clean ↦ elim (or_cases (dirty_in g a) (hung_in g a) node) [
      | inl dirty ↦ true≢false (sym dirty ∙ clean)
      | inr hung ↦ let pos = hung_counts g a clean hung in omega (arith, pos, none)
    ]
  ])
]
