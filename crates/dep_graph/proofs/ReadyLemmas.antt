-- Of the dirty pages of a graph one waits for no write.
use Rattle.std.proofs.Common.{◌≡◌, ◌⊎◌, ◌↔◌, inl, inr, ℕ, Bool, true, false, not, ◌&&◌, List, [], ◌∷◌, get_or, refl, sym, ◌∙◌, ap, subst, eqb, eqb-true, eq-eqb}
use Rattle.std.specs.List.{list_any}
use Rattle.std.proofs.lemmas.Bool.{and_from, and_parts, cases_Bool, false_from_ne_true, not-false, not-true, not_from_false, or_cases, or_left, or_right, true≢false}
use Rattle.order_model.specs.declared.Kind.TheVariants.{Live}
use Rattle.order_model.specs.Edges.{Edge, is_live}
use Rattle.dep_graph.specs.Lists.{GraphLists, IsGraph, barred_in, dirty_in, is_ready, live_in, waits_in}
use Rattle.dep_graph.specs.Pages.{holds}
use Rattle.order_model.specs.Paths.{Closes, leg, LivePath, via}
use Rattle.dep_graph.proofs.LevelLemmas.{no_source}
use Rattle.dep_graph.proofs.RisingLemmas.{any_at, any_where}

-- one of the pages passes a test, or none does
one_or_none : (q : ℕ → Bool) (pages : List ℕ) → ((p : ℕ) × ((holds pages p ≡ true) × (q p ≡ true))) ⊎ ((p : ℕ) → holds pages p ≡ true → q p ≡ false)
one_or_none q [] = inr (λ p h. absurd (cc))
one_or_none q (x ∷ xs) = elim (cases_Bool (q x)) [
  | inl is ↦ inl (x, (or_left _ _ (eq-eqb x x refl), is))
  | inr off ↦ elim (one_or_none q xs) [
    | inl one ↦ inl (one.0, (or_right _ _ one.1.0, one.1.1))
    | inr none ↦ inr (λ p h. elim (or_cases (eqb x p) (holds xs p) h) [
      | inl here ↦ subst (λ n. q n ≡ false) (eqb-true x p here) off
      | inr later ↦ none p later
    ])
  ]
]

-- a Live edge leads to the page
abbrev live_to : List Edge → ℕ → Bool
live_to edges b = list_any (λ (e : Edge). eqb e.after b && is_live e.kind) edges

no_edge : Edge
no_edge = record { before = 0; after = 0; kind = Live }

live_from : (g : GraphLists) (b : ℕ) → live_to g.edges b ≡ true → (a : ℕ) × (live_in g a b ≡ true)
live_from g b h =
    let w = any_where (λ (e : Edge). eqb e.after b && is_live e.kind) g.edges no_edge h in
    let a : ℕ = (get_or g.edges w.0 no_edge).before in
    (a, any_at (λ (e : Edge). eqb e.before a && (eqb e.after b && is_live e.kind)) g.edges w.0 no_edge w.1 (and_from _ _ (eq-eqb a a refl) w.2))

none_from : (g : GraphLists) (a b : ℕ) → live_to g.edges b ≡ false → live_in g a b ≡ false
none_from g a b off = elim (cases_Bool (live_in g a b)) [
  | inr none ↦ none
  | inl is ↦ absurd (
      let w = any_where (λ (e : Edge). eqb e.before a && (eqb e.after b && is_live e.kind)) g.edges no_edge is in
      true≢false (sym (any_at (λ (e : Edge). eqb e.after b && is_live e.kind) g.edges w.0 no_edge w.1 (and_parts _ _ w.2).1) ∙ off))
]

pub some_free : (g : GraphLists) (page : ℕ) → IsGraph g → dirty_in g page ≡ true → (a : ℕ) × ((dirty_in g a ≡ true) × ((b : ℕ) → live_in g b a ≡ false))
some_free g page graph h = elim (one_or_none (λ a. not (live_to g.edges a)) g.dirty) [
  | inl one ↦ (one.0, (one.1.0, λ b. none_from g b one.0 (not-true _ one.1.1)))
  | inr none ↦ absurd (no_source (live_in g) graph.acyclic g.dirty (back none) page h)
]
  where
    back : ((p : ℕ) → holds g.dirty p ≡ true → not (live_to g.edges p) ≡ false) → (p : ℕ) → holds g.dirty p ≡ true → (a : ℕ) × (LivePath (live_in g) a p × (holds g.dirty a ≡ true))
    back none p here = let w = live_from g p (not-false (live_to g.edges p) (none p here)) in (w.0, (leg w.1, (graph.live_ends w.0 p w.1).0))

-- no edge leads to a page that waits for no write, where no page is hung
no_edge_to : (g : GraphLists) (b : ℕ) → IsGraph g → g.hung ≡ [] → ((a : ℕ) → live_in g a b ≡ false) → waits_in g b ≡ false
no_edge_to g b graph none_hung none_live = elim (cases_Bool (waits_in g b)) [
  | inr none ↦ none
  | inl is ↦ absurd (
      let w = any_where (λ (e : Edge). eqb e.after b) g.edges no_edge is in
      let e : Edge = get_or g.edges w.0 no_edge in
      elim (cases_Bool (is_live e.kind)) [
        | inl live ↦
            let there : live_in g e.before b ≡ true = any_at (λ (f : Edge). eqb f.before e.before && (eqb f.after b && is_live f.kind)) g.edges w.0 no_edge w.1 (and_from _ _ (eq-eqb _ _ refl) (and_from _ _ w.2 live)) in
            true≢false (sym there ∙ none_live e.before)
        | inr barrier ↦
            let there : barred_in g e.before b ≡ true = any_at (λ (f : Edge). eqb f.before e.before && (eqb f.after b && not (is_live f.kind))) g.edges w.0 no_edge w.1 (and_from _ _ (eq-eqb _ _ refl) (and_from _ _ w.2 (not_from_false _ barrier))) in
            true≢false (sym (graph.barred_ends e.before b there).0 ∙ ap (λ pages. holds pages e.before) none_hung)
      ])
]

pub some_ready : (g : GraphLists) (page : ℕ) → IsGraph g → g.hung ≡ [] → dirty_in g page ≡ true → (a : ℕ) × (is_ready g a ≡ true)
some_ready g page graph none_hung h =
    let one = some_free g page graph h in
    (one.0, and_from _ _ one.1.0 (not_from_false _ (no_edge_to g one.0 graph none_hung one.1.1)))

-- an edge that leads to a page is of one kind or the other
waits_from : (g : GraphLists) (b : ℕ) → waits_in g b ≡ true → (a : ℕ) × ((live_in g a b ≡ true) ⊎ (barred_in g a b ≡ true))
waits_from g b is =
    let w = any_where (λ (e : Edge). eqb e.after b) g.edges no_edge is in
    let e : Edge = get_or g.edges w.0 no_edge in (
      e.before,
      elim (cases_Bool (is_live e.kind)) [
        | inl live ↦ inl (any_at (λ (f : Edge). eqb f.before e.before && (eqb f.after b && is_live f.kind)) g.edges w.0 no_edge w.1 (and_from _ _ (eq-eqb _ _ refl) (and_from _ _ w.2 live)))
        | inr barrier ↦ inr (any_at (λ (f : Edge). eqb f.before e.before && (eqb f.after b && not (is_live f.kind))) g.edges w.0 no_edge w.1 (and_from _ _ (eq-eqb _ _ refl) (and_from _ _ w.2 (not_from_false _ barrier))))
      ],
    )

-- from a list of pages those of a kind can be taken, unless that is absurd
choose : (P : ℕ → Type 0) (pages : List ℕ) → ((l : List ℕ) → ((a : ℕ) → holds l a ≡ true → (holds pages a ≡ true) × P a) → ((a : ℕ) → holds pages a ≡ true → P a → holds l a ≡ true) → ⊥) → ⊥
choose P [] k = k [] (λ a h. absurd (true≢false (sym h))) (λ a h p. h)
choose P (x ∷ xs) k = choose P xs (λ l sound full.
    let no_x : P x → ⊥ = λ px. k (x ∷ l)
    (λ a h. elim (or_cases (eqb x a) (holds l a) h) [
      | inl here ↦ (or_left _ _ here, subst P (eqb-true x a here) px)
      | inr later ↦ let s = sound a later in (or_right _ _ s.0, s.1)
    ])
    (λ a h p. elim (or_cases (eqb x a) (holds xs a) h) [
      | inl here ↦ or_left _ _ here
      | inr later ↦ or_right _ _ (full a later p)
    ]) in
    k l
    (λ a h. let s = sound a h in (or_right _ _ s.0, s.1))
    (λ a h p. elim (or_cases (eqb x a) (holds xs a) h) [
      | inl here ↦ absurd (no_x (subst P (sym (eqb-true x a here)) p))
      | inr later ↦ full a later p
    ]))

-- where nothing is hung, a dirty page is ready, or some ready page has a way to it
pub some_serves : (g : GraphLists) (page : ℕ) → IsGraph g → g.hung ≡ [] → dirty_in g page ≡ true → ((a : ℕ) → is_ready g a ≡ true → Closes (live_in g) page a → ⊥) → ⊥
some_serves g page graph none_hung dirty none =
    choose (Closes (live_in g) page) g.dirty (λ l sound full. no_source (live_in g) graph.acyclic l (λ p on. back l full p (sound p on).0 (sound p on).1) page (full page dirty (inl refl)))
  where
    waits : (p : ℕ) → holds g.dirty p ≡ true → Closes (live_in g) page p → waits_in g p ≡ true
    waits p d c = elim (cases_Bool (waits_in g p)) [
      | inl on ↦ on
      | inr off ↦ absurd (none p (and_from _ _ d (not_from_false _ off)) c)
    ]

    further : (a p : ℕ) → live_in g a p ≡ true → Closes (live_in g) page p → Closes (live_in g) page a
    further a p e (inl same) = inr (leg (subst (λ n. live_in g a n ≡ true) (sym same) e))
    further a p e (inr way) = inr (via e way)

    back : (l : List ℕ) → ((a : ℕ) → holds g.dirty a ≡ true → Closes (live_in g) page a → holds l a ≡ true) → (p : ℕ) → holds g.dirty p ≡ true → Closes (live_in g) page p → (a : ℕ) × (LivePath (live_in g) a p × (holds l a ≡ true))
    back l full p d c = let w = waits_from g p (waits p d c) in elim w.1 [
      | inl live ↦ (w.0, (leg live, full w.0 (graph.live_ends w.0 p live).0 (further w.0 p live c)))
      | inr barred ↦ absurd (true≢false (sym (graph.barred_ends w.0 p barred).0 ∙ ap (λ (h : List ℕ). holds h w.0) none_hung))
    ]

waits_to : (g : GraphLists) (a b : ℕ) → (live_in g a b ≡ true) ⊎ (barred_in g a b ≡ true) → waits_in g b ≡ true
waits_to g a b (inl live) =
    let w = any_where (λ (e : Edge). eqb e.before a && (eqb e.after b && is_live e.kind)) g.edges no_edge live in
    any_at (λ (e : Edge). eqb e.after b) g.edges w.0 no_edge w.1 (and_parts _ _ (and_parts _ _ w.2).1).0
waits_to g a b (inr barred) =
    let w = any_where (λ (e : Edge). eqb e.before a && (eqb e.after b && not (is_live e.kind))) g.edges no_edge barred in
    any_at (λ (e : Edge). eqb e.after b) g.edges w.0 no_edge w.1 (and_parts _ _ (and_parts _ _ w.2).1).0

pub waited_for : (g : GraphLists) (b : ℕ) → (waits_in g b ≡ true) ↔ ((a : ℕ) × ((live_in g a b ≡ true) ⊎ (barred_in g a b ≡ true)))
waited_for g b = (waits_from g b, λ edge. waits_to g edge.0 b edge.1)

pub none_waits : (g : GraphLists) (b : ℕ) → (waits_in g b ≡ false) ↔ ((a : ℕ) → (live_in g a b ≡ false) × (barred_in g a b ≡ false))
none_waits g b = (
  λ off a. (
    false_from_ne_true _ (λ is. true≢false (sym (waits_to g a b (inl is)) ∙ off)),
    false_from_ne_true _ (λ is. true≢false (sym (waits_to g a b (inr is)) ∙ off)),
  ),
  λ none. false_from_ne_true _ (λ is. let edge = waits_from g b is in elim edge.1 [
    | inl live ↦ true≢false (sym live ∙ (none edge.0).0)
    | inr barred ↦ true≢false (sym barred ∙ (none edge.0).1)
  ]),
)

pub ready_alone : (g : GraphLists) (b : ℕ) → (is_ready g b ≡ true) ↔ ((dirty_in g b ≡ true) × ((a : ℕ) → (live_in g a b ≡ false) × (barred_in g a b ≡ false)))
ready_alone g b = (
  λ is. let parts = and_parts _ _ is in (parts.0, (none_waits g b).0 (not-true _ parts.1)),
  λ parts. and_from _ _ parts.0 (not_from_false _ ((none_waits g b).1 parts.1)),
)
