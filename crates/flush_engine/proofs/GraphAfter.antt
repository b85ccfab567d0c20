-- The graph after pages were written.
use Rattle.std.proofs.Common.{◌≡◌, ◌⊎◌, inl, inr, ℕ, Bool, true, false, not, ◌&&◌, ◌||◌, List, [], ◌∷◌, refl, sym, ◌∙◌, ap, arith}
use Rattle.std.proofs.lemmas.Bool.{and_from, and_parts, cases_Bool, or_cases, or_left, or_right, true≢false}
use Rattle.dep_graph.specs.Calls.{Wrote}
use Rattle.dep_graph.specs.Lists.{GraphLists, barred_in, dirty_in, is_ready, live_in, waits_in}
use Rattle.dep_graph.specs.Pages.{holds}
use Rattle.dep_graph.proofs.PageLemmas.{flip}
use Rattle.dep_graph.proofs.ReadyLemmas.{waited_for}

-- these pages were written
pub record AllWrote (pages : List ℕ) (old new : GraphLists) : Type 0 where
  pub dirty : (a : ℕ) → dirty_in new a ≡ (dirty_in old a && not (holds pages a))
  pub live : (a b : ℕ) → live_in new a b ≡ (live_in old a b && not (holds pages a))
  pub barred : (a b : ℕ) → barred_in new a b ≡ (barred_in old a b || (live_in old a b && holds pages a))

and_none : (x : Bool) → x ≡ (x && not false)
and_none x = grind arith

or_and_none : (x y : Bool) → x ≡ (x || (y && false))
or_and_none x y = grind arith

pub wrote_none : (g : GraphLists) → AllWrote [] g g
wrote_none g = record {
  dirty = λ a. and_none _;
  live = λ a b. and_none _;
  barred = λ a b. or_and_none _ _;
}

and_more : (x e h y z : Bool) → y ≡ (x && not e) → z ≡ (y && not h) → z ≡ (x && not (e || h))
and_more x e h y z p q = grind arith

barred_more : (x l e h y m z : Bool) → y ≡ (x || (l && e)) → m ≡ (l && not e) → z ≡ (y || (m && h)) → z ≡ (x || (l && (e || h)))
barred_more x l e h y m z p q r = grind arith

pub wrote_more : (page : ℕ) (pages : List ℕ) (g h k : GraphLists) → Wrote page g h → AllWrote pages h k → AllWrote (page ∷ pages) g k
wrote_more page pages g h k w all = record {
  dirty = λ a. and_more _ _ _ _ _ (w.dirty a ∙ ap (λ x. dirty_in g a && not x) (flip a page)) (all.dirty a);
  live = λ a b. and_more _ _ _ _ _ (w.live a b ∙ ap (λ x. live_in g a b && not x) (flip a page)) (all.live a b);
  barred = λ a b. barred_more _ _ _ _ _ _ _ (w.barred a b ∙ ap (λ x. barred_in g a b || (live_in g a b && x)) (flip a page)) (w.live a b ∙ ap (λ x. live_in g a b && not x) (flip a page)) (all.barred a b);
}

split_live : (l h : Bool) → l ≡ true → ((l && not h) ≡ true) ⊎ ((l && h) ≡ true)
split_live l true e = inr (and_from _ _ e refl)
split_live l false e = inl (and_from _ _ e refl)

-- an edge leads to a page still, if only until the barrier
waits_same : (pages : List ℕ) (g k : GraphLists) (b : ℕ) → AllWrote pages g k → waits_in k b ≡ waits_in g b
waits_same pages g k b all = elim (cases_Bool (waits_in g b)) [
  | inl on ↦ let s = (waited_for g b).0 on in (waited_for k b).1 (s.0, still s.0 s.1) ∙ sym on
  | inr off ↦ elim (cases_Bool (waits_in k b)) [
    | inr off' ↦ off' ∙ sym off
    | inl on ↦ absurd (let s = (waited_for k b).0 on in true≢false (sym ((waited_for g b).1 (s.0, back s.0 s.1)) ∙ off))
  ]
]
  where
    still : (a : ℕ) → (live_in g a b ≡ true) ⊎ (barred_in g a b ≡ true) → (live_in k a b ≡ true) ⊎ (barred_in k a b ≡ true)
    still a (inr barred) = inr (all.barred a b ∙ or_left _ _ barred)
    still a (inl live) = elim (split_live (live_in g a b) (holds pages a) live) [
      | inl left ↦ inl (all.live a b ∙ left)
      | inr gone ↦ inr (all.barred a b ∙ or_right _ _ gone)
    ]

    back : (a : ℕ) → (live_in k a b ≡ true) ⊎ (barred_in k a b ≡ true) → (live_in g a b ≡ true) ⊎ (barred_in g a b ≡ true)
    back a (inl live) = inl (and_parts _ _ (sym (all.live a b) ∙ live)).0
    back a (inr barred) = elim (or_cases _ _ (sym (all.barred a b) ∙ barred)) [
      | inl was ↦ inr was
      | inr and ↦ inl (and_parts _ _ and).0
    ]

ready_bits : (d w h d' w' : Bool) → d' ≡ (d && not h) → w' ≡ w → (d' && not w') ≡ ((d && not w) && not h)
ready_bits d w h d' w' p q = grind arith

-- so of the other pages the same are ready
pub ready_same : (pages : List ℕ) (g k : GraphLists) (b : ℕ) → AllWrote pages g k → is_ready k b ≡ (is_ready g b && not (holds pages b))
ready_same pages g k b all = ready_bits _ _ _ _ _ (all.dirty b) (waits_same pages g k b all)

pub ready_dirty : (g : GraphLists) (a : ℕ) → is_ready g a ≡ true → dirty_in g a ≡ true
ready_dirty g a r = (and_parts _ _ r).0
