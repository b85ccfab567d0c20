-- "At most k blocks are covered" is "the number of covered blocks is at most k".
use Rattle.std.proofs.Common.{◌≡◌, ◌↔◌, inl, inr, ◌≤◌, ℕ, true, refl, sym, ap, ◌∙◌, List, [], ◌∷◌, eq-eqb, eqb-true, le_trans}
use Rattle.std.proofs.lemmas.Bool.{or_cases, or_left, or_right, and_parts, and_from, not-true, not_from_false}
use Rattle.order_model.specs.World.{Layout, World}
use Rattle.order_model.specs.Contents.{IsAmong}
use Rattle.order_model.specs.Counting.{count_below, AtMost}
use Rattle.engine_model.specs.Counts.{Covered}
use Rattle.engine_model.specs.CoveredCount.{some_names, is_covered}
use Rattle.engine_model.proofs.Counting.{count_mono}

names_from : (lay : Layout) (cs : List (List ℕ)) (p l : ℕ) (c : List ℕ) → IsAmong c cs → lay.name_in c l ≡ p → some_names lay cs p l ≡ true
unfolding IsAmong
names_from lay [] p l c h n = absurd h
names_from lay (x ∷ xs) p l c (inl e) n = or_left _ _ (eq-eqb _ p (ap (λ y. lay.name_in y l) (sym e) ∙ n))
names_from lay (x ∷ xs) p l c (inr h) n = or_right _ _ (names_from lay xs p l c h n)

names_at : (lay : Layout) (cs : List (List ℕ)) (p l : ℕ) → some_names lay cs p l ≡ true → (c : List ℕ) × IsAmong c cs × (lay.name_in c l ≡ p)
unfolding IsAmong
names_at lay [] p l t = cc
names_at lay (x ∷ xs) p l t = elim (or_cases _ _ t) [
  | inl e ↦ (x, inl refl, eqb-true _ p e)
  | inr m ↦ let more = names_at lay xs p l m in (more.0, inr more.1, more.2)
]

covered_is : (lay : Layout) (w : World) (p l : ℕ) → (is_covered lay w p l ≡ true) ↔ Covered lay w p l
unfolding IsAmong
covered_is lay w p l = (to, from)
  where
    to : is_covered lay w p l ≡ true → Covered lay w p l
    to t = elim (or_cases _ _ t) [
      | inl n ↦ let at = names_at lay (w.newest (lay.map_page l) ∷ w.older (lay.map_page l)) p l n in inl (record { content = at.0; possible = at.1; names = at.2 })
      | inr n ↦ let q = and_parts _ _ n in let r = and_parts _ _ q.1 in inr (eqb-true _ p q.0, (not-true _ r.0, not-true _ r.1))
    ]

    from : Covered lay w p l → is_covered lay w p l ≡ true
    from (inl n) = or_left _ _ (names_from lay (w.newest (lay.map_page l) ∷ w.older (lay.map_page l)) p l n.content n.possible n.names)
    from (inr n) = or_right _ _ (and_from _ _ (eq-eqb _ p n.0) (and_from _ _ (not_from_false _ n.1.0) (not_from_false _ n.1.1)))

pub covered_size : (lay : Layout) (w : World) (p k : ℕ) → AtMost lay.blocks (Covered lay w p) k ↔ (count_below (is_covered lay w p) lay.blocks ≤ k)
covered_size lay w p k = (
  (λ most. most (is_covered lay w p) (λ l lt t. (covered_is lay w p l).0 t)),
  (λ few S h. le_trans (count_mono lay.blocks S (is_covered lay w p) (λ l lt s. (covered_is lay w p l).1 (h l lt s))) few),
)
