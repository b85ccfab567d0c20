use Rattle.std.proofs.Common.{◌≡◌, ◌⊎◌, ◌∙◌, ◌<◌, ◌≤◌, ap, subst, eqb, ℕ, List, Bool, true, false, refl, length, get_or, cond, arith}
use Rattle.std.specs.List.{list_any}
use Rattle.dep_graph.specs.declared.pairs.Pair.{Pair}
use Rattle.dep_graph.specs.Pages.{holds}
use Rattle.dep_graph.proofs.LevelLemmas.{climbed, count_filled, pair_at}
use Rattle.dep_graph.proofs.levels.greatest_level.Goals as goal

pub count_edges-requires-clause-ends : goal.count_edges-requires-clause-ends
count_edges-requires-clause-ends c = λ k d lt. (c.requires.ends _ _ (pair_at c.args.live.now k d lt)).1

pub count_edges-requires-clause-none : goal.count_edges-requires-clause-none
count_edges-requires-clause-none c = λ p. count_filled c.args.pages.now c.fill.new.items.items 0 p c.fill.ensures.len c.fill.ensures.value ∙ both (holds c.args.pages.now p) 0
  where
    both : (b : Bool) (n : ℕ) → cond b n n ≡ n
    both true n = refl
    both false n = refl

pub lift_barred-requires-clause-ends : goal.lift_barred-requires-clause-ends
lift_barred-requires-clause-ends c = λ k d lt. c.requires.barred_ends _ _ (pair_at c.args.barred.now k d lt)

low : (b h : Bool) → cond b 2 (cond h 1 0) ≤ 2
low true h = omega arith
low false true = omega arith
low false false = omega arith

pub climb-requires-clause-low : goal.climb-requires-clause-low
climb-requires-clause-low c = λ p.
    let filled = count_filled c.args.pages.now c.fill-2.new.items.items 1 p c.fill-2.ensures.len c.fill-2.ensures.value in
    let two = low (list_any (λ (e : Pair). eqb e.after p) c.args.barred.now) (holds c.args.pages.now p) in
    rw (c.lift_barred.ensures.levels p, filled) two

pub returns-clause-levels : goal.returns-clause-levels
returns-clause-levels c =
    climbed c.args.live.now c.args.barred.now c.args.pages.now c.lift_barred.new.level.items c.climb.new.level.items c.greatest_of.result c.requires.rising c.climb.ensures.level_each
    (λ p. c.lift_barred.ensures.levels p ∙ ap (λ n. cond (list_any (λ (e : Pair). eqb e.after p) c.args.barred.now) 2 n) (count_filled c.args.pages.now c.fill-2.new.items.items 1 p c.fill-2.ensures.len c.fill-2.ensures.value))
    c.climb.ensures.above c.climb.ensures.is c.climb.ensures.grows
    (subst (λ (l : List ℕ). (k : ℕ) → k < length l → get_or l k 0 ≤ c.greatest_of.result) c.deref-2.ensures.value c.greatest_of.ensures.most)
    (subst (λ (l : List ℕ). ((c.greatest_of.result ≡ 0) × (length l ≡ 0)) ⊎ ((k : ℕ) × ((k < length l) × (get_or l k 0 ≡ c.greatest_of.result)))) c.deref-2.ensures.value c.greatest_of.ensures.reached)
