use Rattle.std.proofs.Common.{◌≡◌, ◌∙◌, ◌||◌, ◌&&◌, ◌-◌, ap, refl, sym, eqb, eq-eqb, ne_eqb, ℕ, inl, inr, max, length, cond, arith}
use Rattle.std.proofs.lemmas.Bool.{cases_eq}
use Rattle.dep_graph.specs.Trails.{seen}
use Rattle.dep_graph.specs.Waits.{count_at}
use Rattle.dep_graph.proofs.LevelLemmas.{changed_num, free_apart, free_front, free_grows, free_seen, free_within, read_num}
use Rattle.dep_graph.proofs.levels.relax.Goals as goal

pub overflow_sub-count : goal.overflow_sub-count
overflow_sub-count c =
    let is = read_num c.args.pages.now c.args.left.now.items c.position_of-at.result c.args.page c.index-count.result.now c.requires.rising c.requires.left_each c.position_of-at.ensures c.index-count.ensures in
    omega (arith, c.requires.waits)

pub overflow_sub-count-2 : goal.overflow_sub-count-2
overflow_sub-count-2 c =
    let is = read_num c.args.pages.now c.args.left.now.items c.position_of-at.result c.args.page c.index-count.result.now c.requires.rising c.requires.left_each c.position_of-at.ensures c.index-count.ensures in
    omega (arith, c.requires.waits)

pub returns-clause-left : goal.returns-clause-left
returns-clause-left c = changed_num c.args.pages.now c.args.left.now.items c.position_of-at.result c.args.page c.index-count.result.now c.requires.rising c.requires.left_each c.position_of-at.ensures c.index-count.ensures (λ n. n - 1)

pub returns-clause-level : goal.returns-clause-level
returns-clause-level c = λ p. rw c.max.ensures (changed_num c.args.pages.now c.args.level.now.items c.position_of-at.result c.args.page c.index-before.result.now c.requires.rising c.requires.level_each c.position_of-at.ensures c.index-before.ensures (λ n. max n c.args.height) p)

pub returns-clause-seen : goal.returns-clause-seen
returns-clause-seen c = λ p.
    let left = changed_num c.args.pages.now c.args.left.now.items c.position_of-at.result c.args.page c.index-count.result.now c.requires.rising c.requires.left_each c.position_of-at.ensures c.index-count.ensures (λ n. n - 1) p in
    let is = read_num c.args.pages.now c.args.left.now.items c.position_of-at.result c.args.page c.index-count.result.now c.requires.rising c.requires.left_each c.position_of-at.ensures c.index-count.ensures in
    free_seen c.args.pages.now c.args.search.now.reached c.visit_free.new.search.reached c.position_of-at.result c.args.page (c.index-count.result.now - 1) c.position_of-at.ensures.is c.visit_free.ensures.reached p
    ∙ ap (λ b. seen c.args.pages.now c.args.search.now.reached p || b) (at_page p c.args.page (c.index-count.result.now - 1) (count_at c.args.pages.now c.args.left.now.items) _ (ap (λ n. n - 1) is) left)
  where
    at_page : (p page n : ℕ) (old : ℕ → ℕ) (new : ℕ) → n ≡ old page - 1 → new ≡ cond (eqb p page) (old p - 1) (old p) → (eqb p page && eqb n 0) ≡ (eqb p page && eqb new 0)
    at_page p page n old new is later = elim (cases_eq p page) [
      | inl e ↦ let f : new ≡ n = rw (e, eq-eqb page page refl) at later ∙ sym is in rw f
      | inr ne ↦ rw (ne_eqb p page ne)
    ]

pub returns-clause-within : goal.returns-clause-within
returns-clause-within c = free_within c.args.pages.now c.args.search.now.reached c.visit_free.new.search.reached c.position_of-at.result c.args.page (c.index-count.result.now - 1) c.position_of-at.ensures.is c.visit_free.ensures.reached (length c.args.pages.now) c.position_of-at.ensures.within c.requires.within

pub returns-clause-apart : goal.returns-clause-apart
returns-clause-apart c = free_apart c.args.pages.now c.args.search.now.reached c.visit_free.new.search.reached c.position_of-at.result c.args.page (c.index-count.result.now - 1) c.position_of-at.ensures.is c.visit_free.ensures.reached c.requires.apart

pub returns-clause-front : goal.returns-clause-front
returns-clause-front c = free_front c.args.pages.now c.args.search.now.reached c.visit_free.new.search.reached c.position_of-at.result c.args.page (c.index-count.result.now - 1) c.position_of-at.ensures.is c.visit_free.ensures.reached

pub returns-clause-grows : goal.returns-clause-grows
returns-clause-grows c = free_grows c.args.pages.now c.args.search.now.reached c.visit_free.new.search.reached c.position_of-at.result c.args.page (c.index-count.result.now - 1) c.position_of-at.ensures.is c.visit_free.ensures.reached
