use Rattle.std.proofs.Common.{◌≡◌, ◌∙◌, sym, ap, ℕ, false, eq-eqb}
use Rattle.std.proofs.lemmas.Bool.{and_from, and_parts, not-true}
use Rattle.page_layout.specs.Shape.{data_page}
use Rattle.dep_graph.specs.Lists.{waits_in}
use Rattle.ref_counts.specs.Counts.{count_in}
use Rattle.store_core.specs.Applied.{count_of_release}
use Rattle.store_core.specs.Views.{page_in}
use Rattle.store_core.proofs.AppliedLaws.{goes_away}
use Rattle.store_core.proofs.Moved.{count_cached}
use Rattle.store_core.proofs.OrderlyEdits.{give_up_orderly}
use Rattle.store_core.proofs.Released.{content_lost}
use Rattle.store_core.proofs.Core.lose_content.Goals as goal

pub returns-then-loose-clause-lost : goal.returns-then-loose-clause-lost
returns-then-loose-clause-lost c =
    let core = c.args.self.now in
    let r = c.args.release in
    let none : count_of_release core r ≡ 0 = ap (λ (n : ℕ). count_in (page_in core n) r.page) c.requires.placed.count_at ∙ sym c.count_of-count.ensures ∙ c.if-count-ne0.false in
    content_lost core c.give_up.new.self r (and_from _ _ (eq-eqb (count_of_release core r) 0 none) (sym c.is_loose-loose.ensures ∙ c.if-loose.true)) c.give_up.ensures.rest c.give_up.ensures.given_up

pub returns-then-loose-clause-laws : goal.returns-then-loose-clause-laws
returns-then-loose-clause-laws c =
    let core = c.args.self.now in
    let r = c.args.release in
    let none : count_of_release core r ≡ 0 = ap (λ (n : ℕ). count_in (page_in core n) r.page) c.requires.placed.count_at ∙ sym c.count_of-count.ensures ∙ c.if-count-ne0.false in
    let alone : waits_in core.engine.graph (data_page core.shape r.page) ≡ false = not-true _ (and_parts _ _ (and_parts _ _ (sym c.is_loose-loose.ensures ∙ c.if-loose.true)).0).1 in
    goes_away core c.give_up.new.self r c.requires.placed c.requires.held none alone c.give_up.ensures.rest.shape c.give_up.ensures.rest.ledger c.give_up.ensures.world

pub returns-then-loose-clause-stands : goal.returns-then-loose-clause-stands
returns-then-loose-clause-stands c = λ sound d array s.
    let core = c.args.self.now in
    let r = c.args.release in
    let none : count_of_release core r ≡ 0 = ap (λ (n : ℕ). count_in (page_in core n) r.page) c.requires.placed.count_at ∙ sym c.count_of-count.ensures ∙ c.if-count-ne0.false in
    c.give_up.ensures.stands sound d array s (count_cached d core r c.requires.placed c.requires.held ∙ none)

pub returns-then-loose-clause-in_order : goal.returns-then-loose-clause-in_order
returns-then-loose-clause-in_order c = let g = c.give_up.ensures in
    give_up_orderly c.args.release.page c.args.release.page c.args.self.now c.give_up.new.self c.requires.placed.first c.requires.placed.last g.rest g.world g.given_up

pub returns-then-count-ne0-clause-in_order : goal.returns-then-count-ne0-clause-in_order
returns-then-count-ne0-clause-in_order c o = o

pub returns-else-loose-clause-in_order : goal.returns-else-loose-clause-in_order
returns-else-loose-clause-in_order c o = o

pub returns-then-loose-clause-calls : goal.returns-then-loose-clause-calls
returns-then-loose-clause-calls c = c.give_up.ensures.given_up.cache.numbers.calls
