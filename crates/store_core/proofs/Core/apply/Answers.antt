use Rattle.std.proofs.Common.{arith, ◌∙◌, sym, subst}
use Rattle.page_layout.specs.Shape.{ShapeView}
use Rattle.store_core.specs.Whole.{IsPlaced}
use Rattle.store_core.proofs.AppliedLaws.{laws_compose}
use Rattle.store_core.proofs.Queued.{placed_at}
use Rattle.store_core.proofs.Released.{applies_release}
use Rattle.store_core.proofs.OrderlyReleases.{applied_orderly}
use Rattle.store_core.proofs.OrderlySteps.{orderly_but}
use Rattle.store_core.proofs.Core.apply.Goals as goal

pub lose_content-requires-clause-placed : goal.lose_content-requires-clause-placed
lose_content-requires-clause-placed c = let core = c.args.self.now in subst (λ (x : ShapeView). IsPlaced x c.args.release) (sym c.lower_release.ensures.lowered.shape) (placed_at core.shape core.ledger.queue.releases c.args.i c.args.release c.requires.queued core.whole.placed)

pub lose_content-requires-clause-held : goal.lose_content-requires-clause-held
lose_content-requires-clause-held c = let is = c.lower_release.ensures.lowered.same.holds c.args.release.count_at in let some = c.requires.count_held in omega (arith, is, some)

pub returns-clause-applied : goal.returns-clause-applied
returns-clause-applied c =
    let core = c.args.self.now in
    applies_release core c.lower_release.new.self c.lose_content.new.self c.args.i c.args.release c.requires (placed_at core.shape core.ledger.queue.releases c.args.i c.args.release c.requires.queued core.whole.placed) c.lower_release.ensures.lowered c.lose_content.ensures.lost

pub returns-clause-laws : goal.returns-clause-laws
returns-clause-laws c = laws_compose c.args.self.now c.lower_release.new.self c.lose_content.new.self c.args.i c.args.release c.lower_release.ensures.lowered.shape c.lower_release.ensures.laws c.lose_content.ensures.laws

pub returns-clause-stands : goal.returns-clause-stands
returns-clause-stands c = λ sound d array s. c.lose_content.ensures.stands sound d array (c.lower_release.ensures.stands sound d array s)

pub returns-clause-orderly : goal.returns-clause-orderly
returns-clause-orderly c o =
    let core = c.args.self.now in
    let r = c.args.release in
    applied_orderly c.args.i r core c.lose_content.new.self c.requires (placed_at core.shape core.ledger.queue.releases c.args.i r c.requires.queued core.whole.placed) (returns-clause-applied c) o
    (c.lose_content.ensures.in_order (c.lower_release.ensures.in_order (orderly_but r.page core o)))

pub returns-clause-calls : goal.returns-clause-calls
returns-clause-calls c = c.lose_content.ensures.calls ∙ c.lower_release.ensures.lowered.same.calls
