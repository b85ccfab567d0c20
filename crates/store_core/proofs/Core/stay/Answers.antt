use Rattle.std.proofs.Common.{◌∙◌, refl, sym, ap, subst, length}
use Rattle.std.specs.List.{All}
use Rattle.release_queue.specs.Queued.{QueueLists}
use Rattle.release_queue.proofs.LookLemmas.{unmarked_length}
use Rattle.store_core.specs.Whole.{IsPlaced}
use Rattle.store_core.proofs.NoCalls.{adds_engine}
use Rattle.store_core.proofs.PartStays.{placed_looked, stays_part, stays_passing}
use Rattle.store_core.proofs.Core.stay.Goals as goal

pub invariant_of-self : goal.invariant_of-self
invariant_of-self c =
    let core = c.args.self.now in
    record {
      whole = record {
        engine_whole = core.whole.engine_whole;
        within = core.whole.within;
        placed = subst (λ (q : QueueLists). All (IsPlaced core.shape) q.releases) (sym c.looked.ensures) (placed_looked core.shape c.args.i core.ledger.queue.releases core.whole.placed);
        pool_shape = core.whole.pool_shape;
        slots = core.whole.slots;
      };
    }

pub returns-clause-part : goal.returns-clause-part
returns-clause-part c x = stays_part c.args.self.now _ c.args.i (refl, refl, ap (λ (q : QueueLists). record c.args.self.now.ledger { queue = q }) c.looked.ensures) c.requires.queued c.requires.waits c.requires.passing x

pub returns-clause-passing : goal.returns-clause-passing
returns-clause-passing c = stays_passing c.args.self.now _ c.args.i (refl, refl, ap (λ (q : QueueLists). record c.args.self.now.ledger { queue = q }) c.looked.ensures) c.requires.queued c.requires.waits c.requires.passing

pub returns-clause-length : goal.returns-clause-length
returns-clause-length c = ap (λ (q : QueueLists). length q.releases) c.looked.ensures ∙ unmarked_length c.args.self.now.ledger.queue.releases c.args.i

pub returns-clause-adds : goal.returns-clause-adds
returns-clause-adds c = adds_engine c.args.self.now _ refl
