use Rattle.std.proofs.Common.{◌∙◌, refl, sym, ap, subst, map}
use Rattle.std.specs.List.{All}
use Rattle.release_queue.specs.Queued.{QueueLists}
use Rattle.store_core.specs.Views.{plain_release, world_of}
use Rattle.store_core.specs.Whole.{IsPlaced}
use Rattle.store_core.proofs.Edited.{state_stands}
use Rattle.store_core.proofs.Moved.{moment_kept}
use Rattle.store_core.proofs.Queued.{queue_world}
use Rattle.store_core.proofs.Releases.{moved_by_change, placed_changed}
use Rattle.store_core.proofs.Core.look_again.Goals as goal

pub invariant_of-self : goal.invariant_of-self
invariant_of-self c =
    let core = c.args.self.now in
    record {
      whole = record {
        engine_whole = core.whole.engine_whole;
        within = core.whole.within;
        placed = subst (λ (q : QueueLists). All (IsPlaced core.shape) q.releases) (sym c.page_changed.ensures) (placed_changed core.shape c.args.p core.ledger.queue.releases core.whole.placed);
        pool_shape = core.whole.pool_shape;
        slots = core.whole.slots;
      };
    }

pub returns-clause-world : goal.returns-clause-world
returns-clause-world c d =
    let core = c.args.self.now in
    queue_world d core.engine.cache core.engine.graph core.ledger.queue c.page_changed.new.self (map plain_release core.ledger.queue.releases)
    (ap (λ (q : QueueLists). map plain_release q.releases) c.page_changed.ensures ∙ moved_by_change c.args.p core.ledger.queue.releases)

pub returns-clause-stands : goal.returns-clause-stands
returns-clause-stands c sound d array s = state_stands sound d c.args.self.now _ array s refl refl refl (world_of d c.args.self.now) (returns-clause-world c d) s.kept

pub returns-clause-moments : goal.returns-clause-moments
returns-clause-moments c d m is = moment_kept d c.args.self.now _ refl refl refl (returns-clause-world c d) m is
