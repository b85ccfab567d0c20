use Rattle.std.proofs.Common.{◌≡◌, refl, ap, sym, subst, length, Some}
use Rattle.std.specs.Prelude.{slice_get}
use Rattle.std.specs.List.{All}
use Rattle.std.proofs.lemmas.Option.{slice_get_read}
use Rattle.release_queue.specs.Queued.{QueueLists}
use Rattle.store_core.specs.Whole.{IsPlaced}
use Rattle.store_core.proofs.AppliedLaws.{leaves_queue, leaves_stands}
use Rattle.store_core.proofs.Queued.{placed_at, placed_removed}
use Rattle.store_core.proofs.OrderlyReleases.{out_orderly}
use Rattle.store_core.proofs.Core.let_go.Goals as goal

pub invariant_of-self : goal.invariant_of-self
invariant_of-self c =
    let core = c.args.self.now in
    record {
      whole = record {
        engine_whole = core.whole.engine_whole;
        within = core.whole.within;
        placed = subst (λ (q : QueueLists). All (IsPlaced core.shape) q.releases) (sym c.remove.ensures.others) (placed_removed core.shape c.args.i core.ledger.queue.releases core.whole.placed);
        pool_shape = core.whole.pool_shape;
        slots = core.whole.slots;
      };
    }

pub returns-clause-laws : goal.returns-clause-laws
returns-clause-laws c r at =
    let core = c.args.self.now in
    leaves_queue core _ c.args.i r at (placed_at core.shape core.ledger.queue.releases c.args.i r at core.whole.placed) (c.requires.held r at) (c.requires.none r at) refl refl
    (ap (λ (q : QueueLists). record core.ledger { queue = q }) c.remove.ensures.others)

pub returns-clause-stands : goal.returns-clause-stands
returns-clause-stands c =
    let core = c.args.self.now in
    let r = c.remove.result in
    let at : slice_get core.ledger.queue.releases c.args.i ≡ Some r = slice_get_read core.ledger.queue.releases (length core.ledger.queue.releases) c.args.i r refl c.requires.queued c.remove.ensures.release in
    leaves_stands core _ c.args.i r at (placed_at core.shape core.ledger.queue.releases c.args.i r at core.whole.placed) (c.requires.held r at) (c.requires.none r at)

pub returns-clause-orderly : goal.returns-clause-orderly
returns-clause-orderly c =
    let core = c.args.self.now in
    let r = c.remove.result in
    let at : slice_get core.ledger.queue.releases c.args.i ≡ Some r = slice_get_read core.ledger.queue.releases (length core.ledger.queue.releases) c.args.i r refl c.requires.queued c.remove.ensures.release in
    out_orderly core _ refl refl refl c.args.i r at (ap (λ (q : QueueLists). q.releases) c.remove.ensures.others)
