use Rattle.release_queue.proofs.LookLemmas.{unmarked_is}
use Rattle.release_queue.proofs.queue.unmark.Goals as goal

pub returns : goal.returns
returns c = unmarked_is c.args.releases.now c.args.i _ c.requires
