use Rattle.std.proofs.Common.{rules, ◌≡◌, ◌↔◌, true}
use Rattle.dep_graph.specs.Lists.{live_in}
use Rattle.release_queue.specs.Needed.{IsBlocked}
use Rattle.release_queue.proofs.TurnLemmas.{turn_of}
use Rattle.release_queue.proofs.blocking.blocked.Goals as goal

pub returns-then-eq-2-clause-in_turn : goal.returns-then-eq-2-clause-in_turn
returns-then-eq-2-clause-in_turn c =
    let is : (c.closes-then-eq-2.result ≡ true) ↔ IsBlocked (live_in c.args.graph.now) c.args.release.now c.args.last_print = search rules in
    turn_of (live_in c.args.graph.now) c.args.release.now c.args.last_print _ is
