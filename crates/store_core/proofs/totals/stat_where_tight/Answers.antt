use Rattle.std.proofs.Common.{arith}
use Rattle.engine_model.proofs.TightNumbers.{at_least, at_most}
use Rattle.store_core.specs.Layout.{lay_of}
use Rattle.store_core.specs.Views.{world_of}
use Rattle.store_core.proofs.Totaled.{no_waste, queue_length}
use Rattle.store_core.proofs.totals.stat_where_tight.Goals as goal

pub returns-clause-waste : goal.returns-clause-waste
returns-clause-waste c version d core t tight are = no_waste version d core t tight are

pub returns-clause-at_least : goal.returns-clause-at_least
returns-clause-at_least c version d core t tight are = let l = are.live in let n = at_least (lay_of core.shape) version (world_of d core) tight in omega (arith, l, n)

pub returns-clause-at_most : goal.returns-clause-at_most
returns-clause-at_most c version d core t tight are =
    let l = are.live in let n = at_most (lay_of core.shape) version (world_of d core) tight in let q = queue_length version d core t tight are in omega (arith, l, n, q)
