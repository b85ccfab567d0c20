use Rattle.std.proofs.Common.{◌*◌, ◌≤◌, arith}
use Rattle.page_alloc.proofs.FillLemmas.{filled_inside, filled_behind}
use Rattle.page_alloc.proofs.pool.fill.Goals as goal

enough : (c : goal.After-loop-group) → c.args.pages ≤ 64 * c.loop-group.group
enough c = omega (arith, c.div_ceil-group-end.ensures, c.loop-group-test.false)

pub returns-clause-inside : goal.returns-clause-inside
returns-clause-inside c = filled_inside c.args.pages c.loop-group.group c.loop-group.groups c.loop-group.free c.loop-group.invariant (enough c)

pub returns-clause-behind : goal.returns-clause-behind
returns-clause-behind c = filled_behind c.args.pages c.loop-group.group c.loop-group.groups c.loop-group.free c.loop-group.invariant (enough c)
