use Rattle.trace_text.proofs.Only.{fill_only}
use Rattle.trace_text.proofs.kinds.command_of.Goals as goal

pub returns-in-120-clause-only : goal.returns-in-120-clause-only
returns-in-120-clause-only c = rw c.in-120.is (fill_only c.args.text.now c.fill.result c.fill.ensures.only)
