use Rattle.trace_text.proofs.Only.{one_command}
use Rattle.trace_text.proofs.laws.one_line_is_one_command.Goals as goal

pub returns : goal.returns
returns c = λ line c d h g. one_command line c d h g
