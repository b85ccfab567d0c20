use Rattle.engine_model.proofs.no_waste.commands_waste_nothing.Goals as goal
use Rattle.engine_model.proofs.TightCommands.{discard_tight, drain_tight, round_tight, write_tight}

pub returns : goal.returns
returns c = record { discard = discard_tight; write = write_tight; round = round_tight; drained = drain_tight }
