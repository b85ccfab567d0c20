use Rattle.engine_model.proofs.bridges.entry_bytes.Goals as goal
use Rattle.engine_model.proofs.Bytes.{apart, puts_count, puts_name, puts_print}

pub returns : goal.returns
returns c = record {
  apart = apart;
  name = puts_name;
  count = puts_count;
  print = puts_print;
}
