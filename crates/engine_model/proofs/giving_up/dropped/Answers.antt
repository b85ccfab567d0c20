use Rattle.engine_model.proofs.giving_up.dropped.Goals as goal
use Rattle.engine_model.proofs.Dropped.{drop_births, drop_contents, drop_keeps, drop_pool}
use Rattle.engine_model.proofs.GivenUp.{given_up_is}

pub returns : goal.returns
returns c = record {
  counts = λ lay top w v p apart old x. drop_keeps lay top w v p apart old x;
  contents = drop_contents;
  births = λ lay top w v p apart old x calls slot is was. drop_births lay top w v p apart old x calls slot is was;
  pool = λ lay top w v p apart old x told q d was. drop_pool lay top w v p apart old x told q d was;
  made = given_up_is;
}
