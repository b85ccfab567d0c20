use Rattle.store_core.proofs.FreePages.{given_lowest, given_none, given_page}
use Rattle.store_core.proofs.Core.lowest_free.Goals as goal

pub returns : goal.returns
returns c = record {
  free = given_page c.args.self.now c.lowest.result c.lowest.ensures.first c.lowest.ensures.last c.lowest.ensures.lowest;
  lowest = given_lowest c.args.self.now c.lowest.result c.lowest.ensures.lowest;
  none = given_none c.args.self.now c.lowest.result c.lowest.ensures.none;
}
