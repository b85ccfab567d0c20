use Rattle.std.proofs.Common.{◌∙◌}
use Rattle.page_alloc.proofs.LowestLemmas.{free_bit}
use Rattle.page_alloc.proofs.pool.Pool.is_free.Goals as goal

pub returns : goal.returns
returns c =
    let pool = c.self.inside in
    c.has_bit.ensures ∙ free_bit pool.shape pool.groups.items pool.free pool.written c.args.self.now c.args.p c.place_of-group.result.0 c.place_of-group.result.1 c.free.result c.index.result.now
    c.self.invariant c.self.view_is c.requires.first c.requires.last c.place_of-group.ensures.group c.place_of-group.ensures.bit c.index.ensures c.free.ensures.bits
