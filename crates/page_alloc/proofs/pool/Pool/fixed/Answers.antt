use Rattle.std.proofs.Common.{◌≡◌, ap, length, arith}
use Rattle.std.proofs.lemmas.List.{with_items_is}
use Rattle.page_alloc.proofs.PoolLemmas.{fixed_told}
use Rattle.page_alloc.proofs.pool.Pool.fixed.Goals as goal

pub returns : goal.returns
returns c =
    let before = c.self.inside in
    let long : length c.settle.new.groups ≡ before.groups.len = omega (arith, ap length c.deref_mut.ensures.value) in
    rw (with_items_is before.groups c.settle.new.groups long)
    (fixed_told before.shape before.groups.items c.deref_mut.result.now c.settle.new.groups before.free before.written c.args.self.now c.self.invariant c.self.view_is c.deref_mut.ensures.value c.settle.ensures.here c.settle.ensures.there)
