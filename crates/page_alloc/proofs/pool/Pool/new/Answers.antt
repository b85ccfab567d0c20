use Rattle.std.proofs.Common.{◌≡◌, length, arith, ap}
use Rattle.std.proofs.lemmas.List.{with_items_is}
use Rattle.order_model.specs.Pool.{new_pool}
use Rattle.page_alloc.specs.Kept.{told_at}
use Rattle.page_alloc.proofs.PoolLemmas.{is_told_at}
use Rattle.page_alloc.proofs.pool.Pool.new.Goals as goal

pub returns : goal.returns
returns c =
    let groups = c.in_ok-groups.groups in
    let long : length c.fill.new.groups ≡ groups.len = omega (arith, ap length c.deref_mut.ensures.value) in
    rw (with_items_is groups c.fill.new.groups long)
    (is_told_at _ c.args.shape.now new_pool (told_at c.fill.new.groups) c.shape.view_is c.fill.ensures.inside)
