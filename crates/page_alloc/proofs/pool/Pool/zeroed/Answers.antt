use Rattle.std.proofs.Common.{◌≡◌, ap, length, arith}
use Rattle.std.proofs.lemmas.List.{with_items_is}
use Rattle.order_model.specs.Pool.{after_zeroed}
use Rattle.page_alloc.specs.Kept.{told_at}
use Rattle.page_alloc.specs.Pool.{pool_told, told_of, IsTold}
use Rattle.page_alloc.proofs.PoolLemmas.{page_call, zeroed_told, zeroed_changes_zero, unchanged, zeroed_again}
use Rattle.page_alloc.proofs.pool.Pool.zeroed.Goals as goal

pub invariant_of-self : goal.invariant_of-self
invariant_of-self c =
    let before = c.self.inside in
    let long : length c.put.new.groups ≡ before.groups.len = omega (arith, ap length c.deref_mut.ensures.value) in
    let call = page_call zeroed_told zeroed_changes_zero before.shape before.groups.items c.deref_mut.result.now c.put.new.groups before.free c.put.new.free before.written c.args.self.now
    c.args.p c.place_of-group.result.0 c.place_of-group.result.1 c.index.result.now c.zeroed-marks.result
    c.self.invariant c.self.view_is c.requires.first c.requires.last c.place_of-group.ensures.group c.place_of-group.ensures.bit c.index.ensures c.zeroed-marks.ensures
    c.deref_mut.ensures.value c.put.ensures.groups c.put.ensures.indexed in
    rw (with_items_is before.groups c.put.new.groups long) call.kept

is_told : (c : goal.After-self-1) → IsTold c.args.self.now.shape (after_zeroed c.args.p (told_of c.args.self.now)) (pool_told c.self.inside.shape (told_at c.put.new.groups))
is_told c =
    let before = c.self.inside in
    let call = page_call zeroed_told zeroed_changes_zero before.shape before.groups.items c.deref_mut.result.now c.put.new.groups before.free c.put.new.free before.written c.args.self.now
    c.args.p c.place_of-group.result.0 c.place_of-group.result.1 c.index.result.now c.zeroed-marks.result
    c.self.invariant c.self.view_is c.requires.first c.requires.last c.place_of-group.ensures.group c.place_of-group.ensures.bit c.index.ensures c.zeroed-marks.ensures
    c.deref_mut.ensures.value c.put.ensures.groups c.put.ensures.indexed in
    call.is_told

whole : (c : goal.After-self-1) → length c.put.new.groups ≡ c.self.inside.groups.len
whole c = omega (arith, ap length c.deref_mut.ensures.value)

pub returns-clause-told : goal.returns-clause-told
returns-clause-told c = rw (with_items_is c.self.inside.groups c.put.new.groups (whole c)) (is_told c)

pub returns-clause-again : goal.returns-clause-again
returns-clause-again c zero =
    rw (with_items_is c.self.inside.groups c.put.new.groups (whole c))
    (unchanged c.self.inside.shape (told_at c.self.inside.groups.items) c.args.self.now _ c.self.view_is _ (is_told c) (λ q first last. zeroed_again c.args.self.now c.args.p zero q))
