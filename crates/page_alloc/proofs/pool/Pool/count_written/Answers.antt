use Rattle.std.proofs.Common.{◌≡◌, ap, length, arith}
use Rattle.std.proofs.lemmas.List.{with_items_is}
use Rattle.order_model.specs.Pool.{after_written}
use Rattle.page_alloc.specs.Kept.{told_at}
use Rattle.page_alloc.specs.declared.marks.Step.TheVariants.{Written}
use Rattle.page_alloc.proofs.PoolLemmas.{written_step, counted_step, uncounted_step, some_counted}
use Rattle.page_alloc.proofs.pool.Pool.count_written.Goals as goal

pub returns-in-Some-clause-told : goal.returns-in-Some-clause-told
returns-in-Some-clause-told c lay laid =
    let before = c.self.inside in
    let long : length c.tell.new.groups ≡ before.groups.len = omega (arith, ap length c.deref_mut.ensures.value) in
    rw (with_items_is before.groups c.tell.new.groups long)
    (counted_step Written before.shape before.groups.items c.args.self.now c.self.view_is lay laid c.args.page (λ t p. after_written lay c.args.page (λ _. t) p) (written_step lay c.args.page)
    c.deref_mut.result.now c.tell.new.groups c.in-Some.index c.deref_mut.ensures.value c.in-Some.ensures.place c.tell.ensures.inside c.tell.ensures.outside)

pub returns-in-Some-clause-other : goal.returns-in-Some-clause-other
returns-in-Some-clause-other c none =
    absurd (some_counted c.self.inside.shape (told_at c.self.inside.groups.items) c.args.self.now c.args.page c.in-Some.index c.self.view_is c.in-Some.ensures.within c.in-Some.ensures.place none)

pub returns-in_default-clause-told : goal.returns-in_default-clause-told
returns-in_default-clause-told c lay laid =
    uncounted_step Written c.self.inside.shape c.self.inside.groups.items c.args.self.now c.self.view_is lay laid c.args.page (λ t p. after_written lay c.args.page (λ _. t) p) (written_step lay c.args.page) c.in_default.ensures.none
