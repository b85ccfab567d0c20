use Rattle.std.proofs.Common.{◌≡◌, ◌∙◌, ap, false, is_some}
use Rattle.page_cache.specs.View.{is_there}
use Rattle.page_cache.proofs.EditLemmas.{free_again, still_held}
use Rattle.device_tests.proofs.tests.cache.come_and_give_up.Goals as goal

pub unhold-requires : goal.unhold-requires
unhold-requires c = still_held _ c.hold.new.self c.args.page _ c.in-Ok-hold.ensures.ok

pub give_up-requires-clause-dirty : goal.give_up-requires-clause-dirty
give_up-requires-clause-dirty c =
    let away : is_there c.args.cache.now c.args.page ≡ false = ap is_some c.in-None.ensures in
    let none = (c.in-Ok.ensures.ok away).marks.holds c.args.page ∙ (c.absent_is_unmarked.ensures c.args.cache.now c.args.page c.in-None.ensures).0 in
    (free_again _ c.hold.new.self c.unhold.new.self c.args.page _ none c.in-Ok-hold.ensures.ok c.unhold.ensures).0

pub give_up-requires-clause-free : goal.give_up-requires-clause-free
give_up-requires-clause-free c =
    let away : is_there c.args.cache.now c.args.page ≡ false = ap is_some c.in-None.ensures in
    let none = (c.in-Ok.ensures.ok away).marks.holds c.args.page ∙ (c.absent_is_unmarked.ensures c.args.cache.now c.args.page c.in-None.ensures).0 in
    (free_again _ c.hold.new.self c.unhold.new.self c.args.page _ none c.in-Ok-hold.ensures.ok c.unhold.ensures).1
