use Rattle.store_core.proofs.PlacedStands.{not_full, ok_of, same_marks, taken_in}
use Rattle.store_core.proofs.placing.take_in.Goals as goal

pub returns-in-Ok-hold-clause-ok : goal.returns-in-Ok-hold-clause-ok
returns-in-Ok-hold-clause-ok c = taken_in c.args.cache.now c.place.new.self c.hold.new.self c.args.page c.args.from.now (λ t. (c.place.ensures.there t).1) (λ t. ok_of _ _ c.in-Ok.is (c.place.ensures.ok t)) c.in-Ok-hold.ensures.ok

pub returns-in-Err-hold-clause-err : goal.returns-in-Err-hold-clause-err
returns-in-Err-hold-clause-err c = absurd (not_full c.args.cache.now c.place.new.self c.args.page (same_marks c.args.cache.now c.place.new.self c.args.page c.args.from.now (λ t. (c.place.ensures.there t).1) (λ t. ok_of _ _ c.in-Ok.is (c.place.ensures.ok t))) c.requires.free c.in-Err-hold.ensures.full)
