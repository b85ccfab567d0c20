use Rattle.std.proofs.Common.{◌≡◌, ◌∙◌, sym, ap, subst, Some}
use Rattle.std.specs.Prelude.{slice_get}
use Rattle.std.proofs.lemmas.Option.{slice_get-get_or}
use Rattle.release_queue.specs.declared.Release.{Release}
use Rattle.store_core.specs.declared.Core.{Core}
use Rattle.store_core.specs.Orderly.{HasToWait}
use Rattle.store_core.proofs.Edited.{held_there}
use Rattle.store_core.specs.Passing.{PassAdds}
use Rattle.store_core.proofs.PartOut.{same_release}
use Rattle.store_core.proofs.PartStays.{looked_leaves, looked_stays}
use Rattle.store_core.proofs.PartSteps.{count_held, print_held}
use Rattle.store_core.proofs.Core.look_at.Goals as goal

pub is_blocked-requires-clause-count_there : goal.is_blocked-requires-clause-count_there
is_blocked-requires-clause-count_there c =
    let core = c.args.self.now in
    let at = slice_get-get_or core.ledger.queue.releases c.args.i c.at.result.now c.requires.queued ∙ ap (λ r. Some r) (sym c.at.ensures.release) in
    held_there core.engine.cache c.at.result.now.count_at (count_held core c.args.i c.at.result.now c.requires.passing.provided at)

pub is_blocked-requires-clause-print_there : goal.is_blocked-requires-clause-print_there
is_blocked-requires-clause-print_there c =
    let core = c.args.self.now in
    let at = slice_get-get_or core.ledger.queue.releases c.args.i c.at.result.now c.requires.queued ∙ ap (λ r. Some r) (sym c.at.ensures.release) in
    held_there core.engine.cache c.at.result.now.print_at (print_held core c.args.i c.at.result.now c.requires.passing.provided at)

pub stay-requires-clause-waits : goal.stay-requires-clause-waits
stay-requires-clause-waits c r queued =
    let core = c.args.self.now in
    let same = c.is_blocked.ensures.same in
    let at = slice_get-get_or core.ledger.queue.releases c.args.i c.at.result.now c.requires.queued ∙ ap (λ r. Some r) (sym c.at.ensures.release) in
    let is = same_release core.ledger.queue.releases c.args.i c.at.result.now r at (subst (λ (x : Core). slice_get x.ledger.queue.releases c.args.i ≡ Some r) same queued) in
    subst (λ (x : Core). HasToWait x r) (sym same) (subst (λ (s : Release). HasToWait core s) is (c.is_blocked.ensures.blocked.0 c.if-is_blocked.true))

pub returns-then-is_blocked-clause-looks : goal.returns-then-is_blocked-clause-looks
returns-then-is_blocked-clause-looks c = looked_stays c.args.self.now c.is_blocked.new.self c.stay.new.self c.args.prints.now c.args.i c.args.freed.now c.is_blocked.ensures.same c.requires.queued (c.stay.ensures.part c.args.prints.now) c.stay.ensures.length

pub take_out-is_freed-requires-clause-queued : goal.take_out-is_freed-requires-clause-queued
take_out-is_freed-requires-clause-queued c =
    let core = c.args.self.now in
    let at = slice_get-get_or core.ledger.queue.releases c.args.i c.at.result.now c.requires.queued ∙ ap (λ r. Some r) (sym c.at.ensures.release) in
    subst (λ (x : Core). slice_get x.ledger.queue.releases c.args.i ≡ Some c.at.result.now) (sym c.is_blocked.ensures.same) at

pub returns-clause-looks : goal.returns-clause-looks
returns-clause-looks c =
    let core = c.args.self.now in
    let at = slice_get-get_or core.ledger.queue.releases c.args.i c.at.result.now c.requires.queued ∙ ap (λ r. Some r) (sym c.at.ensures.release) in
    looked_leaves core c.is_blocked.new.self c.take_out-is_freed.new.self c.args.prints.now c.forget.new.prints c.args.i c.at.result.now c.take_out-is_freed.result c.args.freed.now c.forget.result
    c.is_blocked.ensures.same at c.take_out-is_freed.ensures.out c.forget.ensures.forgets c.forget.ensures.count

pub returns-then-is_blocked-clause-adds : goal.returns-then-is_blocked-clause-adds
returns-then-is_blocked-clause-adds c = subst (λ (x : Core). PassAdds x c.stay.new.self) c.is_blocked.ensures.same c.stay.ensures.adds

pub returns-clause-adds : goal.returns-clause-adds
returns-clause-adds c = subst (λ (x : Core). PassAdds x c.take_out-is_freed.new.self) c.is_blocked.ensures.same c.take_out-is_freed.ensures.adds
