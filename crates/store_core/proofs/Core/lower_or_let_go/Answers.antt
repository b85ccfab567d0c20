use Rattle.std.proofs.Common.{◌≡◌, ◌∙◌, ℕ, sym, subst, true, eqb}
use Rattle.std.proofs.lemmas.Option.{slice_get_within}
use Rattle.page_cache.specs.View.{is_there}
use Rattle.release_queue.specs.declared.Release.{Release}
use Rattle.store_core.specs.Applied.{count_of_release}
use Rattle.store_core.specs.PassParts.{LeavesQueue}
use Rattle.store_core.proofs.Edited.{held_there}
use Rattle.store_core.proofs.NoCalls.{adds_engine, applied_adds}
use Rattle.store_core.proofs.PartOut.{can_apply, counted_at, leaves_applied, leaves_let_go, same_release}
use Rattle.store_core.proofs.PartSteps.{count_held}
use Rattle.store_core.proofs.Queued.{placed_at}
use Rattle.store_core.proofs.Core.lower_or_let_go.Goals as goal

pub count_of-count-requires-clause-there : goal.count_of-count-requires-clause-there
count_of-count-requires-clause-there c =
    let core = c.args.self.now in
    let placed = placed_at core.shape core.ledger.queue.releases c.args.i c.args.release c.requires.queued core.whole.placed in
    subst (λ (n : ℕ). is_there core.engine.cache n ≡ true) placed.count_at (held_there core.engine.cache c.args.release.count_at (count_held core c.args.i c.args.release c.requires.provided c.requires.queued))

pub let_go-requires-clause-queued : goal.let_go-requires-clause-queued
let_go-requires-clause-queued c = slice_get_within c.args.self.now.ledger.queue.releases c.args.i c.args.release c.requires.queued

pub let_go-requires-clause-held : goal.let_go-requires-clause-held
let_go-requires-clause-held c r at = count_held c.args.self.now c.args.i r c.requires.provided at

pub let_go-requires-clause-none : goal.let_go-requires-clause-none
let_go-requires-clause-none c r at = subst (λ (x : Release). count_of_release c.args.self.now x ≡ 0) (same_release c.args.self.now.ledger.queue.releases c.args.i c.args.release r c.requires.queued at)
    (counted_at c.args.self.now c.args.i c.args.release c.requires.queued ∙ sym c.count_of-count.ensures ∙ c.if-count-eq0.true)

pub returns-then-count-eq0 : goal.returns-then-count-eq0
returns-then-count-eq0 c = record {
  leaves = leaves_let_go c.args.self.now _ c.args.i c.args.release c.requires.queued c.requires.provided
      (counted_at c.args.self.now c.args.i c.args.release c.requires.queued ∙ sym c.count_of-count.ensures ∙ c.if-count-eq0.true)
      c.let_go.ensures.shape c.let_go.ensures.engine c.let_go.ensures.ledger (c.let_go.ensures.laws c.args.release c.requires.queued) c.let_go.ensures.stands c.let_go.ensures.orderly;
  adds = adds_engine c.args.self.now _ c.let_go.ensures.engine;
}

pub apply-requires : goal.apply-requires
apply-requires c = can_apply c.args.self.now c.args.i c.args.release c.requires.queued c.requires.provided c.requires.open
    (λ z. c.if-count-eq0.false (c.count_of-count.ensures ∙ sym (counted_at c.args.self.now c.args.i c.args.release c.requires.queued) ∙ z))

pub returns : goal.returns
returns c = record {
  leaves = subst (λ (n : ℕ). LeavesQueue c.args.i c.args.release (eqb n 1) c.args.self.now c.apply.new.self) (counted_at c.args.self.now c.args.i c.args.release c.requires.queued ∙ sym c.count_of-count.ensures)
      (leaves_applied c.args.self.now _ c.args.i c.args.release c.requires.queued c.requires.provided c.apply.ensures.applied c.apply.ensures.laws c.apply.ensures.stands c.apply.ensures.orderly);
  adds = applied_adds c.args.i c.args.release c.args.self.now _ (placed_at c.args.self.now.shape c.args.self.now.ledger.queue.releases c.args.i c.args.release c.requires.queued c.args.self.now.whole.placed) c.apply.ensures.calls c.apply.ensures.applied;
}
