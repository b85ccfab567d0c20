use Rattle.std.proofs.Common.{ℕ, List, ◌∙◌, sym, ap, arith, length, take}
use Rattle.page_device.specs.Disk.{state_after}
use Rattle.page_device.specs.Memory.{LogView, kept_at}
use Rattle.page_device.proofs.KeptCalls.{kept_make, kept_within}
use Rattle.page_device.proofs.log.Log.kept_by.Goals as goal

pub returns-clause-within : goal.returns-clause-within
returns-clause-within c =
    let kept = ap (λ (v : LogView). length v.kept) c.self.view_is in
    omega (arith, kept, c.self.invariant, kept_within c.deref.result.now c.args.at, c.kept_among.ensures, ap length c.deref.ensures.value)

pub returns-clause-state : goal.returns-clause-state
returns-clause-state c = λ s.
    let inside = c.self.inside in
    ap (λ (n : ℕ). state_after s (take n c.args.self.now.kept)) (c.kept_among.ensures ∙ ap (λ (l : List ℕ). kept_at l c.args.at) c.deref.ensures.value)
    ∙ sym (ap (λ (v : LogView). state_after s (take (kept_at inside.lost_before.items c.args.at) v.kept)) c.self.view_is)
    ∙ kept_make inside.entries.items inside.lost_before.items inside.lost c.args.at s c.self.invariant
    ∙ ap (λ (v : LogView). state_after s (take c.args.at v.all)) c.self.view_is
