use Rattle.std.proofs.Common.{◌≡◌, map, length}
use Rattle.merge_policy.proofs.Places.{NoneBefore}
use Rattle.merge_policy.proofs.boxes.take_first.Given as goal

abbrev pub invariant-loop-place : goal.invariant-loop-place
invariant-loop-place g l = (l.policies.items ≡ l.fn.policies.items) × (l.place-end ≡ length l.policies.items) × NoneBefore l.label (map (λ policy. (goal.MergePolicy-dyn g (policy.vtable, policy.value)).seen policy.value) l.policies.items) l.place
