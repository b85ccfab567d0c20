use Rattle.std.proofs.Common.{arith, ◌≡◌, ◌∙◌, ap, length, ℕ, ◌≤◌, ◌+◌}
use Rattle.std.proofs.lemmas.List.{with_items_is}
use Rattle.release_queue.specs.Queued.{unmarked}
use Rattle.release_queue.proofs.LookLemmas.{marked_still, unmarked_length}
use Rattle.release_queue.proofs.MapLemmas.{unmarked_queue}
use Rattle.release_queue.proofs.queue.Queue.looked.Goals as goal

pub invariant_of-self : goal.invariant_of-self
invariant_of-self c =
    let same : c.unmark.new.releases ≡ unmarked c.args.i c.self.inside.releases.items = c.unmark.ensures ∙ ap (unmarked c.args.i) c.deref_mut.ensures.value in
    let long : length c.unmark.new.releases ≡ c.self.inside.releases.len = omega (arith, ap length same, unmarked_length c.self.inside.releases.items c.args.i) in
    let is = with_items_is c.self.inside.releases c.unmark.new.releases long in
    rw (is, same) (
      c.self.invariant.0,
      unmarked_queue c.self.inside.limit c.args.i c.self.inside.releases.items c.self.invariant.1,
      λ k m.
          let was = marked_still c.self.inside.releases.items c.args.i k m in
          let first = c.self.invariant.2 k was.0 in
          let at = c.if-self-i.true in
          ne_above c.self.inside.first_look k c.args.i at was.1 first,
    )
  where
    ne_above : (first k i : ℕ) → first ≡ i → (k ≡ i → ⊥) → first ≤ k → i + 1 ≤ k
    ne_above first k i at off h = grind (arith, at, off, h)

pub invariant_of-self-else-self-i : goal.invariant_of-self-else-self-i
invariant_of-self-else-self-i c =
    let same : c.unmark.new.releases ≡ unmarked c.args.i c.self.inside.releases.items = c.unmark.ensures ∙ ap (unmarked c.args.i) c.deref_mut.ensures.value in
    let long : length c.unmark.new.releases ≡ c.self.inside.releases.len = omega (arith, ap length same, unmarked_length c.self.inside.releases.items c.args.i) in
    let is = with_items_is c.self.inside.releases c.unmark.new.releases long in
    rw (is, same) (c.self.invariant.0, unmarked_queue c.self.inside.limit c.args.i c.self.inside.releases.items c.self.invariant.1, λ k m. c.self.invariant.2 k (marked_still c.self.inside.releases.items c.args.i k m).0)
