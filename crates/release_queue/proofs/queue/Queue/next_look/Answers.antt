use Rattle.std.proofs.Common.{arith, ◌≡◌, ◌≤◌, ℕ, inl, inr, ◌∙◌, sym, ap, false, true, length, ◌+◌}
use Rattle.std.proofs.lemmas.Bool.{cases_eq, cases_lt}
use Rattle.release_queue.specs.Queued.{QueueLists, is_marked}
use Rattle.release_queue.proofs.LookLemmas.{marked_at, marked_within}
use Rattle.release_queue.proofs.queue.Queue.next_look.Goals as goal

pub returns-then-index : goal.returns-then-index
returns-then-index c =
    let long = ap (λ (q : QueueLists). length q.releases) c.self.view_is in
    let len = c.len-i-end.ensures.len in
    let marked : is_marked c.self.inside.releases.items c.loop-i.i ≡ true = marked_at c.self.inside.releases.items c.loop-i.i c.index.result.now (omega (arith, long, len, c.loop-i-test.true)) ∙ sym (ap (λ r. r.look) c.index.ensures) ∙ c.if-index.true in
    (ap (λ (q : QueueLists). is_marked q.releases c.loop-i.i) (sym c.self.view_is) ∙ marked, omega (arith, c.loop-i.auto.i, c.max-i.ensures), c.loop-i.invariant)

pub loop-i-preserved : goal.loop-i-preserved
loop-i-preserved c =
    let long = ap (λ (q : QueueLists). length q.releases) c.self.view_is in
    let len = c.len-i-end.ensures.len in
    let clear : is_marked c.args.self.now.releases c.loop-i.i ≡ false = ap (λ (q : QueueLists). is_marked q.releases c.loop-i.i) (sym c.self.view_is) ∙ marked_at c.self.inside.releases.items c.loop-i.i c.index.result.now (omega (arith, long, len, c.loop-i-test.true)) ∙ sym (ap (λ r. r.look) c.index.ensures) ∙ c.if-index.false in
    λ k m low. elim (cases_eq k c.loop-i.i) [
      | inl e ↦ let bad : true ≡ false = sym m ∙ ap (is_marked c.args.self.now.releases) e ∙ clear in cc
      | inr ne ↦ above c.loop-i.i k (c.loop-i.invariant k m low) ne
    ]
  where
    above : (i k : ℕ) → i ≤ k → (k ≡ i → ⊥) → i + 1 ≤ k
    above i k h ne = grind (arith, h, ne)

pub returns : goal.returns
returns c = λ k m.
    let lt = marked_within c.args.self.now.releases k m in
    elim (cases_lt k c.args.from) [
      | inl low ↦ low
      | inr high ↦ let past = c.loop-i.invariant k m high in omega (arith, past, lt, c.len-i-end.ensures.len, c.loop-i-test.false)
    ]
