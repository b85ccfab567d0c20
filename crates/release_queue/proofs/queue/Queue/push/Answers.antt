use Rattle.std.proofs.Common.{arith, ◌≡◌, ◌<◌, ◌≤◌, inl, inr, ap, sym, ◌∙◌, eqb, eq-eqb, false, length, subst, true, List, ℕ}
use Rattle.std.proofs.lemmas.Bool.{cases_eq}
use Rattle.release_queue.specs.Queued.{QueueLists, is_marked}
use Rattle.release_queue.specs.declared.Release.{Release}
use Rattle.release_queue.proofs.LookLemmas.{marked_end}
use Rattle.release_queue.proofs.MapLemmas.{longer_queue}
use Rattle.release_queue.proofs.queue.Queue.push.Goals as goal

below : (n limit : ℕ) → n ≤ limit → eqb n limit ≡ false → n < limit
below n limit h off = elim (cases_eq n limit) [ inl e ↦ let bad : true ≡ false = sym (eq-eqb n limit e) ∙ off in cc | inr ne ↦ less n limit h ne ]
  where
    less : (n limit : ℕ) → n ≤ limit → (n ≡ limit → ⊥) → n < limit
    less n limit h ne = grind (arith, h, ne)

pub append-requires : goal.append-requires
append-requires c =
    let long = ap (λ (q : QueueLists). length q.releases) c.self.view_is in
    let limit = ap (λ (q : QueueLists). q.limit) c.self.view_is in
    let lt = below _ _ (subst (λ (q : QueueLists). length q.releases ≤ q.limit) c.self.view_is c.self.invariant.1.within) c.requires.room in
    omega (arith, lt, long, limit, c.self.invariant.0)

pub invariant_of-self : goal.invariant_of-self
invariant_of-self c =
    let long = ap (λ (q : QueueLists). length q.releases) c.self.view_is in
    let limit = ap (λ (q : QueueLists). q.limit) c.self.view_is in
    let lt = below _ _ (subst (λ (q : QueueLists). length q.releases ≤ q.limit) c.self.view_is c.self.invariant.1.within) c.requires.room in
    let len = c.len.ensures.len in
    let least = c.min-self-inside.ensures in (
      omega (arith, c.append.ensures.room, c.self.invariant.0),
      rw (c.append.ensures.items) (longer_queue _ _ _ c.self.invariant.1 (omega (arith, lt, long, limit)) c.requires.stage),
      λ k m. elim (marked_end c.self.inside.releases.items _ k (subst (λ (rs : List Release). is_marked rs k ≡ true) c.append.ensures.items m)) [
        | inl was ↦ let first = c.self.invariant.2 k was in omega (arith, first, least)
        | inr past ↦ omega (arith, past, least, len, long)
      ],
    )
