use Rattle.std.proofs.Common.{rules, arith, ◌≡◌, ◌<◌, inl, inr, ap, length, subst, true, List, drop, suc}
use Rattle.release_queue.specs.Queued.{QueueLists, is_marked}
use Rattle.release_queue.specs.declared.Release.{Release}
use Rattle.release_queue.proofs.LookLemmas.{marked_cut}
use Rattle.release_queue.proofs.queue.Queue.remove.Goals as goal

pub invariant_of-self : goal.invariant_of-self
invariant_of-self c =
    let long = ap (λ (q : QueueLists). length q.releases) c.self.view_is in
    let lt : c.args.i < length c.self.inside.releases.items = omega (arith, long, c.requires) in
    let least = c.min-self-inside.ensures in (
      search rules,
      search rules,
      λ k m. elim (marked_cut c.self.inside.releases.items (drop (suc c.args.i) c.self.inside.releases.items) c.args.i k lt (subst (λ (rs : List Release). is_marked rs k ≡ true) c.remove.ensures.items m)) [
        | inl was ↦ let first = c.self.invariant.2 k was in omega (arith, first, least)
        | inr past ↦ omega (arith, past, least)
      ],
    )
