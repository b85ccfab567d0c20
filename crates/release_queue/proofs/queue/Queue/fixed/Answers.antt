use Rattle.std.proofs.Common.{◌≡◌, ◌∙◌, ap, arith, length, map, refl, sym}
use Rattle.std.proofs.lemmas.List.{length-map, with_items_is}
use Rattle.release_queue.specs.Queued.{after_barrier}
use Rattle.release_queue.proofs.MapLemmas.{still_queue, barrier_stays}
use Rattle.release_queue.proofs.LookLemmas.{marked_map}
use Rattle.release_queue.proofs.queue.Queue.fixed.Goals as goal

pub invariant_of-self : goal.invariant_of-self
invariant_of-self c =
    let same : c.fix.new.releases ≡ map after_barrier c.self.inside.releases.items = c.fix.ensures ∙ ap (map after_barrier) c.deref_mut.ensures.value in
    let long : length c.fix.new.releases ≡ c.self.inside.releases.len = omega (arith, ap length same, length-map c.self.inside.releases.items after_barrier) in
    let is = with_items_is c.self.inside.releases c.fix.new.releases long in
    rw (is, same) (c.self.invariant.0, still_queue c.self.inside.limit after_barrier c.self.inside.releases.items barrier_stays c.self.invariant.1, λ k m. c.self.invariant.2 k (sym (marked_map after_barrier (λ r. refl) c.self.inside.releases.items k) ∙ m))
