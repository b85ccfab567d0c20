use Rattle.std.proofs.Common.{◌≡◌, ◌∙◌, ap, arith, length, map}
use Rattle.std.proofs.lemmas.List.{length-map, with_items_is}
use Rattle.release_queue.specs.Queued.{after_change}
use Rattle.release_queue.proofs.MapLemmas.{still_queue}
use Rattle.release_queue.proofs.queue.Queue.page_changed.Goals as goal

pub invariant_of-self : goal.invariant_of-self
invariant_of-self c =
    let same : c.change.new.releases ≡ map (after_change c.args.page) c.self.inside.releases.items = c.change.ensures ∙ ap (map (after_change c.args.page)) c.deref_mut.ensures.value in
    let long : length c.change.new.releases ≡ c.self.inside.releases.len = omega (arith, ap length same, length-map c.self.inside.releases.items (after_change c.args.page)) in
    let is = with_items_is c.self.inside.releases c.change.new.releases long in
    rw (is, same) (c.self.invariant.0, still_queue c.self.inside.limit (after_change c.args.page) c.self.inside.releases.items (λ r h. h) c.self.invariant.1, λ k m. omega arith)
