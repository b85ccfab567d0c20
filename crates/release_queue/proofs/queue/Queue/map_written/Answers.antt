use Rattle.std.proofs.Common.{◌≡◌, ◌∙◌, ap, arith, length, map, refl, sym}
use Rattle.std.proofs.lemmas.List.{length-map, with_items_is}
use Rattle.release_queue.specs.Queued.{after_write}
use Rattle.release_queue.proofs.MapLemmas.{still_queue, write_stays}
use Rattle.release_queue.proofs.LookLemmas.{marked_map}
use Rattle.release_queue.proofs.queue.Queue.map_written.Goals as goal

pub invariant_of-self : goal.invariant_of-self
invariant_of-self c =
    let same : c.write_map.new.releases ≡ map (after_write c.args.map_page) c.self.inside.releases.items = c.write_map.ensures ∙ ap (map (after_write c.args.map_page)) c.deref_mut.ensures.value in
    let long : length c.write_map.new.releases ≡ c.self.inside.releases.len = omega (arith, ap length same, length-map c.self.inside.releases.items (after_write c.args.map_page)) in
    let is = with_items_is c.self.inside.releases c.write_map.new.releases long in
    rw (is, same) (c.self.invariant.0, still_queue c.self.inside.limit (after_write c.args.map_page) c.self.inside.releases.items (write_stays c.args.map_page) c.self.invariant.1, λ k m. c.self.invariant.2 k (sym (marked_map (after_write c.args.map_page) (λ r. refl) c.self.inside.releases.items k) ∙ m))
