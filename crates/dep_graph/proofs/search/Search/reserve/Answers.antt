use Rattle.std.proofs.Common.{ap, ◌∙◌, arith}
use Rattle.dep_graph.specs.Trails.{Trail}
use Rattle.dep_graph.proofs.SearchLemmas.{nothing_marked, none_resized}
use Rattle.dep_graph.proofs.search.Search.reserve.Goals as goal

pub invariant_of-self-2 : goal.invariant_of-self-2
invariant_of-self-2 c =
    let none = ap (λ (t : Trail). t.reached) c.self.view_is ∙ c.requires.none in
    let queue = c.room_for.ensures.items ∙ none in
    let len = c.in_ok-resize.ensures.len in (
      nothing_marked _ _ queue (λ k. rw c.in_ok-resize.ensures.items (none_resized c.self.inside.marks.items c.self.inside.queue.items c.args.places _ c.self.invariant.0 none k)),
      omega (arith, c.in_ok-room_for.ensures.ok),
      omega arith,
    )
