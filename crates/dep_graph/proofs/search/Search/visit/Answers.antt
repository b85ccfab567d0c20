use Rattle.std.proofs.Common.{◌<◌, ap, true, false, length, sym, ◌∙◌, arith}
use Rattle.std.proofs.lemmas.List.{length-set, get_or_read}
use Rattle.dep_graph.specs.Trails.{Trail}
use Rattle.dep_graph.proofs.SearchLemmas.{marked_lt, marked_more}
use Rattle.dep_graph.proofs.search.Search.visit.Goals as goal

pub push_reserved-requires : goal.push_reserved-requires
push_reserved-requires c =
    let lt : c.args.place < length c.self.inside.marks.items = omega (arith, ap (λ (t : Trail). t.room) c.self.view_is) in
    let off = sym (get_or_read c.self.inside.marks.items c.args.place c.index.result.now lt c.index.ensures false) ∙ c.if-index.false in
    let fewer = marked_lt c.self.inside.marks.items c.args.place lt off in
    let once = c.self.invariant.0.once in
    omega (arith, c.self.invariant.1)

pub invariant_of-self : goal.invariant_of-self
invariant_of-self c =
    let lt : c.args.place < length c.self.inside.marks.items = omega (arith, ap (λ (t : Trail). t.room) c.self.view_is) in
    let off = sym (get_or_read c.self.inside.marks.items c.args.place c.index.result.now lt c.index.ensures false) ∙ c.if-index.false in
    let len = length-set c.self.inside.marks.items c.args.place true in (
      rw c.push_reserved.ensures.items (marked_more c.self.inside.marks.items c.self.inside.queue.items c.args.place c.self.invariant.0 lt off),
      omega (arith, c.push_reserved.ensures.capacity, c.self.invariant.1),
      omega (arith, c.self.invariant.2),
    )
