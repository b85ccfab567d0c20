use Rattle.std.proofs.Common.{arith, ◌≡◌, ◌<◌, ◌∙◌, sym, ap, subst, Some}
use Rattle.std.specs.Prelude.{slice_get}
use Rattle.std.proofs.lemmas.Bool.{or_left}
use Rattle.dep_graph.specs.Lists.{GraphLists, hung_in}
use Rattle.page_device.specs.Block.{Block}
use Rattle.page_layout.specs.Shape.{ShapeView}
use Rattle.ref_counts.specs.Counts.{count_in}
use Rattle.release_queue.specs.Queued.{QueueLists}
use Rattle.store_core.specs.declared.ledger.Ledger.{Ledger}
use Rattle.store_core.specs.Whole.{IsPlaced}
use Rattle.store_core.proofs.AppliedLaws.{release_lowered}
use Rattle.store_core.proofs.AppliedStands.{apply_stands, count_dirty, count_page_same, count_table, lowers_release, one_change, one_edge, one_node, one_room, opens_map, opens_print, some_edges, some_held, still_dirty, still_held}
use Rattle.store_core.proofs.Queued.{placed_at}
use Rattle.store_core.proofs.OrderlyReleases.{lower_orderly}
use Rattle.store_core.proofs.OrderlySteps.{touch_orderly}
use Rattle.store_core.proofs.Core.lower_release.Goals as goal

pub touch-requires-clause-spare : goal.touch-requires-clause-spare
touch-requires-clause-spare c off = let le = c.requires.nodes in omega (arith, le)

pub touch-requires-clause-room : goal.touch-requires-clause-room
touch-requires-clause-room c off = let le = c.requires.room in omega (arith, le)

pub order_release-requires-clause-placed : goal.order_release-requires-clause-placed
order_release-requires-clause-placed c = let core = c.args.self.now in subst (λ (x : ShapeView). IsPlaced x c.args.release) (sym c.touch.ensures.rest.shape) (placed_at core.shape core.ledger.queue.releases c.args.i c.args.release c.requires.queued core.whole.placed)

pub order_release-requires-clause-spare : goal.order_release-requires-clause-spare
order_release-requires-clause-spare c = some_edges c.args.self.now c.touch.new.self c.args.i c.args.release c.requires c.touch.ensures.graph

pub order_release-requires-clause-after : goal.order_release-requires-clause-after
order_release-requires-clause-after c = count_dirty c.args.self.now c.touch.new.self c.args.i c.args.release c.requires c.touch.ensures.graph

pub order_release-requires-clause-opens : goal.order_release-requires-clause-opens
order_release-requires-clause-opens c = opens_map c.args.self.now c.touch.new.self c.args.i c.args.release c.requires c.touch.ensures.graph

pub clear_last_print-requires : goal.clear_last_print-requires
clear_last_print-requires c =
    let core = c.args.self.now in
    let b = c.touch.new.self in
    let e = c.order_release.new.self in
    let t = c.touch.ensures in
    let o = c.order_release.ensures in
    let placed = placed_at core.shape core.ledger.queue.releases c.args.i c.args.release c.requires.queued core.whole.placed in
    record {
      placed = subst (λ (x : ShapeView). IsPlaced x c.args.release) (sym (o.rest.shape ∙ t.rest.shape)) placed;
      count_held = still_held core b c.args.i c.args.release c.requires t.graph e t.pages t.same t.rest t.nodes t.spare_nodes o.grows o.takes o.cache o.rest c.args.release.count_at c.requires.count_held;
      held = still_held core b c.args.i c.args.release c.requires t.graph e t.pages t.same t.rest t.nodes t.spare_nodes o.grows o.takes o.cache o.rest c.args.release.print_at c.requires.print_held;
      node = λ off. one_node core b c.args.i c.args.release c.requires t.graph e t.pages t.same t.rest t.nodes t.spare_nodes o.grows o.takes o.cache o.rest;
      room = λ off. one_room core b c.args.i c.args.release c.requires t.graph e t.pages t.same t.rest t.nodes t.spare_nodes o.grows o.takes o.cache o.rest;
      spare = one_edge core b c.args.i c.args.release c.requires t.graph e t.pages t.same t.rest t.nodes t.spare_nodes o.grows o.takes o.cache o.rest;
      changes = one_change core b c.args.i c.args.release c.requires t.graph e t.pages t.same t.rest t.nodes t.spare_nodes o.grows o.takes o.cache o.rest;
      after = still_dirty core b c.args.i c.args.release c.requires t.graph e t.pages t.same t.rest t.nodes t.spare_nodes o.grows o.takes o.cache o.rest;
      opens = opens_print core b c.args.i c.args.release c.requires t.graph e t.pages t.same t.rest t.nodes t.spare_nodes o.grows o.takes o.cache o.rest;
    }

pub lower_count-requires-clause-queued : goal.lower_count-requires-clause-queued
lower_count-requires-clause-queued c = subst (λ (q : QueueLists). slice_get q.releases c.args.i ≡ Some c.args.release) (sym (c.clear_last_print.ensures.cleared.queue ∙ ap (λ (l : Ledger). l.queue) (c.order_release.ensures.rest.ledger ∙ c.touch.ensures.rest.ledger))) c.requires.queued

pub lower_count-requires-clause-held : goal.lower_count-requires-clause-held
lower_count-requires-clause-held c =
    let core = c.args.self.now in
    let e = c.clear_last_print.new.self in
    let placed = placed_at core.shape core.ledger.queue.releases c.args.i c.args.release c.requires.queued core.whole.placed in
    some_held core c.touch.new.self c.order_release.new.self e e c.args.i c.args.release c.requires placed c.touch.ensures.graph c.touch.ensures.same c.touch.ensures.pages c.touch.ensures.rest
    c.order_release.ensures.ordered c.order_release.ensures.grows c.order_release.ensures.cache c.order_release.ensures.rest c.clear_last_print.ensures.cleared c.args.release.count_at c.requires.count_held

pub lower_count-requires-clause-dirty : goal.lower_count-requires-clause-dirty
lower_count-requires-clause-dirty c = c.clear_last_print.ensures.cleared.grows.dirty c.args.release.count_at (c.order_release.ensures.grows.dirty c.args.release.count_at (count_dirty c.args.self.now c.touch.new.self c.args.i c.args.release c.requires c.touch.ensures.graph))

pub lower_count-requires-clause-above : goal.lower_count-requires-clause-above
lower_count-requires-clause-above c =
    let core = c.args.self.now in
    let e = c.clear_last_print.new.self in
    let placed = placed_at core.shape core.ledger.queue.releases c.args.i c.args.release c.requires.queued core.whole.placed in
    subst (λ (p : Block). 0 < count_in p c.args.release.page) (sym (count_page_same core c.touch.new.self c.order_release.new.self e e c.args.i c.args.release c.requires placed c.touch.ensures.graph c.touch.ensures.same c.touch.ensures.pages c.touch.ensures.rest
    c.order_release.ensures.ordered c.order_release.ensures.grows c.order_release.ensures.cache c.order_release.ensures.rest c.clear_last_print.ensures.cleared)) c.requires.counted

pub returns-clause-stands : goal.returns-clause-stands
returns-clause-stands c =
    let core = c.args.self.now in
    let placed = placed_at core.shape core.ledger.queue.releases c.args.i c.args.release c.requires.queued core.whole.placed in
    apply_stands core c.touch.new.self c.order_release.new.self c.clear_last_print.new.self c.lower_count.new.self c.args.i c.args.release c.requires placed c.touch.ensures.graph c.touch.ensures.same c.touch.ensures.pages c.touch.ensures.rest
    c.order_release.ensures.ordered c.order_release.ensures.grows c.order_release.ensures.cache c.order_release.ensures.rest c.clear_last_print.ensures.cleared
    (c.touch.ensures.stands (count_table core.shape c.args.release placed)) c.order_release.ensures.stands c.clear_last_print.ensures.stands c.lower_count.ensures.stands

pub returns-clause-lowered : goal.returns-clause-lowered
returns-clause-lowered c =
    let core = c.args.self.now in
    let placed = placed_at core.shape core.ledger.queue.releases c.args.i c.args.release c.requires.queued core.whole.placed in
    lowers_release core c.touch.new.self c.order_release.new.self c.clear_last_print.new.self c.lower_count.new.self c.args.i c.args.release c.requires placed c.touch.ensures.graph c.touch.ensures.same c.touch.ensures.pages c.touch.ensures.rest
    c.order_release.ensures.ordered c.order_release.ensures.grows c.order_release.ensures.cache c.order_release.ensures.rest c.clear_last_print.ensures.cleared
    c.touch.ensures.nodes c.touch.ensures.spare_nodes c.touch.ensures.tallies c.order_release.ensures.dirty c.order_release.ensures.tallies c.order_release.ensures.takes c.lower_count.ensures.lowered

pub returns-clause-laws : goal.returns-clause-laws
returns-clause-laws c =
    let core = c.args.self.now in
    let r = c.args.release in
    let e = c.clear_last_print.new.self in
    let t = c.touch.ensures in
    let o = c.order_release.ensures in
    let cleared = c.clear_last_print.ensures.cleared in
    let placed = placed_at core.shape core.ledger.queue.releases c.args.i r c.requires.queued core.whole.placed in
    let held = some_held core c.touch.new.self c.order_release.new.self e e c.args.i r c.requires placed t.graph t.same t.pages t.rest o.ordered o.grows o.cache o.rest cleared r.count_at c.requires.count_held in
    let count = ap (λ (p : Block). count_in p r.page) (count_page_same core c.touch.new.self c.order_release.new.self e e c.args.i r c.requires placed t.graph t.same t.pages t.rest o.ordered o.grows o.cache o.rest cleared) in
    release_lowered core c.touch.new.self c.order_release.new.self e c.lower_count.new.self c.args.i r c.requires placed t.world
    (λ q h. t.dirty q ∙ or_left _ _ h) (λ q. ap (λ (g : GraphLists). hung_in g q) t.graph) o.world
    (o.rest.shape ∙ t.rest.shape) (o.rest.ledger ∙ t.rest.ledger) (cleared.shape ∙ o.rest.shape ∙ t.rest.shape) (cleared.queue ∙ ap (λ (l : Ledger). l.queue) (o.rest.ledger ∙ t.rest.ledger))
    held (cleared.grows.dirty r.count_at (o.grows.dirty r.count_at (count_dirty core c.touch.new.self c.args.i r c.requires t.graph))) count c.clear_last_print.ensures.laws c.lower_count.ensures.lowered

pub returns-clause-in_order : goal.returns-clause-in_order
returns-clause-in_order c was =
    let core = c.args.self.now in
    let r = c.args.release in
    let e = c.clear_last_print.new.self in
    let t = c.touch.ensures in
    let shape = c.clear_last_print.ensures.cleared.shape ∙ c.order_release.ensures.rest.shape ∙ t.rest.shape in
    let o = c.order_release.ensures in
    let cleared = c.clear_last_print.ensures.cleared in
    let placed = placed_at core.shape core.ledger.queue.releases c.args.i r c.requires.queued core.whole.placed in
    let queued = subst (λ (q : QueueLists). slice_get q.releases c.args.i ≡ Some r) (sym (cleared.queue ∙ ap (λ (l : Ledger). l.queue) (o.rest.ledger ∙ t.rest.ledger))) c.requires.queued in
    let held = some_held core c.touch.new.self c.order_release.new.self e e c.args.i r c.requires placed t.graph t.same t.pages t.rest o.ordered o.grows o.cache o.rest cleared r.count_at c.requires.count_held in
    lower_orderly c.args.i r e c.lower_count.new.self queued (subst (λ (x : ShapeView). IsPlaced x r) (sym shape) placed) held c.lower_count.ensures.lowered
    (c.clear_last_print.ensures.in_order (c.order_release.ensures.in_order (touch_orderly r.page core c.touch.new.self r.count_at t.world t.graph t.rest t.same t.pages was)))
