use Rattle.std.proofs.Common.{arith, ◌≡◌, ◌<◌, ◌≤◌, ◌∙◌, inl, inr, refl, sym, ap, subst, ℕ, true, eq-eqb, None}
use Rattle.std.proofs.lemmas.Bool.{or_left, or_right}
use Rattle.page_device.specs.Block.{zero_block}
use Rattle.page_layout.specs.Shape.{ShapeView}
use Rattle.page_cache.specs.View.{CacheView, content_in, holds_in}
use Rattle.order_model.specs.Paths.{Closes}
use Rattle.order_model.specs.declared.Slot.TheVariants.{Print}
use Rattle.dep_graph.specs.Lists.{GraphLists, dirty_in, live_in}
use Rattle.birth_marks.specs.Births.{is_unborn_in}
use Rattle.store_core.specs.declared.ledger.Ledger.{Ledger}
use Rattle.store_core.specs.Views.{held_or}
use Rattle.store_core.specs.Whole.{IsPlaced}
use Rattle.store_core.proofs.AppliedLaws.{print_cleared, print_ordered}
use Rattle.store_core.proofs.AppliedStands.{clear_stands, clears_print, print_table}
use Rattle.store_core.proofs.Edited.{held_there}
use Rattle.store_core.proofs.OrderlyEdits.{print_orderly}
use Rattle.store_core.proofs.OrderlySteps.{touch_orderly}
use Rattle.store_core.proofs.Core.clear_print.Goals as goal

pub order_print-requires-clause-placed : goal.order_print-requires-clause-placed
order_print-requires-clause-placed c = subst (λ (x : ShapeView). IsPlaced x c.args.release) (sym c.touch.ensures.rest.shape) c.requires.placed

pub order_print-requires-clause-spare : goal.order_print-requires-clause-spare
order_print-requires-clause-spare c = subst (λ (g : GraphLists). 0 < g.spare_edges) (sym c.touch.ensures.graph) c.requires.spare

pub order_print-requires-clause-before : goal.order_print-requires-clause-before
order_print-requires-clause-before c = c.touch.ensures.dirty c.args.release.print_at ∙ or_right _ _ (eq-eqb c.args.release.print_at c.args.release.print_at refl)

pub order_print-requires-clause-after : goal.order_print-requires-clause-after
order_print-requires-clause-after c = c.touch.ensures.dirty c.args.release.count_at ∙ or_left _ _ c.requires.after

pub order_print-requires-clause-opens : goal.order_print-requires-clause-opens
order_print-requires-clause-opens c unborn closes = c.requires.opens (sym (ap (λ (l : Ledger). is_unborn_in l.births (Print c.args.release.page) 1) c.touch.ensures.rest.ledger) ∙ unborn)
    (subst (λ (g : GraphLists). Closes (live_in g) c.args.release.print_at c.args.release.count_at) c.touch.ensures.graph closes)

pub set_print-requires-clause-first : goal.set_print-requires-clause-first
set_print-requires-clause-first c = c.requires.placed.first

pub set_print-requires-clause-last : goal.set_print-requires-clause-last
set_print-requires-clause-last c = subst (λ (x : ShapeView). c.args.release.page ≤ x.pages) (sym (c.order_print.ensures.rest.shape ∙ c.touch.ensures.rest.shape)) c.requires.placed.last

pub set_print-requires-clause-held : goal.set_print-requires-clause-held
set_print-requires-clause-held c =
    let r = c.args.release in
    let there = subst (λ (x : ShapeView). IsPlaced x r) (sym (c.order_print.ensures.rest.shape ∙ c.touch.ensures.rest.shape)) c.requires.placed in
    let is = ap (λ (k : CacheView). holds_in k r.print_at) c.order_print.ensures.cache ∙ c.touch.ensures.same.holds r.print_at in
    let some = c.requires.held in
    subst (λ (n : ℕ). 0 < holds_in c.order_print.new.self.engine.cache n) there.print_at (omega (arith, is, some))

pub set_print-requires-clause-dirty : goal.set_print-requires-clause-dirty
set_print-requires-clause-dirty c =
    let r = c.args.release in
    let there = subst (λ (x : ShapeView). IsPlaced x r) (sym (c.order_print.ensures.rest.shape ∙ c.touch.ensures.rest.shape)) c.requires.placed in
    subst (λ (n : ℕ). dirty_in c.order_print.new.self.engine.graph n ≡ true) there.print_at (c.order_print.ensures.grows.dirty r.print_at (c.touch.ensures.dirty r.print_at ∙ or_right _ _ (eq-eqb r.print_at r.print_at refl)))

pub set_print-requires-clause-spare : goal.set_print-requires-clause-spare
set_print-requires-clause-spare c = subst (λ (l : Ledger). 0 < l.births.spare) (sym (c.order_print.ensures.rest.ledger ∙ c.touch.ensures.rest.ledger)) c.requires.changes

pub returns-clause-cleared : goal.returns-clause-cleared
returns-clause-cleared c = clears_print c.args.self.now c.touch.new.self c.order_print.new.self c.set_print.new.self c.args.release c.requires.placed c.requires.one c.requires.had
    c.touch.ensures.graph c.touch.ensures.same c.touch.ensures.pages c.touch.ensures.rest c.touch.ensures.nodes c.touch.ensures.spare_nodes
    c.touch.ensures.tallies c.order_print.ensures.dirty c.order_print.ensures.tallies c.order_print.ensures.ordered
    c.order_print.ensures.grows c.order_print.ensures.takes c.order_print.ensures.cache c.order_print.ensures.rest c.set_print.ensures.printed

pub returns-clause-stands : goal.returns-clause-stands
returns-clause-stands c =
    let r = c.args.release in
    let t = c.touch.ensures in
    let o = c.order_print.ensures in
    let is = ap (λ (k : CacheView). holds_in k r.print_at) o.cache ∙ t.same.holds r.print_at in
    let some = c.requires.held in
    clear_stands c.args.self.now c.order_print.new.self c.set_print.new.self r c.requires.placed (omega (arith, is, some)) (ap (λ (k : CacheView). held_or (content_in k r.print_at) zero_block) o.cache ∙ t.pages r.print_at) (o.rest.shape ∙ t.rest.shape) c.requires.had
    (elim o.ordered [ inl edge ↦ inl edge | inr unborn ↦ inr (ap (λ (l : Ledger). is_unborn_in l.births (Print r.page) 1) o.rest.ledger ∙ unborn) ])
    (λ sound d array s. o.stands sound d array (t.stands (print_table c.args.self.now.shape r c.requires.placed) sound d array s)) c.set_print.ensures.stands

pub returns-clause-laws : goal.returns-clause-laws
returns-clause-laws c =
    let core = c.args.self.now in
    let r = c.args.release in
    let t = c.touch.ensures in
    let o = c.order_print.ensures in
    let is = ap (λ (k : CacheView). holds_in k r.print_at) o.cache ∙ t.same.holds r.print_at in
    let some = c.requires.held in
    print_cleared core c.order_print.new.self c.set_print.new.self r c.requires.placed (o.rest.shape ∙ t.rest.shape) (o.rest.ledger ∙ t.rest.ledger) c.requires.count_held some
    (held_there c.order_print.new.self.engine.cache r.print_at (omega (arith, is, some))) (o.grows.dirty r.print_at (t.dirty r.print_at ∙ or_right _ _ (eq-eqb r.print_at r.print_at refl))) c.requires.one c.requires.had (print_ordered core c.touch.new.self c.order_print.new.self r t.world t.rest.ledger o.world) c.set_print.ensures.printed

pub returns-clause-in_order : goal.returns-clause-in_order
returns-clause-in_order c o =
    let r = c.args.release in
    let t = c.touch.ensures in
    let there = subst (λ (x : ShapeView). IsPlaced x r) (sym (c.order_print.ensures.rest.shape ∙ t.rest.shape)) c.requires.placed in
    let is = ap (λ (k : CacheView). holds_in k r.print_at) c.order_print.ensures.cache ∙ t.same.holds r.print_at in
    let some = c.requires.held in
    let held = subst (λ (n : ℕ). 0 < holds_in c.order_print.new.self.engine.cache n) there.print_at (omega (arith, is, some)) in
    print_orderly r.page c.order_print.new.self c.set_print.new.self there.first there.last None held c.set_print.ensures.printed
    (c.order_print.ensures.in_order (touch_orderly r.page c.args.self.now c.touch.new.self r.print_at t.world t.graph t.rest t.same t.pages o))
