use Rattle.std.proofs.Common.{List, length, take, ap, sym, ◌∙◌, subst, arith, ℕ, []}
use Rattle.page_device.specs.Block.{Block}
use Rattle.page_device.specs.Disk.{state_after, at_rest, IsImage}
use Rattle.page_device.specs.Chosen.{chosen_is_image}
use Rattle.page_device.specs.Memory.{MemoryView}
use Rattle.page_device.specs.MemorySeen.{telling}
use Rattle.page_device.specs.Possible.{length-state_after}
use Rattle.page_device.proofs.Views.{as_many}
use Rattle.page_device.proofs.memory.MemDevice.image.Goals as goal

pub holding-requires : goal.holding-requires
holding-requires c =
    let inside = c.self.inside in
    let e = as_many c.args.self.now inside.pages.items inside.replaced.items inside.log.kept inside.log.all (ap (λ (v : MemoryView). v.start) c.self.view_is) (ap (λ (v : MemoryView). v.all) c.self.view_is) c.self.invariant.0 in
    omega (arith, e, c.self.invariant.0.few, c.in_ok-pages.ensures.pages, length-state_after (at_rest c.args.self.now.start) (take c.args.at c.args.self.now.all))

pub returns-clause-left : goal.returns-clause-left
returns-clause-left c =
    let image = chosen_is_image (state_after (at_rest c.args.self.now.start) (take c.args.at c.args.self.now.all)) c.args.choice.now c.in_ok-pages.pages.items c.in_ok-pages.ensures in
    subst (IsImage (state_after (at_rest c.args.self.now.start) (take c.args.at c.args.self.now.all))) (sym (ap (λ (v : MemoryView). v.start) c.holding.ensures.whole)) image

pub returns-clause-told : goal.returns-clause-told
returns-clause-told c =
    let many = c.in_ok-pages.ensures.pages ∙ length-state_after (at_rest c.args.self.now.start) (take c.args.at c.args.self.now.all) in
    let start = ap (λ (v : MemoryView). v.start) c.holding.ensures.whole in
    c.holding.ensures.told ∙ ap (λ (n : ℕ). telling n 0 0 (at_rest c.in_ok-pages.pages.items) []) many ∙ ap (λ (l : List Block). telling (length c.args.self.now.start) 0 0 (at_rest l) []) (sym start)
