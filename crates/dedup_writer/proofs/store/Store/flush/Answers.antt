use Rattle.std.proofs.Common.{◌≡◌, ℕ, ◌<◌, ◌≤◌, Ok, Err, refl, sym, ◌∙◌, ap, subst, arith, add-one}
use Rattle.page_layout.specs.Shape.{map_pages}
use Rattle.dedup_writer.proofs.FlushLemmas.{FlushedUpTo, flushed_none, settle_shape, settle_pages, settle_more, flush_done, flush_fails}
use Rattle.dedup_writer.proofs.store.Store.flush.Goals as goal

pub loop-index-init : goal.loop-index-init
loop-index-init g c = record {
  so_far = flushed_none c.args.self.now (g.D.Device.seen c.args.device.now);
  shape = refl;
  pages = refl;
  faults = omega arith;
}

pub loop-index-preserved : goal.loop-index-preserved
loop-index-preserved g c =
    let seen = g.D.Device.seen in
    let d0 = seen c.args.device.now in
    let d1 = seen c.loop-index.device in
    let d2 = seen c.settle.new.device in
    let c0 = c.args.self.now in
    let c1 = c.loop-index.self in
    let c2 = c.settle.new.self in
    let i = c.loop-index.index in
    let was = c.loop-index.invariant in
    let settles = c.in-Ok.ensures.settles in
    let in_range : i < map_pages c1.tables.shape = omega (arith, c.loop-index-test.true, c.map_pages-map_pages.ensures, ap map_pages was.shape) in
    record {
      so_far = subst (λ (n : ℕ). FlushedUpTo n c0 c2 d0 d2) (sym (add-one i)) (settle_more i c0 c1 c2 d0 d1 d2 was.so_far in_range settles);
      shape = settle_shape i c1 c2 d1 d2 (Ok tt) settles ∙ was.shape;
      pages = settle_pages i c1 c2 d1 d2 (Ok tt) settles ∙ was.pages;
      faults = omega (arith, was.faults, c.settle.ensures.cause.never_falls);
    }

pub returns-in-Err-clause-call : goal.returns-in-Err-clause-call
returns-in-Err-clause-call g c =
    let seen = g.D.Device.seen in
    let was = c.loop-index.invariant in
    let in_range : c.loop-index.index < map_pages c.loop-index.self.tables.shape = omega (arith, c.loop-index-test.true, c.map_pages-map_pages.ensures, ap map_pages was.shape) in
    flush_fails c.loop-index.index c.args.self.now c.loop-index.self c.settle.new.self (seen c.args.device.now) (seen c.loop-index.device) (seen c.settle.new.device) c.in-Err.failed was.so_far in_range c.in-Err.ensures.settles

pub returns-in-Err-clause-shape : goal.returns-in-Err-clause-shape
returns-in-Err-clause-shape g c =
    settle_shape c.loop-index.index c.loop-index.self c.settle.new.self (g.D.Device.seen c.loop-index.device) (g.D.Device.seen c.settle.new.device) (Err c.in-Err.failed) c.in-Err.ensures.settles ∙ c.loop-index.invariant.shape

pub returns-clause-call : goal.returns-clause-call
returns-clause-call g c =
    let seen = g.D.Device.seen in
    let was = c.loop-index.invariant in
    let all : map_pages c.loop-index.self.tables.shape ≤ c.loop-index.index = omega (arith, c.loop-index-test.false, c.map_pages-map_pages.ensures, ap map_pages was.shape) in
    flush_done c.loop-index.index c.args.self.now c.loop-index.self (seen c.args.device.now) (seen c.loop-index.device) was.so_far all
