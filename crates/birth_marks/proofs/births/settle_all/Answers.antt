use Rattle.std.proofs.Common.{arith}
use Rattle.birth_marks.specs.Births.{BirthsView}
use Rattle.birth_marks.specs.Pages.{listed_last}
use Rattle.birth_marks.proofs.KeptLemmas.{one_settled}
use Rattle.birth_marks.proofs.SweepLemmas.{settled_one_more, settled_rises, swept_later, swept_then}
use Rattle.birth_marks.proofs.births.settle_all.Goals as goal

pub loop-pages-preserved : goal.loop-pages-preserved
loop-pages-preserved c =
    let b : BirthsView = record { records = c.loop-pages.records.entries; moments = c.loop-pages.moments.entries; pages = c.loop-pages.pages; spare = 0 } in
    let one = one_settled b c.args.moment (listed_last c.loop-pages.pages) c.loop-pages.invariant.2 c.settle-last.new.self c.settle-last.ensures.mark c.settle-last.result c.settle-last.ensures.noted _ _
    c.sweep.ensures.none c.sweep.ensures.gone (λ s r h. c.requires.behind.changed s r (c.loop-pages.invariant.1.swept.were s r h)) 0 in (
      settled_one_more c.args.moment c.args.pages.now c.loop-pages.pages c.settle-last.new.self _ c.loop-pages.invariant.0 c.settle-last.ensures.mark c.settle-last.ensures.known c.settle-last.ensures.spare,
      record {
        swept = swept_then c.settle-last.new.self _ _ _ _ _ _
            (swept_later c.loop-pages.pages c.settle-last.new.self _ _ _ _ (settled_rises c.args.moment c.args.pages.now c.loop-pages.pages c.settle-last.new.self _ c.loop-pages.invariant.0 c.settle-last.ensures.mark) c.loop-pages.invariant.1.swept) one.1;
        records_fit = omega (arith, c.loop-pages.invariant.1.records_fit, c.sweep.ensures.room.0);
        moments_fit = omega (arith, c.loop-pages.invariant.1.moments_fit, c.sweep.ensures.room.1);
      },
      one.0,
    )
