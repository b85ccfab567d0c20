use Rattle.std.specs.Prelude.{length}
use Rattle.std.specs.HashMap.{spare}
use Rattle.birth_marks.specs.Kept.{AreLinked, SettledSoFar, SweptSoFar}
use Rattle.birth_marks.proofs.births.settle_all.Given as goal

abbrev pub invariant-loop-pages : goal.invariant-loop-pages
invariant-loop-pages l = SettledSoFar l.moment l.initial.pages l.pages
    × SweptSoFar l.pages l.initial.records.entries l.initial.moments.entries l.records.entries l.moments.entries (spare l.initial.records) (spare l.initial.moments) (spare l.records) (spare l.moments)
    × AreLinked (record { records = l.records.entries; moments = l.moments.entries; pages = l.pages; spare = 0 }) l.moment

abbrev pub decreases-loop-pages : goal.decreases-loop-pages
decreases-loop-pages l = length l.pages.listed
