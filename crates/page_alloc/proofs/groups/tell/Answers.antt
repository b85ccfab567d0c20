use Rattle.std.proofs.Common.{◌≡◌, ◌+◌, ◌*◌, ◌<◌, subst, sym, arith, length, List}
use Rattle.page_alloc.specs.Kept.{IsIndexed}
use Rattle.page_alloc.specs.declared.marks.Marks.{Marks}
use Rattle.page_alloc.proofs.GroupLemmas.{ToldBelow, told_more, told_inside, told_outside}
use Rattle.page_alloc.proofs.groups.tell.Goals as goal

pub loop-group-preserved : goal.loop-group-preserved
loop-group-preserved c =
    let loop = c.loop-group in
    let within : loop.group < length loop.groups = omega (arith, c.requires.within, loop.auto.groups, c.loop-group-test.true) in
    let indexed = subst (λ (groups : List Marks). IsIndexed groups c.put.new.free) c.put.ensures.groups c.put.ensures.indexed in
    subst (λ (groups : List Marks). ToldBelow c.args.step c.args.count_page (loop.group + 1) c.args.groups.now groups c.put.new.free) (sym c.put.ensures.groups)
    (told_more c.args.step c.args.count_page loop.group c.args.groups.now loop.groups loop.free c.put.new.free c.after-marks.result loop.invariant loop.auto.group within c.after-marks.ensures indexed)

all : (c : goal.After-loop-group) → ToldBelow c.args.step c.args.count_page (16 * c.args.count_page + 16) c.args.groups.now c.loop-group.groups c.loop-group.free
all c =
    let loop = c.loop-group in
    let end : loop.group ≡ 16 * c.args.count_page + 16 = omega (arith, c.loop-group-test.false, loop.auto.group-end) in
    subst (λ g. ToldBelow c.args.step c.args.count_page g c.args.groups.now loop.groups loop.free) end loop.invariant

pub returns-clause-inside : goal.returns-clause-inside
returns-clause-inside c = told_inside c.args.step c.args.count_page c.args.groups.now c.loop-group.groups c.loop-group.free (all c)

pub returns-clause-outside : goal.returns-clause-outside
returns-clause-outside c = told_outside c.args.step c.args.count_page c.args.groups.now c.loop-group.groups c.loop-group.free (all c)
