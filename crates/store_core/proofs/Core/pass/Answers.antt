use Rattle.std.proofs.Common.{arith, ◌-◌, refl}
use Rattle.store_core.proofs.NoCalls.{adds_engine, adds_then}
use Rattle.store_core.proofs.PartStays.{done_frame, done_frees, done_order, done_waits, next_from, next_within, passed_none, passed_then, passing_next}
use Rattle.store_core.proofs.Core.pass.Goals as goal

pub loop-i-init : goal.loop-i-init
loop-i-init c = record {
  passed = passed_none c.args.self.now c.args.prints.now;
  passing = record { provided = c.requires.provided; orderly = c.requires.orderly; behind = λ k lt. absurd (omega (arith, lt)) };
  adds = adds_engine c.args.self.now c.args.self.now refl;
  within = omega arith;
}

pub look_at-from-requires-clause-passing : goal.look_at-from-requires-clause-passing
look_at-from-requires-clause-passing c = passing_next c.loop-i.self c.loop-i.from c.in-Some.i c.in-Some.ensures c.loop-i.invariant.passing

pub look_at-from-requires-clause-queued : goal.look_at-from-requires-clause-queued
look_at-from-requires-clause-queued c = next_within c.loop-i.self c.loop-i.from c.in-Some.i c.in-Some.ensures

pub look_at-from-requires-clause-few : goal.look_at-from-requires-clause-few
look_at-from-requires-clause-few c = let within = c.len-before.ensures.queue.within in let small = c.len-before.ensures.queue.small in let left = c.loop-i.invariant.passed.part.frame.left in omega (arith, within, small, left)

pub look_at-from-requires-clause-room : goal.look_at-from-requires-clause-room
look_at-from-requires-clause-room c =
    let within = c.len-before.ensures.queue.within in let small = c.len-before.ensures.queue.small in let left = c.loop-i.invariant.passed.part.frame.left in
    let few = c.loop-i.invariant.passed.few in let freed = c.loop-i.invariant.passed.freed_is in
    let lt = next_within c.loop-i.self c.loop-i.from c.in-Some.i c.in-Some.ensures in
    omega (arith, within, small, left, few, freed, lt)

pub loop-i-smaller : goal.loop-i-smaller
loop-i-smaller c =
    let looks = c.look_at-from.ensures.looks in
    let falls = looks.falls in let forth = looks.forth in let within = looks.within in
    let lt = next_within c.loop-i.self c.loop-i.from c.in-Some.i c.in-Some.ensures in
    let le = next_from c.loop-i.self c.loop-i.from c.in-Some.i c.in-Some.ensures in
    omega (arith, falls, forth, within, lt, le)

pub loop-i-preserved : goal.loop-i-preserved
loop-i-preserved c = record {
  passed = passed_then c.args.self.now c.loop-i.self c.look_at-from.new.self c.args.prints.now c.loop-i.prints c.look_at-from.new.prints c.loop-i.from c.in-Some.i c.look_at-from.result c.loop-i.freed c.look_at-from.new.freed
      c.in-Some.ensures c.loop-i.invariant.passing c.loop-i.invariant.passed c.look_at-from.ensures.looks;
  passing = c.look_at-from.ensures.passing;
  adds = adds_then c.args.self.now c.loop-i.self c.look_at-from.new.self c.loop-i.invariant.passed.part.frame.shape c.loop-i.invariant.adds c.look_at-from.ensures.adds;
  within = c.look_at-from.ensures.looks.within;
}

pub overflow_sub-lowered : goal.overflow_sub-lowered
overflow_sub-lowered c = let left = c.loop-i.invariant.passed.part.frame.left in let now = c.len.ensures.len in let was = c.len-before.ensures.len in omega (arith, left, now, was)

pub returns-clause-stands : goal.returns-clause-stands
returns-clause-stands c = c.loop-i.invariant.passed.part.stands

pub returns-clause-order : goal.returns-clause-order
returns-clause-order c = done_order c.args.self.now c.loop-i.self c.args.prints.now c.loop-i.prints c.loop-i.from c.loop-i.freed c.in_default.ensures c.loop-i.invariant.passing c.loop-i.invariant.passed

pub returns-clause-wait : goal.returns-clause-wait
returns-clause-wait c = done_waits c.args.self.now c.loop-i.self c.args.prints.now c.loop-i.prints c.loop-i.from c.loop-i.freed c.in_default.ensures c.loop-i.invariant.passing c.loop-i.invariant.passed

pub returns-clause-frame : goal.returns-clause-frame
returns-clause-frame c =
    let left = c.loop-i.invariant.passed.part.frame.left in let now = c.len.ensures.len in let was = c.len-before.ensures.len in
    done_frame c.args.self.now c.loop-i.self c.args.prints.now c.loop-i.prints c.loop-i.from c.loop-i.freed c.in_default.ensures c.loop-i.invariant.passing c.loop-i.invariant.passed
    (c.len-before.result - c.len.result) (omega (arith, left, now, was))

pub returns-clause-frees : goal.returns-clause-frees
returns-clause-frees c = done_frees c.args.self.now c.loop-i.self c.args.prints.now c.loop-i.prints c.loop-i.from c.loop-i.freed c.in_default.ensures c.loop-i.invariant.passing c.loop-i.invariant.passed c.loop-i.invariant.within

pub returns-clause-provided : goal.returns-clause-provided
returns-clause-provided c = c.loop-i.invariant.passing.provided

pub returns-clause-orderly : goal.returns-clause-orderly
returns-clause-orderly c = c.loop-i.invariant.passing.orderly

pub returns-clause-adds : goal.returns-clause-adds
returns-clause-adds c = c.loop-i.invariant.adds
