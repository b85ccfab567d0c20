use Rattle.std.proofs.Common.{arith, List, ℕ, take, drop, length, subst, ◌-◌, length-take}
use Rattle.std.proofs.lemmas.List.{take_rest}
use Rattle.byte_ports.specs.Sink.{Takes, TakesFront, takes_more, front_more}
use Rattle.byte_ports.proofs.sink.put_all.Goals as goal

pub loop-at-preserved : goal.loop-at-preserved
loop-at-preserved g c =
    let from = c.args.from.now in
    let at = c.loop-at.at in
    let seen = g.K.Sink.seen in
    record {
      in_range = omega (arith, c.in-Ok.ensures.bound, length-take (length from - at) (drop at from));
      put = takes_more from at c.in-Ok.taken (seen c.args.sink.now) (seen c.loop-at.sink) (seen c.put.new.self) c.loop-at.invariant.put
          (subst (λ (l : List ℕ). Takes (take c.in-Ok.taken l) (seen c.loop-at.sink) (seen c.put.new.self)) (take_rest from at) c.in-Ok.ensures.taken);
      faults = omega (arith, c.loop-at.invariant.faults, c.put.ensures.cause.never_falls);
    }

pub returns-in-Err-clause-failed : goal.returns-in-Err-clause-failed
returns-in-Err-clause-failed g c =
    let from = c.args.from.now in
    let at = c.loop-at.at in
    let seen = g.K.Sink.seen in
    front_more from at (seen c.args.sink.now) (seen c.loop-at.sink) (seen c.put.new.self) c.loop-at.invariant.put
    (subst (λ (l : List ℕ). TakesFront l (seen c.loop-at.sink) (seen c.put.new.self)) (take_rest from at) c.in-Err.ensures.failed)
