use Rattle.std.proofs.Common.{◌≡◌, ◌∙◌, ◌&&◌, ◌||◌, Bool, eqb, ap, arith}
use Rattle.dep_graph.specs.Pairs.{BothWays, ends_at, has_pair}
use Rattle.std.proofs.Common.{length, sym}
use Rattle.dep_graph.proofs.live.LiveEdges.insert.Goals as goal

pub insert-requires-clause-absent : goal.insert-requires-clause-absent
insert-requires-clause-absent c = ap (λ (e : BothWays). has_pair e.pairs c.args.pair.before c.args.pair.after) c.self.view_is ∙ c.requires.absent

pub insert-requires-clause-room : goal.insert-requires-clause-room
insert-requires-clause-room c =
    let len = ap (λ (e : BothWays). length e.pairs) c.self.view_is in
    let room = ap (λ (e : BothWays). e.room) c.self.view_is in
    omega (arith, c.requires.room)

pub invariant_of-self : goal.invariant_of-self
invariant_of-self c = record {
  rising = c.insert.ensures.rising;
  back_rising = c.insert-2.ensures.rising;
  turned = λ a b. c.insert-2.ensures.pairs b a ∙ rw (c.turned.ensures.before, c.turned.ensures.after, c.self.invariant.turned a b) (turn (has_pair c.self.inside.forward.items a b) (eqb a c.args.pair.before) (eqb b c.args.pair.after)) ∙ sym (c.insert.ensures.pairs a b);
  each = omega (arith, c.insert.ensures.len, c.insert-2.ensures.len, c.self.invariant.each);
}
  where
    turn : (x p q : Bool) → (x || (q && p)) ≡ (x || (p && q))
    turn x p q = grind arith

pub returns-clause-pairs : goal.returns-clause-pairs
returns-clause-pairs c = λ a b. c.insert.ensures.pairs a b ∙ ap (λ (e : BothWays). has_pair e.pairs a b || (eqb a c.args.pair.before && eqb b c.args.pair.after)) c.self.view_is

pub returns-clause-ends : goal.returns-clause-ends
returns-clause-ends c = λ b. let more = c.insert.ensures.ends b in let same = ap (λ (e : BothWays). ends_at e.pairs b) c.self.view_is in omega arith
