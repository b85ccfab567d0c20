use Rattle.std.proofs.Common.{◌≡◌, ◌∙◌, ◌&&◌, Bool, List, not, length, eqb, ap, subst, sym, arith}
use Rattle.std.proofs.lemmas.Bool.{and_parts}
use Rattle.dep_graph.specs.declared.pairs.Pair.{Pair}
use Rattle.dep_graph.specs.Pairs.{AreRising, BothWays, Precedes, from_page, has_pair, not_from_page}
use Rattle.dep_graph.proofs.GraphLemmas.{has_from, has_not_from, length_parts}
use Rattle.dep_graph.proofs.RisingLemmas.{rises_filter}
use Rattle.dep_graph.proofs.live.LiveEdges.remove_out_of.Goals as goal

pub remove_turned-requires-clause-gone_rising : goal.remove_turned-requires-clause-gone_rising
remove_turned-requires-clause-gone_rising c =
    subst AreRising (sym (c.out_of.ensures ∙ ap (λ (l : List Pair). from_page l c.args.page) c.deref.ensures.value)) (rises_filter Precedes (λ p. eqb p.before c.args.page) c.self.inside.forward.items c.self.invariant.rising)

pub remove_turned-requires-clause-there : goal.remove_turned-requires-clause-there
remove_turned-requires-clause-there c =
    let out = c.out_of.ensures ∙ ap (λ (l : List Pair). from_page l c.args.page) c.deref.ensures.value in
    λ a b h. c.self.invariant.turned a b ∙ (and_parts _ _ (sym (has_from c.self.inside.forward.items c.args.page a b) ∙ ap (λ (l : List Pair). has_pair l a b) (sym out) ∙ h)).0

pub invariant_of-self : goal.invariant_of-self
invariant_of-self c =
    let out = c.out_of.ensures ∙ ap (λ (l : List Pair). from_page l c.args.page) c.deref.ensures.value in
    let is = c.remove_out_of.ensures.items in
    let parts = length_parts c.self.inside.forward.items c.args.page in
    let gone = ap length out in
    let left = ap length is in
    record {
      rising = c.remove_out_of.ensures.rising;
      back_rising = c.remove_turned.ensures.rising;
      turned = λ a b.
          c.remove_turned.ensures.pairs a b ∙ rw (c.self.invariant.turned a b, ap (λ (l : List Pair). has_pair l a b) out, has_from c.self.inside.forward.items c.args.page a b) (less (has_pair c.self.inside.forward.items a b) (eqb a c.args.page))
          ∙ sym (ap (λ (l : List Pair). has_pair l a b) is ∙ has_not_from c.self.inside.forward.items c.args.page a b);
      each = omega (arith, c.remove_turned.ensures.len, c.self.invariant.each);
    }
  where
    less : (x e : Bool) → (x && not (x && e)) ≡ (x && not e)
    less x e = grind arith

pub returns-clause-pairs : goal.returns-clause-pairs
returns-clause-pairs c = c.remove_out_of.ensures.items ∙ ap (λ (e : BothWays). not_from_page e.pairs c.args.page) c.self.view_is
