use Rattle.std.proofs.Common.{◌≡◌, ⊎_elim, ℕ, ◌+◌, ◌==◌, not, refl, sym, ◌∙◌, ap, subst, arith, add-one}
use Rattle.std.proofs.lemmas.Bool.{cases_eq, eq-eqb, ne_eqb}
use Rattle.page_layout.specs.Numbers.{entry_of}
use Rattle.array_model.specs.Counting.{count_below}
use Rattle.image_reader.specs.Tallies.{tally_of}
use Rattle.array_model.proofs.CountingLemmas.{count_below-most, count_below-pass, count_below-fail, count_below-start}
use Rattle.array_model.proofs.TableLemmas.{zeros_counted}
use Rattle.image_reader.proofs.ZeroTables.{zeros_name}
use Rattle.image_reader.proofs.tallies.count_names.Goals as goal

pub returns-then-is_zero-clause-names : goal.returns-then-is_zero-clause-names
returns-then-is_zero-clause-names c = λ p one few. omega (arith, zeros_name c.args.page.now p c.args.used one c.requires.used (c.is_zero.ensures.zero.0 c.if-is_zero.true))

pub returns-then-is_zero-clause-named : goal.returns-then-is_zero-clause-named
returns-then-is_zero-clause-named c = zeros_counted c.args.page.now c.args.used c.requires.used (c.is_zero.ensures.zero.0 c.if-is_zero.true)

pub loop-i-init : goal.loop-i-init
loop-i-init c = record {
  length = refl;
  names = λ p one few. omega (arith, count_below-start (λ q. entry_of c.args.page.now q == p));
  named = sym (count_below-start (λ q. not (entry_of c.args.page.now q == 0)));
}

pub overflow_add-named : goal.overflow_add-named
overflow_add-named c = omega (arith, c.loop-i.invariant.named, count_below-most (λ q. not (entry_of c.args.page.now q == 0)) c.loop-i.i, c.count_name-named.ensures.few, c.loop-i-test.true, c.requires.used)

pub loop-i-preserved : goal.loop-i-preserved
loop-i-preserved c =
    let inv = c.loop-i.invariant in
    let i = c.loop-i.i in
    let old = c.args.tallies.now.items in
    let so_far = c.loop-i.tallies.items in
    let new = c.count_name-named.new.tallies.items in
    let name = c.map_entry.ensures in
    let entry = entry_of c.args.page.now i in
    let is_named = λ (q : ℕ). not (entry_of c.args.page.now q == 0) in
    record {
      length = c.count_name-named.ensures.length ∙ inv.length;
      names = λ p one few.
          let names_it = λ (q : ℕ). entry_of c.args.page.now q == p in
          subst (λ (n : ℕ). tally_of new p ≡ tally_of old p + count_below names_it n) (sym (add-one i))
          (⊎_elim
          (λ same.
          let here = c.count_name-named.ensures.here (omega (arith, one, same)) (omega (arith, inv.names p one few, ap (tally_of so_far) same, count_below-most names_it i, c.loop-i-test.true, few)) in
          omega (arith, here, ap (tally_of new) same, ap (tally_of so_far) same, inv.names p one few, count_below-pass names_it i (eq-eqb entry p (sym name ∙ sym same))))
          (λ other. c.count_name-named.ensures.others p one other ∙ inv.names p one few ∙ ap (λ (n : ℕ). tally_of old p + n) (sym (count_below-fail names_it i (ne_eqb entry p (λ is. other (sym is ∙ sym name))))))
          (cases_eq p c.map_entry.result));
      named = subst (λ (n : ℕ). c.loop-i.named + c.count_name-named.result ≡ count_below is_named n) (sym (add-one i))
          (⊎_elim
          (λ none. omega (arith, inv.named, c.count_name-named.ensures.none none, count_below-fail is_named i (ap not (eq-eqb entry 0 (sym name ∙ none)))))
          (λ some. omega (arith, inv.named, c.count_name-named.ensures.one (omega (arith, some)), count_below-pass is_named i (ap not (ne_eqb entry 0 (λ is. some (name ∙ is))))))
          (cases_eq c.map_entry.result 0));
    }
