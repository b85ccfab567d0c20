use Rattle.std.proofs.Common.{◌≡◌, ◌&&◌, ◌+◌, ◌∙◌, true, Some, None, ap, arith, cond, not, subst, sym}
use Rattle.std.specs.Map.{lookup}
use Rattle.order_model.specs.declared.Slot.{Slot}
use Rattle.birth_marks.specs.declared.births.Pair.{Pair}
use Rattle.birth_marks.specs.contracts.births.PairPartialEq.TheImpl.{eq-value as same_pair}
use Rattle.order_model.specs.Calls.{same_slot}
use Rattle.birth_marks.specs.Births.{BirthsView, first_of, is_after, is_tried, moment_in, place_in, record_in, recorded_in, value_in}
use Rattle.birth_marks.specs.declared.pages.Mark.{Mark}
use Rattle.birth_marks.specs.Pages.{mark_of}
use Rattle.birth_marks.proofs.KeptLemmas.{changed_linked}
use Rattle.birth_marks.proofs.TableLemmas.{changed_behind, changed_is, others_same, placed_is}
use Rattle.birth_marks.proofs.births.Births.change.Goals as goal

abbrev before : goal.After-change → BirthsView
before c = record { records = c.self.inside.records.entries; moments = c.self.inside.moments.entries; pages = c.self.inside.pages; spare = c.self.inside.spare }

was_is : (c : goal.After-change) → c.live-was.result ≡ cond (recorded_in (before c) c.args.slot) (record_in (before c) c.args.slot) None
was_is c = subst (λ b. c.live-was.result ≡ cond (recorded_in b c.args.slot) (record_in b c.args.slot) None) (sym c.self.view_is) c.live-was.ensures

first_met_is : (c : goal.After-change) → c.is_first_met-first_met.result
    ≡ (is_tried c.self.inside.pages c.live-was.result && not (is_after (first_of c.live-was.result (c.self.inside.moment + 1)) (moment_in (before c) c.args.slot c.args.from)))
first_met_is c =
    subst (λ (b : BirthsView). c.is_first_met-first_met.result ≡ (is_tried b.pages c.live-was.result && not (is_after c.first_of-first.result (moment_in b c.args.slot c.args.from))))
    (sym c.self.view_is) c.is_first_met-first_met.ensures
    ∙ rw c.first_of-first.ensures

records_are : (c : goal.After-change) (s : Slot) → lookup (same_slot s) c.put.new.records.entries
    ≡ cond (same_slot c.args.slot s) (Some (record { page = c.args.at; value = c.args.to; first = first_of c.live-was.result (c.self.inside.moment + 1); moment = c.self.inside.moment + 1 })) (record_in (before c) s)
records_are c s = c.put.ensures.records s ∙ rw c.first_of-first.ensures

moments_are : (c : goal.After-change) (q : Pair) → lookup (same_pair.it q) c.note.new.moments.entries
    ≡ cond ((is_tried c.self.inside.pages c.live-was.result && not (is_after (first_of c.live-was.result (c.self.inside.moment + 1)) (moment_in (before c) c.args.slot c.args.from)))
    && same_pair.it (record { slot = c.args.slot; value = c.args.from }) q) (Some (record { moment = c.self.inside.moment + 1; before = c.mark-before.result.last })) (lookup (same_pair.it q) (before c).moments)
moments_are c q = c.note.ensures.moments q ∙ rw (first_met_is c)

last_is : (c : goal.After-change) → c.last_noted.result ≡ cond (is_tried c.self.inside.pages c.live-was.result && not (is_after (first_of c.live-was.result (c.self.inside.moment + 1)) (moment_in (before c) c.args.slot c.args.from)))
    (Some (record { slot = c.args.slot; value = c.args.from })) (mark_of c.self.inside.pages c.args.at).last
last_is c = c.last_noted.ensures ∙ (ap (λ t. cond t (Some (record { slot = c.args.slot; value = c.args.from })) c.mark-before.result.last) (first_met_is c)
    ∙ ap (λ (m : Mark). cond (is_tried c.self.inside.pages c.live-was.result && not (is_after (first_of c.live-was.result (c.self.inside.moment + 1)) (moment_in (before c) c.args.slot c.args.from)))
    (Some (record { slot = c.args.slot; value = c.args.from })) m.last) c.mark-before.ensures)

pub invariant_of-self : goal.invariant_of-self
invariant_of-self c = (
  changed_behind (before c) _ c.args.slot c.args.at c.args.from c.args.to c.self.inside.moment c.self.invariant.0 c.live-was.result (was_is c) (records_are c) _ (moments_are c) _ (last_is c) c.change.ensures.mark c.change.ensures.known
      (subst (λ b. recorded_in b c.args.slot ≡ true → place_in b c.args.slot ≡ c.args.at) (sym c.self.view_is) c.requires.place),
  changed_linked (before c) _ c.args.slot c.args.at c.args.from c.args.to c.self.inside.moment c.self.invariant.0 c.self.invariant.1 c.live-was.result (was_is c) (records_are c) _ (ap (λ (m : Mark). m.last) c.mark-before.ensures) (moments_are c) _ (last_is c) c.change.ensures.mark
      (subst (λ b. recorded_in b c.args.slot ≡ true → place_in b c.args.slot ≡ c.args.at) (sym c.self.view_is) c.requires.place),
  record {
    pages_fit = omega (arith, c.change.ensures.spare, c.self.invariant.2.pages_fit);
    records_fit = omega (arith, c.put.ensures.room, c.self.invariant.2.records_fit);
    moments_fit = omega (arith, c.note.ensures.room, c.self.invariant.2.moments_fit);
    few = let same : c.self.inside.spare ≡ c.args.self.now.spare = ap (λ (b : BirthsView). b.spare) c.self.view_is in omega (arith, c.self.invariant.2.few, c.requires.spare);
  },
)

pub returns-clause-changed : goal.returns-clause-changed
returns-clause-changed c value = rw (sym c.self.view_is)
    (changed_is (before c) _ c.args.slot c.args.at c.args.from c.args.to c.self.inside.moment c.self.invariant.0 c.live-was.result (was_is c) (records_are c) _ (moments_are c) _ (last_is c) c.change.ensures.mark c.change.ensures.known
    (subst (λ b. recorded_in b c.args.slot ≡ true → value_in b c.args.slot ≡ c.args.from) (sym c.self.view_is) value))

pub returns-clause-placed : goal.returns-clause-placed
returns-clause-placed c = rw (sym c.self.view_is)
    (placed_is (before c) _ c.args.slot c.args.at c.args.from c.args.to c.self.inside.moment c.self.invariant.0 c.live-was.result (was_is c) (records_are c) _ (moments_are c) _ (last_is c) c.change.ensures.mark c.change.ensures.known)

pub returns-clause-others : goal.returns-clause-others
returns-clause-others c = rw (sym c.self.view_is)
    (others_same (before c) _ c.args.slot c.args.at c.args.from c.args.to c.self.inside.moment c.self.invariant.0 c.live-was.result (was_is c) (records_are c) _ (moments_are c) _ (last_is c) c.change.ensures.mark c.change.ensures.known)
