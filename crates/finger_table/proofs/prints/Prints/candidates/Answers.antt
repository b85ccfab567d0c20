use Rattle.std.proofs.Common.{◌≡◌, ◌≤◌, Option, ℕ, List, [], length, sym, ◌∙◌, ap, arith, Some}
use Rattle.finger_table.specs.Order.{print_in, bucket_of}
use Rattle.finger_table.specs.Index.{list_at, StandsIn, IsIndexed}
use Rattle.finger_table.proofs.ListFunctions.{list_at_index, list_at_past}
use Rattle.finger_table.proofs.Ranges.{order_of, range_rises, range_exact}
use Rattle.finger_table.proofs.prints.Prints.candidates.Goals as goal

-- no page of a print whose list is missing
nowhere : (table : List (Option (List ℕ))) (lists : ℕ → List ℕ) (print : List ℕ) → IsIndexed (print_in table) lists → lists (bucket_of print) ≡ [] → (p : ℕ) → (StandsIn [] p → print_in table p ≡ Some print) × (print_in table p ≡ Some print → StandsIn [] p)
nowhere table lists print index empty p = (λ s. absurd (omega (arith, s.within)), λ is. let s : StandsIn (lists (bucket_of print)) p = index.found p print is in absurd (omega (arith, s.within, ap length empty)))

pub returns-in_default-clause-exact : goal.returns-in_default-clause-exact
returns-in_default-clause-exact c =
    let past : length c.self.inside.lists.items ≤ bucket_of c.args.print.now = omega (arith, c.in_default.ensures.lookup.3, c.list_of.ensures.list, ap length c.deref.ensures.value) in
    rw (← c.self.view_is) (nowhere c.self.inside.table.items (list_at c.self.inside.lists.items) c.args.print.now c.self.invariant (list_at_past c.self.inside.lists.items (bucket_of c.args.print.now) past))

pub part_of-requires-clause-order : goal.part_of-requires-clause-order
part_of-requires-clause-order c =
    let stood = rw (c.deref.ensures.value, c.list_of.ensures.list) at c.in-Some.ensures.lookup.1 in
    let within = rw (c.deref.ensures.value, c.list_of.ensures.list) at c.in-Some.ensures.lookup.3.0 in
    let list : c.deref-3.result.now ≡ list_at c.self.inside.lists.items (bucket_of c.args.print.now) = c.deref-3.ensures.value ∙ sym (list_at_index c.self.inside.lists.items (bucket_of c.args.print.now) c.in-Some.pages.now within stood) in
    rw (c.deref-2.ensures.value, list) (order_of c.self.inside.table.items (list_at c.self.inside.lists.items) c.self.invariant (bucket_of c.args.print.now))

pub returns-clause-rising : goal.returns-clause-rising
returns-clause-rising c =
    let stood = rw (c.deref.ensures.value, c.list_of.ensures.list) at c.in-Some.ensures.lookup.1 in
    let within = rw (c.deref.ensures.value, c.list_of.ensures.list) at c.in-Some.ensures.lookup.3.0 in
    let list : c.deref-3.result.now ≡ list_at c.self.inside.lists.items (bucket_of c.args.print.now) = c.deref-3.ensures.value ∙ sym (list_at_index c.self.inside.lists.items (bucket_of c.args.print.now) c.in-Some.pages.now within stood) in
    let range = rw c.deref-2.ensures.value at c.part_of.ensures in
    range_rises c.self.inside.table.items (list_at c.self.inside.lists.items) c.self.invariant c.args.print.now (record { whole = c.told-print; bytes = c.fits-print }) c.deref-3.result.now c.part_of.result.now list range

pub returns-clause-exact : goal.returns-clause-exact
returns-clause-exact c =
    let stood = rw (c.deref.ensures.value, c.list_of.ensures.list) at c.in-Some.ensures.lookup.1 in
    let within = rw (c.deref.ensures.value, c.list_of.ensures.list) at c.in-Some.ensures.lookup.3.0 in
    let list : c.deref-3.result.now ≡ list_at c.self.inside.lists.items (bucket_of c.args.print.now) = c.deref-3.ensures.value ∙ sym (list_at_index c.self.inside.lists.items (bucket_of c.args.print.now) c.in-Some.pages.now within stood) in
    let range = rw c.deref-2.ensures.value at c.part_of.ensures in
    rw (← c.self.view_is) (range_exact c.self.inside.table.items (list_at c.self.inside.lists.items) c.self.invariant c.args.print.now (record { whole = c.told-print; bytes = c.fits-print }) c.deref-3.result.now c.part_of.result.now list range)
