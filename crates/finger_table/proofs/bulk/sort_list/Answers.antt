use Rattle.std.proofs.Common.{◌<◌, ℕ, List, length, IsPermutation, sym, subst, arith, rules}
use Rattle.std.specs.List.Sorted.{IsNonDecreasingBy}
use Rattle.finger_table.proofs.Comparing.{in_order_by_test}
use Rattle.finger_table.specs.Order.{key_in}
use Rattle.finger_table.specs.Index.{list_at}
use Rattle.finger_table.proofs.ListFunctions.{list_at_index, list_at_set, list_at_other}
use Rattle.finger_table.proofs.bulk.sort_list.Goals as goal

pub returns-clause-sorted : goal.returns-clause-sorted
returns-clause-sorted c =
    let key : ℕ → ℕ = key_in c.args.prints.now in
    let within : c.args.list < length c.args.lists.now.items = omega (arith, c.args.lists.now.ok.0) in
    subst (IsNonDecreasingBy key) (sym (list_at_set c.args.lists.now.items c.args.list c.sort_unstable_by.new.self within))
    (in_order_by_test key _ c.sort_unstable_by.ensures.sorted (λ a r g k. search rules))

pub returns-clause-same : goal.returns-clause-same
returns-clause-same c =
    let within : c.args.list < length c.args.lists.now.items = omega (arith, c.args.lists.now.ok.0) in
    subst (IsPermutation (list_at c.args.lists.now.items c.args.list)) (sym (list_at_set c.args.lists.now.items c.args.list c.sort_unstable_by.new.self within))
    (subst (λ (l : List ℕ). IsPermutation l c.sort_unstable_by.new.self.items) (sym (list_at_index c.args.lists.now.items c.args.list c.index_mut.result.now within c.index_mut.ensures.value)) c.sort_unstable_by.ensures.permutation)

pub returns-clause-others : goal.returns-clause-others
returns-clause-others c = λ k ne. list_at_other c.args.lists.now.items c.args.list k c.sort_unstable_by.new.self ne
