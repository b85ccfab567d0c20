use Rattle.std.proofs.Common.{◌≡◌, ⊎_elim, ℕ, List, [], length, sym, subst, ◌∙◌, arith}
use Rattle.std.specs.List.Sorted.{IsNonDecreasingBy}
use Rattle.std.proofs.lemmas.Bool.{cases_eq, cases_lt}
use Rattle.finger_table.specs.Filled.{HoldsPages}
use Rattle.finger_table.specs.Index.{list_at}
use Rattle.finger_table.specs.Order.{key_in}
use Rattle.finger_table.proofs.Filled.{holds_permuted, filled_indexed}
use Rattle.finger_table.proofs.ListFunctions.{list_at_past, print_within}
use Rattle.finger_table.proofs.bulk.sort_lists.Goals as goal

pub sort_list-requires-clause-prints : goal.sort_list-requires-clause-prints
sort_list-requires-clause-prints c = λ p own is. c.loop-list.invariant.filled.whole p own (print_within c.args.table.now p own is) is

pub loop-list-preserved : goal.loop-list-preserved
loop-list-preserved c =
    let table = c.args.table.now in
    let key : ℕ → ℕ = key_in table in
    let list = c.loop-list.list in
    let old : ℕ → List ℕ = list_at c.loop-list.lists.items in
    let new : ℕ → List ℕ = list_at c.sort_list.new.lists.items in
    let inv = c.loop-list.invariant in
    let did = c.sort_list.ensures in
    record {
      count = did.count ∙ inv.count;
      filled = record {
        whole = inv.filled.whole;
        each = λ b. ⊎_elim
            (λ same. subst (λ (k : ℕ). HoldsPages table (length table) k (new k)) (sym same) (holds_permuted table (length table) list (old list) (new list) did.same (inv.filled.each list)))
            (λ ne. subst (HoldsPages table (length table) b) (sym (did.others b ne)) (inv.filled.each b))
            (cases_eq b list);
      };
      sorted = λ b lt. ⊎_elim
          (λ same. subst (λ (k : ℕ). IsNonDecreasingBy key (new k)) (sym same) did.sorted)
          (λ ne. subst (IsNonDecreasingBy key) (sym (did.others b ne)) (inv.sorted b (omega (arith, lt, ne))))
          (cases_eq b list);
    }

pub returns : goal.returns
returns c =
    let table = c.args.table.now in
    let items = c.loop-list.lists.items in
    let inv = c.loop-list.invariant in
    filled_indexed table (list_at items) inv.filled (λ b. ⊎_elim
    (λ lt. inv.sorted b lt)
    (λ le. let none : list_at items b ≡ [] = list_at_past items b (omega (arith, le, inv.count, c.loop-list-test.false, c.len-list-end.ensures, c.loop-list.lists.ok.0)) in
    subst (IsNonDecreasingBy (key_in table)) (sym none) (λ i j d upto within. absurd (omega (arith, within))))
    (cases_lt b c.loop-list.list))
