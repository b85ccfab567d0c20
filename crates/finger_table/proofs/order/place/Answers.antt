use Rattle.std.proofs.Common.{ℕ, ◌+◌, ◌*◌, leb, arith, leb-true, leb-false, rules}
use Rattle.std.proofs.lemmas.List.Sorted.{IsPartitionedBy-leb, IsPartitionPoint-from_clause}
use Rattle.finger_table.specs.Order.{rank, key_in}
use Rattle.finger_table.proofs.order.place.Goals as goal

pub returns-clause-before : goal.returns-clause-before
returns-clause-before c =
    let key : ℕ → ℕ = key_in c.args.prints.now in
    let target : ℕ = rank c.args.print.now * 4294967296 + c.args.from in
    let point = IsPartitionPoint-from_clause (λ p. leb (key p) target) _ _ c.partition_point.ensures.partitioned (IsPartitionedBy-leb key c.args.pages.now target c.requires.order) (λ a r q k. search rules) in
    λ k lt. leb-true _ _ (point.0 k 0 (omega arith) lt)

pub returns-clause-behind : goal.returns-clause-behind
returns-clause-behind c =
    let key : ℕ → ℕ = key_in c.args.prints.now in
    let target : ℕ = rank c.args.print.now * 4294967296 + c.args.from in
    let point = IsPartitionPoint-from_clause (λ p. leb (key p) target) _ _ c.partition_point.ensures.partitioned (IsPartitionedBy-leb key c.args.pages.now target c.requires.order) (λ a r q k. search rules) in
    λ k le lt. leb-false _ _ (point.1 k 0 le lt)
