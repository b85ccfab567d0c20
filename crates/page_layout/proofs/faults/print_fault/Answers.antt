use Rattle.std.proofs.Common.{◌≡◌, ℕ, List, ⊎_elim, arith, below_more, lt-ltb, le-ltb}
use Rattle.std.proofs.lemmas.Bool.{cases_lt}
use Rattle.page_layout.specs.Tables.{AreZero}
use Rattle.page_layout.specs.Entries.{IsPrintPlace}
use Rattle.page_layout.proofs.faults.print_fault.Goals as goal

-- the last 16 bytes
at_end : (used i : ℕ) (bytes : List ℕ) → i ≡ 170 → AreZero bytes 4080 4096 → IsPrintPlace used bytes i
at_end used i bytes is zeros = record { within = λ lt. absurd (omega arith); behind = λ lt. absurd (omega arith); tail = λ _. zeros }

pub loop-i-preserved : goal.loop-i-preserved
loop-i-preserved c = below_more _ _ c.loop-i.invariant (record {
  within = λ _ used. (c.is_print.ensures.used (lt-ltb c.loop-i.i c.args.used used)).0 c.if-not-is_print.false;
  behind = λ _ rest. (c.is_print.ensures.rest (le-ltb c.loop-i.i c.args.used rest)).0 c.if-not-is_print.false;
  tail = λ is. absurd (omega arith);
})

pub returns : goal.returns
returns c = λ k lt. ⊎_elim (λ below. c.loop-i.invariant k (omega arith)) (λ above. at_end c.args.used k c.args.bytes.now (omega arith) (c.are_zero.ensures.0 c.if-not-are_zero.false)) (cases_lt k 170)
