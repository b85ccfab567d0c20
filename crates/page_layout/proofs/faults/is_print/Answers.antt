use Rattle.std.proofs.Common.{◌≡◌, ◌*◌, ◌≤◌, sym, ◌∙◌, arith, slice_index, true≢false}
use Rattle.page_layout.specs.Numbers.{number_at}
use Rattle.page_layout.proofs.Flags.{flagged, padded, all_zero}
use Rattle.page_layout.proofs.faults.is_print.Goals as goal

pub returns-in-0-clause-used : goal.returns-in-0-clause-used
returns-in-0-clause-used c = λ _.
    let p = c.args.bytes.now in
    let at = 24 * c.args.i in
    let few : number_at p at ≤ 1 = omega (arith, c.number.ensures, c.in-0.is) in
    let front = flagged p at few in
    let flag : slice_index p at ≡ 0 = omega (arith, front.0, c.number.ensures, c.in-0.is) in
    (λ are. record { flag = omega (arith, flag); padding = front.1; none = λ _. c.are_zero.ensures.0 are }, λ entry. c.are_zero.ensures.1 (entry.none flag))

pub returns-in-0-clause-rest : goal.returns-in-0-clause-rest
returns-in-0-clause-rest c = λ _. (λ are. all_zero c.args.bytes.now (24 * c.args.i) (sym c.number.ensures ∙ c.in-0.is) (c.are_zero.ensures.0 are), λ zeros. c.are_zero.ensures.1 (λ j low high. zeros j (omega arith) high))

pub returns-in-1-clause-used : goal.returns-in-1-clause-used
returns-in-1-clause-used c = λ used.
    let p = c.args.bytes.now in
    let at = 24 * c.args.i in
    let few : number_at p at ≤ 1 = omega (arith, c.number.ensures, c.in-1.is) in
    let front = flagged p at few in
    let flag : slice_index p at ≡ 1 = omega (arith, front.0, c.number.ensures, c.in-1.is) in
    (λ _. record { flag = omega (arith, flag); padding = front.1; none = λ is. absurd (omega (arith, flag, is)) }, λ _. used)

pub returns-in-1-clause-rest : goal.returns-in-1-clause-rest
returns-in-1-clause-rest c = λ unused.
    let p = c.args.bytes.now in
    let at = 24 * c.args.i in
    (λ is. absurd (true≢false (sym is ∙ unused)), λ zeros. absurd (omega (arith, padded p at (λ j low high. zeros j (omega arith) (omega arith)), zeros at (omega arith) (omega arith), c.number.ensures, c.in-1.is)))

pub returns-in_default-clause-used : goal.returns-in_default-clause-used
returns-in_default-clause-used c = λ _. (λ is. absurd (true≢false (sym is)), λ entry. absurd (omega (arith, padded c.args.bytes.now (24 * c.args.i) entry.padding, entry.flag, c.number.ensures, c.in_default)))

pub returns-in_default-clause-rest : goal.returns-in_default-clause-rest
returns-in_default-clause-rest c = λ _. (λ is. absurd (true≢false (sym is)), λ zeros. absurd (omega (arith, padded c.args.bytes.now (24 * c.args.i) (λ j low high. zeros j (omega arith) (omega arith)), zeros (24 * c.args.i) (omega arith) (omega arith), c.number.ensures, c.in_default)))
