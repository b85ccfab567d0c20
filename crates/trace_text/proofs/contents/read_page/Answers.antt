use Rattle.std.proofs.Common.{Some, ◌≡◌, ap, ◌∙◌, List, ℕ, ◌++◌, drop}
use Rattle.page_device.specs.Block.{zero_block}
use Rattle.trace_text.proofs.Filled.{fills_fits, fills_front, fills_one}
use Rattle.trace_text.specs.Grammar.{Fills}
use Rattle.trace_text.proofs.contents.read_page.Goals as goal

pub returns-in_default-clause-only : goal.returns-in_default-clause-only
returns-in_default-clause-only c = λ page fills. absurd (c.in_default.ensures (fills_fits c.args.digits.now page fills))

read : (c : goal.Then-decode_front) → Fills c.args.digits.now c.decode_front.new.bytes
read c =
    let some = c.decode_front.ensures.some c.if-decode_front.true in
    let zero : c.page.inside.0 ≡ zero_block = c.page.view_is ∙ c.zero-page.ensures in
    fills_front c.args.digits.now some.0 c.decode_front.new.bytes c.in-Some.count c.in-Some.ensures.0 c.in-Some.ensures.1
    some.1 some.2 (some.3 ∙ ap (λ (bytes : List ℕ). some.0 ++ drop c.in-Some.count bytes) zero)

pub returns-then-decode_front-clause-read : goal.returns-then-decode_front-clause-read
returns-then-decode_front-clause-read c = read c

pub returns-then-decode_front-clause-only : goal.returns-then-decode_front-clause-only
returns-then-decode_front-clause-only c =
    λ page fills. ap Some (fills_one c.args.digits.now c.decode_front.new.bytes page (read c) fills)
