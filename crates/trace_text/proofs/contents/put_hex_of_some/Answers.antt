use Rattle.std.proofs.Common.{arith}
use Rattle.trace_text.proofs.Filled.{fills_trimmed}
use Rattle.trace_text.proofs.contents.put_hex_of_some.Goals as goal

pub returns-then-is_empty-clause-fills : goal.returns-then-is_empty-clause-fills
returns-then-is_empty-clause-fills c = fills_trimmed c.args.page.now c.requires.page (λ k. omega (arith, c.type_inv.page k))

pub returns-else-is_empty-clause-fills : goal.returns-else-is_empty-clause-fills
returns-else-is_empty-clause-fills c = fills_trimmed c.args.page.now c.requires.page (λ k. omega (arith, c.type_inv.page k))
