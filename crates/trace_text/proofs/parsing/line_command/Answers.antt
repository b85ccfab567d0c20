use Rattle.std.proofs.Common.{inl, inr}
use Rattle.trace_text.proofs.Shapes.{has_kind}
use Rattle.trace_text.proofs.parsing.line_command.Goals as goal

pub returns-else-has_fields-clause-only : goal.returns-else-has_fields-clause-only
returns-else-has_fields-clause-only c =
    λ command is.
    elim (has_kind c.args.line.now command is) [
      | inl one ↦ absurd (c.if-line-eq1.false one)
      | inr more ↦
          let yes = c.has_fields.ensures.1 more in
          let no = c.if-has_fields.false in
          cc
    ]
