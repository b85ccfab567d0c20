use Rattle.std.proofs.Common.{List, ℕ, sym, subst}
use Rattle.trace_text.specs.Grammar.{Fills}
use Rattle.trace_text.proofs.kinds.fill.Goals as goal

pub returns-in_err-page-clause-only : goal.returns-in_err-page-clause-only
returns-in_err-page-clause-only c =
    λ block digits page small e fills.
    let parts = c.in_ok-block.ensures.only block digits small e in
    let none = c.in_err-page.ensures.only page (subst (λ (d : List ℕ). Fills d page) (sym parts.1) fills) in
    cc
