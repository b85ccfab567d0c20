use Rattle.std.proofs.Common.{◌∙◌, ap, sym}
use Rattle.cli_words.specs.Scan.{ends_well, none_came}
use Rattle.cli_words.proofs.ScanLemmas.{ends_well-spelling, tidy_tokens}
use Rattle.cli_words.proofs.scan.is_tidy.Goals as goal

pub returns-clause-tokens : goal.returns-clause-tokens
returns-clause-tokens c holds = tidy_tokens none_came _ (sym c.ends_well.ensures ∙ holds)

pub returns-clause-taken : goal.returns-clause-taken
returns-clause-taken c ts is tidy = c.ends_well.ensures ∙ ap (ends_well _) is ∙ ends_well-spelling ts none_came tidy
