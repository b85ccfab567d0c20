use Rattle.std.proofs.Common.{rules, ◌∙◌, ap, subst, map, string_bytes}
use Rattle.std.proofs.lemmas.Result.{IfOk-weaker}
use Rattle.clap.specs.Words.{FailsBy, fault_of}
use Rattle.cli_words.specs.Command.{tool}
use Rattle.cli_words.proofs.ClapWalk.{finds_values, fits_from_start, takes_tokens}
use Rattle.cli_words.proofs.clap_command.parse_tidy.Goals as goal

pub returns-clause-memory : goal.returns-clause-memory
returns-clause-memory c =
    let none = ap (fault_of tool) c.requires.spelled ∙ takes_tokens c.requires.tokens (fits_from_start c.requires.tokens c.requires.tidy) in
    let by = subst (λ k. FailsBy k c.parse.result) none c.parse.ensures.kinds in
    search (rules, by)

pub returns-clause-found : goal.returns-clause-found
returns-clause-found c =
    IfOk-weaker c.parse.result _ _ (λ m rows. finds_values m (map string_bytes c.args.words.now) rows) c.parse.ensures.rows
