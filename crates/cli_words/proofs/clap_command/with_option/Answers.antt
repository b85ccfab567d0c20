use Rattle.std.proofs.Common.{rules, ◌≡◌, ◌∙◌, ap}
use Rattle.std.proofs.lemmas.Result.{IfOk-weaker}
use Rattle.clap.specs.Words.{rule_of, with_rule, app_of}
use Rattle.cli_words.specs.Command.{option_rule}
use Rattle.cli_words.proofs.clap_command.with_option.Goals as goal

pub returns : goal.returns
returns c =
    let rule : rule_of c.long.result ≡ option_rule c.args.name.now = search rules in
    IfOk-weaker c.arg.result _ _ (λ r h. h.shape (search rules) ∙ ap (with_rule (app_of c.args.command)) rule) c.arg.ensures
