use Rattle.std.proofs.Common.{rules, ◌≡◌, ◌∙◌, ap, codes}
use Rattle.std.proofs.lemmas.Result.{IfOk-weaker}
use Rattle.clap.specs.Words.{rule_of, new_rule, with_rule, app_of}
use Rattle.cli_words.proofs.clap_command.with_action.Goals as goal

pub returns : goal.returns
returns c =
    let rule : rule_of c.new.result ≡ new_rule (codes "action") = search rules in
    IfOk-weaker c.arg.result _ _ (λ r h. h.shape (search rules) ∙ ap (with_rule (app_of c.args.command)) rule) c.arg.ensures
