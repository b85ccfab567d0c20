use Rattle.std.proofs.Common.{rules, refl}
use Rattle.cli_words.specs.Found.{values_found}
use Rattle.cli_words.specs.declared.names.Argument.TheVariants.{Named}
use Rattle.cli_words.proofs.JobLemmas.{says_none}
use Rattle.cli_words.proofs.settings.setting.Goals as goal

pub returns-in-None-number_in-clause-err : goal.returns-in-None-number_in-clause-err
returns-in-None-number_in-clause-err c = (
  refl,
  (
    c.args.option,
    says_none c.args.option c.in-Some.text.now (values_found c.args.matches.now (Named c.args.option)) (search rules) c.in-None-number_in.ensures.none,
  ),
)
