-- The command as clap's definitions see it: one word, and six options with a value each.
use Rattle.std.specs.Prelude.{Some, true, codes}
use Rattle.clap.specs.Words.{App, Rule, new_app, new_rule, with_rule}
use Rattle.cli_words.specs.Names.{Text}

abbrev pub option_rule : Text → Rule
option_rule name = record (new_rule name) { long = Some name }

abbrev pub bare : App
bare = let a = new_app (codes "omd_tool") in record a {
  top = record a.top { no_binary_name = true; disable_help_flag = true; disable_version_flag = true };
}

abbrev pub tool : App
tool = with_rule (with_rule (with_rule (with_rule (with_rule (with_rule (with_rule bare
    (new_rule (codes "action")))
    (option_rule (codes "blocks")))
    (option_rule (codes "pages")))
    (option_rule (codes "cache")))
    (option_rule (codes "policy")))
    (option_rule (codes "seed")))
    (option_rule (codes "count"))
