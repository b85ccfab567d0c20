-- The names of actions and options, and the range of each option.
use Rattle.std.specs.Prelude.{ℕ, List, Option, Some, None, codes, cond}
use Rattle.std.specs.Str.{bytes_eq}
use Rattle.cli_words.specs.declared.names.Action.{Action}
use Rattle.cli_words.specs.declared.names.Action.TheVariants.{Trace, Format, Load, Check, Upgrade, Merge, Serve, Vtrace}
use Rattle.cli_words.specs.declared.names.Argument.{Argument}
use Rattle.cli_words.specs.declared.names.Argument.TheVariants.{Positional, Named}
use Rattle.cli_words.specs.declared.names.OptionName.{OptionName}
use Rattle.cli_words.specs.declared.names.OptionName.TheVariants.{Blocks, Pages, Cache, Policy, Seed, Count}

abbrev pub Text : Type 0
Text = List ℕ

abbrev pub action_text : Action → Text
action_text Trace = codes "trace"
action_text Format = codes "format"
action_text Load = codes "load"
action_text Check = codes "check"
action_text Upgrade = codes "upgrade"
action_text Merge = codes "merge"
action_text Serve = codes "serve"
action_text Vtrace = codes "vtrace"

-- an option's name, without the two hyphens
abbrev pub option_text : OptionName → Text
option_text Blocks = codes "blocks"
option_text Pages = codes "pages"
option_text Cache = codes "cache"
option_text Policy = codes "policy"
option_text Seed = codes "seed"
option_text Count = codes "count"

-- the name by which an argument is told: that of an option, and "action" for the one word without a name
abbrev pub text_of : Argument → Text
text_of Positional = codes "action"
text_of (Named o) = option_text o

-- the action of this name
abbrev pub action_with_text : Text → Option Action
action_with_text t =
    cond (bytes_eq t (codes "trace")) (Some Trace)
    (cond (bytes_eq t (codes "format")) (Some Format)
    (cond (bytes_eq t (codes "load")) (Some Load)
    (cond (bytes_eq t (codes "check")) (Some Check)
    (cond (bytes_eq t (codes "upgrade")) (Some Upgrade)
    (cond (bytes_eq t (codes "merge")) (Some Merge)
    (cond (bytes_eq t (codes "serve")) (Some Serve)
    (cond (bytes_eq t (codes "vtrace")) (Some Vtrace) None)))))))

-- the option of this name
abbrev pub option_with_text : Text → Option OptionName
option_with_text t =
    cond (bytes_eq t (codes "blocks")) (Some Blocks)
    (cond (bytes_eq t (codes "pages")) (Some Pages)
    (cond (bytes_eq t (codes "cache")) (Some Cache)
    (cond (bytes_eq t (codes "policy")) (Some Policy)
    (cond (bytes_eq t (codes "seed")) (Some Seed)
    (cond (bytes_eq t (codes "count")) (Some Count) None)))))

-- the smallest number that an option takes
abbrev pub least_of : OptionName → ℕ
least_of Blocks = 1
least_of Pages = 1
least_of Cache = 64
least_of Policy = 0
least_of Seed = 0
least_of Count = 0

-- the largest number that an option takes
abbrev pub most_of : OptionName → ℕ
most_of Blocks = 4194304
most_of Pages = 1048576
most_of Cache = 4096
most_of Policy = 4294967295
most_of Seed = 4294967295
most_of Count = 10000000
