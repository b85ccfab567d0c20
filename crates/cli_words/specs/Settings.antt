-- The numbers that were given for the options, and the job that they make of an action.
use Rattle.std.specs.Prelude.{ℕ, List, Option, Some, None, unwrap_or}
use Rattle.cli_words.specs.Grammar.{Says}
use Rattle.cli_words.specs.Names.{Text}
use Rattle.cli_words.specs.declared.jobs.Job.{Job}
use Rattle.cli_words.specs.declared.jobs.Job.TheVariants as job
use Rattle.cli_words.specs.declared.names.Action.{Action}
use Rattle.cli_words.specs.declared.names.Action.TheVariants.{Trace, Format, Load, Check, Upgrade, Merge, Serve, Vtrace}
use Rattle.cli_words.specs.declared.names.Argument.{Argument}
use Rattle.cli_words.specs.declared.names.Argument.TheVariants.{Named}
use Rattle.cli_words.specs.declared.names.OptionName.{OptionName}
use Rattle.cli_words.specs.declared.names.OptionName.TheVariants.{Blocks, Pages, Cache, Policy, Seed, Count}
use Rattle.cli_words.specs.declared.settings.Settings.{Settings}

-- the number that was given for an option
abbrev pub given_of : Settings → OptionName → Option ℕ
given_of s Blocks = s.blocks
given_of s Pages = s.pages
given_of s Cache = s.cache
given_of s Policy = s.policy
given_of s Seed = s.seed
given_of s Count = s.count

-- some option has values that say nothing
abbrev pub SaysNone : (Argument → List Text) → Type 0
SaysNone values = (o : OptionName) × ((given : Option ℕ) → ¬ Says o (values (Named o)) given)

-- the job of an action with the numbers for blocks, pages, cache, policy, seed and count
abbrev pub job_of : Action → Option ℕ → Option ℕ → Option ℕ → Option ℕ → Option ℕ → Option ℕ → Option Job
job_of Trace None None cache policy None None = Some (job.Trace (unwrap_or cache 512) (unwrap_or policy 0))
job_of Format (Some blocks) (Some pages) None None None None = Some (job.Format blocks pages)
job_of Load None None cache policy (Some seed) (Some count) = Some (job.Load seed count (unwrap_or cache 512) (unwrap_or policy 0))
job_of Check None None None None None None = Some job.Check
job_of Upgrade None None None None None None = Some job.Upgrade
job_of Merge None None None None None None = Some job.Merge
job_of Serve None None cache policy None None = Some (job.Serve (unwrap_or cache 512) (unwrap_or policy 0))
job_of Vtrace None None cache policy None None = Some (job.Vtrace (unwrap_or cache 512) (unwrap_or policy 0))
job_of _ _ _ _ _ _ _ = None
