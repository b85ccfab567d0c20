-- Which words are a command, and which job they mean. One word is an action; the options, in any order, are each
-- `--name` followed by the word of its value, or one word `--name=VALUE`; none comes twice; a value is a number in
-- the option's range; the action has all the options that it needs and none that it does not take. So neither the
-- action nor a value begins with a hyphen.
use Rattle.std.specs.Prelude.{◌≡◌, ⊤, ℕ, ◌≤◌, List, [], ◌∷◌, Option, Some, None, unwrap_or}
use Rattle.cli_words.specs.Names.{Text, action_text, least_of, most_of}
use Rattle.cli_words.specs.Number.{IsNumber}
use Rattle.cli_words.specs.Tokens.{Token, spelling, values_in}
use Rattle.cli_words.specs.declared.jobs.Job.{Job}
use Rattle.cli_words.specs.declared.jobs.Job.TheVariants as job
use Rattle.cli_words.specs.declared.names.Action.{Action}
use Rattle.cli_words.specs.declared.names.Action.TheVariants.{Trace, Format, Load, Check, Upgrade, Merge, Serve, Vtrace}
use Rattle.cli_words.specs.declared.names.Argument.{Argument}
use Rattle.cli_words.specs.declared.names.Argument.TheVariants.{Positional, Named}
use Rattle.cli_words.specs.declared.names.OptionName.{OptionName}
use Rattle.cli_words.specs.declared.names.OptionName.TheVariants.{Blocks, Pages, Cache, Policy, Seed, Count}

abbrev pub action_of : Job → Action
action_of (job.Format blocks pages) = Format
action_of (job.Trace cache policy) = Trace
action_of (job.Load seed count cache policy) = Load
action_of job.Check = Check
action_of job.Upgrade = Upgrade
action_of job.Merge = Merge
action_of (job.Serve cache policy) = Serve
action_of (job.Vtrace cache policy) = Vtrace

-- what a job makes of an option: it needs it, with this number; it may go without, and the default (the first number)
-- stands for it then; it does not take it
pub data Role : Type 0 where
  needed : ℕ → Role
  optional : ℕ → ℕ → Role
  untaken : Role

-- the cache and the policy of a session
abbrev pub session_role : ℕ → ℕ → OptionName → Role
session_role cache policy Cache = optional 512 cache
session_role cache policy Policy = optional 0 policy
session_role cache policy _ = untaken

abbrev pub format_role : ℕ → ℕ → OptionName → Role
format_role blocks pages Blocks = needed blocks
format_role blocks pages Pages = needed pages
format_role blocks pages _ = untaken

abbrev pub load_role : ℕ → ℕ → ℕ → ℕ → OptionName → Role
load_role seed count cache policy Seed = needed seed
load_role seed count cache policy Count = needed count
load_role seed count cache policy Cache = optional 512 cache
load_role seed count cache policy Policy = optional 0 policy
load_role seed count cache policy _ = untaken

abbrev pub role : Job → OptionName → Role
role (job.Format blocks pages) o = format_role blocks pages o
role (job.Trace cache policy) o = session_role cache policy o
role (job.Load seed count cache policy) o = load_role seed count cache policy o
role job.Check o = untaken
role job.Upgrade o = untaken
role job.Merge o = untaken
role (job.Serve cache policy) o = session_role cache policy o
role (job.Vtrace cache policy) o = session_role cache policy o

-- the number that was given for an option, if any, is one that the role takes
abbrev pub Takes : Role → Option ℕ → Type 0
Takes (needed n) given = given ≡ Some n
Takes (optional default n) given = unwrap_or given default ≡ n
Takes untaken given = given ≡ None

-- the values of an option say nothing, or one number in its range
abbrev pub Says : OptionName → List Text → Option ℕ → Type 0
Says o values None = values ≡ []
Says o values (Some n) = (v : Text) × (values ≡ v ∷ []) × IsNumber (most_of o) v n × (least_of o ≤ n)

-- what the values of each argument say is this job
pub record Settles (values : Argument → List Text) (made : Job) : Type 0 where
  pub action : values Positional ≡ action_text (action_of made) ∷ []
  pub given : OptionName → Option ℕ
  pub says : (o : OptionName) → Says o (values (Named o)) (given o)
  pub takes : (o : OptionName) → Takes (role made o) (given o)

-- the words are in the grammar, and mean this job
pub record Means (words : List Text) (made : Job) : Type 0 where
  pub tokens : List Token
  pub spelled : words ≡ spelling tokens
  pub settled : Settles (λ a. values_in a tokens) made

-- the number is in the range of the option
abbrev pub IsWithin : OptionName → ℕ → Type 0
IsWithin o n = (least_of o ≤ n) × (n ≤ most_of o)

-- each number of the job is in the range of its option
abbrev pub IsInRange : Job → Type 0
IsInRange (job.Format blocks pages) = IsWithin Blocks blocks × IsWithin Pages pages
IsInRange (job.Trace cache policy) = IsWithin Cache cache × IsWithin Policy policy
IsInRange (job.Load seed count cache policy) = IsWithin Seed seed × IsWithin Count count × IsWithin Cache cache × IsWithin Policy policy
IsInRange job.Check = ⊤
IsInRange job.Upgrade = ⊤
IsInRange job.Merge = ⊤
IsInRange (job.Serve cache policy) = IsWithin Cache cache × IsWithin Policy policy
IsInRange (job.Vtrace cache policy) = IsWithin Cache cache × IsWithin Policy policy
