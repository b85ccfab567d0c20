-- Values, the numbers that they say, and the one job that these make.
use Rattle.std.proofs.Common.{arith, ◌≡◌, ◌∙◌, ap, ap₂, sym, refl, subst, ℕ, ◌≤◌, List, [], ◌∷◌, Some, None, lit≤}
use Rattle.std.specs.Prelude.{Option, slice_get, unwrap_or}
use Rattle.clap.specs.declared.parser.matches.ArgMatches.{ArgMatches}
use Rattle.cli_words.specs.Found.{FindsValues, values_found}
use Rattle.cli_words.specs.Grammar.{IsInRange, IsWithin, Means, Says, Settles, Takes, action_of, role}
use Rattle.cli_words.specs.Names.{Text, action_text, action_with_text, least_of, most_of}
use Rattle.cli_words.specs.Number.{IsNumber}
use Rattle.cli_words.specs.Scan.{IsPlain, IsTidy, none_came}
use Rattle.cli_words.specs.Settings.{given_of, job_of}
use Rattle.cli_words.specs.Tokens.{Token, plain, joined, apart, spelling, values_in}
use Rattle.cli_words.specs.declared.jobs.Job.{Job}
use Rattle.cli_words.specs.declared.jobs.Job.TheVariants as job
use Rattle.cli_words.specs.declared.names.Action.{Action}
use Rattle.cli_words.specs.declared.names.Action.TheVariants.{Trace, Format, Load, Check, Upgrade, Merge, Serve, Vtrace}
use Rattle.cli_words.specs.declared.names.Argument.{Argument}
use Rattle.cli_words.specs.declared.names.Argument.TheVariants.{Positional, Named}
use Rattle.cli_words.specs.declared.names.OptionName.{OptionName}
use Rattle.cli_words.specs.declared.names.OptionName.TheVariants.{Blocks, Pages, Cache, Policy, Seed, Count}
use Rattle.cli_words.specs.declared.settings.Settings.{Settings}
use Rattle.cli_words.proofs.ScanLemmas.{spelled_once}
use Rattle.cli_words.proofs.TokenLemmas.{IsOnePlain, tidy_from_values}

-- ---- a job of the table takes its options, and no other numbers make it

abbrev TakesAll : Job → Option ℕ → Option ℕ → Option ℕ → Option ℕ → Option ℕ → Option ℕ → Type 0
TakesAll j blocks pages cache policy seed count =
    Takes (role j Blocks) blocks × Takes (role j Pages) pages × Takes (role j Cache) cache
    × Takes (role j Policy) policy × Takes (role j Seed) seed × Takes (role j Count) count

abbrev Makes : Action → Option ℕ → Option ℕ → Option ℕ → Option ℕ → Option ℕ → Option ℕ → Job → Type 0
Makes action blocks pages cache policy seed count j = (action_of j ≡ action) × TakesAll j blocks pages cache policy seed count

taken_up : (P : Job → Type 0) (i j : Job) → P i → Some i ≡ Some j → P j
taken_up P i j holds same = let one : i ≡ j = cc in subst P one holds

makes : (a : Action) (b p c y s n : Option ℕ) (j : Job) → job_of a b p c y s n ≡ Some j → Makes a b p c y s n j
makes Trace None None c y None None j made =
    taken_up (Makes Trace None None c y None None) _ j (refl, (refl, refl, refl, refl, refl, refl)) made
makes Format (Some b) (Some p) None None None None j made =
    taken_up (Makes Format (Some b) (Some p) None None None None) _ j (refl, (refl, refl, refl, refl, refl, refl)) made
makes Load None None c y (Some s) (Some n) j made =
    taken_up (Makes Load None None c y (Some s) (Some n)) _ j (refl, (refl, refl, refl, refl, refl, refl)) made
makes Check None None None None None None j made =
    taken_up (Makes Check None None None None None None) _ j (refl, (refl, refl, refl, refl, refl, refl)) made
makes Upgrade None None None None None None j made =
    taken_up (Makes Upgrade None None None None None None) _ j (refl, (refl, refl, refl, refl, refl, refl)) made
makes Merge None None None None None None j made =
    taken_up (Makes Merge None None None None None None) _ j (refl, (refl, refl, refl, refl, refl, refl)) made
makes Serve None None c y None None j made =
    taken_up (Makes Serve None None c y None None) _ j (refl, (refl, refl, refl, refl, refl, refl)) made
makes Vtrace None None c y None None j made =
    taken_up (Makes Vtrace None None c y None None) _ j (refl, (refl, refl, refl, refl, refl, refl)) made
makes _ _ _ _ _ _ _ j made = absurd cc

made_by : (j : Job) (b p c y s n : Option ℕ) → TakesAll j b p c y s n → job_of (action_of j) b p c y s n ≡ Some j
made_by (job.Format blocks pages) b p c y s n t = rw (t.0, t.1, t.2, t.3, t.4, t.5) refl
made_by (job.Trace cache policy) b p c y s n t = rw (t.0, t.1, t.4, t.5) (ap₂ (λ k l. Some (job.Trace k l)) t.2 t.3)
made_by (job.Load seed count cache policy) b p c y s n t = rw (t.0, t.1, t.4, t.5) (ap₂ (λ k l. Some (job.Load seed count k l)) t.2 t.3)
made_by job.Check b p c y s n t = rw (t.0, t.1, t.2, t.3, t.4, t.5) refl
made_by job.Upgrade b p c y s n t = rw (t.0, t.1, t.2, t.3, t.4, t.5) refl
made_by job.Merge b p c y s n t = rw (t.0, t.1, t.2, t.3, t.4, t.5) refl
made_by (job.Serve cache policy) b p c y s n t = rw (t.0, t.1, t.4, t.5) (ap₂ (λ k l. Some (job.Serve k l)) t.2 t.3)
made_by (job.Vtrace cache policy) b p c y s n t = rw (t.0, t.1, t.4, t.5) (ap₂ (λ k l. Some (job.Vtrace k l)) t.2 t.3)

abbrev made_of : Action → Settings → Option Job
made_of a s = job_of a s.blocks s.pages s.cache s.policy s.seed s.count

pub takes_given : (a : Action) (s : Settings) (j : Job) → made_of a s ≡ Some j → (o : OptionName) → Takes (role j o) (given_of s o)
takes_given a s j made Blocks = (makes a _ _ _ _ _ _ j made).1.0
takes_given a s j made Pages = (makes a _ _ _ _ _ _ j made).1.1
takes_given a s j made Cache = (makes a _ _ _ _ _ _ j made).1.2
takes_given a s j made Policy = (makes a _ _ _ _ _ _ j made).1.3
takes_given a s j made Seed = (makes a _ _ _ _ _ _ j made).1.4
takes_given a s j made Count = (makes a _ _ _ _ _ _ j made).1.5

pub action_made : (a : Action) (s : Settings) (j : Job) → made_of a s ≡ Some j → action_of j ≡ a
action_made a s j made = (makes a _ _ _ _ _ _ j made).0

-- ---- values say one thing at most

pub same_number : (limit : ℕ) (text : Text) (n m : ℕ) → IsNumber limit text n → IsNumber limit text m → n ≡ m
same_number limit text n m a b = sym a.value ∙ b.value

said_once : (o : OptionName) (values : List Text) (g h : Option ℕ) → Says o values g → Says o values h → g ≡ h
said_once o values None None a b = refl
said_once o values None (Some m) a b = let e = b.1 in absurd cc
said_once o values (Some n) None a b = let e = a.1 in absurd cc
said_once o values (Some n) (Some m) a b =
    let e = a.1 in
    let f = b.1 in
    let same : b.0 ≡ a.0 = cc in
    ap (λ k. Some k) (same_number (most_of o) a.0 n m a.2 (subst (λ v. IsNumber (most_of o) v m) same b.2))

pub says_none : (o : OptionName) (text : Text) (values : List Text) → values ≡ text ∷ []
    → ((n : ℕ) → IsNumber (most_of o) text n → ¬ (least_of o ≤ n)) → (given : Option ℕ) → ¬ Says o values given
says_none o text values is none None says = absurd cc
says_none o text values is none (Some n) says =
    let e = says.1 in
    let same : says.0 ≡ text = cc in
    none n (subst (λ v. IsNumber (most_of o) v n) same says.2) says.3

-- ---- values settle one job at most

with_text-text : (a : Action) → action_with_text (action_text a) ≡ Some a
with_text-text Trace = refl
with_text-text Format = refl
with_text-text Load = refl
with_text-text Check = refl
with_text-text Upgrade = refl
with_text-text Merge = refl
with_text-text Serve = refl
with_text-text Vtrace = refl

same_action : (a b : Action) (values : List Text) → values ≡ action_text a ∷ [] → values ≡ action_text b ∷ [] → a ≡ b
same_action a b values is_a is_b =
    let text : action_text a ≡ action_text b = cc in
    let e : Some a ≡ Some b = sym (with_text-text a) ∙ ap action_with_text text ∙ with_text-text b in
    cc

pub settled_job : (values : Argument → List Text) (j : Job) (a : Action) (s : Settings) → values Positional ≡ action_text a ∷ []
    → ((o : OptionName) → Says o (values (Named o)) (given_of s o)) → Settles values j → made_of a s ≡ Some j
settled_job values j a s is says settles =
    let same : (o : OptionName) → settles.given o ≡ given_of s o = λ o. said_once o (values (Named o)) _ _ (settles.says o) (says o) in
    let takes : (o : OptionName) → Takes (role j o) (given_of s o) = λ o. subst (λ g. Takes (role j o) g) (same o) (settles.takes o) in
    ap (λ k. made_of k s) (same_action a (action_of j) (values Positional) is settles.action)
    ∙ made_by j _ _ _ _ _ _ (takes Blocks, takes Pages, takes Cache, takes Policy, takes Seed, takes Count)

pub settles_same : (v w : Argument → List Text) (j : Job) → ((a : Argument) → v a ≡ w a) → Settles v j → Settles w j
settles_same v w j same s = record {
  action = sym (same Positional) ∙ s.action;
  given = s.given;
  says = λ o. subst (λ l. Says o l (s.given o)) (same (Named o)) (s.says o);
  takes = s.takes;
}

-- ---- tokens of words that mean a job are tidy

number_plain : (limit n : ℕ) (text : Text) → IsNumber limit text n → IsPlain text
number_plain limit n [] number = absurd number.numeral
number_plain limit n (c ∷ cs) number = grind (arith, number.numeral.0.0)

says_plain : (o : OptionName) (values : List Text) (g : Option ℕ) → Says o values g → IsOnePlain values
says_plain o values None says = subst IsOnePlain (sym says) tt
says_plain o values (Some n) says = subst IsOnePlain (sym says.1) (number_plain (most_of o) n says.0 says.2)

action_plain : (a : Action) → IsPlain (action_text a)
action_plain Trace = refl
action_plain Format = refl
action_plain Load = refl
action_plain Check = refl
action_plain Upgrade = refl
action_plain Merge = refl
action_plain Serve = refl
action_plain Vtrace = refl

settled_plain : (values : Argument → List Text) (j : Job) → Settles values j → (a : Argument) → IsOnePlain (values a)
settled_plain values j s Positional = subst IsOnePlain (sym s.action) (action_plain (action_of j))
settled_plain values j s (Named o) = says_plain o (values (Named o)) (s.given o) (s.says o)

pub meant_tidy : (words : List Text) (j : Job) (m : Means words j) → IsTidy none_came m.tokens
meant_tidy words j m = tidy_from_values m.tokens (settled_plain (λ a. values_in a m.tokens) j m.settled)

-- no words mean no job
spelled_none : (ts : List Token) → [] ≡ spelling ts → values_in Positional ts ≡ []
spelled_none [] is = refl
spelled_none (plain w ∷ ts) is = absurd cc
spelled_none (joined o v ∷ ts) is = absurd cc
spelled_none (apart o v ∷ ts) is = absurd cc

pub none_meant : (j : Job) → ¬ Means [] j
none_meant j m =
    let e = spelled_none m.tokens m.spelled in
    let f = m.settled.action in
    absurd cc

pub none_first : {X : Type 0} (xs : List X) → None ≡ slice_get xs 0 → xs ≡ []
none_first [] is = refl
none_first (x ∷ xs) is = absurd cc

-- the values that were found settle the job that the words mean
pub found_settles : (words : List Text) (m : ArgMatches) (j : Job) → FindsValues words m → Means words j → Settles (values_found m) j
found_settles words m j finds means =
    settles_same (λ a. values_in a means.tokens) (values_found m) j (finds means.tokens means.spelled (meant_tidy words j means)) means.settled

-- ---- the numbers of a job are in range

said_within : (o : OptionName) (values : List Text) (given : Option ℕ) (n : ℕ) → Says o values given → given ≡ Some n → IsWithin o n
said_within o values None n says is = absurd cc
said_within o values (Some m) n says is = let same : m ≡ n = cc in subst (λ k. IsWithin o k) same (says.3, says.2.within)

optional_within : (o : OptionName) (values : List Text) (given : Option ℕ) (d n : ℕ) → IsWithin o d → Says o values given → unwrap_or given d ≡ n → IsWithin o n
optional_within o values None d n within says is = subst (λ k. IsWithin o k) is within
optional_within o values (Some m) d n within says is = said_within o values (Some m) n says (ap (λ k. Some k) is)

session_within : (values : Argument → List Text) (given : OptionName → Option ℕ) (cache policy : ℕ) → ((o : OptionName) → Says o (values (Named o)) (given o))
    → unwrap_or (given Cache) 512 ≡ cache → unwrap_or (given Policy) 0 ≡ policy → IsWithin Cache cache × IsWithin Policy policy
session_within values given cache policy says is_cache is_policy = (
  optional_within Cache (values (Named Cache)) (given Cache) 512 cache (lit≤ tt, lit≤ tt) (says Cache) is_cache,
  optional_within Policy (values (Named Policy)) (given Policy) 0 policy (lit≤ tt, lit≤ tt) (says Policy) is_policy,
)

pub settled_in_range : (values : Argument → List Text) (j : Job) → Settles values j → IsInRange j
settled_in_range values (job.Format blocks pages) s = (
  said_within Blocks (values (Named Blocks)) _ blocks (s.says Blocks) (s.takes Blocks),
  said_within Pages (values (Named Pages)) _ pages (s.says Pages) (s.takes Pages),
)
settled_in_range values (job.Trace cache policy) s = session_within values s.given cache policy s.says (s.takes Cache) (s.takes Policy)
settled_in_range values (job.Load seed count cache policy) s =
    let session = session_within values s.given cache policy s.says (s.takes Cache) (s.takes Policy) in (
      said_within Seed (values (Named Seed)) _ seed (s.says Seed) (s.takes Seed),
      said_within Count (values (Named Count)) _ count (s.says Count) (s.takes Count),
      session.0,
      session.1,
    )
settled_in_range values job.Check s = tt
settled_in_range values job.Upgrade s = tt
settled_in_range values job.Merge s = tt
settled_in_range values (job.Serve cache policy) s = session_within values s.given cache policy s.says (s.takes Cache) (s.takes Policy)
settled_in_range values (job.Vtrace cache policy) s = session_within values s.given cache policy s.says (s.takes Cache) (s.takes Policy)

-- ---- words mean one job at most

settled_once : (values : Argument → List Text) (i j : Job) → Settles values i → Settles values j → i ≡ j
settled_once values i j a b =
    let same : (o : OptionName) → b.given o ≡ a.given o = λ o. said_once o (values (Named o)) _ _ (b.says o) (a.says o) in
    let takes : (o : OptionName) → Takes (role j o) (a.given o) = λ o. subst (λ g. Takes (role j o) g) (same o) (b.takes o) in
    let one = made_by i _ _ _ _ _ _ (a.takes Blocks, a.takes Pages, a.takes Cache, a.takes Policy, a.takes Seed, a.takes Count) in
    let other = made_by j _ _ _ _ _ _ (takes Blocks, takes Pages, takes Cache, takes Policy, takes Seed, takes Count) in
    let action : action_of i ≡ action_of j = same_action (action_of i) (action_of j) (values Positional) a.action b.action in
    let e : Some i ≡ Some j =
    sym one ∙ ap (λ k. job_of k (a.given Blocks) (a.given Pages) (a.given Cache) (a.given Policy) (a.given Seed) (a.given Count)) action ∙ other in
    cc

pub meant_once : (words : List Text) (i j : Job) → Means words i → Means words j → i ≡ j
meant_once words i j a b =
    let tokens : a.tokens ≡ b.tokens =
    spelled_once none_came none_came a.tokens b.tokens (meant_tidy words i a) (meant_tidy words j b) (sym a.spelled ∙ b.spelled) in
    settled_once (λ x. values_in x b.tokens) i j (subst (λ ts. Settles (λ x. values_in x ts) i) tokens a.settled) b.settled
