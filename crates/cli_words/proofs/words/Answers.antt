use Rattle.std.proofs.Common.{rules, ◌≡◌, sym, subst, map, string_bytes, None, IfOk, refl}
use Rattle.std.specs.Prelude.{slice_get}
use Rattle.std.proofs.lemmas.Result.{IfOk-weaker}
use Rattle.cli_words.specs.Found.{values_found}
use Rattle.cli_words.specs.Grammar.{Means}
use Rattle.cli_words.proofs.JobLemmas.{found_settles, meant_tidy, none_first, none_meant, settled_in_range}
use Rattle.cli_words.proofs.words.Goals as goal

pub returns-in_default-clause-usage : goal.returns-in_default-clause-usage
returns-in_default-clause-usage c is job means =
    let h = c.in_default in
    let first : None ≡ slice_get c.args.list.now 0 = search rules in
    none_meant job (subst (λ ws. Means (map string_bytes ws) job) (none_first c.args.list.now first) means)

pub returns-then-not-is_tidy-clause-usage : goal.returns-then-not-is_tidy-clause-usage
returns-then-not-is_tidy-clause-usage c is job means =
    let tidy = c.is_tidy.ensures.taken means.tokens means.spelled (meant_tidy _ job means) in
    let refused = c.if-not-is_tidy.true in
    absurd cc

pub returns-in-Ok-clause-only : goal.returns-in-Ok-clause-only
returns-in-Ok-clause-only c job means =
    let is = c.job_of_values.ensures.only job (found_settles _ c.in-Ok.matches job c.in-Ok.ensures.found means) in
    subst (λ r. IfOk r (λ made. made ≡ job)) (sym is) refl

pub returns-in-Ok-clause-usage : goal.returns-in-Ok-clause-usage
returns-in-Ok-clause-usage c usage job means =
    let is = c.job_of_values.ensures.only job (found_settles _ c.in-Ok.matches job c.in-Ok.ensures.found means) in
    absurd cc

pub returns-in-Ok-clause-ranges : goal.returns-in-Ok-clause-ranges
returns-in-Ok-clause-ranges c =
    IfOk-weaker c.job_of_values.result _ _ (settled_in_range (values_found c.in-Ok.matches)) c.job_of_values.ensures.ok
