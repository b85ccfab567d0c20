use Rattle.std.proofs.Common.{◌∙◌, ap, sym, [], ◌∷◌}
use Rattle.cli_words.specs.Found.{values_found}
use Rattle.cli_words.specs.Names.{action_text}
use Rattle.cli_words.proofs.JobLemmas.{action_made, settled_job, takes_given}
use Rattle.cli_words.specs.Settings.{given_of}
use Rattle.cli_words.proofs.settings.job_of_values.Goals as goal

pub returns-in-Some-job-clause-ok : goal.returns-in-Some-job-clause-ok
returns-in-Some-job-clause-ok c =
    let made = action_made c.in-Some.action c.in-Ok.settings c.in-Some-job.job (sym c.in-Some-job.ensures) in
    record {
      action = c.in-Some.ensures.some ∙ ap (λ a. action_text a ∷ []) (sym made);
      given = given_of c.in-Ok.settings;
      says = c.in-Ok.ensures.ok;
      takes = takes_given c.in-Some.action c.in-Ok.settings c.in-Some-job.job (sym c.in-Some-job.ensures);
    }

pub returns-in-Some-job-clause-only : goal.returns-in-Some-job-clause-only
returns-in-Some-job-clause-only c job settles =
    let e = settled_job (values_found c.args.matches.now) job c.in-Some.action c.in-Ok.settings c.in-Some.ensures.some c.in-Ok.ensures.ok settles in
    let f = c.in-Some-job.ensures in
    cc

pub returns-in-None-clause-only : goal.returns-in-None-clause-only
returns-in-None-clause-only c job settles =
    let e = settled_job (values_found c.args.matches.now) job c.in-Some.action c.in-Ok.settings c.in-Some.ensures.some c.in-Ok.ensures.ok settles in
    let f = c.in-None.ensures in
    absurd cc

pub returns-in-Err-clause-only : goal.returns-in-Err-clause-only
returns-in-Err-clause-only c job settles =
    let none = c.in-Err.ensures.err.1 in
    absurd (none.1 (settles.given none.0) (settles.says none.0))
