use Rattle.cli_words.proofs.JobLemmas.{meant_once}
use Rattle.cli_words.proofs.laws.words_are_one_job.Goals as goal

pub returns : goal.returns
returns c = λ words i j a b. meant_once words i j a b
