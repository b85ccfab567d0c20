use Rattle.session.proofs.Jobs.{format_done, format_failed, format_cut, format_forgotten, format_ends}
use Rattle.session.proofs.job_laws.formatted_device.Goals as goal

pub returns-clause-done : goal.returns-clause-done
returns-clause-done c = λ shape d e source source2 sink sink2 h. format_done d e source source2 sink sink2 shape h

pub returns-clause-failed : goal.returns-clause-failed
returns-clause-failed c = λ shape d e source source2 sink sink2 h. format_failed d e source source2 sink sink2 shape h

pub returns-clause-cut : goal.returns-clause-cut
returns-clause-cut c = λ shape d e source source2 sink sink2 h. format_cut d e source source2 sink sink2 shape h

pub returns-clause-memory : goal.returns-clause-memory
returns-clause-memory c = λ shape d e source source2 sink sink2 h. format_forgotten d e source source2 sink sink2 shape h

pub returns-clause-ends_as : goal.returns-clause-ends_as
returns-clause-ends_as c = λ shape status d e source source2 sink sink2 h. format_ends d e source source2 sink sink2 shape status h
