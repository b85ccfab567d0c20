use Rattle.session.proofs.Jobs.{check_failed, check_unformatted, check_forgotten, check_cut}
use Rattle.session.proofs.job_laws.unchecked_image.Goals as goal

pub returns-clause-device : goal.returns-clause-device
returns-clause-device c = λ d e source source2 sink sink2 h. check_failed d e source source2 sink sink2 h

pub returns-clause-unformatted : goal.returns-clause-unformatted
returns-clause-unformatted c = λ d e source source2 sink sink2 h. check_unformatted d e source source2 sink sink2 h

pub returns-clause-memory : goal.returns-clause-memory
returns-clause-memory c = λ d e source source2 sink sink2 h. check_forgotten d e source source2 sink sink2 h

pub returns-clause-cut : goal.returns-clause-cut
returns-clause-cut c = λ d e source source2 sink sink2 h. check_cut d e source source2 sink sink2 h
