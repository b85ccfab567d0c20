use Rattle.session.proofs.Jobs.{check_sound, check_unsound}
use Rattle.session.proofs.job_laws.checked_image.Goals as goal

pub returns-clause-sound : goal.returns-clause-sound
returns-clause-sound c = λ d e source source2 sink sink2 h. check_sound d e source source2 sink sink2 h

pub returns-clause-unsound : goal.returns-clause-unsound
returns-clause-unsound c = λ found d e source source2 sink sink2 h. check_unsound d e source source2 sink sink2 found h
