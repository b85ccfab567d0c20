use Rattle.engine_model.proofs.looking_again.sparing_pass.Goals as goal
use Rattle.engine_model.proofs.LooksAgain.{sparing_small}

pub returns : goal.returns
returns c = record { same = λ lay apart m n range p. sparing_small lay apart m m n _ _ range (λ x is b. b) p }
