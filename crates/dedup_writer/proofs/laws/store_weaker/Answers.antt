use Rattle.dedup_writer.proofs.Weaker.{weaker_mode, more_lists}
use Rattle.dedup_writer.proofs.laws.store_weaker.Goals as goal

pub returns-clause-mode : goal.returns-clause-mode
returns-clause-mode c = λ mode less core d a weakens sf. weaker_mode mode less core d a weakens sf

pub returns-clause-lists : goal.returns-clause-lists
returns-clause-lists c = λ mode core d a b more same mapped sf. more_lists a b more same mapped mode core d sf
