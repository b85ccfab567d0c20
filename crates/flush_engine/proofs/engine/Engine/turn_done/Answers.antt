use Rattle.std.proofs.Common.{subst, sym}
use Rattle.flush_engine.specs.View.{IsWhole}
use Rattle.flush_engine.proofs.EditLemmas.{older_whole}
use Rattle.flush_engine.proofs.engine.Engine.turn_done.Goals as goal

pub returns-clause-whole : goal.returns-clause-whole
returns-clause-whole c = λ w. subst IsWhole (sym c.turn_done.ensures) (older_whole _ (subst IsWhole (sym c.self.view_is) w))
