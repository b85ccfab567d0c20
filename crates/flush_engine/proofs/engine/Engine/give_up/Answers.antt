use Rattle.std.proofs.Common.{subst}
use Rattle.flush_engine.specs.View.{EngineView}
use Rattle.flush_engine.specs.Edits.{GivenUp}
use Rattle.flush_engine.proofs.EditLemmas.{given_up_whole}
use Rattle.flush_engine.proofs.engine.Engine.give_up.Goals as goal

pub returns-clause-whole : goal.returns-clause-whole
returns-clause-whole c = given_up_whole c.args.page c.args.self.now c.give_up.new.self (subst (λ (e : EngineView). GivenUp c.args.page e c.give_up.new.self) c.self.view_is c.give_up.ensures) c.requires.whole
