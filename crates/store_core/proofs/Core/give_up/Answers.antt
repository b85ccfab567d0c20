use Rattle.std.proofs.Common.{◌∙◌, refl, ap, subst, ℕ}
use Rattle.dep_graph.specs.Lists.{dirty_in, waits_in}
use Rattle.page_cache.specs.View.{holds_in}
use Rattle.engine_model.specs.SmallSteps.{given_up}
use Rattle.flush_engine.specs.Edits.{GivenUp}
use Rattle.store_core.specs.Views.{world_of}
use Rattle.store_core.proofs.GivenUp.{drop_stands, given_world, within_given}
use Rattle.store_core.proofs.Core.give_up.Goals as goal

pub give_up-requires-clause-dirty : goal.give_up-requires-clause-dirty
give_up-requires-clause-dirty c = ap (dirty_in c.args.self.now.engine.graph) c.data_place-at.ensures.page ∙ c.requires.dirty

pub give_up-requires-clause-alone : goal.give_up-requires-clause-alone
give_up-requires-clause-alone c = ap (λ (n : ℕ). waits_in c.args.self.now.engine.graph n) c.data_place-at.ensures.page ∙ c.requires.alone

pub give_up-requires-clause-free : goal.give_up-requires-clause-free
give_up-requires-clause-free c = ap (λ (n : ℕ). holds_in c.args.self.now.engine.cache n) c.data_place-at.ensures.page ∙ c.requires.free

pub invariant_of-self : goal.invariant_of-self
invariant_of-self c =
    let core = c.args.self.now in
    record {
      whole = record {
        engine_whole = c.give_up.ensures.whole;
        within = λ a h. core.whole.within a (within_given core.engine.cache c.give_up.new.self.cache c.data_place-at.result c.give_up.ensures.given_up.cache a h);
        placed = core.whole.placed;
        pool_shape = core.whole.pool_shape;
        slots = core.whole.slots;
      };
    }

pub returns-clause-world : goal.returns-clause-world
returns-clause-world c d =
    let core = c.args.self.now in
    given_world d core c.give_up.new.self.cache c.give_up.new.self.graph c.data_place-at.result c.give_up.ensures.given_up.cache c.give_up.ensures.given_up.graph ∙ ap (λ (n : ℕ). given_up n (world_of d core)) c.data_place-at.ensures.page

pub returns-clause-rest : goal.returns-clause-rest
returns-clause-rest c = record { shape = refl; ledger = refl; room = c.give_up.ensures.given_up.room }

pub returns-clause-stands : goal.returns-clause-stands
returns-clause-stands c = drop_stands c.args.self.now _ c.args.p c.requires.first c.requires.last (returns-clause-rest c) (returns-clause-world c)

pub returns-clause-given_up : goal.returns-clause-given_up
returns-clause-given_up c = subst (λ (n : ℕ). GivenUp n c.args.self.now.engine c.give_up.new.self) c.data_place-at.ensures.page c.give_up.ensures.given_up
