use Rattle.std.proofs.Common.{◌∙◌, length, sym, ap, subst, arith}
use Rattle.flush_engine.specs.View.{EngineView}
use Rattle.flush_engine.specs.Waves.{AreDue}
use Rattle.flush_engine.proofs.writer.Writer.list_due.Goals as goal

pub list_ready-requires : goal.list_ready-requires
list_ready-requires c = let same = ap (λ (e : EngineView). length e.graph.dirty) c.self.view_is in omega (arith, c.requires.whole.room, c.requires.room)

pub list_ready_before-requires : goal.list_ready_before-requires
list_ready_before-requires c = let same = ap (λ (e : EngineView). length e.graph.dirty) c.self.view_is in omega (arith, c.requires.whole.room, c.requires.room)

pub returns-in-None-clause-due : goal.returns-in-None-clause-due
returns-in-None-clause-due c =
    subst (λ (e : EngineView). AreDue e.graph c.args.target c.list_ready.new.listed.items) c.self.view_is
    (rw c.in-None.is (record { rising = c.list_ready.ensures.rising; due = λ a h. sym (c.list_ready.ensures.pages a) ∙ h; all = λ a d. c.list_ready.ensures.pages a ∙ d }))

pub returns-in-Some-clause-due : goal.returns-in-Some-clause-due
returns-in-Some-clause-due c =
    subst (λ (e : EngineView). AreDue e.graph c.args.target c.list_ready_before.new.listed.items) c.self.view_is
    (rw c.in-Some.is (record { rising = c.list_ready_before.ensures.rising; due = λ a h. (c.list_ready_before.ensures.pages a).0 h; all = λ a d. (c.list_ready_before.ensures.pages a).1 d }))
