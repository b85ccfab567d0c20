-- The numbers of replies are those of the pages, as long as each device call ended `Done`.
use Rattle.std.proofs.Common.{◌≡◌, ℕ, ◌≤◌, ◌+◌, ◌<◌, ◌^◌, List, [], ◌∷◌, refl, sym, ◌∙◌, ap, subst, arith}
use Rattle.page_device.specs.Disk.{DeviceState, newest}
use Rattle.page_device.specs.Meaning.{Meaning}
use Rattle.page_layout.specs.Shape.{ShapeView}
use Rattle.trace_text.specs.declared.reply.Reply.{Reply}
use Rattle.trace_text.specs.declared.reply.Reply.TheVariants as reply
use Rattle.array_model.specs.Images.{Mode}
use Rattle.array_model.specs.Array.{BlockArray}
use Rattle.array_model.specs.Turns.{array_after_asked}
use Rattle.dedup_writer.specs.Calls.{AllDone}
use Rattle.dedup_writer.specs.Stands.{StandsFor, IsInStep}
use Rattle.dedup_writer.proofs.Ended.{done_first, done_next}
use Rattle.dedup_writer.proofs.Numbers.{shape_told, stat_told, waste_told, stored_told}
use Rattle.session.specs.Answers.{Moment, ReplyCause, rules_of}
use Rattle.session.specs.Chain.{Link, IsChain, turns_of, turn_calls, NumbersHold, AreTold}
use Rattle.session.proofs.Chains.{step_does}

-- the numbers of one reply
numbers_hold : (r : Reply) (mode : Mode) (from to : Moment) (a : BlockArray) → ReplyCause r from to → StandsFor mode from.store from.device a → IsInStep from.store from.device
    → NumbersHold r from.device.state × NumbersHold r to.device.state
numbers_hold (reply.Full live waste) mode from to a cause sf was =
    let counted = cause.0 in
    let here : NumbersHold (reply.Full live waste) from.device.state = (
      stored_told mode from.store from.device a sf was counted.2,
      counted.0 ∙ ap (λ (sh : ShapeView). sh.pages) (sym (shape_told mode from.store from.device a sf was)),
      counted.1 ∙ waste_told mode from.store from.device a sf was,
    ) in (here, subst (λ (d : Meaning). NumbersHold (reply.Full live waste) d.state) (sym cause.1.device) here)
numbers_hold (reply.Stat stat) mode from to a cause sf was =
    let here : NumbersHold (reply.Stat stat) from.device.state = cause.0 ∙ stat_told mode from.store from.device a sf was in
    (here, subst (λ (d : Meaning). NumbersHold (reply.Stat stat) d.state) (sym cause.1.device) here)
numbers_hold reply.Done mode from to a cause sf was = (tt, tt)
numbers_hold (reply.Bytes page) mode from to a cause sf was = (tt, tt)
numbers_hold reply.Range mode from to a cause sf was = (tt, tt)
numbers_hold reply.Fault mode from to a cause sf was = (tt, tt)
numbers_hold (reply.Damaged damage) mode from to a cause sf was = (tt, tt)
numbers_hold reply.NoMemory mode from to a cause sf was = (tt, tt)
numbers_hold (reply.Scan report) mode from to a cause sf was = (tt, tt)
numbers_hold reply.NoPolicy mode from to a cause sf was = (tt, tt)
numbers_hold reply.Bad mode from to a cause sf was = (tt, tt)
numbers_hold reply.Overlap mode from to a cause sf was = (tt, tt)
numbers_hold (reply.Stopped done why) mode from to a cause sf was = (tt, tt)

module _ (mode : Mode) where
  -- these turns tell the numbers of the pages, and the tables are in step after them, where each device call ended `Done`
  pub record ToldOver (links : List Link) (to : Moment) : Type 0 where
    pub told : AreTold links
    pub in_step : AllDone (turn_calls (turns_of links)) → IsInStep to.store to.device

  pub told_chain : (links : List Link) (from to : Moment) → IsChain from links to → (a : BlockArray) → StandsFor mode from.store from.device a → IsInStep from.store from.device → ToldOver links to
  unfolding IsChain AreTold turn_calls
  told_chain [] from to chain a sf was = record { told = tt; in_step = λ _. subst (λ (m : Moment). IsInStep m.store m.device) (sym chain) was }
  told_chain (link ∷ links) from to chain a sf was =
      let does = step_does from link chain.0 chain.1 in
      let call = does.over mode a sf in
      let next : AllDone link.turn.calls → ToldOver links to = λ done. told_chain links link.after to chain.2 (array_after_asked (rules_of from.store) a link.turn.asked link.turn.answer) call.stands (call.in_step done was) in
      let here = numbers_hold link.turn.answer mode from link.after a does.cause sf was in
      record {
        told = λ done. (subst (λ (m : Moment). NumbersHold link.turn.answer m.device.state) (sym chain.0) here.0, here.1, (next done).told);
        in_step = λ all. (next (done_first link.turn.calls (turn_calls (turns_of links)) all)).in_step (done_next link.turn.calls (turn_calls (turns_of links)) all);
      }
