-- What the turns of a session are by themselves: their device calls, their numbers, and what their replies say.
use Rattle.std.proofs.Common.{◌≡◌, ℕ, ◌+◌, ◌<◌, ◌≤◌, ◌^◌, true, ⊎_elim, List, [], ◌∷◌, ◌++◌, length, refl, sym, ◌∙◌, ap, subst, arith, min}
use Rattle.std.proofs.lemmas.Bool.{cases_lt}
use Rattle.page_device.specs.declared.device.LogEntry.{LogEntry}
use Rattle.page_device.specs.Disk.{DeviceState, state_after}
use Rattle.page_device.specs.Faults.{IsCalm}
use Rattle.page_device.specs.Gains.{Gains, gains_none, gains_then}
use Rattle.page_device.specs.Meaning.{Meaning, FaultRose}
use Rattle.dedup_writer.specs.Core.{calls_in}
use Rattle.dedup_writer.specs.Calls.{AllDone, IsUndone, EndUndone}
use Rattle.session.specs.Answers.{Moment}
use Rattle.session.specs.Chain.{Link, IsChain, turns_of, turn_calls, AreNumbered, NumbersHold, NumbersAt, AreTold}
use Rattle.session.specs.Session.{Close, none, closed, failed, close_calls, Closes}
use Rattle.session.specs.Endings.{Course}
use Rattle.session.proofs.Chains.{step_does, chain_falls}

chain_gains : (links : List Link) (from to : Moment) → IsChain from links to → Gains (turn_calls (turns_of links)) from.device to.device
unfolding IsChain turn_calls
chain_gains [] from to chain = subst (λ (m : Moment). Gains [] from.device m.device) (sym chain) (gains_none from.device)
chain_gains (link ∷ links) from to chain =
    gains_then link.turn.calls (turn_calls (turns_of links)) from.device link.after.device to.device (step_does from link chain.0 chain.1).gains (chain_gains links link.after to chain.2)

pub chain_numbered : (links : List Link) (from to : Moment) → IsChain from links to → calls_in from.store < 2 ^ 64 → AreNumbered (calls_in from.store) (turns_of links)
unfolding IsChain AreNumbered
chain_numbered [] from to chain low = tt
chain_numbered (link ∷ links) from to chain low =
    let number : link.turn.at ≡ calls_in link.after.store = chain.1.number in
    let counted = (step_does from link chain.0 chain.1).counted.counted low in
    (number ∙ counted, subst (λ (n : ℕ). AreNumbered n (turns_of links)) (sym number) (chain_numbered links link.after to chain.2 (omega (arith, counted))))

-- the device calls of a closing, and of a session with it
closing_made : (close : Close) (last final : Moment) → Closes close last final → Gains (close_calls close) last.device final.device
closing_made none last final h = subst (λ (m : Moment). Gains [] last.device m.device) (sym h) (gains_none last.device)
closing_made (closed calls) last final h = subst (λ (l : List LogEntry). Gains l last.device final.device) h.calls_are h.call.gains
closing_made (failed calls) last final h = subst (λ (l : List LogEntry). Gains l last.device final.device) h.0.calls_are h.0.call.gains

pub course_gains : (first : Moment) (links : List Link) (close : Close) (d : Meaning) → Course first links close d → Gains (turn_calls (turns_of links) ++ close_calls close) first.device d
course_gains first links close d c = subst (Gains (turn_calls (turns_of links) ++ close_calls close) first.device) c.device
    (gains_then (turn_calls (turns_of links)) (close_calls close) first.device c.last.device c.final.device (chain_gains links first c.last c.chain) (closing_made close c.last c.final c.closes))

-- a list of calls of which the last did not end `Done` is not one of calls that did
last_done : (front : List LogEntry) (last : LogEntry) → AllDone (front ++ last ∷ []) → IsUndone last → ⊥
unfolding AllDone
last_done [] last done undone = done.0 undone
last_done (entry ∷ front) last done undone = last_done front last done.1 undone

-- a closing flush that failed: a fault was counted
pub failed_rose : (d : Meaning) (first : Moment) (links : List Link) (calls : List LogEntry) (d' : Meaning) → Course first links (failed calls) d' → d.faults ≤ first.device.faults → FaultRose d d'
failed_rose d first links calls d' c falls few =
    let flush = c.closes.0.call in
    let rest : c.final.device.faults ≡ d'.faults = ap (λ (m : Meaning). m.faults) c.device in
    let chained = chain_falls first c.last links c.chain in
    ⊎_elim (λ risen. risen)
    (λ still.
    let calm : IsCalm c.last.device c.final.device = record { same = omega (arith, still, falls, chained, flush.falls, rest); few = omega (arith, few, still, falls, chained, flush.falls, rest) } in
    let end = c.closes.1 in
    absurd (last_done end.front end.last (subst AllDone (c.closes.0.calls_are ∙ end.split) (flush.calm calm)) end.undone))
    (cases_lt d.faults d'.faults)

-- no fault was counted: what each reply says is so
module _ (start : Meaning) where
  chain_calm : (links : List Link) (from to : Moment) (s : DeviceState) → IsChain from links to → from.device.tells_pages ≡ true → from.device.state ≡ s → start.faults ≤ from.device.faults → IsCalm start to.device
      → AreTold links → NumbersAt s (turns_of links)
  unfolding IsChain AreTold NumbersAt
  chain_calm [] from to s chain tells is falls calm told = tt
  chain_calm (link ∷ links) from to s chain tells is falls calm told =
      let does = step_does from link chain.0 chain.1 in
      let rest = chain_falls link.after to links chain.2 in
      let here : IsCalm from.device link.after.device = record { same = omega (arith, falls, does.falls, rest, calm.same); few = omega (arith, falls, does.falls, rest, calm.same, calm.few) } in
      let next : link.after.device.state ≡ state_after s link.turn.calls = does.gains.state tells ∙ ap (λ (x : DeviceState). state_after x link.turn.calls) is in
      let hold = told (does.calm here) in (
        subst (NumbersHold link.turn.answer) (ap (λ (m : Moment). m.device.state) chain.0 ∙ is) hold.0,
        subst (NumbersHold link.turn.answer) next hold.1,
        chain_calm links link.after to (state_after s link.turn.calls) chain.2 (does.gains.kind.tells_pages ∙ tells) next (omega (arith, falls, does.falls)) calm hold.2,
      )

  pub closed_calm : (first : Moment) (links : List Link) (calls : List LogEntry) (d : Meaning) → Course first links (closed calls) d → first.device.tells_pages ≡ true → first.device.state ≡ start.state → start.faults ≤ first.device.faults
      → AreTold links → IsCalm start d → NumbersAt start.state (turns_of links)
  closed_calm first links calls d c tells is falls told calm =
      let rest : c.last.device.faults ≤ d.faults = omega (arith, c.closes.call.falls, ap (λ (m : Meaning). m.faults) c.device) in
      let chained = chain_falls first c.last links c.chain in
      chain_calm links first c.last start.state c.chain tells is falls (record { same = omega (arith, falls, chained, rest, calm.same); few = calm.few }) told

  -- the closing flush, too
  pub closing_done : (first : Moment) (links : List Link) (calls : List LogEntry) (d : Meaning) → Course first links (closed calls) d → start.faults ≤ first.device.faults → IsCalm start d → AllDone calls
  closing_done first links calls d c falls calm =
      let flush = c.closes.call in
      let rest : c.final.device.faults ≡ d.faults = ap (λ (m : Meaning). m.faults) c.device in
      let chained = chain_falls first c.last links c.chain in
      subst AllDone c.closes.calls_are (flush.calm (record { same = omega (arith, falls, chained, flush.falls, rest, calm.same); few = omega (arith, falls, chained, flush.falls, rest, calm.same, calm.few) }))
