-- A turn more of a session, and what its turns are over whatever device.
use Rattle.std.proofs.Common.{◌≡◌, ⊎_elim, ℕ, ◌+◌, ◌<◌, ◌≤◌, ◌^◌, List, [], ◌∷◌, ◌++◌, length, refl, sym, ◌∙◌, ap, subst, arith, length-take}
use Rattle.std.proofs.lemmas.List.{take_all}
use Rattle.std.proofs.lemmas.Bool.{cases_lt}
use Rattle.page_device.specs.Block.{Block}
use Rattle.page_device.specs.Faults.{IsCalm, calm_first, calm_next}
use Rattle.page_device.specs.Meaning.{Meaning}
use Rattle.trace_text.specs.declared.reply.Reply.{Reply}
use Rattle.trace_text.specs.declared.reply.Reply.TheVariants as reply
use Rattle.trace_text.proofs.Lengths.{line_short}
use Rattle.array_model.specs.Turns.{Asked, bad, known, Turn, Rules, Asks}
use Rattle.array_model.proofs.ReplyLemmas.{asked_weaker}
use Rattle.dedup_writer.specs.Core.{CoreView, shape_in, calls_in}
use Rattle.dedup_writer.specs.Calls.{AllDone}
use Rattle.dedup_writer.proofs.Ended.{done_none, done_append}
use Rattle.page_layout.specs.Shape.{ShapeView}
use Rattle.session.specs.Answers.{Moment, Does, CommandDone, ReadsLast, ReplyCause, rules_of, shape_rules, no_policies}
use Rattle.session.specs.Chain.{Link, Linked, IsChain, turns_of, turn_calls, ArePlain, EachAnswer, IsSure, fault_count, fault_replies, FaultsCounted}
use Rattle.session.specs.Session.{kept}

-- a longer line than is kept asks for nothing
asks_whole : (rules : Rules) (line : List ℕ) (asked : Asked) → Asks rules (kept line) asked → Asks rules line asked
asks_whole rules line asked asks = ⊎_elim
    (λ short. subst (λ (l : List ℕ). Asks rules l asked) (take_all 8206 line (omega (arith, short))) asks)
    (λ long. too_long asked long asks)
    (cases_lt (length line) 8207)
  where
    too_long : (one : Asked) → 8207 ≤ length line → Asks rules (kept line) one → Asks rules line one
    too_long bad long h = λ command built is. omega (arith, line_short line command is, long)
    too_long (known command) long h = absurd (omega (arith, line_short (kept line) command h.0, length-take 8206 line, long))

-- the turn of a line that was answered
module _ (line : List ℕ) (answer : Reply) (from to : Moment) (done : CommandDone (kept line) answer from to) where
  abbrev pub next_link : Link
  next_link = record { turn = record { line = line; asked = done.asked; answer = answer; at = calls_in to.store; calls = done.calls }; before = from; middle = to; after = to }

  linked : Linked next_link
  linked = record { asks = asks_whole (rules_of from.store) line done.asked done.asks; does = done.does; idle = refl; number = refl }

  chain-last : (first : Moment) (links : List Link) → IsChain first links from → IsChain first (links ++ next_link ∷ []) to
  unfolding IsChain
  chain-last first [] chain = (chain, linked, refl)
  chain-last first (link ∷ links) chain = (chain.0, chain.1, chain-last link.after links chain.2)

  pub chain_more : (first : Moment) (links : List Link) → IsChain first links from → IsChain first (links ++ next_link ∷ []) to
  chain_more first links chain = chain-last first links chain

pub no_chain : (m : Moment) → IsChain m [] m
unfolding IsChain
no_chain m = refl

pub turns-last : (links : List Link) (link : Link) → turns_of (links ++ link ∷ []) ≡ turns_of links ++ link.turn ∷ []
turns-last [] link = refl
turns-last (l ∷ links) link = ap (λ (t : List Turn). l.turn ∷ t) (turns-last links link)

-- a link from the moment where the one before it ended
module _ (from : Moment) (link : Link) (begins : link.before ≡ from) (h : Linked link) where
  pub step_does : Does link.turn.asked link.turn.answer link.turn.calls from link.after
  step_does = subst (λ (m : Moment). Does link.turn.asked link.turn.answer link.turn.calls from m) (sym h.idle) (subst (λ (m : Moment). Does link.turn.asked link.turn.answer link.turn.calls m link.middle) begins h.does)

  pub step_asks : Asks (rules_of from.store) link.turn.line link.turn.asked
  step_asks = subst (λ (m : Moment). Asks (rules_of m.store) link.turn.line link.turn.asked) begins h.asks

-- what the cause of a reply rules out
sure_answer : (r : Reply) (from to : Moment) → ReplyCause r from to → IsSure (shape_in from.store).pages r
sure_answer r from to cause = record {
  whole = λ damage is. subst (λ (q : Reply). ReplyCause q from to) is cause;
  has_memory = λ is. subst (λ (q : Reply). ReplyCause q from to) is cause;
  full = λ live waste is. (subst (λ (q : Reply). ReplyCause q from to) is cause).0.0;
}

one_fault : (r : Reply) (from to : Moment) → ReplyCause r from to → from.device.faults ≤ to.device.faults → to.device.faults + 1 < 2 ^ 64 → from.device.faults + fault_count r ≤ to.device.faults
one_fault reply.Fault from to cause falls few = omega (arith, cause (omega (arith, falls, few)))
one_fault reply.Done from to cause falls few = omega (arith, falls)
one_fault (reply.Bytes page) from to cause falls few = omega (arith, falls)
one_fault reply.Range from to cause falls few = omega (arith, falls)
one_fault (reply.Damaged damage) from to cause falls few = omega (arith, falls)
one_fault (reply.Full live waste) from to cause falls few = omega (arith, falls)
one_fault reply.NoMemory from to cause falls few = omega (arith, falls)
one_fault (reply.Stat stat) from to cause falls few = omega (arith, falls)
one_fault (reply.Scan report) from to cause falls few = omega (arith, falls)
one_fault reply.NoPolicy from to cause falls few = omega (arith, falls)
one_fault reply.Bad from to cause falls few = omega (arith, falls)
one_fault reply.Overlap from to cause falls few = omega (arith, falls)
one_fault (reply.Stopped done why) from to cause falls few = omega (arith, falls)

-- the shape stays, and faults are counted
pub chain_shape : (from to : Moment) (links : List Link) → IsChain from links to → shape_in to.store ≡ shape_in from.store
unfolding IsChain
chain_shape from to [] chain = ap (λ (m : Moment). shape_in m.store) chain
chain_shape from to (link ∷ links) chain = chain_shape link.after to links chain.2 ∙ (step_does from link chain.0 chain.1).shape

pub chain_falls : (from to : Moment) (links : List Link) → IsChain from links to → from.device.faults ≤ to.device.faults
unfolding IsChain
chain_falls from to [] chain = omega (arith, ap (λ (m : Moment). m.device.faults) chain)
chain_falls from to (link ∷ links) chain = omega (arith, chain_falls link.after to links chain.2, (step_does from link chain.0 chain.1).falls)

pub chain_plain : (from to : Moment) (links : List Link) → IsChain from links to → ArePlain (rules_of from.store) (turns_of links)
unfolding IsChain ArePlain
chain_plain from to [] chain = tt
chain_plain from to (link ∷ links) chain =
    let does = step_does from link chain.0 chain.1 in (
      step_asks from link chain.0 chain.1,
      asked_weaker (ReadsLast from) (λ block page. Unit {0}) (λ block page h. tt) (rules_of from.store) no_policies link.turn.asked link.turn.answer does.fits,
      subst (λ (sh : ShapeView). ArePlain (shape_rules sh) (turns_of links)) does.shape (chain_plain link.after to links chain.2),
    )

pub chain_sure : (from to : Moment) (links : List Link) → IsChain from links to → EachAnswer (IsSure (shape_in from.store).pages) (turns_of links)
unfolding IsChain EachAnswer
chain_sure from to [] chain = tt
chain_sure from to (link ∷ links) chain =
    let does = step_does from link chain.0 chain.1 in (
      sure_answer link.turn.answer from link.after does.cause,
      subst (λ (sh : ShapeView). EachAnswer (IsSure sh.pages) (turns_of links)) does.shape (chain_sure link.after to links chain.2),
    )

pub chain_faulted : (from to : Moment) (links : List Link) → IsChain from links to → FaultsCounted from.device to.device (turns_of links)
unfolding IsChain fault_replies
chain_faulted from to [] chain few = omega (arith, ap (λ (m : Moment). m.device.faults) chain)
chain_faulted from to (link ∷ links) chain few =
    let does = step_does from link chain.0 chain.1 in
    let rest : link.after.device.faults + fault_replies (turns_of links) ≤ to.device.faults = chain_faulted link.after to links chain.2 few in
    let here = one_fault link.turn.answer from link.after does.cause does.falls (omega (arith, few, chain_falls link.after to links chain.2)) in
    omega (arith, rest, here)

-- where the device counted no fault, each device call ended `Done`
pub chain_done : (from to : Moment) (links : List Link) → IsChain from links to → IsCalm from.device to.device → AllDone (turn_calls (turns_of links))
unfolding IsChain turn_calls
chain_done from to [] chain calm = done_none
chain_done from to (link ∷ links) chain calm =
    let does = step_does from link chain.0 chain.1 in
    let falls = chain_falls link.after to links chain.2 in
    done_append link.turn.calls (turn_calls (turns_of links)) (does.calm (calm_first from.device link.after.device to.device does.falls falls calm))
    (chain_done link.after to links chain.2 (calm_next from.device link.after.device to.device does.falls falls calm))
