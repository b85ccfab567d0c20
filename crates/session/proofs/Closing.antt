-- The whole course of a session, from its turns and its closing flush.
use Rattle.std.proofs.Common.{◌≡◌, ℕ, ◌+◌, ◌<◌, ◌≤◌, ◌^◌, Bool, true, false, List, [], ◌∷◌, ◌++◌, refl, sym, ◌∙◌, ap, subst, arith}
use Rattle.std.proofs.lemmas.List.{append-nil}
use Rattle.page_device.specs.declared.device.LogEntry.{LogEntry}
use Rattle.page_device.specs.Disk.{DeviceState, at_rest}
use Rattle.page_device.specs.Faults.{IsCalm, calm_first, calm_next}
use Rattle.page_device.specs.Gains.{Gains, gains_none, gains_then}
use Rattle.page_device.specs.Meaning.{Meaning}
use Rattle.page_device.specs.Runs.{all_calls, after_turns}
use Rattle.array_model.specs.Images.{Mode, left_mode}
use Rattle.array_model.specs.Array.{BlockArray}
use Rattle.array_model.specs.Turns.{Work, closing, Rules, array_after_work, works_of, calls_of_works, array_after_works, survives, WorksLeave}
use Rattle.array_model.proofs.RunLemmas.{calls-append}
use Rattle.dedup_writer.specs.Core.{shape_in}
use Rattle.dedup_writer.specs.Stands.{StandsFor, IsInStep}
use Rattle.session.specs.Answers.{Moment, rules_of, shape_rules}
use Rattle.session.specs.Chain.{Link, turns_of, FaultsCounted}
use Rattle.session.specs.Session.{Close, none, closed, failed, FlushesBy, Closes, IsClosed, Kept, IsTold, StandsAfter, start_of, closing_works, works_done}
use Rattle.session.specs.Endings.{Course}
use Rattle.session.proofs.Chains.{chain_shape, chain_falls, chain_faulted, chain_done}
use Rattle.session.proofs.Over.{Over, over_chain, leaves_open, leaves_closed}
use Rattle.session.proofs.Told.{ToldOver, told_chain}

closing_falls : (close : Close) (last final : Moment) → Closes close last final → last.device.faults ≤ final.device.faults
closing_falls none last final h = omega (arith, ap (λ (m : Moment). m.device.faults) h)
closing_falls (closed calls) last final h = h.call.falls
closing_falls (failed calls) last final h = h.0.call.falls

module _ (mode : Mode) (rules : Rules) (last final : Moment) where
  -- the device calls of a flush
  flush_gains : (done : Bool) (calls : List LogEntry) → FlushesBy done calls last final → Gains (calls_of_works mode rules (closing done calls ∷ [])) last.device final.device
  unfolding all_calls
  flush_gains done calls f = subst (λ (l : List LogEntry). Gains l last.device final.device) (f.calls_are ∙ sym (append-nil calls)) f.call.gains

  closing_gains : (close : Close) → Closes close last final → Gains (calls_of_works mode rules (closing_works close)) last.device final.device
  unfolding all_calls
  closing_gains none h = subst (λ (m : Moment). Gains [] last.device m.device) (sym h) (gains_none last.device)
  closing_gains (closed calls) h = flush_gains true calls h
  closing_gains (failed calls) h = flush_gains false calls h.0

closing_leaves : (mode : Mode) (rules : Rules) (close : Close) (last final : Moment) (a : BlockArray) → rules_of last.store ≡ rules → StandsFor mode last.store last.device a → Closes close last final
    → WorksLeave (left_mode mode) rules a last.device.state (closing_works close)
closing_leaves mode rules none last final a same sf h = leaves_open mode rules last a same sf
closing_leaves mode rules (closed calls) last final a same sf h = leaves_closed mode rules true calls last final a same sf h
closing_leaves mode rules (failed calls) last final a same sf h = leaves_closed mode rules false calls last final a same sf h.0

-- the array after some works and then more
after_works-append : (mode : Mode) (rules : Rules) (a : BlockArray) (works more : List Work) → array_after_works mode rules a (works ++ more) ≡ array_after_works mode rules (array_after_works mode rules a works) more
unfolding after_turns
after_works-append mode rules a [] more = refl
after_works-append mode rules a (work ∷ works) more = after_works-append mode rules (array_after_work rules a work) works more

module _ (mode : Mode) (last final : Moment) (a : BlockArray) (sf : StandsFor mode last.store last.device a) where
  -- what the store stands for after the close
  closing_stands : (rules : Rules) (close : Close) → Closes close last final → StandsFor mode final.store final.device (array_after_works (left_mode mode) rules a (closing_works close))
  unfolding after_turns
  closing_stands rules none h = subst (λ (m : Moment). StandsFor mode m.store m.device a) (sym h) sf
  closing_stands rules (closed calls) h = (h.call.over mode a sf).stands
  closing_stands rules (failed calls) h = (h.0.call.over mode a sf).stands

  closing_in_step : (close : Close) → Closes close last final → IsCalm last.device final.device → IsInStep last.store last.device → IsInStep final.store final.device
  closing_in_step none h calm was = subst (λ (m : Moment). IsInStep m.store m.device) (sym h) was
  closing_in_step (closed calls) h calm was = (h.call.over mode a sf).in_step (h.call.calm calm) was
  closing_in_step (failed calls) h calm was = (h.0.call.over mode a sf).in_step (h.0.call.calm calm) was

module _ (first : Moment) (links : List Link) (close : Close) (d : Meaning) (c : Course first links close d) where
  pub course_falls : first.device.faults ≤ d.faults
  course_falls = omega (arith, chain_falls first c.last links c.chain, closing_falls close c.last c.final c.closes, ap (λ (m : Meaning). m.faults) c.device)

  pub course_faulted : FaultsCounted first.device d (turns_of links)
  course_faulted few =
      let falls : c.last.device.faults ≤ d.faults = omega (arith, closing_falls close c.last c.final c.closes, ap (λ (m : Meaning). m.faults) c.device) in
      omega (arith, falls, chain_faulted first c.last links c.chain (omega (arith, few, falls)))

  pub course_kept : (mode : Mode) (a : BlockArray) → StandsFor mode first.store first.device a → Kept (start_of first mode a) (turns_of links) close d
  course_kept mode a sf =
      let m = left_mode mode in
      let rules = rules_of first.store in
      let works = works_of (turns_of links) in
      let o : Over mode rules first links c.last a = over_chain mode links first c.last c.chain a sf in
      let same : rules_of c.last.store ≡ rules = ap shape_rules (chain_shape first c.last links c.chain) in
      let leave : WorksLeave m rules a first.device.state (works_done (turns_of links) close) = o.leave (closing_works close) (closing_leaves mode rules close c.last c.final (array_after_works m rules a works) same o.stands c.closes) in
      record {
        run = o.run;
        gains = subst (λ (l : List LogEntry). Gains l first.device d) (sym (calls-append m rules works (closing_works close)))
            (subst (Gains (calls_of_works m rules works ++ calls_of_works m rules (closing_works close)) first.device) c.device
            (gains_then (calls_of_works m rules works) (calls_of_works m rules (closing_works close)) first.device c.last.device c.final.device o.gains (closing_gains m rules c.last c.final close c.closes)));
        leave = leave;
        survives = survives m rules a first.device.state (works_done (turns_of links) close) leave;
      }

  -- what the store stands for then
  pub course_stands : (now : Moment) → c.final ≡ now → (mode : Mode) (a : BlockArray) → StandsFor mode first.store first.device a → StandsAfter first mode a (works_done (turns_of links) close) now
  course_stands now is mode a sf =
      let m = left_mode mode in
      let rules = rules_of first.store in
      let works = works_of (turns_of links) in
      let later = array_after_works m rules a works in
      let o : Over mode rules first links c.last a = over_chain mode links first c.last c.chain a sf in
      let chained = chain_falls first c.last links c.chain in
      let ended = closing_falls close c.last c.final c.closes in
      subst (StandsAfter first mode a (works_done (turns_of links) close)) is (record {
        stands = subst (λ (l : BlockArray). StandsFor mode c.final.store c.final.device l) (sym (after_works-append m rules a works (closing_works close))) (closing_stands mode c.last c.final later o.stands rules close c.closes);
        in_step = λ calm was. closing_in_step mode c.last c.final later o.stands close c.closes (calm_next first.device c.last.device c.final.device chained ended calm)
            ((told_chain mode links first c.last c.chain a sf was).in_step (chain_done first c.last links c.chain (calm_first first.device c.last.device c.final.device chained ended calm)));
      })

  -- the numbers of the replies, and that nothing is pending after a closed session without a fault; counted from a device that was
  -- only looked at before
  pub course_told : (start : Meaning) (mode : Mode) (a : BlockArray) → start.faults ≤ first.device.faults → StandsFor mode first.store first.device a → IsInStep first.store first.device → IsTold start links close d
  course_told start mode a falls sf was =
      let t : ToldOver mode links c.last = told_chain mode links first c.last c.chain a sf was in
      let o : Over mode (rules_of first.store) first links c.last a = over_chain mode links first c.last c.chain a sf in
      let chained = chain_falls first c.last links c.chain in
      let ended = closing_falls close c.last c.final c.closes in
      record {
        told = t.told;
        rest = λ is calm.
            let over = calm_next start first.device c.final.device falls (omega (arith, chained, ended)) (subst (IsCalm start) (sym c.device) calm) in
            subst (λ (m : Meaning). m.state ≡ at_rest m.state.fixed) c.device
            (rests close c.closes is (array_after_works (left_mode mode) (rules_of first.store) a (works_of (turns_of links))) o.stands
            (t.in_step (chain_done first c.last links c.chain (calm_first first.device c.last.device c.final.device chained ended over)))
            (calm_next first.device c.last.device c.final.device chained ended over));
      }
    where
      rests : (one : Close) → Closes one c.last c.final → IsClosed one → (later : BlockArray) → StandsFor mode c.last.store c.last.device later → IsInStep c.last.store c.last.device
          → IsCalm c.last.device c.final.device → c.final.device.state ≡ at_rest c.final.device.state.fixed
      rests none h is later sf was calm = absurd is
      rests (closed calls) h is later sf was calm = ((h.call.over mode later sf).in_step (h.call.calm calm) was).rest
      rests (failed calls) h is later sf was calm = absurd is
