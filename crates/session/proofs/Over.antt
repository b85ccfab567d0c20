-- What the turns of a session are over an array for which the store stood.
use Rattle.std.proofs.Common.{◌≡◌, ℕ, ◌<◌, ◌≤◌, ◌^◌, Bool, true, false, if◌then◌else◌, List, [], ◌∷◌, ◌++◌, length, Option, Some, None, refl, sym, ◌∙◌, ap, subst, arith, min, append_assoc}
use Rattle.page_device.specs.Block.{Block}
use Rattle.page_device.specs.declared.device.LogEntry.{LogEntry}
use Rattle.page_device.specs.Disk.{DeviceState, state_after}
use Rattle.page_device.specs.Gains.{Gains, gains_none, gains_then}
use Rattle.page_device.specs.Moments.{EachImage, EachMoment}
use Rattle.page_device.specs.Runs.{Runs, all_calls, after_turns}
use Rattle.page_layout.specs.Shape.{ShapeView}
use Rattle.trace_text.specs.declared.command.Command.TheVariants.{Write, Fill, Read, Discard, Copy, Flush, Scan, Stat, Policy, Tune, Tick}
use Rattle.trace_text.specs.declared.reply.Reply.{Reply}
use Rattle.trace_text.specs.declared.reply.Reply.TheVariants as reply
use Rattle.array_model.specs.Images.{Mode, left_mode}
use Rattle.array_model.specs.Array.{BlockArray, MayBeLeft, flushed, last, writes_nothing}
use Rattle.array_model.specs.Turns.{Asked, bad, known, Turn, Work, answered, closing, Rules, RunState, FitsAsked, IsRun, after_turn, array_after_asked, unused_after, without_label, works_of, calls_of, array_after_work, MayLeave, calls_of_works, array_after_works, WorksLeave}
use Rattle.array_model.proofs.ReplyLemmas.{asked_weaker}
use Rattle.dedup_writer.specs.Core.{CoreView, shape_in, calls_in}
use Rattle.dedup_writer.specs.Stands.{StandsFor}
use Rattle.dedup_writer.proofs.Quiet.{images_now}
use Rattle.session.specs.Answers.{Moment, ReadsLast, rules_of, shape_rules, no_policies}
use Rattle.session.specs.Chain.{Link, IsChain, turns_of}
use Rattle.session.specs.Session.{FlushesBy}
use Rattle.session.proofs.Chains.{step_does, step_asks}

-- where no policy is unused, none is after any turn
none_left : (label : ℕ) (r : Reply) → unused_after no_policies (known (Policy label)) r ≡ no_policies
unfolding without_label
none_left label reply.Done = refl
none_left label (reply.Bytes page) = refl
none_left label reply.Range = refl
none_left label reply.Fault = refl
none_left label (reply.Damaged damage) = refl
none_left label (reply.Full live waste) = refl
none_left label reply.NoMemory = refl
none_left label (reply.Stat stat) = refl
none_left label (reply.Scan report) = refl
none_left label reply.NoPolicy = refl
none_left label reply.Bad = refl
none_left label reply.Overlap = refl
none_left label (reply.Stopped done why) = refl

none_more : (asked : Asked) (r : Reply) → unused_after no_policies asked r ≡ no_policies
none_more bad r = refl
none_more (known (Write block number)) r = refl
none_more (known (Fill block page)) r = refl
none_more (known (Read block)) r = refl
none_more (known (Discard block)) r = refl
none_more (known (Copy from to n)) r = refl
none_more (known Flush) r = refl
none_more (known Scan) r = refl
none_more (known Stat) r = refl
none_more (known (Policy label)) r = none_left label r
none_more (known (Tune n)) r = refl
none_more (known Tick) r = refl

module _ (mode : Mode) where
  abbrev m : Mode
  m = left_mode mode

  -- the turns over an array: what the store stands for after them, their device calls, what a crash within them leaves, and that
  -- they are a run
  pub record Over (rules : Rules) (from : Moment) (links : List Link) (to : Moment) (a : BlockArray) : Type 0 where
    pub stands : StandsFor mode to.store to.device (array_after_works m rules a (works_of (turns_of links)))
    pub gains : Gains (calls_of_works m rules (works_of (turns_of links))) from.device to.device
    pub leave : (tail : List Work) → WorksLeave m rules (array_after_works m rules a (works_of (turns_of links))) to.device.state tail → WorksLeave m rules a from.device.state (works_of (turns_of links) ++ tail)
    pub run : calls_in from.store < 2 ^ 64 → IsRun rules (record { array = a; unused = no_policies }) (calls_in from.store) (turns_of links)

  pub over_chain : (links : List Link) (from to : Moment) → IsChain from links to → (a : BlockArray) → StandsFor mode from.store from.device a → Over (rules_of from.store) from links to a
  unfolding IsChain works_of after_turns all_calls Runs IsRun
  over_chain [] from to chain a sf = record {
    stands = subst (λ (n : Moment). StandsFor mode n.store n.device a) (sym chain) sf;
    gains = subst (λ (n : Moment). Gains [] from.device n.device) (sym chain) (gains_none from.device);
    leave = λ tail h. subst (λ (n : Moment). WorksLeave m (rules_of from.store) a n.device.state tail) chain h;
    run = λ _. tt;
  }
  over_chain (link ∷ links) from to chain a sf =
      let does = step_does from link chain.0 chain.1 in
      let turn = link.turn in
      let rules = rules_of from.store in
      let call = does.over mode a sf in
      let later = array_after_asked rules a turn.asked turn.answer in
      let next = subst (λ (sh : ShapeView). Over (shape_rules sh) link.after links to later) does.shape (over_chain links link.after to chain.2 later call.stands) in
      let state = does.gains.state sf.tells_pages in
      record {
        stands = next.stands;
        gains = gains_then turn.calls (calls_of_works m rules (works_of (turns_of links))) from.device link.after.device to.device does.gains next.gains;
        leave = λ tail h. (call.each, subst (λ (s : DeviceState). WorksLeave m rules later s (works_of (turns_of links) ++ tail)) state (next.leave tail h));
        run = λ low.
            let number : turn.at ≡ calls_in link.after.store = chain.1.number in
            let counted = does.counted.counted low in (
              step_asks from link chain.0 chain.1,
              asked_weaker (ReadsLast from) (λ block page. page ≡ last a block) (λ block page h. h mode a sf) rules no_policies turn.asked turn.answer does.fits,
              number ∙ counted,
              subst (λ (unused : List ℕ). IsRun rules (record { array = later; unused = unused }) turn.at (turns_of links)) (sym (none_more turn.asked turn.answer))
                  (subst (λ (n : ℕ). IsRun rules (record { array = later; unused = no_policies }) n (turns_of links)) (sym number) (next.run (omega (arith, counted)))),
            );
      }

  -- what may be left of a store that stands for an array
  images_of : (rules : Rules) (core : CoreView) (d : Moment) (a : BlockArray) → rules_of d.store ≡ rules → StandsFor mode d.store d.device a → EachImage (MayLeave m rules a None) d.device.state
  images_of rules core d a same sf = subst (λ (r : Rules). EachImage (MayLeave m r a None) d.device.state) same (images_now mode d.store d.device a writes_nothing sf)

  -- no closing flush
  pub leaves_open : (rules : Rules) (to : Moment) (a : BlockArray) → rules_of to.store ≡ rules → StandsFor mode to.store to.device a → WorksLeave m rules a to.device.state []
  unfolding Runs
  leaves_open rules to a same sf = images_of rules to.store to a same sf

  -- a closing flush, which was done or not
  pub leaves_closed : (rules : Rules) (done : Bool) (calls : List LogEntry) (from to : Moment) (a : BlockArray) → rules_of from.store ≡ rules → StandsFor mode from.store from.device a → FlushesBy done calls from to
      → WorksLeave m rules a from.device.state (closing done calls ∷ [])
  unfolding Runs
  leaves_closed rules done calls from to a same sf f =
      let call = f.call.over mode a sf in
      let later = if done then flushed a else a in
      let moments : EachMoment (MayBeLeft m (shape_in from.store).blocks a writes_nothing) from.device.state calls = subst (λ (l : List LogEntry). EachMoment (MayBeLeft m (shape_in from.store).blocks a writes_nothing) from.device.state l) f.calls_are call.each in
      let state : to.device.state ≡ state_after from.device.state calls = f.call.gains.state sf.tells_pages ∙ ap (state_after from.device.state) f.calls_are in (
        subst (λ (r : Rules). EachMoment (MayLeave m r a (Some (closing done calls))) from.device.state calls) same moments,
        subst (EachImage (MayLeave m rules later None)) state (images_of rules to.store to later (ap shape_rules f.call.shape ∙ same) call.stands),
      )
