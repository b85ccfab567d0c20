-- A write and a read over a new image, where no call fails.
use Rattle.std.proofs.Common.{◌≡◌, inl, ℕ, zero, suc, ◌+◌, ◌<◌, ◌≤◌, ◌==◌, if◌then◌else◌, Bool, true, false, List, [], ◌∷◌, ◌++◌, length, length-append, append_assoc, refl, sym, ◌∙◌, ap, subst, arith}
use Rattle.std.proofs.lemmas.List.{append-nil}
use Rattle.byte_ports.specs.Source.{SourceMeaning}
use Rattle.byte_ports.specs.Sink.{SinkMeaning, Takes}
use Rattle.page_device.specs.Block.{Block, numbered_block}
use Rattle.page_device.specs.declared.device.LogEntry.{LogEntry}
use Rattle.page_device.specs.Disk.{DeviceState, IsImage}
use Rattle.page_device.specs.Faults.{IsCalm}
use Rattle.page_device.specs.Gains.{Gains}
use Rattle.page_device.specs.Meaning.{Meaning}
use Rattle.page_layout.specs.Shape.{ShapeView}
use Rattle.page_layout.specs.Tables.{shape_of, map_of, count_of}
use Rattle.trace_text.specs.declared.command.Command.TheVariants.{Write, Read}
use Rattle.trace_text.specs.declared.reply.Reply.{Reply}
use Rattle.trace_text.specs.declared.reply.Reply.TheVariants as reply
use Rattle.trace_text.specs.Texts.{text_of}
use Rattle.array_model.specs.Counting.{count_below}
use Rattle.array_model.specs.Images.{fit, IsFit}
use Rattle.array_model.specs.Array.{BlockArray, array_after, gained, last, maps}
use Rattle.array_model.specs.Replies.{FitsWith, FitsWrite}
use Rattle.array_model.specs.Turns.{Asked, known, Asks, Rules, RunState, FitsAsked, FitsAskedWith, IsRun, Turn, array_after_asked, after_turn, lines_in, parts_of, texts}
use Rattle.mount_reader.specs.Format.{IsNew}
use Rattle.session.specs.Answers.{no_policies, shape_rules}
use Rattle.session.specs.Chain.{turns_of, ArePlain, EachAnswer, IsSure, fault_count, fault_replies, FaultsCounted, AreNumbered, turn_calls, NumbersHold, NumbersAt}
use Rattle.session.specs.Flat.{DoneSession}
use Rattle.session.specs.Run.{IsReady, new_shape, session_start}
use Rattle.session.specs.Session.{start_rules, start_state}
use Rattle.conclusions.specs.Sentences.{PutsTwo}
use Rattle.conclusions.proofs.Turns.{IsOnly, asked_is, two_turns}
use Rattle.conclusions.proofs.Arrays.{gained_last, read_is}

-- a write that was answered without a fault, and not for want of a page
write_done : (pages : ℕ) (r : Reply) → FitsWrite r → IsSure pages r → fault_count r ≡ 0 → ((live waste : ℕ) → r ≡ reply.Full live waste → ⊥) → r ≡ reply.Done
write_done pages reply.Done fits sure none not_full = refl
write_done pages (reply.Full live waste) fits sure none not_full = absurd (not_full live waste refl)
write_done pages reply.Fault fits sure none not_full = absurd (omega (arith, none))
write_done pages (reply.Damaged damage) fits sure none not_full = absurd (sure.whole damage refl)
write_done pages reply.NoMemory fits sure none not_full = absurd (sure.has_memory refl)
write_done pages (reply.Bytes page) fits sure none not_full = absurd fits
write_done pages reply.Range fits sure none not_full = absurd fits
write_done pages (reply.Stat stat) fits sure none not_full = absurd fits
write_done pages (reply.Scan report) fits sure none not_full = absurd fits
write_done pages reply.NoPolicy fits sure none not_full = absurd fits
write_done pages reply.Bad fits sure none not_full = absurd fits
write_done pages reply.Overlap fits sure none not_full = absurd fits
write_done pages (reply.Stopped done why) fits sure none not_full = absurd fits

-- what a read gives after a write that was done
five_read : (rules : Rules) (s : RunState) (pages : ℕ) (t u : Turn) → 0 < rules.blocks → t.asked ≡ known (Write 0 5) → t.answer ≡ reply.Done → u.asked ≡ known (Read 0) → IsSure pages u.answer → fault_count u.answer ≡ 0
    → FitsAsked rules (after_turn rules s t) u.asked u.answer → u.answer ≡ reply.Bytes (numbered_block 5)
unfolding FitsWith array_after
five_read rules s pages t u some wrote done reads sure none fits =
    let array : array_after_asked rules s.array t.asked t.answer ≡ gained s.array 0 (numbered_block 5) (maps rules.version (numbered_block 5)) =
    ap (λ (a : Asked). array_after_asked rules s.array a t.answer) wrote ∙ ap (array_after rules.version s.array (Write 0 5)) done in
    let a = array_after_asked rules s.array t.asked t.answer in
    let fit = subst (λ (asked : Asked). FitsAskedWith (λ block page. page ≡ last a block) rules (after_turn rules s t).unused asked u.answer) reads fits in
    read_is pages (last a 0) u.answer (fit.0 some) sure none ∙ ap (λ (b : BlockArray). reply.Bytes (last b 0)) array ∙ ap reply.Bytes (gained_last s.array 0 (numbered_block 5) (maps rules.version (numbered_block 5)))

module _ (line next : List ℕ) (o : IsOnly line (Write 0 5)) (n : IsOnly next (Read 0)) (d d' : Meaning) (source source' : SourceMeaning) (sink sink' : SinkMeaning) (h : DoneSession d d' source source' sink sink')
    (ready : IsReady d) (new : IsNew (new_shape 4 4) d.state.fixed) (good : IsFit d.state.fixed) (shape : h.shape ≡ new_shape 4 4) (calm : IsCalm d d') (tells : sink.tells ≡ true) where
  -- a full store is refused, since nothing is counted
  not_full : (live waste : ℕ) → NumbersHold (reply.Full live waste) d.state → ⊥
  not_full live waste hold =
      let is : IsImage d.state d.state.fixed = subst (λ (x : DeviceState). IsImage x d.state.fixed) (sym ready.rest) (record { pages = refl; each = λ page block e. inl e }) in
      let pages : (shape_of d.state.fixed).pages ≡ 4 = ap (λ (s : ShapeView). s.pages) new.is in
      omega (arith, hold.0 d.state.fixed is 1 (omega arith) (omega (arith, pages)), new.uncounted 1 (omega arith) (omega arith))

  by : (t u : Turn) → turns_of h.links ≡ t ∷ u ∷ [] → t.line ≡ line → u.line ≡ next → PutsTwo reply.Done (reply.Bytes (numbered_block 5)) d d' sink sink'
  unfolding ArePlain EachAnswer fault_replies AreNumbered turn_calls texts NumbersAt IsRun FitsWith
  by t u two first_line next_line =
      let rules = shape_rules h.shape in
      let plain = subst (ArePlain rules) two h.plain in
      let wrote : t.asked ≡ known (Write 0 5) = asked_is h.shape line (Write 0 5) o t.asked (subst (λ (l : List ℕ). Asks rules l t.asked) first_line plain.0) in
      let reads : u.asked ≡ known (Read 0) = asked_is h.shape next (Read 0) n u.asked (subst (λ (l : List ℕ). Asks rules l u.asked) next_line plain.2.0) in
      let sure = subst (EachAnswer (IsSure h.shape.pages)) two h.sure in
      let quiet : d.faults + (fault_count t.answer + (fault_count u.answer + 0)) ≤ d'.faults = subst (FaultsCounted d d') two h.faulted (omega (arith, calm.same, calm.few)) in
      let blocks : h.shape.blocks ≡ 4 = ap (λ (s : ShapeView). s.blocks) shape in
      let fits = subst (λ (a : Asked). FitsAskedWith (λ block page. Unit {0}) rules no_policies a t.answer) wrote plain.1 in
      let told = subst (NumbersAt d.state) two (h.calm ready calm) in
      let done : t.answer ≡ reply.Done = write_done h.shape.pages t.answer (fits.0 (omega (arith, blocks))) sure.0 (omega (arith, quiet, calm.same)) (λ live waste is. not_full live waste (subst (λ (r : Reply). NumbersHold r d.state) is told.0)) in
      let s = session_start fit d in
      let run = subst (λ (ts : List Turn). IsRun (start_rules s) (start_state s) 0 ts) two ((h.kept ready fit good).run (omega arith)) in
      let some : 0 < (shape_of d.state.fixed).blocks = omega (arith, ap (λ (x : ShapeView). x.blocks) new.is) in
      let five : u.answer ≡ reply.Bytes (numbered_block 5) = five_read (start_rules s) (start_state s) h.shape.pages t u some wrote done reads sure.1.0 (omega (arith, quiet, calm.same)) run.3.1 in
      let number = subst (AreNumbered 0) two h.numbered in
      let gains = subst (λ (ts : List Turn). Gains (turn_calls ts ++ h.calls) d d') two h.gains in
      let put = (subst (λ (ts : List Turn). Takes (texts ts) sink sink') two h.put).held tells in
      let all = length-append d.log ((t.calls ++ (u.calls ++ [])) ++ h.calls) in
      let both = length-append (t.calls ++ (u.calls ++ [])) h.calls in
      let each = length-append t.calls (u.calls ++ []) in
      let last = length-append u.calls [] in
      record {
        first = t.at;
        second = u.at;
        held = put ∙ ap (λ (r : Reply). sink.held ++ (text_of t.at r ++ (text_of u.at u.answer ++ []))) done ∙ ap (λ (r : Reply). sink.held ++ (text_of t.at reply.Done ++ (text_of u.at r ++ []))) five
            ∙ ap (λ (l : List ℕ). sink.held ++ (text_of t.at reply.Done ++ l)) (append-nil (text_of u.at (reply.Bytes (numbered_block 5)))) ∙ sym (append_assoc sink.held (text_of t.at reply.Done) (text_of u.at (reply.Bytes (numbered_block 5))));
        rises = omega (arith, number.0, number.1.0);
        one = t.calls;
        two = u.calls;
        more = h.calls;
        log = λ log few. gains.log log few ∙ ap (λ (l : List LogEntry). d.log ++ ((t.calls ++ l) ++ h.calls)) (append-nil u.calls) ∙ sym (append_assoc d.log (t.calls ++ u.calls) h.calls) ∙ ap (λ (l : List LogEntry). l ++ h.calls) (sym (append_assoc d.log t.calls u.calls));
        first_is = λ log few. omega (arith, ap length (gains.log log few), all, both, each, last, number.0, few);
        second_is = λ log few. omega (arith, ap length (gains.log log few), all, both, each, last, number.0, number.1.0, few);
      }

  pub five_put : source.tells ≡ true → lines_in source.left ≡ line ∷ next ∷ [] → PutsTwo reply.Done (reply.Bytes (numbered_block 5)) d d' sink sink'
  five_put source_tells lines = let p = two_turns line next (turns_of h.links) (h.input source_tells ∙ lines) in by p.0 p.1 p.2 p.3 p.4

-- the lines of the input
pub write_and_read : lines_in (119 ∷ 32 ∷ 48 ∷ 32 ∷ 53 ∷ 10 ∷ 114 ∷ 32 ∷ 48 ∷ 10 ∷ []) ≡ (119 ∷ 32 ∷ 48 ∷ 32 ∷ 53 ∷ []) ∷ (114 ∷ 32 ∷ 48 ∷ []) ∷ []
unfolding parts_of
write_and_read = refl
