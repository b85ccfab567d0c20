-- A write and a flush that were done, a write behind them, and a crash after the flush.
use Rattle.std.proofs.Common.{◌≡◌, ◌≢◌, ◌⊎◌, inl, inr, ⊎_elim, ℕ, zero, suc, ◌+◌, ◌-◌, ◌<◌, ◌≤◌, Bool, true, List, [], ◌∷◌, ◌++◌, length, length-append, take, Some, None, refl, sym, ◌∙◌, ap, subst, arith, lit<}
use Rattle.std.specs.Fmt.{digits}
use Rattle.std.proofs.lemmas.Bool.{cases_lt}
use Rattle.std.proofs.lemmas.List.{append-nil, append_cancel_left, take-append-le}
use Rattle.std.proofs.Math.Seq.{take-append-add}
use Rattle.byte_ports.specs.Source.{SourceMeaning}
use Rattle.byte_ports.specs.Sink.{SinkMeaning, Takes}
use Rattle.page_device.specs.Block.{Block, numbered_block}
use Rattle.page_device.specs.declared.device.LogEntry.{LogEntry}
use Rattle.page_device.specs.Disk.{DeviceState, IsImage, state_after}
use Rattle.page_device.specs.Meaning.{Meaning, IsCounted}
use Rattle.page_device.specs.Moments.{EachImage, EachMoment, each_at, state_after-append}
use Rattle.page_device.specs.Runs.{Runs, all_calls}
use Rattle.trace_text.specs.declared.command.Command.{Command}
use Rattle.trace_text.specs.declared.command.Command.TheVariants.{Write, Flush}
use Rattle.trace_text.specs.declared.reply.Reply.{Reply}
use Rattle.trace_text.specs.declared.reply.Reply.TheVariants as reply
use Rattle.trace_text.specs.Grammar.{IsCommand}
use Rattle.trace_text.specs.Texts.{line_of, text_of}
use Rattle.array_model.specs.Images.{fit, IsFit, block_of}
use Rattle.array_model.specs.Array.{BlockArray, Allowed, IsAmong, gained, maps, flushed, array_after, array_start, writes}
use Rattle.array_model.specs.Replies.{FitsReply, FitsWith}
use Rattle.array_model.specs.Turns.{Asked, known, Asks, Rules, Work, answered, closing, MayLeave, IsRun, FitsAsked, Turn, calls_of, calls_of_works, array_after_work, array_after_asked, asked_writes, after_turn, work_writes, works_of, lines_of, lines_in, parts_of, texts}
use Rattle.session.specs.Answers.{no_policies, shape_rules}
use Rattle.session.specs.Chain.{turns_of, ArePlain, AreNumbered}
use Rattle.session.specs.Flat.{DoneSession}
use Rattle.session.specs.Run.{IsReady, session_start}
use Rattle.session.specs.Session.{closed, Kept, start_rules, start_state}
use Rattle.conclusions.specs.Sentences.{PutsThree}
use Rattle.page_device.specs.Gains.{IsLeft}
use Rattle.conclusions.proofs.Turns.{IsOnly, asked_is}
use Rattle.conclusions.proofs.Arrays.{gained_last}

-- two laws of array_model
abbrev pub Stays : Type 0
Stays = (version : ℕ) (a : BlockArray) (command : Command) (r : Reply) → ((block : ℕ) → a.lists block ≢ []) → (block : ℕ) → (array_after version a command r).lists block ≢ []

abbrev pub Adds : Type 0
Adds = (blocks version : ℕ) (unused : List ℕ) (a : BlockArray) (command : Command) (r : Reply) (block : ℕ) (content : Block) → a.lists block ≢ [] → FitsReply blocks unused a command r → Allowed (array_after version a command r) block content
    → Allowed a block content ⊎ (writes a command block ≡ Some content)

-- what the block 0 may read
abbrev pub FiveOrSix : Block → Type 0
FiveOrSix content = (content ≡ numbered_block 5) ⊎ (content ≡ numbered_block 6)

-- each block has a content, and block 0 these alone
record Reads (a : BlockArray) : Type 0 where
  some : (block : ℕ) → a.lists block ≢ []
  first : (content : Block) → Allowed a 0 content → FiveOrSix content

after_command : Stays → Adds → (blocks version : ℕ) (unused : List ℕ) (a : BlockArray) (command : Command) (r : Reply) → Reads a → FitsReply blocks unused a command r → ((content : Block) → writes a command 0 ≡ Some content → FiveOrSix content)
    → Reads (array_after version a command r)
after_command stays adds blocks version unused a command r reads fits wrote = record {
  some = stays version a command r reads.some;
  first = λ content h. ⊎_elim (reads.first content) (wrote content) (adds blocks version unused a command r 0 content (reads.some 0) fits h);
}

among_one_is : {content c : Block} → IsAmong content (c ∷ []) → content ≡ c
unfolding IsAmong
among_one_is h = ⊎_elim (λ same. same) (λ none. absurd none) h

some_is : {x y : Block} → Some x ≡ Some y → x ≡ y
some_is h = cc

-- what is written behind the flush
writes_six : (a : BlockArray) (content : Block) → writes a (Write 0 6) 0 ≡ Some content → FiveOrSix content
unfolding writes
writes_six a content h = inr (sym (some_is h))

writes_none : (a : BlockArray) (content : Block) → writes a Flush 0 ≡ Some content → FiveOrSix content
unfolding writes
writes_none a content h = absurd (cc h)

flush_fits : (blocks : ℕ) (unused : List ℕ) (a : BlockArray) → FitsReply blocks unused a Flush reply.Done
unfolding FitsWith
flush_fits blocks unused a = inl refl

flush_is : (version : ℕ) (a : BlockArray) → array_after version a Flush reply.Done ≡ flushed a
unfolding array_after
flush_is version a = refl

after_flush : Stays → Adds → (blocks version : ℕ) (a : BlockArray) → Reads a → Reads (flushed a)
after_flush stays adds blocks version a reads = subst Reads (flush_is version a) (after_command stays adds blocks version [] a Flush reply.Done reads (flush_fits blocks [] a) (writes_none a))

five_flushed : (a : BlockArray) (is_mapped : Bool) → Reads (flushed (gained a 0 (numbered_block 5) is_mapped))
five_flushed a is_mapped = record {
  some = λ block e. cc e;
  first = λ content h. inl (among_one_is h ∙ gained_last a 0 (numbered_block 5) is_mapped);
}

-- moments of some calls, or behind them
later_part : (s : DeviceState) (xs ys : List LogEntry) (k : ℕ) → length xs ≤ k → state_after s (take k (xs ++ ys)) ≡ state_after (state_after s xs) (take (k - length xs) ys)
later_part s xs ys k le = ap (λ (n : ℕ). state_after s (take n (xs ++ ys))) (let e : k ≡ length xs + (k - length xs) = omega (arith, le) in e) ∙ ap (state_after s) (take-append-add xs ys (k - length xs)) ∙ state_after-append s xs (take (k - length xs) ys)

-- a crash after any number of these calls leaves such a block 0
abbrev Leaves : DeviceState → List LogEntry → Type 0
Leaves s calls = (k : ℕ) (image : List Block) → IsImage (state_after s (take k calls)) image → FiveOrSix (block_of image 0)

module _ (rules : Rules) (some : 0 < rules.blocks) where
  at_end : (a : BlockArray) (s : DeviceState) → EachImage (MayLeave fit rules a None) s → Reads a → Leaves s []
  unfolding state_after
  at_end a s each reads k image is = ⊎_elim (reads.first (block_of image 0)) (λ none. absurd (cc none)) ((each image (subst (λ (l : List LogEntry). IsImage (state_after s l) image) (none_taken k) is)).reads 0 some)
    where
      none_taken : (n : ℕ) → take n (let l : List LogEntry = [] in l) ≡ []
      none_taken zero = refl
      none_taken (suc n) = refl

  step : (a : BlockArray) (s : DeviceState) (w : Work) (more : List LogEntry) → EachMoment (MayLeave fit rules a (Some w)) s (calls_of w) → Reads a → ((content : Block) → work_writes a (Some w) 0 ≡ Some content → FiveOrSix content)
      → Leaves (state_after s (calls_of w)) more → Leaves s (calls_of w ++ more)
  step a s w more each reads wrote later k image is = ⊎_elim
      (λ lt. within (subst (λ (l : List LogEntry). IsImage (state_after s l) image) (take-append-le k (calls_of w) more (omega (arith, lt))) is))
      (λ le. later (k - length (calls_of w)) image (subst (λ (x : DeviceState). IsImage x image) (later_part s (calls_of w) more k le) is))
      (cases_lt k (length (calls_of w)))
    where
      within : IsImage (state_after s (take k (calls_of w))) image → FiveOrSix (block_of image 0)
      within here = ⊎_elim (reads.first (block_of image 0)) (wrote (block_of image 0)) ((each_at (MayLeave fit rules a (Some w)) s (calls_of w) k each image here).reads 0 some)

  -- the write behind the flush, and the closing flush
  behind : Stays → Adds → (unused : List ℕ) (a : BlockArray) (s : DeviceState) (v : Turn) (calls : List LogEntry) → v.asked ≡ known (Write 0 6) → FitsReply rules.blocks unused a (Write 0 6) v.answer → Reads a
      → Runs calls_of (array_after_work rules) (MayLeave fit rules) a s (answered v ∷ closing true calls ∷ []) → Leaves s (v.calls ++ (calls ++ []))
  unfolding Runs
  behind stays adds unused a s v calls asked fits reads runs =
      let after : array_after_work rules a (answered v) ≡ array_after rules.version a (Write 0 6) v.answer = ap (λ (x : Asked). array_after_asked rules a x v.answer) asked in
      let b = array_after_work rules a (answered v) in
      let now : Reads b = subst Reads (sym after) (after_command stays adds rules.blocks rules.version unused a (Write 0 6) v.answer reads fits (writes_six a)) in
      let wrote : (content : Block) → work_writes a (Some (answered v)) 0 ≡ Some content → FiveOrSix content = λ content h. writes_six a content (ap (λ (x : Asked). asked_writes a x 0) (sym asked) ∙ h) in
      let t = state_after s v.calls in
      step a s (answered v) (calls ++ []) runs.0 reads wrote
      (step b t (closing true calls) [] runs.1.0 now (λ content h. absurd (cc h))
      (at_end (flushed b) (state_after t calls) runs.1.1 (after_flush stays adds rules.blocks rules.version b now)))

-- a turn by its parts
abbrev turn_of : List ℕ → Asked → Reply → ℕ → List LogEntry → Turn
turn_of line asked answer at calls = record { line = line; asked = asked; answer = answer; at = at; calls = calls }

abbrev was : Turn → Asked → Reply → Turn
was t asked answer = turn_of t.line asked answer t.at t.calls

turn_is : (t : Turn) (asked : Asked) (answer : Reply) → t.asked ≡ asked → t.answer ≡ answer → t ≡ was t asked answer
turn_is t asked answer a b = ap (λ (x : Asked). turn_of t.line x t.answer t.at t.calls) a ∙ ap (λ (r : Reply). turn_of t.line asked r t.at t.calls) b

-- a crash behind the flush
module _ (stays : Stays) (adds : Adds) (d d' : Meaning) (t u v : Turn) (calls : List LogEntry) (asked : v.asked ≡ known (Write 0 6)) (k : Kept (session_start fit d) (was t (known (Write 0 5)) reply.Done ∷ was u (known Flush) reply.Done ∷ v ∷ []) (closed calls) d') where
  pub made : List LogEntry
  made = t.calls ++ (u.calls ++ (v.calls ++ (calls ++ [])))

  all_made : made ≡ calls_of_works fit (start_rules (session_start fit d)) (works_of (was t (known (Write 0 5)) reply.Done ∷ was u (known Flush) reply.Done ∷ v ∷ []) ++ closing true calls ∷ [])
  unfolding made all_calls works_of
  all_made = refl

  pub reads_then : (n : ℕ) (image : List Block) → length t.calls + length u.calls ≤ n → IsImage (state_after d.state (take n made)) image → FiveOrSix (block_of image 0)
  unfolding made IsRun Runs works_of array_after FitsWith
  reads_then n image behind_flush is =
      let rules = start_rules (session_start fit d) in
      let a = array_start d.state.fixed in
      let run = k.run (lit< tt) in
      let some : 0 < rules.blocks = ⊎_elim (λ lt. lt) (λ past. absurd (cc (run.1.1 past))) (cases_lt 0 rules.blocks) in
      let fits = subst (λ (x : Asked). FitsAsked rules (after_turn rules (after_turn rules (start_state (session_start fit d)) (was t (known (Write 0 5)) reply.Done)) (was u (known Flush) reply.Done)) x v.answer) asked run.3.3.1 in
      let now = five_flushed a (maps rules.version (numbered_block 5)) in
      let rest = behind rules some stays adds no_policies (flushed (gained a 0 (numbered_block 5) (maps rules.version (numbered_block 5)))) (state_after (state_after d.state t.calls) u.calls) v calls asked fits now k.leave.1.1 in
      rest (n - length t.calls - length u.calls) image
      (subst (λ (s : DeviceState). IsImage s image) (later_part d.state t.calls (u.calls ++ (v.calls ++ (calls ++ []))) n (omega (arith, behind_flush)) ∙ later_part (state_after d.state t.calls) u.calls (v.calls ++ (calls ++ [])) (n - length t.calls) (omega (arith, behind_flush))) is)

  pub gained_all : d.tells_log ≡ true → IsCounted d' → d'.log ≡ d.log ++ made
  gained_all log few = k.gains.log log few ∙ ap (λ (l : List LogEntry). d.log ++ l) (sym all_made)

three_turns : (one two three : List ℕ) (turns : List Turn) → lines_of turns ≡ one ∷ two ∷ three ∷ [] → (t : Turn) × (u : Turn) × (v : Turn) × (turns ≡ t ∷ u ∷ v ∷ []) × (t.line ≡ one) × (u.line ≡ two) × (v.line ≡ three)
three_turns one two three [] lines = absurd (cc lines)
three_turns one two three (t ∷ []) lines = absurd (cc lines)
three_turns one two three (t ∷ u ∷ []) lines = absurd (cc lines)
three_turns one two three (t ∷ u ∷ v ∷ []) lines = (t, u, v, refl, cc lines, cc lines, cc lines)
three_turns one two three (t ∷ u ∷ v ∷ w ∷ rest) lines = absurd (cc lines)

-- a session of these three lines
pub record Flushed (d d' : Meaning) (sink sink' : SinkMeaning) : Type 0 where
  pub p : Reply
  pub q : Reply
  pub r : Reply
  pub second : ℕ
  pub puts : PutsThree p q r second sink sink'
  pub reads : p ≡ reply.Done → q ≡ reply.Done → IsCounted d' → (image : List Block) → (left : IsLeft d d' image) → second ≤ left.k → FiveOrSix (block_of image 0)

module _ (stays : Stays) (adds : Adds) (one two three : List ℕ) (o : IsOnly one (Write 0 5)) (f : IsOnly two Flush) (n : IsOnly three (Write 0 6)) (d d' : Meaning) (source source' : SourceMeaning) (sink sink' : SinkMeaning) (h : DoneSession d d' source source' sink sink')
    (ready : IsReady d) (good : IsFit d.state.fixed) (log : d.tells_log ≡ true) (tells : sink.tells ≡ true) where
  by : (t u v : Turn) → turns_of h.links ≡ t ∷ u ∷ v ∷ [] → t.line ≡ one → u.line ≡ two → v.line ≡ three → Flushed d d' sink sink'
  unfolding ArePlain AreNumbered texts made
  by t u v turns first_line next_line last_line =
      let rules = shape_rules h.shape in
      let plain = subst (ArePlain rules) turns h.plain in
      let wrote : t.asked ≡ known (Write 0 5) = asked_is h.shape one (Write 0 5) o t.asked (subst (λ (l : List ℕ). Asks rules l t.asked) first_line plain.0) in
      let flush : u.asked ≡ known Flush = asked_is h.shape two Flush f u.asked (subst (λ (l : List ℕ). Asks rules l u.asked) next_line plain.2.0) in
      let again : v.asked ≡ known (Write 0 6) = asked_is h.shape three (Write 0 6) n v.asked (subst (λ (l : List ℕ). Asks rules l v.asked) last_line plain.2.2.0) in
      let number = subst (AreNumbered 0) turns h.numbered in
      let put = (subst (λ (ts : List Turn). Takes (texts ts) sink sink') turns h.put).held tells in
      record {
        p = t.answer;
        q = u.answer;
        r = v.answer;
        second = u.at;
        puts = record {
          first = t.at;
          third = v.at;
          held = put ∙ ap (λ (l : List ℕ). sink.held ++ (text_of t.at t.answer ++ (text_of u.at u.answer ++ l))) (append-nil (text_of v.at v.answer));
        };
        reads = λ done flushed_too few image left behind_flush.
            let are : turns_of h.links ≡ was t (known (Write 0 5)) reply.Done ∷ was u (known Flush) reply.Done ∷ v ∷ [] =
            turns ∙ ap (λ (x : Turn). x ∷ u ∷ v ∷ []) (turn_is t (known (Write 0 5)) reply.Done wrote done) ∙ ap (λ (x : Turn). was t (known (Write 0 5)) reply.Done ∷ x ∷ v ∷ []) (turn_is u (known Flush) reply.Done flush flushed_too) in
            let k = subst (λ (ts : List Turn). Kept (session_start fit d) ts (closed h.calls) d') are (h.kept ready fit good) in
            let all = gained_all stays adds d d' t u v h.calls again k log few in
            let rest = v.calls ++ (h.calls ++ []) in
            let mine : left.calls ≡ t.calls ++ (u.calls ++ rest) = append_cancel_left d.log left.calls (t.calls ++ (u.calls ++ rest)) (sym left.log ∙ all) in
            reads_then stays adds d d' t u v h.calls again k left.k image
            (omega (arith, behind_flush, few, ap length all, length-append d.log (t.calls ++ (u.calls ++ rest)), length-append t.calls (u.calls ++ rest), length-append u.calls rest, number.0, number.1.0))
            (subst (λ (l : List LogEntry). IsImage (state_after d.state (take left.k l)) image) mine left.left);
      }

  pub flushed_session : source.tells ≡ true → lines_in source.left ≡ one ∷ two ∷ three ∷ [] → Flushed d d' sink sink'
  flushed_session source_tells lines = let p = three_turns one two three (turns_of h.links) (h.input source_tells ∙ lines) in by p.0 p.1 p.2 p.3 p.4 p.5 p.6

-- the lines of the input
pub write_flush_write : lines_in (119 ∷ 32 ∷ 48 ∷ 32 ∷ 53 ∷ 10 ∷ 102 ∷ 10 ∷ 119 ∷ 32 ∷ 48 ∷ 32 ∷ 54 ∷ 10 ∷ []) ≡ (119 ∷ 32 ∷ 48 ∷ 32 ∷ 53 ∷ []) ∷ (102 ∷ []) ∷ (119 ∷ 32 ∷ 48 ∷ 32 ∷ 54 ∷ []) ∷ []
unfolding parts_of
write_flush_write = refl

pub is_write_six : IsCommand (119 ∷ 32 ∷ 48 ∷ 32 ∷ 54 ∷ []) (Write 0 6)
unfolding IsCommand line_of digits
is_write_six = (refl, lit< tt, lit< tt)

-- what is the same as such a content is one
pub same_or_other : (content page : Block) → FiveOrSix content → page ≡ content → FiveOrSix page
same_or_other content page (inl five) is = inl (is ∙ five)
same_or_other content page (inr six) is = inr (is ∙ six)
