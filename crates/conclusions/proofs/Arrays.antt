-- What a session of one command says of the array of the image.
use Rattle.std.proofs.Common.{◌≡◌, ⊎_elim, ℕ, ◌<◌, ◌^◌, ◌==◌, if◌then◌else◌, Bool, true, false, List, [], ◌∷◌, ◌++◌, refl, sym, ◌∙◌, ap, subst, arith, lit<}
use Rattle.std.specs.Fmt.{digits}
use Rattle.std.proofs.lemmas.Bool.{cases_lt}
use Rattle.std.proofs.lemmas.Bool.Decides.{nat_tests}
use Rattle.page_device.specs.Block.{Block, numbered_block}
use Rattle.page_device.specs.declared.device.LogEntry.{LogEntry}
use Rattle.page_device.specs.Disk.{DeviceState, IsImage, state_after}
use Rattle.page_device.specs.Meaning.{Meaning}
use Rattle.page_device.specs.Runs.{after_turns}
use Rattle.trace_text.specs.declared.command.Command.{Command}
use Rattle.trace_text.specs.declared.command.Command.TheVariants.{Write, Read}
use Rattle.trace_text.specs.declared.reply.Reply.{Reply}
use Rattle.trace_text.specs.declared.reply.Reply.TheVariants as reply
use Rattle.trace_text.specs.Grammar.{IsCommand}
use Rattle.trace_text.specs.Texts.{line_of}
use Rattle.array_model.specs.Images.{Mode, IsGood, block_of, fit, left_mode}
use Rattle.array_model.specs.Array.{BlockArray, Allowed, IsAmong, MayBeLeft, last, last_of, gained, maps, flushed, array_after, writes_nothing}
use Rattle.array_model.specs.Replies.{FitsWith, FitsReply, FitsRead}
use Rattle.array_model.specs.Turns.{Asked, known, Rules, FitsAsked, IsRun, Turn, Work, WorksLeave, array_after_asked, array_after_works, calls_of_works, works_of, lines_in, parts_of}
use Rattle.session.specs.Answers.{no_policies}
use Rattle.session.specs.Chain.{IsSure, fault_count}
use Rattle.session.specs.Session.{Start, closed, Kept, start_rules, start_state, works_done}

-- after all works (a law of array_model)
abbrev pub WorksEnd : Type 0
WorksEnd = (mode : Mode) (rules : Rules) (a : BlockArray) (start : DeviceState) (works : List Work) (image : List Block) → WorksLeave mode rules a start works → IsImage (state_after start (calls_of_works mode rules works)) image
    → MayBeLeft mode rules.blocks (array_after_works mode rules a works) writes_nothing image

-- one command, and the closing flush
pub record OneOver (s : Start) (command : Command) (answer : Reply) (d : Meaning) : Type 0 where
  pub fits : FitsReply s.shape.blocks no_policies s.array command answer
  pub left : (image : List Block) → IsImage d.state image → MayBeLeft fit s.shape.blocks (flushed (array_after s.shape.version s.array command answer)) writes_nothing image

pub one_over : WorksEnd → (s : Start) (turns : List Turn) (t : Turn) (calls : List LogEntry) (command : Command) (d : Meaning) → s.mode ≡ fit → s.at < 2 ^ 64 → s.device.tells_pages ≡ true → turns ≡ t ∷ [] → t.asked ≡ known command
    → Kept s turns (closed calls) d → OneOver s command t.answer d
unfolding IsRun works_of after_turns
one_over ends s turns t calls command d mode low tells one asked kept =
    let k = subst (λ (ts : List Turn). Kept s ts (closed calls) d) one kept in
    let rules = start_rules s in
    let m = fit in
    let works = works_done (t ∷ []) (closed calls) in
    record {
      fits = subst (λ (a : Asked). FitsAsked rules (start_state s) a t.answer) asked (k.run low).1;
      left = λ image is.
          let leave = subst (λ (mo : Mode). WorksLeave (left_mode mo) rules s.array s.device.state works) mode k.leave in
          let gone = subst (λ (mo : Mode). d.state ≡ state_after s.device.state (calls_of_works (left_mode mo) rules works)) mode (k.gains.state tells) in
          subst (λ (a : Asked). MayBeLeft fit s.shape.blocks (flushed (array_after_asked rules s.array a t.answer)) writes_nothing image) asked
          (ends m rules s.array s.device.state works image leave (subst (λ (x : DeviceState). IsImage x image) gone is));
    }

-- the last of some contents and one more
last_gained : (list : List Block) (c : Block) → last_of (list ++ c ∷ []) ≡ c
unfolding last_of
last_gained [] c = refl
last_gained (x ∷ []) c = refl
last_gained (x ∷ y ∷ rest) c = last_gained (y ∷ rest) c

pub last_one : (c : Block) → last_of (c ∷ []) ≡ c
unfolding last_of
last_one c = refl

-- the last content of a block that gained one
pub gained_last : (a : BlockArray) (block : ℕ) (c : Block) (is_mapped : Bool) → last (gained a block c is_mapped) block ≡ c
gained_last a block c is_mapped = ap last_of (here (block == block) (grind (nat_tests, arith))) ∙ last_gained (a.lists block) c
  where
    here : (b : Bool) → b ≡ true → (if b then a.lists block ++ c ∷ [] else a.lists block) ≡ a.lists block ++ c ∷ []
    here true is = refl
    here false is = absurd (cc is)

-- what the block reads after a write that was done
pub block_reads : (s : Start) (block number : ℕ) (answer : Reply) (d : Meaning) (o : OneOver s (Write block number) answer d) → answer ≡ reply.Done → (image : List Block) → IsImage d.state image → IsGood fit image × (block_of image block ≡ numbered_block number)
unfolding FitsWith array_after IsAmong
block_reads s block number answer d o done image is =
    let m = o.left image is in
    let in_range : block < s.shape.blocks = ⊎_elim (λ lt. lt) (λ past. absurd (cc (sym done ∙ o.fits.1 past))) (cases_lt block s.shape.blocks) in
    let after : array_after s.shape.version s.array (Write block number) answer ≡ gained s.array block (numbered_block number) (maps s.shape.version (numbered_block number)) = ap (array_after s.shape.version s.array (Write block number)) done in
    let reads = gained_last s.array block (numbered_block number) (maps s.shape.version (numbered_block number)) in
    ⊎_elim
    (λ allowed. (m.good, only_last (subst (λ (b : BlockArray). Allowed (flushed b) block (block_of image block)) after allowed) ∙ reads))
    (λ none. absurd (cc none))
    (m.reads block in_range)
  where
    only_last : {content c : Block} → IsAmong content (c ∷ []) → content ≡ c
    only_last h = ⊎_elim (λ same. same) (λ none. absurd none) h

-- a read that was answered without a fault gives the content
pub read_is : (pages : ℕ) (content : Block) (r : Reply) → FitsRead content r → IsSure pages r → fault_count r ≡ 0 → r ≡ reply.Bytes content
read_is pages content (reply.Bytes page) fits sure none = ap reply.Bytes fits
read_is pages content reply.Fault fits sure none = absurd (omega (arith, none))
read_is pages content (reply.Damaged damage) fits sure none = absurd (sure.whole damage refl)
read_is pages content reply.NoMemory fits sure none = absurd (sure.has_memory refl)
read_is pages content reply.Done fits sure none = absurd fits
read_is pages content reply.Range fits sure none = absurd fits
read_is pages content (reply.Full live waste) fits sure none = absurd fits
read_is pages content (reply.Stat stat) fits sure none = absurd fits
read_is pages content (reply.Scan report) fits sure none = absurd fits
read_is pages content reply.NoPolicy fits sure none = absurd fits
read_is pages content reply.Bad fits sure none = absurd fits
read_is pages content reply.Overlap fits sure none = absurd fits
read_is pages content (reply.Stopped done why) fits sure none = absurd fits

-- the lines
pub write_five : lines_in (119 ∷ 32 ∷ 48 ∷ 32 ∷ 53 ∷ 10 ∷ []) ≡ (119 ∷ 32 ∷ 48 ∷ 32 ∷ 53 ∷ []) ∷ []
unfolding parts_of
write_five = refl

pub read_zero : lines_in (114 ∷ 32 ∷ 48 ∷ 10 ∷ []) ≡ (114 ∷ 32 ∷ 48 ∷ []) ∷ []
unfolding parts_of
read_zero = refl

pub is_write_five : IsCommand (119 ∷ 32 ∷ 48 ∷ 32 ∷ 53 ∷ []) (Write 0 5)
unfolding IsCommand line_of digits
is_write_five = (refl, lit< tt, lit< tt)

pub is_read_zero : IsCommand (114 ∷ 32 ∷ 48 ∷ []) (Read 0)
unfolding IsCommand line_of digits
is_read_zero = (refl, lit< tt)
