-- What was asked for was done, command by command.
use Rattle.std.proofs.Common.{◌≡◌, inl, inr, ℕ, ◌<◌, ◌≤◌, Bool, true, false, List, [], refl, sym, ◌∙◌, ap, subst, arith, Option, Result, Ok, Err}
use Rattle.page_device.specs.Block.{Block, zero_block, numbered_block}
use Rattle.page_device.specs.Gains.{gains_none}
use Rattle.page_device.specs.Meaning.{Meaning}
use Rattle.page_layout.specs.Shape.{total}
use Rattle.trace_text.specs.declared.command.Command.{Command}
use Rattle.trace_text.specs.declared.command.Command.TheVariants.{Write, Fill, Read, Discard, Copy, Flush, Scan, Stat, Policy, Tune, Tick}
use Rattle.trace_text.specs.declared.reply.Reply.{Reply}
use Rattle.trace_text.specs.declared.reply.Reply.TheVariants as reply
use Rattle.trace_text.specs.Grammar.{IsCommand}
use Rattle.array_model.specs.Images.{Mode}
use Rattle.array_model.specs.Array.{BlockArray, array_after, writes, writes_one, writes_nothing, gained, flushed, maps}
use Rattle.array_model.specs.Replies.{FitsWith, FitsWrite, FitsDiscard, FitsBytes}
use Rattle.array_model.specs.Turns.{bad, known, Asks, FitsAskedWith, array_after_asked, asked_writes}
use Rattle.dedup_writer.specs.declared.store.Refusal.{Refusal}
use Rattle.dedup_writer.specs.declared.store.Refusal.TheVariants as refusal
use Rattle.dedup_writer.specs.Core.{CoreView, shape_in, stat_in}
use Rattle.dedup_writer.specs.Calls.{StoreCall, Called, FlushCalled, after_write, after_discard, WriteCause, TableCause, ComesFirst}
use Rattle.dedup_writer.proofs.Quiet.{called_nothing}
use Rattle.session.specs.Answers.{Moment, at, Fits, ReadsLast, IsQuiet, is_built, no_policies, rules_of, refusal_reply, ReplyCause, Does, Commanded, RunsCommand, CommandDone}

-- the device has the pages of the image still
pub still_fits : (from to : Moment) → shape_in to.store ≡ shape_in from.store → to.device.pages ≡ from.device.pages → Fits from.store from.device → Fits to.store to.device
still_fits from to shape pages fits = omega (arith, ap total shape, pages, fits)

module _ (from to : Moment) (pages : to.device.pages ≡ from.device.pages) where
  -- a call of the store was what a command asks for
  commanded : (command : Command) (r : Reply) (next : BlockArray → BlockArray) (written : BlockArray → ℕ → Option Block) → Called from.store to.store from.device to.device next written
      → FitsWith (ReadsLast from) (shape_in from.store).blocks no_policies command r → ReplyCause r from to
      → ((a : BlockArray) → next a ≡ array_after (shape_in from.store).version a command r) → ((a : BlockArray) → written a ≡ writes a command) → Commanded command r from to
  commanded command r next written call fits cause array put = record {
    calls = call.calls;
    does = record {
      fits = fits;
      cause = cause;
      gains = call.gains;
      counted = call.counted;
      shape = call.shape;
      pages = pages;
      falls = call.falls;
      calm = call.calm;
      over = λ mode a sf.
          subst (λ (b : BlockArray). StoreCall mode call.calls from.store to.store from.device to.device a b (writes a command)) (array a)
          (subst (λ (w : ℕ → Option Block). StoreCall mode call.calls from.store to.store from.device to.device a (next a) w) (put a) (call.over mode a sf));
    };
  }

  -- why a refused call was answered so
  write_cause : (block : ℕ) (why : Refusal) → WriteCause why block from.store from.device to.device → (ComesFirst why → (to.store ≡ from.store) × (to.device ≡ from.device)) → ReplyCause (refusal_reply why) from to
  write_cause block refusal.Range cause quiet = let h = quiet tt in record { store = h.0; device = h.1 }
  write_cause block refusal.Device cause quiet = cause
  write_cause block (refusal.Damaged damage) cause quiet = cause
  write_cause block (refusal.Full live more) cause quiet = let h = quiet tt in (cause, record { store = h.0; device = h.1 })
  write_cause block refusal.NoMemory cause quiet = cause

  table_cause : (block : ℕ) (why : Refusal) → TableCause why block from.store from.device to.device → (ComesFirst why → (to.store ≡ from.store) × (to.device ≡ from.device)) → ReplyCause (refusal_reply why) from to
  table_cause block refusal.Range cause quiet = let h = quiet tt in record { store = h.0; device = h.1 }
  table_cause block refusal.Device cause quiet = cause
  table_cause block (refusal.Damaged damage) cause quiet = cause
  table_cause block (refusal.Full live more) cause quiet = absurd cause
  table_cause block refusal.NoMemory cause quiet = cause

  fits_write : (block : ℕ) (why : Refusal) → WriteCause why block from.store from.device to.device → block < (shape_in from.store).blocks → FitsWrite (refusal_reply why)
  fits_write block refusal.Range cause lt = absurd (omega (arith, lt, cause))
  fits_write block refusal.Device cause lt = tt
  fits_write block (refusal.Damaged damage) cause lt = tt
  fits_write block (refusal.Full live waste) cause lt = tt
  fits_write block refusal.NoMemory cause lt = tt

  fits_read : (block : ℕ) (P : Block → Type 0) (why : Refusal) → TableCause why block from.store from.device to.device → block < (shape_in from.store).blocks → FitsBytes P (refusal_reply why)
  fits_read block P refusal.Range cause lt = absurd (omega (arith, lt, cause))
  fits_read block P refusal.Device cause lt = tt
  fits_read block P (refusal.Damaged damage) cause lt = tt
  fits_read block P (refusal.Full live waste) cause lt = absurd cause
  fits_read block P refusal.NoMemory cause lt = tt

  fits_discard : (block : ℕ) (why : Refusal) → TableCause why block from.store from.device to.device → block < (shape_in from.store).blocks → FitsDiscard (refusal_reply why)
  fits_discard block refusal.Range cause lt = absurd (omega (arith, lt, cause))
  fits_discard block refusal.Device cause lt = tt
  fits_discard block (refusal.Damaged damage) cause lt = tt
  fits_discard block (refusal.Full live waste) cause lt = absurd cause
  fits_discard block refusal.NoMemory cause lt = tt

  -- a refused command changes nothing of the array
  refused_array : (version : ℕ) (a : BlockArray) (block number : ℕ) (page : Block) (why : Refusal)
      → (a ≡ array_after version a (Write block number) (refusal_reply why)) × (a ≡ array_after version a (Fill block page) (refusal_reply why)) × (a ≡ array_after version a (Discard block) (refusal_reply why)) × (a ≡ array_after version a (Read block) (refusal_reply why))
  unfolding array_after
  refused_array version a block number page refusal.Range = (refl, refl, refl, refl)
  refused_array version a block number page refusal.Device = (refl, refl, refl, refl)
  refused_array version a block number page (refusal.Damaged damage) = (refl, refl, refl, refl)
  refused_array version a block number page (refusal.Full live waste) = (refl, refl, refl, refl)
  refused_array version a block number page refusal.NoMemory = (refl, refl, refl, refl)

  -- writes
  pub write_done : (block number : ℕ) → ((shape_in from.store).blocks ≤ block → ⊥)
      → Called from.store to.store from.device to.device (λ a. gained a block (numbered_block number) (maps (shape_in from.store).version (numbered_block number))) (λ _. writes_one block (numbered_block number)) → Commanded (Write block number) reply.Done from to
  unfolding FitsWith array_after writes
  write_done block number in_range call = commanded (Write block number) reply.Done _ _ call (λ _. tt, λ past. absurd (in_range past)) tt (λ a. refl) (λ a. refl)

  pub write_refused : (block number : ℕ) (why : Refusal) → WriteCause why block from.store from.device to.device → (ComesFirst why → (to.store ≡ from.store) × (to.device ≡ from.device)) → ((shape_in from.store).blocks ≤ block → refusal_reply why ≡ reply.Range)
      → Called from.store to.store from.device to.device (λ a. a) (λ _. writes_one block (numbered_block number)) → Commanded (Write block number) (refusal_reply why) from to
  unfolding FitsWith writes
  write_refused block number why cause quiet range call = commanded (Write block number) (refusal_reply why) _ _ call (fits_write block why cause, range) (write_cause block why cause quiet)
      (λ a. (refused_array (shape_in from.store).version a block number zero_block why).0) (λ a. refl)

  pub fill_done : (block : ℕ) (page : Block) → ((shape_in from.store).blocks ≤ block → ⊥)
      → Called from.store to.store from.device to.device (λ a. gained a block page (maps (shape_in from.store).version page)) (λ _. writes_one block page) → Commanded (Fill block page) reply.Done from to
  unfolding FitsWith array_after writes
  fill_done block page in_range call = commanded (Fill block page) reply.Done _ _ call (λ _. tt, λ past. absurd (in_range past)) tt (λ a. refl) (λ a. refl)

  pub fill_refused : (block : ℕ) (page : Block) (why : Refusal) → WriteCause why block from.store from.device to.device → (ComesFirst why → (to.store ≡ from.store) × (to.device ≡ from.device)) → ((shape_in from.store).blocks ≤ block → refusal_reply why ≡ reply.Range)
      → Called from.store to.store from.device to.device (λ a. a) (λ _. writes_one block page) → Commanded (Fill block page) (refusal_reply why) from to
  unfolding FitsWith writes
  fill_refused block page why cause quiet range call = commanded (Fill block page) (refusal_reply why) _ _ call (fits_write block why cause, range) (write_cause block why cause quiet)
      (λ a. (refused_array (shape_in from.store).version a block 0 page why).1) (λ a. refl)

  -- discards
  pub discard_done : (block : ℕ) → ((shape_in from.store).blocks ≤ block → ⊥) → Called from.store to.store from.device to.device (λ a. gained a block zero_block false) (λ _. writes_one block zero_block) → Commanded (Discard block) reply.Done from to
  unfolding FitsWith array_after writes
  discard_done block in_range call = commanded (Discard block) reply.Done _ _ call (λ _. tt, λ past. absurd (in_range past)) tt (λ a. refl) (λ a. refl)

  pub discard_refused : (block : ℕ) (why : Refusal) → TableCause why block from.store from.device to.device → (ComesFirst why → (to.store ≡ from.store) × (to.device ≡ from.device)) → ((shape_in from.store).blocks ≤ block → refusal_reply why ≡ reply.Range)
      → Called from.store to.store from.device to.device (λ a. a) (λ _. writes_one block zero_block) → Commanded (Discard block) (refusal_reply why) from to
  unfolding FitsWith writes
  discard_refused block why cause quiet range call = commanded (Discard block) (refusal_reply why) _ _ call (fits_discard block why cause, range) (table_cause block why cause quiet)
      (λ a. (refused_array (shape_in from.store).version a block 0 zero_block why).2) (λ a. refl)

  -- reads
  pub read_done : (block : ℕ) (page : Block) → ((shape_in from.store).blocks ≤ block → ⊥) → ReadsLast from block page → Called from.store to.store from.device to.device (λ a. a) (λ _. writes_nothing) → Commanded (Read block) (reply.Bytes page) from to
  unfolding FitsWith array_after writes
  read_done block page in_range is call = commanded (Read block) (reply.Bytes page) _ _ call (λ _. is, λ past. absurd (in_range past)) tt (λ a. refl) (λ a. refl)

  pub read_refused : (block : ℕ) (why : Refusal) → TableCause why block from.store from.device to.device → (ComesFirst why → (to.store ≡ from.store) × (to.device ≡ from.device)) → ((shape_in from.store).blocks ≤ block → refusal_reply why ≡ reply.Range)
      → Called from.store to.store from.device to.device (λ a. a) (λ _. writes_nothing) → Commanded (Read block) (refusal_reply why) from to
  unfolding FitsWith writes
  read_refused block why cause quiet range call = commanded (Read block) (refusal_reply why) _ _ call (fits_read block (ReadsLast from block) why cause, range) (table_cause block why cause quiet)
      (λ a. (refused_array (shape_in from.store).version a block 0 zero_block why).3) (λ a. refl)

  -- flushes
  pub flush_done : Called from.store to.store from.device to.device (λ a. flushed a) (λ _. writes_nothing) → Commanded Flush reply.Done from to
  unfolding FitsWith array_after writes
  flush_done call = commanded Flush reply.Done _ _ call (inl refl) tt (λ a. refl) (λ a. refl)

  pub flush_refused : ReplyCause reply.Fault from to → Called from.store to.store from.device to.device (λ a. a) (λ _. writes_nothing) → Commanded Flush reply.Fault from to
  unfolding FitsWith array_after writes
  flush_refused cause call = commanded Flush reply.Fault _ _ call (inr refl) cause (λ a. refl) (λ a. refl)

-- what looks at no device
module _ (m : Moment) where
  none_done : Called m.store m.store m.device m.device (λ a. a) (λ _. writes_nothing)
  none_done = called_nothing m.store m.device (λ _. writes_nothing)

  -- a number for the policy, and an idle step: no policy is at work
  pub tune_done : (n : ℕ) → Commanded (Tune n) reply.Done m m
  unfolding FitsWith array_after writes
  tune_done n = commanded m m refl (Tune n) reply.Done _ _ none_done refl tt (λ a. refl) (λ a. refl)

  pub tick_done : Commanded Tick reply.Done m m
  unfolding FitsWith array_after writes
  tick_done = commanded m m refl Tick reply.Done _ _ none_done refl tt (λ a. refl) (λ a. refl)

  -- the numbers of the store
  pub stat_done : Commanded Stat (reply.Stat (stat_in m.store)) m m
  unfolding FitsWith array_after writes
  stat_done = commanded m m refl Stat (reply.Stat (stat_in m.store)) _ _ none_done tt (refl, record { store = refl; device = refl }) (λ a. refl) (λ a. refl)

  -- another policy: there is none
  pub policy_done : (label : ℕ) → Commanded (Policy label) reply.NoPolicy m m
  unfolding FitsWith array_after writes
  policy_done label = commanded m m refl (Policy label) reply.NoPolicy _ _ none_done refl (record { store = refl; device = refl }) (λ a. refl) (λ a. refl)

  -- a bad line does nothing
  pub bad_done : (line : List ℕ) → Asks (rules_of m.store) line bad → CommandDone line reply.Bad m m
  bad_done line asks = record {
    asked = bad;
    calls = none_done.calls;
    asks = asks;
    does = record { fits = refl; cause = record { store = refl; device = refl }; gains = none_done.gains; counted = none_done.counted; shape = refl; pages = refl; falls = omega arith; calm = none_done.calm; over = none_done.over };
  }

-- a result that is a refusal for its range
pub is_range : (r : Result Unit Refusal) (why : Refusal) → r ≡ Err why → r ≡ Err refusal.Range → refusal_reply why ≡ reply.Range
is_range r why e f = let same : why ≡ refusal.Range = cc (sym e ∙ f) in ap refusal_reply same

-- a command that is built was run
pub runs_built : (command one : Command) (r : Reply) (from to : Moment) → command ≡ one → is_built one ≡ true → Commanded one r from to → RunsCommand command r from to
runs_built command one r from to is built done = record {
  run = λ _. subst (λ (c : Command). Commanded c r from to) (sym is) done;
  other = λ off. absurd (cc (sym off ∙ ap is_built is ∙ built));
}

-- another one is bad
pub runs_bad : (command : Command) (m : Moment) → is_built command ≡ false → RunsCommand command reply.Bad m m
runs_bad command m off = record { run = λ on. absurd (cc (sym off ∙ on)); other = λ _. (refl, record { store = refl; device = refl }) }

-- a line that is one command asks for it, where it is built, and for nothing otherwise
pub one_command : (line : List ℕ) (command : Command) (r : Reply) (from to : Moment) → IsCommand line command → ((other : Command) → IsCommand line other → command ≡ other) → RunsCommand command r from to → CommandDone line r from to
one_command line command r from to is only runs = by (is_built command) refl
  where
    by : (b : Bool) → is_built command ≡ b → CommandDone line r from to
    by true on = let h = runs.run on in record { asked = known command; calls = h.calls; asks = (is, on); does = h.does }
    by false off =
        let quiet = runs.other off in
        let asks : Asks (rules_of from.store) line bad = λ o built h. let same : is_built command ≡ is_built o = ap is_built (only o h) in absurd (cc (sym off ∙ same ∙ built)) in
        subst (λ (d : Meaning). CommandDone line r from (at to.store d)) (sym quiet.1.device)
        (subst (λ (v : CoreView). CommandDone line r from (at v from.device)) (sym quiet.1.store)
        (subst (λ (q : Reply). CommandDone line q from from) (sym quiet.0) (bad_done from line asks)))
