-- What is known of the calls of formatting over whatever device.
use Rattle.std.proofs.Common.{List, ◌≡◌, ◌≤◌, ℕ, zero, suc, true, [], ◌∷◌, ◌++◌, refl, sym, ◌∙◌, ap, subst, arith, Result, Ok, Err}
use Rattle.page_device.specs.declared.error.Failed.{Failed}
use Rattle.page_device.specs.declared.device.End.TheVariants.{Done}
use Rattle.page_device.specs.declared.device.LogEntry.{LogEntry}
use Rattle.page_device.specs.declared.device.LogEntry.TheVariants.{Write, Flush}
use Rattle.page_device.specs.Block.{Block, zero_block}
use Rattle.page_device.specs.Gains.{Gains, gains_none, gains_call, gains_then}
use Rattle.page_device.specs.Meaning.{Meaning, OneCall, WriteEntry, FlushEntry}
use Rattle.dedup_writer.specs.Put.{Puts, PutsPage, refused, flushed}
use Rattle.page_layout.specs.Shape.{ShapeView, first_data_page, told_shape, IsSuperblock}
use Rattle.mount_reader.specs.Format.{OnlyCalls, MakesCalls, AreFormat, zeros_before, put_calls}

pub calls_none : (d : Meaning) → OnlyCalls [] d d
calls_none d = record { gains = gains_none d; reads = λ _. refl; pages = refl }

pub calls_one : (IsEntry : LogEntry → Type 0) (old new : Meaning) (call : OneCall IsEntry old new) → OnlyCalls (call.entry ∷ []) old new
calls_one IsEntry old new call = record { gains = gains_call IsEntry old new call; reads = call.reads; pages = call.pages }

-- a call of which the entry is known
pub calls_this : (IsEntry : LogEntry → Type 0) (entry : LogEntry) (old new : Meaning) (call : OneCall IsEntry old new) → call.entry ≡ entry → OnlyCalls (entry ∷ []) old new
calls_this IsEntry entry old new call is = subst (λ (e : LogEntry). OnlyCalls (e ∷ []) old new) is (calls_one IsEntry old new call)

pub calls_then : (xs ys : List LogEntry) (a b c : Meaning) → OnlyCalls xs a b → OnlyCalls ys b c → OnlyCalls (xs ++ ys) a c
calls_then xs ys a b c one two = record {
  gains = gains_then xs ys a b c one.gains two.gains;
  reads = λ tells. two.reads (one.gains.kind.tells_reads ∙ tells) ∙ one.reads tells;
  pages = two.pages ∙ one.pages;
}

-- zeros written to one page more
pub zeros_more : (k : ℕ) → 1 ≤ k → zeros_before (suc k) ≡ zeros_before k ++ Write k zero_block Done ∷ []
unfolding zeros_before
zeros_more zero le = absurd (omega (arith, le))
zeros_more (suc n) le = refl

-- a page that was put
module _ (page : ℕ) (block : Block) (old new : Meaning) where
  pub put_makes : (result : Result Unit Failed) → PutsPage page block result old new → MakesCalls (λ (calls : List LogEntry). calls ≡ put_calls page block) result old new
  put_makes result p = by p.puts
    where
      by : {made : List LogEntry} → Puts page block result old new made → MakesCalls (λ (calls : List LogEntry). calls ≡ put_calls page block) result old new
      by (refused r) = record { calls = _; only = calls_one _ old new r.write; done = λ ok. absurd (cc (sym ok ∙ r.answer)) }
      by (flushed f) = record {
        calls = _;
        only = calls_then (f.write.entry ∷ []) (f.flush.entry ∷ []) old f.mid new (calls_one _ old f.mid f.write) (calls_one _ f.mid new f.flush);
        done = λ ok.
            let last = subst (λ (r : Result Unit Failed). FlushEntry r f.flush.entry) ok f.flush.is in
            ap (λ (e : LogEntry). e ∷ f.flush.entry ∷ []) f.write.is ∙ ap (λ (e : LogEntry). Write page block Done ∷ e ∷ []) last;
      }

-- calls that ended at a failure
pub stopped : (Are : List LogEntry → Type 0) (failed : Failed) (calls : List LogEntry) (a b : Meaning) → OnlyCalls calls a b → MakesCalls Are (Err failed) a b
stopped Are failed calls a b only = record { calls = calls; only = only; done = λ ok. absurd (cc ok) }

-- the calls of a formatting, as far as it came: the page of zeros put, the tables cleared, a barrier, and the superblock put
module _ (shape : ShapeView) (d0 d1 : Meaning) (first : Result Unit Failed) (puts : PutsPage 0 zero_block first d0 d1) where
  pub first_stopped : (failed : Failed) → MakesCalls (AreFormat shape) (Err failed) d0 d1
  first_stopped failed = let one = put_makes 0 zero_block d0 d1 first puts in stopped _ failed one.calls d0 d1 one.only

  module _ (d2 : Meaning) (second : Result Unit Failed) (clears : MakesCalls (λ (calls : List LogEntry). calls ≡ zeros_before (first_data_page shape)) second d1 d2) where
    pub second_stopped : (failed : Failed) → MakesCalls (AreFormat shape) (Err failed) d0 d2
    second_stopped failed = let one = put_makes 0 zero_block d0 d1 first puts in stopped _ failed (one.calls ++ clears.calls) d0 d2 (calls_then one.calls clears.calls d0 d1 d2 one.only clears.only)

    module _ (d3 : Meaning) (third : Result Unit Failed) (call : OneCall (FlushEntry third) d2 d3) where
      abbrev front : List LogEntry
      front = ((put_makes 0 zero_block d0 d1 first puts).calls ++ clears.calls) ++ call.entry ∷ []

      front_only : OnlyCalls front d0 d3
      front_only = let one = put_makes 0 zero_block d0 d1 first puts in
          calls_then (one.calls ++ clears.calls) (call.entry ∷ []) d0 d2 d3 (calls_then one.calls clears.calls d0 d1 d2 one.only clears.only) (calls_one _ d2 d3 call)

      pub third_stopped : (failed : Failed) → MakesCalls (AreFormat shape) (Err failed) d0 d3
      third_stopped failed = stopped _ failed front d0 d3 front_only

      pub format_made : first ≡ Ok tt → second ≡ Ok tt → third ≡ Ok tt → (superblock : Block) → IsSuperblock superblock → told_shape superblock ≡ shape
          → (d4 : Meaning) (fourth : Result Unit Failed) → PutsPage 0 superblock fourth d3 d4 → MakesCalls (AreFormat shape) fourth d0 d4
      format_made first_ok second_ok third_ok superblock is tells d4 fourth last_puts =
          let one = put_makes 0 zero_block d0 d1 first puts in
          let last = put_makes 0 superblock d3 d4 fourth last_puts in
          let flush = subst (λ (r : Result Unit Failed). FlushEntry r call.entry) third_ok call.is in
          record {
            calls = front ++ last.calls;
            only = calls_then front last.calls d0 d3 d4 front_only last.only;
            done = λ ok. record {
              superblock = superblock;
              is = is;
              tells = tells;
              calls_are = ap (λ (l : List LogEntry). ((l ++ clears.calls) ++ call.entry ∷ []) ++ last.calls) (one.done first_ok)
                  ∙ ap (λ (l : List LogEntry). ((put_calls 0 zero_block ++ l) ++ call.entry ∷ []) ++ last.calls) (clears.done second_ok)
                  ∙ ap (λ (e : LogEntry). ((put_calls 0 zero_block ++ zeros_before (first_data_page shape)) ++ e ∷ []) ++ last.calls) flush
                  ∙ ap (λ (l : List LogEntry). ((put_calls 0 zero_block ++ zeros_before (first_data_page shape)) ++ Flush Done ∷ []) ++ l) (last.done ok);
            };
          }
