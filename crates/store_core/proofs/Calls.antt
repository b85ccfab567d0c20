-- Counts of device calls, and what each of them ended as.
use Rattle.std.proofs.Common.{◌≡◌, ℕ, ◌+◌, ◌<◌, ◌^◌, List, [], ◌∷◌, ◌++◌, Ok, Err, length, min, true, refl, sym, subst, arith, length-append}
use Rattle.page_device.specs.Block.{Block}
use Rattle.page_device.specs.Disk.{DeviceState, state_after}
use Rattle.page_device.specs.Faults.{IsCalm}
use Rattle.page_device.specs.Meaning.{FlushEntry, Meaning, OneCall, WriteEntry}
use Rattle.page_device.specs.Moments.{EachImage, EachMoment}
use Rattle.page_device.specs.declared.device.LogEntry.{LogEntry}
use Rattle.page_device.specs.declared.error.Failed.{Failed}
use Rattle.page_cache.specs.Calls.{after_call}
use Rattle.flush_engine.specs.Steps.{CountsFault}
use Rattle.store_core.specs.Stands.{CountsCalls, EndsDone}

-- none, one, and some after others
pub counts_none : (was now : ℕ) → now ≡ was → CountsCalls 0 was now
counts_none was now is = record { counted = λ few. omega (arith, few, is) }

pub counts_one : (was now : ℕ) → now ≡ after_call was → CountsCalls 1 was now
counts_one was now is = record { counted = λ _. is }

counts_then : (m n a b c : ℕ) → CountsCalls m a b → CountsCalls n b c → CountsCalls (m + n) a c
counts_then m n a b c h k = record {
  counted = λ few. let e : b ≡ min (a + m) 18446744073709551615 = h.counted few in
      let below : b < 2 ^ 64 = omega (arith, e) in
      let f : c ≡ min (b + n) 18446744073709551615 = k.counted below in
      omega (arith, e, f);
}

pub counts_append : (xs ys : List LogEntry) (a b c : ℕ) → CountsCalls (length xs) a b → CountsCalls (length ys) b c → CountsCalls (length (xs ++ ys)) a c
counts_append xs ys a b c h k = subst (λ (n : ℕ). CountsCalls n a c) (sym (length-append xs ys)) (counts_then (length xs) (length ys) a b c h k)

-- no call, and one
pub no_moment : (P : List Block → Type 0) (s : DeviceState) → EachImage P s → EachMoment P s []
unfolding EachMoment
no_moment P s here = here

pub one_moment : (IsEntry : LogEntry → Type 0) (P : List Block → Type 0) (d e : Meaning) (call : OneCall IsEntry d e) → d.tells_pages ≡ true → EachImage P d.state → EachImage P e.state → EachMoment P d.state (call.entry ∷ [])
unfolding EachMoment state_after
one_moment IsEntry P d e call tells before later = (before, subst (EachImage P) (call.state tells) later)

-- a call that failed is a counted fault
pub not_calm : {A : Type 0} (failed : Failed) (d e : Meaning) → CountsFault (Err failed) d e → IsCalm d e → A
not_calm failed d e cause calm = let rose = cause.failed refl calm.few in absurd (omega (arith, rose, calm.same))

pub write_ends : (page : ℕ) (block : Block) (entry : LogEntry) → WriteEntry page block (Ok tt) entry → EndsDone entry
write_ends page block entry is = subst EndsDone (sym is) refl

pub flush_ends : (entry : LogEntry) → FlushEntry (Ok tt) entry → EndsDone entry
flush_ends entry is = subst EndsDone (sym is) refl
