-- Runs of turns, and what a crash after k device calls leaves.
use Rattle.std.specs.Prelude.{◌≡◌, ℕ, zero, suc, ◌+◌, ◌-◌, ◌<◌, ◌≤◌, Bool, true, false, nat_le, cond, List, [], ◌∷◌, ◌++◌, length, take, Option, Some, None, refl}
use Rattle.std.proofs.Common.{sym, ◌∙◌, ap, subst, arith}
use Rattle.std.proofs.lemmas.Bool.Decides.{nat_tests}
use Rattle.std.proofs.lemmas.List.{take-append-le}
use Rattle.std.proofs.Math.Seq.{take-append-add}
use Rattle.page_device.specs.declared.device.LogEntry.{LogEntry}
use Rattle.page_device.specs.Block.{Block}
use Rattle.page_device.specs.Disk.{DeviceState, state_after}
use Rattle.page_device.specs.Moments.{EachImage, EachMoment, each_at, state_after-append}

module _ {A T : Type 0} (calls_of : T → List LogEntry) (next : A → T → A) (P : A → Option T → List Block → Type 0) where
  -- all device calls of these turns
  unfoldable pub all_calls : List T → List LogEntry
  all_calls [] = []
  all_calls (t ∷ ts) = calls_of t ++ all_calls ts

  -- what is kept after these turns
  unfoldable pub after_turns : A → List T → A
  after_turns a [] = a
  after_turns a (t ∷ ts) = after_turns (next a t) ts

  -- within each turn a crash leaves what was allowed before it, or what it writes
  unfoldable pub Runs : A → DeviceState → List T → Type 0
  Runs a s [] = EachImage (P a None) s
  Runs a s (t ∷ ts) = EachMoment (P a (Some t)) s (calls_of t) × Runs (next a t) (state_after s (calls_of t)) ts

  -- how many turns had ended after k calls
  unfoldable pub ended : ℕ → List T → ℕ
  ended k [] = 0
  ended k (t ∷ ts) = cond (nat_le (length (calls_of t)) k) (suc (ended (k - length (calls_of t)) ts)) 0

  -- the turn at work then
  unfoldable pub at_work : ℕ → List T → Option T
  at_work k [] = None
  at_work k (t ∷ ts) = cond (nat_le (length (calls_of t)) k) (at_work (k - length (calls_of t)) ts) (Some t)

  none_taken : (k : ℕ) → [] ≡ take k (all_calls [])
  unfolding all_calls
  none_taken zero = refl
  none_taken (suc k) = refl

  -- a moment of the first turn, or of those behind
  first_part : (xs ys : List LogEntry) (k : ℕ) → k < length xs → take k (xs ++ ys) ≡ take k xs
  first_part xs ys k lt = take-append-le k xs ys (omega arith)

  later_part : (s : DeviceState) (xs ys : List LogEntry) (k : ℕ) → length xs ≤ k → state_after s (take k (xs ++ ys)) ≡ state_after (state_after s xs) (take (k - length xs) ys)
  later_part s xs ys k le = ap (λ (n : ℕ). state_after s (take n (xs ++ ys))) (let e : k ≡ length xs + (k - length xs) = omega arith in e) ∙ ap (state_after s) (take-append-add xs ys (k - length xs)) ∙ state_after-append s xs (take (k - length xs) ys)

  -- after k calls
  pub at_moment : (a : A) (s : DeviceState) (ts : List T) (k : ℕ) → Runs a s ts → EachImage (P (after_turns a (take (ended k ts) ts)) (at_work k ts)) (state_after s (take k (all_calls ts)))
  unfolding all_calls after_turns Runs ended at_work state_after
  at_moment a s [] k r = subst (λ (l : List LogEntry). EachImage (P (after_turns a (take 0 (no_turn))) None) (state_after s l)) (none_taken k) r
    where
      no_turn : List T
      no_turn = []
  at_moment a s (t ∷ ts) k r = by (nat_le (length (calls_of t)) k) refl (at_moment (next a t) (state_after s (calls_of t)) ts (k - length (calls_of t)) r.1)
    where
      by : (b : Bool) → nat_le (length (calls_of t)) k ≡ b
          → EachImage (P (after_turns (next a t) (take (ended (k - length (calls_of t)) ts) ts)) (at_work (k - length (calls_of t)) ts)) (state_after (state_after s (calls_of t)) (take (k - length (calls_of t)) (all_calls ts)))
          → EachImage (P (after_turns a (take (cond b (suc (ended (k - length (calls_of t)) ts)) 0) (t ∷ ts))) (cond b (at_work (k - length (calls_of t)) ts) (Some t))) (state_after s (take k (calls_of t ++ all_calls ts)))
      by true e later = subst (EachImage (P (after_turns (next a t) (take (ended (k - length (calls_of t)) ts) ts)) (at_work (k - length (calls_of t)) ts))) (sym (later_part s (calls_of t) (all_calls ts) k (grind (arith, nat_tests)))) later
      by false e later = subst (λ (l : List LogEntry). EachImage (P a (Some t)) (state_after s l)) (sym (first_part (calls_of t) (all_calls ts) k (grind (arith, nat_tests))))
          (each_at (P a (Some t)) s (calls_of t) k r.0)
