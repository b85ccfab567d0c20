-- The kept entries among the first calls of a log.
use Rattle.std.proofs.Common.{◌≡◌, ℕ, zero, suc, ◌-◌, ◌+◌, ◌<◌, ◌≤◌, nat_le, cond, Bool, true, false, List, [], ◌∷◌, ◌++◌, length, take, drop, get_or, replicate, refl, sym, ◌∙◌, ap, arith, append_assoc}
use Rattle.std.proofs.lemmas.Bool.{le-leb}
use Rattle.std.proofs.lemmas.Bool.Decides.{nat_tests}
use Rattle.std.proofs.Math.ListN.{drop_of_length-le}
use Rattle.std.proofs.Math.Seq.{drop-cons}
use Rattle.page_device.specs.declared.device.LogEntry.{LogEntry}
use Rattle.page_device.specs.Disk.{DeviceState, after, state_after}
use Rattle.page_device.specs.Memory.{lost_call, entries_of, kept_at}

-- some of the lost calls
some_lost : (s : DeviceState) (n lost : ℕ) (rest : List LogEntry) → n ≤ lost → state_after s (take n (replicate lost lost_call ++ rest)) ≡ s
unfolding state_after after
some_lost s zero lost rest le = refl
some_lost s (suc n) zero rest le = absurd (omega arith)
some_lost s (suc n) (suc lost) rest le = some_lost s n lost rest (omega arith)

-- all of them, and the entry behind
past_lost : (s : DeviceState) (n lost : ℕ) (entry : LogEntry) (rest : List LogEntry) → lost < n → state_after s (take n (replicate lost lost_call ++ entry ∷ rest)) ≡ state_after (after s entry) (take (n - lost - 1) rest)
unfolding state_after after
past_lost s zero lost entry rest lt = absurd (omega arith)
past_lost s (suc n) zero entry rest lt = ap (λ (k : ℕ). state_after (after s entry) (take k rest)) (let e : n ≡ suc n - 0 - 1 = omega arith in e)
past_lost s (suc n) (suc lost) entry rest lt = past_lost s n lost entry rest (omega arith) ∙ ap (λ (k : ℕ). state_after (after s entry) (take k rest)) (let e : n - lost - 1 ≡ suc n - suc lost - 1 = omega arith in e)

only_lost : (s : DeviceState) (n lost : ℕ) → state_after s (take n (replicate lost lost_call)) ≡ s
unfolding state_after after
only_lost s zero lost = refl
only_lost s (suc n) zero = refl
only_lost s (suc n) (suc lost) = only_lost s n lost

-- the calls end before the first entry, or go on behind it
by_gap : (e : LogEntry) (es all : List LogEntry) (gap lost at kept : ℕ) (s : DeviceState) (before : Bool) → nat_le at gap ≡ before
    → state_after (after s e) (take kept es) ≡ state_after (after s e) (take (at - gap - 1) (all ++ replicate lost lost_call))
    → state_after s (take (cond before 0 (suc kept)) (e ∷ es)) ≡ state_after s (take at ((replicate gap lost_call ++ e ∷ all) ++ replicate lost lost_call))
unfolding state_after
by_gap e es all gap lost at kept s true is rest =
    sym (ap (λ (l : List LogEntry). state_after s (take at l)) (append_assoc (replicate gap lost_call) (e ∷ all) (replicate lost lost_call))
    ∙ some_lost s at gap (e ∷ all ++ replicate lost lost_call) (grind (arith, nat_tests)))
by_gap e es all gap lost at kept s false is rest =
    rest ∙ sym (ap (λ (l : List LogEntry). state_after s (take at l)) (append_assoc (replicate gap lost_call) (e ∷ all) (replicate lost lost_call))
    ∙ past_lost s at gap e (all ++ replicate lost lost_call) (grind (arith, nat_tests)))

-- the kept entries among the first calls make what the first calls make
pub kept_make : (entries : List LogEntry) (lost_before : List ℕ) (lost at : ℕ) (s : DeviceState) → length lost_before ≡ length entries
    → state_after s (take (kept_at lost_before at) entries) ≡ state_after s (take at (entries_of entries lost_before ++ replicate lost lost_call))
unfolding entries_of kept_at state_after
kept_make [] [] lost at s l = sym (only_lost s at lost)
kept_make [] (n ∷ ns) lost at s l = absurd (omega (arith, l))
kept_make (e ∷ es) [] lost at s l = absurd (omega (arith, l))
kept_make (e ∷ es) (n ∷ ns) lost at s l =
    by_gap e es (entries_of es ns) n lost at (kept_at ns (at - n - 1)) s (nat_le at n) refl
    (kept_make es ns lost (at - n - 1) (after s e) (omega (arith, l)))

pub kept_within : (lost_before : List ℕ) (at : ℕ) → kept_at lost_before at ≤ length lost_before
unfolding kept_at
kept_within [] at = omega arith
kept_within (n ∷ ns) at = by (nat_le at n) (kept_within ns (at - n - 1))
  where
    by : (b : Bool) → kept_at ns (at - n - 1) ≤ length ns → cond b 0 (suc (kept_at ns (at - n - 1))) ≤ suc (length ns)
    by true le = omega arith
    by false le = omega (arith, le)

-- the loop over these numbers goes on, stops and ends
kept_next : (lost_before : List ℕ) (i left : ℕ) → i < length lost_before
    → kept_at (drop i lost_before) left ≡ cond (nat_le left (get_or lost_before i 0)) 0 (suc (kept_at (drop (suc i) lost_before) (left - get_or lost_before i 0 - 1)))
unfolding kept_at
kept_next lost_before i left lt = ap (λ (l : List ℕ). kept_at l left) (drop-cons lost_before i 0 lt)

not_le : (a b : ℕ) → b < a → nat_le a b ≡ false
not_le a b lt = grind (arith, nat_tests)

cond_true : (b : Bool) (m n : ℕ) → b ≡ true → cond b m n ≡ m
cond_true true m n is = refl
cond_true false m n is = cc

cond_false : (b : Bool) (m n : ℕ) → b ≡ false → cond b m n ≡ n
cond_false true m n is = cc
cond_false false m n is = refl

pub kept_stops : (lost_before : List ℕ) (i left total : ℕ) → i < length lost_before → left ≤ get_or lost_before i 0 → i + kept_at (drop i lost_before) left ≡ total → i ≡ total
kept_stops lost_before i left total lt le h =
    let none = kept_next lost_before i left lt ∙ cond_true (nat_le left (get_or lost_before i 0)) 0 (suc (kept_at (drop (suc i) lost_before) (left - get_or lost_before i 0 - 1))) (le-leb left (get_or lost_before i 0) le) in
    omega (arith, none, h)

pub kept_goes : (lost_before : List ℕ) (i left total : ℕ) → i < length lost_before → get_or lost_before i 0 < left → i + kept_at (drop i lost_before) left ≡ total
    → i + 1 + kept_at (drop (i + 1) lost_before) (left - get_or lost_before i 0 - 1) ≡ total
kept_goes lost_before i left total lt more h =
    let some = kept_next lost_before i left lt ∙ cond_false (nat_le left (get_or lost_before i 0)) 0 (suc (kept_at (drop (suc i) lost_before) (left - get_or lost_before i 0 - 1))) (not_le left (get_or lost_before i 0) more) in
    let same : kept_at (drop (i + 1) lost_before) (left - get_or lost_before i 0 - 1) ≡ kept_at (drop (suc i) lost_before) (left - get_or lost_before i 0 - 1) =
    ap (λ (n : ℕ). kept_at (drop n lost_before) (left - get_or lost_before i 0 - 1)) (let e : i + 1 ≡ suc i = omega arith in e) in
    omega (arith, some, same, h)

kept_none : (left : ℕ) → kept_at [] left ≡ 0
unfolding kept_at
kept_none left = refl

pub kept_ends : (lost_before : List ℕ) (i left total : ℕ) → length lost_before ≤ i → i ≤ length lost_before → i + kept_at (drop i lost_before) left ≡ total → length lost_before ≡ total
kept_ends lost_before i left total le ge h =
    let none = ap (λ (l : List ℕ). kept_at l left) (drop_of_length-le lost_before le) ∙ kept_none left in
    omega (arith, none, h)
