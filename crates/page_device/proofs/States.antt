-- How states and logs go on.
use Rattle.std.proofs.Common.{◌≡◌, ℕ, zero, suc, ◌+◌, ◌-◌, ◌≤◌, List, [], ◌∷◌, ◌++◌, length, replicate, refl, ◌∙◌, ap, slice_set, arith, append_assoc}
use Rattle.std.proofs.lemmas.List.{replicate-append-replicate}
use Rattle.page_device.specs.declared.device.LogEntry.{LogEntry}
use Rattle.page_device.specs.declared.device.LogEntry.TheVariants.{Write, Flush}
use Rattle.page_device.specs.declared.device.End.TheVariants.{Done, Refused}
use Rattle.page_device.specs.Block.{Block}
use Rattle.page_device.specs.Disk.{DeviceState, overlay, newest, written, after, state_after}
use Rattle.page_device.specs.Possible.{newest_written}
use Rattle.page_device.specs.Moments.{state_after-append}
use Rattle.page_device.specs.Memory.{lost_call, entries_of}

-- lost calls change nothing
pub after_lost : (s : DeviceState) (n : ℕ) → state_after s (replicate n lost_call) ≡ s
unfolding state_after after
after_lost s zero = refl
after_lost s (suc n) = after_lost s n

-- one entry more is kept
pub entries_of-last : (xs : List LogEntry) (ns : List ℕ) (entry : LogEntry) (lost : ℕ) → length ns ≡ length xs
    → entries_of (xs ++ entry ∷ []) (ns ++ lost ∷ []) ≡ (entries_of xs ns ++ replicate lost lost_call) ++ entry ∷ []
unfolding entries_of
entries_of-last [] [] entry lost l = refl
entries_of-last [] (n ∷ ns) entry lost l = absurd (omega (arith, l))
entries_of-last (x ∷ xs) [] entry lost l = absurd (omega (arith, l))
entries_of-last (x ∷ xs) (n ∷ ns) entry lost l =
    rw (entries_of-last xs ns entry lost (omega (arith, l))) (simp append_assoc)

-- more lost calls at the end
pub lost_gap : (entries : List LogEntry) (few many : ℕ) → few ≤ many → entries ++ replicate many lost_call ≡ (entries ++ replicate few lost_call) ++ replicate (many - few) lost_call
lost_gap entries few many le =
    let e : few + (many - few) ≡ many = omega arith in
    rw (append_assoc entries (replicate few lost_call) (replicate (many - few) lost_call), replicate-append-replicate few (many - few) lost_call, e)

-- a taken content
pub pages_written : (s : DeviceState) (log : List LogEntry) (page : ℕ) (block : Block) (entry : LogEntry) (pages : List Block)
    → after (state_after s log) entry ≡ written (state_after s log) page block → pages ≡ newest (state_after s log)
    → slice_set pages page block ≡ newest (state_after s (log ++ entry ∷ []))
unfolding state_after
pages_written s log page block entry pages taken is =
    rw (state_after-append s log (entry ∷ []), taken, newest_written (state_after s log) page block, is)

-- lost calls leave the state
pub state_lost : (s : DeviceState) (log : List LogEntry) (n : ℕ) → state_after s (log ++ replicate n lost_call) ≡ state_after s log
state_lost s log n = state_after-append s log (replicate n lost_call) ∙ after_lost (state_after s log) n

-- a barrier leaves the newest contents
pub pages_fixed : (s : DeviceState) (log : List LogEntry) → newest (state_after s (log ++ Flush Done ∷ [])) ≡ newest (state_after s log)
unfolding state_after after overlay
pages_fixed s log = ap newest (state_after-append s log (Flush Done ∷ []))

-- a refused call leaves the state
pub state_refused : (s : DeviceState) (log : List LogEntry) (page : ℕ) (block : Block) → state_after s (log ++ Write page block Refused ∷ []) ≡ state_after s log
unfolding state_after after
state_refused s log page block = state_after-append s log (Write page block Refused ∷ [])
