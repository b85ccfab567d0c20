-- What the log of a device in memory shows of one call, and that nothing else of it changed.
use Rattle.std.proofs.Common.{◌≡◌, ℕ, List, inl, inr, ⊎_elim, refl, sym, ap, subst, Result, Ok, Err, IsErr}
use Rattle.page_device.specs.declared.device.LogEntry.{LogEntry}
use Rattle.page_device.specs.declared.error.Failed.{Failed}
use Rattle.page_device.specs.Block.{Block}
use Rattle.page_device.specs.Meaning.{IsRefused, WriteEntry, FlushEntry}
use Rattle.page_device.specs.Memory.{MemoryView, ShowsCall, with_entry}

-- an entry that is kept
pub shows_entry : (IsEntry : LogEntry → Type 0) (m n : MemoryView) (entry : LogEntry) → IsEntry entry → n ≡ with_entry m entry → ShowsCall IsEntry m n
shows_entry IsEntry m n entry is e = record {
  frame = subst (λ (v : MemoryView). v ≡ record m { all = v.all; kept = v.kept; spare = v.spare; calls = v.calls; faults = v.faults }) (sym e) refl;
  kept = inr (entry, (is, (ap (λ (v : MemoryView). v.kept) e, ap (λ (v : MemoryView). v.all) e)));
}

-- and one for which no memory was found
pub shows_lost : (IsEntry : LogEntry → Type 0) (m n : MemoryView) (all : List LogEntry) → n ≡ record m { all = all } → m.spare ≡ 0 → ShowsCall IsEntry m n
shows_lost IsEntry m n all e none = record {
  frame = subst (λ (v : MemoryView). v ≡ record m { all = v.all; kept = v.kept; spare = v.spare; calls = v.calls; faults = v.faults }) (sym e) refl;
  kept = inl (ap (λ (v : MemoryView). v.kept) e, none);
}

-- a fault that is counted behind
pub shows_fault : (IsEntry : LogEntry → Type 0) (m n o : MemoryView) (faults : ℕ) → o ≡ record n { faults = faults } → ShowsCall IsEntry m n → ShowsCall IsEntry m o
shows_fault IsEntry m n o faults is shown = subst (ShowsCall IsEntry m) (sym is) (record { frame = ap (λ (v : MemoryView). let w : MemoryView = record v { faults = faults } in w) shown.frame; kept = shown.kept })

-- and the call that is counted before
pub shows_planned : (IsEntry : LogEntry → Type 0) (m p n : MemoryView) (calls : ℕ) → p ≡ record m { calls = calls } → ShowsCall IsEntry p n → ShowsCall IsEntry m n
shows_planned IsEntry m p n calls is shown =
    let at : ShowsCall IsEntry (record m { calls = calls }) n = subst (λ (v : MemoryView). ShowsCall IsEntry v n) is shown in
    record { frame = at.frame; kept = at.kept }

-- from where it was not changed yet
pub shows_from : (IsEntry : LogEntry → Type 0) (m p n : MemoryView) → p ≡ m → ShowsCall IsEntry p n → ShowsCall IsEntry m n
shows_from IsEntry m p n is shown = subst (λ (v : MemoryView). ShowsCall IsEntry v n) is shown

-- what the entry is may be said with less
pub shows_weaker : (P Q : LogEntry → Type 0) (m n : MemoryView) → ((e : LogEntry) → P e → Q e) → ShowsCall P m n → ShowsCall Q m n
shows_weaker P Q m n f shown = record {
  frame = shown.frame;
  kept = ⊎_elim (λ lost. inl lost) (λ kept. inr (kept.0, (f kept.0 kept.1.0, kept.1.1))) shown.kept;
}

-- a refused entry is one of a write, or of a barrier, that failed
pub refused_write : (page : ℕ) (block : Block) (result : Result Unit Failed) → IsErr result → (e : LogEntry) → IsRefused e → WriteEntry page block result e
refused_write page block (Ok _) err e is = absurd cc
refused_write page block (Err _) err e is = inr is

pub refused_flush : (result : Result Unit Failed) → IsErr result → (e : LogEntry) → IsRefused e → FlushEntry result e
refused_flush (Ok _) err e is = absurd cc
refused_flush (Err _) err e is = is
