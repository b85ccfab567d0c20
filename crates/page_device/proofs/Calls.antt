-- One call of a device that tells everything.
use Rattle.std.proofs.Common.{◌≡◌, ℕ, ◌+◌, ◌^◌, ◌<◌, List, [], ◌∷◌, ◌++◌, length, replicate, refl, sym, ◌∙◌, ap, subst, arith, length-append, ⊎_elim, ◌≤◌}
use Rattle.std.proofs.lemmas.Bool.{cases_lt}
use Rattle.page_device.specs.declared.device.End.{End}
use Rattle.page_device.specs.declared.device.LogEntry.{LogEntry}
use Rattle.page_device.specs.declared.device.LogEntry.TheVariants.{Write, Flush}
use Rattle.page_device.specs.Block.{Block}
use Rattle.page_device.specs.Disk.{DeviceState, after, state_after, at_rest}
use Rattle.page_device.specs.Memory.{MemoryView, lost_call, IsQuiet, tells_truth}
use Rattle.page_device.specs.MemorySeen.{memory_seen}
use Rattle.page_device.specs.Counts.{Rises}
use Rattle.page_device.specs.Meaning.{Meaning, OneCall, IsRefused, SameKind}
use Rattle.page_device.specs.Moments.{state_after-append}
use Rattle.page_device.proofs.States.{state_lost}

same_kind : (m n : MemoryView) → n.lies ≡ m.lies → SameKind (memory_seen m) (memory_seen n)
same_kind m n lies = record { honest = ap tells_truth lies; tells_pages = refl; tells_log = refl; tells_reads = refl }

-- a call whose entry is kept
pub kept_call : (IsEntry : LogEntry → Type 0) (m n : MemoryView) (entry : LogEntry) → IsEntry entry → n.start ≡ m.start → n.all ≡ m.all ++ entry ∷ [] → n.reads ≡ m.reads → n.lies ≡ m.lies
    → OneCall IsEntry (memory_seen m) (memory_seen n)
unfolding state_after
kept_call IsEntry m n entry is start all reads lies = record {
  entry = entry;
  is = is;
  counted = one_more;
  grows = λ _. one_more;
  log = λ _ _. all;
  state = λ _. ap (λ (l : List LogEntry). state_after (at_rest n.start) l) all ∙ ap (λ (s : List Block). state_after (at_rest s) (m.all ++ entry ∷ [])) start ∙ state_after-append (at_rest m.start) m.all (entry ∷ []);
  reads = λ _. reads;
  pages = ap length start;
  kind = same_kind m n lies;
}
  where
    one_more : Rises 1 (length m.all) (length n.all)
    one_more = let longer : length n.all ≡ length m.all + 1 = omega (arith, ap length all, length-append m.all (entry ∷ [])) in
        record { never_falls = omega (arith, longer); at_most = omega (arith, longer); counted = λ _. longer }

-- calls for whose entries no memory was found stand as one that is refused
pub lost_calls : (m n : MemoryView) → n.start ≡ m.start → (length n.all + 1 < 2 ^ 64 → n.all ≡ m.all ++ lost_call ∷ []) → length n.all ≤ length m.all + 1 → (k : ℕ) × (n.all ≡ m.all ++ replicate k lost_call) → n.reads ≡ m.reads → n.lies ≡ m.lies
    → OneCall IsRefused (memory_seen m) (memory_seen n)
unfolding after
lost_calls m n start counted one some reads lies = record {
  entry = lost_call;
  is = refl;
  counted = one_more;
  grows = λ _. one_more;
  log = λ _ h. counted h;
  state = λ _. ap (λ (l : List LogEntry). state_after (at_rest n.start) l) some.1 ∙ ap (λ (s : List Block). state_after (at_rest s) (m.all ++ replicate some.0 lost_call)) start ∙ state_lost (at_rest m.start) m.all some.0;
  reads = λ _. reads;
  pages = ap length start;
  kind = same_kind m n lies;
}
  where
    one_more : Rises 1 (length m.all) (length n.all)
    one_more = record {
      never_falls = omega (arith, ap length some.1, length-append m.all (replicate some.0 lost_call));
      at_most = one;
      counted = λ few. ⊎_elim
          (λ room. omega (arith, ap length (counted room), length-append m.all (lost_call ∷ [])))
          (λ full. omega (arith, few, full, one))
          (cases_lt (length n.all + 1) (2 ^ 64));
    }

-- what the entry is may be said with less
pub one_call-weaker : (P Q : LogEntry → Type 0) (old new : Meaning) → ((e : LogEntry) → P e → Q e) → OneCall P old new → OneCall Q old new
one_call-weaker P Q old new f c = record { entry = c.entry; is = f c.entry c.is; counted = c.counted; grows = c.grows; log = c.log; state = c.state; reads = c.reads; pages = c.pages; kind = c.kind }

-- a fault that is counted beside
pub fault_counted : (P : LogEntry → Type 0) (m n o : MemoryView) (faults : ℕ) → o ≡ record n { faults = faults } → OneCall P (memory_seen m) (memory_seen n) → OneCall P (memory_seen m) (memory_seen o)
fault_counted P m n o faults is c = subst (λ (v : MemoryView). OneCall P (memory_seen m) (memory_seen v)) (sym is) (record { entry = c.entry; is = c.is; counted = c.counted; grows = c.grows; log = c.log; state = c.state; reads = c.reads; pages = c.pages; kind = record { honest = c.kind.honest; tells_pages = refl; tells_log = refl; tells_reads = refl } })

-- an entry that ends refused is quiet
pub refused_is_quiet : (entry : LogEntry) → IsRefused entry → IsQuiet entry
refused_is_quiet (Write page block end) h = h
refused_is_quiet (Flush end) h = tt

-- and leaves the state
pub refused_leaves : (s : DeviceState) (entry : LogEntry) → IsRefused entry → after s entry ≡ s
unfolding after
refused_leaves s (Write page block end) h = ap (λ (e : End). after s (Write page block e)) h
refused_leaves s (Flush end) h = ap (λ (e : End). after s (Flush e)) h
