-- Calls of a device that tells nothing.
use Rattle.std.proofs.Common.{◌≡◌, ℕ, List, inl, refl, Ok, Err, Result}
use Rattle.page_device.specs.declared.device.LogEntry.{LogEntry}
use Rattle.page_device.specs.declared.device.LogEntry.TheVariants.{Write, Flush}
use Rattle.page_device.specs.declared.device.End.TheVariants.{Done, Refused, Taken}
use Rattle.page_device.specs.declared.error.Failed.{Failed}
use Rattle.page_device.specs.Counts.{Rises}
use Rattle.page_device.specs.Meaning.{OneCall, WriteEntry, FlushEntry}
use Rattle.page_device.specs.FileSeen.{file_seen}

quiet : (IsEntry : LogEntry → Type 0) (entry : LogEntry) → IsEntry entry → (p f n q g m : ℕ) → q ≡ p → Rises 1 n m → OneCall IsEntry (file_seen p f n) (file_seen q g m)
quiet IsEntry entry is p f n q g m same counted = record {
  entry = entry;
  is = is;
  counted = counted;
  grows = λ h. absurd (cc);
  log = λ h _. absurd (cc);
  state = λ h. absurd (cc);
  reads = λ h. absurd (cc);
  pages = same;
  kind = record { honest = refl; tells_pages = refl; tells_log = refl; tells_reads = refl };
}

pub quiet_write : (page : ℕ) (block : List ℕ) (result : Result Unit Failed) (p f n q g m : ℕ) → q ≡ p → Rises 1 n m → OneCall (WriteEntry page block result) (file_seen p f n) (file_seen q g m)
quiet_write page block (Ok _) p f n q g m same counted = quiet (WriteEntry page block (Ok tt)) (Write page block Done) refl p f n q g m same counted
quiet_write page block (Err e) p f n q g m same counted = quiet (WriteEntry page block (Err e)) (Write page block Taken) (inl refl) p f n q g m same counted

pub quiet_flush : (result : Result Unit Failed) (p f n q g m : ℕ) → q ≡ p → Rises 1 n m → OneCall (FlushEntry result) (file_seen p f n) (file_seen q g m)
quiet_flush (Ok _) p f n q g m same counted = quiet (FlushEntry (Ok tt)) (Flush Done) refl p f n q g m same counted
quiet_flush (Err e) p f n q g m same counted = quiet (FlushEntry (Err e)) (Flush Refused) refl p f n q g m same counted
