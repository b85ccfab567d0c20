-- The device calls that were made from one moment to another, over whatever device.
use Rattle.std.specs.Prelude.{◌≡◌, ℕ, ◌≤◌, true, List, [], ◌∷◌, ◌++◌, length, refl}
use Rattle.std.proofs.Common.{sym, ◌∙◌, ap, subst, arith, append_assoc, length-append}
use Rattle.page_device.specs.Counts.{Rises, rises_none, rises_then}
use Rattle.std.proofs.lemmas.List.{append-nil}
use Rattle.page_device.specs.declared.device.LogEntry.{LogEntry}
use Rattle.page_device.specs.Block.{Block}
use Rattle.page_device.specs.Disk.{DeviceState, LeftAt, after, state_after}
use Rattle.page_device.specs.Meaning.{Meaning, SameKind, IsCounted, OneCall, OneRead}
use Rattle.page_device.specs.Moments.{EachMoment, each-append, kind_then, state_after-append}

-- these calls were made, and no others
pub record Gains (calls : List LogEntry) (old new : Meaning) : Type 0 where
  pub counted : Rises (length calls) old.calls new.calls
  pub grows : old.tells_log ≡ true → Rises (length calls) (length old.log) (length new.log)
  pub log : old.tells_log ≡ true → IsCounted new → new.log ≡ old.log ++ calls
  pub state : old.tells_pages ≡ true → new.state ≡ state_after old.state calls
  pub kind : SameKind old new

-- a crash after some number of the device calls that were made left this image
pub record IsLeft (old new : Meaning) (image : List Block) : Type 0 where
  pub calls : List LogEntry
  pub log : new.log ≡ old.log ++ calls
  pub k : ℕ
  pub left : LeftAt old.state calls k image

-- the device is of the same kind as before
pub same_kind : (d : Meaning) → SameKind d d
same_kind d = record { honest = refl; tells_pages = refl; tells_log = refl; tells_reads = refl }

-- no call
pub gains_none : (d : Meaning) → Gains [] d d
unfolding state_after
gains_none d = record { counted = rises_none d.calls; grows = λ _. rises_none (length d.log); log = λ _ _. sym (append-nil d.log); state = λ _. refl; kind = same_kind d }

-- one call
pub gains_call : (IsEntry : LogEntry → Type 0) (old new : Meaning) (call : OneCall IsEntry old new) → Gains (call.entry ∷ []) old new
unfolding state_after
gains_call IsEntry old new call = record { counted = call.counted; grows = call.grows; log = call.log; state = call.state; kind = call.kind }

-- a read is none
pub gains_read : (old new : Meaning) → OneRead old new → Gains [] old new
unfolding state_after
gains_read old new read = record { counted = subst (Rises 0 old.calls) (sym read.calls) (rises_none old.calls); grows = λ t. subst (λ (l : List LogEntry). Rises 0 (length old.log) (length l)) (sym (read.log t)) (rises_none (length old.log)); log = λ t _. read.log t ∙ sym (append-nil old.log); state = read.state; kind = read.kind }

-- some calls, and then more
pub gains_then : (xs ys : List LogEntry) (a b c : Meaning) → Gains xs a b → Gains ys b c → Gains (xs ++ ys) a c
gains_then xs ys a b c h k = record {
  counted = subst (λ (n : ℕ). Rises n a.calls c.calls) (sym (length-append xs ys)) (rises_then (length xs) (length ys) a.calls b.calls c.calls h.counted k.counted);
  grows = λ t. subst (λ (n : ℕ). Rises n (length a.log) (length c.log)) (sym (length-append xs ys)) (rises_then (length xs) (length ys) (length a.log) (length b.log) (length c.log) (h.grows t) (k.grows (h.kind.tells_log ∙ t)));
  log = λ t counted. k.log (h.kind.tells_log ∙ t) counted ∙ ap (λ (l : List LogEntry). l ++ ys) (h.log t (omega (arith, counted, (k.grows (h.kind.tells_log ∙ t)).never_falls))) ∙ append_assoc a.log xs ys;
  state = λ t. k.state (h.kind.tells_pages ∙ t) ∙ ap (λ (s : DeviceState). state_after s ys) (h.state t) ∙ sym (state_after-append a.state xs ys);
  kind = kind_then a b c h.kind k.kind;
}

-- moments of some calls, and then of more
pub moments_then : (xs ys : List LogEntry) (a b : Meaning) (P : List Block → Type 0) → a.tells_pages ≡ true → Gains xs a b → EachMoment P a.state xs → EachMoment P b.state ys → EachMoment P a.state (xs ++ ys)
moments_then xs ys a b P tells gains first next = each-append P a.state xs ys first (subst (λ (s : DeviceState). EachMoment P s ys) (gains.state tells) next)
