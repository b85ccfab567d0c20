-- What a crash at any moment of a call, or of many, may leave.
use Rattle.std.specs.Prelude.{◌≡◌, ℕ, zero, suc, ◌+◌, true, List, [], ◌∷◌, ◌++◌, length, take, refl}
use Rattle.std.proofs.Common.{sym, ◌∙◌, ap, subst, arith, append_assoc, length-append}
use Rattle.std.proofs.lemmas.List.{append-nil}
use Rattle.page_device.specs.declared.device.LogEntry.{LogEntry}
use Rattle.page_device.specs.Block.{Block}
use Rattle.page_device.specs.Disk.{DeviceState, IsImage, after, state_after}
use Rattle.page_device.specs.Meaning.{Meaning, SameKind, IsCounted, OneCall, OneRead}
use Rattle.page_device.specs.Counts.{Rises, rises_none, rises_then}

-- each image of the state has P
abbrev pub EachImage : (List Block → Type 0) → DeviceState → Type 0
EachImage P s = (image : List Block) → IsImage s image → P image

-- each image at each moment of these entries has P
unfoldable pub EachMoment : (List Block → Type 0) → DeviceState → List LogEntry → Type 0
EachMoment P s [] = EachImage P s
EachMoment P s (call ∷ calls) = EachImage P s × EachMoment P (after s call) calls

-- A crash at any moment from old to new leaves an image that has P.
pub record Leaves (old new : Meaning) (P : List Block → Type 0) : Type 0 where
  pub calls : List LogEntry
  pub grows : old.tells_log ≡ true → Rises (length calls) (length old.log) (length new.log)
  pub log : old.tells_log ≡ true → IsCounted new → new.log ≡ old.log ++ calls
  pub state : old.tells_pages ≡ true → new.state ≡ state_after old.state calls
  pub each : EachMoment P old.state calls
  pub kind : SameKind old new

pub state_after-append : (s : DeviceState) (xs ys : List LogEntry) → state_after s (xs ++ ys) ≡ state_after (state_after s xs) ys
unfolding state_after
state_after-append s [] ys = refl
state_after-append s (x ∷ xs) ys = state_after-append (after s x) xs ys

-- moments one after another
pub each-append : (P : List Block → Type 0) (s : DeviceState) (xs ys : List LogEntry) → EachMoment P s xs → EachMoment P (state_after s xs) ys → EachMoment P s (xs ++ ys)
unfolding EachMoment state_after
each-append P s [] ys h t = t
each-append P s (x ∷ xs) ys h t = (h.0, each-append P (after s x) xs ys h.1 t)

-- P may be said with less
pub each-weaker : (P Q : List Block → Type 0) (s : DeviceState) (xs : List LogEntry) → ((i : List Block) → P i → Q i) → EachMoment P s xs → EachMoment Q s xs
unfolding EachMoment
each-weaker P Q s [] f h = λ i is. f i (h i is)
each-weaker P Q s (x ∷ xs) f h = (λ i is. f i (h.0 i is), each-weaker P Q (after s x) xs f h.1)

-- the same, for each number of entries
pub each_at : (P : List Block → Type 0) (s : DeviceState) (xs : List LogEntry) (k : ℕ) → EachMoment P s xs → EachImage P (state_after s (take k xs))
unfolding EachMoment state_after
each_at P s [] zero h = h
each_at P s [] (suc k) h = h
each_at P s (x ∷ xs) zero h = h.0
each_at P s (x ∷ xs) (suc k) h = each_at P (after s x) xs k h.1

-- one after another
pub kind_then : (a b c : Meaning) → SameKind a b → SameKind b c → SameKind a c
kind_then a b c h k = record { honest = k.honest ∙ h.honest; tells_pages = k.tells_pages ∙ h.tells_pages; tells_log = k.tells_log ∙ h.tells_log; tells_reads = k.tells_reads ∙ h.tells_reads }

-- before the first call
pub leaves_start : (old : Meaning) (P : List Block → Type 0) → EachImage P old.state → Leaves old old P
unfolding EachMoment state_after
leaves_start old P here = record {
  calls = [];
  grows = λ _. rises_none (length old.log);
  log = λ _ _. sym (append-nil old.log);
  state = λ _. refl;
  each = here;
  kind = record { honest = refl; tells_pages = refl; tells_log = refl; tells_reads = refl };
}

-- one part after another
pub leaves_then : (old mid new : Meaning) (P Q : List Block → Type 0) → old.tells_pages ≡ true → Leaves old mid P → ((i : List Block) → Q i → P i) → Leaves mid new Q → Leaves old new P
leaves_then old mid new P Q tells so_far f next = record {
  calls = so_far.calls ++ next.calls;
  grows = λ t. subst (λ (n : ℕ). Rises n (length old.log) (length new.log)) (sym (length-append so_far.calls next.calls)) (rises_then (length so_far.calls) (length next.calls) _ _ _ (so_far.grows t) (next.grows (so_far.kind.tells_log ∙ t)));
  log = λ t counted. next.log (so_far.kind.tells_log ∙ t) counted ∙ ap (λ (l : List LogEntry). l ++ next.calls) (so_far.log t (omega (arith, counted, (next.grows (so_far.kind.tells_log ∙ t)).never_falls))) ∙ append_assoc old.log so_far.calls next.calls;
  state = λ t. next.state (so_far.kind.tells_pages ∙ t) ∙ ap (λ (s : DeviceState). state_after s next.calls) (so_far.state t) ∙ sym (state_after-append old.state so_far.calls next.calls);
  each = each-append P old.state so_far.calls next.calls so_far.each (subst (λ (s : DeviceState). EachMoment P s next.calls) (so_far.state tells) (each-weaker Q P mid.state next.calls f next.each));
  kind = kind_then old mid new so_far.kind next.kind;
}

-- one call alone
pub leaves_call : (IsEntry : LogEntry → Type 0) (old new : Meaning) (P : List Block → Type 0) → old.tells_pages ≡ true → OneCall IsEntry old new → EachImage P old.state → EachImage P new.state → Leaves old new P
unfolding EachMoment state_after
leaves_call IsEntry old new P tells call before later = record {
  calls = call.entry ∷ [];
  grows = call.grows;
  log = call.log;
  state = call.state;
  each = (before, subst (EachImage P) (call.state tells) later);
  kind = call.kind;
}

-- less may be said
pub leaves_weaker : (old new : Meaning) (P Q : List Block → Type 0) → ((i : List Block) → Q i → P i) → Leaves old new Q → Leaves old new P
leaves_weaker old new P Q f l = record { calls = l.calls; grows = l.grows; log = l.log; state = l.state; each = each-weaker Q P old.state l.calls f l.each; kind = l.kind }

-- how many calls these have
pub length-leaves_start : (old : Meaning) (P : List Block → Type 0) (here : EachImage P old.state) → length (leaves_start old P here).calls ≡ 0
unfolding leaves_start
length-leaves_start old P here = refl

pub length-leaves_call : (IsEntry : LogEntry → Type 0) (old new : Meaning) (P : List Block → Type 0) (tells : old.tells_pages ≡ true) (call : OneCall IsEntry old new) (before : EachImage P old.state) (later : EachImage P new.state)
    → length (leaves_call IsEntry old new P tells call before later).calls ≡ 1
unfolding leaves_call
length-leaves_call IsEntry old new P tells call before later = refl

pub length-leaves_then : (old mid new : Meaning) (P Q : List Block → Type 0) (tells : old.tells_pages ≡ true) (so_far : Leaves old mid P) (f : (i : List Block) → Q i → P i) (next : Leaves mid new Q)
    → length (leaves_then old mid new P Q tells so_far f next).calls ≡ length so_far.calls + length next.calls
unfolding leaves_then
length-leaves_then old mid new P Q tells so_far f next = length-append so_far.calls next.calls

pub length-leaves_weaker : (old new : Meaning) (P Q : List Block → Type 0) (f : (i : List Block) → Q i → P i) (l : Leaves old new Q) → length (leaves_weaker old new P Q f l).calls ≡ length l.calls
unfolding leaves_weaker
length-leaves_weaker old new P Q f l = refl

-- a read alone
pub leaves_read : (old new : Meaning) (P : List Block → Type 0) → OneRead old new → EachImage P old.state → Leaves old new P
unfolding EachMoment state_after
leaves_read old new P read here = record {
  calls = [];
  grows = λ t. subst (λ (l : List LogEntry). Rises 0 (length old.log) (length l)) (sym (read.log t)) (rises_none (length old.log));
  log = λ t _. read.log t ∙ sym (append-nil old.log);
  state = read.state;
  each = here;
  kind = read.kind;
}

pub length-leaves_read : (old new : Meaning) (P : List Block → Type 0) (read : OneRead old new) (here : EachImage P old.state) → length (leaves_read old new P read here).calls ≡ 0
unfolding leaves_read
length-leaves_read old new P read here = refl
