-- What a source of bytes means, and what one call of it does.
use Rattle.std.specs.Prelude.{◌≡◌, ℕ, ◌+◌, ◌<◌, ◌≤◌, ◌^◌, ◌==◌, ◌&&◌, not, if◌then◌else◌, Bool, true, List, [], ◌++◌, length, Result, Ok, Err, refl}
use Rattle.std.proofs.Common.{sym, ◌∙◌, ap, arith, append_assoc, length-append}
use Rattle.page_device.specs.declared.error.Failed.{Failed}
use Rattle.page_device.specs.Counts.{raised}

-- what a source tells of itself
pub record SourceMeaning : Type 0 where
  -- whether it tells what it has left
  pub tells : Bool
  -- the bytes that it has yet to give, where it tells them
  pub left : List ℕ
  pub faults : ℕ
  -- the bytes that it gave, and the calls for a non-empty piece that gave none; each stands still at its end
  pub given : ℕ
  pub ends : ℕ

-- the number of ends after a call that gave so many bytes to a piece of this size
abbrev pub ends_after : ℕ → ℕ → ℕ → ℕ
ends_after ends bytes size = if bytes == 0 && not (size == 0) then raised ends 1 else ends

-- the counts after a call for a piece of so many bytes, by what it answered
abbrev pub source_counted : Result ℕ Failed → ℕ → SourceMeaning → SourceMeaning
source_counted (Ok bytes) size s = record s { given = raised s.given bytes; ends = ends_after s.ends bytes size }
source_counted (Err _) size s = record s { faults = raised s.faults 1 }

-- it gave these bytes
pub record Gives (bytes : List ℕ) (old new : SourceMeaning) : Type 0 where
  pub tells : new.tells ≡ old.tells
  pub left : old.tells ≡ true → old.left ≡ bytes ++ new.left
  pub never_fewer : old.given ≤ new.given
  pub given : old.given < 2 ^ 64 → new.given ≡ raised old.given (length bytes)

-- it is at its end, and has counted that
pub record IsEnd (old new : SourceMeaning) : Type 0 where
  pub nothing_left : old.tells ≡ true → old.left ≡ []
  pub never_fewer : old.ends ≤ new.ends
  pub ends : new.ends ≡ raised old.ends 1

-- nothing changed but, it may be, the count of faults
pub record GivesNothing (old new : SourceMeaning) : Type 0 where
  pub tells : new.tells ≡ old.tells
  pub left : old.tells ≡ true → new.left ≡ old.left
  pub given : new.given ≡ old.given
  pub ends : new.ends ≡ old.ends

-- no byte is given
pub gives_none : (s : SourceMeaning) → Gives [] s s
gives_none s = record { tells = refl; left = λ _. refl; never_fewer = omega arith; given = λ few. omega (arith, few) }

-- one piece after another
pub gives_then : (xs ys : List ℕ) (a b c : SourceMeaning) → Gives xs a b → Gives ys b c → Gives (xs ++ ys) a c
gives_then xs ys a b c h k = record {
  tells = k.tells ∙ h.tells;
  left = λ t. h.left t ∙ ap (λ (l : List ℕ). xs ++ l) (k.left (h.tells ∙ t)) ∙ sym (append_assoc xs ys c.left);
  never_fewer = omega (arith, h.never_fewer, k.never_fewer);
  given = λ few. let first : b.given ≡ raised a.given (length xs) = h.given few in
      let next : c.given ≡ raised b.given (length ys) = k.given (omega (arith, first)) in
      omega (arith, first, next, length-append xs ys);
}

-- a call that failed gave no byte
pub gives_nothing : (old new : SourceMeaning) → GivesNothing old new → Gives [] old new
gives_nothing old new h = record {
  tells = h.tells;
  left = λ t. sym (h.left t);
  never_fewer = omega (arith, h.given);
  given = λ few. omega (arith, few, h.given);
}
