-- What a sink of bytes means, and what one call of it does.
use Rattle.std.specs.Prelude.{◌≡◌, ℕ, ◌+◌, Bool, true, List, [], ◌++◌, take, drop, Result, Ok, Err, refl}
use Rattle.std.proofs.Common.{sym, ◌∙◌, ap, subst, append_assoc}
use Rattle.page_device.specs.declared.error.Failed.{Failed}
use Rattle.page_device.specs.Counts.{raised}
use Rattle.std.proofs.lemmas.List.{append-nil, take-append-drop}
use Rattle.std.proofs.Math.Seq.{take-add}

-- what a sink tells of itself
pub record SinkMeaning : Type 0 where
  -- whether it tells what it holds
  pub tells : Bool
  -- the bytes that it took, where it tells them
  pub held : List ℕ
  pub faults : ℕ

-- the count of faults after a call, by what it answered
abbrev pub sink_counted : Result ℕ Failed → SinkMeaning → SinkMeaning
sink_counted (Ok _) s = s
sink_counted (Err _) s = record s { faults = raised s.faults 1 }

-- it took these bytes
pub record Takes (bytes : List ℕ) (old new : SinkMeaning) : Type 0 where
  pub tells : new.tells ≡ old.tells
  pub held : old.tells ≡ true → new.held ≡ old.held ++ bytes

-- it took a front of these bytes, maybe none or all of them
pub record TakesFront (bytes : List ℕ) (old new : SinkMeaning) : Type 0 where
  pub front : List ℕ
  pub rest : List ℕ
  pub split : bytes ≡ front ++ rest
  pub takes : Takes front old new

-- nothing is taken
pub takes_none : (s : SinkMeaning) → Takes [] s s
takes_none s = record { tells = refl; held = λ _. sym (append-nil s.held) }

-- one piece after another
pub takes_then : (xs ys : List ℕ) (a b c : SinkMeaning) → Takes xs a b → Takes ys b c → Takes (xs ++ ys) a c
takes_then xs ys a b c h k = record {
  tells = k.tells ∙ h.tells;
  held = λ t. k.held (h.tells ∙ t) ∙ ap (λ (l : List ℕ). l ++ ys) (h.held t) ∙ append_assoc a.held xs ys;
}

-- a front that may be nothing
pub front_none : (bytes : List ℕ) (s : SinkMeaning) → TakesFront bytes s s
front_none bytes s = record { front = []; rest = bytes; split = refl; takes = takes_none s }

-- a front that is all
pub front_all : (bytes : List ℕ) (a b : SinkMeaning) → Takes bytes a b → TakesFront bytes a b
front_all bytes a b h = record { front = bytes; rest = []; split = sym (append-nil bytes); takes = h }

-- a piece, and then a front of the next
pub front_then : (xs ys : List ℕ) (a b c : SinkMeaning) → Takes xs a b → TakesFront ys b c → TakesFront (xs ++ ys) a c
front_then xs ys a b c h k = record {
  front = xs ++ k.front;
  rest = k.rest;
  split = ap (λ (l : List ℕ). xs ++ l) k.split ∙ sym (append_assoc xs k.front k.rest);
  takes = takes_then xs k.front a b c h k.takes;
}

-- a front of a piece is a front of what begins with that piece
pub front_longer : (xs ys : List ℕ) (a b : SinkMeaning) → TakesFront xs a b → TakesFront (xs ++ ys) a b
front_longer xs ys a b h = record {
  front = h.front;
  rest = h.rest ++ ys;
  split = ap (λ (l : List ℕ). l ++ ys) h.split ∙ append_assoc h.front h.rest ys;
  takes = h.takes;
}

-- after the first bytes of a piece, some of the rest
pub takes_more : (xs : List ℕ) (i n : ℕ) (a b c : SinkMeaning) → Takes (take i xs) a b → Takes (take n (drop i xs)) b c → Takes (take (i + n) xs) a c
takes_more xs i n a b c h k = subst (λ (l : List ℕ). Takes l a c) (sym (take-add i n xs)) (takes_then (take i xs) (take n (drop i xs)) a b c h k)

-- after the first bytes of a piece, a front of the rest
pub front_more : (xs : List ℕ) (i : ℕ) (a b c : SinkMeaning) → Takes (take i xs) a b → TakesFront (drop i xs) b c → TakesFront xs a c
front_more xs i a b c h k = subst (λ (l : List ℕ). TakesFront l a c) (take-append-drop i xs) (front_then (take i xs) (drop i xs) a b c h k)
