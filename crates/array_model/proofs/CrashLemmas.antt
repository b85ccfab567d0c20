-- What a crash leaves, by itself.
use Rattle.std.proofs.Common.{◌≡◌, ◌⊎◌, inl, inr, ⊎_elim, ℕ, ◌<◌, List, [], ◌∷◌, ◌++◌, Option, Some, None, refl, sym, ap, subst}
use Rattle.page_device.specs.Block.{Block}
use Rattle.page_device.specs.declared.device.LogEntry.{LogEntry}
use Rattle.page_device.specs.Disk.{DeviceState, IsImage, state_after}
use Rattle.page_device.specs.Moments.{EachImage, state_after-append}
use Rattle.page_device.specs.Runs.{Runs, after_turns, all_calls}
use Rattle.array_model.specs.Images.{Mode, fit, sound, tight, left_mode}
use Rattle.array_model.specs.Array.{BlockArray, IsAmong, MayBeLeft, writes_nothing}
use Rattle.array_model.specs.Turns.{Rules, Work, WorksLeave, calls_of, array_after_work, MayLeave, calls_of_works, array_after_works, content_list}

pub mode_stays : (mode : Mode) → left_mode (left_mode mode) ≡ left_mode mode
mode_stays fit = refl
mode_stays sound = refl
mode_stays tight = refl

-- a content is among some where it is among a part of them
pub among_front : (content : Block) (list more : List Block) → IsAmong content list → IsAmong content (list ++ more)
unfolding IsAmong
among_front content [] more h = absurd h
among_front content (c ∷ rest) more (inl same) = inl same
among_front content (c ∷ rest) more (inr later) = inr (among_front content rest more later)

pub among_behind : (content : Block) (list more : List Block) → IsAmong content more → IsAmong content (list ++ more)
unfolding IsAmong
among_behind content [] more h = h
among_behind content (c ∷ rest) more h = inr (among_behind content rest more h)

only_content : (content : Block) → IsAmong content (content ∷ [])
unfolding IsAmong
only_content content = inl refl

pub is_content : (written : Option Block) (content : Block) → written ≡ Some content → IsAmong content (content_list written)
is_content written content is = subst (λ (o : Option Block). IsAmong content (content_list o)) (sym is) (only_content content)

-- at the end of turns each image is one that they may leave
runs_end : {A T : Type 0} (calls : T → List LogEntry) (next : A → T → A) (P : A → Option T → List Block → Type 0) (a : A) (s : DeviceState) (ts : List T) → Runs calls next P a s ts
    → EachImage (P (after_turns calls next P a ts) None) (state_after s (all_calls calls next P ts))
unfolding Runs after_turns all_calls state_after
runs_end calls next P a s [] r = r
runs_end calls next P a s (t ∷ ts) r = subst (EachImage (P (after_turns calls next P (next a t) ts) None)) (sym (state_after-append s (calls t) (all_calls calls next P ts))) (runs_end calls next P (next a t) (state_after s (calls t)) ts r.1)

pub left_at_end : (mode : Mode) (rules : Rules) (a : BlockArray) (start : DeviceState) (works : List Work) → WorksLeave mode rules a start works → (image : List Block)
    → IsImage (state_after start (calls_of_works mode rules works)) image → MayBeLeft mode rules.blocks (array_after_works mode rules a works) writes_nothing image
left_at_end mode rules a start works leave image is = let h = runs_end calls_of (array_after_work rules) (MayLeave mode rules) a start works leave image is in record { good = h.good; reads = h.reads }
