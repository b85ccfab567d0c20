-- A device that was only looked at.
use Rattle.std.proofs.Common.{◌≡◌, ℕ, ◌-◌, true, List, Some, length, replicate, refl, sym, ◌∙◌, ap, subst, arith, slice_get}
use Rattle.std.proofs.lemmas.Option.{get_or_from_slice_get}
use Rattle.page_device.specs.Block.{Block, zero_block}
use Rattle.page_device.specs.Disk.{DeviceState, newest, with_room}
use Rattle.page_device.specs.Meaning.{Meaning, OneRead, IsUntouched, Grows}
use Rattle.page_device.specs.Moments.{kind_then}
use Rattle.page_device.proofs.Views.{state_by_none}
use Rattle.page_layout.specs.Tables.{page_of}
use Rattle.page_device.specs.Possible.{length-overlay}
use Rattle.image_reader.specs.Looked.{Looked, Holds}

pub looked_none : (d : Meaning) → Looked d d
looked_none d = record { state = λ _. refl; pages = λ _. refl; log = λ _. refl; calls = refl; kind = record { honest = refl; tells_pages = refl; tells_log = refl; tells_reads = refl } }

pub looked_then : (a b c : Meaning) → Looked a b → Looked b c → Looked a c
looked_then a b c h k = record {
  state = λ t. k.state (h.kind.tells_pages ∙ t) ∙ h.state t;
  pages = λ t. k.pages (h.kind.tells_pages ∙ t) ∙ h.pages t;
  log = λ t. k.log (h.kind.tells_log ∙ t) ∙ h.log t;
  calls = k.calls ∙ h.calls;
  kind = kind_then a b c h.kind k.kind;
}

pub looked_read : (a b : Meaning) → OneRead a b → Looked a b
looked_read a b h = record { state = h.state; pages = λ _. h.pages; log = h.log; calls = h.calls; kind = h.kind }

pub looked_untouched : (a b : Meaning) → IsUntouched a b → Looked a b
looked_untouched a b h = record { state = h.state; pages = λ _. h.pages; log = h.log; calls = h.calls; kind = h.kind }

-- room for no page
pub looked_room : (a b : Meaning) → Grows 0 a b → Looked a b
looked_room a b h = record {
  state = λ t. let same : b.pages ≡ a.pages = h.already t (omega arith) in h.state t ∙ ap (λ (n : ℕ). with_room a.state (replicate (n - a.pages) zero_block)) same ∙ sym (state_by_none a.state a.pages a.pages (omega arith));
  pages = λ t. h.already t (omega arith);
  log = h.log;
  calls = h.calls;
  kind = h.kind;
}

-- the newest content of a page that was read
pub read_is : (a b : Meaning) (k : ℕ) (page : Block) → Looked a b → (b.honest ≡ true → b.tells_pages ≡ true → slice_get (newest b.state) k ≡ Some page) → a.honest ≡ true → a.tells_pages ≡ true → page_of (newest a.state) k ≡ page
read_is a b k page looked read honest tells =
    get_or_from_slice_get (newest a.state) k page zero_block
    (subst (λ (s : DeviceState). slice_get (newest s) k ≡ Some page) (looked.state tells) (read (looked.kind.honest ∙ honest) (looked.kind.tells_pages ∙ tells)))

-- what an image holds that was only looked at before
pub held_before : (Says : List Block → Type 0) (a b : Meaning) → Looked a b → Holds Says b → Holds Says a
held_before Says a b looked held = λ honest tells. subst (λ (s : DeviceState). Says (newest s)) (looked.state tells) (held (looked.kind.honest ∙ honest) (looked.kind.tells_pages ∙ tells))

-- as many pages
pub pages_of : (d : Meaning) → length d.state.fixed ≡ d.pages → length (newest d.state) ≡ d.pages
pages_of d same = length-overlay d.state.fixed d.state.since ∙ same
