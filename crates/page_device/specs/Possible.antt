-- What a page may hold, call after call.
use Rattle.std.specs.Prelude.{◌≡◌, ◌⊎◌, ℕ, ◌+◌, ◌<◌, ◌≤◌, List, [], ◌∷◌, ◌++◌, length, slice_get, slice_set, Some, refl}
use Rattle.std.proofs.Common.{inl, inr, ⊎_elim, sym, ◌∙◌, ap, subst, arith, length-set, length-append}
use Rattle.std.proofs.lemmas.Option.{slice_get_within}
use Rattle.std.proofs.lemmas.Bool.{cases_eq}
use Rattle.page_device.specs.declared.device.End.TheVariants.{Done, Refused, Taken}
use Rattle.page_device.specs.declared.device.LogEntry.{LogEntry}
use Rattle.page_device.specs.declared.device.LogEntry.TheVariants.{Write, Flush}
use Rattle.page_device.specs.Block.{Block}
use Rattle.page_device.specs.Disk.{DeviceState, IsImage, MayHold, WasWritten, written, settled, newest, at_rest, overlay, after, state_after}
use Rattle.page_device.specs.Images.{slice_get-set_within, slice_get-set_other}

-- the newest content is one of them
overlay_holds : (pages : List Block) (writes : List (ℕ × Block)) (k : ℕ) (block : Block) → slice_get (overlay pages writes) k ≡ Some block → (slice_get pages k ≡ Some block) ⊎ WasWritten writes k block
unfolding overlay WasWritten
overlay_holds pages [] k block e = inl e
overlay_holds pages (w ∷ ws) k block e = ⊎_elim
    (λ h. ⊎_elim
    (λ same. inr (inl (same, here same h)))
    (λ other. inl (sym (slice_get-set_other pages w.0 k w.1 other) ∙ h))
    (cases_eq w.0 k))
    (λ later. inr (inr later))
    (overlay_holds (slice_set pages w.0 w.1) ws k block e)
  where
    here : w.0 ≡ k → slice_get (slice_set pages w.0 w.1) k ≡ Some block → w.1 ≡ block
    here same h =
        let lt : w.0 < length pages = omega (arith, same, slice_get_within (slice_set pages w.0 w.1) k block h, length-set pages w.0 w.1) in
        let at : slice_get (slice_set pages w.0 w.1) k ≡ Some w.1 = subst (λ (n : ℕ). slice_get (slice_set pages w.0 w.1) n ≡ Some w.1) same (slice_get-set_within pages w.0 w.1 lt) in
        cc

pub length-overlay : (pages : List Block) (writes : List (ℕ × Block)) → length (overlay pages writes) ≡ length pages
unfolding overlay
length-overlay pages [] = refl
length-overlay pages (w ∷ ws) = length-overlay (slice_set pages w.0 w.1) ws ∙ length-set pages w.0 w.1

-- the newest contents are an image
pub newest_is_image : (s : DeviceState) → IsImage s (newest s)
newest_is_image s = record { pages = length-overlay s.fixed s.since; each = λ k block e. overlay_holds s.fixed s.since k block e }

-- a barrier leaves no image that there was not
pub settled_image : (s : DeviceState) (image : List Block) → IsImage (settled s) image → IsImage s image
unfolding WasWritten
settled_image s image is = record {
  pages = is.pages ∙ length-overlay s.fixed s.since;
  each = λ k block e. ⊎_elim (λ h. overlay_holds s.fixed s.since k block h) (λ none. absurd none) (is.each k block e);
}

-- one write more
pub written_more : (writes : List (ℕ × Block)) (page : ℕ) (block : Block) (k : ℕ) (content : Block) → WasWritten (writes ++ (page, block) ∷ []) k content → WasWritten writes k content ⊎ ((page ≡ k) × (block ≡ content))
unfolding WasWritten
written_more [] page block k content (inl h) = inr h
written_more [] page block k content (inr h) = absurd h
written_more (w ∷ ws) page block k content (inl h) = inl (inl h)
written_more (w ∷ ws) page block k content (inr h) = ⊎_elim (λ a. inl (inr a)) (λ b. inr b) (written_more ws page block k content h)

-- what may be held after a call: what was, or what it wrote
pub after_holds : (s : DeviceState) (page : ℕ) (block : Block) (k : ℕ) (content : Block) → MayHold (written s page block) k content → MayHold s k content ⊎ ((page ≡ k) × (block ≡ content))
after_holds s page block k content (inl h) = inl (inl h)
after_holds s page block k content (inr h) = ⊎_elim (λ a. inl (inr a)) (λ b. inr b) (written_more s.since page block k content h)

length-after : (s : DeviceState) (entry : LogEntry) → length (after s entry).fixed ≡ length s.fixed
unfolding after
length-after s (Write page block Done) = refl
length-after s (Write page block Taken) = refl
length-after s (Write page block Refused) = refl
length-after s (Flush Done) = length-overlay s.fixed s.since
length-after s (Flush Taken) = refl
length-after s (Flush Refused) = refl

-- the number of pages stays
pub length-state_after : (s : DeviceState) (entries : List LogEntry) → length (state_after s entries).fixed ≡ length s.fixed
unfolding state_after
length-state_after s [] = refl
length-state_after s (entry ∷ entries) = length-state_after (after s entry) entries ∙ length-after s entry

-- a call adds one content at most to those written since
since_after : (s : DeviceState) (entry : LogEntry) → length (after s entry).since ≤ length s.since + 1
unfolding after
since_after s (Write page block Done) = omega (arith, length-append s.since ((page, block) ∷ []))
since_after s (Write page block Taken) = omega (arith, length-append s.since ((page, block) ∷ []))
since_after s (Write page block Refused) = omega arith
since_after s (Flush Done) = omega arith
since_after s (Flush Taken) = omega arith
since_after s (Flush Refused) = omega arith

-- so there are no more of them than calls
pub length-since : (s : DeviceState) (entries : List LogEntry) → length (state_after s entries).since ≤ length s.since + length entries
unfolding state_after
length-since s [] = omega arith
length-since s (entry ∷ entries) = omega (arith, length-since (after s entry) entries, since_after s entry)

pub overlay-append : (pages : List Block) (xs ys : List (ℕ × Block)) → overlay pages (xs ++ ys) ≡ overlay (overlay pages xs) ys
unfolding overlay
overlay-append pages [] ys = refl
overlay-append pages (x ∷ xs) ys = overlay-append (slice_set pages x.0 x.1) xs ys

-- the newest contents after one content more
pub newest_written : (s : DeviceState) (page : ℕ) (block : Block) → newest (written s page block) ≡ slice_set (newest s) page block
unfolding overlay
newest_written s page block = overlay-append s.fixed s.since ((page, block) ∷ [])

-- with nothing pending the newest contents are the fixed ones
pub newest_at_rest : (s : DeviceState) → s ≡ at_rest s.fixed → newest s ≡ s.fixed
unfolding overlay
newest_at_rest s rest = ap newest rest

-- a barrier leaves no content that could not be there before it
pub settled_holds : (s : DeviceState) (page : ℕ) (block : Block) → MayHold (settled s) page block → MayHold s page block
unfolding WasWritten
settled_holds s page block (inl h) = overlay_holds s.fixed s.since page block h
settled_holds s page block (inr h) = absurd h

-- the page has one possible content
abbrev pub Only : DeviceState → ℕ → Block → Type 0
Only s page block = (b : Block) → MayHold s page b → b ≡ block

-- so it is once a content was written and a barrier made
pub only_put : (s : DeviceState) (page : ℕ) (block : Block) → page < length s.fixed → Only (settled (written s page block)) page block
unfolding WasWritten
only_put s page block within b (inl h) =
    let at : slice_get (slice_set (newest s) page block) page ≡ Some block = slice_get-set_within (newest s) page block (omega (arith, within, length-overlay s.fixed s.since)) in
    let is : slice_get (slice_set (newest s) page block) page ≡ Some b = subst (λ (l : List Block). slice_get l page ≡ Some b) (newest_written s page block) h in
    cc
only_put s page block within b (inr h) = absurd h

-- it stays so over a write of another page, and over a barrier
pub only_other : (s : DeviceState) (page other : ℕ) (block content : Block) → (other ≡ page → ⊥) → Only s page block → Only (written s other content) page block
only_other s page other block content apart only b h = ⊎_elim (λ before. only b before) (λ new. absurd (apart new.0)) (after_holds s other content page b h)

pub only_settled : (s : DeviceState) (page : ℕ) (block : Block) → Only s page block → Only (settled s) page block
only_settled s page block only b h = only b (settled_holds s page b h)
