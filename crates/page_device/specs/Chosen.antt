-- One crash image, chosen page by page.
use Rattle.std.specs.Prelude.{◌≡◌, ◌⊎◌, ℕ, zero, suc, ◌<◌, ◌≤◌, ◌==◌, Bool, true, false, cond, List, [], ◌∷◌, length, take, slice_get, slice_index, slice_index_or, Some, refl}
use Rattle.std.proofs.Common.{inl, inr, ⊎_elim, sym, ◌∙◌, ap, subst, arith}
use Rattle.std.proofs.lemmas.Bool.{eqb-true, eq-eqb}
use Rattle.std.proofs.lemmas.List.{get_or_default, length-take}
use Rattle.std.proofs.lemmas.Option.{slice_get_within, slice_get_read, slice_get-get_or, get_or_from_slice_get}
use Rattle.page_device.specs.Block.{Block, zero_block}
use Rattle.page_device.specs.declared.device.LogEntry.{LogEntry}
use Rattle.page_device.specs.Disk.{DeviceState, IsImage, LeftAt, MayHold, WasWritten, at_rest, state_after}
use Rattle.page_device.specs.Images.{same_list}
use Rattle.page_device.specs.Possible.{length-state_after, length-since}

-- the contents written to the page, in order
unfoldable pub contents_of : List (ℕ × Block) → ℕ → List Block
contents_of [] page = []
contents_of (write ∷ writes) page = cond (write.0 == page) (write.1 ∷ contents_of writes page) (contents_of writes page)

-- the fixed content for 0, and for `i` the `i`-th of those written since, or the last one where there are fewer
unfoldable pub pick : Block → List Block → ℕ → Block
pick fixed since zero = fixed
pick fixed [] (suc i) = fixed
pick fixed (next ∷ since) (suc i) = pick next since i

-- the image that is chosen, each page by itself; a page past the end of the choice takes 0
pub record IsChosen (s : DeviceState) (choice : List ℕ) (image : List Block) : Type 0 where
  pub pages : length image ≡ length s.fixed
  pub each : (page : ℕ) → page < length s.fixed → slice_get image page ≡ Some (pick (slice_index_or s.fixed page zero_block) (contents_of s.since page) (slice_index choice page))

-- with one more write, which may be one of the page
one_more : (fixed content : Block) (rest : List Block) (is_it : Bool) (i : ℕ) (Was : Block → Type 0) → (is_it ≡ true → Was content)
    → ((f : Block) (n : ℕ) → (pick f rest n ≡ f) ⊎ Was (pick f rest n)) → (pick fixed (cond is_it (content ∷ rest) rest) i ≡ fixed) ⊎ Was (pick fixed (cond is_it (content ∷ rest) rest) i)
unfolding pick
one_more fixed content rest true zero Was this behind = inl refl
one_more fixed content rest true (suc i) Was this behind = inr (⊎_elim (λ e. subst Was (sym e) (this refl)) (λ h. h) (behind content i))
one_more fixed content rest false i Was this behind = behind fixed i

-- what is picked is the fixed content, or one that was written
picked : (writes : List (ℕ × Block)) (page : ℕ) (fixed : Block) (i : ℕ) → (pick fixed (contents_of writes page) i ≡ fixed) ⊎ WasWritten writes page (pick fixed (contents_of writes page) i)
unfolding pick contents_of WasWritten
picked [] page fixed zero = inl refl
picked [] page fixed (suc i) = inl refl
picked (w ∷ ws) page fixed i =
    one_more fixed w.1 (contents_of ws page) (w.0 == page) i (WasWritten (w ∷ ws) page) (λ is. inl (eqb-true w.0 page is, refl))
    (λ f n. ⊎_elim (λ e. inl e) (λ h. inr (inr h)) (picked ws page f n))

-- so a crash may leave it
pub chosen_is_image : (s : DeviceState) (choice : List ℕ) (image : List Block) → IsChosen s choice image → IsImage s image
chosen_is_image s choice image is = record { pages = is.pages; each = λ page block e. each page block e (let lt : page < length s.fixed = omega (arith, is.pages, slice_get_within image page block e) in lt) }
  where
    each : (page : ℕ) (block : Block) → slice_get image page ≡ Some block → page < length s.fixed → MayHold s page block
    each page block e lt =
        let fixed = slice_index_or s.fixed page zero_block in
        let content = pick fixed (contents_of s.since page) (slice_index choice page) in
        let same : content ≡ block = cc (is.each page lt) in
        ⊎_elim (λ (h : content ≡ fixed). inl (slice_get_read s.fixed (length s.fixed) page block refl lt (sym same ∙ h ∙ get_or_default s.fixed page zero_block block lt)))
        (λ h. inr (subst (WasWritten s.since page) same h))
        (picked s.since page fixed (slice_index choice page))

-- numbers that choose the image: one for each page, and none above the number of contents written since
pub record Choice (s : DeviceState) (image : List Block) : Type 0 where
  pub numbers : List ℕ
  pub pages : length numbers ≡ length s.fixed
  pub few : (page : ℕ) → page < length s.fixed → slice_index numbers page ≤ length s.since
  pub chosen : IsChosen s numbers image

-- a content that was picked is picked behind one more write too
picked_behind : (content block : Block) (rest : List Block) (is_it : Bool) (i n : ℕ) → i ≤ n → ((f : Block) → pick f rest i ≡ block)
    → (j : ℕ) × ((j ≤ suc n) × ((f : Block) → pick f (cond is_it (content ∷ rest) rest) j ≡ block))
unfolding pick
picked_behind content block rest true i n le h = (suc i, (omega (arith, le), λ f. h content))
picked_behind content block rest false i n le h = (i, (omega (arith, le), h))

-- the number of a content that was written, whatever is fixed
number_of : (writes : List (ℕ × Block)) (page : ℕ) (block : Block) → WasWritten writes page block → (i : ℕ) × ((i ≤ length writes) × ((f : Block) → pick f (contents_of writes page) i ≡ block))
unfolding pick contents_of WasWritten
number_of [] page block h = absurd h
number_of (w ∷ ws) page block (inl h) = (1, (omega arith, λ f. ap (λ (b : Bool). pick f (cond b (w.1 ∷ contents_of ws page) (contents_of ws page)) 1) (eq-eqb w.0 page h.0) ∙ h.1))
number_of (w ∷ ws) page block (inr h) = let later = number_of ws page block h in picked_behind w.1 block (contents_of ws page) (w.0 == page) later.0 (length ws) later.1.0 later.1.1

-- a number for each index below n
listed : (n : ℕ) (P : ℕ → ℕ → Type 0) → ((k : ℕ) → k < n → (i : ℕ) × P k i) → (numbers : List ℕ) × ((length numbers ≡ n) × ((k : ℕ) → k < n → P k (slice_index numbers k)))
listed zero P h = ([], (refl, λ k lt. absurd (omega (arith, lt))))
listed (suc n) P h =
    let first = h zero (omega arith) in
    let rest = listed n (λ k i. P (suc k) i) (λ k lt. h (suc k) (omega (arith, lt))) in
    (first.0 ∷ rest.0, (ap suc rest.1.0, each first.0 first.1 rest.0 rest.1.1))
  where
    each : (i : ℕ) → P zero i → (numbers : List ℕ) → ((k : ℕ) → k < n → P (suc k) (slice_index numbers k)) → (k : ℕ) → k < suc n → P k (slice_index (i ∷ numbers) k)
    each i p numbers later zero lt = p
    each i p numbers later (suc k) lt = later k (omega (arith, lt))

pick_fixed : (fixed : Block) (since : List Block) → pick fixed since 0 ≡ fixed
unfolding pick
pick_fixed fixed since = refl

-- each image is chosen by some numbers
pub image_is_chosen : (s : DeviceState) (image : List Block) → IsImage s image → Choice s image
image_is_chosen s image is =
    let found = listed (length s.fixed) (λ page i. (i ≤ length s.since) × (slice_get image page ≡ Some (picks page i))) number in
    record { numbers = found.0; pages = found.1.0; few = λ page lt. (found.1.1 page lt).0; chosen = record { pages = is.pages; each = λ page lt. (found.1.1 page lt).1 } }
  where
    picks : ℕ → ℕ → Block
    picks page i = pick (slice_index_or s.fixed page zero_block) (contents_of s.since page) i

    number : (page : ℕ) → page < length s.fixed → (i : ℕ) × ((i ≤ length s.since) × (slice_get image page ≡ Some (picks page i)))
    number page lt =
        let block = slice_index_or image page zero_block in
        let here : slice_get image page ≡ Some block = slice_get-get_or image page zero_block (omega (arith, lt, is.pages)) in
        let fixed = slice_index_or s.fixed page zero_block in
        ⊎_elim (λ h. (0, (omega arith, here ∙ ap Some (sym (pick_fixed fixed (contents_of s.since page) ∙ get_or_from_slice_get s.fixed page block zero_block h)))))
        (λ h. let i = number_of s.since page block h in (i.0, (i.1.0, here ∙ ap Some (sym (i.1.1 fixed)))))
        (is.each page block here)

-- so each image of a moment of a log is chosen, and by numbers that are not above the number of calls
pub left_is_chosen : (start : List Block) (log : List LogEntry) (k : ℕ) (image : List Block) → LeftAt (at_rest start) log k image
    → (choice : Choice (state_after (at_rest start) (take k log)) image) × ((page : ℕ) → page < length start → slice_index choice.numbers page ≤ length log)
left_is_chosen start log k image left =
    let s = state_after (at_rest start) (take k log) in
    let choice = image_is_chosen s image left in
    (choice, λ page lt. omega (arith, choice.few page (omega (arith, lt, length-state_after (at_rest start) (take k log))), length-since (at_rest start) (take k log), length-take k log))

-- the same numbers choose one image alone
pub chosen_once : (s : DeviceState) (choice : List ℕ) (one other : List Block) → IsChosen s choice one → IsChosen s choice other → one ≡ other
chosen_once s choice one other is is' = same_list one other (is.pages ∙ sym is'.pages) (λ page block e.
    let lt : page < length s.fixed = omega (arith, is.pages, slice_get_within one page block e) in
    is'.each page lt ∙ sym (is.each page lt) ∙ e)
