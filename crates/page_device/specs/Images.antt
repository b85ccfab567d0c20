-- Laws of images.
use Rattle.std.specs.Prelude.{◌≡◌, ◌⊎◌, ℕ, zero, suc, ◌<◌, List, [], ◌∷◌, length, slice_get, slice_set, Option, Some, None, refl}
use Rattle.std.proofs.Common.{inl, inr, ⊎_elim, sym, ◌∙◌, ap, subst, arith, length-set}
use Rattle.std.proofs.lemmas.Option.{slice_get_within}
use Rattle.std.proofs.lemmas.Bool.{cases_eq}
use Rattle.page_device.specs.Block.{Block}
use Rattle.page_device.specs.Disk.{IsImage, WasWritten}

-- lists of one length with the same elements are one
pub same_list : {A : Type 0} (xs ys : List A) → length xs ≡ length ys → ((k : ℕ) (x : A) → slice_get xs k ≡ Some x → slice_get ys k ≡ Some x) → xs ≡ ys
same_list [] [] l h = refl
same_list [] (y ∷ ys) l h = cc
same_list (x ∷ xs) [] l h = cc
same_list (x ∷ xs) (y ∷ ys) l h =
    let head : y ≡ x = cc (h zero x refl) in
    let rest : xs ≡ ys = same_list xs ys (omega (arith, l)) (λ k z e. h (suc k) z e) in
    cc

-- nothing pending: one image
pub image_at_rest : (pages : List Block) (i : List Block) → IsImage (record { fixed = pages; since = [] }) i → i ≡ pages
unfolding WasWritten
image_at_rest pages i is = same_list i pages is.pages (λ k b e. ⊎_elim (λ h. h) (λ h. absurd h) (is.each k b e))

slice_get-set_same : {A : Type 0} (xs : List A) (k : ℕ) (x y : A) → slice_get xs k ≡ Some y → slice_get (slice_set xs k x) k ≡ Some x
slice_get-set_same [] k x y e = cc
slice_get-set_same (z ∷ zs) zero x y e = refl
slice_get-set_same (z ∷ zs) (suc k) x y e = slice_get-set_same zs k x y e

pub slice_get-set_other : {A : Type 0} (xs : List A) (j k : ℕ) (x : A) → (j ≡ k → ⊥) → slice_get (slice_set xs j x) k ≡ slice_get xs k
slice_get-set_other [] j k x h = refl
slice_get-set_other (z ∷ zs) zero zero x h = absurd (h refl)
slice_get-set_other (z ∷ zs) zero (suc k) x h = refl
slice_get-set_other (z ∷ zs) (suc j) zero x h = refl
slice_get-set_other (z ∷ zs) (suc j) (suc k) x h = slice_get-set_other zs j k x (λ e. h (ap suc e))

pub slice_get-set_within : {A : Type 0} (xs : List A) (k : ℕ) (x : A) → k < length xs → slice_get (slice_set xs k x) k ≡ Some x
slice_get-set_within [] k x h = absurd (omega arith)
slice_get-set_within (z ∷ zs) zero x h = refl
slice_get-set_within (z ∷ zs) (suc k) x h = slice_get-set_within zs k x (omega arith)

-- one content pending: two images
pub image_of_one : (pages : List Block) (page : ℕ) (block : Block) (i : List Block) → IsImage (record { fixed = pages; since = (page, block) ∷ [] }) i → (i ≡ pages) ⊎ (i ≡ slice_set pages page block)
unfolding WasWritten
image_of_one pages page block i is = at_page (slice_get i page) refl
  where
    with_block : (b : Block) → slice_get i page ≡ Some b → block ≡ b → i ≡ slice_set pages page block
    with_block b e h = same_list i (slice_set pages page block) (is.pages ∙ sym (length-set pages page block)) (λ k c f. ⊎_elim
        (λ same. let g : slice_get (slice_set pages page block) k ≡ Some c = rw same (subst (λ (n : ℕ). slice_get (slice_set pages n block) n ≡ Some c) same
        (slice_get-set_within pages page block (omega (arith, is.pages, slice_get_within i page b e)) ∙ (cc (subst (λ (n : ℕ). slice_get i n ≡ Some c) (sym same) f)))) in g)
        (λ other. slice_get-set_other pages page k block other ∙ ⊎_elim (λ h. h) (λ w. ⊎_elim (λ v. absurd (other v.0)) (λ none. absurd none) w) (is.each k c f))
        (cases_eq page k))

    at_page : (o : Option Block) → slice_get i page ≡ o → (i ≡ pages) ⊎ (i ≡ slice_set pages page block)
    at_page None e = inl (same_list i pages is.pages (λ k c f. ⊎_elim (λ h. h) (λ w. ⊎_elim (λ v. absurd (cc (subst (λ (n : ℕ). slice_get i n ≡ Some c) (sym v.0) f))) (λ none. absurd none) w) (is.each k c f)))
    at_page (Some b) e = ⊎_elim
        (λ h. inl (same_list i pages is.pages (λ k c f. ⊎_elim (λ h. h) (λ w. ⊎_elim (λ v. let g : slice_get i page ≡ Some c = subst (λ (n : ℕ). slice_get i n ≡ Some c) (sym v.0) f in subst (λ (n : ℕ). slice_get pages n ≡ Some c) v.0 (cc)) (λ none. absurd none) w) (is.each k c f))))
        (λ w. ⊎_elim (λ v. inr (with_block b e v.1)) (λ none. absurd none) w)
        (is.each page b e)
