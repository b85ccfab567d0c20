-- One write more of the image that is chosen.
use Rattle.std.proofs.Common.{◌≡◌, ℕ, zero, suc, ◌+◌, ◌-◌, ◌<◌, ◌≤◌, ◌==◌, Bool, true, false, cond, List, [], ◌∷◌, length, slice_get, slice_index, slice_index_or, get_or, slice_set, drop, Some, refl, sym, ◌∙◌, ap, subst, arith, ⊎_elim, length-set, get_or-set_same, get_or-set_other}
use Rattle.std.proofs.Math.ListN.{drop_of_length-le}
use Rattle.std.proofs.Math.Seq.{drop-cons}
use Rattle.std.proofs.lemmas.Bool.{cases_eq, eq-eqb, eqb-true}
use Rattle.std.proofs.lemmas.List.{get_or_default}
use Rattle.std.proofs.lemmas.Option.{slice_get_read}
use Rattle.page_device.specs.Block.{Block, zero_block}
use Rattle.page_device.specs.Disk.{DeviceState}
use Rattle.page_device.specs.Chosen.{IsChosen, contents_of, pick}

abbrev with_since : List Block → List (ℕ × Block) → DeviceState
with_since fixed since = record { fixed = fixed; since = since }

contents_here : (page : ℕ) (block : Block) (writes : List (ℕ × Block)) → contents_of ((page, block) ∷ writes) page ≡ block ∷ contents_of writes page
unfolding contents_of
contents_here page block writes = ap (λ (b : Bool). cond b (block ∷ contents_of writes page) (contents_of writes page)) (eq-eqb page page refl)

contents_there : (other page : ℕ) (block : Block) (writes : List (ℕ × Block)) → (other ≡ page → ⊥) → contents_of ((other, block) ∷ writes) page ≡ contents_of writes page
unfolding contents_of
contents_there other page block writes apart = by (other == page) refl
  where
    by : (b : Bool) → (other == page) ≡ b → cond b (block ∷ contents_of writes page) (contents_of writes page) ≡ contents_of writes page
    by true is = absurd (apart (eqb-true other page is))
    by false is = refl

pick_zero : (fixed : Block) (since : List Block) → pick fixed since 0 ≡ fixed
unfolding pick
pick_zero fixed since = refl

pick_suc : (fixed next : Block) (since : List Block) (i : ℕ) → 0 < i → pick fixed (next ∷ since) i ≡ pick next since (i - 1)
unfolding pick
pick_suc fixed next since zero h = absurd (omega arith)
pick_suc fixed next since (suc i) h = ap (pick next since) (let e : i ≡ suc i - 1 = omega arith in e)

index_past : (xs : List ℕ) (i : ℕ) → 0 < slice_index xs i → i < length xs
index_past [] i h = absurd (omega arith)
index_past (x ∷ xs) zero h = omega arith
index_past (x ∷ xs) (suc i) h = omega (arith, index_past xs i h)

pick_none : (page i : ℕ) (fixed : Block) → pick fixed (contents_of [] page) i ≡ fixed
unfolding pick contents_of
pick_none page zero fixed = refl
pick_none page (suc i) fixed = refl

-- nothing was written: the fixed contents
pub chosen_none : (pages : List Block) (left : List ℕ) → IsChosen (with_since pages []) left pages
chosen_none pages left = record {
  pages = refl;
  each = λ page lt.
      slice_get_read pages (length pages) page _ refl lt
      (let e = pick_none page (slice_index left page) (slice_index_or pages page zero_block) in e ∙ get_or_default pages page zero_block _ lt);
}

-- the first write is taken
pub chosen_taken : (pages : List Block) (page : ℕ) (block : Block) (writes : List (ℕ × Block)) (left : List ℕ) (image : List Block) → 0 < slice_index left page
    → IsChosen (with_since (slice_set pages page block) writes) (slice_set left page (slice_index left page - 1)) image → IsChosen (with_since pages ((page, block) ∷ writes)) left image
chosen_taken pages page block writes left image some is = record { pages = is.pages ∙ length-set pages page block; each = λ k lt. ⊎_elim (here k lt) (there k lt) (cases_eq page k) }
  where
    here : (k : ℕ) → k < length pages → page ≡ k → slice_get image k ≡ Some (pick (slice_index_or pages k zero_block) (contents_of ((page, block) ∷ writes) k) (slice_index left k))
    here k lt same =
        let in_pages : page < length pages = omega (arith, same) in
        let f : slice_get image page ≡ Some (pick (slice_index_or (slice_set pages page block) page zero_block) (contents_of writes page) (slice_index (slice_set left page (slice_index left page - 1)) page)) =
        is.each page (omega (arith, in_pages, length-set pages page block)) in
        let g : slice_get image page ≡ Some (pick (slice_index_or pages page zero_block) (contents_of ((page, block) ∷ writes) page) (slice_index left page)) = f
        ∙ ap (λ (b : Block). Some (pick b (contents_of writes page) (slice_index (slice_set left page (slice_index left page - 1)) page))) (get_or-set_same pages page block zero_block in_pages)
        ∙ ap (λ (n : ℕ). Some (pick block (contents_of writes page) n)) (get_or-set_same left page (slice_index left page - 1) 0 (index_past left page some))
        ∙ sym (ap (λ (l : List Block). Some (pick (slice_index_or pages page zero_block) l (slice_index left page))) (contents_here page block writes)
        ∙ ap Some (pick_suc (slice_index_or pages page zero_block) block (contents_of writes page) (slice_index left page) some)) in
        subst (λ (n : ℕ). slice_get image n ≡ Some (pick (slice_index_or pages n zero_block) (contents_of ((page, block) ∷ writes) n) (slice_index left n))) same g

    there : (k : ℕ) → k < length pages → (page ≡ k → ⊥) → slice_get image k ≡ Some (pick (slice_index_or pages k zero_block) (contents_of ((page, block) ∷ writes) k) (slice_index left k))
    there k lt other = is.each k (omega (arith, length-set pages page block))
        ∙ ap (λ (b : Block). Some (pick b (contents_of writes k) (slice_index (slice_set left page (slice_index left page - 1)) k))) (get_or-set_other pages page k block zero_block (λ e. other (sym e)))
        ∙ ap (λ (n : ℕ). Some (pick (slice_index_or pages k zero_block) (contents_of writes k) n)) (get_or-set_other left page k (slice_index left page - 1) 0 (λ e. other (sym e)))
        ∙ ap (λ (l : List Block). Some (pick (slice_index_or pages k zero_block) l (slice_index left k))) (sym (contents_there page k block writes other))

-- the first write is passed over
pub chosen_left : (pages : List Block) (page : ℕ) (block : Block) (writes : List (ℕ × Block)) (left : List ℕ) (image : List Block) → slice_index left page ≡ 0
    → IsChosen (with_since pages writes) left image → IsChosen (with_since pages ((page, block) ∷ writes)) left image
chosen_left pages page block writes left image none is = record { pages = is.pages; each = λ k lt. ⊎_elim (here k lt) (there k lt) (cases_eq page k) }
  where
    here : (k : ℕ) → k < length pages → page ≡ k → slice_get image k ≡ Some (pick (slice_index_or pages k zero_block) (contents_of ((page, block) ∷ writes) k) (slice_index left k))
    here k lt same =
        let zero_at : slice_index left k ≡ 0 = subst (λ (n : ℕ). slice_index left n ≡ 0) same none in
        let e = is.each k lt in
        let f : slice_get image k ≡ Some (pick (slice_index_or pages k zero_block) (contents_of writes k) 0) = e ∙ ap (λ (n : ℕ). Some (pick (slice_index_or pages k zero_block) (contents_of writes k) n)) zero_at in
        f ∙ ap Some (pick_zero (slice_index_or pages k zero_block) (contents_of writes k) ∙ sym (pick_zero (slice_index_or pages k zero_block) (contents_of ((page, block) ∷ writes) k)))
        ∙ ap (λ (n : ℕ). Some (pick (slice_index_or pages k zero_block) (contents_of ((page, block) ∷ writes) k) n)) (sym zero_at)

    there : (k : ℕ) → k < length pages → (page ≡ k → ⊥) → slice_get image k ≡ Some (pick (slice_index_or pages k zero_block) (contents_of ((page, block) ∷ writes) k) (slice_index left k))
    there k lt other = is.each k lt ∙ ap (λ (l : List Block). Some (pick (slice_index_or pages k zero_block) l (slice_index left k))) (sym (contents_there page k block writes other))

-- the loop over the writes goes on
module _ (pages pages' : List Block) (writes : List (ℕ × Block)) (left left' : List ℕ) (image : List Block) (i : ℕ) (w : ℕ × Block) (lt : i < length writes) (same : w ≡ get_or writes i w)
    (is : IsChosen (with_since pages' (drop (i + 1) writes)) left' image) where
  next_is : drop i writes ≡ w ∷ drop (i + 1) writes
  next_is = drop-cons writes i w lt ∙ ap (λ (v : ℕ × Block). v ∷ drop (suc i) writes) (sym same) ∙ ap (λ (n : ℕ). w ∷ drop n writes) (let e : suc i ≡ i + 1 = omega arith in e)

  pub chosen_goes : 0 < slice_index left w.0 → pages' ≡ slice_set pages w.0 w.1 → left' ≡ slice_set left w.0 (slice_index left w.0 - 1) → IsChosen (with_since pages (drop i writes)) left image
  chosen_goes some set lowered =
      subst (λ (l : List (ℕ × Block)). IsChosen (with_since pages l) left image) (sym next_is)
      (chosen_taken pages w.0 w.1 (drop (i + 1) writes) left image some
      (subst (λ (l : List ℕ). IsChosen (with_since (slice_set pages w.0 w.1) (drop (i + 1) writes)) l image) lowered
      (subst (λ (l : List Block). IsChosen (with_since l (drop (i + 1) writes)) left' image) set is)))

  pub chosen_passes : slice_index left w.0 ≡ 0 → pages' ≡ pages → left' ≡ left → IsChosen (with_since pages (drop i writes)) left image
  chosen_passes none set kept =
      subst (λ (l : List (ℕ × Block)). IsChosen (with_since pages l) left image) (sym next_is)
      (chosen_left pages w.0 w.1 (drop (i + 1) writes) left image none
      (subst (λ (l : List ℕ). IsChosen (with_since pages (drop (i + 1) writes)) l image) kept
      (subst (λ (l : List Block). IsChosen (with_since l (drop (i + 1) writes)) left' image) set is)))

pub chosen_ends : (pages : List Block) (writes : List (ℕ × Block)) (left : List ℕ) (i : ℕ) → length writes ≤ i → IsChosen (with_since pages (drop i writes)) left pages
chosen_ends pages writes left i le = subst (λ (l : List (ℕ × Block)). IsChosen (with_since pages l) left pages) (sym (drop_of_length-le writes le)) (chosen_none pages left)
