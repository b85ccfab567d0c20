-- The superblock.
use Rattle.std.proofs.Common.{◌≡◌, inl, inr, ℕ, zero, subst, ◌+◌, ◌-◌, ◌≤◌, List, ◌++◌, length, take, drop, replicate, ⊎_elim, refl, sym, ◌∙◌, ap, arith, slice_index, length-drop}
use Rattle.std.proofs.lemmas.List.{get_or-drop, get_or-append_right, get_or-replicate, take_at, get_or_past, length-replicate, take_all}
use Rattle.std.proofs.lemmas.Bool.{cases_lt}
use Rattle.page_layout.specs.Numbers.{number_at, SetsNumber}
use Rattle.page_layout.specs.Shape.{magic, told_shape, ShapeView, IsValid, IsSuperblock}
use Rattle.page_layout.proofs.Bytes.{keeps_front, keeps_number}

-- zeros, also past the end
all_zero : (n k : ℕ) → slice_index (replicate n 0) k ≡ 0
all_zero n k = ⊎_elim (λ lt. get_or-replicate n k 0 0 lt) (λ le. get_or_past (replicate n 0) k 0 (subst (λ (m : ℕ). m ≤ k) (sym (length-replicate n zero)) le)) (cases_lt k n)

-- the three numbers over zeros that begin with the magic bytes
module _ (b0 b1 b2 b3 : List ℕ) (shape : ShapeView) (is : b0 ≡ magic ++ replicate 4088 0) (s1 : SetsNumber b0 8 shape.version b1) (s2 : SetsNumber b1 12 shape.blocks b2) (s3 : SetsNumber b2 16 shape.pages b3) where
  -- are told
  pub super_told : told_shape b3 ≡ shape
  super_told =
      let version : number_at b3 8 ≡ shape.version = keeps_number b2 16 shape.pages b3 8 s3 (inl (omega arith)) ∙ keeps_number b1 12 shape.blocks b2 8 s2 (inl (omega arith)) ∙ s1.number in
      let blocks : number_at b3 12 ≡ shape.blocks = keeps_number b2 16 shape.pages b3 12 s3 (inl (omega arith)) ∙ s2.number in
      let pages : number_at b3 16 ≡ shape.pages = s3.number in
      same_shape (number_at b3 12) (number_at b3 16) (number_at b3 8) shape blocks pages version
    where
      same_shape : (b p v : ℕ) (s : ShapeView) → b ≡ s.blocks → p ≡ s.pages → v ≡ s.version → (let t : ShapeView = record { blocks = b; pages = p; version = v } in t ≡ s)
      same_shape b p v s e f g = rw (e, f, g) refl

  -- and make a superblock
  pub super_is : IsValid shape → IsSuperblock b3
  super_is valid = record {
    starts = keeps_front b2 16 shape.pages b3 8 s3 (omega arith) ∙ keeps_front b1 12 shape.blocks b2 8 s2 (omega arith) ∙ keeps_front b0 8 shape.version b1 8 s1 (omega arith)
        ∙ ap (λ (l : List ℕ). take 8 l) is ∙ take_at magic (replicate 4088 0) 8 refl;
    valid = subst IsValid (sym super_told) valid;
    zeros = λ k le. s3.others k (inr (omega arith)) ∙ s2.others k (inr (omega arith)) ∙ s1.others k (inr (omega arith)) ∙ ap (λ (l : List ℕ). slice_index l k) is
        ∙ get_or-append_right magic (replicate 4088 0) 8 k 0 refl (omega arith) ∙ all_zero 4088 (k - 8);
  }

-- the bytes from 20 on
pub tail_index : (p : List ℕ) (k : ℕ) → length p ≡ 4096 → slice_index (take 4076 (drop 20 p)) k ≡ slice_index p (20 + k)
tail_index p k l = ap (λ (q : List ℕ). slice_index q k) (take_all 4076 (drop 20 p) (omega (arith, length-drop 20 p))) ∙ get_or-drop 20 p k 0

-- zeros there are zeros from 20 on
pub tail_zero : (p : List ℕ) → length p ≡ 4096 → ((k : ℕ) → slice_index (take 4076 (drop 20 p)) k ≡ 0) → (k : ℕ) → 20 ≤ k → slice_index p k ≡ 0
tail_zero p l h k le = ap (λ (n : ℕ). slice_index p n) (omega arith) ∙ sym (tail_index p (k - 20) l) ∙ h (k - 20)
