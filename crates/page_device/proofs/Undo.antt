-- The pages before the writes that a device in memory took.
use Rattle.std.proofs.Common.{◌≡◌, ℕ, ◌<◌, List, [], ◌∷◌, ◌++◌, length, refl, sym, ◌∙◌, ap, slice_set, subst, arith, length-set}
use Rattle.std.proofs.lemmas.List.{set-append_left}
use Rattle.page_device.specs.Block.{Block}
use Rattle.page_device.specs.Memory.{undone, AllBelow}

-- undoing keeps the number of pages
pub length-undone : (pages : List Block) (taken : List ℕ) (replaced : List Block) → length (undone pages taken replaced) ≡ length pages
unfolding undone
length-undone pages [] replaced = refl
length-undone pages (page ∷ taken) [] = refl
length-undone pages (page ∷ taken) (block ∷ replaced) = length-set (undone pages taken replaced) page block ∙ length-undone pages taken replaced

-- one more write is undone first
pub undone-last : (pages : List Block) (taken : List ℕ) (replaced : List Block) (page : ℕ) (block : Block) → length replaced ≡ length taken
    → undone pages (taken ++ page ∷ []) (replaced ++ block ∷ []) ≡ undone (slice_set pages page block) taken replaced
unfolding undone
undone-last pages [] [] page block l = refl
undone-last pages [] (b ∷ replaced) page block l = absurd (omega (arith, l))
undone-last pages (p ∷ taken) [] page block l = absurd (omega (arith, l))
undone-last pages (p ∷ taken) (b ∷ replaced) page block l = ap (λ (ps : List Block). slice_set ps p b) (undone-last pages taken replaced page block (omega (arith, l)))

-- pages that were added behind stay
pub undone-room : (pages more : List Block) (taken : List ℕ) (replaced : List Block) → AllBelow taken (length pages)
    → undone (pages ++ more) taken replaced ≡ undone pages taken replaced ++ more
unfolding undone AllBelow
undone-room pages more [] replaced below = refl
undone-room pages more (p ∷ taken) [] below = refl
undone-room pages more (p ∷ taken) (b ∷ replaced) below =
    ap (λ (ps : List Block). slice_set ps p b) (undone-room pages more taken replaced below.1)
    ∙ set-append_left (undone pages taken replaced) more p b (subst (λ (n : ℕ). p < n) (sym (length-undone pages taken replaced)) below.0)
