use Rattle.std.proofs.Common.{◌≡◌, ℕ, zero, List, ap, ◌∙◌, ◌++◌, replicate, drop}
use Rattle.std.proofs.lemmas.List.{drop-replicate}
use Rattle.page_layout.specs.Shape.{magic}
use Rattle.page_layout.proofs.Super.{super_is, super_told}
use Rattle.page_layout.proofs.superblock.write_super.Goals as goal

-- the magic bytes over zeros
begins : (front old : List ℕ) → front ≡ magic → old ≡ replicate 4096 0 → front ++ drop 8 old ≡ magic ++ replicate 4088 0
begins front old is zeros = ap (λ (l : List ℕ). l ++ drop 8 old) is ∙ ap (λ (l : List ℕ). magic ++ drop 8 l) zeros ∙ ap (λ (l : List ℕ). magic ++ l) (drop-replicate 8 4096 zero)

pub returns-clause-superblock : goal.returns-clause-superblock
returns-clause-superblock c =
    super_is _ _ _ _ (record { blocks = c.shape.inside.blocks; pages = c.shape.inside.pages; version = c.shape.inside.version }) (begins _ c.args.bytes.now c.copy_from_slice.ensures.after c.requires) c.set_number.ensures c.set_number-2.ensures c.set_number-3.ensures c.shape.invariant

pub returns-clause-shape : goal.returns-clause-shape
returns-clause-shape c =
    super_told _ _ _ _ (record { blocks = c.shape.inside.blocks; pages = c.shape.inside.pages; version = c.shape.inside.version }) (begins _ c.args.bytes.now c.copy_from_slice.ensures.after c.requires) c.set_number.ensures c.set_number-2.ensures c.set_number-3.ensures
    ∙ c.shape.view_is
