-- What follows without a step.
use Rattle.std.proofs.Common.{◌≡◌, ◌≢◌, ◌⊎◌, inl, inr, ◌<◌, ℕ, Bool, true, false, sym, ◌∙◌, List, true≢false}
use Rattle.order_model.specs.World.{Layout, World, Queued, IsData}
use Rattle.engine_model.specs.Counts.{CountsInvariant}
use Rattle.engine_model.specs.Entries.{MayName, MayPrint}
use Rattle.order_model.specs.Paths.{Closes}
use Rattle.engine_model.proofs.Graphs.{way_begins}
use Rattle.engine_model.specs.Contents.{ContentsInvariant}

module _ (lay : Layout) (sound : Bool) (array : ℕ → List (List ℕ)) (w : World) (c : ContentsInvariant lay sound array w) (p : ℕ) (d : IsData lay p) (dirty : w.dirty (lay.data_page p) ≡ true) where
  pub dirty_no_name : (l : ℕ) → l < lay.blocks → MayName lay w p l → ⊥
  dirty_no_name l lt n = true≢false (sym dirty ∙ ((c.named_data_stands p d).named l lt n).clean)

  pub dirty_no_print : (print : List ℕ) → MayPrint lay w p print → ⊥
  dirty_no_print print n = true≢false (sym dirty ∙ ((c.named_data_stands p d).printed print n).clean)

pub drained_stages : (lay : Layout) (top : ℕ) (w : World) → CountsInvariant lay top w → ((a : ℕ) → w.dirty a ≡ false) → ((a : ℕ) → w.hung a ≡ false)
    → (l p : ℕ) → l < lay.blocks → Queued w.queue l p 0 ⊎ Queued w.queue l p 1 → ⊥
drained_stages lay top w e clean still l p lt (inl q) = true≢false (sym (e.lost_name_owes_release.dirty l p lt q) ∙ clean _)
drained_stages lay top w e clean still l p lt (inr q) = true≢false (sym (e.lost_name_owes_release.hung l p lt q) ∙ still _)

-- no way begins at a settled page
pub settled_open : (lay : Layout) (top : ℕ) (w : World) (a b : ℕ) → CountsInvariant lay top w → w.dirty b ≡ false → a ≢ b → Closes w.live a b → ⊥
settled_open lay top w a b e clean ne (inl same) = ne same
settled_open lay top w a b e clean ne (inr way) = true≢false (sym (e.marks_and_edges.live_before b _ (way_begins way).1) ∙ clean)
