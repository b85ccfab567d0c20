-- The totals of the counts and names of the tables in memory.
use Rattle.std.specs.Prelude.{◌≡◌, ◌≢◌, ◌+◌, ◌-◌, ◌<◌, ℕ, Bool, cond, eqb, min, not}
use Rattle.order_model.specs.Counting.{count_below, sum_below}
use Rattle.order_model.specs.World.{IsData, Layout, World}
use Rattle.engine_model.specs.Entries.{cached_count, cached_name}
use Rattle.engine_model.specs.Tight.{live_pages}
use Rattle.store_core.specs.declared.totals.Totals.{Totals}

pub record AreTotals (lay : Layout) (w : World) (t : Totals) : Type 0 where
  pub live : t.live ≡ live_pages lay w
  pub sum : t.sum ≡ sum_below (λ i. cached_count lay w (i + 1)) lay.pages
  pub mapped : t.mapped ≡ count_below (λ l. not (eqb (cached_name lay w l) 0)) lay.blocks

-- no number is at its end
pub record AreFew (t : Totals) : Type 0 where
  pub live : t.live < 4294967295
  pub sum : t.sum < 18446744073709551615
  pub mapped : t.mapped < 4294967295

abbrev pub with_raised : Bool → Totals → Totals
with_raised first t = record { live = cond first (min (t.live + 1) 4294967295) t.live; sum = min (t.sum + 1) 18446744073709551615; mapped = t.mapped }

abbrev pub with_lowered : ℕ → ℕ → Totals → Totals
with_lowered counts pages t = record { live = t.live - pages; sum = t.sum - counts; mapped = t.mapped }

abbrev pub with_renamed : ℕ → ℕ → Totals → Totals
with_renamed was now t = record { live = t.live; sum = t.sum; mapped = cond (eqb was 0) (cond (eqb now 0) t.mapped (min (t.mapped + 1) 4294967295)) (cond (eqb now 0) (t.mapped - 1) t.mapped) }

abbrev pub waste_of : ℕ → Totals → ℕ
waste_of postponed t = t.sum - t.mapped - postponed

-- of the counts and names that of one data page may change
pub record Recounts (lay : Layout) (p : ℕ) (v w : World) : Type 0 where
  pub others : (q : ℕ) → IsData lay q → q ≢ p → cached_count lay w q ≡ cached_count lay v q
  pub names : (l : ℕ) → l < lay.blocks → cached_name lay w l ≡ cached_name lay v l

-- and of them that of one block
pub record Renames (lay : Layout) (l : ℕ) (v w : World) : Type 0 where
  pub others : (k : ℕ) → k < lay.blocks → k ≢ l → cached_name lay w k ≡ cached_name lay v k
  pub counts : (q : ℕ) → IsData lay q → cached_count lay w q ≡ cached_count lay v q
