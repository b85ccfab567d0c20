-- A data page that is named, or has a print, on the device: it has one possible content and is no node.
use Rattle.std.proofs.Common.{◌<◌, ℕ, Bool, List}
use Rattle.order_model.specs.World.{Layout, World, IsData}
use Rattle.engine_model.specs.Entries.{MayName, MayPrint}
use Rattle.engine_model.specs.Contents.{ContentsInvariant, IsFixed, NamedFixed, NamedStands, Stands}

abbrev pub Kept : Layout → World → ℕ → Type 0
Kept lay w p = IsFixed lay w p × Stands lay w p

module _ (lay : Layout) (sound : Bool) (array : ℕ → List (List ℕ)) (w : World) (c : ContentsInvariant lay sound array w) (p : ℕ) (d : IsData lay p) where
  pub named_kept : (l : ℕ) → l < lay.blocks → MayName lay w p l → Kept lay w p
  named_kept l lt n = ((c.named_data_fixed p d).named l lt n, (c.named_data_stands p d).named l lt n)

  pub printed_kept : (print : List ℕ) → MayPrint lay w p print → Kept lay w p
  printed_kept print n = ((c.named_data_fixed p d).printed print n, (c.named_data_stands p d).printed print n)

-- both parts of the invariant, from this
pub named_parts : (lay : Layout) (w : World) (p : ℕ) → ((l : ℕ) → l < lay.blocks → MayName lay w p l → Kept lay w p) → ((print : List ℕ) → MayPrint lay w p print → Kept lay w p)
    → NamedFixed lay w p × NamedStands lay w p
named_parts lay w p named printed = (
  record { named = λ l lt n. (named l lt n).0; printed = λ print n. (printed print n).0 },
  record { named = λ l lt n. (named l lt n).1; printed = λ print n. (printed print n).1 },
)
