-- Which replies fit a command, by cases and no others.
use Rattle.std.specs.Prelude.{◌≡◌, ◌⊎◌, ℕ, ◌+◌, ◌<◌, ◌≤◌, ◌==◌, Bool, List, if◌then◌else◌}
use Rattle.std.specs.List.{list_any}
use Rattle.page_device.specs.Block.{Block}
use Rattle.trace_text.specs.declared.command.Command.{Command}
use Rattle.trace_text.specs.declared.command.Command.TheVariants.{Write, Fill, Read, Discard, Copy, Flush, Scan, Stat, Policy, Tune, Tick}
use Rattle.trace_text.specs.declared.reply.Reply.{Reply}
use Rattle.trace_text.specs.declared.reply.Reply.TheVariants as reply
use Rattle.array_model.specs.Array.{BlockArray, last}

-- `range` exactly where the block is not below the number of blocks, and otherwise what fits
abbrev pub OnBlock : ℕ → ℕ → Reply → Type 0 → Type 0
OnBlock blocks block r P = (block < blocks → P) × (blocks ≤ block → r ≡ reply.Range)

-- what may stop each command that reads tables
abbrev pub IsHalt : Reply → Type 0
IsHalt reply.Fault = Unit {0}
IsHalt (reply.Damaged damage) = Unit {0}
IsHalt reply.NoMemory = Unit {0}
IsHalt r = ⊥

abbrev pub FitsWrite : Reply → Type 0
FitsWrite reply.Done = Unit {0}
FitsWrite (reply.Full live waste) = Unit {0}
FitsWrite r = IsHalt r

-- a read gives a content of this kind
abbrev pub FitsBytes : (Block → Type 0) → Reply → Type 0
FitsBytes P (reply.Bytes page) = P page
FitsBytes P r = IsHalt r

-- a read gives this content
abbrev pub FitsRead : Block → Reply → Type 0
FitsRead content r = FitsBytes (λ page. page ≡ content) r

abbrev pub FitsDiscard : Reply → Type 0
FitsDiscard reply.Done = Unit {0}
FitsDiscard r = IsHalt r

-- one range of blocks reaches past the end, and two ranges share a block
abbrev pub PastEnd : ℕ → ℕ → ℕ → ℕ → Type 0
PastEnd blocks from to n = (blocks < from + n) ⊎ (blocks < to + n)

abbrev pub Overlaps : ℕ → ℕ → ℕ → Type 0
Overlaps from to n = (from < to + n) × (to < from + n)

abbrev pub FitsCopied : ℕ → Reply → Type 0
FitsCopied n reply.Done = Unit {0}
FitsCopied n (reply.Stopped done why) = done < n
FitsCopied n r = ⊥

pub record FitsCopy (blocks from to n : ℕ) (r : Reply) : Type 0 where
  pub range : PastEnd blocks from to n → r ≡ reply.Range
  pub overlap : ¬ PastEnd blocks from to n → Overlaps from to n → r ≡ reply.Overlap
  pub copied : ¬ PastEnd blocks from to n → ¬ Overlaps from to n → FitsCopied n r

abbrev pub FitsScan : Reply → Type 0
FitsScan (reply.Scan report) = Unit {0}
FitsScan r = IsHalt r

abbrev pub FitsStat : Reply → Type 0
FitsStat (reply.Stat stat) = Unit {0}
FitsStat r = ⊥

-- an unused policy has the label
abbrev pub has_label : List ℕ → ℕ → Bool
has_label unused label = list_any (λ k. k == label) unused

-- the reply fits the command over so many blocks, where these labels of policies are unused, and where a read of a block may give
-- these contents
unfoldable pub FitsWith : (ℕ → Block → Type 0) → ℕ → List ℕ → Command → Reply → Type 0
FitsWith Reads blocks unused (Write block number) r = OnBlock blocks block r (FitsWrite r)
FitsWith Reads blocks unused (Fill block page) r = OnBlock blocks block r (FitsWrite r)
FitsWith Reads blocks unused (Read block) r = OnBlock blocks block r (FitsBytes (Reads block) r)
FitsWith Reads blocks unused (Discard block) r = OnBlock blocks block r (FitsDiscard r)
FitsWith Reads blocks unused (Copy from to n) r = FitsCopy blocks from to n r
FitsWith Reads blocks unused Flush r = (r ≡ reply.Done) ⊎ (r ≡ reply.Fault)
FitsWith Reads blocks unused Scan r = FitsScan r
FitsWith Reads blocks unused Stat r = FitsStat r
FitsWith Reads blocks unused (Policy label) r = r ≡ (if has_label unused label then reply.Done else reply.NoPolicy)
FitsWith Reads blocks unused (Tune n) r = r ≡ reply.Done
FitsWith Reads blocks unused Tick r = r ≡ reply.Done

-- over an array a read gives the last content of its block
abbrev pub FitsReply : ℕ → List ℕ → BlockArray → Command → Reply → Type 0
FitsReply blocks unused a command r = FitsWith (λ block page. page ≡ last a block) blocks unused command r

-- whatever the blocks hold: a read may give any content
abbrev pub FitsPlain : ℕ → List ℕ → Command → Reply → Type 0
FitsPlain blocks unused command r = FitsWith (λ block page. Unit {0}) blocks unused command r
