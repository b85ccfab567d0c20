-- A reply that fits, fits where a read may give more.
use Rattle.std.specs.Prelude.{ℕ, ◌<◌, ◌≤◌, List}
use Rattle.page_device.specs.Block.{Block}
use Rattle.trace_text.specs.declared.command.Command.{Command}
use Rattle.trace_text.specs.declared.command.Command.TheVariants.{Write, Fill, Read, Discard, Copy, Flush, Scan, Stat, Policy, Tune, Tick}
use Rattle.trace_text.specs.declared.reply.Reply.{Reply}
use Rattle.trace_text.specs.declared.reply.Reply.TheVariants as reply
use Rattle.array_model.specs.Replies.{FitsWith, FitsBytes}
use Rattle.array_model.specs.Turns.{Asked, bad, known, Rules, FitsAskedWith}

pub bytes_weaker : (P Q : Block → Type 0) (r : Reply) → ((page : Block) → P page → Q page) → FitsBytes P r → FitsBytes Q r
bytes_weaker P Q (reply.Bytes page) more h = more page h
bytes_weaker P Q reply.Done more h = h
bytes_weaker P Q reply.Range more h = h
bytes_weaker P Q reply.Fault more h = h
bytes_weaker P Q (reply.Damaged damage) more h = h
bytes_weaker P Q (reply.Full live waste) more h = h
bytes_weaker P Q reply.NoMemory more h = h
bytes_weaker P Q (reply.Stat stat) more h = h
bytes_weaker P Q (reply.Scan report) more h = h
bytes_weaker P Q reply.NoPolicy more h = h
bytes_weaker P Q reply.Bad more h = h
bytes_weaker P Q reply.Overlap more h = h
bytes_weaker P Q (reply.Stopped done why) more h = h

module _ (P Q : ℕ → Block → Type 0) (more : (block : ℕ) (page : Block) → P block page → Q block page) where
  pub fits_weaker : (blocks : ℕ) (unused : List ℕ) (command : Command) (r : Reply) → FitsWith P blocks unused command r → FitsWith Q blocks unused command r
  unfolding FitsWith
  fits_weaker blocks unused (Write block number) r h = h
  fits_weaker blocks unused (Fill block page) r h = h
  fits_weaker blocks unused (Read block) r h = (λ lt. bytes_weaker (P block) (Q block) r (more block) (h.0 lt), h.1)
  fits_weaker blocks unused (Discard block) r h = h
  fits_weaker blocks unused (Copy from to n) r h = h
  fits_weaker blocks unused Flush r h = h
  fits_weaker blocks unused Scan r h = h
  fits_weaker blocks unused Stat r h = h
  fits_weaker blocks unused (Policy label) r h = h
  fits_weaker blocks unused (Tune n) r h = h
  fits_weaker blocks unused Tick r h = h

  pub asked_weaker : (rules : Rules) (unused : List ℕ) (asked : Asked) (r : Reply) → FitsAskedWith P rules unused asked r → FitsAskedWith Q rules unused asked r
  asked_weaker rules unused bad r h = h
  asked_weaker rules unused (known command) r h = fits_weaker rules.blocks unused command r h
