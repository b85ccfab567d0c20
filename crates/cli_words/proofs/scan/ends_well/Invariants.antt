use Rattle.std.proofs.Common.{◌≡◌, drop, map, string_bytes}
use Rattle.cli_words.specs.Scan.{ends_well}
use Rattle.cli_words.proofs.scan.ends_well.Given as goal

-- the rest ends well exactly where all words do
abbrev pub invariant-loop-word : goal.invariant-loop-word
invariant-loop-word l = ends_well l.scan (map string_bytes (drop l.word-index l.words)) ≡ ends_well l.fn.start (map string_bytes l.words)
