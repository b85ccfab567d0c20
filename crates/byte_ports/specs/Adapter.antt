-- What the adapters over std's readers and writers tell.
use Rattle.std.specs.Prelude.{ℕ, Bool, List, [], Option, None, Some}
use Rattle.byte_ports.specs.Source.{SourceMeaning}
use Rattle.byte_ports.specs.Sink.{SinkMeaning}

-- the bytes, where they are known
abbrev pub known : Option (List ℕ) → List ℕ
known None = []
known (Some bytes) = bytes

-- a source over what a reader has left
abbrev pub reader_told : Bool → Option (List ℕ) → ℕ → ℕ → ℕ → SourceMeaning
reader_told tells remaining faults given ends = record {
  tells = tells;
  left = known remaining;
  faults = faults;
  given = given;
  ends = ends;
}

-- a sink over what a writer holds
abbrev pub writer_told : Bool → Option (List ℕ) → ℕ → SinkMeaning
writer_told tells contents faults = record { tells = tells; held = known contents; faults = faults }
