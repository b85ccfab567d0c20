-- A source and a sink in memory, as callers see them, and what one call does to each.
use Rattle.std.specs.Prelude.{ℕ, ◌==◌, min, max, Bool, true, List, ◌++◌, length, drop, Result, Ok, Err}
use Rattle.std.specs.List.{list_any}
use Rattle.page_device.specs.declared.error.Failed.{Failed}
use Rattle.page_device.specs.Counts.{raised}
use Rattle.byte_ports.specs.Source.{SourceMeaning, ends_after}
use Rattle.byte_ports.specs.Sink.{SinkMeaning}

-- whether the call of this number is planned to fail
abbrev pub fails_at : List ℕ → ℕ → Bool
fails_at fails call = list_any (λ k. k == call) fails

-- what callers see of a source in memory
pub record MemSourceView : Type 0 where
  -- the bytes that it has yet to give
  pub left : List ℕ
  -- the most that one call gives, where it is not 0
  pub piece : ℕ
  -- the numbers of the calls that fail
  pub fails : List ℕ
  -- the calls so far
  pub calls : ℕ
  pub faults : ℕ
  pub given : ℕ
  pub ends : ℕ

-- it tells what it has left
abbrev pub source_told : MemSourceView → SourceMeaning
source_told s = record { tells = true; left = s.left; faults = s.faults; given = s.given; ends = s.ends }

-- how many bytes a call gives to a piece of so many
abbrev pub portion : MemSourceView → ℕ → ℕ
portion s size = min (min (max s.piece 1) (length s.left)) size

-- after a call that fails
abbrev pub source_failed : MemSourceView → MemSourceView
source_failed s = record s { calls = raised s.calls 1; faults = raised s.faults 1 }

-- after a call that gave the next bytes to a piece of so many
abbrev pub source_gave : MemSourceView → ℕ → ℕ → MemSourceView
source_gave s bytes size = record s {
  left = drop bytes s.left;
  calls = raised s.calls 1;
  given = raised s.given bytes;
  ends = ends_after s.ends bytes size;
}

-- after a call for a piece of so many bytes, by what it answered
abbrev pub source_after : Result ℕ Failed → ℕ → MemSourceView → MemSourceView
source_after (Ok bytes) size s = source_gave s bytes size
source_after (Err _) size s = source_failed s

-- what callers see of a sink in memory
pub record MemSinkView : Type 0 where
  -- the bytes that it took
  pub held : List ℕ
  -- for how many further bytes there is room
  pub spare : ℕ
  -- the numbers of the calls that fail
  pub fails : List ℕ
  -- the calls so far
  pub calls : ℕ
  pub faults : ℕ

-- it tells what it holds
abbrev pub sink_told : MemSinkView → SinkMeaning
sink_told s = record { tells = true; held = s.held; faults = s.faults }

-- after a call for these bytes, by what it answered, beside the room
abbrev pub sink_after : Result ℕ Failed → List ℕ → MemSinkView → MemSinkView
sink_after (Ok _) bytes s = record s { held = s.held ++ bytes; calls = raised s.calls 1 }
sink_after (Err _) bytes s = record s { calls = raised s.calls 1; faults = raised s.faults 1 }
