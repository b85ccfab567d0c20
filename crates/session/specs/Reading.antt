-- What is read of the input.
use Rattle.std.specs.Prelude.{◌≡◌, ◌⊎◌, ℕ, ◌+◌, ◌<◌, List, ◌++◌, length}
use Rattle.byte_ports.specs.Source.{SourceMeaning, Gives}
use Rattle.byte_ports.specs.Sink.{SinkMeaning}
use Rattle.session.specs.declared.session.Stop.{Stop}
use Rattle.session.specs.declared.session.Stop.TheVariants as stop
use Rattle.session.specs.Answers.{Moment}
use Rattle.session.specs.Session.{Begin, SoFarWith, CutShort}
use Rattle.session.specs.Endings.{input_limit, AtEnd, NotAtEnd}

-- where the reading stopped: in each case but a failed text, all that was taken was answered
abbrev pub StoppedAt : Stop → Begin → List ℕ → List ℕ → Moment → SinkMeaning → Type 0
StoppedAt stop.Sink b bytes line now sink = CutShort b bytes now sink
StoppedAt stop.End b bytes line now sink = SoFarWith b bytes line now sink
StoppedAt stop.Source b bytes line now sink = SoFarWith b bytes line now sink
StoppedAt stop.Limit b bytes line now sink = SoFarWith b bytes line now sink

-- these bytes were taken, and answered as far as the reading came
pub record Reads (why : Stop) (line line' : List ℕ) (from to : Moment) (source source' : SourceMeaning) (sink sink' : SinkMeaning) : Type 0 where
  pub bytes : List ℕ
  pub gives : Gives bytes source source'
  pub goes : (b : Begin) (before : List ℕ) → SoFarWith b before line from sink → StoppedAt why b (before ++ bytes) line' to sink'
  pub ended : why ≡ stop.End → AtEnd source source'
  pub not_ended : (why ≡ stop.End → ⊥) → NotAtEnd source source'
  pub few : (why ≡ stop.End) ⊎ (why ≡ stop.Source) → length bytes < input_limit
  pub limit : why ≡ stop.Limit → length bytes ≡ input_limit

-- the same, while it goes on
pub record ReadsOn (line line' : List ℕ) (from to : Moment) (source source' : SourceMeaning) (sink sink' : SinkMeaning) (left : ℕ) : Type 0 where
  pub bytes : List ℕ
  pub gives : Gives bytes source source'
  pub goes : (b : Begin) (before : List ℕ) → SoFarWith b before line from sink → SoFarWith b (before ++ bytes) line' to sink'
  pub many : length bytes + left ≡ input_limit
  pub not_ended : NotAtEnd source source'
