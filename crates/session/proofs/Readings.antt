-- The pieces of an input make one input.
use Rattle.std.proofs.Common.{◌≡◌, ◌⊎◌, ⊎_elim, ℕ, ◌-◌, ◌<◌, ◌≤◌, ◌∙◌, List, [], ◌++◌, length, refl, sym, ap, subst, arith, append_assoc, length-append, Ok, Err}
use Rattle.std.proofs.lemmas.List.{append-nil}
use Rattle.byte_ports.specs.Source.{SourceMeaning, Gives, gives_none, gives_then}
use Rattle.byte_ports.specs.Sink.{SinkMeaning}
use Rattle.page_device.specs.Counts.{raised}
use Rattle.page_device.specs.declared.error.Failed.{Failed}
use Rattle.session.specs.declared.session.Stop.{Stop}
use Rattle.session.specs.declared.session.Stop.TheVariants as stop
use Rattle.session.specs.Answers.{Moment}
use Rattle.session.specs.Session.{Begin, SoFarWith, CutShort, Goes}
use Rattle.session.specs.Reading.{Reads, ReadsOn, StoppedAt}
use Rattle.session.specs.Endings.{input_limit, AtEnd, NotAtEnd}

-- before the first byte
pub reads_none : (line : List ℕ) (now : Moment) (source : SourceMeaning) (sink : SinkMeaning) → ReadsOn line line now now source source sink sink input_limit
reads_none line now source sink = record {
  bytes = [];
  gives = gives_none source;
  goes = λ b before w. subst (λ (l : List ℕ). SoFarWith b l line now sink) (sym (append-nil before)) w;
  many = refl;
  not_ended = refl;
}

module _ (line0 line1 : List ℕ) (from now : Moment) (source0 source1 : SourceMeaning) (sink0 sink1 : SinkMeaning) (left : ℕ) (r : ReadsOn line0 line1 from now source0 source1 sink0 sink1 left) where
  -- the reading stops without a further byte
  pub reads_stop : (why : Stop) (source2 : SourceMeaning) → Gives [] source1 source2 → ((b : Begin) (bytes : List ℕ) → SoFarWith b bytes line1 now sink1 → StoppedAt why b bytes line1 now sink1)
      → (why ≡ stop.End → AtEnd source1 source2) → ((why ≡ stop.End → ⊥) → NotAtEnd source1 source2) → ((why ≡ stop.End) ⊎ (why ≡ stop.Source) → 0 < left) → (why ≡ stop.Limit → left ≡ 0) → Reads why line0 line1 from now source0 source2 sink0 sink1
  reads_stop why source2 gave so ended not_ended more limit = record {
    bytes = r.bytes;
    gives = subst (λ (l : List ℕ). Gives l source0 source2) (append-nil r.bytes) (gives_then r.bytes [] source0 source1 source2 r.gives gave);
    goes = λ b before w. so b (before ++ r.bytes) (r.goes b before w);
    ended = λ is. let h = ended is in record { nothing_left = h.nothing_left; never_fewer = omega (arith, h.never_fewer, r.not_ended); ends = h.ends ∙ ap (λ (n : ℕ). raised n 1) r.not_ended };
    not_ended = λ other. not_ended other ∙ r.not_ended;
    few = λ why. omega (arith, r.many, more why);
    limit = λ is. omega (arith, r.many, limit is);
  }

  module _ (chunk : List ℕ) (line2 : List ℕ) (later : Moment) (source2 : SourceMeaning) (sink2 : SinkMeaning) (gave : Gives chunk source1 source2) (no_end : NotAtEnd source1 source2) where
    gives : Gives (r.bytes ++ chunk) source0 source2
    gives = gives_then r.bytes chunk source0 source1 source2 r.gives gave

    -- a further piece was answered
    pub reads_more : (taken : ℕ) → length chunk ≡ taken → taken ≤ left → ((b : Begin) (bytes : List ℕ) → Goes {E = Failed} b bytes chunk (Ok tt) line1 line2 now later sink1 sink2)
        → ReadsOn line0 line2 from later source0 source2 sink0 sink2 (left - taken)
    reads_more taken many few goes = record {
      bytes = r.bytes ++ chunk;
      gives = gives;
      goes = λ b before w. subst (λ (l : List ℕ). SoFarWith b l line2 later sink2) (append_assoc before r.bytes chunk) (goes b (before ++ r.bytes) (r.goes b before w));
      many = omega (arith, length-append r.bytes chunk, r.many, many, few);
      not_ended = no_end ∙ r.not_ended;
    }

    -- a text could not be put
    pub reads_cut : (failed : Failed) → ((b : Begin) (bytes : List ℕ) → Goes b bytes chunk (Err failed) line1 line2 now later sink1 sink2)
        → Reads stop.Sink line0 line2 from later source0 source2 sink0 sink2
    reads_cut failed goes = record {
      bytes = r.bytes ++ chunk;
      gives = gives;
      goes = λ b before w. subst (λ (l : List ℕ). CutShort b l later sink2) (append_assoc before r.bytes chunk) (goes b (before ++ r.bytes) (r.goes b before w));
      ended = λ is. absurd (cc is);
      not_ended = λ _. no_end ∙ r.not_ended;
      few = λ why. ⊎_elim (λ is. absurd (cc is)) (λ is. absurd (cc is)) why;
      limit = λ is. absurd (cc is);
    }
