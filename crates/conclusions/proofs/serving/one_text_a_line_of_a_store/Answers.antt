use Rattle.std.proofs.Common.{ℕ, List, subst, length}
use Rattle.array_model.specs.Turns.{texts}
use Rattle.session.specs.declared.status.Status.{Status}
use Rattle.session.specs.Chain.{turns_of}
use Rattle.session.specs.Endings.{Ended}
use Rattle.conclusions.specs.Sentences.{AreTexts}
use Rattle.conclusions.proofs.Turns.{texts_are}
use Rattle.conclusions.proofs.Served.{done_texts}
use Rattle.conclusions.proofs.serving.one_text_a_line_of_a_store.Goals as goal

pub returns : goal.returns
returns g c = λ is.
    let source = g.S.Source.seen c.args.source.now in
    let source' = g.S.Source.seen c.serve_trace.new.source in
    let sink = g.K.Sink.seen c.args.sink.now in
    let sink' = g.K.Sink.seen c.serve_trace.new.sink in
    let a = c.serve_trace.ensures.served.answered in
    let turns = turns_of a.links in
    let h = done_texts a.bytes turns a.close source source' sink sink' a.gives c.requires.source (subst (λ (status : Status). Ended a.bytes turns a.close status source source' sink sink') is a.ended) in
    (texts turns, h.1.held c.requires.sink, subst (λ (lines : List (List ℕ)). AreTexts (length lines) (texts turns)) h.0 (texts_are turns))
