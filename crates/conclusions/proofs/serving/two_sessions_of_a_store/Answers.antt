use Rattle.std.proofs.Common.{ℕ, List, ◌++◌, ◌∙◌, ap, subst, length, append_assoc}
use Rattle.array_model.specs.Turns.{texts}
use Rattle.session.specs.declared.status.Status.{Status}
use Rattle.session.specs.Chain.{turns_of}
use Rattle.session.specs.Endings.{Ended}
use Rattle.conclusions.specs.Sentences.{AreTexts}
use Rattle.conclusions.proofs.Turns.{texts_are, texts_then}
use Rattle.conclusions.proofs.Served.{done_texts}
use Rattle.conclusions.proofs.serving.two_sessions_of_a_store.Goals as goal

pub returns : goal.returns
returns g c = λ one_done two_done.
    let seen = g.K.Sink.seen in
    let sink = seen c.args.sink.now in
    let middle = seen c.serve_trace-one.new.sink in
    let sink' = seen c.serve_trace-two.new.sink in
    let first = g.S.Source.seen c.args.first.now in
    let first' = g.S.Source.seen c.serve_trace-one.new.source in
    let second = g.S.Source.seen c.args.second.now in
    let second' = g.S.Source.seen c.serve_trace-two.new.source in
    let a = c.serve_trace-one.ensures.served.answered in
    let b = c.serve_trace-two.ensures.served.answered in
    let some = turns_of a.links in
    let more = turns_of b.links in
    let h = done_texts a.bytes some a.close first first' sink middle a.gives c.requires.first (subst (λ (status : Status). Ended a.bytes some a.close status first first' sink middle) one_done a.ended) in
    let k = done_texts b.bytes more b.close second second' middle sink' b.gives c.requires.second (subst (λ (status : Status). Ended b.bytes more b.close status second second' middle sink') two_done b.ended) in
    let tells = h.1.tells ∙ c.requires.sink in
    let texts_one = subst (λ (lines : List (List ℕ)). AreTexts (length lines) (texts some)) h.0 (texts_are some) in
    let texts_two = subst (λ (lines : List (List ℕ)). AreTexts (length lines) (texts more)) k.0 (texts_are more) in
    (texts some ++ texts more, k.1.held tells ∙ ap (λ (l : List ℕ). l ++ texts more) (h.1.held c.requires.sink) ∙ append_assoc sink.held (texts some) (texts more), texts_then _ _ (texts some) (texts more) texts_one texts_two)
