use Rattle.std.proofs.Common.{ℕ, List, subst, length}
use Rattle.array_model.specs.Turns.{texts}
use Rattle.session.specs.Chain.{turns_of}
use Rattle.conclusions.specs.Sentences.{AreTexts}
use Rattle.conclusions.proofs.Turns.{texts_are}
use Rattle.conclusions.proofs.lines.one_text_a_line.Goals as goal

pub returns : goal.returns
returns g c = λ is.
    let h = c.serve.ensures.done is in
    let turns = turns_of h.links in
    (texts turns, h.put.held c.requires.sink, subst (λ (lines : List (List ℕ)). AreTexts (length lines) (texts turns)) (h.input c.requires.source) (texts_are turns))
