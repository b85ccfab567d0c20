use Rattle.std.proofs.Common.{ap, arith, length, length-append}
use Rattle.array_model.specs.Turns.{texts, lines_of}
use Rattle.session.specs.Chain.{turns_of}
use Rattle.conclusions.proofs.Turns.{texts_are}
use Rattle.conclusions.proofs.Served.{cut_ends}
use Rattle.conclusions.proofs.lines.cut_texts.Goals as goal

pub returns : goal.returns
returns g c = λ is.
    let h = c.serve.ensures.cut is in
    let turns = turns_of h.links in
    record {
      front = h.front.front;
      rest = h.front.rest;
      n = length (lines_of turns);
      held = h.front.takes.held c.requires.sink;
      replies = texts turns;
      texts = texts_are turns;
      few = λ tells. let lines = h.lines tells in omega (arith, ap length lines.1, length-append (lines_of turns) lines.0);
      last = h.last;
      ends = cut_ends _ _ _ _ _ _ h.links h.last h.cut;
      split = h.front.split;
    }
