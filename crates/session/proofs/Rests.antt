-- The end of an input: a rest that no LF ends.
use Rattle.std.proofs.lemmas.List.{append-nil}
use Rattle.std.proofs.Common.{◌≡◌, ℕ, List, [], ◌∷◌, ◌++◌, length, refl, sym, ◌∙◌, ap, subst, arith, length-take, Result, Ok, Err}
use Rattle.byte_ports.specs.Sink.{SinkMeaning, Takes, TakesFront, takes_then}
use Rattle.trace_text.specs.declared.reply.Reply.{Reply}
use Rattle.trace_text.specs.Texts.{text_of}
use Rattle.array_model.specs.Turns.{Turn, lines_of, last_line, lines_in, texts}
use Rattle.array_model.proofs.RunLemmas.{texts-last, lines-last}
use Rattle.dedup_writer.specs.Core.{calls_in}
use Rattle.session.specs.Answers.{Moment, CommandDone, TurnDone}
use Rattle.session.specs.Chain.{Link, IsChain, turns_of}
use Rattle.session.specs.Session.{kept, Begin, SoFarWith}
use Rattle.session.specs.Endings.{AllAnswered, RestCut, RestAnswered}
use Rattle.session.proofs.Chains.{next_link, chain_more, turns-last}
use Rattle.session.proofs.Lines.{last_is, lines_are}

-- of a line that is not empty something is kept
none_kept : (begun : List ℕ) → length (kept begun) ≡ 0 → begun ≡ []
none_kept [] is = refl
none_kept (byte ∷ begun) is = absurd (omega (arith, is, length-take 8206 (byte ∷ begun)))

module _ (b : Begin) (bytes line : List ℕ) (now : Moment) (sink : SinkMeaning) (w : SoFarWith b bytes line now sink) where
  -- no line is begun
  pub all_ended_lines : length line ≡ 0 → AllAnswered b bytes now sink
  all_ended_lines empty =
      let h = w.so_far in
      let nothing : w.begun ≡ [] = none_kept w.begun (sym (ap length w.is) ∙ empty) in
      let lines = lines_of (turns_of h.links) in
      record {
        links = h.links;
        chain = h.chain;
        lines = sym (lines_are bytes lines w.begun h.split h.lines h.open_line ∙ ap (λ (l : List ℕ). lines ++ last_line l) nothing ∙ append-nil lines);
        put = h.put;
      }

  module _ (later : Moment) (put : SinkMeaning) (some : ¬ (length line ≡ 0)) (answer : Reply) (done : CommandDone line answer now later) where
    here : CommandDone (kept w.begun) answer now later
    here = subst (λ (l : List ℕ). CommandDone l answer now later) w.is done

    abbrev link : Link
    link = next_link w.begun answer now later here

    abbrev links : List Link
    links = w.so_far.links

    chain : IsChain b.moment (links ++ link ∷ []) later
    chain = chain_more w.begun answer now later here b.moment links w.so_far.chain

    lines : lines_of (turns_of (links ++ link ∷ [])) ≡ lines_in bytes
    lines = let h = w.so_far in
        ap lines_of (turns-last links link)
        ∙ lines-last (turns_of links) link.turn
        ∙ ap (λ (l : List (List ℕ)). lines_of (turns_of links) ++ l) (sym (last_is w.begun (λ is. some (ap length w.is ∙ ap (λ (l : List ℕ). length (kept l)) is))))
        ∙ sym (lines_are bytes (lines_of (turns_of links)) w.begun h.split h.lines h.open_line)

    -- the line that is begun was answered
    pub rest_answered : Takes (text_of (calls_in later.store) answer) sink put → AllAnswered b bytes later put
    rest_answered taken = record {
      links = links ++ link ∷ [];
      chain = chain;
      lines = lines;
      put = subst (λ (l : List ℕ). Takes l b.sink put) (sym (ap texts (turns-last links link) ∙ texts-last (turns_of links) link.turn)) (takes_then (texts (turns_of links)) (text_of (calls_in later.store) answer) b.sink sink put w.so_far.put taken);
    }

    pub rest_cut : TakesFront (text_of (calls_in later.store) answer) sink put → RestCut b bytes later put
    rest_cut part = record { links = links; last = link; cut = record { chain = chain; whole = sink; put = w.so_far.put; part = part }; lines = lines }

  -- the line that is begun had its turn
  pub rest_turn : {E : Type 0} (result : Result Unit E) (later : Moment) (put : SinkMeaning) → ¬ (length line ≡ 0) → TurnDone line result now later sink put → RestAnswered result b bytes later put
  rest_turn (Ok _) later put some done = rest_answered later put some done.answer done.command done.put
  rest_turn (Err _) later put some done = rest_cut later put some done.answer done.command done.put
