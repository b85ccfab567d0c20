-- A session goes on by bytes of its input.
use Rattle.std.proofs.Common.{◌≡◌, ⊎_elim, ℕ, List, [], ◌∷◌, ◌++◌, length, take, refl, sym, ◌∙◌, ap, subst, arith, length-take}
use Rattle.std.proofs.lemmas.List.{take_all, take-append-le}
use Rattle.std.proofs.lemmas.Bool.{cases_lt}
use Rattle.byte_ports.specs.Sink.{SinkMeaning, Takes, TakesFront, takes_none, takes_then}
use Rattle.trace_text.specs.declared.reply.Reply.{Reply}
use Rattle.trace_text.specs.Texts.{text_of}
use Rattle.array_model.specs.Turns.{Turn, joined, AreLines, lines_of, texts}
use Rattle.array_model.proofs.RunLemmas.{texts-last, lines-last, joined-last, joined-append, lines_more, line_more, no_line, empty_line}
use Rattle.dedup_writer.specs.Core.{calls_in}
use Rattle.session.specs.Answers.{Moment, CommandDone}
use Rattle.session.specs.Chain.{Link, IsChain, turns_of}
use Rattle.session.specs.Session.{kept, Begin, SoFarWith, CutShort}
use Rattle.session.proofs.Chains.{no_chain, next_link, chain_more, turns-last}

-- a byte more is kept
pub kept_more : (begun : List ℕ) (byte : ℕ) → take 8206 (kept begun ++ byte ∷ []) ≡ kept (begun ++ byte ∷ [])
kept_more begun byte = ⊎_elim
    (λ short. ap (λ (l : List ℕ). take 8206 (l ++ byte ∷ [])) (take_all 8206 begun (omega (arith, short))))
    (λ long. take-append-le 8206 (kept begun) (byte ∷ []) (omega (arith, long, length-take 8206 begun))
    ∙ take_all 8206 (kept begun) (omega (arith, length-take 8206 begun)) ∙ sym (take-append-le 8206 begun (byte ∷ []) long))
    (cases_lt (length begun) 8206)

module _ (b : Begin) where
  -- before the first byte
  pub so_far_none : SoFarWith b [] [] b.moment b.sink
  unfolding joined texts
  so_far_none = record {
    begun = [];
    is = refl;
    so_far = record { links = []; chain = no_chain b.moment; split = refl; lines = no_line; open_line = empty_line; put = takes_none b.sink };
  }

  -- a byte that ends no line
  pub byte_more : (bytes line : List ℕ) (byte : ℕ) (now : Moment) (sink : SinkMeaning) → (byte ≡ 10 → ⊥) → SoFarWith b bytes line now sink → SoFarWith b (bytes ++ byte ∷ []) (take 8206 (line ++ byte ∷ [])) now sink
  byte_more bytes line byte now sink apart w =
      let h = w.so_far in
      record {
        begun = w.begun ++ byte ∷ [];
        is = ap (λ (l : List ℕ). take 8206 (l ++ byte ∷ [])) w.is ∙ kept_more w.begun byte;
        so_far = record {
          links = h.links;
          chain = h.chain;
          split = ap (λ (l : List ℕ). l ++ byte ∷ []) h.split ∙ joined-append (lines_of (turns_of h.links)) w.begun (byte ∷ []);
          lines = h.lines;
          open_line = line_more w.begun byte h.open_line apart;
          put = h.put;
        };
      }

  module _ (bytes line : List ℕ) (now later : Moment) (sink put : SinkMeaning) (w : SoFarWith b bytes line now sink) (answer : Reply) (done : CommandDone line answer now later) where
    here : CommandDone (kept w.begun) answer now later
    here = subst (λ (l : List ℕ). CommandDone l answer now later) w.is done

    abbrev link : Link
    link = next_link w.begun answer now later here

    abbrev links : List Link
    links = w.so_far.links

    abbrev all : List Link
    all = links ++ link ∷ []

    chain : IsChain b.moment all later
    chain = chain_more w.begun answer now later here b.moment links w.so_far.chain

    all_lines : lines_of (turns_of all) ≡ lines_of (turns_of links) ++ w.begun ∷ []
    all_lines = ap lines_of (turns-last links link) ∙ lines-last (turns_of links) link.turn

    split : bytes ++ 10 ∷ [] ≡ joined (lines_of (turns_of all)) []
    split = let h = w.so_far in
        ap (λ (l : List ℕ). l ++ 10 ∷ []) h.split ∙ joined-append (lines_of (turns_of links)) w.begun (10 ∷ []) ∙ sym (joined-last (lines_of (turns_of links)) w.begun []) ∙ ap (λ (l : List (List ℕ)). joined l []) (sym all_lines)

    lines : AreLines (lines_of (turns_of all))
    lines = subst AreLines (sym all_lines) (lines_more (lines_of (turns_of links)) w.begun w.so_far.lines w.so_far.open_line)

    -- a line was answered
    pub line_answered : Takes (text_of (calls_in later.store) answer) sink put → SoFarWith b (bytes ++ 10 ∷ []) [] later put
    line_answered taken = record {
      begun = [];
      is = refl;
      so_far = record {
        links = all;
        chain = chain;
        split = split;
        lines = lines;
        open_line = empty_line;
        put = subst (λ (l : List ℕ). Takes l b.sink put) (sym (ap texts (turns-last links link) ∙ texts-last (turns_of links) link.turn)) (takes_then (texts (turns_of links)) (text_of (calls_in later.store) answer) b.sink sink put w.so_far.put taken);
      };
    }

    -- the text of its reply could not be put
    pub line_cut : TakesFront (text_of (calls_in later.store) answer) sink put → CutShort b (bytes ++ 10 ∷ []) later put
    line_cut part = record { links = links; last = link; cut = record { chain = chain; whole = sink; put = w.so_far.put; part = part }; rest = []; split = split; lines = lines }

  -- bytes that were not looked at
  pub cut_longer : (bytes more : List ℕ) (now : Moment) (sink : SinkMeaning) → CutShort b bytes now sink → CutShort b (bytes ++ more) now sink
  cut_longer bytes more now sink c = record {
    links = c.links;
    last = c.last;
    cut = c.cut;
    rest = c.rest ++ more;
    split = ap (λ (l : List ℕ). l ++ more) c.split ∙ joined-append (lines_of (turns_of (c.links ++ c.last ∷ []))) c.rest more;
    lines = c.lines;
  }
