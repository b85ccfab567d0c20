-- What the turns of a session with status 0 say, where its lines are known.
use Rattle.std.proofs.Common.{◌≡◌, ⊎_elim, ℕ, zero, suc, ◌+◌, ◌<◌, ◌≤◌, ◌^◌, min, true, List, [], ◌∷◌, ◌++◌, length, length-append, append_assoc, refl, sym, ◌∙◌, ap, subst, arith, lit<, Result, Ok}
use Rattle.std.specs.Fmt.{digits}
use Rattle.std.proofs.lemmas.List.{append-nil}
use Rattle.byte_ports.specs.Source.{SourceMeaning}
use Rattle.byte_ports.specs.Sink.{SinkMeaning, Takes}
use Rattle.page_device.specs.declared.device.LogEntry.{LogEntry}
use Rattle.page_device.specs.Gains.{Gains}
use Rattle.page_device.specs.Meaning.{Meaning}
use Rattle.page_layout.specs.Shape.{ShapeView}
use Rattle.trace_text.specs.declared.command.Command.{Command}
use Rattle.trace_text.specs.declared.command.Command.TheVariants.{Read, Flush}
use Rattle.trace_text.specs.declared.reply.Reply.{Reply}
use Rattle.trace_text.specs.declared.reply.Reply.TheVariants as reply
use Rattle.trace_text.specs.Grammar.{IsCommand}
use Rattle.trace_text.specs.Texts.{line_of, text_of}
use Rattle.array_model.specs.Replies.{FitsPlain, FitsWith}
use Rattle.array_model.specs.Turns.{Asked, bad, known, Asks, FitsAskedWith, Turn, lines_of, lines_in, parts_of, texts}
use Rattle.session.specs.Answers.{is_built, no_policies, shape_rules}
use Rattle.session.specs.Chain.{turns_of, ArePlain, EachAnswer, IsSure, fault_count, fault_replies, FaultsCounted, AreNumbered, turn_calls}
use Rattle.session.specs.Flat.{DoneSession}
use Rattle.conclusions.specs.Sentences.{AreTexts, PutsReply}

-- the line is this command, and no other
pub record IsOnly (line : List ℕ) (command : Command) : Type 0 where
  pub is : IsCommand line command
  pub built : is_built command ≡ true
  pub only : (other : Command) → IsCommand line other → command ≡ other

pub only_of : {E : Type 0} (line : List ℕ) (command : Command) (read : Result Command E) → IsCommand line command → is_built command ≡ true → ((other : Command) → IsCommand line other → read ≡ Ok other) → IsOnly line command
only_of line command read is built reads = record { is = is; built = built; only = λ other h. cc (sym (reads command is) ∙ reads other h) }

pub asked_is : (shape : ShapeView) (line : List ℕ) (command : Command) → IsOnly line command → (asked : Asked) → Asks (shape_rules shape) line asked → asked ≡ known command
asked_is shape line command o bad asks = absurd (asks command o.built o.is)
asked_is shape line command o (known other) asks = ap known (sym (o.only other asks.0))

-- turns of one line, and of two
pub one_turn : (line : List ℕ) (turns : List Turn) → lines_of turns ≡ line ∷ [] → (t : Turn) × (turns ≡ t ∷ []) × (t.line ≡ line)
one_turn line [] lines = absurd (cc lines)
one_turn line (t ∷ []) lines = (t, refl, cc lines)
one_turn line (t ∷ u ∷ rest) lines = absurd (cc lines)

pub two_turns : (line next : List ℕ) (turns : List Turn) → lines_of turns ≡ line ∷ next ∷ [] → (t : Turn) × (u : Turn) × (turns ≡ t ∷ u ∷ []) × (t.line ≡ line) × (u.line ≡ next)
two_turns line next [] lines = absurd (cc lines)
two_turns line next (t ∷ []) lines = absurd (cc lines)
two_turns line next (t ∷ u ∷ []) lines = (t, u, refl, cc lines, cc lines)
two_turns line next (t ∷ u ∷ v ∷ rest) lines = absurd (cc lines)

-- a session of one command, over whatever device
pub record OneSaid (shape : ShapeView) (command : Command) (turns : List Turn) (calls : List LogEntry) (d d' : Meaning) (sink sink' : SinkMeaning) : Type 0 where
  pub turn : Turn
  pub one : turns ≡ turn ∷ []
  pub asked : turn.asked ≡ known command
  pub plain : FitsPlain shape.blocks no_policies command turn.answer
  pub sure : IsSure shape.pages turn.answer
  pub counted : d'.faults + 1 < 2 ^ 64 → d.faults + fault_count turn.answer ≤ d'.faults
  pub number : turn.at ≡ min (0 + length turn.calls) 18446744073709551615
  pub gains : Gains (turn.calls ++ calls) d d'
  pub put : Takes (text_of turn.at turn.answer) sink sink'

module _ (line : List ℕ) (command : Command) (o : IsOnly line command) (d d' : Meaning) (source source' : SourceMeaning) (sink sink' : SinkMeaning) (h : DoneSession d d' source source' sink sink') where
  pub one_said : source.tells ≡ true → lines_in source.left ≡ line ∷ [] → OneSaid h.shape command (turns_of h.links) h.calls d d' sink sink'
  unfolding ArePlain EachAnswer fault_replies AreNumbered turn_calls texts
  one_said tells lines =
      let t = one_turn line (turns_of h.links) (h.input tells ∙ lines) in
      let plain = subst (ArePlain (shape_rules h.shape)) t.1 h.plain in
      let asked : t.0.asked ≡ known command = asked_is h.shape line command o t.0.asked (subst (λ (l : List ℕ). Asks (shape_rules h.shape) l t.0.asked) t.2 plain.0) in
      let faulted = subst (FaultsCounted d d') t.1 h.faulted in
      record {
        turn = t.0;
        one = t.1;
        asked = asked;
        plain = subst (λ (a : Asked). FitsAskedWith (λ block page. Unit {0}) (shape_rules h.shape) no_policies a t.0.answer) asked plain.1;
        sure = (subst (EachAnswer (IsSure h.shape.pages)) t.1 h.sure).0;
        counted = λ few. omega (arith, faulted few);
        number = (subst (AreNumbered 0) t.1 h.numbered).0;
        gains = subst (λ (l : List LogEntry). Gains (l ++ h.calls) d d') (append-nil t.0.calls) (subst (λ (ts : List Turn). Gains (turn_calls ts ++ h.calls) d d') t.1 h.gains);
        put = subst (λ (l : List ℕ). Takes l sink sink') (append-nil (text_of t.0.at t.0.answer)) (subst (λ (ts : List Turn). Takes (texts ts) sink sink') t.1 h.put);
      }

-- its text was put
pub puts_reply : (shape : ShapeView) (command : Command) (turns : List Turn) (calls : List LogEntry) (d d' : Meaning) (sink sink' : SinkMeaning) (o : OneSaid shape command turns calls d d' sink sink') (r : Reply) → sink.tells ≡ true → o.turn.answer ≡ r → PutsReply r d d' sink sink'
puts_reply shape command turns calls d d' sink sink' o r tells is = record {
  at = o.turn.at;
  held = o.put.held tells ∙ ap (λ (q : Reply). sink.held ++ text_of o.turn.at q) is;
  made = λ log few. omega (arith, ap length (o.gains.log log few), length-append d.log (o.turn.calls ++ calls), length-append o.turn.calls calls, o.number);
}

pub texts_are : (turns : List Turn) → AreTexts (length (lines_of turns)) (texts turns)
unfolding AreTexts texts
texts_are [] = refl
texts_are (turn ∷ turns) = (turn.at, turn.answer, texts turns, refl, texts_are turns)

-- some texts, and then more
pub texts_then : (n m : ℕ) (some more : List ℕ) → AreTexts n some → AreTexts m more → AreTexts (n + m) (some ++ more)
unfolding AreTexts
texts_then zero m some more h k =
    let same : m ≡ 0 + m = omega arith in
    subst (λ (n : ℕ). AreTexts n (some ++ more)) same (subst (AreTexts m) (sym (ap (λ (l : List ℕ). l ++ more) h)) k)
texts_then (suc n) m some more h k =
    let same : suc (n + m) ≡ suc n + m = omega arith in
    let texts : AreTexts (suc (n + m)) (some ++ more) = (h.0, h.1, h.2 ++ more, ap (λ (l : List ℕ). l ++ more) h.3 ∙ append_assoc (text_of h.0 h.1) h.2 more, texts_then n m h.2 more h.4 k) in
    subst (λ (l : ℕ). AreTexts l (some ++ more)) same texts

-- the lines of the inputs
pub read_four : lines_in (114 ∷ 32 ∷ 52 ∷ 10 ∷ []) ≡ (114 ∷ 32 ∷ 52 ∷ []) ∷ []
unfolding parts_of
read_four = refl

pub a_flush : lines_in (102 ∷ 10 ∷ []) ≡ (102 ∷ []) ∷ []
unfolding parts_of
a_flush = refl

pub is_read_four : IsCommand (114 ∷ 32 ∷ 52 ∷ []) (Read 4)
unfolding IsCommand line_of digits
is_read_four = (refl, lit< tt)

pub is_flush : IsCommand (102 ∷ []) Flush
unfolding IsCommand line_of
is_flush = refl

-- what the reply is
pub past_the_end : (shape : ShapeView) (turns : List Turn) (calls : List LogEntry) (d d' : Meaning) (sink sink' : SinkMeaning) → shape.blocks ≡ 4 → (o : OneSaid shape (Read 4) turns calls d d' sink sink') → o.turn.answer ≡ reply.Range
unfolding FitsWith
past_the_end shape turns calls d d' sink sink' four o = o.plain.1 (omega (arith, four))

pub flush_is_done : (shape : ShapeView) (turns : List Turn) (calls : List LogEntry) (d d' : Meaning) (sink sink' : SinkMeaning) → d'.faults ≡ d.faults → d'.faults + 1 < 2 ^ 64 → (o : OneSaid shape Flush turns calls d d' sink sink') → o.turn.answer ≡ reply.Done
unfolding FitsWith
flush_is_done shape turns calls d d' sink sink' same few o = ⊎_elim (λ done. done) (λ fault. absurd (omega (arith, same, o.counted few, ap fault_count fault))) o.plain
