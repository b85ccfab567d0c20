use Rattle.std.proofs.Common.{◌≡◌, ⊎_elim, inl, inr, ◌++◌, true, ◌∙◌, ap, subst, refl, ℕ, List, Result, Ok, Err}
use Rattle.std.specs.Prelude.{IfOk}
use Rattle.byte_ports.specs.Sink.{SinkMeaning}
use Rattle.page_device.specs.declared.error.Failed.{Failed}
use Rattle.trace_text.specs.Texts.{text_of}
use Rattle.trace_text.specs.declared.command.Command.TheVariants.{Flush}
use Rattle.trace_text.specs.declared.reply.Reply.{Reply}
use Rattle.array_model.specs.Replies.{FitsWith}
use Rattle.array_model.specs.Turns.{Asked, FitsAskedWith}
use Rattle.dedup_writer.specs.Core.{shape_in, calls_in}
use Rattle.session.specs.Answers.{at, ReadsLast, ReplyCause, PutText, rules_of, no_policies}
use Rattle.conclusions.proofs.Turns.{only_of, is_flush, asked_is}
use Rattle.conclusions.proofs.serving.turn_of_a_flush.Goals as goal

put_whole : (P : Type 0) (r : Result Unit Failed) (text : List ℕ) (old new : SinkMeaning) → old.tells ≡ true → PutText r text old new → (new.held ≡ old.held ++ text → P) → IfOk r (λ _. P)
put_whole P (Ok done) text old new tells put say = say (put.held tells)
put_whole P (Err failed) text old new tells put say = tt

pub returns : goal.returns
unfolding FitsWith
returns g c =
    let done = c.turn.ensures.done in
    let store = c.args.store.now in
    let d = g.D.Device.seen c.args.device.now in
    let d' = g.D.Device.seen c.turn.new.device in
    let sink = g.K.Sink.seen c.args.sink.now in
    let sink' = g.K.Sink.seen c.turn.new.sink in
    let n = calls_in c.turn.new.store in
    let does = done.command.does in
    let only = only_of _ Flush c.parse.result is_flush refl c.parse.ensures.only in
    let asked = asked_is (shape_in store) _ Flush only done.command.asked done.command.asks in
    let fits = subst (λ (a : Asked). FitsAskedWith (ReadsLast (at store d)) (rules_of store) no_policies a done.answer) asked does.fits in
    put_whole _ c.turn.result (text_of n done.answer) sink sink' c.requires.sink done.put (λ held. ⊎_elim
    (λ ok. inl (held ∙ ap (λ (r : Reply). sink.held ++ text_of n r) ok))
    (λ fault. inr (held ∙ ap (λ (r : Reply). sink.held ++ text_of n r) fault, subst (λ (r : Reply). ReplyCause r (at store d) (at c.turn.new.store d')) fault does.cause))
    fits)
