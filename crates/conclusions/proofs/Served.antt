-- What a session over a store with status 0 has put.
use Rattle.std.proofs.Common.{◌≡◌, ◌⊎◌, inl, inr, ℕ, true, List, ◌++◌, length, sym, ◌∙◌, ap, subst}
use Rattle.std.proofs.lemmas.List.{append-nil}
use Rattle.byte_ports.specs.Source.{SourceMeaning, Gives}
use Rattle.byte_ports.specs.Sink.{SinkMeaning, Takes}
use Rattle.page_device.specs.Meaning.{Meaning}
use Rattle.array_model.specs.Turns.{Turn, lines_of, lines_in, texts}
use Rattle.session.specs.declared.status.Status.{Status}
use Rattle.session.specs.declared.status.Status.TheVariants.{Done}
use Rattle.session.specs.Session.{Close}
use Rattle.session.specs.Endings.{LinePut, put_whole, put_part, Ended, all_done, closing_failed, source_failed, limit_reached, sink_failed, EndsAs}
use Rattle.session.specs.Chain.{Link, turns_of}
use Rattle.session.specs.Stopped.{CutWhere, at_start, at_opening, at_text, at_source, at_limit, at_close}

pub no_line : (text : List ℕ) (wanted : Status) (old new : SinkMeaning) → (Done ≡ wanted → ⊥) → LinePut text wanted Done old new → ⊥
no_line text wanted old new apart (put_whole is _) = apart is
no_line text wanted old new apart (put_part is _) = cc is

module _ (bytes : List ℕ) (turns : List Turn) (close : Close) (source source' : SourceMeaning) (sink sink' : SinkMeaning) (gives : Gives bytes source source') (tells : source.tells ≡ true) where
  pub done_texts : Ended bytes turns close Done source source' sink sink' → (lines_of turns ≡ lines_in source.left) × Takes (texts turns) sink sink'
  done_texts (all_done _ _ read put) = (
    read.lines ∙ ap lines_in (sym (append-nil bytes) ∙ ap (λ (l : List ℕ). bytes ++ l) (sym (read.end.nothing_left (gives.tells ∙ tells))) ∙ sym (gives.left tells)),
    put,
  )
  done_texts (closing_failed _ _ put) = absurd (no_line _ _ put.after_texts sink' (λ is. cc is) put.last_line)
  done_texts (source_failed _ _ _ _ put) = absurd (no_line _ _ put.after_texts sink' (λ is. cc is) put.last_line)
  done_texts (limit_reached _ _ _ put) = absurd (no_line _ _ put.after_texts sink' (λ is. cc is) put.last_line)
  done_texts (sink_failed _ _ is) = absurd (cc is)

-- the last line of a session whose sink failed is one of a session, or there is no text before it
pub cut_ends : (d d' : Meaning) (source source' : SourceMeaning) (sink sink' : SinkMeaning) (links : List Link) (last : Status) → CutWhere d d' source source' sink sink' links last → (length (lines_of (turns_of links)) ≡ 0) ⊎ EndsAs last
cut_ends d d' source source' sink sink' links last (at_start _ none _ _) = inl (ap (λ (l : List Link). length (lines_of (turns_of l))) none)
cut_ends d d' source source' sink sink' links last (at_opening _ _ none _ _ _ _) = inl (ap (λ (l : List Link). length (lines_of (turns_of l))) none)
cut_ends d d' source source' sink sink' links last (at_text _ is _ _ _) = inr (subst EndsAs (sym is) tt)
cut_ends d d' source source' sink sink' links last (at_source _ is _ _ _ _ _ _) = inr (subst EndsAs (sym is) tt)
cut_ends d d' source source' sink sink' links last (at_limit _ is _ _ _ _ _) = inr (subst EndsAs (sym is) tt)
cut_ends d d' source source' sink sink' links last (at_close _ _ is _ _ _ _ _ _) = inr (subst EndsAs (sym is) tt)
