-- The record of a session whose sink failed.
use Rattle.std.proofs.Common.{◌≡◌, ⊎_elim, ℕ, true, List, [], ◌++◌, refl, sym, ◌∙◌, ap, subst, append_assoc}
use Rattle.std.proofs.lemmas.List.{append-nil}
use Rattle.byte_ports.specs.Source.{SourceMeaning, Gives}
use Rattle.byte_ports.specs.Sink.{SinkMeaning, TakesFront, front_then, front_longer}
use Rattle.page_device.specs.declared.device.LogEntry.{LogEntry}
use Rattle.page_device.specs.Meaning.{Meaning}
use Rattle.trace_text.specs.Texts.{text_of}
use Rattle.array_model.specs.Turns.{Turn, parts_of, ended_lines, lines_in, lines_of, texts}
use Rattle.array_model.proofs.RunLemmas.{texts-last}
use Rattle.mount_reader.specs.declared.error.MountError.{MountError}
use Rattle.mount_reader.specs.declared.error.MountError.TheVariants as error
use Rattle.session.specs.declared.status.Status.{Status}
use Rattle.session.specs.declared.status.Status.TheVariants.{Done, SourceFault, SinkFault, DeviceFault, NoMemory, InputLimit}
use Rattle.session.specs.Statuses.{last_text}
use Rattle.session.specs.Opening.{mount_status}
use Rattle.session.specs.Chain.{Link, turns_of}
use Rattle.session.specs.Session.{Close, none, failed, Closes}
use Rattle.session.specs.Endings.{LinePut, put_whole, put_part, TextsPut, AtEnd, AllRead, CutAt, at_line, at_rest, TextCut, Ended, all_done, closing_failed, source_failed, limit_reached, sink_failed, Course}
use Rattle.session.specs.Run.{TraceOutcome, unopened, opened, Opened}
use Rattle.session.specs.Flat.{Session}
use Rattle.session.specs.Stopped.{LineCut, CutWhere, at_start, at_opening, at_text, at_source, at_limit, at_close, CutSession}
use Rattle.session.proofs.Lines.{lines_longer}
use Rattle.session.proofs.Numbered.{failed_rose}
use Rattle.session.proofs.Stops.{unclosed, has_failed, made}

-- these are the first lines of the input
abbrev FirstLines : List (List ℕ) → SourceMeaning → Type 0
FirstLines lines source = source.tells ≡ true → (more : List (List ℕ)) × (lines_in source.left ≡ lines ++ more)

no_lines : (source : SourceMeaning) → FirstLines [] source
no_lines source tells = (lines_in source.left, refl)

module _ (bytes : List ℕ) (lines : List (List ℕ)) (source source' : SourceMeaning) (gives : Gives bytes source source') where
  -- of the lines that had ended these are the first
  first_ended : (more : List (List ℕ)) → ended_lines bytes ≡ lines ++ more → FirstLines lines source
  first_ended more are tells =
      let behind = lines_in ((parts_of bytes).rest ++ source'.left) in
      (more ++ behind, ap lines_in (gives.left tells) ∙ lines_longer bytes source'.left ∙ ap (λ (l : List (List ℕ)). l ++ behind) are ∙ append_assoc lines more behind)

  some_first : lines ≡ ended_lines bytes → FirstLines lines source
  some_first are = first_ended [] (sym are ∙ sym (append-nil lines))

  -- or they are all
  all_first : AtEnd source source' → lines ≡ lines_in bytes → FirstLines lines source
  all_first end are tells =
      let whole : source.left ≡ bytes = gives.left tells ∙ ap (λ (l : List ℕ). bytes ++ l) (end.nothing_left (gives.tells ∙ tells)) ∙ append-nil bytes in
      ([], ap lines_in whole ∙ sym are ∙ sym (append-nil lines))

  cut_first : CutAt bytes lines source source' → FirstLines lines source
  cut_first (at_line more are not_end) = first_ended more are
  cut_first (at_rest are end) = all_first end are

-- a part of a last line that is not the sink's
cut_line : (text : List ℕ) (wanted : Status) (old new : SinkMeaning) → (SinkFault ≡ wanted → ⊥) → LinePut text wanted SinkFault old new → TakesFront text old new
cut_line text wanted old new apart (put_whole is _) = absurd (apart is)
cut_line text wanted old new apart (put_part _ part) = part

line_cut : (turns : List Turn) (wanted : Status) (old new : SinkMeaning) → (SinkFault ≡ wanted → ⊥) → TextsPut wanted SinkFault turns old new → LineCut turns wanted old new
line_cut turns wanted old new apart h = record { after_texts = h.after_texts; put = h.put; part = cut_line (last_text wanted) wanted h.after_texts new apart h.last_line }

-- it is a front of the texts with the last line behind them
line_front : (turns : List Turn) (last : Status) (old new : SinkMeaning) → LineCut turns last old new → TakesFront (texts turns ++ last_text last) old new
line_front turns last old new c = front_then (texts turns) (last_text last) old c.after_texts new c.put c.part

text_front : (bytes : List ℕ) (turns : List Turn) (source source' : SourceMeaning) (old new : SinkMeaning) → TextCut bytes turns source source' old new → TakesFront (texts turns ++ last_text Done) old new
text_front bytes turns source source' old new c =
    let whole : TakesFront (texts turns) old new = subst (λ (l : List ℕ). TakesFront l old new) (sym (ap texts c.turns_are ∙ texts-last c.before c.last))
    (front_then (texts c.before) (text_of c.last.at c.last.answer) old c.after_texts new c.put c.part) in
    front_longer (texts turns) [] old new whole

not_sink : (why : MountError) → SinkFault ≡ mount_status why → ⊥
not_sink error.Device is = cc is
not_sink error.NotFormatted is = cc is
not_sink (error.Damaged damage) is = cc is
not_sink error.NoMemory is = cc is

module _ (d d' : Meaning) (source source' : SourceMeaning) (sink sink' : SinkMeaning) where
  -- no line was answered
  no_turn : (wanted : Status) → TakesFront (last_text wanted) sink sink' → CutWhere d d' source source' sink sink' [] wanted → CutSession d d' source source' sink sink'
  unfolding texts
  no_turn wanted part cut = record { links = []; last = wanted; lines = no_lines source; front = part; cut = cut }

  module _ (o : Opened SinkFault d d' source source' sink sink') where
    abbrev links : List Link
    links = o.answered.links

    abbrev bytes : List ℕ
    bytes = o.answered.bytes

    -- with a last line
    with_line : (wanted : Status) → FirstLines (lines_of (turns_of links)) source → LineCut (turns_of links) wanted sink sink' → CutWhere d d' source source' sink sink' links wanted → CutSession d d' source source' sink sink'
    with_line wanted lines c cut = record { links = links; last = wanted; lines = lines; front = line_front (turns_of links) wanted sink sink' c; cut = cut }

    at_its_close : AllRead bytes (turns_of links) source source' → (calls : List LogEntry) → o.answered.close ≡ failed calls → LineCut (turns_of links) DeviceFault sink sink' → CutSession d d' source source' sink sink'
    at_its_close read calls is c =
        let course = o.answered.course in
        let closes : Closes (failed calls) course.last course.final = subst (λ (x : Close). Closes x course.last course.final) is course.closes in
        with_line DeviceFault (all_first bytes (lines_of (turns_of links)) source source' o.answered.gives read.end read.lines) c
        (at_close bytes calls refl (made SinkFault d d' source source' sink sink' o (failed calls) is) closes.1
        (failed_rose d o.first links calls d' (subst (λ (x : Close). Course o.first links x d') is course) o.falls) o.answered.gives read c)

    cut_opened : Ended bytes (turns_of links) o.answered.close SinkFault source source' sink sink' → CutSession d d' source source' sink sink'
    cut_opened (all_done is _ _ _) = absurd (cc is)
    cut_opened (closing_failed is read put) =
        let close = has_failed o.answered.close is in
        at_its_close read close.0 close.1 (line_cut (turns_of links) DeviceFault sink sink' (λ is. cc is) put)
    cut_opened (source_failed is read few failed_then put) =
        let c = line_cut (turns_of links) SourceFault sink sink' (λ is. cc is) put in
        with_line SourceFault (some_first bytes (lines_of (turns_of links)) source source' o.answered.gives read.lines) c
        (at_source bytes refl (made SinkFault d d' source source' sink sink' o none (unclosed o.answered.close is)) o.answered.gives read few failed_then c)
    cut_opened (limit_reached is read many put) =
        let c = line_cut (turns_of links) InputLimit sink sink' (λ is. cc is) put in
        with_line InputLimit (some_first bytes (lines_of (turns_of links)) source source' o.answered.gives read.lines) c
        (at_limit bytes refl (made SinkFault d d' source source' sink sink' o none (unclosed o.answered.close is)) o.answered.gives read many c)
    cut_opened (sink_failed is cut _) = record {
      links = links;
      last = Done;
      lines = cut_first bytes (lines_of (turns_of links)) source source' o.answered.gives cut.cut_at;
      front = text_front bytes (turns_of links) source source' sink sink' cut;
      cut = at_text bytes refl (made SinkFault d d' source source' sink sink' o none (unclosed o.answered.close is)) o.answered.gives cut;
    }

  pub cut_flat : Session SinkFault d d' source source' sink sink' → CutSession d d' source source' sink sink'
  cut_flat h = ⊎_elim (λ none. no_turn NoMemory (cut_line _ NoMemory sink sink' (λ is. cc is) none.last_line) (at_start refl refl none.same_device none.same_source)) by h
    where
      by : TraceOutcome SinkFault d d' source source' sink sink' → CutSession d d' source source' sink sink'
      by (unopened u) = no_turn (mount_status u.why) (cut_line _ (mount_status u.why) sink sink' (not_sink u.why) u.last_line) (at_opening u.why refl refl u.cause u.not_fit u.looked u.nothing_read)
      by (opened o) = cut_opened o o.answered.ended
