-- One record for each status of a session that stopped.
use Rattle.std.proofs.Common.{◌≡◌, ◌⊎◌, inl, inr, ⊎_elim, ℕ, List, ◌++◌, length, refl, sym, ◌∙◌, ap, subst, arith}
use Rattle.byte_ports.specs.Source.{SourceMeaning}
use Rattle.byte_ports.specs.Sink.{SinkMeaning, Takes, takes_then}
use Rattle.page_device.specs.declared.device.LogEntry.{LogEntry}
use Rattle.page_device.specs.Meaning.{Meaning}
use Rattle.array_model.specs.Turns.{Turn, texts}
use Rattle.dedup_writer.specs.Calls.{EndUndone}
use Rattle.mount_reader.specs.declared.error.MountError.{MountError}
use Rattle.mount_reader.specs.declared.error.MountError.TheVariants as error
use Rattle.session.specs.declared.status.Status.{Status}
use Rattle.session.specs.declared.status.Status.TheVariants.{Done, SourceFault, SinkFault, DeviceFault, NotFormatted, Unsound, NoMemory, InputLimit}
use Rattle.session.specs.Statuses.{last_text}
use Rattle.session.specs.Opening.{mount_status}
use Rattle.session.specs.Chain.{Link, turns_of, AreNumbered}
use Rattle.session.specs.Session.{Close, none, closed, failed, Closes, Kept}
use Rattle.session.specs.Endings.{LinePut, put_whole, put_part, TextsPut, Ended, all_done, closing_failed, source_failed, limit_reached, sink_failed, IsUnclosed, HasFailed, AllRead, SomeRead, SourceFailed, Course, EndsAs}
use Rattle.session.specs.Run.{NoneDone, TraceOutcome, unopened, Unopened, opened, Opened, session_start}
use Rattle.session.specs.Flat.{Session}
use Rattle.session.proofs.Opened.{gains_from}
use Rattle.session.proofs.Numbered.{chain_numbered, course_gains, failed_rose}
use Rattle.session.specs.Stopped.{TurnsMade, TakenUntil, StoppedSession, FailedClose, NotOpened}

-- the last line of a status that is not the sink's was put whole
pub whole_line : (text : List ℕ) (wanted status : Status) (old new : SinkMeaning) → (status ≡ SinkFault → ⊥) → LinePut text wanted status old new → (status ≡ wanted) × Takes text old new
whole_line text wanted status old new other (put_whole is taken) = (is, taken)
whole_line text wanted status old new other (put_part is part) = absurd (other is)

whole_texts : (wanted status : Status) (turns : List Turn) (old new : SinkMeaning) → (status ≡ SinkFault → ⊥) → TextsPut wanted status turns old new → (status ≡ wanted) × Takes (texts turns ++ last_text wanted) old new
whole_texts wanted status turns old new other h =
    let last = whole_line (last_text wanted) wanted status h.after_texts new other h.last_line in
    (last.0, takes_then (texts turns) (last_text wanted) old h.after_texts new h.put last.1)

pub unclosed : (close : Close) → IsUnclosed close → close ≡ none
unclosed none is = refl
unclosed (closed calls) is = absurd is
unclosed (failed calls) is = absurd is

pub has_failed : (close : Close) → HasFailed close → (calls : List LogEntry) × (close ≡ failed calls)
has_failed none is = absurd is
has_failed (closed calls) is = absurd is
has_failed (failed calls) is = (calls, refl)

module _ (status : Status) (d d' : Meaning) (source source' : SourceMeaning) (sink sink' : SinkMeaning) (o : Opened status d d' source source' sink sink') where
  abbrev links : List Link
  links = o.answered.links

  pub made : (close : Close) → o.answered.close ≡ close → TurnsMade d d' links close
  made close is = record {
    shape = o.shape;
    told = o.told;
    fit = o.fit;
    plain = o.plain;
    sure = o.sure;
    faulted = o.faulted;
    numbered = subst (λ (n : ℕ). AreNumbered n (turns_of links)) o.first_calls (chain_numbered links o.first o.answered.course.last o.answered.course.chain (omega (arith, o.first_calls)));
    gains = gains_from _ d o.first.device d' o.looked (course_gains o.first links close d' (subst (λ (c : Close). Course o.first links c d') is o.answered.course));
    kept = λ ready mode good. subst (λ (c : Close). Kept (session_start mode d) (turns_of links) c d') is (o.kept ready mode good);
  }

  -- it stopped between two lines
  pub stopped : (wanted : Status) → IsUnclosed o.answered.close → SomeRead o.answered.bytes (turns_of links) source source' → (wanted ≡ SourceFault → SourceFailed source source') → TakenUntil wanted (length o.answered.bytes) → Takes (texts (turns_of links) ++ last_text wanted) sink sink'
      → StoppedSession wanted d d' source source' sink sink'
  stopped wanted is read source_cause taken put = record { links = links; made = made none (unclosed o.answered.close is); bytes = o.answered.bytes; gives = o.answered.gives; read = read; source_failed = source_cause; taken = taken; put = put }

  -- its closing flush failed
  pub not_closed : HasFailed o.answered.close → AllRead o.answered.bytes (turns_of links) source source' → Takes (texts (turns_of links) ++ last_text DeviceFault) sink sink' → FailedClose d d' source source' sink sink'
  not_closed is read put =
      let close = has_failed o.answered.close is in
      let course = o.answered.course in
      let closes : Closes (failed close.0) course.last course.final = subst (λ (c : Close). Closes c course.last course.final) close.1 course.closes in
      record { links = links; calls = close.0; made = made (failed close.0) close.1; undone = closes.1; fault = failed_rose d o.first links close.0 d' (subst (λ (c : Close). Course o.first links c d') close.1 course) o.falls; bytes = o.answered.bytes; gives = o.answered.gives; read = read; put = put }

module _ (d d' : Meaning) (source source' : SourceMeaning) (sink sink' : SinkMeaning) where
  -- the source failed
  pub source_flat : Session SourceFault d d' source source' sink sink' → StoppedSession SourceFault d d' source source' sink sink'
  source_flat h = ⊎_elim (λ n. absurd (cc (whole_line _ NoMemory SourceFault sink sink' (λ is. cc is) n.last_line).0)) by h
    where
      mounted : (why : MountError) → SourceFault ≡ mount_status why → ⊥
      mounted error.Device is = cc is
      mounted error.NotFormatted is = cc is
      mounted (error.Damaged damage) is = cc is
      mounted error.NoMemory is = cc is

      ended : (o : Opened SourceFault d d' source source' sink sink') → Ended o.answered.bytes (turns_of o.answered.links) o.answered.close SourceFault source source' sink sink' → StoppedSession SourceFault d d' source source' sink sink'
      ended o (all_done is _ _ _) = absurd (cc is)
      ended o (closing_failed _ _ put) = absurd (cc (whole_texts DeviceFault SourceFault (turns_of o.answered.links) sink sink' (λ is. cc is) put).0)
      ended o (source_failed is read few source_cause put) = stopped SourceFault d d' source source' sink sink' o SourceFault is read (λ _. source_cause) few (whole_texts SourceFault SourceFault (turns_of o.answered.links) sink sink' (λ is. cc is) put).1
      ended o (limit_reached _ _ _ put) = absurd (cc (whole_texts InputLimit SourceFault (turns_of o.answered.links) sink sink' (λ is. cc is) put).0)
      ended o (sink_failed _ _ is) = absurd (cc is)

      by : TraceOutcome SourceFault d d' source source' sink sink' → StoppedSession SourceFault d d' source source' sink sink'
      by (unopened u) = absurd (mounted u.why (whole_line _ (mount_status u.why) SourceFault sink sink' (λ is. cc is) u.last_line).0)
      by (opened o) = ended o o.answered.ended

  -- the limit was reached
  pub limit_flat : Session InputLimit d d' source source' sink sink' → StoppedSession InputLimit d d' source source' sink sink'
  limit_flat h = ⊎_elim (λ n. absurd (cc (whole_line _ NoMemory InputLimit sink sink' (λ is. cc is) n.last_line).0)) by h
    where
      mounted : (why : MountError) → InputLimit ≡ mount_status why → ⊥
      mounted error.Device is = cc is
      mounted error.NotFormatted is = cc is
      mounted (error.Damaged damage) is = cc is
      mounted error.NoMemory is = cc is

      ended : (o : Opened InputLimit d d' source source' sink sink') → Ended o.answered.bytes (turns_of o.answered.links) o.answered.close InputLimit source source' sink sink' → StoppedSession InputLimit d d' source source' sink sink'
      ended o (all_done is _ _ _) = absurd (cc is)
      ended o (closing_failed _ _ put) = absurd (cc (whole_texts DeviceFault InputLimit (turns_of o.answered.links) sink sink' (λ is. cc is) put).0)
      ended o (source_failed _ _ _ _ put) = absurd (cc (whole_texts SourceFault InputLimit (turns_of o.answered.links) sink sink' (λ is. cc is) put).0)
      ended o (limit_reached is read many put) = stopped InputLimit d d' source source' sink sink' o InputLimit is read (λ other. absurd (cc other)) many (whole_texts InputLimit InputLimit (turns_of o.answered.links) sink sink' (λ is. cc is) put).1
      ended o (sink_failed _ _ is) = absurd (cc is)

      by : TraceOutcome InputLimit d d' source source' sink sink' → StoppedSession InputLimit d d' source source' sink sink'
      by (unopened u) = absurd (mounted u.why (whole_line _ (mount_status u.why) InputLimit sink sink' (λ is. cc is) u.last_line).0)
      by (opened o) = ended o o.answered.ended

  -- the image was not opened
  not_opened : (status : Status) → (status ≡ SinkFault → ⊥) → Unopened status d d' source source' sink sink' → NotOpened status d d' source source' sink sink'
  not_opened status other u =
      let last = whole_line _ (mount_status u.why) status sink sink' other u.last_line in
      record { why = u.why; is = sym last.0; cause = u.cause; not_fit = u.not_fit; looked = u.looked; nothing_read = u.nothing_read; put = subst (λ (s : Status). Takes (last_text s) sink sink') (sym last.0) last.1 }

  -- it ended with a status with which no session ends over an image that was opened
  pub refused_flat : (status : Status) → (status ≡ SinkFault → ⊥) → (status ≡ NoMemory → ⊥) → (EndsAs status → ⊥) → Session status d d' source source' sink sink' → NotOpened status d d' source source' sink sink'
  refused_flat status other remembered no_end h = ⊎_elim (λ n. absurd (remembered (whole_line _ NoMemory status sink sink' other n.last_line).0)) by h
    where
      by : TraceOutcome status d d' source source' sink sink' → NotOpened status d d' source source' sink sink'
      by (unopened u) = not_opened status other u
      by (opened o) = absurd (no_end o.status_is)

  -- there was no memory, before anything was done or when the image was opened
  pub forgotten_flat : Session NoMemory d d' source source' sink sink' → NoneDone NoMemory d d' source source' sink sink' ⊎ NotOpened NoMemory d d' source source' sink sink'
  forgotten_flat h = ⊎_elim (λ n. inl n) by h
    where
      by : TraceOutcome NoMemory d d' source source' sink sink' → NoneDone NoMemory d d' source source' sink sink' ⊎ NotOpened NoMemory d d' source source' sink sink'
      by (unopened u) = inr (not_opened NoMemory (λ is. cc is) u)
      by (opened o) = absurd o.status_is

  -- the device failed, at the opening or at the close
  pub fault_flat : Session DeviceFault d d' source source' sink sink' → NotOpened DeviceFault d d' source source' sink sink' ⊎ FailedClose d d' source source' sink sink'
  fault_flat h = ⊎_elim (λ n. absurd (cc (whole_line _ NoMemory DeviceFault sink sink' (λ is. cc is) n.last_line).0)) by h
    where
      ended : (o : Opened DeviceFault d d' source source' sink sink') → Ended o.answered.bytes (turns_of o.answered.links) o.answered.close DeviceFault source source' sink sink' → FailedClose d d' source source' sink sink'
      ended o (all_done is _ _ _) = absurd (cc is)
      ended o (closing_failed is read put) = not_closed DeviceFault d d' source source' sink sink' o is read (whole_texts DeviceFault DeviceFault (turns_of o.answered.links) sink sink' (λ is. cc is) put).1
      ended o (source_failed _ _ _ _ put) = absurd (cc (whole_texts SourceFault DeviceFault (turns_of o.answered.links) sink sink' (λ is. cc is) put).0)
      ended o (limit_reached _ _ _ put) = absurd (cc (whole_texts InputLimit DeviceFault (turns_of o.answered.links) sink sink' (λ is. cc is) put).0)
      ended o (sink_failed _ _ is) = absurd (cc is)

      by : TraceOutcome DeviceFault d d' source source' sink sink' → NotOpened DeviceFault d d' source source' sink sink' ⊎ FailedClose d d' source source' sink sink'
      by (unopened u) = inl (not_opened DeviceFault (λ is. cc is) u)
      by (opened o) = inr (ended o o.answered.ended)
