-- One record for each status.
use Rattle.std.proofs.Common.{◌≡◌, ◌⊎◌, ⊎_elim, ℕ, ◌≤◌, true, List, ◌++◌, length, length-append, refl, sym, ◌∙◌, ap, subst, arith}
use Rattle.std.proofs.lemmas.List.{append-nil}
use Rattle.byte_ports.specs.Source.{SourceMeaning}
use Rattle.byte_ports.specs.Sink.{SinkMeaning, Takes}
use Rattle.page_device.specs.declared.device.LogEntry.{LogEntry}
use Rattle.page_device.specs.Disk.{newest}
use Rattle.page_device.specs.Meaning.{Meaning}
use Rattle.array_model.specs.Images.{Mode, IsGood, IsFit}
use Rattle.array_model.specs.Turns.{Turn, lines_in}
use Rattle.mount_reader.specs.declared.error.MountError.{MountError}
use Rattle.mount_reader.specs.declared.error.MountError.TheVariants as error
use Rattle.mount_reader.specs.Mount.{IsRefusal}
use Rattle.image_check.specs.declared.verdict.Verdict.TheVariants as verdict
use Rattle.session.specs.declared.status.Status.{Status}
use Rattle.session.specs.declared.status.Status.TheVariants.{Done, Usage, SourceFault, SinkFault, DeviceFault, NotFormatted, Unsound, NoMemory, InputLimit}
use Rattle.session.specs.Statuses.{last_text}
use Rattle.session.specs.Opening.{mount_status}
use Rattle.session.specs.Chain.{turns_of, AreNumbered}
use Rattle.session.specs.Session.{Close, none, closed, failed, IsClosed, Kept, IsTold}
use Rattle.session.specs.Endings.{LinePut, put_whole, put_part, Ended, all_done, closing_failed, source_failed, limit_reached, sink_failed, Course, EndsAs, input_limit}
use Rattle.session.specs.Run.{IsReady, NoneDone, TraceOutcome, unopened, opened, Opened, session_start}
use Rattle.session.specs.Flat.{DoneSession, Session, EndsOverFit}
use Rattle.session.proofs.Opened.{gains_from}
use Rattle.session.proofs.Numbered.{chain_numbered, course_gains, closed_calm, closing_done}

no_line : (text : List ℕ) (wanted : Status) (old new : SinkMeaning) → (Done ≡ wanted → ⊥) → LinePut text wanted Done old new → ⊥
no_line text wanted old new apart (put_whole is _) = apart is
no_line text wanted old new apart (put_part is _) = cc is

not_mounted : (why : MountError) → Done ≡ mount_status why → ⊥
not_mounted error.Device is = cc is
not_mounted error.NotFormatted is = cc is
not_mounted (error.Damaged damage) is = cc is
not_mounted error.NoMemory is = cc is

-- the device calls of a closing flush that was done
calls_closed : (close : Close) → IsClosed close → (calls : List LogEntry) × (close ≡ closed calls)
calls_closed none is = absurd is
calls_closed (closed calls) is = (calls, refl)
calls_closed (failed calls) is = absurd is

module _ (d d' : Meaning) (source source' : SourceMeaning) (sink sink' : SinkMeaning) where
  from_opened : (o : Opened Done d d' source source' sink sink') → DoneSession d d' source source' sink sink'
  from_opened o = by o.answered.ended
    where
      by : Ended o.answered.bytes (turns_of o.answered.links) o.answered.close Done source source' sink sink' → DoneSession d d' source source' sink sink'
      by (all_done _ is read put) =
          let close = calls_closed o.answered.close is in
          let course = subst (λ (c : Close). Course o.first o.answered.links c d') close.1 o.answered.course in
          let bytes = o.answered.bytes in
          record {
            shape = o.shape;
            told = o.told;
            fit = o.fit;
            links = o.answered.links;
            calls = close.0;
            bytes = bytes;
            gives = o.answered.gives;
            read = read;
            input = λ tells. read.lines ∙ ap lines_in (sym (append-nil bytes) ∙ ap (λ (l : List ℕ). bytes ++ l) (sym (read.end.nothing_left (o.answered.gives.tells ∙ tells))) ∙ sym (o.answered.gives.left tells));
            plain = o.plain;
            sure = o.sure;
            faulted = o.faulted;
            put = put;
            numbered = subst (λ (n : ℕ). AreNumbered n (turns_of o.answered.links)) o.first_calls (chain_numbered o.answered.links o.first course.last course.chain (omega (arith, o.first_calls)));
            gains = gains_from _ d o.first.device d' o.looked (course_gains o.first o.answered.links (closed close.0) d' course);
            done = closing_done d o.first o.answered.links close.0 d' course o.falls;
            kept = λ ready mode good. subst (λ (c : Close). Kept (session_start mode d) (turns_of o.answered.links) c d') close.1 (o.kept ready mode good);
            counted = λ ready. subst (λ (c : Close). IsTold d o.answered.links c d') close.1 (o.counted ready);
            calm = λ ready calm. closed_calm d o.first o.answered.links close.0 d' course (o.looked.kind.tells_pages ∙ ready.tells_pages) (o.looked.state ready.tells_pages) o.falls (o.counted ready).told calm;
          }
      by (closing_failed _ _ put) = absurd (no_line _ _ put.after_texts sink' (λ is. cc is) put.last_line)
      by (source_failed _ _ _ _ put) = absurd (no_line _ _ put.after_texts sink' (λ is. cc is) put.last_line)
      by (limit_reached _ _ _ put) = absurd (no_line _ _ put.after_texts sink' (λ is. cc is) put.last_line)
      by (sink_failed _ _ is) = absurd (cc is)

  pub done_flat : Session Done d d' source source' sink sink' → DoneSession d d' source source' sink sink'
  done_flat h = ⊎_elim (λ none. absurd (no_line _ _ sink sink' (λ is. cc is) none.last_line)) by h
    where
      by : TraceOutcome Done d d' source source' sink sink' → DoneSession d d' source source' sink sink'
      by (unopened u) = absurd (no_line _ (mount_status u.why) sink sink' (not_mounted u.why) u.last_line)
      by (opened o) = from_opened o

  -- a line of another status was put
  other_line : (text : List ℕ) (wanted status : Status) → (status ≡ wanted → ⊥) → (status ≡ SinkFault → ⊥) → LinePut text wanted status sink sink' → ⊥
  other_line text wanted status apart sink_apart (put_whole is _) = apart is
  other_line text wanted status apart sink_apart (put_part is _) = sink_apart is

  over_fit : (text : List ℕ) (wanted status : Status) → EndsOverFit wanted → LinePut text wanted status sink sink' → EndsOverFit status
  over_fit text wanted status ends (put_whole is _) = subst EndsOverFit (sym is) ends
  over_fit text wanted status ends (put_part is _) = subst EndsOverFit (sym is) tt

  ends_over_fit : (status : Status) → EndsAs status → EndsOverFit status
  ends_over_fit Done ends = tt
  ends_over_fit Usage ends = absurd ends
  ends_over_fit SourceFault ends = tt
  ends_over_fit SinkFault ends = tt
  ends_over_fit DeviceFault ends = tt
  ends_over_fit NotFormatted ends = absurd ends
  ends_over_fit (Unsound found) ends = absurd ends
  ends_over_fit NoMemory ends = tt
  ends_over_fit InputLimit ends = tt

  pub fit_flat : (status : Status) → d.honest ≡ true → d.tells_pages ≡ true → IsFit (newest d.state) → Session status d d' source source' sink sink' → EndsOverFit status
  fit_flat status honest tells good h = ⊎_elim (λ none. over_fit _ NoMemory status tt none.last_line) by h
    where
      mounted : (why : MountError) → IsRefusal why d → LinePut (last_text (mount_status why)) (mount_status why) status sink sink' → EndsOverFit status
      mounted error.Device not_fit line = over_fit _ DeviceFault status tt line
      mounted error.NotFormatted not_fit line = absurd (not_fit honest tells good)
      mounted (error.Damaged damage) not_fit line = absurd (not_fit honest tells good)
      mounted error.NoMemory not_fit line = over_fit _ NoMemory status tt line

      by : TraceOutcome status d d' source source' sink sink' → EndsOverFit status
      by (unopened u) = mounted u.why u.not_fit u.last_line
      by (opened o) = ends_over_fit status o.status_is

  -- the status of want of memory
  pub memory_flat : Session NoMemory d d' source source' sink sink' → Takes (last_text NoMemory) sink sink'
  memory_flat h = ⊎_elim (λ none. whole none.last_line) by h
    where
      whole : LinePut (last_text NoMemory) NoMemory NoMemory sink sink' → Takes (last_text NoMemory) sink sink'
      whole (put_whole _ put) = put
      whole (put_part is _) = absurd (cc is)

      mounted : (why : MountError) → LinePut (last_text (mount_status why)) (mount_status why) NoMemory sink sink' → Takes (last_text NoMemory) sink sink'
      mounted error.Device line = absurd (other_line _ DeviceFault NoMemory (λ is. cc is) (λ is. cc is) line)
      mounted error.NotFormatted line = absurd (other_line _ NotFormatted NoMemory (λ is. cc is) (λ is. cc is) line)
      mounted (error.Damaged damage) line = absurd (other_line _ (Unsound (verdict.Damaged damage)) NoMemory (λ is. cc is) (λ is. cc is) line)
      mounted error.NoMemory line = whole line

      by : TraceOutcome NoMemory d d' source source' sink sink' → Takes (last_text NoMemory) sink sink'
      by (unopened u) = mounted u.why u.last_line
      by (opened o) = absurd o.status_is

  -- so many bytes were taken
  pub limit_flat : source.tells ≡ true → Session InputLimit d d' source source' sink sink' → input_limit ≤ length source.left
  limit_flat tells h = ⊎_elim (λ none. absurd (other_line _ NoMemory InputLimit (λ is. cc is) (λ is. cc is) none.last_line)) by h
    where
      apart : (text : List ℕ) (wanted : Status) (mid : SinkMeaning) → (InputLimit ≡ wanted → ⊥) → LinePut text wanted InputLimit mid sink' → ⊥
      apart text wanted mid other (put_whole is _) = other is
      apart text wanted mid other (put_part is _) = cc is

      mounted : (why : MountError) → LinePut (last_text (mount_status why)) (mount_status why) InputLimit sink sink' → ⊥
      mounted error.Device line = apart _ DeviceFault sink (λ is. cc is) line
      mounted error.NotFormatted line = apart _ NotFormatted sink (λ is. cc is) line
      mounted (error.Damaged damage) line = apart _ (Unsound (verdict.Damaged damage)) sink (λ is. cc is) line
      mounted error.NoMemory line = apart _ NoMemory sink (λ is. cc is) line

      ended : (bytes : List ℕ) (turns : List Turn) (close : Close) → source.left ≡ bytes ++ source'.left → Ended bytes turns close InputLimit source source' sink sink' → input_limit ≤ length source.left
      ended bytes turns close left (all_done is _ _ _) = absurd (cc is)
      ended bytes turns close left (closing_failed _ _ put) = absurd (apart _ DeviceFault put.after_texts (λ is. cc is) put.last_line)
      ended bytes turns close left (source_failed _ _ _ _ put) = absurd (apart _ SourceFault put.after_texts (λ is. cc is) put.last_line)
      ended bytes turns close left (limit_reached _ _ many _) = omega (arith, many, ap length left, length-append bytes source'.left)
      ended bytes turns close left (sink_failed _ _ is) = absurd (cc is)

      by : TraceOutcome InputLimit d d' source source' sink sink' → input_limit ≤ length source.left
      by (unopened u) = absurd (mounted u.why u.last_line)
      by (opened o) = ended o.answered.bytes (turns_of o.answered.links) o.answered.close (o.answered.gives.left tells) o.answered.ended
