-- One record for each status of words that are no session.
use Rattle.std.proofs.Common.{◌≡◌, ◌⊎◌, inl, inr, ⊎_elim, ℕ, List, refl, sym, ◌∙◌, ap, subst}
use Rattle.byte_ports.specs.Source.{SourceMeaning}
use Rattle.byte_ports.specs.Sink.{SinkMeaning, Takes, TakesFront}
use Rattle.page_device.specs.Meaning.{Meaning}
use Rattle.page_layout.specs.Shape.{ShapeView}
use Rattle.cli_words.specs.declared.jobs.Job.{Job}
use Rattle.cli_words.specs.declared.jobs.Job.TheVariants as job
use Rattle.image_check.specs.declared.verdict.Verdict.{Verdict}
use Rattle.image_check.specs.declared.verdict.Verdict.TheVariants as verdict
use Rattle.image_check.specs.declared.verdict.CheckError.{CheckError}
use Rattle.image_check.specs.declared.verdict.CheckError.TheVariants as unread_error
use Rattle.page_device.specs.Block.{Block}
use Rattle.image_reader.specs.Looked.{Looked, Holds, Reads}
use Rattle.image_check.specs.Reads.{AtMost, reads_of}
use Rattle.image_check.specs.Verdicts.{CheckCause, IsUnsound, IsVerdict}
use Rattle.session.specs.declared.status.Status.{Status}
use Rattle.session.specs.declared.status.Status.TheVariants.{Done, Usage, SinkFault, DeviceFault, NotFormatted, Unsound, NoMemory}
use Rattle.session.specs.Statuses.{last_text, verdict_line}
use Rattle.session.specs.Opening.{unread_status, verdict_status}
use Rattle.session.specs.Endings.{LinePut, put_whole, put_part}
use Rattle.session.specs.Run.{NoneDone, FormatOutcome, formatted, failed, CheckOutcome, CheckEnd, checked, unread, Refuses, JobOutcome, IsOther}
use Rattle.session.specs.Jobs.{Formatting, Checking, FormattedDevice, FailedFormat, CutFormat, at_start, at_line, at_fault, CheckedImage, UncheckedImage, CutCheck, at_verdict, at_cause, NothingDone, RefusedWords}
use Rattle.session.proofs.Stops.{whole_line}

-- the last line of the sink's own status was put in part, where that is not the status that was wanted
cut_line : (text : List ℕ) (wanted : Status) (old new : SinkMeaning) → (SinkFault ≡ wanted → ⊥) → LinePut text wanted SinkFault old new → TakesFront text old new
cut_line text wanted old new other (put_whole is _) = absurd (other is)
cut_line text wanted old new other (put_part _ part) = part

-- the status is that of the line, or the sink's
status_of : (text : List ℕ) (wanted status : Status) (old new : SinkMeaning) → LinePut text wanted status old new → (status ≡ wanted) ⊎ (status ≡ SinkFault)
status_of text wanted status old new (put_whole is _) = inl is
status_of text wanted status old new (put_part is _) = inr is

module _ (d d' : Meaning) (source source' : SourceMeaning) (sink sink' : SinkMeaning) where
  pub nothing_done : NoneDone NoMemory d d' source source' sink sink' → NothingDone d d' source source' sink sink'
  nothing_done n = record { same_device = n.same_device; same_source = n.same_source; put = (whole_line _ NoMemory NoMemory sink sink' (λ is. cc is) n.last_line).1 }

  -- another status than the ones of want of memory
  none_done : (status : Status) → (status ≡ SinkFault → ⊥) → (status ≡ NoMemory → ⊥) → NoneDone status d d' source source' sink sink' → ⊥
  none_done status other remembered n = remembered (whole_line _ NoMemory status sink sink' other n.last_line).0

  module _ (shape : ShapeView) where
    pub format_done : Formatting shape Done d d' source source' sink sink' → FormattedDevice shape d d' source source' sink sink'
    format_done h = ⊎_elim (λ n. absurd (none_done Done (λ is. cc is) (λ is. cc is) n)) (λ f. by f.1 f.0) h
      where
        by : source' ≡ source → FormatOutcome shape Done d d' sink sink' → FormattedDevice shape d d' source source' sink sink'
        by same (formatted image calm line) = record { image = image; calm = calm; nothing_read = same; put = (whole_line _ Done Done sink sink' (λ is. cc is) line).1 }
        by same (failed fault partway line) = absurd (cc (whole_line _ DeviceFault Done sink sink' (λ is. cc is) line).0)

    pub format_failed : Formatting shape DeviceFault d d' source source' sink sink' → FailedFormat shape d d' source source' sink sink'
    format_failed h = ⊎_elim (λ n. absurd (none_done DeviceFault (λ is. cc is) (λ is. cc is) n)) (λ f. by f.1 f.0) h
      where
        by : source' ≡ source → FormatOutcome shape DeviceFault d d' sink sink' → FailedFormat shape d d' source source' sink sink'
        by same (formatted image calm line) = absurd (cc (whole_line _ Done DeviceFault sink sink' (λ is. cc is) line).0)
        by same (failed fault partway line) = record { fault = fault; partway = partway; nothing_read = same; put = (whole_line _ DeviceFault DeviceFault sink sink' (λ is. cc is) line).1 }

    pub format_cut : Formatting shape SinkFault d d' source source' sink sink' → CutFormat shape d d' source source' sink sink'
    format_cut h = ⊎_elim (λ n. at_start n.same_device n.same_source (cut_line _ NoMemory sink sink' (λ is. cc is) n.last_line)) (λ f. by f.1 f.0) h
      where
        by : source' ≡ source → FormatOutcome shape SinkFault d d' sink sink' → CutFormat shape d d' source source' sink sink'
        by same (formatted image calm line) = at_line image calm same (cut_line _ Done sink sink' (λ is. cc is) line)
        by same (failed fault partway line) = at_fault fault partway same (cut_line _ DeviceFault sink sink' (λ is. cc is) line)

    pub format_forgotten : Formatting shape NoMemory d d' source source' sink sink' → NothingDone d d' source source' sink sink'
    format_forgotten h = ⊎_elim nothing_done (λ f. absurd (by f.0)) h
      where
        by : FormatOutcome shape NoMemory d d' sink sink' → ⊥
        by (formatted image calm line) = cc (whole_line _ Done NoMemory sink sink' (λ is. cc is) line).0
        by (failed fault partway line) = cc (whole_line _ DeviceFault NoMemory sink sink' (λ is. cc is) line).0

    pub format_ends : (status : Status) → Formatting shape status d d' source source' sink sink' → (status ≡ Done) ⊎ (status ≡ DeviceFault) ⊎ (status ≡ SinkFault) ⊎ (status ≡ NoMemory)
    format_ends status h = ⊎_elim (λ n. ⊎_elim (λ is. inr (inr (inr is))) (λ is. inr (inr (inl is))) (status_of _ NoMemory status sink sink' n.last_line)) (λ f. by f.0) h
      where
        by : FormatOutcome shape status d d' sink sink' → (status ≡ Done) ⊎ (status ≡ DeviceFault) ⊎ (status ≡ SinkFault) ⊎ (status ≡ NoMemory)
        by (formatted image calm line) = ⊎_elim (λ is. inl is) (λ is. inr (inr (inl is))) (status_of _ Done status sink sink' line)
        by (failed fault partway line) = ⊎_elim (λ is. inr (inl is)) (λ is. inr (inr (inl is))) (status_of _ DeviceFault status sink sink' line)

  -- the status of a verdict is 0 of a sound image alone, and never the sink's
  done_verdict : (found : Verdict) → Done ≡ verdict_status found → (waste : ℕ) × (found ≡ verdict.Sound waste)
  done_verdict (verdict.Sound waste) is = (waste, refl)
  done_verdict (verdict.Damaged damage) is = absurd (cc is)
  done_verdict (verdict.LowCount page stored named) is = absurd (cc is)
  done_verdict (verdict.WrongPrint page) is = absurd (cc is)
  done_verdict (verdict.PrintOnZero page) is = absurd (cc is)

  unsound_verdict : (found other : Verdict) → Unsound other ≡ verdict_status found → found ≡ other
  unsound_verdict (verdict.Sound waste) other is = absurd (cc is)
  unsound_verdict (verdict.Damaged damage) other is = cc is
  unsound_verdict (verdict.LowCount page stored named) other is = cc is
  unsound_verdict (verdict.WrongPrint page) other is = cc is
  unsound_verdict (verdict.PrintOnZero page) other is = cc is

  no_verdict : (status : Status) → (status ≡ Done → ⊥) → ((other : Verdict) → status ≡ Unsound other → ⊥) → (found : Verdict) → status ≡ verdict_status found → ⊥
  no_verdict status done unsound (verdict.Sound waste) is = done is
  no_verdict status done unsound (verdict.Damaged damage) is = unsound _ is
  no_verdict status done unsound (verdict.LowCount page stored named) is = unsound _ is
  no_verdict status done unsound (verdict.WrongPrint page) is = unsound _ is
  no_verdict status done unsound (verdict.PrintOnZero page) is = unsound _ is

  -- a check that could not be made ends with none of these
  readable : (status : Status) → (status ≡ DeviceFault → ⊥) → (status ≡ NotFormatted → ⊥) → (status ≡ NoMemory → ⊥) → (why : CheckError) → status ≡ unread_status why → ⊥
  readable status device unformatted remembered unread_error.Device is = device is
  readable status device unformatted remembered unread_error.NotFormatted is = unformatted is
  readable status device unformatted remembered unread_error.NoMemory is = remembered is

  -- a verdict whose line was put whole
  check_told : (status : Status) (found : Verdict) → (status ≡ SinkFault → ⊥) → Looked d d' → source' ≡ source → Holds (IsVerdict found) d → IsUnsound found d → Holds (λ (image : List Block). Reads (reads_of found image) d d') d → LinePut (verdict_line found) (verdict_status found) status sink sink'
      → (status ≡ verdict_status found) × CheckedImage found d d' source source' sink sink'
  check_told status found other looked same is unsound reads line =
      let put = whole_line _ (verdict_status found) status sink sink' other line in
      (put.0, record { verdict = is; unsound = unsound; reads = reads; looked = looked; nothing_read = same; put = put.1 })

  -- a check that could not be made, and whose line was put whole
  check_untold : (status : Status) (why : CheckError) → (status ≡ SinkFault → ⊥) → Looked d d' → AtMost d'.pages d d' → source' ≡ source → CheckCause why d d' → LinePut (last_text (unread_status why)) (unread_status why) status sink sink'
      → UncheckedImage status d d' source source' sink sink'
  check_untold status why other looked few same cause line =
      let put = whole_line _ (unread_status why) status sink sink' other line in
      record { why = why; is = sym put.0; cause = cause; looked = looked; few = few; nothing_read = same; put = subst (λ (s : Status). Takes (last_text s) sink sink') (sym put.0) put.1 }

  pub check_sound : Checking Done d d' source source' sink sink' → (waste : ℕ) × CheckedImage (verdict.Sound waste) d d' source source' sink sink'
  check_sound h = ⊎_elim (λ n. absurd (none_done Done (λ is. cc is) (λ is. cc is) n)) (λ f. by f.1 f.0.looked f.0.ended) h
    where
      by : source' ≡ source → Looked d d' → CheckEnd Done d d' sink sink' → (waste : ℕ) × CheckedImage (verdict.Sound waste) d d' source source' sink sink'
      by same looked (checked found is unsound reads line) =
          let told = check_told Done found (λ is. cc is) looked same is unsound reads line in
          let sound = done_verdict found told.0 in
          (sound.0, subst (λ (v : Verdict). CheckedImage v d d' source source' sink sink') sound.1 told.1)
      by same looked (unread why cause line) = absurd (readable Done (λ is. cc is) (λ is. cc is) (λ is. cc is) why (whole_line _ (unread_status why) Done sink sink' (λ is. cc is) line).0)

  pub check_unsound : (found : Verdict) → Checking (Unsound found) d d' source source' sink sink' → CheckedImage found d d' source source' sink sink'
  check_unsound found h = ⊎_elim (λ n. absurd (none_done (Unsound found) (λ is. cc is) (λ is. cc is) n)) (λ f. by f.1 f.0.looked f.0.ended) h
    where
      by : source' ≡ source → Looked d d' → CheckEnd (Unsound found) d d' sink sink' → CheckedImage found d d' source source' sink sink'
      by same looked (checked other is unsound reads line) =
          let told = check_told (Unsound found) other (λ is. cc is) looked same is unsound reads line in
          subst (λ (v : Verdict). CheckedImage v d d' source source' sink sink') (unsound_verdict other found told.0) told.1
      by same looked (unread why cause line) = absurd (readable (Unsound found) (λ is. cc is) (λ is. cc is) (λ is. cc is) why (whole_line _ (unread_status why) (Unsound found) sink sink' (λ is. cc is) line).0)

  -- a check that ended with a status of no verdict
  unchecked : (status : Status) → (status ≡ SinkFault → ⊥) → (status ≡ Done → ⊥) → ((other : Verdict) → status ≡ Unsound other → ⊥) → (source' ≡ source) → CheckOutcome status d d' sink sink' → UncheckedImage status d d' source source' sink sink'
  unchecked status other done unsound same o = by o.ended
    where
      by : CheckEnd status d d' sink sink' → UncheckedImage status d d' source source' sink sink'
      by (checked found is not_sound reads line) = absurd (no_verdict status done unsound found (check_told status found other o.looked same is not_sound reads line).0)
      by (unread why cause line) = check_untold status why other o.looked o.few same cause line

  pub check_failed : Checking DeviceFault d d' source source' sink sink' → UncheckedImage DeviceFault d d' source source' sink sink'
  check_failed h = ⊎_elim (λ n. absurd (none_done DeviceFault (λ is. cc is) (λ is. cc is) n)) (λ f. unchecked DeviceFault (λ is. cc is) (λ is. cc is) (λ _ is. cc is) f.1 f.0) h

  pub check_unformatted : Checking NotFormatted d d' source source' sink sink' → UncheckedImage NotFormatted d d' source source' sink sink'
  check_unformatted h = ⊎_elim (λ n. absurd (none_done NotFormatted (λ is. cc is) (λ is. cc is) n)) (λ f. unchecked NotFormatted (λ is. cc is) (λ is. cc is) (λ _ is. cc is) f.1 f.0) h

  pub check_forgotten : Checking NoMemory d d' source source' sink sink' → NothingDone d d' source source' sink sink' ⊎ UncheckedImage NoMemory d d' source source' sink sink'
  check_forgotten h = ⊎_elim (λ n. inl (nothing_done n)) (λ f. inr (unchecked NoMemory (λ is. cc is) (λ is. cc is) (λ _ is. cc is) f.1 f.0)) h

  -- no verdict, and no cause, has the status of the sink
  sink_verdict : (found : Verdict) → SinkFault ≡ verdict_status found → ⊥
  sink_verdict found is = no_verdict SinkFault (λ is. cc is) (λ _ is. cc is) found is

  pub check_cut : Checking SinkFault d d' source source' sink sink' → CutCheck d d' source source' sink sink'
  check_cut h = ⊎_elim (λ n. at_start n.same_device n.same_source (cut_line _ NoMemory sink sink' (λ is. cc is) n.last_line)) (λ f. by f.1 f.0.looked f.0.few f.0.ended) h
    where
      by : source' ≡ source → Looked d d' → AtMost d'.pages d d' → CheckEnd SinkFault d d' sink sink' → CutCheck d d' source source' sink sink'
      by same looked few (checked found is unsound reads line) = at_verdict found is unsound reads looked same (cut_line _ (verdict_status found) sink sink' (sink_verdict found) line)
      by same looked few (unread why cause line) = at_cause why cause looked few same (cut_line _ (unread_status why) sink sink' (readable SinkFault (λ is. cc is) (λ is. cc is) (λ is. cc is) why) line)

  -- words that were refused, or for which there was no memory
  pub refused_or_none : (status : Status) → NoneDone status d d' source source' sink sink' ⊎ Refuses status d d' source source' sink sink' → RefusedWords status d d' source source' sink sink'
  refused_or_none status h = ⊎_elim none refuses h
    where
      none : NoneDone status d d' source source' sink sink' → RefusedWords status d d' source source' sink sink'
      none n = record {
        ends_as = ⊎_elim (λ is. inr (inl is)) (λ is. inr (inr is)) (status_of _ NoMemory status sink sink' n.last_line);
        same_device = n.same_device;
        same_source = n.same_source;
        usage = λ is. absurd (⊎_elim (λ other. cc (sym is ∙ other)) (λ other. cc (sym is ∙ other)) (status_of _ NoMemory status sink sink' n.last_line));
        memory = λ is. (whole_line _ NoMemory status sink sink' (λ other. cc (sym is ∙ other)) n.last_line).1;
        cut = λ is. cut_line _ NoMemory sink sink' (λ other. cc other) (subst (λ (s : Status). LinePut (last_text NoMemory) NoMemory s sink sink') is n.last_line);
      }

      refuses : Refuses status d d' source source' sink sink' → RefusedWords status d d' source source' sink sink'
      refuses r = record {
        ends_as = inl r.is;
        same_device = r.same_device;
        same_source = r.same_source;
        usage = λ _. r.same_sink;
        memory = λ is. absurd (cc (sym r.is ∙ is));
        cut = λ is. absurd (cc (sym r.is ∙ is));
      }

  -- a job that is not built is refused
  pub unbuilt_refuses : (j : Job) (status : Status) → IsOther j → JobOutcome j status d d' source source' sink sink' → Refuses status d d' source source' sink sink'
  unbuilt_refuses (job.Trace cache policy) status other done = done.1 other
  unbuilt_refuses (job.Format blocks pages) status other done = absurd other
  unbuilt_refuses job.Check status other done = absurd other
  unbuilt_refuses (job.Load seed count cache policy) status other done = done
  unbuilt_refuses job.Upgrade status other done = done
  unbuilt_refuses job.Merge status other done = done
  unbuilt_refuses (job.Serve cache policy) status other done = done
  unbuilt_refuses (job.Vtrace cache policy) status other done = done
