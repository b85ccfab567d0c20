-- What a crash leaves of a session.
use Rattle.std.proofs.Common.{◌≡◌, ◌<◌, ⊎_elim, zero, suc, take, ℕ, true, List, [], refl, sym, ◌∙◌, ap, subst, lit<}
use Rattle.std.proofs.lemmas.List.{append-nil, append_cancel_left}
use Rattle.byte_ports.specs.Source.{SourceMeaning}
use Rattle.byte_ports.specs.Sink.{SinkMeaning}
use Rattle.page_device.specs.Block.{Block}
use Rattle.page_device.specs.declared.device.LogEntry.{LogEntry}
use Rattle.page_device.specs.Disk.{DeviceState, IsImage, LeftAt, at_rest, state_after}
use Rattle.page_device.specs.Images.{image_at_rest}
use Rattle.page_device.specs.Meaning.{Meaning, IsCounted}
use Rattle.array_model.specs.Images.{Mode, IsFit, fit, block_of}
use Rattle.array_model.specs.Array.{BlockArray, IsAmong, array_start}
use Rattle.array_model.specs.Turns.{Rules, Work, SurvivesCrash, calls_of_works, contents_at}
use Rattle.session.specs.declared.status.Status.{Status}
use Rattle.session.specs.Session.{start_rules, closed, works_done}
use Rattle.session.specs.Chain.{turns_of}
use Rattle.session.specs.Flat.{Session, DoneSession}
use Rattle.session.specs.Run.{IsReady, TraceOutcome, unopened, opened, session_start}
use Rattle.conclusions.specs.Sentences.{LeavesFit, ReadsAllowed}

-- a device whose log and state stayed leaves the image that it had
still_fit : (d d' : Meaning) → IsReady d → IsFit d.state.fixed → d'.log ≡ d.log → LeavesFit d d'
unfolding state_after
still_fit d d' ready good same image left =
    let none : left.calls ≡ [] = append_cancel_left d.log left.calls [] (sym left.log ∙ same ∙ sym (append-nil d.log)) in
    let at : IsImage (at_rest d.state.fixed) image = subst (λ (s : DeviceState). IsImage s image) (ap (λ (l : List LogEntry). state_after d.state (take left.k l)) none ∙ nothing_taken left.k ∙ ready.rest) left.left in
    subst IsFit (sym (image_at_rest d.state.fixed image at)) good
  where
    nothing_taken : (n : ℕ) → state_after d.state (take n (let l : List LogEntry = [] in l)) ≡ d.state
    nothing_taken zero = refl
    nothing_taken (suc n) = refl

pub crash_fit : (status : Status) (d d' : Meaning) (source source' : SourceMeaning) (sink sink' : SinkMeaning) → IsReady d → IsFit d.state.fixed → d.tells_log ≡ true → IsCounted d'
    → Session status d d' source source' sink sink' → LeavesFit d d'
crash_fit status d d' source source' sink sink' ready good tells few h = ⊎_elim (λ none. still_fit d d' ready good (ap (λ (m : Meaning). m.log) none.same_device)) by h
  where
    by : TraceOutcome status d d' source source' sink sink' → LeavesFit d d'
    by (unopened u) = still_fit d d' ready good (u.looked.log tells)
    by (opened o) = λ image left.
        let s = o.kept ready fit good in
        let turns = turns_of o.answered.links in
        let made : left.calls ≡ calls_of_works fit (start_rules (session_start fit d)) (works_done turns o.answered.close) = append_cancel_left d.log left.calls _ (sym left.log ∙ s.gains.log tells few) in
        (s.survives left.k image (subst (λ (l : List LogEntry). LeftAt d.state l left.k image) made left.left)).good

-- what a block reads after a crash (a law of array_model)
abbrev pub CrashReads : Type 0
CrashReads = (mode : Mode) (rules : Rules) (a : BlockArray) (start : DeviceState) (works : List Work) (k : ℕ) (image : List Block) → SurvivesCrash mode rules a start works → LeftAt start (calls_of_works mode rules works) k image
    → (block : ℕ) → block < rules.blocks → IsAmong (block_of image block) (contents_at mode rules a works k block)

pub reads_allowed : CrashReads → (d d' : Meaning) (source source' : SourceMeaning) (sink sink' : SinkMeaning) → IsReady d → IsFit d.state.fixed → d.tells_log ≡ true → source.tells ≡ true → DoneSession d d' source source' sink sink' → ReadsAllowed d d' source.left sink sink'
reads_allowed law d d' source source' sink sink' ready good tells source_tells h =
    let s = h.kept ready fit good in
    let rules = start_rules (session_start fit d) in
    let works = works_done (turns_of h.links) (closed h.calls) in
    record {
      turns = turns_of h.links;
      close = h.calls;
      lines = h.input source_tells;
      put = h.put;
      run = s.run (lit< tt);
      made = λ few. s.gains.log tells few;
      reads = λ few image left block lt.
          let made : left.calls ≡ calls_of_works fit rules works = append_cancel_left d.log left.calls _ (sym left.log ∙ s.gains.log tells few) in
          law fit rules (array_start d.state.fixed) d.state works left.k image s.survives (subst (λ (l : List LogEntry). LeftAt d.state l left.k image) made left.left) block lt;
    }
