-- How a session ends.
use Rattle.std.proofs.Common.{◌≡◌, ℕ, ◌<◌, ◌≤◌, List, [], ◌∷◌, ◌++◌, length, refl, sym, ◌∙◌, ap, subst, arith, Ok, Err}
use Rattle.byte_ports.specs.Source.{SourceMeaning, Gives}
use Rattle.byte_ports.specs.Sink.{SinkMeaning}
use Rattle.page_device.specs.declared.error.Failed.{Failed}
use Rattle.array_model.specs.Turns.{Turn, lines_of, ended_lines}
use Rattle.dedup_writer.specs.Calls.{FlushCalled}
use Rattle.session.specs.declared.status.Status.{Status}
use Rattle.session.specs.declared.status.Status.TheVariants.{Done, SinkFault, DeviceFault}
use Rattle.session.specs.Answers.{Moment}
use Rattle.session.specs.Chain.{Link, IsChain, turns_of}
use Rattle.session.specs.Session.{Begin, SoFarWith, CutShort, LastCut, Close, none, closed, failed}
use Rattle.session.specs.Endings.{input_limit, AllAnswered, RestCut, LastPut, AtEnd, NotAtEnd, SomeRead, CutAt, at_line, at_rest, TextCut, Ended, all_done, closing_failed, sink_failed, ClosesAs, EndsAs, Course, Closed, Answered, Served}
use Rattle.session.proofs.Chains.{turns-last, chain_plain, chain_sure}
use Rattle.session.proofs.Closing.{course_faulted, course_kept, course_stands, course_told}
use Rattle.session.proofs.Lines.{ended_are, ended_more}

-- no closing flush
abbrev open_course : (first : Moment) (links : List Link) (now : Moment) → IsChain first links now → Course first links none now.device
open_course first links now chain = record { last = now; chain = chain; final = now; closes = refl; device = refl }

-- the text of the last turn was cut
text_cut : (b : Begin) (bytes : List ℕ) (links : List Link) (last : Link) (now : Moment) (sink : SinkMeaning) (source source' : SourceMeaning) → LastCut b links last now sink
    → CutAt bytes (lines_of (turns_of (links ++ last ∷ []))) source source' → TextCut bytes (turns_of (links ++ last ∷ [])) source source' b.sink sink
text_cut b bytes links last now sink source source' c at = record { before = turns_of links; last = last.turn; turns_are = turns-last links last; cut_at = at; after_texts = c.whole; put = c.put; part = c.part }

module _ (b : Begin) (bytes : List ℕ) (now later : Moment) (sink : SinkMeaning) (all : AllAnswered b bytes now sink) where
  -- everything is on the device
  pub closed_well : FlushCalled (Ok tt) now.store later.store now.device later.device → Closed b bytes Done later sink
  closed_well f = record {
    links = all.links;
    close = closed f.call.calls;
    course = record { last = now; chain = all.chain; final = later; closes = record { call = f.call; calls_are = refl }; device = refl };
    ends_at = refl;
    ended = λ source source' end few. all_done refl tt (record { lines = all.lines; few = few; end = end }) all.put;
  }

  -- the device failed
  pub closed_by_fault : (fault : Failed) (status : Status) (put : SinkMeaning) → FlushCalled (Err fault) now.store later.store now.device later.device → LastPut DeviceFault status sink put → Closed b bytes status later put
  closed_by_fault fault status put f last = record {
    links = all.links;
    close = failed f.call.calls;
    course = record { last = now; chain = all.chain; final = later; closes = (record { call = f.call; calls_are = refl }, f.stopped refl); device = refl };
    ends_at = refl;
    ended = λ source source' end few. closing_failed tt (record { lines = all.lines; few = few; end = end }) (record { after_texts = sink; put = all.put; last_line = last });
  }

-- the text of the rest could not be put
pub closed_by_cut : (b : Begin) (bytes : List ℕ) (now : Moment) (sink : SinkMeaning) → RestCut b bytes now sink → Closed b bytes SinkFault now sink
closed_by_cut b bytes now sink c = record {
  links = c.links ++ c.last ∷ [];
  close = none;
  course = open_course b.moment (c.links ++ c.last ∷ []) now c.cut.chain;
  ends_at = refl;
  ended = λ source source' end few. sink_failed tt (text_cut b bytes c.links c.last now sink source source' c.cut (at_rest c.lines end)) refl;
}

module _ (b : Begin) (status : Status) (now : Moment) (source source' : SourceMeaning) (sink : SinkMeaning) where
  -- what was answered is what is promised
  pub served : (a : Answered b status now.device source source' sink) → a.course.final ≡ now → Served b status now source source' sink
  served a is = record {
    answered = a;
    ends_at = is;
    plain = chain_plain b.moment a.course.last a.links a.course.chain;
    sure = chain_sure b.moment a.course.last a.links a.course.chain;
    faulted = course_faulted b.moment a.links a.close now.device a.course;
    kept = course_kept b.moment a.links a.close now.device a.course;
    stands = course_stands b.moment a.links a.close now.device a.course now is;
    counted = λ mode array sf was. course_told b.moment a.links a.close now.device a.course b.moment.device mode array (omega arith) sf was;
  }

  -- a closed session
  pub served_closed : (bytes : List ℕ) → Gives bytes source source' → AtEnd source source' → length bytes < input_limit → Closed b bytes status now sink → Served b status now source source' sink
  served_closed bytes gives end few c = served (record { bytes = bytes; gives = gives; links = c.links; close = c.close; course = c.course; ended = c.ended source source' end few }) c.ends_at

module _ (b : Begin) (now : Moment) (source source' : SourceMeaning) where
  -- one that stopped between two lines
  pub served_so_far : (status : Status) (sink sink' : SinkMeaning) (bytes line : List ℕ) → Gives bytes source source' → NotAtEnd source source' → (w : SoFarWith b bytes line now sink)
      → (SomeRead bytes (turns_of w.so_far.links) source source' → Ended bytes (turns_of w.so_far.links) none status source source' b.sink sink') → Served b status now source source' sink'
  served_so_far status sink sink' bytes line gives not_end w ends =
      let h = w.so_far in
      served b status now source source' sink' (record {
        bytes = bytes;
        gives = gives;
        links = h.links;
        close = none;
        course = open_course b.moment h.links now h.chain;
        ended = ends (record { lines = sym (ended_are bytes (lines_of (turns_of h.links)) w.begun h.split h.lines h.open_line); not_end = not_end });
      }) refl

  -- one of which a text could not be put
  pub served_by_cut : (sink : SinkMeaning) (bytes : List ℕ) → Gives bytes source source' → NotAtEnd source source' → CutShort b bytes now sink → Served b SinkFault now source source' sink
  served_by_cut sink bytes gives not_end c =
      let all = c.links ++ c.last ∷ [] in
      let lines = lines_of (turns_of all) in
      served b SinkFault now source source' sink (record {
        bytes = bytes;
        gives = gives;
        links = all;
        close = none;
        course = open_course b.moment all now c.cut.chain;
        ended = sink_failed tt (text_cut b bytes c.links c.last now sink source source' c.cut (at_line (ended_lines c.rest) (ended_more bytes lines c.rest c.split c.lines) not_end)) refl;
      }) refl
