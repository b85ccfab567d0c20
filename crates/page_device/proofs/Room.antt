-- Growth by further pages leaves what was there, whatever was written before it.
use Rattle.std.proofs.Common.{◌≡◌, ℕ, ◌<◌, ◌≤◌, List, [], ◌∷◌, ◌++◌, length, refl, sym, ◌∙◌, ap, subst, slice_set, arith, length-set, length-append}
use Rattle.std.proofs.lemmas.List.{set-append_left}
use Rattle.page_device.specs.declared.device.LogEntry.{LogEntry}
use Rattle.page_device.specs.declared.device.LogEntry.TheVariants.{Write, Flush}
use Rattle.page_device.specs.declared.device.End.TheVariants.{Done, Refused, Taken}
use Rattle.page_device.specs.Block.{Block}
use Rattle.page_device.specs.Disk.{DeviceState, overlay, newest, at_rest, with_room, after, state_after}
use Rattle.page_device.specs.Possible.{length-overlay}
use Rattle.page_device.specs.Memory.{AllBelow, taken_pages, undone, IsConsistent}
use Rattle.page_device.proofs.Undo.{length-undone, undone-room}

-- the pages that were written
unfoldable pages_of : List (ℕ × Block) → List ℕ
pages_of [] = []
pages_of (w ∷ ws) = w.0 ∷ pages_of ws

overlay-room : (pages more : List Block) (writes : List (ℕ × Block)) → AllBelow (pages_of writes) (length pages) → overlay (pages ++ more) writes ≡ overlay pages writes ++ more
unfolding overlay AllBelow pages_of
overlay-room pages more [] below = refl
overlay-room pages more (w ∷ ws) below =
    ap (λ (l : List Block). overlay l ws) (set-append_left pages more w.0 w.1 below.0)
    ∙ overlay-room (slice_set pages w.0 w.1) more ws (subst (AllBelow (pages_of ws)) (sym (length-set pages w.0 w.1)) below.1)

after-room : (s : DeviceState) (more : List Block) (entry : LogEntry) → AllBelow (pages_of s.since) (length s.fixed) → after (with_room s more) entry ≡ with_room (after s entry) more
unfolding after
after-room s more (Write page block Done) below = refl
after-room s more (Write page block Taken) below = refl
after-room s more (Write page block Refused) below = refl
after-room s more (Flush Done) below = ap at_rest (overlay-room s.fixed more s.since below)
after-room s more (Flush Taken) below = refl
after-room s more (Flush Refused) below = refl

below_one_more : (ws : List (ℕ × Block)) (page : ℕ) (block : Block) (n : ℕ) → AllBelow (pages_of ws) n → page < n → AllBelow (pages_of (ws ++ (page, block) ∷ [])) n
unfolding AllBelow pages_of
below_one_more [] page block n h lt = (lt, tt)
below_one_more (w ∷ ws) page block n h lt = (h.0, below_one_more ws page block n h.1 lt)

none_below : (n : ℕ) → AllBelow (pages_of []) n
unfolding AllBelow pages_of
none_below n = tt

-- after one entry, those written since and those of the rest are below still
below_after : (s : DeviceState) (entry : LogEntry) (rest : List LogEntry) → AllBelow (pages_of s.since) (length s.fixed) → AllBelow (taken_pages (entry ∷ rest)) (length s.fixed)
    → AllBelow (pages_of (after s entry).since) (length (after s entry).fixed) × AllBelow (taken_pages rest) (length (after s entry).fixed)
unfolding after taken_pages AllBelow
below_after s (Write page block Done) rest since log = (below_one_more s.since page block (length s.fixed) since log.0, log.1)
below_after s (Write page block Taken) rest since log = (below_one_more s.since page block (length s.fixed) since log.0, log.1)
below_after s (Write page block Refused) rest since log = (since, log)
below_after s (Flush Done) rest since log = (none_below (length (overlay s.fixed s.since)), subst (AllBelow (taken_pages rest)) (sym (length-overlay s.fixed s.since)) log)
below_after s (Flush Taken) rest since log = (since, log)
below_after s (Flush Refused) rest since log = (since, log)

state_after-room : (s : DeviceState) (more : List Block) (log : List LogEntry) → AllBelow (pages_of s.since) (length s.fixed) → AllBelow (taken_pages log) (length s.fixed)
    → state_after (with_room s more) log ≡ with_room (state_after s log) more
unfolding state_after
state_after-room s more [] since below = refl
state_after-room s more (entry ∷ log) since below =
    let later = below_after s entry log since below in
    ap (λ (t : DeviceState). state_after t log) (after-room s more entry since) ∙ state_after-room (after s entry) more log later.0 later.1

-- what is written since is of pages that are there
since_below : (s : DeviceState) (log : List LogEntry) → AllBelow (pages_of s.since) (length s.fixed) → AllBelow (taken_pages log) (length s.fixed)
    → AllBelow (pages_of (state_after s log).since) (length (state_after s log).fixed)
unfolding state_after
since_below s [] since below = since
since_below s (entry ∷ log) since below = let later = below_after s entry log since below in since_below (after s entry) log later.0 later.1

-- a session in which room was made is one that had it from the start
pub room_from_start : (start more : List Block) (log : List LogEntry) → AllBelow (taken_pages log) (length start)
    → state_after (at_rest (start ++ more)) log ≡ with_room (state_after (at_rest start) log) more
room_from_start start more log below = state_after-room (at_rest start) more log (none_below (length start)) below

more_below : (taken : List ℕ) (m n : ℕ) → m ≤ n → AllBelow taken m → AllBelow taken n
unfolding AllBelow
more_below [] m n le h = tt
more_below (t ∷ ts) m n le h = (omega (arith, h.0), more_below ts m n le h.1)

-- the device in memory stays consistent
pub consistent-room : (pages more replaced : List Block) (kept all : List LogEntry) → IsConsistent pages replaced kept all → length (pages ++ more) < 4294967296
    → IsConsistent (pages ++ more) replaced kept all
consistent-room pages more replaced kept all c few =
    let start = undone pages (taken_pages kept) replaced in
    let bound : length pages ≤ length (pages ++ more) = omega (arith, length-append pages more) in
    let in_start : AllBelow (taken_pages all) (length start) = subst (AllBelow (taken_pages all)) (sym (length-undone pages (taken_pages kept) replaced)) c.all_below in
    record {
      few = few;
      as_many = c.as_many;
      below = more_below (taken_pages kept) (length pages) (length (pages ++ more)) bound c.below;
      all_below = more_below (taken_pages all) (length pages) (length (pages ++ more)) bound c.all_below;
      newest_is = ap (λ (l : List Block). l ++ more) c.newest_is
          ∙ sym (overlay-room (state_after (at_rest start) all).fixed more (state_after (at_rest start) all).since (since_below (at_rest start) all (none_below (length start)) in_start))
          ∙ ap newest (sym (room_from_start start more all in_start))
          ∙ ap (λ (l : List Block). newest (state_after (at_rest l) all)) (sym (undone-room pages more (taken_pages kept) replaced c.below));
    }
