-- What callers see of a device in memory, from what it keeps.
use Rattle.std.proofs.Common.{◌≡◌, ℕ, ◌-◌, ◌<◌, ◌≤◌, List, ◌++◌, length, replicate, refl, sym, ◌∙◌, ap, subst, arith, slice_get, get_or, Some}
use Rattle.std.proofs.lemmas.List.{append-nil}
use Rattle.std.proofs.lemmas.Option.{slice_get_read}
use Rattle.page_device.specs.Block.{Block, zero_block}
use Rattle.page_device.specs.declared.device.LogEntry.{LogEntry}
use Rattle.page_device.specs.Disk.{newest, state_after, at_rest, with_room, DeviceState}
use Rattle.page_device.specs.Memory.{MemoryView, IsConsistent, AllBelow, taken_pages, undone}
use Rattle.page_device.proofs.Undo.{length-undone, undone-room}
use Rattle.page_device.proofs.Room.{room_from_start}

module _ (m : MemoryView) (pages replaced : List Block) (kept all : List LogEntry) (start_is : undone pages (taken_pages kept) replaced ≡ m.start) (all_is : all ≡ m.all) (c : IsConsistent pages replaced kept all) where
  -- as many pages as it began with
  pub as_many : length pages ≡ length m.start
  as_many = sym (length-undone pages (taken_pages kept) replaced) ∙ ap length start_is

  -- they are the newest contents
  pub are_newest : pages ≡ newest (state_after (at_rest m.start) m.all)
  are_newest = c.newest_is ∙ ap (λ (l : List Block). newest (state_after (at_rest l) all)) start_is ∙ ap (λ (l : List LogEntry). newest (state_after (at_rest m.start) l)) all_is

  -- a read gives one of them
  pub read_is : (page : ℕ) (at content : Block) → page < length m.start → at ≡ get_or pages page at → content ≡ at → slice_get (newest (state_after (at_rest m.start) m.all)) page ≡ Some content
  read_is page at content lt is same =
      subst (λ (l : List Block). slice_get l page ≡ Some content) are_newest
      (slice_get_read pages (length pages) page content refl (omega (arith, as_many)) (same ∙ is ∙ ap (get_or pages page) (sym same)))

  -- with pages behind, it began with these too
  pub start_grows : (more : List Block) → undone (pages ++ more) (taken_pages kept) replaced ≡ m.start ++ more
  start_grows more = undone-room pages more (taken_pages kept) replaced c.below ∙ ap (λ (l : List Block). l ++ more) start_is

  -- and its state has them fixed
  pub state_grows : (more : List Block) → state_after (at_rest (m.start ++ more)) m.all ≡ with_room (state_after (at_rest m.start) m.all) more
  state_grows more = room_from_start m.start more m.all (subst (λ (l : List LogEntry). AllBelow (taken_pages l) (length m.start)) all_is (subst (λ (n : ℕ). AllBelow (taken_pages all) n) as_many c.all_below))

-- nothing is added
pub no_zeros : (pages : List Block) (asked : ℕ) → asked ≤ length pages → pages ++ replicate (asked - length pages) zero_block ≡ pages
no_zeros pages asked le = ap (λ (n : ℕ). pages ++ replicate n zero_block) (let e : asked - length pages ≡ 0 = omega arith in e) ∙ append-nil pages

-- a view that grows by nothing
pub grown_by_none : (m : MemoryView) (asked : ℕ) → asked ≤ length m.start → m ≡ record m { start = m.start ++ replicate (asked - length m.start) zero_block }
grown_by_none m asked le = ap (λ (l : List Block). let v : MemoryView = record m { start = l } in v) (sym (no_zeros m.start asked le))

-- a state that grows by nothing
pub state_by_none : (s : DeviceState) (asked had : ℕ) → asked ≤ had → s ≡ with_room s (replicate (asked - had) zero_block)
state_by_none s asked had le = ap (λ (l : List Block). let t : DeviceState = record { fixed = l; since = s.since } in t) (sym (ap (λ (n : ℕ). s.fixed ++ replicate n zero_block) (let e : asked - had ≡ 0 = omega arith in e) ∙ append-nil s.fixed))
