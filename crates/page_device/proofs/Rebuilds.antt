-- One entry further, back and forth over a log.
use Rattle.std.proofs.Common.{◌≡◌, false, is_err, ◌⊎◌, inl, inr, ℕ, ◌+◌, suc, ◌<◌, ◌≤◌, List, [], ◌∷◌, ◌++◌, length, take, drop, get_or, slice_set, refl, sym, ◌∙◌, ap, arith, length-append, Result, Ok, Err, OnOk}
use Rattle.std.proofs.Math.Seq.{drop-cons, take-suc}
use Rattle.std.proofs.Math.ListN.{drop_of_length-le}
use Rattle.std.proofs.lemmas.List.{append-nil, length-take-le}
use Rattle.page_device.specs.declared.device.End.{End}
use Rattle.page_device.specs.declared.device.End.TheVariants.{Done, Refused, Taken}
use Rattle.page_device.specs.declared.device.LogEntry.{LogEntry}
use Rattle.page_device.specs.declared.device.LogEntry.TheVariants.{Write, Flush}
use Rattle.page_device.specs.Block.{Block}
use Rattle.page_device.specs.Disk.{DeviceState, overlay, after, state_after, written, settled}
use Rattle.page_device.specs.Memory.{taken_pages, undone}
use Rattle.page_device.proofs.Consistent.{taken_pages-append}
use Rattle.page_device.proofs.Undo.{undone-last}

-- one write more is set
pub overlay_step : (pages : List Block) (writes : List (ℕ × Block)) (i : ℕ) (d : ℕ × Block) → i < length writes
    → overlay pages (drop i writes) ≡ overlay (slice_set pages (get_or writes i d).0 (get_or writes i d).1) (drop (suc i) writes)
unfolding overlay
overlay_step pages writes i d lt = ap (overlay pages) (drop-cons writes i d lt)

-- nothing is left to be set
pub overlay_none : (pages : List Block) → overlay pages [] ≡ pages
unfolding overlay
overlay_none pages = refl

-- one entry more is followed
pub state_step : (s : DeviceState) (entries : List LogEntry) (i : ℕ) (d : LogEntry) → i < length entries
    → state_after s (drop i entries) ≡ state_after (after s (get_or entries i d)) (drop (suc i) entries)
unfolding state_after
state_step s entries i d lt = ap (state_after s) (drop-cons entries i d lt)

pub state_none : (s : DeviceState) → state_after s [] ≡ s
unfolding state_after
state_none s = refl

-- the pages taken by one entry more
pub taken_step : (entries : List LogEntry) (i : ℕ) (d : LogEntry) (pages : List ℕ) → i < length entries → taken_pages (get_or entries i d ∷ []) ≡ pages
    → taken_pages (take (suc i) entries) ≡ taken_pages (take i entries) ++ pages
taken_step entries i d pages lt is =
    ap taken_pages (take-suc entries i d lt) ∙ taken_pages-append (take i entries) (get_or entries i d ∷ []) ∙ ap (λ (l : List ℕ). taken_pages (take i entries) ++ l) is

-- an entry that took nothing
pub undo_quiet : (entries : List LogEntry) (i : ℕ) (d : LogEntry) → i < length entries → taken_pages (get_or entries i d ∷ []) ≡ []
    → taken_pages (take (suc i) entries) ≡ taken_pages (take i entries)
undo_quiet entries i d lt is = taken_step entries i d [] lt is ∙ append-nil (taken_pages (take i entries))

-- an entry that took a content is undone first
pub undo_step : (pages : List Block) (entries : List LogEntry) (replaced : List Block) (i left page : ℕ) (d : LogEntry) (b : Block) → i < length entries → left < length replaced
    → left ≡ length (taken_pages (take i entries)) → taken_pages (get_or entries i d ∷ []) ≡ page ∷ []
    → undone pages (taken_pages (take (suc i) entries)) (take (suc left) replaced) ≡ undone (slice_set pages page (get_or replaced left b)) (taken_pages (take i entries)) (take left replaced)
undo_step pages entries replaced i left page d b lt within is taken =
    ap (λ (l : List ℕ). undone pages l (take (suc left) replaced)) (taken_step entries i d (page ∷ []) lt taken)
    ∙ ap (undone pages (taken_pages (take i entries) ++ page ∷ [])) (take-suc replaced left b within)
    ∙ undone-last pages (taken_pages (take i entries)) (take left replaced) page (get_or replaced left b) (length-take-le left replaced (omega arith) ∙ is)

-- the loops over these lists go on
pub overlay_goes : (pages pages' was : List Block) (writes : List (ℕ × Block)) (i : ℕ) (w : ℕ × Block) → i < length writes → w ≡ get_or writes i w → pages' ≡ slice_set pages w.0 w.1
    → overlay pages (drop i writes) ≡ was → overlay pages' (drop (i + 1) writes) ≡ was
overlay_goes pages pages' was writes i w lt same is h =
    ap (λ (l : List Block). overlay l (drop (i + 1) writes)) is
    ∙ ap (λ (v : ℕ × Block). overlay (slice_set pages v.0 v.1) (drop (i + 1) writes)) same
    ∙ ap (λ (n : ℕ). overlay (slice_set pages (get_or writes i w).0 (get_or writes i w).1) (drop n writes)) (let e : i + 1 ≡ suc i = omega arith in e)
    ∙ sym (overlay_step pages writes i w lt) ∙ h

pub overlay_ends : (pages was : List Block) (writes : List (ℕ × Block)) (i : ℕ) → length writes ≤ i → overlay pages (drop i writes) ≡ was → pages ≡ was
overlay_ends pages was writes i le h = sym (ap (overlay pages) (drop_of_length-le writes le) ∙ overlay_none pages) ∙ h

pub state_goes : (s s' was : DeviceState) (entries : List LogEntry) (i : ℕ) (e : LogEntry) → i < length entries → e ≡ get_or entries i e → s' ≡ after s e
    → state_after s (drop i entries) ≡ was → state_after s' (drop (i + 1) entries) ≡ was
state_goes s s' was entries i e lt same is h =
    ap (λ (t : DeviceState). state_after t (drop (i + 1) entries)) is
    ∙ ap (λ (v : LogEntry). state_after (after s v) (drop (i + 1) entries)) same
    ∙ ap (λ (n : ℕ). state_after (after s (get_or entries i e)) (drop n entries)) (let e : i + 1 ≡ suc i = omega arith in e)
    ∙ sym (state_step s entries i e lt) ∙ h

pub state_ends : (s was : DeviceState) (entries : List LogEntry) (i : ℕ) → length entries ≤ i → state_after s (drop i entries) ≡ was → s ≡ was
state_ends s was entries i le h = sym (ap (state_after s) (drop_of_length-le entries le) ∙ state_none s) ∙ h

-- the pages taken by the entries before, and by this one
pub taken_more : (entries : List LogEntry) (i j : ℕ) (e : LogEntry) (pages : List ℕ) → i ≡ suc j → j < length entries → e ≡ get_or entries j e → taken_pages (e ∷ []) ≡ pages
    → taken_pages (take i entries) ≡ taken_pages (take j entries) ++ pages
taken_more entries i j e pages next lt same is =
    ap (λ (n : ℕ). taken_pages (take n entries)) next ∙ taken_step entries j e pages lt (sym (ap (λ (x : LogEntry). taken_pages (x ∷ [])) same) ∙ is)

pub taken_count : (entries : List LogEntry) (i j page : ℕ) (e : LogEntry) → i ≡ suc j → j < length entries → e ≡ get_or entries j e → taken_pages (e ∷ []) ≡ page ∷ []
    → length (taken_pages (take i entries)) ≡ length (taken_pages (take j entries)) + 1
taken_count entries i j page e next lt same is = ap length (taken_more entries i j e (page ∷ []) next lt same is) ∙ length-append (taken_pages (take j entries)) (page ∷ [])

pub undo_goes : (pages pages' was : List Block) (entries : List LogEntry) (replaced : List Block) (i j left m page : ℕ) (e : LogEntry) (block : Block) → i ≡ suc j → j < length entries → e ≡ get_or entries j e
    → taken_pages (e ∷ []) ≡ page ∷ [] → left ≡ suc m → m < length replaced → block ≡ get_or replaced m block → pages' ≡ slice_set pages page block → m ≡ length (taken_pages (take j entries))
    → undone pages (taken_pages (take i entries)) (take left replaced) ≡ was → undone pages' (taken_pages (take j entries)) (take m replaced) ≡ was
undo_goes pages pages' was entries replaced i j left m page e block next lt same is left_is within at set count h =
    ap (λ (l : List Block). undone l (taken_pages (take j entries)) (take m replaced)) (set ∙ ap (slice_set pages page) at)
    ∙ sym (undo_step pages entries replaced j m page e block lt within count (sym (ap (λ (x : LogEntry). taken_pages (x ∷ [])) same) ∙ is))
    ∙ sym (ap (λ (n : ℕ). undone pages (taken_pages (take n entries)) (take (suc m) replaced)) next)
    ∙ sym (ap (λ (n : ℕ). undone pages (taken_pages (take i entries)) (take n replaced)) left_is)
    ∙ h

-- what one entry is
pub follows_refused : (s : DeviceState) (e : LogEntry) (page : ℕ) (block : Block) (end : End) → e ≡ Write page block end → end ≡ Refused → s ≡ after s e
unfolding after
follows_refused s e page block end is ended = sym (ap (after s) (is ∙ ap (Write page block) ended))

pub follows_taken : (s : DeviceState) (e : LogEntry) (page : ℕ) (block : Block) (end : End) → e ≡ Write page block end → (end ≡ Done) ⊎ (end ≡ Taken) → written s page block ≡ after s e
unfolding after
follows_taken s e page block end is (inl ended) = sym (ap (after s) (is ∙ ap (Write page block) ended))
follows_taken s e page block end is (inr ended) = sym (ap (after s) (is ∙ ap (Write page block) ended))

pub follows_barrier : (s : DeviceState) (e : LogEntry) (end : End) → e ≡ Flush end → end ≡ Done → settled s ≡ after s e
unfolding after
follows_barrier s e end is ended = sym (ap (after s) (is ∙ ap Flush ended))

pub follows_failed : (s : DeviceState) (e : LogEntry) (end : End) → e ≡ Flush end → (end ≡ Done → ⊥) → s ≡ after s e
unfolding after
follows_failed s e Done is failed = absurd (failed refl)
follows_failed s e Taken is failed = sym (ap (after s) is)
follows_failed s e Refused is failed = sym (ap (after s) is)

pub takes_none : (e : LogEntry) (page : ℕ) (block : Block) (end : End) → e ≡ Write page block end → end ≡ Refused → taken_pages (e ∷ []) ≡ []
unfolding taken_pages
takes_none e page block end is ended = ap (λ (x : LogEntry). taken_pages (x ∷ [])) (is ∙ ap (Write page block) ended)

pub takes_one : (e : LogEntry) (page : ℕ) (block : Block) (end : End) → e ≡ Write page block end → (end ≡ Done) ⊎ (end ≡ Taken) → taken_pages (e ∷ []) ≡ page ∷ []
unfolding taken_pages
takes_one e page block end is (inl ended) = ap (λ (x : LogEntry). taken_pages (x ∷ [])) (is ∙ ap (Write page block) ended)
takes_one e page block end is (inr ended) = ap (λ (x : LogEntry). taken_pages (x ∷ [])) (is ∙ ap (Write page block) ended)

pub barrier_takes_none : (e : LogEntry) (end : End) → e ≡ Flush end → taken_pages (e ∷ []) ≡ []
unfolding taken_pages
barrier_takes_none e end is = ap (λ (x : LogEntry). taken_pages (x ∷ [])) is

pub on_ok : {T E : Type 0} (r : Result T E) (P Q : Type 0) → (P → Q) → OnOk r P → OnOk r Q
on_ok (Ok x) P Q f h = f h
on_ok (Err e) P Q f h = h

pub taken_none_more : (entries : List LogEntry) (i j : ℕ) (e : LogEntry) → i ≡ suc j → j < length entries → e ≡ get_or entries j e → taken_pages (e ∷ []) ≡ [] → taken_pages (take i entries) ≡ taken_pages (take j entries)
taken_none_more entries i j e next lt same is = taken_more entries i j e [] next lt same is ∙ append-nil (taken_pages (take j entries))

-- all is undone
pub undo_ends : (pages was : List Block) (entries : List LogEntry) (replaced : List Block) (i left : ℕ) → i ≡ 0 → left ≡ length (taken_pages (take i entries)) → undone pages (taken_pages (take i entries)) (take left replaced) ≡ was → pages ≡ was
unfolding taken_pages undone
undo_ends pages was entries replaced i left is count h = sym (ap (λ (n : ℕ). undone pages (taken_pages (take n entries)) (take left replaced)) is) ∙ h

pub ok_where : {T E : Type 0} (r : Result T E) (P : Type 0) → false ≡ is_err r → OnOk r P → P
ok_where (Ok x) P e h = h
ok_where (Err x) P e h = absurd (cc)
