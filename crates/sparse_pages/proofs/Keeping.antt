-- Pages that come, that get a place of their own, and that are edited.
use Rattle.std.proofs.Common.{◌≡◌, ◌⊎◌, inl, inr, ⊎_elim, ℕ, zero, suc, ◌+◌, ◌<◌, ◌≤◌, ◌==◌, Bool, true, false, if◌then◌else◌, List, [], ◌∷◌, ◌++◌, length, slice_index_or, slice_set, refl, sym, ◌∙◌, ap, arith}
use Rattle.std.proofs.lemmas.Bool.{cases_eq, cases_lt}
use Rattle.std.proofs.lemmas.Bool.Decides.{nat_tests}
use Rattle.std.proofs.lemmas.List.{ext_get_or, get_or-map, map_push, length-map, length-set, length-append, map-set, set-get_or, get_or-set_same, get_or-set_other, get_or_append_left}
use Rattle.std.proofs.Math.Seq.{get_or-append_seam}
use Rattle.page_device.specs.Block.{Block, zero_block}
use Rattle.sparse_pages.specs.View.{PagesView, AreKept, pages_at, sharing}

-- what stands at a place
abbrev standing : List Block → ℕ → Block
standing kept at = slice_index_or kept at zero_block

is_zero_place : (at : ℕ) → at ≡ 0 → (at == 0) ≡ true
is_zero_place at h = grind (arith, nat_tests)

is_own_place : (at : ℕ) → 1 ≤ at → (at == 0) ≡ false
is_own_place at h = grind (arith, nat_tests)

one_more : (b : Bool) (n : ℕ) → b ≡ true → (if b then 1 else 0) + n ≡ 1 + n
one_more true n h = refl
one_more false n h = cc

no_more : (b : Bool) (n : ℕ) → b ≡ false → (if b then 1 else 0) + n ≡ n
no_more true n h = cc
no_more false n h = omega arith

-- one page more is shared, or has a place of its own
sharing-push : (places : List ℕ) (at : ℕ) → sharing (places ++ at ∷ []) ≡ (if at == 0 then 1 else 0) + sharing places
unfolding sharing
sharing-push [] at = omega arith
sharing-push (p ∷ places) at = omega (arith, sharing-push places at)

-- a page that was shared gets a place of its own
sharing-set : (places : List ℕ) (j at : ℕ) → j < length places → slice_index_or places j 0 ≡ 0 → 1 ≤ at → sharing (slice_set places j at) + 1 ≡ sharing places
unfolding sharing
sharing-set [] j at lt was own = absurd (omega (arith, lt))
sharing-set (p ∷ places) zero at lt was own = omega (arith, no_more (at == 0) (sharing places) (is_own_place at own), one_more (p == 0) (sharing places) (is_zero_place p was))
sharing-set (p ∷ places) (suc j) at lt was own = omega (arith, sharing-set places j at (omega (arith, lt)) was own)

-- the same places see the same pages, where those that they lead to stay
stay : (places : List ℕ) (old new : List Block) → ((j : ℕ) → j < length places → slice_index_or places j 0 < length old) → ((at : ℕ) → at < length old → standing new at ≡ standing old at) → pages_at places new ≡ pages_at places old
stay [] old new within same = refl
stay (p ∷ places) old new within same = ap2 (same p (within 0 (omega arith))) (stay places old new (λ j lt. within (suc j) (omega (arith, lt))) same)
  where
    ap2 : {a b : Block} {xs ys : List Block} → a ≡ b → xs ≡ ys → (a ∷ xs) ≡ (b ∷ ys)
    ap2 h t = cc

-- the place of a page, and the page there
seam : {A : Type 0} (l : List A) (x d : A) → slice_index_or (l ++ x ∷ []) (length l) d ≡ x
seam l x d = get_or-append_seam l x [] d

last_or_before : (j n : ℕ) → j < n + 1 → (j < n) ⊎ (j ≡ n)
last_or_before j n lt = ⊎_elim (λ below. inl below) (λ above. inr (omega (arith, lt, above))) (cases_lt j n)

pushed_places : (places : List ℕ) (at j : ℕ) → j < length (places ++ at ∷ []) → (j < length places) ⊎ (j ≡ length places)
pushed_places places at j lt = last_or_before j (length places) (omega (arith, lt, length-append places (at ∷ [])))

at_end : (places : List ℕ) (at j : ℕ) → j ≡ length places → slice_index_or (places ++ at ∷ []) j 0 ≡ at
at_end places at j is = ap (λ (n : ℕ). slice_index_or (places ++ at ∷ []) n 0) is ∙ seam places at 0

before_end : (places : List ℕ) (at j : ℕ) → j < length places → slice_index_or (places ++ at ∷ []) j 0 ≡ slice_index_or places j 0
before_end places at j lt = get_or_append_left places (at ∷ []) 0 j lt

-- a page of zeros comes
pub zeros_kept : (places : List ℕ) (kept : List Block) → AreKept places kept → AreKept (places ++ 0 ∷ []) kept
zeros_kept places kept are = record {
  zeros = are.zeros;
  some = are.some;
  within = λ j lt. ⊎_elim (λ l. omega (arith, before_end places 0 j l, are.within j l)) (λ e. omega (arith, at_end places 0 j e, are.some)) (pushed_places places 0 j lt);
  apart = λ i j li lj same own. ⊎_elim
      (λ bi. ⊎_elim
      (λ bj. are.apart i j bi bj (sym (before_end places 0 i bi) ∙ same ∙ before_end places 0 j bj) (omega (arith, own, before_end places 0 i bi)))
      (λ ej. absurd (omega (arith, own, same, at_end places 0 j ej)))
      (pushed_places places 0 j lj))
      (λ ei. absurd (omega (arith, own, at_end places 0 i ei)))
      (pushed_places places 0 i li);
  counted = omega (arith, are.counted, sharing-push places 0, one_more (0 == 0) (sharing places) refl, length-append places (0 ∷ []));
}

pub zeros_seen : (places : List ℕ) (kept : List Block) (page : Block) → AreKept places kept → page ≡ zero_block → pages_at (places ++ 0 ∷ []) kept ≡ pages_at places kept ++ page ∷ []
zeros_seen places kept page are is = map_push (standing kept) places 0 ∙ ap (λ (b : Block). pages_at places kept ++ b ∷ []) (are.zeros ∙ sym is)

-- a page comes behind those that are kept, and they stay
stands_behind : (kept : List Block) (page : Block) (at : ℕ) → at < length kept → standing (kept ++ page ∷ []) at ≡ standing kept at
stands_behind kept page at lt = get_or_append_left kept (page ∷ []) zero_block at lt

pub own_kept : (places : List ℕ) (kept : List Block) (page : Block) → AreKept places kept → AreKept (places ++ length kept ∷ []) (kept ++ page ∷ [])
own_kept places kept page are =
    let n = length kept in
    let more : length (kept ++ page ∷ []) ≡ n + 1 = length-append kept (page ∷ []) in
    record {
      zeros = stands_behind kept page 0 (omega (arith, are.some)) ∙ are.zeros;
      some = omega (arith, more);
      within = λ j lt. ⊎_elim (λ l. omega (arith, before_end places n j l, are.within j l, more)) (λ e. omega (arith, at_end places n j e, more)) (pushed_places places n j lt);
      apart = λ i j li lj same own. ⊎_elim
          (λ bi. ⊎_elim
          (λ bj. are.apart i j bi bj (sym (before_end places n i bi) ∙ same ∙ before_end places n j bj) (omega (arith, own, before_end places n i bi)))
          (λ ej. absurd (omega (arith, same, before_end places n i bi, at_end places n j ej, are.within i bi)))
          (pushed_places places n j lj))
          (λ ei. ⊎_elim
          (λ bj. absurd (omega (arith, same, before_end places n j bj, at_end places n i ei, are.within j bj)))
          (λ ej. ei ∙ sym ej)
          (pushed_places places n j lj))
          (pushed_places places n i li);
      counted = omega (arith, are.counted, sharing-push places n, no_more (n == 0) (sharing places) (is_own_place n are.some), length-append places (n ∷ []), more);
    }

pub own_seen : (places : List ℕ) (kept : List Block) (page : Block) → AreKept places kept → pages_at (places ++ length kept ∷ []) (kept ++ page ∷ []) ≡ pages_at places kept ++ page ∷ []
own_seen places kept page are =
    map_push (standing (kept ++ page ∷ [])) places (length kept)
    ∙ ap (λ (l : List Block). l ++ standing (kept ++ page ∷ []) (length kept) ∷ []) (stay places kept (kept ++ page ∷ []) are.within (stands_behind kept page))
    ∙ ap (λ (b : Block). pages_at places kept ++ b ∷ []) (seam kept page zero_block)

-- a page that shared the page of zeros gets a place of its own
pub parted_kept : (places : List ℕ) (kept : List Block) (j : ℕ) → AreKept places kept → j < length places → slice_index_or places j 0 ≡ 0 → AreKept (slice_set places j (length kept)) (kept ++ zero_block ∷ [])
parted_kept places kept j are lt was =
    let n = length kept in
    let more : length (kept ++ zero_block ∷ []) ≡ n + 1 = length-append kept (zero_block ∷ []) in
    let long = length-set places j n in
    let here : slice_index_or (slice_set places j n) j 0 ≡ n = get_or-set_same places j n 0 lt in
    let other : (i : ℕ) → (i ≡ j → ⊥) → slice_index_or (slice_set places j n) i 0 ≡ slice_index_or places i 0 = λ i apart. get_or-set_other places j i n 0 apart in
    let at : (i : ℕ) → i ≡ j → slice_index_or (slice_set places j n) i 0 ≡ n = λ i e. ap (λ (k : ℕ). slice_index_or (slice_set places j n) k 0) e ∙ here in
    record {
      zeros = stands_behind kept zero_block 0 (omega (arith, are.some)) ∙ are.zeros;
      some = omega (arith, more);
      within = λ i l. ⊎_elim (λ e. omega (arith, at i e, more)) (λ ne. omega (arith, other i ne, are.within i (omega (arith, l, long)), more)) (cases_eq i j);
      apart = λ i k li lk same own. ⊎_elim
          (λ ei. ⊎_elim
          (λ ek. ei ∙ sym ek)
          (λ nk. absurd (omega (arith, same, at i ei, other k nk, are.within k (omega (arith, lk, long)))))
          (cases_eq k j))
          (λ ni. ⊎_elim
          (λ ek. absurd (omega (arith, same, at k ek, other i ni, are.within i (omega (arith, li, long)))))
          (λ nk. are.apart i k (omega (arith, li, long)) (omega (arith, lk, long)) (sym (other i ni) ∙ same ∙ other k nk) (omega (arith, own, other i ni)))
          (cases_eq k j))
          (cases_eq i j);
      counted = omega (arith, are.counted, sharing-set places j n lt was are.some, long, more);
    }

-- at most one page more is kept than there are
pub kept_most : (places : List ℕ) (kept : List Block) → AreKept places kept → length kept ≤ length places + 1
kept_most places kept are = omega (arith, are.counted)

-- no page, and the page of zeros
pub none_kept : (places : List ℕ) (kept : List Block) → places ≡ [] → kept ≡ zero_block ∷ [] → AreKept places kept
unfolding sharing
none_kept places kept none zeros = rw (none, zeros) (record {
  zeros = refl;
  some = omega arith;
  within = λ j lt. absurd (omega (arith, lt));
  apart = λ i j li lj same own. absurd (omega (arith, li));
  counted = refl;
})

-- where one page shares the page of zeros, fewer are kept than there are
pub kept_few : (places : List ℕ) (kept : List Block) (j : ℕ) → AreKept places kept → j < length places → slice_index_or places j 0 ≡ 0 → length kept ≤ length places
kept_few places kept j are lt was = omega (arith, are.counted, sharing-set places j 1 lt was (omega arith))

-- as many pages are seen as have a place
pub as_many : (places : List ℕ) (kept : List Block) → length (pages_at places kept) ≡ length places
as_many places kept = length-map places (standing kept)

-- a page that is seen, and the one that stands at its place
seen_at : (places : List ℕ) (kept : List Block) (j : ℕ) → j < length places → slice_index_or (pages_at places kept) j zero_block ≡ standing kept (slice_index_or places j 0)
seen_at places kept j lt = get_or-map (standing kept) places j 0 zero_block lt

pub parted_seen : (places : List ℕ) (kept : List Block) (j : ℕ) → AreKept places kept → j < length places → slice_index_or places j 0 ≡ 0 → pages_at (slice_set places j (length kept)) (kept ++ zero_block ∷ []) ≡ pages_at places kept
parted_seen places kept j are lt was =
    map-set (standing (kept ++ zero_block ∷ [])) places j (length kept)
    ∙ ap (λ (l : List Block). slice_set l j (standing (kept ++ zero_block ∷ []) (length kept))) (stay places kept (kept ++ zero_block ∷ []) are.within (stands_behind kept zero_block))
    ∙ ap (slice_set (pages_at places kept) j) (seam kept zero_block zero_block ∙ sym here)
    ∙ set-get_or (pages_at places kept) j zero_block
  where
    here : slice_index_or (pages_at places kept) j zero_block ≡ zero_block
    here = seen_at places kept j lt ∙ ap (standing kept) was ∙ are.zeros

-- a page at a place of its own is edited
pub edited_kept : (places : List ℕ) (kept : List Block) (at : ℕ) (page : Block) → AreKept places kept → 1 ≤ at → AreKept places (slice_set kept at page)
edited_kept places kept at page are own =
    let long = length-set kept at page in
    record {
      zeros = get_or-set_other kept at 0 page zero_block (λ e. omega (arith, e, own)) ∙ are.zeros;
      some = omega (arith, long, are.some);
      within = λ j lt. omega (arith, long, are.within j lt);
      apart = are.apart;
      counted = omega (arith, long, are.counted);
    }

edited_seen : (places : List ℕ) (kept : List Block) (j at : ℕ) (page : Block) → AreKept places kept → j < length places → at ≡ slice_index_or places j 0 → 1 ≤ at → pages_at places (slice_set kept at page) ≡ slice_set (pages_at places kept) j page
edited_seen places kept j at page are lt is own = ext_get_or zero_block (pages_at places new) (slice_set seen j page) (as_many places new ∙ sym (as_many places kept) ∙ sym (length-set seen j page)) each
  where
    new : List Block
    new = slice_set kept at page

    seen : List Block
    seen = pages_at places kept

    place : ℕ → ℕ
    place i = slice_index_or places i 0

    each : (i : ℕ) → i < length (pages_at places new) → slice_index_or (pages_at places new) i zero_block ≡ slice_index_or (slice_set seen j page) i zero_block
    each i li = ⊎_elim same other (cases_eq i j)
      where
        within : i < length places
        within = omega (arith, li, as_many places new)

        same : i ≡ j → slice_index_or (pages_at places new) i zero_block ≡ slice_index_or (slice_set seen j page) i zero_block
        same e = seen_at places new i within ∙ ap (standing new) (ap place e ∙ sym is) ∙ get_or-set_same kept at page zero_block (omega (arith, is, are.within j lt))
            ∙ sym (ap (λ (k : ℕ). slice_index_or (slice_set seen j page) k zero_block) e ∙ get_or-set_same seen j page zero_block (omega (arith, lt, as_many places kept)))

        other : (i ≡ j → ⊥) → slice_index_or (pages_at places new) i zero_block ≡ slice_index_or (slice_set seen j page) i zero_block
        other ne = seen_at places new i within ∙ get_or-set_other kept at (place i) page zero_block (λ e. ne (are.apart i j within lt (e ∙ is) (omega (arith, e, own))))
            ∙ sym (get_or-set_other seen j i page zero_block ne ∙ seen_at places kept i within)

-- the same of the whole list
pub edited_view : (places : List ℕ) (kept : List Block) (limit j at : ℕ) (page : Block) (view : PagesView) → AreKept places kept → j < length places → at ≡ slice_index_or places j 0 → 1 ≤ at → record { items = pages_at places kept; limit = limit } ≡ view
    → record { items = pages_at places (slice_set kept at page); limit = limit } ≡ record view { items = slice_set view.items j page }
edited_view places kept limit j at page view are lt is own same = ap (λ (l : List Block). record { items = l; limit = limit }) (edited_seen places kept j at page are lt is own) ∙ ap (λ (v : PagesView). record v { items = slice_set v.items j page }) same

pub seen_view : (places : List ℕ) (kept : List Block) (limit j at : ℕ) (view : PagesView) → j < length places → at ≡ slice_index_or places j 0 → record { items = pages_at places kept; limit = limit } ≡ view → slice_index_or kept at zero_block ≡ slice_index_or view.items j zero_block
seen_view places kept limit j at view lt is same = ap (standing kept) is ∙ sym (seen_at places kept j lt) ∙ ap (λ (v : PagesView). slice_index_or v.items j zero_block) same
