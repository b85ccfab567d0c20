-- A barrier.
use Rattle.std.proofs.Common.{◌≡◌, ◌≢◌, inl, inr, ℕ, zero, suc, ◌+◌, ◌<◌, ◌≤◌, Bool, true, false, not, cond, ◌&&◌, ◌||◌, List, [], ◌∷◌, length, get_or, Option, Some, None, is_some, refl, sym, ◌∙◌, ap, subst, arith, eqb, eqb-true, eq-eqb}
use Rattle.std.specs.Prelude.{nat_lt, IsSorted}
use Rattle.std.specs.Ordering.{nat_cmp, is_lt}
use Rattle.std.specs.List.{IsDistinct}
use Rattle.std.proofs.lemmas.Bool.{cases_Bool, cases_lt, lt-ltb, or_left, or_parts, or_right}
use Rattle.std.specs.Cmp.{nat_cmp_is}
use Rattle.std.specs.declared.cmp.Ordering.TheVariants.{Less}
use Rattle.page_cache.specs.declared.entries.Entry.{Entry}
use Rattle.page_cache.specs.Entries.{content_of, dirty_of, entry_at, holds_of, is_used_at}
use Rattle.page_cache.specs.Recent.{RecentView, has, IsRising}
use Rattle.page_cache.specs.Moves.{Settles}
use Rattle.page_cache.specs.View.{CacheView}
use Rattle.page_device.specs.Block.{Block}
use Rattle.page_cache.specs.Calls.{Fixed, after_call}
use Rattle.page_cache.specs.Kept.{IsKept}
use Rattle.page_cache.proofs.RecentLemmas.{absent_behind, distinct_behind}

sorted_rest : (p : ℕ) (ps : List ℕ) → IsSorted nat_cmp (p ∷ ps) → IsSorted nat_cmp ps
sorted_rest p ps s k d le lt = let e : suc k + 1 ≡ suc (k + 1) = omega arith in subst (λ n. is_lt (nat_cmp (get_or (p ∷ ps) n d) (get_or ps k d)) ≡ false) e (s (suc k) d (omega arith) (omega (arith, lt)))

not_less : (a b : ℕ) → is_lt (nat_cmp a b) ≡ false → b ≤ a
not_less a b h = elim (cases_lt a b) [
  | inl lt ↦ absurd (let bad : true ≡ false = ap is_lt (nat_cmp_is a b Less lt) ∙ h in cc)
  | inr le ↦ le
]

leads : (p : ℕ) (ps : List ℕ) → IsSorted nat_cmp (p ∷ ps) → IsDistinct eqb (p ∷ ps) → (q : ℕ) → has ps q ≡ true → p < q
leads p [] s d q h = cc
leads p (x ∷ xs) s d q h =
    let le : p ≤ x = not_less x p (s 0 0 (omega arith) (omega arith)) in
    let other : p ≢ x = λ e. let bad : true ≡ false = sym (eq-eqb p x e) ∙ (or_parts (eqb p x) (has xs p) (absent_behind p (x ∷ xs) d)).0 in cc in
    elim (cases_Bool (eqb q x)) [
      | inl is ↦ let e : q ≡ x = eqb-true q x is in omega (arith, le, other, e)
      | inr is ↦ let more : x < q = leads x xs (sorted_rest p (x ∷ xs) s) (distinct_behind p (x ∷ xs) d) q (rw is at h) in omega (arith, le, more)
    ]

-- pages in order, each once, rise
pub sorted_rising : (ps : List ℕ) → IsSorted nat_cmp ps → IsDistinct eqb ps → IsRising ps
unfolding IsRising
sorted_rising [] s d = tt
sorted_rising (p ∷ ps) s d = (leads p ps s d, sorted_rising ps (sorted_rest p ps s) (distinct_behind p ps d))

there_entry : (f : Entry) (u y : Bool) (o' : Option Entry) (h : Bool) (k : ℕ) → (nat_lt 0 f.holds || f.dirty) ≡ u → o' ≡ cond (u || (y || false)) (Some f) None → is_some (content_of o') ≡ ((nat_lt 0 (holds_of o') || (dirty_of o' || false)) || y)
there_entry f true y o' h k is e = rw e (yes (nat_lt 0 f.holds) f.dirty y is)
  where
    yes : (a b c : Bool) → (a || b) ≡ true → true ≡ ((a || (b || false)) || c)
    yes a b c h = grind arith
there_entry f false true o' h k is e = rw e (some (nat_lt 0 f.holds) f.dirty)
  where
    some : (a b : Bool) → true ≡ ((a || (b || false)) || true)
    some a b = grind arith
there_entry f false false o' h k is e = rw e refl

there_one : (o o' : Option Entry) (w x y : Bool) → o' ≡ cond ((nat_lt 0 (holds_of o) || dirty_of o) || (y || false)) o None → is_some (content_of o) ≡ ((nat_lt 0 (holds_of o) || (dirty_of o || w)) || x)
    → (y ≡ true → (w || x) ≡ true) → is_some (content_of o') ≡ ((nat_lt 0 (holds_of o') || (dirty_of o' || false)) || y)
there_one None o' w x true e there others = let on = others refl in let bad : false ≡ true = there ∙ same w x ∙ on in cc
  where
    same : (a b : Bool) → ((false || (false || a)) || b) ≡ (a || b)
    same a b = grind arith
there_one None o' w x false e there others = rw e refl
there_one (Some f) o' w x y e there others = there_entry f (nat_lt 0 f.holds || f.dirty) y o' true 0 refl e

apart_one : (o o' : Option Entry) (y : Bool) → y ≡ true → (nat_lt 0 (holds_of o) || dirty_of o) ≡ false → o' ≡ cond ((nat_lt 0 (holds_of o) || dirty_of o) || (y || false)) o None
    → (nat_lt 0 (holds_of o') || (dirty_of o' || false)) ≡ false
apart_one o o' true on off e = let same : o' ≡ o = e ∙ ap (λ b. cond (b || (true || false)) o None) off in rw same (plain (nat_lt 0 (holds_of o)) (dirty_of o) off)
  where
    plain : (a b : Bool) → (a || b) ≡ false → (a || (b || false)) ≡ false
    plain a b h = grind arith
apart_one o o' false on off e = cc

-- what the cache keeps after a barrier
pub fixed_kept : (b : CacheView) (r' : RecentView) (es' : List (ℕ × Entry)) (calls room room' : ℕ) (written : List ℕ) → IsKept b room → ((q : ℕ) → has written q ≡ has b.written q)
    → Settles b.pages (record { pages = b.recent; limit = b.limit }) written [] es' r' → length b.written + room ≤ room' → IsKept (record { pages = es'; written = []; recent = r'.pages; limit = r'.limit; calls = calls }) room'
fixed_kept b r' es' calls room room' written kept same settles more = record {
  there = λ q. there_one (entry_at b.pages q) (entry_at es' q) (has b.written q) (has b.recent q) (has r'.pages q) (settles.each q) (kept.there q) (λ h. ap (λ x. x || has b.recent q) (sym (same q)) ∙ settles.others q h);
  apart = λ q h. apart_one (entry_at b.pages q) (entry_at es' q) (has r'.pages q) h (settles.apart q h).0 (settles.each q);
  room = omega (arith, kept.room, settles.len, more);
}

content_entry : (f : Entry) (u y : Bool) (o' : Option Entry) → (nat_lt 0 f.holds || f.dirty) ≡ u → o' ≡ cond (u || (y || false)) (Some f) None
    → content_of o' ≡ cond ((nat_lt 0 (holds_of o') || (dirty_of o' || false)) || y) (Some f.content.value) None
content_entry f true y o' is e = rw e (yes (nat_lt 0 f.holds) f.dirty y is)
  where
    yes : (a b c : Bool) → (a || b) ≡ true → Some f.content.value ≡ cond ((a || (b || false)) || c) (Some f.content.value) None
    yes true b c h = refl
    yes false true c h = refl
    yes false false c h = cc
content_entry f false true o' is e = rw e (some (nat_lt 0 f.holds) f.dirty)
  where
    some : (a b : Bool) → Some f.content.value ≡ cond ((a || (b || false)) || true) (Some f.content.value) None
    some true b = refl
    some false true = refl
    some false false = refl
content_entry f false false o' is e = rw e refl

content_one : (o o' : Option Entry) (y : Bool) → o' ≡ cond ((nat_lt 0 (holds_of o) || dirty_of o) || (y || false)) o None
    → content_of o' ≡ cond ((nat_lt 0 (holds_of o') || (dirty_of o' || false)) || y) (content_of o) None
content_one None o' true e = rw e refl
content_one None o' false e = rw e refl
content_one (Some f) o' y e = content_entry f (nat_lt 0 f.holds || f.dirty) y o' refl e

no_holds : (n : ℕ) → nat_lt 0 n ≡ false → n ≡ 0
no_holds zero h = refl
no_holds (suc n) h = absurd (let on : nat_lt 0 (suc n) ≡ true = lt-ltb 0 (suc n) (omega arith) in let bad : true ≡ false = sym on ∙ h in cc)

marks_entry : (f : Entry) (u y : Bool) (o' : Option Entry) → (nat_lt 0 f.holds || f.dirty) ≡ u → o' ≡ cond (u || (y || false)) (Some f) None → (holds_of o' ≡ f.holds) × (dirty_of o' ≡ f.dirty)
marks_entry f true y o' is e = rw e (refl, refl)
marks_entry f false true o' is e = rw e (refl, refl)
marks_entry f false false o' is e = rw e (sym (no_holds f.holds ((or_parts (nat_lt 0 f.holds) f.dirty is).0)), sym ((or_parts (nat_lt 0 f.holds) f.dirty is).1))

marks_one : (o o' : Option Entry) (y : Bool) → o' ≡ cond ((nat_lt 0 (holds_of o) || dirty_of o) || (y || false)) o None → (holds_of o' ≡ holds_of o) × (dirty_of o' ≡ dirty_of o)
marks_one None o' true e = rw e (refl, refl)
marks_one None o' false e = rw e (refl, refl)
marks_one (Some f) o' y e = marks_entry f (nat_lt 0 f.holds || f.dirty) y o' refl e

in_some_way : (b r : Bool) (x y : Option Block) → x ≡ cond (b || r) y None → b ≡ true → x ≡ y
in_some_way true r x y e h = e
in_some_way false r x y e h = cc

freed_one : (n : ℕ) (d w : Bool) → (nat_lt 0 n || d) ≡ false → w ≡ true → (w && (not d && eqb n 0)) ≡ true
freed_one n d w off on = rw (on, (or_parts (nat_lt 0 n) d off).1, no_holds n ((or_parts (nat_lt 0 n) d off).0)) refl

-- what a barrier makes of the cache
pub fixed_is : (b : CacheView) (r' : RecentView) (es' : List (ℕ × Entry)) (calls : ℕ) (written : List ℕ) → ((q : ℕ) → has written q ≡ has b.written q)
    → Settles b.pages (record { pages = b.recent; limit = b.limit }) written [] es' r' → calls ≡ after_call b.calls → Fixed b (record { pages = es'; written = []; recent = r'.pages; limit = r'.limit; calls = calls })
fixed_is b r' es' calls written same settles counted = record {
  content = content;
  kept = λ q h. in_some_way (nat_lt 0 (holds_of (entry_at es' q)) || (dirty_of (entry_at es' q) || false)) (has r'.pages q) _ _ (content q) h;
  holds = λ q. (marks_one (entry_at b.pages q) (entry_at es' q) (has r'.pages q) (settles.each q)).0;
  dirty = λ q. (marks_one (entry_at b.pages q) (entry_at es' q) (has r'.pages q) (settles.each q)).1;
  written = λ q. refl;
  moved = settles.moved;
  rising = settles.rising;
  freed = λ q h. freed q (settles.freed q h).0 (settles.freed q h).1;
  recent = settles.recent;
  listed = λ q h. listed_one (has written q) (has b.recent q) _ (settles.others q h) (λ w. freed q (settles.apart q h).0 w);
  limit = settles.limit;
  calls = counted;
}
  where
    listed_one : (w x f : Bool) → (w || x) ≡ true → (w ≡ true → f ≡ true) → (f || x) ≡ true
    listed_one true x f h k = or_left f x (k refl)
    listed_one false x f h k = or_right f x h

    freed : (q : ℕ) → is_used_at b.pages q ≡ false → has written q ≡ true → (has b.written q && (not (dirty_of (entry_at b.pages q)) && eqb (holds_of (entry_at b.pages q)) 0)) ≡ true
    freed q off w = freed_one (holds_of (entry_at b.pages q)) (dirty_of (entry_at b.pages q)) (has b.written q) off (sym (same q) ∙ w)

    content : (q : ℕ) → content_of (entry_at es' q) ≡ cond ((nat_lt 0 (holds_of (entry_at es' q)) || (dirty_of (entry_at es' q) || false)) || has r'.pages q) (content_of (entry_at b.pages q)) None
    content q = content_one (entry_at b.pages q) (entry_at es' q) (has r'.pages q) (settles.each q)
