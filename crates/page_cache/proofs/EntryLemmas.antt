-- The pages that are there, after an entry changed.
use Rattle.std.proofs.Common.{is_ok, OnOk, Ok, Err, Result, ◌≡◌, ◌<◌, ◌≤◌, ◌+◌, ◌||◌, [], ◌∷◌, suc, inl, inr, length, arith, IsSome, eqb-true, ℕ, Bool, true, false, cond, List, Option, Some, None, is_some, refl, sym, ◌∙◌, ap, eqb}
use Rattle.page_cache.specs.declared.entries.Entry.{Entry}
use Rattle.page_cache.specs.Entries.{content_of, dirty_of, holds_of, entry_at, SetsEntry}
use Rattle.page_cache.specs.View.{CacheView, is_there}
use Rattle.page_cache.proofs.RecentLemmas.{flip}
use Rattle.page_cache.specs.Recent.{has}
use Rattle.std.specs.List.{AllByRecursion, IsDistinct}
use Rattle.std.specs.Cmp.{nat_eq_equiv}
use Rattle.std.proofs.lemmas.Bool.{cases_Bool, or_parts}
use Rattle.std.proofs.lemmas.Map.Steps.{length-le_from_keys}

-- an entry that is there was written
pub written_through : (es es' : List (ℕ × Entry)) (page : ℕ) (e w : Entry) (f : Option Entry → Option Entry) → Some e ≡ entry_at es page → f (Some e) ≡ Some w
    → ((q : ℕ) → entry_at es' q ≡ cond (eqb page q) (Some w) (entry_at es q)) → SetsEntry es page (f (entry_at es page)) es'
written_through es es' page e w f there is each = record { each = λ q. each q ∙ rw (flip page q, ← there, is) refl }

no_content : (o : Option Entry) → is_some o ≡ false → is_some (content_of o) ≡ false
no_content None h = refl
no_content (Some e) h = cc

-- a page that is not there has no marks
pub unmarked : (o : Option Entry) → content_of o ≡ None → (holds_of o ≡ 0) × (dirty_of o ≡ false)
unmarked None h = (refl, refl)
unmarked (Some e) h = cc

-- a page that is not found is not there
pub absent_in : (v w : CacheView) (page : ℕ) (found : Bool) → found ≡ is_some (entry_at v.pages page) → found ≡ false → v ≡ w → is_there w page ≡ false
absent_in v w page found is off same = ap (λ (x : CacheView). is_there x page) (sym same) ∙ no_content (entry_at v.pages page) (sym is ∙ off)

apart_all : (page : ℕ) (ws : List ℕ) → has ws page ≡ false → AllByRecursion (λ y. eqb page y ≡ false) ws
apart_all page [] h = tt
apart_all page (w ∷ ws) h = let off = or_parts (eqb page w) (has ws page) h in (off.0, apart_all page ws off.1)

distinct_with : (page : ℕ) (ws : List ℕ) → has ws page ≡ false → IsDistinct eqb ws → IsDistinct eqb (page ∷ ws)
unfolding IsDistinct
distinct_with page ws h d = (apart_all page ws h, d)

-- there is room to note a page that is there and not noted yet
pub room_to_note : (es : List (ℕ × Entry)) (ws : List ℕ) (page room : ℕ) → IsDistinct eqb ws → has ws page ≡ false → ((q : ℕ) → has ws q ≡ true → IsSome (entry_at es q)) → IsSome (entry_at es page)
    → length es ≤ length ws + room → 0 < room
room_to_note es ws page room d absent known there le =
    let more : suc (length ws) ≤ length es = length-le_from_keys nat_eq_equiv (page ∷ ws) es (distinct_with page ws absent d) all in
    omega (arith, le, more)
  where
    all : (q : ℕ) → has (page ∷ ws) q ≡ true → IsSome (entry_at es q)
    all q h = elim (cases_Bool (eqb q page)) [
      | inl is ↦ let e : q ≡ page = eqb-true q page is in rw e there
      | inr is ↦ known q (rw is at h)
    ]

pub has_noted : (page q : ℕ) (x y : Bool) → y ≡ cond (eqb page q) true x → y ≡ (x || eqb q page)
has_noted page q x y e = e ∙ rw (flip page q) (either (eqb q page) x)
  where
    either : (a b : Bool) → cond a true b ≡ (b || a)
    either true true = refl
    either true false = refl
    either false true = refl
    either false false = refl

pub on_ok : {T E : Type 0} (r : Result T E) (P : Type 0) → is_ok r ≡ true → OnOk r P → P
on_ok (Ok x) P h p = p
on_ok (Err e) P h p = cc
