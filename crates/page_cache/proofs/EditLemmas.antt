-- A page that was lent to be written.
use Rattle.std.proofs.Common.{◌≡◌, inl, inr, ℕ, suc, ◌<◌, Bool, true, false, cond, ◌||◌, List, [], ◌∷◌, length, Option, Some, None, refl, sym, ◌∙◌, ap, eqb, eq-eqb, eqb-true, arith, ◌+◌, ◌-◌}
use Rattle.std.specs.List.{position}
use Rattle.std.specs.Map.{keys_of}
use Rattle.std.proofs.lemmas.Bool.{cases_Bool, lt-ltb, or_parts}
use Rattle.std.proofs.Math.Bool.{or-false, or-true}
use Rattle.std.specs.Prelude.{nat_lt}
use Rattle.indexmap.specs.IndexMap.{insert_entry, set_value_at}
use Rattle.indexmap.proofs.MapLemmas.{Found-position, insert_entry-first}
use Rattle.page_device.specs.Block.{Block}
use Rattle.page_cache.specs.declared.entries.Entry.{Entry}
use Rattle.page_cache.specs.Entries.{entry_at, content_of, holds_of, dirty_of}
use Rattle.page_cache.specs.View.{CacheView, dirty_in, holds_in}
use Rattle.page_cache.specs.Kept.{IsKept}
use Rattle.page_cache.specs.Calls.{Edited, Held, Unheld}
use Rattle.page_cache.specs.Lending.{edited, with_edit, with_content}
use Rattle.page_cache.proofs.RecentLemmas.{flip, same_if}

insert_edited : (es : List (ℕ × Entry)) (page : ℕ) (e : Entry) (block : Block) → entry_at es page ≡ Some e → insert_entry eqb es page (with_edit e block) ≡ edited page block es
insert_edited [] page e block there = cc
insert_edited (f ∷ es) page e block there = elim (cases_Bool (eqb page f.0)) [
  | inl is ↦ let same : f.1 ≡ e = cc (rw is at there) in rw (is, same)
  | inr is ↦ rw (is, insert_edited es page e block (rw is at there))
]

-- the entry at its place is the one of the page
pub set_edited : (es : List (ℕ × Entry)) (i page : ℕ) (e : Entry) (block : Block) → position (eqb page) (keys_of es) ≡ Some i → entry_at es page ≡ Some e
    → set_value_at es i (with_edit e block) ≡ edited page block es
set_edited es i page e block at there = sym (insert_entry-first eqb page (with_edit e block) es i (Found-position (eqb page) es i at).first) ∙ insert_edited es page e block there

pub entry_edited : (es : List (ℕ × Entry)) (page : ℕ) (e : Entry) (block : Block) → entry_at es page ≡ Some e → (q : ℕ) → entry_at (edited page block es) q ≡ cond (eqb q page) (Some (with_edit e block)) (entry_at es q)
entry_edited [] page e block there q = cc
entry_edited (f ∷ es) page e block there q = elim (cases_Bool (eqb page f.0)) [
  | inl is ↦ let same : f.1 ≡ e = cc (rw is at there) in let key : page ≡ f.0 = eqb-true page f.0 is in rw (is, same, key) (here (eqb q f.0) (with_edit e block) e (entry_at es q))
  | inr is ↦ rw (is, entry_edited es page e block (rw is at there) q) (same_if (eqb q f.0) _ _
      (λ on. let key : q ≡ f.0 = eqb-true q f.0 on in let off : eqb q page ≡ false = flip q page ∙ rw (key) is in rw (on, off))
      (λ on. rw on))
]
  where
    here : (b : Bool) (x y : Entry) (o : Option Entry) → cond b (Some x) o ≡ cond b (Some x) (cond b (Some y) o)
    here true x y o = refl
    here false x y o = refl

pub length_edited : (es : List (ℕ × Entry)) (page : ℕ) (block : Block) → length (edited page block es) ≡ length es
length_edited [] page block = refl
length_edited (e ∷ es) page block = elim (cases_Bool (eqb page e.0)) [
  | inl is ↦ rw is
  | inr is ↦ rw is (ap suc (length_edited es page block))
]

-- what the cache keeps while a held page is lent
pub edited_kept : (c : CacheView) (page room : ℕ) (block : Block) (e : Entry) → entry_at c.pages page ≡ Some e → 0 < e.holds → IsKept c room → IsKept (with_content c page block) room
edited_kept c page room block e there held kept = record {
  there = λ q. elim (cases_Bool (eqb q page)) [
    | inl is ↦ let same : q ≡ page = eqb-true q page is in
        let now : entry_at (edited page block c.pages) q ≡ Some (with_edit e block) = entry_edited c.pages page e block there q ∙ rw is refl in
        let on : nat_lt 0 e.holds ≡ true = lt-ltb 0 e.holds held in
        rw (now, on) refl
    | inr is ↦ let now : entry_at (edited page block c.pages) q ≡ entry_at c.pages q = entry_edited c.pages page e block there q ∙ rw is refl in rw now (kept.there q)
  ];
  apart = λ q h. elim (cases_Bool (eqb q page)) [
    | inl is ↦ let same : q ≡ page = eqb-true q page is in
        let on : nat_lt 0 e.holds ≡ true = lt-ltb 0 e.holds held in
        let was : entry_at c.pages q ≡ Some e = rw same there in
        let off = kept.apart q h in
        absurd (let bad : true ≡ false = sym on ∙ (or_parts (nat_lt 0 e.holds) _ (rw was at off)).0 in cc)
    | inr is ↦ let now : entry_at (edited page block c.pages) q ≡ entry_at c.pages q = entry_edited c.pages page e block there q ∙ rw is refl in rw now (kept.apart q h)
  ];
  room = omega (arith, kept.room, length_edited c.pages page block);
}

pub holds_entry : (o : Option Entry) (e : Entry) → o ≡ Some e → 0 < holds_of o → 0 < e.holds
holds_entry o e is h = rw is at h

through : {X : Type 0} (f : Option Entry → X) (b : Bool) (x y : Option Entry) → f (cond b x y) ≡ cond b (f x) (f y)
through f true x y = refl
through f false x y = refl

-- the cache once the lent page was written
pub lent_view : (a b : CacheView) (es : List (ℕ × Entry)) (page : ℕ) (block : Block) → a ≡ b → es ≡ edited page block a.pages → record a { pages = es } ≡ with_content b page block
lent_view a b es page block same is = ap (λ (xs : List (ℕ × Entry)). record a { pages = xs }) is ∙ ap (λ (v : CacheView). with_content v page block) same

-- A page that was lent to be written, once it is: what `edit` promises.
pub edited_is : (c : CacheView) (page : ℕ) (block : Block) → 0 < holds_in c page → Edited c (with_content c page block) page block
edited_is c page block held = by (entry_at c.pages page) refl held
  where
    by : (o : Option Entry) → entry_at c.pages page ≡ o → 0 < holds_of o → Edited c (with_content c page block) page block
    by None is h = absurd (omega (arith, h))
    by (Some e) is h = record {
      content = λ q. ap content_of (entry_edited c.pages page e block is q) ∙ through content_of (eqb q page) _ _;
      holds = λ q. ap holds_of (entry_edited c.pages page e block is q) ∙ same_if (eqb q page) _ _ (λ on. rw (on, eqb-true q page on, is) refl) (λ on. rw on refl);
      dirty = λ q. ap dirty_of (entry_edited c.pages page e block is q) ∙ same_if (eqb q page) _ _ (λ on. rw on (sym (or-true (dirty_in c q)))) (λ on. rw on (sym (or-false (dirty_in c q))));
      written = λ q. refl;
      recent = refl;
      numbers = record { limit = refl; calls = refl };
    }

-- a page that was held and then edited is held
pub still_held : (old c : CacheView) (page : ℕ) (block : Block) → Held old c page → 0 < holds_in (with_content c page block) page
still_held old c page block h =
    let more : holds_in c page ≡ holds_in old page + 1 = h.holds page ∙ ap (λ b. holds_in old page + cond b 1 0) (eq-eqb page page refl) in
    let held : 0 < holds_in c page = omega (arith, more) in
    omega (arith, held, (edited_is c page block held).holds page)

-- a page that nobody held, once it was held, edited and held no longer
pub free_again : (b c after : CacheView) (page : ℕ) (block : Block) → holds_in b page ≡ 0 → Held b c page → Unheld (with_content c page block) after page → (dirty_in after page ≡ true) × (holds_in after page ≡ 0)
free_again b c after page block none h u =
    let more : holds_in c page ≡ holds_in b page + 1 = h.holds page ∙ ap (λ x. holds_in b page + cond x 1 0) (eq-eqb page page refl) in
    let held : 0 < holds_in c page = omega (arith, more) in
    let edit = edited_is c page block held in
    let less : holds_in after page ≡ holds_in (with_content c page block) page - 1 = u.holds page ∙ ap (λ x. holds_in (with_content c page block) page - cond x 1 0) (eq-eqb page page refl) in
    (u.dirty page ∙ edit.dirty page ∙ ap (λ x. dirty_in c page || x) (eq-eqb page page refl) ∙ or-true (dirty_in c page), omega (arith, none, more, edit.holds page, less))
