-- Lists of page numbers.
use Rattle.std.proofs.Common.{◌≡◌, inl, inr, ℕ, zero, suc, ◌-◌, ◌<◌, ◌≤◌, Bool, true, false, not, cond, ◌&&◌, ◌||◌, List, [], ◌∷◌, length, take, slice_get, Option, Some, None, is_some, refl, sym, ◌∙◌, ap, subst, arith, eqb, eqb-true, eq-eqb, ne_eqb}
use Rattle.std.specs.Map.{keys_of, lookup, lookup_entry, remove_entry}
use Rattle.std.specs.List.{IsDistinct, AllByRecursion}
use Rattle.std.specs.Option.{option_map, option_map_or}
use Rattle.std.proofs.lemmas.Bool.{cases_Bool, cases_eq}
use Rattle.std.proofs.Math.Bool.{or-true}
use Rattle.indexmap.proofs.CallerLemmas.{keys-shift_remove_entry}
use Rattle.lru.specs.LruCache.{IsValid, LruCache, displaced, lru_cache, promoted, put_entries}
use Rattle.page_cache.specs.Recent.{has, is_it, used, without}

pub flip : (a b : ℕ) → eqb a b ≡ eqb b a
flip a b = elim (cases_eq a b) [
  | inl e ↦ rw e
  | inr ne ↦ ne_eqb a b ne ∙ sym (ne_eqb b a (λ e. ne (sym e)))
]

-- a page that stands before others of a list is none of them
pub absent_behind : (p : ℕ) (ps : List ℕ) → IsDistinct eqb (p ∷ ps) → has ps p ≡ false
unfolding IsDistinct
absent_behind p ps d = none ps d.0
  where
    none : (qs : List ℕ) → AllByRecursion (λ y. eqb p y ≡ false) qs → has qs p ≡ false
    none [] a = refl
    none (q ∷ qs) a = rw a.0 (none qs a.1)

pub distinct_behind : (p : ℕ) (ps : List ℕ) → IsDistinct eqb (p ∷ ps) → IsDistinct eqb ps
unfolding IsDistinct
distinct_behind p ps d = d.1

pub same_if : {X : Type 0} (b : Bool) (x y : X) → (b ≡ true → x ≡ y) → (b ≡ false → x ≡ y) → x ≡ y
same_if true x y h k = h refl
same_if false x y h k = k refl

-- where each page stands once, one that is taken out is there no longer
pub has_without : (ps : List ℕ) (page q : ℕ) → IsDistinct eqb ps → has (without page ps) q ≡ (has ps q && not (eqb q page))
has_without [] page q d = refl
has_without (p ∷ ps) page q d = same_if (eqb page p) _ _
    (λ is. let e : page ≡ p = eqb-true page p is in rw (is, e) (same_if (eqb q p) _ _
    (λ here. let f : q ≡ p = eqb-true q p here in rw (f, absent_behind p ps d, eq-eqb p p refl))
    (λ other. rw other (on (has ps q)))))
    (λ is. rw (is, has_without ps page q (distinct_behind p ps d)) (same_if (eqb q page) _ _
    (λ here. let f : q ≡ page = eqb-true q page here in rw (f, is, eq-eqb page page refl) (off _ _))
    (λ other. rw other (both (eqb q p) (has ps q)))))
  where
    on : (x : Bool) → x ≡ ((false || x) && not false)
    on x = grind arith

    off : (x y : Bool) → (x && not true) ≡ ((false || y) && not true)
    off x y = grind arith

    both : (x y : Bool) → (x || (y && not false)) ≡ ((x || y) && not false)
    both x y = grind arith

-- the list as the crate `lru` keeps it
has_key : (es : List (ℕ × Unit {0})) (q : ℕ) → has (keys_of es) q ≡ is_some (lookup_entry (eqb q) es)
has_key [] q = refl
has_key (e ∷ es) q = elim (cases_Bool (eqb q e.0)) [
  | inl is ↦ rw is
  | inr is ↦ rw is (has_key es q)
]

found_key : (es : List (ℕ × Unit {0})) (q : ℕ) (e : ℕ × Unit {0}) → lookup_entry (eqb q) es ≡ Some e → e.0 ≡ q
found_key (f ∷ es) q e h = elim (cases_Bool (eqb q f.0)) [
  | inl is ↦ let s : f ≡ e = cc (rw is at h) in sym (eqb-true q e.0 (subst (λ (g : ℕ × Unit {0}). eqb q g.0 ≡ true) s is))
  | inr is ↦ found_key es q e (rw is at h)
]
found_key [] q e h = cc

keys-promoted : (es : List (ℕ × Unit {0})) (page : ℕ) (o : Option (ℕ × Unit {0})) → lookup_entry (eqb page) es ≡ o
    → keys_of (option_map_or (λ e. e ∷ remove_entry (eqb page) es) o es) ≡ cond (is_some o) (page ∷ without page (keys_of es)) (keys_of es)
keys-promoted es page None h = refl
keys-promoted es page (Some e) h = rw (found_key es page e h, keys-shift_remove_entry (eqb page) es)

pub used_keys : (es : List (ℕ × Unit {0})) (page : ℕ) → keys_of (promoted (eqb page) es) ≡ used page (keys_of es)
used_keys es page = rw (has_key es page) (keys-promoted es page (lookup_entry (eqb page) es) refl)

keys_take : (n : ℕ) (es : List (ℕ × Unit {0})) → keys_of (take n es) ≡ take n (keys_of es)
keys_take zero es = refl
keys_take (suc n) [] = refl
keys_take (suc n) (e ∷ es) = ap (λ ks. e.0 ∷ ks) (keys_take n es)

no_entry : (o : Option (ℕ × Unit {0})) → is_some o ≡ false → o ≡ None
no_entry None h = refl
no_entry (Some e) h = cc

pub absent_entry : (es : List (ℕ × Unit {0})) (q : ℕ) → has (keys_of es) q ≡ false → lookup_entry (eqb q) es ≡ None
absent_entry es q h = no_entry (lookup_entry (eqb q) es) (sym (has_key es q) ∙ h)

pub absent_value : (es : List (ℕ × Unit {0})) (q : ℕ) → has (keys_of es) q ≡ false → lookup (eqb q) es ≡ None
absent_value [] q h = refl
absent_value (e ∷ es) q h = elim (cases_Bool (eqb q e.0)) [
  | inl is ↦ cc (rw is at h)
  | inr is ↦ rw is (absent_value es q (rw is at h))
]

pub brought_keys : (es : List (ℕ × Unit {0})) (limit page : ℕ) → 0 < limit → keys_of ((page, tt) ∷ take (limit - 1) es) ≡ take limit (page ∷ keys_of es)
brought_keys es limit page more = by limit (limit - 1) (omega (arith, more))
  where
    by : (c n : ℕ) → c ≡ suc n → keys_of ((page, tt) ∷ take n es) ≡ take c (page ∷ keys_of es)
    by c n e = rw e (ap (λ ks. page ∷ ks) (keys_take n es))

-- what stands at the end of a full list
dropped_end : (ks : List ℕ) (n : ℕ) → IsDistinct eqb ks → length ks ≤ suc n → (d : ℕ) → slice_get ks n ≡ Some d
    → ((q : ℕ) → has ks q ≡ (has (take n ks) q || eqb q d)) × (has (take n ks) d ≡ false)
dropped_end [] n dis le d at = absurd (cc at)
dropped_end (k ∷ []) zero dis le d at = let e : k ≡ d = cc in ((λ q. rw e (last (eqb q d))), refl)
  where
    last : (x : Bool) → (x || false) ≡ (false || x)
    last x = grind arith
dropped_end (k ∷ l ∷ ks) zero dis le d at = absurd (omega (arith, le))
dropped_end (k ∷ ks) (suc n) dis le d at =
    let later = dropped_end ks n (distinct_behind k ks dis) (omega (arith, le)) d at in
    let there : has ks d ≡ true = later.0 d ∙ rw (eq-eqb d d refl) (or-true (has (take n ks) d)) in
    let other : eqb d k ≡ false = apart (eqb d k) (λ is. let e : d ≡ k = eqb-true d k is in let bad : true ≡ false = sym there ∙ rw e (absent_behind k ks dis) in cc) in
    ((λ q. rw (later.0 q) (assoc (eqb q k) (has (take n ks) q) (eqb q d))), rw other later.1)
  where
    assoc : (x y z : Bool) → (x || (y || z)) ≡ ((x || y) || z)
    assoc x y z = grind arith

    apart : (x : Bool) → (x ≡ true → ⊥) → x ≡ false
    apart true h = absurd (h refl)
    apart false h = refl

whole_list : (ks : List ℕ) (n : ℕ) → slice_get ks n ≡ None → take n ks ≡ ks
whole_list [] zero at = refl
whole_list [] (suc n) at = refl
whole_list (k ∷ ks) zero at = absurd (cc at)
whole_list (k ∷ ks) (suc n) at = ap (λ xs. k ∷ xs) (whole_list ks n at)

-- the page that is dropped for one that comes in front is the one that is there no longer
pub dropped_is : (ks : List ℕ) (limit page : ℕ) (o : Option ℕ) → IsDistinct eqb ks → length ks ≤ limit → 0 < limit → has ks page ≡ false → slice_get ks (limit - 1) ≡ o
    → (q : ℕ) → is_it o q ≡ (has ks q && not (has (take limit (page ∷ ks)) q))
dropped_is ks limit page o dis le more absent at q = by limit (limit - 1) (omega (arith, more)) le o at
  where
    none : (x y : Bool) → false ≡ (x && not (y || x))
    none x y = grind arith

    here : (x y : Bool) → x ≡ false → y ≡ false → true ≡ ((x || true) && not (y || x))
    here x y e f = rw (e, f)

    there : (x y : Bool) → false ≡ ((x || false) && not (y || x))
    there x y = grind arith

    by : (c n : ℕ) → c ≡ suc n → length ks ≤ c → (p : Option ℕ) → slice_get ks n ≡ p → is_it p q ≡ (has ks q && not (has (take c (page ∷ ks)) q))
    by c n e le None f = rw (e, whole_list ks n f) (none (has ks q) (eqb q page))
    by c n e le (Some d) f =
        let split = dropped_end ks n dis (omega (arith, le, e)) d f in
        let far : eqb d page ≡ false = elim (cases_Bool (eqb d page)) [
          | inl is ↦ absurd (let s : d ≡ page = eqb-true d page is in let bad : true ≡ false = sym (split.0 d ∙ rw (eq-eqb d d refl) (or-true (has (take n ks) d))) ∙ rw s absent in cc)
          | inr is ↦ is
        ] in
        elim (cases_Bool (eqb q d)) [
          | inl is ↦ let s : q ≡ d = eqb-true q d is in rw (e, split.0 q, eq-eqb q d s) (here (has (take n ks) q) (eqb q page) (rw s split.1) (rw s far))
          | inr is ↦ rw (e, split.0 q, is) (there (has (take n ks) q) (eqb q page))
        ]

pub slice_get_key : (es : List (ℕ × Unit {0})) (n : ℕ) → slice_get (keys_of es) n ≡ option_map (λ e. e.0) (slice_get es n)
slice_get_key [] n = refl
slice_get_key (e ∷ es) zero = refl
slice_get_key (e ∷ es) (suc n) = slice_get_key es n

pub length_keys : (es : List (ℕ × Unit {0})) → length (keys_of es) ≡ length es
length_keys [] = refl
length_keys (e ∷ es) = ap suc (length_keys es)

module _ (old : LruCache ℕ (Unit {0})) (page : ℕ) (absent : has (keys_of old.entries) page ≡ false) (valid : IsValid eqb old) where
  put_is : keys_of (put_entries eqb old page tt) ≡ take old.cap (page ∷ keys_of old.entries)
  put_is = rw (absent_entry old.entries page absent) (brought_keys old.entries old.cap page valid.2)

  pub keys-put : (new : LruCache ℕ (Unit {0})) → new ≡ lru_cache (put_entries eqb old page tt) old.cap → keys_of new.entries ≡ take old.cap (page ∷ keys_of old.entries)
  keys-put new e = rw e put_is

  pub keys-dropped : (new : LruCache ℕ (Unit {0})) → new ≡ lru_cache (put_entries eqb old page tt) old.cap → (o : Option (ℕ × Unit {0})) → o ≡ displaced eqb old page tt
      → (q : ℕ) → is_it (option_map (λ e. e.0) o) q ≡ (has (keys_of old.entries) q && not (has (keys_of new.entries) q))
  keys-dropped new e o is q = rw (keys-put new e) (dropped_is (keys_of old.entries) old.cap page (option_map (λ e. e.0) o) valid.0 (omega (arith, valid.1, length_keys old.entries)) valid.2 absent
      (slice_get_key old.entries (old.cap - 1) ∙ ap (option_map (λ e. e.0)) (sym (is ∙ rw (absent_value old.entries page absent)))) q)

-- a page that is used again is there as before
pub has_used : (ps : List ℕ) (page q : ℕ) → IsDistinct eqb ps → has (used page ps) q ≡ has ps q
has_used ps page q d = elim (cases_Bool (has ps page)) [
  | inl there ↦ rw (there, has_without ps page q d) (same_if (eqb q page) _ _
      (λ is. let e : q ≡ page = eqb-true q page is in rw (e, eq-eqb page page refl, there))
      (λ is. rw is (on (has ps q))))
  | inr absent ↦ rw absent
]
  where
    on : (x : Bool) → (false || (x && not false)) ≡ x
    on x = grind arith

pub has_take : (n : ℕ) (ps : List ℕ) (q : ℕ) → has (take n ps) q ≡ true → has ps q ≡ true
has_take zero ps q h = cc
has_take (suc n) [] q h = cc
has_take (suc n) (p ∷ ps) q h = elim (cases_Bool (eqb q p)) [
  | inl is ↦ rw is
  | inr is ↦ rw is (has_take n ps q (rw is at h))
]

pub has_front : (n page : ℕ) (ps : List ℕ) → 0 < n → has (take n (page ∷ ps)) page ≡ true
has_front zero page ps more = absurd (omega (arith, more))
has_front (suc n) page ps more = rw (eq-eqb page page refl)
