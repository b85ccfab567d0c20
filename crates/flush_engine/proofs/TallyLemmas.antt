-- Places in lists of tallies.
use Rattle.std.proofs.Common.{◌≡◌, inl, inr, ◌<◌, ◌≤◌, ℕ, zero, suc, Bool, true, false, not, ◌&&◌, ◌||◌, cond, List, [], ◌∷◌, length, map, get_or, insert, remove, slice_set, slice_index, slice_index_or, nat_lt, ltb, eqb, eqb-true, eq-eqb, ne_eqb, refl, sym, ◌∙◌, ap, subst, arith}
use Rattle.std.proofs.lemmas.Bool.{cases_Bool, false_from_ne_true, or_cases, or_left, lt-ltb, ltb-true, ltb-false, true≢false}
use Rattle.std.proofs.lemmas.Bool.Decides.{nat_tests}
use Rattle.std.specs.List.Sorted.{IsPartitionedBy, IsPartitionPoint}
use Rattle.dep_graph.specs.Pages.{holds, IsAt, IsPlace, IsRising, placed}
use Rattle.dep_graph.specs.Rising.{Leads, Rises}
use Rattle.dep_graph.proofs.PageLemmas.{flip, leads_holds}
use Rattle.dep_graph.proofs.RisingLemmas.{partitioned}
use Rattle.flush_engine.specs.declared.tallies.Tally.{Tally}
use Rattle.flush_engine.specs.Tallies.{counted, first_edit, left_out, older, page_of, tally_of, with_edit}

Below : Tally → Tally → Type 0
Below x y = x.page < y.page

leads_tallies : (x : Tally) (ts : List Tally) → Leads (λ a b. a < b) x.page (map page_of ts) → Leads Below x ts
unfolding Leads Below
leads_tallies x [] led = tt
leads_tallies x (t ∷ ts) led = (led.0, leads_tallies x ts led.1)

rises_tallies : (ts : List Tally) → IsRising (map page_of ts) → Rises Below ts
unfolding Rises Below
rises_tallies [] up = tt
rises_tallies (t ∷ ts) up = (leads_tallies t ts up.0, rises_tallies ts up.1)

pub parted : (ts : List Tally) (page : ℕ) → IsRising (map page_of ts) → IsPartitionedBy (λ (t : Tally). ltb t.page page) ts
unfolding Below
parted ts page up = partitioned Below (λ t. ltb t.page page) (λ a b lt h. lt-ltb a.page page (let under = ltb-true b.page page h in omega (arith, under, lt))) ts (rises_tallies ts up)

pub page_at : (ts : List Tally) (j : ℕ) (d : Tally) → j < length ts → slice_index (map page_of ts) j ≡ (get_or ts j d).page
page_at [] j d lt = absurd (omega (arith, lt))
page_at (t ∷ ts) zero d lt = refl
page_at (t ∷ ts) (suc j) d lt = page_at ts j d (omega (arith, lt))

pub len_pages : (ts : List Tally) → length (map page_of ts) ≡ length ts
len_pages [] = refl
len_pages (t ∷ ts) = ap suc (len_pages ts)

pub place_from : (ts : List Tally) (page k : ℕ) → k ≤ length ts → IsPartitionPoint (λ (t : Tally). ltb t.page page ≡ true) (λ t. ltb t.page page ≡ false) ts k → IsPlace (map page_of ts) page k
place_from ts page k le point = record {
  within = let n = len_pages ts in omega (arith, le, n);
  below = λ j lt. let b = ltb-true _ _ (point.0 j (first_edit 0) (omega (arith, lt, le)) lt) in let is = page_at ts j (first_edit 0) (omega (arith, lt, le)) in omega (arith, b, is);
  above = λ j from lt. let n = len_pages ts in let lt' : j < length ts = omega (arith, lt, n) in let b = ltb-false _ _ (point.1 j (first_edit 0) from lt') in let is = page_at ts j (first_edit 0) lt' in omega (arith, b, is);
}

pub shift : (p : ℕ) (ps : List ℕ) (page k : ℕ) → IsPlace (p ∷ ps) page (suc k) → IsPlace ps page k
shift p ps page k at = record {
  within = let w = at.within in omega (arith, w);
  below = λ j lt. at.below (suc j) (omega (arith, lt));
  above = λ j from lt. at.above (suc j) (omega (arith, from)) (omega (arith, lt));
}

lt_test : (a b : ℕ) → a < b → nat_lt a b ≡ true
lt_test a b lt = grind (arith, nat_tests)

ge_test : (a b : ℕ) → b ≤ a → nat_lt a b ≡ false
ge_test a b le = grind (arith, nat_tests)

pub counted_new : (ts : List Tally) (page k : ℕ) → IsPlace (map page_of ts) page k → holds (map page_of ts) page ≡ false → insert ts k (first_edit page) ≡ counted page ts
unfolding counted
counted_new [] page zero at off = refl
counted_new [] page (suc k) at off = absurd (let w = at.within in omega (arith, w))
counted_new (t ∷ ts) page zero at off = elim (cases_Bool (eqb t.page page)) [
  | inl is ↦ absurd (true≢false (sym (or_left _ _ is) ∙ off))
  | inr ne ↦ rw (ge_test t.page page (at.above 0 (omega arith) (omega arith)), ne) refl
]
counted_new (t ∷ ts) page (suc k) at off =
    let lt : t.page < page = at.below 0 (omega arith) in
    let off' : holds (map page_of ts) page ≡ false = rw (ne_eqb t.page page (λ e. omega (arith, lt, e))) at off in
    rw (lt_test t.page page lt) (ap (λ (l : List Tally). t ∷ l) (counted_new ts page k (shift t.page (map page_of ts) page k at) off'))

pub counted_more : (ts : List Tally) (page k : ℕ) → IsPlace (map page_of ts) page k → IsAt (map page_of ts) page k → slice_set ts k (with_edit (slice_index_or ts k (first_edit 0))) ≡ counted page ts
unfolding counted
counted_more [] page k at is = absurd (let w = is.within in omega (arith, w))
counted_more (t ∷ ts) page zero at is = let same : t.page ≡ page = is.is in rw (ge_test t.page page (omega (arith, same)), eq-eqb t.page page same) refl
counted_more (t ∷ ts) page (suc k) at is =
    let lt : t.page < page = at.below 0 (omega arith) in
    rw (lt_test t.page page lt) (ap (λ (l : List Tally). t ∷ l) (counted_more ts page k (shift t.page (map page_of ts) page k at) (record { within = let w = is.within in omega (arith, w); is = is.is })))

pub left_there : (ts : List Tally) (page k : ℕ) → IsPlace (map page_of ts) page k → IsAt (map page_of ts) page k → remove ts k ≡ left_out page ts
unfolding left_out
left_there [] page k at is = absurd (let w = is.within in omega (arith, w))
left_there (t ∷ ts) page zero at is = let same : t.page ≡ page = is.is in rw (ge_test t.page page (omega (arith, same)), eq-eqb t.page page same) refl
left_there (t ∷ ts) page (suc k) at is =
    let lt : t.page < page = at.below 0 (omega arith) in
    rw (lt_test t.page page lt) (ap (λ (l : List Tally). t ∷ l) (left_there ts page k (shift t.page (map page_of ts) page k at) (record { within = let w = is.within in omega (arith, w); is = is.is })))

pub left_absent : (ts : List Tally) (page : ℕ) → holds (map page_of ts) page ≡ false → ts ≡ left_out page ts
unfolding left_out
left_absent [] page off = refl
left_absent (t ∷ ts) page off = elim (cases_Bool (eqb t.page page)) [
  | inl is ↦ absurd (true≢false (sym (or_left _ _ is) ∙ off))
  | inr ne ↦ by (nat_lt t.page page) ne (left_absent ts page (rw ne at off))
]
  where
    by : (b : Bool) → eqb t.page page ≡ false → ts ≡ left_out page ts → (t ∷ ts) ≡ cond b (t ∷ left_out page ts) (cond (eqb t.page page) ts (t ∷ ts))
    by true ne e = ap (λ (l : List Tally). t ∷ l) e
    by false ne e = rw ne refl

-- the pages of a list in which one edit more is counted
pub pages_counted : (ts : List Tally) (page : ℕ) → map page_of (counted page ts) ≡ placed page (map page_of ts)
unfolding counted placed
pages_counted [] page = refl
pages_counted (t ∷ ts) page = by (pages_counted ts page) (nat_lt t.page page) (eqb t.page page)
  where
    by : map page_of (counted page ts) ≡ placed page (map page_of ts) → (b c : Bool) → map page_of (cond b (t ∷ counted page ts) (cond c (with_edit t ∷ ts) (first_edit page ∷ t ∷ ts))) ≡ cond b (t.page ∷ placed page (map page_of ts)) (cond c (t.page ∷ map page_of ts) (page ∷ t.page ∷ map page_of ts))
    by more true c = ap (λ (l : List ℕ). t.page ∷ l) more
    by more false true = refl
    by more false false = refl

-- and of one that a page left
leads_left : (x : ℕ) (ts : List Tally) (page : ℕ) → Leads (λ a b. a < b) x (map page_of ts) → Leads (λ a b. a < b) x (map page_of (left_out page ts))
unfolding Leads left_out
leads_left x [] page led = tt
leads_left x (t ∷ ts) page led = by (leads_left x ts page led.1) (nat_lt t.page page) (eqb t.page page)
  where
    by : Leads (λ a b. a < b) x (map page_of (left_out page ts)) → (b c : Bool) → Leads (λ a b. a < b) x (map page_of (cond b (t ∷ left_out page ts) (cond c ts (t ∷ ts))))
    by more true c = (led.0, more)
    by more false true = led.1
    by more false false = led

pub rising_left : (ts : List Tally) (page : ℕ) → IsRising (map page_of ts) → IsRising (map page_of (left_out page ts))
unfolding Rises left_out
rising_left [] page up = tt
rising_left (t ∷ ts) page up = by (rising_left ts page up.1) (nat_lt t.page page) (eqb t.page page)
  where
    by : IsRising (map page_of (left_out page ts)) → (b c : Bool) → IsRising (map page_of (cond b (t ∷ left_out page ts) (cond c ts (t ∷ ts))))
    by more true c = (leads_left t.page ts page up.0, more)
    by more false true = up.1
    by more false false = up

pub holds_left : (ts : List Tally) (page a : ℕ) → IsRising (map page_of ts) → holds (map page_of (left_out page ts)) a ≡ (holds (map page_of ts) a && not (eqb a page))
unfolding Rises left_out
holds_left [] page a up = refl
holds_left (t ∷ ts) page a up = by (holds_left ts page a up.1) (nat_lt t.page page) (eqb t.page page) refl refl
  where
    below_all : page ≤ t.page → holds (map page_of ts) page ≡ false
    below_all le = false_from_ne_true _ (λ h. let lt = leads_holds t.page (map page_of ts) page up.0 h in omega (arith, lt, le))

    keeps : (h e : Bool) → (h ≡ true → e ≡ true → ⊥) → h ≡ (h && not e)
    keeps false e f = refl
    keeps true false f = refl
    keeps true true f = absurd (f refl refl)

    more_left : (x h e p : Bool) → x ≡ (h && not e) → (p ≡ true → e ≡ true → ⊥) → (p || x) ≡ ((p || h) && not e)
    more_left x h e true q f = sym (ap not (false_from_ne_true e (f refl)))
    more_left x h e false q f = q

    drops : (h e p : Bool) → (h ≡ true → e ≡ true → ⊥) → (p ≡ true → e ≡ true) → (p ≡ false → e ≡ false) → h ≡ ((p || h) && not e)
    drops h e true f g k = none h e f (g refl)
      where
        none : (h e : Bool) → (h ≡ true → e ≡ true → ⊥) → e ≡ true → h ≡ (true && not e)
        none true true f is = absurd (f refl refl)
        none false true f is = refl
        none h false f is = absurd (true≢false (sym is))
    drops h e false f g k = keeps h e f

    by : holds (map page_of (left_out page ts)) a ≡ (holds (map page_of ts) a && not (eqb a page)) → (b c : Bool) → nat_lt t.page page ≡ b → eqb t.page page ≡ c → holds (map page_of (cond b (t ∷ left_out page ts) (cond c ts (t ∷ ts)))) a ≡ ((eqb t.page a || holds (map page_of ts) a) && not (eqb a page))
    by more true c lt is = more_left _ (holds (map page_of ts) a) (eqb a page) (eqb t.page a) more (λ p e. let u = eqb-true t.page a p in let v = eqb-true a page e in let w : t.page < page = grind (arith, nat_tests) in omega (arith, u, v, w))
    by more false true lt is =
        let same = eqb-true t.page page is in
        drops (holds (map page_of ts) a) (eqb a page) (eqb t.page a)
        (λ h e. true≢false (sym (subst (λ n. holds (map page_of ts) n ≡ true) (eqb-true a page e) h) ∙ below_all (omega (arith, same))))
        (λ p. eq-eqb a page (sym (eqb-true t.page a p) ∙ same))
        (λ p. ap (λ n. eqb a n) (sym same) ∙ flip a t.page ∙ p)
    by more false false lt is = keeps (eqb t.page a || holds (map page_of ts) a) (eqb a page) (λ h e.
        let le : page ≤ t.page = grind (arith, nat_tests) in
        let is_page = eqb-true a page e in
        elim (or_cases (eqb t.page a) (holds (map page_of ts) a) h) [
          | inl here ↦ true≢false (sym (eq-eqb t.page page (eqb-true t.page a here ∙ is_page)) ∙ is)
          | inr later ↦ true≢false (sym (subst (λ n. holds (map page_of ts) n ≡ true) is_page later) ∙ below_all le)
        ])

-- the tally at a page's place
pub tally_at : (ts : List Tally) (page k : ℕ) (d : Tally) → IsPlace (map page_of ts) page k → IsRising (map page_of ts) → holds (map page_of ts) page ≡ true → get_or ts k d ≡ tally_of page ts
unfolding tally_of Rises
tally_at [] page k d at up h = absurd (true≢false (sym h))
tally_at (t ∷ ts) page zero d at up h = elim (or_cases (eqb t.page page) (holds (map page_of ts) page) h) [
  | inl is ↦ rw is refl
  | inr later ↦ absurd (let le = at.above 0 (omega arith) (omega arith) in let lt = leads_holds t.page (map page_of ts) page up.0 later in omega (arith, le, lt))
]
tally_at (t ∷ ts) page (suc k) d at up h =
    let lt : t.page < page = at.below 0 (omega arith) in
    let ne : eqb t.page page ≡ false = ne_eqb t.page page (λ e. omega (arith, lt, e)) in
    rw ne (tally_at ts page k d (shift t.page (map page_of ts) page k at) up.1 (rw ne at h))

-- the others stay where a page is left out
pub tally_others : (ts : List Tally) (page a : ℕ) → eqb a page ≡ false → tally_of a (left_out page ts) ≡ tally_of a ts
unfolding tally_of left_out
tally_others [] page a ne = refl
tally_others (t ∷ ts) page a ne = by (tally_others ts page a ne) (nat_lt t.page page) (eqb t.page page) refl
  where
    skip : eqb t.page page ≡ true → tally_of a ts ≡ cond (eqb t.page a) t (tally_of a ts)
    skip is = let off : eqb t.page a ≡ false = ap (λ n. eqb n a) (eqb-true t.page page is) ∙ flip page a ∙ ne in rw off refl

    by : tally_of a (left_out page ts) ≡ tally_of a ts → (b c : Bool) → eqb t.page page ≡ c → tally_of a (cond b (t ∷ left_out page ts) (cond c ts (t ∷ ts))) ≡ cond (eqb t.page a) t (tally_of a ts)
    by more true c is = ap (λ x. cond (eqb t.page a) t x) more
    by more false true is = skip is
    by more false false is = refl

-- a turn leaves the pages
pub pages_older : (ts : List Tally) → map page_of (map older ts) ≡ map page_of ts
pages_older [] = refl
pages_older (t ∷ ts) = ap (λ (l : List ℕ). t.page ∷ l) (pages_older ts)
