-- The numbers beside pages, after each edit.
use Rattle.std.proofs.Common.{◌≡◌, inl, inr, ℕ, zero, suc, ◌+◌, ◌-◌, ◌<◌, ◌≤◌, Bool, true, false, not, ◌&&◌, ◌||◌, cond, List, [], ◌∷◌, ◌++◌, length, take, drop, set, get_or, refl, sym, ◌∙◌, ap, arith, eqb, eq-eqb, ne_eqb}
use Rattle.std.proofs.lemmas.List.{get_or_read, length-set}
use Rattle.std.proofs.lemmas.List.Edits.{length-insert, length-remove}
use Rattle.std.proofs.lemmas.Bool.{and_from, and_parts, and_right, cases_eq, cases_Bool, or_parts}
use Rattle.dep_graph.specs.Rising.{Leads, Rises}
use Rattle.dep_graph.specs.Pages.{holds, IsAt, IsRising}
use Rattle.dep_graph.specs.Waits.{count_at, IsWaiting}
use Rattle.dep_graph.proofs.RisingLemmas.{leads_at}
use Rattle.dep_graph.proofs.PageLemmas.{flip, found, fewer, fewer_by_one}

pub count_place : (ps ws : List ℕ) (k : ℕ) → IsRising ps → length ws ≡ length ps → k < length ps → count_at ps ws (get_or ps k 0) ≡ get_or ws k 0
unfolding count_at Rises
count_place [] ws k up each lt = absurd (omega arith)
count_place (p ∷ ps) [] k up each lt = absurd (omega arith)
count_place (p ∷ ps) (w ∷ ws) zero up each lt = rw (eq-eqb p p refl)
count_place (p ∷ ps) (w ∷ ws) (suc k) up each lt =
    let above : p < get_or ps k 0 = leads_at (λ a b. a < b) p ps 0 up.0 k (omega arith) in
    rw (ne_eqb p (get_or ps k 0) (λ e. omega arith)) (count_place ps ws k up.1 (omega arith) (omega arith))

pub count_none : (ps ws : List ℕ) (a : ℕ) → holds ps a ≡ false → count_at ps ws a ≡ 0
unfolding count_at
count_none [] ws a h = refl
count_none (p ∷ ps) [] a h = refl
count_none (p ∷ ps) (w ∷ ws) a h = let b = or_parts (eqb p a) (holds ps a) h in rw b.0 (count_none ps ws a b.1)

pub count_set : (ps ws : List ℕ) (k v a : ℕ) → IsRising ps → length ws ≡ length ps → k < length ps → count_at ps (set ws k v) a ≡ cond (eqb a (get_or ps k 0)) v (count_at ps ws a)
unfolding count_at Rises
count_set [] ws k v a up each lt = absurd (omega arith)
count_set (p ∷ ps) [] k v a up each lt = absurd (omega arith)
count_set (p ∷ ps) (w ∷ ws) zero v a up each lt = elim (cases_eq p a) [
  | inl e ↦ rw (e, eq-eqb a a refl)
  | inr ne ↦ rw (ne_eqb p a ne, ne_eqb a p (λ e. ne (sym e)))
]
count_set (p ∷ ps) (w ∷ ws) (suc k) v a up each lt = elim (cases_eq p a) [
  | inl e ↦
      let above : p < get_or ps k 0 = leads_at (λ a b. a < b) p ps 0 up.0 k (omega arith) in
      rw (eq-eqb p a e, ne_eqb a (get_or ps k 0) (λ q. omega arith))
  | inr ne ↦ rw (ne_eqb p a ne) (count_set ps ws k v a up.1 (omega arith) (omega arith))
]

pub count_insert : (ps ws : List ℕ) (k page v a : ℕ) → length ws ≡ length ps → k ≤ length ps → holds ps page ≡ false
    → count_at (take k ps ++ page ∷ drop k ps) (take k ws ++ v ∷ drop k ws) a ≡ cond (eqb a page) v (count_at ps ws a)
unfolding count_at
count_insert ps ws zero page v a each le absent = rw (flip page a)
count_insert [] ws (suc k) page v a each le absent = absurd (omega arith)
count_insert (p ∷ ps) [] (suc k) page v a each le absent = absurd (omega arith)
count_insert (p ∷ ps) (w ∷ ws) (suc k) page v a each le absent = let b = or_parts (eqb p page) (holds ps page) absent in elim (cases_eq p a) [
  | inl e ↦ rw (eq-eqb p a e, ap (λ x. eqb x page) (sym e) ∙ b.0)
  | inr ne ↦ rw (ne_eqb p a ne) (count_insert ps ws k page v a (omega arith) (omega arith) b.1)
]

none_above : (p : ℕ) (ps : List ℕ) → Leads (λ a b. a < b) p ps → holds ps p ≡ false
unfolding Leads
none_above p [] h = refl
none_above p (q ∷ qs) h = let lt : p < q = h.0 in rw (ne_eqb q p (λ e. omega arith), none_above p qs h.1)

pub count_remove : (ps ws : List ℕ) (k a : ℕ) → IsRising ps → length ws ≡ length ps → k < length ps
    → count_at (take k ps ++ drop (suc k) ps) (take k ws ++ drop (suc k) ws) a ≡ cond (eqb a (get_or ps k 0)) 0 (count_at ps ws a)
unfolding count_at Rises
count_remove [] ws k a up each lt = absurd (omega arith)
count_remove (p ∷ ps) [] k a up each lt = absurd (omega arith)
count_remove (p ∷ ps) (w ∷ ws) zero a up each lt = elim (cases_eq p a) [
  | inl e ↦ rw (← e, eq-eqb p p refl) (count_none ps ws p (none_above p ps up.0))
  | inr ne ↦ rw (ne_eqb p a ne, ne_eqb a p (λ e. ne (sym e)))
]
count_remove (p ∷ ps) (w ∷ ws) (suc k) a up each lt = elim (cases_eq p a) [
  | inl e ↦
      let above : p < get_or ps k 0 = leads_at (λ a b. a < b) p ps 0 up.0 k (omega arith) in
      rw (eq-eqb p a e, ne_eqb a (get_or ps k 0) (λ q. omega arith))
  | inr ne ↦ rw (ne_eqb p a ne) (count_remove ps ws k a up.1 (omega arith) (omega arith))
]

present : (ps ws : List ℕ) (a n : ℕ) → count_at ps ws a ≡ suc n → holds ps a ≡ true
present ps ws a n h = elim (cases_Bool (holds ps a)) [
  | inl is ↦ is
  | inr off ↦ absurd (let none = count_none ps ws a off in omega arith)
]

-- a page with a number above 0 is one of them
pub waits_present : (ps ws : List ℕ) (a : ℕ) → 0 < count_at ps ws a → holds ps a ≡ true
waits_present ps ws a lt = present ps ws a (count_at ps ws a - 1) (omega arith)

-- a number that is changed
pub waiting_set : (ps ws rs ready : List ℕ) (k page v : ℕ) → IsWaiting ps ws rs → IsAt ps page k → IsRising ready
    → ((a : ℕ) → (a ≡ page → ⊥) → holds ready a ≡ holds rs a) → holds ready page ≡ eqb v 0 → IsWaiting ps (set ws k v) ready
waiting_set ps ws rs ready k page v w at up others here = record {
  rising = w.rising;
  ready_rising = up;
  each = length-set ws k v ∙ w.each;
  none_waits = λ a. elim (cases_eq a page) [
    | inl e ↦ rw (e, counted page, eq-eqb page page refl, held) here
    | inr ne ↦ rw (counted a, ne_eqb a page ne) (others a ne ∙ w.none_waits a)
  ];
}
  where
    counted : (a : ℕ) → count_at ps (set ws k v) a ≡ cond (eqb a page) v (count_at ps ws a)
    counted a = count_set ps ws k v a w.rising w.each at.within ∙ ap (λ p. cond (eqb a p) v (count_at ps ws a)) at.is

    held : holds ps page ≡ true
    held = found ps k page at.within at.is

pub set_count : (ps ws : List ℕ) (k page v a : ℕ) → IsRising ps → length ws ≡ length ps → IsAt ps page k → count_at ps (set ws k v) a ≡ cond (eqb a page) v (count_at ps ws a)
set_count ps ws k page v a up each at = count_set ps ws k v a up each at.within ∙ ap (λ p. cond (eqb a p) v (count_at ps ws a)) at.is

pub read_count : (ps ws : List ℕ) (k page : ℕ) → IsRising ps → length ws ≡ length ps → IsAt ps page k → get_or ws k 0 ≡ count_at ps ws page
read_count ps ws k page up each at = sym (count_place ps ws k up each at.within) ∙ ap (λ p. count_at ps ws p) at.is

-- there are fewer ready pages than pages, while one of these is not ready
pub ready_room : (ps ws rs : List ℕ) (page : ℕ) → IsWaiting ps ws rs → holds ps page ≡ true → holds rs page ≡ false → length rs < length ps
ready_room ps ws rs page w on off = fewer_by_one rs ps page w.ready_rising w.rising (λ a h. (and_parts _ _ (sym (w.none_waits a) ∙ h)).0) on off

pub ready_within : (ps ws rs : List ℕ) → IsWaiting ps ws rs → length rs ≤ length ps
ready_within ps ws rs w = fewer rs ps w.ready_rising w.rising (λ a h. (and_parts _ _ (sym (w.none_waits a) ∙ h)).0)

pub nothing_waits : (ps ws rs : List ℕ) → ps ≡ [] → ws ≡ [] → rs ≡ [] → IsWaiting ps ws rs
unfolding Rises
nothing_waits ps ws rs e f g = rw (e, f, g) (record { rising = tt; ready_rising = tt; each = refl; none_waits = λ a. refl })

-- a page that enters has the number 0
module _ (ps ws ps' ws' : List ℕ) (k page : ℕ) (each : length ws ≡ length ps) (le : k ≤ length ps) (absent : holds ps page ≡ false)
    (pages : ps' ≡ take k ps ++ page ∷ drop k ps) (counts : ws' ≡ take k ws ++ 0 ∷ drop k ws) where
  pub entered_count : (a : ℕ) → count_at ps' ws' a ≡ count_at ps ws a
  entered_count a = rw (pages, counts) (count_insert ps ws k page 0 a each le absent ∙ (elim (cases_eq a page) [
    | inl e ↦ rw (e, eq-eqb page page refl) (sym (count_none ps ws page absent))
    | inr ne ↦ rw (ne_eqb a page ne)
  ]))

  pub entered : (rs rs' : List ℕ) → IsWaiting ps ws rs → IsRising ps' → IsRising rs' → ((a : ℕ) → holds ps' a ≡ holds ps a || eqb a page)
      → ((a : ℕ) → holds rs' a ≡ holds rs a || eqb a page) → IsWaiting ps' ws' rs'
  entered rs rs' w up ready_up more more_ready = record {
    rising = up;
    ready_rising = ready_up;
    each = rw (pages, counts) (let l = length-insert ps k page le in let m = length-insert ws k 0 (omega arith) in omega arith);
    none_waits = λ a. more_ready a ∙ (elim (cases_eq a page) [
      | inl e ↦ rw (entered_count a, more a, e, eq-eqb page page refl, count_none ps ws page absent) (ends (holds rs page) (holds ps page))
      | inr ne ↦ rw (entered_count a, more a, ne_eqb a page ne, w.none_waits a) (keeps (holds ps a) (eqb (count_at ps ws a) 0))
    ]);
  }
    where
      ends : (x y : Bool) → (x || true) ≡ ((y || true) && true)
      ends x y = grind arith

      keeps : (x y : Bool) → ((x && y) || false) ≡ ((x || false) && y)
      keeps x y = grind arith

-- and one that leaves had it
module _ (ps ws ps' ws' : List ℕ) (k page : ℕ) (up : IsRising ps) (each : length ws ≡ length ps) (at : IsAt ps page k) (none : count_at ps ws page ≡ 0)
    (pages : ps' ≡ take k ps ++ drop (suc k) ps) (counts : ws' ≡ take k ws ++ drop (suc k) ws) where
  pub left_count : (a : ℕ) → count_at ps' ws' a ≡ count_at ps ws a
  left_count a = rw (pages, counts) (count_remove ps ws k a up each at.within ∙ (elim (cases_eq a page) [
    | inl e ↦ rw (at.is, e, eq-eqb page page refl) (sym none)
    | inr ne ↦ rw (at.is, ne_eqb a page ne)
  ]))

  pub left : (rs rs' : List ℕ) → IsWaiting ps ws rs → IsRising ps' → IsRising rs' → ((a : ℕ) → holds ps' a ≡ holds ps a && not (eqb a page))
      → ((a : ℕ) → holds rs' a ≡ holds rs a && not (eqb a page)) → IsWaiting ps' ws' rs'
  left rs rs' w p_up ready_up less less_ready = record {
    rising = p_up;
    ready_rising = ready_up;
    each = rw (pages, counts) (let l = length-remove ps k at.within in let m = length-remove ws k (omega (arith, at.within)) in omega arith);
    none_waits = λ a. less_ready a ∙ rw (left_count a, less a, w.none_waits a) (turns (holds ps a) (eqb (count_at ps ws a) 0) (not (eqb a page)));
  }
    where
      turns : (x y z : Bool) → ((x && y) && z) ≡ ((x && z) && y)
      turns x y z = grind arith

-- a page whose number is read and changed
module _ (ps ws rs : List ℕ) (k page n : ℕ) (w : IsWaiting ps ws rs) (at : IsAt ps page k) (read : n ≡ get_or ws k n) where
  pub read_is : n ≡ count_at ps ws page
  read_is = get_or_read ws k n (omega (arith, at.within, w.each)) read 0 ∙ read_count ps ws k page w.rising w.each at

  pub changed_count : (f : ℕ → ℕ) (a : ℕ) → count_at ps (set ws k (f n)) a ≡ cond (eqb a page) (f (count_at ps ws a)) (count_at ps ws a)
  changed_count f a = set_count ps ws k page (f n) a w.rising w.each at ∙ (elim (cases_eq a page) [
    | inl e ↦ rw (e, eq-eqb page page refl) (ap f read_is)
    | inr ne ↦ rw (ne_eqb a page ne)
  ])

  pub was_ready : n ≡ 0 → holds rs page ≡ true
  was_ready none = w.none_waits page ∙ and_from _ _ (found ps k page at.within at.is) (eq-eqb _ _ (sym read_is ∙ none))

  pub first_raised : n ≡ 0 → (rs' : List ℕ) → IsRising rs' → ((a : ℕ) → holds rs' a ≡ holds rs a && not (eqb a page)) → IsWaiting ps (set ws k (n + 1)) rs'
  first_raised none rs' up less = waiting_set ps ws rs rs' k page (n + 1) w at up
      (λ a ne. less a ∙ rw (ne_eqb a page ne) (kept (holds rs a)))
      (less page ∙ rw (eq-eqb page page refl) (gone (holds rs page)) ∙ sym (ne_eqb (n + 1) 0 (λ e. omega arith)))
    where
      kept : (x : Bool) → (x && not false) ≡ x
      kept x = grind arith

      gone : (x : Bool) → (x && not true) ≡ false
      gone x = grind arith

  pub not_ready : (n ≡ 0 → ⊥) → holds rs page ≡ false
  not_ready some = w.none_waits page ∙ and_right _ _ (ne_eqb _ _ (λ e. some (read_is ∙ e)))

  pub raised_again : (n ≡ 0 → ⊥) → IsWaiting ps (set ws k (n + 1)) rs
  raised_again some = waiting_set ps ws rs rs k page (n + 1) w at w.ready_rising (λ a ne. refl) (not_ready some ∙ sym (ne_eqb (n + 1) 0 (λ e. omega arith)))

  pub last_lowered : n ≡ 1 → (rs' : List ℕ) → IsRising rs' → ((a : ℕ) → holds rs' a ≡ holds rs a || eqb a page) → IsWaiting ps (set ws k (n - 1)) rs'
  last_lowered one rs' up more = waiting_set ps ws rs rs' k page (n - 1) w at up
      (λ a ne. more a ∙ rw (ne_eqb a page ne) (kept (holds rs a)))
      (more page ∙ rw (eq-eqb page page refl) (there (holds rs page)) ∙ sym (eq-eqb (n - 1) 0 (omega arith)))
    where
      kept : (x : Bool) → (x || false) ≡ x
      kept x = grind arith

      there : (x : Bool) → (x || true) ≡ true
      there x = grind arith

  pub lowered_more : 0 < n → (n ≡ 1 → ⊥) → IsWaiting ps (set ws k (n - 1)) rs
  lowered_more some more = waiting_set ps ws rs rs k page (n - 1) w at w.ready_rising (λ a ne. refl) (not_ready (λ e. omega arith) ∙ sym (ne_eqb (n - 1) 0 (λ e. omega arith)))
