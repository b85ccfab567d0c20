-- What is kept stays linked by each call, and a barrier leaves nothing of what it settles.
use Rattle.std.proofs.Common.{◌≡◌, ◌⊎◌, ⊎_elim, inl, inr, ℕ, ◌≤◌, ◌<◌, ◌+◌, ◌&&◌, Bool, true, false, not, cond, eqb, List, Option, Some, None, refl, sym, ◌∙◌, ap, subst, arith, eq-eqb, eqb-true}
use Rattle.std.specs.Prelude.{is_some, nat_le, nat_lt}
use Rattle.std.specs.Map.{lookup}
use Rattle.std.proofs.lemmas.Bool.{cases_Bool}
use Rattle.std.proofs.lemmas.Bool.Decides.{nat_tests}
use Rattle.order_model.specs.declared.Slot.{Slot}
use Rattle.birth_marks.specs.declared.births.Met.{Met}
use Rattle.birth_marks.specs.declared.births.Pair.{Pair}
use Rattle.birth_marks.specs.declared.births.Record.{Record}
use Rattle.birth_marks.specs.declared.pages.Mark.{Mark}
use Rattle.birth_marks.specs.contracts.births.PairPartialEq.TheImpl.{eq-value as same_pair}
use Rattle.order_model.specs.Calls.{same_slot}
use Rattle.birth_marks.specs.Pages.{PagesView, mark_of, noted_last, settled}
use Rattle.birth_marks.specs.Births.{BirthsView, KeepsRecorded, first_of, is_after, is_live, is_tried, met_in, moment_in, page_in, place_in, record_in, recorded_in}
use Rattle.birth_marks.specs.Kept.{AreBehind, AreLinked, Gone, HeadsPage, Swept, stands_on}
use Rattle.birth_marks.proofs.TableLemmas.{live_same, slot_is, slot_same}
use Rattle.birth_marks.proofs.LinkLemmas.{found, is_there, one_of, pair_itself, pair_same}

-- what is linked is of recorded slots alone
pub kept_recorded : (b : BirthsView) (moment : ℕ) → AreLinked b moment → KeepsRecorded b
kept_recorded b moment is = record {
  slots = λ s r h. live s r h;
  values = λ s v m h. let r = found (record_in b s) (is.owned (record { slot = s; value = v }) m h) in met s v m r.0 r.1 h;
}
  where
    live : (s : Slot) (r : Record) → record_in b s ≡ Some r → recorded_in b s ≡ true
    live s r h = ap (is_live b.pages) h ∙ is.live s r h

    met : (s : Slot) (v : ℕ) (m : Met) (r : Record) → record_in b s ≡ Some r → moment_in b s v ≡ Some m → met_in b s v ≡ true
    met s v m r at h =
        let le = is.since_first s v r m at h in
        let since : nat_le r.first m.moment ≡ true = grind (arith, nat_tests, le) in
        rw (live s r at, at, h, since) refl

-- the same records and marks
module _ (b c : BirthsView) (records : (s : Slot) → record_in c s ≡ record_in b s) (moments : (q : Pair) → lookup (same_pair.it q) c.moments ≡ lookup (same_pair.it q) b.moments)
    (settled_same : (p : ℕ) → (mark_of c.pages p).settled_at ≡ (mark_of b.pages p).settled_at) (last_same : (p : ℕ) → (mark_of c.pages p).last ≡ (mark_of b.pages p).last) where
  on_same : (page : ℕ) (s : Slot) → stands_on page (record_in c s) ≡ stands_on page (record_in b s)
  on_same page s = ap (stands_on page) (records s)

  pub linked_still : (moment : ℕ) → AreLinked b moment → AreLinked c moment
  linked_still moment is = record {
    live = λ s r h. live_same b.pages c.pages settled_same (Some r) (Some r) refl ∙ is.live s r (sym (records s) ∙ h);
    owned = λ q m h. ap is_some (records q.slot) ∙ is.owned q m (sym (moments q) ∙ h);
    since_first = λ s v r m h k. is.since_first s v r m (sym (records s) ∙ h) (sym (moments (record { slot = s; value = v })) ∙ k);
    heads = λ page. record {
      head = λ q h. let k = (is.heads page).head q (sym (last_same page) ∙ h) in (ap is_some (moments q) ∙ k.0, on_same page q.slot ∙ k.1);
      reached = λ q m h on. reached page q ((is.heads page).reached q m (sym (moments q) ∙ h) (sym (on_same page q.slot) ∙ on));
      back = λ n k q h on e. let l = (is.heads page).back n k q (sym (moments n) ∙ h) (sym (on_same page n.slot) ∙ on) e in (l.0, (moments q ∙ l.1.0, (l.1.1.0, on_same page q.slot ∙ l.1.1.1)));
      noted = λ s on. let v = (is.heads page).noted s (sym (on_same page s) ∙ on) in (v.0, ap is_some (moments (record { slot = s; value = v.0 })) ∙ v.1);
      behind = λ q m h. (is.heads page).behind q m (sym (moments q) ∙ h);
    };
  }
    where
      reached : (page : ℕ) (q : Pair) → ((mark_of b.pages page).last ≡ Some q) ⊎ ((n : Pair) × ((k : Met) × ((lookup (same_pair.it n) b.moments ≡ Some k) × ((k.before ≡ Some q) × (stands_on page (record_in b n.slot) ≡ true)))))
          → ((mark_of c.pages page).last ≡ Some q) ⊎ ((n : Pair) × ((k : Met) × ((lookup (same_pair.it n) c.moments ≡ Some k) × ((k.before ≡ Some q) × (stands_on page (record_in c n.slot) ≡ true)))))
      reached page q (inl h) = inl (last_same page ∙ h)
      reached page q (inr (n, (k, (h, (e, on))))) = inr (n, (k, (moments n ∙ h, (e, on_same page n.slot ∙ on))))

-- a slot stands on one page
apart : (p q : ℕ) (o : Option Record) → eqb p q ≡ false → stands_on q o ≡ true → stands_on p o ≡ false
apart p q None off on = refl
apart p q (Some r) off on = elim (cases_Bool (eqb r.page p)) [
  | inr e ↦ e
  | inl e ↦ let a : r.page ≡ p = eqb-true r.page p e in
      let b : r.page ≡ q = eqb-true r.page q on in
      let no : true ≡ false = sym (eq-eqb p q (sym a ∙ b)) ∙ off in absurd (cc)
]

-- A page is settled, and what is kept for it is taken out.
module _ (b : BirthsView) (moment page : ℕ) (is : AreLinked b moment) (rs : List (Slot × Record)) (ms : List (Pair × Met)) (gone : Gone page b.records b.moments rs ms)
    (later : PagesView) (marks : (p : ℕ) → mark_of later p ≡ cond (eqb page p) (settled moment (mark_of b.pages p)) (mark_of b.pages p)) (written : (mark_of b.pages page).written ≡ true) where
  slot_left : (s : Slot) (r : Record) → lookup (same_slot s) rs ≡ Some r → (stands_on page (record_in b s) ≡ false) × (record_in b s ≡ Some r)
  slot_left s r h = elim (cases_Bool (stands_on page (record_in b s))) [
    | inl e ↦ let no : None ≡ Some r = sym (gone.slots s ∙ rw e refl) ∙ h in absurd (cc)
    | inr e ↦ (e, sym (gone.slots s ∙ rw e refl) ∙ h)
  ]

  pair_left : (q : Pair) (m : Met) → lookup (same_pair.it q) ms ≡ Some m → (stands_on page (record_in b q.slot) ≡ false) × (lookup (same_pair.it q) b.moments ≡ Some m)
  pair_left q m h = elim (cases_Bool (stands_on page (record_in b q.slot))) [
    | inl e ↦ let no : None ≡ Some m = sym (gone.pairs q ∙ rw e refl) ∙ h in absurd (cc)
    | inr e ↦ (e, sym (gone.pairs q ∙ rw e refl) ∙ h)
  ]

  slot_stays : (s : Slot) → stands_on page (record_in b s) ≡ false → lookup (same_slot s) rs ≡ record_in b s
  slot_stays s off = gone.slots s ∙ rw off refl

  pair_stays : (q : Pair) → stands_on page (record_in b q.slot) ≡ false → lookup (same_pair.it q) ms ≡ lookup (same_pair.it q) b.moments
  pair_stays q off = gone.pairs q ∙ rw off refl

  -- nothing stands on the page any more
  none_here : (s : Slot) → stands_on page (lookup (same_slot s) rs) ≡ true → ⊥
  none_here s on = elim (cases_Bool (stands_on page (record_in b s))) [
    | inl e ↦ let out : lookup (same_slot s) rs ≡ None = gone.slots s ∙ ap (λ (t : Bool). cond t None (record_in b s)) e in
        let no : false ≡ true = sym (ap (stands_on page) out) ∙ on in cc
    | inr e ↦ let no : false ≡ true = sym (ap (stands_on page) (slot_stays s e) ∙ e) ∙ on in cc
  ]

  last_here : (mark_of later page).last ≡ None
  last_here = ap (λ (m : Mark). m.last) (marks page) ∙ rw (eq-eqb page page refl, written) refl

  heads_here : HeadsPage page moment None rs ms
  heads_here = record {
    head = λ q h. absurd (cc);
    reached = λ q m h on. absurd (none_here q.slot on);
    back = λ n k q h on e. absurd (none_here n.slot on);
    noted = λ s on. absurd (none_here s on);
    behind = λ q m h. (is.heads page).behind q m (pair_left q m h).1;
  }

  module _ (p : ℕ) (off : eqb page p ≡ false) where
    other : (s : Slot) → stands_on p (record_in b s) ≡ true → lookup (same_slot s) rs ≡ record_in b s
    other s on = slot_stays s (apart page p (record_in b s) off on)

    other_pair : (q : Pair) → stands_on p (record_in b q.slot) ≡ true → lookup (same_pair.it q) ms ≡ lookup (same_pair.it q) b.moments
    other_pair q on = pair_stays q (apart page p (record_in b q.slot) off on)

    on_before : (s : Slot) → stands_on p (lookup (same_slot s) rs) ≡ true → stands_on p (record_in b s) ≡ true
    on_before s on = let r = there (lookup (same_slot s) rs) on in ap (stands_on p) ((slot_left s r.0 r.1).1 ∙ sym r.1) ∙ on
      where
        there : (o : Option Record) → stands_on p o ≡ true → (r : Record) × (o ≡ Some r)
        there None e = absurd (cc)
        there (Some r) e = (r, refl)

    pub heads_other : HeadsPage p moment (mark_of b.pages p).last rs ms
    heads_other = record {
      head = λ q h. let k = (is.heads p).head q h in (ap is_some (other_pair q k.1) ∙ k.0, ap (stands_on p) (other q.slot k.1) ∙ k.1);
      reached = λ q m h on. reached q ((is.heads p).reached q m (pair_left q m h).1 (on_before q.slot on));
      back = λ n k q h on e. let l = (is.heads p).back n k q (pair_left n k h).1 (on_before n.slot on) e in (l.0, (other_pair q l.1.1.1 ∙ l.1.0, (l.1.1.0, ap (stands_on p) (other q.slot l.1.1.1) ∙ l.1.1.1)));
      noted = λ s on. let was = on_before s on in let v = (is.heads p).noted s was in (v.0, ap is_some (other_pair (record { slot = s; value = v.0 }) was) ∙ v.1);
      behind = λ q m h. (is.heads p).behind q m (pair_left q m h).1;
    }
      where
        reached : (q : Pair) → ((mark_of b.pages p).last ≡ Some q) ⊎ ((n : Pair) × ((k : Met) × ((lookup (same_pair.it n) b.moments ≡ Some k) × ((k.before ≡ Some q) × (stands_on p (record_in b n.slot) ≡ true)))))
            → ((mark_of b.pages p).last ≡ Some q) ⊎ ((n : Pair) × ((k : Met) × ((lookup (same_pair.it n) ms ≡ Some k) × ((k.before ≡ Some q) × (stands_on p (lookup (same_slot n.slot) rs) ≡ true)))))
        reached q (inl h) = inl h
        reached q (inr (n, (k, (h, (e, on))))) = inr (n, (k, (other_pair n on ∙ h, (e, ap (stands_on p) (other n.slot on) ∙ on))))

  mark_there : (p : ℕ) → eqb page p ≡ false → mark_of later p ≡ mark_of b.pages p
  mark_there p off = marks p ∙ rw off refl

  pub gone_linked : (spare : ℕ) → AreLinked (record { records = rs; moments = ms; pages = later; spare = spare }) moment
  gone_linked spare = record {
    live = λ s r h. let l = slot_left s r h in live r (sym (ap (stands_on page) l.1) ∙ l.0) (is.live s r l.1);
    owned = λ q m h. let l = pair_left q m h in ap is_some (slot_stays q.slot l.0) ∙ is.owned q m l.1;
    since_first = λ s v r m h k. is.since_first s v r m (slot_left s r h).1 (pair_left (record { slot = s; value = v }) m k).1;
    heads = λ p. elim (cases_Bool (eqb page p)) [
      | inl e ↦ subst (λ (n : ℕ). HeadsPage n moment (mark_of later n).last rs ms) (eqb-true page p e) (subst (λ (o : Option Pair). HeadsPage page moment o rs ms) (sym last_here) heads_here)
      | inr e ↦ subst (λ (o : Option Pair). HeadsPage p moment o rs ms) (sym (ap (λ (m : Mark). m.last) (mark_there p e))) (heads_other p e)
    ];
  }
    where
      live : (r : Record) → eqb r.page page ≡ false → is_live b.pages (Some r) ≡ true → is_live later (Some r) ≡ true
      live r off on = rw (mark_there r.page (flip r.page page off)) on
        where
          flip : (x y : ℕ) → eqb x y ≡ false → eqb y x ≡ false
          flip x y h = elim (cases_Bool (eqb y x)) [
            | inr e ↦ e
            | inl e ↦ let no : true ≡ false = sym (eq-eqb x y (sym (eqb-true y x e))) ∙ h in absurd (cc)
          ]

  -- what was taken out is recorded no longer
  pub gone_swept : ((s : Slot) (r : Record) → record_in b s ≡ Some r → r.moment ≤ moment) → Swept later b.records b.moments rs ms
  gone_swept behind = record {
    live = λ s on. slot_stays s (on_no_page s on);
    were = λ s r h. (slot_left s r h).1;
    met = λ s v on. pair_stays (record { slot = s; value = v }) (on_no_page s on);
    noted = λ q m h. (pair_left q m h).1;
  }
    where
      dead : (o : Option Record) → ((r : Record) → o ≡ Some r → r.moment ≤ moment) → stands_on page o ≡ true → is_live later o ≡ true → ⊥
      dead None le on live = let no : false ≡ true = live in cc
      dead (Some r) le on live =
          let at : r.page ≡ page = eqb-true r.page page on in
          let when : (mark_of later r.page).settled_at ≡ moment = ap (λ (p : ℕ). (mark_of later p).settled_at) at ∙ (ap (λ (m : Mark). m.settled_at) (marks page) ∙ rw (eq-eqb page page refl, written) refl) in
          let off : nat_lt (mark_of later r.page).settled_at r.moment ≡ false = let few = le r refl in grind (arith, nat_tests, when, few) in
          let no : true ≡ false = sym live ∙ off in cc

      on_no_page : (s : Slot) → is_live later (record_in b s) ≡ true → stands_on page (record_in b s) ≡ false
      on_no_page s live = elim (cases_Bool (stands_on page (record_in b s))) [
        | inr e ↦ e
        | inl e ↦ absurd (dead (record_in b s) (behind s) e live)
      ]

-- A slot is changed.
module _ (b c : BirthsView) (slot : Slot) (at from to moment : ℕ) (is : AreBehind b moment) (linked : AreLinked b moment) (was : Option Record) (was_is : was ≡ cond (recorded_in b slot) (record_in b slot) None)
    (records : (s : Slot) → record_in c s ≡ cond (same_slot slot s) (Some (record { page = at; value = to; first = first_of was (moment + 1); moment = moment + 1 })) (record_in b s))
    (before : Option Pair) (before_is : before ≡ (mark_of b.pages at).last)
    (moments : (q : Pair) → lookup (same_pair.it q) c.moments ≡ cond ((is_tried b.pages was && not (is_after (first_of was (moment + 1)) (moment_in b slot from))) && same_pair.it (record { slot = slot; value = from }) q) (Some (record { moment = moment + 1; before = before })) (lookup (same_pair.it q) b.moments))
    (last : Option Pair) (last_is : last ≡ cond (is_tried b.pages was && not (is_after (first_of was (moment + 1)) (moment_in b slot from))) (Some (record { slot = slot; value = from })) (mark_of b.pages at).last)
    (marks : (p : ℕ) → mark_of c.pages p ≡ record (mark_of b.pages p) { written = cond (eqb at p) false (mark_of b.pages p).written; last = cond (eqb at p) last (mark_of b.pages p).last })
    (stays : recorded_in b slot ≡ true → place_in b slot ≡ at) where
  abbrev noted : Met
  noted = record { moment = moment + 1; before = before }

  abbrev here : Pair
  here = record { slot = slot; value = from }

  abbrev present : Record
  present = record { page = at; value = to; first = first_of was (moment + 1); moment = moment + 1 }

  abbrev first_met : Bool
  first_met = is_tried b.pages was && not (is_after (first_of was (moment + 1)) (moment_in b slot from))

  -- what stood there was recorded
  was_there : (o : Option Record) → record_in b slot ≡ o → was ≡ o
  was_there None e = was_is ∙ none (recorded_in b slot) ∙ e
    where
      none : (l : Bool) → cond l (record_in b slot) None ≡ record_in b slot
      none true = refl
      none false = sym e
  was_there (Some r) e = was_is ∙ rw (ap (is_live b.pages) e ∙ linked.live slot r e) e

  on_it : (r : Record) → record_in b slot ≡ Some r → r.page ≡ at
  on_it r e = sym (ap page_in e) ∙ stays (ap (is_live b.pages) e ∙ linked.live slot r e)

  -- the value is noted where nothing was noted of it
  fresh : first_met ≡ true → (o : Option Met) → moment_in b slot from ≡ o → o ≡ None
  fresh new None e = refl
  fresh new (Some m) e =
      let r = found (record_in b slot) (linked.owned here m e) in
      let le = linked.since_first slot from r.0 m r.1 e in
      let after : is_after (first_of was (moment + 1)) (moment_in b slot from) ≡ true = rw (was_there (Some r.0) r.1, e) (grind (arith, nat_tests, le)) in
      let no : false ≡ true = sym (rw after (off (is_tried b.pages was))) ∙ new in
      absurd (cc)
    where
      off : (x : Bool) → (x && not true) ≡ false
      off x = grind arith

  old_pair : (q : Pair) (m : Met) → lookup (same_pair.it q) b.moments ≡ Some m → lookup (same_pair.it q) c.moments ≡ Some m
  old_pair q m h = moments q ∙ kept first_met refl
    where
      kept : (t : Bool) → first_met ≡ t → cond (t && same_pair.it here q) (Some noted) (lookup (same_pair.it q) b.moments) ≡ Some m
      kept false e = h
      kept true e = elim (cases_Bool (same_pair.it here q)) [
        | inr f ↦ rw f h
        | inl f ↦ let one : here ≡ q = pair_same here q f in
            let none : None ≡ Some m = sym (fresh e (moment_in b slot from) refl) ∙ (ap (λ (p : Pair). lookup (same_pair.it p) b.moments) one ∙ h) in absurd (cc)
      ]

  -- a pair is the new one, or an old one
  new_or_old : (q : Pair) (m : Met) → lookup (same_pair.it q) c.moments ≡ Some m → ((first_met ≡ true) × ((here ≡ q) × (noted ≡ m))) ⊎ (lookup (same_pair.it q) b.moments ≡ Some m)
  new_or_old q m h = by first_met refl (same_pair.it here q) refl
    where
      by : (t : Bool) → first_met ≡ t → (u : Bool) → same_pair.it here q ≡ u → ((first_met ≡ true) × ((here ≡ q) × (noted ≡ m))) ⊎ (lookup (same_pair.it q) b.moments ≡ Some m)
      by true e true f = inl (e, (pair_same here q f, one_of noted m (sym (moments q ∙ rw (e, f) refl) ∙ h)))
      by true e false f = inr (sym (moments q ∙ rw (e, f) refl) ∙ h)
      by false e u f = inr (sym (moments q ∙ rw e refl) ∙ h)

  new_pair : first_met ≡ true → lookup (same_pair.it here) c.moments ≡ Some noted
  new_pair e = moments here ∙ rw (e, pair_itself here) refl

  slot_here : record_in c slot ≡ Some present
  slot_here = records slot ∙ rw (slot_same slot) refl

  on_here : stands_on at (record_in c slot) ≡ true
  on_here = ap (stands_on at) slot_here ∙ eq-eqb at at refl

  -- a recorded slot stays on its page
  on_still : (p : ℕ) (s : Slot) → stands_on p (record_in b s) ≡ true → stands_on p (record_in c s) ≡ true
  on_still p s on = elim (cases_Bool (same_slot slot s)) [
    | inr e ↦ ap (stands_on p) (records s ∙ rw e refl) ∙ on
    | inl e ↦ subst (λ (t : Slot). stands_on p (record_in b t) ≡ true → stands_on p (record_in c t) ≡ true) (slot_is slot s e) (moved (record_in b slot) refl) on
  ]
    where
      moved : (o : Option Record) → record_in b slot ≡ o → stands_on p (record_in b slot) ≡ true → stands_on p (record_in c slot) ≡ true
      moved None e h = let no : false ≡ true = sym (ap (stands_on p) e) ∙ h in absurd (cc)
      moved (Some r) e h = let page : r.page ≡ p = eqb-true r.page p (sym (ap (stands_on p) e) ∙ h) in
          ap (stands_on p) slot_here ∙ eq-eqb at p (sym (on_it r e) ∙ page)

  on_was : (p : ℕ) (q : Pair) (m : Met) → lookup (same_pair.it q) b.moments ≡ Some m → stands_on p (record_in c q.slot) ≡ true → stands_on p (record_in b q.slot) ≡ true
  on_was p q m h on = let r = found (record_in b q.slot) (linked.owned q m h) in
      let there : stands_on r.0.page (record_in c q.slot) ≡ true = on_still r.0.page q.slot (ap (stands_on r.0.page) r.1 ∙ eq-eqb r.0.page r.0.page refl) in
      ap (stands_on p) r.1 ∙ eq-eqb r.0.page p (one_page (record_in c q.slot) r.0.page p there on)
    where
      one_page : (o : Option Record) (x y : ℕ) → stands_on x o ≡ true → stands_on y o ≡ true → x ≡ y
      one_page None x y f g = absurd (cc)
      one_page (Some r) x y f g = sym (eqb-true r.page x f) ∙ eqb-true r.page y g

  last_there : (p : ℕ) → eqb at p ≡ false → (mark_of c.pages p).last ≡ (mark_of b.pages p).last
  last_there p off = ap (λ (m : Mark). m.last) (marks p) ∙ rw off refl

  last_at : (p : ℕ) → eqb at p ≡ true → (mark_of c.pages p).last ≡ cond first_met (Some here) (mark_of b.pages p).last
  last_at p on = ap (λ (m : Mark). m.last) (marks p) ∙ (rw on refl ∙ (last_is ∙ ap (λ (n : ℕ). cond first_met (Some here) (mark_of b.pages n).last) (eqb-true at p on)))

  -- the last pair of a page, and what leads to a pair, after the change
  last_still : (p : ℕ) (q : Pair) → (mark_of b.pages p).last ≡ Some q
      → ((mark_of c.pages p).last ≡ Some q) ⊎ ((n : Pair) × ((k : Met) × ((lookup (same_pair.it n) c.moments ≡ Some k) × ((k.before ≡ Some q) × (stands_on p (record_in c n.slot) ≡ true)))))
  last_still p q h = by (eqb at p) refl first_met refl
    where
      by : (t : Bool) → eqb at p ≡ t → (u : Bool) → first_met ≡ u
          → ((mark_of c.pages p).last ≡ Some q) ⊎ ((n : Pair) × ((k : Met) × ((lookup (same_pair.it n) c.moments ≡ Some k) × ((k.before ≡ Some q) × (stands_on p (record_in c n.slot) ≡ true)))))
      by false e u f = inl (last_there p e ∙ h)
      by true e false f = inl (last_at p e ∙ rw f h)
      by true e true f = let page : at ≡ p = eqb-true at p e in
          inr (here, (noted, (new_pair f, (before_is ∙ ap (λ (n : ℕ). (mark_of b.pages n).last) page ∙ h, subst (λ (n : ℕ). stands_on n (record_in c slot) ≡ true) page on_here))))

  reached : (p : ℕ) (q : Pair) → ((mark_of b.pages p).last ≡ Some q) ⊎ ((n : Pair) × ((k : Met) × ((lookup (same_pair.it n) b.moments ≡ Some k) × ((k.before ≡ Some q) × (stands_on p (record_in b n.slot) ≡ true)))))
      → ((mark_of c.pages p).last ≡ Some q) ⊎ ((n : Pair) × ((k : Met) × ((lookup (same_pair.it n) c.moments ≡ Some k) × ((k.before ≡ Some q) × (stands_on p (record_in c n.slot) ≡ true)))))
  reached p q (inl h) = last_still p q h
  reached p q (inr (n, (k, (h, (e, on))))) = inr (n, (k, (old_pair n k h, (e, on_still p n.slot on))))

  head_old : (p : ℕ) (q : Pair) → (mark_of b.pages p).last ≡ Some q → (is_some (lookup (same_pair.it q) c.moments) ≡ true) × (stands_on p (record_in c q.slot) ≡ true)
  head_old p q h = let k = (linked.heads p).head q h in
      let m = found (lookup (same_pair.it q) b.moments) k.0 in (is_there (lookup (same_pair.it q) c.moments) m.0 (old_pair q m.0 m.1), on_still p q.slot k.1)

  head : (p : ℕ) (q : Pair) → (mark_of c.pages p).last ≡ Some q → (is_some (lookup (same_pair.it q) c.moments) ≡ true) × (stands_on p (record_in c q.slot) ≡ true)
  head p q h = by (eqb at p) refl first_met refl
    where
      by : (t : Bool) → eqb at p ≡ t → (u : Bool) → first_met ≡ u → (is_some (lookup (same_pair.it q) c.moments) ≡ true) × (stands_on p (record_in c q.slot) ≡ true)
      by false e u f = head_old p q (sym (last_there p e) ∙ h)
      by true e false f = head_old p q (sym (last_at p e ∙ rw f refl) ∙ h)
      by true e true f = let one : here ≡ q = one_of here q (sym (last_at p e ∙ rw f refl) ∙ h) in
          subst (λ (x : Pair). (is_some (lookup (same_pair.it x) c.moments) ≡ true) × (stands_on p (record_in c x.slot) ≡ true)) one
          (is_there (lookup (same_pair.it here) c.moments) noted (new_pair f), subst (λ (n : ℕ). stands_on n (record_in c slot) ≡ true) (eqb-true at p e) on_here)

  back : (p : ℕ) (n : Pair) (k : Met) (q : Pair) → lookup (same_pair.it n) c.moments ≡ Some k → stands_on p (record_in c n.slot) ≡ true → k.before ≡ Some q
      → (m : Met) × ((lookup (same_pair.it q) c.moments ≡ Some m) × ((m.moment < k.moment) × (stands_on p (record_in c q.slot) ≡ true)))
  back p n k q h on e = ⊎_elim (λ new. made new.0 new.1.0 new.1.1) (λ old. kept old) (new_or_old n k h)
    where
      kept : lookup (same_pair.it n) b.moments ≡ Some k → (m : Met) × ((lookup (same_pair.it q) c.moments ≡ Some m) × ((m.moment < k.moment) × (stands_on p (record_in c q.slot) ≡ true)))
      kept old = let l = (linked.heads p).back n k q old (on_was p n k old on) e in (l.0, (old_pair q l.0 l.1.0, (l.1.1.0, on_still p q.slot l.1.1.1)))

      made : first_met ≡ true → here ≡ n → noted ≡ k → (m : Met) × ((lookup (same_pair.it q) c.moments ≡ Some m) × ((m.moment < k.moment) × (stands_on p (record_in c q.slot) ≡ true)))
      made f one it =
          let page : at ≡ p = eqb-true at p (sym (ap (stands_on p) (ap (λ (x : Pair). record_in c x.slot) (sym one) ∙ slot_here)) ∙ on) in
          let top : (mark_of b.pages p).last ≡ Some q = sym (before_is ∙ ap (λ (x : ℕ). (mark_of b.pages x).last) page) ∙ (ap (λ (x : Met). x.before) it ∙ e) in
          let l = (linked.heads p).head q top in
          let m = found (lookup (same_pair.it q) b.moments) l.0 in
          (m.0, (old_pair q m.0 m.1, (omega (arith, (linked.heads p).behind q m.0 m.1, ap (λ (x : Met). x.moment) it), on_still p q.slot l.1)))

  pub changed_linked : AreLinked c (moment + 1)
  changed_linked = record {
    live = λ s r h. elim (cases_Bool (same_slot slot s)) [
      | inl e ↦ subst (λ (x : Record). is_live c.pages (Some x) ≡ true) (one_of present r (sym (records s ∙ rw e refl) ∙ h)) now_live
      | inr e ↦ live_same b.pages c.pages (λ p. rw (marks p)) (Some r) (Some r) refl ∙ linked.live s r (sym (records s ∙ rw e refl) ∙ h)
    ];
    owned = λ q m h. elim (cases_Bool (same_slot slot q.slot)) [
      | inl e ↦ is_there (record_in c q.slot) present (records q.slot ∙ rw e refl)
      | inr e ↦ ⊎_elim
          (λ new. is_there (record_in c q.slot) present (ap (λ (x : Pair). record_in c x.slot) (sym new.1.0) ∙ slot_here))
          (λ old. ap is_some (records q.slot ∙ rw e refl) ∙ linked.owned q m old)
          (new_or_old q m h)
    ];
    since_first = λ s v r m h k. elim (cases_Bool (same_slot slot s)) [
      | inl e ↦ subst (λ (x : Record). x.first ≤ m.moment) (one_of present r (sym (records s ∙ rw e refl) ∙ h)) (first_here s v m (slot_is slot s e) k)
      | inr e ↦ ⊎_elim
          (λ new. let no : true ≡ false = sym (slot_same slot) ∙ (ap (same_slot slot) (ap (λ (x : Pair). x.slot) new.1.0) ∙ e) in absurd (cc))
          (λ old. linked.since_first s v r m (sym (records s ∙ rw e refl) ∙ h) old)
          (new_or_old (record { slot = s; value = v }) m k)
    ];
    heads = λ p. record {
      head = head p;
      reached = λ q m h on. ⊎_elim
          (λ new. inl_here p q new.0 new.1.0 on)
          (λ old. reached p q ((linked.heads p).reached q m old (on_was p q m old on)))
          (new_or_old q m h);
      back = back p;
      noted = λ s on. elim (cases_Bool (same_slot slot s)) [
        | inl e ↦ subst (λ (t : Slot). (v : ℕ) × (is_some (lookup (same_pair.it (record { slot = t; value = v })) c.moments) ≡ true)) (slot_is slot s e) (noted_here (record_in b slot) refl)
        | inr e ↦ noted_still p s (sym (ap (stands_on p) (records s ∙ rw e refl)) ∙ on)
      ];
      behind = λ q m h. ⊎_elim
          (λ new. omega (arith, ap (λ (x : Met). x.moment) new.1.1))
          (λ old. omega (arith, (linked.heads p).behind q m old))
          (new_or_old q m h);
    };
  }
    where
      now_live : is_live c.pages (Some present) ≡ true
      now_live = let h = is.settled at in rw (marks at) (grind (arith, nat_tests))

      first_le : (o : Option Record) → record_in b slot ≡ o → first_of was (moment + 1) ≤ moment + 1
      first_le None e = rw (was_there None e) (omega arith)
      first_le (Some r) e = let h = is.first slot r e in rw (was_there (Some r) e) (omega arith)

      first_here : (s : Slot) (v : ℕ) (m : Met) → slot ≡ s → moment_in c s v ≡ Some m → present.first ≤ m.moment
      first_here s v m same k = ⊎_elim
          (λ new. omega (arith, first_le (record_in b slot) refl, ap (λ (x : Met). x.moment) new.1.1))
          (λ old. let r = found (record_in b s) (linked.owned (record { slot = s; value = v }) m old) in
          let le = linked.since_first s v r.0 m r.1 old in
          rw (was_there (Some r.0) (ap (record_in b) same ∙ r.1)) le)
          (new_or_old (record { slot = s; value = v }) m k)

      inl_here : (p : ℕ) (q : Pair) → first_met ≡ true → here ≡ q → stands_on p (record_in c q.slot) ≡ true
          → ((mark_of c.pages p).last ≡ Some q) ⊎ ((n : Pair) × ((k : Met) × ((lookup (same_pair.it n) c.moments ≡ Some k) × ((k.before ≡ Some q) × (stands_on p (record_in c n.slot) ≡ true)))))
      inl_here p q f one on = let page : eqb at p ≡ true = sym (ap (stands_on p) (ap (λ (x : Pair). record_in c x.slot) (sym one) ∙ slot_here)) ∙ on in
          inl (last_at p page ∙ (rw f refl ∙ ap (λ (x : Pair). Some x) one))

      noted_still : (p : ℕ) (s : Slot) → stands_on p (record_in b s) ≡ true → (v : ℕ) × (is_some (lookup (same_pair.it (record { slot = s; value = v })) c.moments) ≡ true)
      noted_still p s on = let v = (linked.heads p).noted s on in
          let m = found (lookup (same_pair.it (record { slot = s; value = v.0 })) b.moments) v.1 in
          (v.0, is_there (lookup (same_pair.it (record { slot = s; value = v.0 })) c.moments) m.0 (old_pair (record { slot = s; value = v.0 }) m.0 m.1))

      noted_here : (o : Option Record) → record_in b slot ≡ o → (v : ℕ) × (is_some (lookup (same_pair.it (record { slot = slot; value = v })) c.moments) ≡ true)
      noted_here (Some r) e = noted_still r.page slot (ap (stands_on r.page) e ∙ eq-eqb r.page r.page refl)
      noted_here None e = (from, is_there (lookup (same_pair.it here) c.moments) noted (new_pair first))
        where
          none : (o : Option Met) → moment_in b slot from ≡ o → is_after (moment + 1) o ≡ false
          none None f = refl
          none (Some m) f = let h = is.met slot from m f in grind (arith, nat_tests)

          first : first_met ≡ true
          first = rw (was_there None e, none (moment_in b slot from) refl) refl

-- One page is taken off the list: it is settled, with what is kept for it, or it stays.
module _ (b : BirthsView) (moment page : ℕ) (is : AreLinked b moment) (later : PagesView) (marks : (p : ℕ) → mark_of later p ≡ cond (eqb page p) (settled moment (mark_of b.pages p)) (mark_of b.pages p))
    (last : Option Pair) (noted : last ≡ noted_last (mark_of b.pages page)) (rs : List (Slot × Record)) (ms : List (Pair × Met))
    (none : last ≡ None → (rs ≡ b.records) × (ms ≡ b.moments)) (gone : (p m : ℕ) → HeadsPage p m last b.records b.moments → Gone p b.records b.moments rs ms)
    (behind : (s : Slot) (r : Record) → record_in b s ≡ Some r → r.moment ≤ moment) (spare : ℕ) where
  step : (t : Bool) → (mark_of b.pages page).written ≡ t → AreLinked (record { records = rs; moments = ms; pages = later; spare = spare }) moment × Swept later b.records b.moments rs ms
  step true w =
      let last_is : last ≡ (mark_of b.pages page).last = noted ∙ rw w refl in
      let out = gone page moment (subst (λ (o : Option Pair). HeadsPage page moment o b.records b.moments) (sym last_is) (is.heads page)) in
      (gone_linked b moment page is rs ms out later marks w spare, gone_swept b moment page is rs ms out later marks w behind)
  step false w =
      let same = none (noted ∙ rw w refl) in (
        linked_still b (record { records = rs; moments = ms; pages = later; spare = spare }) (λ s. ap (lookup (same_slot s)) same.0) (λ q. ap (lookup (same_pair.it q)) same.1) (λ p. settled_stays p (eqb page p) refl) (λ p. last_stays p (eqb page p) refl) moment is,
        record { live = λ s on. ap (lookup (same_slot s)) same.0; were = λ s r h. sym (ap (lookup (same_slot s)) same.0) ∙ h; met = λ s v on. ap (lookup (same_pair.it (record { slot = s; value = v }))) same.1; noted = λ q m h. sym (ap (lookup (same_pair.it q)) same.1) ∙ h },
      )
    where
      here : (p : ℕ) → eqb page p ≡ true → (mark_of b.pages p).written ≡ false
      here p e = ap (λ (n : ℕ). (mark_of b.pages n).written) (sym (eqb-true page p e)) ∙ w

      settled_stays : (p : ℕ) (t : Bool) → eqb page p ≡ t → (mark_of later p).settled_at ≡ (mark_of b.pages p).settled_at
      settled_stays p true e = ap (λ (m : Mark). m.settled_at) (marks p) ∙ rw (e, here p e) refl
      settled_stays p false e = ap (λ (m : Mark). m.settled_at) (marks p) ∙ rw e refl

      last_stays : (p : ℕ) (t : Bool) → eqb page p ≡ t → (mark_of later p).last ≡ (mark_of b.pages p).last
      last_stays p true e = ap (λ (m : Mark). m.last) (marks p) ∙ rw (e, here p e) refl
      last_stays p false e = ap (λ (m : Mark). m.last) (marks p) ∙ rw e refl

  pub one_settled : AreLinked (record { records = rs; moments = ms; pages = later; spare = spare }) moment × Swept later b.records b.moments rs ms
  one_settled = step (mark_of b.pages page).written refl
