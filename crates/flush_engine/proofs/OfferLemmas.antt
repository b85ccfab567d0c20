-- Offers, listed and kept up to date.
use Rattle.std.proofs.Common.{◌≡◌, inl, inr, ◌<◌, ◌+◌, ℕ, zero, suc, Bool, true, false, not, ◌&&◌, ◌||◌, List, [], ◌∷◌, ◌++◌, length, map, remove, get_or, eqb, eqb-true, eq-eqb, refl, sym, ◌∙◌, ap, subst, arith, Some, None}
use Rattle.std.proofs.lemmas.Bool.{and_from, and_parts, cases_Bool, cases_lt, not-true, not_from_false, or_cases, or_left, or_right, true≢false}
use Rattle.merge_policy.specs.declared.policy.Offer.{Offer}
use Rattle.dep_graph.specs.Lists.{dirty_in, is_ready, waiter_count}
use Rattle.dep_graph.specs.Pages.{holds, IsLeast}
use Rattle.dep_graph.specs.Rising.{Rises}
use Rattle.dep_graph.proofs.PageLemmas.{fewer_by_one, flip, holds_remove}
use Rattle.dep_graph.proofs.RisingLemmas.{rises_remove}
use Rattle.flush_engine.specs.Tallies.{tally_of}
use Rattle.flush_engine.specs.Telling.{Telling}
use Rattle.flush_engine.specs.View.{EngineView, IsWhole, Moment}
use Rattle.flush_engine.specs.Steps.{WriteDone}
use Rattle.flush_engine.specs.Waves.{AreDueBelow, IsDue}
use Rattle.flush_engine.specs.Idle.{AreOffers, offer_at}
use Rattle.flush_engine.proofs.GraphAfter.{AllWrote, ready_same, wrote_more, wrote_none}
use Rattle.flush_engine.proofs.Snoc.{any_snoc, map_snoc, rises_snoc}
use Rattle.flush_engine.proofs.TallyLemmas.{tally_others}

-- the offers of pages below a number
pub record OffersBelow (e : EngineView) (from : ℕ) (offers : List Offer) : Type 0 where
  pub pages : List ℕ
  pub ready : AreDueBelow e.graph None from pages
  pub each : offers ≡ map (offer_at e) pages

pub offers_none : (e : EngineView) → OffersBelow e 0 []
unfolding Rises
offers_none e = record {
  pages = [];
  ready = record { rising = tt; due = λ q h. absurd (true≢false (sym h)); below = λ q h. absurd (true≢false (sym h)); all = λ q d lt. absurd (omega (arith, lt)) };
  each = refl;
}

-- one more
pub offers_more : (e : EngineView) (from page : ℕ) (offers : List Offer) → OffersBelow e from offers → IsLeast (IsDue e.graph None) from (Some page) → OffersBelow e (page + 1) (offers ++ offer_at e page ∷ [])
offers_more e from page offers o least = record {
  pages = o.pages ++ page ∷ [];
  ready = record {
    rising = rises_snoc o.pages page o.ready.rising (λ a h. let lt = o.ready.below a h in let le = least.1 in omega (arith, lt, le));
    due = λ a h. elim (or_cases (holds o.pages a) (eqb page a) (sym (any_snoc o.pages page a) ∙ h)) [
      | inl before ↦ o.ready.due a before
      | inr here ↦ subst (IsDue e.graph None) (eqb-true page a here) least.0
    ];
    below = λ a h. elim (or_cases (holds o.pages a) (eqb page a) (sym (any_snoc o.pages page a) ∙ h)) [
      | inl before ↦ let lt = o.ready.below a before in let le = least.1 in omega (arith, lt, le)
      | inr here ↦ let is = eqb-true page a here in omega (arith, is)
    ];
    all = λ a d lt. any_snoc o.pages page a ∙ elim (cases_lt a from) [
      | inl before ↦ or_left _ _ (o.ready.all a d before)
      | inr ge ↦ or_right _ _ (let le = least.2 a d (omega (arith, ge)) in let same : page ≡ a = omega (arith, le, lt) in eq-eqb page a same)
    ];
  };
  each = ap (λ (l : List Offer). l ++ offer_at e page ∷ []) o.each ∙ sym (map_snoc (offer_at e) o.pages page);
}

pub offers_all : (e : EngineView) (from : ℕ) (offers : List Offer) → OffersBelow e from offers → IsLeast (IsDue e.graph None) from None → AreOffers e offers
offers_all e from offers o least = record {
  pages = o.pages;
  ready = record { rising = o.ready.rising; due = o.ready.due; all = λ a d. o.ready.all a d (least a d) };
  each = o.each;
}

len_map : (f : ℕ → Offer) (l : List ℕ) → length (map f l) ≡ length l
len_map f [] = refl
len_map f (p ∷ l) = ap suc (len_map f l)

-- there is room for one more
pub offers_fit : (e : EngineView) (from page : ℕ) (offers : List Offer) → IsWhole e → OffersBelow e from offers → IsLeast (IsDue e.graph None) from (Some page) → length offers < e.room
offers_fit e from page offers whole o least =
    let n = ap length o.each ∙ len_map (offer_at e) o.pages in
    let lt = fewer_by_one o.pages e.graph.dirty page o.ready.rising whole.graph.dirty_once (λ a h. (and_parts (dirty_in e.graph a) _ (o.ready.due a h)).0) (and_parts (dirty_in e.graph page) _ least.0).0 absent in
    let le = whole.room in
    omega (arith, n, lt, le)
  where
    absent : holds o.pages page ≡ false
    absent = elim (cases_Bool (holds o.pages page)) [
      | inr off ↦ off
      | inl on ↦ absurd (let lt = o.ready.below page on in let le = least.1 in omega (arith, lt, le))
    ]

page_there : (f : ℕ → Offer) → ((p : ℕ) → (f p).page ≡ p) → (pages : List ℕ) (place : ℕ) (d : Offer) → place < length (map f pages) → get_or pages place 0 ≡ (get_or (map f pages) place d).page
page_there f is [] place d lt = absurd (omega (arith, lt))
page_there f is (p ∷ pages) zero d lt = sym (is p)
page_there f is (p ∷ pages) (suc k) d lt = page_there f is pages k d (omega (arith, lt))

held_there : (pages : List ℕ) (k : ℕ) → k < length pages → holds pages (get_or pages k 0) ≡ true
held_there [] k lt = absurd (omega (arith, lt))
held_there (p ∷ pages) zero lt = or_left _ _ (eq-eqb p p refl)
held_there (p ∷ pages) (suc k) lt = or_right _ _ (held_there pages k (omega (arith, lt)))

module _ (e : EngineView) (offers : List Offer) (o : AreOffers e offers) (place : ℕ) (d : Offer) (lt : place < length offers) where
  within : place < length o.pages
  within = let n = ap length o.each ∙ len_map (offer_at e) o.pages in omega (arith, n, lt)

  pub offered_page : get_or o.pages place 0 ≡ (get_or offers place d).page
  offered_page = page_there (offer_at e) (λ p. refl) o.pages place d (let n = len_map (offer_at e) o.pages in let w = within in omega (arith, n, w)) ∙ ap (λ (l : List Offer). (get_or l place d).page) (sym o.each)

  -- a page that is offered is ready
  pub offered_ready : is_ready e.graph (get_or offers place d).page ≡ true
  offered_ready = subst (λ n. is_ready e.graph n ≡ true) offered_page (o.ready.due (get_or o.pages place 0) (held_there o.pages place within))

-- maps of what stands in a list
map_cut : (f : ℕ → Offer) (pages : List ℕ) (k : ℕ) → remove (map f pages) k ≡ map f (remove pages k)
map_cut f [] zero = refl
map_cut f [] (suc k) = refl
map_cut f (p ∷ pages) zero = refl
map_cut f (p ∷ pages) (suc k) = ap (λ (l : List Offer). f p ∷ l) (map_cut f pages k)

map_same : (f g : ℕ → Offer) (pages : List ℕ) → ((a : ℕ) → holds pages a ≡ true → f a ≡ g a) → map f pages ≡ map g pages
map_same f g [] same = refl
map_same f g (p ∷ pages) same = ap (λ o. o ∷ map f pages) (same p (or_left _ _ (eq-eqb p p refl))) ∙ ap (λ (l : List Offer). g p ∷ l) (map_same f g pages (λ a h. same a (or_right _ _ h)))

abbrev offer : ℕ → ℕ → ℕ → ℕ → Offer
offer page age edits waiters = record { page = page; age = age; edits = edits; waiters = waiters }

offer_is : (a : ℕ) {x x' : ℕ} {y y' : ℕ} {z z' : ℕ} → x ≡ x' → y ≡ y' → z ≡ z' → offer a x y z ≡ offer a x' y' z'
offer_is a p q r = rw (p, q, r) refl

module _ {W : Type 0} (T : Telling W) (page : ℕ) (a b : Moment W) (w : WriteDone T page a b) where
  one_wrote : AllWrote (page ∷ []) a.engine.graph b.engine.graph
  one_wrote = wrote_more page [] a.engine.graph b.engine.graph b.engine.graph w.graph (wrote_none b.engine.graph)

  alone : (x y : Bool) → (x && not (y || false)) ≡ (x && not y)
  alone x y = grind arith

  ready_left : (q : ℕ) → is_ready b.engine.graph q ≡ (is_ready a.engine.graph q && not (eqb q page))
  ready_left q = ready_same (page ∷ []) a.engine.graph b.engine.graph q one_wrote ∙ alone (is_ready a.engine.graph q) (eqb page q) ∙ ap (λ x. is_ready a.engine.graph q && not x) (flip page q)

  same_offer : (q : ℕ) → eqb q page ≡ false → offer_at a.engine q ≡ offer_at b.engine q
  same_offer q ne =
      let t = ap (tally_of q) w.tallies ∙ tally_others a.engine.tallies page q ne in
      let n : waiter_count b.engine.graph q ≡ waiter_count a.engine.graph q = w.graph.waiters q ∙ rw ne refl in
      offer_is q (ap (λ t. t.age) (sym t)) (ap (λ t. t.edits) (sym t)) (sym n)

  -- once an offered page was written, the other offers are those that there are
  pub offers_left : (offers : List Offer) (place : ℕ) (d : Offer) → AreOffers a.engine offers → place < length offers → (get_or offers place d).page ≡ page → AreOffers b.engine (remove offers place)
  offers_left offers place d o lt is = record {
    pages = remove o.pages place;
    ready = record {
      rising = rises_remove (λ x y. x < y) o.pages place o.ready.rising;
      due = λ q h. let p = both q h in ready_left q ∙ and_from _ _ (o.ready.due q p.0) (not_from_false _ p.1);
      all = λ q r. let p = and_parts (is_ready a.engine.graph q) (not (eqb q page)) (sym (ready_left q) ∙ r) in left q ∙ and_from _ _ (o.ready.all q p.0) p.1;
    };
    each = ap (λ (l : List Offer). remove l place) o.each ∙ map_cut (offer_at a.engine) o.pages place ∙ map_same (offer_at a.engine) (offer_at b.engine) (remove o.pages place) (λ q h. same_offer q (both q h).1);
  }
    where
      left : (q : ℕ) → holds (remove o.pages place) q ≡ (holds o.pages q && not (eqb q page))
      left q = holds_remove o.pages place page q o.ready.rising (within a.engine offers o place d lt) (offered_page a.engine offers o place d lt ∙ is)

      both : (q : ℕ) → holds (remove o.pages place) q ≡ true → (holds o.pages q ≡ true) × (eqb q page ≡ false)
      both q h = let p = and_parts (holds o.pages q) (not (eqb q page)) (sym (left q) ∙ h) in (p.0, not-true _ p.1)
