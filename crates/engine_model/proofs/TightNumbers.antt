-- How many pages are counted where nothing is wasted, and when there is none for a content.
use Rattle.std.proofs.Common.{◌≡◌, ◌↔◌, inl, inr, ◌+◌, ◌-◌, ◌<◌, ◌≤◌, ℕ, zero, suc, Bool, true, false, not, ◌||◌, cond, arith, refl, sym, ap, ◌∙◌, subst, List, [], ◌∷◌, Some, length, true≢false, eqb, eq-eqb, eqb-true, ne_eqb, eq-zero-or-pos}
use Rattle.std.proofs.lemmas.Bool.{and_parts, cases_Bool, cases_eq, false_from_ne_true, not_from_false, or_left, or_right}
use Rattle.std.proofs.Math.Bool.{or-false}
use Rattle.order_model.specs.Counting.{count_below}
use Rattle.order_model.specs.Pool.{is_free}
use Rattle.order_model.specs.World.{IsData, Layout, Release, World, queued}
use Rattle.engine_model.specs.Contents.{Last}
use Rattle.engine_model.specs.Entries.{cached_count, cached_name, cached_names}
use Rattle.engine_model.specs.Invariant.{EngineInvariant, Moment}
use Rattle.engine_model.specs.Tight.{HasRoom, HeldByNone, IsSettled, IsTight, NoneFree, NoneUsable, live_pages, named_pages}
use Rattle.engine_model.proofs.Counting.{count_gain, count_mono, count_none, count_one, count_or, count_some}
use Rattle.engine_model.proofs.Lasts.{last_once}
use Rattle.engine_model.proofs.PoolExact.{free_exact}
use Rattle.engine_model.proofs.Quiet.{count_table}
use Rattle.engine_model.proofs.WriteContents.{name_counted}

-- a number above 0, as a test
above : (n : ℕ) → 0 < n → not (eqb n 0) ≡ true
above n pos = not_from_false _ (ne_eqb n 0 (λ e. omega arith))

is_above : (n : ℕ) → not (eqb n 0) ≡ true → 0 < n
is_above n h = elim (eq-zero-or-pos n) [ inr pos ↦ pos | inl e ↦ absurd (true≢false (sym h ∙ ap not (eq-eqb n 0 e))) ]

-- each release is of one page
owed_pages : (rs : List Release) (n : ℕ) → count_below (λ i. not (eqb (queued rs (i + 1)) 0)) n ≤ length rs
owed_pages [] n = let none = count_mono n (λ i. not (eqb (queued [] (i + 1)) 0)) (λ i. false) (λ i lt h. h) in let zero = none_false n in omega arith
  where
    none_false : (n : ℕ) → count_below (λ i. false) n ≡ 0
    none_false n = count_none n (λ i. false) (λ i lt. refl)
owed_pages (r ∷ rs) n =
    let more = owed_pages rs n in
    let split = count_or n (λ i. eqb i (r.page - 1)) (λ i. not (eqb (queued rs (i + 1)) 0)) in
    let one = count_one n (r.page - 1) in
    let mono = count_mono n (λ i. not (eqb (queued (r ∷ rs) (i + 1)) 0)) (λ i. eqb i (r.page - 1) || not (eqb (queued rs (i + 1)) 0)) (λ i lt h. elim (cases_eq r.page (i + 1)) [
      | inl e ↦ or_left _ _ (eq-eqb i (r.page - 1) (omega (arith, e)))
      | inr ne ↦ or_right _ _ (above (queued rs (i + 1)) (let pos = is_above (queued (r ∷ rs) (i + 1)) h in let none : cond {A = ℕ} (eqb r.page (i + 1)) 1 0 ≡ 0 = ap (λ b. cond b 1 0) (ne_eqb r.page (i + 1) ne) in omega arith))
    ]) in
    omega arith

-- no more pass than there are
no_more : (n : ℕ) (g : ℕ → Bool) → count_below g n ≤ n
unfolding count_below
no_more zero g = omega arith
no_more (suc n) g = let rest = no_more n g in elim (cases_Bool (g n)) [ inl is ↦ rw is (omega arith) | inr off ↦ rw off (omega arith) ]

queued_few : (rs : List Release) (p : ℕ) → queued rs p ≤ length rs
queued_few [] p = omega arith
queued_few (r ∷ rs) p = let rest = queued_few rs p in elim (cases_Bool (eqb r.page p)) [ inl is ↦ rw is (omega arith) | inr off ↦ rw off (omega arith) ]

-- as many counts as there are blocks and queued releases never come to the limit
pub has_room : (lay : Layout) (top : ℕ) (w : World) → lay.blocks + length w.queue < top → HasRoom lay top w
has_room lay top w less p d =
    let names = no_more lay.blocks (λ l. eqb (cached_name lay w l) p) in
    let owed = queued_few w.queue p in
    omega arith

-- where as many pass as there are, each one passes
all_pass : (n : ℕ) (f : ℕ → Bool) → count_below f n ≡ n → (i : ℕ) → i < n → f i ≡ true
all_pass n f all i lt = elim (cases_Bool (f i)) [
  | inl is ↦ is
  | inr off ↦ absurd (
      let gain = count_gain n i f (λ j. f j || eqb j i) lt off (or_right _ _ (eq-eqb i i refl)) (λ j jt ne. ap (λ b. f j || b) (ne_eqb j i ne) ∙ or-false (f j)) in
      let most = no_more n (λ j. f j || eqb j i) in
      omega arith)
]

pub all_count : (n : ℕ) (f : ℕ → Bool) → ((i : ℕ) → i < n → f i ≡ true) → count_below f n ≡ n
unfolding count_below
all_count zero f h = refl
all_count (suc n) f h = let rest = all_count n f (λ i lt. h i (omega arith)) in rw (h n (omega arith)) (omega arith)

module _ (lay : Layout) (version : ℕ) (w : World) (tight : IsTight lay version w) where
  page : (i : ℕ) → i < lay.pages → IsData lay (i + 1)
  page i lt = (omega arith, omega arith)

  pub at_least : named_pages lay w ≤ live_pages lay w
  at_least = count_mono lay.pages (λ i. not (eqb (cached_names lay w (i + 1)) 0)) (λ i. not (eqb (cached_count lay w (i + 1)) 0))
      (λ i lt h. above (cached_count lay w (i + 1)) (let pos = is_above (cached_names lay w (i + 1)) h in let owes = tight.owed (i + 1) (page i lt) in omega arith))

  pub at_most : live_pages lay w ≤ named_pages lay w + length w.queue
  at_most =
      let mono = count_mono lay.pages (λ i. not (eqb (cached_count lay w (i + 1)) 0)) (λ i. not (eqb (cached_names lay w (i + 1)) 0) || not (eqb (queued w.queue (i + 1)) 0))
      (λ i lt h. let pos = is_above (cached_count lay w (i + 1)) h in let owes = tight.owed (i + 1) (page i lt) in elim (eq-zero-or-pos (cached_names lay w (i + 1))) [
        | inr named ↦ or_left _ _ (above _ named)
        | inl none ↦ or_right _ _ (above (queued w.queue (i + 1)) (omega arith))
      ]) in
      let split = count_or lay.pages (λ i. not (eqb (cached_names lay w (i + 1)) 0)) (λ i. not (eqb (queued w.queue (i + 1)) 0)) in
      let owed = owed_pages w.queue lay.pages in
      omega arith

module _ (lay : Layout) (top version : ℕ) (m : Moment) (k : EngineInvariant lay top true m) (tight : IsTight lay version m.world) where
  -- what a block with a name holds
  holds : (l p : ℕ) → l < lay.blocks → IsData lay p → cached_name lay m.world l ≡ p → (c : List ℕ) → Last (m.array l) c → c ≡ m.world.cached (lay.data_page p)
  holds l p lt d name c last = last_once (m.array l) c (m.world.cached (lay.data_page p)) last ((k.contents.reads l lt).cached_mapped p d name)

  counted : (l p : ℕ) → l < lay.blocks → IsData lay p → cached_name lay m.world l ≡ p → 0 < cached_count lay m.world p
  counted l p lt d name = name_counted lay top m.world k.counts l p lt d name

  pub one_page : (i l p q : ℕ) → i < lay.blocks → l < lay.blocks → IsData lay p → IsData lay q → cached_name lay m.world i ≡ p → cached_name lay m.world l ≡ q
      → (c d : List ℕ) → Last (m.array i) c → Last (m.array l) d → (c ≡ d) ↔ (p ≡ q)
  one_page i l p q it lt dp dq first other c d last also = (
    (λ e. elim (cases_eq p q) [
      | inl same ↦ same
      | inr ne ↦ absurd (tight.distinct p q dp dq ne (counted i p it dp first) (counted l q lt dq other) (sym (holds i p it dp first c last) ∙ e ∙ holds l q lt dq other d also))
    ]),
    (λ e. holds i p it dp first c last ∙ ap (λ y. m.world.cached (lay.data_page y)) e ∙ sym (holds l q lt dq other d also)),
  )

  module _ (limit : lay.blocks < top) (settled : IsSettled lay m) where
    owes : (p : ℕ) → IsData lay p → cached_count lay m.world p ≡ cached_names lay m.world p
    owes p d = let owed = tight.owed p d in let none : queued m.world.queue p ≡ 0 = ap (λ rs. queued rs p) settled.queue in omega arith

    -- a page that nobody names is free
    free : (p : ℕ) → IsData lay p → cached_names lay m.world p ≡ 0 → is_free (m.pool p) ≡ true
    free p d none = free_exact lay m.world (m.pool p) p (k.pool_knows_counts p d) (settled.exact p d) (record {
      cached = owes p d ∙ none;
      on_device = λ c possible. ap (λ y. lay.count_in y p) (k.counts.marks_and_edges.settled (lay.count_page p) c (count_table lay p d) (settled.none _).0 (settled.none _).1 possible) ∙ owes p d ∙ none;
    })

    all_named : NoneFree lay m → named_pages lay m.world ≡ lay.pages
    all_named none = all_count lay.pages (λ i. not (eqb (cached_names lay m.world (i + 1)) 0)) (λ i lt.
        let d : IsData lay (i + 1) = (omega arith, omega arith) in
        elim (eq-zero-or-pos (cached_names lay m.world (i + 1))) [ inr pos ↦ above _ pos | inl z ↦ absurd (true≢false (sym (free (i + 1) d z) ∙ none (i + 1) d)) ])

    none_free : named_pages lay m.world ≡ lay.pages → NoneFree lay m
    none_free full p d =
        let named : 0 < cached_names lay m.world (p - 1 + 1) = is_above _ (all_pass lay.pages (λ i. not (eqb (cached_names lay m.world (i + 1)) 0)) full (p - 1) (omega (arith, d))) in
        let back : p - 1 + 1 ≡ p = omega (arith, d) in
        let pos = subst (λ q. 0 < cached_names lay m.world q) back named in
        false_from_ne_true _ (λ h. let zero = (k.pool_knows_counts p d).zero (and_parts _ _ h).0 in let count = owes p d in omega arith)

    held_by_none : (content : List ℕ) → NoneUsable lay top m.world content → HeldByNone lay m content
    held_by_none content none l p lt d name last =
        let here = holds l p lt d name content last in
        let print = tight.printed p d (counted l p lt d name) in
        let true_print = (k.contents.prints_true refl p d).cached print.0 print.1 in
        let full = none p d (print.1 ∙ ap Some (true_print ∙ ap lay.finger (sym here))) (sym here) in
        let count = tight.owed p d in
        let less = has_room lay top m.world (let empty = ap length settled.queue in omega arith) p d in
        omega arith

    none_usable : (content : List ℕ) → HeldByNone lay m content → NoneUsable lay top m.world content
    none_usable content none q d print same =
        let pos = k.counts.print_needs_count q (lay.finger content) d print in
        let count = owes q d in
        let named = count_some lay.blocks (λ l. eqb (cached_name lay m.world l) q) (omega arith) in
        absurd (none named.0 q named.1 d (eqb-true _ q named.2) (subst (λ y. Last (m.array named.0) y) same ((k.contents.reads named.0 named.1).cached_mapped q d (eqb-true _ q named.2))))

    pub full_is : (content : List ℕ) → (NoneFree lay m × NoneUsable lay top m.world content) ↔ ((named_pages lay m.world ≡ lay.pages) × HeldByNone lay m content)
    full_is content = ((λ h. (all_named h.0, held_by_none content h.1)), (λ h. (none_free h.0, none_usable content h.1)))
