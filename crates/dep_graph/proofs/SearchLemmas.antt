-- Marks, and the pages that a search has reached.
use Rattle.std.proofs.Common.{◌≡◌, ◌⊎◌, inl, inr, ℕ, zero, suc, ◌+◌, ◌<◌, ◌≤◌, Bool, true, false, ◌||◌, cond, List, [], ◌∷◌, ◌++◌, length, take, get_or, replicate, set, refl, sym, ◌∙◌, ap, subst, arith, eqb, eqb-true, eq-eqb, ne_eqb, add-one}
use Rattle.std.specs.List.{list_any}
use Rattle.std.proofs.lemmas.Bool.{cases_Bool, cases_eq, cases_lt, cases_order, or_cases, or_left, or_right, true≢false}
use Rattle.std.proofs.lemmas.List.{get_or-set_same, get_or-set_other, get_or_append_left, get_or_push, length_push}
use Rattle.dep_graph.specs.declared.pairs.Pair.{Pair}
use Rattle.dep_graph.specs.Pages.{holds, IsAt, IsRising}
use Rattle.dep_graph.specs.Pairs.{has_pair, from_page}
use Rattle.order_model.specs.Paths.{LivePath, leg, via, Closes}
use Rattle.dep_graph.specs.Trails.{marked_count, seen, AreWithin, IsClosed, IsMarked}
use Rattle.dep_graph.proofs.RisingLemmas.{any_at, any_where, rises_at}
use Rattle.dep_graph.proofs.PathLemmas.{way_join}

-- how many are marked
pub marked_le : (marks : List Bool) → marked_count marks ≤ length marks
unfolding marked_count
marked_le [] = omega arith
marked_le (true ∷ marks) = let rest = marked_le marks in omega arith
marked_le (false ∷ marks) = let rest = marked_le marks in omega arith

pub marked_lt : (marks : List Bool) (k : ℕ) → k < length marks → get_or marks k false ≡ false → marked_count marks < length marks
unfolding marked_count
marked_lt [] k lt off = absurd (omega arith)
marked_lt (true ∷ marks) zero lt off = absurd (cc)
marked_lt (false ∷ marks) zero lt off = let rest = marked_le marks in omega arith
marked_lt (true ∷ marks) (suc k) lt off = let rest = marked_lt marks k (omega arith) off in omega arith
marked_lt (false ∷ marks) (suc k) lt off = let rest = marked_lt marks k (omega arith) off in omega arith

marked_set : (marks : List Bool) (k : ℕ) → k < length marks → get_or marks k false ≡ false → marked_count (set marks k true) ≡ suc (marked_count marks)
unfolding marked_count
marked_set [] k lt off = absurd (omega arith)
marked_set (true ∷ marks) zero lt off = absurd (cc)
marked_set (false ∷ marks) zero lt off = refl
marked_set (true ∷ marks) (suc k) lt off = ap (λ n. suc n) (marked_set marks k (omega arith) off)
marked_set (false ∷ marks) (suc k) lt off = marked_set marks k (omega arith) off

none_marked : (marks : List Bool) → ((k : ℕ) → get_or marks k false ≡ false) → marked_count marks ≡ 0
unfolding marked_count
none_marked [] h = refl
none_marked (true ∷ marks) h = absurd (let bad = h zero in cc)
none_marked (false ∷ marks) h = none_marked marks (λ k. h (suc k))

pub marked_within : (marks : List Bool) (k : ℕ) → get_or marks k false ≡ true → k < length marks
marked_within [] k h = absurd (cc)
marked_within (m ∷ marks) zero h = omega arith
marked_within (m ∷ marks) (suc k) h = let rest = marked_within marks k h in omega arith

any_push : {X : Type 0} (q : X → Bool) (xs : List X) (x : X) → list_any q (xs ++ x ∷ []) ≡ list_any q xs || q x
any_push q [] x = last (q x)
  where
    last : (x : Bool) → (x || false) ≡ (false || x)
    last x = grind arith
any_push q (y ∷ ys) x = rw (any_push q ys x) (join (q y) (list_any q ys) (q x))
  where
    join : (x y z : Bool) → (x || (y || z)) ≡ ((x || y) || z)
    join x y z = grind arith

pub any_more : {X : Type 0} (q : X → Bool) (xs : List X) (i : ℕ) (d : X) → i < length xs → list_any q (take (i + 1) xs) ≡ list_any q (take i xs) || q (get_or xs i d)
any_more q [] i d lt = absurd (omega arith)
any_more q (x ∷ xs) zero d lt = last (q x)
  where
    last : (x : Bool) → (x || false) ≡ (false || x)
    last x = grind arith
any_more q (x ∷ xs) (suc i) d lt = rw add-one (ap (λ b. q x || b) (rw add-one at (any_more q xs i d (omega arith))) ∙ join (q x) (list_any q (take i xs)) (q (get_or xs i d)))
  where
    join : (x y z : Bool) → (x || (y || z)) ≡ ((x || y) || z)
    join x y z = grind arith

-- a place that stands in the queue
pub in_queue : (queue : List ℕ) (k : ℕ) → k < length queue → holds queue (get_or queue k 0) ≡ true
in_queue queue k lt = any_at (λ p. eqb p (get_or queue k 0)) queue k 0 lt (eq-eqb _ _ refl)

pub queued_within : (marks : List Bool) (queue : List ℕ) → IsMarked marks queue → (k : ℕ) → k < length queue → get_or queue k 0 < length marks
queued_within marks queue m k lt = marked_within marks (get_or queue k 0) (m.mark (get_or queue k 0) ∙ in_queue queue k lt)

pub marked_more : (marks : List Bool) (queue : List ℕ) (k : ℕ) → IsMarked marks queue → k < length marks → get_or marks k false ≡ false → IsMarked (set marks k true) (queue ++ k ∷ [])
marked_more marks queue k m lt off = record {
  mark = λ j. elim (cases_eq j k) [
    | inl e ↦ rw (e, any_push (λ p. eqb p k) queue k, eq-eqb k k refl) (get_or-set_same marks k true false lt ∙ always (holds queue k))
    | inr ne ↦ rw (any_push (λ p. eqb p j) queue k, ne_eqb k j (λ e. ne (sym e))) (get_or-set_other marks k j true false ne ∙ m.mark j ∙ nothing (holds queue j))
  ];
  once = let more = marked_set marks k lt off in let len = length_push queue k in let was = m.once in omega arith;
}
  where
    always : (x : Bool) → true ≡ (x || true)
    always x = grind arith

    nothing : (x : Bool) → x ≡ (x || false)
    nothing x = grind arith

pub nothing_marked : (marks : List Bool) (queue : List ℕ) → queue ≡ [] → ((k : ℕ) → get_or marks k false ≡ false) → IsMarked marks queue
nothing_marked marks queue none h = rw none (record { mark = h; once = none_marked marks h })

-- a page at a place that was reached
pub seen_at : (pages reached : List ℕ) (k : ℕ) → k < length reached → seen pages reached (get_or pages (get_or reached k 0) 0) ≡ true
seen_at pages [] k lt = absurd (omega arith)
seen_at pages (r ∷ rs) zero lt = rw (eq-eqb (get_or pages r 0) (get_or pages r 0) refl)
seen_at pages (r ∷ rs) (suc k) lt = or_right _ _ (seen_at pages rs k (omega arith))

pub place_of_seen : (pages reached : List ℕ) (x : ℕ) → seen pages reached x ≡ true → (k : ℕ) × (k < length reached) × (get_or pages (get_or reached k 0) 0 ≡ x)
place_of_seen pages [] x h = absurd (cc)
place_of_seen pages (r ∷ rs) x h = elim (or_cases _ _ h) [
  | inl here ↦ (zero, omega arith, eqb-true _ _ here)
  | inr later ↦ let q = place_of_seen pages rs x later in (suc q.0, omega (arith, q.1), q.2)
]

-- and is one of the pages
pub seen_held : (pages reached : List ℕ) (x : ℕ) → AreWithin reached (length pages) → seen pages reached x ≡ true → holds pages x ≡ true
seen_held pages reached x within h = let q = place_of_seen pages reached x h in any_at (λ p. eqb p x) pages (get_or reached q.0 0) 0 (within q.0 q.1) (eq-eqb _ _ q.2)

-- the pages at one place more
pub seen_more : (pages reached : List ℕ) (i x : ℕ) → i < length reached → seen pages (take (i + 1) reached) x ≡ seen pages (take i reached) x || eqb (get_or pages (get_or reached i 0) 0) x
seen_more pages [] i x lt = absurd (omega arith)
seen_more pages (r ∷ rs) zero x lt = last (eqb (get_or pages r 0) x)
  where
    last : (x : Bool) → (x || false) ≡ (false || x)
    last x = grind arith
seen_more pages (r ∷ rs) (suc i) x lt = rw add-one (ap (λ b. eqb (get_or pages r 0) x || b) (rw add-one at (seen_more pages rs i x (omega arith))) ∙ join (eqb (get_or pages r 0) x) (seen pages (take i rs) x) (eqb (get_or pages (get_or rs i 0) 0) x))
  where
    join : (x y z : Bool) → (x || (y || z)) ≡ ((x || y) || z)
    join x y z = grind arith

-- those of a part are those of the whole
pub seen_within : (pages reached : List ℕ) (i x : ℕ) → seen pages (take i reached) x ≡ true → seen pages reached x ≡ true
seen_within pages reached zero x h = absurd (cc)
seen_within pages [] (suc i) x h = absurd (cc)
seen_within pages (r ∷ rs) (suc i) x h = elim (or_cases (eqb (get_or pages r 0) x) (seen pages (take i rs) x) h) [
  | inl here ↦ or_left (eqb (get_or pages r 0) x) (seen pages rs x) here
  | inr later ↦ or_right (eqb (get_or pages r 0) x) (seen pages rs x) (seen_within pages rs i x later)
]

seen_push : (pages reached : List ℕ) (place x : ℕ) → seen pages (reached ++ place ∷ []) x ≡ seen pages reached x || eqb (get_or pages place 0) x
seen_push pages [] place x = last (eqb (get_or pages place 0) x)
  where
    last : (x : Bool) → (x || false) ≡ (false || x)
    last x = grind arith
seen_push pages (r ∷ rs) place x = rw (seen_push pages rs place x) (join (eqb (get_or pages r 0) x) (seen pages rs x) (eqb (get_or pages place 0) x))
  where
    join : (x y z : Bool) → (x || (y || z)) ≡ ((x || y) || z)
    join x y z = grind arith

-- a page is reached exactly where its place is
pub is_seen : (pages reached : List ℕ) (place page : ℕ) → IsRising pages → IsAt pages page place → AreWithin reached (length pages) → holds reached place ≡ seen pages reached page
is_seen pages reached place page up at within = elim (cases_Bool (holds reached place)) [
  | inl on ↦
      let w = any_where (λ p. eqb p place) reached 0 on in
      on ∙ sym (subst (λ n. seen pages reached n ≡ true) (ap (λ n. get_or pages n 0) (eqb-true _ _ w.2) ∙ at.is) (seen_at pages reached w.0 w.1))
  | inr off ↦ elim (cases_Bool (seen pages reached page)) [
    | inr none ↦ off ∙ sym none
    | inl saw ↦ absurd (
        let q = place_of_seen pages reached page saw in
        let r : ℕ = get_or reached q.0 0 in
        let there : holds reached r ≡ true = in_queue reached q.0 q.1 in
        let r_lt : r < length pages = within q.0 q.1 in
        elim (cases_order r place) [
          | inl same ↦ let bad : holds reached place ≡ true = subst (λ n. holds reached n ≡ true) same there in true≢false (sym bad ∙ off)
          | inr (inl lt) ↦ let up' = rises_at (λ a b. a < b) pages 0 up r place lt at.within in let e = q.2 in let f = at.is in omega arith
          | inr (inr gt) ↦ let up' = rises_at (λ a b. a < b) pages 0 up place r gt r_lt in let e = q.2 in let f = at.is in omega arith
        ])
  ]
]

-- what a visit adds
module _ (pages reached later : List ℕ) (place page : ℕ) (at : get_or pages place 0 ≡ page) (is : later ≡ cond (holds reached place) reached (reached ++ place ∷ [])) where
  pub seen_visit : (x : ℕ) → seen pages later x ≡ seen pages reached x || eqb page x
  seen_visit x = elim (cases_Bool (holds reached place)) [
    | inl on ↦ rw (rw on at is) (elim (cases_eq page x) [
      | inr ne ↦ rw (ne_eqb page x ne) (nothing (seen pages reached x))
      | inl e ↦
          let w = any_where (λ p. eqb p place) reached 0 on in
          let saw : seen pages reached x ≡ true = subst (λ n. seen pages reached n ≡ true) (ap (λ n. get_or pages n 0) (eqb-true _ _ w.2) ∙ at ∙ e) (seen_at pages reached w.0 w.1) in
          rw saw
    ])
    | inr off ↦ rw (rw off at is, seen_push pages reached place x, at)
  ]
    where
      nothing : (x : Bool) → x ≡ (x || false)
      nothing x = grind arith

  pub visit_within : (n : ℕ) → place < n → AreWithin reached n → AreWithin later n
  visit_within n lt within = elim (cases_Bool (holds reached place)) [
    | inl on ↦ rw (rw on at is) within
    | inr off ↦ rw (rw off at is) (λ k k_lt. elim (cases_lt k (length reached)) [
      | inl old ↦ rw (get_or_append_left reached (place ∷ []) 0 k old) (within k old)
      | inr new ↦ let len = length_push reached place in rw (get_or_push reached place 0 k (omega arith)) lt
    ])
  ]

  pub visit_front : (k : ℕ) → k < length reached → get_or later k 0 ≡ get_or reached k 0
  visit_front k lt = elim (cases_Bool (holds reached place)) [
    | inl on ↦ rw (rw on at is)
    | inr off ↦ rw (rw off at is) (get_or_append_left reached (place ∷ []) 0 k lt)
  ]

  pub visit_grows : length reached ≤ length later
  visit_grows = elim (cases_Bool (holds reached place)) [
    | inl on ↦ rw (rw on at is) (omega arith)
    | inr off ↦ rw (rw off at is) (let len = length_push reached place in omega arith)
  ]

-- what each edge from a page that was reached leads to was reached, so all was to which a way leads
pub way_seen : (live : List Pair) (pages reached : List ℕ) → IsClosed live pages reached → {a b : ℕ} → LivePath (has_pair live) a b → seen pages reached a ≡ true → seen pages reached b ≡ true
way_seen live pages reached closed {a} {b} (leg e) h = closed a b h e
way_seen live pages reached closed (via {a} {b} e p) h = way_seen live pages reached closed p (closed a b h e)

pub closes_seen : (live : List Pair) (pages reached : List ℕ) (x from : ℕ) → IsClosed live pages reached → seen pages reached from ≡ true → Closes (has_pair live) x from → seen pages reached x ≡ true
closes_seen live pages reached x from closed h (inl same) = subst (λ n. seen pages reached n ≡ true) (sym same) h
closes_seen live pages reached x from closed h (inr way) = way_seen live pages reached closed way h

-- an edge from a page, among those that begin there
pub after_from : (live : List Pair) (page x : ℕ) → list_any (λ p. eqb p.after x) (from_page live page) ≡ has_pair live page x
after_from [] page x = refl
after_from (p ∷ ps) page x = elim (cases_Bool (eqb p.before page)) [
  | inl is ↦ rw (is, after_from ps page x)
  | inr off ↦ rw (off, after_from ps page x)
]

pub way_on : {live : ℕ → ℕ → Bool} (from a b : ℕ) → Closes live a from → live a b ≡ true → Closes live b from
way_on {live} from a b (inl same) e = inr (leg (subst (λ n. live n b ≡ true) same e))
way_on from a b (inr way) e = inr (way_join way (leg e))

-- one page more whose edges were followed
module _ (live : List Pair) (pages start reached later : List ℕ) (from head page : ℕ) (out : List Pair) (is : out ≡ from_page live page) (here : page ≡ get_or pages (get_or reached head 0) 0)
    (within : head < length reached) (adds : (x : ℕ) → seen pages later x ≡ seen pages reached x || list_any (λ p. eqb p.after x) out) where
  from_here : (x : ℕ) → list_any (λ p. eqb p.after x) out ≡ has_pair live page x
  from_here x = ap (λ (l : List Pair). list_any (λ p. eqb p.after x) l) is ∙ after_from live page x

  here_seen : seen pages reached page ≡ true
  here_seen = subst (λ n. seen pages reached n ≡ true) (sym here) (seen_at pages reached head within)

  pub followed_kept : (x : ℕ) → seen pages reached x ≡ true → seen pages later x ≡ true
  followed_kept x h = adds x ∙ or_left _ _ h

  pub followed_sound : IsClosed live pages start → ((x : ℕ) → seen pages reached x ≡ true → (seen pages start x ≡ true) ⊎ Closes (has_pair live) x from)
      → (x : ℕ) → seen pages later x ≡ true → (seen pages start x ≡ true) ⊎ Closes (has_pair live) x from
  followed_sound closed sound x h = elim (or_cases _ _ (sym (adds x) ∙ h)) [
    | inl old ↦ sound x old
    | inr new ↦
        let edge : has_pair live page x ≡ true = sym (from_here x) ∙ new in
        elim (sound page here_seen) [
          | inl before ↦ inl (closed page x before edge)
          | inr way ↦ inr (way_on from page x way edge)
        ]
  ]

  pub followed_done : ((k : ℕ) → k < length reached → get_or later k 0 ≡ get_or reached k 0)
      → ((k y : ℕ) → k < head → has_pair live (get_or pages (get_or reached k 0) 0) y ≡ true → seen pages reached y ≡ true)
      → (k y : ℕ) → k < head + 1 → has_pair live (get_or pages (get_or later k 0) 0) y ≡ true → seen pages later y ≡ true
  followed_done front done k y lt edge =
      let was : has_pair live (get_or pages (get_or reached k 0) 0) y ≡ true = subst (λ n. has_pair live (get_or pages n 0) y ≡ true) (front k (omega arith)) edge in
      elim (cases_lt k head) [
        | inl below ↦ followed_kept y (done k y below was)
        | inr at ↦
            let same : k ≡ head = omega arith in
            let now : has_pair live page y ≡ true = subst (λ n. has_pair live n y ≡ true) (ap (λ n. get_or pages (get_or reached n 0) 0) same ∙ sym here) was in
            adds y ∙ or_right _ _ (from_here y ∙ now)
      ]

-- where each page that was reached has its edges followed, what was reached is closed
pub closed_at_end : (live : List Pair) (pages reached : List ℕ) (head : ℕ) → length reached ≤ head
    → ((k y : ℕ) → k < head → has_pair live (get_or pages (get_or reached k 0) 0) y ≡ true → seen pages reached y ≡ true) → IsClosed live pages reached
closed_at_end live pages reached head all done a b h edge =
    let q = place_of_seen pages reached a h in
    done q.0 b (omega (arith, q.1)) (subst (λ n. has_pair live n b ≡ true) (sym q.2) edge)

none_take : (n : ℕ) (xs : List Bool) → ((k : ℕ) → get_or xs k false ≡ false) → (k : ℕ) → get_or (take n xs) k false ≡ false
none_take zero xs h k = refl
none_take (suc n) [] h k = refl
none_take (suc n) (x ∷ xs) h zero = h zero
none_take (suc n) (x ∷ xs) h (suc k) = none_take n xs (λ j. h (suc j)) k

none_append : (xs ys : List Bool) → ((k : ℕ) → get_or xs k false ≡ false) → ((k : ℕ) → get_or ys k false ≡ false) → (k : ℕ) → get_or (xs ++ ys) k false ≡ false
none_append [] ys h g k = g k
none_append (x ∷ xs) ys h g zero = h zero
none_append (x ∷ xs) ys h g (suc k) = none_append xs ys (λ j. h (suc j)) g k

none_replicate : (n k : ℕ) → get_or (replicate n false) k false ≡ false
none_replicate zero k = refl
none_replicate (suc n) zero = refl
none_replicate (suc n) (suc k) = none_replicate n k

-- marks to which unmarked ones were added
pub none_resized : (marks : List Bool) (queue : List ℕ) (n m : ℕ) → IsMarked marks queue → queue ≡ [] → (k : ℕ) → get_or (take n marks ++ replicate m false) k false ≡ false
none_resized marks queue n m is none = none_append (take n marks) (replicate m false) (none_take n marks (λ k. is.mark k ∙ ap (λ (q : List ℕ). holds q k) none)) (none_replicate m)
