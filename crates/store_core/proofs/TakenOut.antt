-- A release that left the queue, as a step of the plain state: which pages are clean, counted and printed then.
use Rattle.std.proofs.Common.{◌≡◌, ◌≢◌, ◌⊎◌, inl, inr, ◌+◌, ◌-◌, ◌<◌, ◌≤◌, ℕ, Bool, true, false, not, ◌&&◌, ◌||◌, cond, arith, refl, sym, ap, ◌∙◌, subst, List, ◌++◌, None, true≢false, eqb, eq-eqb, eqb-true, ne_eqb, eq-zero-or-pos}
use Rattle.std.proofs.lemmas.Bool.{and_from, and_parts, cases_Bool, cases_eq, not_from_false, or_left}
use Rattle.std.proofs.Math.Bool.{and-false, and-true}
use Rattle.order_model.specs.World.{IsData, Layout, Release, World}
use Rattle.engine_model.specs.Entries.{Apart, cached_count, cached_print}
use Rattle.engine_model.specs.Invariant.{Moment}
use Rattle.engine_model.specs.SmallPass.{Applies, Clears, ClearsLast, ClearsUnborn, GivenUp, Leaves, NothingToClear, StaysThere, print_readied, readied}
use Rattle.engine_model.specs.SmallRuns.{in_state, with_release_out}
use Rattle.engine_model.specs.SmallSteps.{given_up, put, touched}
use Rattle.engine_model.specs.Tight.{live_pages}
use Rattle.store_core.specs.Passing.{was_freed}
use Rattle.engine_model.proofs.AppliedFrames.{applies_count, applies_print, clears_none, edge_by, gives_up_cached, ready_cached}
use Rattle.engine_model.proofs.Counting.{count_ext, count_gain}
use Rattle.engine_model.proofs.Quiet.{count_table, print_table, put_here, put_other, touched_here}

-- each page that is not dirty is cached as the device has it
abbrev pub Clean : World → Type 0
Clean w = (a : ℕ) → w.dirty a ≡ false → w.cached a ≡ w.newest a

or_none : (a b : Bool) → (a || b) ≡ false → a ≡ false
or_none a b h = grind arith

and_off : (a b : Bool) → (a && not b) ≡ false → b ≡ false → a ≡ false
and_off a b h e = grind arith

touched_clean : (page : ℕ) (w : World) → Clean w → Clean (touched page w)
touched_clean page w k a h = k a (or_none _ _ h)

put_clean : (page : ℕ) (c : List ℕ) (w : World) → w.dirty page ≡ true → Clean w → Clean (put page c w)
put_clean page c w dirty k a h = elim (cases_eq a page) [
  | inl e ↦ absurd (true≢false (sym dirty ∙ ap w.dirty (sym e) ∙ h))
  | inr ne ↦ put_other w page c a ne ∙ k a h
]

given_up_clean : (page : ℕ) (w : World) → Clean w → Clean (given_up page w)
given_up_clean page w k a h = elim (cases_Bool (eqb a page)) [
  | inl is ↦ ap (λ b. cond b (w.newest page) (w.cached a)) is ∙ ap w.newest (sym (eqb-true a page is))
  | inr off ↦ ap (λ b. cond b (w.newest page) (w.cached a)) off ∙ k a (and_off _ _ h off)
]

module _ (lay : Layout) (m n : Moment) (r : Release) (before after : List Release) where
  ready_clean : Clean m.world → Clean (readied lay r m.world)
  ready_clean k = let begun : Clean (touched (lay.count_page r.page) m.world) = touched_clean (lay.count_page r.page) m.world k in
      edge_by Clean r.stage (lay.map_page r.block) (lay.count_page r.page) (touched (lay.count_page r.page) m.world) begun begun begun

  ready_dirty : (readied lay r m.world).dirty (lay.count_page r.page) ≡ true
  ready_dirty = edge_by (λ w. w.dirty (lay.count_page r.page) ≡ true) r.stage (lay.map_page r.block) (lay.count_page r.page) (touched (lay.count_page r.page) m.world)
      (touched_here m.world (lay.count_page r.page)) (touched_here m.world (lay.count_page r.page)) (touched_here m.world (lay.count_page r.page))

  clears_clean : (count : ℕ) (c : Moment) → Clears lay r.page count (in_state (readied lay r m.world) m) c → Clean m.world → Clean c.world × (c.world.dirty (lay.count_page r.page) ≡ true)
  clears_clean count c (NothingToClear h e) k = (subst (λ z. Clean z.world) (sym e) (ready_clean k), ap (λ z. z.world.dirty (lay.count_page r.page)) e ∙ ready_dirty)
  clears_clean count c (ClearsUnborn d print z some born sets e) k = (
    subst (λ z. Clean z.world) (sym e) (put_clean (lay.print_page r.page) d (touched (lay.print_page r.page) (readied lay r m.world)) (touched_here (readied lay r m.world) (lay.print_page r.page)) (touched_clean (lay.print_page r.page) (readied lay r m.world) (ready_clean k))),
    ap (λ z. z.world.dirty (lay.count_page r.page)) e ∙ or_left _ _ ready_dirty,
  )
  clears_clean count c (ClearsLast d print z some born sets e) k = (
    subst (λ z. Clean z.world) (sym e) (put_clean (lay.print_page r.page) d (print_readied lay r.page (readied lay r m.world)) (touched_here (readied lay r m.world) (lay.print_page r.page)) (touched_clean (lay.print_page r.page) (readied lay r m.world) (ready_clean k))),
    ap (λ z. z.world.dirty (lay.count_page r.page)) e ∙ or_left _ _ ready_dirty,
  )

  pub taken_clean : Applies lay m n r before after ⊎ Leaves lay m n r before after → Clean m.world → Clean n.world
  taken_clean (inr x) k = subst (λ z. Clean z.world) (sym x.is) k
  taken_clean (inl x) k =
      let cleared = clears_clean x.count x.cleared x.clears k in
      let out : Moment = with_release_out lay r.page x.content (before ++ after) x.pool x.cleared in
      let clean : Clean out.world = put_clean (lay.count_page r.page) x.content x.cleared.world cleared.1 cleared.0 in
      elim x.gives_up [
        | StaysThere e ↦ subst (λ z. Clean z.world) (sym e) clean
        | GivenUp z none e ↦ subst (λ z. Clean z.world) (sym e) (given_up_clean (lay.data_page r.page) out.world clean)
      ]

  -- counts and prints
  module _ (apart : Apart lay) (is : IsData lay r.page) where
    module _ (x : Applies lay m n r before after) where
      abbrev out : Moment
      out = with_release_out lay r.page x.content (before ++ after) x.pool x.cleared

      count_here : cached_count lay n.world r.page ≡ x.count
      count_here = ap (λ c. lay.count_in c r.page) (gives_up_cached lay r.page x.count out n x.gives_up (lay.count_page r.page) (apart.table_data (lay.count_page r.page) r.page (count_table lay r.page is) is)
          ∙ put_here x.cleared.world (lay.count_page r.page) x.content) ∙ x.sets.here

      print_out : cached_print lay n.world r.page ≡ cached_print lay x.cleared.world r.page
      print_out = ap (λ c. lay.print_in c r.page) (gives_up_cached lay r.page x.count out n x.gives_up (lay.print_page r.page) (apart.table_data (lay.print_page r.page) r.page (print_table lay r.page is) is)
          ∙ put_other x.cleared.world (lay.count_page r.page) x.content (lay.print_page r.page) (λ e. apart.count_print r.page r.page is is (sym e)))

      print_gone : x.count ≡ 0 → cached_print lay n.world r.page ≡ None
      print_gone z = print_out ∙ clears_none lay r.page x.count _ x.cleared x.clears z

      print_kept : (c : Moment) → Clears lay r.page x.count (in_state (readied lay r m.world) m) c → 0 < x.count → cached_print lay c.world r.page ≡ cached_print lay m.world r.page
      print_kept c (NothingToClear h e) pos = ap (λ z. cached_print lay z.world r.page) e ∙ ap (λ y. lay.print_in y r.page) (ready_cached lay r m.world (lay.print_page r.page))
      print_kept c (ClearsUnborn d print z some born sets e) pos = absurd (omega (arith, z, pos))
      print_kept c (ClearsLast d print z some born sets e) pos = absurd (omega (arith, z, pos))

    -- the count of its page is lowered by one, or was 0
    pub taken_count : Applies lay m n r before after ⊎ Leaves lay m n r before after
        → (cached_count lay n.world r.page + 1 ≡ cached_count lay m.world r.page) ⊎ ((cached_count lay m.world r.page ≡ 0) × (cached_count lay n.world r.page ≡ 0))
    taken_count (inl x) = inl (let here = count_here x in let was = x.counted in omega (arith, here, was))
    taken_count (inr x) = inr (x.no_count, ap (λ z. cached_count lay z.world r.page) x.is ∙ x.no_count)

    pub taken_other : Applies lay m n r before after ⊎ Leaves lay m n r before after → (q : ℕ) → IsData lay q → q ≢ r.page → cached_count lay n.world q ≡ cached_count lay m.world q
    taken_other (inl x) q d ne = applies_count lay apart m n r before after is x q d ne
    taken_other (inr x) q d ne = ap (λ z. cached_count lay z.world q) x.is

    pub taken_lower : Applies lay m n r before after ⊎ Leaves lay m n r before after → (q : ℕ) → IsData lay q → cached_count lay n.world q ≤ cached_count lay m.world q
    taken_lower x q d = elim (cases_eq q r.page) [
      | inr ne ↦ let same = taken_other x q d ne in omega (arith, same)
      | inl e ↦ subst (λ y. cached_count lay n.world y ≤ cached_count lay m.world y) (sym e) (elim (taken_count x) [
        | inl less ↦ omega (arith, less)
        | inr zero ↦ omega (arith, zero.1)
      ])
    ]

    freed_same : (q : ℕ) → cached_count lay n.world q ≡ cached_count lay m.world q → was_freed lay m.world n.world q ≡ false
    freed_same q e = ap (λ k. not (eqb (cached_count lay m.world q) 0) && eqb k 0) e ∙ none (eqb (cached_count lay m.world q) 0)
      where
        none : (b : Bool) → (not b && b) ≡ false
        none true = refl
        none false = refl

    freed_on : (q : ℕ) → 0 < cached_count lay m.world q → cached_count lay n.world q ≡ 0 → was_freed lay m.world n.world q ≡ true
    freed_on q pos zero = and_from _ _ (not_from_false _ (ne_eqb (cached_count lay m.world q) 0 (λ e. omega (arith, e, pos)))) (eq-eqb (cached_count lay n.world q) 0 zero)

    freed_off : (q : ℕ) → 0 < cached_count lay n.world q → was_freed lay m.world n.world q ≡ false
    freed_off q pos = ap (λ b. not (eqb (cached_count lay m.world q) 0) && b) (ne_eqb (cached_count lay n.world q) 0 (λ e. omega (arith, e, pos))) ∙ and-false (not (eqb (cached_count lay m.world q) 0))

    -- the print goes with the last count alone
    pub taken_print : Applies lay m n r before after ⊎ Leaves lay m n r before after → (q : ℕ) → IsData lay q
        → cached_print lay n.world q ≡ cond (was_freed lay m.world n.world q) None (cached_print lay m.world q)
    taken_print (inr x) q d = ap (λ z. cached_print lay z.world q) x.is ∙ sym (ap (λ b. cond b None (cached_print lay m.world q)) (freed_same q (ap (λ z. cached_count lay z.world q) x.is)))
    taken_print (inl x) q d = elim (cases_eq q r.page) [
      | inr ne ↦ applies_print lay apart m n r before after is x q d ne ∙ sym (ap (λ b. cond b None (cached_print lay m.world q)) (freed_same q (taken_other (inl x) q d ne)))
      | inl e ↦ subst (λ y. cached_print lay n.world y ≡ cond (was_freed lay m.world n.world y) None (cached_print lay m.world y)) (sym e) (elim (eq-zero-or-pos x.count) [
        | inl z ↦ print_gone x z ∙ sym (ap (λ b. cond b None (cached_print lay m.world r.page)) (freed_on r.page (let was = x.counted in omega (arith, was)) (count_here x ∙ z)))
        | inr pos ↦ print_out x ∙ print_kept x x.cleared x.clears pos ∙ sym (ap (λ b. cond b None (cached_print lay m.world r.page)) (freed_off r.page (let here = count_here x in omega (arith, here, pos))))
      ])
    ]

    -- of the pages that are counted one is less where it went
    still_live : (q : ℕ) → cached_count lay n.world q ≤ cached_count lay m.world q → was_freed lay m.world n.world q ≡ false → not (eqb (cached_count lay m.world q) 0) ≡ not (eqb (cached_count lay n.world q) 0)
    still_live q less off = elim (eq-zero-or-pos (cached_count lay n.world q)) [
      | inl z ↦ sym (and-true (not (eqb (cached_count lay m.world q) 0))) ∙ ap (λ b. not (eqb (cached_count lay m.world q) 0) && b) (sym (eq-eqb (cached_count lay n.world q) 0 z)) ∙ off ∙ sym (ap not (eq-eqb (cached_count lay n.world q) 0 z))
      | inr pos ↦ ap not (ne_eqb (cached_count lay m.world q) 0 (λ e. omega (arith, e, less, pos))) ∙ sym (ap not (ne_eqb (cached_count lay n.world q) 0 (λ e. omega (arith, e, pos))))
    ]

    pub taken_live : Applies lay m n r before after ⊎ Leaves lay m n r before after → live_pages lay m.world ≡ live_pages lay n.world + cond (was_freed lay m.world n.world r.page) 1 0
    taken_live x = elim (cases_Bool (was_freed lay m.world n.world r.page)) [
      | inr off ↦ count_ext lay.pages (λ i. not (eqb (cached_count lay m.world (i + 1)) 0)) (λ i. not (eqb (cached_count lay n.world (i + 1)) 0)) (λ i lt.
          still_live (i + 1) (taken_lower x (i + 1) (omega arith, omega (arith, lt))) (elim (cases_eq (i + 1) r.page) [
            | inl e ↦ ap (was_freed lay m.world n.world) e ∙ off
            | inr ne ↦ freed_same (i + 1) (taken_other x (i + 1) (omega arith, omega (arith, lt)) ne)
          ])) ∙ plus_none (live_pages lay n.world) ∙ ap (λ b. live_pages lay n.world + cond b 1 0) (sym off)
      | inl on ↦ count_gain lay.pages (r.page - 1) (λ i. not (eqb (cached_count lay n.world (i + 1)) 0)) (λ i. not (eqb (cached_count lay m.world (i + 1)) 0)) (omega (arith, is.0, is.1))
          (ap (λ y. not (eqb (cached_count lay n.world y) 0)) here ∙ ap not (and_parts _ _ on).1)
          (ap (λ y. not (eqb (cached_count lay m.world y) 0)) here ∙ (and_parts _ _ on).0)
          (λ i lt ne. ap (λ k. not (eqb k 0)) (sym (taken_other x (i + 1) (omega arith, omega (arith, lt)) (λ e. ne (omega (arith, e))))))
          ∙ ap (λ b. live_pages lay n.world + cond b 1 0) (sym on)
    ]
      where
        plus_none : (k : ℕ) → k ≡ k + 0
        plus_none k = omega arith

        here : r.page - 1 + 1 ≡ r.page
        here = omega (arith, is.0)
