-- What the small steps of an applied release leave as it is.
use Rattle.std.proofs.Common.{◌≡◌, ◌≢◌, inl, inr, ℕ, true, not, ◌||◌, ◌&&◌, cond, refl, sym, ap, ◌∙◌, subst, arith, None, List, ◌∷◌, ◌++◌, eqb, ne_eqb, eqb-true}
use Rattle.std.proofs.lemmas.Bool.{cases_eq, cases_Bool, or_left}
use Rattle.order_model.specs.World.{Layout, Release, World, IsData}
use Rattle.engine_model.specs.Entries.{Apart, IsTable, cached_count, cached_print}
use Rattle.order_model.specs.Calls.{Call, Change, is_changed, is_met, is_unborn, since}
use Rattle.order_model.specs.declared.Slot.TheVariants.{Print}
use Rattle.engine_model.specs.Invariant.{Moment, known_at}
use Rattle.order_model.specs.Paths.{LivePath}
use Rattle.engine_model.specs.SmallRuns.{with_release_out}
use Rattle.engine_model.specs.SmallSteps.{ordered, ordered_by_barrier, touched}
use Rattle.engine_model.proofs.Quiet.{count_table, print_table, put_here, put_other}
use Rattle.engine_model.proofs.Graphs.{way_longer}
use Rattle.engine_model.specs.SmallPass.{Applies, Clears, NothingToClear, ClearsLast, ClearsUnborn, GivesUp, GivenUp, StaysThere, map_edge, print_readied, readied}
use Rattle.engine_model.proofs.Ways.{way_avoids}

-- whatever the stage
pub edge_by : (P : World → Type 0) (stage before after : ℕ) (w : World) → P (ordered before after w) → P (ordered_by_barrier before after w) → P w → P (map_edge stage before after w)
edge_by P stage before after w x y z = elim (cases_Bool (eqb stage 0)) [
  | inl e ↦ subst (λ b. P (cond b (ordered before after w) (cond (eqb stage 1) (ordered_by_barrier before after w) w))) (sym e) x
  | inr e ↦ subst (λ b. P (cond b (ordered before after w) (cond (eqb stage 1) (ordered_by_barrier before after w) w))) (sym e) (elim (cases_Bool (eqb stage 1)) [
    | inl o ↦ subst (λ b. P (cond b (ordered_by_barrier before after w) w)) (sym o) y
    | inr o ↦ subst (λ b. P (cond b (ordered_by_barrier before after w) w)) (sym o) z
  ])
]

-- by the stage
pub edge_cases : (P : World → Type 0) (stage before after : ℕ) (w : World) → (stage ≡ 0 → P (ordered before after w)) → (stage ≡ 1 → P (ordered_by_barrier before after w)) → P w
    → P (map_edge stage before after w)
edge_cases P stage before after w x y z = elim (cases_Bool (eqb stage 0)) [
  | inl e ↦ subst (λ b. P (cond b (ordered before after w) (cond (eqb stage 1) (ordered_by_barrier before after w) w))) (sym e) (x (eqb-true stage 0 e))
  | inr e ↦ subst (λ b. P (cond b (ordered before after w) (cond (eqb stage 1) (ordered_by_barrier before after w) w))) (sym e) (elim (cases_Bool (eqb stage 1)) [
    | inl o ↦ subst (λ b. P (cond b (ordered_by_barrier before after w) w)) (sym o) (y (eqb-true stage 1 o))
    | inr o ↦ subst (λ b. P (cond b (ordered_by_barrier before after w) w)) (sym o) z
  ])
]

pub ready_live : (lay : Layout) (r : Release) (w : World) (a b : ℕ) → w.live a b ≡ true → (readied lay r w).live a b ≡ true
ready_live lay r w a b h = edge_by (λ v. v.live a b ≡ true) r.stage (lay.map_page r.block) (lay.count_page r.page) (touched (lay.count_page r.page) w) (or_left _ _ h) h h

pub ready_cached : (lay : Layout) (r : Release) (w : World) (a : ℕ) → (readied lay r w).cached a ≡ w.cached a
ready_cached lay r w a = edge_by (λ v. v.cached a ≡ w.cached a) r.stage (lay.map_page r.block) (lay.count_page r.page) (touched (lay.count_page r.page) w) refl refl refl

-- a change of one print leaves what the calls say of another
pub other_slot : (p q page at from to : ℕ) (calls : List Call) → p ≢ q → is_unborn (Print q) page 1 (Change (Print p) at from to ∷ calls) ≡ is_unborn (Print q) page 1 calls
other_slot p q page at from to calls ne = ap (λ b. (b || is_changed (Print q) (since page calls))
    && not ((b && (not (is_changed (Print q) (since page calls)) && eqb from 1)) || is_met (Print q) page 1 (since page calls))) (ne_eqb p q ne)

module _ (lay : Layout) (p count : ℕ) (m n : Moment) where
  pub clears_live : Clears lay p count m n → (a b : ℕ) → m.world.live a b ≡ true → n.world.live a b ≡ true
  clears_live (NothingToClear h e) a b l = ap (λ z. z.world.live a b) e ∙ l
  clears_live (ClearsUnborn c print z h u s e) a b l = ap (λ z. z.world.live a b) e ∙ l
  clears_live (ClearsLast c print z h u s e) a b l = ap (λ z. z.world.live a b) e ∙ or_left _ _ l

  pub clears_cached : Clears lay p count m n → (a : ℕ) → a ≢ lay.print_page p → n.world.cached a ≡ m.world.cached a
  clears_cached (NothingToClear h e) a ne = ap (λ z. z.world.cached a) e
  clears_cached (ClearsUnborn c print z h u s e) a ne = ap (λ z. z.world.cached a) e ∙ put_other (touched (lay.print_page p) m.world) (lay.print_page p) c a ne
  clears_cached (ClearsLast c print z h u s e) a ne = ap (λ z. z.world.cached a) e ∙ put_other (print_readied lay p m.world) (lay.print_page p) c a ne

  pub clears_print : Clears lay p count m n → (q : ℕ) → IsData lay q → q ≢ p → cached_print lay n.world q ≡ cached_print lay m.world q
  clears_print (NothingToClear h e) q d ne = ap (λ z. cached_print lay z.world q) e
  clears_print (ClearsUnborn c print z h u s e) q d ne = elim (cases_eq (lay.print_page q) (lay.print_page p)) [
    | inl same ↦ ap (λ z. cached_print lay z.world q) e
        ∙ ap (λ y. lay.print_in y q) (put_at c (touched (lay.print_page p) m.world) (lay.print_page q) same) ∙ s.other q d ne same ∙ ap (λ y. lay.print_in (m.world.cached y) q) (sym same)
    | inr off ↦ ap (λ y. lay.print_in y q) (clears_cached (ClearsUnborn c print z h u s e) (lay.print_page q) off)
  ]
    where
      put_at : (c : List ℕ) (w : World) (a : ℕ) → a ≡ lay.print_page p → cond (eqb a (lay.print_page p)) c (w.cached a) ≡ c
      put_at c w a e = subst (λ x. cond (eqb x (lay.print_page p)) c (w.cached x) ≡ c) (sym e) (put_here w (lay.print_page p) c)
  clears_print (ClearsLast c print z h u s e) q d ne = elim (cases_eq (lay.print_page q) (lay.print_page p)) [
    | inl same ↦ ap (λ z. cached_print lay z.world q) e
        ∙ ap (λ y. lay.print_in y q) (put_at c (print_readied lay p m.world) (lay.print_page q) same) ∙ s.other q d ne same ∙ ap (λ y. lay.print_in (m.world.cached y) q) (sym same)
    | inr off ↦ ap (λ y. lay.print_in y q) (clears_cached (ClearsLast c print z h u s e) (lay.print_page q) off)
  ]
    where
      put_at : (c : List ℕ) (w : World) (a : ℕ) → a ≡ lay.print_page p → cond (eqb a (lay.print_page p)) c (w.cached a) ≡ c
      put_at c w a e = subst (λ x. cond (eqb x (lay.print_page p)) c (w.cached x) ≡ c) (sym e) (put_here w (lay.print_page p) c)

  pub clears_unborn : Clears lay p count m n → (q : ℕ) → q ≢ p → (known_at lay n).unborn_print q ≡ (known_at lay m).unborn_print q
  clears_unborn (NothingToClear h e) q ne = ap (λ z. (known_at lay z).unborn_print q) e
  clears_unborn (ClearsUnborn c print z h u s e) q ne = ap (λ z. (known_at lay z).unborn_print q) e ∙ other_slot p q (lay.print_page q) (lay.print_page p) 1 0 m.calls (λ x. ne (sym x))
  clears_unborn (ClearsLast c print z h u s e) q ne = ap (λ z. (known_at lay z).unborn_print q) e ∙ other_slot p q (lay.print_page q) (lay.print_page p) 1 0 m.calls (λ x. ne (sym x))

  pub clears_queue : Clears lay p count m n → n.world.queue ≡ m.world.queue
  clears_queue (NothingToClear h e) = ap (λ z. z.world.queue) e
  clears_queue (ClearsUnborn c print z h u s e) = ap (λ z. z.world.queue) e
  clears_queue (ClearsLast c print z h u s e) = ap (λ z. z.world.queue) e

  pub clears_barred : Clears lay p count m n → (a b : ℕ) → n.world.barred a b ≡ m.world.barred a b
  clears_barred (NothingToClear h e) a b = ap (λ z. z.world.barred a b) e
  clears_barred (ClearsUnborn c print z h u s e) a b = ap (λ z. z.world.barred a b) e
  clears_barred (ClearsLast c print z h u s e) a b = ap (λ z. z.world.barred a b) e

  pub clears_dirty : Clears lay p count m n → (a : ℕ) → m.world.dirty a ≡ true → n.world.dirty a ≡ true
  clears_dirty (NothingToClear h e) a l = ap (λ z. z.world.dirty a) e ∙ l
  clears_dirty (ClearsUnborn c print z h u s e) a l = ap (λ z. z.world.dirty a) e ∙ or_left _ _ l
  clears_dirty (ClearsLast c print z h u s e) a l = ap (λ z. z.world.dirty a) e ∙ or_left _ _ l

  pub clears_none : Clears lay p count m n → count ≡ 0 → cached_print lay n.world p ≡ None
  clears_none (NothingToClear (inl pos) e) z = absurd (omega arith)
  clears_none (NothingToClear (inr none) e) z = ap (λ y. cached_print lay y.world p) e ∙ none
  clears_none (ClearsUnborn c print zero h u s e) z = ap (λ y. cached_print lay y.world p) e ∙ ap (λ y. lay.print_in y p) (put_here (touched (lay.print_page p) m.world) (lay.print_page p) c) ∙ s.here
  clears_none (ClearsLast c print zero h u s e) z = ap (λ y. cached_print lay y.world p) e ∙ ap (λ y. lay.print_in y p) (put_here (print_readied lay p m.world) (lay.print_page p) c) ∙ s.here

  pub gives_up_way : GivesUp lay p count m n → (a b : ℕ) → a ≢ lay.data_page p → LivePath m.world.live a b → LivePath n.world.live a b
  gives_up_way (StaysThere e) a b ne way = subst (λ z. LivePath z.world.live a b) (sym e) way
  gives_up_way (GivenUp z none e) a b ne way = subst (λ z. LivePath z.world.live a b) (sym e) (way_avoids m.world.live (lay.data_page p) none ne way)

  pub gives_up_cached : GivesUp lay p count m n → (a : ℕ) → a ≢ lay.data_page p → n.world.cached a ≡ m.world.cached a
  gives_up_cached (StaysThere e) a ne = ap (λ z. z.world.cached a) e
  gives_up_cached (GivenUp z none e) a ne = ap (λ z. z.world.cached a) e ∙ ap (λ b. cond b (m.world.newest (lay.data_page p)) (m.world.cached a)) (ne_eqb a (lay.data_page p) ne)

  pub gives_up_calls : GivesUp lay p count m n → n.calls ≡ m.calls
  gives_up_calls (StaysThere e) = ap (λ z. z.calls) e
  gives_up_calls (GivenUp z none e) = ap (λ z. z.calls) e

  pub gives_up_queue : GivesUp lay p count m n → n.world.queue ≡ m.world.queue
  gives_up_queue (StaysThere e) = ap (λ z. z.world.queue) e
  gives_up_queue (GivenUp z none e) = ap (λ z. z.world.queue) e

-- an applied release, seen from another data page
module _ (lay : Layout) (apart : Apart lay) (m n : Moment) (r : Release) (before after : List Release) (is : IsData lay r.page) (x : Applies lay m n r before after) where
  abbrev out : Moment
  out = with_release_out lay r.page x.content (before ++ after) x.pool x.cleared

  pub applies_queue : n.world.queue ≡ before ++ after
  applies_queue = gives_up_queue lay r.page x.count out n x.gives_up

  pub applies_way : (a b : ℕ) → a ≢ lay.data_page r.page → LivePath m.world.live a b → LivePath n.world.live a b
  applies_way a b ne way = gives_up_way lay r.page x.count out n x.gives_up a b ne
      (way_longer (λ c d l. clears_live lay r.page x.count _ x.cleared x.clears c d (ready_live lay r m.world c d l)) way)

  table_out : (a : ℕ) → IsTable lay a → n.world.cached a ≡ out.world.cached a
  table_out a t = gives_up_cached lay r.page x.count out n x.gives_up a (apart.table_data a r.page t is)

  pub applies_count : (q : ℕ) → IsData lay q → q ≢ r.page → cached_count lay n.world q ≡ cached_count lay m.world q
  applies_count q d ne =
      let cleared : x.cleared.world.cached (lay.count_page q) ≡ m.world.cached (lay.count_page q) =
      clears_cached lay r.page x.count _ x.cleared x.clears (lay.count_page q) (apart.count_print q r.page d is) ∙ ready_cached lay r m.world (lay.count_page q) in
      ap (λ c. lay.count_in c q) (table_out (lay.count_page q) (count_table lay q d)) ∙ elim (cases_eq (lay.count_page q) (lay.count_page r.page)) [
        | inl e ↦ ap (λ y. lay.count_in (out.world.cached y) q) e ∙ ap (λ y. lay.count_in y q) (put_here x.cleared.world (lay.count_page r.page) x.content) ∙ x.sets.other q d ne e
            ∙ ap (λ y. lay.count_in (x.cleared.world.cached y) q) (sym e) ∙ ap (λ y. lay.count_in y q) cleared
        | inr off ↦ ap (λ y. lay.count_in y q) (put_other x.cleared.world (lay.count_page r.page) x.content (lay.count_page q) off ∙ cleared)
      ]

  pub applies_print : (q : ℕ) → IsData lay q → q ≢ r.page → cached_print lay n.world q ≡ cached_print lay m.world q
  applies_print q d ne = ap (λ c. lay.print_in c q) (table_out (lay.print_page q) (print_table lay q d)
      ∙ put_other x.cleared.world (lay.count_page r.page) x.content (lay.print_page q) (λ e. apart.count_print r.page q is d (sym e)))
      ∙ clears_print lay r.page x.count _ x.cleared x.clears q d ne ∙ ap (λ c. lay.print_in c q) (ready_cached lay r m.world (lay.print_page q))

  pub applies_unborn : (q : ℕ) → q ≢ r.page → (known_at lay n).unborn_print q ≡ (known_at lay m).unborn_print q
  applies_unborn q ne = ap (λ calls. is_unborn (Print q) (lay.print_page q) 1 calls) (gives_up_calls lay r.page x.count out n x.gives_up)
      ∙ clears_unborn lay r.page x.count _ x.cleared x.clears q ne
