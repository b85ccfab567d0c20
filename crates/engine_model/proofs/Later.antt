-- A crash leaves a start for the next session, and what a block reads after a flush.
use Rattle.std.proofs.Common.{◌≡◌, ◌⊎◌, inl, inr, ◌<◌, ℕ, Bool, false, cond, arith, refl, sym, ap, ◌∙◌, subst, List, [], ◌∷◌, eqb, eq-eqb, ne_eqb}
use Rattle.std.proofs.lemmas.Bool.{cases_eq}
use Rattle.engine_model.specs.DeviceSteps.{Same, AtRest}
use Rattle.order_model.specs.World.{Agree, Layout, IsData}
use Rattle.order_model.specs.Contents.{IsAmong}
use Rattle.engine_model.specs.Entries.{cached_count, Apart}
use Rattle.engine_model.specs.Contents.{Last}
use Rattle.engine_model.specs.Commands.{Gains}
use Rattle.engine_model.specs.Images.{ContentsFit, Format, CrashImage, block_in}
use Rattle.engine_model.specs.Schedule.{last_of, BarrierDone, WriteDone, WriteTaken, WriteRefused, Unchanged, ReleaseApplied, Discard, Write, WriteAgain, DiscardAgain, Fold, FoldZero, DropData, Correct, FlushDone, Run, Step, gained, gained_in}
use Rattle.order_model.specs.Pool.{Listed, after_fixed, new_pool, taken_all, written_all}
use Rattle.engine_model.specs.Invariant.{EngineInvariant, Moment}
use Rattle.engine_model.proofs.Images.{image_fits, image_reads}
use Rattle.engine_model.proofs.Lasts.{has_left, has_parts, has_right, last_has}
use Rattle.engine_model.proofs.Scans.{session_start}
use Rattle.engine_model.proofs.Schedule.{step_keeps}

-- a block of an image reads a member of its list
module _ (lay : Layout) (top : ℕ) (sound : Bool) (format : Format lay top) where
  name_is : (image : ℕ → List ℕ) (array : ℕ → List (List ℕ)) → ContentsFit lay sound image array → (l : ℕ) → l < lay.blocks
      → (lay.name_in (image (lay.map_page l)) l ≡ 0) ⊎ IsData lay (lay.name_in (image (lay.map_page l)) l)
  name_is image array fit l lt = format.names l _ lt (fit.well_formed _ (inl (l, lt, refl)))

  pub block_zero : (image : ℕ → List ℕ) (l : ℕ) → lay.name_in (image (lay.map_page l)) l ≡ 0 → block_in lay image l ≡ lay.zero_block
  block_zero image l z = ap (λ b. cond b lay.zero_block (image (lay.data_page (lay.name_in (image (lay.map_page l)) l)))) (eq-eqb _ 0 z)

  pub block_named : (image : ℕ → List ℕ) (l p : ℕ) → IsData lay p → lay.name_in (image (lay.map_page l)) l ≡ p → block_in lay image l ≡ image (lay.data_page p)
  block_named image l p d n = ap (λ b. cond b lay.zero_block (image (lay.data_page (lay.name_in (image (lay.map_page l)) l)))) (ne_eqb _ 0 (λ z. omega (arith, d, n, z)))
      ∙ ap (λ q. image (lay.data_page q)) n

  pub block_allowed : (image : ℕ → List ℕ) (array : ℕ → List (List ℕ)) → ContentsFit lay sound image array → (l : ℕ) → l < lay.blocks → IsAmong (block_in lay image l) (array l)
  block_allowed image array fit l lt = elim (name_is image array fit l lt) [
    | inl z ↦ subst (λ c. IsAmong c (array l)) (sym (block_zero image l z)) ((fit.reads l lt).unmapped z)
    | inr d ↦ subst (λ c. IsAmong c (array l)) (sym (block_named image l _ d refl)) ((fit.reads l lt).mapped _ d refl)
  ]

  only_has : (x c : List ℕ) → IsAmong x (c ∷ []) → x ≡ c
  unfolding IsAmong
  only_has x c (inl e) = e
  only_has x c (inr h) = absurd h

  -- the next session begins on what a crash left
  pub next_session : (m n : Moment) (counted tables : List ℕ) → EngineInvariant lay top sound m → AtRest n.world → CrashImage m.world n.world.newest
      → ((l : ℕ) → l < lay.blocks → n.array l ≡ block_in lay n.world.newest l ∷ []) → n.calls ≡ []
      → ((p : ℕ) → IsData lay p → (Listed p counted → 0 < cached_count lay n.world p) × (0 < cached_count lay n.world p → Listed p counted))
      → ((p : ℕ) → IsData lay p → Listed (lay.count_page p) tables) → Agree n.pool (after_fixed (written_all lay tables (taken_all counted new_pool)))
      → EngineInvariant lay top sound n × ((l : ℕ) → l < lay.blocks → IsAmong (block_in lay n.world.newest l) (m.array l))
  unfolding IsAmong
  next_session m n counted tables k rest is array calls all every pool =
      let fit = image_reads lay sound m.array m.world n.world.newest k.contents is in (
        session_start lay top sound n counted tables rest (image_fits lay top m.world n.world.newest k.counts is)
            (λ p d. format.counts p _ d (fit.well_formed _ (inr (p, d, inl refl))))
            (record {
              reads = λ l lt. record {
                unmapped = λ z. subst (λ xs. IsAmong lay.zero_block xs) (sym (array l lt)) (inl (sym (block_zero n.world.newest l z)));
                mapped = λ p d h. subst (λ xs. IsAmong (n.world.newest (lay.data_page p)) xs) (sym (array l lt)) (inl (sym (block_named n.world.newest l p d h)));
              };
              prints = fit.prints;
              well_formed = fit.well_formed;
            })
            (λ l lt c h. subst (λ xs. Last xs c) (sym (array l lt)) (only_has c _ (subst (λ xs. IsAmong c xs) (array l lt) h)))
            calls all every pool,
        λ l lt. block_allowed n.world.newest m.array fit l lt,
      )

-- what a block's list has after a step it had, or gained
gains_parts : (before after : ℕ → List (List ℕ)) (l : ℕ) (content : List ℕ) → Gains before after l content → (k : ℕ) (x : List ℕ) → IsAmong x (after k)
    → IsAmong x (before k) ⊎ IsAmong x (cond (eqb l k) (content ∷ []) [])
gains_parts before after l content g k x h = elim (cases_eq k l) [
  | inr ne ↦ inl (subst (λ xs. IsAmong x xs) (g.other k ne) h)
  | inl e ↦ elim (has_parts x (before l) (content ∷ []) (subst (λ xs. IsAmong x xs) (ap after e ∙ g.here) h)) [
    | inl was ↦ inl (subst (λ j. IsAmong x (before j)) (sym e) was)
    | inr new ↦ inr (subst (λ b. IsAmong x (cond b (content ∷ []) [])) (sym (eq-eqb l k (sym e))) new)
  ]
]

same_parts : (before after : ℕ → List (List ℕ)) (k : ℕ) (x : List ℕ) → Agree after before → IsAmong x (after k) → IsAmong x (before k)
same_parts before after k x e h = subst (λ xs. IsAmong x xs) (e k) h

module _ (lay : Layout) (top : ℕ) where
  -- a flush leaves of each list its last member
  step_parts : (m n : Moment) (s : Step lay top m n) → ((k : ℕ) → k < lay.blocks → (c : List ℕ) × Last (m.array k) c) → (k : ℕ) (x : List ℕ) → k < lay.blocks
      → IsAmong x (n.array k) → IsAmong x (m.array k) ⊎ IsAmong x (gained s k)
  unfolding IsAmong
  step_parts m n (BarrierDone b e c p) some k x lt h = inl (same_parts m.array n.array k x e h)
  step_parts m n (WriteDone page t s e c p) some k x lt h = inl (same_parts m.array n.array k x e h)
  step_parts m n (WriteTaken page t s e c p) some k x lt h = inl (same_parts m.array n.array k x e h)
  step_parts m n (WriteRefused page w e c p) some k x lt h = inl (same_parts m.array n.array k x e h)
  step_parts m n (Unchanged s e c p) some k x lt h = inl (same_parts m.array n.array k x e h)
  step_parts m n (ReleaseApplied r before after a d e b p) some k x lt h = inl (same_parts m.array n.array k x e h)
  step_parts m n (Discard l o y d g b e) some k x lt h = gains_parts m.array n.array l lay.zero_block g k x h
  step_parts m n (Write l o p content y c g b e) some k x lt h = gains_parts m.array n.array l content g k x h
  step_parts m n (WriteAgain l p i y w g c e) some k x lt h = gains_parts m.array n.array l (m.world.cached (lay.data_page p)) g k x h
  step_parts m n (Fold l o p i y c e b q) some k x lt h = inl (same_parts m.array n.array k x e h)
  step_parts m n (DiscardAgain l i w g c e) some k x lt h = gains_parts m.array n.array l lay.zero_block g k x h
  step_parts m n (FoldZero l o i y z d e b q) some k x lt h = inl (same_parts m.array n.array k x e h)
  step_parts m n (DropData p y e c q) some k x lt h = inl (same_parts m.array n.array k x e h)
  step_parts m n (Correct p y d e b q) some k x lt h = inl (same_parts m.array n.array k x e h)
  step_parts m n (FlushDone clean w alone c p) some k x lt h = let last = some k lt in
      inl (elim (subst (λ xs. IsAmong x xs) (alone k lt last.0 last.1) h) [
        | inl e ↦ subst (λ z. IsAmong z (m.array k)) (sym e) (last_has _ _ last.1)
        | inr bad ↦ absurd bad
      ])

module _ (lay : Layout) (top : ℕ) (sound : Bool) (apart : Apart lay) (format : Format lay top) where
  -- each list has a last member, which the cache holds
  some_last : (m : Moment) → EngineInvariant lay top sound m → (k : ℕ) → k < lay.blocks → (c : List ℕ) × Last (m.array k) c
  some_last m kept k lt = let reads = kept.contents.reads k lt in
      elim (format.names k (m.world.cached (lay.map_page k)) lt (kept.contents.well_formed.cached (lay.map_page k) (inl (k, lt, refl)))) [
        | inl z ↦ (lay.zero_block, reads.cached_unmapped z)
        | inr d ↦ (m.world.cached (lay.data_page (lay.name_in (m.world.cached (lay.map_page k)) k)), reads.cached_mapped _ d refl)
      ]

  run_parts : (m : Moment) (ns : List Moment) → EngineInvariant lay top sound m → (r : Run lay top m ns) → (k : ℕ) (x : List ℕ) → k < lay.blocks
      → IsAmong x ((last_of m ns).array k) → IsAmong x (m.array k) ⊎ IsAmong x (gained_in lay top m ns r k)
  run_parts m [] kept r k x lt h = inl h
  run_parts m (n ∷ ns) kept r k x lt h = elim (run_parts n ns (step_keeps lay top sound apart m n kept r.0) r.1 k x lt h) [
    | inr more ↦ inr (has_right x (gained r.0 k) (gained_in lay top n ns r.1 k) more)
    | inl here ↦ elim (step_parts lay top m n r.0 (some_last m kept) k x lt here) [
      | inl was ↦ inl was
      | inr new ↦ inr (has_left x (gained r.0 k) (gained_in lay top n ns r.1 k) new)
    ]
  ]

  last_kept : (m : Moment) (ns : List Moment) → EngineInvariant lay top sound m → Run lay top m ns → EngineInvariant lay top sound (last_of m ns)
  last_kept m [] kept r = kept
  last_kept m (n ∷ ns) kept r = last_kept n ns (step_keeps lay top sound apart m n kept r.0) r.1

  pub reads_later : (m : Moment) (ns : List Moment) (image : ℕ → List ℕ) → EngineInvariant lay top sound m → (r : Run lay top m ns) → CrashImage (last_of m ns).world image
      → (l : ℕ) → l < lay.blocks → IsAmong (block_in lay image l) (m.array l) ⊎ IsAmong (block_in lay image l) (gained_in lay top m ns r l)
  reads_later m ns image kept r is l lt =
      let end = last_kept m ns kept r in
      run_parts m ns kept r l (block_in lay image l) lt
      (block_allowed lay top sound format image (last_of m ns).array (image_reads lay sound (last_of m ns).array (last_of m ns).world image end.contents is) l lt)

  pub after_flush_reads : (m n : Moment) (ns : List Moment) (image : ℕ → List ℕ) (l : ℕ) (c : List ℕ) → EngineInvariant lay top sound m
      → ((a : ℕ) → (m.world.dirty a ≡ false) × (m.world.hung a ≡ false)) → Same m.world n.world → n.calls ≡ m.calls → Agree n.pool m.pool
      → ((k : ℕ) → k < lay.blocks → (d : List ℕ) → Last (m.array k) d → n.array k ≡ d ∷ []) → (r : Run lay top n ns) → CrashImage (last_of n ns).world image
      → l < lay.blocks → Last (m.array l) c → (block_in lay image l ≡ c) ⊎ IsAmong (block_in lay image l) (gained_in lay top n ns r l)
  unfolding IsAmong
  after_flush_reads m n ns image l c kept clean w calls pool alone r is lt last =
      let next = step_keeps lay top sound apart m n kept (FlushDone clean w alone calls pool) in
      elim (reads_later n ns image next r is l lt) [
        | inr new ↦ inr new
        | inl here ↦ elim (subst (λ xs. IsAmong (block_in lay image l) xs) (alone l lt c last) here) [ inl e ↦ inl e | inr bad ↦ absurd bad ]
      ]
