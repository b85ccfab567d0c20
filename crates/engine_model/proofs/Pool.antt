-- A pool that is told knows the counts.
use Rattle.std.proofs.Common.{◌≡◌, ◌≢◌, ◌↔◌, ◌<◌, inl, inr, arith, refl, [], ◌∷◌, eq-zero-or-pos, eqb-true, ℕ, Bool, true, false, not, ◌&&◌, ◌||◌, sym, ap, ◌∙◌, List, eqb, eq-eqb, ne_eqb, true≢false}
use Rattle.std.proofs.lemmas.Bool.{cases_eq, or_parts, or_cases, or_left, or_right, and_cases, and_parts, and_from, not-false, not-true, not_from_false, true_from_ne_false}
use Rattle.std.proofs.Math.Bool.{or-false}
use Rattle.order_model.specs.World.{Layout, World, Possible, IsData}
use Rattle.engine_model.specs.Entries.{cached_count, newest_count}
use Rattle.engine_model.specs.Known.{Free}
use Rattle.engine_model.specs.DeviceSteps.{AtRest, Barrier, Taken}
use Rattle.engine_model.specs.Edits.{CacheOnly}
use Rattle.order_model.specs.Pool.{Told, Listed, after_take, after_tried, after_written, after_fixed, after_zeroed, is_free, new_pool, taken_all, written_all}
use Rattle.engine_model.specs.Pool.{PoolKnows}
use Rattle.engine_model.proofs.Views.{count_same, newest_count_same}

module _ (lay : Layout) (w v : World) (page : ℕ) (pool : ℕ → Told) (p : ℕ) (old : PoolKnows lay w (pool p) p) where
  was_zero : (b : Bool) → (b || (eqb (lay.count_page p) page && not (pool p).zero)) ≡ false → (b ≡ false) × (lay.count_page p ≡ page → cached_count lay w p ≡ 0)
  was_zero b h =
      let q = or_parts _ _ h in (
        q.0,
        λ e. elim (and_cases _ _ q.1) [
          | inl off ↦ absurd (true≢false (sym (eq-eqb _ page e) ∙ off))
          | inr z ↦ old.zero (not-false _ z)
        ],
      )

  pub tried_knows : PoolKnows lay w (after_tried lay page pool p) p
  tried_knows = record {
    zero = old.zero;
    above = old.above;
    possible = λ h. old.possible (was_zero _ h).0;
    newest = λ h. old.newest (was_zero _ h).0;
  }

  module _ (t : Taken w v page) where
    count : cached_count lay v p ≡ cached_count lay w p
    count = count_same lay w v t.cached p

    here : (c : List ℕ) → lay.count_page p ≡ page → c ≡ w.cached page → lay.count_in c p ≡ cached_count lay w p
    here c e is = ap (λ x. lay.count_in x p) (is ∙ ap w.cached (sym e))

    possible_now : (after_tried lay page pool p).tried ≡ false → (c : List ℕ) → Possible v (lay.count_page p) c → lay.count_in c p ≡ 0
    possible_now h c q = let z = was_zero _ h in elim (t.possible _ c q) [
      | inl q ↦ old.possible z.0 c q
      | inr q ↦ here c q.0 q.1 ∙ z.1 q.0
    ]

    newest_here : lay.count_page p ≡ page → newest_count lay v p ≡ cached_count lay w p
    newest_here e = here (v.newest (lay.count_page p)) e (ap v.newest e ∙ t.newest_here)

    pub failed_knows : PoolKnows lay v (after_tried lay page pool p) p
    failed_knows = record {
      zero = λ h. count ∙ old.zero h;
      above = λ h. old.above (sym count ∙ h);
      possible = possible_now;
      newest = λ h. let z = was_zero _ h in elim (cases_eq (lay.count_page p) page) [
        | inl e ↦ newest_here e ∙ z.1 e
        | inr ne ↦ newest_count_same lay w v p (t.newest_other _ ne) ∙ old.newest z.0
      ];
    }

    pub written_knows : PoolKnows lay v (after_written lay page (after_tried lay page pool) p) p
    written_knows = record {
      zero = λ h. count ∙ old.zero h;
      above = λ h. old.above (sym count ∙ h);
      possible = possible_now;
      newest = λ h. elim (cases_eq (lay.count_page p) page) [
        | inl e ↦ newest_here e ∙ old.zero (not-false _ (rw (eq-eqb (lay.count_page p) page e) at h))
        | inr ne ↦ newest_count_same lay w v p (t.newest_other _ ne) ∙ old.newest (or_parts _ _ (rw (ne_eqb (lay.count_page p) page ne) at h)).0
      ];
    }

pub fixed_knows : (lay : Layout) (w v : World) (pool : ℕ → Told) (p : ℕ) → PoolKnows lay w (pool p) p → Barrier w v → PoolKnows lay v (after_fixed pool p) p
fixed_knows lay w v pool p old b = record {
  zero = λ h. count_same lay w v b.cached p ∙ old.zero h;
  above = λ h. old.above (sym (count_same lay w v b.cached p) ∙ h);
  possible = λ h c q. ap (λ x. lay.count_in x p) (b.possible _ c q) ∙ old.newest h;
  newest = λ h. newest_count_same lay w v p (b.newest _) ∙ old.newest h;
}

-- what the pool holds is free
pub pool_free : (lay : Layout) (w : World) (told : Told) (p : ℕ) → PoolKnows lay w told p → is_free told ≡ true → Free lay w p
pool_free lay w told p k f = let q = and_parts _ _ f in record { cached = k.zero q.0; on_device = k.possible (not-true _ q.1) }

-- an edit that leaves p's count, or leaves it at 0 or above 0
pub same_knows : (lay : Layout) (w v : World) (told : Told) (q : ℕ) → CacheOnly lay w v → cached_count lay v q ≡ cached_count lay w q → PoolKnows lay w told q → PoolKnows lay v told q
same_knows lay w v told q rest same old = record {
  zero = λ h. same ∙ old.zero h;
  above = λ h. old.above (sym same ∙ h);
  possible = λ h c x. old.possible h c (rest.possible _ c x);
  newest = λ h. newest_count_same lay w v q (rest.newest _) ∙ old.newest h;
}

module _ (lay : Layout) (w v : World) (pool : ℕ → Told) (p q : ℕ) (rest : CacheOnly lay w v) where
  pub taken_knows : (q ≡ p → 0 < cached_count lay v q) → (q ≢ p → cached_count lay v q ≡ cached_count lay w q) → PoolKnows lay w (pool q) q → PoolKnows lay v (after_take p pool q) q
  taken_knows here other old = elim (cases_eq q p) [
    | inl e ↦ let pos = here e in record {
      zero = λ h. absurd (true≢false (sym (eq-eqb p q (sym e)) ∙ not-true _ (and_parts _ _ h).0));
      above = λ h. absurd (omega arith);
      possible = λ h c x. old.possible h c (rest.possible _ c x);
      newest = λ h. newest_count_same lay w v q (rest.newest _) ∙ old.newest h;
    }
    | inr ne ↦ let now = same_knows lay w v (pool q) q rest (other ne) old in record {
      zero = λ h. now.zero (and_parts _ _ h).1;
      above = λ h. and_from _ _ (not_from_false _ (ne_eqb p q (λ e. ne (sym e)))) (now.above h);
      possible = now.possible;
      newest = now.newest;
    }
  ]

  pub zeroed_knows : (q ≡ p → cached_count lay v q ≡ 0) → (q ≢ p → cached_count lay v q ≡ cached_count lay w q) → PoolKnows lay w (pool q) q → PoolKnows lay v (after_zeroed p pool q) q
  zeroed_knows here other old = elim (cases_eq q p) [
    | inl e ↦ record {
      zero = λ h. here e;
      above = λ h. or_left _ _ (eq-eqb p q (sym e));
      possible = λ h c x. old.possible h c (rest.possible _ c x);
      newest = λ h. newest_count_same lay w v q (rest.newest _) ∙ old.newest h;
    }
    | inr ne ↦ let now = same_knows lay w v (pool q) q rest (other ne) old in record {
      zero = λ h. now.zero (elim (or_cases _ _ h) [ inl is ↦ absurd (ne (sym (eqb-true p q is))) | inr z ↦ z ]);
      above = λ h. or_right _ _ (now.above h);
      possible = now.possible;
      newest = now.newest;
    }
  ]

-- a mount takes the pages that are counted, and tells each count page as written and fixed
pub taken_zero : (counted : List ℕ) (p : ℕ) → ((taken_all counted new_pool p).zero ≡ false → Listed p counted) × (Listed p counted → (taken_all counted new_pool p).zero ≡ false)
taken_zero [] p = ((λ h. true≢false h), (λ h. absurd h))
taken_zero (q ∷ qs) p = let more = taken_zero qs p in (
  (λ h. elim (and_cases _ _ h) [ inl is ↦ inl (eqb-true q p (not-false _ is)) | inr z ↦ inr (more.0 z) ]),
  (λ h. elim h [
    | inl e ↦ ap (λ b. not b && (taken_all qs new_pool p).zero) (eq-eqb q p e)
    | inr l ↦ no_and _ _ (more.1 l)
  ]),
)
  where
    no_and : (a b : Bool) → b ≡ false → (not a && b) ≡ false
    no_and a b e = grind arith

tables_zero : (lay : Layout) (tables : List ℕ) (pool : ℕ → Told) (p : ℕ) → (written_all lay tables pool p).zero ≡ (pool p).zero
tables_zero lay [] pool p = refl
tables_zero lay (t ∷ ts) pool p = tables_zero lay ts pool p

pub tables_newest : (lay : Layout) (tables : List ℕ) (pool : ℕ → Told) (p : ℕ) → Listed (lay.count_page p) tables → (written_all lay tables pool p).newest ≡ not (pool p).zero
tables_newest lay [] pool p h = absurd h
tables_newest lay (t ∷ ts) pool p h = elim (cases_eq (lay.count_page p) t) [
  | inl e ↦ rw (eq-eqb (lay.count_page p) t e) (ap not (tables_zero lay ts pool p))
  | inr ne ↦ rw (ne_eqb (lay.count_page p) t ne) (elim h [ inl e ↦ absurd (ne (sym e)) | inr l ↦ or-false _ ∙ tables_newest lay ts pool p l ])
]

pub start_knows : (lay : Layout) (w : World) (counted tables : List ℕ) → AtRest w
    → ((p : ℕ) → IsData lay p → Listed p counted ↔ (0 < cached_count lay w p)) → ((p : ℕ) → IsData lay p → Listed (lay.count_page p) tables)
    → (p : ℕ) → IsData lay p → PoolKnows lay w (after_fixed (written_all lay tables (taken_all counted new_pool)) p) p
start_knows lay w counted tables rest all every p d =
    let told = written_all lay tables (taken_all counted new_pool) in
    let same : newest_count lay w p ≡ cached_count lay w p = ap (λ c. lay.count_in c p) (sym (rest.cached _)) in
    let is_zero : (taken_all counted new_pool p).zero ≡ true → cached_count lay w p ≡ 0 = λ z. elim (eq-zero-or-pos (cached_count lay w p)) [
      | inl e ↦ e
      | inr pos ↦ absurd (true≢false (sym z ∙ (taken_zero counted p).1 ((all p d).1 pos)))
    ] in
    let now : (told p).newest ≡ false → newest_count lay w p ≡ 0 =
    λ h. same ∙ is_zero (not-false _ (sym (tables_newest lay tables (taken_all counted new_pool) p (every p d)) ∙ h)) in
    record {
      zero = λ h. is_zero (sym (tables_zero lay tables (taken_all counted new_pool) p) ∙ h);
      above = λ h. tables_zero lay tables (taken_all counted new_pool) p
          ∙ true_from_ne_false _ (λ off. let pos = (all p d).0 ((taken_zero counted p).0 off) in omega arith);
      possible = λ h c q. ap (λ x. lay.count_in x p) (rest.one _ c q) ∙ now h;
      newest = now;
    }
