-- Where no write of a count page failed, the pool has every free page.
use Rattle.std.proofs.Common.{◌≡◌, ◌<◌, inl, inr, arith, refl, ℕ, true, false, sym, ap, ◌∙◌, subst, List, eq-eqb, eqb-true, ne_eqb, true≢false, eq-zero-or-pos}
use Rattle.std.proofs.lemmas.Bool.{cases_eq, or_cases, and_parts, and_from, not-true, not_from_false, false_from_ne_true}
use Rattle.order_model.specs.World.{Layout, World, IsData}
use Rattle.engine_model.specs.Entries.{cached_count, newest_count}
use Rattle.engine_model.specs.Known.{Free}
use Rattle.engine_model.specs.DeviceSteps.{AtRest, Barrier, Taken}
use Rattle.order_model.specs.Pool.{Told, Listed, after_tried, after_written, after_fixed, is_free, new_pool, taken_all, written_all}
use Rattle.engine_model.specs.Pool.{PoolExact, PoolKnows, PossibleStays}
use Rattle.engine_model.proofs.Pool.{tables_newest, taken_zero}
use Rattle.engine_model.proofs.Views.{newest_count_same}

-- a page that is not told as zero has a cached count above 0
above_zero : (lay : Layout) (w : World) (told : Told) (p : ℕ) → PoolKnows lay w told p → told.zero ≡ false → 0 < cached_count lay w p
above_zero lay w told p k off = elim (eq-zero-or-pos (cached_count lay w p)) [ inl z ↦ absurd (true≢false (sym (k.above z) ∙ off)) | inr pos ↦ pos ]

pub start_exact : (lay : Layout) (w : World) (counted tables : List ℕ) → AtRest w
    → ((p : ℕ) → IsData lay p → (Listed p counted → 0 < cached_count lay w p) × (0 < cached_count lay w p → Listed p counted)) → ((p : ℕ) → IsData lay p → Listed (lay.count_page p) tables)
    → (p : ℕ) → IsData lay p → PoolExact lay w (after_fixed (written_all lay tables (taken_all counted new_pool)) p) p
start_exact lay w counted tables rest all every p d =
    let now : (written_all lay tables (taken_all counted new_pool) p).newest ≡ true → 0 < newest_count lay w p =
    λ h. subst (λ c. 0 < lay.count_in c p) (rest.cached _)
    ((all p d).0 ((taken_zero counted p).0 (not-true _ (sym (tables_newest lay tables (taken_all counted new_pool) p (every p d)) ∙ h)))) in
    record { possible = λ h. (w.newest (lay.count_page p), inl refl, now h); newest = now }

module _ (lay : Layout) (w v : World) (page : ℕ) (pool : ℕ → Told) (p : ℕ) (k : PoolKnows lay w (pool p) p) (old : PoolExact lay w (pool p) p)
    (t : Taken w v page) (stays : PossibleStays w v) where
  here : lay.count_page p ≡ page → (pool p).zero ≡ false → 0 < newest_count lay v p
  here e off = subst (λ c. 0 < lay.count_in c p) (ap w.cached e ∙ sym t.newest_here ∙ ap v.newest (sym e)) (above_zero lay w (pool p) p k off)

  pub written_exact : PoolExact lay v (after_written lay page (after_tried lay page pool) p) p
  written_exact = record {
    possible = λ h. elim (or_cases _ _ h) [
      | inl was ↦ let q = old.possible was in (q.0, stays _ q.0 q.1, q.2)
      | inr new ↦ let q = and_parts _ _ new in (v.newest (lay.count_page p), inl refl, here (eqb-true _ page q.0) (not-true _ q.1))
    ];
    newest = λ h. elim (cases_eq (lay.count_page p) page) [
      | inl e ↦ here e (not-true _ (rw (eq-eqb (lay.count_page p) page e) at h))
      | inr ne ↦ subst (λ n. 0 < n) (sym (newest_count_same lay w v p (t.newest_other _ ne)))
          (old.newest (elim (or_cases _ _ (rw (ne_eqb (lay.count_page p) page ne) at h)) [ inl was ↦ was | inr off ↦ absurd (true≢false (sym off)) ]))
    ];
  }

pub fixed_exact : (lay : Layout) (w v : World) (pool : ℕ → Told) (p : ℕ) → PoolExact lay w (pool p) p → Barrier w v → PoolExact lay v (after_fixed pool p) p
fixed_exact lay w v pool p old b =
    let now : (pool p).newest ≡ true → 0 < newest_count lay v p = λ h. subst (λ n. 0 < n) (sym (newest_count_same lay w v p (b.newest _))) (old.newest h) in
    record { possible = λ h. (v.newest (lay.count_page p), inl refl, now h); newest = now }

-- an edit tells of zeros alone
pub edited_exact : (lay : Layout) (w v : World) (told now : Told) (p : ℕ) → PoolExact lay w told p → v.newest (lay.count_page p) ≡ w.newest (lay.count_page p) → PossibleStays w v
    → now.tried ≡ told.tried → now.newest ≡ told.newest → PoolExact lay v now p
edited_exact lay w v told now p old same stays tried newest = record {
  possible = λ h. let q = old.possible (sym tried ∙ h) in (q.0, stays _ q.0 q.1, q.2);
  newest = λ h. subst (λ n. 0 < n) (sym (newest_count_same lay w v p same)) (old.newest (sym newest ∙ h));
}

pub free_exact : (lay : Layout) (w : World) (told : Told) (p : ℕ) → PoolKnows lay w told p → PoolExact lay w told p → Free lay w p → is_free told ≡ true
free_exact lay w told p k exact free = and_from _ _ (k.above free.cached)
    (not_from_false _ (false_from_ne_true _ (λ h. let q = exact.possible h in omega (arith, q.2, free.on_device q.0 q.1))))
