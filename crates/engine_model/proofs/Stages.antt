-- What a write and a barrier do to the stages of the queued releases.
use Rattle.std.proofs.Common.{◌≡◌, ◌≢◌, ◌⊎◌, inl, inr, ℕ, ◌&&◌, cond, eqb, arith, refl, sym, ap, ◌∙◌, List, [], ◌∷◌, map, eq-eqb, ne_eqb}
use Rattle.std.proofs.lemmas.Bool.{cases_eq}
use Rattle.order_model.specs.World.{Layout, Release, Queued, queued}
use Rattle.engine_model.specs.DeviceSteps.{written_release}

-- releases whose stages alone changed are of the same blocks and pages
pub mapped_from : (f : Release → Release) → ((r : Release) → ((f r).block ≡ r.block) × ((f r).page ≡ r.page)) → (rs : List Release) (l p stage : ℕ)
    → Queued (map f rs) l p stage → (was : ℕ) × Queued rs l p was
mapped_from f same [] l p stage q = absurd q
mapped_from f same (r ∷ rs) l p stage (inl q) = (r.stage, inl (sym (same r).0 ∙ q.0, sym (same r).1 ∙ q.1, refl))
mapped_from f same (r ∷ rs) l p stage (inr q) = let more = mapped_from f same rs l p stage q in (more.0, inr more.1)

module _ (lay : Layout) (page : ℕ) where
  here : (place stage : ℕ) → place ≡ page → stage ≡ 0 → cond {A = ℕ} (eqb place page && eqb stage 0) 1 stage ≡ 1
  here place stage e z = rw (eq-eqb place page e, eq-eqb stage 0 z)

  there : (place stage : ℕ) → place ≢ page → cond (eqb place page && eqb stage 0) 1 stage ≡ stage
  there place stage ne = rw (ne_eqb place page ne)

  later : (place stage : ℕ) → stage ≢ 0 → cond (eqb place page && eqb stage 0) 1 stage ≡ stage
  later place stage ne = elim (cases_eq place page) [
    | inl e ↦ rw (eq-eqb place page e, ne_eqb stage 0 ne)
    | inr n ↦ there place stage n
  ]

  pub queued_written : (rs : List Release) (p : ℕ) → queued (map (written_release lay page) rs) p ≡ queued rs p
  queued_written [] p = refl
  queued_written (r ∷ rs) p = rw (queued_written rs p)

  zero_back : (place stage : ℕ) → cond (eqb place page && eqb stage 0) 1 stage ≡ 0 → (stage ≡ 0) × (place ≢ page)
  zero_back place stage h = elim (cases_eq stage 0) [
    | inr ne ↦ absurd (ne (sym (later place stage ne) ∙ h))
    | inl e ↦ (e, λ at. omega (arith, sym (here place stage at e) ∙ h))
  ]

  pub written_zero : (rs : List Release) (l p : ℕ) → Queued (map (written_release lay page) rs) l p 0 → Queued rs l p 0 × (lay.map_page l ≢ page)
  written_zero [] l p q = absurd q
  written_zero (r ∷ rs) l p (inl q) =
      let z = zero_back (lay.map_page r.block) r.stage q.2 in
      (inl (q.0, q.1, z.0), λ e. z.1 (ap lay.map_page q.0 ∙ e))
  written_zero (r ∷ rs) l p (inr q) = let more = written_zero rs l p q in (inr more.0, more.1)

  pub written_stays : (rs : List Release) (l p : ℕ) → lay.map_page l ≢ page → Queued rs l p 0 → Queued (map (written_release lay page) rs) l p 0
  written_stays [] l p ne q = q
  written_stays (r ∷ rs) l p ne (inl q) = inl (q.0, q.1, there (lay.map_page r.block) r.stage (λ e. ne (ap lay.map_page (sym q.0) ∙ e)) ∙ q.2)
  written_stays (r ∷ rs) l p ne (inr q) = inr (written_stays rs l p ne q)

  pub written_moves : (rs : List Release) (l p : ℕ) → lay.map_page l ≡ page → Queued rs l p 0 → Queued (map (written_release lay page) rs) l p 1
  written_moves [] l p e q = q
  written_moves (r ∷ rs) l p e (inl q) = inl (q.0, q.1, here (lay.map_page r.block) r.stage (ap lay.map_page q.0 ∙ e) q.2)
  written_moves (r ∷ rs) l p e (inr q) = inr (written_moves rs l p e q)

  pub written_one : (rs : List Release) (l p : ℕ) → Queued rs l p 1 → Queued (map (written_release lay page) rs) l p 1
  written_one [] l p q = q
  written_one (r ∷ rs) l p (inl q) = inl (q.0, q.1, later (lay.map_page r.block) r.stage (λ e. omega (arith, q)) ∙ q.2)
  written_one (r ∷ rs) l p (inr q) = inr (written_one rs l p q)

  one_back : (place stage : ℕ) → cond (eqb place page && eqb stage 0) 1 stage ≡ 1 → (stage ≡ 1) ⊎ (place ≡ page)
  one_back place stage h = elim (cases_eq place page) [ inl e ↦ inr e | inr ne ↦ inl (sym (there place stage ne) ∙ h) ]

  pub written_from : (rs : List Release) (l p : ℕ) → Queued (map (written_release lay page) rs) l p 1 → Queued rs l p 1 ⊎ (lay.map_page l ≡ page)
  written_from [] l p q = absurd q
  written_from (r ∷ rs) l p (inl q) = elim (one_back (lay.map_page r.block) r.stage q.2) [
    | inl e ↦ inl (inl (q.0, q.1, e))
    | inr e ↦ inr (ap lay.map_page (sym q.0) ∙ e)
  ]
  written_from (r ∷ rs) l p (inr q) = elim (written_from rs l p q) [ inl a ↦ inl (inr a) | inr e ↦ inr e ]
