-- Ways and cycles.
use Rattle.std.proofs.Common.{◌≡◌, ◌⊎◌, inl, inr, ℕ, Bool, true, refl, sym, subst}
use Rattle.order_model.specs.Paths.{LivePath, leg, via, IsAcyclic, Closes}

-- a way along fewer edges is a way
pub way_more : {live more : ℕ → ℕ → Bool} {a b : ℕ} → ((a b : ℕ) → live a b ≡ true → more a b ≡ true) → LivePath live a b → LivePath more a b
way_more sub (leg e) = leg (sub _ _ e)
way_more sub (via e p) = via (sub _ _ e) (way_more sub p)

pub way_join : {live : ℕ → ℕ → Bool} {a b c : ℕ} → LivePath live a b → LivePath live b c → LivePath live a c
way_join (leg e) q = via e q
way_join (via e p) q = via e (way_join p q)

-- a way along edges that are turned round leads back
way_turned : {live back : ℕ → ℕ → Bool} {a b : ℕ} → ((a b : ℕ) → live a b ≡ true → back b a ≡ true) → LivePath live a b → LivePath back b a
way_turned sub (leg e) = leg (sub _ _ e)
way_turned sub (via e p) = way_join (way_turned sub p) (leg (sub _ _ e))

pub closes_turned : (live back : ℕ → ℕ → Bool) (a b : ℕ) → ((a b : ℕ) → live a b ≡ true → back b a ≡ true) → Closes live a b → Closes back b a
closes_turned live back a b sub (inl same) = inl (sym same)
closes_turned live back a b sub (inr way) = inr (way_turned sub way)

-- a way begins and ends with an edge
pub way_begins : {live : ℕ → ℕ → Bool} {a b : ℕ} → LivePath live a b → (c : ℕ) × (live a c ≡ true)
way_begins {b = b} (leg e) = (b, e)
way_begins (via {b = b} e p) = (b, e)

pub way_ends : {live : ℕ → ℕ → Bool} {a b : ℕ} → LivePath live a b → (c : ℕ) × (live c b ≡ true)
way_ends {a = a} (leg e) = (a, e)
way_ends (via e p) = way_ends p

pub closes_more : (live more : ℕ → ℕ → Bool) (a b : ℕ) → ((a b : ℕ) → live a b ≡ true → more a b ≡ true) → Closes live a b → Closes more a b
closes_more live more a b sub (inl same) = inl same
closes_more live more a b sub (inr way) = inr (way_more sub way)

pub acyclic_fewer : (live less : ℕ → ℕ → Bool) → ((a b : ℕ) → less a b ≡ true → live a b ≡ true) → IsAcyclic live → IsAcyclic less
acyclic_fewer live less sub old a p = old a (way_more sub p)

last_edge : {live : ℕ → ℕ → Bool} {a b : ℕ} → LivePath live a b → (x : ℕ) × (live x b ≡ true) × ((x ≡ a) ⊎ LivePath live a x)
last_edge {a = a} (leg e) = (a, e, inl refl)
last_edge {live = live} {a = a} (via {b = b} e p) = let q = last_edge p in (
  q.0,
  q.1,
  inr (elim q.2 [
    | inl same ↦ subst (λ n. LivePath live a n) (sym same) (leg e)
    | inr way ↦ via e way
  ]),
)

-- edges that are added into one page
module _ (live more : ℕ → ℕ → Bool) (page : ℕ) (sub : (a b : ℕ) → live a b ≡ true → more a b ≡ true) (only : (a b : ℕ) → more a b ≡ true → (live a b ≡ true) ⊎ (b ≡ page)) where
  -- a way either takes none of them, or comes to that page and goes on from it along the others
  past : {a b : ℕ} → LivePath more a b → LivePath live a b ⊎ (LivePath more a page × Closes live b page)
  past {a = a} {b = b} (leg e) = elim (only a b e) [
    | inl old ↦ inl (leg old)
    | inr is ↦ inr (leg (subst (λ n. more a n ≡ true) is e), inl is)
  ]
  past {a = a} {b = c} (via {b = b} e p) = elim (past p) [
    | inr on ↦ inr (via e on.0, on.1)
    | inl q ↦ elim (only a b e) [
      | inl old ↦ inl (via old q)
      | inr is ↦ inr (leg (subst (λ n. more a n ≡ true) is e), inr (subst (λ n. LivePath live n c) is q))
    ]
  ]

  -- so none closes now that did not before
  pub closes_before : (a : ℕ) → Closes more a page → Closes live a page
  closes_before a (inl same) = inl same
  closes_before a (inr way) = elim (past way) [ inl q ↦ inr q | inr on ↦ on.1 ]

  module _ (old : IsAcyclic live) (opens : (a : ℕ) → more a page ≡ true → (live a page ≡ true) ⊎ (Closes live a page → ⊥)) where
    no_return : LivePath more page page → ⊥
    no_return way =
        let q = last_edge way in
        let closes : Closes live q.0 page = closes_before q.0 q.2 in
        elim (opens q.0 q.1) [
          | inr ne ↦ ne closes
          | inl stood ↦ elim closes [
            | inl same ↦ old page (leg (subst (λ n. live n page ≡ true) same stood))
            | inr back ↦ old page (way_join back (leg stood))
          ]
        ]

    -- and no cycle stands where none of them closes
    pub acyclic_more : IsAcyclic more
    acyclic_more a way = elim (past way) [
      | inl q ↦ old a q
      | inr on ↦ elim on.1 [
        | inl same ↦ no_return (subst (λ n. LivePath more n page) same on.0)
        | inr back ↦ no_return (way_join (way_more sub back) on.0)
      ]
    ]
