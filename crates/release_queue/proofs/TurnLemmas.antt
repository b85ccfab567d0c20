-- A release is blocked exactly where one of its Live edges closes a cycle as they are added one after another: both lead into one page, so the first
-- makes the second close no cycle that it did not close before.
use Rattle.std.proofs.Common.{◌≡◌, ◌↔◌, ◌⊎◌, inl, inr, ℕ, ◌++◌, ◌&&◌, ◌||◌, Bool, true, false, eqb, refl, eqb-true, eq-eqb, ne_eqb}
use Rattle.std.proofs.lemmas.Bool.{and_parts, cases_eq, or_cases, or_left}
use Rattle.order_model.specs.Paths.{Closes}
use Rattle.dep_graph.proofs.PathLemmas.{closes_before, closes_more}
use Rattle.release_queue.specs.declared.Release.{Release}
use Rattle.release_queue.specs.declared.Need.{Need}
use Rattle.release_queue.specs.declared.Need.TheVariants.{Nothing, Live, Barrier}
use Rattle.release_queue.specs.Needed.{ClosesInTurn, IsBlocked, edge_between, map_need, needed_edges, print_need}

live_at : (stage : ℕ) → (map_need stage ≡ Live) ↔ (stage ≡ 0)
live_at stage = elim (cases_eq stage 0) [
  | inl e ↦ (λ h. e, λ h. rw (eq-eqb stage 0 e))
  | inr ne ↦ (λ h. absurd (later ne h), λ h. absurd (ne h))
]
  where
    later : (stage ≡ 0 → ⊥) → map_need stage ≡ Live → ⊥
    later ne h = elim (cases_eq stage 1) [
      | inl e ↦ let g : Barrier ≡ Live = rw (ne_eqb stage 0 ne, eq-eqb stage 1 e) at h in absurd (cc)
      | inr off ↦ let g : Nothing ≡ Live = rw (ne_eqb stage 0 ne, ne_eqb stage 1 off) at h in absurd (cc)
    ]

module _ (live : ℕ → ℕ → Bool) (m p k : ℕ) where
  -- the Live edges with the one from m to k
  more : ℕ → ℕ → Bool
  more a b = live a b || (eqb a m && eqb b k)

  only : (a b : ℕ) → more a b ≡ true → (live a b ≡ true) ⊎ (b ≡ k)
  unfolding more
  only a b h = elim (or_cases _ _ h) [ inl old ↦ inl old | inr new ↦ inr (eqb-true b k (and_parts _ _ new).1) ]

  second : Closes (λ a b. live a b || (eqb a m && eqb b k)) p k → Closes live p k
  unfolding more
  second = closes_before live more k (λ a b h. or_left _ _ h) only p

  second_back : Closes live p k → Closes (λ a b. live a b || (eqb a m && eqb b k)) p k
  second_back = closes_more live (λ a b. live a b || (eqb a m && eqb b k)) p k (λ a b h. or_left _ _ h)

  in_turn : (need : Need) (last : Bool) → ((need ≡ Live) × Closes live m k) ⊎ ((last ≡ true) × Closes live p k)
      ↔ ClosesInTurn live (edge_between m k need ++ edge_between p k (print_need last))
  in_turn Live true = (
    λ h. elim h [ inl q ↦ inl q.1 | inr q ↦ inr (inl (second_back q.1)) ],
    λ h. elim h [ inl q ↦ inl (refl, q) | inr q ↦ elim q [ inl r ↦ inr (refl, second r) | inr r ↦ absurd r ] ],
  )
  in_turn Live false = (
    λ h. elim h [ inl q ↦ inl q.1 | inr q ↦ absurd (cc) ],
    λ h. elim h [ inl q ↦ inl (refl, q) | inr q ↦ absurd q ],
  )
  in_turn Barrier true = (
    λ h. elim h [ inl q ↦ absurd (cc) | inr q ↦ inl q.1 ],
    λ h. elim h [ inl q ↦ inr (refl, q) | inr q ↦ absurd q ],
  )
  in_turn Barrier false = (λ h. elim h [ inl q ↦ absurd (cc) | inr q ↦ absurd (cc) ], λ h. absurd h)
  in_turn Nothing true = (
    λ h. elim h [ inl q ↦ absurd (cc) | inr q ↦ inl q.1 ],
    λ h. elim h [ inl q ↦ inr (refl, q) | inr q ↦ absurd q ],
  )
  in_turn Nothing false = (λ h. elim h [ inl q ↦ absurd (cc) | inr q ↦ absurd (cc) ], λ h. absurd h)

pub turn_of : (live : ℕ → ℕ → Bool) (r : Release) (last b : Bool) → (b ≡ true) ↔ IsBlocked live r last → (b ≡ true) ↔ ClosesInTurn live (needed_edges r last)
turn_of live r last b is = (λ h. turn.0 (stage_back (is.0 h)), λ h. is.1 (stage (turn.1 h)))
  where
    turn : ((map_need r.stage ≡ Live) × Closes live r.map_at r.count_at) ⊎ ((last ≡ true) × Closes live r.print_at r.count_at)
        ↔ ClosesInTurn live (edge_between r.map_at r.count_at (map_need r.stage) ++ edge_between r.print_at r.count_at (print_need last))
    turn = in_turn live r.map_at r.print_at r.count_at (map_need r.stage) last

    stage : ((map_need r.stage ≡ Live) × Closes live r.map_at r.count_at) ⊎ ((last ≡ true) × Closes live r.print_at r.count_at) → IsBlocked live r last
    stage (inl q) = inl ((live_at r.stage).0 q.0, q.1)
    stage (inr q) = inr q

    stage_back : IsBlocked live r last → ((map_need r.stage ≡ Live) × Closes live r.map_at r.count_at) ⊎ ((last ≡ true) × Closes live r.print_at r.count_at)
    stage_back (inl q) = inl ((live_at r.stage).1 q.0, q.1)
    stage_back (inr q) = inr q
