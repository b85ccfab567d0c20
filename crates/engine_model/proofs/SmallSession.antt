-- The session by small steps is a run of small steps.
use Rattle.std.proofs.Common.{◌≡◌, ◌≢◌, inl, inr, ◌⊎◌, ◌++◌, ℕ, arith, refl, sym, List, [], ◌∷◌, true≢false, ne_eqb}
use Rattle.order_model.specs.Counting.{count_below}
use Rattle.engine_model.specs.Entries.{EdgeKind}
use Rattle.engine_model.specs.Commands.{Gains}
use Rattle.engine_model.specs.Invariant.{known_at}
use Rattle.engine_model.specs.SmallSteps.{CanClear, CanLower, CanName, CanPrint, CanRaise, CanRecount, SetsCount, SetsName}
use Rattle.engine_model.specs.SmallRuns.{ClearPrint, GiveUp, Lower, Order, Place, Raise, Recount, SetName, SetPrint, SmallRun, Touch}
use Rattle.engine_model.specs.Examples.{printed, written_array}
use Rattle.engine_model.specs.Session.{mounted, twice_array, unborn_release}
use Rattle.engine_model.specs.SmallSession.{count_before_map, count_before_print, count_lowered, count_raised, count_wasted, data_before_map, data_before_print, name_gone, name_set, print_cleared, print_set, print_touched, small_moments, waste_gone}
use Rattle.engine_model.proofs.Examples.{empty_free, is_data, no_other, no_zero}
use Rattle.engine_model.proofs.Graphs.{begins_none}

data_kind : (b : ℕ) → (b ≡ 1) ⊎ (b ≡ 3) → EdgeKind printed 4 b
data_kind b (inl e) = inl (inl (1, is_data, refl), inl (0, omega arith, e))
data_kind b (inr e) = inl (inl (1, is_data, refl), inr (1, is_data, e))

count_kind : (b : ℕ) → (b ≡ 1) ⊎ (b ≡ 3) → EdgeKind printed 2 b
count_kind b (inl e) = inl (inr (1, is_data, refl), inl (0, omega arith, e))
count_kind b (inr e) = inl (inr (1, is_data, refl), inr (1, is_data, e))

pub sets_count : (old : List ℕ) (n : ℕ) → SetsCount printed old (n ∷ []) 1 n
sets_count old n = record { here = refl; other = λ q d ne same. absurd (no_other q d ne); formed = refl }

pub sets_name : (old : List ℕ) (p : ℕ) → SetsName printed old (p ∷ []) 0 p
sets_name old p = record { here = refl; other = λ k lt ne same. absurd (no_zero k lt ne); formed = refl }

pub can_raise : CanRaise printed 5 print_touched.world 1 (1 ∷ [])
can_raise = record { is_data = is_data; sets = sets_count (0 ∷ []) 1; below_top = omega arith; dirty = refl; counted_or_fresh = inr refl }

pub can_print : CanPrint printed count_before_print.world 1 (1 ∷ (7 ∷ [])) (7 ∷ [])
can_print = record {
  is_data = is_data;
  sets = record { here = refl; other = λ q d ne same. absurd (no_other q d ne); formed = refl };
  dirty = refl;
  counted = omega arith;
  had_none = refl;
  count_first = inl refl;
  data_first = record { dirty = λ d. refl; hung = λ h. absurd (true≢false (sym h)) };
  is_true = refl;
}

pub can_name : CanName printed print_set.world 0 0 1 (1 ∷ [])
unfolding count_below
can_name = record {
  in_range = omega arith;
  was = refl;
  none_or_data = inl refl;
  other = λ e. omega (arith, e);
  sets = sets_name (0 ∷ []) 1;
  dirty = refl;
  backed = inr (record { spare = omega arith; count_first = refl; data_first = record { dirty = λ d. refl; hung = λ h. absurd (true≢false (sym h)) } });
}

pub can_unname : CanName printed name_set.world 0 1 0 (0 ∷ [])
can_unname = record {
  in_range = omega arith;
  was = refl;
  none_or_data = inr is_data;
  other = λ e. omega (arith, e);
  sets = sets_name (1 ∷ []) 0;
  dirty = refl;
  backed = inl refl;
}

pub can_clear : CanClear printed (known_at printed name_gone) name_gone.world 1 (0 ∷ []) (7 ∷ [])
can_clear = record {
  is_data = is_data;
  sets = record { here = refl; other = λ q d ne same. absurd (no_other q d ne); formed = refl };
  dirty = refl;
  had = refl;
  ordered_or_unborn = inr refl;
}

pub can_lower : CanLower printed print_cleared.world unborn_release [] [] (0 ∷ []) 0
can_lower = record {
  was_queued = refl;
  counted = refl;
  sets = sets_count (1 ∷ []) 0;
  dirty = refl;
  no_print = λ z. refl;
  from_map = λ e. absurd (omega (arith, e));
  from_hung_map = λ e. absurd (omega (arith, e));
}

can_waste : CanRaise printed 5 count_lowered.world 1 (1 ∷ [])
can_waste = record { is_data = is_data; sets = sets_count (0 ∷ []) 1; below_top = omega arith; dirty = refl; counted_or_fresh = inr refl }

can_recount : CanRecount printed count_wasted.world 1 (0 ∷ []) 0
unfolding count_below
can_recount = record { is_data = is_data; sets = sets_count (1 ∷ []) 0; dirty = refl; less = omega arith; enough = omega arith; no_print = λ z. refl }

gains : (before after : ℕ → List (List ℕ)) (c : List ℕ) → after 0 ≡ before 0 ++ c ∷ [] → ((k : ℕ) → k ≢ 0 → after k ≡ before k) → Gains before after 0 c
gains before after c here other = record { here = here; other = other }

pub small_run : SmallRun printed 5 mounted small_moments
small_run = (
  inr (Place 1 (7 ∷ []) is_data empty_free refl),
  (
    inr (Touch 1 (inl (0, omega arith, refl)) refl),
    (
      inr (Touch 2 (inr (1, is_data, inl refl)) refl),
      (
        inr (Touch 3 (inr (1, is_data, inr refl)) refl),
        (
          inr (Raise 1 (1 ∷ []) count_raised.pool can_raise refl (inl (refl, (λ q. refl)))),
          (
            inr (Order 4 1 (data_kind 1 (inl refl)) refl refl (begins_none count_raised.world.live 4 1 (λ e. omega (arith, e)) (λ c. refl)) refl),
            (
              inr (Order 2 1 (count_kind 1 (inl refl)) refl refl (begins_none data_before_map.world.live 2 1 (λ e. omega (arith, e)) (λ c. refl)) refl),
              (
                inr (Order 4 3 (data_kind 3 (inr refl)) refl refl (begins_none count_before_map.world.live 4 3 (λ e. omega (arith, e)) (λ c. refl)) refl),
                (
                  inr (Order 2 3 (count_kind 3 (inr refl)) refl refl (begins_none data_before_print.world.live 2 3 (λ e. omega (arith, e)) (λ c. refl)) refl),
                  (
                    inr (SetPrint 1 (1 ∷ (7 ∷ [])) (7 ∷ []) can_print refl),
                    (
                      inr (SetName 0 0 1 (1 ∷ []) written_array can_name (inl (gains print_set.array written_array (7 ∷ []) refl (λ k ne. rw (ne_eqb k 0 ne)))) refl),
                      (
                        inr (SetName 0 1 0 (0 ∷ []) twice_array can_unname (inl (gains written_array twice_array (0 ∷ []) refl (λ k ne. rw (ne_eqb k 0 ne)))) refl),
                        (
                          inr (ClearPrint 1 (0 ∷ []) (7 ∷ []) can_clear refl),
                          (
                            inr (Lower unborn_release [] [] (0 ∷ []) 0 count_lowered.pool can_lower refl (inl (refl, (λ q. refl)))),
                            (
                              inr (Raise 1 (1 ∷ []) count_wasted.pool can_waste refl (inl (refl, (λ q. refl)))),
                              (inr (Recount 1 (0 ∷ []) 0 waste_gone.pool can_recount refl (inl (refl, (λ q. refl)))), (inr (GiveUp 1 is_data refl refl), tt)),
                            ),
                          ),
                        ),
                      ),
                    ),
                  ),
                ),
              ),
            ),
          ),
        ),
      ),
    ),
  ),
)
