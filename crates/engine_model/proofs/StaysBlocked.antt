-- On every device: what a pass passed over as blocked stays blocked.
use Rattle.std.proofs.Common.{◌≡◌, ◌≢◌, ◌⊎◌, inl, inr, ℕ, sym, ap, ◌∙◌, subst, List, [], ◌∷◌, ◌++◌}
use Rattle.order_model.specs.World.{Layout, Release, IsData}
use Rattle.engine_model.specs.Entries.{Apart}
use Rattle.engine_model.specs.Invariant.{Moment, known_at}
use Rattle.engine_model.specs.Pass.{AllBlocked}
use Rattle.order_model.specs.Paths.{Closes}
use Rattle.engine_model.specs.Releases.{IsBlocked, IsLastPrint}
use Rattle.engine_model.proofs.Passes.{append_none, append_one, member_left, member_push}
use Rattle.engine_model.proofs.Quiet.{count_table}
use Rattle.engine_model.specs.SmallPass.{Applies, InRange, Leaves, SmallPass}
use Rattle.engine_model.proofs.AppliedFrames.{applies_count, applies_print, applies_queue, applies_unborn, applies_way}
use Rattle.engine_model.proofs.Ways.{member_in, member_mid}

-- another release that is blocked stays so
module _ (lay : Layout) (apart : Apart lay) (m n : Moment) (r other : Release) (before after : List Release) (is : IsData lay r.page) (of : IsData lay other.page)
    (x : Applies lay m n r before after) where
  closes_on : (a : ℕ) → Closes m.world.live a (lay.count_page other.page) → Closes n.world.live a (lay.count_page other.page)
  closes_on a (inl e) = inl e
  closes_on a (inr way) = inr (applies_way lay apart m n r before after is x _ _ (apart.table_data (lay.count_page other.page) r.page (count_table lay other.page of) is) way)

  -- one that stays for its print alone is of another page: else this one would have stayed for it too
  pub applies_blocked : IsBlocked lay (known_at lay m) m.world other → IsBlocked lay (known_at lay n) n.world other
  applies_blocked (inl z) = inl (z.0, closes_on _ z.1)
  applies_blocked (inr f) =
      let ne : other.page ≢ r.page = λ e. x.not_blocked (inr
      (subst (λ p. IsLastPrint lay (known_at lay m) m.world p × Closes m.world.live (lay.print_page p) (lay.count_page p)) e f)) in
      inr (
        (
          applies_count lay apart m n r before after is x other.page of ne ∙ f.0.0,
          (f.0.1.0, applies_print lay apart m n r before after is x other.page of ne ∙ f.0.1.1),
          applies_unborn lay apart m n r before after is x other.page ne ∙ f.0.2,
        ),
        closes_on _ f.1,
      )

module _ (lay : Layout) where
  pub leaves_blocked : (m n : Moment) (r other : Release) (before after : List Release) → Leaves lay m n r before after → IsBlocked lay (known_at lay m) m.world other
      → IsBlocked lay (known_at lay n) n.world other
  leaves_blocked m n r other before after x b = subst (λ z. IsBlocked lay (known_at lay z) z.world other) (sym x.is) b

  pub out_queue : Apart lay → (m n : Moment) (r : Release) (before after : List Release) → IsData lay r.page → Applies lay m n r before after ⊎ Leaves lay m n r before after
      → n.world.queue ≡ before ++ after
  out_queue apart m n r before after is (inl x) = applies_queue lay apart m n r before after is x
  out_queue apart m n r before after is (inr x) = ap (λ z. z.world.queue) x.is

  pub small_pass_leaves : Apart lay → (m n : Moment) (kept todo : List Release) → InRange lay (kept ++ todo) → m.world.queue ≡ kept ++ todo → AllBlocked lay m kept
      → SmallPass lay m kept todo n → AllBlocked lay n n.world.queue
  small_pass_leaves apart m n kept [] range queue all p = subst (λ z. AllBlocked lay z z.world.queue) (sym p)
      (subst (λ rs. AllBlocked lay m rs) (sym (queue ∙ append_none kept)) all)
  small_pass_leaves apart m n kept (r ∷ todo) range queue all (inl p) = small_pass_leaves apart m n (kept ++ r ∷ []) todo
      (subst (λ rs. InRange lay rs) (sym (append_one kept todo r)) range) (queue ∙ sym (append_one kept todo r))
      (λ x is. elim (member_push x r kept is) [ inl was ↦ all x was | inr e ↦ subst (λ z. IsBlocked lay (known_at lay m) m.world z) (sym e) p.0 ]) p.1
  small_pass_leaves apart m n kept (r ∷ todo) range queue all (inr p) =
      let here = (range r (member_mid r kept todo)).1 in
      small_pass_leaves apart p.0 n kept todo (λ x is. range x (member_in x r kept todo is)) (out_queue apart m p.0 r kept todo here p.1)
      (λ x is. elim p.1 [
        | inl a ↦ applies_blocked lay apart m p.0 r x kept todo here (range x (member_left x kept (r ∷ todo) is)).1 a (all x is)
        | inr l ↦ leaves_blocked m p.0 r x kept todo l (all x is)
      ]) p.2
