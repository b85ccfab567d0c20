-- What a pass changes, and what it leaves.
use Rattle.std.proofs.Common.{◌≡◌, ◌≢◌, ◌⊎◌, inl, inr, ◌+◌, ◌<◌, ◌≤◌, ℕ, Bool, true, cond, arith, refl, sym, ap, ◌∙◌, subst, List, [], ◌∷◌, ◌++◌, eqb, eq-eqb, ne_eqb}
use Rattle.std.proofs.lemmas.Bool.{cases_eq}
use Rattle.order_model.specs.Contents.{IsAmong}
use Rattle.order_model.specs.World.{Layout, Release, queued, IsData}
use Rattle.engine_model.specs.Drops.{Dropped}
use Rattle.engine_model.specs.Entries.{Apart, cached_count, cached_print}
use Rattle.engine_model.specs.Invariant.{Moment}
use Rattle.engine_model.specs.Pass.{Drops, Lowers, Pass}
use Rattle.engine_model.proofs.Passes.{append_one, drops_queue}
use Rattle.engine_model.proofs.Queues.{queued_out}
use Rattle.engine_model.proofs.Quiet.{count_table, map_table, print_table}
use Rattle.engine_model.specs.PassEffects.{PassEffects}
use Rattle.engine_model.specs.SmallPass.{InRange, KeepsOrder, SmallPass}
use Rattle.engine_model.proofs.StaysBlocked.{out_queue}
use Rattle.engine_model.proofs.Ways.{member_in, member_mid}

no_effects : (lay : Layout) (m : Moment) → PassEffects lay m m
no_effects lay m = record {
  newest = λ a. refl;
  possible = λ a c h. h;
  hung = λ a. refl;
  names = λ l lt. refl;
  array = λ l. refl;
  counts = λ q d. refl;
  lower = λ q d. omega arith;
  prints = λ q d pos. refl;
  live_new = λ a b h. inl h;
  live_kept = λ a b h. inl h;
  barred_new = λ a b h. inl h;
  barred_kept = λ a b h. h;
}

both_effects : (lay : Layout) (m k n : Moment) → PassEffects lay m k → PassEffects lay k n → PassEffects lay m n
both_effects lay m k n x y = record {
  newest = λ a. y.newest a ∙ x.newest a;
  possible = λ a c h. x.possible a c (y.possible a c h);
  hung = λ a. y.hung a ∙ x.hung a;
  names = λ l lt. y.names l lt ∙ x.names l lt;
  array = λ l. y.array l ∙ x.array l;
  counts = λ q d. let first = x.counts q d in let then = y.counts q d in omega arith;
  lower = λ q d. let first = x.lower q d in let then = y.lower q d in omega arith;
  prints = λ q d pos. y.prints q d pos ∙ x.prints q d (let then = y.lower q d in omega arith);
  live_new = λ a b h. elim (y.live_new a b h) [ inl was ↦ x.live_new a b was | inr new ↦ inr new ];
  live_kept = λ a b h. elim (x.live_kept a b h) [ inl was ↦ y.live_kept a b was | inr gone ↦ inr gone ];
  barred_new = λ a b h. elim (y.barred_new a b h) [ inl was ↦ x.barred_new a b was | inr new ↦ inr new ];
  barred_kept = λ a b h. y.barred_kept a b (x.barred_kept a b h);
}

module _ (lay : Layout) (apart : Apart lay) where
  lowers_effects : (m n : Moment) (r : Release) (before after : List Release) → (r.block < lay.blocks) × IsData lay r.page → Lowers lay m n r before after → PassEffects lay m n
  lowers_effects m n r before after range x = record {
    newest = x.applied.rest.newest;
    possible = x.applied.rest.possible;
    hung = x.applied.rest.hung;
    names = x.applied.names;
    array = x.array;
    counts = λ q d. elim (cases_eq q r.page) [
      | inl e ↦
          let less = gone q in
          let one : cond {A = ℕ} (eqb r.page q) 1 0 ≡ 1 = ap (λ b. cond b 1 0) (eq-eqb r.page q (sym e)) in
          let count : cached_count lay n.world q + 1 ≡ cached_count lay m.world q = subst (λ y. cached_count lay n.world y + 1 ≡ cached_count lay m.world y) (sym e) x.applied.count_here in
          omega arith
      | inr ne ↦
          let less = gone q in
          let none : cond {A = ℕ} (eqb r.page q) 1 0 ≡ 0 = ap (λ b. cond b 1 0) (ne_eqb r.page q (λ e. ne (sym e))) in
          let count = x.applied.count_other q d ne in
          omega arith
    ];
    lower = λ q d. elim (cases_eq q r.page) [
      | inl e ↦ let count : cached_count lay n.world q + 1 ≡ cached_count lay m.world q = subst (λ y. cached_count lay n.world y + 1 ≡ cached_count lay m.world y) (sym e) x.applied.count_here in omega arith
      | inr ne ↦ let count = x.applied.count_other q d ne in omega arith
    ];
    prints = λ q d pos. elim (cases_eq q r.page) [
      | inl e ↦ ap (cached_print lay n.world) e ∙ x.applied.print_kept (subst (λ y. 0 < cached_count lay n.world y) e pos) ∙ ap (cached_print lay m.world) (sym e)
      | inr ne ↦ x.applied.print_other q d ne
    ];
    live_new = λ a b h. elim (x.applied.edges.live a b h) [
      | inl was ↦ inl was
      | inr new ↦ inr (elim new.0 [ inl z ↦ inl (r.block, range.0, z.1) | inr f ↦ inr (r.page, range.1, f.1) ], (r.page, range.1, new.1))
    ];
    live_kept = λ a b h. inl (x.applied.rest.live_kept a b h);
    barred_new = λ a b h. elim (x.applied.edges.barred a b h) [ inl was ↦ inl was | inr new ↦ inr ((r.block, range.0, new.1), (r.page, range.1, new.2)) ];
    barred_kept = x.applied.rest.barred_kept;
  }
    where
      gone : (q : ℕ) → queued m.world.queue q ≡ cond (eqb r.page q) 1 0 + queued n.world.queue q
      gone q = ap (λ rs. queued rs q) x.applied.was_queued ∙ queued_out before after r q ∙ ap (λ rs. cond (eqb r.page q) 1 0 + queued rs q) (sym x.applied.removed)

  module _ (m n : Moment) (p : ℕ) (d : Dropped lay m.world n.world p) where
    dropped_count : (q : ℕ) → IsData lay q → cached_count lay n.world q ≡ cached_count lay m.world q
    dropped_count q is = ap (λ c. lay.count_in c q) (d.cached (lay.count_page q) (apart.table_data (lay.count_page q) p (count_table lay q is) d.is_data))

    live_was : (a b : ℕ) → n.world.live a b ≡ true → m.world.live a b ≡ true
    live_was a b h = elim (cases_eq a (lay.data_page p)) [
      | inl e ↦ absurd (Rattle.std.proofs.Common.true≢false (sym h ∙ ap (λ y. n.world.live y b) e ∙ d.live_gone b))
      | inr ne ↦ sym (d.live a b ne) ∙ h
    ]

    dropped_effects : ((l : ℕ) → n.array l ≡ m.array l) → PassEffects lay m n
    dropped_effects array = record {
      newest = d.newest;
      possible = d.possible;
      hung = d.hung;
      names = λ l lt. ap (λ c. lay.name_in c l) (d.cached (lay.map_page l) (apart.table_data (lay.map_page l) p (map_table lay l lt) d.is_data));
      array = array;
      counts = λ q is. let same = dropped_count q is in let rs : queued n.world.queue q ≡ queued m.world.queue q = ap (λ y. queued y q) d.queue in omega arith;
      lower = λ q is. let same = dropped_count q is in omega arith;
      prints = λ q is pos. ap (λ c. lay.print_in c q) (d.cached (lay.print_page q) (apart.table_data (lay.print_page q) p (print_table lay q is) d.is_data));
      live_new = λ a b h. inl (live_was a b h);
      live_kept = λ a b h. elim (cases_eq a (lay.data_page p)) [ inl e ↦ inr (p, d.is_data, e) | inr ne ↦ inl (d.live a b ne ∙ h) ];
      barred_new = λ a b h. inl (sym (d.barred a b) ∙ h);
      barred_kept = λ a b h. d.barred a b ∙ h;
    }

  drops_effects : (m n : Moment) (p : ℕ) → Drops lay m n p → PassEffects lay m n
  drops_effects m n p x = elim x.world [
    | inr d ↦ dropped_effects m n p d x.array
    | inl e ↦ record {
      newest = e.newest;
      possible = λ a c h. elim h [ inl is ↦ inl (is ∙ e.newest a) | inr has ↦ inr (subst (λ ys. IsAmong c ys) (e.older a) has) ];
      hung = e.hung;
      names = λ l lt. ap (λ c. lay.name_in c l) (e.cached _);
      array = x.array;
      counts = λ q d. let same : cached_count lay n.world q ≡ cached_count lay m.world q = ap (λ c. lay.count_in c q) (e.cached _) in
          let rs : queued n.world.queue q ≡ queued m.world.queue q = ap (λ y. queued y q) e.queue in omega arith;
      lower = λ q d. let same : cached_count lay n.world q ≡ cached_count lay m.world q = ap (λ c. lay.count_in c q) (e.cached _) in omega arith;
      prints = λ q d pos. ap (λ c. lay.print_in c q) (e.cached _);
      live_new = λ a b h. inl (sym (e.live a b) ∙ h);
      live_kept = λ a b h. inl (e.live a b ∙ h);
      barred_new = λ a b h. inl (sym (e.barred a b) ∙ h);
      barred_kept = λ a b h. e.barred a b ∙ h;
    }
  ]

  pub pass_effects : (m n : Moment) (kept todo : List Release) → m.world.queue ≡ kept ++ todo → InRange lay (kept ++ todo) → Pass lay m kept todo n → PassEffects lay m n
  pass_effects m n kept [] queue fits p = subst (λ z. PassEffects lay m z) (sym p) (no_effects lay m)
  pass_effects m n kept (r ∷ todo) queue fits (inl p) = pass_effects m n (kept ++ r ∷ []) todo (queue ∙ sym (append_one kept todo r)) (subst (λ rs. InRange lay rs) (sym (append_one kept todo r)) fits) p.1
  pass_effects m n kept (r ∷ todo) queue fits (inr p) =
      both_effects lay m p.1 n
      (both_effects lay m p.0 p.1 (lowers_effects m p.0 r kept todo (fits r (member_mid r kept todo)) p.2) (drops_effects p.0 p.1 r.page p.3))
      (pass_effects p.1 n kept todo (drops_queue lay p.0 p.1 r.page p.3 ∙ p.2.applied.removed) (λ x is. fits x (member_in x r kept todo is)) p.4)

  -- the queue is left in order
  pub pass_order_kept : (m n : Moment) (kept todo : List Release) → m.world.queue ≡ kept ++ todo → InRange lay (kept ++ todo) → SmallPass lay m kept todo n
      → (rest : List Release) × (n.world.queue ≡ kept ++ rest) × KeepsOrder todo rest
  pass_order_kept m n kept [] queue fits p = ([], ap (λ z. z.world.queue) p ∙ queue, refl)
  pass_order_kept m n kept (r ∷ todo) queue fits (inl p) =
      let later = pass_order_kept m n (kept ++ r ∷ []) todo (queue ∙ sym (append_one kept todo r)) (subst (λ rs. InRange lay rs) (sym (append_one kept todo r)) fits) p.1 in
      (r ∷ later.0, later.1 ∙ append_one kept later.0 r, inr (later.0, refl, later.2))
  pass_order_kept m n kept (r ∷ todo) queue fits (inr p) =
      let later = pass_order_kept p.0 n kept todo (out_queue lay apart m p.0 r kept todo (fits r (member_mid r kept todo)).1 p.1) (λ x is. fits x (member_in x r kept todo is)) p.2 in
      (later.0, later.1, inl later.2)
