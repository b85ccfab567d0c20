-- The waves of a graph give a level to each page: the number of the wave that writes it.
use Rattle.std.proofs.Common.{◌≡◌, ◌⊎◌, inl, inr, ◌+◌, ◌<◌, ◌≤◌, ℕ, suc, Bool, true, false, cond, arith, sym, ap, ◌∙◌, List, [], ◌∷◌, length, refl}
use Rattle.std.proofs.lemmas.Bool.{cases_Bool, true≢false}
use Rattle.order_model.specs.Levels.{EndsAreMarked, HasLevels, IsGreatestLevel, IsNode, Marks, StepsUp, Waits}
use Rattle.dep_graph.specs.Schedules.{Wave, Waves}

-- one more than in the marks after a wave, where it is dirty still
unfoldable pub level_of : List Marks → ℕ → ℕ
level_of [] p = 1
level_of (n ∷ ns) p = cond (n.dirty p) (suc (level_of ns p)) 1

at_least_one : (ns : List Marks) (p : ℕ) → 1 ≤ level_of ns p
unfolding level_of
at_least_one [] p = omega arith
at_least_one (n ∷ ns) p = by (n.dirty p)
  where
    by : (b : Bool) → 1 ≤ cond b (suc (level_of ns p)) 1
    by true = omega arith
    by false = omega arith

on : (n : Marks) (ns : List Marks) (p : ℕ) → n.dirty p ≡ true → level_of (n ∷ ns) p ≡ suc (level_of ns p)
unfolding level_of
on n ns p e = rw e

off : (n : Marks) (ns : List Marks) (p : ℕ) → n.dirty p ≡ false → level_of (n ∷ ns) p ≡ 1
unfolding level_of
off n ns p e = rw e

module _ (m n : Marks) (ends : EndsAreMarked m) (wave : Wave m n) where
  ends_after : EndsAreMarked n
  ends_after = record {
    live = λ a b e. let q = wave.live a b e in let d = ends.live a b q.0 in (wave.dirty_kept a d.0 q.1, wave.dirty_kept b d.1 (a, inl q.0));
    barred = λ a b e. absurd (true≢false (sym e ∙ wave.barred a b));
  }

  ends_dirty : (a b : ℕ) → (m.live a b ≡ true) ⊎ (m.barred a b ≡ true) → n.dirty b ≡ true
  ends_dirty a b (inl l) = wave.dirty_kept b (ends.live a b l).1 (a, inl l)
  ends_dirty a b (inr l) = wave.dirty_kept b (ends.barred a b l).1 (a, inr l)

  module _ (ns : List Marks) (levels : HasLevels n (level_of ns)) where
    up : (p : ℕ) → n.dirty p ≡ true → Waits m p → (level_of ns p ≡ 1) ⊎ ((n.dirty p ≡ true) × StepsUp n (level_of ns) p) → StepsUp m (level_of (n ∷ ns)) p
    up p d (a, inr b) (inl one) = inr (a, (b, on n ns p d ∙ ap suc one))
    up p d (a, inl l) (inl one) = elim (cases_Bool (n.dirty a)) [
      | inr clean ↦ inl (a, (l, on n ns p d ∙ ap suc one ∙ ap (λ k. k + 1) (sym (off n ns a clean))))
      | inl dirty ↦ absurd (
          let lt = levels.above_live a p (wave.live_kept a p l (wave.dirty a dirty).1) in
          let one_a = at_least_one ns a in
          omega (arith, lt, one_a, one))
    ]
    up p d w (inr (d', inr b)) = absurd (true≢false (sym b.1.0 ∙ wave.barred b.0 p))
    up p d w (inr (d', inl l)) =
        let was = wave.live l.0 p l.1.0 in
        let a_on = on n ns l.0 (wave.dirty_kept l.0 (ends.live l.0 p was.0).0 was.1) in
        let p_on = on n ns p d in
        let is = l.1.1 in
        inl (l.0, (was.0, omega (arith, a_on, p_on, is)))

    above : (a b : ℕ) → m.live a b ≡ true → n.dirty b ≡ true → level_of (n ∷ ns) a < level_of (n ∷ ns) b
    above a b l d = elim (cases_Bool (n.dirty a)) [
      | inl dirty ↦
          let lt = levels.above_live a b (wave.live_kept a b l (wave.dirty a dirty).1) in
          let a_on = on n ns a dirty in
          let b_on = on n ns b d in
          omega (arith, lt, a_on, b_on)
      | inr clean ↦
          let a_off = off n ns a clean in
          let b_on = on n ns b d in
          let one = at_least_one ns b in
          omega (arith, a_off, b_on, one)
    ]

    has_levels : HasLevels m (level_of (n ∷ ns))
    has_levels = record {
      is = λ p node. elim (cases_Bool (n.dirty p)) [
        | inr clean ↦ inl (off n ns p clean)
        | inl dirty ↦ inr ((wave.dirty p dirty).0, up p dirty (wave.dirty p dirty).1 (levels.is p (inl dirty)))
      ];
      above_live = λ a b l. above a b l (ends_dirty a b (inl l));
      above_barred = λ a b l. let d = on n ns b (ends_dirty a b (inr l)) in let one = at_least_one ns b in omega (arith, d, one);
    }

all_levels : (m : Marks) (ns : List Marks) → EndsAreMarked m → Waves m ns → HasLevels m (level_of ns)
all_levels m [] ends w = record {
  is = λ p node. absurd (w p node);
  above_live = λ a b l. absurd (w a (inl (ends.live a b l).0));
  above_barred = λ a b l. absurd (w b (inl (ends.barred a b l).1));
}
all_levels m (n ∷ ns) ends w = has_levels m n ends w.0 ns (all_levels n ns (ends_after m n ends w.0) w.1)

most : (m : Marks) (ns : List Marks) → Waves m ns → (p : ℕ) → IsNode m p → level_of ns p ≤ length ns
most m [] w p node = absurd (w p node)
most m (n ∷ ns) w p node = elim (cases_Bool (n.dirty p)) [
  | inl dirty ↦ let more = most n ns w.1 p (inl dirty) in let is = on n ns p dirty in omega (arith, more, is)
  | inr clean ↦ let is = off n ns p clean in omega (arith, is)
]

top : (m n : Marks) (ns : List Marks) → Waves m (n ∷ ns) → (p : ℕ) × (IsNode m p × (level_of (n ∷ ns) p ≡ length (n ∷ ns)))
top m n [] w = (
  w.0.node.0,
  (
    w.0.node.1,
    elim (cases_Bool (n.dirty w.0.node.0)) [
      | inl dirty ↦ absurd (w.1 w.0.node.0 (inl dirty))
      | inr clean ↦ off n [] w.0.node.0 clean
    ],
  ),
)
top m n (o ∷ os) w =
    let rest = top n o os w.1 in
    elim rest.1.0 [
      | inl dirty ↦ (rest.0, (inl (w.0.dirty rest.0 dirty).0, on n (o ∷ os) rest.0 dirty ∙ ap suc rest.1.1))
      | inr hung ↦ absurd (true≢false (sym hung ∙ w.0.hung rest.0))
    ]

-- as many waves as the greatest level
pub waves_have_levels : (m : Marks) (ns : List Marks) → EndsAreMarked m → Waves m ns → IsGreatestLevel m (length ns)
waves_have_levels m [] ends w = record { level = level_of []; levels = all_levels m [] ends w; most = most m [] w; reached = inl (refl, w) }
waves_have_levels m (n ∷ ns) ends w = record { level = level_of (n ∷ ns); levels = all_levels m (n ∷ ns) ends w; most = most m (n ∷ ns) w; reached = inr (top m n ns w) }
