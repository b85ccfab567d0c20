-- No complete schedule has fewer barriers than a node's level, and waves have no more than the greatest.
use Rattle.std.proofs.Common.{◌≡◌, inl, inr, ◌+◌, ◌-◌, ◌<◌, ◌≤◌, ◌++◌, ℕ, zero, suc, true, false, cond, arith, sym, ap, ◌∙◌, List, [], ◌∷◌, length, append_assoc}
use Rattle.std.proofs.lemmas.Bool.{cases_Bool, false_from_ne_true, true≢false}
use Rattle.order_model.specs.Levels.{EndsAreMarked, HasLevels, IsGreatestLevel, IsNode, Marks, StepsUp, Waits}
use Rattle.dep_graph.specs.Schedules.{IsComplete, MakeBarrier, Respects, Schedule, Wave, Waves, WritePage, barriers, times_written}

barriers_parts : (s t : Schedule) → barriers (s ++ t) ≡ barriers s + barriers t
barriers_parts [] t = omega arith
barriers_parts (WritePage page ∷ s) t = barriers_parts s t
barriers_parts (MakeBarrier ∷ s) t = let more = barriers_parts s t in omega arith

module _ (m : Marks) (level : ℕ → ℕ) (ends : EndsAreMarked m) (levels : HasLevels m level) where
  steps_wait : (p : ℕ) → StepsUp m level p → Waits m p
  steps_wait p (inl s) = (s.0, inl s.1.0)
  steps_wait p (inr s) = (s.0, inr s.1.0)

  pub at_least_one : (p : ℕ) → IsNode m p → 1 ≤ level p
  at_least_one p node = elim (levels.is p node) [
    | inl one ↦ omega arith
    | inr up ↦ elim up.1 [
      | inl s ↦ let e = s.1.1 in omega arith
      | inr s ↦ let e = s.1.1 in omega arith
    ]
  ]

  pub waiting_is_above : (p : ℕ) → Waits m p → 1 < level p
  waiting_is_above p (a, inl l) = let one = at_least_one a (inl (ends.live a p l).0) in let more = levels.above_live a p l in omega arith
  waiting_is_above p (a, inr b) = levels.above_barred a p b

  above_waits : (p : ℕ) → IsNode m p → 1 < level p → (m.dirty p ≡ true) × Waits m p
  above_waits p node more = elim (levels.is p node) [
    | inl one ↦ absurd (omega arith)
    | inr up ↦ (up.0, steps_wait p up.1)
  ]

  module _ (s : Schedule) (respects : Respects m s) where
    -- a page of a high level is written late
    late : (n p : ℕ) → level p ≤ n → IsNode m p → (before after : Schedule) → s ≡ before ++ WritePage p ∷ after → level p ≤ barriers before + 1
    late zero p le node before after e = omega arith
    late (suc n) p le node before after e = elim (levels.is p node) [
      | inl one ↦ omega arith
      | inr up ↦ elim up.1 [
        | inr b ↦ let some = respects.after_barrier b.0 p b.1.0 before after e in let two = b.1.1 in omega arith
        | inl l ↦
            let f = respects.after_write l.0 p l.1.0 before after e in
            let there : s ≡ f.before ++ WritePage l.0 ∷ (f.after ++ WritePage p ∷ after) = e ∙ ap (λ x. x ++ WritePage p ∷ after) f.split ∙ append_assoc f.before (WritePage l.0 ∷ f.after) (WritePage p ∷ after) in
            let is = l.1.1 in
            let fewer = late n l.0 (omega arith) (inl (ends.live l.0 p l.1.0).0) f.before (f.after ++ WritePage p ∷ after) there in
            let count : barriers before ≡ barriers f.before + barriers f.after = ap barriers f.split ∙ barriers_parts f.before (WritePage l.0 ∷ f.after) in
            let one = f.barrier in
            omega arith
      ]
    ]

    module _ (complete : IsComplete m s) where
      of_dirty : (p : ℕ) → m.dirty p ≡ true → level p ≤ barriers s
      of_dirty p d =
          let f = complete.written p d in
          let before = late (level p) p (omega arith) (inl d) f.0 f.1 f.2 in
          let count : barriers s ≡ barriers f.0 + barriers f.1 = ap barriers f.2 ∙ barriers_parts f.0 (WritePage p ∷ f.1) in
          let one = complete.last p d f.0 f.1 f.2 in
          omega arith

      pub fewest : (p : ℕ) → IsNode m p → level p ≤ barriers s
      fewest p (inl d) = of_dirty p d
      fewest p (inr h) = elim (levels.is p (inr h)) [
        | inl one ↦ let some = complete.fixed p h in omega arith
        | inr up ↦ of_dirty p up.0
      ]

  module _ (n : Marks) (wave : Wave m n) where
    wave_ends : EndsAreMarked n
    wave_ends = record {
      live = λ a b e. let q = wave.live a b e in let d = ends.live a b q.0 in (wave.dirty_kept a d.0 q.1, wave.dirty_kept b d.1 (a, inl q.0));
      barred = λ a b e. absurd (true≢false (sym e ∙ wave.barred a b));
    }

    left : (p : ℕ) → IsNode n p → (m.dirty p ≡ true) × Waits m p
    left p (inl d) = wave.dirty p d
    left p (inr h) = absurd (true≢false (sym h ∙ wave.hung p))

    -- each node that is left is one level lower
    wave_levels : HasLevels n (λ p. level p - 1)
    wave_levels = record {
      is = λ p node. let q = left p node in let high = waiting_is_above p q.1 in elim (levels.is p (inl q.0)) [
        | inl one ↦ absurd (omega arith)
        | inr up ↦ elim up.1 [
          | inr b ↦ let two = b.1.1 in inl (omega arith)
          | inl l ↦ let is = l.1.1 in let node_a = ends.live l.0 p l.1.0 in elim (levels.is l.0 (inl node_a.0)) [
            | inl one ↦ inl (omega arith)
            | inr up_a ↦
                let waits : Waits m l.0 = steps_wait l.0 up_a.1 in
                let high_a = waiting_is_above l.0 waits in
                inr (wave.dirty_kept p q.0 q.1, inl (l.0, (wave.live_kept l.0 p l.1.0 waits, omega arith)))
          ]
        ]
      ];
      above_live = λ a b e. let q = wave.live a b e in let lt = levels.above_live a b q.0 in let high = waiting_is_above a q.1 in omega arith;
      above_barred = λ a b e. absurd (true≢false (sym e ∙ wave.barred a b));
    }

no_longer : (m : Marks) (ns : List Marks) (level : ℕ → ℕ) → EndsAreMarked m → HasLevels m level → Waves m ns → (p : ℕ) → IsNode m p → level p ≤ length ns
no_longer m [] level ends levels w p node = absurd (w p node)
no_longer m (n ∷ ns) level ends levels w p node = elim (levels.is p node) [
  | inl one ↦ omega arith
  | inr up ↦
      let waits : Waits m p = steps_wait m level ends levels p up.1 in
      let less = no_longer n ns (λ p. level p - 1) (wave_ends m level ends levels n w.0) (wave_levels m level ends levels n w.0) w.1 p (inl (w.0.dirty_kept p up.0 waits)) in
      omega arith
]

as_long : (m : Marks) (ns : List Marks) (level : ℕ → ℕ) → EndsAreMarked m → HasLevels m level → Waves m ns → 0 < length ns → (p : ℕ) × (IsNode m p × (level p ≡ length ns))
as_long m [] level ends levels w pos = absurd (omega arith)
as_long m (n ∷ []) level ends levels w pos = let p = w.0.node in (
  p.0,
  (
    p.1,
    elim (levels.is p.0 p.1) [
      | inl one ↦ one
      | inr up ↦ absurd (w.1 p.0 (inl (w.0.dirty_kept p.0 up.0 (steps_wait m level ends levels p.0 up.1))))
    ],
  ),
)
as_long m (n ∷ (o ∷ os)) level ends levels w pos =
    let rest = as_long n (o ∷ os) (λ p. level p - 1) (wave_ends m level ends levels n w.0) (wave_levels m level ends levels n w.0) w.1 (omega arith) in
    let q = left m level ends levels n w.0 rest.0 rest.1.0 in
    let high = waiting_is_above m level ends levels rest.0 q.1 in
    let is = rest.1.1 in
    (rest.0, (inl q.0, omega arith))

-- there are exactly as many waves as the greatest level
pub waves_are : (m : Marks) (ns : List Marks) (n : ℕ) → EndsAreMarked m → Waves m ns → IsGreatestLevel m n → length ns ≡ n
waves_are m [] n ends w g = elim g.reached [
  | inl none ↦ sym none.0
  | inr top ↦ absurd (w top.0 top.1.0)
]
waves_are m (o ∷ os) n ends w g = elim g.reached [
  | inl none ↦ absurd (none.1 w.0.node.0 w.0.node.1)
  | inr top ↦
      let le = no_longer m (o ∷ os) g.level ends g.levels w top.0 top.1.0 in
      let high = as_long m (o ∷ os) g.level ends g.levels w (omega arith) in
      let most = g.most high.0 high.1.0 in
      let is = top.1.1 in
      let as' = high.1.1 in
      omega arith
]

pub fewest_barriers : (m : Marks) (n : ℕ) (s : Schedule) → EndsAreMarked m → IsGreatestLevel m n → Respects m s → IsComplete m s → n ≤ barriers s
fewest_barriers m n s ends g respects complete = elim g.reached [
  | inl none ↦ let z = none.0 in omega arith
  | inr top ↦ let le = fewest m g.level ends g.levels s respects complete top.0 top.1.0 in let is = top.1.1 in omega arith
]

-- and each dirty page is written once, and no other page
pub written_once : (p : ℕ) (m : Marks) (ns : List Marks) → Waves m ns → times_written p m ns ≡ cond (m.dirty p) 1 0
written_once p m [] w = elim (cases_Bool (m.dirty p)) [
  | inl d ↦ absurd (w p (inl d))
  | inr off ↦ rw off
]
written_once p m (n ∷ ns) w = let more = written_once p n ns w.1 in elim (cases_Bool (m.dirty p)) [
  | inl d ↦ elim (cases_Bool (n.dirty p)) [
    | inl e ↦ let still : times_written p n ns ≡ 1 = more ∙ ap (λ b. cond b 1 0) e in rw (d, e) (omega arith)
    | inr e ↦ let none : times_written p n ns ≡ 0 = more ∙ ap (λ b. cond b 1 0) e in rw (d, e) (omega arith)
  ]
  | inr off ↦
      let e : n.dirty p ≡ false = false_from_ne_true _ (λ y. true≢false (sym (w.0.dirty p y).0 ∙ off)) in
      let none : times_written p n ns ≡ 0 = more ∙ ap (λ b. cond b 1 0) e in
      rw off (omega arith)
]

-- a level is one number
pub level_is_one : (m : Marks) (f g : ℕ → ℕ) → EndsAreMarked m → HasLevels m f → HasLevels m g → (n p : ℕ) → f p ≤ n → IsNode m p → f p ≤ g p
level_is_one m f g ends hf hg zero p le node = omega arith
level_is_one m f g ends hf hg (suc n) p le node = elim (hf.is p node) [
  | inl one ↦ let some = at_least_one m g ends hg p node in omega arith
  | inr up ↦ elim up.1 [
    | inr b ↦ let two = b.1.1 in let high = hg.above_barred b.0 p b.1.0 in omega arith
    | inl l ↦
        let is = l.1.1 in
        let before = level_is_one m f g ends hf hg n l.0 (omega arith) (inl (ends.live l.0 p l.1.0).0) in
        let high = hg.above_live l.0 p l.1.0 in
        omega arith
  ]
]
