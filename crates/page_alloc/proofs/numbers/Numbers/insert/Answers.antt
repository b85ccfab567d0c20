use Rattle.std.proofs.Common.{◌≡◌, ℕ, ◌/◌, ◌∙◌, ◌||◌, List, ap, eqb, get_or, length, arith, eq-eqb, refl}
use Rattle.std.proofs.lemmas.List.{with_items_is}
use Rattle.page_alloc.specs.Numbers.{holds}
use Rattle.page_alloc.proofs.NumberLemmas.{summary_set}
use Rattle.page_alloc.proofs.numbers.Numbers.insert.Goals as goal

pub invariant_of-self : goal.invariant_of-self
invariant_of-self c =
    let long : length c.set.new.words ≡ c.self.inside.words.len = omega (arith, ap length c.deref_mut.ensures.value) in
    let long_tops : length c.set-2.new.words ≡ c.self.inside.tops.len = omega (arith, ap length c.deref_mut-2.ensures.value) in
    rw (with_items_is c.self.inside.words c.set.new.words long, with_items_is c.self.inside.tops c.set-2.new.words long_tops)
    (summary_set c.self.inside.words.items c.self.inside.tops.items c.set.new.words c.set-2.new.words c.args.n c.self.invariant
    (omega (arith, ap length c.deref_mut.ensures.value))
    (omega (arith, ap length c.deref_mut-2.ensures.value))
    (λ w apart. c.set.ensures.others w apart ∙ ap (λ (l : List ℕ). get_or l w 0) c.deref_mut.ensures.value)
    (c.set.ensures.held c.args.n ∙ ap (λ b. b || holds c.deref_mut.result.now c.args.n) (eq-eqb c.args.n c.args.n refl))
    (λ w. c.set-2.ensures.held w ∙ ap (λ (l : List ℕ). eqb (c.args.n / 64) w || holds l w) c.deref_mut-2.ensures.value))
