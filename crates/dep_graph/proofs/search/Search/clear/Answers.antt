use Rattle.std.proofs.Common.{◌≡◌, ◌∙◌, inl, inr, ap, length, get_or, false, ℕ, List, Bool, arith}
use Rattle.std.proofs.lemmas.Bool.{cases_Bool}
use Rattle.std.proofs.lemmas.List.{with_items_is}
use Rattle.dep_graph.specs.Pages.{holds}
use Rattle.dep_graph.proofs.SearchLemmas.{queued_within, nothing_marked}
use Rattle.dep_graph.proofs.search.Search.clear.Goals as goal

pub unmark-requires : goal.unmark-requires
unmark-requires c = rw (c.deref.ensures.value, c.deref_mut.ensures.value) (queued_within c.self.inside.marks.items c.self.inside.queue.items c.self.invariant.0)

cleared : (c : goal.After-clear) (k : ℕ) → get_or c.unmark.new.marks k false ≡ false
cleared c k =
    let same : holds c.deref.result.now k ≡ holds c.self.inside.queue.items k = ap (λ (l : List ℕ). holds l k) c.deref.ensures.value in
    elim (cases_Bool (holds c.self.inside.queue.items k)) [
      | inl on ↦ c.unmark.ensures.gone k (same ∙ on)
      | inr off ↦ c.unmark.ensures.others k (same ∙ off) ∙ ap (λ (l : List Bool). get_or l k false) c.deref_mut.ensures.value ∙ c.self.invariant.0.mark k ∙ off
    ]

pub invariant_of-self : goal.invariant_of-self
invariant_of-self c =
    let long : length c.unmark.new.marks ≡ c.self.inside.marks.len = omega (arith, ap length c.deref_mut.ensures.value) in
    let is = with_items_is c.self.inside.marks c.unmark.new.marks long in
    rw is (nothing_marked c.unmark.new.marks c.clear.new.self.items c.clear.ensures.items (cleared c), omega (arith, c.clear.ensures.capacity, c.self.invariant.1, ap length c.deref_mut.ensures.value), omega (arith, c.self.invariant.2, ap length c.deref_mut.ensures.value))
