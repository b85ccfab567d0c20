use Rattle.std.proofs.Common.{◌≡◌, ◌<◌, ◌∙◌, ◌&&◌, not, sym, ap, subst, ℕ, Bool, true, None, eqb, eq-eqb, ne_eqb, is_some}
use Rattle.page_layout.specs.Shape.{print_place}
use Rattle.page_layout.specs.Tables.{print_entry_of}
use Rattle.page_cache.specs.View.{holds_in}
use Rattle.ref_counts.specs.Counts.{count_in}
use Rattle.store_core.specs.Views.{page_in}
use Rattle.store_core.specs.Applied.{count_of_release, has_print_of, is_print_unborn}
use Rattle.store_core.proofs.AppliedLaws.{none_cleared, stays_cleared}
use Rattle.store_core.proofs.AppliedStands.{clears_none, never_both}
use Rattle.store_core.proofs.Edited.{held_there}
use Rattle.store_core.proofs.Core.clear_last_print.Goals as goal

pub count_of-count-requires-clause-first : goal.count_of-count-requires-clause-first
count_of-count-requires-clause-first c = c.requires.placed.first

pub count_of-count-requires-clause-last : goal.count_of-count-requires-clause-last
count_of-count-requires-clause-last c = c.requires.placed.last

pub count_of-count-requires-clause-there : goal.count_of-count-requires-clause-there
count_of-count-requires-clause-there c = held_there c.args.self.now.engine.cache _ (subst (λ (n : ℕ). 0 < holds_in c.args.self.now.engine.cache n) c.requires.placed.count_at c.requires.count_held)

pub print_of-requires-clause-first : goal.print_of-requires-clause-first
print_of-requires-clause-first c = c.requires.placed.first

pub print_of-requires-clause-last : goal.print_of-requires-clause-last
print_of-requires-clause-last c = c.requires.placed.last

pub print_of-requires-clause-there : goal.print_of-requires-clause-there
print_of-requires-clause-there c = held_there c.args.self.now.engine.cache _ (subst (λ (n : ℕ). 0 < holds_in c.args.self.now.engine.cache n) c.requires.placed.print_at c.requires.held)

pub clear_print-requires-clause-one : goal.clear_print-requires-clause-one
clear_print-requires-clause-one c = ap (λ (n : ℕ). count_in (page_in c.args.self.now n) c.args.release.page) c.requires.placed.count_at ∙ sym c.count_of-count.ensures ∙ c.if-count-ne1.false

pub clear_print-requires-clause-had : goal.clear_print-requires-clause-had
clear_print-requires-clause-had c = ap (λ (n : ℕ). is_some (print_entry_of (page_in c.args.self.now n) (print_place c.args.release.page))) c.requires.placed.print_at ∙ ap is_some (sym c.in-Some.ensures)

pub clear_print-requires-clause-opens : goal.clear_print-requires-clause-opens
clear_print-requires-clause-opens c unborn closes =
    let core = c.args.self.now in
    let r = c.args.release in
    let one : count_of_release core r ≡ 1 = ap (λ (n : ℕ). count_in (page_in core n) r.page) c.requires.placed.count_at ∙ sym c.count_of-count.ensures ∙ c.if-count-ne1.false in
    let had : has_print_of core r ≡ true = ap (λ (n : ℕ). is_some (print_entry_of (page_in core n) (print_place r.page))) c.requires.placed.print_at ∙ ap is_some (sym c.in-Some.ensures) in
    c.requires.opens (ap (λ (b : Bool). b && (has_print_of core r && not (is_print_unborn core r))) (eq-eqb (count_of_release core r) 1 one) ∙ ap (λ (b : Bool). b && not (is_print_unborn core r)) had ∙ ap not unborn) closes

pub returns-then-count-ne1-clause-cleared : goal.returns-then-count-ne1-clause-cleared
returns-then-count-ne1-clause-cleared c =
    let core = c.args.self.now in
    let r = c.args.release in
    let more : count_of_release core r ≡ 1 → ⊥ = λ one. c.if-count-ne1.true (c.count_of-count.ensures ∙ sym (ap (λ (n : ℕ). count_in (page_in core n) r.page) c.requires.placed.count_at) ∙ one) in
    clears_none core r (λ one. absurd (more one)) (ap (λ (b : Bool). b && has_print_of core r) (ne_eqb (count_of_release core r) 1 more))

pub returns-then-count-ne1-clause-laws : goal.returns-then-count-ne1-clause-laws
returns-then-count-ne1-clause-laws c =
    let core = c.args.self.now in
    let r = c.args.release in
    stays_cleared core r c.requires.placed c.requires.count_held (λ one. c.if-count-ne1.true (c.count_of-count.ensures ∙ sym (ap (λ (n : ℕ). count_in (page_in core n) r.page) c.requires.placed.count_at) ∙ one))

pub returns-then-count-ne1-clause-stands : goal.returns-then-count-ne1-clause-stands
returns-then-count-ne1-clause-stands c = λ sound d array s. s

pub returns-in-None-clause-cleared : goal.returns-in-None-clause-cleared
returns-in-None-clause-cleared c =
    let core = c.args.self.now in
    let r = c.args.release in
    let none : print_entry_of (page_in core r.print_at) (print_place r.page) ≡ None = ap (λ (n : ℕ). print_entry_of (page_in core n) (print_place r.page)) c.requires.placed.print_at ∙ sym c.in-None.ensures in
    clears_none core r (λ one. none) (never_both (eqb (count_of_release core r) 1) (has_print_of core r) (ap is_some none))

pub returns-in-None-clause-laws : goal.returns-in-None-clause-laws
returns-in-None-clause-laws c =
    let core = c.args.self.now in
    let r = c.args.release in
    none_cleared core r c.requires.placed c.requires.held (ap (λ (n : ℕ). print_entry_of (page_in core n) (print_place r.page)) c.requires.placed.print_at ∙ sym c.in-None.ensures)

pub returns-in-None-clause-stands : goal.returns-in-None-clause-stands
returns-in-None-clause-stands c = λ sound d array s. s

pub returns-then-count-ne1-clause-in_order : goal.returns-then-count-ne1-clause-in_order
returns-then-count-ne1-clause-in_order c o = o

pub returns-in-None-clause-in_order : goal.returns-in-None-clause-in_order
returns-in-None-clause-in_order c o = o
