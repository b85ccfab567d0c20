use Rattle.std.proofs.Common.{◌≡◌, ◌∙◌, ◌&&◌, ◌||◌, inl, inr, ℕ, Bool, true, false, List, get_or, eqb, eq-eqb, ne_eqb, sym, ap, arith}
use Rattle.std.proofs.lemmas.Bool.{and_parts, cases_eq}
use Rattle.dep_graph.specs.Pages.{holds}
use Rattle.dep_graph.specs.Waits.{waits_for}
use Rattle.dep_graph.proofs.PageLemmas.{fewer_by_one, found}
use Rattle.dep_graph.proofs.search.list_if_ready.Goals as goal

pub include-requires-clause-room : goal.include-requires-clause-room
include-requires-clause-room c = λ off.
    let is = ap (λ (l : List ℕ). get_or l c.args.place 0) c.pages.ensures.pages in
    let there = found c.args.dirty.now.pages c.args.place (get_or c.pages.result.now c.args.place 0) c.requires.place (sym is) in
    let lt = fewer_by_one c.args.listed.now.items c.args.dirty.now.pages (get_or c.pages.result.now c.args.place 0) c.requires.rising c.pages.ensures.rising c.requires.some there off in
    omega (arith, lt, c.requires.room)

both : (p a : ℕ) (l : Bool) (f : ℕ → Bool) → f p ≡ true → (l || eqb a p) ≡ (l || (eqb p a && f a))
both p a l f on = elim (cases_eq p a) [
  | inl e ↦ rw (eq-eqb p a e, eq-eqb a p (sym e), ap f (sym e) ∙ on)
  | inr ne ↦ rw (ne_eqb p a ne, ne_eqb a p (λ e. ne (sym e)))
]

neither : (p a : ℕ) (l : Bool) (f : ℕ → Bool) → f p ≡ false → l ≡ (l || (eqb p a && f a))
neither p a l f off = elim (cases_eq p a) [
  | inl e ↦ rw (eq-eqb p a e, ap f (sym e) ∙ off) (same l)
  | inr ne ↦ rw (ne_eqb p a ne) (same l)
]
  where
    same : (x : Bool) → x ≡ (x || false)
    same x = grind arith

pub returns-then-is_ready-clause-listed : goal.returns-then-is_ready-clause-listed
returns-then-is_ready-clause-listed c =
    let is = ap (λ (l : List ℕ). get_or l c.args.place 0) c.pages.ensures.pages in
    let ready = (and_parts (holds c.args.dirty.now.pages (get_or c.pages.result.now c.args.place 0)) (eqb (waits_for c.args.dirty.now (get_or c.pages.result.now c.args.place 0)) 0) (sym c.is_ready.ensures ∙ c.if-is_ready.true)).1 in
    λ a.
    c.include.ensures.pages a ∙ both (get_or c.pages.result.now c.args.place 0) a (holds c.args.listed.now.items a) (λ n. eqb (waits_for c.args.dirty.now n) 0) ready
    ∙ ap (λ (n : ℕ). holds c.args.listed.now.items a || (eqb n a && eqb (waits_for c.args.dirty.now a) 0)) is

pub returns-else-is_ready-clause-listed : goal.returns-else-is_ready-clause-listed
returns-else-is_ready-clause-listed c =
    let is = ap (λ (l : List ℕ). get_or l c.args.place 0) c.pages.ensures.pages in
    let there = found c.args.dirty.now.pages c.args.place (get_or c.pages.result.now c.args.place 0) c.requires.place (sym is) in
    let waits = on_left (holds c.args.dirty.now.pages (get_or c.pages.result.now c.args.place 0)) (eqb (waits_for c.args.dirty.now (get_or c.pages.result.now c.args.place 0)) 0) there (sym c.is_ready.ensures ∙ c.if-is_ready.false) in
    λ a.
    neither (get_or c.pages.result.now c.args.place 0) a (holds c.args.listed.now.items a) (λ n. eqb (waits_for c.args.dirty.now n) 0) waits
    ∙ ap (λ (n : ℕ). holds c.args.listed.now.items a || (eqb n a && eqb (waits_for c.args.dirty.now a) 0)) is
  where
    on_left : (x y : Bool) → x ≡ true → (x && y) ≡ false → y ≡ false
    on_left x y e f = grind arith
