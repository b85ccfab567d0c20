-- The edges that a loop has gone over.
use Rattle.std.proofs.Common.{◌≡◌, inl, inr, ℕ, zero, suc, ◌+◌, ◌-◌, ◌<◌, ◌≤◌, Bool, true, false, ◌&&◌, ◌||◌, cond, List, [], ◌∷◌, length, take, get_or, refl, ◌∙◌, ap, arith, eqb, eqb-true, eq-eqb, ne_eqb, add-one}
use Rattle.std.proofs.lemmas.Bool.{and_parts, cases_Bool, cases_eq}
use Rattle.dep_graph.specs.declared.pairs.Pair.{Pair}
use Rattle.dep_graph.specs.Pairs.{has_pair, ends_at}
use Rattle.dep_graph.proofs.PageLemmas.{flip}

pub ends_more : (ps : List Pair) (i : ℕ) (d : Pair) (b : ℕ) → i < length ps → ends_at (take (i + 1) ps) b ≡ ends_at (take i ps) b + cond (eqb b (get_or ps i d).after) 1 0
unfolding ends_at
ends_more [] i d b lt = absurd (omega arith)
ends_more (p ∷ ps) zero d b lt = rw (flip p.after b) (omega arith)
ends_more (p ∷ ps) (suc i) d b lt =
    let more = ends_more ps i d b (omega arith) in
    rw add-one (ap (λ n. cond (eqb p.after b) 1 0 + n) (rw add-one at more) ∙ turn (cond (eqb p.after b) 1 0) (ends_at (take i ps) b) (cond (eqb b (get_or ps i d).after) 1 0))
  where
    turn : (x y z : ℕ) → x + (y + z) ≡ x + y + z
    turn x y z = omega arith

pub ends_within : (ps : List Pair) (i b : ℕ) → ends_at (take i ps) b ≤ ends_at ps b
unfolding ends_at
ends_within ps zero b = omega arith
ends_within [] (suc i) b = omega arith
ends_within (p ∷ ps) (suc i) b = let rest = ends_within ps i b in omega arith

-- the edge that comes next still counts
pub ends_next : (ps : List Pair) (i : ℕ) (d : Pair) → i < length ps → ends_at (take i ps) (get_or ps i d).after < ends_at ps (get_or ps i d).after
ends_next ps i d lt =
    let more = rw (eq-eqb (get_or ps i d).after (get_or ps i d).after refl) at (ends_more ps i d (get_or ps i d).after lt) in
    let le = ends_within ps (i + 1) (get_or ps i d).after in
    omega arith

pub has_more : (ps : List Pair) (i : ℕ) (d : Pair) (a b : ℕ) → i < length ps → has_pair (take (i + 1) ps) a b ≡ has_pair (take i ps) a b || (eqb a (get_or ps i d).before && eqb b (get_or ps i d).after)
has_more [] i d a b lt = absurd (omega arith)
has_more (p ∷ ps) zero d a b lt = rw (flip p.before a, flip p.after b) (last (eqb a p.before && eqb b p.after))
  where
    last : (x : Bool) → (x || false) ≡ (false || x)
    last x = grind arith
has_more (p ∷ ps) (suc i) d a b lt = rw add-one (ap (λ n. (eqb p.before a && eqb p.after b) || n) (rw add-one at (has_more ps i d a b (omega arith))) ∙ turn (eqb p.before a && eqb p.after b) (has_pair (take i ps) a b) (eqb a (get_or ps i d).before && eqb b (get_or ps i d).after))
  where
    turn : (x y z : Bool) → (x || (y || z)) ≡ ((x || y) || z)
    turn x y z = grind arith

-- a pair that is there adds nothing
pub is_there : (f : ℕ → ℕ → Bool) (x y a b : ℕ) → f x y ≡ true → f a b ≡ f a b || (eqb a x && eqb b y)
is_there f x y a b h = elim (cases_Bool (eqb a x && eqb b y)) [
  | inr off ↦ rw off (no_more (f a b))
  | inl both ↦
      let e = eqb-true a x (and_parts (eqb a x) (eqb b y) both).0 in
      let d = eqb-true b y (and_parts (eqb a x) (eqb b y) both).1 in
      let held : f a b ≡ true = rw (e, d) h in
      rw (both, held)
]
  where
    no_more : (p : Bool) → p ≡ (p || false)
    no_more p = grind arith

-- the number beside a page, where the number of one page falls by 1
pub lowered : (b x old at new done more start : ℕ) → (b ≡ x → old ≡ at) → 0 < at → new ≡ cond (eqb b x) (old - 1) old → old + done ≡ start → more ≡ done + cond (eqb b x) 1 0 → new + more ≡ start
lowered b x old at new done more start same some is total next = elim (cases_eq b x) [
  | inl e ↦ let f = same e in let t = rw (eq-eqb b x e) at is in let n = rw (eq-eqb b x e) at next in omega arith
  | inr ne ↦ let t = rw (ne_eqb b x ne) at is in let n = rw (ne_eqb b x ne) at next in omega arith
]

-- the number beside a page whose edge waits for a barrier already
pub barred_before : (p : Pair) (b old at new : ℕ) (base : ℕ) → (b ≡ p.after → old ≡ at) → 0 < at → new ≡ cond (eqb b p.after) (old - 1) old → new + ends_at (p ∷ []) b + base ≡ old + base
unfolding ends_at
barred_before p b old at new base same some is = elim (cases_eq b p.after) [
  | inl e ↦ let f = same e in let t = rw (eq-eqb b p.after e) at is in rw (flip p.after b, eq-eqb b p.after e) (omega arith)
  | inr ne ↦ let t = rw (ne_eqb b p.after ne) at is in rw (flip p.after b, ne_eqb b p.after ne) (omega arith)
]

pub ends_one_more : (ps : List Pair) (i : ℕ) (d : Pair) (b : ℕ) → i < length ps → ends_at (take (i + 1) ps) b ≡ ends_at (take i ps) b + ends_at (get_or ps i d ∷ []) b
unfolding ends_at
ends_one_more ps i d b lt = rw (flip (get_or ps i d).after b) (ends_more ps i d b lt ∙ (let z : (x y : ℕ) → x + y ≡ x + (y + 0) = λ x y. omega arith in z _ _))
