-- How many numbers below n pass a test.
use Rattle.std.proofs.Common.{◌≡◌, ◌≢◌, ◌⊎◌, inl, inr, ◌+◌, ◌<◌, ◌≤◌, ℕ, zero, suc, Bool, true, false, ◌||◌, eqb, arith, refl, ap, List, [], ◌∷◌, eq-eqb, ne_eqb}
use Rattle.std.specs.Prelude.{if◌then◌else◌}
use Rattle.std.proofs.lemmas.Bool.{cases_eq, cases_Bool, or_left, or_right}
use Rattle.order_model.specs.World.{Release, Queued, queued}
use Rattle.order_model.specs.Counting.{count_below}

bit_mono : (x y : Bool) → (x ≡ true → y ≡ true) → (if x then 1 else 0) ≤ (if y then 1 else 0)
bit_mono false y h = omega arith
bit_mono true true h = omega arith
bit_mono true false h = cc (h refl)

pub count_mono : (n : ℕ) (f g : ℕ → Bool) → ((l : ℕ) → l < n → f l ≡ true → g l ≡ true) → count_below f n ≤ count_below g n
unfolding count_below
count_mono zero f g h = omega arith
count_mono (suc n) f g h =
    let here = bit_mono (f n) (g n) (h n (omega arith)) in
    let below = count_mono n f g (λ l lt e. h l (omega arith) e) in
    omega arith

-- a test that also passes at one number passes at no more than one more
bit_or : (x y : Bool) → (if x || y then 1 else 0) ≤ (if x then 1 else 0) + (if y then 1 else 0)
bit_or true true = omega arith
bit_or true false = omega arith
bit_or false true = omega arith
bit_or false false = omega arith

pub count_or : (n : ℕ) (f g : ℕ → Bool) → count_below (λ l. f l || g l) n ≤ count_below f n + count_below g n
unfolding count_below
count_or zero f g = omega arith
count_or (suc n) f g =
    let here = bit_or (f n) (g n) in
    let below = count_or n f g in
    omega arith

pub count_none : (n : ℕ) (f : ℕ → Bool) → ((l : ℕ) → l < n → f l ≡ false) → count_below f n ≡ 0
unfolding count_below
count_none zero f h = refl
count_none (suc n) f h =
    let here = h n (omega arith) in
    let below = count_none n f (λ l lt. h l (omega arith)) in
    rw (here, below)

pub count_one : (n b : ℕ) → count_below (λ l. eqb l b) n ≤ 1
unfolding count_below
count_one zero b = omega arith
count_one (suc n) b = elim (cases_eq n b) [
  | inl e ↦ let none : count_below (λ l. eqb l b) n ≡ 0 = count_none n (λ l. eqb l b) (λ l lt. ne_eqb l b (λ q. omega arith)) in
      rw (eq-eqb n b e, none) (omega arith)
  | inr ne ↦ let rest = count_one n b in rw (ne_eqb n b ne) (omega arith)
]

-- a release of p by l is queued, at some stage
abbrev pub Owed : List Release → ℕ → ℕ → Type 0
Owed [] l p = ⊥
Owed (r ∷ rs) l p = ((r.block ≡ l) × (r.page ≡ p)) ⊎ Owed rs l p

pub owed : (rs : List Release) (l p stage : ℕ) → Queued rs l p stage → Owed rs l p
owed [] l p stage q = q
owed (r ∷ rs) l p stage (inl q) = inl (q.0, q.1)
owed (r ∷ rs) l p stage (inr q) = inr (owed rs l p stage q)

-- Those that have the name in the cache or owe a release are no more than the names and the releases: each release serves one block.
pub count_owed : (rs : List Release) (n p : ℕ) (S g : ℕ → Bool) → ((l : ℕ) → l < n → S l ≡ true → (g l ≡ true) ⊎ Owed rs l p)
    → count_below S n ≤ count_below g n + queued rs p
count_owed [] n p S g h =
    let m = count_mono n S g (λ l lt e. elim (h l lt e) [ inl t ↦ t | inr q ↦ absurd q ]) in
    omega arith
count_owed (r ∷ rs) n p S g h = elim (cases_eq r.page p) [
  | inl e ↦
      let more = count_owed rs n p S (λ l. g l || eqb l r.block) (λ l lt t. elim (h l lt t) [
        | inl a ↦ inl (or_left (g l) (eqb l r.block) a)
        | inr q ↦ elim q [ inl a ↦ inl (or_right (g l) (eqb l r.block) (eq-eqb l r.block (omega (arith, a)))) | inr b ↦ inr b ]
      ]) in
      let split = count_or n g (λ l. eqb l r.block) in
      let one = count_one n r.block in
      rw (eq-eqb r.page p e) (omega arith)
  | inr ne ↦
      let more = count_owed rs n p S g (λ l lt t. elim (h l lt t) [
        | inl a ↦ inl a
        | inr q ↦ elim q [ inl a ↦ absurd (ne a.1) | inr b ↦ inr b ]
      ]) in
      rw (ne_eqb r.page p ne) (omega arith)
]

pub count_ext : (n : ℕ) (f g : ℕ → Bool) → ((l : ℕ) → l < n → f l ≡ g l) → count_below f n ≡ count_below g n
unfolding count_below
count_ext zero f g h = refl
count_ext (suc n) f g h = rw (h n (omega arith), count_ext n f g (λ l lt. h l (omega arith)))

pub count_gain : (n b : ℕ) (f g : ℕ → Bool) → b < n → f b ≡ false → g b ≡ true → ((l : ℕ) → l < n → l ≢ b → g l ≡ f l)
    → count_below g n ≡ count_below f n + 1
unfolding count_below
count_gain zero b f g lt off on same = omega arith
count_gain (suc n) b f g lt off on same = elim (cases_eq n b) [
  | inl e ↦
      let rest : count_below g n ≡ count_below f n = count_ext n g f (λ l lt. same l (omega arith) (λ q. omega arith)) in
      rw (ap g e, on, ap f e, off, rest) (omega arith)
  | inr ne ↦
      let rest : count_below g n ≡ count_below f n + 1 = count_gain n b f g (omega arith) off on (λ l lt q. same l (omega arith) q) in
      rw (same n (omega arith) ne, rest) (omega arith)
]

pub count_has : (n b : ℕ) (f : ℕ → Bool) → b < n → f b ≡ true → 0 < count_below f n
unfolding count_below
count_has zero b f lt on = omega arith
count_has (suc n) b f lt on = elim (cases_eq n b) [
  | inl e ↦ rw (ap f e, on) (omega arith)
  | inr ne ↦ let rest = count_has n b f (omega arith) on in omega arith
]

-- where some are counted one of them passes
pub count_some : (n : ℕ) (f : ℕ → Bool) → 0 < count_below f n → (l : ℕ) × (l < n) × (f l ≡ true)
unfolding count_below
count_some zero f pos = absurd (omega (arith, pos))
count_some (suc n) f pos = elim (cases_Bool (f n)) [
  | inl is ↦ (n, omega arith, is)
  | inr off ↦ let less = rw off at pos in let more = count_some n f (omega arith) in (more.0, omega (arith, more.1), more.2)
]
