-- Prints are ordered as the numbers that their bytes make.
use Rattle.std.proofs.Common.{◌≡◌, ⊎_elim, ℕ, zero, suc, ◌+◌, ◌*◌, ◌^◌, ◌<◌, ◌≤◌, List, [], ◌∷◌, length, Some, Option, Bool, true, false, nat_lt, nat_le, le-leb, lt-ltb, le-ltb, refl, sym, subst, ◌∙◌, ap, arith, slice_index}
use Rattle.std.specs.Ordering.{nat_cmp, ordering_then, MatchOrdering}
use Rattle.std.specs.declared.cmp.Ordering.{Ordering}
use Rattle.std.specs.declared.cmp.Ordering.TheVariants.{Less, Equal, Greater}
use Rattle.std.specs.Cmp.Lexicographic.{slice_cmp}
use Rattle.std.proofs.lemmas.Cmp.{ranked}
use Rattle.std.proofs.lemmas.Bool.{cases_lt, lt-leb}
use Rattle.std.proofs.Math.Nat.{mul-le-mul_right, pow-succ'}
use Rattle.finger_table.specs.Order.{IsPrint, rank, key_of, print_in}

-- each is a byte
abbrev AreBytes : List ℕ → Type 0
AreBytes xs = (k : ℕ) → slice_index xs k < 256

-- a higher first byte decides
higher : (x y low r s : ℕ) → x < y → r < low → x * low + r < y * low + s
higher x y low r s lt fits = let more : (1 + x) * low ≤ y * low = mul-le-mul_right low (omega arith) in omega (arith, more)

-- so many bytes make a number below that power
rank_fits : (xs : List ℕ) → AreBytes xs → rank xs < 256 ^ length xs
rank_fits [] h = omega arith
rank_fits (x ∷ xs) h =
    let tail : rank xs < 256 ^ length xs = rank_fits xs (λ k. h (suc k)) in
    let whole : x * 256 ^ length xs + rank xs < 256 * 256 ^ length xs + 0 = higher x 256 (256 ^ length xs) (rank xs) 0 (h zero) tail in
    rw (pow-succ' 256 (length xs)) (omega (arith, whole))

-- two bytes, and what is behind them
step : (x y low r s : ℕ) (o p : Ordering) → r < low → s < low → MatchOrdering o (x < y) (x ≡ y) (y < x) → MatchOrdering p (r < s) (r ≡ s) (s < r)
    → MatchOrdering (ordering_then o p) (x * low + r < y * low + s) (x * low + r ≡ y * low + s) (y * low + s < x * low + r)
step x y low r s Less p fits_r fits_s first rest = higher x y low r s first fits_r
step x y low r s Greater p fits_r fits_s first rest = higher y x low s r first fits_s
step x y low r s Equal Less fits_r fits_s first rest = rw first (omega arith)
step x y low r s Equal Equal fits_r fits_s first rest = rw first (omega arith)
step x y low r s Equal Greater fits_r fits_s first rest = rw first (omega arith)

-- lists of bytes compare as their numbers
pub rank_compares : (xs ys : List ℕ) → length xs ≡ length ys → AreBytes xs → AreBytes ys → MatchOrdering (slice_cmp nat_cmp xs ys) (rank xs < rank ys) (rank xs ≡ rank ys) (rank ys < rank xs)
rank_compares [] [] l h k = refl
rank_compares [] (y ∷ ys) l h k = absurd (omega (arith, l))
rank_compares (x ∷ xs) [] l h k = absurd (omega (arith, l))
rank_compares (x ∷ xs) (y ∷ ys) l h k =
    let same : length xs ≡ length ys = omega (arith, l) in
    let low : ℕ = 256 ^ length xs in
    let fits : rank ys < low = rw same (rank_fits ys (λ i. k (suc i))) in
    rw (← same) (step x y low (rank xs) (rank ys) (nat_cmp x y) (slice_cmp nat_cmp xs ys) (rank_fits xs (λ i. h (suc i))) fits (ranked x y (nat_cmp x y) refl) (rank_compares xs ys same (λ i. h (suc i)) (λ i. k (suc i))))

-- the first bytes, and what is behind them
parts : (x y low r s : ℕ) → r < low → s < low → x * low + r ≡ y * low + s → (x ≡ y) × (r ≡ s)
parts x y low r s fits_r fits_s is =
    ⊎_elim (λ lt. absurd (omega (arith, is, higher x y low r s lt fits_r)))
    (λ le. ⊎_elim (λ gt. absurd (omega (arith, is, higher y x low s r gt fits_s))) (λ ge. let e : x ≡ y = omega arith in (e, omega (arith, ap (λ (n : ℕ). n * low) e))) (cases_lt y x))
    (cases_lt x y)

-- different lists have different numbers
pub rank_tells : (xs ys : List ℕ) → length xs ≡ length ys → AreBytes xs → AreBytes ys → rank xs ≡ rank ys → xs ≡ ys
rank_tells [] [] l h k is = refl
rank_tells [] (y ∷ ys) l h k is = absurd (omega (arith, l))
rank_tells (x ∷ xs) [] l h k is = absurd (omega (arith, l))
rank_tells (x ∷ xs) (y ∷ ys) l h k is =
    let same : length xs ≡ length ys = omega (arith, l) in
    let fits : rank ys < 256 ^ length xs = rw same (rank_fits ys (λ i. k (suc i))) in
    let both : (x ≡ y) × (rank xs ≡ rank ys) = parts x y (256 ^ length xs) (rank xs) (rank ys) (rank_fits xs (λ i. h (suc i))) fits (rw same (rw same at is)) in
    let tails : xs ≡ ys = rank_tells xs ys same (λ i. h (suc i)) (λ i. k (suc i)) both.1 in
    let heads : x ≡ y = both.0 in cc

-- what a comparison answers of a page and a number of a print
abbrev answer : Ordering → ℕ → ℕ → Bool
answer Less page from = true
answer Equal page from = nat_lt page from
answer Greater page from = false

-- is whether the page is before
pub compared : (table : List (Option (List ℕ))) (page : ℕ) (own print : List ℕ) (from : ℕ) (o : Ordering) → page < 4294967296 → from ≤ 4294967296 → print_in table page ≡ Some own → IsPrint own → IsPrint print
    → o ≡ slice_cmp nat_cmp own print → answer o page from ≡ nat_le (key_of (print_in table page) page) (rank print * 4294967296 + from)
compared table page own print from o small upto is p q by =
    rw is (by_order o (subst (λ (r : Ordering). MatchOrdering r (rank own < rank print) (rank own ≡ rank print) (rank print < rank own)) (sym by) (rank_compares own print (p.whole ∙ sym q.whole) p.bytes q.bytes)))
  where
    by_order : (r : Ordering) → MatchOrdering r (rank own < rank print) (rank own ≡ rank print) (rank print < rank own) → answer r page from ≡ nat_le (key_of (Some own) page) (rank print * 4294967296 + from)
    by_order Less lt = sym (le-leb (key_of (Some own) page) (rank print * 4294967296 + from) (omega arith))
    by_order Equal e = ⊎_elim (λ lt. lt-ltb page from lt ∙ sym (le-leb (key_of (Some own) page) (rank print * 4294967296 + from) (omega (arith, e))))
        (λ le. le-ltb page from le ∙ sym (lt-leb (key_of (Some own) page) (rank print * 4294967296 + from) (omega (arith, e)))) (cases_lt page from)
    by_order Greater gt = sym (lt-leb (key_of (Some own) page) (rank print * 4294967296 + from) (omega arith))
