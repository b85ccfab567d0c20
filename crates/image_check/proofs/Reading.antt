-- How many reads were made.
use Rattle.std.proofs.Common.{◌≡◌, ◌⊎◌, inl, inr, ℕ, zero, suc, ◌+◌, ◌-◌, ◌/◌, ◌≤◌, if◌then◌else◌, cond, List, Option, is_some, refl, sym, ◌∙◌, ap, subst, arith, add-one}
use Rattle.page_device.specs.Block.{Block}
use Rattle.page_device.specs.Counts.{raised}
use Rattle.page_device.specs.Meaning.{Meaning, SameKind}
use Rattle.page_layout.specs.Shape.{ShapeView, first_data_page, print_page, print_place}
use Rattle.page_layout.specs.Tables.{page_of, shape_of, print_of, print_entry_of}
use Rattle.array_model.proofs.CountingLemmas.{count_below-same, count_below-next, count_below-most}
use Rattle.image_reader.specs.Looked.{Reads, reads_then}
use Rattle.image_check.specs.declared.verdict.Stop.{Stop}
use Rattle.image_check.specs.declared.verdict.Stop.TheVariants.{Device, Told}
use Rattle.image_check.specs.declared.verdict.Verdict.{Verdict}
use Rattle.image_check.specs.declared.verdict.Verdict.TheVariants.{Sound, Damaged, LowCount, WrongPrint, PrintOnZero}
use Rattle.image_check.specs.Steps.{ArePrints}
use Rattle.image_check.specs.Reads.{AtMost, Hashed, IsDamageOf, ReadsAfter, StopReads, StoppedFrom, StoppedHashing, print_in, printed, printed_in, reads_of}

-- at most so many, of an exact number, and of reads and then others
pub most_of : (n most : ℕ) (a b : Meaning) → n ≤ most → Reads n a b → AtMost most a b
most_of n most a b le h = record { counted = λ t few. let e : b.reads ≡ raised a.reads n = h.counted t few in (omega (arith, few, e), omega (arith, le, e)) }

pub most_then : (m n all : ℕ) (a b c : Meaning) → m + n ≤ all → SameKind a b → AtMost m a b → AtMost n b c → AtMost all a c
most_then m n all a b c le kind h k = record {
  counted = λ t few. let first = h.counted t few in
      let next = k.counted (kind.tells_reads ∙ t) (omega (arith, first.1)) in
      (omega (arith, first.0, next.0), omega (arith, le, first.1, next.1));
}

-- some reads before the rest
pub after_reads : (n before all : ℕ) (a b c : Meaning) → SameKind a b → Reads n a b → ReadsAfter (before + n) all b c → ReadsAfter before all a c
after_reads n before all a b c kind h k = record { made = n + k.made; all_is = omega (arith, k.all_is); reads = reads_then n k.made (n + k.made) a b c refl kind h k.reads }

-- a malformed entry ends the reading at its page
damage_reads : (k : ℕ) (v : Verdict) (image : List Block) → IsDamageOf k v → reads_of v image ≡ k + 1
damage_reads k (Damaged damage) image is = ap (λ (n : ℕ). n + 1) is
damage_reads k (LowCount page stored named) image is = absurd is
damage_reads k (WrongPrint page) image is = absurd is
damage_reads k (PrintOnZero page) image is = absurd is
damage_reads k (Sound waste) image is = absurd is

pub table_stop : (n from : ℕ) (stop : Stop) (image : List Block) (a b c : Meaning) → 1 + n ≡ from → SameKind a b → Reads n a b → StoppedFrom from stop b c → StopReads 1 stop image a c
table_stop n from Device image a b c sum kind h k = tt
table_stop n from (Told v) image a b c sum kind h k =
    after_reads n 1 (reads_of v image) a b c kind h (record { made = k.page + 1 - from; all_is = omega (arith, damage_reads k.page v image k.is, k.at_least, sum); reads = k.reads })

-- one data page more
pub printed_next : (prints : List Block) (at : ℕ) → printed_in prints (suc at) ≡ (if is_some (print_in prints (at + 1)) then 1 else 0) + printed_in prints at
printed_next prints at = count_below-next (λ k. is_some (print_in prints (k + 1))) at

pub reads_next : (prints : List Block) (at : ℕ) (print : Option (List ℕ)) (a b c : Meaning) → print ≡ print_in prints (at + 1) → SameKind a b → Reads (printed_in prints at) a b → Reads (cond (is_some print) 1 0) b c → Reads (printed_in prints (at + 1)) a c
reads_next prints at print a b c is kind h k = reads_then (printed_in prints at) (cond (is_some print) 1 0) (printed_in prints (at + 1)) a b c next kind h k
  where
    one : ◌≡◌ {A = ℕ} (cond (is_some print) 1 0) (if is_some (print_in prints (at + 1)) then 1 else 0)
    one = ap (λ (o : Option (List ℕ)). cond {A = ℕ} (is_some o) 1 0) is

    next : printed_in prints (at + 1) ≡ printed_in prints at + cond (is_some print) 1 0
    next = ap (printed_in prints) (add-one at) ∙ omega (arith, printed_next prints at, one)

pub printed_most : (prints : List Block) (n : ℕ) → printed_in prints n ≤ n
printed_most prints n = count_below-most (λ k. is_some (print_in prints (k + 1))) n

module _ (shape : ShapeView) (prints image : List Block) (told : shape_of image ≡ shape) (are : ArePrints shape prints image) where
  -- the prints of the image are those of its print pages
  pub kept_print : (p : ℕ) → 1 ≤ p → p ≤ shape.pages → print_of image p ≡ print_in prints p
  kept_print p one le =
      ap (λ (s : ShapeView). print_entry_of (page_of image (print_page s p)) (print_place p)) told
      ∙ ap (λ (b : Block). print_entry_of b (print_place p)) (sym (are ((p - 1) / 170) (omega (arith, one, le))))

  kept_printed : (n : ℕ) → n ≤ shape.pages → printed image n ≡ printed_in prints n
  kept_printed n le = count_below-same (λ k. is_some (print_of image (k + 1))) (λ k. is_some (print_in prints (k + 1))) n (λ k lt. ap is_some (kept_print (k + 1) (omega arith) (omega (arith, lt, le))))

  all_printed : first_data_page (shape_of image) + printed image (shape_of image).pages ≡ first_data_page shape + printed_in prints shape.pages
  all_printed = ap (λ (s : ShapeView). first_data_page s + printed image s.pages) told ∙ ap (λ (n : ℕ). first_data_page shape + n) (kept_printed shape.pages (omega arith))

  pub hashed_after : (v : Verdict) (a b : Meaning) → Hashed prints shape.pages v a b → ReadsAfter (first_data_page shape) (reads_of v image) a b
  hashed_after (Damaged damage) a b h = absurd h
  hashed_after (LowCount page stored named) a b h = absurd h
  hashed_after (WrongPrint page) a b h = record {
    made = printed_in prints page;
    all_is = ap (λ (s : ShapeView). first_data_page s + printed image page) told ∙ ap (λ (n : ℕ). first_data_page shape + n) (kept_printed page h.0);
    reads = h.1;
  }
  hashed_after (PrintOnZero page) a b h = record { made = printed_in prints shape.pages; all_is = all_printed; reads = h }
  hashed_after (Sound waste) a b h = record { made = printed_in prints shape.pages; all_is = all_printed; reads = h }

  pub hash_reads : (n : ℕ) (v : Verdict) (a b c : Meaning) → 1 + n ≡ first_data_page shape → SameKind a b → Reads n a b → Hashed prints shape.pages v b c → ReadsAfter 1 (reads_of v image) a c
  hash_reads n v a b c sum kind h k = after_reads n 1 (reads_of v image) a b c kind h (subst (λ (m : ℕ). ReadsAfter m (reads_of v image) b c) (sym sum) (hashed_after v b c k))

  pub hash_stop : (n : ℕ) (stop : Stop) (a b c : Meaning) → 1 + n ≡ first_data_page shape → SameKind a b → Reads n a b → StoppedHashing prints shape.pages stop b c → StopReads 1 stop image a c
  hash_stop n Device a b c sum kind h k = tt
  hash_stop n (Told v) a b c sum kind h k = hash_reads n v a b c sum kind h k

-- at most as many as there are pages, where page 0 was looked for
pub super_most : (pages : ℕ) (a b : Meaning) → Reads 0 a b ⊎ Reads 1 a b → (pages ≡ 0 → Reads 0 a b) → AtMost pages a b
super_most zero a b some none = most_of 0 0 a b (omega arith) (none refl)
super_most (suc pages) a b (inl h) none = most_of 0 (suc pages) a b (omega arith) h
super_most (suc pages) a b (inr h) none = most_of 1 (suc pages) a b (omega arith) h

-- the reads after page 0
pub with_super : (all : ℕ) (a b c : Meaning) → SameKind a b → Reads 1 a b → ReadsAfter 1 all b c → Reads all a c
with_super all a b c kind h k = reads_then 1 k.made all a b c k.all_is kind h k.reads
