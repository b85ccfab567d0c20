-- The layout of a device's pages: where each entry stands, and how it is read from the bytes of its page.
use Rattle.std.specs.Prelude.{◌++◌, ◌∷◌, length, replicate, Bool, List, None, Option, Some, cond, drop, eqb, get_or, set, take, ℕ, ◌%◌, ◌*◌, ◌+◌, ◌-◌, ◌/◌}
use Rattle.order_model.specs.World.{Layout}

abbrev pub number_at : List ℕ → ℕ → ℕ
number_at c i = get_or c i 0 + 256 * get_or c (i + 1) 0 + 65536 * get_or c (i + 2) 0 + 16777216 * get_or c (i + 3) 0

-- c with n in the four bytes at i
abbrev pub with_number : List ℕ → ℕ → ℕ → List ℕ
with_number c i n = set (set (set (set c i (n % 256)) (i + 1) (n / 256 % 256)) (i + 2) (n / 65536 % 256)) (i + 3) (n / 16777216)

-- c with these bytes from i on
abbrev pub with_bytes : List ℕ → ℕ → List ℕ → List ℕ
with_bytes c i bytes = take i c ++ (bytes ++ drop (i + length bytes) c)

-- the 24 bytes of a print's entry: a flag and three zeros, and then the print
abbrev pub print_entry : Option (List ℕ) → List ℕ
print_entry None = replicate 24 0
print_entry (Some print) = 1 ∷ (0 ∷ (0 ∷ (0 ∷ print)))

abbrev pub map_pages : ℕ → ℕ
map_pages blocks = (blocks + 1023) / 1024

abbrev pub count_pages : ℕ → ℕ
count_pages pages = (pages + 1023) / 1024

abbrev pub print_pages : ℕ → ℕ
print_pages pages = (pages + 169) / 170

-- all pages of a device: the first one, those of the three tables, and the data pages
abbrev pub pages_of : ℕ → ℕ → ℕ
pages_of blocks pages = 1 + map_pages blocks + count_pages pages + print_pages pages + pages

abbrev pub print_at : List ℕ → ℕ → Option (List ℕ)
print_at c i = cond (eqb (get_or c i 0) 1) (Some (take 20 (drop (i + 4) c))) None

abbrev pub layout_of : ℕ → ℕ → (ℕ → List ℕ → Bool) → List ℕ → (List ℕ → List ℕ) → Layout
layout_of blocks pages well_formed zero_block finger = record {
  blocks = blocks;
  pages = pages;
  map_page = λ l. 1 + l / 1024;
  count_page = λ p. 1 + map_pages blocks + (p - 1) / 1024;
  print_page = λ p. 1 + map_pages blocks + count_pages pages + (p - 1) / 170;
  data_page = λ p. 1 + map_pages blocks + count_pages pages + print_pages pages + (p - 1);
  name_in = λ c l. number_at c (4 * (l % 1024));
  count_in = λ c p. number_at c (4 * ((p - 1) % 1024));
  print_in = λ c p. print_at c (24 * ((p - 1) % 170));
  well_formed = well_formed;
  zero_block = zero_block;
  finger = finger;
}
