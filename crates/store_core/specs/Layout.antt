-- The plain layout of an image's shape, read by the entries of the format.
use Rattle.std.specs.Prelude.{ℕ}
use Rattle.order_model.specs.World.{Layout}
use Rattle.order_model.specs.declared.Slot.{Slot}
use Rattle.order_model.specs.declared.Slot.TheVariants.{Name, Print}
use Rattle.page_device.specs.Block.{zero_block}
use Rattle.page_layout.specs.Fingerprint.{fingerprint_of}
use Rattle.page_layout.specs.Formed.{is_formed}
use Rattle.page_layout.specs.Numbers.{entry_of}
use Rattle.page_layout.specs.Shape.{ShapeView, count_page, count_place, data_page, map_page, map_place, print_page, print_place}
use Rattle.page_layout.specs.Tables.{print_entry_of}

abbrev pub lay_of : ShapeView → Layout
lay_of shape = record {
  blocks = shape.blocks;
  pages = shape.pages;
  map_page = map_page;
  count_page = count_page shape;
  print_page = print_page shape;
  data_page = data_page shape;
  name_in = λ c l. entry_of c (map_place l);
  count_in = λ c p. entry_of c (count_place p);
  print_in = λ c p. print_entry_of c (print_place p);
  well_formed = is_formed shape;
  zero_block = zero_block;
  finger = fingerprint_of shape.version;
}

-- the highest count
abbrev pub top : ℕ
top = 2147483647

-- the page on which a name or a print stands
abbrev pub place_of : ShapeView → Slot → ℕ
place_of shape (Name l) = map_page l
place_of shape (Print p) = print_page shape p
