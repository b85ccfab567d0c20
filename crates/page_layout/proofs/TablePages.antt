-- A table page is well formed where each of its entries is.
use Rattle.std.proofs.Common.{ℕ, ◌<◌, refl, arith}
use Rattle.page_device.specs.Block.{Block}
use Rattle.page_layout.specs.Shape.{ShapeView}
use Rattle.page_layout.specs.Entries.{entries_of, IsEntry, IsTablePage}
use Rattle.page_layout.specs.declared.shape.Table.{Table}
use Rattle.page_layout.specs.declared.shape.Table.TheVariants.{Map, Count, Print}

pub page_of_entries : (t : Table) (shape : ShapeView) (n : ℕ) (content : Block) → ((i : ℕ) → i < entries_of t → IsEntry t shape n content i) → IsTablePage t shape n content
page_of_entries Map shape n content h = record { used = λ i lt used. (h i lt).within (omega arith); rest = λ i lt rest. (h i lt).behind (omega arith) }
page_of_entries Count shape n content h = record { used = λ i lt used. (h i lt).within (omega arith); rest = λ i lt rest. (h i lt).behind (omega arith) }
page_of_entries Print shape n content h = record {
  used = λ i lt used. (h i (omega arith)).within lt (omega arith);
  rest = λ i lt rest. (h i (omega arith)).behind lt (omega arith);
  tail = (h 170 (omega arith)).tail refl;
}

pub entries_of_page : (t : Table) (shape : ShapeView) (n : ℕ) (content : Block) → IsTablePage t shape n content → (i : ℕ) → i < entries_of t → IsEntry t shape n content i
entries_of_page Map shape n content h i lt = record { within = λ used. h.used i lt (omega arith); behind = λ rest. h.rest i lt (omega arith) }
entries_of_page Count shape n content h i lt = record { within = λ used. h.used i lt (omega arith); behind = λ rest. h.rest i lt (omega arith) }
entries_of_page Print shape n content h i lt = record {
  within = λ before used. h.used i before (omega arith);
  behind = λ before rest. h.rest i before (omega arith);
  tail = λ _. h.tail;
}
