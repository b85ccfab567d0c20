-- What stands where in the message of an option.
use Rattle.std.specs.Prelude.{◌≡◌, ℕ, slice_range, refl}
use Rattle.std.proofs.Common.{ap, ◌∙◌}
use Rattle.nbd_wire.specs.declared.option_head.OptionHead.{OptionHead}
use Rattle.nbd_wire.specs.BigEndian.{four_bytes, eight_bytes}
use Rattle.nbd_wire.specs.Options.{option_magic, option_message}

pub magic_at : (head : OptionHead) → slice_range (option_message head) 0 8 ≡ option_magic
unfolding four_bytes eight_bytes
magic_at head = refl

pub number_at : (head : OptionHead) → slice_range (option_message head) 8 12 ≡ four_bytes head.number
unfolding four_bytes eight_bytes
number_at head = refl

pub length_at : (head : OptionHead) → slice_range (option_message head) 12 16 ≡ four_bytes head.length
unfolding four_bytes eight_bytes
length_at head = refl

-- a head by its fields
abbrev made : ℕ → ℕ → OptionHead
made number length = record { number = number; length = length }

-- heads with the same fields are the same
pub same_head : (a b : OptionHead) → a.number ≡ b.number → a.length ≡ b.length → a ≡ b
same_head a b number length = ap (λ n. made n a.length) number ∙ ap (λ n. made b.number n) length
