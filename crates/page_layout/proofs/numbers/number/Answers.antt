use Rattle.std.proofs.Common.{ap, ◌∙◌, ℕ, List}
use Rattle.std.proofs.lemmas.List.{take_rest}
use Rattle.byteorder.specs.Endian.{little_number}
use Rattle.page_layout.specs.Numbers.{number_at}
use Rattle.page_layout.proofs.numbers.number.Goals as goal

pub returns : goal.returns
unfolding number_at
returns c = c.read_u32.ensures ∙ ap (λ (l : List ℕ). little_number 4 l) (take_rest c.args.bytes.now c.args.at)
