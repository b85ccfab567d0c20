use Rattle.std.proofs.Common.{◌∙◌, rules}
use Rattle.std.proofs.lemmas.Nat.{be_bytes_4}
use Rattle.nbd_wire.specs.BigEndian.{four_bytes}
use Rattle.nbd_wire.proofs.big_endian.u32_at.Goals as goal

pub returns : goal.returns
unfolding four_bytes
returns c = be_bytes_4 c.piece.result c.from_be_bytes.result (search rules) (search rules) c.from_be_bytes.ensures ∙ c.piece.ensures
