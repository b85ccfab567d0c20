use Rattle.std.proofs.Common.{◌∙◌, rules}
use Rattle.std.proofs.lemmas.Nat.{be_bytes_8}
use Rattle.nbd_wire.specs.BigEndian.{eight_bytes}
use Rattle.nbd_wire.proofs.big_endian.u64_at.Goals as goal

pub returns : goal.returns
unfolding eight_bytes
returns c = be_bytes_8 c.piece.result c.from_be_bytes.result (search rules) (search rules) c.from_be_bytes.ensures ∙ c.piece.ensures
