-- Simple replies and their numbers.
use Rattle.std.specs.Prelude.{ℕ, List, ◌++◌}
use Rattle.nbd_wire.specs.declared.reply.ErrorNumber.{ErrorNumber}
use Rattle.nbd_wire.specs.declared.reply.ErrorNumber.TheVariants.{NotPermitted, Io, NoMemory, Invalid, NoSpace}
use Rattle.nbd_wire.specs.BigEndian.{four_bytes, eight_bytes}

-- the number of an error
abbrev pub error_number : ErrorNumber → ℕ
error_number NotPermitted = 1
error_number Io = 5
error_number NoMemory = 12
error_number Invalid = 22
error_number NoSpace = 28

-- the message of a reply, without the bytes that follow a read
abbrev pub reply_message : ℕ → ℕ → List ℕ
reply_message error cookie = four_bytes 0x67446698 ++ four_bytes error ++ eight_bytes cookie
