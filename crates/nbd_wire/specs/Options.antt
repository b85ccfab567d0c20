-- The messages of the handshake.
use Rattle.std.specs.Prelude.{ℕ, ◌<◌, ◌^◌, List, ◌++◌}
use Rattle.nbd_wire.specs.declared.option_head.OptionHead.{OptionHead}
use Rattle.nbd_wire.specs.BigEndian.{two_bytes, four_bytes, eight_bytes}

-- the letters IHAVEOPT, with which each option begins
abbrev pub option_magic : List ℕ
option_magic = eight_bytes 0x49484156454f5054

-- what the server sends first: the letters NBDMAGIC, then IHAVEOPT, and its flags
abbrev pub greeting : List ℕ
greeting = eight_bytes 0x4e42444d41474943 ++ option_magic ++ two_bytes 3

-- the message of an option, without its data
abbrev pub option_message : OptionHead → List ℕ
option_message head = option_magic ++ four_bytes head.number ++ four_bytes head.length

-- its numbers have the sizes of their fields
pub record IsOptionHead (head : OptionHead) : Type 0 where
  pub number : head.number < 2 ^ 32
  pub length : head.length < 2 ^ 32

-- the message of a reply to an option, without its data
abbrev pub option_reply_message : ℕ → ℕ → ℕ → List ℕ
option_reply_message number reply length = eight_bytes 0x0003e889045565a9 ++ four_bytes number ++ four_bytes reply ++ four_bytes length
