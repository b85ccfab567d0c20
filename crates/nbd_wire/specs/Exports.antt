-- What the client is told of the export.
use Rattle.std.specs.Prelude.{ℕ, ◌+◌, ◌^◌, List, ◌++◌}
use Rattle.nbd_wire.specs.BigEndian.{two_bytes, eight_bytes}

-- the transmission flags: HAS_FLAGS, SEND_FLUSH, SEND_FUA and SEND_TRIM
abbrev pub transmission_flags : ℕ
transmission_flags = 2 ^ 0 + 2 ^ 2 + 2 ^ 3 + 2 ^ 5

-- the size and the flags
abbrev pub export_message : ℕ → List ℕ
export_message size = eight_bytes size ++ two_bytes transmission_flags

-- the information INFO_EXPORT, whose number is 0
abbrev pub info_message : ℕ → List ℕ
info_message size = two_bytes 0 ++ eight_bytes size ++ two_bytes transmission_flags
