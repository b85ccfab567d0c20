-- Requests and their bytes.
use Rattle.std.specs.Prelude.{ℕ, ◌<◌, ◌^◌, List, ◌++◌}
use Rattle.nbd_wire.specs.declared.request.Request.{Request}
use Rattle.nbd_wire.specs.BigEndian.{two_bytes, four_bytes, eight_bytes}

-- the bytes with which each request begins
abbrev pub request_magic : List ℕ
request_magic = four_bytes 0x25609513

-- the message of a request
abbrev pub request_message : Request → List ℕ
request_message request = request_magic ++ two_bytes request.flags ++ two_bytes request.kind ++ eight_bytes request.cookie ++ eight_bytes request.offset ++ four_bytes request.length

-- its numbers have the sizes of their fields
pub record IsRequest (request : Request) : Type 0 where
  pub flags : request.flags < 2 ^ 16
  pub kind : request.kind < 2 ^ 16
  pub cookie : request.cookie < 2 ^ 64
  pub offset : request.offset < 2 ^ 64
  pub length : request.length < 2 ^ 32
