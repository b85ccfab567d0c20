-- The numbers of requests, options and replies to options.
use Rattle.std.specs.Prelude.{ℕ, ◌+◌, ◌^◌}
use Rattle.nbd_wire.specs.declared.request_kind.RequestKind.{RequestKind}
use Rattle.nbd_wire.specs.declared.request_kind.RequestKind.TheVariants.{Read, Write, Disconnect, Flush, Trim}
use Rattle.nbd_wire.specs.declared.option_kind.OptionKind.{OptionKind}
use Rattle.nbd_wire.specs.declared.option_kind.OptionKind.TheVariants.{ExportName, Abort, ListExports, Info, Go}
use Rattle.nbd_wire.specs.declared.option_reply.OptionReply.{OptionReply}
use Rattle.nbd_wire.specs.declared.option_reply.OptionReply.TheVariants.{Acknowledged, Server, Information, Unsupported, Invalid, Unknown}

abbrev pub request_number : RequestKind → ℕ
request_number Read = 0
request_number Write = 1
request_number Disconnect = 2
request_number Flush = 3
request_number Trim = 4

abbrev pub option_number : OptionKind → ℕ
option_number ExportName = 1
option_number Abort = 2
option_number ListExports = 3
option_number Info = 6
option_number Go = 7

-- errors have the highest of 32 bits set
abbrev pub option_reply_number : OptionReply → ℕ
option_reply_number Acknowledged = 1
option_reply_number Server = 2
option_reply_number Information = 3
option_reply_number Unsupported = 2 ^ 31 + 1
option_reply_number Invalid = 2 ^ 31 + 3
option_reply_number Unknown = 2 ^ 31 + 6
