-- What stands where in the message of a request.
use Rattle.std.specs.Prelude.{◌≡◌, ℕ, slice_range, refl}
use Rattle.std.proofs.Common.{ap, ◌∙◌}
use Rattle.nbd_wire.specs.declared.request.Request.{Request}
use Rattle.nbd_wire.specs.BigEndian.{two_bytes, four_bytes, eight_bytes}
use Rattle.nbd_wire.specs.Requests.{request_magic, request_message}

pub magic_at : (request : Request) → slice_range (request_message request) 0 4 ≡ request_magic
unfolding two_bytes four_bytes eight_bytes
magic_at request = refl

pub flags_at : (request : Request) → slice_range (request_message request) 4 6 ≡ two_bytes request.flags
unfolding two_bytes four_bytes eight_bytes
flags_at request = refl

pub kind_at : (request : Request) → slice_range (request_message request) 6 8 ≡ two_bytes request.kind
unfolding two_bytes four_bytes eight_bytes
kind_at request = refl

pub cookie_at : (request : Request) → slice_range (request_message request) 8 16 ≡ eight_bytes request.cookie
unfolding two_bytes four_bytes eight_bytes
cookie_at request = refl

pub offset_at : (request : Request) → slice_range (request_message request) 16 24 ≡ eight_bytes request.offset
unfolding two_bytes four_bytes eight_bytes
offset_at request = refl

pub length_at : (request : Request) → slice_range (request_message request) 24 28 ≡ four_bytes request.length
unfolding two_bytes four_bytes eight_bytes
length_at request = refl

-- a request by its fields
abbrev made : ℕ → ℕ → ℕ → ℕ → ℕ → Request
made flags kind cookie offset length = record { flags = flags; kind = kind; cookie = cookie; offset = offset; length = length }

-- requests with the same fields are the same
pub same_request : (a b : Request) → a.flags ≡ b.flags → a.kind ≡ b.kind → a.cookie ≡ b.cookie → a.offset ≡ b.offset → a.length ≡ b.length → a ≡ b
same_request a b flags kind cookie offset length =
    ap (λ n. made n a.kind a.cookie a.offset a.length) flags
    ∙ ap (λ n. made b.flags n a.cookie a.offset a.length) kind
    ∙ ap (λ n. made b.flags b.kind n a.offset a.length) cookie
    ∙ ap (λ n. made b.flags b.kind b.cookie n a.length) offset
    ∙ ap (λ n. made b.flags b.kind b.cookie b.offset n) length
