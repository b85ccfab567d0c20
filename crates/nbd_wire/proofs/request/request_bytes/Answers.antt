use Rattle.std.proofs.Common.{rules}
use Rattle.nbd_wire.proofs.Parts.{all_of, and_then}
use Rattle.nbd_wire.proofs.request.request_bytes.Goals as goal

pub returns : goal.returns
returns c =
    let flags = and_then _ _ _ _ c.put_u32.ensures c.put_u16.ensures in
    let kind = and_then _ _ _ _ flags c.put_u16-2.ensures in
    let cookie = and_then _ _ _ _ kind c.put_u64.ensures in
    let offset = and_then _ _ _ _ cookie c.put_u64-2.ensures in
    let length = and_then _ _ _ _ offset c.put_u32-2.ensures in
    all_of _ _ 28 (search rules) length
