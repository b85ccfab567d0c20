use Rattle.std.proofs.Common.{sym, ◌∙◌, ◌≡◌, ◌<◌, true, false, is_ok}
use Rattle.std.specs.HashSet.{spare}
use Rattle.page_cache.specs.Recent.{has}
use Rattle.page_cache.proofs.EntryLemmas.{has_noted, on_ok, room_to_note}
use Rattle.page_cache.proofs.cache.note_written.Goals as goal

pub returns-clause-written : goal.returns-clause-written
returns-clause-written c q =
    let absent : has c.args.written.now.keys c.args.page ≡ false = sym c.contains.ensures ∙ c.if-contains.false in
    let room : 0 < spare c.args.written.now = room_to_note c.args.pages.now.entries c.args.written.now.keys c.args.page (spare c.args.written.now) c.len.ensures.unique absent c.requires.known c.requires.there c.requires.room in
    let ok : is_ok c.insert.result ≡ true = c.insert.ensures.succeeds room in
    let updates = on_ok c.insert.result _ ok c.insert.ensures.updates in
    has_noted c.args.page q _ _ (updates.0 q)
