use Rattle.std.proofs.Common.{◌≡◌, ◌<◌, ◌∙◌, List, length, refl, ap, arith}
use Rattle.std.proofs.lemmas.List.{get_or_default}
use Rattle.page_device.specs.Block.{Block, zero_block}
use Rattle.sparse_pages.specs.View.{PagesView, pages_at}
use Rattle.sparse_pages.proofs.Keeping.{as_many, edited_kept, edited_view, seen_view}
use Rattle.sparse_pages.proofs.pages.SparsePages.edit.Goals as goal

pub invariant_of-self-lent : goal.invariant_of-self-lent
invariant_of-self-lent c w =
    let own = c.own_place-place.ensures in
    let inv = c.self.invariant in
    record {
      are = edited_kept c.own_place-place.new.places.items c.own_place-place.new.kept.items c.own_place-place.result w own.kept own.own;
      within = omega (arith, own.length, inv.within);
      for_places = omega (arith, own.places, inv.for_places);
      for_pages = omega (arith, own.room, inv.for_pages);
      few = inv.few;
    }

pub returns : goal.returns
returns c =
    let own = c.own_place-place.ensures in
    let places = c.own_place-place.new.places.items in
    let kept = c.own_place-place.new.kept.items in
    let place = c.own_place-place.result in
    let j = c.args.j in
    let lt : j < length places = omega (arith, own.length, c.requires, ap (λ (v : PagesView). length v.items) c.self.view_is, as_many c.self.inside.places.items c.self.inside.kept.items) in
    let within : place < length kept = omega (arith, own.place, own.kept.within j lt) in
    let same : record { items = pages_at places kept; limit = c.self.inside.limit } ≡ c.args.self.now = ap (λ (l : List Block). record { items = l; limit = c.self.inside.limit }) own.pages ∙ c.self.view_is in (
      (refl, λ w. edited_view places kept c.self.inside.limit j place w c.args.self.now own.kept lt own.place own.own same),
      record { writes_back = tt; value = c.index_mut.ensures.value ∙ get_or_default kept place c.index_mut.result.now zero_block within ∙ seen_view places kept c.self.inside.limit j place c.args.self.now lt own.place same },
    )
