use Rattle.std.proofs.Common.{◌≡◌, ◌∙◌, ◌++◌, ◌∷◌, [], List, ℕ, length, sym, ap, subst, arith}
use Rattle.std.proofs.lemmas.List.{length-append}
use Rattle.page_device.specs.Block.{Block}
use Rattle.sparse_pages.specs.View.{PagesView, AreKept, pages_at}
use Rattle.sparse_pages.proofs.Keeping.{zeros_kept, zeros_seen, own_kept, own_seen, as_many, kept_most}
use Rattle.sparse_pages.proofs.pages.SparsePages.push.Goals as goal

pub push_reserved-requires : goal.push_reserved-requires
push_reserved-requires c = omega (arith, c.self.inside.places.ok, ap (λ (v : PagesView). v.limit) c.self.view_is, ap (λ (v : PagesView). length v.items) c.self.view_is, as_many c.self.inside.places.items c.self.inside.kept.items, c.requires.room, c.self.invariant.for_places)

pub push_reserved-requires-2 : goal.push_reserved-requires-2
push_reserved-requires-2 c = omega (arith, c.self.inside.places.ok, ap (λ (v : PagesView). v.limit) c.self.view_is, ap (λ (v : PagesView). length v.items) c.self.view_is, as_many c.self.inside.places.items c.self.inside.kept.items, c.requires.room, c.self.invariant.for_places)

pub push_reserved-requires-3 : goal.push_reserved-requires-3
push_reserved-requires-3 c = omega (arith, c.self.inside.kept.ok, ap (λ (v : PagesView). v.limit) c.self.view_is, ap (λ (v : PagesView). length v.items) c.self.view_is, as_many c.self.inside.places.items c.self.inside.kept.items, kept_most c.self.inside.places.items c.self.inside.kept.items c.self.invariant.are, c.requires.room, c.self.invariant.for_pages)

pub invariant_of-self : goal.invariant_of-self
invariant_of-self c =
    let places = c.self.inside.places.items in
    let kept = c.self.inside.kept.items in
    let items = c.push_reserved.ensures.items in
    let inv = c.self.invariant in
    record {
      are = subst (λ (l : List ℕ). AreKept l kept) (sym items) (zeros_kept places kept inv.are);
      within = omega (arith, ap length items, length-append places (0 ∷ []), ap (λ (v : PagesView). v.limit) c.self.view_is, ap (λ (v : PagesView). length v.items) c.self.view_is, as_many places kept, c.requires.room);
      for_places = omega (arith, inv.for_places, c.push_reserved.ensures.capacity);
      for_pages = inv.for_pages;
      few = inv.few;
    }

pub invariant_of-self-2 : goal.invariant_of-self-2
invariant_of-self-2 c =
    let places = c.self.inside.places.items in
    let kept = c.self.inside.kept.items in
    let n = c.len.result in
    let own : length kept ≡ n = omega (arith, c.self.inside.kept.ok, c.len.ensures) in
    let items = c.push_reserved-2.ensures.items in
    let pages = c.push_reserved-3.ensures.items in
    let inv = c.self.invariant in
    record {
      are = subst (λ (l : List ℕ). AreKept l c.push_reserved-3.new.self.items) (ap (λ (at : ℕ). places ++ at ∷ []) own ∙ sym {A = List ℕ} items)
          (subst (AreKept (places ++ length kept ∷ [])) (sym {A = List Block} pages) (own_kept places kept c.copy.result inv.are));
      within = omega (arith, ap length items, length-append places (n ∷ []), ap (λ (v : PagesView). v.limit) c.self.view_is, ap (λ (v : PagesView). length v.items) c.self.view_is, as_many places kept, c.requires.room);
      for_places = omega (arith, inv.for_places, c.push_reserved-2.ensures.capacity);
      for_pages = omega (arith, inv.for_pages, c.push_reserved-3.ensures.capacity);
      few = inv.few;
    }

pub returns-then-is_zero-clause-items : goal.returns-then-is_zero-clause-items
returns-then-is_zero-clause-items c =
    let places = c.self.inside.places.items in
    let kept = c.self.inside.kept.items in
    ap (λ (l : List ℕ). pages_at l kept) c.push_reserved.ensures.items
    ∙ zeros_seen places kept c.args.page.now c.self.invariant.are (c.is_zero.ensures.zero.0 c.if-is_zero.true)
    ∙ ap (λ (v : PagesView). v.items ++ c.args.page.now ∷ []) c.self.view_is

pub returns-clause-items : goal.returns-clause-items
returns-clause-items c =
    let places = c.self.inside.places.items in
    let kept = c.self.inside.kept.items in
    let own : length kept ≡ c.len.result = omega (arith, c.self.inside.kept.ok, c.len.ensures) in
    let came : c.push_reserved-2.new.self.items ≡ places ++ length kept ∷ [] = c.push_reserved-2.ensures.items ∙ ap (λ (at : ℕ). places ++ at ∷ []) (sym own) in
    let pages : pages_at c.push_reserved-2.new.self.items c.push_reserved-3.new.self.items ≡ pages_at places kept ++ c.copy.result ∷ [] =
    ap (λ (l : List ℕ). pages_at l c.push_reserved-3.new.self.items) came ∙ ap (pages_at (places ++ length kept ∷ [])) c.push_reserved-3.ensures.items ∙ own_seen places kept c.copy.result c.self.invariant.are in
    pages ∙ ap (λ (v : PagesView). v.items ++ c.copy.result ∷ []) c.self.view_is ∙ ap (λ (b : Block). c.args.self.now.items ++ b ∷ []) c.copy.ensures
