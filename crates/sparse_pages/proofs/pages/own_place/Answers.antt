use Rattle.std.proofs.Common.{◌≡◌, ◌∙◌, ◌++◌, ◌∷◌, [], List, ℕ, length, slice_index_or, slice_set, sym, ap, subst, arith}
use Rattle.std.proofs.lemmas.List.{get_or_default}
use Rattle.page_device.specs.Block.{Block, zero_block}
use Rattle.sparse_pages.specs.View.{AreKept, pages_at}
use Rattle.sparse_pages.proofs.Keeping.{kept_few, parted_kept, parted_seen}
use Rattle.sparse_pages.proofs.pages.own_place.Goals as goal

pub push_reserved-requires : goal.push_reserved-requires
push_reserved-requires c =
    let places = c.args.places.now.items in
    let j = c.args.j in
    let shares : slice_index_or places j 0 ≡ 0 = get_or_default places j 0 c.index-place.result.now c.requires.page ∙ sym c.index-place.ensures ∙ c.if-place-ne0.false in
    omega (arith, c.args.kept.now.ok, kept_few places c.args.kept.now.items j c.requires.kept c.requires.page shares, c.requires.room)

pub returns-clause-kept : goal.returns-clause-kept
returns-clause-kept c =
    let places = c.args.places.now.items in
    let kept = c.args.kept.now.items in
    let j = c.args.j in
    let shares : slice_index_or places j 0 ≡ 0 = get_or_default places j 0 c.index-place.result.now c.requires.page ∙ sym c.index-place.ensures ∙ c.if-place-ne0.false in
    let own : length kept ≡ c.len-own.result = omega (arith, c.args.kept.now.ok, c.len-own.ensures) in
    let items : kept ++ zero_block ∷ [] ≡ c.push_reserved.new.self.items = ap (λ (b : Block). kept ++ b ∷ []) (sym c.zero.ensures) ∙ sym c.push_reserved.ensures.items in
    subst (λ (n : ℕ). AreKept (slice_set places j n) c.push_reserved.new.self.items) own
    (subst (λ (l : List Block). AreKept (slice_set places j (length kept)) l) items (parted_kept places kept j c.requires.kept c.requires.page shares))

pub returns-clause-pages : goal.returns-clause-pages
returns-clause-pages c =
    let places = c.args.places.now.items in
    let kept = c.args.kept.now.items in
    let j = c.args.j in
    let shares : slice_index_or places j 0 ≡ 0 = get_or_default places j 0 c.index-place.result.now c.requires.page ∙ sym c.index-place.ensures ∙ c.if-place-ne0.false in
    let own : length kept ≡ c.len-own.result = omega (arith, c.args.kept.now.ok, c.len-own.ensures) in
    let items : kept ++ zero_block ∷ [] ≡ c.push_reserved.new.self.items = ap (λ (b : Block). kept ++ b ∷ []) (sym c.zero.ensures) ∙ sym c.push_reserved.ensures.items in
    subst (λ (n : ℕ). pages_at (slice_set places j n) c.push_reserved.new.self.items ≡ pages_at places kept) own
    (subst (λ (l : List Block). pages_at (slice_set places j (length kept)) l ≡ pages_at places kept) items (parted_seen places kept j c.requires.kept c.requires.page shares))
