use Rattle.std.proofs.Common.{refl, sym, ◌∙◌, ap, ◌≡◌, ◌<◌, Some, List, ℕ, subst}
use Rattle.std.specs.HashSet.{spare}
use Rattle.page_cache.specs.declared.entries.Entry.{Entry}
use Rattle.page_cache.specs.Entries.{entry_at, content_of}
use Rattle.page_cache.specs.View.{CacheView, holds_in, content_in}
use Rattle.page_cache.specs.Kept.{IsKept}
use Rattle.page_cache.proofs.EditLemmas.{edited_kept, holds_entry, lent_view, set_edited}
use Rattle.page_cache.proofs.cache.Cache.edit.Goals as goal

pub invariant_of-self-lent : goal.invariant_of-self-lent
invariant_of-self-lent c w =
    let index = sym c.get_index_of.ensures.index ∙ c.unwrap-at.ensures in
    let there : entry_at c.self.inside.pages.entries c.args.page ≡ Some c.index_mut-entry.result.now = sym (rw c.unwrap-at.ensures at c.get_index_of.ensures.value) ∙ c.index_mut-entry.ensures.value in
    let held : 0 < c.index_mut-entry.result.now.holds = holds_entry _ _ there (subst (λ (v : CacheView). 0 < holds_in v c.args.page) (sym c.self.view_is) c.requires.held) in
    subst (λ (es : List (ℕ × Entry)). IsKept (record { pages = es; written = c.self.inside.written.keys; recent = c.self.inside.recent.pages; limit = c.self.inside.recent.limit; calls = c.self.inside.calls }) (spare c.self.inside.written))
    (sym (set_edited c.self.inside.pages.entries c.unwrap-at.result c.args.page c.index_mut-entry.result.now w index there))
    (edited_kept _ c.args.page (spare c.self.inside.written) w _ there held c.self.invariant)

pub returns : goal.returns
returns c =
    let index = sym c.get_index_of.ensures.index ∙ c.unwrap-at.ensures in
    let there : entry_at c.self.inside.pages.entries c.args.page ≡ Some c.index_mut-entry.result.now = sym (rw c.unwrap-at.ensures at c.get_index_of.ensures.value) ∙ c.index_mut-entry.ensures.value in (
      (
        refl,
        λ w. lent_view _ c.args.self.now _ c.args.page w c.self.view_is (set_edited c.self.inside.pages.entries c.unwrap-at.result c.args.page c.index_mut-entry.result.now w index there),
      ),
      record { writes_back = tt; value = ap (λ (v : CacheView). content_in v c.args.page) (sym c.self.view_is) ∙ ap content_of there ∙ ap Some (sym c.deref_mut.ensures.value) },
    )
