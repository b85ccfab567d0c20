-- Over an honest device with an image that is fit no table page has a malformed entry.
use Rattle.std.proofs.Common.{◌≡◌, inl, inr, ℕ, Bool, sym, ap, ◌∙◌, subst, List, Option, IsSome, true}
use Rattle.page_device.specs.Block.{Block}
use Rattle.page_device.specs.Meaning.{Meaning}
use Rattle.page_device.specs.declared.error.Damage.{Damage}
use Rattle.page_layout.specs.Entries.{table_at}
use Rattle.page_layout.specs.Formed.{is_formed}
use Rattle.page_layout.specs.Shape.{ShapeView}
use Rattle.page_layout.proofs.FormedPages.{formed_at}
use Rattle.page_layout.proofs.Laws.{data_page_table}
use Rattle.page_layout.proofs.TablePages.{entries_of_page}
use Rattle.engine_model.specs.Disk.{newest_on}
use Rattle.engine_model.specs.Entries.{IsTable}
use Rattle.store_core.specs.declared.Core.{Core}
use Rattle.store_core.specs.Damaged.{IsDamage}
use Rattle.store_core.specs.Layout.{lay_of}
use Rattle.store_core.specs.Stands.{StandsFor}
use Rattle.store_core.specs.Views.{held_or}
use Rattle.store_core.proofs.Clean.{kinds}
use Rattle.store_core.proofs.Fetched.{read_content}
use Rattle.store_core.proofs.Looked.{of_table, table_within}

some_at : (shape : ShapeView) (a b : ℕ) → a ≡ b → IsSome (table_at shape a) → IsSome (table_at shape b)
some_at shape a b e = subst (λ n. IsSome (table_at shape n)) e

-- a page that serves a table has entries
pub table_kind : (shape : ShapeView) (page : ℕ) → IsSome (table_at shape page) → IsTable (lay_of shape) page
table_kind shape page some = elim (kinds shape page (table_within shape page some)) [
  | inl first ↦ absurd (none_first (some_at shape page 0 first some))
  | inr (inl is) ↦ is
  | inr (inr (p, of_, at)) ↦ absurd (none_data p (some_at shape page _ at some))
]
  where
    none_first : IsSome (table_at shape 0) → ⊥
    none_first h = cc

    none_data : (p : ℕ) → IsSome (table_at shape ((lay_of shape).data_page p)) → ⊥
    none_data p h = cc (data_page_table shape p)

pub never_damaged : (sound : Bool) (d : Meaning) (core : Core) (array : ℕ → List Block) (page : ℕ) (damage : Damage) → StandsFor sound d core array → IsSome (table_at core.shape page) → IsDamage core.shape page d damage → ⊥
never_damaged sound d core array page damage s some x =
    let now : x.content ≡ newest_on d.state page = sym (ap (λ (o : Option Block). held_or o (newest_on d.state page)) (x.stands s.known.honest s.known.tells_pages)) ∙ read_content d page s.known in
    let formed : is_formed core.shape page x.content ≡ true = s.kept.contents.well_formed.possible page x.content (table_kind core.shape page some) (inl now) in
    of_table (table_at core.shape page) some (λ t is. (x.first t is).1 (entries_of_page t core.shape page x.content ((formed_at core.shape t page x.content is).0 formed) damage.entry (x.first t is).0))
