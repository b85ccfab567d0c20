-- The pages that are there, as a list that is looked up.
use Rattle.std.specs.Prelude.{◌≡◌, ℕ, ◌||◌, Bool, false, cond, eqb, nat_lt, List, Option, Some, None}
use Rattle.std.specs.Map.{lookup}
use Rattle.std.specs.Option.{option_map}
use Rattle.std.specs.Box.{with_value}
use Rattle.page_device.specs.Block.{Block}
use Rattle.page_cache.specs.declared.entries.Entry.{Entry}

abbrev pub content_of : Option Entry → Option Block
content_of None = None
content_of (Some e) = Some e.content.value

abbrev pub holds_of : Option Entry → ℕ
holds_of None = 0
holds_of (Some e) = e.holds

abbrev pub dirty_of : Option Entry → Bool
dirty_of None = false
dirty_of (Some e) = e.dirty

abbrev pub entry_at : List (ℕ × Entry) → ℕ → Option Entry
entry_at es q = lookup (eqb q) es

abbrev pub content_at : List (ℕ × Entry) → ℕ → Option Block
content_at es q = content_of (entry_at es q)

abbrev pub holds_at : List (ℕ × Entry) → ℕ → ℕ
holds_at es q = holds_of (entry_at es q)

abbrev pub dirty_at : List (ℕ × Entry) → ℕ → Bool
dirty_at es q = dirty_of (entry_at es q)

-- held or dirty
abbrev pub is_used_at : List (ℕ × Entry) → ℕ → Bool
is_used_at es q = nat_lt 0 (holds_at es q) || dirty_at es q

abbrev pub with_content : Block → Option Entry → Option Entry
with_content block = option_map {T = Entry} (λ e. record e { content = with_value e.content block })

abbrev pub with_holds : ℕ → Option Entry → Option Entry
with_holds n = option_map {T = Entry} (λ e. record e { holds = n })

abbrev pub with_dirty : Bool → Option Entry → Option Entry
with_dirty b = option_map {T = Entry} (λ e. record e { dirty = b })

-- one page has this entry now, or none, and all others keep theirs
pub record SetsEntry (old : List (ℕ × Entry)) (page : ℕ) (entry : Option Entry) (new : List (ℕ × Entry)) : Type 0 where
  pub each : (q : ℕ) → entry_at new q ≡ cond (eqb q page) entry (entry_at old q)
