-- The edges of a graph of pages, as a list.
use Rattle.std.specs.Prelude.{ℕ, List, Bool, true, false, not, ◌&&◌, eqb}
use Rattle.std.specs.List.{list_any}
use Rattle.order_model.specs.declared.Kind.{Kind}
use Rattle.order_model.specs.declared.Kind.TheVariants.{Live, Barrier}

-- the page before is written and covered by a barrier ahead of the next write of the one after, or a barrier alone comes first
pub record Edge : Type 0 where
  pub before : ℕ
  pub after : ℕ
  pub kind : Kind

abbrev pub is_live : Kind → Bool
is_live Live = true
is_live Barrier = false

-- a Live edge leads from the one page to the other
abbrev pub has_live : List Edge → ℕ → ℕ → Bool
has_live edges a b = list_any (λ e. eqb e.before a && (eqb e.after b && is_live e.kind)) edges

-- a Barrier edge does
abbrev pub has_barred : List Edge → ℕ → ℕ → Bool
has_barred edges a b = list_any (λ e. eqb e.before a && (eqb e.after b && not (is_live e.kind))) edges
