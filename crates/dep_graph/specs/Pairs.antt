-- Lists of pairs of pages, of which the first must be on the device before the second.
use Rattle.std.specs.Prelude.{◌≡◌, ◌⊎◌, ◌&&◌, ◌||◌, ℕ, ◌+◌, ◌<◌, ◌≤◌, List, [], ◌∷◌, Bool, eqb, nat_lt, not, length, filter, slice_index_or, if◌then◌else◌}
use Rattle.std.specs.List.{list_any}
use Rattle.dep_graph.specs.Rising.{Rises}
use Rattle.dep_graph.specs.declared.pairs.Pair.{Pair}

abbrev pub same_pair : Pair → Pair → Bool
same_pair p q = eqb p.before q.before && eqb p.after q.after

-- the two pages are one of the pairs
abbrev pub has_pair : List Pair → ℕ → ℕ → Bool
has_pair pairs a b = list_any (λ p. eqb p.before a && eqb p.after b) pairs

-- how many of the pairs end at the page
unfoldable pub ends_at : List Pair → ℕ → ℕ
ends_at [] b = 0
ends_at (p ∷ pairs) b = (if eqb p.after b then 1 else 0) + ends_at pairs b

-- the pairs that begin at the page, and the others
abbrev pub from_page : List Pair → ℕ → List Pair
from_page pairs page = filter (λ p. eqb p.before page) pairs

abbrev pub not_from_page : List Pair → ℕ → List Pair
not_from_page pairs page = filter (λ p. not (eqb p.before page)) pairs

-- first by the page before, then by the page after
abbrev pub Precedes : Pair → Pair → Type 0
Precedes p q = (p.before < q.before) ⊎ ((p.before ≡ q.before) × (p.after < q.after))

-- the test of it
abbrev pub precedes : Pair → Pair → Bool
precedes p q = nat_lt p.before q.before || (eqb p.before q.before && nat_lt p.after q.after)

abbrev pub AreRising : List Pair → Type 0
AreRising pairs = Rises Precedes pairs

-- where a pair stands among them, or would stand
pub record IsPairPlace (pairs : List Pair) (pair : Pair) (k : ℕ) : Type 0 where
  pub within : k ≤ length pairs
  pub below : (j : ℕ) (d : Pair) → j < k → Precedes (slice_index_or pairs j d) pair
  pub above : (j : ℕ) (d : Pair) → k ≤ j → j < length pairs → Precedes (slice_index_or pairs j d) pair → ⊥

-- the pairs that begin at the page stand from the first of these places up to the second
pub record IsRange (pairs : List Pair) (page first end : ℕ) : Type 0 where
  pub order : first ≤ end
  pub within : end ≤ length pairs
  pub below : (j : ℕ) (d : Pair) → j < first → (slice_index_or pairs j d).before < page
  pub inside : (j : ℕ) (d : Pair) → first ≤ j → j < end → (slice_index_or pairs j d).before ≡ page
  pub above : (j : ℕ) (d : Pair) → end ≤ j → j < length pairs → page < (slice_index_or pairs j d).before

-- pairs, the same pairs turned round, and for how many there is room
pub record BothWays : Type 0 where
  pub pairs : List Pair
  pub back : List Pair
  pub room : ℕ

-- the pairs of one list are those of the other, turned round
pub record IsTurned (pairs back : List Pair) : Type 0 where
  pub rising : AreRising pairs
  pub back_rising : AreRising back
  pub turned : (a b : ℕ) → has_pair back b a ≡ has_pair pairs a b
  pub each : length back ≡ length pairs
