-- A fold can be made.
use Rattle.std.proofs.Common.{◌≡◌, ◌≢◌, ◌⊎◌, inl, inr, ◌<◌, ℕ, true, false, arith, refl, sym, true≢false, eqb, eqb-true}
use Rattle.std.proofs.lemmas.Bool.{and_parts}
use Rattle.order_model.specs.World.{IsData}
use Rattle.engine_model.specs.Entries.{IsTable}
use Rattle.engine_model.specs.Edits.{CacheOnly}
use Rattle.engine_model.specs.Commands.{PageContent, Renamed}
use Rattle.engine_model.specs.Examples.{asked}
use Rattle.engine_model.specs.Pair.{equal_pages, folded, pair}
use Rattle.engine_model.proofs.Graphs.{begins_none}

only_second : (q : ℕ) → IsData pair q → q ≢ 1 → q ≡ 2
only_second q d ne = omega (arith, d)

tables : (page : ℕ) → IsTable pair page → (page ≡ 1) ⊎ ((page ≡ 2) ⊎ (page ≡ 3))
tables page (inl t) = inl t.2
tables page (inr t) = elim t.2 [ inl e ↦ inr (inl e) | inr e ↦ inr (inr e) ]

clean : (page : ℕ) → IsTable pair page → folded.dirty page ≡ false → folded.cached page ≡ equal_pages.cached page
clean page is d = elim (tables page is) [
  | inl e ↦ absurd (true≢false (rw e at d))
  | inr o ↦ elim o [ inl e ↦ absurd (true≢false (rw e at d)) | inr e ↦ rw e ]
]

ends : (a b : ℕ) → folded.live a b ≡ true → (a ≡ 2) × (b ≡ 1)
ends a b h = let q = and_parts (eqb a 2) (eqb b 1) h in (eqb-true a 2 q.0, eqb-true b 1 q.1)

rest : CacheOnly pair equal_pages folded
rest = record {
  newest = λ page. refl;
  possible = λ page c q. q;
  cached_clean = clean;
  hung = λ a. refl;
  dirty_kept = λ a h. absurd (true≢false (sym h));
  live_kept = λ a b h. absurd (true≢false (sym h));
  barred_kept = λ a b h. absurd (true≢false (sym h));
  live_ends = λ a b h. let e = ends a b h in inr (rw e.0, rw e.1);
  barred_ends = λ a b h. absurd (true≢false (sym h));
}

first_block : (k : ℕ) → k < 2 → k ≢ 1 → k ≡ 0
first_block k lt ne = omega arith

pub fold_renamed : Renamed pair (asked false) 5 equal_pages folded 1 2 1
fold_renamed = record {
  rest = rest;
  edges = record { live = λ a b h. let e = ends a b h in inr (inr e.0, inl e.1); barred = λ a b h. absurd (true≢false (sym h)) };
  no_cycle = begins_none equal_pages.live 2 1 (λ e. omega (arith, e)) (λ c. refl);
  released = record {
    in_range = omega arith;
    was = refl;
    none_or_data = inr (omega arith, omega arith);
    other_names = λ k lt ne. rw (first_block k lt ne);
    map_dirty = refl;
    pushed = inr (omega arith, refl);
  };
  is_data = (omega arith, omega arith);
  other = λ e. omega (arith, e);
  name = refl;
  below_top = omega arith;
  count_here = refl;
  count_other = λ q d ne. rw (only_second q d ne);
  print_other = λ q d ne. rw (only_second q d ne);
  print_here = inl refl;
  counted = refl;
}

pub fold_content : PageContent pair (asked false) equal_pages folded 1 1 (equal_pages.cached (pair.data_page 2))
fold_content = record {
  data_other = λ q d ne. rw (only_second q d ne) (refl, refl);
  data_here = refl;
  chosen = inr (omega arith, refl, refl, refl);
  ordered = record { dirty = λ h. absurd (true≢false (sym h)); hung = λ h. absurd (true≢false (sym h)) };
  well_formed = λ page is. refl;
  first_page = (refl, refl);
}
