-- The edits of a write and of an applied release can be made.
use Rattle.std.proofs.Common.{◌≡◌, ◌≢◌, ◌⊎◌, inl, inr, ◌<◌, ℕ, true, false, ◌||◌, arith, refl, sym, subst, [], ◌∷◌, true≢false, eqb, ne_eqb, eqb-true}
use Rattle.std.proofs.lemmas.Bool.{or_cases, or_left, or_right, and_parts}
use Rattle.order_model.specs.Contents.{IsAmong}
use Rattle.order_model.specs.World.{IsData}
use Rattle.engine_model.specs.Entries.{IsTable}
use Rattle.engine_model.specs.Known.{Free, Tells}
use Rattle.order_model.specs.Paths.{Closes}
use Rattle.engine_model.specs.Edits.{CacheOnly}
use Rattle.engine_model.specs.Commands.{Gains, Mandatory, Renamed, PageContent}
use Rattle.engine_model.specs.Releases.{NeededEdge, Applied}
use Rattle.engine_model.proofs.Graphs.{begins_none}
use Rattle.engine_model.specs.Examples.{printed, asked, empty, written, empty_array, written_array, dropped_release, waiting, applied}

pub tables : (page : ℕ) → IsTable printed page → (page ≡ 1) ⊎ ((page ≡ 2) ⊎ (page ≡ 3))
tables page (inl t) = inl t.2
tables page (inr t) = elim t.2 [ inl e ↦ inr (inl e) | inr e ↦ inr (inr e) ]

pub no_zero : (k : ℕ) → k < 1 → k ≢ 0 → ⊥
no_zero k lt ne = ne (omega arith)

pub no_other : (q : ℕ) → IsData printed q → q ≢ 1 → ⊥
no_other q d ne = ne (omega arith)

table_dirty : (page : ℕ) → IsTable printed page → written.dirty page ≡ false → ⊥
table_dirty page is d = elim (tables page is) [
  | inl e ↦ true≢false (rw e at d)
  | inr o ↦ elim o [ inl e ↦ true≢false (rw e at d) | inr e ↦ true≢false (rw e at d) ]
]

ends : (a b : ℕ) → written.live a b ≡ true → (written.dirty a ≡ true) × (written.dirty b ≡ true)
ends a b h = let q = and_parts (eqb a 2 || eqb a 4) (eqb b 1 || eqb b 3) h in
    (or_right (eqb a 1 || eqb a 3) (eqb a 2 || eqb a 4) q.0, or_left (eqb b 1 || eqb b 3) (eqb b 2 || eqb b 4) q.1)

pub is_data : IsData printed 1
is_data = omega arith

no_way : (a b : ℕ) → (a ≡ b → ⊥) → Closes empty.live a b → ⊥
no_way a b ne = begins_none empty.live a b ne (λ c. refl)

write_edges : (a b : ℕ) → written.live a b ≡ true → Mandatory printed empty 0 1 a b
write_edges a b h = let q = and_parts (eqb a 2 || eqb a 4) (eqb b 1 || eqb b 3) h in (
  elim (or_cases (eqb a 2) (eqb a 4) q.0) [ inl e ↦ inr (eqb-true a 2 e) | inr e ↦ inl (eqb-true a 4 e) ],
  elim (or_cases (eqb b 1) (eqb b 3) q.1) [ inl e ↦ inl (eqb-true b 1 e) | inr e ↦ inr (eqb-true b 3 e, no_way 2 3 (λ x. omega arith)) ],
)

pub write_rest : CacheOnly printed empty written
write_rest = record {
  newest = λ page. refl;
  possible = λ page c q. q;
  cached_clean = λ page is d. absurd (table_dirty page is d);
  hung = λ a. refl;
  dirty_kept = λ a h. absurd (true≢false (sym h));
  live_kept = λ a b h. absurd (true≢false (sym h));
  barred_kept = λ a b h. absurd (true≢false (sym h));
  live_ends = λ a b h. inr (ends a b h);
  barred_ends = λ a b h. absurd (true≢false (sym h));
}

only_one : (q : ℕ) → IsData printed q → 1 ≡ q
only_one q d = omega (arith, d)

pub empty_free : Free printed empty 1
unfolding IsAmong
empty_free = record { cached = refl; on_device = λ c q. elim q [ inl e ↦ rw e | inr x ↦ absurd x ] }

pub empty_tells : Tells printed empty (asked true)
empty_tells = record {
  unborn_name = λ l p lt u. absurd (true≢false (sym u));
  unborn_print = λ p print d u. absurd (true≢false (sym u));
  free = λ p d f. subst (λ q. Free printed empty q) (only_one p d) empty_free;
}

pub waiting_tells : Tells printed waiting (asked false)
waiting_tells = record {
  unborn_name = λ l p lt u. absurd (true≢false (sym u));
  unborn_print = λ p print d u. absurd (true≢false (sym u));
  free = λ p d f. absurd (true≢false (sym f));
}

pub write_renamed : Renamed printed (asked true) 5 empty written 0 0 1
write_renamed = record {
  rest = write_rest;
  edges = record { live = λ a b h. inr (write_edges a b h); barred = λ a b h. absurd (true≢false (sym h)) };
  no_cycle = no_way 2 1 (λ x. omega arith);
  released = record {
    none_or_data = inl refl;
    in_range = omega arith;
    was = refl;
    other_names = λ k lt ne. absurd (no_zero k lt ne);
    map_dirty = refl;
    pushed = inl (refl, refl);
  };
  is_data = omega arith;
  other = λ e. omega arith;
  name = refl;
  below_top = omega arith;
  count_here = refl;
  count_other = λ q d ne. absurd (no_other q d ne);
  print_other = λ q d ne. absurd (no_other q d ne);
  print_here = inr (7 ∷ [], record { was_free = refl; first_count = refl });
  counted = refl;
}

pub write_content : PageContent printed (asked true) empty written 0 1 (7 ∷ [])
write_content = record {
  data_other = λ q d ne. absurd (no_other q d ne);
  data_here = refl;
  chosen = inl (refl, refl, refl, record { dirty = λ d. refl; hung = λ h. absurd (true≢false (sym h)) });
  ordered = record { dirty = λ d. refl; hung = λ h. absurd (true≢false (sym h)) };
  well_formed = λ page is. refl;
  first_page = (refl, refl);
}

pub write_gains : Gains empty_array written_array 0 (7 ∷ [])
write_gains = record { here = refl; other = λ k ne. rw (ne_eqb k 0 ne) }

applied_dirty : (page : ℕ) → IsTable printed page → applied.dirty page ≡ false → ⊥
applied_dirty page is d = elim (tables page is) [
  | inl e ↦ true≢false (rw e at d)
  | inr o ↦ elim o [ inl e ↦ true≢false (rw e at d) | inr e ↦ true≢false (rw e at d) ]
]

applied_ends : (a b : ℕ) → applied.live a b ≡ true → (applied.dirty a ≡ true) × (applied.dirty b ≡ true)
applied_ends a b h = let q = and_parts (eqb a 1 || eqb a 3) (eqb b 2) h in
    (or_left (eqb a 1 || eqb a 3) (eqb a 2) q.0, or_right (eqb b 1 || eqb b 3) (eqb b 2) q.1)

no_way_back : (a b : ℕ) → (a ≡ b → ⊥) → Closes waiting.live a b → ⊥
no_way_back a b ne = begins_none waiting.live a b ne (λ c. refl)

applied_edges : (a b : ℕ) → applied.live a b ≡ true → NeededEdge printed (asked false) waiting dropped_release a b
applied_edges a b h = let q = and_parts (eqb a 1 || eqb a 3) (eqb b 2) h in (
  elim (or_cases (eqb a 1) (eqb a 3) q.0) [ inl e ↦ inl (refl, eqb-true a 1 e) | inr e ↦ inr ((refl, (7 ∷ [], refl), refl), eqb-true a 3 e) ],
  eqb-true b 2 q.1,
)

pub release_applied : Applied printed (asked false) waiting applied dropped_release [] []
release_applied = record {
  rest = record {
    newest = λ page. refl;
    possible = λ page c q. q;
    cached_clean = λ page is d. absurd (applied_dirty page is d);
    hung = λ a. refl;
    dirty_kept = λ a h. or_left _ _ h;
    live_kept = λ a b h. absurd (true≢false (sym h));
    barred_kept = λ a b h. absurd (true≢false (sym h));
    live_ends = λ a b h. inr (applied_ends a b h);
    barred_ends = λ a b h. absurd (true≢false (sym h));
  };
  edges = record { live = λ a b h. inr (applied_edges a b h); barred = λ a b h. absurd (true≢false (sym h)) };
  no_cycle = λ b. elim b [ inl m ↦ no_way_back 1 2 (λ x. omega arith) m.1 | inr f ↦ no_way_back 3 2 (λ x. omega arith) f.1 ];
  was_queued = refl;
  removed = refl;
  names = λ l lt. refl;
  count_here = refl;
  count_other = λ q d ne. absurd (no_other q d ne);
  print_kept = λ pos. absurd (omega (arith, pos));
  print_gone = λ z. refl;
  print_other = λ q d ne. absurd (no_other q d ne);
  from_map = λ e. refl;
  from_hung_map = λ e. absurd (omega (arith, e));
  from_print = λ last. refl;
}
