-- Why the two added facts are needed.
use Rattle.std.proofs.Common.{◌≡◌, ◌⊎◌, inl, inr, ◌+◌, ◌≤◌, ℕ, Bool, true, false, ◌&&◌, ◌||◌, arith, refl, sym, ap, ◌∙◌, List, [], ◌∷◌, Some, None, true≢false, eqb, ne_eqb, get_or}
use Rattle.std.specs.Prelude.{if◌then◌else◌}
use Rattle.std.proofs.lemmas.Bool.{cases_eq}
use Rattle.order_model.specs.World.{Possible, Queued, IsData}
use Rattle.order_model.specs.Contents.{IsAmong}
use Rattle.order_model.specs.Counting.{count_below}
use Rattle.engine_model.specs.Counts.{CountsInvariant}
use Rattle.engine_model.specs.Entries.{IsTable, MayName}
use Rattle.engine_model.specs.DeviceSteps.{Taken, MovesMarks}
use Rattle.engine_model.specs.Images.{CrashImage, ContentsFit}
use Rattle.engine_model.proofs.Graphs.{acyclic_none}
use Rattle.engine_model.specs.Counterexamples.{WeakContents, small, overwritten, after_overwrite, discarded_array, torn_image, stale, stale_array, stale_flushed}

one_block : (S : ℕ → Bool) → count_below S 1 ≤ 1
unfolding count_below
one_block S = bit (S 0)
  where
    bit : (b : Bool) → (if b then 1 else 0) + 0 ≤ 1
    bit true = omega arith
    bit false = omega arith

no_print : {x : List ℕ} → None ≡ Some x → ⊥
no_print e = cc

only_page : (p : ℕ) → IsData small p → p ≡ 1
only_page p d = omega arith

one_name : (p l : ℕ) → MayName small overwritten p l → p ≡ 1
unfolding IsAmong
one_name p l n = elim n.possible [ inl e ↦ sym n.names ∙ ap (λ c. get_or c 0 0) e | inr x ↦ absurd x ]

table_cases : (page : ℕ) → IsTable small page → (page ≡ 1) ⊎ ((page ≡ 2) ⊎ (page ≡ 3))
table_cases page (inl t) = inl t.2
table_cases page (inr t) = elim t.2 [ inl e ↦ inr (inl e) | inr e ↦ inr (inr e) ]

clean_page : (page : ℕ) → IsTable small page → overwritten.dirty page ≡ false → overwritten.cached page ≡ 1 ∷ []
clean_page page is d = elim (table_cases page is) [
  | inl e ↦ absurd (true≢false (rw e at d))
  | inr o ↦ elim o [ inl e ↦ rw e | inr e ↦ rw e ]
]

not_one : {l p : ℕ} → Queued overwritten.queue l p 1 → ⊥
not_one (inl q) = absurd (omega (arith, q.2))
not_one (inr q) = q

pub overwritten_engine : CountsInvariant small 5 overwritten
unfolding IsAmong count_below
overwritten_engine = record {
  marks_and_edges = record {
    live_before = λ a b h. absurd (true≢false (sym h));
    live_after = λ a b h. absurd (true≢false (sym h));
    barred_before = λ a b h. absurd (true≢false (sym h));
    barred_after = λ a b h. absurd (true≢false (sym h));
    acyclic = acyclic_none overwritten.live (λ a b. refl);
    settled = λ page c is d h q. elim q [ inl e ↦ e ∙ sym (clean_page page is d) | inr x ↦ absurd x ];
    clean = λ page is d. sym (clean_page page is d);
  };
  edge_kinds = λ a b h. absurd (elim h [ inl l ↦ true≢false (sym l) | inr r ↦ true≢false (sym r) ]);
  count_balance = λ p d. rw (only_page p d) (record { enough = omega arith; in_range = omega arith });
  counts_cover_names = λ p d. record {
    each = λ c q S h. elim q [ inl e ↦ rw e (one_block S) | inr x ↦ absurd x ];
    newest = λ S h. one_block S;
  };
  counts_cover_prints = λ p d. record {
    each = λ c print q h. elim h [ inl n ↦ absurd (no_print n.has) | inr n ↦ absurd (no_print n.0) ];
    newest = λ print h. elim h [ inl n ↦ absurd (no_print n.has) | inr n ↦ absurd (no_print n.0) ];
  };
  print_needs_count = λ p print d h. absurd (no_print h);
  lost_name_owes_release = record {
    each = λ l p lt d n. inr (inl (inl (inl (omega arith, sym (one_name p l n), refl))));
    newest = λ l p lt d h. inr (inl (inl (omega arith, h, refl)));
    dirty = λ l p lt q. refl;
    hung = λ l p lt q. absurd (not_one q);
    in_range = λ l p stage q. elim q [ inl is ↦ (omega (arith, is), omega (arith, is)) | inr x ↦ absurd x ];
  };
  lost_print_ordered = λ p d. record {
    each = λ print n. absurd (no_print n.has);
    newest = λ print h. absurd (no_print h);
  };
}

one_content : (c : List ℕ) → Possible overwritten 4 c → c ≡ 1 ∷ []
unfolding IsAmong
one_content c (inl e) = e
one_content c (inr x) = absurd x

pub overwritten_contents : (sound : Bool) → WeakContents small sound discarded_array overwritten
unfolding IsAmong
overwritten_contents sound = record {
  fresh_data_first = λ p d. record {
    name_dirty = λ l lt n y. absurd (omega (arith, n, d));
    name_hung = λ l lt n y. absurd (omega (arith, n, d));
    print_dirty = λ print n y. absurd (no_print n);
    print_hung = λ print n y. absurd (no_print n);
    settled = λ c pos y z q. one_content c q;
  };
  named_data_fixed = λ p d. record {
    named = λ l lt n c q. one_content c q;
    printed = λ print n c q. one_content c q;
  };
  reads = λ l lt. record {
    unmapped = λ n. absurd (omega (arith, one_name 0 l n));
    mapped = λ p d n. inl refl;
    cached_unmapped = λ n. refl;
    cached_mapped = λ p d n. absurd (omega (arith, n, d));
  };
  prints_true = λ s p d. record { possible = λ print n. absurd (no_print n.has); cached = λ print n. absurd (no_print n) };
  well_formed = record { possible = λ page c is q. refl; cached = λ page is. refl };
}

pub overwrite_taken : Taken overwritten after_overwrite 4
unfolding IsAmong
overwrite_taken = record {
  was_dirty = refl;
  no_live = λ a. refl;
  no_barred = λ a. refl;
  newest_here = refl;
  newest_other = λ other ne. rw (ne_eqb other 4 ne);
  possible = λ other c q. elim (cases_eq other 4) [
    | inr ne ↦ inl (rw (ne_eqb other 4 ne) at q)
    | inl e ↦ here other c e (rw e at q)
  ];
  cached = λ other. refl;
}
  where
    here : (other : ℕ) (c : List ℕ) → other ≡ 4 → Possible after_overwrite 4 c → Possible overwritten other c ⊎ ((other ≡ 4) × (c ≡ overwritten.cached 4))
    here other c e (inl n) = inr (e, n)
    here other c e (inr o) = inl (inl (elim o [ inl x ↦ x | inr x ↦ absurd x ]))

pub overwrite_moves : MovesMarks small overwritten after_overwrite 4
overwrite_moves = record {
  dirty = λ a. elim (cases_eq a 4) [ inl e ↦ rw e | inr ne ↦ rw (ne_eqb a 4 ne) (or_false (eqb a 1)) ];
  hung = λ a. refl;
  live = λ a b. refl;
  barred = λ a b. refl;
  queue = refl;
}
  where
    or_false : (b : Bool) → b ≡ (b || false) && true
    or_false true = refl
    or_false false = refl

pub torn : CrashImage after_overwrite torn_image
torn page = elim (cases_eq page 4) [ inl e ↦ rw e (inl refl) | inr ne ↦ rw (ne_eqb page 4 ne) (inl refl) ]

-- After the write a crash may leave the block with content 2, which it never had.
pub torn_unfit : (sound : Bool) → ContentsFit small sound torn_image discarded_array → ⊥
unfolding IsAmong
torn_unfit sound fit = elim ((fit.reads 0 (omega arith)).mapped 1 (omega arith) refl) [
  | inl e ↦ two_one e
  | inr more ↦ elim more [ inl e ↦ two_zero e | inr x ↦ x ]
]
  where
    head_is : {a b : ℕ} → a ∷ [] ≡ b ∷ [] → a ≡ b
    head_is e = cc

    two_one : ◌≡◌ {A = List ℕ} (2 ∷ []) (1 ∷ []) → ⊥
    two_one e = absurd (omega (arith, head_is e))

    two_zero : ◌≡◌ {A = List ℕ} (2 ∷ []) (0 ∷ []) → ⊥
    two_zero e = absurd (omega (arith, head_is e))

-- a clean data page with another content in the cache: all else is settled
stale_name : (p l : ℕ) → MayName small stale p l → p ≡ 1
unfolding IsAmong
stale_name p l n = elim n.possible [ inl e ↦ sym n.names ∙ ap (λ c. get_or c 0 0) e | inr x ↦ absurd x ]

stale_one : (c : List ℕ) → Possible stale 4 c → c ≡ 1 ∷ []
unfolding IsAmong
stale_one c (inl e) = e
stale_one c (inr x) = absurd x

stale_table : (page : ℕ) → IsTable small page → stale.cached page ≡ 1 ∷ []
stale_table page is = elim (table_cases page is) [ inl e ↦ rw e | inr o ↦ elim o [ inl e ↦ rw e | inr e ↦ rw e ] ]

pub stale_engine : CountsInvariant small 5 stale
unfolding IsAmong count_below
stale_engine = record {
  marks_and_edges = record {
    live_before = λ a b h. absurd (true≢false (sym h));
    live_after = λ a b h. absurd (true≢false (sym h));
    barred_before = λ a b h. absurd (true≢false (sym h));
    barred_after = λ a b h. absurd (true≢false (sym h));
    acyclic = acyclic_none stale.live (λ a b. refl);
    settled = λ page c is d h q. elim q [ inl e ↦ e ∙ sym (stale_table page is) | inr x ↦ absurd x ];
    clean = λ page is d. sym (stale_table page is);
  };
  edge_kinds = λ a b h. absurd (elim h [ inl l ↦ true≢false (sym l) | inr r ↦ true≢false (sym r) ]);
  count_balance = λ p d. rw (only_page p d) (record { enough = omega arith; in_range = omega arith });
  counts_cover_names = λ p d. record {
    each = λ c q S h. elim q [ inl e ↦ rw e (one_block S) | inr x ↦ absurd x ];
    newest = λ S h. one_block S;
  };
  counts_cover_prints = λ p d. record {
    each = λ c print q h. elim h [ inl n ↦ absurd (no_print n.has) | inr n ↦ absurd (no_print n.0) ];
    newest = λ print h. elim h [ inl n ↦ absurd (no_print n.has) | inr n ↦ absurd (no_print n.0) ];
  };
  print_needs_count = λ p print d h. absurd (no_print h);
  lost_name_owes_release = record {
    each = λ l p lt d n. inl (sym (stale_name p l n));
    newest = λ l p lt d h. inl h;
    dirty = λ l p lt q. absurd q;
    hung = λ l p lt q. absurd q;
    in_range = λ l p stage q. absurd q;
  };
  lost_print_ordered = λ p d. record {
    each = λ print n. absurd (no_print n.has);
    newest = λ print h. absurd (no_print h);
  };
}

pub stale_contents : (sound : Bool) → WeakContents small sound stale_array stale
unfolding IsAmong
stale_contents sound = record {
  fresh_data_first = λ p d. record {
    name_dirty = λ l lt n y. absurd (true≢false (sym y));
    name_hung = λ l lt n y. absurd (true≢false (sym y));
    print_dirty = λ print n y. absurd (no_print n);
    print_hung = λ print n y. absurd (no_print n);
    settled = λ c pos y z q. stale_one c q;
  };
  named_data_fixed = λ p d. record {
    named = λ l lt n c q. stale_one c q;
    printed = λ print n c q. stale_one c q;
  };
  reads = λ l lt. record {
    unmapped = λ n. absurd (omega (arith, stale_name 0 l n));
    mapped = λ p d n. inl refl;
    cached_unmapped = λ n. absurd (omega (arith, n));
    cached_mapped = λ p d n. refl;
  };
  prints_true = λ s p d. record { possible = λ print n. absurd (no_print n.has); cached = λ print n. absurd (no_print n) };
  well_formed = record { possible = λ page c is q. refl; cached = λ page is. refl };
}

-- A flush has nothing to write, and then the block's list is 2 alone, while the device reads 1.
pub stale_unfit : (sound : Bool) → WeakContents small sound stale_flushed stale → ⊥
unfolding IsAmong
stale_unfit sound c = elim ((c.reads 0 (omega arith)).mapped 1 (omega arith) (record { content = 1 ∷ []; possible = inl refl; names = refl })) [
  | inl e ↦ one_two e
  | inr x ↦ x
]
  where
    head_is : {a b : ℕ} → a ∷ [] ≡ b ∷ [] → a ≡ b
    head_is e = cc

    one_two : ◌≡◌ {A = List ℕ} (1 ∷ []) (2 ∷ []) → ⊥
    one_two e = absurd (omega (arith, head_is e))
