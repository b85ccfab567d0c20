-- Totals after one count or one name changed, and where nothing is wasted.
use Rattle.std.proofs.Common.{arith, ◌≡◌, ◌≢◌, inl, inr, ◌<◌, ◌≤◌, ◌+◌, ◌-◌, ◌*◌, ℕ, zero, suc, Bool, true, false, cond, not, min, if◌then◌else◌, refl, sym, ap, ◌∙◌, subst, List, [], ◌∷◌, length, eqb, eqb-true, eq-eqb, ne_eqb}
use Rattle.std.proofs.lemmas.List.{length-map}
use Rattle.std.proofs.lemmas.Bool.{cases_eq}
use Rattle.page_device.specs.Block.{Block}
use Rattle.page_device.specs.Meaning.{Meaning}
use Rattle.page_layout.specs.Shape.{ShapeView, count_page, map_page}
use Rattle.page_cache.specs.View.{is_there}
use Rattle.ref_counts.specs.Counts.{count_in}
use Rattle.logical_map.specs.Slots.{slot_of}
use Rattle.order_model.specs.Counting.{count_below, sum_below}
use Rattle.order_model.specs.World as plain
use Rattle.order_model.specs.World.{IsData, Layout, World, queued}
use Rattle.array_model.proofs.CountingLemmas.{count_below-change, count_below-most, count_below-one, count_below-same, count_below-sum, sum_below-most, sum_below-one, sum_below-same}
use Rattle.release_queue.specs.declared.Release.{Release}
use Rattle.engine_model.specs.Entries.{Apart, cached_count, cached_name, cached_names}
use Rattle.engine_model.specs.Tight.{IsTight, live_pages}
use Rattle.store_core.specs.declared.Core.{Core}
use Rattle.store_core.specs.declared.totals.Totals.{Totals}
use Rattle.store_core.specs.Edits.{LowersCount, NamesBlock, RaisesCount}
use Rattle.store_core.specs.Layout.{lay_of}
use Rattle.store_core.specs.Stands.{StandsFor}
use Rattle.store_core.specs.Totals.{AreFew, AreTotals, Recounts, Renames, waste_of, with_lowered, with_raised, with_renamed}
use Rattle.store_core.specs.Views.{page_in, plain_release, world_of}
use Rattle.store_core.specs.Whole.{IsPlaced}
use Rattle.store_core.proofs.Clean.{apart_pages}
use Rattle.store_core.proofs.Edited.{cached_there}

-- one count changed
module _ (lay : Layout) (v w : World) (p : ℕ) (is : IsData lay p) (r : Recounts lay p v w) where
  back : p - 1 + 1 ≡ p
  back = let first = is.0 in omega (arith, first)

  page_of_place : (k : ℕ) → k < lay.pages → IsData lay (k + 1)
  page_of_place k lt = (omega arith, omega (arith, lt))

  other_place : (k : ℕ) → k < lay.pages → (k ≡ p - 1 → ⊥) → cached_count lay w (k + 1) ≡ cached_count lay v (k + 1)
  other_place k lt ne = r.others (k + 1) (page_of_place k lt) (λ e. ne (omega (arith, e)))

  inside : p - 1 < lay.pages
  inside = let first = is.0 in let last = is.1 in omega (arith, first, last)

  at_p : (x : World) → cached_count lay x (p - 1 + 1) ≡ cached_count lay x p
  at_p x = ap (cached_count lay x) back

  pub sum_moves : sum_below (λ i. cached_count lay w (i + 1)) lay.pages + cached_count lay v p ≡ sum_below (λ i. cached_count lay v (i + 1)) lay.pages + cached_count lay w p
  sum_moves =
      let moves = sum_below-one (λ i. cached_count lay v (i + 1)) (λ i. cached_count lay w (i + 1)) lay.pages (p - 1) inside other_place in
      omega (arith, moves, at_p v, at_p w)

  abbrev counted : World → ℕ → Bool
  counted x i = not (eqb (cached_count lay x (i + 1)) 0)

  pub live_moves : live_pages lay w + (if not (eqb (cached_count lay v p) 0) then 1 else 0) ≡ live_pages lay v + (if not (eqb (cached_count lay w p) 0) then 1 else 0)
  live_moves =
      let moves = count_below-change (counted v) (counted w) lay.pages (p - 1) inside (λ k lt ne. ap (λ (n : ℕ). not (eqb n 0)) (other_place k lt ne)) in
      subst (λ (n : ℕ). live_pages lay w + (if not (eqb n 0) then 1 else 0) ≡ live_pages lay v + (if not (eqb (cached_count lay w p) 0) then 1 else 0)) (at_p v)
      (subst (λ (n : ℕ). live_pages lay w + (if counted v (p - 1) then 1 else 0) ≡ live_pages lay v + (if not (eqb n 0) then 1 else 0)) (at_p w) moves)

  pub mapped_stays : count_below (λ l. not (eqb (cached_name lay w l) 0)) lay.blocks ≡ count_below (λ l. not (eqb (cached_name lay v l) 0)) lay.blocks
  mapped_stays = count_below-same _ _ lay.blocks (λ l lt. ap (λ (n : ℕ). not (eqb n 0)) (r.names l lt))

  -- one more
  pub raised_totals : (t : Totals) → cached_count lay w p ≡ cached_count lay v p + 1 → AreFew t → AreTotals lay v t → AreTotals lay w (with_raised (eqb (cached_count lay v p) 0) t)
  raised_totals t more few was = record {
    live = elim (cases_eq (cached_count lay v p) 0) [
      | inl none ↦ rw (eq-eqb (cached_count lay v p) 0 none) (
          let moves : live_pages lay w + 0 ≡ live_pages lay v + 1 = subst (λ (b : Bool). live_pages lay w + (if not b then 1 else 0) ≡ live_pages lay v + 1) (eq-eqb (cached_count lay v p) 0 none)
          (subst (λ (b : Bool). live_pages lay w + (if not (eqb (cached_count lay v p) 0) then 1 else 0) ≡ live_pages lay v + (if not b then 1 else 0)) (ne_eqb (cached_count lay w p) 0 (λ z. omega (arith, z, more))) live_moves) in
          let l = was.live in let f = few.live in omega (arith, moves, l, f))
      | inr some ↦ rw (ne_eqb (cached_count lay v p) 0 some) (
          let moves : live_pages lay w + 1 ≡ live_pages lay v + 1 = subst (λ (b : Bool). live_pages lay w + (if not b then 1 else 0) ≡ live_pages lay v + 1) (ne_eqb (cached_count lay v p) 0 some)
          (subst (λ (b : Bool). live_pages lay w + (if not (eqb (cached_count lay v p) 0) then 1 else 0) ≡ live_pages lay v + (if not b then 1 else 0)) (ne_eqb (cached_count lay w p) 0 (λ z. omega (arith, z, more))) live_moves) in
          let l = was.live in omega (arith, moves, l))
    ];
    sum = let s = was.sum in let f = few.sum in omega (arith, sum_moves, more, s, f);
    mapped = was.mapped ∙ sym mapped_stays;
  }

  -- one less
  pub lowered_totals : (t : Totals) → cached_count lay v p ≡ cached_count lay w p + 1 → AreTotals lay v t → AreTotals lay w (with_lowered 1 (cond (eqb (cached_count lay w p) 0) 1 0) t)
  lowered_totals t less was = record {
    live = elim (cases_eq (cached_count lay w p) 0) [
      | inl none ↦ rw (eq-eqb (cached_count lay w p) 0 none) (
          let moves : live_pages lay w + 1 ≡ live_pages lay v + 0 = subst (λ (b : Bool). live_pages lay w + 1 ≡ live_pages lay v + (if not b then 1 else 0)) (eq-eqb (cached_count lay w p) 0 none)
          (subst (λ (b : Bool). live_pages lay w + (if not b then 1 else 0) ≡ live_pages lay v + (if not (eqb (cached_count lay w p) 0) then 1 else 0)) (ne_eqb (cached_count lay v p) 0 (λ z. omega (arith, z, less))) live_moves) in
          let l = was.live in omega (arith, moves, l))
      | inr some ↦ rw (ne_eqb (cached_count lay w p) 0 some) (
          let moves : live_pages lay w + 1 ≡ live_pages lay v + 1 = subst (λ (b : Bool). live_pages lay w + 1 ≡ live_pages lay v + (if not b then 1 else 0)) (ne_eqb (cached_count lay w p) 0 some)
          (subst (λ (b : Bool). live_pages lay w + (if not b then 1 else 0) ≡ live_pages lay v + (if not (eqb (cached_count lay w p) 0) then 1 else 0)) (ne_eqb (cached_count lay v p) 0 (λ z. omega (arith, z, less))) live_moves) in
          let l = was.live in omega (arith, moves, l))
    ];
    sum = let s = was.sum in omega (arith, sum_moves, less, s);
    mapped = was.mapped ∙ sym mapped_stays;
  }

pub same_totals : (lay : Layout) (v w : World) (t : Totals) → ((q : ℕ) → IsData lay q → cached_count lay w q ≡ cached_count lay v q) → ((l : ℕ) → l < lay.blocks → cached_name lay w l ≡ cached_name lay v l)
    → AreTotals lay v t → AreTotals lay w t
same_totals lay v w t counts names was = record {
  live = was.live ∙ count_below-same _ _ lay.pages (λ k lt. ap (λ (n : ℕ). not (eqb n 0)) (sym (counts (k + 1) (omega arith, omega (arith, lt)))));
  sum = was.sum ∙ sum_below-same _ _ lay.pages (λ k lt. sym (counts (k + 1) (omega arith, omega (arith, lt))));
  mapped = was.mapped ∙ count_below-same _ _ lay.blocks (λ l lt. ap (λ (n : ℕ). not (eqb n 0)) (sym (names l lt)));
}

-- one name changed
module _ (lay : Layout) (v w : World) (l : ℕ) (lt : l < lay.blocks) (r : Renames lay l v w) where
  mapped_moves : count_below (λ k. not (eqb (cached_name lay w k) 0)) lay.blocks + (if not (eqb (cached_name lay v l) 0) then 1 else 0)
      ≡ count_below (λ k. not (eqb (cached_name lay v k) 0)) lay.blocks + (if not (eqb (cached_name lay w l) 0) then 1 else 0)
  mapped_moves = count_below-change (λ k. not (eqb (cached_name lay v k) 0)) (λ k. not (eqb (cached_name lay w k) 0)) lay.blocks l lt (λ k kt ne. ap (λ (n : ℕ). not (eqb n 0)) (r.others k kt ne))

  moved : (a b : Bool) (m n : ℕ) → n + (if not a then 1 else 0) ≡ m + (if not b then 1 else 0) → m < 4294967295 → cond a (cond b m (min (m + 1) 4294967295)) (cond b (m - 1) m) ≡ n
  moved true true m n e few = omega (arith, e)
  moved true false m n e few = omega (arith, e, few)
  moved false true m n e few = omega (arith, e)
  moved false false m n e few = omega (arith, e)

  pub renamed_totals : (t : Totals) → AreFew t → AreTotals lay v t → AreTotals lay w (with_renamed (cached_name lay v l) (cached_name lay w l) t)
  renamed_totals t few was = record {
    live = was.live ∙ count_below-same _ _ lay.pages (λ k kt. ap (λ (n : ℕ). not (eqb n 0)) (sym (r.counts (k + 1) (omega arith, omega (arith, kt)))));
    sum = was.sum ∙ sum_below-same _ _ lay.pages (λ k kt. sym (r.counts (k + 1) (omega arith, omega (arith, kt))));
    mapped = let m = was.mapped in let f = few.mapped in
        moved (eqb (cached_name lay v l) 0) (eqb (cached_name lay w l) 0) t.mapped (count_below (λ k. not (eqb (cached_name lay w k) 0)) lay.blocks) (subst (λ (n : ℕ). count_below (λ k. not (eqb (cached_name lay w k) 0)) lay.blocks + (if not (eqb (cached_name lay v l) 0) then 1 else 0) ≡ n + (if not (eqb (cached_name lay w l) 0) then 1 else 0)) (sym m) mapped_moves) f;
  }

-- no number of a store is at its end
pub few_totals : (sound : Bool) (d : Meaning) (core : Core) (array : ℕ → List Block) (t : Totals) → StandsFor sound d core array → AreTotals (lay_of core.shape) (world_of d core) t → AreFew t
few_totals sound d core array t s was =
    let lay = lay_of core.shape in
    let w = world_of d core in
    let valid = subst (λ (x : ShapeView). Rattle.page_layout.specs.Shape.IsValid x) s.of_shape.shape_is s.of_shape.first.valid in
    let counts = sum_below-most (λ i. cached_count lay w (i + 1)) 2147483647 core.shape.pages (λ k lt. (s.kept.counts.count_balance (k + 1) (omega arith, omega (arith, lt))).in_range) in
    let live = count_below-most (λ i. not (eqb (cached_count lay w (i + 1)) 0)) core.shape.pages in
    let mapped = count_below-most (λ l. not (eqb (cached_name lay w l) 0)) core.shape.blocks in
    let blocks = valid.few_blocks in let pages = valid.few_pages in
    let a = was.live in let b = was.sum in let c = was.mapped in
    record { live = omega (arith, live, pages, a); sum = few_sum core.shape.pages t.sum _ b counts pages; mapped = omega (arith, mapped, blocks, c) }
  where
    few_sum : (pages sum total : ℕ) → sum ≡ total → total ≤ pages * 2147483647 → pages ≤ 1048576 → sum < 18446744073709551615
    few_sum pages sum total e most few = omega (arith, e, most, few)

-- a page of the tables has another content
module _ (lay : Layout) (apart : Apart lay) (v w : World) (at : ℕ) (c : List ℕ) (cached : (a : ℕ) → w.cached a ≡ cond (eqb a at) c (v.cached a)) where
  there : w.cached at ≡ c
  there = cached at ∙ rw (eq-eqb at at refl) refl

  elsewhere : (a : ℕ) → a ≢ at → w.cached a ≡ v.cached a
  elsewhere a ne = cached a ∙ rw (ne_eqb a at ne) refl

  pub recounts : (p n : ℕ) → at ≡ lay.count_page p → IsData lay p → lay.count_in c p ≡ n → ((q : ℕ) → IsData lay q → q ≢ p → lay.count_page q ≡ at → lay.count_in c q ≡ lay.count_in (v.cached at) q)
      → Recounts lay p v w × (cached_count lay w p ≡ n)
  recounts p n is d here others = (
    record {
      others = λ q e ne. elim (cases_eq (lay.count_page q) at) [
        | inl same ↦ ap (λ a. lay.count_in (w.cached a) q) same ∙ ap (λ x. lay.count_in x q) there ∙ others q e ne same ∙ ap (λ a. lay.count_in (v.cached a) q) (sym same)
        | inr off ↦ ap (λ x. lay.count_in x q) (elsewhere (lay.count_page q) off)
      ];
      names = λ l lt. ap (λ x. lay.name_in x l) (elsewhere (lay.map_page l) (λ e. apart.map_count l p lt d (e ∙ is)));
    },
    ap (λ a. lay.count_in (w.cached a) p) (sym is) ∙ ap (λ x. lay.count_in x p) there ∙ here,
  )

  pub renames : (l n : ℕ) → at ≡ lay.map_page l → l < lay.blocks → lay.name_in c l ≡ n → ((k : ℕ) → k < lay.blocks → k ≢ l → lay.map_page k ≡ at → lay.name_in c k ≡ lay.name_in (v.cached at) k)
      → Renames lay l v w × (cached_name lay w l ≡ n)
  renames l n is lt here others = (
    record {
      others = λ k kt ne. elim (cases_eq (lay.map_page k) at) [
        | inl same ↦ ap (λ a. lay.name_in (w.cached a) k) same ∙ ap (λ x. lay.name_in x k) there ∙ others k kt ne same ∙ ap (λ a. lay.name_in (v.cached a) k) (sym same)
        | inr off ↦ ap (λ x. lay.name_in x k) (elsewhere (lay.map_page k) off)
      ];
      counts = λ q d. ap (λ x. lay.count_in x q) (elsewhere (lay.count_page q) (λ e. apart.map_count l q lt d (sym (e ∙ is))));
    },
    ap (λ a. lay.name_in (w.cached a) l) (sym is) ∙ ap (λ x. lay.name_in x l) there ∙ here,
  )

pub raise_recounts : (d : Meaning) (old new : Core) (p : ℕ) → 1 ≤ p → p ≤ old.shape.pages → is_there old.engine.cache (count_page old.shape p) ≡ true → RaisesCount p old new
    → Recounts (lay_of old.shape) p (world_of d old) (world_of d new) × (cached_count (lay_of old.shape) (world_of d new) p ≡ cached_count (lay_of old.shape) (world_of d old) p + 1)
raise_recounts d old new p first last there r =
    let at = count_page old.shape p in
    let held : (world_of d old).cached at ≡ page_in old at = cached_there d old at there in
    recounts (lay_of old.shape) (apart_pages old.shape) (world_of d old) (world_of d new) at r.page (λ a. ap (λ (x : World). x.cached a) (r.world d)) p _ refl (first, last)
    (r.sets.here ∙ ap (λ (c : Block). count_in c p + 1) (sym held))
    (λ q is ne same. r.sets.others q is.0 ne same ∙ ap (λ (c : Block). count_in c q) (sym held))

pub lower_recounts : (d : Meaning) (old new : Core) (i : ℕ) (r : Release) → IsPlaced old.shape r → is_there old.engine.cache r.count_at ≡ true → 0 < cached_count (lay_of old.shape) (world_of d old) r.page → LowersCount i r old new
    → Recounts (lay_of old.shape) r.page (world_of d old) (world_of d new) × (cached_count (lay_of old.shape) (world_of d old) r.page ≡ cached_count (lay_of old.shape) (world_of d new) r.page + 1)
lower_recounts d old new i r placed there some low =
    let held : (world_of d old).cached r.count_at ≡ page_in old r.count_at = cached_there d old r.count_at there in
    let was : cached_count (lay_of old.shape) (world_of d old) r.page ≡ count_in (page_in old r.count_at) r.page = ap (λ a. count_in ((world_of d old).cached a) r.page) (sym placed.count_at) ∙ ap (λ (c : Block). count_in c r.page) held in
    let both = recounts (lay_of old.shape) (apart_pages old.shape) (world_of d old) (world_of d new) r.count_at low.page (λ a. ap (λ (x : World). x.cached a) (low.world d)) r.page (count_in (page_in old r.count_at) r.page - 1) placed.count_at (placed.first, placed.last)
    low.sets.here (λ q is ne same. low.sets.others q is.0 ne (same ∙ placed.count_at) ∙ ap (λ (c : Block). count_in c q) (sym held)) in
    let now = both.1 in
    (both.0, omega (arith, was, now, some))

pub name_renames : (d : Meaning) (old new : Core) (l p : ℕ) → l < old.shape.blocks → is_there old.engine.cache (map_page l) ≡ true → NamesBlock l p old new
    → Renames (lay_of old.shape) l (world_of d old) (world_of d new) × (cached_name (lay_of old.shape) (world_of d new) l ≡ p)
name_renames d old new l p lt there n =
    let held : (world_of d old).cached (map_page l) ≡ page_in old (map_page l) = cached_there d old (map_page l) there in
    renames (lay_of old.shape) (apart_pages old.shape) (world_of d old) (world_of d new) (map_page l) n.page (λ a. ap (λ (x : World). x.cached a) (n.world d)) l p refl lt
    n.sets.here (λ k kt ne same. n.sets.others k ne same ∙ ap (λ (c : Block). slot_of c k) (sym held))

-- sums of names and of releases
sum_plus : (f g : ℕ → ℕ) (n : ℕ) → sum_below (λ k. f k + g k) n ≡ sum_below f n + sum_below g n
unfolding sum_below
sum_plus f g zero = refl
sum_plus f g (suc n) = let rest = sum_plus f g n in omega (arith, rest)

sum_none : (n : ℕ) → sum_below (λ k. 0) n ≡ 0
unfolding sum_below
sum_none zero = refl
sum_none (suc n) = let rest = sum_none n in omega (arith, rest)

one_page : (x n : ℕ) → sum_below (λ k. if eqb x (k + 1) then 1 else 0) n ≤ (if not (eqb x 0) then 1 else 0)
one_page x n = elim (cases_eq x 0) [
  | inl none ↦ rw (eq-eqb x 0 none) (
      let zero = sum_below-same (λ k. if eqb x (k + 1) then 1 else 0) (λ k. 0) n (λ k lt. ap (λ (b : Bool). if b then 1 else 0) (ne_eqb x (k + 1) (λ e. omega (arith, e, none)))) in
      let all = sum_none n in omega (arith, zero, all))
  | inr some ↦ rw (ne_eqb x 0 some) (
      let ones = count_below-sum (λ k. eqb x (k + 1)) n in
      let one = count_below-one (λ k. eqb x (k + 1)) n (x - 1) (λ k lt h. let e = eqb-true x (k + 1) h in omega (arith, e)) in
      omega (arith, ones, one))
]

names_summed : (name : ℕ → ℕ) (blocks n : ℕ) → sum_below (λ k. count_below (λ l. eqb (name l) (k + 1)) blocks) n ≤ count_below (λ l. not (eqb (name l) 0)) blocks
unfolding count_below
names_summed name zero n = let all = sum_none n in omega (arith, all)
names_summed name (suc blocks) n =
    let rest = names_summed name blocks n in
    let split = sum_plus (λ k. if eqb (name blocks) (k + 1) then 1 else 0) (λ k. count_below (λ l. eqb (name l) (k + 1)) blocks) n in
    let one = one_page (name blocks) n in
    omega (arith, rest, split, one)

queued_summed : (rs : List plain.Release) (n : ℕ) → sum_below (λ k. queued rs (k + 1)) n ≤ length rs
queued_summed [] n = let all = sum_none n in omega (arith, all)
queued_summed (r ∷ rs) n =
    let rest = queued_summed rs n in
    let split = sum_plus (λ k. if eqb r.page (k + 1) then 1 else 0) (λ k. queued rs (k + 1)) n in
    let one = one_page r.page n in
    let most = at_most_one (not (eqb r.page 0)) in
    omega (arith, rest, split, one, most)
  where
    at_most_one : (b : Bool) → (if b then 1 else 0) ≤ 1
    at_most_one true = omega arith
    at_most_one false = omega arith

module _ (version : ℕ) (d : Meaning) (core : Core) (t : Totals) (tight : IsTight (lay_of core.shape) version (world_of d core)) (are : AreTotals (lay_of core.shape) (world_of d core) t) where
  pub queue_length : length (world_of d core).queue ≡ length core.ledger.queue.releases
  queue_length = length-map core.ledger.queue.releases plain_release

  pub no_waste : waste_of (length core.ledger.queue.releases) t ≡ 0
  no_waste =
      let lay = lay_of core.shape in
      let w = world_of d core in
      let owed = sum_below-same (λ i. cached_count lay w (i + 1)) (λ i. cached_names lay w (i + 1) + queued w.queue (i + 1)) core.shape.pages (λ i lt. tight.owed (i + 1) (omega arith, omega (arith, lt))) in
      let split = sum_plus (λ i. cached_names lay w (i + 1)) (λ i. queued w.queue (i + 1)) core.shape.pages in
      let named = names_summed (cached_name lay w) core.shape.blocks core.shape.pages in
      let postponed = queued_summed w.queue core.shape.pages in
      let sum = are.sum in let mapped = are.mapped in
      omega (arith, owed, split, named, postponed, queue_length, sum, mapped)
