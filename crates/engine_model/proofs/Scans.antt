-- A scan leaves exact counts; and what a session begins with.
use Rattle.std.proofs.Common.{◌≡◌, inl, inr, ◌+◌, ◌<◌, ℕ, Bool, arith, refl, sym, ap, ◌∙◌, subst, List, [], ◌∷◌, Some, None, eqb}
use Rattle.std.proofs.lemmas.Bool.{cases_eq}
use Rattle.order_model.specs.World.{Agree, Layout, World, IsData}
use Rattle.order_model.specs.Contents.{IsAmong}
use Rattle.engine_model.specs.Entries.{IsTable, cached_count, cached_name, cached_names, cached_print, Apart}
use Rattle.engine_model.specs.Contents.{Last}
use Rattle.engine_model.specs.DeviceSteps.{AtRest}
use Rattle.engine_model.specs.Corrections.{Corrected}
use Rattle.engine_model.specs.Images.{ContentsFit, CountsBelow, CountsExact, CountsFit, CrashImage}
use Rattle.engine_model.specs.Births.{BirthKnown}
use Rattle.order_model.specs.Pool.{Listed, after_fixed, new_pool, taken_all, written_all}
use Rattle.engine_model.specs.Pool.{PoolKnows}
use Rattle.engine_model.specs.Schedule.{Correct, last_of}
use Rattle.engine_model.specs.Invariant.{EngineInvariant, Moment}
use Rattle.engine_model.specs.Scan.{Scan, TablesSettled}
use Rattle.engine_model.proofs.AtRest.{start, start_contents}
use Rattle.engine_model.proofs.Births.{start_births}
use Rattle.engine_model.proofs.Counting.{count_ext}
use Rattle.engine_model.proofs.Passes.{array_left, cache_left}
use Rattle.engine_model.proofs.Pool.{start_knows}
use Rattle.engine_model.proofs.Schedule.{step_keeps}
use Rattle.engine_model.proofs.Views.{count_same, names_by, names_same, print_same}

-- p's cached count is its names, and it has a print exactly where it has a name
record Counted (lay : Layout) (w : World) (p : ℕ) : Type 0 where
  count : cached_count lay w p ≡ cached_names lay w p
  named : 0 < cached_count lay w p → (print : List ℕ) × (cached_print lay w p ≡ Some print)
  unnamed : cached_count lay w p ≡ 0 → cached_print lay w p ≡ None

module _ (lay : Layout) (w v : World) (q : ℕ) (old : Counted lay w q) where
  counted_same : cached_count lay v q ≡ cached_count lay w q → cached_names lay v q ≡ cached_names lay w q → cached_print lay v q ≡ cached_print lay w q → Counted lay v q
  counted_same count names print = record {
    count = count ∙ old.count ∙ sym names;
    named = λ pos. let was = old.named (subst (λ n. 0 < n) count pos) in (was.0, print ∙ was.1);
    unnamed = λ z. print ∙ old.unnamed (sym count ∙ z);
  }

module _ (lay : Layout) (w v : World) (p : ℕ) (x : Corrected lay w v p) where
  corrected_counted : Counted lay v p
  corrected_counted = record {
    count = x.count_here ∙ sym (names_by lay w v x.names p);
    named = λ pos. elim x.print_here [
      | inl kept ↦ (kept.1.0, kept.2 ∙ kept.1.1)
      | inr more ↦ elim more [
        | inl gone ↦ absurd (omega (arith, gone.0, x.count_here))
        | inr made ↦ (lay.finger (v.cached (lay.data_page p)), made.2)
      ]
    ];
    unnamed = λ z. elim x.print_here [
      | inl kept ↦ absurd (omega (arith, kept.0, x.count_here))
      | inr more ↦ elim more [ inl gone ↦ gone.1 | inr made ↦ absurd (omega (arith, made.0, x.count_here)) ]
    ];
  }

module _ (lay : Layout) (top : ℕ) (sound : Bool) (apart : Apart lay) where
  scan_counts : (p : ℕ) (m : Moment) (ns : List Moment) → EngineInvariant lay top sound m → ((q : ℕ) → IsData lay q → q < p → Counted lay m.world q) → Scan lay top p m ns
      → EngineInvariant lay top sound (last_of m ns) × ((q : ℕ) → IsData lay q → Counted lay (last_of m ns).world q)
  scan_counts p m [] k below s = (k, λ q d. below q d (omega (arith, d, s)))
  scan_counts p m (n ∷ ns) k below (inl s) = scan_counts p n ns (step_keeps lay top sound apart m n k s.0.step)
      (λ q d lt. counted_same lay m.world n.world q (below q d lt) (count_same lay m.world n.world (cache_left lay top m n s.0) q) (names_same lay m.world n.world (cache_left lay top m n s.0) q) (print_same lay m.world n.world (cache_left lay top m n s.0) q))
      s.1
  scan_counts p m (n ∷ ns) k below (inr s) = let x = s.0.corrected in
      scan_counts (p + 1) n ns (step_keeps lay top sound apart m n k (Correct p x s.0.data_kept s.0.array s.0.births s.0.pool))
      (λ q d lt. elim (cases_eq q p) [
        | inl e ↦ subst (λ z. Counted lay n.world z) (sym e) (corrected_counted lay m.world n.world p x)
        | inr ne ↦ counted_same lay m.world n.world q (below q d (omega arith)) (x.count_other q d ne) (names_by lay m.world n.world x.names q) (x.print_other q d ne)
      ])
      s.1

  pub scan_keeps : (m : Moment) (ns : List Moment) → EngineInvariant lay top sound m → Scan lay top 1 m ns → EngineInvariant lay top sound (last_of m ns)
  scan_keeps m ns k s = (scan_counts 1 m ns k (λ q d lt. absurd (omega (arith, d))) s).0

  pub scan_exact : (m : Moment) (ns : List Moment) (image : ℕ → List ℕ) → EngineInvariant lay top sound m → Scan lay top 1 m ns → TablesSettled lay (last_of m ns)
      → CrashImage (last_of m ns).world image → CountsExact lay image
  scan_exact m ns image k s settled is =
      let n = last_of m ns in
      let all = scan_counts 1 m ns k (λ q d lt. absurd (omega (arith, d))) s in
      let page : (a : ℕ) → IsTable lay a → image a ≡ n.world.cached a =
      λ a t. all.0.counts.marks_and_edges.settled a (image a) t (settled a t).0 (settled a t).1 (is a) in
      let count : (p : ℕ) → IsData lay p → lay.count_in (image (lay.count_page p)) p ≡ cached_count lay n.world p =
      λ p d. ap (λ c. lay.count_in c p) (page _ (inr (p, d, inl refl))) in
      let print : (p : ℕ) → IsData lay p → lay.print_in (image (lay.print_page p)) p ≡ cached_print lay n.world p =
      λ p d. ap (λ c. lay.print_in c p) (page _ (inr (p, d, inr refl))) in
      record {
        counts = λ p d. count p d ∙ (all.1 p d).count
            ∙ sym (count_ext lay.blocks (λ l. eqb (lay.name_in (image (lay.map_page l)) l) p) (λ l. eqb (cached_name lay n.world l) p)
            (λ l lt. ap (λ c. eqb (lay.name_in c l) p) (page _ (inl (l, lt, refl)))));
        named = λ p d pos. let was = (all.1 p d).named (subst (λ x. 0 < x) (count p d) pos) in (was.0, print p d ∙ was.1);
        unnamed = λ p d z. print p d ∙ (all.1 p d).unnamed (sym (count p d) ∙ z);
      }

-- a scan changes no list
pub scan_array : (lay : Layout) (top p : ℕ) (m : Moment) (ns : List Moment) → Scan lay top p m ns → Agree (last_of m ns).array m.array
scan_array lay top p m [] s = λ l. refl
scan_array lay top p m (n ∷ ns) (inl s) = λ l. scan_array lay top p n ns s.1 l ∙ array_left lay top m n s.0 l
scan_array lay top p m (n ∷ ns) (inr s) = λ l. scan_array lay top (p + 1) n ns s.1 l ∙ s.0.array l

-- the first moment of a session
pub session_start : (lay : Layout) (top : ℕ) (sound : Bool) (m : Moment) (counted tables : List ℕ) → AtRest m.world → CountsFit lay m.world.newest → CountsBelow lay top m.world.newest
    → ContentsFit lay sound m.world.newest m.array → ((l : ℕ) → l < lay.blocks → (c : List ℕ) → IsAmong c (m.array l) → Last (m.array l) c) → m.calls ≡ []
    → ((p : ℕ) → IsData lay p → (Listed p counted → 0 < cached_count lay m.world p) × (0 < cached_count lay m.world p → Listed p counted)) → ((p : ℕ) → IsData lay p → Listed (lay.count_page p) tables)
    → Agree m.pool (after_fixed (written_all lay tables (taken_all counted new_pool))) → EngineInvariant lay top sound m
session_start lay top sound m counted tables rest fit below contents alone calls all every pool = record {
  counts = start lay top m.world rest fit below;
  contents = start_contents lay top m.world rest sound m.array contents alone;
  births = λ slot is. subst (λ cs. BirthKnown lay m.world cs slot) (sym calls) (start_births lay m.world slot rest);
  pool_knows_counts = λ p d. subst (λ f. PoolKnows lay m.world f p) (sym (pool p)) (start_knows lay m.world counted tables rest all every p d);
}
