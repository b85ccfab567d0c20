-- Every moment of every schedule keeps all.
use Rattle.std.proofs.Common.{◌≡◌, ◌≢◌, inl, inr, ◌+◌, ◌<◌, sym, ap, ◌∙◌, refl, arith, subst, ℕ, List, [], ◌∷◌, Bool}
use Rattle.std.proofs.lemmas.Bool.{cases_eq}
use Rattle.order_model.specs.World.{Layout, Agree, IsData}
use Rattle.engine_model.specs.Counts.{CountsInvariant}
use Rattle.engine_model.specs.Entries.{cached_count, Apart}
use Rattle.engine_model.specs.Contents.{ContentsInvariant}
use Rattle.engine_model.specs.Known.{Tells}
use Rattle.order_model.specs.Calls.{Call}
use Rattle.order_model.specs.declared.Slot.TheVariants.{Name, Print}
use Rattle.order_model.specs.declared.Slot.{Slot}
use Rattle.engine_model.specs.Births.{BirthKnown, IsSlot, has_print, told}
use Rattle.order_model.specs.Pool.{Told, after_take, after_zeroed}
use Rattle.engine_model.specs.Pool.{PoolKnows}
use Rattle.engine_model.specs.Edits.{CacheOnly}
use Rattle.engine_model.specs.Invariant.{Moment, EngineInvariant, ToldBirths, ToldTake, ToldZero, known_at}
use Rattle.engine_model.specs.Schedule.{Step, BarrierDone, WriteDone, WriteTaken, WriteRefused, Unchanged, ReleaseApplied, Discard, Write, WriteAgain, DiscardAgain, Fold, FoldZero, DropData, Correct, FlushDone, Run, Each}
use Rattle.engine_model.specs.Images.{CrashImage, CountsFit, ContentsFit}
use Rattle.engine_model.proofs.Barrier.{barrier_keeps}
use Rattle.engine_model.proofs.Write.{write_done_keeps, write_taken_keeps}
use Rattle.engine_model.proofs.Applied.{applied_keeps}
use Rattle.engine_model.proofs.Renamed.{discard_keeps, rename_keeps}
use Rattle.engine_model.proofs.Corrected.{correct_keeps}
use Rattle.engine_model.proofs.Dropped as dropped
use Rattle.engine_model.proofs.Same.{same_is}
use mathlib.Core.Path.{fun_ext}
use Rattle.engine_model.specs.DeviceSteps.{Same}
use Rattle.engine_model.proofs.BarrierContents.{barrier_contents}
use Rattle.engine_model.proofs.WriteContents.{done_contents, taken_contents}
use Rattle.engine_model.proofs.ReleasedContents.{again_contents, again_zero_contents, fold_zero_contents, applied_contents, correct_contents, discard_contents}
use Rattle.engine_model.proofs.RenamedContents.{write_contents_kept, fold_contents}
use Rattle.engine_model.proofs.AtRest.{flush_contents}
use Rattle.engine_model.proofs.Images.{image_fits, image_reads}
use Rattle.engine_model.proofs.Births.{tried_births, failed_births, done_births, fixed_births, edited_births, unborn_births}
use Rattle.engine_model.proofs.Pool.{tried_knows, failed_knows, written_knows, fixed_knows, taken_knows, zeroed_knows, same_knows, pool_free}

-- what birth_marks and the pool tell at a moment that is kept is so
pub tells : (lay : Layout) (top : ℕ) (sound : Bool) (m : Moment) → EngineInvariant lay top sound m → Tells lay m.world (known_at lay m)
tells lay top sound m k = record {
  unborn_name = λ l p lt u may. unborn_births lay m.world m.calls (Name l) p (k.births (Name l) lt) u may.content may.possible may.names;
  unborn_print = λ p print d u may. unborn_births lay m.world m.calls (Print p) 1 (k.births (Print p) d) u may.content may.possible (ap has_print may.has);
  free = λ p d f. pool_free lay m.world (m.pool p) p (k.pool_knows_counts p d) f;
}

pub fits : (lay : Layout) (top : ℕ) (sound : Bool) (n : Moment) → EngineInvariant lay top sound n → (image : ℕ → List ℕ) → CrashImage n.world image
    → CountsFit lay image × ContentsFit lay sound image n.array
fits lay top sound n k image is = (image_fits lay top n.world image k.counts is, image_reads lay sound n.array n.world image k.contents is)

pub pool_by : (lay : Layout) (n : Moment) (pool : ℕ → Told) → Agree n.pool pool → ((p : ℕ) → IsData lay p → PoolKnows lay n.world (pool p) p) → (p : ℕ) → IsData lay p
    → PoolKnows lay n.world (n.pool p) p
pool_by lay n pool e b p d = subst (λ x. PoolKnows lay n.world x p) (sym (e p)) (b p d)

module _ (lay : Layout) (top : ℕ) (sound : Bool) (apart : Apart lay) (m n : Moment) (k : EngineInvariant lay top sound m) where
  knows : Tells lay m.world (known_at lay m)
  knows = tells lay top sound m k

  same_array : Agree n.array m.array → ContentsInvariant lay sound m.array n.world → ContentsInvariant lay sound n.array n.world
  same_array e c = subst (λ a. ContentsInvariant lay sound a n.world) (sym (fun_ext e)) c

  same_world : (array : ℕ → List (List ℕ)) → Same m.world n.world → ContentsInvariant lay sound array m.world → ContentsInvariant lay sound array n.world
  same_world array e c = subst (λ x. ContentsInvariant lay sound array x) (sym (same_is m.world n.world e)) c

  births_by : (calls : List Call) → n.calls ≡ calls → ((slot : Slot) → IsSlot lay slot → BirthKnown lay n.world calls slot) → (slot : Slot) → IsSlot lay slot → BirthKnown lay n.world n.calls slot
  births_by calls e b slot is = subst (λ x. BirthKnown lay n.world x slot) (sym e) (b slot is)

  edited : CacheOnly lay m.world n.world → ToldBirths lay m n → (slot : Slot) → IsSlot lay slot → BirthKnown lay n.world n.calls slot
  edited rest t = births_by (told t.edits m.calls) t.calls (λ slot is. edited_births lay m.world n.world m.calls t.edits slot (k.births slot is) rest t.dirty (t.leads slot is))

  module _ (p : ℕ) (rest : CacheOnly lay m.world n.world) (other : (q : ℕ) → IsData lay q → q ≢ p → cached_count lay n.world q ≡ cached_count lay m.world q) where
    kept_pool : (IsData lay p → ((0 < cached_count lay n.world p) × (0 < cached_count lay m.world p))) → Agree n.pool m.pool → (q : ℕ) → IsData lay q → PoolKnows lay n.world (n.pool q) q
    kept_pool both e = pool_by lay n m.pool e (λ q d. elim (cases_eq q p) [
      | inr ne ↦ same_knows lay m.world n.world (m.pool q) q rest (other q d ne) (k.pool_knows_counts q d)
      | inl at ↦ let pos = both (subst (λ z. IsData lay z) at d) in record {
        zero = λ h. let z : cached_count lay m.world p ≡ 0 = ap (cached_count lay m.world) (sym at) ∙ (k.pool_knows_counts q d).zero h in absurd (omega (arith, z, pos));
        above = λ h. let z : cached_count lay n.world p ≡ 0 = ap (cached_count lay n.world) (sym at) ∙ h in absurd (omega (arith, z, pos));
        possible = λ h c x. (k.pool_knows_counts q d).possible h c (rest.possible _ c x);
        newest = λ h. ap (λ c. lay.count_in c q) (rest.newest _) ∙ (k.pool_knows_counts q d).newest h;
      }
    ])

    taken_pool : IsData lay p → cached_count lay n.world p ≡ cached_count lay m.world p + 1 → ToldTake lay p m n → (q : ℕ) → IsData lay q → PoolKnows lay n.world (n.pool q) q
    taken_pool is more (inl fresh) = pool_by lay n (after_take p m.pool) fresh.1 (λ q d. taken_knows lay m.world n.world m.pool p q rest
        (λ e. subst (λ z. 0 < cached_count lay n.world z) (sym e) (omega (arith, more))) (other q d) (k.pool_knows_counts q d))
    taken_pool is more (inr was) = kept_pool (λ d. (omega (arith, more), was.0)) was.1

    zeroed_pool : (0 < cached_count lay n.world p → 0 < cached_count lay m.world p) → ToldZero lay p m n → (q : ℕ) → IsData lay q → PoolKnows lay n.world (n.pool q) q
    zeroed_pool was (inl gone) = pool_by lay n (after_zeroed p m.pool) gone.1 (λ q d. zeroed_knows lay m.world n.world m.pool p q rest
        (λ e. ap (cached_count lay n.world) e ∙ gone.0) (other q d) (k.pool_knows_counts q d))
    zeroed_pool was (inr left) = elim left.0 [
      | inl pos ↦ kept_pool (λ d. (pos, was pos)) left.1
      | inr same ↦ pool_by lay n m.pool left.1 (λ q d. same_knows lay m.world n.world (m.pool q) q rest (elim (cases_eq q p) [
        | inl e ↦ ap (cached_count lay n.world) e ∙ same ∙ ap (cached_count lay m.world) (sym e)
        | inr ne ↦ other q d ne
      ]) (k.pool_knows_counts q d))
    ]

  pub same_kept : (contents : ContentsInvariant lay sound n.array n.world) → Same m.world n.world → n.calls ≡ m.calls → Agree n.pool m.pool → EngineInvariant lay top sound n
  same_kept contents e calls pool = record {
    counts = subst (λ x. CountsInvariant lay top x) (sym (same_is m.world n.world e)) k.counts;
    contents = contents;
    births = births_by m.calls calls (λ slot is. subst (λ x. BirthKnown lay x m.calls slot) (sym (same_is m.world n.world e)) (k.births slot is));
    pool_knows_counts = pool_by lay n m.pool pool (λ p d. subst (λ x. PoolKnows lay x (m.pool p) p) (sym (same_is m.world n.world e)) (k.pool_knows_counts p d));
  }

  pub step_keeps : Step lay top m n → EngineInvariant lay top sound n
  step_keeps (BarrierDone b e calls pool) = record {
    counts = barrier_keeps lay top m.world n.world k.counts b;
    contents = same_array e (barrier_contents lay sound m.array m.world n.world k.contents b);
    births = births_by _ calls (λ slot is. fixed_births lay m.world n.world m.calls slot (k.births slot is) b);
    pool_knows_counts = pool_by lay n _ pool (λ p d. fixed_knows lay m.world n.world m.pool p (k.pool_knows_counts p d) b);
  }
  step_keeps (WriteDone page t s e calls pool) = record {
    counts = write_done_keeps lay top m.world n.world page k.counts t s;
    contents = same_array e (done_contents lay top sound m.array m.world n.world page k.counts k.contents t s);
    births = births_by _ calls (λ slot is. done_births lay m.world n.world m.calls slot page (k.births slot is) t s);
    pool_knows_counts = pool_by lay n _ pool (λ p d. written_knows lay m.world n.world page m.pool p (k.pool_knows_counts p d) t);
  }
  step_keeps (WriteTaken page t s e calls pool) = record {
    counts = write_taken_keeps lay top m.world n.world page k.counts t s;
    contents = same_array e (taken_contents lay top sound m.array m.world n.world page k.counts k.contents t s);
    births = births_by _ calls (λ slot is. failed_births lay m.world n.world m.calls slot page (k.births slot is) t s);
    pool_knows_counts = pool_by lay n _ pool (λ p d. failed_knows lay m.world n.world page m.pool p (k.pool_knows_counts p d) t);
  }
  step_keeps (WriteRefused page w e calls pool) = record {
    counts = subst (λ x. CountsInvariant lay top x) (sym (same_is m.world n.world w)) k.counts;
    contents = same_array e (same_world m.array w k.contents);
    births = births_by _ calls (λ slot is. tried_births lay n.world m.calls slot page (subst (λ x. BirthKnown lay x m.calls slot) (sym (same_is m.world n.world w)) (k.births slot is)));
    pool_knows_counts = pool_by lay n _ pool (λ p d. tried_knows lay n.world n.world page m.pool p (subst (λ x. PoolKnows lay x (m.pool p) p) (sym (same_is m.world n.world w)) (k.pool_knows_counts p d)));
  }
  step_keeps (Unchanged s e calls pool) = same_kept (same_array e (same_world m.array s k.contents)) s calls pool
  step_keeps (ReleaseApplied r before after a data_kept e births pool) = record {
    counts = applied_keeps lay (known_at lay m) top m.world n.world r before after k.counts knows a;
    contents = same_array e (applied_contents lay (known_at lay m) top sound m.array m.world n.world r before after knows a data_kept k.counts k.contents);
    births = edited a.rest births;
    pool_knows_counts = zeroed_pool r.page a.rest a.count_other (λ pos. omega (arith, a.count_here)) pool;
  }
  step_keeps (Discard l o x d gain births pool) = record {
    counts = discard_keeps lay (known_at lay m) top m.world n.world l o k.counts knows x;
    contents = discard_contents lay (known_at lay m) top sound m.array n.array m.world n.world l o x d gain k.counts k.contents;
    births = edited x.rest births;
    pool_knows_counts = pool_by lay n m.pool pool (λ q d. same_knows lay m.world n.world (m.pool q) q x.rest (x.counts q d) (k.pool_knows_counts q d));
  }
  step_keeps (Write l o p content x c gain births pool) = record {
    counts = rename_keeps lay (known_at lay m) top m.world n.world l o p apart k.counts knows x;
    contents = write_contents_kept lay (known_at lay m) top sound m.array n.array m.world n.world l o p content knows x c gain k.counts k.contents;
    births = edited x.rest births;
    pool_knows_counts = taken_pool p x.rest x.count_other x.is_data x.count_here pool;
  }
  step_keeps (WriteAgain l p is name w gain calls pool) = same_kept
      (same_world n.array w (again_contents lay top sound m.array n.array m.world l p _ is name refl gain k.counts k.contents)) w calls pool
  step_keeps (Fold l o p is x c e births pool) = record {
    counts = rename_keeps lay (known_at lay m) top m.world n.world l o p apart k.counts knows x;
    contents = same_array e (fold_contents lay (known_at lay m) top sound m.array m.world n.world l o p is knows x c k.counts k.contents);
    births = edited x.rest births;
    pool_knows_counts = taken_pool p x.rest x.count_other x.is_data x.count_here pool;
  }
  step_keeps (DiscardAgain l z w gain calls pool) = same_kept
      (same_world n.array w (again_zero_contents lay top sound m.array n.array m.world l z gain k.counts k.contents)) w calls pool
  step_keeps (FoldZero l o is zeros x d e births pool) = record {
    counts = discard_keeps lay (known_at lay m) top m.world n.world l o k.counts knows x;
    contents = same_array e (fold_zero_contents lay (known_at lay m) top sound m.array m.world n.world l o is zeros x d k.counts k.contents);
    births = edited x.rest births;
    pool_knows_counts = pool_by lay n m.pool pool (λ q d. same_knows lay m.world n.world (m.pool q) q x.rest (x.counts q d) (k.pool_knows_counts q d));
  }
  step_keeps (DropData p x e calls pool) = record {
    counts = dropped.drop_keeps lay top m.world n.world p apart k.counts x;
    contents = same_array e (dropped.drop_contents lay top m.world n.world p apart k.counts x sound m.array k.contents);
    births = births_by m.calls calls (λ slot is. dropped.drop_births lay top m.world n.world p apart k.counts x m.calls slot is (k.births slot is));
    pool_knows_counts = pool_by lay n m.pool pool (λ q d. dropped.drop_pool lay top m.world n.world p apart k.counts x (m.pool q) q d (k.pool_knows_counts q d));
  }
  step_keeps (Correct p x d e births pool) = record {
    counts = correct_keeps lay top m.world n.world p apart k.counts x;
    contents = same_array e (correct_contents lay top sound m.array m.world n.world p x d k.counts k.contents);
    births = edited x.rest births;
    pool_knows_counts = zeroed_pool p x.rest x.count_other (λ pos. let few = (k.counts.count_balance p x.is_data).enough in omega (arith, x.count_here)) pool;
  }
  step_keeps (FlushDone clean e alone calls pool) = same_kept
      (same_world n.array e (flush_contents lay sound m.array n.array m.world k.contents
      (λ page c t q. k.counts.marks_and_edges.settled page c t (clean page).0 (clean page).1 q) (λ page. (clean page).0) alone)) e calls pool

pub run_keeps : (lay : Layout) (top : ℕ) (sound : Bool) → Apart lay → (m : Moment) (ns : List Moment) → EngineInvariant lay top sound m → Run lay top m ns → Each (EngineInvariant lay top sound) ns
run_keeps lay top sound apart m [] k r = tt
run_keeps lay top sound apart m (n ∷ ns) k r = let next = step_keeps lay top sound apart m n k r.0 in (next, run_keeps lay top sound apart n ns next r.1)
