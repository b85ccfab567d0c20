-- Each small step keeps the invariant, and so does a run of steps and small steps.
use Rattle.std.proofs.Common.{inl, inr, ℕ, Bool, subst, List, [], ◌∷◌}
use Rattle.order_model.specs.World.{Layout}
use Rattle.engine_model.specs.Entries.{Apart}
use Rattle.engine_model.specs.Counts.{EdgeKinds}
use Rattle.order_model.specs.Paths.{IsAcyclic}
use Rattle.engine_model.specs.Images.{ContentsFit, CountsFit, CrashImage}
use Rattle.engine_model.specs.Invariant.{EngineInvariant, Moment, ToldTake, ToldZero}
use Rattle.engine_model.specs.Schedule.{Each}
use Rattle.engine_model.specs.SmallRuns.{ClearPrint, GiveUp, Lower, Order, OrderByBarrier, Place, Raise, Recount, SetName, SetPrint, SmallRun, SmallStep, Touch}
use Rattle.engine_model.proofs.GivenUp.{given_up_keeps}
use Rattle.engine_model.proofs.Lowered.{lowered_keeps, recounted_keeps}
use Rattle.engine_model.proofs.Quiet.{barred_keeps, ordered_keeps, placed_keeps, raised_keeps, touched_keeps}
use Rattle.engine_model.proofs.Schedule.{fits, step_keeps}
use Rattle.engine_model.proofs.SetNames.{named_keeps}
use Rattle.engine_model.proofs.SetPrints.{cleared_keeps, printed_keeps}

module _ (lay : Layout) (top : ℕ) (sound : Bool) (apart : Apart lay) where
  pub small_step_keeps : (m n : Moment) → EngineInvariant lay top sound m → SmallStep lay top m n → EngineInvariant lay top sound n
  small_step_keeps m n k (Touch page t e) = rw e (touched_keeps lay top sound apart m k page t)
  small_step_keeps m n k (Place p content d free e) = rw e (placed_keeps lay top sound apart m k p content d free)
  small_step_keeps m n k (Order before after kind first later no_cycle e) = rw e (ordered_keeps lay top sound apart m k before after kind later first no_cycle)
  small_step_keeps m n k (OrderByBarrier before after kind first later e) = rw e (barred_keeps lay top sound apart m k before after kind later first)
  small_step_keeps m n k (Raise p c pool can e told) = rw e (raised_keeps lay top sound apart m k p c can pool (subst (λ x. ToldTake lay p m x) e told))
  small_step_keeps m n k (SetPrint p c print can e) = rw e (printed_keeps lay top sound apart m k p c print can)
  small_step_keeps m n k (SetName l o p c array can gain e) = rw e (named_keeps lay top sound apart m k l o p c can array gain)
  small_step_keeps m n k (ClearPrint p c print can e) = rw e (cleared_keeps lay top sound apart m k p c print can)
  small_step_keeps m n k (Lower r before after c count pool can e told) = rw e (lowered_keeps lay top sound apart m k r before after c count can pool (subst (λ x. ToldZero lay r.page m x) e told))
  small_step_keeps m n k (Recount p c count pool can e told) = rw e (recounted_keeps lay top sound apart m k p c count can pool (subst (λ x. ToldZero lay p m x) e told))
  small_step_keeps m n k (GiveUp p is none e) = rw e (given_up_keeps lay top sound apart m k p is none)

  pub small_run_keeps : (m : Moment) (ns : List Moment) → EngineInvariant lay top sound m → SmallRun lay top m ns → Each (EngineInvariant lay top sound) ns
  small_run_keeps m [] k r = tt
  small_run_keeps m (n ∷ ns) k r =
      let next : EngineInvariant lay top sound n = elim r.0 [ inl s ↦ step_keeps lay top sound apart m n k s | inr s ↦ small_step_keeps m n k s ] in
      (next, small_run_keeps n ns next r.1)

  -- at every moment every image is fit, and the graph is acyclic and of the allowed kinds
  pub small_run_fits : (m : Moment) (ns : List Moment) → EngineInvariant lay top sound m → SmallRun lay top m ns
      → Each (λ n. (image : ℕ → List ℕ) → CrashImage n.world image → CountsFit lay image × ContentsFit lay sound image n.array) ns
  small_run_fits m ns k r = each_more ns (small_run_keeps m ns k r)
    where
      each_more : (ns : List Moment) → Each (EngineInvariant lay top sound) ns → Each (λ n. (image : ℕ → List ℕ) → CrashImage n.world image → CountsFit lay image × ContentsFit lay sound image n.array) ns
      each_more [] e = tt
      each_more (n ∷ ns) e = (fits lay top sound n e.0, each_more ns e.1)

  pub small_run_graph : (m : Moment) (ns : List Moment) → EngineInvariant lay top sound m → SmallRun lay top m ns → Each (λ n. IsAcyclic n.world.live × EdgeKinds lay n.world) ns
  small_run_graph m ns k r = each_more ns (small_run_keeps m ns k r)
    where
      each_more : (ns : List Moment) → Each (EngineInvariant lay top sound) ns → Each (λ n. IsAcyclic n.world.live × EdgeKinds lay n.world) ns
      each_more [] e = tt
      each_more (n ∷ ns) e = ((e.0.counts.marks_and_edges.acyclic, e.0.counts.edge_kinds), each_more ns e.1)
