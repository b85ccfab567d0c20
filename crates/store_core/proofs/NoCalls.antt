-- No call of the device was made.
use Rattle.std.proofs.Common.{arith, ◌≡◌, inl, inr, ◌+◌, ◌<◌, ◌^◌, ℕ, true, refl, sym, ap, ◌∙◌, subst, List, [], length, min}
use Rattle.page_device.specs.declared.device.LogEntry.{LogEntry}
use Rattle.page_device.specs.Meaning.{Meaning}
use Rattle.page_layout.specs.Shape.{ShapeView}
use Rattle.order_model.specs.Edges.{Edge}
use Rattle.dep_graph.specs.Lists.{live_in}
use Rattle.release_queue.specs.declared.Release.{Release}
use Rattle.flush_engine.specs.View.{EngineView}
use Rattle.engine_model.specs.Entries.{IsCount}
use Rattle.store_core.specs.declared.Core.{Core}
use Rattle.store_core.specs.Applied.{AppliesRelease}
use Rattle.store_core.specs.Layout.{lay_of}
use Rattle.store_core.specs.Passing.{PassAdds}
use Rattle.store_core.specs.Quiet.{GivesBack}
use Rattle.store_core.specs.Stands.{CountsCalls}
use Rattle.store_core.specs.Whole.{IsPlaced}
use Rattle.store_core.proofs.Calls.{counts_none}

pub none_then : (a b c : ℕ) → CountsCalls 0 a b → CountsCalls 0 b c → CountsCalls 0 a c
none_then a b c h k = record {
  counted = λ few. let e : b ≡ min (a + 0) 18446744073709551615 = h.counted few in
      let below : b < 2 ^ 64 = omega (arith, e) in
      let f : c ≡ min (b + 0) 18446744073709551615 = k.counted below in
      omega (arith, e, f);
}

-- a device of which the log is empty
silent : Meaning
silent = record { honest = true; tells_pages = true; tells_log = true; tells_reads = true; pages = 0; faults = 0; calls = 0; reads = 0; state = record { fixed = []; since = [] }; log = [] }

-- what is given back over whatever device makes no call
pub back_counts : (less : ℕ → ℕ) (old new : Core) → GivesBack less old new → CountsCalls 0 old.engine.cache.calls new.engine.cache.calls
unfolding silent
back_counts less old new k =
    let p = k.passes silent in
    let none : p.calls ≡ [] = sym (p.gains.log refl (omega arith)) in
    subst (λ (xs : List LogEntry). CountsCalls (length xs) old.engine.cache.calls new.engine.cache.calls) none p.counted

-- nothing is added, one after another, and where the shape, the calls and the edges stay
pub adds_then : (a b c : Core) → b.shape ≡ a.shape → PassAdds a b → PassAdds b c → PassAdds a c
adds_then a b c shape h k = record {
  calls = none_then a.engine.cache.calls b.engine.cache.calls c.engine.cache.calls h.calls k.calls;
  into = λ x y l. elim (k.into x y l) [
    | inl was ↦ h.into x y was
    | inr is ↦ inr (subst (λ (s : ShapeView). IsCount (lay_of s) y) shape is)
  ];
}

pub adds_engine : (a b : Core) → b.engine ≡ a.engine → PassAdds a b
adds_engine a b same = record {
  calls = counts_none a.engine.cache.calls b.engine.cache.calls (ap (λ (e : EngineView). e.cache.calls) same);
  into = λ x y l. inl (ap (λ (e : EngineView). live_in e.graph x y) (sym same) ∙ l);
}

back_adds : (less : ℕ → ℕ) (a b : Core) → GivesBack less a b → PassAdds a b
back_adds less a b k = record {
  calls = back_counts less a b k;
  into = λ x y l. inl (ap (λ (es : List Edge). live_in (record a.engine.graph { edges = es }) x y) (sym k.rest.graph.edges) ∙ l);
}

pub out_adds : (a b c n : Core) (f g : ℕ → ℕ) → b.shape ≡ a.shape → PassAdds a b → GivesBack f b c → GivesBack g c n → PassAdds a n
out_adds a b c n f g shape adds first then = adds_then a b n shape adds (adds_then b c n first.rest.shape (back_adds f b c first) (back_adds g c n then))

pub applied_adds : (i : ℕ) (r : Release) (a b : Core) → IsPlaced a.shape r → b.engine.cache.calls ≡ a.engine.cache.calls → AppliesRelease i r a b → PassAdds a b
applied_adds i r a b placed calls x = record {
  calls = counts_none a.engine.cache.calls b.engine.cache.calls calls;
  into = λ p q l. elim (x.grows.into p q l) [
    | inl was ↦ inl was
    | inr is ↦ inr (r.page, (placed.first, placed.last), is ∙ placed.count_at)
  ];
}
