-- What a core stands for: in each image, and after a call of the device.
use Rattle.std.proofs.Common.{arith, ◌≡◌, inr, ◌≤◌, ℕ, Bool, refl, sym, ap, ◌∙◌, subst, List, [], ◌∷◌, ◌++◌, get_or}
use Rattle.std.proofs.lemmas.List.Elements.{All-append, All-cons, All-nil}
use Rattle.page_device.specs.Block.{Block}
use Rattle.page_device.specs.Meaning.{Meaning, OneCall}
use Rattle.page_device.specs.declared.device.LogEntry.{LogEntry}
use Rattle.page_device.specs.Faults.{IsCalm, calm_first, calm_next}
use Rattle.page_device.specs.Gains.{gains_call, gains_none, gains_then, moments_then}
use Rattle.page_device.specs.Moments.{EachImage, EachMoment}
use Rattle.page_cache.specs.Calls.{after_call}
use Rattle.page_layout.specs.Shape.{IsSuperblock, ShapeView, told_shape, total}
use Rattle.order_model.specs.Calls.{Call}
use Rattle.order_model.specs.Pool.{Told}
use Rattle.order_model.specs.World.{IsData, World}
use Rattle.birth_marks.specs.Births.{Remembers}
use Rattle.page_alloc.specs.Pool.{told_of}
use Rattle.engine_model.specs.Disk.{newest_on}
use Rattle.engine_model.specs.Images.{CrashImage}
use Rattle.engine_model.specs.Invariant.{EngineInvariant}
use Rattle.engine_model.proofs.Disks.{image_possible}
use Rattle.engine_model.proofs.Images.{image_fits, image_reads}
use Rattle.store_core.specs.declared.Core.{Core}
use Rattle.store_core.specs.Layout.{lay_of, place_of, top}
use Rattle.store_core.specs.Views.{IsKnown, world_of}
use Rattle.flush_engine.specs.View.{EngineView}
use Rattle.store_core.specs.Stands.{EndsDone, HasShapeOf, IsFit, Passes, StandsFor, moment_of}
use Rattle.store_core.proofs.Calls.{counts_append, counts_none, counts_one, no_moment, one_moment}

-- each image of the device is fit
pub images_fit : (sound : Bool) (d : Meaning) (core : Core) (array : ℕ → List Block) → StandsFor sound d core array → EachImage (IsFit core.shape sound array) d.state
images_fit sound d core array s = λ image is.
    let plain : CrashImage (world_of d core) (λ page. get_or image page []) = λ page. inr (image_possible d.state image page is) in
    let first : get_or image 0 [] ≡ newest_on d.state 0 = s.kept.contents.first_page.one (get_or image 0 []) (plain 0) in
    record {
      counts = image_fits (lay_of core.shape) top (world_of d core) (λ page. get_or image page []) s.kept.counts plain;
      contents = image_reads (lay_of core.shape) sound array (world_of d core) (λ page. get_or image page []) s.kept.contents plain;
      first = subst IsSuperblock (sym first) s.of_shape.first;
      shape_is = ap told_shape first ∙ s.of_shape.shape_is;
      sized = omega (arith, s.of_shape.sized, s.known.counts, is.pages);
    }

-- the device has the shape still
pub shape_stays : (d e : Meaning) (shape : ShapeView) → newest_on e.state 0 ≡ newest_on d.state 0 → e.pages ≡ d.pages → HasShapeOf d shape → HasShapeOf e shape
shape_stays d e shape first pages h = record {
  first = subst IsSuperblock (sym first) h.first;
  shape_is = ap told_shape first ∙ h.shape_is;
  sized = subst (λ (n : ℕ). total shape ≤ n) (sym pages) h.sized;
}

-- a moment of the new core from one over the old shape
pub stands_then : (sound : Bool) (d e : Meaning) (old new : Core) (array : ℕ → List Block) → StandsFor sound d old array → IsKnown e → e.pages ≡ d.pages → new.shape ≡ old.shape
    → (calls : List Call) (told : ℕ → Told) (w : World) → world_of e new ≡ w → w.newest 0 ≡ newest_on d.state 0
    → EngineInvariant (lay_of old.shape) top sound (record (moment_of d old array calls told) { world = w })
    → Remembers (place_of old.shape) new.ledger.births calls → ((p : ℕ) → IsData (lay_of old.shape) p → told_of new.ledger.pool p ≡ told p) → StandsFor sound e new array
stands_then sound d e old new array s known pages shape calls told w is first kept births pool = record {
  known = known;
  of_shape = subst (HasShapeOf e) (sym shape) (shape_stays d e old.shape (ap (λ (x : World). x.newest 0) is ∙ first) pages s.of_shape);
  calls = calls;
  told = told;
  kept = subst (λ (x : ShapeView). EngineInvariant (lay_of x) top sound (moment_of e new array calls told)) (sym shape)
      (subst (λ (x : World). EngineInvariant (lay_of old.shape) top sound (record (moment_of d old array calls told) { world = x })) (sym is) kept);
  births = subst (λ (x : ShapeView). Remembers (place_of x) new.ledger.births calls) (sym shape) births;
  pool = subst (λ (x : ShapeView). (p : ℕ) → IsData (lay_of x) p → told_of new.ledger.pool p ≡ told p) (sym shape) pool;
}

-- one call of the device
unfoldable pub passes_call : (P : LogEntry → Type 0) (d e : Meaning) (old new : Core) (call : OneCall P d e) → new.engine.cache.calls ≡ after_call old.engine.cache.calls → d.faults ≤ e.faults → (IsCalm d e → EndsDone call.entry) → new.shape ≡ old.shape
    → ((sound : Bool) (array : ℕ → List Block) → StandsFor sound d old array → StandsFor sound e new array) → Passes d e old new
passes_call P d e old new call counted falls ends shape stands = record {
  calls = call.entry ∷ [];
  gains = gains_call P d e call;
  counted = counts_one old.engine.cache.calls new.engine.cache.calls counted;
  falls = falls;
  calm = λ calm. All-cons EndsDone call.entry [] (ends calm) (All-nil EndsDone);
  stands = stands;
  each = λ sound array s. one_moment P (IsFit old.shape sound array) d e call s.known.tells_pages (images_fit sound d old array s)
      (subst (λ (x : ShapeView). EachImage (IsFit x sound array) e.state) shape (images_fit sound e new array (stands sound array s)));
  shape = shape;
}

-- one after another
unfoldable pub passes_then : (d e f : Meaning) (a b c : Core) → Passes d e a b → Passes e f b c → Passes d f a c
passes_then d e f a b c p q = record {
  calls = p.calls ++ q.calls;
  gains = gains_then p.calls q.calls d e f p.gains q.gains;
  counted = counts_append p.calls q.calls a.engine.cache.calls b.engine.cache.calls c.engine.cache.calls p.counted q.counted;
  falls = omega (arith, p.falls, q.falls);
  calm = λ calm. All-append EndsDone p.calls q.calls (p.calm (calm_first d e f p.falls q.falls calm)) (q.calm (calm_next d e f p.falls q.falls calm));
  stands = λ sound array s. q.stands sound array (p.stands sound array s);
  each = λ sound array s. moments_then p.calls q.calls d e (IsFit a.shape sound array) s.known.tells_pages p.gains (p.each sound array s)
      (subst (λ (x : ShapeView). EachMoment (IsFit x sound array) e.state q.calls) p.shape (q.each sound array (p.stands sound array s)));
  shape = q.shape ∙ p.shape;
}

-- a core of the same parts stands for the same
pub same_parts : (sound : Bool) (d : Meaning) (a b : Core) (array : ℕ → List Block) → b.shape ≡ a.shape → b.engine ≡ a.engine → b.ledger ≡ a.ledger → StandsFor sound d a array → StandsFor sound d b array
same_parts sound d a b array shape engine ledger s = stands_then sound d d a b array s s.known refl shape s.calls s.told (world_of d a)
    (ap (λ e. Rattle.store_core.specs.Views.world_in d e.cache e.graph b.ledger.queue) engine ∙ ap (λ l. Rattle.store_core.specs.Views.world_in d a.engine.cache a.engine.graph l.queue) ledger) refl s.kept
    (subst (λ l. Remembers (place_of a.shape) l.births s.calls) (sym ledger) s.births)
    (λ p is. ap (λ l. told_of l.pool p) ledger ∙ s.pool p is)

pub passes_same : (d : Meaning) (a b : Core) → b.shape ≡ a.shape → b.engine ≡ a.engine → b.ledger ≡ a.ledger → Passes d d a b
passes_same d a b shape engine ledger = record {
  calls = [];
  gains = gains_none d;
  counted = counts_none a.engine.cache.calls b.engine.cache.calls (ap (λ (e : EngineView). e.cache.calls) engine);
  falls = omega arith;
  calm = λ _. All-nil EndsDone;
  stands = λ sound array s. same_parts sound d a b array shape engine ledger s;
  each = λ sound array s. no_moment (IsFit a.shape sound array) d.state (images_fit sound d a array s);
  shape = shape;
}
