-- A change of the version as a run of moments: what is kept at each, and what is handed back.
use Rattle.std.proofs.Common.{◌≡◌, ◌≢◌, inl, inr, ℕ, Bool, true, false, cond, refl, sym, ap, ◌∙◌, subst, List, [], ◌∷◌, true≢false}
use Rattle.std.proofs.lemmas.Bool.{cases_Bool, false_from_ne_true}
use Rattle.engine_model.specs.SmallSteps.{placed}
use Rattle.engine_model.proofs.Quiet.{put_other, touched_here, touched_other}
use Rattle.order_model.specs.World.{Agree, Layout, Possible, World, IsData}
use Rattle.engine_model.specs.Entries.{IsTable, Apart}
use Rattle.order_model.specs.Calls.{Call, Fixed, is_changed, since, wrote_last}
use Rattle.order_model.specs.declared.Slot.TheVariants.{Name, Print}
use Rattle.order_model.specs.declared.Slot.{Slot}
use Rattle.engine_model.specs.Births.{IsSlot, NothingRecorded, place_of}
use Rattle.engine_model.specs.Contents.{ContentsInvariant}
use Rattle.engine_model.specs.Schedule.{last_of, Each}
use Rattle.engine_model.specs.Images.{CrashImage}
use Rattle.engine_model.specs.Pool.{PoolKnows}
use Rattle.engine_model.specs.Invariant.{EngineInvariant, Moment}
use Rattle.engine_model.specs.VersionSwitch.{Clear, Edited, Fix, Idle, PageDone, PageRefused, PageTaken, SwitchImage, SwitchRun, SwitchStart, SwitchStep, Switching, Stamp, with_finger}
use Rattle.engine_model.proofs.Births.{settled_births}
use Rattle.engine_model.proofs.Pool.{tried_knows, failed_knows, written_knows, fixed_knows}
use Rattle.engine_model.proofs.Switches as switches
use Rattle.engine_model.proofs.Same.{same_is}
use mathlib.Core.Path.{fun_ext}
use Rattle.engine_model.specs.DeviceSteps.{Same}
use Rattle.engine_model.proofs.Schedule.{pool_by}

-- what holds at each moment
record Held (lay : Layout) (next : List ℕ) (was m : Moment) : Type 0 where
  world : Switching lay next was.world m.world
  array : Agree m.array was.array
  births : NothingRecorded lay m.calls
  pool : (p : ℕ) → IsData lay p → PoolKnows lay m.world (m.pool p) p

fixed_off : (page : ℕ) (slot : Slot) (calls : List Call) → is_changed slot (since page calls) ≡ false → is_changed slot (since page (Fixed ∷ calls)) ≡ false
fixed_off page slot calls off = elim (cases_Bool (wrote_last page calls)) [
  | inl is ↦ ap (λ b. is_changed slot (cond b [] (Fixed ∷ since page calls))) is
  | inr no_ ↦ ap (λ b. is_changed slot (cond b [] (Fixed ∷ since page calls))) no_ ∙ off
]

slot_table : (lay : Layout) (slot : Slot) → IsSlot lay slot → IsTable lay (place_of lay slot)
slot_table lay (Name l) lt = inl (l, lt, refl)
slot_table lay (Print p) d = inr (p, d, inr refl)

module _ (lay : Layout) (top : ℕ) (sound : Bool) (next : List ℕ) (was : Moment) (apart : Apart lay) (s : SwitchStart lay top sound was) where
  none_recorded : NothingRecorded lay was.calls
  none_recorded slot is = false_from_ne_true _ (λ h. elim ((s.kept.births slot is).node h) [
    | inl y ↦ true≢false (sym y ∙ (s.clean _).0)
    | inr y ↦ true≢false (sym y.0 ∙ (s.clean _).1)
  ])

  start_held : Held lay next was was
  start_held = record {
    world = switches.switch_start lay top sound was.array next was.world apart s.kept.counts s.kept.contents s.queue s.clean;
    array = λ l. refl;
    births = none_recorded;
    pool = s.kept.pool_knows_counts;
  }

  module _ (m n : Moment) (h : Held lay next was m) where
    calls_by : (calls : List Call) → n.calls ≡ calls → NothingRecorded lay calls → NothingRecorded lay n.calls
    calls_by calls e b slot is = subst (λ cs. is_changed slot (since (place_of lay slot) cs) ≡ false) (sym e) (b slot is)

    edited_pool : (page : ℕ) → Edited m.world n.world page → ((p : ℕ) → IsData lay p → lay.count_page p ≢ page) → (p : ℕ) → IsData lay p → PoolKnows lay n.world (m.pool p) p
    edited_pool page x ne p d = let old = h.pool p d in let same = ap (λ c. lay.count_in c p) (x.cached _ (ne p d)) in record {
      zero = λ z. same ∙ old.zero z;
      above = λ z. old.above (sym same ∙ z);
      possible = λ z c q. old.possible z c (x.possible _ c q);
      newest = λ z. ap (λ c. lay.count_in c p) (x.newest _) ∙ old.newest z;
    }

    held_same : Same m.world n.world → Agree n.array m.array → NothingRecorded lay n.calls → ((p : ℕ) → IsData lay p → PoolKnows lay n.world (n.pool p) p) → Held lay next was n
    held_same e array births pool = record { world = subst (λ x. Switching lay next was.world x) (sym (same_is m.world n.world e)) h.world; array = λ l. array l ∙ h.array l; births = births; pool = pool }

    step_held : SwitchStep lay next was m n → Held lay next was n
    step_held (Clear page x a c p) = record {
      world = switches.clear_keeps lay top sound was.array next was.world apart s.kept.counts s.kept.contents s.queue s.clean m.world n.world h.world page x;
      array = λ l. a l ∙ h.array l;
      births = calls_by m.calls c h.births;
      pool = pool_by lay n m.pool p (edited_pool page x.edited (λ q d e. apart.count_print q x.is_print.0 d x.is_print.1 (e ∙ x.is_print.2)));
    }
    step_held (Stamp x a c p) = record {
      world = switches.stamp_keeps lay top sound was.array next was.world apart s.kept.counts s.kept.contents s.queue s.clean m.world n.world h.world x;
      array = λ l. a l ∙ h.array l;
      births = calls_by m.calls c h.births;
      pool = pool_by lay n m.pool p (edited_pool 0 x.edited (λ q d. apart.first_table _ (inr (q, d, inl refl))));
    }
    step_held (Fix b a c p) = record {
      world = switches.fix_keeps lay top sound was.array next was.world apart s.kept.counts s.kept.contents s.queue s.clean m.world n.world h.world b;
      array = λ l. a l ∙ h.array l;
      births = calls_by _ c (λ slot is. fixed_off (place_of lay slot) slot m.calls (h.births slot is));
      pool = pool_by lay n _ p (λ q d. fixed_knows lay m.world n.world m.pool q (h.pool q d) b);
    }
    step_held (PageDone page t moves a c p) = record {
      world = switches.done_switches lay top sound was.array next was.world apart s.kept.counts s.kept.contents s.queue s.clean m.world n.world h.world page t moves;
      array = λ l. a l ∙ h.array l;
      births = calls_by _ c (λ slot is. h.births slot is);
      pool = pool_by lay n _ p (λ q d. written_knows lay m.world n.world page m.pool q (h.pool q d) t);
    }
    step_held (PageTaken page t keeps a c p) = record {
      world = switches.taken_switches lay top sound was.array next was.world apart s.kept.counts s.kept.contents s.queue s.clean m.world n.world h.world page t keeps;
      array = λ l. a l ∙ h.array l;
      births = calls_by _ c (λ slot is. h.births slot is);
      pool = pool_by lay n _ p (λ q d. failed_knows lay m.world n.world page m.pool q (h.pool q d) t);
    }
    step_held (PageRefused page e a c p) = held_same e a (calls_by _ c (λ slot is. h.births slot is))
        (pool_by lay n _ p (λ q d. tried_knows lay n.world n.world page m.pool q (subst (λ x. PoolKnows lay x (m.pool q) q) (sym (same_is m.world n.world e)) (h.pool q d))))
    step_held (Idle e a c p) = held_same e a (calls_by m.calls c h.births) (pool_by lay n m.pool p (λ q d. subst (λ x. PoolKnows lay x (m.pool q) q) (sym (same_is m.world n.world e)) (h.pool q d)))

  -- each image within is fit
  module _ (finger : List ℕ → List ℕ) (differ : next ≢ was.world.newest 0) where
    image_held : (n : Moment) → Held lay next was n → (image : ℕ → List ℕ) → CrashImage n.world image → SwitchImage lay sound next was.world was.array finger image
    image_held n h image is = record {
      version = elim (h.world.first_page (image 0) (is 0)) [ inl e ↦ inl e | inr e ↦ inr e.0 ];
      counts = switches.switch_counts lay top sound was.array next was.world apart s.kept.counts s.kept.contents s.queue s.clean n.world h.world image is;
      old = λ e. switches.switch_old lay top sound was.array next was.world apart s.kept.counts s.kept.contents s.queue s.clean n.world h.world image is;
      new = switches.switch_new lay top sound was.array next was.world apart s.kept.counts s.kept.contents s.queue s.clean n.world h.world image is finger differ;
    }

    run_held : (m : Moment) (ns : List Moment) → Held lay next was m → SwitchRun lay next was m ns
        → Each (λ n. (image : ℕ → List ℕ) → CrashImage n.world image → SwitchImage lay sound next was.world was.array finger image) ns
    run_held m [] h r = tt
    run_held m (n ∷ ns) h r = let now = step_held m n h r.0 in (image_held n now, run_held n ns now r.1)

    pub switch_images : (ns : List Moment) → SwitchRun lay next was was ns
        → Each (λ n. (image : ℕ → List ℕ) → CrashImage n.world image → SwitchImage lay sound next was.world was.array finger image) ns
    switch_images ns r = run_held was ns start_held r

    same_place : (slot : Slot) → place_of (with_finger lay finger) slot ≡ place_of lay slot
    same_place (Name l) = refl
    same_place (Print p) = refl

    same_is_slot : (slot : Slot) → IsSlot (with_finger lay finger) slot → IsSlot lay slot
    same_is_slot (Name l) is = is
    same_is_slot (Print p) is = is

    end_kept : (n : Moment) → Held lay next was n → ((a : ℕ) → (n.world.dirty a ≡ false) × (n.world.hung a ≡ false)) → n.world.cached 0 ≡ next
        → EngineInvariant (with_finger lay finger) top true n
    end_kept n h done stamped =
        let first = switches.switch_counts_kept lay top sound was.array next was.world apart s.kept.counts s.kept.contents s.queue s.clean n.world h.world done stamped differ finger in
        record {
          counts = first;
          contents = subst (λ a. ContentsInvariant (with_finger lay finger) true a n.world) (sym (fun_ext h.array))
              (switches.switch_contents lay top sound was.array next was.world apart s.kept.counts s.kept.contents s.queue s.clean n.world h.world done stamped differ finger);
          births = λ slot is. settled_births (with_finger lay finger) n.world n.calls slot
              (subst (λ page. is_changed slot (since page n.calls) ≡ false) (sym (same_place slot)) (h.births slot (same_is_slot slot is)))
              (λ c q. first.marks_and_edges.settled _ c (slot_table (with_finger lay finger) slot is) (done _).0 (done _).1 q);
          pool_knows_counts = λ p d. let old = h.pool p d in record { zero = old.zero; above = old.above; possible = old.possible; newest = old.newest };
        }

    last_held : (m : Moment) (ns : List Moment) → Held lay next was m → SwitchRun lay next was m ns → Held lay next was (last_of m ns)
    last_held m [] h r = h
    last_held m (n ∷ ns) h r = last_held n ns (step_held m n h r.0) r.1

    pub switch_ends : (ns : List Moment) → SwitchRun lay next was was ns → ((a : ℕ) → ((last_of was ns).world.dirty a ≡ false) × ((last_of was ns).world.hung a ≡ false))
        → (last_of was ns).world.cached 0 ≡ next → EngineInvariant (with_finger lay finger) top true (last_of was ns) × ((c : List ℕ) → Possible (last_of was ns).world 0 c → c ≡ next)
    switch_ends ns r done stamped =
        let h = last_held was ns start_held r in
        (end_kept (last_of was ns) h done stamped, λ c q. h.world.settled 0 c (inl refl) (done 0).0 (done 0).1 q ∙ stamped)

-- a page that gets another content and is dirty
pub placed_edited : (w : World) (page : ℕ) (c : List ℕ) → Edited w (placed page c w) page
placed_edited w page c = record {
  newest = λ a. refl;
  possible = λ a d q. q;
  cached = λ a ne. put_other w page c a ne;
  dirty = λ a ne. touched_other w page a ne;
  dirty_here = touched_here w page;
  hung = λ a. refl;
  live = λ a b. refl;
  barred = λ a b. refl;
  queue = refl;
}
