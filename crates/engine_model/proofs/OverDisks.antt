-- A write and a barrier on a device's lists are those of the plain state over it.
use Rattle.std.proofs.Common.{◌≡◌, ◌≢◌, ◌⊎◌, inl, inr, ℕ, sym, ap, ◌∙◌, subst, List, [], get_or, length}
use Rattle.std.proofs.lemmas.Bool.{cases_eq}
use Rattle.order_model.specs.Contents.{IsAmong}
use Rattle.order_model.specs.World.{Possible, World}
use Rattle.engine_model.specs.DeviceSteps.{IsReady, Taken}
use Rattle.page_device.specs.Disk.{DeviceState, IsImage, settled, written}
use Rattle.engine_model.specs.Disk.{InRange, IsOver}
use Rattle.engine_model.specs.Images.{CrashImage}
use Rattle.engine_model.proofs.Disks.{flush_newest, flush_older, image_possible, older_write, write_here, write_other}

module _ (d : DeviceState) (w v : World) (page : ℕ) (before : IsOver d w) (after : IsOver (written d page (w.cached page)) v) where
  newest_other : (other : ℕ) → other ≢ page → v.newest other ≡ w.newest other
  newest_other other ne = after.newest other ∙ write_other d page other (w.cached page) ne ∙ sym (before.newest other)

  newest_here : v.newest page ≡ w.cached page
  newest_here = after.newest page ∙ write_here d page (w.cached page)

  was_possible : (other : ℕ) (c : List ℕ) → Possible v other c → Possible w other c ⊎ ((other ≡ page) × (c ≡ w.cached page))
  was_possible other c (inl e) = elim (cases_eq other page) [
    | inl here ↦ inr (here, e ∙ ap v.newest here ∙ newest_here)
    | inr ne ↦ inl (inl (e ∙ newest_other other ne))
  ]
  was_possible other c (inr h) = elim (older_write d page other (w.cached page) c (subst (λ xs. IsAmong c xs) (after.older other) h)) [
    | inl was ↦ inl (inr (subst (λ xs. IsAmong c xs) (sym (before.older other)) was))
    | inr new ↦ inr new
  ]

  pub write_is_taken : IsReady w page → ((other : ℕ) → v.cached other ≡ w.cached other) → Taken w v page
  write_is_taken ready cached = record {
    was_dirty = ready.dirty;
    no_live = ready.no_live;
    no_barred = ready.no_barred;
    newest_here = newest_here;
    newest_other = newest_other;
    possible = was_possible;
    cached = cached;
  }

pub flush_fixes : (d : DeviceState) (w v : World) (page : ℕ) → IsOver d w → IsOver (settled d) v → InRange (length d.fixed) d.since
    → (v.newest page ≡ w.newest page) × ((c : List ℕ) → Possible v page c → c ≡ w.newest page)
flush_fixes d w v page before after range =
    let same : v.newest page ≡ w.newest page = after.newest page ∙ flush_newest d page range ∙ sym (before.newest page) in (
      same,
      λ c q. elim q [
        | inl e ↦ e ∙ same
        | inr h ↦ flush_older d page c range (subst (λ xs. IsAmong c xs) (after.older page) h) ∙ sym (before.newest page)
      ],
    )

pub image_over : (d : DeviceState) (w : World) (image : List (List ℕ)) → IsOver d w → IsImage d image → CrashImage w (λ page. get_or image page [])
image_over d w image over is page = inr (subst (λ xs. IsAmong (get_or image page []) xs) (sym (over.older page)) (image_possible d image page is))
