-- What birth_marks is told: one name or one print that changes, and changes after others.
use Rattle.std.proofs.Common.{◌≡◌, ◌≢◌, ◌<◌, ℕ, true, refl, sym, ap, ◌∙◌, subst, List, [], ◌∷◌, ◌++◌, true≢false, eqb-true, eq-eqb}
use Rattle.order_model.specs.Calls.{Call, Change}
use Rattle.order_model.specs.World.{IsData, Layout, World}
use Rattle.order_model.specs.declared.Slot.TheVariants.{Name, Print}
use Rattle.order_model.specs.declared.Slot.{Slot}
use Rattle.engine_model.specs.Births.{AllDirty, Edit, IsSlot, Leads, cached_value, has_print, told}
use Rattle.engine_model.specs.Entries.{cached_name, cached_print}
use Rattle.engine_model.specs.Invariant.{Moment, ToldBirths}

-- what birth_marks is told, one after another
told_append : (es more : List Edit) (calls : List Call) → told (more ++ es) calls ≡ told more (told es calls)
told_append es [] calls = refl
told_append es (e ∷ more) calls = ap (λ cs. Change e.slot e.at e.from e.to ∷ cs) (told_append es more calls)

dirty_append : (w v : World) (es more : List Edit) → ((a : ℕ) → w.dirty a ≡ true → v.dirty a ≡ true) → AllDirty w es → AllDirty v more → AllDirty v (more ++ es)
dirty_append w v [] [] kept a b = tt
dirty_append w v (e ∷ es) [] kept a b = (kept _ a.0, dirty_append w v es [] kept a.1 b)
dirty_append w v es (e ∷ more) kept a b = (b.0, dirty_append w v es more kept a b.1)

leads_append : (lay : Layout) (slot : Slot) (es more : List Edit) (x y z : ℕ) → Leads lay slot es x y → Leads lay slot more y z → Leads lay slot (more ++ es) x z
leads_append lay slot es [] x y z first then = subst (λ v. Leads lay slot es x v) then first
leads_append lay slot es (e ∷ more) x y z first then = (
  (λ is. let h = then.0 is in (h.0, h.1, leads_append lay slot es more x y e.from first h.2)),
  (λ off. leads_append lay slot es more x y z first (then.1 off)),
)

pub births_then : (lay : Layout) (m j n : Moment) → ((a : ℕ) → j.world.dirty a ≡ true → n.world.dirty a ≡ true) → ToldBirths lay m j → ToldBirths lay j n → ToldBirths lay m n
births_then lay m j n kept x y = record {
  edits = y.edits ++ x.edits;
  calls = y.calls ∙ ap (told y.edits) x.calls ∙ sym (told_append x.edits y.edits m.calls);
  dirty = dirty_append j.world n.world x.edits y.edits kept x.dirty y.dirty;
  leads = λ slot is. leads_append lay slot x.edits y.edits _ _ _ (x.leads slot is) (y.leads slot is);
}

-- one name or one print changes
pub name_told : (lay : Layout) (m n : Moment) (l o p : ℕ) → cached_name lay m.world l ≡ o → cached_name lay n.world l ≡ p → n.calls ≡ Change (Name l) (lay.map_page l) o p ∷ m.calls
    → n.world.dirty (lay.map_page l) ≡ true → ((j : ℕ) → j < lay.blocks → j ≢ l → cached_name lay n.world j ≡ cached_name lay m.world j)
    → ((q : ℕ) → IsData lay q → cached_print lay n.world q ≡ cached_print lay m.world q) → ToldBirths lay m n
name_told lay m n l o p was now calls dirty names prints = record {
  edits = (record { slot = Name l; at = lay.map_page l; from = o; to = p }) ∷ [];
  calls = calls;
  dirty = (dirty, tt);
  leads = leads;
}
  where
    leads : (slot : Slot) → IsSlot lay slot → Leads lay slot ((record { slot = Name l; at = lay.map_page l; from = o; to = p }) ∷ []) (cached_value lay m.world slot) (cached_value lay n.world slot)
    leads (Print q) d = ((λ e. absurd (true≢false (sym e))), (λ e. ap has_print (sym (prints q d))))
    leads (Name j) lt = (
      (λ h. let e : l ≡ j = eqb-true l j h in (ap lay.map_page e, sym now ∙ ap (cached_name lay n.world) e, ap (cached_name lay m.world) (sym e) ∙ was)),
      (λ h. sym (names j lt (λ e. true≢false (sym (eq-eqb l j (sym e)) ∙ h)))),
    )

pub print_told : (lay : Layout) (m n : Moment) (p from to : ℕ) → has_print (cached_print lay m.world p) ≡ from → has_print (cached_print lay n.world p) ≡ to
    → n.calls ≡ Change (Print p) (lay.print_page p) from to ∷ m.calls → n.world.dirty (lay.print_page p) ≡ true
    → ((j : ℕ) → j < lay.blocks → cached_name lay n.world j ≡ cached_name lay m.world j)
    → ((q : ℕ) → IsData lay q → q ≢ p → cached_print lay n.world q ≡ cached_print lay m.world q) → ToldBirths lay m n
print_told lay m n p from to was now calls dirty names prints = record {
  edits = (record { slot = Print p; at = lay.print_page p; from = from; to = to }) ∷ [];
  calls = calls;
  dirty = (dirty, tt);
  leads = leads;
}
  where
    leads : (slot : Slot) → IsSlot lay slot → Leads lay slot ((record { slot = Print p; at = lay.print_page p; from = from; to = to }) ∷ []) (cached_value lay m.world slot) (cached_value lay n.world slot)
    leads (Name j) lt = ((λ e. absurd (true≢false (sym e))), (λ e. sym (names j lt)))
    leads (Print q) d = (
      (λ h. let e : p ≡ q = eqb-true p q h in (
        ap lay.print_page e,
        sym now ∙ ap (λ y. has_print (cached_print lay n.world y)) e,
        ap (λ y. has_print (cached_print lay m.world y)) (sym e) ∙ was,
      )),
      (λ h. ap has_print (sym (prints q d (λ e. true≢false (sym (eq-eqb p q (sym e)) ∙ h))))),
    )
