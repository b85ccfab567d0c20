-- A write, a copy by name and a fold keep the contents.
use Rattle.std.proofs.Common.{◌≡◌, ◌≢◌, ◌⊎◌, inl, inr, ◌<◌, ℕ, Bool, arith, refl, sym, ap, ◌∙◌, subst, List, [], ◌∷◌, ◌++◌}
use Rattle.std.proofs.lemmas.Bool.{cases_eq}
use Rattle.order_model.specs.World.{Layout, World, IsData}
use Rattle.engine_model.specs.Counts.{CountsInvariant}
use Rattle.engine_model.specs.Entries.{cached_name, cached_count, cached_print}
use Rattle.engine_model.specs.Contents.{ContentsInvariant, Last}
use Rattle.engine_model.specs.Known.{Known, Free, Tells}
use Rattle.engine_model.specs.Commands.{Renamed, PageContent, Gains}
use Rattle.engine_model.specs.Edits.{Ordered, ContentEdits}
use Rattle.engine_model.proofs.EditContents.{edit_contents}
use Rattle.engine_model.proofs.Lasts.{last_once}
use Rattle.engine_model.proofs.Views.{some_is}

-- the list of l gains the content, or has it as its last already
abbrev Holds : (ℕ → List (List ℕ)) → (ℕ → List (List ℕ)) → ℕ → List ℕ → Type 0
Holds before after l content = (after l ≡ before l ++ content ∷ []) ⊎ ((after l ≡ before l) × Last (before l) content)

module _ (lay : Layout) (known : Known) (top : ℕ) (sound : Bool) (before after : ℕ → List (List ℕ)) (w v : World) (l o p : ℕ) (content : List ℕ)
    (tells : Tells lay w known) (x : Renamed lay known top w v l o p) (c : PageContent lay known w v l p content)
    (here : Holds before after l content) (other : (k : ℕ) → k ≢ l → after k ≡ before k) where
  pub write_content_edits : ContentEdits lay sound before after w v
  write_content_edits = record {
    rest = x.rest;
    dirty_fresh = λ q d y. elim (cases_eq q p) [
      | inr ne ↦ inl (sym (c.data_other q d ne).1 ∙ y)
      | inl e ↦ elim c.chosen [
        | inl f ↦ inr (subst (λ z. Free lay w z) (sym e) (tells.free p x.is_data f.0))
        | inr n ↦ inl (ap (λ z. w.dirty (lay.data_page z)) e ∙ sym n.2 ∙ ap (λ z. v.dirty (lay.data_page z)) (sym e) ∙ y)
      ]
    ];
    cached = λ q d. elim (cases_eq q p) [
      | inr ne ↦ inl (c.data_other q d ne).0
      | inl e ↦ elim c.chosen [
        | inl f ↦ inr (subst (λ z. Free lay w z) (sym e) (tells.free p x.is_data f.0), ap (λ z. v.dirty (lay.data_page z)) e ∙ f.1)
        | inr n ↦ inl (ap (λ z. v.cached (lay.data_page z)) e ∙ c.data_here ∙ sym n.1 ∙ ap (λ z. w.cached (lay.data_page z)) (sym e))
      ]
    ];
    name_gained = λ k q lt d h. elim (cases_eq k l) [
      | inr ne ↦ inl (sym (x.released.other_names k lt ne) ∙ h)
      | inl e ↦
          let is : p ≡ q = sym x.name ∙ ap (cached_name lay v) (sym e) ∙ h in
          inr (subst (λ z. Ordered v (lay.data_page q) (lay.map_page z)) (sym e) (subst (λ z. Ordered v (lay.data_page z) (lay.map_page l)) is c.ordered))
    ];
    print_gained = λ q print d h. elim (cases_eq q p) [
      | inr ne ↦ inl (sym (x.print_other q d ne) ∙ h)
      | inl e ↦ elim c.chosen [
        | inr n ↦ inl (ap (cached_print lay w) e ∙ sym n.3 ∙ ap (cached_print lay v) (sym e) ∙ h)
        | inl f ↦ inr (
          subst (λ z. Ordered v (lay.data_page z) (lay.print_page z)) (sym e) f.3,
          some_is print _ (sym h ∙ ap (cached_print lay v) e ∙ f.2) ∙ ap lay.finger (sym c.data_here ∙ ap (λ z. v.cached (lay.data_page z)) (sym e)),
        )
      ]
    ];
    count_risen = λ q d pos. elim (cases_eq q p) [
      | inr ne ↦ inl (subst (λ z. 0 < z) (x.count_other q d ne) pos)
      | inl e ↦ elim c.chosen [
        | inl f ↦ inr (ap (λ z. v.dirty (lay.data_page z)) e ∙ f.1)
        | inr n ↦ inl (subst (λ z. 0 < cached_count lay w z) (sym e) n.0)
      ]
    ];
    blocks = λ k lt. elim (cases_eq k l) [
      | inr ne ↦ inl (x.released.other_names k lt ne, other k ne)
      | inl e ↦ inr (
        content,
        subst (λ z. Holds before after z content) (sym e) here,
        (λ h. absurd (omega (arith, x.is_data, h, ap (cached_name lay v) e, x.name))),
        (λ q d h. sym c.data_here ∙ ap (λ z. v.cached (lay.data_page z)) (sym x.name ∙ ap (cached_name lay v) (sym e) ∙ h)),
      )
    ];
    well_formed = c.well_formed;
    first_page = c.first_page;
  }

  pub renamed_contents : CountsInvariant lay top w → ContentsInvariant lay sound before w → ContentsInvariant lay sound after v
  renamed_contents first old = edit_contents lay top sound before after w v first old write_content_edits

pub write_contents_kept : (lay : Layout) (known : Known) (top : ℕ) (sound : Bool) (before after : ℕ → List (List ℕ)) (w v : World) (l o p : ℕ) (content : List ℕ)
    → Tells lay w known → Renamed lay known top w v l o p → PageContent lay known w v l p content → Gains before after l content
    → CountsInvariant lay top w → ContentsInvariant lay sound before w → ContentsInvariant lay sound after v
write_contents_kept lay known top sound before after w v l o p content tells x c gain =
    renamed_contents lay known top sound before after w v l o p content tells x c (inl gain.here) gain.other

-- a fold gives the block an equal page, so its list stays
pub fold_contents : (lay : Layout) (known : Known) (top : ℕ) (sound : Bool) (array : ℕ → List (List ℕ)) (w v : World) (l o p : ℕ)
    → IsData lay o → Tells lay w known → Renamed lay known top w v l o p → PageContent lay known w v l p (w.cached (lay.data_page o))
    → CountsInvariant lay top w → ContentsInvariant lay sound array w → ContentsInvariant lay sound array v
fold_contents lay known top sound array w v l o p d tells x c first old =
    renamed_contents lay known top sound array array w v l o p (w.cached (lay.data_page o)) tells x c
    (inr (refl, (old.reads l x.released.in_range).cached_mapped o d x.released.was)) (λ k ne. refl) first old

-- a copy by name takes the last content of the other block
pub shared : (lay : Layout) (sound : Bool) (array : ℕ → List (List ℕ)) (w : World) (k p : ℕ)
    → ContentsInvariant lay sound array w → k < lay.blocks → IsData lay p → cached_name lay w k ≡ p → Last (array k) (w.cached (lay.data_page p))
shared lay sound array w k p old lt d n = (old.reads k lt).cached_mapped p d n

-- so what the copying block gains is the last of the other's list
pub copy_contents : (lay : Layout) (known : Known) (top : ℕ) (sound : Bool) (before after : ℕ → List (List ℕ)) (w v : World) (k l o p : ℕ) (content : List ℕ)
    → Tells lay w known → Renamed lay known top w v l o p → PageContent lay known w v l p (w.cached (lay.data_page p)) → k < lay.blocks → cached_name lay w k ≡ p
    → Last (before k) content → Gains before after l content → CountsInvariant lay top w → ContentsInvariant lay sound before w → ContentsInvariant lay sound after v
copy_contents lay known top sound before after w v k l o p content tells x c lt n last gain first old =
    let same : w.cached (lay.data_page p) ≡ content = last_once (before k) _ _ (shared lay sound before w k p old lt x.is_data n) last in
    write_contents_kept lay known top sound before after w v l o p (w.cached (lay.data_page p)) tells x c (subst (λ z. Gains before after l z) (sym same) gain) first old
