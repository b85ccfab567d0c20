-- A page that is not dirty has its newest content cached, so it may be forgotten.
use Rattle.std.proofs.Common.{arith, ◌≡◌, inl, inr, ◌<◌, ◌+◌, ◌-◌, ◌*◌, ℕ, Bool, false, cond, refl, sym, ap, ◌∙◌, subst, List, ne_eqb, eq-eqb}
use Rattle.std.proofs.lemmas.Bool.{cases_eq, cases_lt}
use Rattle.order_model.specs.World.{Layout, World}
use Rattle.engine_model.specs.Bytes.{count_pages, layout_of, map_pages, pages_of, print_pages}
use Rattle.engine_model.specs.Contents.{ContentsInvariant}
use Rattle.engine_model.specs.Counts.{CountsInvariant}
use Rattle.engine_model.specs.DeviceSteps.{Same, forgotten}
use Rattle.engine_model.specs.Entries.{IsDataPage, IsPage}

pub data_clean : (lay : Layout) (sound : Bool) (array : ℕ → List (List ℕ)) (w : World) (page : ℕ) → ContentsInvariant lay sound array w → IsDataPage lay page
    → w.dirty page ≡ false → w.cached page ≡ w.newest page
data_clean lay sound array w page k is off =
    subst (λ a. w.cached a ≡ w.newest a) (sym is.2) (sym ((k.fresh_data_first is.0 is.1).clean (sym (ap w.dirty is.2) ∙ off)))

pub page_clean : (lay : Layout) (top : ℕ) (sound : Bool) (array : ℕ → List (List ℕ)) (w : World) (page : ℕ) → CountsInvariant lay top w → ContentsInvariant lay sound array w
    → IsPage lay page → w.dirty page ≡ false → w.cached page ≡ w.newest page
page_clean lay top sound array w page k c (inl first) off = subst (λ a. w.cached a ≡ w.newest a) (sym first) c.first_page.cached
page_clean lay top sound array w page k c (inr (inl table)) off = sym (k.marks_and_edges.clean page table off)
page_clean lay top sound array w page k c (inr (inr is)) off = data_clean lay sound array w page c is off

pub forgets : (w : World) (page : ℕ) → w.cached page ≡ w.newest page → Same w (forgotten page w)
forgets w page clean = record {
  newest = λ a. refl;
  older = λ a. refl;
  cached = λ a. elim (cases_eq a page) [
    | inl e ↦ ap (λ b. cond b (w.newest page) (w.cached a)) (eq-eqb a page e) ∙ sym clean ∙ ap w.cached (sym e)
    | inr ne ↦ ap (λ b. cond b (w.newest page) (w.cached a)) (ne_eqb a page ne)
  ];
  dirty = λ a. refl;
  hung = λ a. refl;
  live = λ a b. refl;
  barred = λ a b. refl;
  queue = refl;
}

-- each page of a device's layout is the first one, one of a table or a data page
pub page_kinds : (blocks pages : ℕ) (well_formed : ℕ → List ℕ → Bool) (zero : List ℕ) (finger : List ℕ → List ℕ) (a : ℕ) → a < pages_of blocks pages
    → IsPage (layout_of blocks pages well_formed zero finger) a
page_kinds blocks pages well_formed zero finger a lt = elim (cases_lt a 1) [
  | inl none ↦ inl (omega (arith, none))
  | inr one ↦ inr (elim (cases_lt a (1 + map_pages blocks)) [
    | inl m ↦ inl (inl (1024 * (a - 1), omega (arith, one, m), omega (arith, one, m)))
    | inr c ↦ elim (cases_lt a (1 + map_pages blocks + count_pages pages)) [
      | inl k ↦ inl (inr (1024 * (a - (1 + map_pages blocks)) + 1, (omega arith, omega (arith, k, c)), inl (omega (arith, k, c))))
      | inr f ↦ elim (cases_lt a (1 + map_pages blocks + count_pages pages + print_pages pages)) [
        | inl k ↦ inl (inr (170 * (a - (1 + map_pages blocks + count_pages pages)) + 1, (omega arith, omega (arith, k, f)), inr (omega (arith, k, f))))
        | inr d ↦ inr (a - (1 + map_pages blocks + count_pages pages + print_pages pages) + 1, (omega arith, omega (arith, d, lt)), omega (arith, d))
      ]
    ]
  ])
]
