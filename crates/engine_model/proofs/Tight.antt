-- Each step keeps that nothing is wasted.
use Rattle.std.proofs.Common.{◌≡◌, ◌≢◌, inl, inr, ◌+◌, ◌<◌, ℕ, true, arith, refl, sym, ap, ◌∙◌, subst, List, [], Option, Some, None, eqb, eq-eqb, eq-zero-or-pos}
use Rattle.std.proofs.lemmas.Bool.{cases_eq}
use Rattle.order_model.specs.World.{Layout, World, queued, IsData}
use Rattle.order_model.specs.Counting.{count_below}
use Rattle.engine_model.specs.Entries.{IsTable, cached_name, cached_count, cached_names, cached_print, Apart}
use Rattle.engine_model.specs.DeviceSteps.{AtRest}
use Rattle.engine_model.specs.Corrections.{Corrected}
use Rattle.engine_model.specs.Commands.{DataKept, Discarded, PageContent, Renamed}
use Rattle.engine_model.specs.Images.{ImageTight, CrashImage}
use Rattle.engine_model.specs.Schedule.{NoNode, WriteAgain, DiscardAgain, BarrierDone, Correct, Discard, DropData, FlushDone, Fold, FoldZero, Unchanged, ReleaseApplied, Step, Write, WriteDone, WriteRefused, WriteTaken}
use Rattle.engine_model.specs.Scan.{SameWaste}
use Rattle.engine_model.proofs.Counting.{count_ext, count_has}
use Rattle.engine_model.specs.Tight.{ChoosesWell, IsNew, IsTight}
use Rattle.engine_model.specs.Invariant.{EngineInvariant, Moment, known_at}
use Rattle.engine_model.proofs.Dropped as dropped
use Rattle.engine_model.proofs.Schedule.{tells}
use Rattle.engine_model.proofs.Views.{count_same, names_by, none_some, print_same}
use Rattle.engine_model.proofs.Waste.{step_waste}

module _ (lay : Layout) (version : ℕ) (w v : World) (old : IsTight lay version w) (waste : (p : ℕ) → IsData lay p → SameWaste lay w v p) where
  owed : (p : ℕ) → IsData lay p → cached_count lay v p ≡ cached_names lay v p + queued v.queue p
  owed p d = let was = old.owed p d in let same = waste p d in omega arith

  -- where each page that is counted was, with its print and content
  kept_tight : ((p : ℕ) → IsData lay p → 0 < cached_count lay v p → (0 < cached_count lay w p) × (cached_print lay v p ≡ cached_print lay w p) × (v.cached (lay.data_page p) ≡ w.cached (lay.data_page p))) → IsTight lay version v
  kept_tight was = record {
    owed = owed;
    printed = λ p d pos. let q = was p d pos in let print = old.printed p d q.0 in (print.0, q.1 ∙ print.1);
    distinct = λ p q d e ne pos pos2 same. let a = was p d pos in let b = was q e pos2 in old.distinct p q d e ne a.0 b.0 (sym a.2 ∙ same ∙ b.2);
    no_zeros = λ two p d pos same. let q = was p d pos in old.no_zeros two p d q.0 (sym q.2 ∙ same);
  }

  cache_tight : ((page : ℕ) → v.cached page ≡ w.cached page) → IsTight lay version v
  cache_tight same = kept_tight (λ p d pos. (subst (λ n. 0 < n) (count_same lay w v same p) pos, print_same lay w v same p, same _))

-- a name that is taken: of a page that was counted, or of a fresh one whose content no counted page has
module _ (lay : Layout) (top version : ℕ) (m n : Moment) (k : EngineInvariant lay top true m) (old : IsTight lay version m.world) (waste : (p : ℕ) → IsData lay p → SameWaste lay m.world n.world p)
    (l o p : ℕ) (content : List ℕ) (x : Renamed lay (known_at lay m) top m.world n.world l o p)
    (c : PageContent lay (known_at lay m) m.world n.world l p content) (well : cached_count lay m.world p ≡ 0 → IsNew lay top m.world content)
    (zeros : cached_count lay m.world p ≡ 0 → version ≡ 2 → content ≢ lay.zero_block) where
  other_page : (q : ℕ) → IsData lay q → q ≢ p → 0 < cached_count lay n.world q
      → (0 < cached_count lay m.world q) × (cached_print lay n.world q ≡ cached_print lay m.world q) × (n.world.cached (lay.data_page q) ≡ m.world.cached (lay.data_page q))
  other_page q d ne pos = (subst (λ z. 0 < z) (x.count_other q d ne) pos, x.print_other q d ne, (c.data_other q d ne).0)

  -- a counted page with the content would be a candidate
  new_content : cached_count lay m.world p ≡ 0 → (q : ℕ) → IsData lay q → 0 < cached_count lay m.world q → m.world.cached (lay.data_page q) ≢ content
  new_content zero q d pos same =
      let print = old.printed q d pos in
      let is = (k.contents.prints_true refl q d).cached print.0 print.1 in
      let full = (well zero).none_usable q d (print.1 ∙ ap Some (is ∙ ap lay.finger same)) same in
      let owes = old.owed q d in
      let less = (well zero).room q d in
      omega arith

  renamed_tight : IsTight lay version n.world
  renamed_tight = elim (eq-zero-or-pos (cached_count lay m.world p)) [
    | inr pos ↦ kept_tight lay version m.world n.world old waste (λ q d now. elim (cases_eq q p) [
      | inr ne ↦ other_page q d ne now
      | inl e ↦ subst (λ z. (0 < cached_count lay m.world z) × (cached_print lay n.world z ≡ cached_print lay m.world z) × (n.world.cached (lay.data_page z) ≡ m.world.cached (lay.data_page z))) (sym e) (elim c.chosen [
        | inr h ↦ (pos, h.3, c.data_here ∙ sym h.1)
        | inl f ↦ absurd (let free = (tells lay top true m k).free p x.is_data f.0 in omega (arith, free.cached, pos))
      ])
    ])
    | inl zero ↦ record {
      owed = owed lay version m.world n.world old waste;
      printed = λ q d pos. elim (cases_eq q p) [
        | inr ne ↦ let w = other_page q d ne pos in let print = old.printed q d w.0 in (print.0, w.1 ∙ print.1)
        | inl e ↦ subst (λ z. (print : List ℕ) × (cached_print lay n.world z ≡ Some print)) (sym e) (elim c.chosen [
          | inl f ↦ (lay.finger content, f.2)
          | inr h ↦ absurd (omega (arith, h.0, zero))
        ])
      ];
      distinct = λ q r d e ne pos pos2 same. elim (cases_eq q p) [
        | inl is ↦
            let w = other_page r e (λ z. ne (is ∙ sym z)) pos2 in
            new_content zero r e w.0 (sym w.2 ∙ sym same ∙ ap (λ z. n.world.cached (lay.data_page z)) is ∙ c.data_here)
        | inr other ↦ let a = other_page q d other pos in elim (cases_eq r p) [
          | inl is ↦ new_content zero q d a.0 (sym a.2 ∙ same ∙ ap (λ z. n.world.cached (lay.data_page z)) is ∙ c.data_here)
          | inr also ↦ let b = other_page r e also pos2 in old.distinct q r d e ne a.0 b.0 (sym a.2 ∙ same ∙ b.2)
        ]
      ];
      no_zeros = λ two q d pos same. elim (cases_eq q p) [
        | inr ne ↦ let was = other_page q d ne pos in old.no_zeros two q d was.0 (sym was.2 ∙ same)
        | inl e ↦ zeros zero two (sym c.data_here ∙ ap (λ z. n.world.cached (lay.data_page z)) (sym e) ∙ same)
      ];
    }
  ]

module _ (lay : Layout) (top version : ℕ) (apart : Apart lay) (m n : Moment) (k : EngineInvariant lay top true m) (old : IsTight lay version m.world) where
  emptied_tight : (l o : ℕ) → Discarded lay (known_at lay m) m.world n.world l o → DataKept lay m.world n.world → ((p : ℕ) → IsData lay p → SameWaste lay m.world n.world p) → IsTight lay version n.world
  emptied_tight l o x d waste = kept_tight lay version m.world n.world old waste (λ p is pos. (subst (λ z. 0 < z) (x.counts p is) pos, x.prints p is, (d.pages p is).0))

  -- a scan finds nothing to change
  corrected_tight : (p : ℕ) → Corrected lay m.world n.world p → DataKept lay m.world n.world → IsTight lay version n.world
  corrected_tight p x d =
      let names = names_by lay m.world n.world x.names in
      let none : (q : ℕ) → queued m.world.queue q ≡ 0 = λ q. ap (λ rs. queued rs q) x.none_queued in
      let same : (q : ℕ) → IsData lay q → cached_count lay n.world q ≡ cached_count lay m.world q = λ q is. elim (cases_eq q p) [
        | inr ne ↦ x.count_other q is ne
        | inl e ↦ subst (λ z. cached_count lay n.world z ≡ cached_count lay m.world z) (sym e)
            (let was = old.owed p x.is_data in let empty = none p in let now = x.count_here in omega arith)
      ] in
      kept_tight lay version m.world n.world old
      (λ q is. let count = same q is in let name = names q in let queue : queued n.world.queue q ≡ queued m.world.queue q = ap (λ rs. queued rs q) x.queue in omega arith)
      (λ q is pos. (subst (λ z. 0 < z) (same q is) pos, print_kept q is pos, (d.pages q is).0))
    where
      print_kept : (q : ℕ) → IsData lay q → 0 < cached_count lay n.world q → cached_print lay n.world q ≡ cached_print lay m.world q
      print_kept q is pos = elim (cases_eq q p) [
        | inr ne ↦ x.print_other q is ne
        | inl e ↦ subst (λ z. cached_print lay n.world z ≡ cached_print lay m.world z) (sym e) (elim x.print_here [
          | inl h ↦ h.2
          | inr more ↦ elim more [
            | inl gone ↦ absurd (omega (arith, gone.0, x.count_here, subst (λ z. 0 < cached_count lay n.world z) e pos))
            | inr made ↦
                let was = old.owed p x.is_data in
                let empty : queued m.world.queue p ≡ 0 = ap (λ rs. queued rs p) x.none_queued in
                let print = old.printed p x.is_data (omega (arith, made.0)) in
                absurd (none_some print.0 (sym made.1 ∙ print.1))
          ]
        ])
      ]

  -- a page that a block names is counted, so it holds no zeros
  not_zeros : (l o : ℕ) → l < lay.blocks → IsData lay o → cached_name lay m.world l ≡ o → version ≡ 2 → m.world.cached (lay.data_page o) ≢ lay.zero_block
  not_zeros l o lt d names two =
      let some : 0 < cached_names lay m.world o = count_has lay.blocks l (λ j. eqb (cached_name lay m.world j) o) lt (eq-eqb _ _ names) in
      let enough = (k.counts.count_balance o d).enough in
      old.no_zeros two o d (omega arith)

  pub step_tight : (s : Step lay top m n) → ChoosesWell version s → IsTight lay version n.world
  step_tight (BarrierDone b e c q) h = cache_tight lay version m.world n.world old (λ p d. step_waste lay top true apart m n k p d (BarrierDone b e c q) tt) b.cached
  step_tight (WriteDone page t s e c q) h = cache_tight lay version m.world n.world old (λ p d. step_waste lay top true apart m n k p d (WriteDone page t s e c q) tt) t.cached
  step_tight (WriteTaken page t s e c q) h = cache_tight lay version m.world n.world old (λ p d. step_waste lay top true apart m n k p d (WriteTaken page t s e c q) tt) t.cached
  step_tight (WriteRefused page w e c q) h = cache_tight lay version m.world n.world old (λ p d. step_waste lay top true apart m n k p d (WriteRefused page w e c q) tt) w.cached
  step_tight (Unchanged s e c q) h = cache_tight lay version m.world n.world old (λ p d. step_waste lay top true apart m n k p d (Unchanged s e c q) tt) s.cached
  step_tight (ReleaseApplied r before after a d e b q) h = kept_tight lay version m.world n.world old (λ p i. step_waste lay top true apart m n k p i (ReleaseApplied r before after a d e b q) tt)
      (λ p is pos. elim (cases_eq p r.page) [
        | inr ne ↦ (subst (λ z. 0 < z) (a.count_other p is ne) pos, a.print_other p is ne, (d.pages p is).0)
        | inl at ↦
            let here : 0 < cached_count lay n.world r.page = subst (λ z. 0 < cached_count lay n.world z) at pos in (
              subst (λ z. 0 < cached_count lay m.world z) (sym at) (omega (arith, a.count_here)),
              subst (λ z. cached_print lay n.world z ≡ cached_print lay m.world z) (sym at) (a.print_kept here),
              (d.pages p is).0,
            )
      ])
  step_tight (Discard l o x d g b e) h = emptied_tight l o x d (λ p i. step_waste lay top true apart m n k p i (Discard l o x d g b e) tt)
  step_tight (FoldZero l o i z x d e b q) h = emptied_tight l o x d (λ p j. step_waste lay top true apart m n k p j (FoldZero l o i z x d e b q) tt)
  step_tight (Write l o p content x c g b e) h =
      renamed_tight lay top version m n k old (λ q i. step_waste lay top true apart m n k q i (Write l o p content x c g b e) tt) l o p content x c (λ zero. (h zero).is_new) (λ zero. (h zero).not_zeros)
  step_tight (Fold l o p i x c e b z) h =
      renamed_tight lay top version m n k old (λ q j. step_waste lay top true apart m n k q j (Fold l o p i x c e b z) tt) l o p (m.world.cached (lay.data_page o)) x c h
      (λ zero. not_zeros l o x.released.in_range i x.released.was)
  step_tight (WriteAgain l p i x w g c e) h = cache_tight lay version m.world n.world old (λ q d. step_waste lay top true apart m n k q d (WriteAgain l p i x w g c e) tt) w.cached
  step_tight (DiscardAgain l z w g c e) h = cache_tight lay version m.world n.world old (λ q d. step_waste lay top true apart m n k q d (DiscardAgain l z w g c e) tt) w.cached
  step_tight (DropData q x e c z) h = kept_tight lay version m.world n.world old (λ p d. step_waste lay top true apart m n k p d (DropData q x e c z) tt)
      (λ p is pos. let count = dropped.count lay top m.world n.world q apart k.counts x p is in (
        subst (λ y. 0 < y) count pos,
        dropped.print_is lay top m.world n.world q apart k.counts x p is,
        x.cached _ (apart.data_data p q is x.is_data (λ same. omega (arith, x.no_count, pos, count, ap (cached_count lay m.world) same))),
      ))
  step_tight (Correct p x d e b q) h = corrected_tight p x d
  step_tight (FlushDone clean w alone c q) h = cache_tight lay version m.world n.world old (λ p d. step_waste lay top true apart m n k p d (FlushDone clean w alone c q) tt) w.cached

-- a session begins so on such an image
pub start_tight : (lay : Layout) (version : ℕ) (w : World) → AtRest w → ImageTight lay version w.newest → IsTight lay version w
start_tight lay version w rest tight =
    let count : (p : ℕ) → cached_count lay w p ≡ lay.count_in (w.newest (lay.count_page p)) p = λ p. ap (λ c. lay.count_in c p) (rest.cached _) in
    record {
      owed = λ p d.
          let exact = tight.exact.counts p d in
          let same = count p in
          let names : cached_names lay w p ≡ count_below (λ l. eqb (lay.name_in (w.newest (lay.map_page l)) l) p) lay.blocks =
          count_ext lay.blocks (λ l. eqb (cached_name lay w l) p) (λ l. eqb (lay.name_in (w.newest (lay.map_page l)) l) p) (λ l lt. ap (λ c. eqb (lay.name_in c l) p) (rest.cached _)) in
          let none : queued w.queue p ≡ 0 = ap (λ rs. queued rs p) rest.queue in
          omega arith;
      printed = λ p d pos. let print = tight.exact.named p d (subst (λ n. 0 < n) (count p) pos) in (print.0, ap (λ c. lay.print_in c p) (rest.cached _) ∙ print.1);
      distinct = λ p q d e ne pos pos2 same. tight.distinct p q d e ne (subst (λ n. 0 < n) (count p) pos) (subst (λ n. 0 < n) (count q) pos2) (sym (rest.cached _) ∙ same ∙ rest.cached _);
      no_zeros = λ two p d pos same. tight.no_zeros two p d (subst (λ n. 0 < n) (count p) pos) (sym (rest.cached _) ∙ same);
    }

-- and ends so once every page is fixed and no release waits
module _ (lay : Layout) (top version : ℕ) (m : Moment) (k : EngineInvariant lay top true m) (tight : IsTight lay version m.world) (done : NoNode m) (empty : m.world.queue ≡ [])
    (image : ℕ → List ℕ) (is : CrashImage m.world image) where
  table_is : (a : ℕ) → IsTable lay a → image a ≡ m.world.cached a
  table_is a t = k.counts.marks_and_edges.settled a (image a) t (done a).0 (done a).1 (is a)

  count_is : (p : ℕ) → IsData lay p → lay.count_in (image (lay.count_page p)) p ≡ cached_count lay m.world p
  count_is p d = ap (λ c. lay.count_in c p) (table_is _ (inr (p, d, inl refl)))

  print_is : (p : ℕ) → IsData lay p → lay.print_in (image (lay.print_page p)) p ≡ cached_print lay m.world p
  print_is p d = ap (λ c. lay.print_in c p) (table_is _ (inr (p, d, inr refl)))

  data_is : (p : ℕ) → IsData lay p → 0 < cached_count lay m.world p → image (lay.data_page p) ≡ m.world.cached (lay.data_page p)
  data_is p d pos = let data_page = k.contents.fresh_data_first p d in data_page.settled (image (lay.data_page p)) pos (done _).0 (done _).1 (is _) ∙ data_page.clean (done _).0

  no_print : (p : ℕ) → IsData lay p → cached_count lay m.world p ≡ 0 → (print : Option (List ℕ)) → cached_print lay m.world p ≡ print → print ≡ None
  no_print p d zero None e = refl
  no_print p d zero (Some x) e = absurd (let pos = k.counts.print_needs_count p x d e in omega arith)

  pub end_tight : ImageTight lay version image
  end_tight = record {
    exact = record {
      counts = λ p d.
          let owes = tight.owed p d in
          let none : queued m.world.queue p ≡ 0 = ap (λ rs. queued rs p) empty in
          let same = count_is p d in
          let names : count_below (λ l. eqb (lay.name_in (image (lay.map_page l)) l) p) lay.blocks ≡ cached_names lay m.world p =
          count_ext lay.blocks (λ l. eqb (lay.name_in (image (lay.map_page l)) l) p) (λ l. eqb (cached_name lay m.world l) p)
          (λ l lt. ap (λ c. eqb (lay.name_in c l) p) (table_is _ (inl (l, lt, refl)))) in
          omega arith;
      named = λ p d pos. let print = tight.printed p d (subst (λ n. 0 < n) (count_is p d) pos) in (print.0, print_is p d ∙ print.1);
      unnamed = λ p d z. print_is p d ∙ no_print p d (sym (count_is p d) ∙ z) (cached_print lay m.world p) refl;
    };
    distinct = λ p q d e ne pos pos2 same.
        let a = subst (λ n. 0 < n) (count_is p d) pos in
        let b = subst (λ n. 0 < n) (count_is q e) pos2 in
        tight.distinct p q d e ne a b (sym (data_is p d a) ∙ same ∙ data_is q e b);
    no_zeros = λ two p d pos same. let a = subst (λ n. 0 < n) (count_is p d) pos in tight.no_zeros two p d a (sym (data_is p d a) ∙ same);
  }
