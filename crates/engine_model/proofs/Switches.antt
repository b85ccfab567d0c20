-- A change of the version keeps every image fit, and ends in a state of the other version.
use Rattle.std.proofs.Common.{◌≡◌, ◌≢◌, ◌⊎◌, inl, inr, ◌<◌, ℕ, Bool, true, false, not, ◌&&◌, ◌||◌, arith, refl, sym, ap, ◌∙◌, subst, List, [], map, Some, true≢false, eqb, eq-eqb, ne_eqb}
use Rattle.std.proofs.lemmas.Bool.{cases_eq, and_parts, or_cases, false_from_ne_true}
use Rattle.order_model.specs.World.{Layout, World, Possible, IsData}
use Rattle.order_model.specs.Contents.{IsAmong}
use Rattle.engine_model.specs.Counts.{Covered, CountsInvariant, Near}
use Rattle.engine_model.specs.Entries.{IsPrint, IsTable, MayName, MayPrint, cached_count, cached_name, cached_names, cached_print, Apart}
use Rattle.engine_model.specs.Contents.{ContentsInvariant, Last}
use Rattle.engine_model.specs.Images.{ContentsFit, CountsFit, CrashImage}
use Rattle.engine_model.specs.DeviceSteps.{Barrier, KeepsMarks, MovesMarks, Taken}
use Rattle.engine_model.specs.VersionSwitch.{AllCleared, Clears, Edited, NoPrints, Switching, Stamps, Untouched, with_finger}
use Rattle.engine_model.proofs.Counting.{count_ext}
use Rattle.engine_model.proofs.Graphs.{acyclic_none}
use Rattle.engine_model.proofs.Views.{names_by, none_some}

module _ (lay : Layout) (top : ℕ) (sound : Bool) (array : ℕ → List (List ℕ)) (next : List ℕ) (was : World) (apart : Apart lay)
    (first : CountsInvariant lay top was) (contents : ContentsInvariant lay sound array was) (queue : was.queue ≡ []) (clean : (a : ℕ) → (was.dirty a ≡ false) × (was.hung a ≡ false)) where
  no_live : (a b : ℕ) → was.live a b ≡ false
  no_live a b = false_from_ne_true _ (λ h. true≢false (sym (first.marks_and_edges.live_before a b h) ∙ (clean a).0))

  no_barred : (a b : ℕ) → was.barred a b ≡ false
  no_barred a b = false_from_ne_true _ (λ h. true≢false (sym (first.marks_and_edges.barred_before a b h) ∙ (clean a).1))

  table_one : (a : ℕ) (c : List ℕ) → IsTable lay a → Possible was a c → c ≡ was.cached a
  table_one a c is q = first.marks_and_edges.settled a c is (clean a).0 (clean a).1 q

  print_table : (a : ℕ) → IsPrint lay a → IsTable lay a
  print_table a f = inr (f.0, f.1, inr f.2)

  not_first : (a : ℕ) → IsPrint lay a → a ≢ 0
  not_first a f = apart.first_table a (print_table a f)

  pub switch_start : Switching lay next was was
  switch_start = record {
    queue = queue;
    live = no_live;
    barred = no_barred;
    others = λ a ne no. record { newest = refl; possible = λ c q. q; cached = refl; dirty = (clean a).0; hung = (clean a).1 };
    prints = λ p c d q. inl (table_one _ c (inr (p, d, inr refl)) q);
    cached_prints = λ p d. inl refl;
    first_page = λ c q. inl (contents.first_page.one c q);
    cached_first = λ y. absurd (true≢false (sym y ∙ (clean 0).0));
    settled = λ a c is d h q. elim is [
      | inl e ↦ subst (λ z. c ≡ was.cached z) (sym e) (contents.first_page.one c (subst (λ z. Possible was z c) e q) ∙ sym contents.first_page.cached)
      | inr f ↦ table_one a c (print_table a f) q
    ];
    clean = λ a is d. elim is [
      | inl e ↦ ap was.newest e ∙ sym contents.first_page.cached ∙ ap was.cached (sym e)
      | inr f ↦ first.marks_and_edges.clean a (print_table a f) d
    ];
  }

  module _ (w v : World) (old : Switching lay next was w) where
    -- an edit
    module _ (page : ℕ) (x : Edited w v page) where
      other_page : (a : ℕ) → a ≢ page → Untouched was w a → Untouched was v a
      other_page a ne u = record {
        newest = x.newest a ∙ u.newest;
        possible = λ c q. u.possible c (x.possible a c q);
        cached = x.cached a ne ∙ u.cached;
        dirty = x.dirty a ne ∙ u.dirty;
        hung = x.hung a ∙ u.hung;
      }

      still_settled : (a : ℕ) (c : List ℕ) → (a ≡ 0) ⊎ IsPrint lay a → v.dirty a ≡ false → v.hung a ≡ false → Possible v a c → c ≡ v.cached a
      still_settled a c is d h q =
          let ne : a ≢ page = λ e. true≢false (sym x.dirty_here ∙ ap v.dirty (sym e) ∙ d) in
          old.settled a c is (sym (x.dirty a ne) ∙ d) (sym (x.hung a) ∙ h) (x.possible a c q) ∙ sym (x.cached a ne)

      still_clean : (a : ℕ) → (a ≡ 0) ⊎ IsPrint lay a → v.dirty a ≡ false → v.newest a ≡ v.cached a
      still_clean a is d =
          let ne : a ≢ page = λ e. true≢false (sym x.dirty_here ∙ ap v.dirty (sym e) ∙ d) in
          x.newest a ∙ old.clean a is (sym (x.dirty a ne) ∙ d) ∙ sym (x.cached a ne)

    pub clear_keeps : (page : ℕ) → Clears lay was w v page → Switching lay next was v
    clear_keeps page x = let e = x.edited in record {
      queue = e.queue ∙ old.queue;
      live = λ a b. e.live a b ∙ old.live a b;
      barred = λ a b. e.barred a b ∙ old.barred a b;
      others = λ a ne no. other_page page e a (λ same. no (subst (λ z. IsPrint lay z) (sym same) x.is_print)) (old.others a ne no);
      prints = λ p c d q. old.prints p c d (e.possible _ c q);
      cached_prints = λ p d. elim (cases_eq (lay.print_page p) page) [
        | inl same ↦ inr (subst (λ z. NoPrints lay z (v.cached z)) (sym same) x.none)
        | inr ne ↦ subst (λ c. (c ≡ was.cached (lay.print_page p)) ⊎ NoPrints lay (lay.print_page p) c) (sym (e.cached _ ne)) (old.cached_prints p d)
      ];
      first_page = λ c q. inl (old.settled 0 c (inl refl) x.first_clean x.first_fixed (e.possible 0 c q) ∙ x.first_cached);
      cached_first = λ y. absurd (true≢false (sym y ∙ e.dirty 0 (λ same. not_first page x.is_print (sym same)) ∙ x.first_clean));
      settled = still_settled page e;
      clean = still_clean page e;
    }

    pub stamp_keeps : Stamps lay next w v → Switching lay next was v
    stamp_keeps x = let e = x.edited in
        let apart_first : (p : ℕ) → IsData lay p → lay.print_page p ≢ 0 = λ p d. not_first _ (p, d, refl) in
        let cleared : AllCleared lay v = λ p d. record {
          dirty = e.dirty _ (apart_first p d) ∙ (x.clean _).0;
          hung = e.hung _ ∙ (x.clean _).1;
          none = λ c q. subst (λ z. NoPrints lay (lay.print_page p) z) (sym (old.settled _ c (inr (p, d, refl)) (x.clean _).0 (x.clean _).1 (e.possible _ c q))) (x.none p d);
        } in
        record {
          queue = e.queue ∙ old.queue;
          live = λ a b. e.live a b ∙ old.live a b;
          barred = λ a b. e.barred a b ∙ old.barred a b;
          others = λ a ne no. other_page 0 e a ne (old.others a ne no);
          prints = λ p c d q. old.prints p c d (e.possible _ c q);
          cached_prints = λ p d. subst (λ c. (c ≡ was.cached (lay.print_page p)) ⊎ NoPrints lay (lay.print_page p) c) (sym (e.cached _ (apart_first p d))) (old.cached_prints p d);
          first_page = λ c q. elim (old.first_page c (e.possible 0 c q)) [ inl same ↦ inl same | inr new ↦ inr (new.0, cleared) ];
          cached_first = λ y. (x.content, cleared);
          settled = still_settled 0 e;
          clean = still_clean 0 e;
        }

    pub fix_keeps : Barrier w v → Switching lay next was v
    fix_keeps b = record {
      queue = b.queue ∙ ap (map _) old.queue;
      live = λ a c. b.live a c ∙ old.live a c;
      barred = b.barred;
      others = λ a ne no. let u = old.others a ne no in record {
        newest = b.newest a ∙ u.newest;
        possible = λ c q. u.possible c (inl (b.possible a c q));
        cached = b.cached a ∙ u.cached;
        dirty = b.dirty a ∙ u.dirty;
        hung = b.hung a;
      };
      prints = λ p c d q. old.prints p c d (inl (b.possible _ c q));
      cached_prints = λ p d. subst (λ c. (c ≡ was.cached (lay.print_page p)) ⊎ NoPrints lay (lay.print_page p) c) (sym (b.cached _)) (old.cached_prints p d);
      first_page = λ c q. elim (old.first_page c (inl (b.possible 0 c q))) [ inl same ↦ inl same | inr new ↦ inr (new.0, fixed_cleared new.1) ];
      cached_first = λ y. let new = old.cached_first (sym (b.dirty 0) ∙ y) in (b.cached 0 ∙ new.0, fixed_cleared new.1);
      settled = λ a c is d h q. b.possible a c q ∙ old.clean a is (sym (b.dirty a) ∙ d) ∙ sym (b.cached a);
      clean = λ a is d. b.newest a ∙ old.clean a is (sym (b.dirty a) ∙ d) ∙ sym (b.cached a);
    }
      where
        fixed_cleared : AllCleared lay w → AllCleared lay v
        fixed_cleared all p d = let c = all p d in record {
          dirty = b.dirty _ ∙ c.dirty;
          hung = b.hung _;
          none = λ x q. c.none x (inl (b.possible _ x q));
        }

    -- a write: the marks of other pages stay
    module _ (page : ℕ) (t : Taken w v page) (queue_same : w.queue ≡ [] → v.queue ≡ []) (live : (a b : ℕ) → v.live a b ≡ true → w.live a b ≡ true)
        (barred : (a b : ℕ) → v.barred a b ≡ true → (w.live a b ≡ true) ⊎ (w.barred a b ≡ true)) (dirty : (a : ℕ) → a ≢ page → v.dirty a ≡ w.dirty a)
        (hung : (a : ℕ) → a ≢ page → v.hung a ≡ w.hung a) (dirty_old : (a : ℕ) → v.dirty a ≡ true → w.dirty a ≡ true) (node : (v.dirty page ≡ true) ⊎ (v.hung page ≡ true)) where
      written_is : (page ≡ 0 → ⊥) → (IsPrint lay page → ⊥) → ⊥
      written_is ne other = true≢false (sym t.was_dirty ∙ (old.others page ne other).dirty)

      was_other : (a : ℕ) (c : List ℕ) → a ≢ page → Possible v a c → Possible w a c
      was_other a c ne q = elim (t.possible a c q) [ inl o ↦ o | inr n ↦ absurd (ne n.0) ]

      still_cleared : AllCleared lay w → AllCleared lay v
      still_cleared all p d =
          let c = all p d in
          let ne : lay.print_page p ≢ page = λ e. true≢false (sym t.was_dirty ∙ ap w.dirty (sym e) ∙ c.dirty) in
          record { dirty = dirty _ ne ∙ c.dirty; hung = hung _ ne ∙ c.hung; none = λ x q. c.none x (was_other _ x ne q) }

      write_keeps : Switching lay next was v
      write_keeps = record {
        queue = queue_same old.queue;
        live = λ a b. false_from_ne_true _ (λ h. true≢false (sym (live a b h) ∙ old.live a b));
        barred = λ a b. false_from_ne_true _ (λ h. elim (barred a b h) [ inl l ↦ true≢false (sym l ∙ old.live a b) | inr r ↦ true≢false (sym r ∙ old.barred a b) ]);
        others = λ a ne no.
            let u = old.others a ne no in
            let other : a ≢ page = λ e. written_is (λ z. ne (e ∙ z)) (λ f. no (subst (λ z. IsPrint lay z) (sym e) f)) in
            record {
              newest = t.newest_other a other ∙ u.newest;
              possible = λ c q. u.possible c (was_other a c other q);
              cached = t.cached a ∙ u.cached;
              dirty = dirty a other ∙ u.dirty;
              hung = hung a other ∙ u.hung;
            };
        prints = λ p c d q. elim (t.possible _ c q) [
          | inl o ↦ old.prints p c d o
          | inr n ↦ subst (λ x. (x ≡ was.cached (lay.print_page p)) ⊎ NoPrints lay (lay.print_page p) x) (sym (n.1 ∙ ap w.cached (sym n.0))) (old.cached_prints p d)
        ];
        cached_prints = λ p d. subst (λ c. (c ≡ was.cached (lay.print_page p)) ⊎ NoPrints lay (lay.print_page p) c) (sym (t.cached _)) (old.cached_prints p d);
        first_page = λ c q. elim (t.possible 0 c q) [
          | inl o ↦ elim (old.first_page c o) [ inl same ↦ inl same | inr new ↦ inr (new.0, still_cleared new.1) ]
          | inr n ↦ let new = old.cached_first (ap w.dirty n.0 ∙ t.was_dirty) in inr (n.1 ∙ ap w.cached (sym n.0) ∙ new.0, still_cleared new.1)
        ];
        cached_first = λ y. let new = old.cached_first (dirty_old 0 y) in (t.cached 0 ∙ new.0, still_cleared new.1);
        settled = λ a c is d h q.
            let ne : a ≢ page = λ e. elim node [ inl y ↦ true≢false (sym y ∙ ap v.dirty (sym e) ∙ d) | inr y ↦ true≢false (sym y ∙ ap v.hung (sym e) ∙ h) ] in
            old.settled a c is (sym (dirty a ne) ∙ d) (sym (hung a ne) ∙ h) (was_other a c ne q) ∙ sym (t.cached a);
        clean = λ a is d. elim (cases_eq a page) [
          | inl e ↦ ap v.newest e ∙ t.newest_here ∙ ap w.cached (sym e) ∙ sym (t.cached a)
          | inr ne ↦ t.newest_other a ne ∙ old.clean a is (sym (dirty a ne) ∙ d) ∙ sym (t.cached a)
        ];
      }

    pub taken_switches : (page : ℕ) → Taken w v page → KeepsMarks w v → Switching lay next was v
    taken_switches page t m = write_keeps page t (λ e. m.queue ∙ e) (λ a b h. sym (m.live a b) ∙ h) (λ a b h. inr (sym (m.barred a b) ∙ h))
        (λ a ne. m.dirty a) (λ a ne. m.hung a) (λ a y. sym (m.dirty a) ∙ y) (inl (m.dirty page ∙ t.was_dirty))

    pub done_switches : (page : ℕ) → Taken w v page → MovesMarks lay w v page → Switching lay next was v
    done_switches page t m = write_keeps page t (λ e. m.queue ∙ ap (map _) e) (λ a b h. (and_parts _ _ (sym (m.live a b) ∙ h)).0)
        (λ a b h. elim (or_cases _ _ (sym (m.barred a b) ∙ h)) [ inl r ↦ inr r | inr l ↦ inl (and_parts _ _ l).0 ])
        (λ a ne. m.dirty a ∙ and_other (w.dirty a) _ (ne_eqb a page ne)) (λ a ne. m.hung a ∙ or_other (w.hung a) _ (ne_eqb a page ne))
        (λ a y. (and_parts _ _ (sym (m.dirty a) ∙ y)).0) (inr (m.hung page ∙ or_here (w.hung page) _ (eq-eqb page page refl)))
      where
        and_other : (a b : Bool) → b ≡ false → (a && not b) ≡ a
        and_other a b e = grind arith

        or_other : (a b : Bool) → b ≡ false → (a || b) ≡ a
        or_other a b e = grind arith

        or_here : (a b : Bool) → b ≡ true → (a || b) ≡ true
        or_here a b e = grind arith

  -- what an image of such a state is
  module _ (w : World) (now : Switching lay next was w) where
    map_not : (l : ℕ) → l < lay.blocks → IsPrint lay (lay.map_page l) → ⊥
    map_not l lt f = apart.map_print l f.0 lt f.1 f.2

    count_not : (p : ℕ) → IsData lay p → IsPrint lay (lay.count_page p) → ⊥
    count_not p d f = apart.count_print p f.0 d f.1 f.2

    data_not : (p : ℕ) → IsData lay p → IsPrint lay (lay.data_page p) → ⊥
    data_not p d f = apart.table_data (lay.data_page p) p (print_table _ f) d refl

    map_kept : (l : ℕ) → l < lay.blocks → Untouched was w (lay.map_page l)
    map_kept l lt = now.others _ (apart.first_table _ (inl (l, lt, refl))) (map_not l lt)

    count_kept : (p : ℕ) → IsData lay p → Untouched was w (lay.count_page p)
    count_kept p d = now.others _ (apart.first_table _ (inr (p, d, inl refl))) (count_not p d)

    data_kept : (p : ℕ) → IsData lay p → Untouched was w (lay.data_page p)
    data_kept p d = now.others _ (apart.first_data p d) (data_not p d)

    map_one : (l : ℕ) (c : List ℕ) → l < lay.blocks → Possible w (lay.map_page l) c → c ≡ was.cached (lay.map_page l)
    map_one l c lt q = table_one _ c (inl (l, lt, refl)) ((map_kept l lt).possible c q)

    count_one : (p : ℕ) (c : List ℕ) → IsData lay p → Possible w (lay.count_page p) c → c ≡ was.cached (lay.count_page p)
    count_one p c d q = table_one _ c (inr (p, d, inl refl)) ((count_kept p d).possible c q)

    old_name : (p l : ℕ) → l < lay.blocks → MayName lay w p l → MayName lay was p l
    old_name p l lt n = record { content = n.content; possible = (map_kept l lt).possible _ n.possible; names = n.names }

    module _ (image : ℕ → List ℕ) (is : CrashImage w image) where
      image_name : (l p : ℕ) → l < lay.blocks → lay.name_in (image (lay.map_page l)) l ≡ p → MayName lay was p l
      image_name l p lt h = old_name p l lt (record { content = image (lay.map_page l); possible = is _; names = h })

      image_print : (p : ℕ) (print : List ℕ) → IsData lay p → lay.print_in (image (lay.print_page p)) p ≡ Some print → cached_print lay was p ≡ Some print
      image_print p print d h = elim (now.prints p _ d (is (lay.print_page p))) [
        | inl same ↦ ap (λ c. lay.print_in c p) (sym same) ∙ h
        | inr none ↦ absurd (none_some print (sym (none.none p d refl) ∙ h))
      ]

      pub switch_counts : CountsFit lay image
      switch_counts = record {
        names = λ p d.
            let fit = (first.count_balance p d).enough in
            let same = count_ext lay.blocks (λ l. eqb (lay.name_in (image (lay.map_page l)) l) p) (λ l. eqb (cached_name lay was l) p)
            (λ l lt. ap (λ c. eqb (lay.name_in c l) p) (map_one l _ lt (is _))) in
            let count : lay.count_in (image (lay.count_page p)) p ≡ cached_count lay was p = ap (λ c. lay.count_in c p) (count_one p _ d (is _)) in
            omega arith;
        prints = λ p print d h. subst (λ c. 0 < lay.count_in c p) (sym (count_one p _ d (is _))) (first.print_needs_count p print d (image_print p print d h));
      }

      image_data : (p l : ℕ) → IsData lay p → l < lay.blocks → MayName lay was p l → image (lay.data_page p) ≡ was.newest (lay.data_page p)
      image_data p l d lt n = ((contents.named_data_fixed p d).named l lt n).one _ ((data_kept p d).possible _ (is _))

      image_formed : (page : ℕ) → IsTable lay page → lay.well_formed page (image page) ≡ true
      image_formed page (inl m) = subst (λ c. lay.well_formed page c ≡ true) (sym (ap image m.2 ∙ map_one m.0 _ m.1 (is _) ∙ ap was.cached (sym m.2))) (contents.well_formed.cached page (inl m))
      image_formed page (inr f) = elim f.2 [
        | inl e ↦ subst (λ c. lay.well_formed page c ≡ true) (sym (ap image e ∙ count_one f.0 _ f.1 (is _) ∙ ap was.cached (sym e))) (contents.well_formed.cached page (inr f))
        | inr e ↦ subst (λ z. lay.well_formed z (image z) ≡ true) (sym e) (elim (now.prints f.0 _ f.1 (is (lay.print_page f.0))) [
          | inl same ↦ ap (lay.well_formed (lay.print_page f.0)) same ∙ contents.well_formed.cached _ (inr (f.0, f.1, inr refl))
          | inr none ↦ none.well_formed
        ])
      ]

      reads : (sure : Bool) (finger : List ℕ → List ℕ) → ((p : ℕ) (print : List ℕ) → sure ≡ true → IsData lay p → lay.print_in (image (lay.print_page p)) p ≡ Some print → print ≡ finger (image (lay.data_page p)))
          → ContentsFit (with_finger lay finger) sure image array
      reads sure finger prints = record {
        reads = λ l lt. record {
          unmapped = λ h. (contents.reads l lt).unmapped (image_name l 0 lt h);
          mapped = λ p d h. let n = image_name l p lt h in subst (λ c. IsAmong c (array l)) (sym (image_data p l d lt n)) ((contents.reads l lt).mapped p d n);
        };
        prints = λ s p print d h. prints p print s d h;
        well_formed = image_formed;
      }

      -- a print of the first version is of the page as it stands
      pub switch_old : ContentsFit lay sound image array
      switch_old = reads sound lay.finger (λ p print s d h.
          let was_print = image_print p print d h in
          let may : MayPrint lay was p print = record { content = was.cached (lay.print_page p); possible = inl (sym (first.marks_and_edges.clean _ (inr (p, d, inr refl)) (clean _).0)); has = was_print } in
          let data_same : image (lay.data_page p) ≡ was.newest (lay.data_page p) = ((contents.named_data_fixed p d).printed print may).one _ ((data_kept p d).possible _ (is _)) in
          (contents.prints_true s p d).possible print may ∙ ap lay.finger (sym data_same))

      -- with the other first page no print is left
      pub switch_new : (finger : List ℕ → List ℕ) → next ≢ was.newest 0 → image 0 ≡ next → ContentsFit (with_finger lay finger) true image array
      switch_new finger differ e = reads true finger (λ p print s d h. absurd (elim (now.first_page (image 0) (is 0)) [
        | inl same ↦ differ (sym e ∙ same)
        | inr new ↦ none_some print (sym (((new.1 p d).none _ (is _)).none p d refl) ∙ h)
      ]))

    -- the end: no page is a node, and the first page is the other one
    module _ (done : (a : ℕ) → (w.dirty a ≡ false) × (w.hung a ≡ false)) (stamped : w.cached 0 ≡ next) (differ : next ≢ was.newest 0) (finger : List ℕ → List ℕ) where
      new_name : (p l : ℕ) → l < lay.blocks → MayName (with_finger lay finger) w p l → MayName lay was p l
      new_name p l lt n = record { content = n.content; possible = (map_kept l lt).possible _ n.possible; names = n.names }

      all_cleared : AllCleared lay w
      all_cleared = elim (now.first_page (w.newest 0) (inl refl)) [
        | inl same ↦ absurd (differ (sym stamped ∙ sym (now.clean 0 (inl refl) (done 0).0) ∙ same))
        | inr new ↦ new.1
      ]

      no_print : (p : ℕ) (print : List ℕ) → IsData lay p → MayPrint (with_finger lay finger) w p print → ⊥
      no_print p print d n = none_some print (sym (((all_cleared p d).none _ n.possible).none p d refl) ∙ n.has)

      no_cached : (p : ℕ) (print : List ℕ) → IsData lay p → cached_print lay w p ≡ Some print → ⊥
      no_cached p print d h = no_print p print d (record { content = w.cached (lay.print_page p); possible = inl (sym (now.clean _ (inr (p, d, refl)) (done _).0)); has = h })

      name : (l : ℕ) → l < lay.blocks → cached_name lay w l ≡ cached_name lay was l
      name l lt = ap (λ c. lay.name_in c l) (map_kept l lt).cached

      count : (p : ℕ) → IsData lay p → cached_count lay w p ≡ cached_count lay was p
      count p d = ap (λ c. lay.count_in c p) (count_kept p d).cached

      names : (p : ℕ) → cached_names lay w p ≡ cached_names lay was p
      names = names_by lay was w name

      covered : (p l : ℕ) → l < lay.blocks → Covered (with_finger lay finger) w p l → Covered lay was p l
      covered p l lt (inl n) = inl (new_name p l lt n)
      covered p l lt (inr c) = inr (sym (name l lt) ∙ c.0, (no_live _ _, no_barred _ _))

      near : (p l : ℕ) → l < lay.blocks → Near (with_finger lay finger) w p l → Near lay was p l
      near p l lt (inl n) = inl (new_name p l lt n)
      near p l lt (inr c) = inr (sym (name l lt) ∙ c.0, no_live _ _)

      named_cached : (p l : ℕ) → l < lay.blocks → MayName (with_finger lay finger) w p l → cached_name lay w l ≡ p
      named_cached p l lt n = name l lt ∙ ap (λ c. lay.name_in c l) (sym (map_one l n.content lt n.possible)) ∙ n.names

      pub switch_counts_kept : CountsInvariant (with_finger lay finger) top w
      switch_counts_kept = record {
        marks_and_edges = record {
          acyclic = acyclic_none w.live now.live;
          live_before = λ a b h. absurd (true≢false (sym h ∙ now.live a b));
          live_after = λ a b h. absurd (true≢false (sym h ∙ now.live a b));
          barred_before = λ a b h. absurd (true≢false (sym h ∙ now.barred a b));
          barred_after = λ a b h. absurd (true≢false (sym h ∙ now.barred a b));
          settled = λ a c t d h q. elim t [
            | inl m ↦ map_one m.0 c m.1 (subst (λ z. Possible w z c) m.2 q) ∙ sym (map_kept m.0 m.1).cached ∙ ap w.cached (sym m.2)
            | inr f ↦ elim f.2 [
              | inl e ↦ count_one f.0 c f.1 (subst (λ z. Possible w z c) e q) ∙ sym (count_kept f.0 f.1).cached ∙ ap w.cached (sym e)
              | inr e ↦ now.settled a c (inr (f.0, f.1, e)) d h q
            ]
          ];
          clean = λ a t d. elim t [
            | inl m ↦ subst (λ z. w.newest z ≡ w.cached z) (sym m.2) (map_one m.0 _ m.1 (inl refl) ∙ sym (map_kept m.0 m.1).cached)
            | inr f ↦ elim f.2 [
              | inl e ↦ subst (λ z. w.newest z ≡ w.cached z) (sym e) (count_one f.0 _ f.1 (inl refl) ∙ sym (count_kept f.0 f.1).cached)
              | inr e ↦ now.clean a (inr (f.0, f.1, e)) d
            ]
          ];
        };
        edge_kinds = λ a b h. absurd (elim h [ inl l ↦ true≢false (sym l ∙ now.live a b) | inr r ↦ true≢false (sym r ∙ now.barred a b) ]);
        count_balance = λ p d. record {
          enough = rw (names p, count p d, now.queue) (rw queue at (first.count_balance p d).enough);
          in_range = rw (count p d) (first.count_balance p d).in_range;
        };
        counts_cover_names = λ p d. record {
          each = λ c q S h. (first.counts_cover_names p d).each c ((count_kept p d).possible c q) S (λ l lt s. covered p l lt (h l lt s));
          newest = λ S h. rw (ap (λ c. lay.count_in c p) (count_kept p d).newest) ((first.counts_cover_names p d).newest S (λ l lt s. near p l lt (h l lt s)));
        };
        counts_cover_prints = λ p d. record {
          each = λ c print q h. absurd (elim h [ inl n ↦ no_print p print d n | inr n ↦ no_cached p print d n.0 ]);
          newest = λ print h. absurd (elim h [ inl n ↦ no_print p print d n | inr n ↦ no_cached p print d n.0 ]);
        };
        print_needs_count = λ p print d h. absurd (no_cached p print d h);
        lost_name_owes_release = record {
          each = λ l p lt d n. inl (named_cached p l lt n);
          newest = λ l p lt d h. inl (named_cached p l lt (record { content = w.newest (lay.map_page l); possible = inl refl; names = h }));
          dirty = λ l p lt q. absurd (rw now.queue at q);
          hung = λ l p lt q. absurd (rw now.queue at q);
          in_range = λ l p stage q. absurd (rw now.queue at q);
        };
        lost_print_ordered = λ p d. record {
          each = λ print n. absurd (no_print p print d n);
          newest = λ print h. absurd (no_print p print d (record { content = w.newest (lay.print_page p); possible = inl refl; has = h }));
        };
      }

      table_formed : (a : ℕ) → IsTable lay a → lay.well_formed a (w.cached a) ≡ true
      table_formed a (inl m) = subst (λ c. lay.well_formed a c ≡ true) (sym (ap w.cached m.2 ∙ (map_kept m.0 m.1).cached ∙ ap was.cached (sym m.2))) (contents.well_formed.cached a (inl m))
      table_formed a (inr f) = elim f.2 [
        | inl e ↦ subst (λ c. lay.well_formed a c ≡ true) (sym (ap w.cached e ∙ (count_kept f.0 f.1).cached ∙ ap was.cached (sym e))) (contents.well_formed.cached a (inr f))
        | inr e ↦ subst (λ z. lay.well_formed z (w.cached z) ≡ true) (sym e) (elim (now.cached_prints f.0 f.1) [
          | inl same ↦ ap (lay.well_formed (lay.print_page f.0)) same ∙ contents.well_formed.cached _ (inr (f.0, f.1, inr refl))
          | inr none ↦ none.well_formed
        ])
      ]

      pub switch_contents : ContentsInvariant (with_finger lay finger) true array w
      switch_contents = record {
        fresh_data_first = λ p d. record {
          name_dirty = λ l lt n y. absurd (true≢false (sym y ∙ (done _).0));
          name_hung = λ l lt n y. absurd (true≢false (sym y ∙ (done _).1));
          print_dirty = λ print n y. absurd (no_cached p print d n);
          print_hung = λ print n y. absurd (no_cached p print d n);
          settled = λ c pos y z q. (contents.fresh_data_first p d).settled c (subst (λ n. 0 < n) (count p d) pos) (clean _).0 (clean _).1 ((data_kept p d).possible c q) ∙ sym (data_kept p d).newest;
          clean = λ y. (data_kept p d).newest ∙ (contents.fresh_data_first p d).clean (clean _).0 ∙ sym (data_kept p d).cached;
        };
        named_data_fixed = λ p d. record {
          named = λ l lt n. record { one = λ c q. ((contents.named_data_fixed p d).named l lt (new_name p l lt n)).one c ((data_kept p d).possible c q) ∙ sym (data_kept p d).newest };
          printed = λ print n. absurd (no_print p print d n);
        };
        named_data_stands = λ p d. record { named = λ l lt n. record { clean = (done _).0; fixed = (done _).1 }; printed = λ print n. absurd (no_print p print d n) };
        reads = λ l lt. record {
          unmapped = λ n. (contents.reads l lt).unmapped (new_name 0 l lt n);
          mapped = λ p d n. subst (λ c. IsAmong c (array l)) (sym (data_kept p d).newest) ((contents.reads l lt).mapped p d (new_name p l lt n));
          cached_unmapped = λ n. (contents.reads l lt).cached_unmapped (sym (name l lt) ∙ n);
          cached_mapped = λ p d n. subst (λ c. Last (array l) c) (sym (data_kept p d).cached) ((contents.reads l lt).cached_mapped p d (sym (name l lt) ∙ n));
        };
        prints_true = λ s p d. record { possible = λ print n. absurd (no_print p print d n); cached = λ print n. absurd (no_cached p print d n) };
        well_formed = record {
          possible = λ a c t q. subst (λ x. lay.well_formed a x ≡ true) (sym ((switch_counts_kept).marks_and_edges.settled a c t (done a).0 (done a).1 q)) (table_formed a t);
          cached = table_formed;
        };
        first_page = record { one = λ c q. now.settled 0 c (inl refl) (done 0).0 (done 0).1 q ∙ sym (now.clean 0 (inl refl) (done 0).0); clean = (done 0).0; cached = sym (now.clean 0 (inl refl) (done 0).0) };
      }
