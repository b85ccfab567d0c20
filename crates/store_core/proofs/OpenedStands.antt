-- A good image that was just mounted, with nothing in memory, meets all that a core stands for.
use Rattle.std.proofs.Common.{arith, not, ◌≡◌, inl, inr, ◌<◌, ◌≤◌, ◌/◌, ◌-◌, ℕ, Bool, true, false, refl, sym, ap, ◌∙◌, subst, List, [], ◌∷◌, Option, Some, eqb, eqb-true, eq-eqb, ne_eqb, get_or, length, map, is_some, IsSome, true≢false}
use Rattle.std.specs.List.{All}
use Rattle.std.proofs.lemmas.List.Elements.{All-nil}
use Rattle.page_device.specs.Block.{Block, zero_block}
use Rattle.page_device.specs.Chosen.{contents_of}
use Rattle.page_device.specs.Disk.{DeviceState, at_rest}
use Rattle.page_device.specs.Meaning.{Meaning}
use Rattle.page_layout.specs.Numbers.{entry_of}
use Rattle.page_layout.specs.Fingerprint.{fingerprint_of}
use Rattle.page_layout.specs.Formed.{is_formed}
use Rattle.page_layout.specs.Shape.{IsSuperblock, ShapeView, count_page, count_place, data_page, map_page, map_place, print_page, print_place, told_shape, total}
use Rattle.page_layout.specs.Tables.{IsCountPage, IsMapPage, IsPrintPage, count_of, data_of, map_of, page_of, print_entry_of, print_of, shape_of}
use Rattle.page_layout.proofs.FormedPages.{formed_count, formed_map, formed_print}
use Rattle.page_cache.specs.Calls.{IsFresh}
use Rattle.page_cache.specs.View.{CacheView, is_there}
use Rattle.order_model.specs.Contents.{IsAmong}
use Rattle.order_model.specs.Counting.{count_below}
use Rattle.order_model.specs.Pool.{Told}
use Rattle.order_model.specs.World.{IsData, Queued}
use Rattle.order_model.specs.declared.Slot.{Slot}
use Rattle.dep_graph.specs.Lists.{GraphLists, barred_in, dirty_in, hung_in, live_in, node_count}
use Rattle.release_queue.specs.Queued.{QueueLists}
use Rattle.flush_engine.specs.Edits.{IsNew}
use Rattle.flush_engine.specs.View.{EngineView}
use Rattle.page_alloc.specs.Pool.{PoolView, told_of}
use Rattle.birth_marks.specs.Births.{BirthsView, Remembers, recorded_in}
use Rattle.array_model.specs.Images.{IsGood, block_of, content_at, names}
use Rattle.array_model.specs.Array.{array_start}
use Rattle.engine_model.specs.Contents.{Last}
use Rattle.engine_model.specs.DeviceSteps.{AtRest}
use Rattle.engine_model.specs.Disk.{newest_on, older_on}
use Rattle.engine_model.specs.Entries.{IsTable, cached_count}
use Rattle.engine_model.specs.Images.{ContentsFit, CountsBelow, CountsFit}
use Rattle.engine_model.specs.Invariant.{EngineInvariant}
use Rattle.engine_model.specs.Pool.{PoolKnows}
use Rattle.engine_model.proofs.AtRest.{start, start_contents}
use Rattle.engine_model.proofs.Births.{start_births}
use Rattle.engine_model.proofs.Counting.{count_ext}
use Rattle.store_core.specs.declared.Core.{Core}
use Rattle.store_core.specs.declared.ledger.Ledger.{Ledger}
use Rattle.store_core.specs.Layout.{lay_of, place_of, top}
use Rattle.store_core.specs.Opened.{CanOpen, IsOpened, counted_so}
use Rattle.store_core.specs.Orderly.{IsLooked, IsOrderly}
use Rattle.store_core.specs.Owed.{IsProvided, held_for_all}
use Rattle.store_core.specs.Stands.{HasShapeOf, StandsFor, moment_of}
use Rattle.store_core.specs.Views.{held_or, plain_release, world_of}
use Rattle.store_core.specs.Whole.{IsPlaced, IsWhole}
use Rattle.store_core.specs.Weaker.{mode_of}
use Rattle.store_core.proofs.Good.{format, page_is}

-- a device with nothing pending has one content of each page
rest_lists : (image : List Block) (page : ℕ) (c : Block) → IsAmong c (older_on (at_rest image) page) → c ≡ newest_on (at_rest image) page
unfolding IsAmong contents_of
rest_lists image page c (inl is) = is
rest_lists image page c (inr more) = absurd more

one_content : (s : DeviceState) (image : List Block) → s ≡ at_rest image → (page : ℕ) (c : Block) → IsAmong c (older_on s page) → c ≡ newest_on s page
one_content s image e = subst (λ (x : DeviceState). (page : ℕ) (c : Block) → IsAmong c (older_on x page) → c ≡ newest_on x page) (sym e) (rest_lists image)

-- a list of one content has that one at its end
alone : (x c : Block) → IsAmong c (x ∷ []) → Last (x ∷ []) c
unfolding IsAmong
alone x c (inl is) = is
alone x c (inr more) = absurd more

first_among : (x c : Block) → c ≡ x → IsAmong c (x ∷ [])
unfolding IsAmong
first_among x c is = inl is

some_is : (o : Option (List ℕ)) (print : List ℕ) → o ≡ Some print → IsSome o
some_is o print e = ap is_some e

-- a good image
module _ (sound : Bool) (image : List Block) (good : IsGood (mode_of sound) image) where
  abbrev pub shape : ShapeView
  shape = shape_of image

  abbrev pub on_ : ℕ → Block
  on_ page = get_or image page []

  at : (k : ℕ) → k < total shape → page_of image k ≡ on_ k
  at k lt = page_is image k (omega (arith, lt, good.shape.enough))

  pub map_is : (l : ℕ) → l < shape.blocks → map_of image l ≡ entry_of (on_ (map_page l)) (map_place l)
  map_is l lt = ap (λ (c : Block). entry_of c (map_place l)) (at (map_page l) (omega (arith, lt)))

  pub count_is : (p : ℕ) → 1 ≤ p → p ≤ shape.pages → count_of image p ≡ entry_of (on_ (count_page shape p)) (count_place p)
  count_is p first last = ap (λ (c : Block). entry_of c (count_place p)) (at (count_page shape p) (omega (arith, first, last)))

  pub print_is : (p : ℕ) → 1 ≤ p → p ≤ shape.pages → print_of image p ≡ print_entry_of (on_ (print_page shape p)) (print_place p)
  print_is p first last = ap (λ (c : Block). print_entry_of c (print_place p)) (at (print_page shape p) (omega (arith, first, last)))

  pub data_is : (p : ℕ) → 1 ≤ p → p ≤ shape.pages → data_of image p ≡ on_ (data_page shape p)
  data_is p first last = at (data_page shape p) (omega (arith, first, last))

  names_are : (p : ℕ) → names image p ≡ count_below (λ l. eqb (entry_of (on_ (map_page l)) (map_place l)) p) shape.blocks
  names_are p = count_ext shape.blocks (λ l. eqb (map_of image l) p) (λ l. eqb (entry_of (on_ (map_page l)) (map_place l)) p) (λ l lt. ap (λ (n : ℕ). eqb n p) (map_is l lt))

  counts_fit : CountsFit (lay_of shape) on_
  counts_fit = record {
    names = λ p is. let first = is.0 in let last = is.1 in omega (arith, names_are p, count_is p first last, good.names_counted p first last);
    prints = λ p print is e. let first = is.0 in let last = is.1 in
        omega (arith, count_is p first last, good.prints_counted p first last (some_is (print_of image p) print (print_is p first last ∙ e)));
  }

  formed : (page : ℕ) → IsTable (lay_of shape) page → is_formed shape page (on_ page) ≡ true
  formed page (inl (l, lt, is)) = subst (λ n. is_formed shape n (on_ n) ≡ true) (sym is)
      ((formed_map shape (l / 1024) (on_ (map_page l)) (omega (arith, lt))).1 (subst (IsMapPage shape (l / 1024)) (at (map_page l) (omega (arith, lt))) (good.well_formed.maps (l / 1024) (omega (arith, lt)))))
  formed page (inr (p, (first, last), inl is)) = subst (λ n. is_formed shape n (on_ n) ≡ true) (sym is)
      ((formed_count shape ((p - 1) / 1024) (on_ (count_page shape p)) (omega (arith, first, last))).1
      (subst (IsCountPage shape ((p - 1) / 1024)) (at (count_page shape p) (omega (arith, first, last))) (good.well_formed.counts ((p - 1) / 1024) (omega (arith, first, last)))))
  formed page (inr (p, (first, last), inr is)) = subst (λ n. is_formed shape n (on_ n) ≡ true) (sym is)
      ((formed_print shape ((p - 1) / 170) (on_ (print_page shape p)) (omega (arith, first, last))).1
      (subst (IsPrintPage shape ((p - 1) / 170)) (at (print_page shape p) (omega (arith, first, last))) (good.well_formed.prints ((p - 1) / 170) (omega (arith, first, last)))))

  below : CountsBelow (lay_of shape) top on_
  below p is = (format shape).counts p (on_ (count_page shape p)) is (formed (count_page shape p) (inr (p, is, inl refl)))

  prints_true : (b : Bool) → b ≡ sound → b ≡ true → (p : ℕ) → 1 ≤ p → p ≤ shape.pages → (f : List ℕ) → print_of image p ≡ Some f → f ≡ fingerprint_of shape.version (data_of image p)
  prints_true true e is = (subst (λ (x : Bool). IsGood (mode_of x) image) (sym e) good).prints_true
  prints_true false e is = cc

  contents_fit : ContentsFit (lay_of shape) sound on_ (array_start image).lists
  contents_fit = record {
    reads = λ l lt. record {
      unmapped = λ is. first_among (block_of image l) zero_block (sym (ap (content_at image) (map_is l lt ∙ is)));
      mapped = λ p is e. let first = is.0 in let last = is.1 in first_among (block_of image l) (on_ (data_page shape p))
          (sym (ap (content_at image) (map_is l lt ∙ e) ∙ rw (ne_eqb p 0 (λ z. omega (arith, first, z))) (data_is p first last)));
    };
    prints = λ on_sound p print is e. let first = is.0 in let last = is.1 in
        prints_true sound refl on_sound p first last print (print_is p first last ∙ e) ∙ ap (fingerprint_of shape.version) (data_is p first last);
    well_formed = formed;
  }

-- a pool that was told of a count
told_zero : (t : Told) (n : ℕ) → t ≡ counted_so n → t.zero ≡ true → n ≡ 0
told_zero t n e is = eqb-true n 0 (sym (ap (λ (x : Told). x.zero) e) ∙ is)

told_above : (t : Told) (n : ℕ) → t ≡ counted_so n → n ≡ 0 → t.zero ≡ true
told_above t n e is = ap (λ (x : Told). x.zero) e ∙ eq-eqb n 0 is

not_not : (b : Bool) → not b ≡ false → b ≡ true
not_not true h = refl
not_not false h = cc

told_tried : (t : Told) (n : ℕ) → t ≡ counted_so n → t.tried ≡ false → n ≡ 0
told_tried t n e is = eqb-true n 0 (not_not (eqb n 0) (sym (ap (λ (x : Told). x.tried) e) ∙ is))

told_newest : (t : Told) (n : ℕ) → t ≡ counted_so n → t.newest ≡ false → n ≡ 0
told_newest t n e is = eqb-true n 0 (not_not (eqb n 0) (sym (ap (λ (x : Told). x.newest) e) ∙ is))

-- no slot is recorded, as before the first call
nothing_recorded : (place : Slot → ℕ) (b : BirthsView) → ((s : Slot) → recorded_in b s ≡ false) → Remembers place b []
nothing_recorded place b none = record {
  recorded = none;
  place_is = λ s is. absurd (true≢false (sym is ∙ none s));
  value = λ s is. absurd (true≢false (sym is ∙ none s));
  met = λ s v. rw (none s) refl;
  written = λ s is. absurd (true≢false (sym is ∙ none s));
}

-- nothing is there, so that every part is whole
pub whole_opened : (shape : ShapeView) (size : ℕ) (cache : CacheView) (engine : EngineView) (ledger : Ledger) → IsFresh size cache → IsNew cache engine
    → ledger.queue.releases ≡ [] → ledger.pool.shape ≡ shape → ((s : Slot) → recorded_in ledger.births s ≡ false) → IsWhole shape engine ledger
whole_opened shape size cache engine ledger fresh new queue pool births = record {
  engine_whole = new.whole fresh.dirty;
  within = λ a there. absurd (true≢false (sym there ∙ ap (λ (c : CacheView). is_there c a) new.cache_is ∙ ap is_some (fresh.content a)));
  placed = subst (All (IsPlaced shape)) (sym queue) (All-nil (IsPlaced shape));
  pool_shape = pool;
  slots = λ s is. absurd (true≢false (sym is ∙ births s));
}

-- it is provided, and in order
module _ (shape : ShapeView) (size : ℕ) (pool : PoolView) (core : Core) (is : IsOpened shape size pool core) where
  no_release : core.ledger.queue.releases ≡ []
  no_release = ap (λ (q : QueueLists). q.releases) is.queue

  none_owed : length core.ledger.queue.releases ≡ 0
  none_owed = ap length no_release

  no_node : node_count core.engine.graph ≡ 0
  no_node = ap node_count is.graph

  pub opened_provided : IsProvided core
  unfolding held_for_all
  opened_provided = record {
    holds_owed = λ q. let none_ : held_for_all core.ledger.queue.releases q ≡ 0 = ap (λ rs. held_for_all rs q) no_release in omega (arith, none_);
    spare_nodes = omega (arith, none_owed);
    spare_edges = omega (arith, none_owed);
    changes = omega (arith, none_owed);
    nodes = omega (arith, none_owed, no_node);
  }

  no_live : (a b : ℕ) → live_in core.engine.graph a b ≡ true → ⊥
  no_live a b h = true≢false (sym h ∙ ap (λ (g : GraphLists). live_in g a b) is.graph)

  no_barred : (a b : ℕ) → barred_in core.engine.graph a b ≡ true → ⊥
  no_barred a b h = true≢false (sym h ∙ ap (λ (g : GraphLists). barred_in g a b) is.graph)

  none_queued : (l p stage : ℕ) → Queued (map plain_release core.ledger.queue.releases) l p stage → ⊥
  none_queued l p stage h = subst (λ rs. Queued (map plain_release rs) l p stage) no_release h

  pub opened_orderly : IsOrderly core
  opened_orderly = record {
    ordered = λ d. record {
      live_before = λ a b h. absurd (no_live a b h);
      edge_kinds = λ a b h. absurd (elim h [ inl live ↦ no_live a b live | inr barred ↦ no_barred a b barred ]);
      zero_dirty = λ l p h. absurd (none_queued l p 0 h);
      one_hung = λ l p h. absurd (none_queued l p 1 h);
      in_range = λ l p stage h. absurd (none_queued l p stage h);
    };
    looked = subst (All (IsLooked core)) (sym no_release) (All-nil (IsLooked core));
    formed = λ q there. absurd (true≢false (sym there ∙ ap is_some (is.cache.content q)));
  }

module _ (sound : Bool) (d : Meaning) (size : ℕ) (pool : PoolView) (core : Core) (can : CanOpen sound d pool) (is : IsOpened (shape_of d.state.fixed) size pool core) where
  abbrev pub image : List Block
  image = d.state.fixed

  pub rest : AtRest (world_of d core)
  rest = record {
    one = λ page c possible. elim possible [ inl new ↦ new | inr old ↦ one_content d.state image can.rest page c old ];
    cached = λ page. ap (λ (o : Option Block). held_or o (newest_on d.state page)) (is.cache.content page);
    dirty = λ page. ap (λ (g : GraphLists). dirty_in g page) is.graph;
    hung = λ page. ap (λ (g : GraphLists). hung_in g page) is.graph;
    live = λ a b. ap (λ (g : GraphLists). live_in g a b) is.graph;
    barred = λ a b. ap (λ (g : GraphLists). barred_in g a b) is.graph;
    queue = ap (λ (q : QueueLists). map plain_release q.releases) is.queue;
  }

  counts : CountsFit (lay_of (shape_of image)) (λ page. newest_on d.state page)
  counts = subst (λ (s : DeviceState). CountsFit (lay_of (shape_of image)) (λ page. newest_on s page)) (sym can.rest) (counts_fit sound image can.good)

  few : CountsBelow (lay_of (shape_of image)) top (λ page. newest_on d.state page)
  few = subst (λ (s : DeviceState). CountsBelow (lay_of (shape_of image)) top (λ page. newest_on s page)) (sym can.rest) (below sound image can.good)

  contents : ContentsFit (lay_of (shape_of image)) sound (λ page. newest_on d.state page) (array_start image).lists
  contents = subst (λ (s : DeviceState). ContentsFit (lay_of (shape_of image)) sound (λ page. newest_on s page) (array_start image).lists) (sym can.rest) (contents_fit sound image can.good)

  pub newest_is : (page : ℕ) → newest_on d.state page ≡ get_or image page []
  newest_is page = ap (λ (s : DeviceState). newest_on s page) can.rest

  count_now : (p : ℕ) → 1 ≤ p → p ≤ (shape_of image).pages → entry_of (newest_on d.state (count_page (shape_of image) p)) (count_place p) ≡ count_of image p
  count_now p first last = ap (λ (c : Block). entry_of c (count_place p)) (newest_is (count_page (shape_of image) p)) ∙ sym (count_is sound image can.good p first last)

  knows : (p : ℕ) → IsData (lay_of (shape_of image)) p → PoolKnows (lay_of (shape_of image)) (world_of d core) (told_of pool p) p
  knows p data_ =
      let first = data_.0 in let last = data_.1 in
      let told = can.counted p first last in
      let now = count_now p first last in
      let cached : cached_count (lay_of (shape_of image)) (world_of d core) p ≡ count_of image p = ap (λ (c : Block). entry_of c (count_place p)) (rest.cached (count_page (shape_of image) p)) ∙ now in
      record {
        zero = λ h. cached ∙ told_zero (told_of pool p) (count_of image p) told h;
        above = λ h. told_above (told_of pool p) (count_of image p) told (sym cached ∙ h);
        possible = λ h c may. ap (λ (x : Block). entry_of x (count_place p)) (rest.one (count_page (shape_of image) p) c may) ∙ now ∙ told_tried (told_of pool p) (count_of image p) told h;
        newest = λ h. now ∙ told_newest (told_of pool p) (count_of image p) told h;
      }

  kept : EngineInvariant (lay_of (shape_of image)) top sound (moment_of d core (array_start image).lists [] (told_of pool))
  kept = record {
    counts = start (lay_of (shape_of image)) top (world_of d core) rest counts few;
    contents = start_contents (lay_of (shape_of image)) top (world_of d core) rest sound (array_start image).lists contents (λ l lt c among. alone (block_of image l) c among);
    births = λ slot of_. start_births (lay_of (shape_of image)) (world_of d core) slot rest;
    pool_knows_counts = knows;
  }

  first_is : page_of image 0 ≡ newest_on d.state 0
  first_is = page_is image 0 (omega (arith, can.good.shape.enough)) ∙ sym (newest_is 0)

  has_shape : HasShapeOf d (shape_of image)
  has_shape = record {
    first = subst IsSuperblock first_is can.good.shape.superblock;
    shape_is = ap told_shape (sym first_is);
    sized = omega (arith, can.good.shape.enough, can.known.counts);
  }

  pub stands_opened : StandsFor sound d core (array_start d.state.fixed).lists
  stands_opened = record {
    known = can.known;
    of_shape = subst (HasShapeOf d) (sym is.shape_is) has_shape;
    calls = [];
    told = told_of pool;
    kept = subst (λ (x : ShapeView). EngineInvariant (lay_of x) top sound (moment_of d core (array_start image).lists [] (told_of pool))) (sym is.shape_is) kept;
    births = nothing_recorded (place_of core.shape) core.ledger.births is.births;
    pool = λ p of_. ap (λ (x : PoolView). told_of x p) is.pool_is;
  }
