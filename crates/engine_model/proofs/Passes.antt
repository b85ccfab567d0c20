-- After a pass exactly the blocked releases are queued; and after a flush nothing is.
use Rattle.std.proofs.Common.{◌≡◌, ◌≢◌, ◌⊎◌, inl, inr, ◌+◌, ◌<◌, ◌++◌, ℕ, Bool, true, false, ◌||◌, cond, arith, refl, sym, ap, ◌∙◌, subst, List, [], ◌∷◌, map, true≢false, eqb, eq-eqb}
use Rattle.std.proofs.lemmas.Bool.{cases_Bool, and_parts, and_from, or_parts, not-true, not_from_false, false_from_ne_true}
use Rattle.order_model.specs.World.{Agree, Layout, Release, Queued, queued, IsData}
use Rattle.engine_model.specs.Contents.{ContentsInvariant}
use Rattle.engine_model.specs.Entries.{IsCount, IsPrint, cached_count, cached_print, Apart}
use Rattle.order_model.specs.Paths.{LivePath, leg, via, Closes}
use Rattle.order_model.specs.Calls.{Call, is_changed, is_met, is_unborn, same_slot, since}
use Rattle.order_model.specs.declared.Slot.TheVariants.{Print}
use Rattle.order_model.specs.declared.Slot.{Slot}
use Rattle.engine_model.specs.Births.{Edit, Leads, cached_value, has_print, place_of, told}
use Rattle.engine_model.specs.Drops.{Dropped}
use Rattle.engine_model.specs.Releases.{IsBlocked, IsLastPrint}
use Rattle.engine_model.specs.Schedule.{WriteAgain, DiscardAgain, BarrierDone, Correct, Discard, DropData, FlushDone, Fold, FoldZero, Unchanged, ReleaseApplied, Step, Write, WriteDone, WriteRefused, WriteTaken, DeviceRun, DeviceStep, NoNode, OfDevice, last_of}
use Rattle.engine_model.specs.Invariant.{EngineInvariant, Moment, known_at}
use Rattle.engine_model.specs.Pass.{AllBlocked, Drops, Lowers, Member, Pass}
use Rattle.engine_model.proofs.Queues.{queued_out}
use Rattle.engine_model.proofs.Graphs.{way_begins, way_longer}
use Rattle.engine_model.proofs.NewEdges.{none_to_data}
use Rattle.engine_model.proofs.Schedule.{same_kept, step_keeps}
use Rattle.engine_model.proofs.Dropped as dropped
use Rattle.engine_model.proofs.Same.{same_is}
use mathlib.Core.Path.{fun_ext}

-- a value that a slot has is not born by changes that lead on from it
module _ (lay : Layout) (slot : Slot) where
  unchanged : (calls : List Call) (edits : List Edit) (x y : ℕ) → Leads lay slot edits x y → is_changed slot (since (place_of lay slot) (told edits calls)) ≡ false
      → (x ≡ y) × (is_changed slot (since (place_of lay slot) calls) ≡ false)
  unchanged calls [] x y leads h = (leads, h)
  unchanged calls (e ∷ es) x y leads h = let q = or_parts _ _ h in unchanged calls es x y (leads.1 q.0) q.1

  pub unborn_before : (calls : List Call) (edits : List Edit) (x y : ℕ) → Leads lay slot edits x y → is_unborn slot (place_of lay slot) x (told edits calls) ≡ true
      → is_unborn slot (place_of lay slot) x calls ≡ true
  unborn_before calls [] x y leads u = u
  unborn_before calls (e ∷ es) x y leads u =
      let parts = and_parts _ _ u in
      let met = or_parts _ _ (not-true _ parts.1) in
      elim (cases_Bool (same_slot e.slot slot)) [
        | inr off ↦ unborn_before calls es x y (leads.1 off) (both es (later off parts.0) met.1)
        | inl is ↦ let here = leads.0 is in elim (cases_Bool (is_changed slot (since (place_of lay slot) (told es calls)))) [
          | inl changed ↦ unborn_before calls es x e.from here.2 (both es changed met.1)
          | inr first ↦ absurd (true≢false (sym (and_from _ _ is (and_from _ _ (not_from_false _ first) (eq-eqb e.from x (sym (unchanged calls es x e.from here.2 first).0)))) ∙ met.0))
        ]
      ]
    where
      both : (es : List Edit) → is_changed slot (since (place_of lay slot) (told es calls)) ≡ true → is_met slot (place_of lay slot) x (since (place_of lay slot) (told es calls)) ≡ false
          → is_unborn slot (place_of lay slot) x (told es calls) ≡ true
      both es a b = and_from _ _ a (not_from_false _ b)

      later : same_slot e.slot slot ≡ false → is_changed slot (since (place_of lay slot) (told (e ∷ es) calls)) ≡ true → is_changed slot (since (place_of lay slot) (told es calls)) ≡ true
      later off h = sym (ap (λ b. b || is_changed slot (since (place_of lay slot) (told es calls))) off) ∙ h

member_counts : (r : Release) (rs : List Release) → Member r rs → 0 < queued rs r.page
member_counts r [] h = absurd h
member_counts r (x ∷ xs) (inl e) = let one : cond {A = ℕ} (eqb x.page r.page) 1 0 ≡ 1 = ap (λ b. cond b 1 0) (eq-eqb x.page r.page (ap (λ z. z.page) (sym e))) in omega arith
member_counts r (x ∷ xs) (inr h) = let more = member_counts r xs h in omega arith

pub member_queued : (r : Release) (rs : List Release) → Member r rs → Queued rs r.block r.page r.stage
member_queued r [] h = absurd h
member_queued r (x ∷ xs) (inl e) = inl (ap (λ z. z.block) (sym e), ap (λ z. z.page) (sym e), ap (λ z. z.stage) (sym e))
member_queued r (x ∷ xs) (inr h) = inr (member_queued r xs h)

pub member_left : (r : Release) (xs ys : List Release) → Member r xs → Member r (xs ++ ys)
member_left r [] ys h = absurd h
member_left r (x ∷ xs) ys (inl e) = inl e
member_left r (x ∷ xs) ys (inr h) = inr (member_left r xs ys h)

pub member_push : (r x : Release) (xs : List Release) → Member r (xs ++ x ∷ []) → Member r xs ⊎ (r ≡ x)
member_push r x [] (inl e) = inr e
member_push r x [] (inr h) = absurd h
member_push r x (y ∷ ys) (inl e) = inl (inl e)
member_push r x (y ∷ ys) (inr h) = elim (member_push r x ys h) [ inl m ↦ inl (inr m) | inr e ↦ inr e ]

pub append_one : (xs ys : List Release) (r : Release) → (xs ++ r ∷ []) ++ ys ≡ xs ++ r ∷ ys
append_one [] ys r = refl
append_one (x ∷ xs) ys r = ap (λ zs. x ∷ zs) (append_one xs ys r)

pub append_none : (xs : List Release) → xs ++ [] ≡ xs
append_none [] = refl
append_none (x ∷ xs) = ap (λ zs. x ∷ zs) (append_none xs)

-- the device's steps leave the cache, and an empty queue
module _ (lay : Layout) (top : ℕ) (m n : Moment) where
  device_cached : (s : Step lay top m n) → OfDevice s → (page : ℕ) → n.world.cached page ≡ m.world.cached page
  device_cached (BarrierDone b e c p) is page = b.cached page
  device_cached (WriteDone at t s e c p) is page = t.cached page
  device_cached (WriteTaken at t s e c p) is page = t.cached page
  device_cached (WriteRefused at w e c p) is page = w.cached page
  device_cached (Unchanged s e c p) is page = s.cached page
  device_cached (ReleaseApplied r before after a d e b p) is page = absurd is
  device_cached (Discard l o y d g b e) is page = absurd is
  device_cached (Write l o p content y c g b e) is page = absurd is
  device_cached (WriteAgain l p i y w g c e) is page = absurd is
  device_cached (Fold l o p i y c e b q) is page = absurd is
  device_cached (DiscardAgain l i w g c e) is page = absurd is
  device_cached (FoldZero l o i y x d e b q) is page = absurd is
  device_cached (DropData p y e c q) is page = absurd is
  device_cached (Correct p y d e b q) is page = absurd is
  device_cached (FlushDone clean w alone c p) is page = absurd is

  device_queue : (s : Step lay top m n) → OfDevice s → m.world.queue ≡ [] → n.world.queue ≡ []
  device_queue (BarrierDone b e c p) is z = b.queue ∙ ap (map _) z
  device_queue (WriteDone at t s e c p) is z = s.queue ∙ ap (map _) z
  device_queue (WriteTaken at t s e c p) is z = s.queue ∙ z
  device_queue (WriteRefused at w e c p) is z = w.queue ∙ z
  device_queue (Unchanged s e c p) is z = s.queue ∙ z
  device_queue (ReleaseApplied r before after a d e b p) is z = absurd is
  device_queue (Discard l o y d g b e) is z = absurd is
  device_queue (Write l o p content y c g b e) is z = absurd is
  device_queue (WriteAgain l p i y w g c e) is z = absurd is
  device_queue (Fold l o p i y c e b q) is z = absurd is
  device_queue (DiscardAgain l i w g c e) is z = absurd is
  device_queue (FoldZero l o i y x d e b q) is z = absurd is
  device_queue (DropData p y e c q) is z = absurd is
  device_queue (Correct p y d e b q) is z = absurd is
  device_queue (FlushDone clean w alone c p) is z = absurd is

  device_array : (s : Step lay top m n) → OfDevice s → Agree n.array m.array
  device_array (BarrierDone b e c p) is = e
  device_array (WriteDone at t s e c p) is = e
  device_array (WriteTaken at t s e c p) is = e
  device_array (WriteRefused at w e c p) is = e
  device_array (Unchanged s e c p) is = e
  device_array (ReleaseApplied r before after a d e b p) is = absurd is
  device_array (Discard l o y d g b e) is = absurd is
  device_array (Write l o p content y c g b e) is = absurd is
  device_array (WriteAgain l p i y w g c e) is = absurd is
  device_array (Fold l o p i y c e b q) is = absurd is
  device_array (DiscardAgain l i w g c e) is = absurd is
  device_array (FoldZero l o i y x d e b q) is = absurd is
  device_array (DropData p y e c q) is = absurd is
  device_array (Correct p y d e b q) is = absurd is
  device_array (FlushDone clean w alone c p) is = absurd is

  pub array_left : DeviceStep lay top m n → Agree n.array m.array
  array_left s = device_array s.step s.of_device

  pub cache_left : DeviceStep lay top m n → (page : ℕ) → n.world.cached page ≡ m.world.cached page
  cache_left s = device_cached s.step s.of_device

  queue_left : DeviceStep lay top m n → m.world.queue ≡ [] → n.world.queue ≡ []
  queue_left s = device_queue s.step s.of_device

queue_empty : (lay : Layout) (top : ℕ) (m : Moment) (ns : List Moment) → m.world.queue ≡ [] → DeviceRun lay top m ns → (last_of m ns).world.queue ≡ []
queue_empty lay top m [] z r = z
queue_empty lay top m (n ∷ ns) z r = queue_empty lay top n ns (queue_left lay top m n r.0 z) r.1

pub drops_queue : (lay : Layout) (m n : Moment) (p : ℕ) → Drops lay m n p → n.world.queue ≡ m.world.queue
drops_queue lay m n p x = elim x.world [ inl e ↦ e.queue | inr d ↦ d.queue ]

module _ (lay : Layout) (top : ℕ) (sound : Bool) (apart : Apart lay) where
  lowers_keeps : (m n : Moment) (r : Release) (before after : List Release) → EngineInvariant lay top sound m → Lowers lay m n r before after → EngineInvariant lay top sound n
  lowers_keeps m n r before after k x = step_keeps lay top sound apart m n k (ReleaseApplied r before after x.applied x.data_kept x.array x.births x.pool)

  drops_keeps : (m n : Moment) (p : ℕ) → EngineInvariant lay top sound m → Drops lay m n p → EngineInvariant lay top sound n
  drops_keeps m n p k x = elim x.world [
    | inl e ↦ same_kept lay top sound apart m n k (subst (λ a. ContentsInvariant lay sound a n.world) (sym (fun_ext x.array)) (subst (λ w. ContentsInvariant lay sound m.array w) (sym (same_is m.world n.world e)) k.contents)) e x.calls x.pool
    | inr d ↦ step_keeps lay top sound apart m n k (DropData p d x.array x.calls x.pool)
  ]

  range_of : (m : Moment) (r : Release) → EngineInvariant lay top sound m → Member r m.world.queue → (r.block < lay.blocks) × IsData lay r.page
  range_of m r k is = k.counts.lost_name_owes_release.in_range r.block r.page r.stage (member_queued r m.world.queue is)

  -- another release that is blocked stays so
  module _ (m n : Moment) (r other : Release) (before after : List Release) (k : EngineInvariant lay top sound m) (x : Lowers lay m n r before after) (is : Member other before) where
    closes_on : (a c : ℕ) → Closes m.world.live a c → Closes n.world.live a c
    closes_on a c (inl e) = inl e
    closes_on a c (inr p) = inr (way_longer x.applied.rest.live_kept p)

    other_range : IsData lay other.page
    other_range = (range_of m other k (rw x.applied.was_queued (member_left other before (r ∷ after) is))).1

    -- two releases of one page stand on a count of at least 2
    other_page : cached_count lay m.world other.page ≡ 1 → other.page ≢ r.page
    other_page one e =
        let enough = (k.counts.count_balance other.page other_range).enough in
        let more = member_counts other (before ++ after) (member_left other before after is) in
        let both : queued m.world.queue other.page ≡ cond (eqb r.page other.page) 1 0 + queued (before ++ after) other.page =
        ap (λ rs. queued rs other.page) x.applied.was_queued ∙ queued_out before after r other.page in
        let here : cond {A = ℕ} (eqb r.page other.page) 1 0 ≡ 1 = ap (λ b. cond b 1 0) (eq-eqb r.page other.page (sym e)) in
        omega arith

    last_on : IsLastPrint lay (known_at lay m) m.world other.page → IsLastPrint lay (known_at lay n) n.world other.page
    last_on l =
        let ne = other_page l.0 in (
          x.applied.count_other other.page other_range ne ∙ l.0,
          (l.1.0, x.applied.print_other other.page other_range ne ∙ l.1.1),
          false_from_ne_true _ (λ u. true≢false (sym (unborn_before lay (Print other.page) m.calls x.births.edits 1 (cached_value lay n.world (Print other.page))
              (subst (λ v. Leads lay (Print other.page) x.births.edits v (cached_value lay n.world (Print other.page))) (ap has_print l.1.1) (x.births.leads (Print other.page) other_range))
              (subst (λ cs. is_unborn (Print other.page) (lay.print_page other.page) 1 cs ≡ true) x.births.calls u)) ∙ l.2)),
        )

    lowers_blocked : IsBlocked lay (known_at lay m) m.world other → IsBlocked lay (known_at lay n) n.world other
    lowers_blocked (inl z) = inl (z.0, closes_on _ _ z.1)
    lowers_blocked (inr f) = inr (last_on f.0, closes_on _ _ f.1)

  module _ (m n : Moment) (p : ℕ) (k : EngineInvariant lay top sound m) (d : Dropped lay m.world n.world p) (calls : n.calls ≡ m.calls) where
    way_survives : {a b : ℕ} → a ≢ lay.data_page p → LivePath m.world.live a b → LivePath n.world.live a b
    way_survives {a = a} {b = b} ne (leg e) = leg (d.live a b ne ∙ e)
    way_survives {a = a} ne (via {b = b} e q) = via (d.live a b ne ∙ e)
        (way_survives (λ same. none_to_data lay m.world p apart k.counts.edge_kinds d.is_data a (inl (subst (λ z. m.world.live a z ≡ true) same e))) q)

    closes_survives : (a c : ℕ) → c ≢ lay.data_page p → Closes m.world.live a c → Closes n.world.live a c
    closes_survives a c ne (inl e) = inl e
    closes_survives a c ne (inr q) = inr (way_survives ne q)

    dropped_blocked : (r : Release) → IsData lay r.page → IsBlocked lay (known_at lay m) m.world r → IsBlocked lay (known_at lay n) n.world r
    dropped_blocked r is b =
        let ne = dropped.count_apart lay top m.world n.world p apart k.counts d r.page is in
        elim b [
          | inl z ↦ inl (z.0, closes_survives _ _ ne z.1)
          | inr f ↦ inr (
            (
              dropped.count lay top m.world n.world p apart k.counts d r.page is ∙ f.0.0,
              (f.0.1.0, dropped.print_is lay top m.world n.world p apart k.counts d r.page is ∙ f.0.1.1),
              ap (λ cs. is_unborn (Print r.page) (lay.print_page r.page) 1 cs) calls ∙ f.0.2,
            ),
            closes_survives _ _ ne f.1,
          )
        ]

  drops_blocked : (m n : Moment) (p : ℕ) (r : Release) → EngineInvariant lay top sound m → Drops lay m n p → IsData lay r.page
      → IsBlocked lay (known_at lay m) m.world r → IsBlocked lay (known_at lay n) n.world r
  drops_blocked m n p r k x is b = elim x.world [
    | inr d ↦ dropped_blocked m n p k d x.calls r is b
    | inl same ↦ let e = same_is m.world n.world same in elim b [
      | inl z ↦ inl (z.0, subst (λ w. Closes w.live (lay.map_page r.block) (lay.count_page r.page)) (sym e) z.1)
      | inr f ↦ inr (
        (
          ap (λ w. cached_count lay w r.page) e ∙ f.0.0,
          (f.0.1.0, ap (λ w. cached_print lay w r.page) e ∙ f.0.1.1),
          ap (λ cs. is_unborn (Print r.page) (lay.print_page r.page) 1 cs) x.calls ∙ f.0.2,
        ),
        subst (λ w. Closes w.live (lay.print_page r.page) (lay.count_page r.page)) (sym e) f.1,
      )
    ]
  ]

  pub pass_leaves : (m n : Moment) (kept todo : List Release) → EngineInvariant lay top sound m → m.world.queue ≡ kept ++ todo → AllBlocked lay m kept → Pass lay m kept todo n
      → EngineInvariant lay top sound n × AllBlocked lay n n.world.queue
  pass_leaves m n kept [] k queue all p = subst (λ z. EngineInvariant lay top sound z × AllBlocked lay z z.world.queue) (sym p)
      (k, subst (λ rs. AllBlocked lay m rs) (sym (queue ∙ append_none kept)) all)
  pass_leaves m n kept (r ∷ todo) k queue all (inl p) = pass_leaves m n (kept ++ r ∷ []) todo k (queue ∙ sym (append_one kept todo r))
      (λ x is. elim (member_push x r kept is) [ inl was ↦ all x was | inr e ↦ subst (λ z. IsBlocked lay (known_at lay m) m.world z) (sym e) p.0 ]) p.1
  pass_leaves m n kept (r ∷ todo) k queue all (inr p) =
      let j = p.0 in
      let low = lowers_keeps m j r kept todo k p.2 in
      let next = drops_keeps j p.1 r.page low p.3 in
      pass_leaves p.1 n kept todo next (drops_queue lay j p.1 r.page p.3 ∙ p.2.applied.removed)
      (λ x is. drops_blocked j p.1 r.page x low p.3 (other_range m j r x kept todo k p.2 is) (lowers_blocked m j r x kept todo k p.2 is (all x is))) p.4

  -- where no map page waits and each edge leads from a print page to a count page, nothing is blocked
  module _ (m : Moment) (r : Release) (d : IsData lay r.page) (later : r.stage ≢ 0)
      (edges : (a b : ℕ) → m.world.live a b ≡ true → IsPrint lay a × IsCount lay b) where
    none_blocked : IsBlocked lay (known_at lay m) m.world r → ⊥
    none_blocked (inl z) = later z.0
    none_blocked (inr f) = elim f.1 [
      | inl e ↦ apart.count_print r.page r.page d d (sym e)
      | inr way ↦ let q = way_begins way in let from = (edges _ _ q.1).0 in apart.count_print r.page from.0 d from.1 from.2
    ]

  pub pass_empties : (m n : Moment) (todo : List Release) → EngineInvariant lay top sound m → m.world.queue ≡ todo
      → ((r : Release) → Member r todo → r.stage ≢ 0) → ((a b : ℕ) → m.world.live a b ≡ true → IsPrint lay a × IsCount lay b) → Pass lay m [] todo n → n.world.queue ≡ []
  pass_empties m n [] k queue late edges p = ap (λ z. z.world.queue) p ∙ queue
  pass_empties m n (r ∷ todo) k queue late edges (inl p) =
      absurd (none_blocked m r (range_of m r k (subst (λ rs. Member r rs) (sym queue) (inl refl))).1 (late r (inl refl)) edges p.0)
  pass_empties m n (r ∷ todo) k queue late edges (inr p) =
      let j = p.0 in
      let range = range_of m r k (subst (λ rs. Member r rs) (sym queue) (inl refl)) in
      let low = lowers_keeps m j r [] todo k p.2 in
      let now : (a b : ℕ) → j.world.live a b ≡ true → IsPrint lay a × IsCount lay b = λ a b h. elim (p.2.applied.edges.live a b h) [
        | inl was ↦ edges a b was
        | inr new ↦ elim new.0 [
          | inl z ↦ absurd (late r (inl refl) z.0)
          | inr f ↦ ((r.page, range.1, f.1), (r.page, range.1, new.1))
        ]
      ] in
      pass_empties p.1 n todo (drops_keeps j p.1 r.page low p.3) (drops_queue lay j p.1 r.page p.3 ∙ p.2.applied.removed) (λ x is. late x (inr is))
      (λ a b h. now a b (drops_live j p.1 r.page low p.3 a b h)) p.4
    where
      drops_live : (j n : Moment) (p : ℕ) → EngineInvariant lay top sound j → Drops lay j n p → (a b : ℕ) → n.world.live a b ≡ true → j.world.live a b ≡ true
      drops_live j n p low x a b h = elim x.world [
        | inl e ↦ sym (e.live a b) ∙ h
        | inr d ↦ (dropped.live_parts lay top j.world n.world p apart low.counts d a b h).2
      ]

  -- after every page was written and fixed, a pass applies every release
  pub drained_pass : (m n : Moment) → EngineInvariant lay top sound m → ((a : ℕ) → m.world.dirty a ≡ false) → Pass lay m [] m.world.queue n → n.world.queue ≡ []
  drained_pass m n k clean p = pass_empties m n m.world.queue k refl
      (λ r is z. true≢false (sym (k.counts.lost_name_owes_release.dirty r.block r.page (range_of m r k is).0
      (subst (λ s. Queued m.world.queue r.block r.page s) z (member_queued r m.world.queue is))) ∙ clean _))
      (λ a b h. absurd (true≢false (sym (k.counts.marks_and_edges.live_before a b h) ∙ clean a))) p

  -- a drain: every page is written and fixed, a pass is made, and every page is written and fixed again
  pub drained_twice : (m n : Moment) (ns : List Moment) → EngineInvariant lay top sound m → NoNode m → Pass lay m [] m.world.queue n → DeviceRun lay top n ns → (last_of n ns).world.queue ≡ []
  drained_twice m n ns k none p r = queue_empty lay top n ns (drained_pass m n k (λ a. (none a).0) p) r
