-- Which blocked releases a pass has to look at again.
use Rattle.std.proofs.Common.{◌≡◌, ◌≢◌, inl, inr, ◌<◌, ℕ, Bool, false, not, ◌&&◌, ◌||◌, cond, arith, refl, sym, ap, ◌∙◌, subst, List, [], ◌∷◌, ◌++◌, true≢false, eqb, ne_eqb, eq-eqb, Option}
use Rattle.std.proofs.lemmas.Bool.{cases_Bool, or_left}
use Rattle.std.proofs.Math.Bool.{and-false}
use Rattle.order_model.specs.World.{Layout, Release, World, IsData}
use Rattle.order_model.specs.Calls.{Call, Fixed, Tried, is_changed, is_met, is_unborn, since, wrote_last}
use Rattle.order_model.specs.declared.Slot.TheVariants.{Print}
use Rattle.order_model.specs.declared.Slot.{Slot}
use Rattle.engine_model.specs.DeviceSteps.{fixed_release, page_written, written_release}
use Rattle.engine_model.specs.Entries.{Apart, IsTable, cached_count, cached_print}
use Rattle.engine_model.specs.Invariant.{Moment, known_at}
use Rattle.order_model.specs.Paths.{Closes, LivePath}
use Rattle.engine_model.specs.Releases.{IsBlocked}
use Rattle.engine_model.specs.SmallRuns.{ClearPrint, GiveUp, Lower, Order, OrderByBarrier, Place, Raise, Recount, SetName, SetPrint, SmallStep, Touch, in_state, with_barrier, with_count, with_name, with_print, with_refused, with_release_out, with_taken, with_written}
use Rattle.engine_model.proofs.Graphs.{begins_none, way_ends, way_longer}
use Rattle.engine_model.specs.Pass.{Member}
use Rattle.engine_model.specs.SmallSteps.{SetsCount, SetsPrint, given_up, ordered, placed, put, touched}
use Rattle.engine_model.proofs.Passes.{append_one}
use Rattle.engine_model.proofs.Puts.{puts_count, puts_print}
use Rattle.engine_model.proofs.Quiet.{count_table, print_table, put_other}
use Rattle.engine_model.specs.LookingAgain.{ByBarrier, ByRefused, BySame, BySmall, ByTaken, ByWrite, LeavesPage, NoStep, OneMore, QuietRun, QuietStep, SparingPass}
use Rattle.engine_model.specs.SmallPass.{InRange, SmallPass}
use Rattle.engine_model.proofs.AppliedFrames.{other_slot}
use Rattle.engine_model.proofs.Same.{same_is}
use Rattle.engine_model.proofs.StaysBlocked.{applies_blocked, leaves_blocked}
use Rattle.engine_model.proofs.Ways.{member_in, member_mid, member_right, way_avoids}

more_met : (changed now met : Bool) → (changed && not met) ≡ false → (changed && not (now || met)) ≡ false
more_met changed now met h = grind arith

-- an old print stays old over calls of the device
pub tried_old : (slot : Slot) (page v at : ℕ) (calls : List Call) → is_unborn slot page v calls ≡ false → is_unborn slot page v (Tried at ∷ calls) ≡ false
tried_old slot page v at calls h = more_met _ _ _ h

pub fixed_old : (slot : Slot) (page v : ℕ) (calls : List Call) → is_unborn slot page v calls ≡ false → is_unborn slot page v (Fixed ∷ calls) ≡ false
fixed_old slot page v calls h = elim (cases_Bool (wrote_last page calls)) [
  | inl last ↦ subst (λ b. (is_changed slot (cond b [] (Fixed ∷ since page calls)) && not (is_met slot page v (cond b [] (Fixed ∷ since page calls)))) ≡ false) (sym last) refl
  | inr open_page ↦ subst (λ b. (is_changed slot (cond b [] (Fixed ∷ since page calls)) && not (is_met slot page v (cond b [] (Fixed ∷ since page calls)))) ≡ false) (sym open_page) h
]

module _ (lay : Layout) (m : Moment) (r : Release) where
  pub taken_blocked : (page : ℕ) → IsBlocked lay (known_at lay m) m.world r → IsBlocked lay (known_at lay (with_taken lay page m)) (with_taken lay page m).world r
  taken_blocked page (inl z) = inl z
  taken_blocked page (inr f) = inr ((f.0.0, f.0.1, tried_old (Print r.page) (lay.print_page r.page) 1 page m.calls f.0.2), f.1)

  pub refused_blocked : (page : ℕ) → IsBlocked lay (known_at lay m) m.world r → IsBlocked lay (known_at lay (with_refused lay page m)) (with_refused lay page m).world r
  refused_blocked page (inl z) = inl z
  refused_blocked page (inr f) = inr ((f.0.0, f.0.1, tried_old (Print r.page) (lay.print_page r.page) 1 page m.calls f.0.2), f.1)

  pub barrier_blocked : IsBlocked lay (known_at lay m) m.world r → IsBlocked lay (known_at lay (with_barrier m)) (with_barrier m).world (fixed_release r)
  barrier_blocked (inl z) = inl (ap (λ s. cond (eqb s 1) 2 s) z.0, z.1)
  barrier_blocked (inr f) = inr ((f.0.0, f.0.1, fixed_old (Print r.page) (lay.print_page r.page) 1 m.calls f.0.2), f.1)

  module _ (apart : Apart lay) (lt : r.block < lay.blocks) (is : IsData lay r.page) where
    pub written_blocked : (page : ℕ) → ((a : ℕ) → m.world.live a page ≡ false) → lay.count_page r.page ≢ page → IsBlocked lay (known_at lay m) m.world r
        → IsBlocked lay (known_at lay (with_written lay page m)) (with_written lay page m).world (written_release lay page r)
    written_blocked page none ne (inl z) = inl (
      ap (λ b. cond (b && eqb r.stage 0) 1 r.stage) (ne_eqb (lay.map_page r.block) page off) ∙ z.0,
      inr (way_avoids m.world.live page none ne way),
    )
      where
        way : LivePath m.world.live (lay.count_page r.page) (lay.map_page r.block)
        way = elim z.1 [ inl e ↦ absurd (apart.map_count r.block r.page lt is e) | inr q ↦ q ]

        off : lay.map_page r.block ≢ page
        off e = let q = way_ends way in true≢false (sym q.1 ∙ ap (m.world.live q.0) e ∙ none q.0)
    written_blocked page none ne (inr f) = inr (
      (f.0.0, f.0.1, tried_old (Print r.page) (lay.print_page r.page) 1 page m.calls f.0.2),
      elim f.1 [ inl e ↦ inl e | inr way ↦ inr (way_avoids m.world.live page none ne way) ],
    )

    pub count_written_open : IsBlocked lay (known_at lay (with_written lay (lay.count_page r.page) m)) (with_written lay (lay.count_page r.page) m).world r → ⊥
    count_written_open b =
        let page : ℕ = lay.count_page r.page in
        let none : (c : ℕ) → (page_written lay page m.world).live page c ≡ false = λ c. ap (λ x. m.world.live page c && not x) (eq-eqb page page refl) ∙ and-false (m.world.live page c) in
        elim b [
          | inl z ↦ begins_none (page_written lay page m.world).live (lay.map_page r.block) page (apart.map_count r.block r.page lt is) none z.1
          | inr f ↦ begins_none (page_written lay page m.world).live (lay.print_page r.page) page (λ e. apart.count_print r.page r.page is is (sym e)) none f.1
        ]

-- a content with one entry changed, seen from another page
module _ (lay : Layout) (apart : Apart lay) (w : World) (p q : ℕ) (c : List ℕ) (dp : IsData lay p) (dq : IsData lay q) where
  put_count : (n : ℕ) → SetsCount lay (w.cached (lay.count_page p)) c p n → q ≢ p → cached_count lay (put (lay.count_page p) c w) q ≡ cached_count lay w q
  put_count n sets ne = (puts_count lay apart w c p n dp sets).counts q dq (ne, tt)

  put_print : (print : Option (List ℕ)) → SetsPrint lay (w.cached (lay.print_page p)) c p print → q ≢ p → cached_print lay (put (lay.print_page p) c w) q ≡ cached_print lay w q
  put_print print sets ne = (puts_print lay apart w c p print dp sets).prints q dq (ne, tt)

  count_kept : cached_count lay (put (lay.print_page p) c w) q ≡ cached_count lay w q
  count_kept = ap (λ y. lay.count_in y q) (put_other w (lay.print_page p) c (lay.count_page q) (apart.count_print q p dq dp))

  print_kept : cached_print lay (put (lay.count_page p) c w) q ≡ cached_print lay w q
  print_kept = ap (λ y. lay.print_in y q) (put_other w (lay.count_page p) c (lay.print_page q) (λ e. apart.count_print p q dp dq (sym e)))

module _ (lay : Layout) (top : ℕ) (apart : Apart lay) (m n : Moment) (r : Release) (is : IsData lay r.page) where
  grown_blocked : (v : Moment) → ((a : ℕ) → Closes m.world.live a (lay.count_page r.page) → Closes v.world.live a (lay.count_page r.page))
      → cached_count lay v.world r.page ≡ cached_count lay m.world r.page → cached_print lay v.world r.page ≡ cached_print lay m.world r.page
      → (known_at lay v).unborn_print r.page ≡ (known_at lay m).unborn_print r.page → IsBlocked lay (known_at lay m) m.world r → IsBlocked lay (known_at lay v) v.world r
  grown_blocked v closes count print unborn (inl z) = inl (z.0, closes _ z.1)
  grown_blocked v closes count print unborn (inr f) = inr ((count ∙ f.0.0, (f.0.1.0, print ∙ f.0.1.1), unborn ∙ f.0.2), closes _ f.1)

  arrive : (v : Moment) → n ≡ v → IsBlocked lay (known_at lay v) v.world r → IsBlocked lay (known_at lay n) n.world r
  arrive v e b = subst (λ z. IsBlocked lay (known_at lay z) z.world r) (sym e) b

  table_kept : (a q : ℕ) → IsTable lay a → IsData lay q → (c : List ℕ) → (placed (lay.data_page q) c m.world).cached a ≡ m.world.cached a
  table_kept a q t d c = put_other (touched (lay.data_page q) m.world) (lay.data_page q) c a (apart.table_data a q t d)

  pub step_blocked : (step : SmallStep lay top m n) → LeavesPage r.page step → IsBlocked lay (known_at lay m) m.world r → IsBlocked lay (known_at lay n) n.world r
  step_blocked (Touch page t e) leaves b = arrive _ e b
  step_blocked (Place q c d free e) leaves b = arrive _ e (grown_blocked (in_state (placed (lay.data_page q) c m.world) m) (λ a h. h)
      (ap (λ y. lay.count_in y r.page) (table_kept (lay.count_page r.page) q (count_table lay r.page is) d c))
      (ap (λ y. lay.print_in y r.page) (table_kept (lay.print_page r.page) q (print_table lay r.page is) d c)) refl b)
  step_blocked (Order before after kind x y shut e) leaves b = arrive _ e (grown_blocked (in_state (ordered before after m.world) m) (λ a h. elim h [
    | inl same ↦ inl same
    | inr way ↦ inr (way_longer (λ c d l. or_left _ _ l) way)
  ]) refl refl refl b)
  step_blocked (OrderByBarrier before after kind x y e) leaves b = arrive _ e b
  step_blocked (Raise q c pool can e told) leaves b = arrive _ e (grown_blocked (with_count lay q c pool m) (λ a h. h)
      (put_count lay apart m.world q r.page c can.is_data is _ can.sets (λ x. leaves (sym x))) (print_kept lay apart m.world q r.page c can.is_data is) refl b)
  step_blocked (SetPrint q c print can e) leaves b = arrive _ e (grown_blocked (with_print lay q c 0 1 m) (λ a h. h)
      (count_kept lay apart m.world q r.page c can.is_data is) (put_print lay apart m.world q r.page c can.is_data is _ can.sets (λ x. leaves (sym x)))
      (other_slot q r.page (lay.print_page r.page) (lay.print_page q) 0 1 m.calls leaves) b)
  step_blocked (SetName l o q c array can gain e) leaves b = arrive _ e (grown_blocked (with_name lay l o q c array m) (λ a h. h)
      (ap (λ y. lay.count_in y r.page) (put_other m.world (lay.map_page l) c (lay.count_page r.page) (λ x. apart.map_count l r.page can.in_range is (sym x))))
      (ap (λ y. lay.print_in y r.page) (put_other m.world (lay.map_page l) c (lay.print_page r.page) (λ x. apart.map_print l r.page can.in_range is (sym x)))) refl b)
  step_blocked (ClearPrint q c print can e) leaves b = arrive _ e (grown_blocked (with_print lay q c 1 0 m) (λ a h. h)
      (count_kept lay apart m.world q r.page c can.is_data is) (put_print lay apart m.world q r.page c can.is_data is _ can.sets (λ x. leaves (sym x)))
      (other_slot q r.page (lay.print_page r.page) (lay.print_page q) 1 0 m.calls leaves) b)
  step_blocked (Lower other before after c count pool can e told) leaves b = arrive _ e (grown_blocked (with_release_out lay other.page c (before ++ after) pool m) (λ a h. h)
      (put_count lay apart m.world other.page r.page c leaves.0 is _ can.sets (λ x. leaves.1 (sym x))) (print_kept lay apart m.world other.page r.page c leaves.0 is) refl b)
  step_blocked (Recount q c count pool can e told) leaves b = arrive _ e (grown_blocked (with_count lay q c pool m) (λ a h. h)
      (put_count lay apart m.world q r.page c can.is_data is _ can.sets (λ x. leaves (sym x))) (print_kept lay apart m.world q r.page c can.is_data is) refl b)
  step_blocked (GiveUp q d zero e) leaves b = arrive _ e (grown_blocked (in_state (given_up (lay.data_page q) m.world) m) (λ a h. elim h [
    | inl same ↦ inl same
    | inr way ↦ inr (way_avoids m.world.live (lay.data_page q) leaves (apart.table_data (lay.count_page r.page) q (count_table lay r.page is) d) way)
  ])
      (ap (λ y. lay.count_in y r.page) (gone (lay.count_page r.page) (count_table lay r.page is)))
      (ap (λ y. lay.print_in y r.page) (gone (lay.print_page r.page) (print_table lay r.page is))) refl b)
    where
      gone : (a : ℕ) → IsTable lay a → (given_up (lay.data_page q) m.world).cached a ≡ m.world.cached a
      gone a t = ap (λ b. cond b (m.world.newest (lay.data_page q)) (m.world.cached a)) (ne_eqb a (lay.data_page q) (apart.table_data a q t d))

-- what was blocked when a pass began is so at its turn
module _ (lay : Layout) (apart : Apart lay) (first : Moment) where
  abbrev Still : Moment → List Release → Type 0
  Still m rs = (x : Release) → Member x rs → IsBlocked lay (known_at lay first) first.world x → IsBlocked lay (known_at lay m) m.world x

  pub sparing_small : (m n : Moment) (kept todo : List Release) → InRange lay (kept ++ todo) → Still m todo → SparingPass lay first m kept todo n → SmallPass lay m kept todo n
  sparing_small m n kept [] range still p = p
  sparing_small m n kept (r ∷ todo) range still (inl p) = inl (
    elim p.0 [ inl was ↦ still r (inl refl) was | inr now ↦ now ],
    sparing_small m n (kept ++ r ∷ []) todo (subst (λ rs. InRange lay rs) (sym (append_one kept todo r)) range) (λ x is b. still x (inr is) b) p.1,
  )
  sparing_small m n kept (r ∷ todo) range still (inr p) =
      let here = (range r (member_mid r kept todo)).1 in
      inr (
        p.0,
        p.1,
        sparing_small p.0 n kept todo (λ x is. range x (member_in x r kept todo is)) (λ x is b.
            let of = (range x (member_right x kept (r ∷ todo) (inr is))).1 in
            let now = still x (inr is) b in
            elim p.1 [ inl a ↦ applies_blocked lay apart m p.0 r x kept todo here of a now | inr l ↦ leaves_blocked lay m p.0 r x kept todo l now ]) p.2,
      )

-- from pass to pass
module _ (lay : Layout) (top : ℕ) (apart : Apart lay) where
  quiet_step : (m n : Moment) (r s : Release) → r.block < lay.blocks → IsData lay r.page → QuietStep lay top r s m n → IsBlocked lay (known_at lay m) m.world r
      → (s.block < lay.blocks) × IsData lay s.page × IsBlocked lay (known_at lay n) n.world s
  quiet_step m n r s lt is (BySmall step leaves e) b = subst (λ x. (x.block < lay.blocks) × IsData lay x.page × IsBlocked lay (known_at lay n) n.world x) (sym e)
      (lt, is, step_blocked lay top apart m n r is step leaves b)
  quiet_step m n r s lt is (ByWrite page none ne e moved) b =
      subst (λ x. (x.block < lay.blocks) × IsData lay x.page × IsBlocked lay (known_at lay n) n.world x) (sym moved)
      (lt, is, subst (λ z. IsBlocked lay (known_at lay z) z.world (written_release lay page r)) (sym e) (written_blocked lay m r apart lt is page none ne b))
  quiet_step m n r s lt is (ByTaken page e same) b = subst (λ x. (x.block < lay.blocks) × IsData lay x.page × IsBlocked lay (known_at lay n) n.world x) (sym same)
      (lt, is, subst (λ z. IsBlocked lay (known_at lay z) z.world r) (sym e) (taken_blocked lay m r page b))
  quiet_step m n r s lt is (ByRefused page e same) b = subst (λ x. (x.block < lay.blocks) × IsData lay x.page × IsBlocked lay (known_at lay n) n.world x) (sym same)
      (lt, is, subst (λ z. IsBlocked lay (known_at lay z) z.world r) (sym e) (refused_blocked lay m r page b))
  quiet_step m n r s lt is (ByBarrier e moved) b = subst (λ x. (x.block < lay.blocks) × IsData lay x.page × IsBlocked lay (known_at lay n) n.world x) (sym moved)
      (lt, is, subst (λ z. IsBlocked lay (known_at lay z) z.world (fixed_release r)) (sym e) (barrier_blocked lay m r b))
  quiet_step m n r s lt is (BySame same calls e) b = subst (λ x. (x.block < lay.blocks) × IsData lay x.page × IsBlocked lay (known_at lay n) n.world x) (sym e) (
    lt,
    is,
    subst (λ (cs : List Call). IsBlocked lay (record (known_at lay m) { unborn_print = λ p. is_unborn (Print p) (lay.print_page p) 1 cs }) n.world r) (sym calls)
        (subst (λ (w : World). IsBlocked lay (known_at lay m) w r) (sym (same_is m.world n.world same)) b),
  )

  pub quiet_run : (s : Release) (n m : Moment) (r : Release) → r.block < lay.blocks → IsData lay r.page → QuietRun lay top s n r m → IsBlocked lay (known_at lay m) m.world r
      → IsBlocked lay (known_at lay n) n.world s
  quiet_run s n m r lt is NoStep b = b
  quiet_run s n m r lt is (OneMore q k step more) b = let next = quiet_step m k r q lt is step b in quiet_run s n k q next.0 next.1 more next.2
