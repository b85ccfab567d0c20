-- Which releases have to wait, over what leaves them so.
use Rattle.std.proofs.Common.{◌≡◌, inl, inr, ℕ, Bool, true, false, not, ◌&&◌, ◌||◌, ap, ◌∙◌, List, [], ◌∷◌, eqb, arith, is_some}
use Rattle.std.specs.List.{All}
use Rattle.std.proofs.lemmas.Bool.{and_from, and_parts, not-true, not_from_false}
use Rattle.std.proofs.lemmas.List.Elements.{All-cons, All-head, All-nil, All-tail}
use Rattle.page_device.specs.Block.{Block}
use Rattle.page_layout.specs.Shape.{print_place}
use Rattle.page_layout.specs.Tables.{print_entry_of}
use Rattle.order_model.specs.declared.Slot.{Slot}
use Rattle.order_model.specs.Paths.{Closes}
use Rattle.engine_model.proofs.Graphs.{way_longer}
use Rattle.birth_marks.specs.Births.{BirthsView, FixedAll, Same, TriedAt, WrittenAt, is_unborn_in}
use Rattle.dep_graph.specs.Lists.{live_in}
use Rattle.ref_counts.specs.Counts.{count_in}
use Rattle.release_queue.specs.declared.Release.{Release}
use Rattle.store_core.specs.declared.Core.{Core}
use Rattle.store_core.specs.Applied.{count_of_release, has_print_of, is_last_print, is_print_unborn}
use Rattle.store_core.specs.Orderly.{HasToWait}
use Rattle.store_core.specs.Views.{page_in}

-- two facts of each release give a third
pub all_both : (P Q R : Release → Type 0) → ((r : Release) → P r → Q r → R r) → (rs : List Release) → All P rs → All Q rs → All R rs
all_both P Q R f [] p q = All-nil R
all_both P Q R f (r ∷ rs) p q = All-cons R r rs (f r (All-head P r rs p) (All-head Q r rs q)) (all_both P Q R f rs (All-tail P r rs p) (All-tail Q r rs q))

-- more edges close more
pub closes_more : (live more : ℕ → ℕ → Bool) → ((a b : ℕ) → live a b ≡ true → more a b ≡ true) → (a b : ℕ) → Closes live a b → Closes more a b
closes_more live more sub a b (inl e) = inl e
closes_more live more sub a b (inr way) = inr (way_longer sub way)

module _ (old new : Core) (r : Release) where
  -- what closes a cycle does so still, and a last print is one still
  pub waits_on : ((a : ℕ) → Closes (live_in old.engine.graph) a r.count_at → Closes (live_in new.engine.graph) a r.count_at) → (is_last_print old r ≡ true → is_last_print new r ≡ true) → HasToWait old r → HasToWait new r
  waits_on closes last (inl z) = inl (z.0, closes _ z.1)
  waits_on closes last (inr f) = inr (last f.0, closes _ f.1)

  -- the same count, and the same print or none; and a print that a crash may leave is one still
  pub last_still : count_of_release new r ≡ count_of_release old r → has_print_of new r ≡ has_print_of old r → (is_print_unborn old r ≡ false → is_print_unborn new r ≡ false) → is_last_print old r ≡ true → is_last_print new r ≡ true
  last_still count print born h =
      let one = and_parts _ _ h in
      let had = and_parts _ _ one.1 in
      and_from _ _ (ap (λ (n : ℕ). eqb n 1) count ∙ one.0) (and_from _ _ (print ∙ had.0) (not_from_false _ (born (not-true _ had.1))))

  pub count_same : page_in new r.count_at ≡ page_in old r.count_at → count_of_release new r ≡ count_of_release old r
  count_same e = ap (λ (c : Block). count_in c r.page) e

  pub print_same : page_in new r.print_at ≡ page_in old r.print_at → has_print_of new r ≡ has_print_of old r
  print_same e = ap (λ (c : Block). is_some (print_entry_of c (print_place r.page))) e

-- births, as a print is born or not
pub unborn_same : (old new : BirthsView) → Same old new → (s : Slot) (v : ℕ) → is_unborn_in new s v ≡ is_unborn_in old s v
unborn_same old new same s v = ap (λ (b : Bool). b && not (met_of new)) (same.slots.recorded s) ∙ ap (λ (b : Bool). recorded_of && not b) (same.met s v)
  where
    met_of : BirthsView → Bool
    met_of b = Rattle.birth_marks.specs.Births.met_in b s v

    recorded_of : Bool
    recorded_of = Rattle.birth_marks.specs.Births.recorded_in old s

more_met : (rec now met : Bool) → (rec && not met) ≡ false → (rec && not (now || met)) ≡ false
more_met rec now met h = grind arith

pub born_tried : (old new : BirthsView) (at : ℕ) → TriedAt old new at → (s : Slot) (v : ℕ) → is_unborn_in old s v ≡ false → is_unborn_in new s v ≡ false
born_tried old new at t s v h = rw (t.met s v, t.slots.recorded s) (more_met _ _ _ h)

pub born_written : (old new : BirthsView) (at : ℕ) → WrittenAt old new at → (s : Slot) (v : ℕ) → is_unborn_in old s v ≡ false → is_unborn_in new s v ≡ false
born_written old new at w s v h = rw (w.met s v, w.slots.recorded s) h

fewer_recorded : (rec settled met : Bool) → (rec && not met) ≡ false → ((rec && not settled) && not ((rec && not settled) && met)) ≡ false
fewer_recorded rec settled met h = grind arith

pub born_fixed : (old new : BirthsView) → FixedAll old new → (s : Slot) (v : ℕ) → is_unborn_in old s v ≡ false → is_unborn_in new s v ≡ false
born_fixed old new f s v h = rw (f.met s v, f.recorded s) (fewer_recorded _ _ _ h)
