use Rattle.std.proofs.Common.{◌≡◌, ◌∙◌, ◌||◌, ◌&&◌, ◌+◌, ◌<◌, inl, ap, refl, sym, subst, eqb, eq-eqb, ℕ, true, false, List, max, length, take, get_or, cond, arith}
use Rattle.std.specs.List.{list_any}
use Rattle.std.proofs.lemmas.List.{take_all}
use Rattle.dep_graph.specs.declared.pairs.Pair.{Pair}
use Rattle.dep_graph.specs.Pages.{holds, IsAt}
use Rattle.dep_graph.specs.Pairs.{ends_at, from_page, has_pair}
use Rattle.dep_graph.specs.Trails.{seen}
use Rattle.dep_graph.specs.Waits.{count_at}
use Rattle.dep_graph.proofs.LevelLemmas.{all_done, before_all, ends_none_done, ends_undone_le, next_above, next_grows, next_is, next_left, next_low, next_queued, not_before, read_num, seen_next}
use Rattle.dep_graph.proofs.RisingLemmas.{any_at}
use Rattle.dep_graph.proofs.SearchLemmas.{after_from, seen_at}
use Rattle.dep_graph.proofs.levels.climb.Goals as goal

pub loop-head-init : goal.loop-head-init
loop-head-init c = record {
  left = λ p. c.requires.left p ∙ ends_none_done c.args.live.now p;
  reached = c.requires.seen;
  above = λ a b on edge. absurd (cc);
  is = λ p. inl refl;
  grows = λ p. omega arith;
  low = λ p. let l = c.requires.low p in omega arith;
  head_within = omega arith;
  within = c.requires.within;
  apart = c.requires.apart;
  room = refl;
  left_each = c.requires.left_each;
  level_each = c.requires.level_each;
  left_room = refl;
  level_room = refl;
}

pub overflow_add-height : goal.overflow_add-height
overflow_add-height c =
    let at : IsAt c.args.pages.now (get_or c.args.pages.now c.place-place.result 0) c.place-place.result = record { within = subst (λ (n : ℕ). n < length c.args.pages.now) (sym c.place-place.ensures) (c.loop-head.invariant.within c.loop-head.head (omega (arith, c.loop-head-test.true, c.len.ensures.len))); is = refl } in
    let is = read_num c.args.pages.now c.loop-head.level.items c.place-place.result (get_or c.args.pages.now c.place-place.result 0) c.index.result.now c.requires.rising c.loop-head.invariant.level_each at c.index.ensures in
    let low = c.loop-head.invariant.low (get_or c.args.pages.now c.place-place.result 0) in
    omega (arith, c.loop-head-test.true, c.len.ensures.few, c.requires.few, c.loop-head.invariant.room)

pub relax_each-requires-clause-there : goal.relax_each-requires-clause-there
relax_each-requires-clause-there c = λ k d lt.
    let p : Pair = get_or c.out_of.result.now k d in
    let there = any_at (λ (q : Pair). eqb q.after p.after) c.out_of.result.now k d lt (eq-eqb p.after p.after refl) in
    let edge = sym (after_from c.args.live.now (get_or c.args.pages.now c.place-place.result 0) p.after) ∙ ap (λ (l : List Pair). list_any (λ (q : Pair). eqb q.after p.after) l) (sym c.out_of.ensures) ∙ there in
    (c.requires.ends _ p.after edge).1

pub relax_each-requires-clause-waits : goal.relax_each-requires-clause-waits
relax_each-requires-clause-waits c = λ p.
    let lt : c.loop-head.head < length c.loop-head.search.reached = omega (arith, c.loop-head-test.true, c.len.ensures.len) in
    let x_is = ap (λ (n : ℕ). get_or c.args.pages.now n 0) c.place-place.ensures in
    let off = subst (λ (n : ℕ). seen c.args.pages.now (take c.loop-head.head c.loop-head.search.reached) n ≡ false) (sym x_is) (not_before c.args.pages.now c.loop-head.search.reached c.loop-head.head c.requires.rising c.loop-head.invariant.within c.loop-head.invariant.apart lt) in
    let le = ends_undone_le (seen c.args.pages.now (take c.loop-head.head c.loop-head.search.reached)) c.args.live.now (get_or c.args.pages.now c.place-place.result 0) p off in
    let is = c.loop-head.invariant.left p in
    let out = ap (λ (l : List Pair). ends_at l p) c.out_of.ensures in
    omega arith

lt_is : (c : goal.After-relax_each) → c.loop-head.head < length c.loop-head.search.reached
lt_is c = omega (arith, c.loop-head-test.true, c.len.ensures.len)

x_is : (c : goal.After-relax_each) → get_or c.args.pages.now c.place-place.result 0 ≡ get_or c.args.pages.now (get_or c.loop-head.search.reached c.loop-head.head 0) 0
x_is c = ap (λ (n : ℕ). get_or c.args.pages.now n 0) c.place-place.ensures

adds : (c : goal.After-relax_each) (p : ℕ) → seen c.args.pages.now (take (c.loop-head.head + 1) c.relax_each.new.search.reached) p ≡ seen c.args.pages.now (take c.loop-head.head c.loop-head.search.reached) p || eqb (get_or c.args.pages.now c.place-place.result 0) p
adds c p =
    seen_next c.args.pages.now c.loop-head.search.reached c.relax_each.new.search.reached c.loop-head.head p (lt_is c) c.relax_each.ensures.grows c.relax_each.ensures.front
    ∙ ap (λ n. seen c.args.pages.now (take c.loop-head.head c.loop-head.search.reached) p || eqb n p) (sym (x_is c))

fresh : (c : goal.After-relax_each) → seen c.args.pages.now (take c.loop-head.head c.loop-head.search.reached) (get_or c.args.pages.now c.place-place.result 0) ≡ false
fresh c = subst (λ (n : ℕ). seen c.args.pages.now (take c.loop-head.head c.loop-head.search.reached) n ≡ false) (sym (x_is c))
    (not_before c.args.pages.now c.loop-head.search.reached c.loop-head.head c.requires.rising c.loop-head.invariant.within c.loop-head.invariant.apart (lt_is c))

taken : (c : goal.After-relax_each) → seen c.args.pages.now c.loop-head.search.reached (get_or c.args.pages.now c.place-place.result 0) ≡ true
taken c = subst (λ (n : ℕ). seen c.args.pages.now c.loop-head.search.reached n ≡ true) (sym (x_is c)) (seen_at c.args.pages.now c.loop-head.search.reached c.loop-head.head (lt_is c))

left_is : (c : goal.After-relax_each) (p : ℕ) → count_at c.args.pages.now c.relax_each.new.left.items p + ends_at (from_page c.args.live.now (get_or c.args.pages.now c.place-place.result 0)) p ≡ count_at c.args.pages.now c.loop-head.left.items p
left_is c p = subst (λ (l : List Pair). count_at c.args.pages.now c.relax_each.new.left.items p + ends_at l p ≡ count_at c.args.pages.now c.loop-head.left.items p) c.out_of.ensures (c.relax_each.ensures.left p)

out_is : (c : goal.After-relax_each) (p : ℕ) → list_any (λ (e : Pair). eqb e.after p) c.out_of.result.now ≡ has_pair c.args.live.now (get_or c.args.pages.now c.place-place.result 0) p
out_is c p = ap (λ (l : List Pair). list_any (λ (e : Pair). eqb e.after p) l) c.out_of.ensures ∙ after_from c.args.live.now (get_or c.args.pages.now c.place-place.result 0) p

height_is : (c : goal.After-relax_each) (p : ℕ) → count_at c.args.pages.now c.relax_each.new.level.items p
    ≡ cond (has_pair c.args.live.now (get_or c.args.pages.now c.place-place.result 0) p) (max (count_at c.args.pages.now c.loop-head.level.items p) (count_at c.args.pages.now c.loop-head.level.items (get_or c.args.pages.now c.place-place.result 0) + 1)) (count_at c.args.pages.now c.loop-head.level.items p)
height_is c p =
    let at : IsAt c.args.pages.now (get_or c.args.pages.now c.place-place.result 0) c.place-place.result = record { within = subst (λ (n : ℕ). n < length c.args.pages.now) (sym c.place-place.ensures) (c.loop-head.invariant.within c.loop-head.head (lt_is c)); is = refl } in
    let is = read_num c.args.pages.now c.loop-head.level.items c.place-place.result (get_or c.args.pages.now c.place-place.result 0) c.index.result.now c.requires.rising c.loop-head.invariant.level_each at c.index.ensures in
    c.relax_each.ensures.level p ∙ rw (out_is c p, is)

queued_is : (c : goal.After-relax_each) (p : ℕ) → seen c.args.pages.now c.relax_each.new.search.reached p
    ≡ seen c.args.pages.now c.loop-head.search.reached p || (has_pair c.args.live.now (get_or c.args.pages.now c.place-place.result 0) p && eqb (count_at c.args.pages.now c.relax_each.new.left.items p) 0)
queued_is c p = c.relax_each.ensures.seen p ∙ ap (λ b. seen c.args.pages.now c.loop-head.search.reached p || (b && eqb (count_at c.args.pages.now c.relax_each.new.left.items p) 0)) (out_is c p)

pub loop-head-preserved : goal.loop-head-preserved
loop-head-preserved c =
    let i = c.loop-head.invariant in
    record {
      left = next_left c.args.live.now (holds c.args.pages.now) (seen c.args.pages.now (take c.loop-head.head c.loop-head.search.reached)) (seen c.args.pages.now (take (c.loop-head.head + 1) c.relax_each.new.search.reached)) (seen c.args.pages.now c.loop-head.search.reached) (seen c.args.pages.now c.relax_each.new.search.reached)
          (count_at c.args.pages.now c.args.level.now.items) (count_at c.args.pages.now c.loop-head.level.items) (count_at c.args.pages.now c.relax_each.new.level.items) (count_at c.args.pages.now c.loop-head.left.items) (count_at c.args.pages.now c.relax_each.new.left.items)
          (get_or c.args.pages.now c.place-place.result 0) c.loop-head.head c.requires.ends (adds c) (fresh c) (taken c) (λ p. before_all c.args.pages.now c.loop-head.search.reached c.loop-head.head p) c.loop-head.invariant.left (left_is c) (height_is c) c.loop-head.invariant.reached (queued_is c);
      reached = next_queued c.args.live.now (holds c.args.pages.now) (seen c.args.pages.now (take c.loop-head.head c.loop-head.search.reached)) (seen c.args.pages.now (take (c.loop-head.head + 1) c.relax_each.new.search.reached)) (seen c.args.pages.now c.loop-head.search.reached) (seen c.args.pages.now c.relax_each.new.search.reached)
          (count_at c.args.pages.now c.args.level.now.items) (count_at c.args.pages.now c.loop-head.level.items) (count_at c.args.pages.now c.relax_each.new.level.items) (count_at c.args.pages.now c.loop-head.left.items) (count_at c.args.pages.now c.relax_each.new.left.items)
          (get_or c.args.pages.now c.place-place.result 0) c.loop-head.head c.requires.ends (adds c) (fresh c) (taken c) (λ p. before_all c.args.pages.now c.loop-head.search.reached c.loop-head.head p) c.loop-head.invariant.left (left_is c) (height_is c) c.loop-head.invariant.reached (queued_is c);
      above = next_above c.args.live.now (holds c.args.pages.now) (seen c.args.pages.now (take c.loop-head.head c.loop-head.search.reached)) (seen c.args.pages.now (take (c.loop-head.head + 1) c.relax_each.new.search.reached)) (seen c.args.pages.now c.loop-head.search.reached) (seen c.args.pages.now c.relax_each.new.search.reached)
          (count_at c.args.pages.now c.args.level.now.items) (count_at c.args.pages.now c.loop-head.level.items) (count_at c.args.pages.now c.relax_each.new.level.items) (count_at c.args.pages.now c.loop-head.left.items) (count_at c.args.pages.now c.relax_each.new.left.items)
          (get_or c.args.pages.now c.place-place.result 0) c.loop-head.head c.requires.ends (adds c) (fresh c) (taken c) (λ p. before_all c.args.pages.now c.loop-head.search.reached c.loop-head.head p) c.loop-head.invariant.left (left_is c) (height_is c) c.loop-head.invariant.reached (queued_is c) i.above;
      is = next_is c.args.live.now (holds c.args.pages.now) (seen c.args.pages.now (take c.loop-head.head c.loop-head.search.reached)) (seen c.args.pages.now (take (c.loop-head.head + 1) c.relax_each.new.search.reached)) (seen c.args.pages.now c.loop-head.search.reached) (seen c.args.pages.now c.relax_each.new.search.reached)
          (count_at c.args.pages.now c.args.level.now.items) (count_at c.args.pages.now c.loop-head.level.items) (count_at c.args.pages.now c.relax_each.new.level.items) (count_at c.args.pages.now c.loop-head.left.items) (count_at c.args.pages.now c.relax_each.new.left.items)
          (get_or c.args.pages.now c.place-place.result 0) c.loop-head.head c.requires.ends (adds c) (fresh c) (taken c) (λ p. before_all c.args.pages.now c.loop-head.search.reached c.loop-head.head p) c.loop-head.invariant.left (left_is c) (height_is c) c.loop-head.invariant.reached (queued_is c) i.is;
      grows = next_grows c.args.live.now (holds c.args.pages.now) (seen c.args.pages.now (take c.loop-head.head c.loop-head.search.reached)) (seen c.args.pages.now (take (c.loop-head.head + 1) c.relax_each.new.search.reached)) (seen c.args.pages.now c.loop-head.search.reached) (seen c.args.pages.now c.relax_each.new.search.reached)
          (count_at c.args.pages.now c.args.level.now.items) (count_at c.args.pages.now c.loop-head.level.items) (count_at c.args.pages.now c.relax_each.new.level.items) (count_at c.args.pages.now c.loop-head.left.items) (count_at c.args.pages.now c.relax_each.new.left.items)
          (get_or c.args.pages.now c.place-place.result 0) c.loop-head.head c.requires.ends (adds c) (fresh c) (taken c) (λ p. before_all c.args.pages.now c.loop-head.search.reached c.loop-head.head p) c.loop-head.invariant.left (left_is c) (height_is c) c.loop-head.invariant.reached (queued_is c) i.grows;
      low = next_low c.args.live.now (holds c.args.pages.now) (seen c.args.pages.now (take c.loop-head.head c.loop-head.search.reached)) (seen c.args.pages.now (take (c.loop-head.head + 1) c.relax_each.new.search.reached)) (seen c.args.pages.now c.loop-head.search.reached) (seen c.args.pages.now c.relax_each.new.search.reached)
          (count_at c.args.pages.now c.args.level.now.items) (count_at c.args.pages.now c.loop-head.level.items) (count_at c.args.pages.now c.relax_each.new.level.items) (count_at c.args.pages.now c.loop-head.left.items) (count_at c.args.pages.now c.relax_each.new.left.items)
          (get_or c.args.pages.now c.place-place.result 0) c.loop-head.head c.requires.ends (adds c) (fresh c) (taken c) (λ p. before_all c.args.pages.now c.loop-head.search.reached c.loop-head.head p) c.loop-head.invariant.left (left_is c) (height_is c) c.loop-head.invariant.reached (queued_is c) i.low;
      head_within = omega (arith, lt_is c, c.relax_each.ensures.grows);
      within = c.relax_each.ensures.within;
      apart = c.relax_each.ensures.apart;
      room = c.relax_each.ensures.room ∙ i.room;
      left_each = c.relax_each.ensures.left_each;
      level_each = c.relax_each.ensures.level_each;
      left_room = c.relax_each.ensures.left_room ∙ i.left_room;
      level_room = c.relax_each.ensures.level_room ∙ i.level_room;
    }

pub returns-clause-above : goal.returns-clause-above
returns-clause-above c =
    let i = c.loop-head.invariant in
    let all = take_all c.loop-head.head c.loop-head.search.reached (omega (arith, c.loop-head-test.false, c.len.ensures.len)) in
    let done : (p : ℕ) → seen c.args.pages.now (take c.loop-head.head c.loop-head.search.reached) p ≡ holds c.args.pages.now p && eqb (count_at c.args.pages.now c.loop-head.left.items p) 0 = λ p. rw all (i.reached p) in
    λ a b edge. i.above a b (all_done c.args.live.now c.args.pages.now (seen c.args.pages.now (take c.loop-head.head c.loop-head.search.reached)) (count_at c.args.pages.now c.loop-head.left.items) c.requires.acyclic
    (λ x y e. (c.requires.ends x y e).0) i.left done a (c.requires.ends a b edge).0) edge
