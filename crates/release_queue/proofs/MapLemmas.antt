-- Releases whose stages move.
use Rattle.std.proofs.Common.{ℕ, ◌<◌, ◌++◌, length, length-append, zero, suc, [], ◌∷◌, ◌≤◌, ◌&&◌, List, map, cond, eqb, true, false, arith, Bool}
use Rattle.std.proofs.lemmas.List.{length-map}
use Rattle.std.specs.List.{All}
use Rattle.std.proofs.lemmas.List.Elements.{All-append, All-cons, All-head, All-map, All-nil, All-tail}
use Rattle.release_queue.specs.declared.Release.{Release}
use Rattle.release_queue.specs.Queued.{IsQueue, after_barrier, after_write, unmarked}
use Rattle.release_queue.proofs.LookLemmas.{unmarked_length}

pub still_queue : (limit : ℕ) (f : Release → Release) (rs : List Release) → ((r : Release) → r.stage ≤ 3 → (f r).stage ≤ 3) → IsQueue (record { releases = rs; limit = limit })
    → IsQueue (record { releases = map f rs; limit = limit })
still_queue limit f rs moves is = record {
  within = let e = length-map rs f in let h = is.within in omega arith;
  stages = All-map (λ r. r.stage ≤ 3) f rs (λ k d lt. moves _ (is.stages k d lt));
  small = is.small;
}

pub write_stays : (page : ℕ) (r : Release) → r.stage ≤ 3 → (after_write page r).stage ≤ 3
write_stays page r h = small (eqb r.map_at page && eqb r.stage 0) r.stage h
  where
    small : (b : Bool) (n : ℕ) → n ≤ 3 → cond b 1 n ≤ 3
    small true n h = omega arith
    small false n h = h

pub barrier_stays : (r : Release) → r.stage ≤ 3 → (after_barrier r).stage ≤ 3
barrier_stays r h = small (eqb r.stage 1) r.stage h
  where
    small : (b : Bool) (n : ℕ) → n ≤ 3 → cond b 2 n ≤ 3
    small true n h = omega arith
    small false n h = h

-- one was looked at
still : (i : ℕ) (rs : List Release) → All (λ r. r.stage ≤ 3) rs → All (λ r. r.stage ≤ 3) (unmarked i rs)
unfolding unmarked
still i [] all = all
still zero (r ∷ rs) all = All-cons (λ r. r.stage ≤ 3) (record r { look = false }) rs (All-head (λ r. r.stage ≤ 3) r rs all) (All-tail (λ r. r.stage ≤ 3) r rs all)
still (suc i) (r ∷ rs) all = All-cons (λ r. r.stage ≤ 3) r (unmarked i rs) (All-head (λ r. r.stage ≤ 3) r rs all) (still i rs (All-tail (λ r. r.stage ≤ 3) r rs all))

pub unmarked_queue : (limit i : ℕ) (rs : List Release) → IsQueue (record { releases = rs; limit = limit }) → IsQueue (record { releases = unmarked i rs; limit = limit })
unmarked_queue limit i rs is = record {
  within = let e = unmarked_length rs i in let h = is.within in omega (arith, e, h);
  stages = still i rs is.stages;
  small = is.small;
}

-- one more at the end
pub longer_queue : (limit : ℕ) (rs : List Release) (r : Release) → IsQueue (record { releases = rs; limit = limit }) → length rs < limit → r.stage ≤ 3 → IsQueue (record { releases = rs ++ r ∷ []; limit = limit })
longer_queue limit rs r is lt low = record {
  within = let e = length-append rs (r ∷ []) in omega (arith, e, lt);
  stages = All-append (λ r. r.stage ≤ 3) rs (r ∷ []) is.stages (All-cons (λ r. r.stage ≤ 3) r [] low (All-nil (λ r. r.stage ≤ 3)));
  small = is.small;
}
