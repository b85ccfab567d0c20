-- Rounds of a drain.
use Rattle.std.proofs.Common.{◌≡◌, ◌<◌, ◌≤◌, ℕ, Bool, true, not, ◌||◌, inl, inr, arith, refl, sym, ap, ◌∙◌, List, [], ◌∷◌, length, map, eqb, true≢false, eqb-true}
use Rattle.std.proofs.lemmas.Bool.{and_parts, or_cases, or_left, or_right}
use Rattle.order_model.specs.World.{Agree, Layout, Release, World}
use Rattle.engine_model.specs.DeviceSteps.{MovesMarks}
use Rattle.engine_model.specs.Drain.{DoneDrain, DoneRound, Round, RoundLeaves}
use Rattle.engine_model.specs.Entries.{Apart}
use Rattle.engine_model.specs.Invariant.{EngineInvariant, Moment}
use Rattle.engine_model.specs.Pass.{AllBlocked}
use Rattle.engine_model.specs.Room.{room_taken}
use Rattle.engine_model.specs.Schedule.{BarrierDone, DeviceRun, NoNode, OfDevice, Step, Unchanged, WriteDone, WriteRefused, WriteTaken, last_of}
use Rattle.engine_model.specs.SmallPass.{InRange}
use Rattle.engine_model.proofs.AppliedComposes.{drained, pass_composed}
use Rattle.engine_model.proofs.Counting.{count_mono}
use Rattle.engine_model.proofs.PassEffects as effects
use Rattle.engine_model.proofs.PassKeeps.{small_pass_keeps}
use Rattle.engine_model.proofs.PassRoom.{pass_room}
use Rattle.engine_model.proofs.Passes.{array_left, cache_left, drained_pass, member_queued}
use Rattle.engine_model.proofs.Schedule.{step_keeps}
use Rattle.engine_model.proofs.StaysBlocked.{small_pass_leaves}

-- runs of the device
module _ (lay : Layout) (top : ℕ) where
  run_cached : (m : Moment) (ns : List Moment) → DeviceRun lay top m ns → (page : ℕ) → (last_of m ns).world.cached page ≡ m.world.cached page
  run_cached m [] r page = refl
  run_cached m (n ∷ ns) r page = run_cached n ns r.1 page ∙ cache_left lay top m n r.0 page

  run_array : (m : Moment) (ns : List Moment) → DeviceRun lay top m ns → Agree (last_of m ns).array m.array
  run_array m [] r l = refl
  run_array m (n ∷ ns) r l = run_array n ns r.1 l ∙ array_left lay top m n r.0 l

  pub run_keeps : (sound : Bool) → Apart lay → (m : Moment) (ns : List Moment) → EngineInvariant lay top sound m → DeviceRun lay top m ns → EngineInvariant lay top sound (last_of m ns)
  run_keeps sound apart m [] k r = k
  run_keeps sound apart m (n ∷ ns) k r = run_keeps sound apart n ns (step_keeps lay top sound apart m n k r.0.step) r.1

-- a step of the device takes no room
length_map : (f : Release → Release) (rs : List Release) → length (map f rs) ≡ length rs
length_map f [] = refl
length_map f (r ∷ rs) = let more = length_map f rs in omega arith

module _ (total : ℕ) where
  room_by : (w v : World) → ((a : ℕ) → a < total → (v.dirty a || v.hung a) ≡ true → (w.dirty a || w.hung a) ≡ true) → length v.queue ≡ length w.queue → room_taken total v ≤ room_taken total w
  room_by w v marks queue = let nodes = count_mono total (λ a. v.dirty a || v.hung a) (λ a. w.dirty a || w.hung a) marks in omega arith

  room_same : (w v : World) → ((a : ℕ) → v.dirty a ≡ w.dirty a) → ((a : ℕ) → v.hung a ≡ w.hung a) → v.queue ≡ w.queue → room_taken total v ≤ room_taken total w
  room_same w v dirty hung queue = room_by w v (λ a lt h. ap (λ b. b || w.hung a) (sym (dirty a)) ∙ ap (λ b. v.dirty a || b) (sym (hung a)) ∙ h) (ap length queue)

  module _ (lay : Layout) (top : ℕ) where
    written_node : (w v : World) (page : ℕ) → MovesMarks lay w v page → w.dirty page ≡ true → (a : ℕ) → (v.dirty a || v.hung a) ≡ true → (w.dirty a || w.hung a) ≡ true
    written_node w v page s was a h = elim (or_cases _ _ h) [
      | inl d ↦ or_left (w.dirty a) (w.hung a) (and_parts (w.dirty a) (not (eqb a page)) (sym (s.dirty a) ∙ d)).0
      | inr g ↦ elim (or_cases (w.hung a) (eqb a page) (sym (s.hung a) ∙ g)) [
        | inl old ↦ or_right (w.dirty a) (w.hung a) old
        | inr here ↦ or_left (w.dirty a) (w.hung a) (ap w.dirty (eqb-true a page here) ∙ was)
      ]
    ]

    step_room : (m n : Moment) (s : Step lay top m n) → OfDevice s → room_taken total n.world ≤ room_taken total m.world
    step_room m n (BarrierDone b e c q) is = room_by m.world n.world (λ a lt h. elim (or_cases _ _ h) [
      | inl d ↦ or_left (m.world.dirty a) (m.world.hung a) (sym (b.dirty a) ∙ d)
      | inr g ↦ absurd (true≢false (sym g ∙ b.hung a))
    ]) (ap length b.queue ∙ length_map _ m.world.queue)
    step_room m n (WriteDone page t s e c q) is = room_by m.world n.world (λ a lt h. written_node m.world n.world page s t.was_dirty a h) (ap length s.queue ∙ length_map _ m.world.queue)
    step_room m n (WriteTaken page t s e c q) is = room_same m.world n.world s.dirty s.hung s.queue
    step_room m n (WriteRefused page w e c q) is = room_same m.world n.world w.dirty w.hung w.queue
    step_room m n (Unchanged s e c q) is = room_same m.world n.world s.dirty s.hung s.queue
    step_room m n s is = absurd is

    run_room : (m : Moment) (ns : List Moment) → DeviceRun lay top m ns → room_taken total (last_of m ns).world ≤ room_taken total m.world
    run_room m [] r = omega arith
    run_room m (n ∷ ns) r = let first = step_room m n r.0.step r.0.of_device in let then = run_room n ns r.1 in omega arith

    pub round_room : (m n : Moment) → Round lay top m n → room_taken total n.world ≤ room_taken total m.world
    round_room m n x =
        let first = run_room m x.flushed x.run in
        let then = pass_room total lay (last_of m x.flushed) n [] (last_of m x.flushed).world.queue refl x.pass in
        omega arith

module _ (lay : Layout) (top : ℕ) (sound : Bool) (apart : Apart lay) where
  in_range : (m : Moment) → EngineInvariant lay top sound m → InRange lay m.world.queue
  in_range m k r is = k.counts.lost_name_owes_release.in_range r.block r.page r.stage (member_queued r m.world.queue is)

  module _ (m n : Moment) (k : EngineInvariant lay top sound m) (x : Round lay top m n) where
    kept : EngineInvariant lay top sound (last_of m x.flushed)
    kept = run_keeps lay top sound apart m x.flushed k x.run

    pub round_keeps : EngineInvariant lay top sound n
    round_keeps = small_pass_keeps lay top sound apart (last_of m x.flushed) n _ _ kept refl x.pass

    pub round_blocked : AllBlocked lay n n.world.queue
    round_blocked = small_pass_leaves lay apart (last_of m x.flushed) n _ _ (in_range (last_of m x.flushed) kept) refl (λ r is. absurd is) x.pass

    pub round_leaves : RoundLeaves lay m n
    round_leaves =
        let e = effects.pass_effects lay apart (last_of m x.flushed) n _ _ refl (in_range (last_of m x.flushed) kept) (pass_composed lay top sound apart (last_of m x.flushed) n _ _ kept refl x.pass) in
        record {
          names = λ l lt. e.names l lt ∙ ap (λ c. lay.name_in c l) (run_cached lay top m x.flushed x.run (lay.map_page l));
          array = λ l. e.array l ∙ run_array lay top m x.flushed x.run l;
        }

  pub first_round : (m n : Moment) → EngineInvariant lay top sound m → (x : DoneRound lay top m n) → n.world.queue ≡ []
  first_round m n k x = drained_pass lay top sound apart (last_of m x.round.flushed) n (kept m n k x.round) (λ a. (x.done a).0)
      (pass_composed lay top sound apart (last_of m x.round.flushed) n _ _ (kept m n k x.round) refl x.round.pass)

  pub second_round : (m n : Moment) → EngineInvariant lay top sound m → (x : DoneDrain lay top m n) → NoNode n × (n.world.queue ≡ [])
  second_round m n k x = drained lay top sound apart (last_of m x.first.round.flushed) x.between n x.second.round.flushed (kept m x.between k x.first.round) x.first.done
      x.first.round.pass x.second.round.run x.second.done x.second.round.pass
