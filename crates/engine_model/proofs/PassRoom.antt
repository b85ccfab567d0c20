-- A pass takes no more room than what its releases had kept for them.
use Rattle.std.proofs.Common.{◌≡◌, ◌⊎◌, inl, inr, ◌+◌, ◌≤◌, ℕ, Bool, true, not, ◌&&◌, ◌||◌, arith, sym, ap, ◌∙◌, List, [], ◌∷◌, ◌++◌, eqb, length}
use Rattle.order_model.specs.World.{Layout, Release, World}
use Rattle.engine_model.specs.Invariant.{Moment}
use Rattle.engine_model.specs.SmallRuns.{in_state, with_release_out}
use Rattle.engine_model.specs.SmallSteps.{given_up, touched}
use Rattle.engine_model.proofs.Counting.{count_mono, count_one, count_or}
use Rattle.engine_model.proofs.Passes.{append_one}
use Rattle.engine_model.specs.Room.{nodes_below, room_taken}
use Rattle.engine_model.specs.SmallPass.{Applies, Clears, ClearsLast, ClearsUnborn, GivenUp, GivesUp, Leaves, NothingToClear, SmallPass, StaysThere, readied}
use Rattle.engine_model.proofs.AppliedFrames.{edge_by, gives_up_queue}

moved_or : (d e h : Bool) → ((d || e) || h) ≡ true → ((d || h) || e) ≡ true
moved_or d e h x = grind arith

less_or : (d e h : Bool) → ((d && not e) || h) ≡ true → (d || h) ≡ true
less_or d e h x = grind arith

length_mid : (xs ys : List Release) (r : Release) → length (xs ++ r ∷ ys) ≡ length (xs ++ ys) + 1
length_mid [] ys r = omega arith
length_mid (x ∷ xs) ys r = let more = length_mid xs ys r in omega arith

module _ (total : ℕ) where
  touch_nodes : (w : World) (page : ℕ) → nodes_below total (touched page w) ≤ nodes_below total w + 1
  touch_nodes w page =
      let first = count_mono total (λ a. (w.dirty a || eqb a page) || w.hung a) (λ a. (w.dirty a || w.hung a) || eqb a page) (λ a lt h. moved_or (w.dirty a) (eqb a page) (w.hung a) h) in
      let both = count_or total (λ a. w.dirty a || w.hung a) (λ a. eqb a page) in
      let one = count_one total page in
      omega arith

  give_up_nodes : (w : World) (page : ℕ) → nodes_below total (given_up page w) ≤ nodes_below total w
  give_up_nodes w page = count_mono total (λ a. (w.dirty a && not (eqb a page)) || w.hung a) (λ a. w.dirty a || w.hung a) (λ a lt h. less_or (w.dirty a) (eqb a page) (w.hung a) h)

  module _ (lay : Layout) (m n : Moment) (r : Release) (before after : List Release) where
    abbrev ready : Moment
    ready = in_state (readied lay r m.world) m

    ready_nodes : nodes_below total ready.world ≤ nodes_below total m.world + 1
    ready_nodes =
        let begun = touch_nodes m.world (lay.count_page r.page) in
        edge_by (λ w. nodes_below total w ≤ nodes_below total m.world + 1) r.stage (lay.map_page r.block) (lay.count_page r.page) (touched (lay.count_page r.page) m.world) begun begun begun

    clears_nodes : (count : ℕ) (c : Moment) → Clears lay r.page count ready c → nodes_below total c.world ≤ nodes_below total ready.world + 1
    clears_nodes count c (NothingToClear h e) = let same = ap (λ z. nodes_below total z.world) e in omega arith
    clears_nodes count c (ClearsUnborn d print z some born sets e) = let same = ap (λ z. nodes_below total z.world) e in let more = touch_nodes ready.world (lay.print_page r.page) in omega arith
    clears_nodes count c (ClearsLast d print z some born sets e) = let same = ap (λ z. nodes_below total z.world) e in let more = touch_nodes ready.world (lay.print_page r.page) in omega arith

    gives_nodes : (count : ℕ) (out : Moment) → GivesUp lay r.page count out n → nodes_below total n.world ≤ nodes_below total out.world
    gives_nodes count out (StaysThere e) = let same = ap (λ z. nodes_below total z.world) e in omega arith
    gives_nodes count out (GivenUp z none e) = let same = ap (λ z. nodes_below total z.world) e in let less = give_up_nodes out.world (lay.data_page r.page) in omega arith

    applies_nodes : Applies lay m n r before after → nodes_below total n.world ≤ nodes_below total m.world + 2
    applies_nodes x =
        let first = ready_nodes in
        let then = clears_nodes x.count x.cleared x.clears in
        let last = gives_nodes x.count (with_release_out lay r.page x.content (before ++ after) x.pool x.cleared) x.gives_up in
        omega arith

    out_of_queue : Applies lay m n r before after ⊎ Leaves lay m n r before after → n.world.queue ≡ before ++ after
    out_of_queue (inl x) = gives_up_queue lay r.page x.count (with_release_out lay r.page x.content (before ++ after) x.pool x.cleared) n x.gives_up
    out_of_queue (inr x) = ap (λ z. z.world.queue) x.is

    out_room : m.world.queue ≡ before ++ r ∷ after → Applies lay m n r before after ⊎ Leaves lay m n r before after → room_taken total n.world ≤ room_taken total m.world
    out_room queue x =
        let was : length m.world.queue ≡ length (before ++ after) + 1 = ap length queue ∙ length_mid before after r in
        let now : length n.world.queue ≡ length (before ++ after) = ap length (out_of_queue x) in
        let nodes : nodes_below total n.world ≤ nodes_below total m.world + 2 = elim x [
          | inl a ↦ applies_nodes a
          | inr l ↦ let same = ap (λ z. nodes_below total z.world) l.is in omega arith
        ] in
        omega arith

  pub pass_room : (lay : Layout) (m n : Moment) (kept todo : List Release) → m.world.queue ≡ kept ++ todo → SmallPass lay m kept todo n → room_taken total n.world ≤ room_taken total m.world
  pass_room lay m n kept [] queue p = let same = ap (λ z. room_taken total z.world) p in omega arith
  pass_room lay m n kept (r ∷ todo) queue (inl p) = pass_room lay m n (kept ++ r ∷ []) todo (queue ∙ sym (append_one kept todo r)) p.1
  pass_room lay m n kept (r ∷ todo) queue (inr p) =
      let first = out_room lay m p.0 r kept todo queue p.1 in
      let then = pass_room lay p.0 n kept todo (out_of_queue lay m p.0 r kept todo p.1) p.2 in
      omega arith
