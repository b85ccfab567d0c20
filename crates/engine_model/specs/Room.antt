-- How many pages are nodes.
use Rattle.std.specs.Prelude.{ℕ, ◌||◌, ◌+◌, length}
use Rattle.order_model.specs.World.{World}
use Rattle.order_model.specs.Counting.{count_below}

abbrev pub nodes_below : ℕ → World → ℕ
nodes_below total w = count_below (λ a. w.dirty a || w.hung a) total

-- the nodes, and two for each release that is queued: its count page and its print page
abbrev pub room_taken : ℕ → World → ℕ
room_taken total w = nodes_below total w + (length w.queue + length w.queue)
