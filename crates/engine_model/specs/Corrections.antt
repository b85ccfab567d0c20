-- A correction by a scan.
use Rattle.std.specs.Prelude.{List, None, Some, [], false, true, ℕ, ◌<◌, ◌≡◌, ◌≢◌, ◌⊎◌}
use Rattle.order_model.specs.World.{Layout, World, IsData}
use Rattle.engine_model.specs.Entries.{NoEdge, cached_count, cached_name, cached_names, cached_print}
use Rattle.engine_model.specs.Edits.{CacheOnly, NewEdges}
use Rattle.engine_model.specs.Commands.{NoPages}

-- A scan sets p's count to its names: the print goes where there is no name, and one is made where there is a name and no print.
pub record Corrected (lay : Layout) (w v : World) (p : ℕ) : Type 0 where
  pub rest : CacheOnly lay w v
  pub edges : NewEdges w v (λ a b. (a ≡ lay.print_page p) × (b ≡ lay.count_page p)) NoPages
  pub is_data : IsData lay p
  pub none_queued : w.queue ≡ []
  pub no_map_node : (l : ℕ) → l < lay.blocks → (w.dirty (lay.map_page l) ≡ false) × (w.hung (lay.map_page l) ≡ false)
  pub no_print_edge : (a q : ℕ) → IsData lay q → NoEdge w a (lay.print_page q)
  pub queue : v.queue ≡ w.queue
  pub names : (l : ℕ) → l < lay.blocks → cached_name lay v l ≡ cached_name lay w l
  pub count_here : cached_count lay v p ≡ cached_names lay w p
  pub count_other : (q : ℕ) → IsData lay q → q ≢ p → cached_count lay v q ≡ cached_count lay w q
  pub print_other : (q : ℕ) → IsData lay q → q ≢ p → cached_print lay v q ≡ cached_print lay w q
  pub print_here :
      ((0 < cached_names lay w p) × ((print : List ℕ) × (cached_print lay w p ≡ Some print)) × (cached_print lay v p ≡ cached_print lay w p))
      ⊎ (((cached_names lay w p ≡ 0) × (cached_print lay v p ≡ None) × ((print : List ℕ) → cached_print lay w p ≡ Some print → v.live (lay.print_page p) (lay.count_page p) ≡ true))
      ⊎ ((0 < cached_names lay w p) × (cached_print lay w p ≡ None) × (cached_print lay v p ≡ Some (lay.finger (v.cached (lay.data_page p))))))
