use Rattle.engine_model.proofs.scanning.scan_is_exact.Goals as goal
use Rattle.engine_model.proofs.Scans.{scan_array, scan_exact, scan_keeps}
use Rattle.engine_model.proofs.Waste.{step_waste}

pub returns : goal.returns
returns c = record {
  waste = λ lay top sound apart m n k p is s h. step_waste lay top sound apart m n k p is s h;
  kept = λ lay top sound apart m ns k s. scan_keeps lay top sound apart m ns k s;
  array = scan_array;
  exact = λ lay top sound apart m ns image k s settled is. scan_exact lay top sound apart m ns image k s settled is;
}
