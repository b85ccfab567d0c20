use Rattle.engine_model.proofs.scanning.a_small_scan.Goals as goal
use Rattle.engine_model.proofs.Scans.{scan_exact}
use Rattle.engine_model.proofs.SmallScan.{drained_start, scan_composed}

pub returns : goal.returns
returns c = record {
  starts = drained_start;
  composed = λ lay top sound apart m ns k ready s. scan_composed lay top sound apart 1 m ns k ready s;
  exact = λ lay top sound apart m ns image k ready s settled is. scan_exact lay top sound apart m ns image k (scan_composed lay top sound apart 1 m ns k ready s) settled is;
}
