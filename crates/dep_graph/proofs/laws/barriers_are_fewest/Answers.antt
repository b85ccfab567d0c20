use Rattle.std.proofs.Common.{arith}
use Rattle.dep_graph.proofs.WaveLemmas.{fewest_barriers, level_is_one, waves_are, written_once}
use Rattle.dep_graph.proofs.WaveLevels.{waves_have_levels}
use Rattle.dep_graph.proofs.laws.barriers_are_fewest.Goals as goal

pub returns : goal.returns
returns c = record {
  fewest = fewest_barriers;
  waves = waves_are;
  levels = waves_have_levels;
  once = written_once;
  level = λ m f g ends hf hg p node.
      let le = level_is_one m f g ends hf hg (f p) p (omega arith) node in
      let ge = level_is_one m g f ends hg hf (g p) p (omega arith) node in
      omega arith;
}
