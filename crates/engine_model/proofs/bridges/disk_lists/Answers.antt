use Rattle.engine_model.proofs.bridges.disk_lists.Goals as goal
use Rattle.engine_model.proofs.Disks.{all_after_write, flush_newest, flush_older, image_possible, newest_write, older_write, write_here, write_other}

pub returns : goal.returns
returns c = record {
  write_here = write_here;
  write_other = write_other;
  newest = newest_write;
  older = all_after_write;
  write_older = older_write;
  flush_newest = flush_newest;
  flush_older = flush_older;
  image = image_possible;
}
