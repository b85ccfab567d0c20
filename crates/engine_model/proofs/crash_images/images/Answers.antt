use Rattle.engine_model.proofs.crash_images.images.Goals as goal
use Rattle.engine_model.proofs.Images.{image_fits, image_reads}
use Rattle.engine_model.proofs.Schedule.{fits}

pub returns : goal.returns
returns c = record {
  counts = image_fits;
  contents = image_reads;
  whole = fits;
}
