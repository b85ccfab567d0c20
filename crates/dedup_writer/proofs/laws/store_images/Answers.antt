use Rattle.array_model.specs.Array.{writes_nothing}
use Rattle.dedup_writer.proofs.Quiet.{images_now}
use Rattle.dedup_writer.proofs.laws.store_images.Goals as goal

pub returns : goal.returns
returns c = λ mode core d a sf. images_now mode core d a writes_nothing sf
