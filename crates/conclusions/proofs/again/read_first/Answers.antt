use Rattle.std.proofs.Common.{◌∙◌}
use Rattle.array_model.specs.Images.{fit}
use Rattle.array_model.specs.Array.{array_start}
use Rattle.conclusions.proofs.again.read_first.Goals as goal

pub returns-in-Ok-read : goal.returns-in-Ok-read
returns-in-Ok-read g c = λ is ready good.
    let image = (g.D.Device.seen c.args.device.now).state.fixed in
    c.in-Ok-read.ensures.bytes fit (array_start image) (c.in-Ok.ensures.stands ready.honest ready.tells_pages ready.rest fit good) ∙ c.start_reads.ensures.last image 0
