use Rattle.std.proofs.Common.{arith}
use Rattle.page_device.proofs.Consistent.{consistent-lost}
use Rattle.page_device.proofs.memory.MemDevice.lose.Goals as goal

pub invariant_of-self : goal.invariant_of-self
invariant_of-self c =
    let was = c.self.invariant in (
      consistent-lost c.self.inside.pages.items c.self.inside.replaced.items c.self.inside.log.kept c.self.inside.log.all _ _ was.0 c.lose.ensures.kept c.lose.ensures.some,
      record { log = omega (arith, was.1.log, c.lose.ensures.spare); beside = was.1.beside },
    )
