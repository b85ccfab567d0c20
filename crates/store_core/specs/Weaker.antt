-- What the laws say of lists and of modes.
use Rattle.std.specs.Prelude.{Bool, true, false, List}
use Rattle.page_device.specs.Block.{Block}
use Rattle.order_model.specs.Contents.{IsAmong}
use Rattle.array_model.specs.Images.{Mode, fit, sound}
use Rattle.engine_model.specs.Contents.{Last}

-- how much is asked of an image where prints are to be true, and where not
abbrev pub mode_of : Bool → Mode
mode_of true = sound
mode_of false = fit

-- it has each member of the list, and the same last one
pub record Extends (old new : List Block) : Type 0 where
  pub members : (c : Block) → IsAmong c old → IsAmong c new
  pub last : (c : Block) → Last old c → Last new c
