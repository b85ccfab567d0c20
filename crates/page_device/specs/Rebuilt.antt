-- The state of a device that is built again from its log, as plain data.
use Rattle.page_device.specs.declared.image.Rebuilt.{Rebuilt}
use Rattle.page_device.specs.Disk.{DeviceState}

abbrev pub state_of : Rebuilt → DeviceState
state_of r = record { fixed = r.fixed.items; since = r.since.items }
