-- Which fault of a rendering one of the shelf becomes.
use Rattle.std.specs.Prelude.{Bool, true, false, Ok, Err, Result}
use Rattle.liq_base.specs.declared.shelf.ShelfFault.{ShelfFault}
use Rattle.liq_base.specs.declared.shelf.ShelfFault.TheVariants.{Failed as device_failed, Memory as no_memory}
use Rattle.station_render.specs.declared.fault.RenderFault.{RenderFault}
use Rattle.station_render.specs.declared.fault.RenderFault.TheVariants.{Write as write_fault, Memory as memory_fault}

-- a shelf's fault as the fault of a rendering: a failed device is a failed write, and refused memory stays so
abbrev pub render_fault_of : ShelfFault → RenderFault
render_fault_of device_failed = write_fault
render_fault_of no_memory = memory_fault

-- whether a rendering's fault is that of a device; otherwise memory was refused
abbrev pub is_device : RenderFault → Bool
is_device write_fault = true
is_device memory_fault = false

-- whether a rendering ended with the fault of a device, and not well or for want of memory
abbrev pub ended_by_device : {T : Type 0} → Result T RenderFault → Bool
ended_by_device (Ok value) = false
ended_by_device (Err fault) = is_device fault
