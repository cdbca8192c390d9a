-- A rendering of a station.
use Rattle.std.specs.Prelude.{◌≤◌, Result, IfOk, IsErrOf}
use Rattle.std.specs.Option.{ForSome}
use Rattle.liq_base.specs.Counts.{Rose}
use Rattle.liq_base.specs.Shelves.{ShelfTold}
use Rattle.stations.specs.Creations.{CreatedFront, names_of}
use Rattle.stations.specs.Renderings.{WrotePart}
use Rattle.stations.specs.Stations.{Station}
use Rattle.station_render.specs.Faults.{ended_by_device}
use Rattle.station_render.specs.Runs.{IsRendered}
use Rattle.station_render.specs.declared.fault.RenderFault.{RenderFault}
use Rattle.station_render.specs.declared.fault.RenderFault.TheVariants.{Write}
use Rattle.station_render.specs.declared.rendered.Rendered.{Rendered}

-- A rendering of this station ended with this result. If it is done, all files were written, created and closed. In
-- any case a part of what it writes was written, and the first of its files' names were created and closed, in order.
-- `Write` comes only if the count of failed writes rose, and no count of failures fell.
pub record Renders (station : Station) (old new : ShelfTold) (result : Result Rendered RenderFault) : Type 0 where
  pub done : IfOk result (IsRendered station old new)
  pub part : ForSome old.files (λ files. WrotePart station (ended_by_device result) files old new)
  pub cause : IsErrOf result Write → Rose old.writes new.writes
  pub front : CreatedFront (names_of station) old new
  pub reads_grew : old.reads ≤ new.reads
  pub writes_grew : old.writes ≤ new.writes
