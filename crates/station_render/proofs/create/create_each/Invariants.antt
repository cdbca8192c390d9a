use Rattle.std.proofs.Common.{◌≡◌, ℕ, length, take}
use Rattle.frame_core.specs.Library.{Sounds}
use Rattle.stations.specs.Creations.{after_making, names_in}
use Rattle.station_render.specs.Shelves.{OnlyCreates}
use Rattle.station_render.specs.Sinks.{AreCreated, lists_of}
use Rattle.trace_records.specs.Traces.{base_of}
use Rattle.station_render.specs.Renders.{IsReady, order_of, written}
use Rattle.station_render.proofs.create.create_each.Given as goal

abbrev pub invariant-loop-sink : goal.invariant-loop-sink
invariant-loop-sink g l = record {
  created : (library : Sounds) → (start : ℕ) → AreCreated (IsReady g.S.Out.Sink.told (g.S.Shelf.told l.fn.shelf) (base_of l.plan library l.clocks start) l.ticks)
      (written (take l.sink-index l.plan.sinks)) l.order.items (lists_of l.groups.items);
  order : (library : Sounds) → (start : ℕ) → l.order.items ≡ order_of (base_of l.plan library l.clocks start) (written (take l.sink-index l.plan.sinks));
  size : length (lists_of l.groups.items) ≡ l.clocks.running;
  made : (g.S.Shelf.told l.shelf).created ≡ after_making (names_in (take l.sink-index l.plan.sinks)) (g.S.Shelf.told l.fn.shelf).created;
  shelf : OnlyCreates (g.S.Shelf.told l.fn.shelf) (g.S.Shelf.told l.shelf);
}
