use Rattle.std.proofs.Common.{◌≡◌, ◌≤◌, length, take}
use Rattle.std.specs.Prelude.{Some, map}
use Rattle.std.specs.Option.{ForSome}
use Rattle.stations.specs.Creations.{HaveClosed, HaveListed, after_making, closing_at_once}
use Rattle.stations.specs.Cues.{cue_names_in}
use Rattle.stations.specs.Outputs.{with_outputs}
use Rattle.station_render.specs.Marks.{cue_files_with, cues_of}
use Rattle.station_render.specs.Renders.{written}
use Rattle.station_render.proofs.cues.leave_cues.Given as goal

abbrev pub invariant-loop-sink : goal.invariant-loop-sink
invariant-loop-sink g l = record {
  place : l.place ≡ length (written (take l.sink-index l.plan.sinks));
  files : ForSome (g.S.Shelf.told l.fn.shelf).files (λ files. (g.S.Shelf.told l.shelf).files ≡ Some (with_outputs files (cue_files_with l.library (take l.sink-index l.plan.sinks) (cues_of l.marks))));
  made : (g.S.Shelf.told l.shelf).created ≡ after_making (cue_names_in (take l.sink-index l.plan.sinks)) (g.S.Shelf.told l.fn.shelf).created;
  closed : HaveClosed 0 (cue_names_in (take l.sink-index l.plan.sinks)) (g.S.Shelf.told l.fn.shelf).closed (g.S.Shelf.told l.shelf).closed;
  listed : HaveListed (map closing_at_once (cue_files_with l.library (take l.sink-index l.plan.sinks) (cues_of l.marks))) (g.S.Shelf.told l.fn.shelf).closed (g.S.Shelf.told l.shelf).closed;
  reads : (g.S.Shelf.told l.fn.shelf).reads ≤ (g.S.Shelf.told l.shelf).reads;
  writes : (g.S.Shelf.told l.fn.shelf).writes ≤ (g.S.Shelf.told l.shelf).writes;
}
