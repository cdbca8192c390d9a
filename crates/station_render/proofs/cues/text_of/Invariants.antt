use Rattle.std.proofs.Common.{◌≡◌, map, take}
use Rattle.std.specs.Prelude.{string_bytes}
use Rattle.stations.specs.Cues.{cue_text}
use Rattle.station_render.specs.Marks.{cue_of}
use Rattle.station_render.proofs.cues.text_of.Given as goal

abbrev pub invariant-loop-mark : goal.invariant-loop-mark
invariant-loop-mark l = string_bytes l.text ≡ cue_text l.library (map cue_of (take l.mark-index l.marks))
