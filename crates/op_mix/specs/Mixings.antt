-- What a mixer stands for.
use Rattle.std.specs.Prelude.{Some, None, List, [], ◌∷◌}
use Rattle.frame_core.specs.declared.cell.Cell.{Cell}
use Rattle.frame_core.specs.Slots.{Slot}
use Rattle.stream_meaning.specs.Arithmetic.{Mixing}
use Rattle.stream_meaning.specs.Arithmetic as mixing
use Rattle.op_mix.specs.declared.mixer.Mixer.{Mixer}
use Rattle.op_mix.specs.declared.mixer.Mixer.TheVariants.{Adds, Scales, Halves, Doubles, Passes}

-- The arithmetic of a node that mixes (sum, gain, mean of both sides, left on both sides, or none), from the program's
-- type to that of the definitions of what a plan plays.
abbrev pub mixing_of : Mixer → Mixing
mixing_of (Adds normalize) = mixing.Adds normalize
mixing_of (Scales factor) = mixing.Scales factor.millionths
mixing_of Halves = mixing.Halves
mixing_of Doubles = mixing.Doubles
mixing_of Passes = mixing.Passes

-- The first of the cells that the children of a node offer at an instant, as a slot: what a node has at an instant,
-- here nothing where no child offers a cell.
abbrev pub front_of : List Cell → Slot
front_of [] = None
front_of (cell ∷ cells) = Some cell
