-- The samples of a track, as numbers, as they stand in a file, or made where they are read.
use Rattle.std.specs.Prelude.{◌≡◌, ◌≤◌, ◌+◌, ℤ, ⊤, List, length, take, drop}
use Rattle.liq_base.specs.declared.memory.Kind.{Kind}
use Rattle.frame_core.specs.Bytes.{samples_from}
use Rattle.frame_core.specs.declared.track.Held.{Held}
use Rattle.frame_core.specs.declared.track.Held.TheVariants.{Numbers, Bytes, OtherRate}

-- the samples of a track, left before right where it is stereo, however they are held: as numbers, as bytes of the
-- file, or made from a file at another rate
abbrev pub samples_held : Held → List ℤ
samples_held (Numbers samples) = samples.items
samples_held (Bytes raw) = samples_from (take raw.size (drop raw.from raw.bytes.items))
samples_held (OtherRate changed) = changed.samples

-- If a track's samples stand as bytes of a file, the stretch of bytes that holds them lies within the file. Of samples
-- that are held in another way nothing is claimed.
abbrev pub are_inside : Held → Type 0
are_inside (Numbers samples) = ⊤
are_inside (Bytes raw) = raw.from + raw.size ≤ length raw.bytes.items
are_inside (OtherRate changed) = ⊤

-- If a track is made from a file at another rate, that file is mono or stereo as `kind` says. Of samples that are held
-- in another way nothing is claimed.
abbrev pub are_of : Kind → Held → Type 0
are_of kind (Numbers samples) = ⊤
are_of kind (Bytes raw) = ⊤
are_of kind (OtherRate changed) = changed.kind ≡ kind
