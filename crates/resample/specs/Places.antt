-- Places in a file, as whole numbers of parts.
use Rattle.std.specs.Prelude.{ℕ, ◌+◌, ◌*◌}
use Rattle.resample.specs.declared.place.Place.{Place}

-- a place in a file, which is the number of a block (a sample of each channel) and parts of it, as one number of parts;
-- a block has `to` parts, where `to` is the new rate
abbrev pub reached : ℕ → Place → ℕ
reached to place = place.block * to + place.part
