-- How many channels a kind has.
use Rattle.std.specs.Prelude.{ℕ}
use Rattle.liq_base.specs.declared.memory.Kind.{Kind}
use Rattle.liq_base.specs.declared.memory.Kind.TheVariants.{Mono, Stereo}

-- How many channels the sound of a source of this kind has: one for mono, two for stereo.
abbrev pub channels_of : Kind → ℕ
channels_of Mono = 1
channels_of Stereo = 2
