-- What stands in the box of a source.
use Rattle.std.specs.Prelude.{ℕ, max, Bool, nat_eq, if◌then◌else◌, true, false, List, [], ◌++◌, codes, decimal, slice_get}
use Rattle.std.specs.Option.{option_map_or}
use Rattle.plan_core.specs.declared.node.Op.{Op}
use Rattle.plan_core.specs.declared.node.Op.TheVariants.{Single, Playlist, Blank, Square, Fail, Fallback, Switch, Sequence, Rotate, Random, Add, Amplify, Mean, Stereo, Crossfade, Buffer, Clock}
use Rattle.plan_core.specs.declared.plan.Plan.{Plan}
use Rattle.plan_core.specs.declared.sink.BufferPlan.{BufferPlan}
use Rattle.clock_forcings.specs.Forcings.{id_or}
use Rattle.plan_blames.specs.Texts.{escaped}
use Rattle.plan_picture.specs.Numbers.{seconds, signed}

-- What the box of a `fallback` or `switch` says besides its name. One that may change its child within a track, and so
-- is not track-sensitive (`sensitive`), breaks its sources into tracks; of another nothing is said.
abbrev pub choice_words : (sensitive : Bool) → List ℕ
choice_words true = []
choice_words false = codes "\\nbreaks into tracks"

-- what the box of a playlist says before its file: that it is played once, unless it is played again and again
abbrev pub playlist_words : (again : Bool) → List ℕ
playlist_words true = codes "playlist\\n"
playlist_words false = codes "playlist (once)\\n"

-- what the box of a `blank` says: that it is silence, and how long its tracks last at this rate, where `track` is their
-- length in samples; one endless track (0) has no length
abbrev pub blank_words : (track rate : ℕ) → List ℕ
blank_words track rate = if nat_eq track 0 then codes "blank" else codes "blank\\ntracks of " ++ seconds track rate

-- what the box of an `add` says: whether it is a plain sum, which is not normalized
abbrev pub add_words : (normalize : Bool) → List ℕ
add_words true = codes "add"
add_words false = codes "add\\nsum"

-- what the box of a buffer's reader says of its start: how long the buffer collects before the reader begins to play
abbrev pub prefill : BufferPlan → (rate : ℕ) → List ℕ
prefill buffer rate = codes "\\nstarts at " ++ seconds (max 1 buffer.pre) rate

-- the prefill of the buffer of this number, as the box of its reader tells it; no text if the plan has no such buffer
abbrev pub size_words : Plan → (buffer : ℕ) → List ℕ
size_words plan buffer = option_map_or (λ size. prefill size plan.rate) (slice_get plan.buffers buffer) []

-- what the box of a buffer's reader says: the number of the buffer, and how long it collects before it is played
abbrev pub reader_words : Plan → (buffer : ℕ) → List ℕ
reader_words plan buffer = (codes "buffer " ++ decimal buffer) ++ size_words plan buffer

-- what stands in the box of source k of the plan: its operator, and below it the file that it plays, the number by
-- which it works, or how it was set
abbrev pub words : Plan → (k : ℕ) → Op → List ℕ
words plan k (Single file) = codes "single\\n" ++ escaped file
words plan k (Playlist file again) = playlist_words again ++ escaped file
words plan k (Blank track) = blank_words track plan.rate
words plan k (Square pitch) = codes "square\\n" ++ (signed pitch.millionths ++ codes " Hz")
words plan k Fail = codes "fail"
words plan k (Fallback sensitive) = codes "fallback" ++ choice_words sensitive
words plan k (Switch sensitive preds) = codes "switch" ++ choice_words sensitive
words plan k Sequence = codes "sequence"
words plan k Rotate = codes "rotate"
words plan k (Random seed) = codes "random\\nseed " ++ decimal seed
words plan k (Add normalize) = add_words normalize
words plan k (Amplify factor) = codes "amplify\\nby " ++ signed factor.millionths
words plan k Mean = codes "mean"
words plan k Stereo = codes "stereo"
words plan k (Crossfade overlap) = codes "crossfade\\n" ++ seconds overlap plan.rate
words plan k (Buffer buffer) = reader_words plan buffer
words plan k (Clock id) = codes "clock\\n" ++ escaped (id_or k id)
