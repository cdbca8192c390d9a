-- The builtin calls: values out of the arguments, then bad values, then limits in their order, then what is added.
-- `at` is the token of the call's name, and `kinds` are its open kinds.
use Rattle.std.specs.Prelude.{ℕ, ℤ, pos, int_lt, unsigned_abs, List, [], ◌∷◌, Bool, true, false, bytes_eq, codes, Result, Ok, Err}
use Rattle.liq_base.specs.declared.limits.TheConstants.{MAX_OVERLAP, MAX_PREFILL, MAX_CAPACITY, MAX_CROSSFADES}
use Rattle.liq_base.specs.declared.memory.Kind.{Kind}
use Rattle.liq_base.specs.declared.memory.Kind.TheVariants.{Mono}
use Rattle.plan_core.specs.declared.node.Node.{Node}
use Rattle.plan_core.specs.declared.node.Op.{Op}
use Rattle.plan_core.specs.declared.node.Op.TheVariants as op
use Rattle.plan_core.specs.declared.plan.Plan.{Plan}
use Rattle.plan_core.specs.declared.sink.BufferPlan.{BufferPlan}
use Rattle.time_pred.specs.Predicates.{Predicate}
use Rattle.fixed_text.specs.declared.decimal.Decimal.{Decimal}
use Rattle.typing_rules.specs.declared.uses.Builtin.{Builtin}
use Rattle.typing_rules.specs.declared.uses.Builtin.TheVariants as builtins
use Rattle.script_values.specs.declared.fault.Stop.{Stop}
use Rattle.script_values.specs.declared.fault.Stop.TheVariants.{BadValue}
use Rattle.script_values.specs.declared.fault.Limit.TheVariants.{Crossfades, Overlap, Prefill, Capacity}
use Rattle.script_values.specs.declared.machine.Machine.{Machine}
use Rattle.script_values.specs.Machines.{some_millionths}
use Rattle.script_values.specs.Outcomes.{◌>>=◌, Outcome}
use Rattle.script_values.specs.Slots.{Argument}
use Rattle.builtin_calls.specs.Parts.{one_kind, plain_argument, plain_text, plain_decimal, plain_format, plain_source, plain_sources, plain_pairs, bool_or, int_or, text_or, decimal_or}
use Rattle.builtin_calls.specs.Nodes.{at_most, few, crossfades_with, add, push, add_buffer}
use Rattle.builtin_calls.specs.Times.{overlap_samples, track_of, samples_of, pitch_of, chunks}
use Rattle.builtin_calls.specs.Sinks.{add_output}
use Rattle.builtin_calls.specs.Settings.{setting}

-- A node of the plan from its three parts: its operator, its kind (mono or stereo), and its children, the numbers of
-- the nodes that it plays from.
abbrev pub node : Op → Kind → List ℕ → Node
node o k children = record { op = o; kind = k; children = children }

-- What a call of `output.file(fallible=false, format, name, s)` comes to: the state gets an output that writes the
-- source `s` to the file of this name. `kinds` has the channel kind of `s`.
unfoldable pub output_file : List Kind → List Argument → Machine → Outcome
output_file kinds given m = do
  fallible ← bool_or (codes "fallible") false given
  format ← plain_format fallible.1
  name ← plain_text format.1
  k ← one_kind kinds
  s ← plain_source m.plan.nodes k name.1
  add_output name.0 s.0 fallible.0 format.0 m

-- What a call of `set(key, value)` comes to: the setting of this key, such as the sample rate, gets this value.
unfoldable pub set : List Argument → Machine → Outcome
set given m = do
  key ← plain_text given
  value ← plain_argument key.1
  setting key.0 value.0 m

-- What a call of `single(file)` comes to: the plan gets a node that plays one audio file again and again, and the value
-- is this source.
unfoldable pub single : List Kind → List Argument → Machine → Outcome
single kinds given m = do
  file ← plain_text given
  k ← one_kind kinds
  add (node (op.Single file.0) k []) m

-- Checks the `mode` of a playlist: it must be "normal", and any other is the fault of a bad value at token `at`, the
-- name of the call.
abbrev pub is_normal : ℕ → List ℕ → Result (Unit {0}) Stop
is_normal at mode =
    elim (bytes_eq mode (codes "normal")) [
      | true ↦ Ok tt
      | false ↦ Err (BadValue at)
    ]

-- What a call of `playlist(loop=true, mode="normal", file)` comes to: the plan gets a node that plays the audio files
-- listed in `file`. `at` is the token of the call's name, for faults.
unfoldable pub playlist : ℕ → List Kind → List Argument → Machine → Outcome
playlist at kinds given m = do
  again ← bool_or (codes "loop") true given
  mode ← text_or (codes "mode") (codes "normal") again.1
  file ← plain_text mode.1
  k ← one_kind kinds
  normal ← is_normal at mode.0
  add (node (op.Playlist file.0 again.0) k []) m

-- What a call of `blank(duration=0.)` comes to: the plan gets a node that plays silence, in tracks of this many
-- seconds; one endless track where it is not above 0.
unfoldable pub blank : ℕ → List Kind → List Argument → Machine → Outcome
blank at kinds given m = do
  duration ← decimal_or (codes "duration") (some_millionths 0 tt) given
  k ← one_kind kinds
  track ← track_of at m.plan.rate duration.0
  add (node (op.Blank track) k []) m

-- What a call of `square(f)` comes to: the plan gets a node that plays a square wave of f hertz. `at` is the token of
-- the call's name, for faults.
unfoldable pub square : ℕ → List Kind → List Argument → Machine → Outcome
square at kinds given m = do
  f ← plain_decimal given
  k ← one_kind kinds
  pitch ← pitch_of at f.0
  add (node (op.Square pitch) k []) m

-- What a call of `fail()` comes to: the plan gets a node that never has anything to play, and the value is this source.
unfoldable pub fail : List Kind → Machine → Outcome
fail kinds m = do
  k ← one_kind kinds
  add (node op.Fail k []) m

-- Reads the first argument without a label as a list of sources of kind k, and gives the numbers of their nodes. More
-- than 65535 are a fault.
unfoldable pub few_sources : List Node → Kind → List Argument → Result (List ℕ) Stop
few_sources nodes k given = do
  sources ← plain_sources nodes k given
  few sources.0

-- Reads the first argument without a label as the cases of a `switch`, each a predicate of time and a source of kind k.
-- Gives all predicates, and the nodes of all sources, at most 65535.
unfoldable pub few_pairs : List Node → Kind → List Argument → Result (List Predicate × List ℕ) Stop
few_pairs nodes k given = do
  pairs ← plain_pairs nodes k given
  children ← few pairs.0.1
  Ok (pairs.0.0, children)

-- Reads the argument `track_sensitive`, true where it is missing: whether a selection changes its child only where a
-- track ends. Gives it with the arguments that are left.
unfoldable pub sensitive_or : List Argument → Result (Bool × List Argument) Stop
sensitive_or given = bool_or (codes "track_sensitive") true given

-- What a call comes to whose one argument is a list of sources, such as `sequence` or `rotate`: the plan gets a node of
-- operator `o` that reads these sources.
unfoldable pub over_sources : Op → List Kind → List Argument → Machine → Outcome
over_sources o kinds given m = do
  k ← one_kind kinds
  children ← few_sources m.plan.nodes k given
  add (node o k children) m

-- What a call of `fallback(track_sensitive=true, sources)` comes to: the plan gets a node that plays the first of the
-- sources that is ready.
unfoldable pub fallback : List Kind → List Argument → Machine → Outcome
fallback kinds given m = do
  sensitive ← sensitive_or given
  over_sources (op.Fallback sensitive.0) kinds sensitive.1 m

-- What a call of `switch(track_sensitive=true, pairs)` comes to: the plan gets a node that plays the first source that
-- is ready and whose predicate of time holds.
unfoldable pub switch : List Kind → List Argument → Machine → Outcome
switch kinds given m = do
  sensitive ← sensitive_or given
  k ← one_kind kinds
  pairs ← few_pairs m.plan.nodes k sensitive.1
  add (node (op.Switch sensitive.0 pairs.0) k pairs.1) m

-- The seed of a `random` from the int n that a script gives. An n below zero is the fault of a bad value at token `at`,
-- the name of the call.
abbrev pub seed_of : ℕ → ℤ → Result ℕ Stop
seed_of at n =
    elim (int_lt n (pos 0)) [
      | true ↦ Err (BadValue at)
      | false ↦ Ok (unsigned_abs n)
    ]

-- What a call of `random(seed=0, sources)` comes to: the plan gets a node that draws one of the sources for each track,
-- by numbers that follow from the seed.
unfoldable pub random : ℕ → List Kind → List Argument → Machine → Outcome
random at kinds given m = do
  number ← int_or (codes "seed") (pos 0) given
  k ← one_kind kinds
  sources ← plain_sources m.plan.nodes k number.1
  seed ← seed_of at number.0
  children ← few sources.0
  add (node (op.Random seed) k children) m

-- What a call of `add(normalize=true, sources)` comes to: the plan gets a node that mixes these sources, as their mean
-- where `normalize` is true and else as their sum.
unfoldable pub add_sources : List Kind → List Argument → Machine → Outcome
add_sources kinds given m = do
  normalize ← bool_or (codes "normalize") true given
  over_sources (op.Add normalize.0) kinds normalize.1 m

-- What a call of `amplify(k, s)` comes to: the plan gets a node that multiplies each sample of the source `s` by the
-- factor `k`.
unfoldable pub amplify : List Kind → List Argument → Machine → Outcome
amplify kinds given m = do
  factor ← plain_decimal given
  k ← one_kind kinds
  s ← plain_source m.plan.nodes k factor.1
  add (node (op.Amplify factor.0) k (s.0 ∷ [])) m

-- What a call of `mean(s)` comes to: the plan gets a mono node that averages both sides of the stereo source `s`.
unfoldable pub mean : List Argument → Machine → Outcome
mean given m = do
  s ← plain_source m.plan.nodes Kind.Stereo given
  add (node op.Mean Mono (s.0 ∷ [])) m

-- What a call of `stereo(s)` comes to: the plan gets a stereo node that plays the mono source `s` on both sides.
unfoldable pub stereo : List Argument → Machine → Outcome
stereo given m = do
  s ← plain_source m.plan.nodes Mono given
  add (node op.Stereo Kind.Stereo (s.0 ∷ [])) m

-- The overlap of a crossfade of node s, from seconds to samples. It is a fault, where the overlap is too long or a path
-- down from the crossfade has more than 4 crossfades. `at` is the token of the call's name.
unfoldable pub short_overlap : ℕ → ℕ → Decimal → Plan → Result ℕ Stop
short_overlap at s duration plan = do
  overlap ← overlap_samples at plan.rate duration
  crossfades ← at_most MAX_CROSSFADES Crossfades (crossfades_with s plan)
  at_most MAX_OVERLAP Overlap overlap

-- What a call of `crossfade(duration=5., s)` comes to: the plan gets a node that mixes the begin of each track of `s`
-- into the end of the one before, over this many seconds.
unfoldable pub crossfade : ℕ → List Kind → List Argument → Machine → Outcome
crossfade at kinds given m = do
  duration ← decimal_or (codes "duration") (some_millionths 5000000 tt) given
  k ← one_kind kinds
  s ← plain_source m.plan.nodes k duration.1
  overlap ← short_overlap at s.0 duration.0 m.plan
  add (node (op.Crossfade overlap) k (s.0 ∷ [])) m

-- Makes the source of node s infallible: adds an endless blank of kind k, and a fallback that plays s while it is ready
-- and else the blank. The value is the fallback.
unfoldable pub safe : Kind → ℕ → Machine → Outcome
safe k s m = do
  silence ← push (node (op.Blank 0) k []) m
  add (node (op.Fallback false) k (s ∷ silence.0 ∷ [])) silence.1

-- What a call of `mksafe(s)` comes to: a source that plays `s` while it is ready, and silence while it is not.
unfoldable pub mksafe : List Kind → List Argument → Machine → Outcome
mksafe kinds given m = do
  k ← one_kind kinds
  s ← plain_source m.plan.nodes k given
  safe k s.0 m

-- The sizes of a buffer, from two times in seconds: the samples that its reader collects before it plays (`held`), and
-- how many chunks it holds at most (`most`). Times below zero or beyond the limits are faults.
unfoldable pub buffer_plan : ℕ → Decimal → Decimal → Plan → Result BufferPlan Stop
buffer_plan at held most plan = do
  pre ← samples_of at plan.rate held
  room ← samples_of at plan.rate most
  prefill ← at_most MAX_PREFILL Prefill pre
  capacity ← at_most MAX_CAPACITY Capacity (chunks room plan.frame)
  Ok (record { pre = prefill; capacity = capacity })

-- What a call of `buffer(buffer=1., max=10., s)` comes to: the plan gets a buffer, a sink that feeds it from `s`, and a
-- node that reads it. The value is the reader.
unfoldable pub buffer : ℕ → List Kind → List Argument → Machine → Outcome
buffer at kinds given m = do
  held ← decimal_or (codes "buffer") (some_millionths 1000000 tt) given
  most ← decimal_or (codes "max") (some_millionths 10000000 tt) held.1
  k ← one_kind kinds
  s ← plain_source m.plan.nodes k most.1
  made ← buffer_plan at held.0 most.0 m.plan
  add_buffer s.0 k made m

-- What a call of `clock(id="", s)` comes to: the plan gets a node that passes `s` on and sets it in the clock of this
-- id.
unfoldable pub clock : List Kind → List Argument → Machine → Outcome
clock kinds given m = do
  id ← text_or (codes "id") [] given
  k ← one_kind kinds
  s ← plain_source m.plan.nodes k id.1
  add (node (op.Clock id.0) k (s.0 ∷ [])) m

-- What a call of any builtin comes to: its value and the state after it, or why evaluation stops. `at` is the token of
-- its name, and `kinds` has the channel kinds that typing found for it.
unfoldable pub builtin : Builtin → ℕ → List Kind → List Argument → Machine → Outcome
builtin builtins.OutputFile at kinds given m = output_file kinds given m
builtin builtins.Set at kinds given m = set given m
builtin builtins.Single at kinds given m = single kinds given m
builtin builtins.Playlist at kinds given m = playlist at kinds given m
builtin builtins.Blank at kinds given m = blank at kinds given m
builtin builtins.Square at kinds given m = square at kinds given m
builtin builtins.Fail at kinds given m = fail kinds m
builtin builtins.Fallback at kinds given m = fallback kinds given m
builtin builtins.Switch at kinds given m = switch kinds given m
builtin builtins.Sequence at kinds given m = over_sources op.Sequence kinds given m
builtin builtins.Rotate at kinds given m = over_sources op.Rotate kinds given m
builtin builtins.Random at kinds given m = random at kinds given m
builtin builtins.Add at kinds given m = add_sources kinds given m
builtin builtins.Amplify at kinds given m = amplify kinds given m
builtin builtins.Mean at kinds given m = mean given m
builtin builtins.Stereo at kinds given m = stereo given m
builtin builtins.Crossfade at kinds given m = crossfade at kinds given m
builtin builtins.Mksafe at kinds given m = mksafe kinds given m
builtin builtins.Buffer at kinds given m = buffer at kinds given m
builtin builtins.Clock at kinds given m = clock kinds given m
