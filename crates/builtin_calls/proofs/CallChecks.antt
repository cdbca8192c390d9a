-- Worked rows on the definitions, by computation.
use Rattle.std.proofs.Common.{◌≡◌, ℕ, zero, suc, List, [], ◌∷◌, ◌++◌, pos, negsuc, true, false, Some, None, Ok, Err, refl}
use Rattle.std.specs.Prelude.{codes, replicate}
use Rattle.liq_base.specs.declared.memory.Kind.TheVariants.{Mono, Stereo}
use Rattle.plan_core.specs.declared.node.Node.{Node}
use Rattle.plan_core.specs.declared.node.Op.TheVariants as op
use Rattle.plan_core.specs.declared.sink.SinkPlan.TheVariants.{Output}
use Rattle.typing_rules.specs.declared.uses.Builtin.TheVariants as builtins
use Rattle.script_values.specs.declared.fault.Stop.TheVariants.{BadSetting, BadValue, SameOutput, TooLarge, Stuck}
use Rattle.script_values.specs.declared.fault.Limit.TheVariants.{Children, Crossfades, Overlap, Outputs}
use Rattle.script_values.specs.declared.machine.Machine.{Machine}
use Rattle.script_values.specs.Machines.{some_millionths, first_machine}
use Rattle.script_values.specs.Slots.{Argument}
use Rattle.script_values.specs.Values.{Value, Int, Number, TextValue, UnitValue, Source, ListValue, no_values, more_values}
use Rattle.plan_core.specs.Plans.{with_node}
use Rattle.builtin_calls.specs.Nodes.{few, push, add}
use Rattle.builtin_calls.specs.Parts.{as_int, as_text, as_decimal, source_of, sources_of, nodes_from, plain_argument, plain_text, plain_decimal, plain_source, plain_sources, bool_or, int_or, text_or, decimal_or}
use Rattle.builtin_calls.specs.Settings.{rate_of, set_rate, set_duration, setting}
use Rattle.builtin_calls.specs.Sinks.{add_output}
use Rattle.builtin_calls.specs.Times.{overlap_samples, track_of, pitch_of, samples_of}
use Rattle.builtin_calls.specs.Builtins.{node, blank, square, playlist, random, over_sources, few_sources, builtin, crossfade, short_overlap, buffer_plan}

-- 8000 samples a second
abbrev slow : Machine
slow = record first_machine { plan = record first_machine.plan { rate = 8000; frame = 8 } }

-- behind a statement that is no setting
abbrev later : Machine
later = record slow { settings = record slow.settings { allowed = false } }

abbrev labelled : List ℕ → Value → Argument
labelled label v = (Some label, v)

-- a setting that comes late is bad whatever its value is
late_setting : setting (codes "frame.duration") (Number (some_millionths 1000 tt)) later ≡ Err BadSetting
unfolding setting set_duration
late_setting = refl

slow_rate : setting (codes "frame.audio.samplerate") (Int (pos 7999)) slow ≡ Err BadSetting
unfolding setting set_rate rate_of
slow_rate = refl

rate_as_decimal : setting (codes "frame.audio.samplerate") (Number (some_millionths 8000000000 tt)) slow ≡ Err BadSetting
unfolding setting set_rate rate_of
rate_as_decimal = refl

-- any other key has no effect, also late
other_key : setting (codes "log.stdout") (Int (pos 1)) later ≡ Ok (UnitValue, later)
unfolding setting
other_key = refl

-- 0.0001 seconds are no sample at 8000 a second, and 0.000125 are one
no_sample : blank 7 (Mono ∷ []) (labelled (codes "duration") (Number (some_millionths 100 tt)) ∷ []) slow ≡ Err (BadValue 7)
unfolding blank decimal_or as_decimal track_of
no_sample = refl

one_sample : track_of 7 8000 (some_millionths 125 tt) ≡ Ok 1
unfolding track_of
one_sample = refl

endless : track_of 7 8000 (some_millionths 0 tt) ≡ Ok 0
unfolding track_of
endless = refl

no_pitch : square 7 (Mono ∷ []) ((None, Number (some_millionths 0 tt)) ∷ []) slow ≡ Err (BadValue 7)
unfolding square plain_decimal plain_argument as_decimal pitch_of
no_pitch = refl

random_mode : playlist 7 (Mono ∷ []) (labelled (codes "mode") (TextValue (codes "random")) ∷ (None, TextValue (codes "L")) ∷ []) slow ≡ Err (BadValue 7)
unfolding playlist bool_or text_or as_text plain_text plain_argument
random_mode = refl

-- a blank under so many crossfades
abbrev faded : ℕ → List Node
faded zero = node (op.Blank 0) Mono [] ∷ []
faded (suc n) = faded n ++ node (op.Crossfade 22) Mono (n ∷ []) ∷ []

abbrev under : ℕ → Machine
under n = record slow { plan = record slow.plan { nodes = faded n } }

-- the fifth crossfade of a path is too many, before its overlap is looked at
five_crossfades : crossfade 7 (Mono ∷ []) (labelled (codes "duration") (Number (some_millionths 999000000 tt)) ∷ (None, Source 4) ∷ []) (under 4) ≡ Err (TooLarge Crossfades)
unfolding crossfade decimal_or as_decimal plain_source plain_argument source_of short_overlap overlap_samples
five_crossfades = refl

-- and the fourth is not, so the overlap is told
long_overlap : crossfade 7 (Mono ∷ []) (labelled (codes "duration") (Number (some_millionths 999000000 tt)) ∷ (None, Source 3) ∷ []) (under 3) ≡ Err (TooLarge Overlap)
unfolding crossfade decimal_or as_decimal plain_source plain_argument source_of short_overlap overlap_samples
long_overlap = refl

-- a bad value comes before a limit
no_overlap : crossfade 7 (Mono ∷ []) (labelled (codes "duration") (Number (some_millionths 100 tt)) ∷ (None, Source 4) ∷ []) (under 4) ≡ Err (BadValue 7)
unfolding crossfade decimal_or as_decimal plain_source plain_argument source_of short_overlap overlap_samples
no_overlap = refl

-- a source of another kind is no value of this call
other_kind : crossfade 7 (Stereo ∷ []) ((None, Source 0) ∷ []) (under 0) ≡ Err Stuck
unfolding crossfade decimal_or as_decimal plain_source plain_argument source_of
other_kind = refl

-- `buffer(buffer=0., max=0.01, s)` at 8000 samples a second and ticks of 8 samples
small_buffer : buffer_plan 7 (some_millionths 0 tt) (some_millionths 10000 tt) slow.plan ≡ Ok (record { pre = 0; capacity = 10 })
unfolding buffer_plan samples_of
small_buffer = refl

-- `max=0.` is one chunk
least_buffer : buffer_plan 7 (some_millionths 0 tt) (some_millionths 0 tt) slow.plan ≡ Ok (record { pre = 0; capacity = 1 })
unfolding buffer_plan samples_of
least_buffer = refl

-- `[s]`, where s is the blank
abbrev blanks : Argument
blanks = (None, ListValue (more_values (Source 0) no_values))

-- a seed below zero is bad
negative_seed : random 7 (Mono ∷ []) (labelled (codes "seed") (Int (negsuc 0)) ∷ blanks ∷ []) (under 0) ≡ Err (BadValue 7)
unfolding random int_or as_int plain_sources plain_argument sources_of nodes_from source_of
negative_seed = refl

-- the seed is that of the argument, and 0 where none is given
a_seed : random 7 (Mono ∷ []) (blanks ∷ labelled (codes "seed") (Int (pos 12)) ∷ []) (under 0) ≡ Ok (Source 1, record (under 0) { plan = with_node (under 0).plan (node (op.Random 12) Mono (0 ∷ [])) })
unfolding random int_or as_int plain_sources plain_argument sources_of nodes_from source_of add push
a_seed = refl

no_seed : random 7 (Mono ∷ []) (blanks ∷ []) (under 0) ≡ Ok (Source 1, record (under 0) { plan = with_node (under 0).plan (node (op.Random 0) Mono (0 ∷ [])) })
unfolding random int_or plain_sources plain_argument sources_of nodes_from source_of add push
no_seed = refl

-- `rotate` is no `sequence`
by_turns : builtin builtins.Rotate 7 (Mono ∷ []) (blanks ∷ []) (under 0) ≡ Ok (Source 1, record (under 0) { plan = with_node (under 0).plan (node op.Rotate Mono (0 ∷ [])) })
unfolding builtin over_sources few_sources plain_sources plain_argument sources_of nodes_from source_of add push
by_turns = refl

many_children : few (replicate 65536 0) ≡ Err (TooLarge Children)
many_children = refl

all_children : few (replicate 65535 0) ≡ Ok (replicate 65535 0)
all_children = refl

-- outputs of one node
abbrev outputs : ℕ → Machine
outputs n = record slow { plan = record slow.plan { nodes = faded 0; sinks = replicate n (Output (codes "A") 0 true false) } }

-- the name is looked at before the number
same_name : add_output (codes "A") 0 false false (outputs 64) ≡ Err (SameOutput (codes "A"))
unfolding add_output
same_name = refl

outputs_65 : add_output (codes "B") 0 false true (outputs 64) ≡ Err (TooLarge Outputs)
unfolding add_output
outputs_65 = refl
