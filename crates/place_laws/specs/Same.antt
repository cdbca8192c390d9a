-- What `liq` and `about` both say of a script is one thing: their definitions agree.
use Rattle.std.specs.Prelude.{◌≡◌, ℕ, Bool, Some, None, slice_get}
use Rattle.fallible_infer.specs.Infallible.{refuses}
use Rattle.plan_core.specs.declared.plan.Plan.{Plan}
use Rattle.plan_core.specs.declared.sink.SinkPlan.{SinkPlan}
use Rattle.wav_io.specs.declared.fault.WavFault.{WavFault}
use Rattle.track_library.specs.Loads.{rules_for}
use Rattle.stations.specs.Findings.{first_name, rules_of, sink_name}
use Rattle.refusal_lines.specs.Lines.{wav_number}
use Rattle.station_facts.specs.Files.{wav_number as told_number}
use Rattle.about_cli.specs.Told.{IsRefused, sizes}

-- the law that the two programs `liq` and `about` number the faults of WAV files alike: the number that `about` tells
-- is the one in the line E21 of `liq`
abbrev pub NumbersAgree : Type 0
NumbersAgree = (fault : WavFault) → told_number fault ≡ wav_number fault

-- the law that the program `about` looks at the audio files of a plan by the rules (rate, and how many bytes they may
-- have) by which `liq` loads them
abbrev pub RulesAgree : Type 0
RulesAgree = (plan : Plan) → rules_for plan sizes ≡ rules_of plan

-- The law that the picture of a plan marks an output as refused (it may fall silent) if `liq` refuses one: if the
-- picture marks none, there is no line E25. `mark` says which sources always offer something.
abbrev pub NoneIsNone : Type 0
NoneIsNone = (plan : Plan) (mark : ℕ → Bool) → IsRefused plan mark None → first_name (refuses mark) plan.sinks ≡ None

-- The law that the output k, which the picture of a plan marks as refused (it may fall silent), is the one whose name
-- stands in the line E25 of `liq`. `mark` says which sources always offer something.
abbrev pub OutputsAgree : Type 0
OutputsAgree = (plan : Plan) (mark : ℕ → Bool) (k : ℕ) (sink : SinkPlan) → IsRefused plan mark (Some k)
    → slice_get plan.sinks k ≡ Some sink → first_name (refuses mark) plan.sinks ≡ Some (sink_name sink)
