-- The line of each fault, with its line end. `docs/faults.md` has the table.
use Rattle.std.specs.Prelude.{ℕ, List, [], ◌++◌, codes, decimal}
use Rattle.script_lex.specs.declared.token.LexFault.{LexFault}
use Rattle.script_lex.specs.declared.token.LexFault.TheVariants.{BadByte, UnclosedString, NumberTooLarge, TextTooLong}
use Rattle.script_parse.specs.declared.fault.ParseFault.{ParseFault}
use Rattle.script_parse.specs.declared.fault.ParseFault.TheVariants.{Syntax, TooDeep}
use Rattle.typing_rules.specs.declared.fault.TypeFault.{TypeFault}
use Rattle.typing_rules.specs.declared.fault.TypeFault.TheVariants.{UnknownName, MissingArgument, ExtraArgument, RepeatedName, TypeClash}
use Rattle.script_values.specs.declared.fault.Limit.{Limit}
use Rattle.script_values.specs.declared.fault.Limit.TheVariants.{Calls, Outputs, Children, Crossfades, Overlap, Prefill, Capacity}
use Rattle.script_values.specs.declared.fault.EvalFault.{EvalFault}
use Rattle.script_values.specs.declared.fault.EvalFault.TheVariants.{BadSetting, BadValue, TooMuchWork, TooManySources, NoOutput, SameOutput, TooLarge}
use Rattle.wav_io.specs.declared.fault.WavFault.{WavFault}
use Rattle.wav_io.specs.declared.fault.WavFault.TheVariants.{NotRiff, NoFormat, BadFormat, NotPcm, NoData, Empty}
use Rattle.track_library.specs.declared.fault.LoadFault.{LoadFault}
use Rattle.track_library.specs.declared.fault.LoadFault.TheVariants.{Missing, BadAudio, FileTooLarge, AllTooLarge, ReadFault}
use Rattle.clock_infer.specs.declared.clock_map.ClockName.{ClockName}
use Rattle.clock_infer.specs.declared.clock_map.ClockName.TheVariants.{Named, Sub, AnyMain}
use Rattle.clock_infer.specs.declared.clock_map.ClockFault.{ClockFault}
use Rattle.clock_infer.specs.declared.clock_map.ClockFault.TheVariants.{TwoClocks, Nested, TooManyClocks}
use Rattle.script_plan.specs.declared.fault.ScriptFault.{ScriptFault}
use Rattle.script_plan.specs.declared.fault.ScriptFault.TheVariants.{Lex, Parse, Eval}
use Rattle.stations.specs.declared.fault.StationFault.{StationFault}
use Rattle.stations.specs.declared.fault.StationFault.TheVariants.{Files, FallibleOutput, Clocks, OutputTooLong}
use Rattle.refusal_lines.specs.declared.fault.Fault.{Fault}
use Rattle.refusal_lines.specs.declared.fault.Fault.TheVariants.{NoScript, Script, SameFile, Station, Replay}
use Rattle.refusal_lines.specs.declared.replay_lines.ReplayFault.{ReplayFault}
use Rattle.refusal_lines.specs.declared.replay_lines.ReplayFault.TheVariants.{NoTrace, TraceTooLarge, NotATrace, DoesNotFit}
use Rattle.refusal_lines.specs.Forms.{at_place, at_statement, at_token, of_audio, of_clocks, of_name}

-- the line that is printed for a script whose bytes are no tokens; none for want of memory, which is no refusal
abbrev pub token_line : LexFault → List ℕ
token_line (BadByte at) = at_place (codes "E02 bad byte at") at
token_line (UnclosedString at) = at_place (codes "E03 string not closed at") at
token_line (NumberTooLarge at) = at_place (codes "E04 number too large at") at
token_line TextTooLong = codes "E05 script too long\n"
token_line LexFault.Memory = []

-- the line that is printed for a script whose tokens follow no rule of the grammar; none for want of memory
abbrev pub syntax_line : ParseFault → List ℕ
syntax_line (Syntax at) = at_place (codes "E06 syntax at token") at
syntax_line (TooDeep at) = at_place (codes "E07 too deep at token") at
syntax_line ParseFault.Memory = []

-- the line that is printed for a script whose names, arguments or types are wrong; none for want of memory
abbrev pub type_line : TypeFault → List ℕ
type_line (UnknownName stmt at) = at_token (codes "E08") stmt (codes "unknown name") at
type_line (MissingArgument stmt at label) = at_token (codes "E09") stmt (codes "missing argument " ++ label) at
type_line (ExtraArgument stmt at) = at_token (codes "E10") stmt (codes "extra argument") at
type_line (RepeatedName stmt at) = at_token (codes "E11") stmt (codes "repeated name") at
type_line (TypeClash stmt) = at_statement (codes "E12") stmt (codes "types clash")
type_line TypeFault.Memory = []

-- the word by which a printed line calls a limit of the language
abbrev pub limit_name : Limit → List ℕ
limit_name Calls = codes "calls"
limit_name Outputs = codes "outputs"
limit_name Children = codes "children"
limit_name Crossfades = codes "crossfades"
limit_name Overlap = codes "overlap"
limit_name Prefill = codes "prefill"
limit_name Capacity = codes "capacity"

-- the line that is printed for a script whose evaluation makes no plan; none for want of memory
abbrev pub plan_line : EvalFault → List ℕ
plan_line (BadSetting stmt) = at_statement (codes "E13") stmt (codes "bad setting")
plan_line (BadValue stmt at) = at_token (codes "E14") stmt (codes "bad value") at
plan_line (TooMuchWork stmt) = at_statement (codes "E15") stmt (codes "too much work")
plan_line TooManySources = codes "E16 too many sources\n"
plan_line NoOutput = codes "E17 no output\n"
plan_line (SameOutput name) = of_name (codes "E18 two outputs") name
plan_line (TooLarge limit) = of_name (codes "E19 too large:") (limit_name limit)
plan_line EvalFault.Memory = []

-- the number that a printed line gives for what is wrong with a WAV file
abbrev pub wav_number : WavFault → ℕ
wav_number NotRiff = 1
wav_number NoFormat = 2
wav_number BadFormat = 3
wav_number NotPcm = 4
wav_number NoData = 5
wav_number Empty = 6

-- the line that is printed for a plan whose audio files cannot be played; none for a read that failed or want of
-- memory, which are no refusals
abbrev pub file_line : LoadFault → List ℕ
file_line (Missing name) = of_name (codes "E20 missing file") name
file_line (BadAudio name fault) = of_audio (codes "E21 bad audio") name (wav_number fault)
file_line (FileTooLarge name) = of_name (codes "E23 file too large") name
file_line AllTooLarge = codes "E24 files too large\n"
file_line (ReadFault name) = []
file_line LoadFault.Memory = []

-- how a printed line calls a clock in which a source must lie: by its id, its crossfade or as that of an output
abbrev pub clock_in_words : ClockName → List ℕ
clock_in_words (Named id) = id
clock_in_words (Sub node) = codes "crossfade " ++ decimal node
clock_in_words AnyMain = codes "an output"

-- the line that is printed for a plan whose sources can have no clocks; none for want of memory
abbrev pub clock_line : ClockFault → List ℕ
clock_line (TwoClocks node first second) = of_clocks (codes "E26 source") node (clock_in_words first)
    (clock_in_words second)
clock_line (Nested node) = codes "E27 crossfade " ++ decimal node ++ codes " lies in its own clock\n"
clock_line TooManyClocks = codes "E28 too many clocks\n"
clock_line ClockFault.Memory = []

-- the line that is printed for a script that has no plan, by the step that failed; none for want of memory
abbrev pub script_line : ScriptFault → List ℕ
script_line (Lex fault) = token_line fault
script_line (Parse fault) = syntax_line fault
script_line (ScriptFault.Type fault) = type_line fault
script_line (Eval fault) = plan_line fault
script_line ScriptFault.Memory = []

-- the line that is printed for a plan that cannot be rendered: for its files, its clocks or an output
abbrev pub station_line : StationFault → List ℕ
station_line (Files fault) = file_line fault
station_line (FallibleOutput name) = of_name (codes "E25 fallible output") name
station_line (Clocks fault) = clock_line fault
station_line (OutputTooLong name) = of_name (codes "E29 output too long") name

-- the line that is printed for a trace from which nothing can be rendered again
abbrev pub replay_line : ReplayFault → List ℕ
replay_line (NoTrace name) = of_name (codes "E30 no trace") name
replay_line (TraceTooLarge name) = of_name (codes "E31 trace too large") name
replay_line (NotATrace line) = at_place (codes "E32 not a trace: line") line
replay_line DoesNotFit = codes "E33 trace does not fit\n"

-- the line that is printed for any refusal, with its line end
abbrev pub line_of : Fault → List ℕ
line_of NoScript = codes "E01 no script\n"
line_of (Script fault) = script_line fault
line_of (SameFile name) = of_name (codes "E18 two outputs") name
line_of (Station fault) = station_line fault
line_of (Replay fault) = replay_line fault
