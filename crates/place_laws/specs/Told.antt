-- The place that a fault tells, and what that says of its line.
use Rattle.std.specs.Prelude.{◌≡◌, ◌<◌, ℕ, ◌+◌, ◌^◌, List, ◌++◌, length, codes, Option, Some, None, ⊤}
use Rattle.script_lex.specs.declared.token.LexFault.{LexFault}
use Rattle.script_lex.specs.declared.token.LexFault.TheVariants.{BadByte, UnclosedString, NumberTooLarge}
use Rattle.script_parse.specs.declared.fault.ParseFault.{ParseFault}
use Rattle.script_parse.specs.declared.fault.ParseFault.TheVariants.{Syntax, TooDeep}
use Rattle.typing_rules.specs.declared.fault.TypeFault.{TypeFault}
use Rattle.typing_rules.specs.declared.fault.TypeFault.TheVariants.{UnknownName, MissingArgument, ExtraArgument, RepeatedName, TypeClash}
use Rattle.script_values.specs.declared.fault.EvalFault.{EvalFault}
use Rattle.script_values.specs.declared.fault.EvalFault.TheVariants.{BadSetting, BadValue, TooMuchWork, SameOutput}
use Rattle.track_library.specs.declared.fault.LoadFault.{LoadFault}
use Rattle.track_library.specs.declared.fault.LoadFault.TheVariants.{Missing, BadAudio, FileTooLarge}
use Rattle.clock_infer.specs.declared.clock_map.ClockFault.{ClockFault}
use Rattle.clock_infer.specs.declared.clock_map.ClockFault.TheVariants.{TwoClocks, Nested}
use Rattle.script_plan.specs.declared.fault.ScriptFault.{ScriptFault}
use Rattle.script_plan.specs.declared.fault.ScriptFault.TheVariants.{Lex, Parse, Eval}
use Rattle.stations.specs.declared.fault.StationFault.{StationFault}
use Rattle.stations.specs.declared.fault.StationFault.TheVariants.{Files, FallibleOutput, Clocks, OutputTooLong}
use Rattle.refusal_lines.specs.declared.fault.Fault.{Fault}
use Rattle.refusal_lines.specs.declared.fault.Fault.TheVariants.{Script, SameFile, Station}
use Rattle.refusal_lines.specs.Lines.{line_of}
use Rattle.script_places.specs.Naming.{IsNamed}
use Rattle.script_places.specs.declared.named.Named.{Named}
use Rattle.script_places.specs.declared.named.Named.TheVariants.{Byte, Token, Statement, Source, Clash, Text, Fallible}

-- The place that a fault tells by a name in its line, such as that of a file: the part of the line from the end of
-- these words, with which it begins, to the end of the name.
abbrev pub behind : List ℕ → List ℕ → Option Named
behind words name = Some (Text (length words) (length words + length name))

-- the place in the script that a fault of the lexer tells: a byte, if it tells one
abbrev pub lex_place : LexFault → Option Named
lex_place (BadByte at) = Some (Byte at)
lex_place (UnclosedString at) = Some (Byte at)
lex_place (NumberTooLarge at) = Some (Byte at)
lex_place fault = None

-- the place in the script that a fault of the parser tells: a token, if it tells one
abbrev pub parse_place : ParseFault → Option Named
parse_place (Syntax at) = Some (Token at)
parse_place (TooDeep at) = Some (Token at)
parse_place fault = None

-- the place in the script that a fault of typing tells: a token, or the statement with the clash, if it tells one
abbrev pub type_place : TypeFault → Option Named
type_place (UnknownName stmt at) = Some (Token at)
type_place (MissingArgument stmt at label) = Some (Token at)
type_place (ExtraArgument stmt at) = Some (Token at)
type_place (RepeatedName stmt at) = Some (Token at)
type_place (TypeClash stmt) = Some (Clash stmt)
type_place fault = None

-- the place that a fault of evaluation tells: a token or statement of the script, or the name in the line of the fault
abbrev pub eval_place : EvalFault → Option Named
eval_place (BadSetting stmt) = Some (Statement stmt)
eval_place (BadValue stmt at) = Some (Token at)
eval_place (TooMuchWork stmt) = Some (Statement stmt)
eval_place (SameOutput name) = behind (codes "E18 two outputs ") name
eval_place fault = None

-- the place that any fault of a script tells, if it tells one: of the lexer, the parser, typing or evaluation
abbrev pub script_place : ScriptFault → Option Named
script_place (Lex fault) = lex_place fault
script_place (Parse fault) = parse_place fault
script_place (ScriptFault.Type fault) = type_place fault
script_place (Eval fault) = eval_place fault
script_place fault = None

-- the place that a fault of loading audio files tells: the file's name in the line of the fault, if the line has one
abbrev pub file_place : LoadFault → Option Named
file_place (Missing name) = behind (codes "E20 missing file ") name
file_place (BadAudio name fault) = behind (codes "E21 bad audio ") name
file_place (FileTooLarge name) = behind (codes "E23 file too large ") name
file_place fault = None

-- the place that a fault of clocks tells: the number of the source that is to blame, if it tells one
abbrev pub clock_place : ClockFault → Option Named
clock_place (TwoClocks node first second) = Some (Source node)
clock_place (Nested node) = Some (Source node)
clock_place fault = None

-- the place that a fault of a plan tells: of its files, its outputs (their names in the line), or its clocks
abbrev pub station_place : StationFault → Option Named
station_place (Files fault) = file_place fault
station_place (FallibleOutput name) = Some (Fallible 20 (20 + length name))
station_place (Clocks fault) = clock_place fault
station_place (OutputTooLong name) = behind (codes "E29 output too long ") name

-- the place that a fault tells, if it tells one
abbrev pub place_of : Fault → Option Named
place_of (Script fault) = script_place fault
place_of (SameFile name) = behind (codes "E18 two outputs ") name
place_of (Station fault) = station_place fault
place_of fault = None

-- the number in the place that a fault tells (of a byte, token, statement or source of the script) fits into 64 bits; a
-- part of the fault's line has no such bound
abbrev pub IsSmall : Named → Type 0
IsSmall (Byte n) = n < 2 ^ 64
IsSmall (Token n) = n < 2 ^ 64
IsSmall (Statement n) = n < 2 ^ 64
IsSmall (Source n) = n < 2 ^ 64
IsSmall (Clash n) = n < 2 ^ 64
IsSmall (Text from to) = ⊤
IsSmall (Fallible from to) = ⊤

-- What a program reads as a place out of the line of a fault is this one, provided that its number fits into 64 bits.
-- If there is none, no place can be read out of the line.
abbrev pub NamesIt : Option Named → List ℕ → Type 0
NamesIt None line = (named : Named) → IsNamed line named → ⊥
NamesIt (Some named) line = IsSmall named → IsNamed line named

-- the law of fault lines: the place that can be read out of the line of a fault, without its line end, is the one that
-- the fault itself tells
abbrev pub NamesItsPlace : Fault → Type 0
NamesItsPlace fault = (line : List ℕ) → line_of fault ≡ line ++ codes "\n" → NamesIt (place_of fault) line
