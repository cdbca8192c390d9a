-- The line of each fault, by its form.
use Rattle.std.proofs.Common.{◌≡◌, ℕ, ◌+◌, ◌-◌, ◌<◌, ◌^◌, List, [], ◌∷◌, ◌++◌, length, Option, Some, None, refl, sym, ap, ◌∙◌, arith, append_assoc, subst, codes, decimal}
use Rattle.std.proofs.lemmas.Fmt.{decimal_digit}
use Rattle.std.proofs.lemmas.List.{append_cancel_right, length-append}
use Rattle.script_lex.specs.declared.token.LexFault.{LexFault}
use Rattle.script_lex.specs.declared.token.LexFault.TheVariants.{BadByte, UnclosedString, NumberTooLarge, TextTooLong}
use Rattle.script_parse.specs.declared.fault.ParseFault.{ParseFault}
use Rattle.script_parse.specs.declared.fault.ParseFault.TheVariants.{Syntax, TooDeep}
use Rattle.typing_rules.specs.declared.fault.TypeFault.{TypeFault}
use Rattle.typing_rules.specs.declared.fault.TypeFault.TheVariants.{UnknownName, MissingArgument, ExtraArgument, RepeatedName, TypeClash}
use Rattle.script_values.specs.declared.fault.EvalFault.{EvalFault}
use Rattle.script_values.specs.declared.fault.EvalFault.TheVariants.{BadSetting, BadValue, TooMuchWork, TooManySources, NoOutput, SameOutput, TooLarge}
use Rattle.wav_io.specs.declared.fault.WavFault.{WavFault}
use Rattle.wav_io.specs.declared.fault.WavFault.TheVariants.{NotRiff, NoFormat, BadFormat, NotPcm, NoData, Empty}
use Rattle.track_library.specs.declared.fault.LoadFault.{LoadFault}
use Rattle.track_library.specs.declared.fault.LoadFault.TheVariants.{Missing, BadAudio, FileTooLarge, AllTooLarge, ReadFault}
use Rattle.clock_infer.specs.declared.clock_map.ClockFault.{ClockFault}
use Rattle.clock_infer.specs.declared.clock_map.ClockFault.TheVariants.{TwoClocks, Nested, TooManyClocks}
use Rattle.script_plan.specs.declared.fault.ScriptFault.{ScriptFault}
use Rattle.script_plan.specs.declared.fault.ScriptFault.TheVariants.{Lex, Parse, Eval}
use Rattle.stations.specs.declared.fault.StationFault.TheVariants.{Files, FallibleOutput, Clocks, OutputTooLong}
use Rattle.refusal_lines.specs.declared.fault.Fault.{Fault}
use Rattle.refusal_lines.specs.declared.fault.Fault.TheVariants.{NoScript, Script, SameFile, Station, Replay}
use Rattle.refusal_lines.specs.declared.replay_lines.ReplayFault.TheVariants.{NoTrace, TraceTooLarge, NotATrace, DoesNotFit}
use Rattle.refusal_lines.specs.Lines.{clock_in_words, limit_name, wav_number}
use Rattle.script_places.specs.Naming.{EndsIn, IsNumbered, Leads}
use Rattle.script_places.specs.declared.named.Named.{Named}
use Rattle.script_places.specs.declared.named.Named.TheVariants.{Byte, Token, Statement, Source, Clash, Text, Fallible}
use Rattle.place_laws.specs.Told.{NamesIt, NamesItsPlace}

-- ---- lines without their ends
three : (a b c z : List ℕ) → a ++ (b ++ (c ++ z)) ≡ (a ++ (b ++ c)) ++ z
three a b c z = sym (append_assoc a (b ++ c) z ∙ ap (λ l. a ++ l) (append_assoc b c z))

-- what is known of the line's text is known of the line
of_text : (told : Option Named) (text whole line : List ℕ) → whole ≡ text ++ codes "\n" → whole ≡ line ++ codes "\n" → NamesIt told text → NamesIt told line
of_text told text whole line is e names = subst (NamesIt told) (append_cancel_right text line (codes "\n") (sym is ∙ e)) names

no_line : {P : Type 0} (line : List ℕ) → [] ≡ line ++ codes "\n" → P
no_line [] e = absurd cc
no_line (b ∷ line) e = absurd cc

-- ---- numbers
numbered : (place : ℕ → Named) (Holds : ℕ → Type 0) (n : ℕ) → Holds n → n < 2 ^ 64 → IsNumbered place Holds (place n)
numbered place Holds n holds small = record { number = n; small = small; holds = holds; is = refl }

ends_at : (front words : List ℕ) (n : ℕ) → EndsIn words (front ++ (words ++ decimal n)) n
ends_at front words n = record { front = front; spelled = refl }

-- what stands before the words was put together from the left
ends_in_token : (front words : List ℕ) (n : ℕ) → EndsIn words (front ++ words ++ decimal n) n
ends_in_token front words n = record { front = front; spelled = append_assoc front words (decimal n) }

leads : (byte n : ℕ) (rest : List ℕ) → Leads byte (decimal n ++ byte ∷ rest) n
leads byte n rest = record { rest = rest; spelled = refl }

leads_text : (byte n : ℕ) (a rest : List ℕ) → Leads byte (decimal n ++ (byte ∷ a) ++ rest) n
leads_text byte n a rest = record { rest = a ++ rest; spelled = append_assoc (decimal n) (byte ∷ a) rest }

leads_clocks : (byte n : ℕ) (a first b second : List ℕ) → Leads byte (decimal n ++ (byte ∷ a) ++ first ++ b ++ second) n
leads_clocks byte n a first b second = record {
  rest = a ++ (first ++ (b ++ second));
  spelled = append_assoc (decimal n ++ (byte ∷ a) ++ first) b second ∙ append_assoc (decimal n ++ (byte ∷ a)) first (b ++ second)
      ∙ append_assoc (decimal n) (byte ∷ a) (first ++ (b ++ second));
}

-- ---- texts
text_is : (words name : List ℕ) → Text (length words) (length words + length name) ≡ Text (length words) (length (words ++ name) - 0)
text_is words name = ap (Text (length words)) (let long = length-append words name in omega (arith, long))

one_digit : (fault : WavFault) → length (decimal (wav_number fault)) ≡ 1
one_digit NotRiff = ap length (decimal_digit 1 (omega arith))
one_digit NoFormat = ap length (decimal_digit 2 (omega arith))
one_digit BadFormat = ap length (decimal_digit 3 (omega arith))
one_digit NotPcm = ap length (decimal_digit 4 (omega arith))
one_digit NoData = ap length (decimal_digit 5 (omega arith))
one_digit Empty = ap length (decimal_digit 6 (omega arith))

audio_is : (words name : List ℕ) (fault : WavFault)
    → Text (length words) (length words + length name) ≡ Text (length words) (length (words ++ name ++ codes ": " ++ decimal (wav_number fault)) - 3)
audio_is words name fault =
    let whole = length-append (words ++ name ++ codes ": ") (decimal (wav_number fault)) in
    let most = length-append (words ++ name) (codes ": ") in
    let front = length-append words name in
    let one = one_digit fault in
    ap (Text (length words)) (omega (arith, whole, most, front, one))

fallible_is : (words name : List ℕ) → Fallible (length words) (length words + length name) ≡ Fallible (length words) (length (words ++ name))
fallible_is words name = ap (Fallible (length words)) (let long = length-append words name in omega (arith, long))

-- ---- the faults
script_names : (fault : ScriptFault) → NamesItsPlace (Script fault)
script_names (Lex (BadByte at)) line e =
    of_text (Some (Byte at)) (codes "E02 bad byte at" ++ (codes " " ++ decimal at)) _ line (three (codes "E02 bad byte at") (codes " ") (decimal at) (codes "\n")) e
    (numbered Byte _ at (ends_at (codes "E02 bad byte") (codes " at ") at))
script_names (Lex (UnclosedString at)) line e =
    of_text (Some (Byte at)) (codes "E03 string not closed at" ++ (codes " " ++ decimal at)) _ line (three (codes "E03 string not closed at") (codes " ") (decimal at) (codes "\n")) e
    (numbered Byte _ at (ends_at (codes "E03 string not closed") (codes " at ") at))
script_names (Lex (NumberTooLarge at)) line e =
    of_text (Some (Byte at)) (codes "E04 number too large at" ++ (codes " " ++ decimal at)) _ line (three (codes "E04 number too large at") (codes " ") (decimal at) (codes "\n")) e
    (numbered Byte _ at (ends_at (codes "E04 number too large") (codes " at ") at))
script_names (Lex TextTooLong) line e = of_text None (codes "E05 script too long") _ line refl e (λ named h. h)
script_names (Lex LexFault.Memory) line e = no_line line e
script_names (Parse (Syntax at)) line e =
    of_text (Some (Token at)) (codes "E06 syntax at token" ++ (codes " " ++ decimal at)) _ line (three (codes "E06 syntax at token") (codes " ") (decimal at) (codes "\n")) e
    (numbered Token _ at (ends_at (codes "E06 syntax") (codes " at token ") at))
script_names (Parse (TooDeep at)) line e =
    of_text (Some (Token at)) (codes "E07 too deep at token" ++ (codes " " ++ decimal at)) _ line (three (codes "E07 too deep at token") (codes " ") (decimal at) (codes "\n")) e
    (numbered Token _ at (ends_at (codes "E07 too deep") (codes " at token ") at))
script_names (Parse ParseFault.Memory) line e = no_line line e
script_names (ScriptFault.Type (UnknownName stmt at)) line e =
    of_text (Some (Token at)) (codes "E08" ++ codes " statement " ++ decimal stmt ++ codes ": " ++ codes "unknown name" ++ codes " at token " ++ decimal at) _ line refl e
    (numbered Token _ at (ends_in_token (codes "E08" ++ codes " statement " ++ decimal stmt ++ codes ": " ++ codes "unknown name") (codes " at token ") at))
script_names (ScriptFault.Type (MissingArgument stmt at label)) line e =
    of_text (Some (Token at)) (codes "E09" ++ codes " statement " ++ decimal stmt ++ codes ": " ++ (codes "missing argument " ++ label) ++ codes " at token " ++ decimal at) _ line refl e
    (numbered Token _ at (ends_in_token (codes "E09" ++ codes " statement " ++ decimal stmt ++ codes ": " ++ (codes "missing argument " ++ label)) (codes " at token ") at))
script_names (ScriptFault.Type (ExtraArgument stmt at)) line e =
    of_text (Some (Token at)) (codes "E10" ++ codes " statement " ++ decimal stmt ++ codes ": " ++ codes "extra argument" ++ codes " at token " ++ decimal at) _ line refl e
    (numbered Token _ at (ends_in_token (codes "E10" ++ codes " statement " ++ decimal stmt ++ codes ": " ++ codes "extra argument") (codes " at token ") at))
script_names (ScriptFault.Type (RepeatedName stmt at)) line e =
    of_text (Some (Token at)) (codes "E11" ++ codes " statement " ++ decimal stmt ++ codes ": " ++ codes "repeated name" ++ codes " at token " ++ decimal at) _ line refl e
    (numbered Token _ at (ends_in_token (codes "E11" ++ codes " statement " ++ decimal stmt ++ codes ": " ++ codes "repeated name") (codes " at token ") at))
script_names (ScriptFault.Type (TypeClash stmt)) line e =
    of_text (Some (Clash stmt)) (codes "E12" ++ codes " statement " ++ decimal stmt ++ codes ": " ++ codes "types clash") _ line refl e
    (numbered Clash _ stmt (leads_text 58 stmt (codes " ") (codes "types clash")))
script_names (ScriptFault.Type TypeFault.Memory) line e = no_line line e
script_names (Eval (BadSetting stmt)) line e =
    of_text (Some (Statement stmt)) (codes "E13" ++ codes " statement " ++ decimal stmt ++ codes ": " ++ codes "bad setting") _ line refl e
    (numbered Statement _ stmt (leads_text 58 stmt (codes " ") (codes "bad setting")))
script_names (Eval (BadValue stmt at)) line e =
    of_text (Some (Token at)) (codes "E14" ++ codes " statement " ++ decimal stmt ++ codes ": " ++ codes "bad value" ++ codes " at token " ++ decimal at) _ line refl e
    (numbered Token _ at (ends_in_token (codes "E14" ++ codes " statement " ++ decimal stmt ++ codes ": " ++ codes "bad value") (codes " at token ") at))
script_names (Eval (TooMuchWork stmt)) line e =
    of_text (Some (Statement stmt)) (codes "E15" ++ codes " statement " ++ decimal stmt ++ codes ": " ++ codes "too much work") _ line refl e
    (numbered Statement _ stmt (leads_text 58 stmt (codes " ") (codes "too much work")))
script_names (Eval TooManySources) line e = of_text None (codes "E16 too many sources") _ line refl e (λ named h. h)
script_names (Eval NoOutput) line e = of_text None (codes "E17 no output") _ line refl e (λ named h. h)
script_names (Eval (SameOutput name)) line e =
    of_text (Some (Text 16 (16 + length name))) (codes "E18 two outputs" ++ (codes " " ++ name)) _ line (three (codes "E18 two outputs") (codes " ") name (codes "\n")) e
    (λ small. text_is (codes "E18 two outputs ") name)
script_names (Eval (TooLarge limit)) line e =
    of_text None (codes "E19 too large:" ++ (codes " " ++ limit_name limit)) _ line (three (codes "E19 too large:") (codes " ") (limit_name limit) (codes "\n")) e (λ named h. h)
script_names (Eval EvalFault.Memory) line e = no_line line e
script_names ScriptFault.Memory line e = no_line line e

file_names : (fault : LoadFault) → NamesItsPlace (Station (Files fault))
file_names (Missing name) line e =
    of_text (Some (Text 17 (17 + length name))) (codes "E20 missing file" ++ (codes " " ++ name)) _ line (three (codes "E20 missing file") (codes " ") name (codes "\n")) e
    (λ small. text_is (codes "E20 missing file ") name)
file_names (BadAudio name fault) line e =
    of_text (Some (Text 14 (14 + length name))) (codes "E21 bad audio" ++ codes " " ++ name ++ codes ": " ++ decimal (wav_number fault)) _ line refl e
    (λ small. audio_is (codes "E21 bad audio ") name fault)
file_names (FileTooLarge name) line e =
    of_text (Some (Text 19 (19 + length name))) (codes "E23 file too large" ++ (codes " " ++ name)) _ line (three (codes "E23 file too large") (codes " ") name (codes "\n")) e
    (λ small. text_is (codes "E23 file too large ") name)
file_names AllTooLarge line e = of_text None (codes "E24 files too large") _ line refl e (λ named h. h)
file_names (ReadFault name) line e = no_line line e
file_names LoadFault.Memory line e = no_line line e

clock_names : (fault : ClockFault) → NamesItsPlace (Station (Clocks fault))
clock_names (TwoClocks node first second) line e =
    of_text (Some (Source node)) (codes "E26 source" ++ codes " " ++ decimal node ++ codes " under clocks " ++ clock_in_words first ++ codes " and " ++ clock_in_words second) _ line refl e
    (numbered Source _ node (leads_clocks 32 node (codes "under clocks ") (clock_in_words first) (codes " and ") (clock_in_words second)))
clock_names (Nested node) line e =
    of_text (Some (Source node)) (codes "E27 crossfade " ++ (decimal node ++ codes " lies in its own clock")) _ line
    (three (codes "E27 crossfade ") (decimal node) (codes " lies in its own clock") (codes "\n")) e
    (numbered Source _ node (leads 32 node (codes "lies in its own clock")))
clock_names TooManyClocks line e = of_text None (codes "E28 too many clocks") _ line refl e (λ named h. h)
clock_names ClockFault.Memory line e = no_line line e

pub names_its_place : (fault : Fault) → NamesItsPlace fault
names_its_place NoScript line e = of_text None (codes "E01 no script") _ line refl e (λ named h. h)
names_its_place (Script fault) line e = script_names fault line e
names_its_place (SameFile name) line e =
    of_text (Some (Text 16 (16 + length name))) (codes "E18 two outputs" ++ (codes " " ++ name)) _ line (three (codes "E18 two outputs") (codes " ") name (codes "\n")) e
    (λ small. text_is (codes "E18 two outputs ") name)
names_its_place (Station (Files fault)) line e = file_names fault line e
names_its_place (Station (FallibleOutput name)) line e =
    of_text (Some (Fallible 20 (20 + length name))) (codes "E25 fallible output" ++ (codes " " ++ name)) _ line (three (codes "E25 fallible output") (codes " ") name (codes "\n")) e
    (λ small. fallible_is (codes "E25 fallible output ") name)
names_its_place (Station (Clocks fault)) line e = clock_names fault line e
names_its_place (Station (OutputTooLong name)) line e =
    of_text (Some (Text 20 (20 + length name))) (codes "E29 output too long" ++ (codes " " ++ name)) _ line (three (codes "E29 output too long") (codes " ") name (codes "\n")) e
    (λ small. text_is (codes "E29 output too long ") name)
names_its_place (Replay (NoTrace name)) line e = of_text None (codes "E30 no trace" ++ (codes " " ++ name)) _ line (three (codes "E30 no trace") (codes " ") name (codes "\n")) e (λ named h. h)
names_its_place (Replay (TraceTooLarge name)) line e = of_text None (codes "E31 trace too large" ++ (codes " " ++ name)) _ line (three (codes "E31 trace too large") (codes " ") name (codes "\n")) e (λ named h. h)
names_its_place (Replay (NotATrace at)) line e =
    of_text None (codes "E32 not a trace: line" ++ (codes " " ++ decimal at)) _ line (three (codes "E32 not a trace: line") (codes " ") (decimal at) (codes "\n")) e (λ named h. h)
names_its_place (Replay DoesNotFit) line e = of_text None (codes "E33 trace does not fit") _ line refl e (λ named h. h)
