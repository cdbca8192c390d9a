-- What is passed on: the lines of an input, and behind each that names a place of a script the two lines that show it.
use Rattle.std.specs.Prelude.{◌≡◌, ◌≢◌, ◌≤◌, ℕ, List, [], ◌++◌, codes, Option, Some, None, IfSome, if◌then◌else◌}
use Rattle.std.specs.Io.BufRead.{drop_through, ends_with_byte, strip_last, take_through}
use Rattle.std.specs.Str.{IsUtf8}
use Rattle.liq_base.specs.Pieces.{SinkTold, grown}
use Rattle.script_places.specs.Naming.{IsNamed}
use Rattle.script_places.specs.Pointing.{pointer}
use Rattle.script_places.specs.declared.named.Named.{Named}
use Rattle.where_lines.specs.Beginning.{Begins, IsNowhere}

-- the bytes of a line of output without the line feed at its end, if it has one
abbrev pub told_of : List ℕ → List ℕ
told_of line = strip_last 10 line

-- the line feed that must be added behind a line that has none; else nothing
abbrev pub closing_of : List ℕ → List ℕ
closing_of line = if ends_with_byte 10 line then [] else codes "\n"

-- What is written behind a line of output: if it names a place that the script has, the two lines that show the place,
-- and else nothing. `file` is the script's name and `script` its text, if it is known.
pub data IsBehind (file : List ℕ) (script : Option (List ℕ)) (line : List ℕ) : List ℕ → Type 0 where
  NoScript : script ≡ None → IsBehind file script line []
  NoText : (IsUtf8 (told_of line) → ⊥) → IsBehind file script line []
  NoName : ((named : Named) → IsNamed (told_of line) named → ⊥) → IsBehind file script line []
  NoPlace : (text : List ℕ) (named : Named) → script ≡ Some text → IsUtf8 (told_of line) → IsNamed (told_of line) named
      → IsNowhere line text named → IsBehind file script line []
  Shown : (text : List ℕ) (named : Named) (at : ℕ) → script ≡ Some text → IsUtf8 (told_of line) → IsNamed (told_of line) named
      → Begins line text named at → IsBehind file script line (closing_of line ++ pointer file text at)

-- The lines of `input` before `rest` were passed on, and `told` is all that was written for them. That is each line,
-- and behind it the two lines that show the place in the script that it names, if it names one.
pub data Passes (file : List ℕ) (script : Option (List ℕ)) (input : List ℕ) : (rest told : List ℕ) → Type 0 where
  Begun : Passes file script input input []
  Line : (rest told behind : List ℕ) → rest ≢ [] → Passes file script input rest told
      → IsBehind file script (take_through 10 rest) behind
      → Passes file script input (drop_through 10 rest) (told ++ (take_through 10 rest ++ behind))

-- a sink took all of these bytes, in one piece or more; `old` and `new` are what it tells before and after
pub record TookAll (taken : List ℕ) (old new : SinkTold) : Type 0 where
  pub held_grew : new.held ≡ grown taken old.held
  pub room_kept : new.room ≡ old.room
  pub name_kept : new.name ≡ old.name
  pub faults_grew : old.faults ≤ new.faults

-- All lines of the input were passed on to a sink, each with the place in the script that it names, if it names one.
-- `old` and `new` are what the sink tells before and after. If the input is not known, some bytes were written.
abbrev pub AllPassed : (file : List ℕ) → (script : Option (List ℕ)) → (input : Option (List ℕ)) → (old new : SinkTold)
    → Type 0
AllPassed file script input old new = (told : List ℕ) × TookAll told old new
    × IfSome input (λ bytes. Passes file script bytes [] told)
