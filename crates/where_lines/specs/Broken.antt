-- What was passed on where it broke off.
use Rattle.std.specs.Prelude.{◌≡◌, ◌≢◌, ◌⊎◌, ℕ, List, [], ◌++◌, Option, IfSome}
use Rattle.std.specs.Io.BufRead.{take_through}
use Rattle.liq_base.specs.Counts.{Rose}
use Rattle.liq_base.specs.Pieces.{IsPrefix, SinkTold}
use Rattle.where_lines.specs.Passes.{IsBehind, Passes, TookAll}
use Rattle.where_lines.specs.declared.passing.Broke.{Broke}
use Rattle.where_lines.specs.declared.passing.Broke.TheVariants.{Input, Output, Memory}

-- The bytes are a prefix of what is written for one line of output: the line and, if it names a place in the script,
-- the two lines that show it. `file` is the script's name and `script` its text, if it is known.
pub data IsFrontOf (file : List ℕ) (script : Option (List ℕ)) (line : List ℕ) : List ℕ → Type 0 where
  OfLine : (front : List ℕ) → IsPrefix front line → IsFrontOf file script line front
  OfBehind : (behind front : List ℕ) → IsBehind file script line behind → IsPrefix front behind
      → IsFrontOf file script line (line ++ front)

-- What was written, `front`, of the line at which passing on broke off; `rest` is the input from this line on. If a
-- write failed, it is a prefix of the line and what comes behind it. If memory was refused, nothing or the line alone;
-- if the input failed, nothing.
abbrev pub IsCut : (file : List ℕ) → (script : Option (List ℕ)) → Broke → (rest front : List ℕ) → Type 0
IsCut file script Input rest front = front ≡ []
IsCut file script Memory rest front = (front ≡ []) ⊎ ((rest ≢ []) × (front ≡ take_through 10 rest))
IsCut file script Output rest front = (rest ≢ []) × IsFrontOf file script (take_through 10 rest) front

-- Passing lines of output on broke off for the cause `broke`. `told` was written for the lines before, and of the next
-- one only `front`. `file` is the script's name and `script` its text, if it is known.
pub record CutAt (file : List ℕ) (script : Option (List ℕ)) (broke : Broke) (input told front : List ℕ) : Type 0 where
  pub rest : List ℕ
  pub passes : Passes file script input rest told
  pub cut : IsCut file script broke rest front

-- Passing lines of output on broke off for the cause `broke`. The sink took what was written up to there, and if a
-- write failed, it counts a fault more; `old` and `new` are what it tells before and after. `file` is the script's
-- name, `script` its text.
pub record BrokeOff (file : List ℕ) (script : Option (List ℕ)) (broke : Broke) (input : Option (List ℕ))
    (old new : SinkTold) : Type 0 where
  pub told : List ℕ
  pub front : List ℕ
  pub took : TookAll (told ++ front) old new
  pub lines : IfSome input (λ bytes. CutAt file script broke bytes told front)
  pub cause : broke ≡ Output → Rose old.faults new.faults

-- a sink was given the bytes `piece`, took only a prefix of them, and counts one fault more; `old` and `new` are what
-- it tells before and after
pub record TookFront (piece : List ℕ) (old new : SinkTold) : Type 0 where
  pub front : List ℕ
  pub is_front : IsPrefix front piece
  pub took : TookAll front old new
  pub rose : Rose old.faults new.faults

-- Showing the place in the script that a line names broke off. If memory was refused, nothing was written; if a write
-- failed, a prefix of the two lines that show it. `old` and `new` are what the sink tells before and after. This is for
-- `src/passing.rt` alone.
abbrev pub IsBroken : (file : List ℕ) → (script : Option (List ℕ)) → (line : List ℕ) → (old new : SinkTold) → Broke → Type 0
IsBroken file script line old new Input = ⊥
IsBroken file script line old new Memory = new ≡ old
IsBroken file script line old new Output =
    (behind : List ℕ) × IsBehind file script line behind × TookFront behind old new
