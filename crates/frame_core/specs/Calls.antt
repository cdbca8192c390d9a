-- The calls that a clock makes on its buffers.
use Rattle.std.specs.Prelude.{◌≡◌, ℕ, ◌==◌, Bool, true, false, List, [], ◌∷◌, ◌++◌, Option, Some, None, if◌then◌else◌}
use Rattle.frame_core.specs.declared.cell.Cell.{Cell}
use Rattle.frame_core.specs.declared.chunk.Gave.{Gave}
use Rattle.frame_core.specs.declared.chunk.Gave.TheVariants.{Accepted, Full}

-- the answer of a buffer to a take: a chunk, or nothing where it is empty
abbrev pub Answer : Type 0
Answer = Option (List Cell)

-- A call that a clock made on one of its buffers, named by its number, with the answer. A take got a chunk or found
-- nothing; a give of a chunk is true where it was accepted.
pub data Call : Type 0 where
  Took : ℕ → Answer → Call
  Given : ℕ → List Cell → Bool → Call

-- the answers of the takes of one buffer among these calls, in order
abbrev pub takes_of : ℕ → List Call → List Answer
takes_of buffer [] = []
takes_of buffer (Took of answer ∷ calls) = if buffer == of then answer ∷ takes_of buffer calls
    else takes_of buffer calls
takes_of buffer (Given to chunk accepted ∷ calls) = takes_of buffer calls

-- the answer of a give as a queue's history has it: the chunk where it was accepted, and nothing where the buffer was
-- full
abbrev pub put_of : List Cell → Bool → Option (List Cell)
put_of chunk true = Some chunk
put_of chunk false = None

-- the answers of the gives to one buffer among these calls, in order: the chunk where it was accepted, and nothing
-- where it was full
abbrev pub puts_to : ℕ → List Call → List (Option (List Cell))
puts_to buffer [] = []
puts_to buffer (Took of answer ∷ calls) = puts_to buffer calls
puts_to buffer (Given to chunk accepted ∷ calls) =
    if buffer == to then put_of chunk accepted ∷ puts_to buffer calls else puts_to buffer calls

-- the call that giving this chunk to a buffer was, by its answer; a full buffer gave the same chunk back
abbrev pub IsGive : ℕ → List Cell → Gave → Call → Type 0
IsGive buffer chunk Accepted call = call ≡ Given buffer chunk true
IsGive buffer chunk (Full back) call = (back ≡ chunk) × (call ≡ Given buffer chunk false)

-- A step from the state `before` of some buffers to the state `after` made the calls `more`. `stands` says for which
-- calls a state stands. For whatever calls `before` stood, `after` stands for these with `more` at the end.
abbrev pub Adds : {T : Type 0} → (T → List Call → Type 0) → T → T → List Call → Type 0
Adds stands before after more = (calls : List Call) → stands before calls → stands after (calls ++ more)
