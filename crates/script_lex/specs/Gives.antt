-- What a function returned, against the shape that is read.
use Rattle.std.specs.Prelude.{◌≡◌, ℕ, true, false, Result, Ok, Err, List, Some}
use Rattle.script_lex.specs.Spelling.{LexStop, Bad, OpenText, Large, Means, is_within}
use Rattle.script_lex.specs.Reading.{Read}
use Rattle.script_lex.specs.Tokens.{Runs, placed_fault}
use Rattle.script_lex.specs.declared.token.Token.{Token}
use Rattle.script_lex.specs.declared.token.TokenKind.{TokenKind}
use Rattle.script_lex.specs.declared.token.LexFault.{LexFault}
use Rattle.script_lex.specs.declared.token.LexFault.TheVariants as faults
use Rattle.script_lex.specs.declared.refusal.Refusal.{Refusal}
use Rattle.script_lex.specs.declared.refusal.Refusal.TheVariants as refusals

-- A refusal of the lexer is right for what was read. Want of memory always is, a number too large where the token
-- passes a bound, and another fault where reading gave it. `left` counts the bytes from the first one read to the end.
abbrev pub Refuses : Read → ℕ → Refusal → Type 0
Refuses read left refusals.Memory = Unit {0}
Refuses (Ok found) left (refusals.NumberTooLarge n) = (is_within found.0 ≡ false) × (n ≡ left)
Refuses (Ok found) left (refusals.BadByte n) = ⊥
Refuses (Ok found) left (refusals.UnclosedString n) = ⊥
Refuses (Err fault) left (refusals.BadByte n) = fault ≡ Bad n
Refuses (Err fault) left (refusals.UnclosedString n) = fault ≡ OpenText n
Refuses (Err fault) left (refusals.NumberTooLarge n) = ⊥

-- A function of the lexer returned what is right for what was read: the token that it means, or a right refusal. `kind`
-- and `after` take from a result the token and the bytes behind it. `left` counts the bytes from the first one read to
-- the end.
abbrev pub Gives : {X : Type 0} → (X → TokenKind) → (X → List ℕ) → Read → ℕ → Result X Refusal → Type 0
Gives kind after (Ok found) left (Ok x) = (is_within found.0 ≡ true) × Means found.0 (kind x) × (after x ≡ found.1)
Gives kind after (Err fault) left (Ok x) = ⊥
Gives kind after read left (Err e) = Refuses read left e

-- how many bytes of a script stand from a lexer's fault to the end; 0 for want of memory, which has no place
abbrev pub left_of : Refusal → ℕ
left_of refusals.Memory = 0
left_of (refusals.BadByte n) = n
left_of (refusals.UnclosedString n) = n
left_of (refusals.NumberTooLarge n) = n

-- P holds for the fault that a function of the lexer refused a script with; want of memory is no fault, and nothing is
-- asked
abbrev pub IfFault : Refusal → (LexStop → Type 0) → Type 0
IfFault refusals.Memory P = Unit {0}
IfFault (refusals.BadByte n) P = P (Bad n)
IfFault (refusals.UnclosedString n) P = P (OpenText n)
IfFault (refusals.NumberTooLarge n) P = P (Large n)

-- what a function of the lexer refused a script with, as a fault with its place counted from the beginning of `total`
-- bytes
abbrev pub told_as : ℕ → Refusal → LexFault
told_as total refusals.Memory = faults.Memory
told_as total (refusals.BadByte n) = placed_fault total (Bad n)
told_as total (refusals.UnclosedString n) = placed_fault total (OpenText n)
told_as total (refusals.NumberTooLarge n) = placed_fault total (Large n)

-- the script is some tokens, and behind them this fault of the lexer stands in it
abbrev pub RunsInto : List ℕ → LexStop → Type 0
RunsInto text fault = (ts : List Token) × Runs text ts (Some fault)

-- the script is exactly these tokens, and behind them this fault of the lexer stands in it
abbrev pub RunsTo : List ℕ → List Token → LexStop → Type 0
RunsTo text ts fault = Runs text ts (Some fault)
