-- A text has one list of tokens or one fault.
use Rattle.std.proofs.Common.{◌≡◌, ◌⊎◌, inl, inr, ℕ, ◌<◌, List, length, Option, Some, None, refl, sym, ap, ◌∙◌, arith}
use Rattle.liq_base.specs.declared.limits.TheConstants.{MAX_SCRIPT_BYTES}
use Rattle.script_lex.specs.declared.token.LexFault.{LexFault}
use Rattle.script_lex.specs.declared.token.LexFault.TheVariants as faults
use Rattle.script_lex.specs.declared.token.Token.{Token}
use Rattle.script_lex.specs.Spelling.{LexStop}
use Rattle.script_lex.specs.Tokens.{AreTokens, HasFault, StandsIn, placed_fault}
use Rattle.script_lex.proofs.Lexed.{no_fault}
use Rattle.script_lex.proofs.Runs.{runs_one}

pub tokens_one : (text : List ℕ) (ts us : List Token) → AreTokens text ts → AreTokens text us → ts ≡ us
tokens_one text ts us a b = (runs_one text ts us None None a.1 b.1).0

pub tokens_or_fault : (text : List ℕ) (ts : List Token) (f : LexFault) → AreTokens text ts → HasFault text f → ⊥
tokens_or_fault text ts f are has = no_fault text ts f are.0 are.1 has

-- a fault is that of a text that is too long, or stands in the text
abbrev IsOf : List ℕ → LexFault → Type 0
IsOf text f = ((f ≡ faults.TextTooLong) × (MAX_SCRIPT_BYTES < length text)) ⊎ StandsIn text f

is_of : (text : List ℕ) (f : LexFault) → HasFault text f → IsOf text f
is_of text faults.TextTooLong has = inl (refl, has)
is_of text faults.Memory has = absurd has
is_of text (faults.BadByte at) has = inr has
is_of text (faults.UnclosedString at) has = inr has
is_of text (faults.NumberTooLarge at) has = inr has

some_is : (f g : LexStop) → ◌≡◌ {A = Option LexStop} (Some f) (Some g) → f ≡ g
some_is f g is = cc

standing_one : (text : List ℕ) (f g : LexFault) → StandsIn text f → StandsIn text g → f ≡ g
standing_one text f g a b =
    let same = (runs_one text a.1.0 b.1.0 (Some a.1.1) (Some b.1.1) a.1.2 b.1.2).1 in
    a.1.3 ∙ ap (placed_fault (length text)) (some_is a.1.1 b.1.1 same) ∙ sym b.1.3

by_forms : (text : List ℕ) (f g : LexFault) → IsOf text f → IsOf text g → f ≡ g
by_forms text f g (inl a) (inl b) = a.0 ∙ sym b.0
by_forms text f g (inl a) (inr b) = absurd (omega (arith, a.1, b.0))
by_forms text f g (inr a) (inl b) = absurd (omega (arith, b.1, a.0))
by_forms text f g (inr a) (inr b) = standing_one text f g a b

pub lexical_one : (text : List ℕ) (f g : LexFault) → HasFault text f → HasFault text g → f ≡ g
lexical_one text f g a b = by_forms text f g (is_of text f a) (is_of text g b)
