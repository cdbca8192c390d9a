-- What the search for a call finds on its way; these are for the functions of `src/calls.rt` alone.
use Rattle.std.specs.Prelude.{◌≡◌, ℕ, true, false, List, ◌++◌, take, Some, slice_get}
use Rattle.script_lex.specs.declared.token.Token.{Token}
use Rattle.where_lines.specs.declared.calls.Bracket.{Bracket}
use Rattle.where_lines.specs.declared.calls.Bracket.TheVariants as bracket
use Rattle.where_lines.specs.declared.calls.Found.{Found}
use Rattle.where_lines.specs.Calls.{calls_of, newest, part}
use Rattle.where_lines.specs.Clashes.{Clashes}

-- Among these tokens of a statement of the script `text`, `texts` are the calls whose bracket is closed, a line for
-- each, and `brackets` are those that still stand open.
abbrev pub AreCalls : List ℕ → List Token → List ℕ → List Bracket → Type 0
AreCalls text tokens texts brackets = calls_of text tokens ≡ record { texts = texts; brackets = brackets }

-- What the search found is a call that one of these tokens of a statement closes: where it begins and ends, and the
-- texts of the calls closed before it. Of these texts, those behind the first `others` bytes are its arguments.
pub record IsCandidate (text : List ℕ) (tokens : List Token) (found : Found) : Type 0 where
  pub number : ℕ
  pub last : Token
  pub last_is : slice_get tokens number ≡ Some last
  pub is_open : newest (calls_of text (take number tokens)).brackets ≡ Some (bracket.Call found.start found.others)
  pub texts_are : found.texts.items ≡ (calls_of text (take number tokens)).texts
  pub ends : found.end ≡ last.end

-- The call that was found begins at byte `at`, and with it the types clash. `front` is the script before its statement.
-- With `front` and the calls closed before this one nothing clashes; it does once this call takes the place of its
-- arguments.
pub record IsCalled (text front : List ℕ) (found : Found) (at : ℕ) : Type 0 where
  pub begins : at ≡ found.start
  pub before : Clashes (front ++ found.texts.items) false
  pub with_it : Clashes (front ++ (take found.others found.texts.items ++ part text found.start found.end)) true
