-- Where tokens and statements begin.
use Rattle.std.specs.Prelude.{ℕ, zero, suc, ◌-◌, List, [], ◌∷◌, length, Option, Some, None, option_map}
use Rattle.script_lex.specs.declared.token.Token.{Token}
use Rattle.script_grammar.specs.Tree.{Tree, APart, none, more, Script, BindPart, DefPart, CallPart, IfPart, Bind, Def, NamedCall, If}
use Rattle.script_grammar.specs.Spelling.{spelling}

-- The byte of a script at which token number k begins, both from 0. A token past the end begins at the end of the
-- script, which has `total` bytes.
abbrev pub start : ℕ → List Token → ℕ → ℕ
start total [] k = total
start total (t ∷ ts) zero = t.start
start total (t ∷ ts) (suc k) = start total ts k

-- The first k statements of a script, those before number k (from 0); `None` where it has no statement of this number.
abbrev pub before : Script → ℕ → Option Script
before none k = None
before (more s rest) zero = Some none
before (more s rest) (suc k) = option_map (more s) (before rest k)

-- The index of the first token of a statement, which is counted from 1: as many tokens as the statements before it
-- have; `None` where there is no such statement.
abbrev pub first_token : Script → ℕ → Option ℕ
first_token script zero = None
first_token script (suc k) = option_map (λ s. length (spelling s)) (before script k)

-- The index of the first token of a statement, from the token indexes that its tree has: its name's, or for a `def`,
-- whose name is its second token, one less.
abbrev pub first_at : Tree APart → ℕ
first_at (BindPart (Bind at name value)) = at
first_at (DefPart (Def at name params equals inner result)) = at - 1
first_at (CallPart (NamedCall at name args)) = at
first_at (IfPart (If at c t e)) = at
