-- Where tokens stand in a list, by a table.
use Rattle.std.specs.Prelude.{◌≡◌, ℕ, Bool, List, Option, Some, None, cond, nat_eq, true, false}
use Rattle.std.specs.List.{position}
use Rattle.std.specs.Option.{option_or}
use Rattle.liq_base.specs.At.{at_token}
use Rattle.script_grammar.specs.Tree.{Tree, ADef, AStmt, Stmt, BindPart, DefPart, CallPart, IfPart}
use Rattle.script_grammar.specs.View.{view_stmt}
use Rattle.script_grammar.specs.declared.tree.Stmt.{Stmt as ProgramStmt}
use Rattle.script_values.specs.declared.slots.Slot.{Slot}
use Rattle.typing_rules.specs.Scripts.{def_token}
use Rattle.typing_rules.specs.declared.uses.Use.{Use}

-- `places` is an index of the list xs by tokens, for fast search. For each token it has the place of the first item for
-- which `test` holds with this token, or None if there is none.
abbrev pub IsTable : {X : Type 0} → (ℕ → X → Bool) → List (Option ℕ) → List X → Type 0
IsTable test places xs = (at : ℕ) → at_token at places ≡ position (test at) xs

-- One item, at `place` in its list, was entered in an index by tokens. Each token for which `test` holds has this place
-- now, unless it had an earlier one; any other token has what it had. `old` and `new` are the index before and after.
abbrev pub Notes : (ℕ → Bool) → List (Option ℕ) → ℕ → List (Option ℕ) → Type 0
Notes test old place new = (at : ℕ) → at_token at new ≡ option_or (at_token at old) (cond (test at) (Some place) None)

-- whether u is the use of the name at token `at`, which says what the name means there
abbrev pub is_use : ℕ → Use → Bool
is_use at u = nat_eq u.at at

-- whether s is the binding, of a name to a value, whose name stands at token `at`
abbrev pub is_slot : ℕ → Slot → Bool
is_slot at s = nat_eq s.at at

-- the def of a statement, if its name stands at this token
abbrev pub def_if : ℕ → Tree AStmt → Option (Tree ADef)
def_if at (Stmt (DefPart d) semicolon) = elim (nat_eq (def_token d) at) [ true ↦ Some d | false ↦ None ]
def_if at (Stmt (BindPart b) semicolon) = None
def_if at (Stmt (CallPart c) semicolon) = None
def_if at (Stmt (IfPart i) semicolon) = None

-- whether a statement is the def whose name stands at the token
abbrev pub names : Tree AStmt → ℕ → Bool
names (Stmt (DefPart d) semicolon) at = nat_eq (def_token d) at
names (Stmt (BindPart b) semicolon) at = false
names (Stmt (CallPart c) semicolon) at = false
names (Stmt (IfPart i) semicolon) at = false

-- whether a statement of the program is the def whose name stands at the token
abbrev pub is_def : ℕ → ProgramStmt → Bool
is_def at s = names (view_stmt s) at
