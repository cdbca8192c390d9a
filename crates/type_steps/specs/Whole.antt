-- That what statements have left is whole: their names have their uses, in order, with as many kinds as what they mean
-- has open ones.
use Rattle.std.specs.Prelude.{◌≡◌, ℕ, List, [], ◌∷◌, map, Some, ⊤}
use Rattle.script_grammar.specs.Placed.{IsPlaced}
use Rattle.script_grammar.specs.Tree.{Tree, AStmt, Script, none, more, Stmt, BindPart, DefPart, CallPart, IfPart, Bind}
use Rattle.typing_rules.specs.Scoping.{Scope, meant, names, with_statement}
use Rattle.type_steps.specs.Environment.{Known}
use Rattle.type_steps.specs.Counts.{AreCounted, IsTextCounted, text_count}
use Rattle.type_steps.specs.Statements.{Done, bound, defined, found_said, known_with, ran, text_said}

-- The item that inference left of a statement goes with it: of a binding a value, of a def that def, of a call or an
-- `if` its uses. The uses in it are those of the names in the statement's text, in order; sc is the scope, which says
-- what names mean.
abbrev pub IsDoneOf : Scope → Tree AStmt → Done → Type 0
IsDoneOf sc (Stmt (BindPart (Bind at name f)) semicolon) (bound t u fs) = (t ≡ at)
    × (map found_said fs ≡ map meant (names sc f))
IsDoneOf sc (Stmt (BindPart b) semicolon) (defined d us) = ⊥
IsDoneOf sc (Stmt (BindPart b) semicolon) (ran fs) = ⊥
IsDoneOf sc (Stmt (DefPart d) semicolon) (bound t u fs) = ⊥
IsDoneOf sc (Stmt (DefPart d) semicolon) (defined e us) = (e ≡ d) × (map text_said us ≡ map meant (names sc d))
IsDoneOf sc (Stmt (DefPart d) semicolon) (ran fs) = ⊥
IsDoneOf sc (Stmt (CallPart c) semicolon) (bound t u fs) = ⊥
IsDoneOf sc (Stmt (CallPart c) semicolon) (defined d us) = ⊥
IsDoneOf sc (Stmt (CallPart c) semicolon) (ran fs) = map found_said fs ≡ map meant (names sc c)
IsDoneOf sc (Stmt (IfPart i) semicolon) (bound t u fs) = ⊥
IsDoneOf sc (Stmt (IfPart i) semicolon) (defined d us) = ⊥
IsDoneOf sc (Stmt (IfPart i) semicolon) (ran fs) = map found_said fs ≡ map meant (names sc i)

-- The statements of a script have each left one item, in order, with the uses of the names in it. The script begins in
-- the scope sc, which says what names mean.
abbrev pub AreDone : Scope → Script → List Done → Type 0
AreDone sc none [] = ⊤
AreDone sc none (x ∷ xs) = ⊥
AreDone sc (more s rest) [] = ⊥
AreDone sc (more s rest) (x ∷ xs) = IsDoneOf sc s x × AreDone (with_statement s sc) rest xs

-- Each use in what a statement left has as many kinds as the type of what it names has open (given anew by each use),
-- where the bindings ks are known. A def numbers its open kinds in the order in which its text has them.
abbrev pub IsDoneCounted : List Known → Done → Type 0
IsDoneCounted ks (bound t u fs) = AreCounted ks fs
IsDoneCounted ks (defined d us) = ((n : ℕ) × (text_count us ≡ Some n)) × IsTextCounted ks us
IsDoneCounted ks (ran fs) = AreCounted ks fs

-- each use in what statements left has as many kinds as the type of what it names has open (given anew by each use);
-- the bindings ks are known before the first of them
abbrev pub AreDonesCounted : List Known → List Done → Type 0
AreDonesCounted ks [] = ⊤
AreDonesCounted ks (x ∷ xs) = IsDoneCounted ks x × AreDonesCounted (known_with x ks) xs

-- What inference has left of a script (xs) is whole: the script's tokens are in place, each statement left its item
-- with the uses of all its names, and each use has all its kinds.
pub record AreWhole (script : Script) (xs : List Done) : Type 0 where
  pub placed : IsPlaced 0 script
  pub done : AreDone [] script xs
  pub counted : AreDonesCounted [] xs
