-- The faults of names and arguments, and which of them is told.
use Rattle.std.specs.Prelude.{ℕ, ◌+◌, List, [], ◌∷◌, ◌++◌, map, Option, Some, None, cond, Bool, true, false, bytes_eq, nat_eq, nat_le}
use Rattle.script_grammar.specs.Tree.{Tree, Many, none, more, AParam, AStmt, Param, Labelled, Optional, Stmt, BindPart, DefPart, CallPart, IfPart, Def, Script}
use Rattle.typing_rules.specs.declared.uses.Target.{Target}
use Rattle.typing_rules.specs.declared.fault.NameFault.{NameFault}
use Rattle.typing_rules.specs.declared.fault.NameFault.TheVariants.{Unknown, Missing, Extra, Repeated}
use Rattle.typing_rules.specs.declared.fault.TypeFault.{TypeFault}
use Rattle.typing_rules.specs.declared.fault.TypeFault.TheVariants as fault
use Rattle.typing_rules.specs.Arguments.{Parameter, GivenArgument, left_over, first_missing}
pub use Rattle.typing_rules.specs.Arguments.{token_of}
use Rattle.typing_rules.specs.Scoping.{Name, Scope, names, with_statement}

-- the token at which a fault of names stands; the faults of a statement are ordered by it
abbrev pub token : NameFault → ℕ
token (Unknown at) = at
token (Missing at label) = at
token (Extra at) = at
token (Repeated at) = at

-- the number of a sort of fault, by which two faults at one token are ordered; the lower one is told
abbrev pub number : NameFault → ℕ
number (Unknown at) = 1
number (Missing at label) = 2
number (Extra at) = 3
number (Repeated at) = 4

-- the fault of a call at token `at` that lacks the argument of this label, as a list: empty if none is lacking
abbrev pub missing_at : ℕ → Option (List ℕ) → List NameFault
missing_at at None = []
missing_at at (Some label) = Missing at label ∷ []

-- The faults of one use of a name at token `at`. If it means nothing, it is unknown. Else they are the first missing
-- argument, if one is missing, and each argument of `given` that no parameter takes.
abbrev pub faults_as : ℕ → Option (Target × List Parameter) → List (GivenArgument ℕ) → List NameFault
faults_as at None given = Unknown at ∷ []
faults_as at (Some x) given = missing_at at (first_missing x.1 given) ++ map (λ g. Extra g.1) (left_over x.1 given)

-- all faults of the uses of names in a statement: unknown names, missing arguments, and arguments that no parameter
-- takes
abbrev pub all_faults : List Name → List NameFault
all_faults [] = []
all_faults (n ∷ ns) = faults_as n.at n.meant n.given ++ all_faults ns

-- the name of a parameter
abbrev pub param_name : Tree AParam → List ℕ
param_name (Param at name) = name
param_name (Labelled at name) = name
param_name (Optional at name d) = name

-- the name is one of these
abbrev pub is_among : List ℕ → List (List ℕ) → Bool
is_among name [] = false
is_among name (n ∷ ns) = cond (bytes_eq name n) true (is_among name ns)

-- a list with the fault of the parameter at a token, if its name is repeated; else the empty list
abbrev pub repeated_at : ℕ → Bool → List NameFault
repeated_at at true = Repeated at ∷ []
repeated_at at false = []

-- the faults of parameters of a def whose name an earlier one has; `earlier` are the names before these
abbrev pub repeats : List (List ℕ) → Tree (Many AParam) → List NameFault
repeats earlier none = []
repeats earlier (more p ps) = repeated_at (token_of p) (is_among (param_name p) earlier)
    ++ repeats (earlier ++ param_name p ∷ []) ps

-- the faults of repeated names in a statement
abbrev pub repeats_in : Tree AStmt → List NameFault
repeats_in (Stmt (DefPart (Def at name ps equals is e)) semicolon) = repeats [] ps
repeats_in (Stmt (BindPart b) semicolon) = []
repeats_in (Stmt (CallPart c) semicolon) = []
repeats_in (Stmt (IfPart i) semicolon) = []

-- all faults of names in a statement that stands in the scope `sc`: repeated parameters, unknown names, and arguments
-- that do not fit
abbrev pub faults_in : Scope → Tree AStmt → List NameFault
faults_in sc s = repeats_in s ++ all_faults (names sc s)

-- the first fault is told before the second: by the token, then by the number
abbrev pub is_before : NameFault → NameFault → Bool
is_before f g = cond (nat_eq (token f) (token g)) (nat_le (number f) (number g)) (nat_le (token f) (token g))

-- of two faults the one that is told: that at the earlier token, or of the lower number at one token
abbrev pub earlier : NameFault → Option NameFault → NameFault
earlier f None = f
earlier f (Some g) = cond (is_before f g) f g

-- the one of these faults that is told: that at the earliest token, of the lowest number there
abbrev pub reported_fault : List NameFault → Option NameFault
reported_fault [] = None
reported_fault (f ∷ fs) = Some (earlier f (reported_fault fs))

-- a fault of names or arguments as a fault of typing, with the number n of its statement
abbrev pub name_fault_in : ℕ → NameFault → TypeFault
name_fault_in n (Unknown at) = fault.UnknownName n at
name_fault_in n (Missing at label) = fault.MissingArgument n at label
name_fault_in n (Extra at) = fault.ExtraArgument n at
name_fault_in n (Repeated at) = fault.RepeatedName n at

-- the first fault of a script from statement n on: that of statement n if it has one, or else `later`, that of a later
-- statement
abbrev pub or_later : ℕ → Option NameFault → Option (ℕ × NameFault) → Option (ℕ × NameFault)
or_later n None later = later
or_later n (Some f) later = Some (n, f)

-- The first statement that has a fault of names or arguments, by its number, and the fault that is told of it. `n` is
-- the number of the first statement of this part of the script, and `sc` the scope before it.
abbrev pub first_fault : ℕ → Scope → Script → Option (ℕ × NameFault)
first_fault n sc none = None
first_fault n sc (more s rest) = or_later n (reported_fault (faults_in sc s))
    (first_fault (n + 1) (with_statement s sc) rest)
