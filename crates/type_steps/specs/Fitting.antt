-- What one parameter takes.
use Rattle.std.specs.Prelude.{◌≡◌, ℕ, ◌<◌, List, get_or, map, length, false, Option, Some, None, ⊤}
use Rattle.type_terms.specs.Ground.{Ground}
use Rattle.type_terms.specs.Table.{Table}
use Rattle.typing_rules.specs.Arguments.{Parameter, GivenArgument, is_needed}
use Rattle.name_scope.specs.Labelled.{on}
use Rattle.name_scope.specs.Seen.{left_of, seen_label}
use Rattle.name_scope.specs.declared.labels.Labels.{Labels}
use Rattle.type_steps.specs.declared.arguments.Argument.{Argument}

-- an argument of a call as its label, if any, and the number of the variable that is its type
abbrev pub seen_argument : Argument → GivenArgument ℕ
seen_argument g = (seen_label g.label, g.var)

-- The parameter p, whose type is t, takes what a call gives for it: an argument of this type, or no argument, if the
-- parameter has a default.
abbrev pub FitsOne : Parameter → Option Ground → Ground → Type 0
FitsOne p None t = is_needed p.form ≡ false
FitsOne p (Some g) t = g ≡ t

-- the type variable of this number, if there is one, is one of the substitution s
abbrev pub IsInside : Table → Option ℕ → Type 0
IsInside s None = ⊤
IsInside s (Some n) = n < length s.types

-- the type variable of the argument of a call at index i; 0 if there is none
abbrev pub var_at : List Argument → ℕ → ℕ
var_at gs i = get_or (map (λ g. g.var) gs) i 0

-- the arguments of a call that no parameter has taken yet, each with its label and type variable; t is the table of the
-- labels that are left
abbrev pub left_given : List Argument → Labels → List (GivenArgument ℕ)
left_given gs t = map (on (var_at gs)) (left_of t)
