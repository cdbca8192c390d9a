-- What is noted of names: those that stand for something, and the fault that is told.
use Rattle.std.specs.Prelude.{ℕ, List, [], ◌∷◌, ◌++◌, Option, Some, None, cond, map, Bool, true, false}
use Rattle.std.specs.List.{flat_map}
use Rattle.script_grammar.specs.Tree.{Sort, Tree, Many, APart, AParam, AStmt, AnExpr, AnInner, BindPart, DefPart, CallPart, IfPart, Def}
use Rattle.typing_rules.specs.declared.fault.NameFault.{NameFault}
use Rattle.typing_rules.specs.declared.fault.NameFault.TheVariants.{Extra}
use Rattle.typing_rules.specs.declared.uses.Target.{Target}
use Rattle.typing_rules.specs.Arguments.{Parameter, GivenArgument, first_missing, is_needed, left_over}
use Rattle.typing_rules.specs.NameFaults.{faults_as, faults_in, is_before, missing_at, repeats}
use Rattle.typing_rules.specs.Scoping.{Meaning, Name, Scope, inner_names, names, target_of, with_inners}
use Rattle.name_scope.specs.declared.notes.Notes.{Notes}
use Rattle.name_scope.specs.declared.notes.Resolved.{Resolved}

-- The first parameter of a call that finds no argument, after one more parameter p: the one known from before, if any.
-- Otherwise it is p, if p must have an argument and took none (`taken` is false).
abbrev pub missing_with : Option (List ℕ) → Parameter → Bool → Option (List ℕ)
missing_with (Some m) p taken = Some m
missing_with None p true = None
missing_with None p false = cond (is_needed p.form) (Some p.name) None

-- of the fault of names known so far and one more, the one that is told: the one that stands first in the text
abbrev pub sooner : Option NameFault → NameFault → Option NameFault
sooner None f = Some f
sooner (Some g) f = cond (is_before g f) (Some g) (Some f)

-- of the fault of names known so far and all of these, the one that is told: the one that stands first in the text
abbrev pub all_sooner : Option NameFault → List NameFault → Option NameFault
all_sooner o [] = o
all_sooner o (f ∷ fs) = all_sooner (sooner o f) fs

-- the faults of a call at a token, where arguments don't match these parameters: the first missing one, and those
-- that are left over
abbrev pub mismatches : ℕ → List Parameter → List (GivenArgument ℕ) → List NameFault
mismatches at ps gs = missing_at at (first_missing ps gs) ++ map (λ g. Extra g.1) (left_over ps gs)

-- what resolving the names of a script has found: the names that stand for something, with what they mean, and the
-- fault that is told, if any
pub record Noted : Type 0 where
  pub found : List Meaning
  pub fault : Option NameFault

-- the name at a token with what it means, as a list of one; of none, if it means nothing
abbrev pub meaning_at : ℕ → Option Target → List Meaning
meaning_at at None = []
meaning_at at (Some t) = (at, Some t) ∷ []

-- what was found of names so far, with one more use of a name: its meaning, or its faults
abbrev pub with_name : Noted → Name → Noted
with_name n x = record {
  found = n.found ++ meaning_at x.at (target_of x.meant);
  fault = all_sooner n.fault (faults_as x.at x.meant x.given);
}

-- what was found of names so far, with these uses of names, one after another
abbrev pub with_names : Noted → List Name → Noted
with_names n [] = n
with_names n (x ∷ xs) = with_names (with_name n x) xs

-- all uses of names in these trees, one tree after another, in the scope of names around them
abbrev pub names_each : {s : Sort} → Scope → List (Tree s) → List Name
names_each sc ts = flat_map (names sc) ts

-- a name that the program has resolved, as plain data: its token, and what it stands for
abbrev pub resolved : Resolved → Meaning
resolved r = (r.at, Some r.target)

-- what the program has noted of names, as plain data: the names found, and the fault that is told
abbrev pub noted : Notes → Noted
noted n = record { found = map resolved n.found.items; fault = n.fault }

-- the uses of names in a def's inner bindings `is` and in its result e, where the scope `sc` has the def's parameters
abbrev pub body_names : Scope → Tree (Many AnInner) → Tree AnExpr → List Name
body_names sc is e = inner_names sc is ++ names (with_inners is sc) e

-- what was found of names so far, with the faults of those parameters of a def whose names an earlier parameter has
abbrev pub with_repeats : Noted → Tree (Many AParam) → Noted
with_repeats n ps = record { found = n.found; fault = all_sooner n.fault (repeats [] ps) }

-- what was found of names so far, with the uses of names in one statement, and the faults of repeated parameters if
-- it is a def
abbrev pub with_part : Noted → Scope → Tree APart → Noted
with_part n sc (BindPart b) = with_names n (names sc b)
with_part n sc (DefPart (Def at name ps equals is e)) = with_names (with_repeats n ps)
    (names sc (Def at name ps equals is e))
with_part n sc (CallPart c) = with_names n (names sc c)
with_part n sc (IfPart i) = with_names n (names sc i)

-- those of these uses of names that stand for something, with what they mean
abbrev pub known : List Name → List Meaning
known [] = []
known (x ∷ xs) = meaning_at x.at (target_of x.meant) ++ known xs

-- what was found of names so far, with all names and faults of one more statement, in the scope before it
abbrev pub with_statement_names : Noted → Scope → Tree AStmt → Noted
with_statement_names n sc s = record {
  found = n.found ++ known (names sc s);
  fault = all_sooner n.fault (faults_in sc s);
}

-- the names that the program has found to stand for something, as plain data
abbrev pub found_in : Notes → List Meaning
found_in n = map resolved n.found.items
