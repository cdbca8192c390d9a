-- The names of the first statements of a script, and the fault of names that ends them.
use Rattle.std.specs.Prelude.{◌≡◌, ◌≢◌, ◌≤◌, ◌+◌, ℕ, List, [], length, Option, Some, None}
use Rattle.script_grammar.specs.Tree.{Tree, AStmt}
use Rattle.script_grammar.specs.View.{listed}
use Rattle.typing_rules.specs.declared.fault.NameFault.{NameFault}
use Rattle.typing_rules.specs.declared.fault.TypeFault.{TypeFault}
use Rattle.typing_rules.specs.declared.fault.TypeFault.TheVariants.{Memory}
use Rattle.typing_rules.specs.NameFaults.{first_fault, name_fault_in}
use Rattle.typing_rules.specs.Scoping.{Meaning, meanings_of}
use Rattle.typing_rules.specs.Scripts.{first_of}

-- The first n statements of the script xs have no fault of names, and `all` is what their names mean.
pub record AreNamesOf (xs : List (Tree AStmt)) (n : ℕ) (all : List Meaning) : Type 0 where
  pub all_are : all ≡ meanings_of (first_of n (listed xs))
  pub faultless : first_fault 1 [] (first_of n (listed xs)) ≡ None

-- f is the first fault of names in the script xs, and stands in the statement behind the first n.
pub record IsNextFault (xs : List (Tree AStmt)) (n : ℕ) (f : TypeFault) : Type 0 where
  pub inside : NameFault
  pub first : first_fault 1 [] (listed xs) ≡ Some (n + 1, inside)
  pub told : f ≡ name_fault_in (n + 1) inside

-- What is known of the names of the script xs up to its first fault of names. The first n statements have none, and
-- `all` is what their names mean. The `fault` is that of the next statement, or want of memory; without one the n are
-- all statements.
pub record IsFront (xs : List (Tree AStmt)) (n : ℕ) (all : List Meaning) (fault : Option TypeFault) : Type 0 where
  pub names_are : AreNamesOf xs n all
  pub short : n ≤ length xs
  pub whole : fault ≡ None → n ≡ length xs
  pub next : (f : TypeFault) → fault ≡ Some f → f ≢ Memory → IsNextFault xs n f
