-- The answers of inference: the uses of a script that has a typing, or the first fault.
use Rattle.std.specs.Prelude.{◌≡◌, ℕ, ◌-◌, List, [], Some, None, map, ⊤}
use Rattle.script_grammar.specs.Tree.{Script, Tree, ADef}
use Rattle.typing_rules.specs.declared.uses.Use.{Use}
use Rattle.typing_rules.specs.declared.fault.TypeFault.{TypeFault}
use Rattle.typing_rules.specs.declared.fault.TypeFault.TheVariants as fault
use Rattle.typing_rules.specs.Scoping.{target_in, meanings_of}
use Rattle.typing_rules.specs.declared.fault.NameFault.{NameFault}
use Rattle.typing_rules.specs.NameFaults.{first_fault, name_fault_in}
use Rattle.typing_rules.specs.Scripts.{Entry, Places, IsTypedTo, HasTyping, IsClash, first_of}
use Rattle.typing_rules.specs.Kinds.{said, target_at, read, blocks, IsLess, IsLessInside, AreKindsNumbered, IsOpen, Stands}

-- the script has a typing in which each name means what its use says and has the kinds, mono or stereo, that its use
-- says
abbrev pub IsTypedScript : Script → List Use → Type 0
IsTypedScript script uses = (es : List Entry) × IsTypedTo (target_at uses) (read [] uses) [] script es

-- The script is typed by these uses, one for each name: what it means, and its kinds, mono or stereo. The kinds are
-- mono only where they must be, and the kind variables of each def are exactly what is free in it.
pub record IsTyped (script : Script) (uses : List Use) : Type 0 where
  -- all names and arguments match, and there is one use for each name, in the order of the tokens
  pub names : first_fault 1 [] script ≡ None
  pub targets : map said uses ≡ meanings_of script
  -- the kinds of the uses are those of a typing, and the least
  pub entries : List Entry
  pub typing : IsTypedTo (target_at uses) (read [] uses) [] script entries
  pub least : (kinds : Places) (es : List Entry) → IsTypedTo (target_at uses) kinds [] script es
      → IsLess (blocks [] script) (read [] uses) kinds
  -- the open kinds of defs
  pub numbered : AreKindsNumbered (blocks [] script) uses
  pub opened : (d : Tree ADef) (before : List Entry) → Stands entries d before → IsOpen (blocks [] script) uses before d
  -- and in each def, whether it is called or not, the other kinds are the least
  pub least_inside : (kinds : Places) (es : List Entry) → IsTypedTo (target_at uses) kinds [] script es
      → IsLessInside (blocks [] script) uses es

-- f is the fault that is told of a script with a fault of names or arguments. It stands in the first statement that has
-- one, and all statements before have a typing.
pub record IsNameFault (script : Script) (f : TypeFault) : Type 0 where
  pub stmt : ℕ
  pub inside : NameFault
  pub first : first_fault 1 [] script ≡ Some (stmt, inside)
  pub told : f ≡ name_fault_in stmt inside
  pub before : HasTyping (target_in (meanings_of script)) (first_of (stmt - 1) script)

-- types clash in statement n, which is the first with any fault: no name is faulty up to it, the statements before it
-- have a typing, and with it there is none
pub record IsTypeClash (script : Script) (n : ℕ) : Type 0 where
  pub names : first_fault 1 [] (first_of n script) ≡ None
  pub clash : IsClash script n

-- the script has this fault of names or of types
abbrev pub IsTypeFault : Script → TypeFault → Type 0
IsTypeFault script (fault.UnknownName n at) = IsNameFault script (fault.UnknownName n at)
IsTypeFault script (fault.MissingArgument n at label) = IsNameFault script (fault.MissingArgument n at label)
IsTypeFault script (fault.ExtraArgument n at) = IsNameFault script (fault.ExtraArgument n at)
IsTypeFault script (fault.RepeatedName n at) = IsNameFault script (fault.RepeatedName n at)
IsTypeFault script (fault.TypeClash n) = IsTypeClash script n
-- memory may be refused at any script
IsTypeFault script fault.Memory = ⊤
