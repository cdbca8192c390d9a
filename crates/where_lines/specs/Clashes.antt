-- Whether a text's types clash.
use Rattle.std.specs.Prelude.{◌≡◌, ℕ, Bool, true, false, List, Result, Ok, Err}
use Rattle.plan_core.specs.declared.plan.Plan.{Plan}
use Rattle.typing_rules.specs.declared.fault.TypeFault.{TypeFault}
use Rattle.typing_rules.specs.declared.fault.TypeFault.TheVariants as type_fault
use Rattle.script_plan.specs.declared.fault.ScriptFault.{ScriptFault}
use Rattle.script_plan.specs.declared.fault.ScriptFault.TheVariants as fault
use Rattle.script_plan.specs.Plans.{IsPlan, IsPlanFault}

-- the plan of a script or, if it has none, its fault
abbrev pub IsAnswer : List ℕ → Result Plan ScriptFault → Type 0
IsAnswer text (Ok plan) = IsPlan text plan
IsAnswer text (Err f) = IsPlanFault text f

-- whether a fault of types is that they clash
abbrev pub is_type_clash : TypeFault → Bool
is_type_clash (type_fault.TypeClash stmt) = true
is_type_clash f = false

-- whether a fault of a script is that its types clash
abbrev pub is_clash_fault : ScriptFault → Bool
is_clash_fault (fault.Type f) = is_type_clash f
is_clash_fault f = false

-- whether a script has no plan since its types clash
abbrev pub is_clash : Result Plan ScriptFault → Bool
is_clash (Ok plan) = false
is_clash (Err f) = is_clash_fault f

-- `told` says whether the types of a script clash, so that it has no plan for this reason
pub record Clashes (text : List ℕ) (told : Bool) : Type 0 where
  pub answer : Result Plan ScriptFault
  pub is_answer : IsAnswer text answer
  pub is_told : told ≡ is_clash answer
