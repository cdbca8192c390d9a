-- The fault of a script, for a fault within one of its statements.
use Rattle.std.specs.Prelude.{ℕ, Option, Some, None}
use Rattle.script_values.specs.declared.fault.Stop.{Stop}
use Rattle.script_values.specs.declared.fault.Stop.TheVariants as inside
use Rattle.script_values.specs.declared.fault.EvalFault.{EvalFault}
use Rattle.script_values.specs.declared.fault.EvalFault.TheVariants as fault

-- The fault that a script has where evaluation of its statement number `stmt` stops for this reason. None for a value
-- of a wrong type (`Stuck`), to which no typed script comes.
abbrev pub fault_in : ℕ → Stop → Option EvalFault
fault_in stmt inside.Memory = Some fault.Memory
fault_in stmt inside.BadSetting = Some (fault.BadSetting stmt)
fault_in stmt (inside.BadValue at) = Some (fault.BadValue stmt at)
fault_in stmt inside.TooMuchWork = Some (fault.TooMuchWork stmt)
fault_in stmt inside.TooManySources = Some fault.TooManySources
fault_in stmt (inside.SameOutput name) = Some (fault.SameOutput name)
fault_in stmt (inside.TooLarge limit) = Some (fault.TooLarge limit)
fault_in stmt inside.Stuck = None
