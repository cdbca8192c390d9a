-- What evaluation keeps true of the state.
use Rattle.std.specs.Prelude.{ℕ, List, Result, Ok, Err, ⊤}
use Rattle.liq_base.specs.declared.memory.Kind.{Kind}
use Rattle.typing_rules.specs.declared.uses.Builtin.{Builtin}
use Rattle.script_values.specs.declared.machine.Machine.{Machine}
use Rattle.script_values.specs.Machines.{count_work, noted_by}
use Rattle.script_values.specs.Outcomes.{ascribed}
use Rattle.script_values.specs.Slots.{Argument}
use Rattle.builtin_calls.specs.Builtins.{builtin}

-- after a step of evaluation, P holds of the state (the machine) that it leaves; nothing is said where it ends with a
-- fault
abbrev pub HoldsBehind : {A E : Type 0} → (Machine → Type 0) → Result (A × Machine) E → Type 0
HoldsBehind P (Ok x) = P x.1
HoldsBehind P (Err e) = ⊤

-- after work was counted, P holds of the state (the machine) that is left; nothing is said where there was too much
-- work
abbrev pub Leaves : {E : Type 0} → (Machine → Type 0) → Result Machine E → Type 0
Leaves P (Ok m) = P m
Leaves P (Err e) = ⊤

-- what is true of the state stays true all through evaluation: P is kept by counting work, by each call of a builtin,
-- and by noting which call made which sources
pub record IsKept (P : Machine → Type 0) : Type 0 where
  pub counts : (n : ℕ) (m : Machine) → P m → Leaves P (count_work n m)
  pub builtins : (b : Builtin) (at : ℕ) (kinds : List Kind) (given : List Argument) (m : Machine) → P m
      → HoldsBehind P (ascribed at m (builtin b at kinds given m))
  pub notes : (at before : ℕ) (m : Machine) → P m → P (noted_by at before m)
