-- What a scope of evaluation knows of a sight of typing, and evaluation that is not stuck.
use Rattle.std.specs.Prelude.{◌≡◌, ℕ, List, Some, None, Result, Ok, Err, ⊤}
use Rattle.liq_base.specs.declared.memory.Kind.{Kind}
use Rattle.plan_core.specs.declared.node.Node.{Node}
use Rattle.type_terms.specs.Ground.{Ground}
use Rattle.typing_rules.specs.Arguments as arguments
use Rattle.typing_rules.specs.Kinds.{kinds_in, target_said}
use Rattle.typing_rules.specs.Typing.{Sight, TypesByToken, type_at}
use Rattle.typing_rules.specs.Uses.{use_at}
use Rattle.script_values.specs.declared.machine.Machine.{Machine}
use Rattle.script_values.specs.Slots.{Argument, SlotValue, value_at_token}
use Rattle.script_values.specs.Values.{Value}
use Rattle.eval_meaning.specs.BuiltinSafety.{AreA, Grows, IsA, Of, Safe}
use Rattle.eval_meaning.specs.Meaning.{Surroundings}
use Rattle.eval_meaning.specs.Scripts.{Ending}

-- evaluation has a value for each binding that typing has a type for, and it is of this type over the nodes ns
abbrev pub HaveValues : List Node → TypesByToken → List SlotValue → Type 0
HaveValues ns types slots = (at : ℕ) (g : Ground) → type_at at types ≡ Some g
    → (v : Value) × (value_at_token at slots ≡ Some v) × IsA ns v g

-- Evaluation in the environment s and typing in the scope t look up the same: the same targets and kinds of names, for
-- each typed binding a value of its type, and calls of defs that don't get stuck. The plan that is being built has the
-- nodes ns.
pub record Knows (s : Surroundings) (t : Sight) (ns : List Node) : Type 0 where
  pub target : (at : ℕ) → target_said (use_at at s.uses) ≡ t.target at
  pub kinds : (at : ℕ) → t.kinds at ≡ kinds_in (use_at at s.uses) s.kinds
  pub slots : HaveValues ns t.types s.slots
  pub calls : (at u : ℕ) (ks : List Kind) (gs : List (arguments.GivenArgument Ground)) (g : Ground)
      → t.kinds at ≡ Some ks → t.call at u gs g
      → (given : List Argument) (m : Machine) → Grows ns m.plan.nodes → AreA m.plan.nodes given gs
      → Safe m.plan.nodes (Of g) (s.call u ks given m)

-- evaluation ends with a plan or with a fault that is told, never at a value of a wrong type
abbrev pub IsNotStuck : {A : Type 0} → Result A Ending → Type 0
IsNotStuck (Ok x) = ⊤
IsNotStuck (Err (Some fault)) = ⊤
IsNotStuck (Err None) = ⊥
