-- Values of a type, and calls that are not stuck.
use Rattle.std.specs.Prelude.{◌≡◌, ℕ, List, [], ◌∷◌, Some, slice_get, Result, Ok, Err, ⊤}
use Rattle.liq_base.specs.declared.memory.Kind.{Kind}
use Rattle.plan_core.specs.declared.node.Node.{Node}
use Rattle.type_terms.specs.Ground.{Ground, Grounds, base_type, list, tuple, source}
use Rattle.type_terms.specs.Ground as ground
use Rattle.type_terms.specs.declared.ty.Base.TheVariants as base
use Rattle.typing_rules.specs.declared.uses.Builtin.{Builtin}
use Rattle.typing_rules.specs.Arguments as arguments
use Rattle.typing_rules.specs.Table.{IsCallOf}
use Rattle.script_values.specs.declared.fault.Stop.{Stop}
use Rattle.script_values.specs.declared.fault.Stop.TheVariants as faults
use Rattle.script_values.specs.declared.machine.Machine.{Machine}
use Rattle.script_values.specs.Slots.{Argument}
use Rattle.script_values.specs.Values as value
use Rattle.script_values.specs.Values.{Value}
use Rattle.builtin_calls.specs.Builtins.{builtin}

-- Evaluation has only added nodes to the plan: each node of `before` is in `after` under the same number. So a source
-- that was made stays the same.
abbrev pub Grows : List Node → List Node → Type 0
Grows before after = (n : ℕ) (node : Node) → slice_get before n ≡ Some node → slice_get after n ≡ Some node

-- A value has the type g, where the plan that is being built has the nodes `ns`; a source's kind is that of its node.
abbrev mutual
  pub IsA : List Node → value.ValueTree value.OneValue → Ground → Type 0
  IsA ns (value.Int n) g = g ≡ base_type base.Int
  IsA ns (value.Number d) g = g ≡ base_type base.Decimal
  IsA ns (value.TextValue t) g = g ≡ base_type base.Text
  IsA ns (value.TruthValue b) g = g ≡ base_type base.Bool
  IsA ns value.UnitValue g = g ≡ base_type base.Unit
  IsA ns (value.FormatValue wide) g = g ≡ base_type base.Format
  IsA ns (value.PredValue p) g = g ≡ base_type base.Pred
  IsA ns (value.Source n) g = (node : Node) × (slice_get ns n ≡ Some node) × (g ≡ source node.kind)
  IsA ns (value.ListValue vs) g = (t : Ground) × (g ≡ list t) × AllAre ns vs t
  IsA ns (value.TupleValue vs) g = (ts : Grounds) × (g ≡ tuple ts) × EachIs ns vs ts

  -- each of these values, the items of a list, has the type t, where the plan has the nodes ns
  pub AllAre : List Node → value.ValueTree value.ManyValues → Ground → Type 0
  AllAre ns value.no_values t = ⊤
  AllAre ns (value.more_values v vs) t = IsA ns v t × AllAre ns vs t

  -- these values, the parts of a tuple, have these types one for one, where the plan has the nodes ns
  pub EachIs : List Node → value.ValueTree value.ManyValues → Grounds → Type 0
  EachIs ns value.no_values ts = ts ≡ ground.no_more
  EachIs ns (value.more_values v vs) ts = (t : Ground) × (us : Grounds) × (ts ≡ ground.and_more t us) × IsA ns v t
      × EachIs ns vs us

-- the arguments given in a call are of these types, one for one: each has the label that its type comes with, and a
-- value of this type over the nodes ns
abbrev pub AreA : List Node → List Argument → List (arguments.GivenArgument Ground) → Type 0
AreA ns [] [] = ⊤
AreA ns [] (h ∷ hs) = ⊥
AreA ns (g ∷ gs) [] = ⊥
AreA ns (g ∷ gs) (h ∷ hs) = (g.0 ≡ h.0) × IsA ns g.1 h.1 × AreA ns gs hs

-- a stop of evaluation that a script's author is told of: any but that of a value of a wrong type, which no typed
-- script comes to
abbrev pub IsTold : Stop → Type 0
IsTold faults.Memory = ⊤
IsTold faults.BadSetting = ⊤
IsTold (faults.BadValue at) = ⊤
IsTold faults.TooMuchWork = ⊤
IsTold faults.TooManySources = ⊤
IsTold (faults.SameOutput name) = ⊤
IsTold (faults.TooLarge limit) = ⊤
IsTold faults.Stuck = ⊥

-- a step of evaluation that leaves the state alone meets no value of a wrong type: it gives a value for which P
-- holds, or a fault that is told
abbrev pub NotStuck : {A : Type 0} → (A → Type 0) → Result A Stop → Type 0
NotStuck P (Ok x) = P x
NotStuck P (Err e) = IsTold e

-- a step of evaluation meets no value of a wrong type: it gives a fault that is told, or something for which Q holds
-- over the plan's nodes after it, and none of the nodes ns from before is lost
abbrev pub Safe : {A : Type 0} → List Node → (List Node → A → Type 0) → Result (A × Machine) Stop → Type 0
Safe ns Q (Ok x) = Grows ns x.1.plan.nodes × Q x.1.plan.nodes x.0
Safe ns Q (Err e) = IsTold e

-- the value v has the type g, where the plan that is being built has the nodes ns
abbrev pub Of : Ground → List Node → Value → Type 0
Of g ns v = IsA ns v g

-- each call of a builtin with arguments of its types gives a value of its type, or a fault that is told
abbrev pub BuiltinsAreSafe : Type 0
BuiltinsAreSafe = (b : Builtin) (at : ℕ) (ks : List Kind) (gs : List (arguments.GivenArgument Ground)) (g : Ground)
    → IsCallOf b gs ks g
    → (given : List Argument) (m : Machine) → AreA m.plan.nodes given gs
    → Safe m.plan.nodes (Of g) (builtin b at ks given m)
