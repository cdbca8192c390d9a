-- Steps behind steps.
use Rattle.std.proofs.Common.{List, Result, Ok, Err}
use Rattle.plan_core.specs.declared.node.Node.{Node}
use Rattle.script_values.specs.declared.fault.Stop.{Stop}
use Rattle.script_values.specs.declared.machine.Machine.{Machine}
use Rattle.script_values.specs.Outcomes.{◌>>=◌}
use Rattle.eval_meaning.specs.BuiltinSafety.{Grows, NotStuck, Safe}

grows_on : (a b c : List Node) → Grows a b → Grows b c → Grows a c
grows_on a b c first second n node is = second n node (first n node is)

wider : {A : Type 0} (a b : List Node) (Q : List Node → A → Type 0) (r : Result (A × Machine) Stop) → Grows a b → Safe b Q r → Safe a Q r
wider a b Q (Ok x) grows safe = (grows_on a b x.1.plan.nodes grows safe.0, safe.1)
wider a b Q (Err e) grows safe = safe

-- a step with a state
pub after : {A B : Type 0} (ns : List Node) (Q : List Node → A → Type 0) (R : List Node → B → Type 0) (r : Result (A × Machine) Stop) (f : A × Machine → Result (B × Machine) Stop) → Safe ns Q r
    → ((x : A × Machine) → Grows ns x.1.plan.nodes → Q x.1.plan.nodes x.0 → Safe x.1.plan.nodes R (f x)) → Safe ns R (r >>= f)
after ns Q R (Ok x) f safe later = wider ns x.1.plan.nodes R (f x) safe.0 (later x safe.0 safe.1)
after ns Q R (Err e) f safe later = safe

-- a step without one
pub fixed : {A B : Type 0} (ns : List Node) (P : A → Type 0) (R : List Node → B → Type 0) (r : Result A Stop) (f : A → Result (B × Machine) Stop) → NotStuck P r → ((x : A) → P x → Safe ns R (f x)) → Safe ns R (r >>= f)
fixed ns P R (Ok x) f is later = later x is
fixed ns P R (Err e) f is later = is
