-- Values keep their types while nodes are added, and steps go behind steps.
use Rattle.std.proofs.Common.{ℕ, ◌+◌, List, [], ◌∷◌, true, false, Result, Ok, Err, nat_le}
use Rattle.liq_base.specs.declared.limits.TheConstants.{MAX_WORK}
use Rattle.plan_core.specs.declared.node.Node.{Node}
use Rattle.type_terms.specs.Ground.{Ground, Grounds}
use Rattle.typing_rules.specs.Arguments as arguments
use Rattle.typing_rules.specs.Typing.{Sight, TypesByToken}
use Rattle.script_values.specs.declared.fault.Stop.{Stop}
use Rattle.script_values.specs.declared.fault.Stop.TheVariants as faults
use Rattle.script_values.specs.declared.machine.Machine.{Machine}
use Rattle.script_values.specs.Machines.{count_work}
use Rattle.script_values.specs.Outcomes.{◌>>=◌, Outcome}
use Rattle.script_values.specs.Slots.{Argument, SlotValue}
use Rattle.script_values.specs.Values as value
use Rattle.script_values.specs.Values.{Value}
use Rattle.eval_meaning.specs.Meaning.{Surroundings, operator_applied}
use Rattle.eval_meaning.specs.BuiltinSafety.{AllAre, AreA, EachIs, Grows, IsA, NotStuck, Of, Safe}
use Rattle.eval_meaning.specs.Safety.{HaveValues, Knows}

pub stays : (ns : List Node) → Grows ns ns
stays ns n node is = is

pub grows_on : (a b c : List Node) → Grows a b → Grows b c → Grows a c
grows_on a b c first second n node is = second n node (first n node is)

mutual
  pub is_later : (a b : List Node) → Grows a b → (v : Value) (g : Ground) → IsA a v g → IsA b v g
  is_later a b grows (value.Int n) g is = is
  is_later a b grows (value.Number d) g is = is
  is_later a b grows (value.TextValue t) g is = is
  is_later a b grows (value.TruthValue t) g is = is
  is_later a b grows value.UnitValue g is = is
  is_later a b grows (value.FormatValue wide) g is = is
  is_later a b grows (value.PredValue p) g is = is
  is_later a b grows (value.Source n) g is = (is.0, grows n is.0 is.1, is.2)
  is_later a b grows (value.ListValue vs) g is = (is.0, is.1, all_later a b grows vs is.0 is.2)
  is_later a b grows (value.TupleValue vs) g is = (is.0, is.1, each_later a b grows vs is.0 is.2)

  pub all_later : (a b : List Node) → Grows a b → (vs : value.ValueTree value.ManyValues) (t : Ground) → AllAre a vs t → AllAre b vs t
  all_later a b grows value.no_values t is = tt
  all_later a b grows (value.more_values v vs) t is = (is_later a b grows v t is.0, all_later a b grows vs t is.1)

  pub each_later : (a b : List Node) → Grows a b → (vs : value.ValueTree value.ManyValues) (ts : Grounds) → EachIs a vs ts → EachIs b vs ts
  each_later a b grows value.no_values ts is = is
  each_later a b grows (value.more_values v vs) ts is = (is.0, is.1, is.2, is_later a b grows v is.0 is.3, each_later a b grows vs is.1 is.4)

pub are_later : (a b : List Node) → Grows a b → (given : List Argument) (gs : List (arguments.GivenArgument Ground)) → AreA a given gs → AreA b given gs
are_later a b grows [] [] is = tt
are_later a b grows [] (h ∷ hs) is = absurd is
are_later a b grows (g ∷ given) [] is = absurd is
are_later a b grows (g ∷ given) (h ∷ hs) is = (is.0, is_later a b grows g.1 h.1 is.1, are_later a b grows given hs is.2)

pub fits_later : (a b : List Node) → Grows a b → (types : TypesByToken) (slots : List SlotValue) → HaveValues a types slots → HaveValues b types slots
fits_later a b grows types slots fits at g is =
    let held = fits at g is in
    (held.0, held.1, is_later a b grows held.0 g held.2)

pub knows_later : (a b : List Node) → Grows a b → (s : Surroundings) (t : Sight) → Knows s t a → Knows s t b
knows_later a b grows s t knows = record {
  target = knows.target;
  kinds = knows.kinds;
  slots = fits_later a b grows t.types s.slots knows.slots;
  calls = λ at u ks gs g is typed given m wider held. knows.calls at u ks gs g is typed given m (grows_on a b m.plan.nodes grows wider) held;
}

-- ---- steps

wider : {A : Type 0} (a b : List Node) (Q : List Node → A → Type 0) (r : Result (A × Machine) Stop) → Grows a b → Safe b Q r → Safe a Q r
wider a b Q (Ok x) grows safe = (grows_on a b x.1.plan.nodes grows safe.0, safe.1)
wider a b Q (Err e) grows safe = safe

pub after : {A B : Type 0} (ns : List Node) (Q : List Node → A → Type 0) (R : List Node → B → Type 0) (r : Result (A × Machine) Stop) (f : A × Machine → Result (B × Machine) Stop) → Safe ns Q r
    → ((x : A × Machine) → Grows ns x.1.plan.nodes → Q x.1.plan.nodes x.0 → Safe x.1.plan.nodes R (f x)) → Safe ns R (r >>= f)
after ns Q R (Ok x) f safe later = wider ns x.1.plan.nodes R (f x) safe.0 (later x safe.0 safe.1)
after ns Q R (Err e) f safe later = safe

pub fixed : {A B : Type 0} (ns : List Node) (P : A → Type 0) (R : List Node → B → Type 0) (r : Result A Stop) (f : A → Result (B × Machine) Stop) → NotStuck P r → ((x : A) → P x → Safe ns R (f x)) → Safe ns R (r >>= f)
fixed ns P R (Ok x) f is later = later x is
fixed ns P R (Err e) f is later = is

pub counted : {B : Type 0} (R : List Node → B → Type 0) (n : ℕ) (m : Machine) (f : Machine → Result (B × Machine) Stop) → ((work : ℕ) → Safe m.plan.nodes R (f (record m { work = work }))) → Safe m.plan.nodes R (count_work n m >>= f)
unfolding count_work
counted R n m f later =
    elim (nat_le (m.work + n) MAX_WORK) as (λ b. Safe m.plan.nodes R ((elim b [ true ↦ Ok (record m { work = m.work + n }) | false ↦ Err faults.TooMuchWork ]) >>= f)) [
      | true ↦ later (m.work + n)
      | false ↦ tt
    ]

-- an operator behind its operand
pub joined_safe : (ns : List Node) (g h : Ground) (op : Value → Value → Result Value Stop) (v : Value) (right : Outcome) → Safe ns (Of h) right
    → ((ks : List Node) → Grows ns ks → (w : Value) → IsA ks w h → NotStuck (λ u. IsA ks u g) (op v w)) → Safe ns (Of g) (operator_applied op v right)
joined_safe ns g h op v right safe later =
    after ns (Of h) (Of g) right (λ x. count_work 1 x.1 >>= λ c. op v x.0 >>= λ u. Ok (u, c)) safe (λ x grows held.
    counted (Of g) 1 x.1 (λ c. op v x.0 >>= λ u. Ok (u, c)) (λ work.
    fixed x.1.plan.nodes (λ u. IsA x.1.plan.nodes u g) (Of g) (op v x.0) (λ u. Ok (u, record x.1 { work = work })) (later x.1.plan.nodes grows x.0 held) (λ u made. (stays x.1.plan.nodes, made))))
