-- Operators at values of their types are not stuck.
use Rattle.std.proofs.Common.{◌≡◌, ℕ, List, Bool, true, false, Option, Some, None, Result, Ok, Err, refl, sym, subst, ◌&&◌}
use Rattle.std.specs.Prelude.{ℤ, pos, negsuc, neg_ℤ, ◌*ℤ◌, int_le, int_div}
use Rattle.fixed_text.specs.declared.decimal.Decimal.{Decimal}
use Rattle.plan_core.specs.declared.node.Node.{Node}
use Rattle.script_grammar.specs.declared.tree.Literal.{Literal}
use Rattle.script_grammar.specs.declared.tree.Literal.TheVariants as literal
use Rattle.script_grammar.specs.declared.tree.CompareOp.{CompareOp}
use Rattle.type_terms.specs.Ground.{Ground, base_type, list, tuple, source, IsNumber}
use Rattle.type_terms.specs.declared.ty.Base.TheVariants as base
use Rattle.typing_rules.specs.Typing.{truth, literal_type}
use Rattle.script_values.specs.declared.fault.Stop.{Stop}
use Rattle.script_values.specs.declared.fault.Stop.TheVariants as faults
use Rattle.script_values.specs.Numbers.{int_at, of_millionths, or_bad_value, decimal_at, negative, added, plus_or_minus, multiplied, quotient, quotient_at, compared, either, both, opposite, truth_of}
use Rattle.script_values.specs.Values as value
use Rattle.script_values.specs.Values.{Value}
use Rattle.eval_meaning.specs.BuiltinSafety.{IsA, NotStuck}

abbrev pub int : Ground
int = base_type base.Int

abbrev pub decimal : Ground
decimal = base_type base.Decimal

pub int_value : (ns : List Node) (v : Value) → IsA ns v int → (n : ℤ) × (v ≡ value.Int n)
int_value ns (value.Int n) is = (n, refl)
int_value ns (value.Number d) is = absurd cc
int_value ns (value.TextValue t) is = absurd cc
int_value ns (value.TruthValue b) is = absurd cc
int_value ns value.UnitValue is = absurd cc
int_value ns (value.FormatValue wide) is = absurd cc
int_value ns (value.PredValue p) is = absurd cc
int_value ns (value.Source n) is = let e = is.2 in absurd cc
int_value ns (value.ListValue vs) is = let e = is.1 in absurd cc
int_value ns (value.TupleValue vs) is = let e = is.1 in absurd cc

pub decimal_value : (ns : List Node) (v : Value) → IsA ns v decimal → (d : Decimal) × (v ≡ value.Number d)
decimal_value ns (value.Int n) is = absurd cc
decimal_value ns (value.Number d) is = (d, refl)
decimal_value ns (value.TextValue t) is = absurd cc
decimal_value ns (value.TruthValue b) is = absurd cc
decimal_value ns value.UnitValue is = absurd cc
decimal_value ns (value.FormatValue wide) is = absurd cc
decimal_value ns (value.PredValue p) is = absurd cc
decimal_value ns (value.Source n) is = let e = is.2 in absurd cc
decimal_value ns (value.ListValue vs) is = let e = is.1 in absurd cc
decimal_value ns (value.TupleValue vs) is = let e = is.1 in absurd cc

pub truth_value : (ns : List Node) (v : Value) → IsA ns v truth → (b : Bool) × (v ≡ value.TruthValue b)
truth_value ns (value.Int n) is = absurd cc
truth_value ns (value.Number d) is = absurd cc
truth_value ns (value.TextValue t) is = absurd cc
truth_value ns (value.TruthValue b) is = (b, refl)
truth_value ns value.UnitValue is = absurd cc
truth_value ns (value.FormatValue wide) is = absurd cc
truth_value ns (value.PredValue p) is = absurd cc
truth_value ns (value.Source n) is = let e = is.2 in absurd cc
truth_value ns (value.ListValue vs) is = let e = is.1 in absurd cc
truth_value ns (value.TupleValue vs) is = let e = is.1 in absurd cc

pub either_safe : (ns : List Node) (v w : Value) → IsA ns v truth → IsA ns w truth → NotStuck (λ (u : Value). IsA ns u truth) (either v w)
unfolding either
either_safe ns v w a b =
    subst (λ (x : Value). NotStuck (λ (u : Value). IsA ns u truth) (either x w)) (sym (truth_value ns v a).1)
    (subst (λ (y : Value). NotStuck (λ (u : Value). IsA ns u truth) (either (value.TruthValue (truth_value ns v a).0) y)) (sym (truth_value ns w b).1) refl)

pub both_safe : (ns : List Node) (v w : Value) → IsA ns v truth → IsA ns w truth → NotStuck (λ (u : Value). IsA ns u truth) (both v w)
unfolding both
both_safe ns v w a b =
    subst (λ (x : Value). NotStuck (λ (u : Value). IsA ns u truth) (both x w)) (sym (truth_value ns v a).1)
    (subst (λ (y : Value). NotStuck (λ (u : Value). IsA ns u truth) (both (value.TruthValue (truth_value ns v a).0) y)) (sym (truth_value ns w b).1) refl)

pub opposite_safe : (ns : List Node) (v : Value) → IsA ns v truth → NotStuck (λ (u : Value). IsA ns u truth) (opposite v)
unfolding opposite
opposite_safe ns v a = subst (λ (x : Value). NotStuck (λ (u : Value). IsA ns u truth) (opposite x)) (sym (truth_value ns v a).1) refl

pub truth_safe : (ns : List Node) (v : Value) → IsA ns v truth → NotStuck (λ (b : Bool). Unit {0}) (truth_of v)
unfolding truth_of
truth_safe ns v a = subst (λ (x : Value). NotStuck (λ (b : Bool). Unit {0}) (truth_of x)) (sym (truth_value ns v a).1) tt

int_safe : (ns : List Node) (at : ℕ) (n : ℤ) → NotStuck (λ (u : Value). IsA ns u int) (int_at at n)
unfolding int_at
int_safe ns at n =
    elim (int_le (negsuc 9223372036854775807) n && int_le n (pos 9223372036854775807)) as (λ b. NotStuck (λ (u : Value). IsA ns u int) (elim b [ true ↦ Ok (value.Int n) | false ↦ Err (faults.BadValue at) ])) [
      | true ↦ refl
      | false ↦ tt
    ]

decimal_safe : (ns : List Node) (at : ℕ) (o : Option Decimal) → NotStuck (λ (u : Value). IsA ns u decimal) (or_bad_value at o)
decimal_safe ns at (Some d) = refl
decimal_safe ns at None = tt

quotient_safe : (P : Value → Type 0) (at : ℕ) (made : ℤ → Result Value Stop) (o : Option ℤ) → ((n : ℤ) → NotStuck P (made n)) → NotStuck P (quotient_at at made o)
quotient_safe P at made None later = tt
quotient_safe P at made (Some n) later = later n

pub negative_safe : (ns : List Node) (at : ℕ) (n : Literal) → NotStuck (λ (u : Value). IsA ns u (literal_type n)) (negative at n)
unfolding negative
negative_safe ns at (literal.Int n) = int_safe ns at (neg_ℤ n)
negative_safe ns at (literal.Number d) = decimal_safe ns at (of_millionths (neg_ℤ d.millionths))

-- an operator on two numbers of one type, seen by its values
two_ints : (ns : List Node) (P : Value → Value → Type 0) (v w : Value) → IsA ns v int → IsA ns w int → ((a b : ℤ) → P (value.Int a) (value.Int b)) → P v w
two_ints ns P v w a b each = subst (λ (x : Value). P x w) (sym (int_value ns v a).1) (subst (λ (y : Value). P (value.Int (int_value ns v a).0) y) (sym (int_value ns w b).1) (each (int_value ns v a).0 (int_value ns w b).0))

two_decimals : (ns : List Node) (P : Value → Value → Type 0) (v w : Value) → IsA ns v decimal → IsA ns w decimal → ((a b : Decimal) → P (value.Number a) (value.Number b)) → P v w
two_decimals ns P v w a b each = subst (λ (x : Value). P x w) (sym (decimal_value ns v a).1) (subst (λ (y : Value). P (value.Number (decimal_value ns v a).0) y) (sym (decimal_value ns w b).1) (each (decimal_value ns v a).0 (decimal_value ns w b).0))

-- what holds of ints and of decimals holds of numbers
of_numbers : (P : Ground → Type 0) → P int → P decimal → (g : Ground) → IsNumber g → P g
of_numbers P a b (base_type base.Int) number = a
of_numbers P a b (base_type base.Decimal) number = b
of_numbers P a b (base_type base.Text) number = absurd number
of_numbers P a b (base_type base.Bool) number = absurd number
of_numbers P a b (base_type base.Unit) number = absurd number
of_numbers P a b (base_type base.Format) number = absurd number
of_numbers P a b (base_type base.Pred) number = absurd number
of_numbers P a b (list t) number = absurd number
of_numbers P a b (tuple ts) number = absurd number
of_numbers P a b (source k) number = absurd number

pub added_safe : (ns : List Node) (minus : Bool) (at : ℕ) (g : Ground) → IsNumber g → (v w : Value) → IsA ns v g → IsA ns w g → NotStuck (λ (u : Value). IsA ns u g) (added minus at v w)
unfolding added
added_safe ns minus at =
    of_numbers (λ g. (v w : Value) → IsA ns v g → IsA ns w g → NotStuck (λ (u : Value). IsA ns u g) (added minus at v w))
    (λ v w a b. two_ints ns (λ x y. NotStuck (λ (u : Value). IsA ns u int) (added minus at x y)) v w a b (λ n k. int_safe ns at (plus_or_minus minus n k)))
    (λ v w a b. two_decimals ns (λ x y. NotStuck (λ (u : Value). IsA ns u decimal) (added minus at x y)) v w a b (λ d e. decimal_safe ns at (of_millionths (plus_or_minus minus d.millionths e.millionths))))

pub multiplied_safe : (ns : List Node) (divide : Bool) (at : ℕ) (g : Ground) → IsNumber g → (v w : Value) → IsA ns v g → IsA ns w g → NotStuck (λ (u : Value). IsA ns u g) (multiplied divide at v w)
unfolding multiplied
multiplied_safe ns true at =
    of_numbers (λ g. (v w : Value) → IsA ns v g → IsA ns w g → NotStuck (λ (u : Value). IsA ns u g) (multiplied true at v w))
    (λ v w a b. two_ints ns (λ x y. NotStuck (λ (u : Value). IsA ns u int) (multiplied true at x y)) v w a b (λ n k. quotient_safe (λ (u : Value). IsA ns u int) at (int_at at) (quotient n k) (int_safe ns at)))
    (λ v w a b. two_decimals ns (λ x y. NotStuck (λ (u : Value). IsA ns u decimal) (multiplied true at x y)) v w a b (λ d e. quotient_safe (λ (u : Value). IsA ns u decimal) at (decimal_at at) (quotient (d.millionths *ℤ pos 1000000) e.millionths) (λ n. decimal_safe ns at (of_millionths n))))
multiplied_safe ns false at =
    of_numbers (λ g. (v w : Value) → IsA ns v g → IsA ns w g → NotStuck (λ (u : Value). IsA ns u g) (multiplied false at v w))
    (λ v w a b. two_ints ns (λ x y. NotStuck (λ (u : Value). IsA ns u int) (multiplied false at x y)) v w a b (λ n k. int_safe ns at (n *ℤ k)))
    (λ v w a b. two_decimals ns (λ x y. NotStuck (λ (u : Value). IsA ns u decimal) (multiplied false at x y)) v w a b (λ d e. decimal_safe ns at (of_millionths (int_div (d.millionths *ℤ e.millionths) (pos 1000000)))))

pub compared_safe : (ns : List Node) (o : CompareOp) (g : Ground) → IsNumber g → (v w : Value) → IsA ns v g → IsA ns w g → NotStuck (λ (u : Value). IsA ns u truth) (compared o v w)
unfolding compared
compared_safe ns o =
    of_numbers (λ g. (v w : Value) → IsA ns v g → IsA ns w g → NotStuck (λ (u : Value). IsA ns u truth) (compared o v w))
    (λ v w a b. two_ints ns (λ x y. NotStuck (λ (u : Value). IsA ns u truth) (compared o x y)) v w a b (λ n k. refl))
    (λ v w a b. two_decimals ns (λ x y. NotStuck (λ (u : Value). IsA ns u truth) (compared o x y)) v w a b (λ d e. refl))
