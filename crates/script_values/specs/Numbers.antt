-- The arithmetic of a script: what an operator makes of two values, or the fault at its token.
use Rattle.std.specs.Prelude.{ℤ, pos, negsuc, ◌+ℤ◌, ◌-ℤ◌, ◌*ℤ◌, neg_ℤ, ◌≤ℤ◌, int_le, int_lt, int_div, Bool, true, false, not, Option, Some, None, Result, Ok, Err, ℕ, T, ◌&&◌, ◌||◌}
use Rattle.fixed_text.specs.declared.decimal.Decimal.{Decimal}
use Rattle.script_grammar.specs.declared.tree.Literal.{Literal}
use Rattle.script_grammar.specs.declared.tree.Literal.TheVariants as literal
use Rattle.script_grammar.specs.declared.tree.CompareOp.{CompareOp}
use Rattle.script_grammar.specs.declared.tree.CompareOp.TheVariants as op
use Rattle.script_values.specs.declared.fault.Stop.{Stop}
use Rattle.script_values.specs.declared.fault.Stop.TheVariants.{BadValue, Stuck}
use Rattle.script_values.specs.Values.{Value, Int, Number, TruthValue}

-- The result n of an operator at token `at`, as an int of a script; the fault of a bad value at that token, where n has
-- more than 64 bits.
unfoldable pub int_at : ℕ → ℤ → Result Value Stop
int_at at n =
    elim (int_le (negsuc 9223372036854775807) n && int_le n (pos 9223372036854775807)) [
      | true ↦ Ok (Int n)
      | false ↦ Err (BadValue at)
    ]

-- The decimal number of m millionths, if it is in range, and else `None`. `low` says that m is not below the lower
-- bound and `high` that it is not above the upper one; the last arguments prove what they say.
abbrev pub decimal_by : (m : ℤ) (low high : Bool) → (T low → negsuc 999999999999999 ≤ℤ m)
    → (T high → m ≤ℤ pos 1000000000000000) → Option Decimal
decimal_by m true true above below = Some (record { millionths = m; low = above tt; high = below tt })
decimal_by m true false above below = None
decimal_by m false high above below = None

-- The decimal number of this many millionths; `None` beyond the range of decimals, 10^15 either way.
unfoldable pub of_millionths : ℤ → Option Decimal
of_millionths m = decimal_by m (int_le (negsuc 999999999999999) m) (int_le m (pos 1000000000000000))
    (λ t. record { le = t }) (λ t. record { le = t })

-- The result of an operator at token `at`, as a decimal of a script; the fault of a bad value at that token, where it
-- is out of range (`None`).
abbrev pub or_bad_value : ℕ → Option Decimal → Result Value Stop
or_bad_value at (Some d) = Ok (Number d)
or_bad_value at None = Err (BadValue at)

-- The result of an operator at token `at`, m millionths, as a decimal of a script; the fault of a bad value at that
-- token, where it is out of range.
abbrev pub decimal_at : ℕ → ℤ → Result Value Stop
decimal_at at m = or_bad_value at (of_millionths m)

-- The value of a number that stands in the text of a script: an int or a decimal.
abbrev pub literal_value : Literal → Value
literal_value (literal.Int n) = Int n
literal_value (literal.Number d) = Number d

-- The value of a number behind the minus at token `at`: an int or a decimal, or a bad value out of range.
unfoldable pub negative : ℕ → Literal → Result Value Stop
negative at (literal.Int n) = int_at at (neg_ℤ n)
negative at (literal.Number d) = decimal_at at (neg_ℤ d.millionths)

-- The difference of the whole numbers a and b for `true`, and their sum for `false`.
abbrev pub plus_or_minus : Bool → ℤ → ℤ → ℤ
plus_or_minus true a b = a -ℤ b
plus_or_minus false a b = a +ℤ b

-- The value of `+`, or of `-` if `minus` is true, over two ints or two decimals; a bad value at the operator's token
-- `at` out of range. Other values are stuck, for typing refuses them.
unfoldable pub added : Bool → ℕ → Value → Value → Result Value Stop
added minus at (Int a) (Int b) = int_at at (plus_or_minus minus a b)
added minus at (Number a) (Number b) = decimal_at at (plus_or_minus minus a.millionths b.millionths)
added minus at v w = Err Stuck

-- The quotient of two whole numbers, rounded toward zero; `None` where the divisor b is 0.
unfoldable pub quotient : ℤ → ℤ → Option ℤ
quotient a b =
    elim (int_le b (pos 0) && int_le (pos 0) b) [
      | true ↦ None
      | false ↦ Some (int_div a b)
    ]

-- The value of a division at token `at`, from its quotient, of which `made` makes an int or a decimal. It is the fault
-- of a bad value at that token where the divisor was 0 (`None`).
abbrev pub quotient_at : ℕ → (ℤ → Result Value Stop) → Option ℤ → Result Value Stop
quotient_at at made None = Err (BadValue at)
quotient_at at made (Some n) = made n

-- The value of `*`, or of `/` if `divide` is true, over two ints or two decimals, rounded toward zero (decimals to a
-- millionth). By 0 and out of range it is a bad value at the operator's token `at`.
unfoldable pub multiplied : Bool → ℕ → Value → Value → Result Value Stop
multiplied false at (Int a) (Int b) = int_at at (a *ℤ b)
multiplied true at (Int a) (Int b) = quotient_at at (int_at at) (quotient a b)
multiplied false at (Number a) (Number b) = decimal_at at (int_div (a.millionths *ℤ b.millionths) (pos 1000000))
multiplied true at (Number a) (Number b) = quotient_at at (decimal_at at)
    (quotient (a.millionths *ℤ pos 1000000) b.millionths)
multiplied divide at v w = Err Stuck

-- Whether two whole numbers are in the relation of a comparison operator, such as `<`.
abbrev pub is_so : CompareOp → ℤ → ℤ → Bool
is_so op.Equal a b = int_le a b && int_le b a
is_so op.Differs a b = int_lt a b || int_lt b a
is_so op.Less a b = int_lt a b
is_so op.AtMost a b = int_le a b
is_so op.Greater a b = int_lt b a
is_so op.AtLeast a b = int_le b a

-- The value of a comparison of two ints or of two decimals: whether the relation of the operator holds. Other values
-- are stuck, for typing refuses them.
unfoldable pub compared : CompareOp → Value → Value → Result Value Stop
compared o (Int a) (Int b) = Ok (TruthValue (is_so o a b))
compared o (Number a) (Number b) = Ok (TruthValue (is_so o a.millionths b.millionths))
compared o v w = Err Stuck

-- The value of `or` over two truth values. Other values are stuck, for typing refuses them.
unfoldable pub either : Value → Value → Result Value Stop
either (TruthValue a) (TruthValue b) = Ok (TruthValue (a || b))
either v w = Err Stuck

-- The value of `and` over two truth values. Other values are stuck, for typing refuses them.
unfoldable pub both : Value → Value → Result Value Stop
both (TruthValue a) (TruthValue b) = Ok (TruthValue (a && b))
both v w = Err Stuck

-- The value of `not` over a truth value. Another value is stuck, for typing refuses it.
unfoldable pub opposite : Value → Result Value Stop
opposite (TruthValue a) = Ok (TruthValue (not a))
opposite v = Err Stuck

-- The truth of the value of a condition, by which `if` goes on. A value of another type is stuck, for typing refuses
-- it.
unfoldable pub truth_of : Value → Result Bool Stop
truth_of (TruthValue a) = Ok a
truth_of v = Err Stuck
