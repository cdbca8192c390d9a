-- Worked rows on the definitions, by computation.
use Rattle.std.proofs.Common.{◌≡◌, pos, negsuc, true, false, [], ◌∷◌, Ok, Err, refl}
use Rattle.script_grammar.specs.declared.tree.CompareOp.TheVariants as op
use Rattle.script_values.specs.declared.fault.Stop.TheVariants.{BadValue, TooMuchWork, Stuck}
use Rattle.script_values.specs.Values.{many, size, Int, Number, TextValue, TruthValue, UnitValue, ListValue, TupleValue}
use Rattle.script_values.specs.Numbers.{int_at, of_millionths, quotient, added, multiplied, compared}
use Rattle.script_values.specs.Machines.{some_millionths, first_machine, count_work}

-- `1 / 0` at the token 3
zero_divisor : multiplied true 3 (Int (pos 1)) (Int (pos 0)) ≡ Err (BadValue 3)
unfolding multiplied quotient
zero_divisor = refl

-- `(-7) / 2` is -3
toward_zero : multiplied true 3 (Int (negsuc 6)) (Int (pos 2)) ≡ Ok (Int (negsuc 2))
unfolding multiplied quotient int_at
toward_zero = refl

-- the greatest int and 1
past_64_bits : added false 3 (Int (pos 9223372036854775807)) (Int (pos 1)) ≡ Err (BadValue 3)
unfolding added int_at
past_64_bits = refl

-- the least int by -1
least_int : multiplied true 3 (Int (negsuc 9223372036854775807)) (Int (negsuc 0)) ≡ Err (BadValue 3)
unfolding multiplied quotient int_at
least_int = refl

-- `0.5 * 0.000001` is 0.
below_a_millionth : multiplied false 3 (Number (some_millionths 500000 tt)) (Number (some_millionths 1 tt)) ≡ Ok (Number (some_millionths 0 tt))
unfolding multiplied of_millionths
below_a_millionth = refl

-- `1000000000. + 0.000001`
past_a_billion : added false 3 (Number (some_millionths 1000000000000000 tt)) (Number (some_millionths 1 tt)) ≡ Err (BadValue 3)
unfolding added of_millionths
past_a_billion = refl

-- `1 < 2.` has no value: typing refuses it
two_types : compared op.Less (Int (pos 1)) (Number (some_millionths 2000000 tt)) ≡ Err Stuck
unfolding compared
two_types = refl

-- the size of `[(1, "a"), ((), true)]`
list_of_pairs : size (ListValue (many (TupleValue (many (Int (pos 1) ∷ TextValue (97 ∷ []) ∷ [])) ∷ TupleValue (many (UnitValue ∷ TruthValue true ∷ [])) ∷ []))) ≡ 7
list_of_pairs = refl

-- 999999 is not too much, and one more is
all_work : count_work 999999 first_machine ≡ Ok (record first_machine { work = 999999 })
unfolding count_work
all_work = refl

too_much_work : count_work 1000000 first_machine ≡ Err TooMuchWork
unfolding count_work
too_much_work = refl
