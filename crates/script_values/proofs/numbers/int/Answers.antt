use Rattle.std.proofs.Common.{arith}
use Rattle.std.proofs.lemmas.Int.{ints}
use Rattle.script_values.proofs.Arithmetic.{int_within, int_below, int_above}
use Rattle.script_values.proofs.numbers.int.Goals as goal

pub returns-then-number-ltminus9223372036854775808 : goal.returns-then-number-ltminus9223372036854775808
returns-then-number-ltminus9223372036854775808 c = int_below c.args.at c.args.number (omega (arith, ints))

pub returns-then-number-gt9223372036854775807 : goal.returns-then-number-gt9223372036854775807
returns-then-number-gt9223372036854775807 c = int_above c.args.at c.args.number (omega (arith, ints))

pub returns : goal.returns
returns c = int_within c.args.at c.args.number _ (omega (arith, ints)) (omega (arith, ints)) (omega (arith, ints))
