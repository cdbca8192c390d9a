use Rattle.std.proofs.Common.{arith}
use Rattle.std.proofs.lemmas.Int.{ints}
use Rattle.script_values.proofs.Arithmetic.{decimal_within, decimal_below, decimal_above}
use Rattle.script_values.proofs.numbers.decimal.Goals as goal

pub returns-then-millionths-ltminus1000000000000000 : goal.returns-then-millionths-ltminus1000000000000000
returns-then-millionths-ltminus1000000000000000 c = decimal_below c.args.at c.args.millionths (omega (arith, ints))

pub returns-then-millionths-gt1000000000000000 : goal.returns-then-millionths-gt1000000000000000
returns-then-millionths-gt1000000000000000 c = decimal_above c.args.at c.args.millionths (omega (arith, ints))

pub returns : goal.returns
returns c = decimal_within c.args.at c.args.millionths _ (omega (arith, ints))
