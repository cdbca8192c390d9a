use Rattle.std.proofs.Common.{arith}
use Rattle.std.specs.Str.Parse.{digits_value}
use Rattle.fixed_text.proofs.Numerals.{over_tenth, over_digit, past}
use Rattle.fixed_text.proofs.digits.value_up_to.Goals as goal

pub returns-then-value-most-clause-value : goal.returns-then-value-most-clause-value
returns-then-value-most-clause-value c = past c.args.most (digits_value 10 c.args.digits.now) (over_tenth c.args.most c.loop-rest.value _ c.loop-rest.rest.now c.in-len1-up.len_at_least c.loop-rest.invariant.value c.if-value-most.true)

pub returns-then-digit-most-clause-value : goal.returns-then-digit-most-clause-value
returns-then-digit-most-clause-value c = past c.args.most (digits_value 10 c.args.digits.now) (over_digit c.args.most c.loop-rest.value _ c.loop-rest.rest.now c.in-len1-up.len_at_least c.loop-rest.invariant.digits c.loop-rest.invariant.value (omega arith))
