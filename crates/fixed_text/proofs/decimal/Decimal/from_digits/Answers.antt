use Rattle.std.proofs.Common.{arith, length}
use Rattle.std.specs.Str.Parse.{digits_value}
use Rattle.fixed_text.proofs.Numerals.{six_digits, places_given, given, product_bounded}
use Rattle.fixed_text.proofs.decimal.Decimal.from_digits.Goals as goal

pub returns-in_err-below : goal.returns-in_err-below
returns-in_err-below c =
    let places = places_given (length c.args.fraction.now) c.in_ok-places.places c.in_ok-places.ensures in
    absurd (given (digits_value 10 c.args.fraction.now) 999999 (six_digits c.args.fraction.now c.requires.fraction places.0) c.in_err-below.ensures.value)

pub overflow_add-value : goal.overflow_add-value
overflow_add-value c =
    let places = places_given (length c.args.fraction.now) c.in_ok-places.places c.in_ok-places.ensures in
    let units = c.in_ok-units.ensures.bounded in
    let below = c.in_ok-below.ensures.bounded in
    let product = product_bounded c.in_ok-below.below c.in_ok-places.places below places.1 in
    omega arith
