-- How many seconds are told.
use Rattle.std.proofs.Common.{◌≡◌, ◌≤◌, ◌+◌, ℕ, suc, Bool, true, false, cond, arith, refl, ap}
use mir.Val.{bool_byte}
use Rattle.week_plan.specs.Tables.{how_many}

pub none_yet : (test : ℕ → Bool) → how_many test 0 ≡ 0
unfolding how_many
none_yet test = refl

pub one_more : (test : ℕ → Bool) (n : ℕ) → how_many test (n + 1) ≡ how_many test n + cond (test n) 1 0
unfolding how_many
one_more test n = let is : n + 1 ≡ suc n = omega arith in ap (how_many test) is

pub at_most_one : (b : Bool) → cond b 1 0 ≤ 1
at_most_one true = omega arith
at_most_one false = omega arith

pub as_number : (b : Bool) → bool_byte b ≡ cond b 1 0
as_number true = refl
as_number false = refl
