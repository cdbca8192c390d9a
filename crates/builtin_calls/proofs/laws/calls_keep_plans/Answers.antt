use Rattle.builtin_calls.proofs.Keeping.{call_keeps, counting_keeps, first_sound}
use Rattle.builtin_calls.proofs.laws.calls_keep_plans.Goals as goal

pub returns : goal.returns
returns c = record { first = first_sound; counting = λ n m c is. counting_keeps n m c is; call = λ b at kinds given m x is. call_keeps b at kinds given m x is }
