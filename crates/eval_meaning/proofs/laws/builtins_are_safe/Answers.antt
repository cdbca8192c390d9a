use Rattle.eval_meaning.proofs.BuiltinCalls.{builtins_are_safe}
use Rattle.eval_meaning.proofs.laws.builtins_are_safe.Goals as goal

pub returns : goal.returns
returns c = record { safe = builtins_are_safe }
