use Rattle.eval_meaning.proofs.BuiltinCalls.{builtins_are_safe}
use Rattle.eval_meaning.proofs.SafeScripts.{safe_script}
use Rattle.eval_meaning.proofs.laws.typed_scripts_are_not_stuck.Goals as goal

pub returns : goal.returns
returns c = record { told = safe_script builtins_are_safe }
