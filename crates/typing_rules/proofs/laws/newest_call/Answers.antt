use Rattle.typing_rules.proofs.TypedScripts.{call_typed, typed_call}
use Rattle.typing_rules.proofs.laws.newest_call.Goals as goal

pub returns : goal.returns
returns c = record { typed = call_typed; call = typed_call }
