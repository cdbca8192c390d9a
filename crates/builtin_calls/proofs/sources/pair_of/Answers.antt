use Rattle.std.proofs.Common.{ℕ, Result, sym, subst}
use Rattle.time_pred.specs.Predicates.{Predicate}
use Rattle.time_pred.specs.View.{view_shared}
use Rattle.script_values.specs.declared.fault.Stop.{Stop}
use Rattle.script_values.specs.Gives.{Gives}
use Rattle.builtin_calls.proofs.Lists.{tuple_pair}
use Rattle.builtin_calls.proofs.sources.pair_of.Goals as goal

pub returns-in-Tuple-clause-given : goal.returns-in-Tuple-clause-given
returns-in-Tuple-clause-given c = subst (λ (r : Result (Predicate × ℕ) Stop). Gives (λ x. (view_shared x.0, x.1)) c.pair_in.result r) (sym (tuple_pair c.args.plan.now.nodes c.args.kind c.args.value.now c.in-Tuple.parts c.deref.result.now c.in-Tuple.is c.deref.ensures.value)) c.pair_in.ensures.given
