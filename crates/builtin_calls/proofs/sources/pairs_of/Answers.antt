use Rattle.std.proofs.Common.{List, ℕ, Result, sym, subst}
use Rattle.std.specs.Prelude.{map}
use Rattle.time_pred.specs.Predicates.{Predicate}
use Rattle.time_pred.specs.View.{view_shared}
use Rattle.script_values.specs.declared.fault.Stop.{Stop}
use Rattle.script_values.specs.Gives.{Gives}
use Rattle.builtin_calls.proofs.Lists.{listed_pairs}
use Rattle.builtin_calls.proofs.sources.pairs_of.Goals as goal

pub returns-in-Listed-clause-given : goal.returns-in-Listed-clause-given
returns-in-Listed-clause-given c = subst (λ (r : Result (List Predicate × List ℕ) Stop). Gives (λ ps. (map view_shared ps.preds.items, ps.sources.items)) c.pairs_in.result r) (sym (listed_pairs c.args.plan.now.nodes c.args.kind c.args.value.now c.in-Listed.parts c.deref.result.now c.in-Listed.is c.deref.ensures.value)) c.pairs_in.ensures.given
