use Rattle.std.proofs.Common.{List, ℕ, Result, sym, subst}
use Rattle.script_values.specs.declared.fault.Stop.{Stop}
use Rattle.script_values.specs.Gives.{Gives}
use Rattle.builtin_calls.proofs.Lists.{listed_sources}
use Rattle.builtin_calls.proofs.sources.sources_of.Goals as goal

pub returns-in-Listed-clause-given : goal.returns-in-Listed-clause-given
returns-in-Listed-clause-given c = subst (λ (r : Result (List ℕ) Stop). Gives (λ ns. ns.items) c.sources_in.result r) (sym (listed_sources c.args.plan.now.nodes c.args.kind c.args.value.now c.in-Listed.parts c.deref.result.now c.in-Listed.is c.deref.ensures.value)) c.sources_in.ensures.given
