use Rattle.std.proofs.Common.{sym, ◌∙◌, None}
use Rattle.name_scope.specs.Seen.{in_scope}
use Rattle.name_scope.proofs.Searches.{bound_both}
use Rattle.name_scope.proofs.scope.Scopes.find.Goals as goal

pub returns-in-Some : goal.returns-in-Some
returns-in-Some c = record { found = sym (bound_both c.args.name.now (in_scope c.args.self.now.inner.now) (in_scope c.args.self.now.outer.now) _ (sym c.in-Some.ensures.found)) }

pub returns-in-None : goal.returns-in-None
returns-in-None c = record { found = c.find-in-None.ensures.found ∙ sym (bound_both c.args.name.now (in_scope c.args.self.now.inner.now) (in_scope c.args.self.now.outer.now) None (sym c.in-None.ensures.found)) }
