use Rattle.std.proofs.Common.{◌∙◌, ◌∷◌, [], ap, map}
use Rattle.type_terms.specs.Naming.{instance}
use Rattle.type_instances.proofs.Builtins.{rows_numbered}
use Rattle.type_instances.proofs.builtin_types.row_instance.Goals as goal

pub returns-clause-params : goal.returns-clause-params
returns-clause-params c = c.in_ok-params.ensures ∙ rows_numbered c.args.any c.args.kind _ ∙ ap (map (instance (c.args.any ∷ []) (c.args.kind ∷ []))) c.builtin_row-row.ensures.types

pub returns-clause-call : goal.returns-clause-call
returns-clause-call c = c.in_ok-call.ensures ∙ ap (instance (c.args.any ∷ []) (c.args.kind ∷ [])) c.builtin_row-row.ensures.call
