use Rattle.std.proofs.Common.{◌∙◌, ap, refl, map, take_all}
use Rattle.type_terms.specs.Term.{source_term}
use Rattle.type_terms.proofs.Views.{term_Source}
use Rattle.type_instances.proofs.Pushing.{named_next}
use Rattle.general_types.proofs.numbering.sources.Goals as goal

pub loop-kind-preserved : goal.loop-kind-preserved
loop-kind-preserved c = named_next source_term c.loop-kind.types.items _ c.args.kinds.now c.loop-kind.kind-index _ _ c.loop-kind-test.true (term_Source _ _ refl) c.in_ok-push.ensures.items c.loop-kind.invariant

pub returns : goal.returns
returns c = c.loop-kind.invariant ∙ ap (map source_term) (take_all _ _ c.loop-kind-test.false)
