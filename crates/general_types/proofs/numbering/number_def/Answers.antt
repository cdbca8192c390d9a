use Rattle.general_types.specs.Texts.{def_terms}
use Rattle.general_types.proofs.Steps.{opens_def}
use Rattle.general_types.proofs.numbering.number_def.Goals as goal

pub returns : goal.returns
returns c = opens_def _ _ _ _ _ _ _ _ _ (def_terms c.args.params.now c.args.answer.now c.args.kinds.now) (def_terms c.in_ok-params.params.items c.in_ok-answer.answer c.push_opened_kinds.new.places.items) c.requires.places c.len-read.ensures.len c.in_ok-push_opened_kinds.ensures.opened c.in_ok-push_opened_kinds.ensures.next c.in_ok-params.ensures c.in_ok-answer.ensures
