use Rattle.std.proofs.Common.{◌∙◌, ap, map}
use Rattle.type_terms.specs.Term.{term_of}
use Rattle.general_types.proofs.Steps.{opens_kinds}
use Rattle.general_types.proofs.numbering.push_opened_kinds.Goals as goal

pub returns-clause-opened : goal.returns-clause-opened
returns-clause-opened c = λ ts. opens_kinds c.args.subst.now ts _ _ _ _ _ _ _ (ap (map term_of) c.deref.ensures.value ∙ c.in_ok-given.ensures) (ap (map term_of) c.deref-2.ensures.value) c.in_ok-settled.ensures (c.in_ok-push_places.ensures.numbered ts)
