use Rattle.std.proofs.Common.{◌∙◌, sym, ap, subst, length, List, map}
use Rattle.type_terms.specs.Term.{Term, source_term, term_of, variable}
use Rattle.type_terms.specs.declared.ty.KindTerm.{KindTerm}
use Rattle.type_instances.specs.Schemes.{AreAmong, scheme_of}
use Rattle.expression_types.specs.Seen.{founds}
use Rattle.type_infer.specs.TextUses.{kinds_in}
use Rattle.type_infer.proofs.Answered.{kinds_among, vars_among}
use Rattle.type_infer.proofs.Typings.{general_as}
use Rattle.type_infer.proofs.defs.general_type_with.Goals as goal

pub generalise-requires-clause-params : goal.generalise-requires-clause-params
generalise-requires-clause-params c =
    subst (λ (ts : List Term). AreAmong (length c.args.subst.now.types) (length c.args.subst.now.kinds) ts)
    (sym (ap (map term_of) c.as_slice.ensures.value ∙ c.in_ok-push_variables.ensures ∙ ap (map variable) c.deref.ensures.value))
    (vars_among c.args.subst.now c.args.parts.now.params.items c.requires.params)

pub generalise-requires-clause-kinds : goal.generalise-requires-clause-kinds
generalise-requires-clause-kinds c =
    subst (λ (ks : List KindTerm). AreAmong (length c.args.subst.now.types) (length c.args.subst.now.kinds) (map source_term ks))
    (sym (c.as_slice-2.ensures.value ∙ c.in_ok-push_all_kinds.ensures))
    (kinds_among c.args.subst.now (founds c.args.uses.now) c.requires.uses)

pub returns : goal.returns
returns c = record {
  numbered = c.in_ok-made.ensures.numbered;
  over = c.in_ok-made.ensures.over;
  text_over = c.in_ok-made.ensures.text_over;
  general = λ names h. general_as c.args.subst.now names (map term_of c.as_slice.result.now) (map variable c.args.parts.now.params.items) (term_of c.answer_of-answer.result) (variable c.args.parts.now.result) c.as_slice-2.result.now (kinds_in (founds c.args.uses.now)) (scheme_of c.in_ok-made.made.general) c.in_ok-made.made.text.items
      (ap (map term_of) c.as_slice.ensures.value ∙ c.in_ok-push_variables.ensures ∙ ap (map variable) c.deref.ensures.value) c.answer_of-answer.ensures (c.as_slice-2.ensures.value ∙ c.in_ok-push_all_kinds.ensures) (c.in_ok-made.ensures.general names h);
}
