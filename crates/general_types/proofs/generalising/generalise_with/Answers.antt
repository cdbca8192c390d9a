use Rattle.std.proofs.Common.{◌∙◌, ap, map, refl}
use Rattle.general_types.specs.Numbering.{type_parameter, kind_parameters}
use Rattle.general_types.proofs.Opening.{over_of, general_of, numbered_of, text_over_of}
use Rattle.general_types.proofs.generalising.generalise_with.Goals as goal

pub returns-clause-over : goal.returns-clause-over
returns-clause-over c = λ names holds.
    over_of c.args.subst.now c.args.held.now _ _ _ _ _ c.in_ok-opened.ensures _ _
    (c.in_ok-say_parameters.ensures.types ∙ ap (map (type_parameter c.args.subst.now c.args.held.now)) c.as_slice.ensures.keys)
    (c.in_ok-say_parameters.ensures.kinds ∙ ap (kind_parameters c.args.held.now c.in_ok-opened.opened.read) c.as_slice-2.ensures.keys)
    names holds

pub returns-clause-numbered : goal.returns-clause-numbered
returns-clause-numbered c =
    numbered_of c.args.subst.now c.args.held.now _ _ _ _ _ c.in_ok-opened.ensures _ _
    (c.in_ok-say_parameters.ensures.types ∙ ap (map (type_parameter c.args.subst.now c.args.held.now)) c.as_slice.ensures.keys)
    (c.in_ok-say_parameters.ensures.kinds ∙ ap (kind_parameters c.args.held.now c.in_ok-opened.opened.read) c.as_slice-2.ensures.keys)
    _ _ _ refl c.deref.ensures.value c.in_ok-say_parameters.ensures.text

pub returns-clause-general : goal.returns-clause-general
returns-clause-general c = λ names holds.
    general_of c.args.subst.now c.args.held.now _ _ _ _ _ c.in_ok-opened.ensures _ _
    (c.in_ok-say_parameters.ensures.types ∙ ap (map (type_parameter c.args.subst.now c.args.held.now)) c.as_slice.ensures.keys)
    (c.in_ok-say_parameters.ensures.kinds ∙ ap (kind_parameters c.args.held.now c.in_ok-opened.opened.read) c.as_slice-2.ensures.keys)
    _ _ _ refl c.deref.ensures.value c.in_ok-say_parameters.ensures.text
    names holds c.as_slice.ensures.unique c.as_slice-2.ensures.unique c.extends_each_assignment.ensures

pub returns-clause-text_over : goal.returns-clause-text_over
returns-clause-text_over c = λ names holds.
    text_over_of c.args.subst.now c.args.held.now _ _ _ _ _ c.in_ok-opened.ensures _ _
    (c.in_ok-say_parameters.ensures.types ∙ ap (map (type_parameter c.args.subst.now c.args.held.now)) c.as_slice.ensures.keys)
    (c.in_ok-say_parameters.ensures.kinds ∙ ap (kind_parameters c.args.held.now c.in_ok-opened.opened.read) c.as_slice-2.ensures.keys)
    _ _ _ refl c.deref.ensures.value c.in_ok-say_parameters.ensures.text
    names holds
