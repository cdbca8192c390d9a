use Rattle.std.proofs.Common.{◌∙◌, sym, ap, refl, map, take_all}
use Rattle.type_terms.specs.Naming.{instance}
use Rattle.type_terms.specs.Term.{term_of, terms_of, source_term, tuple_term, variable}
use Rattle.type_terms.proofs.Views.{term_Int, term_Decimal, term_Text, term_Bool, term_Unit, term_Format, term_Pred, term_Source, term_Tuple, term_Var}
use Rattle.type_terms.proofs.Parts.{tuple_is}
use Rattle.type_terms.proofs.Renaming.{instances_map, next_renamed}
use Rattle.type_terms.specs.declared.ty.Ty.TheViews as view
use Rattle.type_terms.specs.declared.ty.Ty.TheVariants as ty
use Rattle.type_terms.proofs.naming.+renamed_within.Goals as goal

pub loop-part-preserved : goal.loop-part-preserved
loop-part-preserved t c =
    next_renamed (instance c.args.types.now c.args.kinds.now) _ _ _ _ _ _ c.loop-part-test.true c.part-item.is c.in_ok-push-in-Tuple.ensures.items c.loop-part.invariant c.in_ok-next-in-Tuple.ensures

pub returns-after-loop-part : goal.returns-after-loop-part
returns-after-loop-part t c =
    term_Tuple _ c.loop-part.copies (λ i. view.Tuple c.loop-part.copies)
    ∙ ap (λ ts. tuple_term (terms_of ts)) (c.loop-part.invariant ∙ ap (λ ps. map (instance c.args.types.now c.args.kinds.now) (map term_of ps)) (take_all _ _ c.loop-part-test.false))
    ∙ ap tuple_term (instances_map c.args.types.now c.args.kinds.now _)
    ∙ ap (instance c.args.types.now c.args.kinds.now) (sym (tuple_is _ _ _ c.in-Tuple.is c.deref-part-items.ensures.value))

pub returns-in-Int : goal.returns-in-Int
returns-in-Int t c = term_Int ty.Int refl ∙ ap (instance c.args.types.now c.args.kinds.now) (sym (term_Int _ c.in-Int.is))

pub returns-in-Decimal : goal.returns-in-Decimal
returns-in-Decimal t c = term_Decimal ty.Decimal refl ∙ ap (instance c.args.types.now c.args.kinds.now) (sym (term_Decimal _ c.in-Decimal.is))

pub returns-in-Text : goal.returns-in-Text
returns-in-Text t c = term_Text ty.Text refl ∙ ap (instance c.args.types.now c.args.kinds.now) (sym (term_Text _ c.in-Text.is))

pub returns-in-Bool : goal.returns-in-Bool
returns-in-Bool t c = term_Bool ty.Bool refl ∙ ap (instance c.args.types.now c.args.kinds.now) (sym (term_Bool _ c.in-Bool.is))

pub returns-in-Unit : goal.returns-in-Unit
returns-in-Unit t c = term_Unit ty.Unit refl ∙ ap (instance c.args.types.now c.args.kinds.now) (sym (term_Unit _ c.in-Unit.is))

pub returns-in-Format : goal.returns-in-Format
returns-in-Format t c = term_Format ty.Format refl ∙ ap (instance c.args.types.now c.args.kinds.now) (sym (term_Format _ c.in-Format.is))

pub returns-in-Pred : goal.returns-in-Pred
returns-in-Pred t c = term_Pred ty.Pred refl ∙ ap (instance c.args.types.now c.args.kinds.now) (sym (term_Pred _ c.in-Pred.is))

pub returns-in-Source : goal.returns-in-Source
returns-in-Source t c = term_Source _ _ refl ∙ ap source_term c.renumbered_kind.ensures ∙ ap (instance c.args.types.now c.args.kinds.now) (sym (term_Source _ _ c.in-Source.is))

pub returns-in-Var : goal.returns-in-Var
returns-in-Var t c = term_Var _ _ refl ∙ ap variable c.renumbered.ensures ∙ ap (instance c.args.types.now c.args.kinds.now) (sym (term_Var _ _ c.in-Var.is))
