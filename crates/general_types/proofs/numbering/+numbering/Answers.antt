use Rattle.std.proofs.Common.{refl}
use Rattle.type_terms.specs.Term.{term_of}
use Rattle.type_terms.specs.declared.ty.Ty.TheVariants as ty
use Rattle.type_terms.proofs.Parts.{tuple_is}
use Rattle.type_terms.proofs.Views.{term_Bool, term_Decimal, term_Format, term_Int, term_Pred, term_Source, term_Text, term_Tuple, term_Unit, term_Var}
use Rattle.general_types.proofs.Places.{numbered_base, numbered_source, numbered_tuple, numbered_variable}
use Rattle.general_types.proofs.Steps.{numbered_all, numbered_next}
use Rattle.general_types.proofs.numbering.+numbering.Goals as goal

pub all_numbered-loop-ty-preserved : goal.all_numbered-loop-ty-preserved
all_numbered-loop-ty-preserved t c = numbered_next _ _ _ _ _ _ c.args.tys.now c.loop-ty.places.items _ c.loop-ty.ty-index _ _ c.loop-ty-test.true c.ty-item.is c.in_ok-push.ensures.items c.loop-ty.invariant c.in_ok-next.ensures

pub all_numbered-returns : goal.all_numbered-returns
all_numbered-returns t c = numbered_all _ _ _ _ c.args.tys.now _ c.loop-ty.ty-index c.loop-ty-test.false c.loop-ty.invariant

pub numbered-returns-in-Int : goal.numbered-returns-in-Int
numbered-returns-in-Int t c = numbered_base _ _ _ _ _ (term_Int c.args.ty.now c.in-Int.is) (term_Int ty.Int refl)

pub numbered-returns-in-Decimal : goal.numbered-returns-in-Decimal
numbered-returns-in-Decimal t c = numbered_base _ _ _ _ _ (term_Decimal c.args.ty.now c.in-Decimal.is) (term_Decimal ty.Decimal refl)

pub numbered-returns-in-Text : goal.numbered-returns-in-Text
numbered-returns-in-Text t c = numbered_base _ _ _ _ _ (term_Text c.args.ty.now c.in-Text.is) (term_Text ty.Text refl)

pub numbered-returns-in-Bool : goal.numbered-returns-in-Bool
numbered-returns-in-Bool t c = numbered_base _ _ _ _ _ (term_Bool c.args.ty.now c.in-Bool.is) (term_Bool ty.Bool refl)

pub numbered-returns-in-Unit : goal.numbered-returns-in-Unit
numbered-returns-in-Unit t c = numbered_base _ _ _ _ _ (term_Unit c.args.ty.now c.in-Unit.is) (term_Unit ty.Unit refl)

pub numbered-returns-in-Format : goal.numbered-returns-in-Format
numbered-returns-in-Format t c = numbered_base _ _ _ _ _ (term_Format c.args.ty.now c.in-Format.is) (term_Format ty.Format refl)

pub numbered-returns-in-Pred : goal.numbered-returns-in-Pred
numbered-returns-in-Pred t c = numbered_base _ _ _ _ _ (term_Pred c.args.ty.now c.in-Pred.is) (term_Pred ty.Pred refl)

pub numbered-returns-in_ok-kind-in-Source : goal.numbered-returns-in_ok-kind-in-Source
numbered-returns-in_ok-kind-in-Source t c =
    let k = c.in_ok-kind-in-Source.kind in
    numbered_source c.args.types.now.keys c.args.kinds.now.keys _ (term_of c.args.ty.now) _ c.in-Source.kind k
    (term_Source c.args.ty.now _ c.in-Source.is)
    (term_Source (ty.Source k) k refl)
    (c.in_ok-kind-in-Source.ensures.numbered c.args.types.now.keys)

pub numbered-returns-in_ok-place-in-Var : goal.numbered-returns-in_ok-place-in-Var
numbered-returns-in_ok-place-in-Var t c =
    let i = c.in_ok-place-in-Var.place in
    numbered_variable c.args.types.now.keys c.args.kinds.now.keys _ (term_of c.args.ty.now) _ c.in-Var.number i
    (term_Var c.args.ty.now _ c.in-Var.is)
    (term_Var (ty.Var i) i refl)
    c.in_ok-place-in-Var.ensures.front c.in_ok-place-in-Var.ensures.there

pub numbered-returns-in_ok-parts-in-Tuple : goal.numbered-returns-in_ok-parts-in-Tuple
numbered-returns-in_ok-parts-in-Tuple t c =
    numbered_tuple _ _ _ _ _ _ _ _
    (tuple_is _ _ _ c.in-Tuple.is c.deref-in-Tuple.ensures.value)
    (term_Tuple _ c.in_ok-parts-in-Tuple.parts refl)
    c.in_ok-parts-in-Tuple.ensures
