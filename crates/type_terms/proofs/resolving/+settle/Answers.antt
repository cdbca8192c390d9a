use Rattle.std.proofs.Common.{refl, rules}
use Rattle.type_terms.specs.Term.{base_term, term_of}
use Rattle.type_terms.specs.Table.{table}
use Rattle.type_terms.proofs.Views.{term_Int, term_Decimal, term_Text, term_Bool, term_Unit, term_Format, term_Pred, term_Tuple}
use Rattle.type_terms.proofs.Parts.{tuple_is, part_over}
use Rattle.type_terms.proofs.Settling.{triangular, over_types}
use Rattle.type_terms.proofs.Settled.{resolved_by, resolved_itself, resolved_terms, next_resolved, all_resolved}
use Rattle.type_terms.specs.declared.ty.Base.TheVariants as base
use Rattle.type_terms.specs.declared.ty.Ty.TheVariants as ty
use Rattle.type_terms.proofs.resolving.+settle.Goals as goal

pub resolve-ty-requires-clause-triangular : goal.resolve-ty-requires-clause-triangular
resolve-ty-requires-clause-triangular t c = triangular _ _ c.requires.sound

pub resolve-ty-requires-clause-over : goal.resolve-ty-requires-clause-over
resolve-ty-requires-clause-over t c = over_types c.args.types.now c.args.kinds.now (term_of c.args.ty.now) c.requires.over

pub settle-requires-in-loop-part : goal.settle-requires-in-loop-part
settle-requires-in-loop-part t c = (
  search rules,
  (
    c.requires.sound,
    part_over _ _ _ c.in-Tuple.is c.deref-part-items.ensures.value _ _ c.loop-part-test.true c.part-item.is _ _ (c.resolve-ty.ensures.kept (table c.args.types.now c.args.kinds.now) refl c.requires.sound c.requires.over),
  ),
)

pub loop-part-preserved : goal.loop-part-preserved
loop-part-preserved t c =
    next_resolved _ _ _ _ _ _ _ c.loop-part-test.true c.part-item.is c.in_ok-push-in-Tuple.ensures.items c.loop-part.invariant c.in_ok-next-in-Tuple.ensures

pub returns-after-loop-part : goal.returns-after-loop-part
returns-after-loop-part t c =
    resolved_by _ _ _ _ c.resolve-ty.ensures.value
    (resolved_terms _ _ _ _ _ (tuple_is _ _ _ c.in-Tuple.is c.deref-part-items.ensures.value) (term_Tuple _ c.loop-part.settled refl)
    (all_resolved _ _ _ _ c.loop-part-test.false c.loop-part.invariant))

pub returns-in-Int : goal.returns-in-Int
returns-in-Int t c =
    resolved_by _ _ _ _ c.resolve-ty.ensures.value
    (resolved_terms _ _ _ _ _ (term_Int _ c.in-Int.is) (term_Int ty.Int refl) (resolved_itself (table c.args.types.now c.args.kinds.now) (base_term base.Int) tt))

pub returns-in-Decimal : goal.returns-in-Decimal
returns-in-Decimal t c =
    resolved_by _ _ _ _ c.resolve-ty.ensures.value
    (resolved_terms _ _ _ _ _ (term_Decimal _ c.in-Decimal.is) (term_Decimal ty.Decimal refl) (resolved_itself (table c.args.types.now c.args.kinds.now) (base_term base.Decimal) tt))

pub returns-in-Text : goal.returns-in-Text
returns-in-Text t c =
    resolved_by _ _ _ _ c.resolve-ty.ensures.value
    (resolved_terms _ _ _ _ _ (term_Text _ c.in-Text.is) (term_Text ty.Text refl) (resolved_itself (table c.args.types.now c.args.kinds.now) (base_term base.Text) tt))

pub returns-in-Bool : goal.returns-in-Bool
returns-in-Bool t c =
    resolved_by _ _ _ _ c.resolve-ty.ensures.value
    (resolved_terms _ _ _ _ _ (term_Bool _ c.in-Bool.is) (term_Bool ty.Bool refl) (resolved_itself (table c.args.types.now c.args.kinds.now) (base_term base.Bool) tt))

pub returns-in-Unit : goal.returns-in-Unit
returns-in-Unit t c =
    resolved_by _ _ _ _ c.resolve-ty.ensures.value
    (resolved_terms _ _ _ _ _ (term_Unit _ c.in-Unit.is) (term_Unit ty.Unit refl) (resolved_itself (table c.args.types.now c.args.kinds.now) (base_term base.Unit) tt))

pub returns-in-Format : goal.returns-in-Format
returns-in-Format t c =
    resolved_by _ _ _ _ c.resolve-ty.ensures.value
    (resolved_terms _ _ _ _ _ (term_Format _ c.in-Format.is) (term_Format ty.Format refl) (resolved_itself (table c.args.types.now c.args.kinds.now) (base_term base.Format) tt))

pub returns-in-Pred : goal.returns-in-Pred
returns-in-Pred t c =
    resolved_by _ _ _ _ c.resolve-ty.ensures.value
    (resolved_terms _ _ _ _ _ (term_Pred _ c.in-Pred.is) (term_Pred ty.Pred refl) (resolved_itself (table c.args.types.now c.args.kinds.now) (base_term base.Pred) tt))
