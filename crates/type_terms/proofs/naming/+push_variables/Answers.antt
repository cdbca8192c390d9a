use Rattle.std.proofs.Common.{◌∙◌, sym, ap, map, ◌++◌, take_all}
use Rattle.type_terms.specs.Naming.{type_variables, kind_variables}
use Rattle.type_terms.specs.Term.{term_of}
use Rattle.type_terms.proofs.Parts.{tuple_is}
use Rattle.type_terms.proofs.Renaming.{gathered, gathered_types, gathered_kinds, next_gathered}
use Rattle.type_terms.proofs.naming.+push_variables.Goals as goal

pub loop-part-preserved : goal.loop-part-preserved
loop-part-preserved t c = record {
  types = next_gathered type_variables _ _ _ _ _ _ c.loop-part-test.true c.part-item.is c.loop-part.invariant.types c.in_ok-push_variables-in-Tuple.ensures.types;
  kinds = next_gathered kind_variables _ _ _ _ _ _ c.loop-part-test.true c.part-item.is c.loop-part.invariant.kinds c.in_ok-push_variables-in-Tuple.ensures.kinds;
}

pub returns-after-loop-part-clause-types : goal.returns-after-loop-part-clause-types
returns-after-loop-part-clause-types t c =
    c.loop-part.invariant.types
    ∙ ap (λ ns. c.args.types.now.items ++ ns)
    (ap (λ ps. gathered type_variables (map term_of ps)) (take_all _ _ c.loop-part-test.false)
    ∙ gathered_types (map term_of c.deref-part-items.result.now)
    ∙ ap type_variables (sym (tuple_is _ _ _ c.in-Tuple.is c.deref-part-items.ensures.value)))

pub returns-after-loop-part-clause-kinds : goal.returns-after-loop-part-clause-kinds
returns-after-loop-part-clause-kinds t c =
    c.loop-part.invariant.kinds
    ∙ ap (λ ns. c.args.kinds.now.items ++ ns)
    (ap (λ ps. gathered kind_variables (map term_of ps)) (take_all _ _ c.loop-part-test.false)
    ∙ gathered_kinds (map term_of c.deref-part-items.result.now)
    ∙ ap kind_variables (sym (tuple_is _ _ _ c.in-Tuple.is c.deref-part-items.ensures.value)))
