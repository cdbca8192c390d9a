use Rattle.std.proofs.Common.{◌∙◌, sym, ap}
use Rattle.type_terms.specs.Term.{term_of, list_term}
use Rattle.type_terms.proofs.Views.{term_List}
use Rattle.type_terms.proofs.Parts.{tuple_is}
use Rattle.type_terms.specs.Pairs.{pairs}
use Rattle.type_terms.proofs.Stack.{count_of_terms, pairs-append, split_lists, split_tuples}
use Rattle.type_terms.proofs.Settling.{unsplit_lengths}
use Rattle.type_terms.proofs.differ.push_split.Goals as goal

pub returns-in_ok-push-in-List-t-clause-yes : goal.returns-in_ok-push-in-List-t-clause-yes
returns-in_ok-push-in-List-t-clause-yes c =
    split_lists _ _ (term_of c.deref.result.now) (term_of c.deref-in-List-t.result.now) _ _
    (term_List _ _ c.in-List.is ∙ ap (λ u. list_term (term_of u)) (sym c.deref.ensures))
    (term_List _ _ c.in-List-t.is ∙ ap (λ u. list_term (term_of u)) (sym c.deref-in-List-t.ensures))
    (ap pairs c.in_ok-push-in-List-t.ensures.items ∙ pairs-append _ _)

pub returns-in_ok-push_parts-in-Tuple-t-clause-yes : goal.returns-in_ok-push_parts-in-Tuple-t-clause-yes
returns-in_ok-push_parts-in-Tuple-t-clause-yes c =
    split_tuples _ _ c.deref-ss.result.now c.deref-ts.result.now _ _
    (tuple_is _ _ _ c.in-Tuple.is c.deref-ss.ensures.value) (tuple_is _ _ _ c.in-Tuple-t.is c.deref-ts.ensures.value)
    c.if-ss-ts.false c.in_ok-push_parts-in-Tuple-t.ensures

pub returns-then-ss-ts-clause-unsplit : goal.returns-then-ss-ts-clause-unsplit
returns-then-ss-ts-clause-unsplit c =
    unsplit_lengths _ _ _ _ (tuple_is _ _ _ c.in-Tuple.is c.deref-ss.ensures.value) (tuple_is _ _ _ c.in-Tuple-t.is c.deref-ts.ensures.value)
    (λ e. c.if-ss-ts.true (sym (count_of_terms c.deref-ss.result.now) ∙ e ∙ count_of_terms c.deref-ts.result.now))
