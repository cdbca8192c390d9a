use Rattle.std.proofs.Common.{◌∙◌, sym}
use Rattle.type_terms.proofs.Basics.{on_equal, on_unequal}
use Rattle.type_terms.proofs.Parts.{tuple_is}
use Rattle.type_terms.proofs.Settling.{unsplit_lengths}
use Rattle.type_terms.proofs.Stack.{count_of_terms, lists_split, tuples_split}
use Rattle.type_terms.proofs.Views.{term_List}
use Rattle.type_terms.proofs.differ.is_split.Goals as goal

pub returns-in-List-t-clause-yes : goal.returns-in-List-t-clause-yes
returns-in-List-t-clause-yes c = lists_split _ _ _ _ (term_List _ _ c.in-List.is) (term_List _ _ c.in-List-t.is)

pub returns-in-Tuple-t-clause-yes : goal.returns-in-Tuple-t-clause-yes
returns-in-Tuple-t-clause-yes c =
    on_equal _ _ _
    (λ e. tuples_split _ _ c.deref-ss.result.now c.deref-ts.result.now (tuple_is _ _ _ c.in-Tuple.is c.deref-ss.ensures.value) (tuple_is _ _ _ c.in-Tuple-t.is c.deref-ts.ensures.value) e)

pub returns-in-Tuple-t-clause-unsplit : goal.returns-in-Tuple-t-clause-unsplit
returns-in-Tuple-t-clause-unsplit c =
    on_unequal _ _ _
    (λ ne. unsplit_lengths _ _ _ _ (tuple_is _ _ _ c.in-Tuple.is c.deref-ss.ensures.value) (tuple_is _ _ _ c.in-Tuple-t.is c.deref-ts.ensures.value) (λ e. ne (sym (count_of_terms c.deref-ss.result.now) ∙ e ∙ count_of_terms c.deref-ts.result.now)))
