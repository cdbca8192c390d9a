use Rattle.std.proofs.Common.{◌≡◌, ◌∙◌, sym, ap, subst, ◌++◌, OnOk}
use Rattle.type_terms.specs.Nested.{inside, terms}
use Rattle.type_terms.specs.Term.{list_term, term_of}
use Rattle.type_terms.proofs.Parts.{tuple_is}
use Rattle.type_terms.proofs.Views.{term_List}
use Rattle.type_terms.proofs.Walks.{parts_of_terms, terms-append}
use Rattle.type_terms.proofs.occurs.push_inside.Goals as goal

pub returns-in_ok-push-in-List : goal.returns-in_ok-push-in-List
returns-in_ok-push-in-List c =
    ap terms c.in_ok-push-in-List.ensures.items ∙ terms-append _ _
    ∙ ap (λ u. terms c.args.work.now.items ++ inside u) (sym (term_List _ _ c.in-List.is ∙ ap (λ u. list_term (term_of u)) (sym c.deref.ensures)))

pub returns-in-Tuple : goal.returns-in-Tuple
returns-in-Tuple c =
    subst (λ us. OnOk c.push_parts.result (terms c.push_parts.new.work.items ≡ terms c.args.work.now.items ++ us))
    (sym (ap inside (tuple_is _ _ _ c.in-Tuple.is c.deref-in-Tuple.ensures.value) ∙ parts_of_terms _))
    c.push_parts.ensures
