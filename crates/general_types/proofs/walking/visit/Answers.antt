use Rattle.std.proofs.Common.{◌∙◌, ap, sym, subst, ◌∷◌, []}
use Rattle.type_terms.specs.Nested.{terms}
use Rattle.type_terms.specs.Table.{IsOver}
use Rattle.type_terms.specs.Term.{list_term, source_term, term_of}
use Rattle.type_terms.proofs.Parts.{tuple_is}
use Rattle.type_terms.proofs.Views.{term_List, term_Source, term_Var}
use Rattle.general_types.specs.Walks.{held_of}
use Rattle.general_types.proofs.Leads.{leads_kind, leads_off, ok_then}
use Rattle.general_types.proofs.Visits.{visits_base, visits_list, visits_tuple}
use Rattle.general_types.proofs.walking.visit.Goals as goal

pub visit_variable-requires : goal.visit_variable-requires
visit_variable-requires c = record { inside = subst (IsOver c.args.subst.now) (term_Var _ _ c.in-Var.is) c.requires.over }

pub add_kind-requires : goal.add_kind-requires
add_kind-requires c = record { over = subst (IsOver c.args.subst.now) (term_Source _ _ c.in-Source.is) c.requires.over }

pub returns-in-Var : goal.returns-in-Var
returns-in-Var c = rw (term_Var _ _ c.in-Var.is) c.visit_variable.ensures

pub returns-in-Source : goal.returns-in-Source
returns-in-Source c =
    rw (term_Source _ _ c.in-Source.is)
    (ok_then c.add_kind.result
    (λ d. leads_off c.args.subst.now (terms c.args.work.now.items) (source_term c.in-Source.kind ∷ []) _ _ (leads_kind c.args.subst.now c.in-Source.kind c.args.reached.now.types.keys c.args.reached.now.passed.keys c.args.reached.now.kinds.keys c.add_kind.new.kinds.keys d))
    c.add_kind.ensures)

pub returns-in_ok-push-in-List : goal.returns-in_ok-push-in-List
returns-in_ok-push-in-List c =
    visits_list c.args.subst.now (term_of c.args.ty.now) c.args.work.now.items c.push.new.self.items c.deref.result (held_of c.args.reached.now)
    (term_List _ _ c.in-List.is ∙ ap (λ u. list_term (term_of u)) (sym c.deref.ensures)) c.in_ok-push-in-List.ensures.items

pub returns-in-Tuple : goal.returns-in-Tuple
returns-in-Tuple c =
    ok_then c.push_parts.result
    (λ e. visits_tuple c.args.subst.now (term_of c.args.ty.now) (terms c.args.work.now.items) (terms c.push_parts.new.work.items) _ (held_of c.args.reached.now) (tuple_is _ _ _ c.in-Tuple.is c.deref-in-Tuple.ensures.value) e)
    c.push_parts.ensures

pub returns-in_default : goal.returns-in_default
returns-in_default c =
    visits_base c.args.subst.now (terms c.args.work.now.items) c.args.ty.now (held_of c.args.reached.now) c.in_default.not-Var c.in_default.not-Source c.in_default.not-List c.in_default.not-Tuple
