-- What a step of a walk leads to at each shape of a type.
use Rattle.std.proofs.Common.{◌≡◌, ◌∙◌, sym, ap, subst, refl, map, List, [], ◌∷◌, ◌++◌}
use Rattle.std.specs.Borrow.{Bor}
use Rattle.type_terms.specs.Nested.{parts, terms}
use Rattle.type_terms.specs.Table.{Table}
use Rattle.type_terms.specs.Term.{Term, base_term, list_term, tuple_term, term_of, terms_of}
use Rattle.type_terms.specs.declared.ty.Ty.{Ty}
use Rattle.type_terms.specs.declared.ty.Ty.TheVariants as ty
use Rattle.type_terms.specs.declared.ty.Ty.TheViews as view
use Rattle.type_terms.proofs.Views.{Shape, is_base, is_list, is_source, is_tuple, is_var, shape_of}
use Rattle.type_terms.proofs.Walks.{parts_of_terms, terms-append}
use Rattle.general_types.specs.Holding.{HeldVariables}
use Rattle.general_types.specs.Walks.{Leads}
use Rattle.general_types.proofs.Leads.{leads_base, leads_list, leads_off, leads_top, leads_tuple}

-- a type without parts and without a variable
pub visits_base : (s : Table) (rest : List Term) (t : Ty) (h : HeldVariables) → ((n : _) → t ≡ ty.Var n → ⊥) → ((k : _) → t ≡ ty.Source k → ⊥) → ((b : _) → t ≡ view.List b → ⊥) → ((v : _) → t ≡ view.Tuple v → ⊥) → Leads s (rest ++ (term_of t ∷ [])) rest h h
visits_base s rest t h nv ns nl nt = by (shape_of t)
  where
    by : Shape t → Leads s (rest ++ (term_of t ∷ [])) rest h h
    by (is_base b e) = subst (λ u. Leads s (rest ++ (u ∷ [])) rest h h) (sym e) (leads_off s rest (base_term b ∷ []) h h (leads_base s b h))
    by (is_list b e) = absurd (nl b e)
    by (is_tuple v e) = absurd (nt v e)
    by (is_source k e) = absurd (ns k e)
    by (is_var n e) = absurd (nv n e)

-- a list, whose item was put on the stack
pub visits_list : (s : Table) (t : Term) (work work' : List (Bor Ty)) (p : Bor Ty) (h : HeldVariables) → t ≡ list_term (term_of p.now) → work' ≡ work ++ (p ∷ []) → Leads s (terms work ++ (t ∷ [])) (terms work') h h
visits_list s t work work' p h is pushed =
    subst (λ v. Leads s (terms work ++ (v ∷ [])) (terms work') h h) (sym is)
    (leads_top s (terms work) (list_term (term_of p.now) ∷ []) (term_of p.now ∷ []) (terms work ++ (list_term (term_of p.now) ∷ [])) (terms work') h h refl (ap terms pushed ∙ terms-append work (p ∷ [])) (leads_list s (term_of p.now) h))

-- a tuple, whose parts were put on the stack
pub visits_tuple : (s : Table) (t : Term) (rest stack : List Term) (ps : List Ty) (h : HeldVariables) → t ≡ tuple_term (terms_of (map term_of ps)) → stack ≡ rest ++ map term_of ps → Leads s (rest ++ (t ∷ [])) stack h h
visits_tuple s t rest stack ps h is pushed =
    subst (λ v. Leads s (rest ++ (v ∷ [])) stack h h) (sym is)
    (leads_top s rest (tuple_term (terms_of (map term_of ps)) ∷ []) (parts (terms_of (map term_of ps))) (rest ++ (tuple_term (terms_of (map term_of ps)) ∷ [])) stack h h refl (pushed ∙ ap (λ ts. rest ++ ts) (sym (parts_of_terms (map term_of ps)))) (leads_tuple s (terms_of (map term_of ps)) h))
