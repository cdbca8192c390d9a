-- What statements and defs bind, one binding at a time.
use Rattle.std.proofs.Common.{◌≡◌, ◌<◌, ◌+◌, ℕ, length, List, [], ◌∷◌, ◌++◌, refl, sym, ap, ◌∙◌, append_assoc, map, take, get_or, Bool}
use Rattle.std.proofs.lemmas.List.{append-nil, take_more}
use Rattle.script_grammar.specs.Tree.{Tree, Many, AParam, AnInner, AnExpr, none, more, Param as a_param, Labelled, Optional, Def}
use Rattle.script_grammar.specs.View.{listed, param_of, view_param, view_inner}
use Rattle.script_grammar.specs.declared.tree.Param.{Param}
use Rattle.script_grammar.specs.declared.tree.Inner.{Inner}
use Rattle.script_grammar.specs.declared.tree.ParamForm.{ParamForm}
use Rattle.script_grammar.specs.declared.tree.ParamForm.TheVariants as form
use Rattle.typing_rules.specs.Scoping.{Name, Scope, bound_value, inner_names, names, with_inner, with_inners, with_param, with_params}
use Rattle.name_scope.specs.Noted.{Noted, body_names, names_each, with_names}
use Rattle.name_scope.proofs.Rows.{each_listed, two_parts}

one_param : (at : ℕ) (name : List ℕ) (f : ParamForm) (sc : Scope) → with_param (param_of at name f) sc ≡ (name, bound_value at) ∷ sc
one_param at name form.Plain sc = refl
one_param at name form.Labelled sc = refl
one_param at name (form.Optional f) sc = refl

more_params : (ps : List Param) (p : Param) (sc : Scope) → with_params (listed (map view_param (ps ++ p ∷ []))) sc ≡ (p.name, bound_value p.at) ∷ with_params (listed (map view_param ps)) sc
more_params [] p sc = one_param p.at p.name p.form sc
more_params (q ∷ ps) p sc = more_params ps p (with_param (view_param q) sc)

pub param_next : (ps : List Param) (i : ℕ) (p : Param) (name : List ℕ) (sc a new : Scope) → i < length ps → p ≡ get_or ps i p → name ≡ p.name → a ≡ with_params (listed (map view_param (take i ps))) sc → new ≡ (name, bound_value p.at) ∷ a → new ≡ with_params (listed (map view_param (take (i + 1) ps))) sc
param_next ps i p name sc a new lt is nm e f =
    f ∙ ap (λ (n : List ℕ). (n, bound_value p.at) ∷ a) nm ∙ ap (λ (l : Scope). (p.name, bound_value p.at) ∷ l) e ∙ sym (more_params (take i ps) p sc)
    ∙ sym (ap (λ (l : List Param). with_params (listed (map view_param l)) sc) (take_more ps i p lt ∙ ap (λ (y : Param). take i ps ++ y ∷ []) (sym is)))

more_inners : (xs : List Inner) (x : Inner) (sc : Scope) → with_inners (listed (map view_inner (xs ++ x ∷ []))) sc ≡ with_inner (view_inner x) (with_inners (listed (map view_inner xs)) sc)
more_inners [] x sc = refl
more_inners (y ∷ xs) x sc = more_inners xs x (with_inner (view_inner y) sc)

more_names : (xs : List Inner) (x : Inner) (sc : Scope) → inner_names sc (listed (map view_inner (xs ++ x ∷ []))) ≡ inner_names sc (listed (map view_inner xs)) ++ names (with_inners (listed (map view_inner xs)) sc) (view_inner x)
more_names [] x sc = append-nil (names sc (view_inner x))
more_names (y ∷ xs) x sc = ap (λ (l : List Name). names sc (view_inner y) ++ l) (more_names xs x (with_inner (view_inner y) sc)) ∙ sym (append_assoc (names sc (view_inner y)) (inner_names (with_inner (view_inner y) sc) (listed (map view_inner xs))) (names (with_inners (listed (map view_inner xs)) (with_inner (view_inner y) sc)) (view_inner x)))

taken_more : (xs : List Inner) (i : ℕ) (x : Inner) → i < length xs → x ≡ get_or xs i x → take (i + 1) xs ≡ take i xs ++ x ∷ []
taken_more xs i x lt is = take_more xs i x lt ∙ ap (λ (y : Inner). take i xs ++ y ∷ []) (sym is)

pub inner_bound : (xs : List Inner) (i : ℕ) (x : Inner) (name : List ℕ) (inner outer new sc : Scope) → i < length xs → x ≡ get_or xs i x → name ≡ x.bind.name → inner ++ outer ≡ with_inners (listed (map view_inner (take i xs))) sc → new ≡ (name, bound_value x.bind.at) ∷ inner → new ++ outer ≡ with_inners (listed (map view_inner (take (i + 1) xs))) sc
inner_bound xs i x name inner outer new sc lt is nm e f =
    ap (λ (l : Scope). l ++ outer) f ∙ ap (λ (n : List ℕ). (n, bound_value x.bind.at) ∷ (inner ++ outer)) nm ∙ ap (with_inner (view_inner x)) e ∙ sym (more_inners (take i xs) x sc)
    ∙ sym (ap (λ (l : List Inner). with_inners (listed (map view_inner l)) sc) (taken_more xs i x lt is))

pub inner_noted : (xs : List Inner) (i : ℕ) (x : Inner) (both sc : Scope) (old a new : Noted) → i < length xs → x ≡ get_or xs i x → both ≡ with_inners (listed (map view_inner (take i xs))) sc → a ≡ with_names old (inner_names sc (listed (map view_inner (take i xs)))) → new ≡ with_names a (names both (view_inner x)) → new ≡ with_names old (inner_names sc (listed (map view_inner (take (i + 1) xs))))
inner_noted xs i x both sc old a new lt is b e f =
    two_parts old a new (inner_names sc (listed (map view_inner (take i xs)))) (names (with_inners (listed (map view_inner (take i xs))) sc) (view_inner x)) (inner_names sc (listed (map view_inner (take (i + 1) xs)))) e (f ∙ ap (λ (s : Scope). with_names a (names s (view_inner x))) b)
    (ap (λ (l : List Inner). inner_names sc (listed (map view_inner l))) (taken_more xs i x lt is) ∙ more_names (take i xs) x sc)

pub params_onto : (ps : Tree (Many AParam)) (xs ys : Scope) → with_params ps (xs ++ ys) ≡ with_params ps xs ++ ys
params_onto none xs ys = refl
params_onto (more (a_param at name) ps) xs ys = params_onto ps ((name, bound_value at) ∷ xs) ys
params_onto (more (Labelled at name) ps) xs ys = params_onto ps ((name, bound_value at) ∷ xs) ys
params_onto (more (Optional at name d) ps) xs ys = params_onto ps ((name, bound_value at) ∷ xs) ys

-- after the inner bindings, the result
pub body_noted : (is : Tree (Many AnInner)) (e : Tree AnExpr) (both after sc : Scope) (old a new : Noted) → both ≡ sc → after ≡ with_inners is both → a ≡ with_names old (inner_names both is) → new ≡ with_names a (names after e) → new ≡ with_names old (body_names sc is e)
body_noted is e both after sc old a new b f g h =
    two_parts old a new (inner_names both is) (names (with_inners is both) e) (inner_names both is ++ names (with_inners is both) e) g (h ∙ ap (λ (s : Scope). with_names a (names s e)) f) refl
    ∙ ap (λ (s : Scope). with_names old (body_names s is e)) b

-- after the defaults, the body
pub def_noted : (at : ℕ) (name : List ℕ) (ps : List Param) (equals : Bool) (is : Tree (Many AnInner)) (e : Tree AnExpr) (inner outer : Scope) (old a new : Noted) → inner ≡ [] → a ≡ with_names old (names_each (inner ++ outer) (map view_param ps)) → new ≡ with_names a (body_names (with_params (listed (map view_param ps)) inner ++ outer) is e) → new ≡ with_names old (names outer (Def at name (listed (map view_param ps)) equals is e))
def_noted at name ps equals is e inner outer old a new empty g h =
    let sc = with_params (listed (map view_param ps)) outer in
    let bodies : body_names (with_params (listed (map view_param ps)) inner ++ outer) is e ≡ body_names sc is e = ap (λ (s : Scope). body_names (with_params (listed (map view_param ps)) s ++ outer) is e) empty ∙ ap (λ (s : Scope). body_names s is e) (sym (params_onto (listed (map view_param ps)) [] outer)) in
    two_parts old a new (names_each outer (map view_param ps)) (body_names sc is e) (names outer (Def at name (listed (map view_param ps)) equals is e))
    (g ∙ ap (λ (s : Scope). with_names old (names_each (s ++ outer) (map view_param ps))) empty)
    (h ∙ ap (with_names a) bodies)
    (ap (λ (l : List Name). l ++ inner_names sc is ++ names (with_inners is sc) e) (each_listed outer (map view_param ps)) ∙ append_assoc (names_each outer (map view_param ps)) (inner_names sc is) (names (with_inners is sc) e))

-- the same with the lists as the program holds them
pub body_done : (ps qs : List Param) (is js : List Inner) (e : Tree AnExpr) (inner bound after outer : Scope) (old a new : Noted) → qs ≡ ps → js ≡ is → bound ≡ with_params (listed (map view_param qs)) inner → after ≡ with_inners (listed (map view_inner js)) (bound ++ outer) → a ≡ with_names old (inner_names (bound ++ outer) (listed (map view_inner js))) → new ≡ with_names a (names after e) → new ≡ with_names old (body_names (with_params (listed (map view_param ps)) inner ++ outer) (listed (map view_inner is)) e)
body_done ps qs is js e inner bound after outer old a new pq ij b f g h =
    body_noted (listed (map view_inner js)) e (bound ++ outer) after (with_params (listed (map view_param ps)) inner ++ outer) old a new (ap (λ (s : Scope). s ++ outer) (b ∙ ap (λ (l : List Param). with_params (listed (map view_param l)) inner) pq)) f g h
    ∙ ap (λ (l : List Inner). with_names old (body_names (with_params (listed (map view_param ps)) inner ++ outer) (listed (map view_inner l)) e)) ij

pub def_done : (at : ℕ) (name : List ℕ) (ps qs : List Param) (equals : Bool) (is : Tree (Many AnInner)) (e : Tree AnExpr) (inner outer : Scope) (old a new : Noted) → qs ≡ ps → inner ≡ [] → a ≡ with_names old (names_each (inner ++ outer) (map view_param qs)) → new ≡ with_names a (body_names (with_params (listed (map view_param ps)) inner ++ outer) is e) → new ≡ with_names old (names outer (Def at name (listed (map view_param ps)) equals is e))
def_done at name ps qs equals is e inner outer old a new pq empty g h = def_noted at name ps equals is e inner outer old a new empty (g ∙ ap (λ (l : List Param). with_names old (names_each (inner ++ outer) (map view_param l))) pq) h
