-- The names of earlier parameters, as a scope binds them.
use Rattle.std.proofs.Common.{◌≡◌, refl, sym, ap, ◌∙◌, ℕ, ◌+◌, ◌<◌, List, [], ◌∷◌, ◌++◌, length, take, get_or, Option, Some, None, option_map, Bool, true, false, cond}
use Rattle.std.proofs.lemmas.List.{map-append, take_more}
use Rattle.std.specs.Prelude.{bytes_eq, is_some}
use Rattle.script_grammar.specs.declared.tree.Param.{Param}
use Rattle.typing_rules.specs.NameFaults.{is_among}
use Rattle.typing_rules.specs.Scoping.{Bound, Scope, bound, bound_value}
use Rattle.name_scope.proofs.Matching.{param_names}

-- the names that are bound are these
abbrev pub AreBound : Scope → List (List ℕ) → Type 0
AreBound sc names = (name : List ℕ) → is_some (bound name sc) ≡ is_among name names

pub none_bound : (sc : Scope) → sc ≡ [] → AreBound sc []
none_bound sc e name = ap (λ (s : Scope). is_some (bound name s)) e

among_last : (name : List ℕ) (names : List (List ℕ)) (last : List ℕ) → is_among name (names ++ last ∷ []) ≡ cond (bytes_eq name last) true (is_among name names)
among_last name [] last = refl
among_last name (n ∷ names) last = ap (cond (bytes_eq name n) true) (among_last name names last) ∙ either (bytes_eq name n) (bytes_eq name last) (is_among name names) where
  either : (a b c : Bool) → cond a true (cond b true c) ≡ cond b true (cond a true c)
  either true true c = refl
  either true false c = refl
  either false b c = refl

some_of : (b : Bool) (x : Bound) (o : Option Bound) → is_some (cond b (Some x) o) ≡ cond b true (is_some o)
some_of true x o = refl
some_of false x o = refl

pub bound_next : (ps : List Param) (i : ℕ) (p : Param) (text : List ℕ) (sc new : Scope) → i < length ps → p ≡ get_or ps i p → text ≡ p.name → AreBound sc (param_names (take i ps)) → new ≡ (text, bound_value p.at) ∷ sc → AreBound new (param_names (take (i + 1) ps))
bound_next ps i p text sc new lt is same h e name =
    ap (λ (s : Scope). is_some (bound name s)) e
    ∙ some_of (bytes_eq name text) (bound_value p.at) (bound name sc)
    ∙ ap (λ (t : List ℕ). cond (bytes_eq name t) true (is_some (bound name sc))) same
    ∙ ap (cond (bytes_eq name p.name) true) (h name)
    ∙ sym (among_last name (param_names (take i ps)) p.name)
    ∙ sym (ap (is_among name) (ap param_names (take_more ps i p lt ∙ ap (λ (y : Param). take i ps ++ y ∷ []) (sym is)) ∙ map-append (λ (x : Param). x.name) (take i ps) (p ∷ [])))

some_mapped : {A B : Type 0} (f : A → B) (o : Option A) → is_some (option_map f o) ≡ is_some o
some_mapped f None = refl
some_mapped f (Some x) = refl

-- what a search in the scope answers
pub known_is : {A : Type 0} (f : A → Bound) (o : Option A) (b : Bool) (text name : List ℕ) (sc : Scope) (names : List (List ℕ)) → AreBound sc names → text ≡ name → option_map f o ≡ bound text sc → b ≡ is_some o → b ≡ is_among name names
known_is f o b text name sc names h same found is = is ∙ sym (some_mapped f o) ∙ ap is_some found ∙ h text ∙ ap (λ (t : List ℕ). is_among t names) same
