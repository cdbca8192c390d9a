-- Searches through a list, one step at a time.
use Rattle.std.proofs.Common.{◌≡◌, refl, sym, ap, ◌∙◌, ℕ, ◌+◌, ◌<◌, ◌≤◌, List, [], ◌∷◌, ◌++◌, length, drop, get_or, Option, Some, None, Bool, true, false, cond, map}
use Rattle.std.specs.Prelude.{bytes_eq}
use Rattle.typing_rules.specs.Scoping.{Bound, Scope, bound}
use Rattle.typing_rules.specs.NameFaults.{is_among}
use Rattle.name_scope.specs.Seen.{newest_first, seen_bound}
use Rattle.name_scope.specs.declared.scope.Binding.{Binding}
use Rattle.script_grammar.specs.declared.tree.Param.{Param}
use Rattle.typing_rules.proofs.Searches.{search_next, search_none, search_there}

-- the names of parameters
abbrev pub in_params : List ℕ → List Param → Bool
in_params name ps = is_among name (map (λ p. p.name) ps)

pub param_there : (name : List ℕ) (ps : List Param) (i : ℕ) (p : Param) (o : Bool) → in_params name (drop i ps) ≡ o → i < length ps → p ≡ get_or ps i p → bytes_eq name p.name ≡ true → true ≡ o
param_there name = search_there (in_params name) (λ p. bytes_eq name p.name) (λ p. true) (λ x xs. refl)

pub param_next : (name : List ℕ) (ps : List Param) (i : ℕ) (p : Param) (o : Bool) → in_params name (drop i ps) ≡ o → i < length ps → p ≡ get_or ps i p → bytes_eq name p.name ≡ false → in_params name (drop (i + 1) ps) ≡ o
param_next name = search_next (in_params name) (λ p. bytes_eq name p.name) (λ p. true) (λ x xs. refl)

pub param_none : (name : List ℕ) (ps : List Param) (i : ℕ) (o : Bool) → in_params name (drop i ps) ≡ o → length ps ≤ i → false ≡ o
param_none name = search_none (in_params name)

-- the names in scope, from the newest
pub newest : (bs : List Binding) (b : Binding) → newest_first (bs ++ b ∷ []) ≡ (b.name.now, seen_bound b.bound) ∷ newest_first bs
newest [] b = refl
newest (c ∷ bs) b = ap (λ s. s ++ (c.name.now, seen_bound c.bound) ∷ []) (newest bs b)

-- two texts compared by their bytes
pub turned : (a b x y : List ℕ) (t : Bool) → a ≡ x → b ≡ y → bytes_eq a b ≡ t → bytes_eq x y ≡ t
turned a b x y t ax by h = ap (λ z. bytes_eq z y) (sym ax) ∙ ap (bytes_eq a) (sym by) ∙ h

-- the inner names before the outer ones
abbrev pub or_outer : Option Bound → Option Bound → Option Bound
or_outer None o = o
or_outer (Some b) o = Some b

pub bound_both : (name : List ℕ) (xs ys : Scope) (o : Option Bound) → bound name xs ≡ o → bound name (xs ++ ys) ≡ or_outer o (bound name ys)
bound_both name [] ys o h = ap (λ x. or_outer x (bound name ys)) h
bound_both name (x ∷ xs) ys o h = ap (λ r. cond (bytes_eq name x.0) (Some x.1) r) (bound_both name xs ys (bound name xs) refl) ∙ split (bytes_eq name x.0) (bound name xs) ∙ ap (λ r. or_outer r (bound name ys)) h where
  split : (b : Bool) (r : Option Bound) → cond b (Some x.1) (or_outer r (bound name ys)) ≡ or_outer (cond b (Some x.1) r) (bound name ys)
  split true r = refl
  split false r = refl
