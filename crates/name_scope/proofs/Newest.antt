-- The table of the newest bindings' places, and the search that it stands for.
use Rattle.std.proofs.Common.{◌≡◌, refl, sym, ap, ◌∙◌, ℕ, suc, arith, ◌<◌, List, [], ◌∷◌, ◌++◌, length, get_or, Option, Some, None, Bool, true, false, cond, map, Bor}
use Rattle.std.proofs.lemmas.Map.Text.{hash_map_updates_str}
use Rattle.std.specs.Cmp.Lexicographic.{nat_list_eq_equiv}
use Rattle.std.specs.Str.{bytes_eq}
use Rattle.indexmap.specs.IndexMap.{IndexMap, Updates, get_by}
use Rattle.typing_rules.specs.Scoping.{Bound, bound}
use Rattle.name_scope.specs.Places.{last_place, or_here}
use Rattle.name_scope.specs.Seen.{newest_first, seen_bound}
use Rattle.name_scope.specs.declared.scope.Binding.{Binding}
use Rattle.name_scope.proofs.Searches.{bound_both, or_outer}

abbrev pub names_of : List Binding → List (List ℕ)
names_of bs = map (λ b. b.name.now) bs

-- what the binding at a place says
abbrev pub bound_of : Binding → List Binding → Option ℕ → Option Bound
bound_of d bs None = None
bound_of d bs (Some i) = Some (seen_bound (get_or bs i d).bound)

here_or_behind : (d b : Binding) (bs : List Binding) (place : Option ℕ) (fits : Bool) → or_outer (bound_of d bs place) (cond fits (Some (seen_bound b.bound)) None) ≡ bound_of d (b ∷ bs) (or_here place fits)
here_or_behind d b bs (Some i) fits = refl
here_or_behind d b bs None true = refl
here_or_behind d b bs None false = refl

-- the newest binding of a name is the one at the last place of the name
pub bound_at_last : (d : Binding) (name : List ℕ) (bs : List Binding) → bound name (newest_first bs) ≡ bound_of d bs (last_place name (names_of bs))
bound_at_last d name [] = refl
bound_at_last d name (b ∷ bs) =
    bound_both name (newest_first bs) ((b.name.now, seen_bound b.bound) ∷ []) (bound_of d bs (last_place name (names_of bs))) (bound_at_last d name bs)
    ∙ here_or_behind d b bs (last_place name (names_of bs)) (bytes_eq name b.name.now)

pub found_at_last : (d : Binding) (name : List ℕ) (bs : List Binding) (i : ℕ) → last_place name (names_of bs) ≡ Some i → Some (seen_bound (get_or bs i d).bound) ≡ bound name (newest_first bs)
found_at_last d name bs i is = sym (bound_at_last d name bs ∙ ap (bound_of d bs) is)

pub absent_at_last : (name : List ℕ) (bs : List Binding) → last_place name (names_of bs) ≡ None → None ≡ bound name (newest_first bs)
absent_at_last name [] is = refl
absent_at_last name (b ∷ bs) is = sym (bound_at_last b name (b ∷ bs) ∙ ap (bound_of b (b ∷ bs)) is)

behind : (place : Option ℕ) (fits : Bool) (n i : ℕ) → ((j : ℕ) → place ≡ Some j → j < n) → or_here place fits ≡ Some i → i < suc n
behind (Some j) fits n i below is = let less : j < n = below j refl in let same : suc j ≡ i = (cc) in omega (arith, less, same)
behind None true n i below is = let same : 0 ≡ i = (cc) in omega (arith, same)
behind None false n i below is = absurd (cc)

pub last_place_below : (name : List ℕ) (bs : List Binding) (i : ℕ) → last_place name (names_of bs) ≡ Some i → i < length bs
last_place_below name [] i is = absurd (cc)
last_place_below name (b ∷ bs) i is = behind (last_place name (names_of bs)) (bytes_eq name b.name.now) (length bs) i (λ j e. last_place_below name bs j e) is

more_behind : (fits here : Bool) (n : ℕ) (place : Option ℕ) → or_here (cond fits (Some n) place) here ≡ cond fits (Some (suc n)) (or_here place here)
more_behind true here n place = refl
more_behind false here n place = refl

-- one more binding has the last place of its name, and leaves the others
pub last_place_more : (name : List ℕ) (bs : List Binding) (b : Binding) → last_place name (names_of (bs ++ b ∷ [])) ≡ cond (bytes_eq name b.name.now) (Some (length bs)) (last_place name (names_of bs))
last_place_more name [] b = refl
last_place_more name (c ∷ bs) b = ap (λ o. or_here o (bytes_eq name c.name.now)) (last_place_more name bs b) ∙ more_behind (bytes_eq name b.name.now) (bytes_eq name c.name.now) (length bs) (last_place name (names_of bs))

-- the table of these bindings: for each name the place of the newest binding of it
abbrev pub IsTable : {S : Type 0} → List Binding → IndexMap (Bor (List ℕ)) ℕ S → Type 0
IsTable bs m = (name : List ℕ) → get_by (λ key. bytes_eq name key.now) m ≡ last_place name (names_of bs)

pub table_more : {S : Type 0} (bs after : List Binding) (b : Binding) (m n : IndexMap (Bor (List ℕ)) ℕ S) (place : ℕ) → IsTable bs m → place ≡ length bs → after ≡ bs ++ b ∷ []
    → Updates (λ x y. bytes_eq x.now y.now) m n b.name (Some place) → IsTable after n
table_more bs after b m n place was last is updates name =
    hash_map_updates_str b.name.now m n (Some place) updates name
    ∙ ap (λ t. cond t (Some place) (get_by (λ key. bytes_eq name key.now) m)) (nat_list_eq_equiv.symm b.name.now name)
    ∙ ap (cond (bytes_eq name b.name.now) (Some place)) (was name)
    ∙ ap (λ k. cond (bytes_eq name b.name.now) (Some k) (last_place name (names_of bs))) last
    ∙ sym (last_place_more name bs b)
    ∙ ap (λ l. last_place name (names_of l)) (sym is)
