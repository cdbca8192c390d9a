-- The arguments of a call by the places at which they stand, and a table of their labels. Private contracts cite this.
use Rattle.std.specs.Prelude.{◌≡◌, ℕ, suc, List, [], ◌∷◌, Option, Some, None, option_map, Bool, true, false, map, get_or}
use Rattle.std.specs.Borrow.{Bor}
use Rattle.std.specs.Str.{bytes_eq}
use Rattle.indexmap.specs.IndexMap.{IndexMap, get_by}
use Rattle.typing_rules.specs.Arguments.{GivenArgument, argument}

-- a label of an argument as plain data: its bytes, or none
abbrev pub seen_label : Option (Bor (List ℕ)) → Option (List ℕ)
seen_label l = option_map (λ s. s.now) l

-- the arguments of a call that no parameter has taken, each with its label and its place; ls are the labels from
-- place k on, and ts say which are taken
abbrev pub left_in : ℕ → List (Option (List ℕ)) → List Bool → List (GivenArgument ℕ)
left_in k [] ts = []
left_in k (l ∷ ls) [] = []
left_in k (l ∷ ls) (true ∷ ts) = left_in (suc k) ls ts
left_in k (l ∷ ls) (false ∷ ts) = (l, k) ∷ left_in (suc k) ls ts

-- the arguments of a call, each with its label and its place, counted from k on
abbrev pub placed : ℕ → List (Option (List ℕ)) → List (GivenArgument ℕ)
placed k [] = []
placed k (l ∷ ls) = (l, k) ∷ placed (suc k) ls

-- the place of the first of these arguments that has this label; where no label is asked for, of the first one without
-- a label
abbrev pub first_of : Option (List ℕ) → List (GivenArgument ℕ) → Option ℕ
first_of label gs = option_map (λ x. x.0) (argument label gs)

-- for each argument of a call the place of the next one after it that has the same label
abbrev pub next_ones : List (GivenArgument ℕ) → List (Option ℕ)
next_ones [] = []
next_ones (g ∷ gs) = first_of g.0 gs ∷ next_ones gs

-- `next` leads from each of these arguments to the next one after it that has the same label
abbrev pub AreLinked : (ℕ → Option ℕ) → List (GivenArgument ℕ) → Type 0
AreLinked next gs = map (λ g. next g.1) gs ≡ next_ones gs

-- an option within an option as one: the place that a look-up in a table finds, none where the table has no entry for
-- the label, or an entry without a place
abbrev pub flat : Option (Option ℕ) → Option ℕ
flat None = None
flat (Some o) = o

-- The place of the first argument with this label that no parameter has taken, looked up: `named` has these places by
-- label, and `plain` is that of the first argument without a label.
abbrev pub head_at : {S : Type 0} → IndexMap (Bor (List ℕ)) (Option ℕ) S → Option ℕ → Option (List ℕ) → Option ℕ
head_at named plain None = plain
head_at named plain (Some name) = flat (get_by (λ key. bytes_eq name key.now) named)

-- `head` is right for every label: it is the place of the first of these arguments with this label, or of the first
-- without one
abbrev pub AreHeads : (Option (List ℕ) → Option ℕ) → List (GivenArgument ℕ) → Type 0
AreHeads head gs = (label : Option (List ℕ)) → head label ≡ first_of label gs

-- the place of the next argument with the same label as argument i, by a list of such places
abbrev pub next_at : List (Option ℕ) → ℕ → Option ℕ
next_at next i = get_or next i None

-- the argument of a call with the same label, and with its place or token n replaced by f n
abbrev pub on : (ℕ → ℕ) → GivenArgument ℕ → GivenArgument ℕ
on f g = (g.0, f g.1)
