-- Parameters, and which of them takes which argument.
use Rattle.std.specs.Prelude.{◌≡◌, ℕ, List, [], ◌∷◌, Option, Some, None, option_map, ⊤, cond, Bool, true, false, bytes_eq}
use Rattle.typing_rules.specs.declared.form.Form.{Form}
use Rattle.typing_rules.specs.declared.form.Form.TheVariants.{InPlace, ByLabel, Perhaps}
use Rattle.script_grammar.specs.Tree.{Tree, Many, none, more, AParam, Param, Labelled, Optional}

-- A parameter of a def or a builtin: its name, and how an argument is given for it. That is by place, by label, or by
-- label with a default, so that it may be left out.
pub record Parameter : Type 0 where
  pub name : List ℕ
  pub form : Form

-- an argument of a call: its label, if it has one, and what is known of it, which is its token, its type or its value
abbrev pub GivenArgument : Type 0 → Type 0
GivenArgument T = Option (List ℕ) × T

-- the label by which a parameter of this name and form is given; one that is given in place has none
abbrev pub label_by : List ℕ → Form → Option (List ℕ)
label_by name InPlace = None
label_by name ByLabel = Some name
label_by name Perhaps = Some name

-- the label by which an argument is given for this parameter; None if it is given by its place
abbrev pub label_of : Parameter → Option (List ℕ)
label_of p = label_by p.name p.form

-- whether two labels of arguments are equal: both are missing, or both are the same name
abbrev pub is_label : Option (List ℕ) → Option (List ℕ) → Bool
is_label None None = true
is_label None (Some b) = false
is_label (Some a) None = false
is_label (Some a) (Some b) = bytes_eq a b

-- The result of a search for an argument behind g, made one of the whole list. What was found stays, and g, which did
-- not fit, goes back before the arguments that are left.
abbrev pub after : {T : Type 0} → GivenArgument T → Option (T × List (GivenArgument T))
    → Option (T × List (GivenArgument T))
after g None = None
after g (Some x) = Some (x.0, g ∷ x.1)

-- Looks for the first argument with this label, or for None the first without one. It gives what is known of the
-- argument, as its type or value, and the arguments that are left.
abbrev pub argument : {T : Type 0} → Option (List ℕ) → List (GivenArgument T) → Option (T × List (GivenArgument T))
argument label [] = None
argument label (g ∷ gs) = cond (is_label label g.0) (Some (g.1, gs)) (after g (argument label gs))

-- The arguments that are left for later parameters, after one parameter searched `gs` for its own. If the search found
-- none, all of them are left.
abbrev pub others : {T : Type 0} → List (GivenArgument T) → Option (T × List (GivenArgument T)) → List (GivenArgument T)
others gs None = gs
others gs (Some x) = x.1

-- the arguments of a call that no parameter takes: each parameter in turn takes the first argument that fits its label
abbrev pub left_over : {T : Type 0} → List Parameter → List (GivenArgument T) → List (GivenArgument T)
left_over [] gs = gs
left_over (p ∷ ps) gs = left_over ps (others gs (argument (label_of p) gs))

-- whether a parameter given in this form needs an argument, since it has no default
abbrev pub is_needed : Form → Bool
is_needed InPlace = true
is_needed ByLabel = true
is_needed Perhaps = false

-- The name of the first parameter that lacks its argument. It is p, if p has no default and the search for its argument
-- found none, and else `later`, the first one that was found among the parameters after p.
abbrev pub missing_or : {T : Type 0} → Parameter → Option (T × List (GivenArgument T)) → Option (List ℕ)
    → Option (List ℕ)
missing_or p (Some x) later = later
missing_or p None later = cond (is_needed p.form) (Some p.name) later

-- the name of the first parameter without a default that finds no argument, once each parameter in turn took the first
-- that fits its label
abbrev pub first_missing : {T : Type 0} → List Parameter → List (GivenArgument T) → Option (List ℕ)
first_missing [] gs = None
first_missing (p ∷ ps) gs = missing_or p (argument (label_of p) gs)
    (first_missing ps (others gs (argument (label_of p) gs)))

-- for each parameter what is known of the argument that it takes, or None: each in turn takes the first that fits its
-- label
abbrev pub arguments_taken : {T : Type 0} → List Parameter → List (GivenArgument T) → List (Option T)
arguments_taken [] gs = []
arguments_taken (p ∷ ps) gs = option_map (λ x. x.0) (argument (label_of p) gs)
    ∷ arguments_taken ps (others gs (argument (label_of p) gs))

-- The second list has one entry for each parameter, and it agrees with what the parameters take. Where a parameter
-- takes an argument, that is its entry; where it takes none, its default counts and the entry may be any.
abbrev pub TakenAs : {T : Type 0} → List (Option T) → List T → Type 0
TakenAs [] [] = ⊤
TakenAs [] (t ∷ ts) = ⊥
TakenAs (o ∷ os) [] = ⊥
TakenAs (None ∷ os) (t ∷ ts) = TakenAs os ts
TakenAs (Some x ∷ os) (t ∷ ts) = (x ≡ t) × TakenAs os ts

-- the arguments gs of a call fit the parameters ps, and ts has one entry for each parameter: none is missing, none is
-- left over, and each taken argument is the entry in its place
abbrev pub Matched : {T : Type 0} → List Parameter → List (GivenArgument T) → List T → Type 0
Matched ps gs ts = (first_missing ps gs ≡ None) × (left_over ps gs ≡ []) × TakenAs (arguments_taken ps gs) ts

-- a parameter of a def as a call sees it: its name, and whether its argument is given by place or by label, and may be
-- left out
abbrev pub parameter_of : Tree AParam → Parameter
parameter_of (Param at name) = record { name = name; form = InPlace }
parameter_of (Labelled at name) = record { name = name; form = ByLabel }
parameter_of (Optional at name default) = record { name = name; form = Perhaps }

-- the parameters of a def, as a call sees them
abbrev pub parameters_of : Tree (Many AParam) → List Parameter
parameters_of none = []
parameters_of (more p ps) = parameter_of p ∷ parameters_of ps

-- the token of a parameter's name
abbrev pub token_of : Tree AParam → ℕ
token_of (Param at name) = at
token_of (Labelled at name) = at
token_of (Optional at name d) = at
