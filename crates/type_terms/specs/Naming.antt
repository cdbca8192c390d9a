-- Which variables stand in a type, and a type with other variables in their places.
use Rattle.std.specs.Prelude.{ℕ, List, [], ◌∷◌, ◌++◌, Option, Some, None, slice_get}
use Rattle.type_terms.specs.Ground.{Assignment}
use Rattle.type_terms.specs.Term.{Term, Terms, base_term, list_term, tuple_term, source_term, variable, no_terms, one_more}
use Rattle.type_terms.specs.declared.ty.KindTerm.{KindTerm}
use Rattle.type_terms.specs.declared.ty.KindTerm.TheVariants.{Fixed, Var}

abbrev mutual
  -- the type variables of a type, in the order in which they stand and as often
  pub type_variables : Term → List ℕ
  type_variables (base_term b) = []
  type_variables (list_term t) = type_variables t
  type_variables (tuple_term ts) = all_type_variables ts
  type_variables (source_term k) = []
  type_variables (variable n) = n ∷ []

  -- the type variables of a tuple's parts, in their order
  pub all_type_variables : Terms → List ℕ
  all_type_variables no_terms = []
  all_type_variables (one_more t ts) = type_variables t ++ all_type_variables ts

-- the number of the variable that a kind is, as a list of one, or of none for mono and stereo
abbrev pub variable_of_kind : KindTerm → List ℕ
variable_of_kind (Fixed k) = []
variable_of_kind (Var n) = n ∷ []

abbrev mutual
  -- the kind variables of a type, in the order in which they stand and as often
  pub kind_variables : Term → List ℕ
  kind_variables (base_term b) = []
  kind_variables (list_term t) = kind_variables t
  kind_variables (tuple_term ts) = all_kind_variables ts
  kind_variables (source_term k) = variable_of_kind k
  kind_variables (variable n) = []

  -- the kind variables of a tuple's parts, in their order
  pub all_kind_variables : Terms → List ℕ
  all_kind_variables no_terms = []
  all_kind_variables (one_more t ts) = kind_variables t ++ all_kind_variables ts

-- the number in the option, or n where there is none
abbrev pub number_or : ℕ → Option ℕ → ℕ
number_or n None = n
number_or n (Some m) = m

-- variable n's new number: entry n of the list, and n itself where there is no such entry
abbrev pub new_number : List ℕ → ℕ → ℕ
new_number news n = number_or n (slice_get news n)

-- a kind with the new number of its variable: entry n of the list for variable n; mono and stereo stay
abbrev pub kind_instance : List ℕ → KindTerm → KindTerm
kind_instance news (Fixed k) = Fixed k
kind_instance news (Var n) = Var (new_number news n)

abbrev mutual
  -- the type with its variables renamed: type variable n has entry n of `types` as its new number, and kind variable n
  -- entry n of `kinds`
  pub instance : List ℕ → List ℕ → Term → Term
  instance types kinds (base_term b) = base_term b
  instance types kinds (list_term t) = list_term (instance types kinds t)
  instance types kinds (tuple_term ts) = tuple_term (instances types kinds ts)
  instance types kinds (source_term k) = source_term (kind_instance kinds k)
  instance types kinds (variable n) = variable (new_number types n)

  -- the parts of a tuple with their variables renamed, by the lists `types` and `kinds` of new numbers
  pub instances : List ℕ → List ℕ → Terms → Terms
  instances types kinds no_terms = no_terms
  instances types kinds (one_more t ts) = one_more (instance types kinds t) (instances types kinds ts)

-- The assignment for a type before its variables were renamed: it gives to variable n what a gives to the new number of
-- n. The lists `types` and `kinds` have the new numbers.
abbrev pub behind : List ℕ → List ℕ → Assignment → Assignment
behind types kinds a = record {
  type_of = λ n. a.type_of (new_number types n);
  kind_of = λ n. a.kind_of (new_number kinds n);
}
