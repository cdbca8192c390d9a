-- The kinds in the text of a def. No contract of a public call cites this.
use Rattle.std.specs.Prelude.{◌≡◌, ℕ, ◌+◌, ◌<◌, ◌≤◌, List, [], ◌∷◌, length, map, take, Option, Some, None, slice_get}
use Rattle.std.specs.List.{flat_map}
use Rattle.type_terms.specs.Naming.{instance}
use Rattle.type_terms.specs.Resolved.{IsResolved}
use Rattle.type_terms.specs.Table.{Table}
use Rattle.type_terms.specs.Term.{Term, InTerm, InTerms, source_term, term_of, terms_of}
use Rattle.type_terms.specs.declared.ty.KindTerm.{KindTerm}
use Rattle.type_terms.specs.declared.ty.KindTerm.TheVariants.{Fixed, Var}
use Rattle.type_terms.specs.declared.ty.Ty.{Ty}
use Rattle.typing_rules.specs.Kinds.{numbered_on}
use Rattle.type_instances.specs.declared.general.KindParameter.{KindParameter}
use Rattle.type_instances.specs.declared.general.KindParameter.TheVariants.{Open as OpenKind, Unread, Outer as OuterKind}
use Rattle.type_instances.specs.Schemes.{Scheme, open_numbers}
use Rattle.general_types.specs.declared.generalising.TextKind.{TextKind}
use Rattle.general_types.specs.declared.generalising.TextKind.TheVariants.{Open, Outer}
use Rattle.general_types.specs.Holding.{HeldVariables}
use Rattle.general_types.specs.Numbering.{AreSettled, IsFront, kind_parameters, place_of, type_parameter}

-- For each kind parameter of a general type, the number that its kind gets if it is open: how many open ones stand
-- before it. The count begins with n.
abbrev pub open_counts : ℕ → List KindParameter → List ℕ
open_counts n [] = []
open_counts n (p ∷ ps) = n ∷ open_counts (n + length (open_numbers 0 (p ∷ []))) ps

-- Kind variable i of a general type, as a def's text writes it. An open one is written by its number among the open
-- ones, which is `before`; one from outside is written as that variable.
abbrev pub variable_in_text : ℕ → ℕ → Option KindParameter → TextKind
variable_in_text i before None = Outer (Var i)
variable_in_text i before (Some OpenKind) = Open before
variable_in_text i before (Some Unread) = Outer (Var i)
variable_in_text i before (Some (OuterKind n)) = Outer (Var n)

-- A kind of a general type, as a def's text writes it: an open one by its number among the open ones, and any other as
-- a kind from outside of the def. ps are the kind parameters of the general type.
abbrev pub text_kind : List KindParameter → KindTerm → TextKind
text_kind ps (Fixed k) = Outer (Fixed k)
text_kind ps (Var i) = variable_in_text i (length (open_numbers 0 (take i ps))) (slice_get ps i)

-- The types us are xs in numbered form: bound variables are replaced by what s binds them to, and then each variable by
-- its place in the lists ts (types) and ks (kinds).
pub record AreOpened (s : Table) (ts ks : List ℕ) (xs us : List Term) : Type 0 where
  pub settled : List Term
  pub are : AreSettled s xs settled
  pub inside : InTerms (λ n. n < length ts) (λ n. n < length ks) (terms_of us)
  pub same : map (instance ts ks) us ≡ settled

-- The type u is x in numbered form: bound variables are replaced by what s binds them to, and then each variable by its
-- place in the lists ts (types) and ks (kinds).
pub record IsOpened (s : Table) (ts ks : List ℕ) (x u : Term) : Type 0 where
  pub settled : Term
  pub is : IsResolved s x settled
  pub inside : InTerm (λ n. n < length ts) (λ n. n < length ks) u
  pub same : instance ts ks u ≡ settled

-- The types us are xs in numbered form: variables bound by s are replaced by their types, and each other variable by
-- its place in the lists ts' and ks'. These lists grew at their ends from ts (types) and ks (kinds).
pub record OpenMore (s : Table) (ts ks ts' ks' : List ℕ) (xs us : List Term) : Type 0 where
  pub types : IsFront ts ts'
  pub kinds : IsFront ks ks'
  pub are : AreOpened s ts' ks' xs us

-- The type u is x in numbered form: variables bound by s are replaced by their types, and each other variable by its
-- place in the lists ts' and ks'. These lists grew at their ends from ts (types) and ks (kinds).
pub record OpensOne (s : Table) (ts ks ts' ks' : List ℕ) (x u : Term) : Type 0 where
  pub types : IsFront ts ts'
  pub kinds : IsFront ks ks'
  pub is : IsOpened s ts' ks' x u

-- the types of a def as terms, those of its parameters and of its result, and the kinds at the uses in its text
pub record DefTerms : Type 0 where
  pub params : List Term
  pub result : Term
  pub kinds : List KindTerm

-- the types and kinds of a def as terms of the rules, from the types that the program holds
abbrev pub def_terms : List Ty → Ty → List KindTerm → DefTerms
def_terms params result kinds = record {
  params = map term_of params;
  result = term_of result;
  kinds = kinds;
}

-- A def in numbered form: `opened` is `found` with each variable replaced by its place in the lists ts and ks. The
-- def's text names the first n kinds of the list, in order of first mention.
pub record OpensDef (s : Table) (found : DefTerms) (ts ks : List ℕ) (n : ℕ) (opened : DefTerms) : Type 0 where
  pub params : AreOpened s ts ks found.params opened.params
  pub result : IsOpened s ts ks found.result opened.result
  pub sources : AreOpened s ts ks (map source_term found.kinds) (map source_term opened.kinds)
  pub order : numbered_on 0 (flat_map place_of opened.kinds) ≡ Some n
  pub few : n ≤ length ks

-- The general type of a def, from its types in numbered form (`opened`), over the type variables ts and the kind
-- variables ks. The variables h are held by outer names, and s is the substitution. The def's text names the first n
-- of ks.
abbrev pub scheme_with : Table → HeldVariables → List ℕ → List ℕ → ℕ → DefTerms → Scheme
scheme_with s h ts ks n opened = record {
  params = opened.params;
  result = opened.result;
  types = map (type_parameter s h) ts;
  kinds = kind_parameters h n ks;
}
