-- Terms and variables as trees of numbers, by which proofs tell their values apart.
use Rattle.std.specs.Prelude.{◌≡◌, ℕ, zero, suc, Bool, List, Option, refl}
use Rattle.std.specs.Coded.{Coded, code_by, coded×, coded_bool, coded_list, coded_option}
use Rattle.std.proofs.Common.{ap, ap₂}
use base.Stored.{Gv, gnil, gnum, gcons, num}
use denote.Struct.Codes.{itself}
use Rattle.type_terms.specs.Term.{Term, Terms, base_term, list_term, tuple_term, source_term, variable, no_terms, one_more}
use Rattle.type_terms.specs.Variables.{Variable}
use Rattle.type_terms.specs.Table.{Table}
use Rattle.type_terms.specs.declared.ty.Base.{Base}
use Rattle.type_terms.specs.declared.ty.Base.TheVariants.{Int, Decimal, Text, Bool as BoolType, Unit as UnitType, Format, Pred}
use Rattle.liq_base.specs.declared.memory.Kind.TheVariants.{Mono, Stereo}
use Rattle.type_terms.specs.declared.ty.KindTerm.{KindTerm}
use Rattle.type_terms.specs.declared.ty.KindTerm.TheVariants.{Fixed, Var}

-- a kind of a source, mono, stereo or a variable, as a tree of numbers
abbrev pub tree_of_kind : KindTerm → Gv
tree_of_kind (Fixed Mono) = gcons (gnum 0) (gnum 0)
tree_of_kind (Fixed Stereo) = gcons (gnum 0) (gnum 1)
tree_of_kind (Var n) = gnum n

-- the kind that has this tree of numbers: the way back from `tree_of_kind`
abbrev pub kind_of_tree : Gv → KindTerm
kind_of_tree (gcons a (gnum zero)) = Fixed Mono
kind_of_tree (gcons a b) = Fixed Stereo
kind_of_tree g = Var (num g)

-- a kind term comes back from its tree
pub kind_of_tree_of : (k : KindTerm) → kind_of_tree (tree_of_kind k) ≡ k
kind_of_tree_of (Fixed Mono) = refl
kind_of_tree_of (Fixed Stereo) = refl
kind_of_tree_of (Var n) = refl

-- the coding of kinds as trees of numbers, there and back, by which proofs tell two kinds apart
abbrev pub kind_code : Coded KindTerm
kind_code = code_by Gv itself tree_of_kind kind_of_tree kind_of_tree_of

-- the number that stands for a base type in a tree of numbers
abbrev pub number_of_base : Base → ℕ
number_of_base Int = 0
number_of_base Decimal = 1
number_of_base Text = 2
number_of_base BoolType = 3
number_of_base UnitType = 4
number_of_base Format = 5
number_of_base Pred = 6

-- the base type that this number stands for: the way back from `number_of_base`
abbrev pub base_of_number : ℕ → Base
base_of_number zero = Int
base_of_number (suc zero) = Decimal
base_of_number (suc (suc zero)) = Text
base_of_number (suc (suc (suc zero))) = BoolType
base_of_number (suc (suc (suc (suc zero)))) = UnitType
base_of_number (suc (suc (suc (suc (suc zero))))) = Format
base_of_number _ = Pred

-- a base type comes back from its number
pub base_of_number_of : (b : Base) → base_of_number (number_of_base b) ≡ b
base_of_number_of Int = refl
base_of_number_of Decimal = refl
base_of_number_of Text = refl
base_of_number_of BoolType = refl
base_of_number_of UnitType = refl
base_of_number_of Format = refl
base_of_number_of Pred = refl

abbrev mutual
  -- a type over variables as a tree of numbers
  pub tree_of : Term → Gv
  tree_of (base_term b) = gnum (number_of_base b)
  tree_of (list_term t) = gcons (gnum 0) (tree_of t)
  tree_of (tuple_term ts) = gcons (gnum 1) (trees_of ts)
  tree_of (source_term k) = gcons (gnum 2) (tree_of_kind k)
  tree_of (variable n) = gcons (gnum 3) (gnum n)

  -- the parts of a tuple as a tree of numbers
  pub trees_of : Terms → Gv
  trees_of no_terms = gnil
  trees_of (one_more t ts) = gcons (tree_of t) (trees_of ts)

abbrev mutual
  -- the type that has this tree of numbers: the way back from `tree_of`
  pub of_tree : Gv → Term
  of_tree (gnum n) = base_term (base_of_number n)
  of_tree (gcons (gnum zero) g) = list_term (of_tree g)
  of_tree (gcons (gnum (suc zero)) g) = tuple_term (of_trees g)
  of_tree (gcons (gnum (suc (suc zero))) g) = source_term (kind_of_tree g)
  of_tree (gcons (gnum (suc (suc (suc n)))) g) = variable (num g)
  of_tree _ = base_term Int

  -- the parts of a tuple that have this tree of numbers: the way back from `trees_of`
  pub of_trees : Gv → Terms
  of_trees (gcons a b) = one_more (of_tree a) (of_trees b)
  of_trees _ = no_terms

mutual
  -- a type comes back from its tree
  pub of_tree_of : (t : Term) → of_tree (tree_of t) ≡ t
  of_tree_of (base_term b) = ap base_term (base_of_number_of b)
  of_tree_of (list_term t) = ap list_term (of_tree_of t)
  of_tree_of (tuple_term ts) = ap tuple_term (of_trees_of ts)
  of_tree_of (source_term k) = ap source_term (kind_of_tree_of k)
  of_tree_of (variable n) = refl

  -- the parts of a tuple come back from their tree
  pub of_trees_of : (ts : Terms) → of_trees (trees_of ts) ≡ ts
  of_trees_of no_terms = refl
  of_trees_of (one_more t ts) = ap₂ one_more (of_tree_of t) (of_trees_of ts)

-- the coding of types over variables as trees of numbers, there and back, by which proofs tell two types apart
abbrev pub term_code : Coded Term
term_code = code_by Gv itself tree_of of_tree of_tree_of

-- the coding of a type variable, as the pair of its two fields, by which proofs tell two variables apart
abbrev pub variable_code : Coded Variable
variable_code =
    code_by (Bool × Option Term) (coded× coded_bool (coded_option term_code)) (λ v. (v.number, v.bound)) (λ p. record {
      number = p.0;
      bound = p.1;
    }) (λ _. refl)

-- the coding of a substitution, as the pair of its two lists, by which proofs tell two substitutions apart
abbrev pub table_code : Coded Table
table_code =
    code_by (List Variable × List (Option KindTerm))
    (coded× (coded_list variable_code) (coded_list (coded_option kind_code))) (λ s. (s.types, s.kinds)) (λ p. record {
      types = p.0;
      kinds = p.1;
    }) (λ _. refl)
