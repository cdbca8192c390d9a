-- Types and kinds without variables, and assignments of them to all variables.
use Rattle.std.specs.Prelude.{ℕ, ◌+◌}
use Rattle.liq_base.specs.declared.memory.Kind.{Kind}
use Rattle.type_terms.specs.declared.ty.Base.{Base}
use Rattle.type_terms.specs.declared.ty.Base.TheVariants.{Int, Decimal}

mutual
  -- a type without variables
  pub data Ground : Type 0 where
    base_type : Base → Ground
    list : Ground → Ground
    tuple : Grounds → Ground
    source : Kind → Ground

  -- the types of a tuple's parts
  pub data Grounds : Type 0 where
    no_more : Grounds
    and_more : Ground → Grounds → Grounds

-- what all variables stand for: a type for each type variable, and a kind for each kind variable, by their numbers
pub record Assignment : Type 0 where
  pub type_of : ℕ → Ground
  pub kind_of : ℕ → Kind

-- the base type is a number type: int or decimal
abbrev pub IsNumberBase : Base → Type 0
IsNumberBase Int = Unit {0}
IsNumberBase Decimal = Unit {0}
IsNumberBase _ = ⊥

-- the type is a number type, int or decimal, which alone a number variable can stand for
abbrev pub IsNumber : Ground → Type 0
IsNumber (base_type b) = IsNumberBase b
IsNumber _ = ⊥

abbrev mutual
  -- the size of a type: how many nodes its tree has
  pub size : Ground → ℕ
  size (base_type b) = 1
  size (list t) = 1 + size t
  size (tuple ts) = 1 + sizes ts
  size (source k) = 1

  -- the sizes of a tuple's component types, added up
  pub sizes : Grounds → ℕ
  sizes no_more = 0
  sizes (and_more t ts) = size t + sizes ts
