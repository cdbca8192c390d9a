-- Which types without variables an expression may have, by cases on the tree. Names and calls are read by their tokens.
use Rattle.std.specs.Prelude.{◌≡◌, ℕ, List, [], ◌∷◌, ◌++◌, true, false, Option, Some, None, cond, nat_eq, ⊤}
use Rattle.liq_base.specs.declared.memory.Kind.{Kind}
use Rattle.script_grammar.specs.declared.tree.Literal.{Literal}
use Rattle.script_grammar.specs.declared.tree.Literal.TheVariants as literal
use Rattle.script_grammar.specs.Tree.{Sort, Tree, Many, AParam, AnInner, AnArg, AFull, ADef, none, more, Bind, Def, Inner, Param, Labelled, Optional, Negative, Plain, Expr, And, Not, Alone, Compared, Sum, Added, Product, Multiplied, Constant, Quoted, Truth, Named, Called, Chosen, Nothing, Paren, Tuple, Listed, Braces, PlaceFormat, NamedCall, Arg, If}
use Rattle.type_terms.specs.Ground.{Ground, Grounds, base_type, list, tuple, source, IsNumber}
use Rattle.type_terms.specs.Ground as ground
use Rattle.type_terms.specs.declared.ty.Base.TheVariants as base
use Rattle.typing_rules.specs.declared.uses.Target.{Target}
use Rattle.typing_rules.specs.declared.uses.Target.TheVariants as target
use Rattle.typing_rules.specs.Arguments.{GivenArgument}
pub use Rattle.typing_rules.specs.Arguments.{token_of}
use Rattle.typing_rules.specs.Table.{IsCallOf}

-- the types of values in scope, each with the token of the name that is bound to it
abbrev pub TypesByToken : Type 0
TypesByToken = List (ℕ × Ground)

-- What is known where an expression stands: what the name at a token means, the type of the binding at a token, the
-- kinds of the use at a token, and what a call may be, by its token, the token of the def, the types of the arguments
-- and that of the result.
pub record Sight : Type 1 where
  pub target : ℕ → Option Target
  pub types : TypesByToken
  pub kinds : ℕ → Option (List Kind)
  pub call : ℕ → ℕ → List (GivenArgument Ground) → Ground → Type 0

-- the type of truth values
abbrev pub truth : Ground
truth = base_type base.Bool

-- the type of a number in a script: int, or decimal if it has a point
abbrev pub literal_type : Literal → Ground
literal_type (literal.Int n) = base_type base.Int
literal_type (literal.Number d) = base_type base.Decimal

-- the type of the value whose name was bound at token t; None if there is none
abbrev pub type_at : ℕ → TypesByToken → Option Ground
type_at t [] = None
type_at t (b ∷ bs) = cond (nat_eq b.0 t) (Some b.1) (type_at t bs)

-- A name that is used outside a call, and means this target, may have the type g. It must be bound to a value of that
-- type; a def or a builtin has no type without a call.
abbrev pub NameHas : Sight → Option Target → Ground → Type 0
NameHas s (Some (target.Slot t)) g = type_at t s.types ≡ Some g
NameHas s (Some (target.Def t)) g = ⊥
NameHas s (Some (target.Builtin b)) g = ⊥
NameHas s None g = ⊥

-- A call at token `at` may have the type g with the arguments gs. Its name means this target, which must be a def or a
-- builtin. `s` is what is known there: the kinds of the call, and which calls of defs are well typed.
abbrev pub Applied : Sight → ℕ → Option Target → List (GivenArgument Ground) → Ground → Type 0
Applied s at (Some (target.Slot t)) gs g = ⊥
Applied s at (Some (target.Def t)) gs g = (ks : List Kind) × (s.kinds at ≡ Some ks) × s.call at t gs g
Applied s at (Some (target.Builtin b)) gs g = (ks : List Kind) × (s.kinds at ≡ Some ks) × IsCallOf b gs ks g
Applied s at None gs g = ⊥

-- The demand P is made only where a chain of operators, as `a + b + c`, has operands behind the first. A single operand
-- may have any type.
abbrev pub IfAny : {s : Sort} → Tree (Many s) → Type 0 → Type 0
IfAny none P = ⊤
IfAny (more x xs) P = P

-- The tree of an expression may have the type g, by cases on what it is. `s` is what is known there of names.
-- `EachHas`: each of a list has the one type g. `HaveAll`: each has its own type. `AreGiven`: arguments have the types
-- gs, by their labels.
abbrev mutual
  pub Has : {s : Sort} → Sight → Tree s → Ground → Type 0
  Has s (Negative at n) g = g ≡ literal_type n
  Has s (Plain e) g = Has s e g
  Has s (Expr first rest) g = Has s first g × EachHas s rest g × IfAny rest (g ≡ truth)
  Has s (And first rest) g = Has s first g × EachHas s rest g × IfAny rest (g ≡ truth)
  Has s (Not true inner) g = (g ≡ truth) × Has s inner truth
  Has s (Not false inner) g = Has s inner g
  Has s (Alone left) g = Has s left g
  Has s (Compared left at o right) g = (g ≡ truth) × ((h : Ground) × IsNumber h × Has s left h × Has s right h)
  Has s (Sum first rest) g = Has s first g × EachHas s rest g × IfAny rest (IsNumber g)
  Has s (Added at minus p) g = Has s p g
  Has s (Product first rest) g = Has s first g × EachHas s rest g × IfAny rest (IsNumber g)
  Has s (Multiplied at divide p) g = Has s p g
  Has s (Constant at n) g = g ≡ literal_type n
  Has s (Quoted at text) g = g ≡ base_type base.Text
  Has s (Truth at b) g = g ≡ truth
  Has s (Named at name) g = NameHas s (s.target at) g
  Has s (Called c) g = Has s c g
  Has s (Chosen i) g = Has s i g
  Has s (Nothing at) g = g ≡ base_type base.Unit
  Has s (Paren f) g = Has s f g
  Has s (Tuple at f h rest) g = (t : Ground) × (u : Ground) × (ts : Grounds)
      × (g ≡ tuple (ground.and_more t (ground.and_more u ts))) × Has s f t × Has s h u × HaveAll s rest ts
  Has s (Listed at parts) g = (t : Ground) × (g ≡ list t) × EachHas s parts t
  Has s (Braces at pred) g = g ≡ base_type base.Pred
  Has s (PlaceFormat at size) g = g ≡ base_type base.Format
  Has s (NamedCall at name args) g = (gs : List (GivenArgument Ground)) × AreGiven s args gs
      × Applied s at (s.target at) gs g
  Has s (If at c t e) g = Has s c truth × Has s t g × Has s e g
  -- nothing else is an expression
  Has s t g = ⊥

  pub EachHas : {s : Sort} → Sight → Tree (Many s) → Ground → Type 0
  EachHas s none g = ⊤
  EachHas s (more x xs) g = Has s x g × EachHas s xs g

  pub HaveAll : Sight → Tree (Many AFull) → Grounds → Type 0
  HaveAll s none ts = ts ≡ ground.no_more
  HaveAll s (more f rest) ts = (t : Ground) × (us : Grounds) × (ts ≡ ground.and_more t us) × Has s f t × HaveAll s rest us

  pub AreGiven : Sight → Tree (Many AnArg) → List (GivenArgument Ground) → Type 0
  AreGiven s none gs = gs ≡ []
  AreGiven s (more (Arg at label f) rest) gs = (t : Ground) × (us : List (GivenArgument Ground))
      × (gs ≡ (label, t) ∷ us) × Has s f t × AreGiven s rest us

-- what is known in the body of a def: the types `us` of its parameters and inner bindings, which hide those outside,
-- and then all that `s` knows outside
abbrev pub within : TypesByToken → Sight → Sight
within us s = record s { types = us ++ s.types }

-- the types ts of the parameters of a def, each with the token of the parameter's name
abbrev pub typed_params : Tree (Many AParam) → List Ground → TypesByToken
typed_params none ts = []
typed_params (more p ps) [] = []
typed_params (more p ps) (t ∷ ts) = (token_of p, t) ∷ typed_params ps ts

-- if a parameter has a default, this has the type t of the parameter; `s` is what is known before the def
abbrev pub DefaultHas : Sight → Tree AParam → Ground → Type 0
DefaultHas s (Param at name) t = ⊤
DefaultHas s (Labelled at name) t = ⊤
DefaultHas s (Optional at name d) t = Has s d t

-- each default of a def's parameters has the type of its parameter, and there are as many types as parameters; `s` is
-- what is known before the def
abbrev pub DefaultsHave : Sight → Tree (Many AParam) → List Ground → Type 0
DefaultsHave s none ts = ts ≡ []
DefaultsHave s (more p ps) [] = ⊥
DefaultsHave s (more p ps) (t ∷ ts) = DefaultHas s p t × DefaultsHave s ps ts

-- the bindings in the body of a def have types, each of which sees those before it: us are the types before them, by
-- token, and vs those after them
abbrev pub InnersHave : Sight → Tree (Many AnInner) → TypesByToken → TypesByToken → Type 0
InnersHave s none us vs = vs ≡ us
InnersHave s (more (Inner (Bind at name f) semicolon) is) us vs = (t : Ground) × Has (within us s) f t
    × InnersHave s is (us ++ (at, t) ∷ []) vs

-- A def called with arguments of the types ts may give a result of the type g. Its defaults see only what is before the
-- def (`s`), and fit the parameters. The bindings in its body have types, and its result, which sees them, has the type
-- g.
abbrev pub DefHas : Sight → Tree ADef → List Ground → Ground → Type 0
DefHas s (Def at name ps equals is e) ts g = DefaultsHave s ps ts
    × ((us : TypesByToken) × InnersHave s is (typed_params ps ts) us × Has (within us s) e g)
