-- The trees of the grammar: one family, with a sort for each nonterminal and a constructor for each production.
use Rattle.std.specs.Prelude.{ℕ, ℤ, List, Bool, Option}
use Rattle.fixed_text.specs.declared.time_mark.TimeMark.{TimeMark}
use Rattle.script_grammar.specs.declared.tree.Literal.{Literal}
use Rattle.script_grammar.specs.declared.tree.CompareOp.{CompareOp}

-- The sorts of trees: one for each nonterminal of the grammar of scripts, and lists of trees of a sort.
pub data Sort : Type 0 where
  AStmt : Sort
  APart : Sort
  ABind : Sort
  ADef : Sort
  AnInner : Sort
  AParam : Sort
  AFull : Sort
  AnExpr : Sort
  AnAnd : Sort
  ANot : Sort
  ACompare : Sort
  ASum : Sort
  AnAdded : Sort
  AProduct : Sort
  AMultiplied : Sort
  AnOperand : Sort
  ACall : Sort
  AnArg : Sort
  AnIf : Sort
  APOr : Sort
  APAnd : Sort
  APNot : Sort
  APAtom : Sort
  Many : Sort → Sort

-- A tree. A number at is the index of a token. What a tree must satisfy is kept by its form: a predicate's parts are a
-- first one and others, a tuple has two parts and others.
pub data Tree : Sort → Type 0 where
  none : {s : Sort} → Tree (Many s)
  more : {s : Sort} → Tree s → Tree (Many s) → Tree (Many s)
  -- Stmt = (Bind | Def | Call | If) (";")?
  Stmt : Tree APart → (semicolon : Bool) → Tree AStmt
  BindPart : Tree ABind → Tree APart
  DefPart : Tree ADef → Tree APart
  CallPart : Tree ACall → Tree APart
  IfPart : Tree AnIf → Tree APart
  -- Bind = Name "=" Full
  Bind : (at : ℕ) → (name : List ℕ) → Tree AFull → Tree ABind
  -- Def = "def" NameOpen (Param ("," Param)*)? ")" ("=")? Inner* Expr "end"
  Def : (at : ℕ) → (name : List ℕ) → Tree (Many AParam) → (equals : Bool) → Tree (Many AnInner) → Tree AnExpr
      → Tree ADef
  -- Inner = Bind (";")?
  Inner : Tree ABind → (semicolon : Bool) → Tree AnInner
  -- Param = Name | "~" Name | "~" Name "=" Full
  Param : (at : ℕ) → (name : List ℕ) → Tree AParam
  Labelled : (at : ℕ) → (name : List ℕ) → Tree AParam
  Optional : (at : ℕ) → (name : List ℕ) → Tree AFull → Tree AParam
  -- Full = Expr | "-" Int | "-" Number
  Negative : (at : ℕ) → Literal → Tree AFull
  Plain : Tree AnExpr → Tree AFull
  -- Expr = And ("or" And)*
  Expr : Tree AnAnd → Tree (Many AnAnd) → Tree AnExpr
  -- And = Not ("and" Not)*
  And : Tree ANot → Tree (Many ANot) → Tree AnAnd
  -- Not = ("not")? Compare
  Not : (negated : Bool) → Tree ACompare → Tree ANot
  -- Compare = Sum (("==" | "!=" | "<" | "<=" | ">" | ">=") Sum)?
  Alone : Tree ASum → Tree ACompare
  Compared : Tree ASum → (at : ℕ) → CompareOp → Tree ASum → Tree ACompare
  -- Sum = Product (("+" | "-") Product)*
  Sum : Tree AProduct → Tree (Many AnAdded) → Tree ASum
  Added : (at : ℕ) → (minus : Bool) → Tree AProduct → Tree AnAdded
  -- Product = Operand (("*" | "/") Operand)*
  Product : Tree AnOperand → Tree (Many AMultiplied) → Tree AProduct
  Multiplied : (at : ℕ) → (divide : Bool) → Tree AnOperand → Tree AMultiplied
  -- Operand = Int | Number | Str | "true" | "false" | Name | Call | If
  Constant : (at : ℕ) → Literal → Tree AnOperand
  Quoted : (at : ℕ) → (text : List ℕ) → Tree AnOperand
  Truth : (at : ℕ) → Bool → Tree AnOperand
  Named : (at : ℕ) → (name : List ℕ) → Tree AnOperand
  Called : Tree ACall → Tree AnOperand
  Chosen : Tree AnIf → Tree AnOperand
  --      | "(" ")" | "(" Full ")" | "(" Full "," Full ("," Full)* ")" | "[" (Full ("," Full)*)? "]"
  Nothing : (at : ℕ) → Tree AnOperand
  Paren : Tree AFull → Tree AnOperand
  Tuple : (at : ℕ) → Tree AFull → Tree AFull → Tree (Many AFull) → Tree AnOperand
  Listed : (at : ℕ) → Tree (Many AFull) → Tree AnOperand
  --      | "{" POr "}" | "%wav" ("(" Name "=" Int ")")?
  Braces : (at : ℕ) → Tree APOr → Tree AnOperand
  PlaceFormat : (at : ℕ) → (size : Option ℤ) → Tree AnOperand
  -- Call = NameOpen (Arg ("," Arg)*)? ")"
  NamedCall : (at : ℕ) → (name : List ℕ) → Tree (Many AnArg) → Tree ACall
  -- Arg = Full | Name "=" Full
  Arg : (at : ℕ) → (label : Option (List ℕ)) → Tree AFull → Tree AnArg
  -- If = "if" Full "then" Full "else" Full "end"
  If : (at : ℕ) → Tree AFull → Tree AFull → Tree AFull → Tree AnIf
  -- POr = PAnd ("or" PAnd)*
  POr : Tree APAnd → Tree (Many APAnd) → Tree APOr
  -- PAnd = PNot ("and" PNot)*
  PAnd : Tree APNot → Tree (Many APNot) → Tree APAnd
  -- PNot = ("not")? PAtom
  PNot : (negated : Bool) → Tree APAtom → Tree APNot
  -- PAtom = "true" | "false" | Time | Time "-" Time | "(" POr ")"
  TrueAtom : Tree APAtom
  FalseAtom : Tree APAtom
  Mark : TimeMark → Tree APAtom
  IntervalAtom : TimeMark → TimeMark → Tree APAtom
  Grouped : Tree APOr → Tree APAtom

-- A script is a list of statements: Script = Stmt*.
abbrev pub Script : Type 0
Script = Tree (Many AStmt)
