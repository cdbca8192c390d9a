-- Which binding each name means, and how its call matches: the names that a script uses, in the order of their tokens.
use Rattle.std.specs.Prelude.{ℕ, List, [], ◌∷◌, ◌++◌, Option, Some, None, cond, bytes_eq, nat_eq, map}
use Rattle.script_grammar.specs.Tree.{Sort, Tree, Many, AParam, AnInner, AnArg, AStmt, ABind, none, more, Stmt, BindPart, DefPart, CallPart, IfPart, Bind, Def, Inner, Param, Labelled, Optional, Plain, Expr, And, Not, Alone, Compared, Sum, Added, Product, Multiplied, Named, Called, Chosen, Paren, Tuple, Listed, NamedCall, Arg, If, Script}
use Rattle.typing_rules.specs.declared.uses.Builtin.{Builtin}
use Rattle.typing_rules.specs.declared.uses.Target.{Target}
use Rattle.typing_rules.specs.declared.uses.Target.TheVariants as target
use Rattle.typing_rules.specs.Arguments.{Parameter, GivenArgument, parameters_of}
use Rattle.typing_rules.specs.Table.{builtin_named, params_of_builtin}

-- What a name is bound to, with the token at which the name was bound: a value, or a def with its parameters.
pub data Bound : Type 0 where
  bound_value : ℕ → Bound
  bound_function : ℕ → List Parameter → Bound

-- The names in scope and what each is bound to, the newest first. A newer binding hides an older one of the same name,
-- and a builtin of that name.
abbrev pub Scope : Type 0
Scope = List (List ℕ × Bound)

-- what this name is bound to in the scope, by its latest binding; None if nothing binds it
abbrev pub bound : List ℕ → Scope → Option Bound
bound name [] = None
bound name (b ∷ bs) = cond (bytes_eq name b.0) (Some b.1) (bound name bs)

-- What a name outside a call means, by what binds it: the value, told by the token at which it was bound. A name that
-- is bound to a def, or to nothing, is unknown there.
abbrev pub value_meant : Option Bound → Option Target
value_meant (Some (bound_value t)) = Some (target.Slot t)
value_meant (Some (bound_function t ps)) = None
value_meant None = None

-- what a call means that names no def: the builtin found, with its parameters, or None if there is none
abbrev pub builtin_meant : Option Builtin → Option (Target × List Parameter)
builtin_meant None = None
builtin_meant (Some b) = Some (target.Builtin b, params_of_builtin b)

-- What a call of this name means, by what binds the name: a def or, if nothing binds it, a builtin, with its
-- parameters. A name that is bound to a value hides both, and cannot be called.
abbrev pub call_meant : List ℕ → Option Bound → Option (Target × List Parameter)
call_meant name (Some (bound_value t)) = None
call_meant name (Some (bound_function t ps)) = Some (target.Def t, ps)
call_meant name None = builtin_meant (builtin_named name)

-- A use of a name at token `at`. `meant` is what the name means, with the parameters of that def or builtin, or None if
-- the name is unknown. `given` are the arguments of a call, by their tokens. A name outside a call has neither
-- parameters nor arguments.
pub record Name : Type 0 where
  pub at : ℕ
  pub meant : Option (Target × List Parameter)
  pub given : List (GivenArgument ℕ)

-- what a name outside a call means, with the empty list of parameters, so that it has the form of what a call means
abbrev pub no_parameters : Option Target → Option (Target × List Parameter)
no_parameters None = None
no_parameters (Some t) = Some (t, [])

-- the arguments of a call as their labels and the tokens at which they stand
abbrev pub tokens_given : Tree (Many AnArg) → List (GivenArgument ℕ)
tokens_given none = []
tokens_given (more (Arg at label f) rest) = (label, at) ∷ tokens_given rest

-- the scope after a parameter of a def: its name is now bound to a value, by its token
abbrev pub with_param : Tree AParam → Scope → Scope
with_param (Param at name) sc = (name, bound_value at) ∷ sc
with_param (Labelled at name) sc = (name, bound_value at) ∷ sc
with_param (Optional at name d) sc = (name, bound_value at) ∷ sc

-- the scope after all parameters of a def, each bound to a value by its token
abbrev pub with_params : Tree (Many AParam) → Scope → Scope
with_params none sc = sc
with_params (more p ps) sc = with_params ps (with_param p sc)

-- the scope after a binding `name = ..`: the name is now bound to a value, by its token
abbrev pub with_bind : Tree ABind → Scope → Scope
with_bind (Bind at name f) sc = (name, bound_value at) ∷ sc

-- the scope after one binding in the body of a def, which ends at a semicolon
abbrev pub with_inner : Tree AnInner → Scope → Scope
with_inner (Inner b semicolon) sc = with_bind b sc

-- the scope after all bindings in the body of a def
abbrev pub with_inners : Tree (Many AnInner) → Scope → Scope
with_inners none sc = sc
with_inners (more i is) sc = with_inners is (with_inner i sc)

-- the scope after a statement: a binding adds a value, a def adds a function with its parameters, and any other
-- statement adds nothing
abbrev pub with_statement : Tree AStmt → Scope → Scope
with_statement (Stmt (BindPart b) semicolon) sc = with_bind b sc
with_statement (Stmt (DefPart (Def at name ps equals is e)) semicolon) sc = (name, bound_function at (parameters_of ps))
    ∷ sc
with_statement (Stmt (CallPart c) semicolon) sc = sc
with_statement (Stmt (IfPart i) semicolon) sc = sc

-- All names that a tree of the grammar uses, in the order of tokens, each looked up in the scope at its place. In the
-- body of a def each inner binding sees the parameters and the bindings before it.
abbrev mutual
  pub names : {s : Sort} → Scope → Tree s → List Name
  names sc none = []
  names sc (more x xs) = names sc x ++ names sc xs
  names sc (Stmt part semicolon) = names sc part
  names sc (BindPart b) = names sc b
  names sc (DefPart d) = names sc d
  names sc (CallPart c) = names sc c
  names sc (IfPart i) = names sc i
  names sc (Bind at name f) = names sc f
  -- a default sees the names before the def; the result sees the parameters and the inner bindings
  names sc (Def at name ps equals is e) = names sc ps ++ inner_names (with_params ps sc) is
      ++ names (with_inners is (with_params ps sc)) e
  names sc (Inner b semicolon) = names sc b
  names sc (Optional at name d) = names sc d
  names sc (Plain e) = names sc e
  names sc (Expr first rest) = names sc first ++ names sc rest
  names sc (And first rest) = names sc first ++ names sc rest
  names sc (Not negated inner) = names sc inner
  names sc (Alone left) = names sc left
  names sc (Compared left at o right) = names sc left ++ names sc right
  names sc (Sum first rest) = names sc first ++ names sc rest
  names sc (Added at minus p) = names sc p
  names sc (Product first rest) = names sc first ++ names sc rest
  names sc (Multiplied at divide p) = names sc p
  names sc (Named at name) = record { at = at; meant = no_parameters (value_meant (bound name sc)); given = [] } ∷ []
  names sc (Called c) = names sc c
  names sc (Chosen i) = names sc i
  names sc (Paren f) = names sc f
  names sc (Tuple at f g rest) = names sc f ++ names sc g ++ names sc rest
  names sc (Listed at parts) = names sc parts
  names sc (NamedCall at name args) = record {
    at = at;
    meant = call_meant name (bound name sc);
    given = tokens_given args;
  } ∷ names sc args
  names sc (Arg at label f) = names sc f
  names sc (If at c t e) = names sc c ++ names sc t ++ names sc e
  names sc t = []

  pub inner_names : Scope → Tree (Many AnInner) → List Name
  inner_names sc none = []
  inner_names sc (more i is) = names sc i ++ inner_names (with_inner i sc) is

-- all names that the statements of a script use, in the order of tokens, each looked up in the scope at its place;
-- `sc` is the scope before the first statement
abbrev pub used : Scope → Script → List Name
used sc none = []
used sc (more s rest) = names sc s ++ used (with_statement s sc) rest

-- what a name means, a value, a def or a builtin, without the parameters that stand beside it
abbrev pub target_of : Option (Target × List Parameter) → Option Target
target_of None = None
target_of (Some x) = Some x.0

-- the token at which a name is used, and what the name means there; None if it is unknown
abbrev pub Meaning : Type 0
Meaning = ℕ × Option Target

-- the token of a use of a name, and what the name means there, without parameters and arguments
abbrev pub meant : Name → Meaning
meant n = (n.at, target_of n.meant)

-- what the name at token `at` means, by the first entry for it in a list of meanings; None if there is none
abbrev pub target_in : List Meaning → ℕ → Option Target
target_in [] at = None
target_in (m ∷ ms) at = cond (nat_eq m.0 at) m.1 (target_in ms at)

-- all uses of names in a script, in the order of tokens, each with what the name means there
abbrev pub meanings_of : Script → List Meaning
meanings_of script = map meant (used [] script)
