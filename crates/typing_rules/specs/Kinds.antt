-- The kinds of the uses, read along the calls: they are a typing's, the least one's, and a def is open in exactly its
-- open kinds.
use Rattle.std.specs.Prelude.{◌≡◌, ◌⊎◌, ℕ, suc, List, [], ◌∷◌, length, map, Option, Some, None, option_map, option_and_then, Bool, false, cond, nat_eq, nat_lt, slice_get, find}
use Rattle.std.specs.List.{flat_map}
use Rattle.liq_base.specs.declared.memory.Kind.{Kind}
use Rattle.liq_base.specs.declared.memory.Kind.TheVariants.{Mono}
use Rattle.script_grammar.specs.Tree.{Tree, ADef, AStmt, none, more, Stmt, BindPart, DefPart, CallPart, IfPart, Script}
use Rattle.type_terms.specs.Ground.{Ground}
use Rattle.typing_rules.specs.declared.uses.Use.{Use}
use Rattle.typing_rules.specs.declared.uses.KindOf.{KindOf}
use Rattle.typing_rules.specs.declared.uses.KindOf.TheVariants.{Fixed, Given}
use Rattle.typing_rules.specs.declared.uses.Builtin.{Builtin}
use Rattle.typing_rules.specs.declared.uses.Target.{Target}
use Rattle.typing_rules.specs.declared.uses.Target.TheVariants as target
use Rattle.typing_rules.specs.Uses.{use_at}
use Rattle.typing_rules.specs.Table.{signature}
use Rattle.typing_rules.specs.Scoping.{Name, Scope, names, with_statement, Meaning, target_in, target_of}
use Rattle.typing_rules.specs.Typing.{DefHas}
use Rattle.typing_rules.specs.Scripts.{Entry, function, Targets, Places, def_token, sight}

-- The kind, mono or stereo, that one entry of a use stands for. A fixed kind is itself. Open kind j, a variable of the
-- def around the use, is entry j of `given`, the kinds with which that def is called; None if there is no such entry.
abbrev pub known_kind : List Kind → KindOf → Option Kind
known_kind given (Fixed k) = Some k
known_kind given (Given j) = slice_get given j

-- the kind and then the row of kinds as one row, where both are known; else None
abbrev pub put : Option Kind → Option (List Kind) → Option (List Kind)
put None ks = None
put (Some k) None = None
put (Some k) (Some ks) = Some (k ∷ ks)

-- The kinds, mono or stereo, of a use with all variables replaced. `given` are the values of the open kinds, which are
-- the kind variables of the def around it. None if one is not known.
abbrev pub kinds_of : List Kind → List KindOf → Option (List Kind)
kinds_of given [] = Some []
kinds_of given (w ∷ ws) = put (known_kind given w) (kinds_of given ws)

-- The kinds, mono or stereo, of a use that was looked up, with all variables replaced by `given`, the values of the
-- open kinds of the def around it. None if no use was found, or if one of its kinds is not known.
abbrev pub kinds_in : Option Use → List Kind → Option (List Kind)
kinds_in None given = None
kinds_in (Some u) given = kinds_of given u.kinds

-- The values of the open kinds (kind variables) of the def that a chain of calls leads to, when calls are expanded. The
-- chain has the tokens of the calls, the last first; `given` are the values where the first call stands. Each call
-- gives its def the kinds of its own use.
abbrev pub around : List Kind → List Use → List ℕ → Option (List Kind)
around given uses [] = Some given
around given uses (at ∷ chain) = option_and_then (kinds_in (use_at at uses)) (around given uses chain)

-- The kinds, mono or stereo, of the use at token `at`, reached by a chain of calls, the last first. Each call on the
-- way sets the open kinds (kind variables) of the def that it calls. `given` are their values where the chain starts.
abbrev pub read : List Kind → List Use → Places
read given uses chain at = around given uses (at ∷ chain)

-- what the use of a name says of it: the token at which it is used, and what the name means there
abbrev pub said : Use → Meaning
said u = (u.at, Some u.target)

-- what a name means, by the use of it that was found; None if none was found
abbrev pub target_said : Option Use → Option Target
target_said o = option_map (λ u. u.target) o

-- for each token what the name there means, as these uses of names say; None if none of them is at this token
abbrev pub target_at : List Use → Targets
target_at uses = target_in (map said uses)

-- The names that one statement of a script uses. If the statement is a def, the token of its own name stands before
-- them, and else None.
abbrev pub Block : Type 0
Block = Option ℕ × List Name

-- the token of the name of the def that a statement is; None if it is no def
abbrev pub owner : Tree AStmt → Option ℕ
owner (Stmt (DefPart d) semicolon) = Some (def_token d)
owner (Stmt (BindPart b) semicolon) = None
owner (Stmt (CallPart c) semicolon) = None
owner (Stmt (IfPart i) semicolon) = None

-- for each statement of a script the names that it uses, with the token of its def, if it is one; `sc` is the scope
-- before the first statement
abbrev pub blocks : Scope → Script → List Block
blocks sc none = []
blocks sc (more s rest) = (owner s, names sc s) ∷ blocks (with_statement s sc) rest

-- name n is a member of this list
abbrev pub IsOneOf : List Name → Name → Type 0
IsOneOf [] n = ⊥
IsOneOf (m ∷ ms) n = (m ≡ n) ⊎ IsOneOf ms n

-- Name n is used in the text of the def whose name stands at token `def`, or with None in a statement that is no def.
-- The list has the names of each statement.
abbrev pub IsUsedIn : List Block → Option ℕ → Name → Type 0
IsUsedIn [] def n = ⊥
IsUsedIn (b ∷ bs) def n = ((b.0 ≡ def) × IsOneOf b.1 n) ⊎ IsUsedIn bs def n

-- Once all calls of defs are expanded, name n is used at the end of this chain of calls, the last first. The expansion
-- starts in the def whose name is token `def`, or with None in the script. Each call of the chain is itself such a use,
-- and means the def whose text comes next.
abbrev pub IsPlace : List Block → Option ℕ → List ℕ → Name → Type 0
IsPlace bs def [] n = IsUsedIn bs def n
IsPlace bs def (at ∷ chain) n = (c : Name) × (t : ℕ) × IsPlace bs def chain c × (c.at ≡ at)
    × (target_of c.meant ≡ Some (target.Def t)) × IsUsedIn bs (Some t) n

-- two rows of kinds are of one length, and wherever the first row has mono the second has it too
abbrev pub MonoWhere : List Kind → List Kind → Type 0
MonoWhere [] [] = Unit {0}
MonoWhere [] (k ∷ ks) = ⊥
MonoWhere (j ∷ js) [] = ⊥
MonoWhere (j ∷ js) (k ∷ ks) = (j ≡ Mono → k ≡ Mono) × MonoWhere js ks

-- both rows of kinds are known and of one length, and wherever the first row has mono the second has it too
abbrev pub MonoOnly : Option (List Kind) → Option (List Kind) → Type 0
MonoOnly (Some js) (Some ks) = MonoWhere js ks
MonoOnly (Some js) None = ⊥
MonoOnly None k = ⊥

-- The kinds `first` are mono no more often than `second`. At each place of the script, with all calls expanded, where a
-- builtin is used, both are known, and where `first` has mono `second` has it too. So the least typing is stereo where
-- it can be.
abbrev pub IsLess : List Block → Places → Places → Type 0
IsLess bs first second = (chain : List ℕ) (n : Name) (b : Builtin) → IsPlace bs None chain n
    → target_of n.meant ≡ Some (target.Builtin b) → MonoOnly (first chain n.at) (second chain n.at)

-- Two typings agree within the def whose name is token `def`. At each place of its text, with all calls expanded, where
-- a builtin is used, both give the same kinds. `bs` has the names that each statement uses.
abbrev pub AreSame : List Block → ℕ → Places → Places → Type 0
AreSame bs def first second = (chain : List ℕ) (n : Name) (b : Builtin) → IsPlace bs (Some def) chain n
    → target_of n.meant ≡ Some (target.Builtin b) → first chain n.at ≡ second chain n.at

-- the number of an open kind, which is a kind variable of a def, as a list of one; the empty list for a fixed kind
abbrev pub number_of : KindOf → List ℕ
number_of (Fixed k) = []
number_of (Given j) = j ∷ []

-- the kinds of a use that was looked up, or none where no use was found
abbrev pub kinds_listed : Option Use → List KindOf
kinds_listed None = []
kinds_listed (Some u) = u.kinds

-- the numbers of the open kinds (kind variables of a def) in the uses of these names, in the order of the names
abbrev pub numbers_in : List Use → List Name → List ℕ
numbers_in uses ns = flat_map number_of (flat_map (λ n. kinds_listed (use_at n.at uses)) ns)

-- Whether variables are numbered 0, 1, .. in the order in which they first occur. The n numbers below n were seen
-- already, and each number of the list is one of them or the next new one. It gives how many there are in the end; None
-- if one is skipped.
abbrev pub numbered_on : ℕ → List ℕ → Option ℕ
numbered_on n [] = Some n
numbered_on n (j ∷ js) = cond (nat_lt j n) (numbered_on n js) (cond (nat_eq j n) (numbered_on (suc n) js) None)

-- the names that a statement uses, if one was found, and else none
abbrev pub block_names : Option Block → List Name
block_names None = []
block_names (Some b) = b.1

-- whether the def with the name at token u, if there is one, is that with the name at token t
abbrev pub is_of : ℕ → Option ℕ → Bool
is_of t None = false
is_of t (Some u) = nat_eq u t

-- How many open kinds, which are kind variables that each call sets, the def has whose name stands at token t, by the
-- uses in its text. None if they are not numbered in the order in which they occur.
abbrev pub open_kinds : List Block → List Use → ℕ → Option ℕ
open_kinds bs uses t = numbered_on 0 (numbers_in uses (block_names (find (λ b. is_of t b.0) bs)))

-- A use of this target has the right number of kinds ks. For a value that is none. For a def it is one for each of its
-- kind variables, and for a builtin one for each kind variable in its type.
abbrev pub HasKinds : List Block → List Use → Target → List KindOf → Type 0
HasKinds bs uses (target.Slot t) ks = ks ≡ []
HasKinds bs uses (target.Def t) ks = open_kinds bs uses t ≡ Some (length ks)
HasKinds bs uses (target.Builtin b) ks = length ks ≡ (signature b).kinds

-- Each use in the last list has as many kinds as what it means has kind variables. `bs` are the statements' names, and
-- `uses` all uses of the script.
abbrev pub EachHasKinds : List Block → List Use → List Use → Type 0
EachHasKinds bs uses [] = Unit {0}
EachHasKinds bs uses (u ∷ us) = HasKinds bs uses u.target u.kinds × EachHasKinds bs uses us

-- The open kinds (kind variables) of one statement are numbered well. A statement that is no def has none, and those of
-- a def are numbered from 0, in the order in which they first occur.
abbrev pub IsInOrder : List Block → List Use → Block → Type 0
IsInOrder bs uses (None, ns) = numbers_in uses ns ≡ []
IsInOrder bs uses (Some t, ns) = (n : ℕ) × (open_kinds bs uses t ≡ Some n)

-- The open kinds (kind variables) of each statement are numbered well. A statement that is no def has none, and those
-- of a def are numbered from 0, in the order in which they first occur.
abbrev pub AreInOrder : List Block → List Use → List Block → Type 0
AreInOrder bs uses [] = Unit {0}
AreInOrder bs uses (b ∷ rest) = IsInOrder bs uses b × AreInOrder bs uses rest

-- The kind variables of each def are numbered from 0, in the order in which they first occur, and outside of defs there
-- are none. Each use has as many kinds as what it means has variables. `bs` has the names of each statement.
pub record AreKindsNumbered (bs : List Block) (uses : List Use) : Type 0 where
  pub order : AreInOrder bs uses bs
  pub each : EachHasKinds bs uses uses

-- The def is among the entries, which are what a script binds, the latest first. `before` are the entries behind it,
-- which are what its text sees.
abbrev pub Stands : List Entry → Tree ADef → List Entry → Type 0
Stands [] d before = ⊥
Stands (e ∷ es) d before = ((e ≡ function d) × (es ≡ before)) ⊎ Stands es d before

-- The kind variables of a def, as the uses have them, are exactly what is free in its typings. Any choice of mono or
-- stereo for them gives a typing, and each typing comes from one choice. `bs` has the names of each statement, and
-- `before` is what the def sees.
pub record IsOpen (bs : List Block) (uses : List Use) (before : List Entry) (d : Tree ADef) : Type 0 where
  pub count : ℕ
  pub number : open_kinds bs uses (def_token d) ≡ Some count
  pub each : (given : List Kind) → length given ≡ count
      → (ts : List Ground) × (g : Ground) × DefHas (sight (target_at uses) (read given uses) before []) d ts g
  pub only : (kinds : Places) (ts : List Ground) (g : Ground) → DefHas (sight (target_at uses) kinds before []) d ts g
      → (given : List Kind) × (length given ≡ count) × AreSame bs (def_token d) (read given uses) kinds

-- Of two entries for the kind of a use, the first is mono no more often than the second. Both are the same kind
-- variable, or both are fixed and the first is mono only where the second is.
abbrev pub IsLessKind : KindOf → KindOf → Type 0
IsLessKind (Fixed j) (Fixed k) = j ≡ Mono → k ≡ Mono
IsLessKind (Fixed j) (Given n) = ⊥
IsLessKind (Given m) (Fixed k) = ⊥
IsLessKind (Given m) (Given n) = m ≡ n

-- Two rows of kinds are of one length, and the first is mono no more often. In each place both are the same kind
-- variable, or both are fixed and the first is mono only where the second is.
abbrev pub AreLessKinds : List KindOf → List KindOf → Type 0
AreLessKinds [] [] = Unit {0}
AreLessKinds [] (w ∷ ws) = ⊥
AreLessKinds (v ∷ vs) [] = ⊥
AreLessKinds (v ∷ vs) (w ∷ ws) = IsLessKind v w × AreLessKinds vs ws

-- Two lists of uses differ at most in fixed kinds, and the first is mono no more often. They agree in tokens, in what
-- names mean and in kind variables, and a fixed kind of the first is mono only where that of the second is.
abbrev pub AreLessUses : List Use → List Use → Type 0
AreLessUses [] [] = Unit {0}
AreLessUses [] (v ∷ vs) = ⊥
AreLessUses (u ∷ us) [] = ⊥
AreLessUses (u ∷ us) (v ∷ vs) = (u.at ≡ v.at) × (u.target ≡ v.target) × AreLessKinds u.kinds v.kinds × AreLessUses us vs

-- In each of the defs `es`, called or not, the uses are mono no more than they must be. The `others` are uses that are
-- mono at least where these are, and their kind variables are exactly what each def leaves free. `bs` has the names of
-- each statement.
abbrev pub IsLessInside : List Block → List Use → List Entry → Type 0
IsLessInside bs uses es = (others : List Use) × AreLessUses uses others
    × ((d : Tree ADef) (before : List Entry) → Stands es d before → IsOpen bs others before d)
