-- A typing depends on what names mean only at the tokens of its names.
use Rattle.std.specs.Prelude.{⊤}
use Rattle.std.proofs.Common.{◌≡◌, subst, ℕ, List, [], ◌∷◌, ◌++◌, Option, Some, None, Bool, true, false, nat_eq}
use Rattle.liq_base.specs.declared.memory.Kind.{Kind}
use Rattle.script_grammar.specs.Tree.{Sort, Tree, Many, AParam, AnInner, AnArg, AFull, ADef, none, more, Stmt, BindPart, DefPart, CallPart, IfPart, Bind, Def, Inner, Param, Labelled, Optional, Negative, Plain, Expr, And, Not, Alone, Compared, Sum, Added, Product, Multiplied, Constant, Quoted, Truth, Named, Called, Chosen, Nothing, Paren, Tuple, Listed, Braces, PlaceFormat, NamedCall, Arg, If, POr, PAnd, PNot, TrueAtom, FalseAtom, Mark, IntervalAtom, Grouped, Script}
use Rattle.type_terms.specs.Ground.{Ground, Grounds}
use Rattle.typing_rules.specs.declared.uses.Target.{Target}
use Rattle.typing_rules.specs.declared.uses.Target.TheVariants as target
use Rattle.typing_rules.specs.Arguments.{GivenArgument, Matched}
use Rattle.typing_rules.specs.Typing.{Applied, AreGiven, DefHas, DefaultHas, DefaultsHave, EachHas, Has, HaveAll, InnersHave, NameHas, Sight, TypesByToken}
use Rattle.typing_rules.specs.Scripts.{Entry, HasTyping, IsTypedTo, Places, Targets, calls_behind, def_token, function, params_of, sight, types_of, value}
use Rattle.expression_types.specs.Order.{tokens_used}

-- the targets are the same at these tokens
abbrev pub AllSame : Targets → Targets → List ℕ → Type 0
AllSame ts us [] = ⊤
AllSame ts us (t ∷ l) = (ts t ≡ us t) × AllSame ts us l

pub same_left : (ts us : Targets) (l m : List ℕ) → AllSame ts us (l ++ m) → AllSame ts us l
same_left ts us [] m h = tt
same_left ts us (t ∷ l) m h = (h.0, same_left ts us l m h.1)

pub same_right : (ts us : Targets) (l m : List ℕ) → AllSame ts us (l ++ m) → AllSame ts us m
same_right ts us [] m h = h
same_right ts us (t ∷ l) m h = same_right ts us l m h.1

abbrev Calls : Type 1
Calls = ℕ → ℕ → List (GivenArgument Ground) → Ground → Type 0

abbrev Kinds : Type 0
Kinds = ℕ → Option (List Kind)

abbrev seen : Targets → TypesByToken → Kinds → Calls → Sight
seen ts types kinds calls = record { target = ts; types = types; kinds = kinds; call = calls }

-- ---- expressions

module _ (ts us : Targets) (kinds : Kinds) (calls others : Calls) (call : (at t : ℕ) (gs : List (GivenArgument Ground)) (g : Ground) → calls at t gs g → others at t gs g) where
  name_moves : (types : TypesByToken) (o : Option Target) (g : Ground) → NameHas (seen ts types kinds calls) o g → NameHas (seen us types kinds others) o g
  name_moves types (Some (target.Slot t)) g h = h
  name_moves types (Some (target.Def t)) g h = absurd h
  name_moves types (Some (target.Builtin b)) g h = absurd h
  name_moves types None g h = absurd h

  call_moves : (types : TypesByToken) (at : ℕ) (o : Option Target) (gs : List (GivenArgument Ground)) (g : Ground) → Applied (seen ts types kinds calls) at o gs g → Applied (seen us types kinds others) at o gs g
  call_moves types at (Some (target.Slot t)) gs g h = absurd h
  call_moves types at (Some (target.Def t)) gs g h = (h.0, h.1, call at t gs g h.2)
  call_moves types at (Some (target.Builtin b)) gs g h = h
  call_moves types at None gs g h = absurd h

  mutual
    pub moved : {r : Sort} (types : TypesByToken) (t : Tree r) → AllSame ts us (tokens_used t) → (g : Ground) → Has (seen ts types kinds calls) t g → Has (seen us types kinds others) t g
    moved types (Negative at n) a g h = h
    moved types (Plain e) a g h = moved types e a g h
    moved types (Expr first rest) a g h = (moved types first (same_left ts us (tokens_used first) (tokens_used rest) a) g h.0, moved_each types rest (same_right ts us (tokens_used first) (tokens_used rest) a) g h.1, h.2)
    moved types (And first rest) a g h = (moved types first (same_left ts us (tokens_used first) (tokens_used rest) a) g h.0, moved_each types rest (same_right ts us (tokens_used first) (tokens_used rest) a) g h.1, h.2)
    moved types (Not true inner) a g h = (h.0, moved types inner a _ h.1)
    moved types (Not false inner) a g h = moved types inner a g h
    moved types (Alone left) a g h = moved types left a g h
    moved types (Compared left at o right) a g h = (h.0, (h.1.0, h.1.1, moved types left (same_left ts us (tokens_used left) (tokens_used right) a) h.1.0 h.1.2, moved types right (same_right ts us (tokens_used left) (tokens_used right) a) h.1.0 h.1.3))
    moved types (Sum first rest) a g h = (moved types first (same_left ts us (tokens_used first) (tokens_used rest) a) g h.0, moved_each types rest (same_right ts us (tokens_used first) (tokens_used rest) a) g h.1, h.2)
    moved types (Added at minus p) a g h = moved types p a g h
    moved types (Product first rest) a g h = (moved types first (same_left ts us (tokens_used first) (tokens_used rest) a) g h.0, moved_each types rest (same_right ts us (tokens_used first) (tokens_used rest) a) g h.1, h.2)
    moved types (Multiplied at divide p) a g h = moved types p a g h
    moved types (Constant at n) a g h = h
    moved types (Quoted at text) a g h = h
    moved types (Truth at b) a g h = h
    moved types (Named at name) a g h = subst (λ (o : Option Target). NameHas (seen us types kinds others) o g) a.0 (name_moves types (ts at) g h)
    moved types (Called c) a g h = moved types c a g h
    moved types (Chosen i) a g h = moved types i a g h
    moved types (Nothing at) a g h = h
    moved types (Paren f) a g h = moved types f a g h
    moved types (Tuple at f x rest) a g h =
        let front = same_left ts us (tokens_used f ++ tokens_used x) (tokens_used rest) a in
        (h.0, h.1, h.2, h.3, moved types f (same_left ts us (tokens_used f) (tokens_used x) front) h.0 h.4, moved types x (same_right ts us (tokens_used f) (tokens_used x) front) h.1 h.5, moved_all types rest (same_right ts us (tokens_used f ++ tokens_used x) (tokens_used rest) a) h.2 h.6)
    moved types (Listed at parts) a g h = (h.0, h.1, moved_each types parts a h.0 h.2)
    moved types (Braces at pred) a g h = h
    moved types (PlaceFormat at size) a g h = h
    moved types (NamedCall at name args) a g h = (h.0, moved_given types args a.1 h.0 h.1, subst (λ (o : Option Target). Applied (seen us types kinds others) at o h.0 g) a.0 (call_moves types at (ts at) h.0 g h.2))
    moved types (If at c t e) a g h =
        let front = same_left ts us (tokens_used c ++ tokens_used t) (tokens_used e) a in
        (moved types c (same_left ts us (tokens_used c) (tokens_used t) front) _ h.0, moved types t (same_right ts us (tokens_used c) (tokens_used t) front) g h.1, moved types e (same_right ts us (tokens_used c ++ tokens_used t) (tokens_used e) a) g h.2)
    moved types none a g h = absurd h
    moved types (more x xs) a g h = absurd h
    moved types (Stmt part semicolon) a g h = absurd h
    moved types (BindPart b) a g h = absurd h
    moved types (DefPart d) a g h = absurd h
    moved types (CallPart c) a g h = absurd h
    moved types (IfPart c) a g h = absurd h
    moved types (Bind at name f) a g h = absurd h
    moved types (Def at name ps equals is e) a g h = absurd h
    moved types (Inner b semicolon) a g h = absurd h
    moved types (Param at name) a g h = absurd h
    moved types (Labelled at name) a g h = absurd h
    moved types (Optional at name d) a g h = absurd h
    moved types (Arg at label f) a g h = absurd h
    moved types (POr first rest) a g h = absurd h
    moved types (PAnd first rest) a g h = absurd h
    moved types (PNot negated atom) a g h = absurd h
    moved types TrueAtom a g h = absurd h
    moved types FalseAtom a g h = absurd h
    moved types (Mark x) a g h = absurd h
    moved types (IntervalAtom x y) a g h = absurd h
    moved types (Grouped p) a g h = absurd h

    moved_each : {r : Sort} (types : TypesByToken) (t : Tree (Many r)) → AllSame ts us (tokens_used t) → (g : Ground) → EachHas (seen ts types kinds calls) t g → EachHas (seen us types kinds others) t g
    moved_each types none a g h = tt
    moved_each types (more x xs) a g h = (moved types x (same_left ts us (tokens_used x) (tokens_used xs) a) g h.0, moved_each types xs (same_right ts us (tokens_used x) (tokens_used xs) a) g h.1)

    moved_all : (types : TypesByToken) (t : Tree (Many AFull)) → AllSame ts us (tokens_used t) → (gs : Grounds) → HaveAll (seen ts types kinds calls) t gs → HaveAll (seen us types kinds others) t gs
    moved_all types none a gs h = h
    moved_all types (more x xs) a gs h = (h.0, h.1, h.2, moved types x (same_left ts us (tokens_used x) (tokens_used xs) a) h.0 h.3, moved_all types xs (same_right ts us (tokens_used x) (tokens_used xs) a) h.1 h.4)

    moved_given : (types : TypesByToken) (t : Tree (Many AnArg)) → AllSame ts us (tokens_used t) → (gs : List (GivenArgument Ground)) → AreGiven (seen ts types kinds calls) t gs → AreGiven (seen us types kinds others) t gs
    moved_given types none a gs h = h
    moved_given types (more (Arg at label f) xs) a gs h = (h.0, h.1, h.2, moved types f (same_left ts us (tokens_used f) (tokens_used xs) a) h.0 h.3, moved_given types xs (same_right ts us (tokens_used f) (tokens_used xs) a) h.1 h.4)

  -- ---- defs

  moved_default : (types : TypesByToken) (p : Tree AParam) → AllSame ts us (tokens_used p) → (t : Ground) → DefaultHas (seen ts types kinds calls) p t → DefaultHas (seen us types kinds others) p t
  moved_default types (Param at name) a t h = tt
  moved_default types (Labelled at name) a t h = tt
  moved_default types (Optional at name d) a t h = moved types d a t h

  moved_defaults : (types : TypesByToken) (ps : Tree (Many AParam)) → AllSame ts us (tokens_used ps) → (gs : List Ground) → DefaultsHave (seen ts types kinds calls) ps gs → DefaultsHave (seen us types kinds others) ps gs
  moved_defaults types none a gs h = h
  moved_defaults types (more p ps) a [] h = absurd h
  moved_defaults types (more p ps) a (g ∷ gs) h = (moved_default types p (same_left ts us (tokens_used p) (tokens_used ps) a) g h.0, moved_defaults types ps (same_right ts us (tokens_used p) (tokens_used ps) a) gs h.1)

  moved_inners : (types : TypesByToken) (is : Tree (Many AnInner)) → AllSame ts us (tokens_used is) → (xs ys : TypesByToken) → InnersHave (seen ts types kinds calls) is xs ys → InnersHave (seen us types kinds others) is xs ys
  moved_inners types none a xs ys h = h
  moved_inners types (more (Inner (Bind at name f) semicolon) is) a xs ys h =
      (h.0, moved (xs ++ types) f (same_left ts us (tokens_used f) (tokens_used is) a) h.0 h.1, moved_inners types is (same_right ts us (tokens_used f) (tokens_used is) a) (xs ++ (at, h.0) ∷ []) ys h.2)

  pub moved_def : (types : TypesByToken) (d : Tree ADef) → AllSame ts us (tokens_used d) → (gs : List Ground) (g : Ground) → DefHas (seen ts types kinds calls) d gs g → DefHas (seen us types kinds others) d gs g
  moved_def types (Def at name ps equals is e) a gs g h =
      let front = same_left ts us (tokens_used ps ++ tokens_used is) (tokens_used e) a in
      let last = same_right ts us (tokens_used ps ++ tokens_used is) (tokens_used e) a in (
        moved_defaults types ps (same_left ts us (tokens_used ps) (tokens_used is) front) gs h.0,
        (h.1.0, moved_inners types is (same_right ts us (tokens_used ps) (tokens_used is) front) _ h.1.0 h.1.1, moved (h.1.0 ++ types) e last g h.1.2),
      )

-- ---- calls

abbrev AreSame : Targets → Targets → List Entry → Type 0
AreSame ts us [] = ⊤
AreSame ts us (value t g ∷ es) = AreSame ts us es
AreSame ts us (function d ∷ es) = AllSame ts us (tokens_used d) × AreSame ts us es

abbrev Chosen_by : Bool → Type 0 → Type 0 → Type 0
Chosen_by b A B = elim b [ true ↦ A | false ↦ B ]

both_move : (b : Bool) (A B C D : Type 0) → (A → C) → (B → D) → Chosen_by b A B → Chosen_by b C D
both_move true A B C D f k h = f h
both_move false A B C D f k h = k h

calls_move : (ts us : Targets) (kinds : Places) (es : List Entry) → AreSame ts us es → (chain : List ℕ) (at t : ℕ) (gs : List (GivenArgument Ground)) (g : Ground) → calls_behind ts kinds es chain at t gs g → calls_behind us kinds es chain at t gs g
calls_move ts us kinds [] a chain at t gs g h = h
calls_move ts us kinds (value x y ∷ es) a chain at t gs g h = calls_move ts us kinds es a chain at t gs g h
calls_move ts us kinds (function d ∷ es) a chain at t gs g h =
    both_move (nat_eq (def_token d) t)
    ((ws : List Ground) × Matched (params_of d) gs ws × DefHas (sight ts kinds es (at ∷ chain)) d ws g) (calls_behind ts kinds es chain at t gs g)
    ((ws : List Ground) × Matched (params_of d) gs ws × DefHas (sight us kinds es (at ∷ chain)) d ws g) (calls_behind us kinds es chain at t gs g)
    (λ x. (x.0, x.1, moved_def ts us (kinds (at ∷ chain)) (calls_behind ts kinds es (at ∷ chain)) (calls_behind us kinds es (at ∷ chain)) (calls_move ts us kinds es a.1 (at ∷ chain)) (types_of es) d a.0 x.0 g x.2))
    (λ x. calls_move ts us kinds es a.1 chain at t gs g x) h

-- ---- scripts

script_moves : (ts us : Targets) (kinds : Places) (es fs : List Entry) (script : Script) → AreSame ts us es → AllSame ts us (tokens_used script) → IsTypedTo ts kinds es script fs → IsTypedTo us kinds es script fs
script_moves ts us kinds es fs none a b h = h
script_moves ts us kinds es fs (more (Stmt (BindPart (Bind at name f)) semicolon) rest) a b h = (
  h.0,
  moved ts us (kinds []) (calls_behind ts kinds es []) (calls_behind us kinds es []) (calls_move ts us kinds es a []) (types_of es) f (same_left ts us (tokens_used f) (tokens_used rest) b) h.0 h.1,
  script_moves ts us kinds (value at h.0 ∷ es) fs rest a (same_right ts us (tokens_used f) (tokens_used rest) b) h.2,
)
script_moves ts us kinds es fs (more (Stmt (DefPart d) semicolon) rest) a b h =
    let here = same_left ts us (tokens_used d) (tokens_used rest) b in (
      (h.0.0, h.0.1, h.0.2, moved_def ts us (h.0.0 []) (calls_behind ts h.0.0 es []) (calls_behind us h.0.0 es []) (calls_move ts us h.0.0 es a []) (types_of es) d here h.0.1 h.0.2 h.0.3),
      script_moves ts us kinds (function d ∷ es) fs rest (here, a) (same_right ts us (tokens_used d) (tokens_used rest) b) h.1,
    )
script_moves ts us kinds es fs (more (Stmt (CallPart c) semicolon) rest) a b h = (
  (h.0.0, moved ts us (kinds []) (calls_behind ts kinds es []) (calls_behind us kinds es []) (calls_move ts us kinds es a []) (types_of es) c (same_left ts us (tokens_used c) (tokens_used rest) b) h.0.0 h.0.1),
  script_moves ts us kinds es fs rest a (same_right ts us (tokens_used c) (tokens_used rest) b) h.1,
)
script_moves ts us kinds es fs (more (Stmt (IfPart c) semicolon) rest) a b h = (
  (h.0.0, moved ts us (kinds []) (calls_behind ts kinds es []) (calls_behind us kinds es []) (calls_move ts us kinds es a []) (types_of es) c (same_left ts us (tokens_used c) (tokens_used rest) b) h.0.0 h.0.1),
  script_moves ts us kinds es fs rest a (same_right ts us (tokens_used c) (tokens_used rest) b) h.1,
)

pub moved_typing : (ts us : Targets) (script : Script) → AllSame ts us (tokens_used script) → HasTyping ts script → HasTyping us script
moved_typing ts us script a h = (h.0, h.1, script_moves ts us h.0 [] h.1 script tt a h.2)
