-- The names of a statement stand at its tokens, so what the uses say of a name's token is what a name of its own statement means.
use Rattle.std.proofs.Common.{◌≡◌, ◌≢◌, ◌⊎◌, inl, inr, ⊎_elim, ℕ, ◌+◌, ◌<◌, ◌≤◌, List, [], ◌∷◌, ◌++◌, length, Bool, true, false, cond, Option, Some, None, refl, sym, ap, ◌∙◌, subst, nat_eq, eqb-true, eq-eqb, ne_eqb, arith}
use Rattle.std.specs.Prelude.{All, map, find}
use Rattle.std.proofs.lemmas.List.Elements.{All-head, All-tail}
use Rattle.script_grammar.specs.Ats.{ats}
use Rattle.script_grammar.specs.Placed.{IsPlaced}
use Rattle.script_grammar.specs.Spelling.{spell}
use Rattle.script_grammar.specs.Tree.{Sort, Tree, ADef, AStmt, none, more, Stmt, BindPart, DefPart, CallPart, IfPart, Bind, Def, Inner, Param, Labelled, Optional, Negative, Plain, Expr, And, Not, Alone, Compared, Sum, Added, Product, Multiplied, Constant, Quoted, Truth, Named, Called, Chosen, Nothing, Paren, Tuple, Listed, Braces, PlaceFormat, NamedCall, Arg, If, POr, PAnd, PNot, TrueAtom, FalseAtom, Mark, IntervalAtom, Grouped, Many, AnInner, Script}
use Rattle.typing_rules.specs.declared.uses.Target.{Target}
use Rattle.typing_rules.specs.Defs.{def_at}
use Rattle.typing_rules.specs.Kinds.{Block, IsOneOf, IsUsedIn, blocks, is_of}
use Rattle.typing_rules.specs.Scoping.{Name, Scope, inner_names, meant, names, target_in, target_of, used, with_inner, with_inners, with_params, with_statement}
use Rattle.typing_rules.specs.Scripts.{def_token}

-- ---- names and tokens

abbrev IsIn : List ℕ → ℕ → Type 0
IsIn [] a = ⊥
IsIn (x ∷ xs) a = (x ≡ a) ⊎ IsIn xs a

in_left : (xs ys : List ℕ) (a : ℕ) → IsIn xs a → IsIn (xs ++ ys) a
in_left [] ys a is = absurd is
in_left (x ∷ xs) ys a (inl same) = inl same
in_left (x ∷ xs) ys a (inr is) = inr (in_left xs ys a is)

in_right : (xs ys : List ℕ) (a : ℕ) → IsIn ys a → IsIn (xs ++ ys) a
in_right [] ys a is = is
in_right (x ∷ xs) ys a is = inr (in_right xs ys a is)

all_in : (P : ℕ → Type 0) (xs : List ℕ) (a : ℕ) → All P xs → IsIn xs a → P a
all_in P [] a all is = absurd is
all_in P (x ∷ xs) a all (inl same) = subst P same (All-head P x xs all)
all_in P (x ∷ xs) a all (inr is) = all_in P xs a (All-tail P x xs all) is

-- each of these names stands at one of these tokens
abbrev AreAt : List Name → List ℕ → Type 0
AreAt ns ts = (n : Name) → IsOneOf ns n → IsIn ts n.at

split : (xs ys : List Name) (n : Name) → IsOneOf (xs ++ ys) n → IsOneOf xs n ⊎ IsOneOf ys n
split [] ys n is = inr is
split (x ∷ xs) ys n (inl same) = inl (inl same)
split (x ∷ xs) ys n (inr is) = ⊎_elim (λ a. inl (inr a)) (λ b. inr b) (split xs ys n is)

no_names : (ts : List ℕ) → AreAt [] ts
no_names ts n is = absurd is

both : (xs ys : List Name) (ts us : List ℕ) → AreAt xs ts → AreAt ys us → AreAt (xs ++ ys) (ts ++ us)
both xs ys ts us first second n is = ⊎_elim (λ a. in_left ts us n.at (first n a)) (λ b. in_right ts us n.at (second n b)) (split xs ys n is)

three : (xs ys zs : List Name) (ts us vs : List ℕ) → AreAt xs ts → AreAt ys us → AreAt zs vs → AreAt (xs ++ ys ++ zs) (ts ++ (us ++ vs))
three xs ys zs ts us vs first second third n is =
    ⊎_elim
    (λ a. ⊎_elim (λ b. in_left ts (us ++ vs) n.at (first n b)) (λ b. in_right ts (us ++ vs) n.at (in_left us vs n.at (second n b))) (split xs ys n a))
    (λ c. in_right ts (us ++ vs) n.at (in_right us vs n.at (third n c)))
    (split (xs ++ ys) zs n is)

later : (ns : List Name) (a : ℕ) (ts : List ℕ) → AreAt ns ts → AreAt ns (a ∷ ts)
later ns a ts are n is = inr (are n is)

mutual
  names_at : {s : Sort} (sc : Scope) (t : Tree s) → AreAt (names sc t) (ats t)
  names_at sc none = no_names []
  names_at sc (more x xs) = both (names sc x) (names sc xs) (ats x) (ats xs) (names_at sc x) (names_at sc xs)
  names_at sc (Stmt part semicolon) = names_at sc part
  names_at sc (BindPart b) = names_at sc b
  names_at sc (DefPart d) = names_at sc d
  names_at sc (CallPart c) = names_at sc c
  names_at sc (IfPart i) = names_at sc i
  names_at sc (Bind at name f) = later (names sc f) at (ats f) (names_at sc f)
  names_at sc (Def at name ps equals is e) =
      later (names sc (Def at name ps equals is e)) at (ats ps ++ (ats is ++ ats e))
      (three (names sc ps) (inner_names (with_params ps sc) is) (names (with_inners is (with_params ps sc)) e) (ats ps) (ats is) (ats e) (names_at sc ps) (inners_at (with_params ps sc) is) (names_at (with_inners is (with_params ps sc)) e))
  names_at sc (Inner b semicolon) = names_at sc b
  names_at sc (Param at name) = no_names (at ∷ [])
  names_at sc (Labelled at name) = no_names (at ∷ [])
  names_at sc (Optional at name d) = later (names sc d) at (ats d) (names_at sc d)
  names_at sc (Negative at n) = no_names (at ∷ [])
  names_at sc (Plain e) = names_at sc e
  names_at sc (Expr first rest) = both (names sc first) (names sc rest) (ats first) (ats rest) (names_at sc first) (names_at sc rest)
  names_at sc (And first rest) = both (names sc first) (names sc rest) (ats first) (ats rest) (names_at sc first) (names_at sc rest)
  names_at sc (Not negated inside) = names_at sc inside
  names_at sc (Alone a) = names_at sc a
  names_at sc (Compared a at o b) = later (names sc a ++ names sc b) at (ats a ++ ats b) (both (names sc a) (names sc b) (ats a) (ats b) (names_at sc a) (names_at sc b))
  names_at sc (Sum first rest) = both (names sc first) (names sc rest) (ats first) (ats rest) (names_at sc first) (names_at sc rest)
  names_at sc (Added at minus p) = later (names sc p) at (ats p) (names_at sc p)
  names_at sc (Product first rest) = both (names sc first) (names sc rest) (ats first) (ats rest) (names_at sc first) (names_at sc rest)
  names_at sc (Multiplied at divide p) = later (names sc p) at (ats p) (names_at sc p)
  names_at sc (Constant at n) = no_names (at ∷ [])
  names_at sc (Quoted at text) = no_names (at ∷ [])
  names_at sc (Truth at b) = no_names (at ∷ [])
  names_at sc (Named at name) = λ n is. ⊎_elim (λ same. inl (ap (λ (k : Name). k.at) same)) (λ none. absurd none) is
  names_at sc (Called c) = names_at sc c
  names_at sc (Chosen i) = names_at sc i
  names_at sc (Nothing at) = no_names (at ∷ [])
  names_at sc (Paren f) = names_at sc f
  names_at sc (Tuple at f g rest) =
      later (names sc f ++ names sc g ++ names sc rest) at (ats f ++ (ats g ++ ats rest)) (three (names sc f) (names sc g) (names sc rest) (ats f) (ats g) (ats rest) (names_at sc f) (names_at sc g) (names_at sc rest))
  names_at sc (Listed at parts) = later (names sc parts) at (ats parts) (names_at sc parts)
  names_at sc (Braces at pred) = no_names (at ∷ [])
  names_at sc (PlaceFormat at bits) = no_names (at ∷ [])
  names_at sc (NamedCall at name args) = λ n is. ⊎_elim (λ same. inl (ap (λ (k : Name). k.at) same)) (λ inside. inr (names_at sc args n inside)) is
  names_at sc (Arg at label f) = later (names sc f) at (ats f) (names_at sc f)
  names_at sc (If at c t e) =
      later (names sc c ++ names sc t ++ names sc e) at (ats c ++ (ats t ++ ats e)) (three (names sc c) (names sc t) (names sc e) (ats c) (ats t) (ats e) (names_at sc c) (names_at sc t) (names_at sc e))
  names_at sc (POr first rest) = no_names []
  names_at sc (PAnd first rest) = no_names []
  names_at sc (PNot negated atom) = no_names []
  names_at sc TrueAtom = no_names []
  names_at sc FalseAtom = no_names []
  names_at sc (Mark a) = no_names []
  names_at sc (IntervalAtom a b) = no_names []
  names_at sc (Grouped p) = no_names []

  inners_at : (sc : Scope) (is : Tree (Many AnInner)) → AreAt (inner_names sc is) (ats is)
  inners_at sc none = no_names []
  inners_at sc (more i is) = both (names sc i) (inner_names (with_inner i sc) is) (ats i) (ats is) (names_at sc i) (inners_at (with_inner i sc) is)

-- the law of the grammar that each number of a placed tree is the index of one of its tokens
abbrev pub AtsAreWithin : Type 0
AtsAreWithin = (s : Sort) (i : ℕ) (t : Tree s) → IsPlaced i t → All (λ at. (i ≤ at) × (at < i + length (spell t))) (ats t)

-- a statement's names stand within it
names_within : AtsAreWithin → (i : ℕ) (sc : Scope) (s : Tree AStmt) (n : Name) → IsPlaced i s → IsOneOf (names sc s) n → (i ≤ n.at) × (n.at < i + length (spell s))
names_within law i sc s n placed is = all_in (λ at. (i ≤ at) × (at < i + length (spell s))) (ats s) n.at (law AStmt i s placed) (names_at sc s n is)

-- ---- the names of a statement among those of a script

abbrev pub IsBlock : List Block → Block → Type 0
IsBlock [] b = ⊥
IsBlock (c ∷ cs) b = (c ≡ b) ⊎ IsBlock cs b

block_from : AtsAreWithin → (i : ℕ) (sc : Scope) (rest : Script) (b : Block) (n : Name) → IsPlaced i rest → IsBlock (blocks sc rest) b → IsOneOf b.1 n → i ≤ n.at
block_from law i sc none b n placed is inside = absurd is
block_from law i sc (more s rest) b n placed (inl same) inside =
    let own : IsOneOf (names sc s) n = subst (λ (c : Block). IsOneOf c.1 n) (sym same) inside in
    (names_within law i sc s n placed.0 own).0
block_from law i sc (more s rest) b n placed (inr is) inside =
    let from = block_from law (i + length (spell s)) (with_statement s sc) rest b n placed.1 is inside in
    omega arith

-- a name of these with the meaning that is found
pub record Found (ns : List Name) (at : ℕ) (t : Target) : Type 0 where
  pub name : Name
  pub inside : IsOneOf ns name
  pub token : name.at ≡ at
  pub means : target_of name.meant ≡ Some t

apart : true ≡ false → ⊥
apart e = cc

found_first : (xs ys : List Name) (n : Name) (t : Target) → IsOneOf xs n → target_in (map meant (xs ++ ys)) n.at ≡ Some t → Found xs n.at t
found_first [] ys n t is same = absurd is
found_first (x ∷ xs) ys n t is same = by_test (λ there rest. found_first xs ys n t there rest) (nat_eq x.at n.at) refl same where
  own : IsOneOf (x ∷ xs) n → x.at ≢ n.at → IsOneOf xs n
  own (inl here) other = absurd (other (ap (λ (k : Name). k.at) here))
  own (inr there) other = there

  by_test : (IsOneOf xs n → target_in (map meant (xs ++ ys)) n.at ≡ Some t → Found xs n.at t) → (b : Bool) → nat_eq x.at n.at ≡ b → cond b (target_of x.meant) (target_in (map meant (xs ++ ys)) n.at) ≡ Some t → Found (x ∷ xs) n.at t
  by_test further true here means = record { name = x; inside = inl refl; token = eqb-true x.at n.at here; means = means }
  by_test further false other means =
      let f = further (own is (λ e. apart (sym (eq-eqb x.at n.at e) ∙ other))) means in
      record { name = f.name; inside = inr f.inside; token = f.token; means = f.means }

skipped : (xs ys : List Name) (at : ℕ) → ((n : Name) → IsOneOf xs n → n.at ≢ at) → target_in (map meant (xs ++ ys)) at ≡ target_in (map meant ys) at
skipped [] ys at other = refl
skipped (x ∷ xs) ys at other =
    ap (λ (b : Bool). cond b (target_of x.meant) (target_in (map meant (xs ++ ys)) at)) (ne_eqb x.at at (other x (inl refl))) ∙ skipped xs ys at (λ n is. other n (inr is))

-- what stands for a name of a statement is what a name of that statement means
pub found_in : AtsAreWithin → (i : ℕ) (sc : Scope) (rest : Script) (b : Block) (n : Name) (t : Target) → IsPlaced i rest → IsBlock (blocks sc rest) b → IsOneOf b.1 n → target_in (map meant (used sc rest)) n.at ≡ Some t → Found b.1 n.at t
found_in law i sc none b n t placed is inside same = absurd is
found_in law i sc (more s rest) b n t placed (inl here) inside same =
    let own : IsOneOf (names sc s) n = subst (λ (c : Block). IsOneOf c.1 n) (sym here) inside in
    subst (λ (c : Block). Found c.1 n.at t) here (found_first (names sc s) (used (with_statement s sc) rest) n t own same)
found_in law i sc (more s rest) b n t placed (inr is) inside same =
    let from = block_from law (i + length (spell s)) (with_statement s sc) rest b n placed.1 is inside in
    let other : (k : Name) → IsOneOf (names sc s) k → k.at ≢ n.at = λ k own e. (let w = names_within law i sc s k placed.0 own in omega (arith, w.1, from, e)) in
    found_in law (i + length (spell s)) (with_statement s sc) rest b n t placed.1 is inside (sym (skipped (names sc s) (used (with_statement s sc) rest) n.at other) ∙ same)

-- ---- the names of a def

pub block_used : (bs : List Block) (b : Block) (n : Name) → IsBlock bs b → IsOneOf b.1 n → IsUsedIn bs b.0 n
block_used [] b n is inside = absurd is
block_used (c ∷ cs) b n (inl same) inside = inl (ap (λ (d : Block). d.0) same, subst (λ (d : Block). IsOneOf d.1 n) (sym same) inside)
block_used (c ∷ cs) b n (inr is) inside = inr (block_used cs b n is inside)

-- the first block of a def's token is of the def that is found there
pub record Text (bs : List Block) (t : ℕ) (d : Tree ADef) : Type 0 where
  pub scope : Scope
  pub found : find (λ b. is_of t b.0) bs ≡ Some (Some t, names scope d)
  pub block : IsBlock bs (Some t, names scope d)

some_def : (d e : Tree ADef) → Some d ≡ Some e → d ≡ e
some_def d e is = cc

text_later : (b : Block) (bs : List Block) (t : ℕ) (d : Tree ADef) → is_of t b.0 ≡ false → Text bs t d → Text (b ∷ bs) t d
text_later b bs t d other x = record {
  scope = x.scope;
  found = ap (λ (w : Bool). cond w (Some b) (find (λ c. is_of t c.0) bs)) other ∙ x.found;
  block = inr x.block;
}

pub text_block : (sc : Scope) (script : Script) (t : ℕ) (d : Tree ADef) → def_at t script ≡ Some d → Text (blocks sc script) t d
text_block sc none t d is = absurd cc
text_block sc (more (Stmt (DefPart e) semicolon) rest) t d is = by_test (λ same. text_block (with_statement (Stmt (DefPart e) semicolon) sc) rest t d same) (nat_eq (def_token e) t) refl is where
  by_test : (def_at t rest ≡ Some d → Text (blocks (with_statement (Stmt (DefPart e) semicolon) sc) rest) t d) → (w : Bool) → nat_eq (def_token e) t ≡ w → ◌≡◌ {A = Option (Tree ADef)} (elim w [ true ↦ Some e | false ↦ def_at t rest ]) (Some d) → Text (blocks sc (more (Stmt (DefPart e) semicolon) rest)) t d
  by_test further true here same =
      let token : def_token e ≡ t = eqb-true (def_token e) t here in
      let by_name : ℕ → Block = λ k. (Some k, names sc e) in
      let by_text : Tree ADef → Block = λ x. (Some t, names sc x) in
      let block : ◌≡◌ {A = Block} (Some (def_token e), names sc e) (Some t, names sc d) = ap by_name token ∙ ap by_text (some_def e d same) in
      record {
        scope = sc;
        found = ap (λ (w : Bool). cond w (Some (Some (def_token e), names sc e)) (find (λ c. is_of t c.0) (blocks (with_statement (Stmt (DefPart e) semicolon) sc) rest))) here ∙ ap Some block;
        block = inl block;
      }
  by_test further false other same = text_later (Some (def_token e), names sc e) (blocks (with_statement (Stmt (DefPart e) semicolon) sc) rest) t d other (further same)
text_block sc (more (Stmt (BindPart b) semicolon) rest) t d is = text_later (None, names sc b) (blocks (with_statement (Stmt (BindPart b) semicolon) sc) rest) t d refl (text_block (with_statement (Stmt (BindPart b) semicolon) sc) rest t d is)
text_block sc (more (Stmt (CallPart c) semicolon) rest) t d is = text_later (None, names sc c) (blocks (with_statement (Stmt (CallPart c) semicolon) sc) rest) t d refl (text_block (with_statement (Stmt (CallPart c) semicolon) sc) rest t d is)
text_block sc (more (Stmt (IfPart i) semicolon) rest) t d is = text_later (None, names sc i) (blocks (with_statement (Stmt (IfPart i) semicolon) sc) rest) t d refl (text_block (with_statement (Stmt (IfPart i) semicolon) sc) rest t d is)
