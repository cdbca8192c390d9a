-- What is whole: the uses are those of the names in order and are found by their tokens, and each def by its token.
use Rattle.std.proofs.Common.{◌≡◌, ◌≢◌, ◌⊎◌, inl, inr, ◌∙◌, sym, ap, ap₂, subst, refl, ℕ, ◌+◌, ◌<◌, ◌≤◌, List, [], ◌∷◌, ◌++◌, length, map, Option, Some, None, Bool, false, cond, eq-eqb, ne_eqb, arith}
use Rattle.std.specs.Prelude.{⊤, find}
use Rattle.std.proofs.lemmas.List.{map-append}
use Rattle.script_grammar.specs.Placed.{IsPlaced}
use Rattle.script_grammar.specs.Spelling.{spell}
use Rattle.script_grammar.specs.Tree.{Tree, ADef, AStmt, Script, none, more, Stmt, BindPart, DefPart, CallPart, IfPart, Bind, Def}
use Rattle.type_terms.specs.Ground.{Assignment}
use Rattle.typing_rules.specs.Kinds.{Block, IsOneOf, IsUsedIn, blocks, is_of, said}
use Rattle.typing_rules.specs.Scoping.{Meaning, Name, Scope, meant, names, target_of, used, with_statement}
use Rattle.typing_rules.specs.Scripts.{def_token}
use Rattle.type_steps.specs.Environment.{Found, Known, TextUse, function, settled_use, value}
use Rattle.type_steps.specs.Statements.{AreApart, Done, IsNewDef, bound, defined, found_said, found_use, known_after, known_of, known_with, ran, text_said, uses_in, uses_under}
use Rattle.type_steps.specs.Whole.{AreDone, AreWhole, IsDoneOf}
use Rattle.type_steps.proofs.NameTokens.{RiseTo, join, names_rise}
use Rattle.type_steps.proofs.Uses.{AreIn, all_in, uses_rise}

-- ---- what the uses say

pub founds_said : (a : Assignment) (fs : List Found) → map said (map (found_use a) fs) ≡ map found_said fs
founds_said a [] = refl
founds_said a (f ∷ fs) = ap (λ (ms : List Meaning). found_said f ∷ ms) (founds_said a fs)

pub texts_said : (a : Assignment) (us : List TextUse) → map said (map (settled_use a) us) ≡ map text_said us
texts_said a [] = refl
texts_said a (u ∷ us) = ap (λ (ms : List Meaning). text_said u ∷ ms) (texts_said a us)

one_said : (a : Assignment) (sc : Scope) (s : Tree AStmt) (x : Done) → IsDoneOf sc s x → map said (uses_in a x) ≡ map meant (names sc s)
one_said a sc (Stmt (BindPart (Bind at name f)) semicolon) (bound t u fs) d = founds_said a fs ∙ d.1
one_said a sc (Stmt (BindPart (Bind at name f)) semicolon) (defined e us) d = absurd d
one_said a sc (Stmt (BindPart (Bind at name f)) semicolon) (ran fs) d = absurd d
one_said a sc (Stmt (DefPart e) semicolon) (bound t u fs) d = absurd d
one_said a sc (Stmt (DefPart e) semicolon) (defined c us) d = texts_said a us ∙ d.1
one_said a sc (Stmt (DefPart e) semicolon) (ran fs) d = absurd d
one_said a sc (Stmt (CallPart c) semicolon) (bound t u fs) d = absurd d
one_said a sc (Stmt (CallPart c) semicolon) (defined e us) d = absurd d
one_said a sc (Stmt (CallPart c) semicolon) (ran fs) d = founds_said a fs ∙ d
one_said a sc (Stmt (IfPart c) semicolon) (bound t u fs) d = absurd d
one_said a sc (Stmt (IfPart c) semicolon) (defined e us) d = absurd d
one_said a sc (Stmt (IfPart c) semicolon) (ran fs) d = founds_said a fs ∙ d

pub uses_said : (a : Assignment) (sc : Scope) (script : Script) (xs : List Done) → AreDone sc script xs → map said (uses_under a xs) ≡ map meant (used sc script)
uses_said a sc none [] h = refl
uses_said a sc none (x ∷ xs) h = absurd h
uses_said a sc (more s rest) [] h = absurd h
uses_said a sc (more s rest) (x ∷ xs) h =
    map-append said (uses_in a x) (uses_under a xs)
    ∙ ap₂ (λ (ms os : List Meaning). ms ++ os) (one_said a sc s x h.0) (uses_said a (with_statement s sc) rest xs h.1)
    ∙ sym (map-append meant (names sc s) (used (with_statement s sc) rest))

pub used_rise : (sc : Scope) (script : Script) (i : ℕ) → IsPlaced i script → (hi : ℕ) × RiseTo i hi (used sc script)
used_rise sc none i p = (i, omega arith)
used_rise sc (more s rest) i p =
    let first = names_rise sc s i p.0 in
    let others = used_rise (with_statement s sc) rest (i + length (spell s)) p.1 in
    (others.0, join i (i + length (spell s)) (i + length (spell s)) others.0 others.0 (names sc s) (used (with_statement s sc) rest) (omega arith) (omega arith) first.rise others.1)

-- each use is found by its token
pub whole_in : (a : Assignment) (script : Script) (xs : List Done) → AreWhole script xs → AreIn (uses_under a xs) (uses_under a xs)
whole_in a script xs w =
    let r = used_rise [] script 0 w.placed in
    all_in 0 (uses_under a xs) (uses_rise 0 r.0 (uses_under a xs) (used [] script) (uses_said a [] script xs w.done) r.1)

-- ---- defs by their tokens

-- the def stands among what is known, with these uses
abbrev pub IsThere : Tree ADef → List TextUse → List Known → Type 0
IsThere d us [] = ⊥
IsThere d us (value t u ∷ ks) = IsThere d us ks
IsThere d us (function e vs ∷ ks) = ((e ≡ d) × (vs ≡ us)) ⊎ IsThere d us ks

pub there_with : (d : Tree ADef) (us : List TextUse) (ks : List Known) (x : Done) → IsThere d us ks → IsThere d us (known_with x ks)
there_with d us ks (bound t u fs) h = h
there_with d us ks (defined e vs) h = inr h
there_with d us ks (ran fs) h = h

pub there_after : (d : Tree ADef) (us : List TextUse) (ks : List Known) (xs : List Done) → IsThere d us ks → IsThere d us (known_after ks xs)
there_after d us ks [] h = h
there_after d us ks (x ∷ xs) h = there_after d us (known_with x ks) xs (there_with d us ks x h)

other_token : (d e : Tree ADef) (us : List TextUse) (ks : List Known) → IsNewDef ks d → IsThere e us ks → def_token e ≢ def_token d
other_token d e us [] n h = absurd h
other_token d e us (value t u ∷ ks) n h = other_token d e us ks n h
other_token d e us (function c vs ∷ ks) n (inl same) = subst (λ (z : Tree ADef). def_token z ≢ def_token d) same.0 n.0
other_token d e us (function c vs ∷ ks) n (inr h) = other_token d e us ks n.1 h

pub same_text : (ks : List Known) → AreApart ks → (d e : Tree ADef) (us vs : List TextUse) → IsThere d us ks → IsThere e vs ks → def_token d ≡ def_token e → us ≡ vs
same_text [] ap0 d e us vs h k t = absurd h
same_text (value x u ∷ ks) ap0 d e us vs h k t = same_text ks ap0 d e us vs h k t
same_text (function c ws ∷ ks) ap0 d e us vs (inl h) (inl k) t = sym h.1 ∙ k.1
same_text (function c ws ∷ ks) ap0 d e us vs (inl h) (inr k) t = absurd (other_token c e vs ks ap0.0 k (sym t ∙ ap def_token (sym h.0)))
same_text (function c ws ∷ ks) ap0 d e us vs (inr h) (inl k) t = absurd (other_token c d us ks ap0.0 h (t ∙ ap def_token (sym k.0)))
same_text (function c ws ∷ ks) ap0 d e us vs (inr h) (inr k) t = same_text ks ap0.1 d e us vs h k t

-- the tokens of defs are before this one
abbrev AreBefore : ℕ → List Known → Type 0
AreBefore i [] = ⊤
AreBefore i (value t u ∷ ks) = AreBefore i ks
AreBefore i (function d us ∷ ks) = (def_token d < i) × AreBefore i ks

before_more : (i j : ℕ) (ks : List Known) → i ≤ j → AreBefore i ks → AreBefore j ks
before_more i j [] le h = tt
before_more i j (value t u ∷ ks) le h = before_more i j ks le h
before_more i j (function d us ∷ ks) le h = (omega (arith, le, h.0), before_more i j ks le h.1)

new_def : (i : ℕ) (d : Tree ADef) (ks : List Known) → AreBefore i ks → i ≤ def_token d → IsNewDef ks d
new_def i d [] h le = tt
new_def i d (value t u ∷ ks) h le = new_def i d ks h le
new_def i d (function e us ∷ ks) h le = (λ same. omega (arith, le, h.0, same), new_def i d ks h.1 le)

apart_after : (i : ℕ) (sc : Scope) (script : Script) (xs : List Done) (ks : List Known) → IsPlaced i script → AreDone sc script xs → AreApart ks → AreBefore i ks → AreApart (known_after ks xs)
apart_after i sc none [] ks p h a b = a
apart_after i sc none (x ∷ xs) ks p h a b = absurd h
apart_after i sc (more s rest) [] ks p h a b = absurd h
apart_after i sc (more (Stmt (BindPart (Bind at name f)) semicolon) rest) (bound t u fs ∷ xs) ks p h a b =
    let n = length (spell (Stmt (BindPart (Bind at name f)) semicolon)) in
    apart_after (i + n) (with_statement (Stmt (BindPart (Bind at name f)) semicolon) sc) rest xs (value t u ∷ ks) p.1 h.1 a (before_more i (i + n) ks (omega arith) b)
apart_after i sc (more (Stmt (BindPart (Bind at name f)) semicolon) rest) (defined e us ∷ xs) ks p h a b = absurd h.0
apart_after i sc (more (Stmt (BindPart (Bind at name f)) semicolon) rest) (ran fs ∷ xs) ks p h a b = absurd h.0
apart_after i sc (more (Stmt (DefPart d) semicolon) rest) (bound t u fs ∷ xs) ks p h a b = absurd h.0
apart_after i sc (more (Stmt (DefPart (Def at name ps equals is r)) semicolon) rest) (defined e us ∷ xs) ks p h a b =
    let s = Stmt (DefPart (Def at name ps equals is r)) semicolon in
    let n = length (spell s) in
    let token : def_token e ≡ i + 1 = ap def_token h.0.0 ∙ p.0.0 in
    let new = new_def i e ks b (omega (arith, token)) in
    apart_after (i + n) (with_statement s sc) rest xs (function e us ∷ ks) p.1 h.1 (new, a) (omega (arith, token), before_more i (i + n) ks (omega arith) b)
apart_after i sc (more (Stmt (DefPart d) semicolon) rest) (ran fs ∷ xs) ks p h a b = absurd h.0
apart_after i sc (more (Stmt (CallPart c) semicolon) rest) (bound t u fs ∷ xs) ks p h a b = absurd h.0
apart_after i sc (more (Stmt (CallPart c) semicolon) rest) (defined e us ∷ xs) ks p h a b = absurd h.0
apart_after i sc (more (Stmt (CallPart c) semicolon) rest) (ran fs ∷ xs) ks p h a b =
    let n = length (spell (Stmt (CallPart c) semicolon)) in
    apart_after (i + n) sc rest xs ks p.1 h.1 a (before_more i (i + n) ks (omega arith) b)
apart_after i sc (more (Stmt (IfPart c) semicolon) rest) (bound t u fs ∷ xs) ks p h a b = absurd h.0
apart_after i sc (more (Stmt (IfPart c) semicolon) rest) (defined e us ∷ xs) ks p h a b = absurd h.0
apart_after i sc (more (Stmt (IfPart c) semicolon) rest) (ran fs ∷ xs) ks p h a b =
    let n = length (spell (Stmt (IfPart c) semicolon)) in
    apart_after (i + n) sc rest xs ks p.1 h.1 a (before_more i (i + n) ks (omega arith) b)

-- no two defs have their names at one token
pub whole_apart : (script : Script) (xs : List Done) → AreWhole script xs → AreApart (known_of xs)
whole_apart script xs w = apart_after 0 [] script xs [] w.placed w.done tt tt

-- ---- the uses of a name

abbrev pub HasTextUse : List TextUse → Name → Type 0
HasTextUse [] n = ⊥
HasTextUse (u ∷ us) n = ((u.at ≡ n.at) × (Some u.target ≡ target_of n.meant)) ⊎ HasTextUse us n

abbrev pub HasFound : List Found → Name → Type 0
HasFound [] n = ⊥
HasFound (f ∷ fs) n = ((f.at ≡ n.at) × (Some f.target ≡ target_of n.meant)) ⊎ HasFound fs n

same_head : (m o : Meaning) (ms os : List Meaning) → m ∷ ms ≡ o ∷ os → m ≡ o
same_head m o ms os e = cc

same_tail : (m o : Meaning) (ms os : List Meaning) → m ∷ ms ≡ o ∷ os → ms ≡ os
same_tail m o ms os e = cc

has_text : (us : List TextUse) (ns : List Name) → map text_said us ≡ map meant ns → (n : Name) → IsOneOf ns n → HasTextUse us n
has_text us [] e n o = absurd o
has_text [] (m ∷ ns) e n o = let h : ◌≡◌ {A = List Meaning} [] (meant m ∷ map meant ns) = e in cc
has_text (u ∷ us) (m ∷ ns) e n (inl same) =
    let head : text_said u ≡ meant n = same_head (text_said u) (meant m) (map text_said us) (map meant ns) e ∙ ap meant same in
    inl (ap (λ (z : Meaning). z.0) head, ap (λ (z : Meaning). z.1) head)
has_text (u ∷ us) (m ∷ ns) e n (inr o) = inr (has_text us ns (same_tail (text_said u) (meant m) (map text_said us) (map meant ns) e) n o)

pub has_found : (fs : List Found) (ns : List Name) → map found_said fs ≡ map meant ns → (n : Name) → IsOneOf ns n → HasFound fs n
has_found fs [] e n o = absurd o
has_found [] (m ∷ ns) e n o = let h : ◌≡◌ {A = List Meaning} [] (meant m ∷ map meant ns) = e in cc
has_found (f ∷ fs) (m ∷ ns) e n (inl same) =
    let head : found_said f ≡ meant n = same_head (found_said f) (meant m) (map found_said fs) (map meant ns) e ∙ ap meant same in
    inl (ap (λ (z : Meaning). z.0) head, ap (λ (z : Meaning). z.1) head)
has_found (f ∷ fs) (m ∷ ns) e n (inr o) = inr (has_found fs ns (same_tail (found_said f) (meant m) (map found_said fs) (map meant ns) e) n o)

-- a name in the text of the def whose name stands at a token is one of that def's uses
pub record UsedInDef (ks : List Known) (t : ℕ) (n : Name) : Type 0 where
  pub def : Tree ADef
  pub uses : List TextUse
  pub there : IsThere def uses ks
  pub token : def_token def ≡ t
  pub has : HasTextUse uses n

no_owner : {A : Type 0} (t : ℕ) → None ≡ Some t → A
no_owner t e = cc

owner_is : (t u : ℕ) → Some t ≡ Some u → t ≡ u
owner_is t u e = cc

pub used_in_def : (sc : Scope) (script : Script) (xs : List Done) (ks : List Known) → AreDone sc script xs → (t : ℕ) (n : Name) → IsUsedIn (blocks sc script) (Some t) n → UsedInDef (known_after ks xs) t n
used_in_def sc none [] ks h t n o = absurd o
used_in_def sc none (x ∷ xs) ks h t n o = absurd h
used_in_def sc (more s rest) [] ks h t n o = absurd h
used_in_def sc (more s rest) (x ∷ xs) ks h t n (inr o) = used_in_def (with_statement s sc) rest xs (known_with x ks) h.1 t n o
used_in_def sc (more (Stmt (DefPart d) semicolon) rest) (defined e us ∷ xs) ks h t n (inl o) = record {
  def = e;
  uses = us;
  there = there_after e us (function e us ∷ ks) xs (inl (refl, refl));
  token = ap def_token h.0.0 ∙ owner_is (def_token d) t o.0;
  has = has_text us (names sc d) h.0.1 n o.1;
}
used_in_def sc (more (Stmt (DefPart d) semicolon) rest) (bound x u fs ∷ xs) ks h t n (inl o) = absurd h.0
used_in_def sc (more (Stmt (DefPart d) semicolon) rest) (ran fs ∷ xs) ks h t n (inl o) = absurd h.0
used_in_def sc (more (Stmt (BindPart b) semicolon) rest) (x ∷ xs) ks h t n (inl o) = no_owner t o.0
used_in_def sc (more (Stmt (CallPart c) semicolon) rest) (x ∷ xs) ks h t n (inl o) = no_owner t o.0
used_in_def sc (more (Stmt (IfPart c) semicolon) rest) (x ∷ xs) ks h t n (inl o) = no_owner t o.0

-- the names of a def in its block, which is the first with its token
pub record BlockOf (bs : List Block) (i : ℕ) (d : Tree ADef) (us : List TextUse) : Type 0 where
  pub names : List Name
  pub found : find (λ b. is_of (def_token d) b.0) bs ≡ Some (Some (def_token d), names)
  pub said : map text_said us ≡ map meant names
  pub low : i ≤ def_token d

abbrev OrBlock : List Known → List Block → ℕ → Tree ADef → List TextUse → Type 0
OrBlock ks bs i d us = IsThere d us ks ⊎ BlockOf bs i d us

-- behind the block of something else
skip : (ks : List Known) (b : Block) (bs : List Block) (i j : ℕ) (d : Tree ADef) (us : List TextUse) → i ≤ j → is_of (def_token d) b.0 ≡ false → BlockOf bs j d us → BlockOf (b ∷ bs) i d us
skip ks b bs i j d us le other r = record {
  names = r.names;
  found = ap (λ (c : Bool). cond c (Some b) (find (λ z. is_of (def_token d) z.0) bs)) other ∙ r.found;
  said = r.said;
  low = omega (arith, le, r.low);
}

pub block_of : (i : ℕ) (sc : Scope) (script : Script) (xs : List Done) (ks : List Known) → IsPlaced i script → AreDone sc script xs → (d : Tree ADef) (us : List TextUse) → IsThere d us (known_after ks xs) → OrBlock ks (blocks sc script) i d us
block_of i sc none [] ks p h d us o = inl o
block_of i sc none (x ∷ xs) ks p h d us o = absurd h
block_of i sc (more s rest) [] ks p h d us o = absurd h
block_of i sc (more (Stmt (BindPart (Bind at name f)) semicolon) rest) (bound t u fs ∷ xs) ks p h d us o =
    let s = Stmt (BindPart (Bind at name f)) semicolon in
    by (block_of (i + length (spell s)) (with_statement s sc) rest xs (value t u ∷ ks) p.1 h.1 d us o) where
      by : OrBlock (value t u ∷ ks) (blocks (with_statement (Stmt (BindPart (Bind at name f)) semicolon) sc) rest) (i + length (spell (Stmt (BindPart (Bind at name f)) semicolon))) d us → OrBlock ks (blocks sc (more (Stmt (BindPart (Bind at name f)) semicolon) rest)) i d us
      by (inl q) = inl q
      by (inr r) = inr (skip ks (None, names sc (Stmt (BindPart (Bind at name f)) semicolon)) (blocks (with_statement (Stmt (BindPart (Bind at name f)) semicolon) sc) rest) i (i + length (spell (Stmt (BindPart (Bind at name f)) semicolon))) d us (omega arith) refl r)
block_of i sc (more (Stmt (BindPart (Bind at name f)) semicolon) rest) (defined e vs ∷ xs) ks p h d us o = absurd h.0
block_of i sc (more (Stmt (BindPart (Bind at name f)) semicolon) rest) (ran fs ∷ xs) ks p h d us o = absurd h.0
block_of i sc (more (Stmt (DefPart c) semicolon) rest) (bound t u fs ∷ xs) ks p h d us o = absurd h.0
block_of i sc (more (Stmt (DefPart c) semicolon) rest) (ran fs ∷ xs) ks p h d us o = absurd h.0
block_of i sc (more (Stmt (DefPart (Def at name ps equals is r)) semicolon) rest) (defined e vs ∷ xs) ks p h d us o =
    by (block_of (i + length (spell (Stmt (DefPart (Def at name ps equals is r)) semicolon))) (with_statement (Stmt (DefPart (Def at name ps equals is r)) semicolon) sc) rest xs (function e vs ∷ ks) p.1 h.1 d us o) where
      block_at : ℕ → Option Block
      block_at t = Some (Some t, names sc (Def at name ps equals is r))

      by : OrBlock (function e vs ∷ ks) (blocks (with_statement (Stmt (DefPart (Def at name ps equals is r)) semicolon) sc) rest) (i + length (spell (Stmt (DefPart (Def at name ps equals is r)) semicolon))) d us → OrBlock ks (blocks sc (more (Stmt (DefPart (Def at name ps equals is r)) semicolon) rest)) i d us
      by (inl (inr q)) = inl q
      by (inl (inl same)) =
          let def_is : Def at name ps equals is r ≡ d = sym h.0.0 ∙ same.0 in
          let token : at ≡ def_token d = ap def_token def_is in
          inr (record {
            names = names sc (Def at name ps equals is r);
            found = ap (λ (b : Bool). cond b (Some (Some at, names sc (Def at name ps equals is r))) (find (λ z. is_of (def_token d) z.0) (blocks (with_statement (Stmt (DefPart (Def at name ps equals is r)) semicolon) sc) rest))) (eq-eqb at (def_token d) token)
                ∙ ap (λ (t : ℕ). block_at t) token;
            said = sym (ap (map text_said) same.1) ∙ h.0.1;
            low = omega (arith, p.0.0, token);
          })
      by (inr q) =
          let low = q.low in
          let other : at ≢ def_token d = λ e. omega (arith, p.0.0, low, e) in
          inr (skip ks (Some at, names sc (Stmt (DefPart (Def at name ps equals is r)) semicolon)) (blocks (with_statement (Stmt (DefPart (Def at name ps equals is r)) semicolon) sc) rest) i (i + length (spell (Stmt (DefPart (Def at name ps equals is r)) semicolon))) d us (omega arith) (ne_eqb at (def_token d) other) q)
block_of i sc (more (Stmt (CallPart c) semicolon) rest) (bound t u fs ∷ xs) ks p h d us o = absurd h.0
block_of i sc (more (Stmt (CallPart c) semicolon) rest) (defined e vs ∷ xs) ks p h d us o = absurd h.0
block_of i sc (more (Stmt (CallPart c) semicolon) rest) (ran fs ∷ xs) ks p h d us o =
    by (block_of (i + length (spell (Stmt (CallPart c) semicolon))) sc rest xs ks p.1 h.1 d us o) where
      by : OrBlock ks (blocks sc rest) (i + length (spell (Stmt (CallPart c) semicolon))) d us → OrBlock ks (blocks sc (more (Stmt (CallPart c) semicolon) rest)) i d us
      by (inl q) = inl q
      by (inr r) = inr (skip ks (None, names sc (Stmt (CallPart c) semicolon)) (blocks sc rest) i (i + length (spell (Stmt (CallPart c) semicolon))) d us (omega arith) refl r)
block_of i sc (more (Stmt (IfPart c) semicolon) rest) (bound t u fs ∷ xs) ks p h d us o = absurd h.0
block_of i sc (more (Stmt (IfPart c) semicolon) rest) (defined e vs ∷ xs) ks p h d us o = absurd h.0
block_of i sc (more (Stmt (IfPart c) semicolon) rest) (ran fs ∷ xs) ks p h d us o =
    by (block_of (i + length (spell (Stmt (IfPart c) semicolon))) sc rest xs ks p.1 h.1 d us o) where
      by : OrBlock ks (blocks sc rest) (i + length (spell (Stmt (IfPart c) semicolon))) d us → OrBlock ks (blocks sc (more (Stmt (IfPart c) semicolon) rest)) i d us
      by (inl q) = inl q
      by (inr r) = inr (skip ks (None, names sc (Stmt (IfPart c) semicolon)) (blocks sc rest) i (i + length (spell (Stmt (IfPart c) semicolon))) d us (omega arith) refl r)
