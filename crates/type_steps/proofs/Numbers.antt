-- The open kinds of defs are numbered in the order of the names, and each use has as many kinds as what it means has open ones.
use Rattle.std.proofs.Common.{◌≡◌, ◌⊎◌, inl, inr, ◌∙◌, sym, ap, ap₂, subst, refl, ℕ, List, [], ◌∷◌, ◌++◌, length, map, Option, Some, None, Bool, true, false, cond, nat_eq, eqb-true, append_assoc}
use Rattle.std.specs.List.{flat_map}
use Rattle.std.proofs.lemmas.List.{length-map}
use Rattle.script_grammar.specs.Tree.{Tree, ADef, AStmt, Script, none, more, Stmt, BindPart, DefPart, CallPart, IfPart, Bind}
use Rattle.type_terms.specs.Ground.{Assignment}
use Rattle.type_terms.specs.Term.{kind_meaning}
use Rattle.type_terms.specs.declared.ty.KindTerm.{KindTerm}
use Rattle.typing_rules.specs.declared.uses.KindOf.{KindOf}
use Rattle.typing_rules.specs.declared.uses.KindOf.TheVariants.{Fixed}
use Rattle.typing_rules.specs.declared.uses.Target.{Target}
use Rattle.typing_rules.specs.declared.uses.Target.TheVariants as target
use Rattle.typing_rules.specs.declared.uses.Use.{Use}
use Rattle.typing_rules.specs.Kinds.{AreInOrder, Block, EachHasKinds, HasKinds, IsInOrder, AreKindsNumbered, blocks, numbered_on, kinds_listed, block_names, number_of, numbers_in, open_kinds, owner, said}
use Rattle.typing_rules.specs.Scoping.{Meaning, Name, Scope, meant, names, with_statement}
use Rattle.typing_rules.specs.Scripts.{def_token}
use Rattle.typing_rules.specs.Uses.{use_at}
use Rattle.type_steps.specs.Environment.{Found, Known, Pending, TextUse, function, of_def, of_term, settled, settled_use, value}
use Rattle.type_steps.specs.Counts.{AreCounted, HasCount, IsTextCounted, count_at, open_in, opens_in, text_count}
use Rattle.type_steps.specs.Statements.{Done, bound, defined, found_said, found_use, known_after, known_of, known_with, ran, uses_in, uses_under}
use Rattle.type_steps.specs.Whole.{AreDone, AreDonesCounted, AreWhole, IsDoneCounted, IsDoneOf}
use Rattle.type_steps.proofs.AtPlaces.{IsOlder}
use Rattle.type_steps.proofs.Uses.{AreIn, in_left, in_right}
use Rattle.type_steps.proofs.Wholes.{BlockOf, IsThere, block_of, founds_said, texts_said, there_after, whole_in}

-- ---- numbers of the kinds of uses

numbers_both : (xs ys : List KindOf) → flat_map number_of (xs ++ ys) ≡ flat_map number_of xs ++ flat_map number_of ys
numbers_both [] ys = refl
numbers_both (x ∷ xs) ys = ap (λ (ns : List ℕ). number_of x ++ ns) (numbers_both xs ys) ∙ sym (append_assoc (number_of x) (flat_map number_of xs) (flat_map number_of ys))

-- the numbers in uses
abbrev pub numbers_of : List Use → List ℕ
numbers_of us = flat_map number_of (flat_map (λ u. u.kinds) us)

pendings_numbers : (a : Assignment) (ps : List Pending) → flat_map number_of (map (settled a) ps) ≡ flat_map open_in ps
pendings_numbers a [] = refl
pendings_numbers a (of_term k ∷ ps) = pendings_numbers a ps
pendings_numbers a (of_def j ∷ ps) = ap (λ (ns : List ℕ). j ∷ ns) (pendings_numbers a ps)

text_numbers : (a : Assignment) (us : List TextUse) → numbers_of (map (settled_use a) us) ≡ opens_in us
text_numbers a [] = refl
text_numbers a (u ∷ us) =
    numbers_both (map (settled a) u.kinds) (flat_map (λ (v : Use). v.kinds) (map (settled_use a) us))
    ∙ ap₂ (λ (ms ns : List ℕ). ms ++ ns) (pendings_numbers a u.kinds) (text_numbers a us)

terms_numbers : (a : Assignment) (ks : List KindTerm) → flat_map number_of (map (λ k. Fixed (kind_meaning a k)) ks) ≡ []
terms_numbers a [] = refl
terms_numbers a (k ∷ ks) = terms_numbers a ks

founds_numbers : (a : Assignment) (fs : List Found) → numbers_of (map (found_use a) fs) ≡ []
founds_numbers a [] = refl
founds_numbers a (f ∷ fs) =
    numbers_both (map (λ k. Fixed (kind_meaning a k)) f.kinds) (flat_map (λ (v : Use). v.kinds) (map (found_use a) fs))
    ∙ ap₂ (λ (ms ns : List ℕ). ms ++ ns) (terms_numbers a f.kinds) (founds_numbers a fs)

same_head : (m o : Meaning) (ms os : List Meaning) → m ∷ ms ≡ o ∷ os → m ≡ o
same_head m o ms os e = cc

same_tail : (m o : Meaning) (ms os : List Meaning) → m ∷ ms ≡ o ∷ os → ms ≡ os
same_tail m o ms os e = cc

names_kinds : (all us : List Use) (ns : List Name) → map said us ≡ map meant ns → AreIn all us → flat_map (λ (n : Name). kinds_listed (use_at n.at all)) ns ≡ flat_map (λ (u : Use). u.kinds) us
names_kinds all [] [] e i = refl
names_kinds all [] (n ∷ ns) e i = let h : ◌≡◌ {A = List Meaning} [] (meant n ∷ map meant ns) = e in cc
names_kinds all (u ∷ us) [] e i = let h : ◌≡◌ {A = List Meaning} (said u ∷ map said us) [] = e in cc
names_kinds all (u ∷ us) (n ∷ ns) e i =
    let token : u.at ≡ n.at = ap (λ (m : Meaning). m.0) (same_head (said u) (meant n) (map said us) (map meant ns) e) in
    let here : use_at n.at all ≡ Some u = subst (λ (t : ℕ). use_at t all ≡ Some u) token i.0 in
    ap₂ (λ (ks ls : List KindOf). ks ++ ls) (ap kinds_listed here) (names_kinds all us ns (same_tail (said u) (meant n) (map said us) (map meant ns) e) i.1)

names_numbers : (all us : List Use) (ns : List Name) → map said us ≡ map meant ns → AreIn all us → numbers_in all ns ≡ numbers_of us
names_numbers all us ns e i = ap (flat_map number_of) (names_kinds all us ns e i)

-- ---- the open kinds of a def

module _ (a : Assignment) (script : Script) (xs : List Done) (whole : AreWhole script xs) where
  abbrev pub all_uses : List Use
  all_uses = uses_under a xs

  pub open_as : (d : Tree ADef) (us : List TextUse) → IsThere d us (known_of xs) → AreIn all_uses (map (settled_use a) us) → open_kinds (blocks [] script) all_uses (def_token d) ≡ text_count us
  open_as d us there i = by (block_of 0 [] script xs [] whole.placed whole.done d us there) where
    by : (⊥ ⊎ BlockOf (blocks [] script) 0 d us) → open_kinds (blocks [] script) all_uses (def_token d) ≡ text_count us
    by (inl h) = absurd h
    by (inr r) =
        ap (λ (o : Option Block). numbered_on 0 (numbers_in all_uses (block_names o))) r.found
        ∙ ap (numbered_on 0) (names_numbers all_uses (map (settled_use a) us) r.names (texts_said a us ∙ r.said) i ∙ text_numbers a us)

  -- a def that is known, by its token
  record Counted (ks : List Known) (t n : ℕ) : Type 0 where
    pub def : Tree ADef
    pub uses : List TextUse
    pub there : IsThere def uses ks
    pub token : def_token def ≡ t
    pub count : text_count uses ≡ Some n

  none_is : {A : Type 0} (n : ℕ) → ◌≡◌ {A = Option ℕ} None (Some n) → A
  none_is n e = cc

  count_there : (ks : List Known) (t n : ℕ) → count_at t ks ≡ Some n → Counted ks t n
  count_there [] t n e = none_is n e
  count_there (value x u ∷ ks) t n e = let r = count_there ks t n e in record { def = r.def; uses = r.uses; there = r.there; token = r.token; count = r.count }
  count_there (function d us ∷ ks) t n e = by (nat_eq (def_token d) t) refl (λ f. count_there ks t n f) e where
    by : (b : Bool) → nat_eq (def_token d) t ≡ b → (count_at t ks ≡ Some n → Counted ks t n) → cond b (text_count us) (count_at t ks) ≡ Some n → Counted (function d us ∷ ks) t n
    by true q g f = record { def = d; uses = us; there = inl (refl, refl); token = eqb-true (def_token d) t q; count = f }
    by false q g f = let r = g f in record { def = r.def; uses = r.uses; there = inr r.there; token = r.token; count = r.count }

  -- the uses of each def that is known are among all
  module _ (inside : (d : Tree ADef) (us : List TextUse) → IsThere d us (known_of xs) → AreIn all_uses (map (settled_use a) us)) where
    open_count : (ks : List Known) → IsOlder ks (known_of xs) → (t n : ℕ) → count_at t ks ≡ Some n → open_kinds (blocks [] script) all_uses t ≡ Some n
    open_count ks old t n e =
        let r = count_there ks t n e in
        let there = old r.def r.uses r.there in
        sym (ap (open_kinds (blocks [] script) all_uses) r.token) ∙ open_as r.def r.uses there (inside r.def r.uses there) ∙ r.count

    none_long : (ws : List KindOf) → length ws ≡ 0 → ws ≡ []
    none_long [] e = refl
    none_long (w ∷ ws) e = cc

    has_kinds : (ks : List Known) → IsOlder ks (known_of xs) → (t : Target) (ws : List KindOf) → HasCount ks t (length ws) → HasKinds (blocks [] script) all_uses t ws
    has_kinds ks old (target.Slot t) ws c = none_long ws c
    has_kinds ks old (target.Def t) ws c = open_count ks old t (length ws) c
    has_kinds ks old (target.Builtin b) ws c = c

    founds_have : (ks : List Known) → IsOlder ks (known_of xs) → (fs : List Found) → AreCounted ks fs → EachHasKinds (blocks [] script) all_uses (map (found_use a) fs)
    founds_have ks old [] c = tt
    founds_have ks old (f ∷ fs) c =
        (has_kinds ks old f.target (map (λ k. Fixed (kind_meaning a k)) f.kinds) (subst (HasCount ks f.target) (sym (length-map f.kinds (λ k. Fixed (kind_meaning a k)))) c.0), founds_have ks old fs c.1)

    texts_have : (ks : List Known) → IsOlder ks (known_of xs) → (us : List TextUse) → IsTextCounted ks us → EachHasKinds (blocks [] script) all_uses (map (settled_use a) us)
    texts_have ks old [] c = tt
    texts_have ks old (u ∷ us) c =
        (has_kinds ks old u.target (map (settled a) u.kinds) (subst (HasCount ks u.target) (sym (length-map u.kinds (settled a))) c.0), texts_have ks old us c.1)

    both_have : (us vs : List Use) → EachHasKinds (blocks [] script) all_uses us → EachHasKinds (blocks [] script) all_uses vs → EachHasKinds (blocks [] script) all_uses (us ++ vs)
    both_have [] vs h k = k
    both_have (u ∷ us) vs h k = (h.0, both_have us vs h.1 k)

    one_has : (ks : List Known) → IsOlder ks (known_of xs) → (y : Done) → IsDoneCounted ks y → EachHasKinds (blocks [] script) all_uses (uses_in a y)
    one_has ks old (bound t u fs) c = founds_have ks old fs c
    one_has ks old (defined d us) c = texts_have ks old us c.1
    one_has ks old (ran fs) c = founds_have ks old fs c

    each_has : (ks : List Known) (ys : List Done) → IsOlder (known_after ks ys) (known_of xs) → AreDonesCounted ks ys → EachHasKinds (blocks [] script) all_uses (uses_under a ys)
    each_has ks [] old c = tt
    each_has ks (y ∷ ys) old c =
        both_have (uses_in a y) (uses_under a ys) (one_has ks (λ d us l. old d us (there_after d us ks (y ∷ ys) l)) y c.0) (each_has (known_with y ks) ys old c.1)

    founds_order : (fs : List Found) (ns : List Name) → map found_said fs ≡ map meant ns → AreIn all_uses (map (found_use a) fs) → numbers_in all_uses ns ≡ []
    founds_order fs ns e i = names_numbers all_uses (map (found_use a) fs) ns (founds_said a fs ∙ e) i ∙ founds_numbers a fs

    one_order : (sc : Scope) (q : Tree AStmt) (ks : List Known) (z : Done) → IsDoneOf sc q z → IsDoneCounted ks z → AreIn all_uses (uses_in a z) → IsOlder (known_with z ks) (known_of xs) → IsInOrder (blocks [] script) all_uses (owner q, names sc q)
    one_order sc (Stmt (BindPart (Bind at name f)) semicolon) ks (bound t u fs) k c i old = founds_order fs (names sc f) k.1 i
    one_order sc (Stmt (BindPart (Bind at name f)) semicolon) ks (defined d us) k c i old = absurd k
    one_order sc (Stmt (BindPart (Bind at name f)) semicolon) ks (ran fs) k c i old = absurd k
    one_order sc (Stmt (DefPart e) semicolon) ks (bound t u fs) k c i old = absurd k
    one_order sc (Stmt (DefPart e) semicolon) ks (defined d us) k c i old =
        let there = old d us (inl (refl, refl)) in
        (c.0.0, sym (ap (λ (x : Tree ADef). open_kinds (blocks [] script) all_uses (def_token x)) k.0) ∙ open_as d us there i ∙ c.0.1)
    one_order sc (Stmt (DefPart e) semicolon) ks (ran fs) k c i old = absurd k
    one_order sc (Stmt (CallPart e) semicolon) ks (bound t u fs) k c i old = absurd k
    one_order sc (Stmt (CallPart e) semicolon) ks (defined d us) k c i old = absurd k
    one_order sc (Stmt (CallPart e) semicolon) ks (ran fs) k c i old = founds_order fs (names sc e) k i
    one_order sc (Stmt (IfPart e) semicolon) ks (bound t u fs) k c i old = absurd k
    one_order sc (Stmt (IfPart e) semicolon) ks (defined d us) k c i old = absurd k
    one_order sc (Stmt (IfPart e) semicolon) ks (ran fs) k c i old = founds_order fs (names sc e) k i

    in_order : (sc : Scope) (rest : Script) (ys : List Done) (ks : List Known) → IsOlder (known_after ks ys) (known_of xs) → AreDone sc rest ys → AreDonesCounted ks ys → AreIn all_uses (uses_under a ys) → AreInOrder (blocks [] script) all_uses (blocks sc rest)
    in_order sc none [] ks old h c i = tt
    in_order sc none (y ∷ ys) ks old h c i = absurd h
    in_order sc (more s rest) [] ks old h c i = absurd h
    in_order sc (more s rest) (y ∷ ys) ks old h c i = (
      one_order sc s ks y h.0 c.0 (in_left all_uses (uses_in a y) (uses_under a ys) i) (λ d us l. old d us (there_after d us (known_with y ks) ys l)),
      in_order (with_statement s sc) rest ys (known_with y ks) old h.1 c.1 (in_right all_uses (uses_in a y) (uses_under a ys) i),
    )

    pub are_numbered : AreKindsNumbered (blocks [] script) all_uses
    are_numbered = record {
      order = in_order [] script xs [] (λ d us l. l) whole.done whole.counted (whole_in a script xs whole);
      each = each_has [] xs (λ d us l. l) whole.counted;
    }
