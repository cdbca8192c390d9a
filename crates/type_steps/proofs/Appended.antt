-- Scripts with one more statement, and what it leaves.
use Rattle.std.proofs.Common.{◌≡◌, ◌∙◌, sym, ap, subst, refl, List, [], ◌∷◌, ◌++◌, append_assoc, append-nil}
use Rattle.script_grammar.specs.Placed.{IsPlaced}
use Rattle.script_grammar.specs.Tree.{Tree, AStmt, Script, none, more, Stmt, BindPart, DefPart, CallPart, IfPart, Bind}
use Rattle.type_terms.specs.Agrees.{Agrees, Follows}
use Rattle.type_terms.specs.Ground.{Assignment}
use Rattle.type_terms.specs.Table.{Table}
use Rattle.type_terms.specs.Term.{meaning}
use Rattle.typing_rules.specs.Scoping.{Name, Scope, names, used, with_statement}
use Rattle.typing_rules.specs.Scripts.{Entry, IsTypedTo, Places, Targets, function, value}
use Rattle.type_steps.specs.Environment.{AreKnownOver, AreUsesOver, EachTakes, Found, Known, entries_under, texts_under}
use Rattle.type_steps.specs.Environment as known
use Rattle.type_steps.proofs.Tables.{found_over, meaning_over, uses_later}
use Rattle.type_steps.specs.Defs.{outside}
use Rattle.type_steps.specs.Statements.{AreFoundsOver, AreTaken, Done, bound, defined, founds_of, known_after, known_of, known_with, ran, scope_after, uses_in, uses_under, with_last}
use Rattle.type_steps.specs.Whole.{AreDone, AreDonesCounted, AreWhole, IsDoneCounted, IsDoneOf}

-- ---- what is known

pub after_more : (ks : List Known) (xs : List Done) (x : Done) → known_after ks (xs ++ x ∷ []) ≡ known_with x (known_after ks xs)
after_more ks [] x = refl
after_more ks (y ∷ xs) x = after_more (known_with y ks) xs x

pub known_more : (xs : List Done) (x : Done) → known_of (xs ++ x ∷ []) ≡ known_with x (known_of xs)
known_more xs x = after_more [] xs x

-- ---- the uses

pub taken_more : (a : Assignment) (kinds : Places) (ks : List Known) (xs : List Done) (x : Done) → AreTaken a kinds ks xs → EachTakes (texts_under a (known_after ks xs)) kinds a (founds_of x) → AreTaken a kinds ks (xs ++ x ∷ [])
taken_more a kinds ks [] x h e = (e, tt)
taken_more a kinds ks (y ∷ xs) x h e = (h.0, taken_more a kinds (known_with y ks) xs x h.1 e)

pub taken_before : (a : Assignment) (kinds : Places) (ks : List Known) (xs : List Done) (x : Done) → AreTaken a kinds ks (xs ++ x ∷ []) → AreTaken a kinds ks xs
taken_before a kinds ks [] x h = tt
taken_before a kinds ks (y ∷ xs) x h = (h.0, taken_before a kinds (known_with y ks) xs x h.1)

pub taken_last : (a : Assignment) (kinds : Places) (ks : List Known) (xs : List Done) (x : Done) → AreTaken a kinds ks (xs ++ x ∷ []) → EachTakes (texts_under a (known_after ks xs)) kinds a (founds_of x)
taken_last a kinds ks [] x h = h.0
taken_last a kinds ks (y ∷ xs) x h = taken_last a kinds (known_with y ks) xs x h.1

pub founds_more : (s : Table) (xs : List Done) (x : Done) → AreFoundsOver s xs → AreUsesOver s (founds_of x) → AreFoundsOver s (xs ++ x ∷ [])
founds_more s [] x h o = (o, tt)
founds_more s (y ∷ xs) x h o = (h.0, founds_more s xs x h.1 o)

pub founds_later : (s s' : Table) (xs : List Done) → Follows s s' → AreFoundsOver s xs → AreFoundsOver s' xs
founds_later s s' [] f h = tt
founds_later s s' (x ∷ xs) f h = (uses_later s s' (founds_of x) f h.0, founds_later s s' xs f h.1)

pub uses_more : (a : Assignment) (xs : List Done) (x : Done) → uses_under a (xs ++ x ∷ []) ≡ uses_under a xs ++ uses_in a x
uses_more a [] x = append-nil (uses_in a x)
uses_more a (y ∷ xs) x = ap (λ us. uses_in a y ++ us) (uses_more a xs x) ∙ sym (append_assoc (uses_in a y) (uses_under a xs) (uses_in a x))

-- ---- under assignments that agree

-- what was known earlier is over the same variables
over_before : (s : Table) (ks : List Known) (x : Done) → AreKnownOver s (known_with x ks) → AreKnownOver s ks
over_before s ks (bound t u fs) h = h.1
over_before s ks (defined d us) h = h.1
over_before s ks (ran fs) h = h

over_first : (s : Table) (ks : List Known) (xs : List Done) → AreKnownOver s (known_after ks xs) → AreKnownOver s ks
over_first s ks [] h = h
over_first s ks (x ∷ xs) h = over_before s ks x (over_first s (known_with x ks) xs h)

pub taken_over : (s : Table) (targets : Targets) (a b : Assignment) (kinds : Places) (ks : List Known) (xs : List Done) → AreKnownOver s (known_after ks xs) → AreFoundsOver s xs → Agrees s a b → AreTaken a kinds ks xs → AreTaken b kinds ks xs
taken_over s targets a b kinds ks [] o u g h = tt
taken_over s targets a b kinds ks (x ∷ xs) o u g h = (
  found_over s (outside targets ks) a b kinds (founds_of x) (record { before = over_first s ks (x ∷ xs) o; inner = tt }) u.0 g h.0,
  taken_over s targets a b kinds (known_with x ks) xs o u.1 g h.1,
)

pub entries_same : (s : Table) (a b : Assignment) (ks : List Known) → AreKnownOver s ks → Agrees s a b → entries_under a ks ≡ entries_under b ks
entries_same s a b [] o g = refl
entries_same s a b (known.value t u ∷ ks) o g =
    ap (λ x. value t x ∷ entries_under a ks) (meaning_over s a b u o.0 g) ∙ ap (λ (es : List Entry). value t (meaning b u) ∷ es) (entries_same s a b ks o.1 g)
entries_same s a b (known.function d us ∷ ks) o g = ap (λ (es : List Entry). function d ∷ es) (entries_same s a b ks o.1 g)

-- ---- scripts

pub used_more : (sc : Scope) (script : Script) (q : Tree AStmt) → used sc (with_last script q) ≡ used sc script ++ names (scope_after sc script) q
used_more sc none q = append-nil (names sc q)
used_more sc (more s rest) q = ap (λ (ns : List Name). names sc s ++ ns) (used_more (with_statement s sc) rest q) ∙ sym (append_assoc (names sc s) (used (with_statement s sc) rest) (names (scope_after (with_statement s sc) rest) q))

pub typed_more : (targets : Targets) (kinds : Places) (es fs gs : List Entry) (script : Script) (q : Tree AStmt) → IsTypedTo targets kinds es script fs → IsTypedTo targets kinds fs (more q none) gs → IsTypedTo targets kinds es (with_last script q) gs
typed_more targets kinds es fs gs none q h e = subst (λ xs. IsTypedTo targets kinds xs (more q none) gs) h e
typed_more targets kinds es fs gs (more (Stmt (BindPart (Bind at name f)) semicolon) rest) q h e = (h.0, h.1, typed_more targets kinds (value at h.0 ∷ es) fs gs rest q h.2 e)
typed_more targets kinds es fs gs (more (Stmt (DefPart d) semicolon) rest) q h e = (h.0, typed_more targets kinds (function d ∷ es) fs gs rest q h.1 e)
typed_more targets kinds es fs gs (more (Stmt (CallPart c) semicolon) rest) q h e = (h.0, typed_more targets kinds es fs gs rest q h.1 e)
typed_more targets kinds es fs gs (more (Stmt (IfPart c) semicolon) rest) q h e = (h.0, typed_more targets kinds es fs gs rest q h.1 e)

-- a typing with one more statement is one of those before it, and one of it
pub record Splits (targets : Targets) (kinds : Places) (es gs : List Entry) (script : Script) (q : Tree AStmt) : Type 0 where
  pub mid : List Entry
  pub before : IsTypedTo targets kinds es script mid
  pub last : IsTypedTo targets kinds mid (more q none) gs

pub typed_split : (targets : Targets) (kinds : Places) (es gs : List Entry) (script : Script) (q : Tree AStmt) → IsTypedTo targets kinds es (with_last script q) gs → Splits targets kinds es gs script q
typed_split targets kinds es gs none q h = record { mid = es; before = refl; last = h }
typed_split targets kinds es gs (more (Stmt (BindPart (Bind at name f)) semicolon) rest) q h =
    let r = typed_split targets kinds (value at h.0 ∷ es) gs rest q h.2 in
    record { mid = r.mid; before = (h.0, h.1, r.before); last = r.last }
typed_split targets kinds es gs (more (Stmt (DefPart d) semicolon) rest) q h =
    let r = typed_split targets kinds (function d ∷ es) gs rest q h.1 in
    record { mid = r.mid; before = (h.0, r.before); last = r.last }
typed_split targets kinds es gs (more (Stmt (CallPart c) semicolon) rest) q h =
    let r = typed_split targets kinds es gs rest q h.1 in
    record { mid = r.mid; before = (h.0, r.before); last = r.last }
typed_split targets kinds es gs (more (Stmt (IfPart c) semicolon) rest) q h =
    let r = typed_split targets kinds es gs rest q h.1 in
    record { mid = r.mid; before = (h.0, r.before); last = r.last }

-- ---- that what was left is whole

done_more : (sc : Scope) (script : Script) (xs : List Done) (q : Tree AStmt) (x : Done) → AreDone sc script xs → IsDoneOf (scope_after sc script) q x → AreDone sc (with_last script q) (xs ++ x ∷ [])
done_more sc none [] q x h d = (d, tt)
done_more sc none (y ∷ xs) q x h d = absurd h
done_more sc (more s rest) [] q x h d = absurd h
done_more sc (more s rest) (y ∷ xs) q x h d = (h.0, done_more (with_statement s sc) rest xs q x h.1 d)

counted_more : (ks : List Known) (xs : List Done) (x : Done) → AreDonesCounted ks xs → IsDoneCounted (known_after ks xs) x → AreDonesCounted ks (xs ++ x ∷ [])
counted_more ks [] x h c = (c, tt)
counted_more ks (y ∷ xs) x h c = (h.0, counted_more (known_with y ks) xs x h.1 c)

pub whole_more : (script : Script) (xs : List Done) (q : Tree AStmt) (x : Done) → IsPlaced 0 (with_last script q) → AreWhole script xs → IsDoneOf (scope_after [] script) q x → IsDoneCounted (known_of xs) x → AreWhole (with_last script q) (xs ++ x ∷ [])
whole_more script xs q x placed whole done counted = record {
  placed = placed;
  done = done_more [] script xs q x whole.done done;
  counted = counted_more [] xs x whole.counted counted;
}
