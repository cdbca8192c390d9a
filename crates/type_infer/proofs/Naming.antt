-- The uses that were found are the names of the statement in order, with as many kinds as what they mean has open ones.
use Rattle.std.proofs.Common.{◌≡◌, ◌∙◌, sym, ap, subst, refl, arith, ℕ, ◌<◌, ◌≤◌, ◌+◌, length, get_or, List, [], ◌∷◌, ◌++◌, map, Option, Some, Bool, cond, eq-eqb, ne_eqb}
use Rattle.script_grammar.specs.Placed.{IsPlaced}
use Rattle.script_grammar.specs.Tree.{Sort, Tree, AStmt, Script}
use Rattle.script_grammar.specs.View.{listed}
use Rattle.typing_rules.specs.declared.uses.Target.{Target}
use Rattle.typing_rules.specs.declared.uses.Target.TheVariants as target
use Rattle.typing_rules.specs.Scoping.{Meaning, Name, Scope, meanings_of, meant, names, target_in, target_of, used}
use Rattle.typing_rules.specs.Scripts.{Targets, first_of}
use Rattle.type_steps.specs.Environment.{Found, TextUse}
use Rattle.type_steps.specs.Statements.{found_said, scope_after, text_said, with_last}
use Rattle.type_steps.proofs.Appended.{used_more}
use Rattle.type_steps.proofs.NameTokens.{RiseTo}
use Rattle.type_steps.proofs.Wholes.{used_rise}
use Rattle.expression_types.specs.Seen.{env_of}
use Rattle.expression_types.specs.declared.environment.KnownDef.{KnownDef}
use Rattle.expression_types.specs.declared.environment.Names.{Names}
use Rattle.expression_types.specs.Order.{Said, kinds_count, said_at, said_of, tokens_used}
use Rattle.expression_types.proofs.NamesInOrder.{names_in_order}
use Rattle.type_infer.specs.Answers.{said_in}
use Rattle.type_infer.specs.Matches.{AreAimed, HasCountIn, HaveCountsIn, IsTextCountedIn, aimed}
use Rattle.type_infer.proofs.Fronts.{first_first, first_next, first_placed, front_used}

-- ---- what is said of the uses

abbrev meaning_said : Said → Meaning
meaning_said x = (x.0, x.1)

founds_said : (fs : List Found) → map meaning_said (map said_of fs) ≡ map found_said fs
founds_said [] = refl
founds_said (f ∷ fs) = ap (λ (l : List Meaning). found_said f ∷ l) (founds_said fs)

texts_said : (us : List TextUse) → map meaning_said (map said_in us) ≡ map text_said us
texts_said [] = refl
texts_said (u ∷ us) = ap (λ (l : List Meaning). text_said u ∷ l) (texts_said us)

names_said : (ns : Names) (ts : List ℕ) → map meaning_said (map (said_at ns) ts) ≡ map (aimed (env_of ns).targets) ts
names_said ns [] = refl
names_said ns (t ∷ ts) = ap (λ (l : List Meaning). aimed (env_of ns).targets t ∷ l) (names_said ns ts)

pub founds_named : (ns : Names) (ts : List ℕ) (fs : List Found) → map said_of fs ≡ map (said_at ns) ts → map found_said fs ≡ map (aimed (env_of ns).targets) ts
founds_named ns ts fs h = sym (founds_said fs) ∙ ap (map meaning_said) h ∙ names_said ns ts

pub text_named : (ns : Names) (ts : List ℕ) (us : List TextUse) → map said_in us ≡ map (said_at ns) ts → map text_said us ≡ map (aimed (env_of ns).targets) ts
text_named ns ts us h = sym (texts_said us) ∙ ap (map meaning_said) h ∙ names_said ns ts

-- ---- how many kinds they have

same_number : (n m : ℕ) → Some n ≡ Some m → n ≡ m
same_number n m e = cc

counted_as : (ds : List KnownDef) (x : Target) (n : ℕ) → Some n ≡ kinds_count ds (Some x) → HasCountIn ds x n
counted_as ds (target.Slot t) n h = same_number n 0 h
counted_as ds (target.Def t) n h = sym h
counted_as ds (target.Builtin b) n h = same_number n _ h

same_first : (x y : Said) (xs ys : List Said) → x ∷ xs ≡ y ∷ ys → x ≡ y
same_first x y xs ys h = cc

same_rest : (x y : Said) (xs ys : List Said) → x ∷ xs ≡ y ∷ ys → xs ≡ ys
same_rest x y xs ys h = cc

one_counted : (ns : Names) (at t n : ℕ) (x : Target) → ◌≡◌ {A = Said} (at, Some x, Some n) (said_at ns t) → HasCountIn ns.defs.now x n
one_counted ns at t n x e =
    let means : (env_of ns).targets t ≡ Some x = sym (ap (λ (y : Said). y.1) e) in
    let counts : Some n ≡ kinds_count ns.defs.now ((env_of ns).targets t) = ap (λ (y : Said). y.2) e in
    counted_as ns.defs.now x n (subst (λ (o : Option Target). Some n ≡ kinds_count ns.defs.now o) means counts)

pub founds_counted_in : (ns : Names) (ts : List ℕ) (fs : List Found) → map said_of fs ≡ map (said_at ns) ts → HaveCountsIn ns.defs.now fs
founds_counted_in ns ts [] h = tt
founds_counted_in ns [] (f ∷ fs) h = let e : said_of f ∷ map said_of fs ≡ [] = h in cc
founds_counted_in ns (t ∷ ts) (f ∷ fs) h =
    let one = same_first (said_of f) (said_at ns t) (map said_of fs) (map (said_at ns) ts) h in
    (one_counted ns f.at t (length f.kinds) f.target one, founds_counted_in ns ts fs (same_rest (said_of f) (said_at ns t) (map said_of fs) (map (said_at ns) ts) h))

pub text_counted_in : (ns : Names) (ts : List ℕ) (us : List TextUse) → map said_in us ≡ map (said_at ns) ts → IsTextCountedIn ns.defs.now us
text_counted_in ns ts [] h = tt
text_counted_in ns [] (u ∷ us) h = let e : said_in u ∷ map said_in us ≡ [] = h in cc
text_counted_in ns (t ∷ ts) (u ∷ us) h =
    let one = same_first (said_in u) (said_at ns t) (map said_in us) (map (said_at ns) ts) h in
    (one_counted ns u.at t (length u.kinds) u.target one, text_counted_in ns ts us (same_rest (said_in u) (said_at ns t) (map said_in us) (map (said_at ns) ts) h))

-- ---- at the tokens of names that mean what the targets say

aimed_meant : (targets : Targets) (ns : List Name) → AreAimed targets (map meant ns) → map (aimed targets) (map (λ (n : Name). n.at) ns) ≡ map meant ns
aimed_meant targets [] h = refl
aimed_meant targets (n ∷ ns) h =
    ap (λ (o : Option Target). (n.at, o) ∷ map (aimed targets) (map (λ (m : Name). m.at) ns)) h.0 ∙ ap (λ (l : List Meaning). meant n ∷ l) (aimed_meant targets ns h.1)

pub tokens_named : (targets : Targets) (sc : Scope) {r : Sort} (t : Tree r) → AreAimed targets (map meant (names sc t)) → map (aimed targets) (tokens_used t) ≡ map meant (names sc t)
tokens_named targets sc t h = ap (map (aimed targets)) (names_in_order sc t) ∙ aimed_meant targets (names sc t) h

-- ---- names whose tokens rise mean what is found by their tokens

behind_one : (m : Meaning) (all : List Meaning) (ns : List Name) (lo hi : ℕ) → m.0 < lo → RiseTo lo hi ns → AreAimed (target_in all) (map meant ns) → AreAimed (target_in (m ∷ all)) (map meant ns)
behind_one m all [] lo hi lt r h = tt
behind_one m all (n ∷ ns) lo hi lt r h = (
  ap (λ (b : Bool). cond b m.1 (target_in all n.at)) (ne_eqb m.0 n.at (λ (e : m.0 ≡ n.at). omega (arith, lt, r.0, e))) ∙ h.0,
  behind_one m all ns (n.at + 1) hi (omega (arith, lt, r.0)) r.1 h.1,
)

rising_aimed : (ns : List Name) (lo hi : ℕ) → RiseTo lo hi ns → AreAimed (target_in (map meant ns)) (map meant ns)
rising_aimed [] lo hi r = tt
rising_aimed (n ∷ ns) lo hi r = (
  ap (λ (b : Bool). cond b (target_of n.meant) (target_in (map meant ns) n.at)) (eq-eqb n.at n.at refl),
  behind_one (meant n) (map meant ns) ns (n.at + 1) hi (omega arith) r.1 (rising_aimed ns (n.at + 1) hi r.1),
)

aimed_left : (targets : Targets) (ns ms : List Name) → AreAimed targets (map meant (ns ++ ms)) → AreAimed targets (map meant ns)
aimed_left targets [] ms h = tt
aimed_left targets (n ∷ ns) ms h = (h.0, aimed_left targets ns ms h.1)

aimed_right : (targets : Targets) (ns ms : List Name) → AreAimed targets (map meant (ns ++ ms)) → AreAimed targets (map meant ms)
aimed_right targets [] ms h = h
aimed_right targets (n ∷ ns) ms h = aimed_right targets ns ms h.1

one_more : (i n : ℕ) → i < n → i + 1 ≤ n
one_more i n l = omega (arith, l)

-- the names of a statement among the first ones mean what is found by their tokens among the names of all of these
pub statement_aimed : (n : ℕ) (xs : List (Tree AStmt)) (i : ℕ) (x : Tree AStmt) → IsPlaced 0 (listed xs) → i < n → i < length xs → x ≡ get_or xs i x →
    AreAimed (target_in (meanings_of (first_of n (listed xs)))) (map meant (names (scope_after [] (first_of i (listed xs))) x))
statement_aimed n xs i x placed lt within is =
    let front = first_of n (listed xs) in
    let before = first_of i (listed xs) in
    let targets = target_in (meanings_of front) in
    let rise = used_rise [] front 0 (first_placed n 0 (listed xs) placed) in
    let rest = front_used (i + 1) [] front in
    let here : first_of (i + 1) front ≡ with_last before x = first_first (i + 1) n (listed xs) (one_more i n lt) ∙ first_next xs i x within is in
    let parts : used [] front ≡ (used [] before ++ names (scope_after [] before) x) ++ rest.0 =
    rest.1 ∙ ap (λ (s : Script). used [] s ++ rest.0) here ∙ ap (λ (ns : List Name). ns ++ rest.0) (used_more [] before x) in
    let all : AreAimed targets (map meant ((used [] before ++ names (scope_after [] before) x) ++ rest.0)) = subst (λ (ns : List Name). AreAimed targets (map meant ns)) parts (rising_aimed (used [] front) 0 rise.0 rise.1) in
    aimed_right targets (used [] before) (names (scope_after [] before) x) (aimed_left targets (used [] before ++ names (scope_after [] before) x) rest.0 all)
