-- A statement's first token is where its fields say; a token begins where its field says.
use Rattle.std.proofs.Common.{◌≡◌, ℕ, zero, suc, ◌+◌, ◌<◌, ◌≤◌, List, [], ◌∷◌, length, map, Option, Some, None, ◌⊎◌, inl, inr, refl, sym, ap, ◌∙◌, arith}
use Rattle.std.specs.Prelude.{get_or, option_map, unwrap_or}
use Rattle.std.proofs.lemmas.List.{length-append}
use Rattle.script_lex.specs.declared.token.Token.{Token}
use Rattle.script_grammar.specs.Tree.{Tree, APart, AStmt, more, Script, BindPart, DefPart, CallPart, IfPart, Bind, Def, NamedCall, If}
use Rattle.script_grammar.specs.Spelling.{spell, spelling}
use Rattle.script_grammar.specs.Placed.{IsPlaced}
use Rattle.script_grammar.specs.View.{listed, view_stmt, view_part}
use Rattle.script_grammar.specs.declared.tree.Stmt as stmt
use Rattle.script_places.specs.Starts.{start, before, first_token, first_at}

first_placed : (i : ℕ) (p : Tree APart) → IsPlaced i p → first_at p ≡ i
first_placed i (BindPart (Bind at name value)) h = h.0
first_placed i (DefPart (Def at name params equals inner result)) h = let at_name : at ≡ i + 1 = h.0 in omega arith
first_placed i (CallPart (NamedCall at name args)) h = h.0
first_placed i (IfPart (If at c t e)) h = h.0

some_is : {a b : ℕ} → Some a ≡ Some b → a ≡ b
some_is {a} e = ap (λ (o : Option ℕ). unwrap_or o a) e

-- what is behind a first statement lies that much further on
further : (i n : ℕ) (s : Tree AStmt) (o : Option Script) → option_map (λ x. i + length (spell s) + length (spelling x)) o ≡ Some n → option_map (λ x. i + length (spelling x)) (option_map (more s) o) ≡ Some n
further i n s None e = absurd cc
further i n s (Some x) e = ap Some (let size = length-append (spell s) (spelling x) in let same : i + length (spell s) + length (spelling x) ≡ n = some_is e in omega arith)

pub statement_at : (i k : ℕ) (ss : List stmt.Stmt) (d : stmt.Stmt) → IsPlaced i (listed (map view_stmt ss)) → k < length ss → option_map (λ x. i + length (spelling x)) (before (listed (map view_stmt ss)) k) ≡ Some (first_at (view_part (get_or ss k d).part))
statement_at i k [] d h lt = absurd (omega (arith, lt))
statement_at i zero (s ∷ ss) d h lt = ap Some (let same = first_placed i (view_part s.part) h.0 in omega arith)
statement_at i (suc k) (s ∷ ss) d h lt = further i _ (view_stmt s) (before (listed (map view_stmt ss)) k) (statement_at (i + length (spell (view_stmt s))) k ss d h.1 (omega (arith, lt)))

pub none_at : (k : ℕ) (ss : List stmt.Stmt) → length ss ≤ k → before (listed (map view_stmt ss)) k ≡ None
none_at k [] le = refl
none_at zero (s ∷ ss) le = absurd (omega (arith, le))
none_at (suc k) (s ∷ ss) le = ap (option_map (more (view_stmt s))) (none_at k ss (omega (arith, le)))

pub first_there : (ss : List stmt.Stmt) (n k : ℕ) (s : stmt.Stmt) → n ≡ suc k → k < length ss → s ≡ get_or ss k s → IsPlaced 0 (listed (map view_stmt ss)) → first_token (listed (map view_stmt ss)) n ≡ Some (first_at (view_part s.part))
first_there ss n k s e lt at placed = rw e (zero_less (before (listed (map view_stmt ss)) k) ∙ (statement_at 0 k ss s placed lt ∙ ap (λ (x : stmt.Stmt). Some (first_at (view_part x.part))) (sym at))) where
  zero_less : (o : Option Script) → option_map (λ x. length (spelling x)) o ≡ option_map (λ x. 0 + length (spelling x)) o
  zero_less None = refl
  zero_less (Some x) = ap Some (omega arith)

pub first_missing : (ss : List stmt.Stmt) (n : ℕ) → (n ≡ 0) ⊎ (length ss < n) → first_token (listed (map view_stmt ss)) n ≡ None
first_missing ss zero (inl e) = refl
first_missing ss zero (inr lt) = refl
first_missing ss (suc k) (inl e) = absurd (omega (arith, e))
first_missing ss (suc k) (inr lt) = ap (option_map (λ x. length (spelling x))) (none_at k ss (omega (arith, lt)))

pub start_there : (total : ℕ) (ts : List Token) (k : ℕ) (t : Token) → k < length ts → t ≡ get_or ts k t → start total ts k ≡ t.start
start_there total [] k t lt e = absurd (omega (arith, lt))
start_there total (t' ∷ ts) zero t lt e = ap (λ (x : Token). x.start) (sym e)
start_there total (t' ∷ ts) (suc k) t lt e = start_there total ts k t (omega (arith, lt)) e

pub start_past : (total : ℕ) (ts : List Token) (k : ℕ) → length ts ≤ k → start total ts k ≡ total
start_past total [] k le = refl
start_past total (t ∷ ts) zero le = absurd (omega (arith, le))
start_past total (t ∷ ts) (suc k) le = start_past total ts k (omega (arith, le))
