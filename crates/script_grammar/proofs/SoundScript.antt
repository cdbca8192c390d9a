-- A script that is read has all the tokens for its spelling, its places are right, and a fault stands where the spelling of a script has begun.
use Rattle.std.proofs.Common.{◌≡◌, ℕ, zero, suc, ◌+◌, ◌-◌, ◌<◌, ◌≤◌, List, [], ◌∷◌, ◌++◌, length, Bool, true, false, Ok, Err, refl, sym, ap, subst, ◌∙◌, append_assoc, arith}
use Rattle.std.proofs.lemmas.List.{append-nil, length-append}
use Rattle.script_lex.specs.declared.token.TokenKind.{TokenKind}
use Rattle.script_lex.specs.declared.token.TokenKind.TheVariants.{Name, NameOpen, Keyword, Symbol}
use Rattle.script_lex.specs.declared.token.Keyword.TheVariants as word
use Rattle.script_lex.specs.declared.token.Symbol.TheVariants as sign
use Rattle.script_grammar.specs.Tree.{Tree, Many, none, more, AStmt, APart, ABind, ADef, AnInner, AParam, AnExpr, Stmt, BindPart, DefPart, CallPart, IfPart, Bind, Def, Inner, Param, Labelled, Optional, NamedCall, If, Script}
use Rattle.script_grammar.specs.Spelling.{spell, with_commas, token_if, spelling}
use Rattle.script_grammar.specs.Placed.{IsPlaced}
use Rattle.script_grammar.specs.Read.{Read, Reader, ◌>>=◌, made, both, next, expect, perhaps, repeat, many, closed}
use Rattle.script_grammar.specs.Kinds.{is_assign, is_comma, is_close_round, is_end, is_semicolon, is_any}
use Rattle.script_grammar.specs.ReadValue.{binds}
use Rattle.script_grammar.specs.ReadScript.{value, result, bind, inner, param, def, part, stmt, script}
use Rattle.script_grammar.specs.Stops.{Begun}
use Rattle.script_grammar.proofs.SoundRules.{Here, Outcome, found, stopped, Sound, first, later, stop, refused, behind_front, made_of, both_sound, expect_sound, perhaps_sound, row_sound, closed_sound}
use Rattle.script_grammar.proofs.SoundPredicate.{only_close_round}
use Rattle.script_grammar.proofs.SoundValue.{only_assign, only_end, some_expr, some_full, call_sound, choice_sound, expr_sound, step_sound, by_sound}

only_semicolon : (k : TokenKind) → is_semicolon k ≡ true → k ≡ Symbol sign.Semicolon
only_semicolon (Symbol sign.Semicolon) e = refl
only_semicolon k e = absurd cc

-- ---- one tree of each kind

some_bind : Tree ABind
some_bind = Bind 0 [] some_full

some_param : Tree AParam
some_param = Param 0 []

abbrev some_def : Tree ADef
some_def = Def 0 [] none false none some_expr

some_part : Tree APart
some_part = BindPart some_bind

-- what stands behind `def name(` in the spelling of a def
abbrev def_parts : Tree (Many AParam) → Bool → Tree (Many AnInner) → Tree AnExpr → List TokenKind
def_parts ps eq is e = (with_commas ps ++ (Symbol sign.CloseRound ∷ [])) ++ (token_if (Symbol sign.Assign) eq ++ (spell is ++ (spell e ++ (Keyword word.End ∷ []))))

def_spelled : (at : ℕ) (n : List ℕ) (ps : Tree (Many AParam)) (eq : Bool) (is : Tree (Many AnInner)) (e : Tree AnExpr) → spell (Def at n ps eq is e) ≡ Keyword word.Def ∷ NameOpen n ∷ def_parts ps eq is e
def_spelled at n ps eq is e = ap (λ (z : List TokenKind). Keyword word.Def ∷ NameOpen n ∷ z) (sym (append_assoc (with_commas ps) (Symbol sign.CloseRound ∷ []) (token_if (Symbol sign.Assign) eq ++ (spell is ++ (spell e ++ (Keyword word.End ∷ []))))))

module _ {stamp : ℕ → ℕ} {total : ℕ} where
  -- ---- bindings

  value_sound : (loose : Bool) → Sound stamp total (value loose stamp) spell IsPlaced
  unfolding value
  value_sound loose = record { outcome = λ w. (step_sound (by_sound (length w)) loose).outcome w }

  result_sound : Sound stamp total (result stamp) spell IsPlaced
  unfolding result
  result_sound = record { outcome = λ w. (expr_sound (by_sound (length w)) false).outcome w }

  bind_out : (loose : Bool) (w : List TokenKind) → Outcome stamp total spell IsPlaced w (bind loose stamp w)
  unfolding bind
  bind_out loose (Name n ∷ r) =
      behind_front (λ x. Bind (stamp (suc (length r))) n x.1) (Name n ∷ []) refl (λ x. refl) (λ i x h p. (first h, (p (i + 1) (omega arith)).1 (i + 2) (omega arith)))
      ((both_sound some_full (expect_sound is_assign (Symbol sign.Assign) only_assign) (value_sound loose)).outcome r)
  bind_out loose w = refused w some_bind

  bind_sound : (loose : Bool) → Sound stamp total (bind loose stamp) spell IsPlaced
  bind_sound loose = record { outcome = bind_out loose }

  inner_sound : Sound stamp total (inner stamp) spell IsPlaced
  unfolding inner
  inner_sound = record { outcome = λ w. made_of (λ x. Inner x.0 x.1) (λ x. refl) (λ i x h p. p.0) ((both_sound false (bind_sound true) (perhaps_sound is_semicolon (Symbol sign.Semicolon) only_semicolon)).outcome w) }

  -- ---- parameters

  param_out : (w : List TokenKind) → Outcome stamp total spell IsPlaced w (param stamp w)
  unfolding param
  param_out (Name n ∷ r) = found (Param (stamp (suc (length r))) n) r refl (λ i h. first h)
  param_out (Symbol sign.Tilde ∷ Name n ∷ Symbol sign.Assign ∷ r) =
      behind_front (Optional (stamp (suc (suc (length r)))) n) (Symbol sign.Tilde ∷ Name n ∷ Symbol sign.Assign ∷ []) refl (λ a. refl)
      (λ i a h p. (later (Symbol sign.Tilde ∷ []) (Name n ∷ Symbol sign.Assign ∷ r) refl h, p (i + 3) (omega arith))) ((value_sound false).outcome r)
  param_out (Symbol sign.Tilde ∷ Name n ∷ r) = found (Labelled (stamp (suc (length r))) n) r refl (λ i h. later (Symbol sign.Tilde ∷ []) (Name n ∷ r) refl h)
  param_out (Symbol sign.Tilde ∷ r) = stop (Symbol sign.Tilde ∷ []) r (Labelled 0 []) (Name [] ∷ []) refl refl
  param_out w = refused w some_param

  -- ---- defs

  def_made : (n : List ℕ) (r : List TokenKind) → Outcome stamp total spell IsPlaced (Keyword word.Def ∷ NameOpen n ∷ r)
      (both (closed is_comma is_close_round (param stamp)) (both (perhaps is_assign) (both (many binds (inner stamp)) (both (result stamp) (expect is_end)))) r >>= made (λ x. Def (stamp (suc (length r))) n x.0 x.1.0 x.1.1.0 x.1.1.1.0))
  def_made n r =
      behind_front (λ x. Def (stamp (suc (length r))) n x.0 x.1.0 x.1.1.0 x.1.1.1.0) (Keyword word.Def ∷ NameOpen n ∷ []) refl (λ x. def_spelled (stamp (suc (length r))) n x.0 x.1.0 x.1.1.0 x.1.1.1.0)
      (λ i x h p.
      let ps = p (i + 2) (omega arith) in
      let body = i + 3 + length (with_commas x.0) in
      let eq = ps.1 body (omega (arith, length-append (with_commas x.0) (Symbol sign.CloseRound ∷ []))) in
      let is = eq.1 (body + length (token_if (Symbol sign.Assign) x.1.0)) refl in
      let e = is.1 (body + length (token_if (Symbol sign.Assign) x.1.0) + length (spell x.1.1.0)) refl in
      (later (Keyword word.Def ∷ []) (NameOpen n ∷ r) refl h, ps.0, is.0, e.0))
      ((both_sound (false, (none, (some_expr, tt))) (closed_sound is_close_round (Symbol sign.CloseRound) only_close_round some_param (record { outcome = param_out }))
      (both_sound (none, (some_expr, tt)) (perhaps_sound is_assign (Symbol sign.Assign) only_assign)
      (both_sound (some_expr, tt) (row_sound binds inner_sound)
      (both_sound tt result_sound (expect_sound is_end (Keyword word.End) only_end))))).outcome r)

  def_out : (w : List TokenKind) → Outcome stamp total spell IsPlaced w (def stamp w)
  unfolding def
  def_out (Keyword word.Def ∷ NameOpen n ∷ r) = def_made n r
  def_out (Keyword word.Def ∷ r) = stop (Keyword word.Def ∷ []) r some_def (NameOpen [] ∷ def_parts none false none some_expr) refl (def_spelled 0 [] none false none some_expr)
  def_out w = refused w some_def

  -- ---- statements

  part_out : (w : List TokenKind) → Outcome stamp total spell IsPlaced w (part stamp w)
  unfolding part
  part_out (Name n ∷ r) = made_of BindPart (λ a. refl) (λ i a h p. p) (bind_out false (Name n ∷ r))
  part_out (Keyword word.Def ∷ r) = made_of DefPart (λ a. refl) (λ i a h p. p) (def_out (Keyword word.Def ∷ r))
  part_out (NameOpen n ∷ r) = made_of CallPart (λ a. refl) (λ i a h p. p) ((call_sound (by_sound (suc (length r)))).outcome (NameOpen n ∷ r))
  part_out (Keyword word.If ∷ r) = made_of IfPart (λ a. refl) (λ i a h p. p) ((choice_sound (by_sound (suc (length r)))).outcome (Keyword word.If ∷ r))
  part_out w = refused w some_part

  stmt_sound : Sound stamp total (stmt stamp) spell IsPlaced
  unfolding stmt
  stmt_sound = record { outcome = λ w. made_of (λ x. Stmt x.0 x.1) (λ x. refl) (λ i x h p. p.0) ((both_sound false (record { outcome = part_out }) (perhaps_sound is_semicolon (Symbol sign.Semicolon) only_semicolon)).outcome w) }

  script_sound : Sound stamp total (script stamp) spelling IsPlaced
  unfolding script
  script_sound = record { outcome = λ w. (row_sound (next is_any) stmt_sound).outcome w }

-- ---- a script is read to the end of the tokens

stmt_long : (t : Tree AStmt) → 0 < length (spell t)
stmt_long (Stmt (BindPart (Bind at x v)) b) = omega arith
stmt_long (Stmt (DefPart (Def at x ps eq is v)) b) = omega arith
stmt_long (Stmt (CallPart (NamedCall at x ts)) b) = omega arith
stmt_long (Stmt (IfPart (If at c t f)) b) = omega arith

abbrev Ends : Read Script → Type 0
Ends (Ok x) = x.1 ≡ []
Ends (Err k) = Unit {0}

made_ends : (t : Tree AStmt) (x : Read Script) → Ends x → Ends (x >>= made (more t))
made_ends t (Ok x) e = e
made_ends t (Err k) e = tt

item_ends : {stamp : ℕ → ℕ} {total : ℕ} {m : ℕ} {w : List TokenKind} {x : Read (Tree AStmt)} (g : Reader Script) → ((r : List TokenKind) → length r ≤ m → Ends (g r)) → length w ≤ suc m → Outcome stamp total spell IsPlaced w x → Ends (x >>= λ x. g x.1 >>= made (more x.0))
item_ends g rest le (found t r e p) = made_ends t (g r) (rest r (omega (arith, ap length e, length-append (spell t) r, stmt_long t)))
item_ends g rest le (stopped k b) = tt

repeat_ends : (stamp : ℕ → ℕ) (m : ℕ) (w : List TokenKind) → length w ≤ m → Ends (repeat (next is_any) (stmt stamp) m w)
unfolding repeat
repeat_ends stamp zero [] le = refl
repeat_ends stamp zero (k ∷ w) le = absurd (omega arith)
repeat_ends stamp (suc m) [] le = refl
repeat_ends stamp (suc m) (k ∷ w) le = item_ends {total = 0} (repeat (next is_any) (stmt stamp) m) (repeat_ends stamp m) le (stmt_sound.outcome (k ∷ w))

script_ends : (stamp : ℕ → ℕ) (w : List TokenKind) → Ends (script stamp w)
unfolding script many
script_ends stamp w = repeat_ends stamp (length w) w (omega arith)

-- ---- what a caller sees

abbrev Tells : (stamp : ℕ → ℕ) → ℕ → List TokenKind → Read Script → Type 0
Tells stamp total w (Ok x) = (w ≡ spelling x.0 ++ x.1) × ((i : ℕ) → Here stamp total i w → IsPlaced i x.0)
Tells stamp total w (Err k) = Begun spelling w k

told : {stamp : ℕ → ℕ} {total : ℕ} {w : List TokenKind} {x : Read Script} → Outcome stamp total spelling IsPlaced w x → Tells stamp total w x
told (found t r e p) = (e, p)
told (stopped k b) = b

tells : (stamp : ℕ → ℕ) (total : ℕ) (w : List TokenKind) → Tells stamp total w (script stamp w)
tells stamp total w = told (script_sound.outcome w)

pub script_found : (total : ℕ) (w : List TokenKind) (s : Script) (r : List TokenKind) → script (λ left. total - left) w ≡ Ok (s, r) → (r ≡ []) × (spelling s ≡ w) × ((i : ℕ) → i + length w ≡ total → IsPlaced i s)
script_found total w s r e =
    let ends : r ≡ [] = subst Ends e (script_ends (λ left. total - left) w) in
    let known : Tells (λ left. total - left) total w (Ok (s, r)) = subst (Tells (λ left. total - left) total w) e (tells (λ left. total - left) total w) in
    (ends, sym (known.0 ∙ ap (λ (z : List TokenKind). spelling s ++ z) ends ∙ append-nil (spelling s)), λ i sum. known.1 i (record { sum = sum; stamps = λ left. refl }))

pub script_begun : (stamp : ℕ → ℕ) (w : List TokenKind) (k : ℕ) → script stamp w ≡ Err k → Begun spelling w k
script_begun stamp w k e = subst (Tells stamp 0 w) e (tells stamp 0 w)
