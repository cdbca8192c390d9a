-- Statements and scripts are read alike as far as the tokens are shared, so a fault depends on no token behind it.
use Rattle.std.proofs.Common.{◌≡◌, ℕ, suc, ◌<◌, ◌≤◌, ◌⊎◌, inl, inr, List, [], ◌∷◌, ◌++◌, length, Bool, true, false, Ok, Err, refl, sym, ap, ◌∙◌, arith}
use Rattle.std.specs.Prelude.{bytes_eq}
use Rattle.script_lex.specs.declared.token.TokenKind.{TokenKind}
use Rattle.script_lex.specs.declared.token.TokenKind.TheVariants.{Name, NameOpen, Keyword, Symbol}
use Rattle.script_lex.specs.declared.token.Keyword.TheVariants as word
use Rattle.script_lex.specs.declared.token.Symbol.TheVariants as sign
use Rattle.script_grammar.specs.Tree.{Tree, Many, APart, ABind, AnInner, AParam, AFull, AnExpr, Stmt, BindPart, DefPart, CallPart, IfPart, Bind, Def, Inner, Param, Labelled, Optional, Script}
use Rattle.script_grammar.specs.Spelling.{option_name}
use Rattle.script_grammar.specs.Bare.{bare}
use Rattle.script_grammar.specs.Read.{Read, Reader, ◌>>=◌, made, both, expect, perhaps, many, closed}
use Rattle.script_grammar.specs.Kinds.{is_assign, is_comma, is_close_round, is_end, is_semicolon, is_any}
use Rattle.script_grammar.specs.ReadValue.{binds, call, choice, expr, full_step, full_by}
use Rattle.script_grammar.specs.ReadScript.{no_place, value, result, bind, inner, param, def, part, stmt, script}
use Rattle.script_grammar.specs.Steady.{peek}
use Rattle.script_grammar.proofs.SteadyRules.{left, Alike, Lock, ok, bad, past, Steady, same, pair_core, peeked, next_same, quiet, left_made, cut, given, made_at, at_length, both_near, both_by, both_far, fails, gives, Arm, fault, idle, reads, by_first}
use Rattle.script_grammar.proofs.SteadyLists.{expect_steady, perhaps_steady, perhaps_none, Eaten, eaten_left, eaten_bind, many_steady, many_next, closed_steady}
use Rattle.script_grammar.proofs.SteadyValue.{loud_comma, only_if, both_left, known, call_reads, choice_reads, expr_steady, expr_name, expr_open, expr_open_name, step_steady}

loud_semicolon : (k : TokenKind) → is_semicolon k ≡ true → quiet k ≡ true
loud_semicolon (Symbol sign.Semicolon) e = refl
loud_semicolon k e = absurd cc

module _ (stamp : ℕ → ℕ) where
  -- ---- bindings

  value_steady : {loose : Bool} {n n' : ℕ} → Steady bare loose n n' (value loose stamp) (value loose no_place)
  unfolding value
  value_steady {loose = loose} = at_length (λ m. full_step loose stamp (full_by m stamp)) (λ m. full_step loose no_place (full_by m no_place)) (λ m m'. step_steady stamp (full_by m stamp) (full_by m' no_place) m m' (known stamp m m').steady (known stamp m m').bites loose)

  result_steady : {n n' : ℕ} → Steady bare false n n' (result stamp) (result no_place)
  unfolding result
  result_steady = at_length (λ m. expr false stamp (full_by m stamp)) (λ m. expr false no_place (full_by m no_place)) (λ m m'. expr_steady stamp (full_by m stamp) (full_by m' no_place) m m' (known stamp m m').steady (known stamp m m').bites false)

  bind_reads : (loose : Bool) {n n' : ℕ} (x : List ℕ) → Steady bare loose n n' (λ u. bind loose stamp (Name x ∷ u)) (λ u. bind loose no_place (Name x ∷ u))
  unfolding bind
  bind_reads loose x = made_at (λ l (y : Unit {0} × Tree AFull). Bind (stamp (suc l)) x y.1) (λ (y : Unit {0} × Tree AFull). Bind 0 x y.1) (λ l y. refl) (both_near (expect_steady is_assign) value_steady)

  bind_arm : (loose : Bool) (n n' : ℕ) (k : TokenKind) → Arm bare loose n n' (bind loose stamp) (bind loose no_place) k
  unfolding bind
  bind_arm loose n n' (Name x) = reads (bind_reads loose x)
  bind_arm loose n n' k = fault (λ u. refl) (λ u. refl)

  bind_steady : (loose : Bool) {n n' : ℕ} → Steady bare loose n n' (bind loose stamp) (bind loose no_place)
  unfolding bind
  bind_steady loose {n = n} {n' = n'} = cut n n' (omega arith) (omega arith) (by_first (fails refl refl) (bind_arm loose n n'))

  inner_steady : {n n' : ℕ} → Steady bare true n n' (inner stamp) (inner no_place)
  unfolding inner
  inner_steady = made_at (λ l (x : Tree ABind × Bool). Inner x.0 x.1) (λ (x : Tree ABind × Bool). Inner x.0 x.1) (λ l x. refl)
      (both_by is_semicolon loud_semicolon false (perhaps_none is_semicolon) (perhaps_none is_semicolon) (bind_steady true) (perhaps_steady is_semicolon))

  marks_within : (w : List TokenKind) → left (perhaps is_semicolon w) ≤ length w
  marks_within w = let marks : Steady same false 0 0 (perhaps is_semicolon) (perhaps is_semicolon) = perhaps_steady is_semicolon in marks.within w

  inner_name : (x : List ℕ) (u : List TokenKind) → left (inner stamp (Name x ∷ u)) ≤ length u
  unfolding inner
  inner_name x u =
      let same_left = left_made (λ (x : Tree ABind × Bool). Inner x.0 x.1) (both (bind true stamp) (perhaps is_semicolon) (Name x ∷ u)) in
      let first = (bind_reads true {n = 0} {n' = 0} x).within u in
      let short = both_left (bind true stamp) (perhaps is_semicolon) marks_within (Name x ∷ u) (length u) first in omega arith

  inner_eats : (w : List TokenKind) → Eaten (inner stamp w) (length w)
  unfolding inner bind
  inner_eats (Name x ∷ u) = eaten_left (inner stamp (Name x ∷ u)) (suc (length u)) (let short = inner_name x u in omega arith)
  inner_eats w = tt

  inner_turn : (p v v' : List TokenKind) → peek v ≡ peek v' → binds (p ++ v) ≡ true → ((binds (p ++ v') ≡ true) × Alike true (p ++ v) (p ++ v')) ⊎ (left (inner stamp (p ++ v)) < length v)
  inner_turn [] (Name x ∷ u) v' pk e = inr (let short = inner_name x u in omega arith)
  inner_turn [] v v' pk e = absurd cc
  inner_turn (Name x ∷ []) v v' pk e = inl (sym (next_same is_assign v v' pk) ∙ e, (refl, refl, next_same is_assign v v' pk))
  inner_turn (Name x ∷ k ∷ p) v v' pk e = inl (e, (refl, refl, refl))
  inner_turn (k ∷ p) v v' pk e = absurd cc

  inners_steady : {n n' : ℕ} → Steady bare true n n' (many binds (inner stamp)) (many binds (inner no_place))
  inners_steady {n = n} {n' = n'} = many_steady binds refl true (λ u u' al e. sym al.2 ∙ e) (inner stamp) (inner no_place) inner_eats inner_turn n n' inner_steady

  -- ---- parameters

  assign_arm : (n n' : ℕ) (x : List ℕ) (k : TokenKind) → Arm bare false n n' (λ u. param stamp (Symbol sign.Tilde ∷ Name x ∷ u)) (λ u. param no_place (Symbol sign.Tilde ∷ Name x ∷ u)) k
  unfolding param
  assign_arm n n' x (Symbol sign.Assign) = reads (made_at (λ l. Optional (stamp (suc (suc l))) x) (Optional 0 x) (λ l a. refl) value_steady)
  assign_arm n n' x k = idle (λ l. Labelled (stamp (suc (suc l))) x) (Labelled 0 x) (λ u. refl) (λ u. refl) (λ l. refl)

  tilde_arm : (n n' : ℕ) (k : TokenKind) → Arm bare false (suc n) (suc n') (λ u. param stamp (Symbol sign.Tilde ∷ u)) (λ u. param no_place (Symbol sign.Tilde ∷ u)) k
  unfolding param
  tilde_arm n n' (Name x) = reads (by_first (gives (Labelled (stamp 1) x) refl refl) (assign_arm n n' x))
  tilde_arm n n' k = fault (λ u. refl) (λ u. refl)

  param_arm : (n n' : ℕ) (k : TokenKind) → Arm bare false (suc (suc n)) (suc (suc n')) (param stamp) (param no_place) k
  unfolding param
  param_arm n n' (Name x) = reads (given (λ l. Param (stamp (suc l)) x) (Param 0 x) (λ l. refl))
  param_arm n n' (Symbol sign.Tilde) = reads (by_first (fails refl refl) (tilde_arm n n'))
  param_arm n n' k = fault (λ u. refl) (λ u. refl)

  param_steady : {n n' : ℕ} → Steady bare false n n' (param stamp) (param no_place)
  unfolding param
  param_steady {n = n} {n' = n'} = cut n n' (omega arith) (omega arith) (by_first (fails refl refl) (param_arm n n'))

  params_steady : {n n' : ℕ} → Steady bare false n n' (closed is_comma is_close_round (param stamp)) (closed is_comma is_close_round (param no_place))
  params_steady = closed_steady is_comma is_close_round loud_comma param_steady

  -- ---- defs

  abbrev ending : Reader (Tree AnExpr × Unit {0})
  ending = both (result stamp) (expect is_end)

  ending_steady : {n n' : ℕ} → Steady (pair_core bare same) false n n' (both (result stamp) (expect is_end)) (both (result no_place) (expect is_end))
  ending_steady = both_near result_steady (expect_steady is_end)

  end_within : (w : List TokenKind) → left (expect is_end w) ≤ length w
  end_within w = let ends : Steady same false 0 0 (expect is_end) (expect is_end) = expect_steady is_end in ends.within w

  ending_name : (x : List ℕ) (u : List TokenKind) → left (ending (Name x ∷ u)) ≤ length u
  unfolding result
  ending_name x u =
      let m = suc (length u) in
      let k = known stamp m 0 in
      both_left (result stamp) (expect is_end) end_within (Name x ∷ u) (length u) (expr_name stamp (full_by m stamp) (full_by 0 no_place) m 0 k.steady k.bites false x u)

  ending_open : (u : List TokenKind) → left (ending (Symbol sign.OpenRound ∷ u)) ≤ length u
  unfolding result
  ending_open u =
      let m = suc (length u) in
      let k = known stamp m 0 in
      both_left (result stamp) (expect is_end) end_within (Symbol sign.OpenRound ∷ u) (length u) (expr_open stamp (full_by m stamp) (full_by 0 no_place) m 0 k.steady k.bites false u)

  ending_open_name : (x : List ℕ) (u : List TokenKind) → left (ending (Symbol sign.OpenRound ∷ Name x ∷ u)) ≤ length u
  unfolding result
  ending_open_name x u =
      let m = suc (suc (length u)) in
      let k = known stamp m 0 in
      both_left (result stamp) (expect is_end) end_within (Symbol sign.OpenRound ∷ Name x ∷ u) (length u) (expr_open_name stamp (full_by m stamp) (full_by 0 no_place) m 0 k.steady k.bites false x u (omega arith))

  far_first : (k : TokenKind) (u u' : List TokenKind) → Alike true (k ∷ u) (k ∷ u') ⊎ (left (ending (k ∷ u)) < suc (length u))
  far_first (Name x) u u' = inr (let short = ending_name x u in omega arith)
  far_first (Symbol sign.OpenRound) u u' = inr (let short = ending_open u in omega arith)
  far_first k u u' = inl (refl, refl, refl)

  far_second : (k : TokenKind) (u u' : List TokenKind) → Alike true (Symbol sign.OpenRound ∷ k ∷ u) (Symbol sign.OpenRound ∷ k ∷ u') ⊎ (left (ending (Symbol sign.OpenRound ∷ k ∷ u)) < suc (length u))
  far_second (Name x) u u' = inr (let short = ending_open_name x u in omega arith)
  far_second k u u' = inl (refl, refl, refl)

  far : (r v v' : List TokenKind) → peek v ≡ peek v' → Alike true (r ++ v) (r ++ v') ⊎ (left (ending (r ++ v)) < length v)
  far [] v v' pk = peeked (λ v v'. Alike true v v' ⊎ (left (ending v) < length v)) (inl (refl, refl, refl)) far_first v v' pk
  far (Name x ∷ []) v v' pk = inl (refl, refl, next_same is_assign v v' pk)
  far (Symbol sign.OpenRound ∷ []) v v' pk = peeked (λ v v'. Alike true (Symbol sign.OpenRound ∷ v) (Symbol sign.OpenRound ∷ v') ⊎ (left (ending (Symbol sign.OpenRound ∷ v)) < length v)) (inl (refl, refl, refl)) far_second v v' pk
  far (Symbol sign.OpenRound ∷ Name x ∷ []) v v' pk = inl (refl, ap (only_if (bytes_eq x option_name)) (next_same is_assign v v' pk), refl)
  far (Symbol sign.OpenRound ∷ Name x ∷ k ∷ p) v v' pk = inl (refl, refl, refl)
  far (Symbol sign.OpenRound ∷ k ∷ p) v v' pk = inl (refl, refl, refl)
  far (Name x ∷ k ∷ p) v v' pk = inl (refl, refl, refl)
  far (k ∷ p) v v' pk = inl (refl, refl, refl)

  body_steady : {n n' : ℕ} → Steady (pair_core bare (pair_core bare same)) false n n' (both (many binds (inner stamp)) (both (result stamp) (expect is_end))) (both (many binds (inner no_place)) (both (result no_place) (expect is_end)))
  body_steady = both_far false true far inners_steady ending_steady

  abbrev DefParts : Type 0
  DefParts = Tree (Many AParam) × (Bool × (Tree (Many AnInner) × (Tree AnExpr × Unit {0})))

  parts_steady : {n n' : ℕ} → Steady (pair_core bare (pair_core same (pair_core bare (pair_core bare same)))) false n n' (both (closed is_comma is_close_round (param stamp)) (both (perhaps is_assign) (both (many binds (inner stamp)) (both (result stamp) (expect is_end))))) (both (closed is_comma is_close_round (param no_place)) (both (perhaps is_assign) (both (many binds (inner no_place)) (both (result no_place) (expect is_end)))))
  parts_steady = both_near params_steady (both_near (perhaps_steady is_assign) body_steady)

  def_arm : (n n' : ℕ) (k : TokenKind) → Arm bare false n n' (λ u. def stamp (Keyword word.Def ∷ u)) (λ u. def no_place (Keyword word.Def ∷ u)) k
  unfolding def
  def_arm n n' (NameOpen x) = reads (made_at (λ l (y : DefParts). Def (stamp (suc l)) x y.0 y.1.0 y.1.1.0 y.1.1.1.0) (λ (y : DefParts). Def 0 x y.0 y.1.0 y.1.1.0 y.1.1.1.0) (λ l y. refl) parts_steady)
  def_arm n n' k = fault (λ u. refl) (λ u. refl)

  def_reads : {n n' : ℕ} → Steady bare false n n' (λ u. def stamp (Keyword word.Def ∷ u)) (λ u. def no_place (Keyword word.Def ∷ u))
  unfolding def
  def_reads {n = n} {n' = n'} = cut n n' (omega arith) (omega arith) (by_first (fails refl refl) (def_arm n n'))

  -- ---- statements

  part_name : {n n' : ℕ} (x : List ℕ) → Steady bare false n n' (λ u. part stamp (Name x ∷ u)) (λ u. part no_place (Name x ∷ u))
  unfolding part
  part_name x = made_at (λ l. BindPart) BindPart (λ l a. refl) (bind_reads false x)

  part_def : {n n' : ℕ} → Steady bare false n n' (λ u. part stamp (Keyword word.Def ∷ u)) (λ u. part no_place (Keyword word.Def ∷ u))
  unfolding part
  part_def = made_at (λ l. DefPart) DefPart (λ l a. refl) def_reads

  part_call : {n n' : ℕ} (x : List ℕ) → Steady bare false n n' (λ u. part stamp (NameOpen x ∷ u)) (λ u. part no_place (NameOpen x ∷ u))
  unfolding part
  part_call x = made_at (λ l. CallPart) CallPart (λ l a. refl)
      (at_length (λ m u. call stamp (full_by (suc m) stamp) (NameOpen x ∷ u)) (λ m u. call no_place (full_by (suc m) no_place) (NameOpen x ∷ u))
      (λ m m'. call_reads stamp (full_by (suc m) stamp) (full_by (suc m') no_place) (suc m) (suc m') (known stamp (suc m) (suc m')).steady (known stamp (suc m) (suc m')).bites x))

  part_if : {n n' : ℕ} → Steady bare false n n' (λ u. part stamp (Keyword word.If ∷ u)) (λ u. part no_place (Keyword word.If ∷ u))
  unfolding part
  part_if = made_at (λ l. IfPart) IfPart (λ l a. refl)
      (at_length (λ m u. choice stamp (full_by (suc m) stamp) (Keyword word.If ∷ u)) (λ m u. choice no_place (full_by (suc m) no_place) (Keyword word.If ∷ u))
      (λ m m'. choice_reads stamp (full_by (suc m) stamp) (full_by (suc m') no_place) (suc m) (suc m') (known stamp (suc m) (suc m')).steady (known stamp (suc m) (suc m')).bites))

  part_arm : (n n' : ℕ) (k : TokenKind) → Arm bare false n n' (part stamp) (part no_place) k
  unfolding part
  part_arm n n' (Name x) = reads (part_name x)
  part_arm n n' (Keyword word.Def) = reads part_def
  part_arm n n' (NameOpen x) = reads (part_call x)
  part_arm n n' (Keyword word.If) = reads part_if
  part_arm n n' k = fault (λ u. refl) (λ u. refl)

  part_steady : {n n' : ℕ} → Steady bare false n n' (part stamp) (part no_place)
  unfolding part
  part_steady {n = n} {n' = n'} = cut n n' (omega arith) (omega arith) (by_first (fails refl refl) (part_arm n n'))

  part_eats : (w : List TokenKind) → Eaten (part stamp w) (length w)
  unfolding part
  part_eats (Name x ∷ u) = eaten_left (part stamp (Name x ∷ u)) (suc (length u)) (let short = (part_name {n = 0} {n' = 0} x).within u in omega arith)
  part_eats (Keyword word.Def ∷ u) = eaten_left (part stamp (Keyword word.Def ∷ u)) (suc (length u)) (let short = (part_def {n = 0} {n' = 0}).within u in omega arith)
  part_eats (NameOpen x ∷ u) = eaten_left (part stamp (NameOpen x ∷ u)) (suc (length u)) (let short = (part_call {n = 0} {n' = 0} x).within u in omega arith)
  part_eats (Keyword word.If ∷ u) = eaten_left (part stamp (Keyword word.If ∷ u)) (suc (length u)) (let short = (part_if {n = 0} {n' = 0}).within u in omega arith)
  part_eats w = tt

  stmt_steady : {n n' : ℕ} → Steady bare false n n' (stmt stamp) (stmt no_place)
  unfolding stmt
  stmt_steady = made_at (λ l (x : Tree APart × Bool). Stmt x.0 x.1) (λ (x : Tree APart × Bool). Stmt x.0 x.1) (λ l x. refl) (both_near part_steady (perhaps_steady is_semicolon))

  mark_falls : (x : Tree APart × List TokenKind) → left {T = Tree APart × Bool} (perhaps is_semicolon x.1 >>= made (λ (b : Bool). (x.0, b))) ≤ length x.1
  mark_falls x =
      let mk : Bool → Tree APart × Bool = λ b. (x.0, b) in
      let same_left : left (perhaps is_semicolon x.1 >>= made mk) ≡ left (perhaps is_semicolon x.1) = left_made mk (perhaps is_semicolon x.1) in
      let short = marks_within x.1 in omega arith

  stmt_eats : (w : List TokenKind) → Eaten (stmt stamp w) (length w)
  unfolding stmt
  stmt_eats w =
      eaten_bind (made (λ (x : Tree APart × Bool). Stmt x.0 x.1)) (λ x. omega arith) (both (part stamp) (perhaps is_semicolon) w) (length w)
      (eaten_bind (λ (x : Tree APart × List TokenKind). perhaps is_semicolon x.1 >>= made (λ (b : Bool). (x.0, b))) mark_falls (part stamp w) (length w) (part_eats w))

  -- ---- scripts

  script_steady : (n n' : ℕ) → Steady bare false n n' (script stamp) (script no_place)
  unfolding script
  script_steady n n' = many_next is_any false (λ w w' pk e. pk) (stmt stamp) (stmt no_place) stmt_eats n n' stmt_steady

fault_there : {core : Script → Script} {loose : Bool} (v v' : List TokenKind) (y y' : Read Script) → Lock core loose v v' y y' → y ≡ Err (length v) → y' ≡ Err (length v')
fault_there v v' y y' (ok t r a b) e = absurd (let no : Ok (t, r ++ v) ≡ Err (length v) = sym a ∙ e in cc)
fault_there v v' y y' (bad j k k' a b c d) e =
    let there : left y ≡ length v = ap left e in
    let here : left y ≡ k = ap left a in
    b ∙ ap (λ (z : ℕ). Err z) (omega arith)
fault_there v v' y y' (past l) e = absurd (let there : left y ≡ length v = ap left e in omega arith)

pub faults_steady : (stamp : ℕ → ℕ) (before after v : List TokenKind) → script stamp (before ++ after) ≡ Err (length after) → peek v ≡ peek after → script no_place (before ++ v) ≡ Err (length v)
faults_steady stamp before after v e pk =
    let n = suc (length (before ++ after)) in
    let n' = suc (length (before ++ v)) in
    fault_there after v (script stamp (before ++ after)) (script no_place (before ++ v)) ((script_steady stamp n n').kept before after v (sym pk) (omega arith) (omega arith)) e
