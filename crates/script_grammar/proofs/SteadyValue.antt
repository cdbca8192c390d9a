-- Values are read alike as far as the tokens are shared.
use Rattle.std.proofs.Common.{◌≡◌, ℕ, ℤ, zero, suc, ◌<◌, ◌≤◌, ◌⊎◌, inl, inr, List, [], ◌∷◌, ◌++◌, length, Bool, true, false, Option, Some, None, Ok, Err, refl, sym, ap, ◌∙◌, arith}
use Rattle.std.specs.Prelude.{bytes_eq}
use Rattle.script_lex.specs.declared.token.TokenKind.{TokenKind}
use Rattle.script_lex.specs.declared.token.TokenKind.TheVariants.{Name, NameOpen, Int, Number, Str, Keyword, Wav, Symbol}
use Rattle.script_lex.specs.declared.token.Keyword.TheVariants as word
use Rattle.script_lex.specs.declared.token.Symbol.TheVariants as sign
use Rattle.script_grammar.specs.declared.tree.Literal.TheVariants as literal
use Rattle.script_grammar.specs.declared.tree.CompareOp.{CompareOp}
use Rattle.script_grammar.specs.Tree.{Tree, Many, none, more, AFull, AnAnd, ANot, ACompare, ASum, AnAdded, AProduct, AMultiplied, AnOperand, APOr, Negative, Plain, Expr, And, Not, Alone, Compared, Sum, Added, Product, Multiplied, Constant, Quoted, Truth, Named, Called, Chosen, Listed, Braces, PlaceFormat, NamedCall, Arg, If}
use Rattle.script_grammar.specs.Spelling.{option_name}
use Rattle.script_grammar.specs.Bare.{bare}
use Rattle.script_grammar.specs.Read.{Read, Reader, ◌>>=◌, made, both, next, expect, perhaps, many, behind, chain, closed}
use Rattle.script_grammar.specs.Kinds.{is_or, is_and, is_not, is_minus, is_assign, is_comma, is_close_round, is_close_square, is_close_curly, is_open_round, is_then, is_else, is_end, is_added, is_multiplied, op_of}
use Rattle.script_grammar.specs.ReadValue.{binds, optional, takes_option, digits, whole_number, the_name, size, wav, arg, args, round_or_unit, choice, call, operand, multiplied, product, added, sum, next_op, behind_op, compare, not_, and_, expr, full_step, full_by}
use Rattle.script_grammar.specs.ReadScript.{no_place}
use Rattle.script_grammar.specs.Steady.{peek}
use Rattle.script_grammar.proofs.SteadyRules.{left, Alike, Lock, ok, past, Steady, same, pair_core, decide, peeked, peek_front, next_same, quiet, alike_is, lock_eq, lock_loose, left_made, left_bind, lock_made, steady_eq, loosen, cut, given, made_at, seq_by, both_near, both_by, fails, gives, Arm, fault, idle, reads, by_first, branch}
use Rattle.script_grammar.proofs.SteadyLists.{expect_steady, perhaps_steady, perhaps_none, Eaten, eaten_left, many_false, many_next, others_steady, chain_steady, closed_more, closed_steady}
use Rattle.script_grammar.proofs.SteadyPredicate.{loud_or, loud_and, por_steady}

pub loud_comma : (k : TokenKind) → is_comma k ≡ true → quiet k ≡ true
loud_comma (Symbol sign.Comma) e = refl
loud_comma k e = absurd cc

loud_multiplied : (k : TokenKind) → is_multiplied k ≡ true → quiet k ≡ true
loud_multiplied (Symbol sign.Star) e = refl
loud_multiplied (Symbol sign.Slash) e = refl
loud_multiplied k e = absurd cc

loud_added : (k : TokenKind) → is_added k ≡ true → quiet k ≡ true
loud_added (Symbol sign.Plus) e = refl
loud_added (Symbol sign.Minus) e = refl
loud_added k e = absurd cc

abbrev is_some : {A : Type 0} → Option A → Bool
is_some None = false
is_some (Some x) = true

abbrev is_op : TokenKind → Bool
is_op k = is_some (op_of k)

loud_op : (k : TokenKind) → is_op k ≡ true → quiet k ≡ true
loud_op (Name x) e = absurd cc
loud_op (Symbol sign.OpenRound) e = absurd cc
loud_op k e = refl

pub both_left : {A B : Type 0} (f : Reader A) (g : Reader B) → ((w : List TokenKind) → left (g w) ≤ length w) → (w : List TokenKind) (l : ℕ) → left (f w) ≤ l → left (both f g w) ≤ l
both_left {A = A} {B = B} f g falls w l e =
    let second : A × List TokenKind → Read (A × B) = λ x. g x.1 >>= made (λ (b : B). (x.0, b)) in
    let fall : left (f w >>= second) ≤ left (f w) = left_bind second (λ x. let same_left : left (second x) ≡ left (g x.1) = left_made (λ (b : B). (x.0, b)) (g x.1) in let short = falls x.1 in omega arith) (f w) in
    let same : left (both f g w) ≡ left (f w >>= second) = refl in
    omega arith

-- ---- numbers, and the option of %wav

digits_arm : (n n' : ℕ) (k : TokenKind) → Arm same false n n' digits digits k
unfolding digits
digits_arm n n' (Int x) = reads (given (λ l. literal.Int x) (literal.Int x) (λ l. refl))
digits_arm n n' (Number d) = reads (given (λ l. literal.Number d) (literal.Number d) (λ l. refl))
digits_arm n n' k = fault (λ u. refl) (λ u. refl)

digits_steady : {n n' : ℕ} → Steady same false n n' digits digits
unfolding digits
digits_steady {n = n} {n' = n'} = cut n n' (omega arith) (omega arith) (by_first (fails refl refl) (digits_arm n n'))

whole_arm : (n n' : ℕ) (k : TokenKind) → Arm same false n n' whole_number whole_number k
unfolding whole_number
whole_arm n n' (Int x) = reads (given (λ l. x) x (λ l. refl))
whole_arm n n' k = fault (λ u. refl) (λ u. refl)

whole_steady : {n n' : ℕ} → Steady same false n n' whole_number whole_number
unfolding whole_number
whole_steady {n = n} {n' = n'} = cut n n' (omega arith) (omega arith) (by_first (fails refl refl) (whole_arm n n'))

name_true : (x : List ℕ) (u : List TokenKind) → bytes_eq x option_name ≡ true → the_name (Name x ∷ u) ≡ Ok (tt, u)
unfolding the_name
name_true x u e = rw (e, the_name) refl

name_false : (x : List ℕ) (u : List TokenKind) → bytes_eq x option_name ≡ false → the_name (Name x ∷ u) ≡ Err (suc (length u))
unfolding the_name
name_false x u e = rw (e, the_name) refl

name_by : (n n' : ℕ) (x : List ℕ) → (bytes_eq x option_name ≡ true) ⊎ (bytes_eq x option_name ≡ false) → Arm same false n n' the_name the_name (Name x)
name_by n n' x (inl e) = reads (steady_eq (λ u. the_name (Name x ∷ u)) (λ u. the_name (Name x ∷ u)) (λ u. name_true x u e) (λ u. name_true x u e) (given (λ l. tt) tt (λ l. refl)))
name_by n n' x (inr e) = fault (λ u. name_false x u e) (λ u. name_false x u e)

name_arm : (n n' : ℕ) (k : TokenKind) → Arm same false n n' the_name the_name k
unfolding the_name
name_arm n n' (Name x) = name_by n n' x (decide (bytes_eq x option_name))
name_arm n n' k = fault (λ u. refl) (λ u. refl)

name_steady : {n n' : ℕ} → Steady same false n n' the_name the_name
unfolding the_name
name_steady {n = n} {n' = n'} = cut n n' (omega arith) (omega arith) (by_first (fails refl refl) (name_arm n n'))

end_steady : {n n' : ℕ} → Steady (pair_core same (pair_core same same)) false n n' (both (expect is_assign) (both whole_number (expect is_close_round))) (both (expect is_assign) (both whole_number (expect is_close_round)))
end_steady = both_near (expect_steady is_assign) (both_near whole_steady (expect_steady is_close_round))

option_steady : {n n' : ℕ} → Steady (pair_core same (pair_core same (pair_core same same))) false n n' (both the_name (both (expect is_assign) (both whole_number (expect is_close_round)))) (both the_name (both (expect is_assign) (both whole_number (expect is_close_round))))
option_steady = both_near name_steady end_steady

size_steady : {n n' : ℕ} → Steady same false n n' size size
unfolding size
size_steady = made_at (λ l (x : Unit {0} × (Unit {0} × (Unit {0} × (ℤ × Unit {0})))). x.1.1.1.0) (λ (x : Unit {0} × (Unit {0} × (Unit {0} × (ℤ × Unit {0})))). x.1.1.1.0) (λ l x. refl) (both_near (expect_steady is_open_round) option_steady)

size_left : (u : List TokenKind) → left (size (Symbol sign.OpenRound ∷ u)) ≡ left (both the_name (both (expect is_assign) (both whole_number (expect is_close_round))) u)
unfolding size
size_left u =
    let inside = both the_name (both (expect is_assign) (both whole_number (expect is_close_round))) u in
    left_made (λ (x : Unit {0} × (Unit {0} × (Unit {0} × (ℤ × Unit {0})))). x.1.1.1.0) (inside >>= made (λ (b : Unit {0} × (Unit {0} × (ℤ × Unit {0}))). (tt, b))) ∙ left_made (λ (b : Unit {0} × (Unit {0} × (ℤ × Unit {0}))). (tt, b)) inside

size_open : (u : List TokenKind) → left (size (Symbol sign.OpenRound ∷ u)) ≤ length u
size_open u = let e = size_left u in let short = (option_steady {n = 0} {n' = 0}).within u in omega arith

size_named : (x : List ℕ) (u : List TokenKind) → bytes_eq x option_name ≡ true → left (size (Symbol sign.OpenRound ∷ Name x ∷ u)) ≤ length u
size_named x u e =
    let l = size_left (Name x ∷ u) in
    let first : left (the_name (Name x ∷ u)) ≡ length u = ap left (name_true x u e) in
    let short = both_left the_name (both (expect is_assign) (both whole_number (expect is_close_round))) ((end_steady {n = 0} {n' = 0}).within) (Name x ∷ u) (length u) (omega arith) in
    omega arith

abbrev pub only_if : Bool → Bool → Bool
only_if b c =
    elim b [
      | true ↦ c
      | false ↦ false
    ]

only_true : (b c : Bool) → only_if b c ≡ true → b ≡ true
only_true true c e = refl
only_true false c e = absurd cc

after_open : (v : List TokenKind) → optional (Symbol sign.OpenRound ∷ v) ≡ true → left (size (Symbol sign.OpenRound ∷ v)) < length v
after_open (Name x ∷ u) e = let short = size_named x u (only_true (bytes_eq x option_name) (next is_assign u) e) in omega arith
after_open v e = absurd cc

optional_turn : (p v v' : List TokenKind) → peek v ≡ peek v' → optional (p ++ v) ≡ true → (optional (p ++ v') ≡ true) ⊎ (left (size (p ++ v)) < length v)
optional_turn [] (Symbol sign.OpenRound ∷ u) v' pk e = inr (let short = size_open u in omega arith)
optional_turn [] v v' pk e = absurd cc
optional_turn (Symbol sign.OpenRound ∷ []) v v' pk e = inr (after_open v e)
optional_turn (Symbol sign.OpenRound ∷ Name x ∷ []) v v' pk e = inl (ap (only_if (bytes_eq x option_name)) (sym (next_same is_assign v v' pk)) ∙ e)
optional_turn (Symbol sign.OpenRound ∷ Name x ∷ k ∷ p) v v' pk e = inl e
optional_turn (k ∷ p) v v' pk e = absurd cc

takes_alike : (loose : Bool) (u u' : List TokenKind) → Alike loose u u' → takes_option loose u ≡ takes_option loose u'
takes_alike false u u' al = next_same is_open_round u u' al
takes_alike true u u' al = al.1

takes_turn : (loose : Bool) (p v v' : List TokenKind) → peek v ≡ peek v' → takes_option loose (p ++ v) ≡ true → (takes_option loose (p ++ v') ≡ true) ⊎ (left (size (p ++ v)) < length v)
takes_turn false p v v' pk e = inl (sym (next_same is_open_round (p ++ v) (p ++ v') (peek_front p v v' pk)) ∙ e)
takes_turn true p v v' pk e = optional_turn p v v' pk e

wav_none : (loose : Bool) (u : List TokenKind) → takes_option loose u ≡ false → wav loose u ≡ Ok (None, u)
unfolding wav
wav_none loose u e = rw (e, wav) refl

wav_some : (loose : Bool) (u : List TokenKind) → takes_option loose u ≡ true → wav loose u ≡ (size u >>= made Some)
unfolding wav
wav_some loose u e = rw (e, wav) refl

wav_within : (loose : Bool) (w : List TokenKind) → (takes_option loose w ≡ true) ⊎ (takes_option loose w ≡ false) → left (wav loose w) ≤ length w
wav_within loose w (inl e) =
    let l : left (wav loose w) ≡ left (size w >>= made Some) = ap left (wav_some loose w e) in
    let same_left = left_made Some (size w) in
    let short = (size_steady {n = 0} {n' = 0}).within w in omega arith
wav_within loose w (inr e) = let l : left (wav loose w) ≡ length w = ap left (wav_none loose w e) in omega arith

wav_taken : (loose : Bool) (n n' : ℕ) (p v v' : List TokenKind) → peek v ≡ peek v' → length (p ++ v) < n → length (p ++ v') < n' → takes_option loose (p ++ v) ≡ true → (takes_option loose (p ++ v') ≡ true) ⊎ (left (size (p ++ v)) < length v) → Lock same loose v v' (wav loose (p ++ v)) (wav loose (p ++ v'))
wav_taken loose n n' p v v' pk s s' e (inl e') = lock_eq (wav_some loose (p ++ v) e) (wav_some loose (p ++ v') e') (lock_made Some Some (λ a. refl) (lock_loose loose ((size_steady {n = n} {n' = n'}).kept p v v' pk s s')))
wav_taken loose n n' p v v' pk s s' e (inr far) =
    past (let l : left (wav loose (p ++ v)) ≡ left (size (p ++ v) >>= made Some) = ap left (wav_some loose (p ++ v) e) in let same_left = left_made Some (size (p ++ v)) in omega arith)

wav_kept : (loose : Bool) (n n' : ℕ) (p v v' : List TokenKind) → peek v ≡ peek v' → length (p ++ v) < n → length (p ++ v') < n' → (takes_option loose (p ++ v) ≡ true) ⊎ (takes_option loose (p ++ v) ≡ false) → Lock same loose v v' (wav loose (p ++ v)) (wav loose (p ++ v'))
wav_kept loose n n' p v v' pk s s' (inl e) = wav_taken loose n n' p v v' pk s s' e (takes_turn loose p v v' pk e)
wav_kept loose n n' p v v' pk s s' (inr e) = ok None p (wav_none loose (p ++ v) e) (λ al. wav_none loose (p ++ v') (sym (takes_alike loose (p ++ v) (p ++ v') al) ∙ e))

wav_steady : {loose : Bool} {n n' : ℕ} → Steady same loose n n' (wav loose) (wav loose)
wav_steady {loose = loose} {n = n} {n' = n'} = record {
  within = λ w. wav_within loose w (decide (takes_option loose w));
  kept = λ p v v' pk s s'. wav_kept loose n n' p v v' pk s s' (decide (takes_option loose (p ++ v)));
}

-- ---- what does not hang on the depth

arg_plain : (stamp : ℕ → ℕ) (full : Reader (Tree AFull)) (w : List TokenKind) → binds w ≡ false → arg stamp full w ≡ (full w >>= made (Arg (stamp (length w)) None))
unfolding arg
arg_plain stamp full (Name x ∷ Symbol sign.Assign ∷ r) e = absurd cc
arg_plain stamp full w e = refl

arg_label : (stamp : ℕ → ℕ) (full : Reader (Tree AFull)) (x : List ℕ) (r : List TokenKind) → arg stamp full (Name x ∷ Symbol sign.Assign ∷ r) ≡ (full r >>= made (Arg (stamp (suc (suc (length r)))) (Some x)))
unfolding arg
arg_label stamp full x r = refl

neg : (ℕ → ℕ) → Reader (Tree AFull)
neg stamp (Symbol sign.Minus ∷ r) = digits r >>= made (Negative (stamp (suc (length r))))
neg stamp w = Err (length w)

step_minus : (loose : Bool) (stamp : ℕ → ℕ) (full : Reader (Tree AFull)) (w : List TokenKind) → next is_minus w ≡ true → full_step loose stamp full w ≡ neg stamp w
unfolding full_step neg
step_minus loose stamp full (Symbol sign.Minus ∷ r) e = refl
step_minus loose stamp full w e = absurd cc

step_plain : (loose : Bool) (stamp : ℕ → ℕ) (full : Reader (Tree AFull)) (w : List TokenKind) → next is_minus w ≡ false → full_step loose stamp full w ≡ (expr loose stamp full w >>= made Plain)
unfolding full_step
step_plain loose stamp full (Symbol sign.Minus ∷ r) e = absurd cc
step_plain loose stamp full w e = refl

round_bare : (at : ℕ) (ts : Tree (Many AFull)) → bare (round_or_unit at ts) ≡ round_or_unit 0 (bare ts)
round_bare at none = refl
round_bare at (more f none) = refl
round_bare at (more f (more g rest)) = refl

no_op : (o : Option CompareOp) → is_some o ≡ false → o ≡ None
no_op None e = refl
no_op (Some o) e = absurd cc

op_rests : (loose : Bool) (stamp : ℕ → ℕ) (full : Reader (Tree AFull)) (t : Tree ASum) (w : List TokenKind) → next is_op w ≡ false → behind_op loose stamp full t (next_op w) w ≡ Ok (Alone t, w)
op_rests loose stamp full t [] e = refl
op_rests loose stamp full t (k ∷ u) e = ap (λ (o : Option CompareOp). behind_op loose stamp full t o (k ∷ u)) (no_op (op_of k) e)

-- ---- values over a reader of values

module _ (stamp : ℕ → ℕ) (full full' : Reader (Tree AFull)) (n n' : ℕ) (lf : Steady bare false n n' full full') (bites : (x : List ℕ) (u : List TokenKind) → suc (length u) < n → left (full (Name x ∷ u)) ≤ length u) where
  -- arguments

  label_far : (x : List ℕ) (r : List TokenKind) → left (arg stamp full (Name x ∷ Symbol sign.Assign ∷ r)) ≤ length r
  label_far x r =
      let l : left (arg stamp full (Name x ∷ Symbol sign.Assign ∷ r)) ≡ left (full r >>= made (Arg (stamp (suc (suc (length r)))) (Some x))) = ap left (arg_label stamp full x r) in
      let same_left = left_made (Arg (stamp (suc (suc (length r)))) (Some x)) (full r) in
      let short = lf.within r in omega arith

  arg_within_by : (w : List TokenKind) → (binds w ≡ true) ⊎ (binds w ≡ false) → left (arg stamp full w) ≤ length w
  arg_within_by (Name x ∷ Symbol sign.Assign ∷ r) (inl e) = let short = label_far x r in omega arith
  arg_within_by w (inl e) = absurd cc
  arg_within_by w (inr e) =
      let l : left (arg stamp full w) ≡ left (full w >>= made (Arg (stamp (length w)) None)) = ap left (arg_plain stamp full w e) in
      let same_left = left_made (Arg (stamp (length w)) None) (full w) in
      let short = lf.within w in omega arith

  arg_bites_by : (x : List ℕ) (u : List TokenKind) → suc (length u) < n → (binds (Name x ∷ u) ≡ true) ⊎ (binds (Name x ∷ u) ≡ false) → left (arg stamp full (Name x ∷ u)) ≤ length u
  arg_bites_by x (Symbol sign.Assign ∷ r) s (inl e) = let short = label_far x r in omega arith
  arg_bites_by x u s (inl e) = absurd cc
  arg_bites_by x u s (inr e) =
      let l : left (arg stamp full (Name x ∷ u)) ≡ left (full (Name x ∷ u) >>= made (Arg (stamp (suc (length u))) None)) = ap left (arg_plain stamp full (Name x ∷ u) e) in
      let same_left = left_made (Arg (stamp (suc (length u))) None) (full (Name x ∷ u)) in
      let short = bites x u s in omega arith

  seen_token : (k : TokenKind) (u u' : List TokenKind) → suc (length u) < n → (binds (k ∷ u) ≡ binds (k ∷ u')) ⊎ (left (arg stamp full (k ∷ u)) < suc (length u))
  seen_token (Name x) u u' s = inr (let short = arg_bites_by x u s (decide (binds (Name x ∷ u))) in omega arith)
  seen_token k u u' s = inl refl

  seen : (p v v' : List TokenKind) → peek v ≡ peek v' → length (p ++ v) < n → (binds (p ++ v) ≡ binds (p ++ v')) ⊎ (left (arg stamp full (p ++ v)) < length v)
  seen [] v v' pk s = peeked (λ v v'. length v < n → (binds v ≡ binds v') ⊎ (left (arg stamp full v) < length v)) (λ s. inl refl) (λ k u u' s. seen_token k u u' s) v v' pk s
  seen (Name x ∷ []) v v' pk s = inl (next_same is_assign v v' pk)
  seen (Name x ∷ k ∷ p) v v' pk s = inl refl
  seen (k ∷ p) v v' pk s = inl refl

  label_kept : (p v v' : List TokenKind) → peek v ≡ peek v' → length (p ++ v) < n → length (p ++ v') < n' → binds (p ++ v) ≡ true → Lock bare false v v' (arg stamp full (p ++ v)) (arg no_place full' (p ++ v'))
  label_kept [] (Name x ∷ Symbol sign.Assign ∷ u) v' pk s s' e = past (let short = label_far x u in omega arith)
  label_kept [] v v' pk s s' e = absurd cc
  label_kept (Name x ∷ []) (Symbol sign.Assign ∷ u) v' pk s s' e = past (let short = label_far x u in omega arith)
  label_kept (Name x ∷ []) v v' pk s s' e = absurd cc
  label_kept (Name x ∷ Symbol sign.Assign ∷ p) v v' pk s s' e =
      lock_eq (arg_label stamp full x (p ++ v)) (arg_label no_place full' x (p ++ v')) (lock_made (Arg (stamp (suc (suc (length (p ++ v))))) (Some x)) (Arg 0 (Some x)) (λ a. refl) (lf.kept p v v' pk (omega arith) (omega arith)))
  label_kept (k ∷ p) v v' pk s s' e = absurd cc

  plain_kept : (p v v' : List TokenKind) → peek v ≡ peek v' → length (p ++ v) < n → length (p ++ v') < n' → binds (p ++ v) ≡ false → binds (p ++ v') ≡ false → Lock bare false v v' (arg stamp full (p ++ v)) (arg no_place full' (p ++ v'))
  plain_kept p v v' pk s s' e e' = lock_eq (arg_plain stamp full (p ++ v) e) (arg_plain no_place full' (p ++ v') e') (lock_made (Arg (stamp (length (p ++ v))) None) (Arg 0 None) (λ a. refl) (lf.kept p v v' pk s s'))

  arg_kept : (p v v' : List TokenKind) → peek v ≡ peek v' → length (p ++ v) < n → length (p ++ v') < n' → (binds (p ++ v) ≡ true) ⊎ (binds (p ++ v) ≡ false) → (binds (p ++ v) ≡ binds (p ++ v')) ⊎ (left (arg stamp full (p ++ v)) < length v) → Lock bare false v v' (arg stamp full (p ++ v)) (arg no_place full' (p ++ v'))
  arg_kept p v v' pk s s' b (inr far) = past far
  arg_kept p v v' pk s s' (inl e) (inl al) = label_kept p v v' pk s s' e
  arg_kept p v v' pk s s' (inr e) (inl al) = plain_kept p v v' pk s s' e (sym al ∙ e)

  arg_steady : Steady bare false n n' (arg stamp full) (arg no_place full')
  arg_steady = record {
    within = λ w. arg_within_by w (decide (binds w));
    kept = λ p v v' pk s s'. arg_kept p v v' pk s s' (decide (binds (p ++ v))) (seen p v v' pk s);
  }

  args_steady : {loose : Bool} → Steady bare loose n n' (args stamp full) (args no_place full')
  unfolding args
  args_steady = closed_steady is_comma is_close_round loud_comma arg_steady

  -- calls and if

  pub call_reads : {loose : Bool} (x : List ℕ) → Steady bare loose n n' (λ u. call stamp full (NameOpen x ∷ u)) (λ u. call no_place full' (NameOpen x ∷ u))
  unfolding call
  call_reads x = made_at (λ l. NamedCall (stamp (suc l)) x) (NamedCall 0 x) (λ l a. refl) args_steady

  abbrev IfParts : Type 0
  IfParts = Tree AFull × (Unit {0} × (Tree AFull × (Unit {0} × (Tree AFull × Unit {0}))))

  parts_steady : {loose : Bool} → Steady (pair_core bare (pair_core same (pair_core bare (pair_core same (pair_core bare same))))) loose n n' (both full (both (expect is_then) (both full (both (expect is_else) (both full (expect is_end)))))) (both full' (both (expect is_then) (both full' (both (expect is_else) (both full' (expect is_end))))))
  parts_steady = both_near lf (both_near (expect_steady is_then) (both_near lf (both_near (expect_steady is_else) (both_near lf (expect_steady is_end)))))

  pub choice_reads : {loose : Bool} → Steady bare loose n n' (λ u. choice stamp full (Keyword word.If ∷ u)) (λ u. choice no_place full' (Keyword word.If ∷ u))
  unfolding choice
  choice_reads = made_at (λ l (x : IfParts). If (stamp (suc l)) x.0 x.1.1.0 x.1.1.1.1.0) (λ (x : IfParts). If 0 x.0 x.1.1.0 x.1.1.1.1.0) (λ l x. refl) parts_steady

  module _ (loose : Bool) where
    operand_arm : (k : TokenKind) → Arm bare loose n n' (operand loose stamp full) (operand loose no_place full') k
    unfolding operand
    operand_arm (Int x) = reads (given (λ l. Constant (stamp (suc l)) (literal.Int x)) (Constant 0 (literal.Int x)) (λ l. refl))
    operand_arm (Number d) = reads (given (λ l. Constant (stamp (suc l)) (literal.Number d)) (Constant 0 (literal.Number d)) (λ l. refl))
    operand_arm (Str x) = reads (given (λ l. Quoted (stamp (suc l)) x) (Quoted 0 x) (λ l. refl))
    operand_arm (Keyword word.True) = reads (given (λ l. Truth (stamp (suc l)) true) (Truth 0 true) (λ l. refl))
    operand_arm (Keyword word.False) = reads (given (λ l. Truth (stamp (suc l)) false) (Truth 0 false) (λ l. refl))
    operand_arm (Name x) = reads (given (λ l. Named (stamp (suc l)) x) (Named 0 x) (λ l. refl))
    operand_arm (NameOpen x) = reads (made_at (λ l y. Called (NamedCall (stamp (suc l)) x y)) (λ y. Called (NamedCall 0 x y)) (λ l a. refl) args_steady)
    operand_arm (Keyword word.If) = reads (made_at (λ l. Chosen) Chosen (λ l a. refl) choice_reads)
    operand_arm (Symbol sign.OpenRound) = reads (made_at (λ l. round_or_unit (stamp (suc l))) (round_or_unit 0) (λ l a. round_bare (stamp (suc l)) a) (closed_steady is_comma is_close_round loud_comma lf))
    operand_arm (Symbol sign.OpenSquare) = reads (made_at (λ l. Listed (stamp (suc l))) (Listed 0) (λ l a. refl) (closed_steady is_comma is_close_square loud_comma lf))
    operand_arm (Symbol sign.OpenCurly) = reads (made_at (λ l (x : Tree APOr × Unit {0}). Braces (stamp (suc l)) x.0) (λ (x : Tree APOr × Unit {0}). Braces 0 x.0) (λ l a. refl) (both_near por_steady (expect_steady is_close_curly)))
    operand_arm Wav = reads (made_at (λ l. PlaceFormat (stamp (suc l))) (PlaceFormat 0) (λ l a. refl) wav_steady)
    operand_arm k = fault (λ u. refl) (λ u. refl)

    operand_steady : Steady bare loose (suc n) (suc n') (operand loose stamp full) (operand loose no_place full')
    unfolding operand
    operand_steady = by_first (fails refl refl) operand_arm

    -- products

    multiplied_arm : (k : TokenKind) → Arm bare loose (suc n) (suc n') (multiplied loose stamp full) (multiplied loose no_place full') k
    unfolding multiplied
    multiplied_arm (Symbol sign.Star) = reads (made_at (λ l. Multiplied (stamp (suc l)) false) (Multiplied 0 false) (λ l a. refl) operand_steady)
    multiplied_arm (Symbol sign.Slash) = reads (made_at (λ l. Multiplied (stamp (suc l)) true) (Multiplied 0 true) (λ l a. refl) operand_steady)
    multiplied_arm k = fault (λ u. refl) (λ u. refl)

    multiplied_steady : Steady bare loose (suc n) (suc n') (multiplied loose stamp full) (multiplied loose no_place full')
    unfolding multiplied
    multiplied_steady = cut (suc n) (suc n') (omega arith) (omega arith) (by_first (fails refl refl) multiplied_arm)

    multiplied_eats : (w : List TokenKind) → Eaten (multiplied loose stamp full w) (length w)
    unfolding multiplied
    multiplied_eats (Symbol sign.Star ∷ u) = eaten_left (multiplied loose stamp full (Symbol sign.Star ∷ u)) (suc (length u)) (let same_left = left_made (Multiplied (stamp (suc (length u))) false) (operand loose stamp full u) in let short = operand_steady.within u in omega arith)
    multiplied_eats (Symbol sign.Slash ∷ u) = eaten_left (multiplied loose stamp full (Symbol sign.Slash ∷ u)) (suc (length u)) (let same_left = left_made (Multiplied (stamp (suc (length u))) true) (operand loose stamp full u) in let short = operand_steady.within u in omega arith)
    multiplied_eats w = tt

    factors_steady : Steady bare loose (suc n) (suc n') (many (next is_multiplied) (multiplied loose stamp full)) (many (next is_multiplied) (multiplied loose no_place full'))
    factors_steady = many_next is_multiplied loose (λ w w' pk e. alike_is loose is_multiplied loud_multiplied w w' pk e) (multiplied loose stamp full) (multiplied loose no_place full') multiplied_eats (suc n) (suc n') multiplied_steady

    product_steady : Steady bare loose (suc n) (suc n') (product loose stamp full) (product loose no_place full')
    unfolding product
    product_steady = made_at (λ l (x : Tree AnOperand × Tree (Many AMultiplied)). Product x.0 x.1) (λ (x : Tree AnOperand × Tree (Many AMultiplied)). Product x.0 x.1) (λ l x. refl)
        (both_by is_multiplied loud_multiplied none (λ w e. many_false (next is_multiplied) (multiplied loose stamp full) w e) (λ w e. many_false (next is_multiplied) (multiplied loose no_place full') w e) operand_steady factors_steady)

    -- sums

    added_arm : (k : TokenKind) → Arm bare loose (suc n) (suc n') (added loose stamp full) (added loose no_place full') k
    unfolding added
    added_arm (Symbol sign.Plus) = reads (made_at (λ l. Added (stamp (suc l)) false) (Added 0 false) (λ l a. refl) product_steady)
    added_arm (Symbol sign.Minus) = reads (made_at (λ l. Added (stamp (suc l)) true) (Added 0 true) (λ l a. refl) product_steady)
    added_arm k = fault (λ u. refl) (λ u. refl)

    added_steady : Steady bare loose (suc n) (suc n') (added loose stamp full) (added loose no_place full')
    unfolding added
    added_steady = cut (suc n) (suc n') (omega arith) (omega arith) (by_first (fails refl refl) added_arm)

    added_eats : (w : List TokenKind) → Eaten (added loose stamp full w) (length w)
    unfolding added
    added_eats (Symbol sign.Plus ∷ u) = eaten_left (added loose stamp full (Symbol sign.Plus ∷ u)) (suc (length u)) (let same_left = left_made (Added (stamp (suc (length u))) false) (product loose stamp full u) in let short = product_steady.within u in omega arith)
    added_eats (Symbol sign.Minus ∷ u) = eaten_left (added loose stamp full (Symbol sign.Minus ∷ u)) (suc (length u)) (let same_left = left_made (Added (stamp (suc (length u))) true) (product loose stamp full u) in let short = product_steady.within u in omega arith)
    added_eats w = tt

    addends_steady : Steady bare loose (suc n) (suc n') (many (next is_added) (added loose stamp full)) (many (next is_added) (added loose no_place full'))
    addends_steady = many_next is_added loose (λ w w' pk e. alike_is loose is_added loud_added w w' pk e) (added loose stamp full) (added loose no_place full') added_eats (suc n) (suc n') added_steady

    sum_steady : Steady bare loose (suc n) (suc n') (sum loose stamp full) (sum loose no_place full')
    unfolding sum
    sum_steady = made_at (λ l (x : Tree AProduct × Tree (Many AnAdded)). Sum x.0 x.1) (λ (x : Tree AProduct × Tree (Many AnAdded)). Sum x.0 x.1) (λ l x. refl)
        (both_by is_added loud_added none (λ w e. many_false (next is_added) (added loose stamp full) w e) (λ w e. many_false (next is_added) (added loose no_place full') w e) product_steady addends_steady)

    -- comparisons

    abbrev tail : Tree ASum → Reader (Tree ACompare)
    tail t w = behind_op loose stamp full t (next_op w) w

    abbrev tail' : Tree ASum → Reader (Tree ACompare)
    tail' t w = behind_op loose no_place full' t (next_op w) w

    op_arm : (t : Tree ASum) (k : TokenKind) (o : Option CompareOp) → op_of k ≡ o → Arm bare loose (suc n) (suc n') (tail t) (tail' (bare t)) k
    op_arm t k None e = idle (λ l. Alone t) (Alone (bare t)) (λ u. ap (λ (o : Option CompareOp). behind_op loose stamp full t o (k ∷ u)) e) (λ u. ap (λ (o : Option CompareOp). behind_op loose no_place full' (bare t) o (k ∷ u)) e) (λ l. refl)
    op_arm t k (Some o) e =
        reads (steady_eq (λ u. tail t (k ∷ u)) (λ u. tail' (bare t) (k ∷ u)) (λ u. ap (λ (o : Option CompareOp). behind_op loose stamp full t o (k ∷ u)) e) (λ u. ap (λ (o : Option CompareOp). behind_op loose no_place full' (bare t) o (k ∷ u)) e)
        (made_at (λ l. Compared t (stamp (suc l)) o) (Compared (bare t) 0 o) (λ l a. refl) sum_steady))

    tail_steady : (t : Tree ASum) → Steady bare loose (suc n) (suc n') (tail t) (tail' (bare t))
    tail_steady t = cut (suc n) (suc n') (omega arith) (omega arith) (by_first (gives (Alone t) refl refl) (λ k. op_arm t k (op_of k) refl))

    compare_steady : Steady bare loose (suc n) (suc n') (compare loose stamp full) (compare loose no_place full')
    unfolding compare
    compare_steady = seq_by tail tail' is_op loud_op Alone (op_rests loose stamp full) (λ t w e. op_rests loose no_place full' (bare t) w e) sum_steady tail_steady

    -- words

    not_steady : Steady bare loose (suc n) (suc n') (not_ loose stamp full) (not_ loose no_place full')
    unfolding not_
    not_steady = made_at (λ l (x : Bool × Tree ACompare). Not x.0 x.1) (λ (x : Bool × Tree ACompare). Not x.0 x.1) (λ l x. refl) (both_near (perhaps_steady is_not) compare_steady)

    and_steady : Steady bare loose (suc n) (suc n') (and_ loose stamp full) (and_ loose no_place full')
    unfolding and_
    and_steady = made_at (λ l (x : Tree ANot × Tree (Many ANot)). And x.0 x.1) (λ (x : Tree ANot × Tree (Many ANot)). And x.0 x.1) (λ l x. refl) (chain_steady is_and loud_and not_steady)

    pub expr_steady : Steady bare loose (suc n) (suc n') (expr loose stamp full) (expr loose no_place full')
    unfolding expr
    expr_steady = made_at (λ l (x : Tree AnAnd × Tree (Many AnAnd)). Expr x.0 x.1) (λ (x : Tree AnAnd × Tree (Many AnAnd)). Expr x.0 x.1) (λ l x. refl) (chain_steady is_or loud_or and_steady)

    neg_arm : (k : TokenKind) → Arm bare loose n n' (neg stamp) (neg no_place) k
    unfolding neg
    neg_arm (Symbol sign.Minus) = reads (loosen loose (made_at (λ l. Negative (stamp (suc l))) (Negative 0) (λ l a. refl) digits_steady))
    neg_arm k = fault (λ u. refl) (λ u. refl)

    neg_steady : Steady bare loose (suc n) (suc n') (neg stamp) (neg no_place)
    unfolding neg
    neg_steady = by_first (fails refl refl) neg_arm

    pub step_steady : Steady bare loose (suc n) (suc n') (full_step loose stamp full) (full_step loose no_place full')
    step_steady = branch is_minus (full_step loose stamp full) (full_step loose no_place full') (step_minus loose stamp full) (step_minus loose no_place full') (step_plain loose stamp full) (step_plain loose no_place full')
        neg_steady (made_at (λ l. Plain) Plain (λ l a. refl) expr_steady)

    -- a value takes what its first constant takes

    product_left : (w : List TokenKind) (l : ℕ) → left (operand loose stamp full w) ≤ l → left (product loose stamp full w) ≤ l
    unfolding product
    product_left w l e =
        let same_left = left_made (λ (x : Tree AnOperand × Tree (Many AMultiplied)). Product x.0 x.1) (both (operand loose stamp full) (many (next is_multiplied) (multiplied loose stamp full)) w) in
        let short = both_left (operand loose stamp full) (many (next is_multiplied) (multiplied loose stamp full)) factors_steady.within w l e in omega arith

    sum_left : (w : List TokenKind) (l : ℕ) → left (operand loose stamp full w) ≤ l → left (sum loose stamp full w) ≤ l
    unfolding sum
    sum_left w l e =
        let same_left = left_made (λ (x : Tree AProduct × Tree (Many AnAdded)). Sum x.0 x.1) (both (product loose stamp full) (many (next is_added) (added loose stamp full)) w) in
        let short = both_left (product loose stamp full) (many (next is_added) (added loose stamp full)) addends_steady.within w l (product_left w l e) in omega arith

    compare_left : (w : List TokenKind) (l : ℕ) → left (operand loose stamp full w) ≤ l → left (compare loose stamp full w) ≤ l
    unfolding compare
    compare_left w l e =
        let short = sum_left w l e in
        let fall = left_bind (λ (x : Tree ASum × List TokenKind). tail x.0 x.1) (λ x. (tail_steady x.0).within x.1) (sum loose stamp full w) in omega arith

    not_left : (w : List TokenKind) (l : ℕ) → next is_not w ≡ false → left (operand loose stamp full w) ≤ l → left (not_ loose stamp full w) ≤ l
    unfolding not_
    not_left w l no_not e =
        let same_left = left_made (λ (x : Bool × Tree ACompare). Not x.0 x.1) (both (perhaps is_not) (compare loose stamp full) w) in
        let negated : Tree ACompare → Bool × Tree ACompare = λ y. (false, y) in
        let opened : both (perhaps is_not) (compare loose stamp full) w ≡ (compare loose stamp full w >>= made negated) = ap (λ (z : Read Bool). z >>= λ x. compare loose stamp full x.1 >>= λ y. Ok ((x.0, y.0), y.1)) (perhaps_none is_not w no_not) in
        let same_opened : left (both (perhaps is_not) (compare loose stamp full) w) ≡ left (compare loose stamp full w >>= made negated) = ap left opened in
        let same_again : left (compare loose stamp full w >>= made negated) ≡ left (compare loose stamp full w) = left_made negated (compare loose stamp full w) in
        let short = compare_left w l e in omega arith

    and_left : (w : List TokenKind) (l : ℕ) → next is_not w ≡ false → left (operand loose stamp full w) ≤ l → left (and_ loose stamp full w) ≤ l
    unfolding and_ chain
    and_left w l no_not e =
        let same_left = left_made (λ (x : Tree ANot × Tree (Many ANot)). And x.0 x.1) (chain is_and (not_ loose stamp full) w) in
        let short = both_left (not_ loose stamp full) (many (next is_and) (behind is_and (not_ loose stamp full))) (others_steady is_and loud_and not_steady).within w l (not_left w l no_not e) in omega arith

    expr_left : (w : List TokenKind) (l : ℕ) → next is_not w ≡ false → left (operand loose stamp full w) ≤ l → left (expr loose stamp full w) ≤ l
    unfolding expr chain
    expr_left w l no_not e =
        let same_left = left_made (λ (x : Tree AnAnd × Tree (Many AnAnd)). Expr x.0 x.1) (chain is_or (and_ loose stamp full) w) in
        let short = both_left (and_ loose stamp full) (many (next is_or) (behind is_or (and_ loose stamp full))) (others_steady is_or loud_or and_steady).within w l (and_left w l no_not e) in omega arith

    pub expr_name : (x : List ℕ) (u : List TokenKind) → left (expr loose stamp full (Name x ∷ u)) ≤ length u
    unfolding operand
    expr_name x u = expr_left (Name x ∷ u) (length u) refl (omega arith)

    operand_open : (u : List TokenKind) → left (operand loose stamp full (Symbol sign.OpenRound ∷ u)) ≡ left (closed is_comma is_close_round full u)
    unfolding operand
    operand_open u = left_made (round_or_unit (stamp (suc (length u)))) (closed is_comma is_close_round full u)

    pub expr_open : (u : List TokenKind) → left (expr loose stamp full (Symbol sign.OpenRound ∷ u)) ≤ length u
    expr_open u =
        let opened = operand_open u in
        let inside : Steady bare false n n' (closed is_comma is_close_round full) (closed is_comma is_close_round full') = closed_steady is_comma is_close_round loud_comma lf in
        let short = inside.within u in
        expr_left (Symbol sign.OpenRound ∷ u) (length u) refl (omega arith)

    closed_name : (x : List ℕ) (u : List TokenKind) → suc (length u) < n → left (closed is_comma is_close_round full (Name x ∷ u)) ≤ length u
    unfolding chain
    closed_name x u s =
        let parts = both (chain is_comma full) (expect is_close_round) (Name x ∷ u) in
        let mk : (Tree AFull × Tree (Many AFull)) × Unit {0} → Tree (Many AFull) = λ y. more y.0.0 y.0.1 in
        let opened : left (closed is_comma is_close_round full (Name x ∷ u)) ≡ left (parts >>= made mk) = ap left (closed_more is_comma is_close_round full (Name x ∷ u) refl) in
        let same_left : left (parts >>= made mk) ≡ left parts = left_made mk parts in
        let closes : Steady same false n n' (expect is_close_round) (expect is_close_round) = expect_steady is_close_round in
        let first : left (chain is_comma full (Name x ∷ u)) ≤ length u = both_left full (many (next is_comma) (behind is_comma full)) (others_steady is_comma loud_comma lf).within (Name x ∷ u) (length u) (bites x u s) in
        let short : left parts ≤ length u = both_left (chain is_comma full) (expect is_close_round) closes.within (Name x ∷ u) (length u) first in
        omega arith

    pub expr_open_name : (x : List ℕ) (u : List TokenKind) → suc (length u) < n → left (expr loose stamp full (Symbol sign.OpenRound ∷ Name x ∷ u)) ≤ length u
    expr_open_name x u s =
        let opened = operand_open (Name x ∷ u) in
        let short = closed_name x u s in
        expr_left (Symbol sign.OpenRound ∷ Name x ∷ u) (length u) refl (omega arith)

    pub step_name : (x : List ℕ) (u : List TokenKind) → left (full_step loose stamp full (Name x ∷ u)) ≤ length u
    step_name x u =
        let opened : left (full_step loose stamp full (Name x ∷ u)) ≡ left (expr loose stamp full (Name x ∷ u) >>= made Plain) = ap left (step_plain loose stamp full (Name x ∷ u) refl) in
        let same_left = left_made Plain (expr loose stamp full (Name x ∷ u)) in
        let short = expr_name x u in omega arith

-- ---- every depth

pub record Known (stamp : ℕ → ℕ) (n n' : ℕ) : Type 0 where
  pub steady : Steady bare false n n' (full_by n stamp) (full_by n' no_place)
  pub bites : (x : List ℕ) (u : List TokenKind) → suc (length u) < n → left (full_by n stamp (Name x ∷ u)) ≤ length u

known_step : (stamp : ℕ → ℕ) (n n' : ℕ) → Known stamp n n' → Known stamp (suc n) (suc n')
unfolding full_by
known_step stamp n n' k =
    let step = step_steady stamp (full_by n stamp) (full_by n' no_place) n n' k.steady k.bites false in
    record {
      steady = record { within = step.within; kept = step.kept };
      bites = λ x u s. step_name stamp (full_by n stamp) (full_by n' no_place) n n' k.steady k.bites false x u;
    }

known_end : (stamp : ℕ → ℕ) (n : ℕ) → Known stamp n zero → Known stamp (suc n) zero
unfolding full_by
known_end stamp n k =
    let step = step_steady stamp (full_by n stamp) (full_by zero no_place) n zero k.steady k.bites false in
    record {
      steady = record { within = step.within; kept = λ p v v' pk s s'. absurd (omega arith) };
      bites = λ x u s. step_name stamp (full_by n stamp) (full_by zero no_place) n zero k.steady k.bites false x u;
    }

pub known : (stamp : ℕ → ℕ) (n n' : ℕ) → Known stamp n n'
unfolding full_by
known stamp zero n' = record { steady = record { within = λ w. omega arith; kept = λ p v v' pk s s'. absurd (omega arith) }; bites = λ x u s. absurd (omega arith) }
known stamp (suc n) zero = known_end stamp n (known stamp n zero)
known stamp (suc n) (suc n') = known_step stamp n n' (known stamp n n')
