-- Two readers side by side: single tokens, and lists of items.
use Rattle.std.proofs.Common.{◌≡◌, ℕ, zero, suc, ◌<◌, ◌≤◌, ◌⊎◌, inl, inr, List, [], ◌∷◌, ◌++◌, length, Bool, true, false, Ok, Err, refl, sym, ap, subst, ◌∙◌, arith}
use Rattle.std.proofs.lemmas.List.{length-append}
use Rattle.script_lex.specs.declared.token.TokenKind.{TokenKind}
use Rattle.script_grammar.specs.Tree.{Sort, Tree, Many, none, more}
use Rattle.script_grammar.specs.Bare.{bare}
use Rattle.script_grammar.specs.Read.{Read, Reader, ◌>>=◌, made, both, next, expect, perhaps, repeat, many, behind, chain, closed}
use Rattle.script_grammar.specs.Steady.{peek}
use Rattle.script_grammar.proofs.SteadyRules.{left, Alike, Lock, ok, past, Steady, same, pair_core, decide, peek_front, next_same, quiet, alike_is, alike_peek, lock_eq, left_made, left_bind, lock_made, goes, idles, leaps, After, lock_bind, steady_eq, cut, given, made_at, seq_near, both_near, both_by, fails, gives, Arm, fault, idle, reads, by_first, branch}

-- ---- single tokens

expect_true : (is : TokenKind → Bool) (k : TokenKind) (u : List TokenKind) → is k ≡ true → expect is (k ∷ u) ≡ Ok (tt, u)
expect_true is k u e = rw (e, expect) refl

expect_false : (is : TokenKind → Bool) (k : TokenKind) (u : List TokenKind) → is k ≡ false → expect is (k ∷ u) ≡ Err (suc (length u))
expect_false is k u e = rw (e, expect) refl

perhaps_true : (is : TokenKind → Bool) (k : TokenKind) (u : List TokenKind) → is k ≡ true → perhaps is (k ∷ u) ≡ Ok (true, u)
perhaps_true is k u e = rw (e, perhaps) refl

perhaps_false : (is : TokenKind → Bool) (k : TokenKind) (u : List TokenKind) → is k ≡ false → perhaps is (k ∷ u) ≡ Ok (false, k ∷ u)
perhaps_false is k u e = rw (e, perhaps) refl

pub perhaps_none : (is : TokenKind → Bool) (w : List TokenKind) → next is w ≡ false → perhaps is w ≡ Ok (false, w)
perhaps_none is [] e = refl
perhaps_none is (k ∷ u) e = perhaps_false is k u e

expect_arm : (loose : Bool) (n n' : ℕ) (is : TokenKind → Bool) (k : TokenKind) → (is k ≡ true) ⊎ (is k ≡ false) → Arm same loose n n' (expect is) (expect is) k
expect_arm loose n n' is k (inl e) = reads (steady_eq (λ u. expect is (k ∷ u)) (λ u. expect is (k ∷ u)) (λ u. expect_true is k u e) (λ u. expect_true is k u e) (given (λ l. tt) tt (λ l. refl)))
expect_arm loose n n' is k (inr e) = fault (λ u. expect_false is k u e) (λ u. expect_false is k u e)

pub expect_steady : {loose : Bool} {n n' : ℕ} (is : TokenKind → Bool) → Steady same loose n n' (expect is) (expect is)
expect_steady {loose = loose} {n = n} {n' = n'} is = cut n n' (omega arith) (omega arith) (by_first (fails refl refl) (λ k. expect_arm loose n n' is k (decide (is k))))

perhaps_arm : (loose : Bool) (n n' : ℕ) (is : TokenKind → Bool) (k : TokenKind) → (is k ≡ true) ⊎ (is k ≡ false) → Arm same loose n n' (perhaps is) (perhaps is) k
perhaps_arm loose n n' is k (inl e) = reads (steady_eq (λ u. perhaps is (k ∷ u)) (λ u. perhaps is (k ∷ u)) (λ u. perhaps_true is k u e) (λ u. perhaps_true is k u e) (given (λ l. true) true (λ l. refl)))
perhaps_arm loose n n' is k (inr e) = idle (λ l. false) false (λ u. perhaps_false is k u e) (λ u. perhaps_false is k u e) (λ l. refl)

pub perhaps_steady : {loose : Bool} {n n' : ℕ} (is : TokenKind → Bool) → Steady same loose n n' (perhaps is) (perhaps is)
perhaps_steady {loose = loose} {n = n} {n' = n'} is = cut n n' (omega arith) (omega arith) (by_first (gives false refl refl) (λ k. perhaps_arm loose n n' is k (decide (is k))))

-- ---- a reader that reads at least one token, or fails

abbrev pub Eaten : {T : Type 0} → Read T → ℕ → Type 0
Eaten (Ok x) l = length x.1 < l
Eaten (Err k) l = Unit {0}

pub eaten_left : {T : Type 0} (y : Read T) (l : ℕ) → left y < l → Eaten y l
eaten_left (Ok x) l e = e
eaten_left (Err k) l e = tt

pub eaten_bind : {A B : Type 0} (g : A × List TokenKind → Read B) → ((x : A × List TokenKind) → left (g x) ≤ length x.1) → (y : Read A) (l : ℕ) → Eaten y l → Eaten (y >>= g) l
eaten_bind g falls (Ok x) l e = eaten_left (g x) l (let fall = falls x in omega arith)
eaten_bind g falls (Err k) l e = tt

-- ---- items as long as a test holds

pub repeat_true : {s : Sort} (test : List TokenKind → Bool) (item : Reader (Tree s)) (m : ℕ) (w : List TokenKind) → test w ≡ true → repeat test item (suc m) w ≡ (item w >>= λ x. repeat test item m x.1 >>= made (more x.0))
unfolding repeat
repeat_true test item m w e = rw (e, repeat) refl

pub repeat_false : {s : Sort} (test : List TokenKind → Bool) (item : Reader (Tree s)) (m : ℕ) (w : List TokenKind) → test w ≡ false → repeat test item m w ≡ Ok (none, w)
unfolding repeat
repeat_false test item zero w e = refl
repeat_false test item (suc m) w e = rw (e, repeat) refl

pub many_false : {s : Sort} (test : List TokenKind → Bool) (item : Reader (Tree s)) (w : List TokenKind) → test w ≡ false → many test item w ≡ Ok (none, w)
unfolding many
many_false test item w e = repeat_false test item (length w) w e

long : (test : List TokenKind → Bool) (empty : test [] ≡ false) (w : List TokenKind) → test w ≡ true → 0 < length w
long test empty [] e = absurd cc
long test empty (k ∷ w) e = omega arith

module _ {s : Sort} (test : List TokenKind → Bool) (item : Reader (Tree s)) (falls : (w : List TokenKind) → left (item w) ≤ length w) where
  abbrev rest_of : ℕ → Tree s × List TokenKind → Read (Tree (Many s))
  rest_of m x = repeat test item m x.1 >>= made (more x.0)

  rest_within : (m : ℕ) → ((w : List TokenKind) → left (repeat test item m w) ≤ length w) → (x : Tree s × List TokenKind) → left (rest_of m x) ≤ length x.1
  rest_within m ih x = let same_left = left_made (more x.0) (repeat test item m x.1) in let short = ih x.1 in omega arith

  either_within : (m : ℕ) → ((w : List TokenKind) → left (repeat test item m w) ≤ length w) → (w : List TokenKind) → (test w ≡ true) ⊎ (test w ≡ false) → left (repeat test item (suc m) w) ≤ length w
  either_within m ih w (inl e) =
      let l : left (repeat test item (suc m) w) ≡ left (item w >>= rest_of m) = ap left (repeat_true test item m w e) in
      let fall = left_bind (rest_of m) (rest_within m ih) (item w) in
      let short = falls w in omega arith
  either_within m ih w (inr e) = let l : left (repeat test item (suc m) w) ≡ length w = ap left (repeat_false test item (suc m) w e) in omega arith

  repeat_within : (m : ℕ) (w : List TokenKind) → left (repeat test item m w) ≤ length w
  unfolding repeat
  repeat_within zero w = omega arith
  repeat_within (suc m) w = either_within m (repeat_within m) w (decide (test w))

  -- where the first item reads more than is shared
  repeat_far : (m : ℕ) (w : List TokenKind) (l : ℕ) → length w ≤ m → 0 < length w → test w ≡ true → left (item w) < l → left (repeat test item m w) < l
  repeat_far zero w l le pos e far = absurd (omega arith)
  repeat_far (suc m) w l le pos e far =
      let same_left : left (repeat test item (suc m) w) ≡ left (item w >>= rest_of m) = ap left (repeat_true test item m w e) in
      let fall = left_bind (rest_of m) (rest_within m (repeat_within m)) (item w) in
      omega arith

module _ {s : Sort} (test : List TokenKind → Bool) (empty : test [] ≡ false) (loose : Bool)
    (stop : (u u' : List TokenKind) → Alike loose u u' → test u ≡ false → test u' ≡ false)
    (item item' : Reader (Tree s)) (eats : (w : List TokenKind) → Eaten (item w) (length w))
    (turn : (p v v' : List TokenKind) → peek v ≡ peek v' → test (p ++ v) ≡ true → ((test (p ++ v') ≡ true) × Alike loose (p ++ v) (p ++ v')) ⊎ (left (item (p ++ v)) < length v))
    (n n' : ℕ) (li : Steady bare loose n n' item item') where
  abbrev Both : ℕ → ℕ → Type 0
  Both m m' = (p v v' : List TokenKind) → peek v ≡ peek v' → length (p ++ v) ≤ m → length (p ++ v') ≤ m' → length (p ++ v) < n → length (p ++ v') < n' → Lock bare loose v v' (repeat test item m (p ++ v)) (repeat test item' m' (p ++ v'))

  abbrev rest : ℕ → Tree s × List TokenKind → Read (Tree (Many s))
  rest m = rest_of test item li.within m

  abbrev rest' : ℕ → Tree s × List TokenKind → Read (Tree (Many s))
  rest' m x = repeat test item' m x.1 >>= made (more x.0)

  behind_item : (m m' : ℕ) → Both m m' → (t : Tree s) (r v v' : List TokenKind) → peek v ≡ peek v' → length (r ++ v) ≤ m → length (r ++ v') ≤ m' → length (r ++ v) < n → length (r ++ v') < n'
      → (test (r ++ v) ≡ false) ⊎ ((test (r ++ v) ≡ true) × (((test (r ++ v') ≡ true) × Alike loose (r ++ v) (r ++ v')) ⊎ (left (item (r ++ v)) < length v))) → After bare bare loose loose v v' (rest m) (rest' m') t r
  behind_item m m' ih t r v v' pk a b c d (inl e) =
      idles (more t none) (ap (λ (z : Read (Tree (Many s))). z >>= made (more t)) (repeat_false test item m (r ++ v) e)) (λ al. (al, ap (λ (z : Read (Tree (Many s))). z >>= made (more (bare t))) (repeat_false test item' m' (r ++ v') (stop (r ++ v) (r ++ v') al e))))
  behind_item m m' ih t r v v' pk a b c d (inr (e, inl h)) = goes h.1 (lock_made (more t) (more (bare t)) (λ ts. refl) (ih r v v' pk a b c d))
  behind_item m m' ih t r v v' pk a b c d (inr (e, inr far)) =
      leaps (let same_left = left_made (more t) (repeat test item m (r ++ v)) in let short = repeat_far test item li.within m (r ++ v) (length v) a (long test empty (r ++ v) e) e far in omega arith)

  tests : (p v v' : List TokenKind) → peek v ≡ peek v' → (test (p ++ v) ≡ true) ⊎ (test (p ++ v) ≡ false) → (test (p ++ v) ≡ false) ⊎ ((test (p ++ v) ≡ true) × (((test (p ++ v') ≡ true) × Alike loose (p ++ v) (p ++ v')) ⊎ (left (item (p ++ v)) < length v)))
  tests p v v' pk (inl e) = inr (e, turn p v v' pk e)
  tests p v v' pk (inr e) = inl e

  one_item : (m m' : ℕ) → Both m m' → (p v v' : List TokenKind) → peek v ≡ peek v' → length (p ++ v) ≤ suc m → length (p ++ v') ≤ suc m' → length (p ++ v) < n → length (p ++ v') < n' → test (p ++ v) ≡ true → test (p ++ v') ≡ true → Lock bare loose v v' (repeat test item (suc m) (p ++ v)) (repeat test item' (suc m') (p ++ v'))
  one_item m m' ih p v v' pk a b c d e e' =
      lock_eq (repeat_true test item m (p ++ v) e) (repeat_true test item' m' (p ++ v') e')
      (lock_bind (rest m) (rest' m') (rest_within test item li.within m (repeat_within test item li.within m)) (li.kept p v v' pk c d)
      (λ t r is.
      let short : length (r ++ v) < length (p ++ v) = subst (λ (z : Read (Tree s)). Eaten z (length (p ++ v))) is (eats (p ++ v)) in
      let short' : length (r ++ v') < length (p ++ v') = omega (arith, length-append p v, length-append p v', length-append r v, length-append r v') in
      behind_item m m' ih t r v v' pk (omega arith) (omega arith) (omega arith) (omega arith) (tests r v v' pk (decide (test (r ++ v))))))

  by_test : (m m' : ℕ) → ((k k' : ℕ) → m ≡ suc k → m' ≡ suc k' → Both k k') → (p v v' : List TokenKind) → peek v ≡ peek v' → length (p ++ v) ≤ m → length (p ++ v') ≤ m' → length (p ++ v) < n → length (p ++ v') < n'
      → (test (p ++ v) ≡ false) ⊎ ((test (p ++ v) ≡ true) × (((test (p ++ v') ≡ true) × Alike loose (p ++ v) (p ++ v')) ⊎ (left (item (p ++ v)) < length v))) → Lock bare loose v v' (repeat test item m (p ++ v)) (repeat test item' m' (p ++ v'))
  by_test m m' ih p v v' pk a b c d (inl e) = ok none p (repeat_false test item m (p ++ v) e) (λ al. repeat_false test item' m' (p ++ v') (stop (p ++ v) (p ++ v') al e))
  by_test zero m' ih p v v' pk a b c d (inr (e, h)) = absurd (let pos = long test empty (p ++ v) e in omega arith)
  by_test (suc m) m' ih p v v' pk a b c d (inr (e, inr far)) = past (repeat_far test item li.within (suc m) (p ++ v) (length v) a (long test empty (p ++ v) e) e far)
  by_test (suc m) zero ih p v v' pk a b c d (inr (e, inl h)) = absurd (let pos = long test empty (p ++ v') h.0 in omega arith)
  by_test (suc m) (suc m') ih p v v' pk a b c d (inr (e, inl h)) = one_item m m' (ih m m' refl refl) p v v' pk a b c d e h.0

  repeat_kept : (m m' : ℕ) → Both m m'
  repeat_kept zero m' p v v' pk a b c d = by_test zero m' (λ k k' e e'. absurd (omega arith)) p v v' pk a b c d (tests p v v' pk (decide (test (p ++ v))))
  repeat_kept (suc m) zero p v v' pk a b c d = by_test (suc m) zero (λ k k' e e'. absurd (omega arith)) p v v' pk a b c d (tests p v v' pk (decide (test (p ++ v))))
  repeat_kept (suc m) (suc m') p v v' pk a b c d =
      by_test (suc m) (suc m') (λ k k' e e'. let ek : m ≡ k = omega arith in let ek' : m' ≡ k' = omega arith in subst (λ (z : ℕ). Both z k') ek (subst (λ (z : ℕ). Both m z) ek' (repeat_kept m m'))) p v v' pk a b c d (tests p v v' pk (decide (test (p ++ v))))

  pub many_steady : Steady bare loose n n' (many test item) (many test item')
  unfolding many
  many_steady = record {
    within = λ w. repeat_within test item li.within (length w) w;
    kept = λ p v v' pk c d. repeat_kept (length (p ++ v)) (length (p ++ v')) p v v' pk (omega arith) (omega arith) c d;
  }

-- where the test is one of the next token
module _ {s : Sort} (is : TokenKind → Bool) (loose : Bool) (begins : (w w' : List TokenKind) → peek w ≡ peek w' → next is w ≡ true → Alike loose w w') (item item' : Reader (Tree s)) (eats : (w : List TokenKind) → Eaten (item w) (length w)) (n n' : ℕ) (li : Steady bare loose n n' item item') where
  pub many_next : Steady bare loose n n' (many (next is) item) (many (next is) item')
  many_next = many_steady (next is) refl loose (λ u u' al e. sym (next_same is u u' (alike_peek loose u u' al)) ∙ e) item item' eats
      (λ p v v' pk e. inl (sym (next_same is (p ++ v) (p ++ v') (peek_front p v v' pk)) ∙ e, begins (p ++ v) (p ++ v') (peek_front p v v' pk) e)) n n' li

-- ---- items with a token between

pub behind_steady : {T : Type 0} {core : T → T} {loose : Bool} {n n' : ℕ} {item item' : Reader T} (is : TokenKind → Bool) → Steady core loose n n' item item' → Steady core loose n n' (behind is item) (behind is item')
unfolding behind
behind_steady {item = item} {item' = item'} is li = seq_near (λ a. item) (λ a. item') (expect_steady is) (λ a. li)

expect_eats_by : (is : TokenKind → Bool) (k : TokenKind) (u : List TokenKind) → (is k ≡ true) ⊎ (is k ≡ false) → Eaten (expect is (k ∷ u)) (suc (length u))
expect_eats_by is k u (inl e) = subst (λ (z : Read (Unit {0})). Eaten z (suc (length u))) (sym (expect_true is k u e)) (omega arith)
expect_eats_by is k u (inr e) = subst (λ (z : Read (Unit {0})). Eaten z (suc (length u))) (sym (expect_false is k u e)) tt

expect_eats : (is : TokenKind → Bool) (w : List TokenKind) → Eaten (expect is w) (length w)
expect_eats is [] = tt
expect_eats is (k ∷ u) = expect_eats_by is k u (decide (is k))

pub behind_eats : {T : Type 0} (is : TokenKind → Bool) (item : Reader T) → ((w : List TokenKind) → left (item w) ≤ length w) → (w : List TokenKind) → Eaten (behind is item w) (length w)
unfolding behind
behind_eats is item falls w = eaten_bind (λ (x : Unit {0} × List TokenKind). item x.1) (λ x. falls x.1) (expect is w) (length w) (expect_eats is w)

module _ {s : Sort} (is : TokenKind → Bool) (loud : (k : TokenKind) → is k ≡ true → quiet k ≡ true) {loose : Bool} {item item' : Reader (Tree s)} {n n' : ℕ} (li : Steady bare loose n n' item item') where
  pub others_steady : Steady bare loose n n' (many (next is) (behind is item)) (many (next is) (behind is item'))
  others_steady = many_next is loose (λ w w' pk e. alike_is loose is loud w w' pk e) (behind is item) (behind is item') (behind_eats is item li.within) n n' (behind_steady is li)

  pub chain_steady : Steady (pair_core bare bare) loose n n' (chain is item) (chain is item')
  unfolding chain
  chain_steady = both_by is loud none (λ w e. many_false (next is) (behind is item) w e) (λ w e. many_false (next is) (behind is item') w e) li others_steady

-- ---- items with one token between, up to another

closed_true : {s : Sort} (comma close : TokenKind → Bool) (item : Reader (Tree s)) (w : List TokenKind) → next close w ≡ true → closed comma close item w ≡ (expect close w >>= made (λ (x : Unit {0}). none {s = s}))
unfolding closed
closed_true comma close item w e = rw (e, closed) refl

pub closed_more : {s : Sort} (comma close : TokenKind → Bool) (item : Reader (Tree s)) (w : List TokenKind) → next close w ≡ false → closed comma close item w ≡ (both (chain comma item) (expect close) w >>= made (λ x. more x.0.0 x.0.1))
unfolding closed
closed_more comma close item w e = rw (e, closed) refl

pub closed_steady : {s : Sort} (comma close : TokenKind → Bool) → ((k : TokenKind) → comma k ≡ true → quiet k ≡ true) → {loose : Bool} {item item' : Reader (Tree s)} {n n' : ℕ} → Steady bare false n n' item item' → Steady bare loose n n' (closed comma close item) (closed comma close item')
closed_steady {s = s} comma close loud {item = item} {item' = item'} li =
    branch close (closed comma close item) (closed comma close item') (closed_true comma close item) (closed_true comma close item') (closed_more comma close item) (closed_more comma close item')
    (made_at (λ l (x : Unit {0}). none {s = s}) (λ (x : Unit {0}). none {s = s}) (λ l x. refl) (expect_steady close))
    (made_at (λ l (x : (Tree s × Tree (Many s)) × Unit {0}). more x.0.0 x.0.1) (λ (x : (Tree s × Tree (Many s)) × Unit {0}). more x.0.0 x.0.1) (λ l x. refl) (both_near (chain_steady comma loud li) (expect_steady close)))
