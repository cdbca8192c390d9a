-- Two readers side by side, on lists that part behind one token: how far both read alike, and how this carries over to readers made of them.
use Rattle.std.proofs.Common.{◌≡◌, ℕ, suc, ◌+◌, ◌<◌, ◌≤◌, ◌⊎◌, inl, inr, List, [], ◌∷◌, ◌++◌, length, Bool, true, false, Ok, Err, refl, sym, ap, subst, ◌∙◌, arith}
use Rattle.std.proofs.lemmas.List.{length-append}
use Rattle.script_lex.specs.declared.token.TokenKind.{TokenKind}
use Rattle.script_lex.specs.declared.token.TokenKind.TheVariants.{Name, Symbol}
use Rattle.script_lex.specs.declared.token.Symbol.TheVariants as sign
use Rattle.script_grammar.specs.Read.{Read, Reader, ◌>>=◌, made, both, next}
use Rattle.script_grammar.specs.ReadValue.{binds, optional}
use Rattle.script_grammar.specs.Steady.{peek}

-- how many tokens are left behind what was read, or from the fault on
abbrev pub left : {T : Type 0} → Read T → ℕ
left (Ok x) = length x.1
left (Err k) = k

-- Two rests begin alike: by the next token; and where loose, also as the tests of several tokens see them.
abbrev pub Alike : Bool → List TokenKind → List TokenKind → Type 0
Alike false u v = peek u ≡ peek v
Alike true u v = (peek u ≡ peek v) × (optional u ≡ optional v) × (binds u ≡ binds v)

-- The results y and y' of reading lists that end by v and v': both stopped before the end of what is shared or at its next token, and alike; or y is of more tokens than these.
pub data Lock {T : Type 0} (core : T → T) (loose : Bool) (v v' : List TokenKind) (y y' : Read T) : Type 0 where
  ok : (t : T) (r : List TokenKind) → y ≡ Ok (t, r ++ v) → (Alike loose (r ++ v) (r ++ v') → y' ≡ Ok (core t, r ++ v')) → Lock core loose v v' y y'
  bad : (j k k' : ℕ) → y ≡ Err k → y' ≡ Err k' → k ≡ j + length v → k' ≡ j + length v' → Lock core loose v v' y y'
  past : left y < length v → Lock core loose v v' y y'

-- Over lists of fewer than n and n' tokens the readers f and f' read alike what is shared.
pub record Steady {T : Type 0} (core : T → T) (loose : Bool) (n n' : ℕ) (f f' : Reader T) : Type 0 where
  pub within : (w : List TokenKind) → left (f w) ≤ length w
  pub kept : (p v v' : List TokenKind) → peek v ≡ peek v' → length (p ++ v) < n → length (p ++ v') < n' → Lock core loose v v' (f (p ++ v)) (f' (p ++ v'))

abbrev pub same : {T : Type 0} → T → T
same t = t

abbrev pub pair_core : {A B : Type 0} → (A → A) → (B → B) → A × B → A × B
pair_core coreA coreB x = (coreA x.0, coreB x.1)

pub decide : (b : Bool) → (b ≡ true) ⊎ (b ≡ false)
decide true = inl refl
decide false = inr refl

-- ---- lists with the same next token

pub peeked : (P : List TokenKind → List TokenKind → Type 0) → P [] [] → ((k : TokenKind) (u u' : List TokenKind) → P (k ∷ u) (k ∷ u')) → (v v' : List TokenKind) → peek v ≡ peek v' → P v v'
peeked P z s [] [] e = z
peeked P z s [] (k ∷ u) e = absurd cc
peeked P z s (k ∷ u) [] e = absurd cc
peeked P z s (k ∷ u) (k' ∷ u') e = let same_token : k ≡ k' = cc in subst (λ (k'' : TokenKind). P (k ∷ u) (k'' ∷ u')) same_token (s k u u')

pub peek_front : (r v v' : List TokenKind) → peek v ≡ peek v' → peek (r ++ v) ≡ peek (r ++ v')
peek_front [] v v' e = e
peek_front (k ∷ r) v v' e = refl

pub next_same : (is : TokenKind → Bool) (w w' : List TokenKind) → peek w ≡ peek w' → next is w ≡ next is w'
next_same is = peeked (λ w w'. next is w ≡ next is w') refl (λ k u u'. refl)

-- a token that begins no test of several tokens
abbrev pub quiet : TokenKind → Bool
quiet (Name x) = false
quiet (Symbol sign.OpenRound) = false
quiet k = true

quiet_both : (k : TokenKind) (u u' : List TokenKind) → quiet k ≡ true → Alike true (k ∷ u) (k ∷ u')
quiet_both (Name x) u u' e = absurd cc
quiet_both (Symbol sign.OpenRound) u u' e = absurd cc
quiet_both k u u' e = (refl, refl, refl)

pub quiet_alike : (loose : Bool) (k : TokenKind) (u u' : List TokenKind) → quiet k ≡ true → Alike loose (k ∷ u) (k ∷ u')
quiet_alike false k u u' e = refl
quiet_alike true k u u' e = quiet_both k u u' e

pub alike_is : (loose : Bool) (is : TokenKind → Bool) → ((k : TokenKind) → is k ≡ true → quiet k ≡ true) → (w w' : List TokenKind) → peek w ≡ peek w' → next is w ≡ true → Alike loose w w'
alike_is loose is loud = peeked (λ w w'. next is w ≡ true → Alike loose w w') (λ e. absurd cc) (λ k u u' e. quiet_alike loose k u u' (loud k e))

pub alike_peek : (loose : Bool) (w w' : List TokenKind) → Alike loose w w' → peek w ≡ peek w'
alike_peek false w w' a = a
alike_peek true w w' a = a.0

-- ---- results

pub lock_eq : {T : Type 0} {core : T → T} {loose : Bool} {v v' : List TokenKind} {y y' z z' : Read T} → z ≡ y → z' ≡ y' → Lock core loose v v' y y' → Lock core loose v v' z z'
lock_eq e e' (ok t r a b) = ok t r (e ∙ a) (λ al. e' ∙ b al)
lock_eq e e' (bad j k k' a b c d) = bad j k k' (e ∙ a) (e' ∙ b) c d
lock_eq {v = v} e e' (past l) = past (subst (λ (z : Read _). left z < length v) (sym e) l)

pub lock_loose : {T : Type 0} {core : T → T} (loose : Bool) {v v' : List TokenKind} {y y' : Read T} → Lock core false v v' y y' → Lock core loose v v' y y'
lock_loose loose {v = v} {v' = v'} (ok t r a b) = ok t r a (λ al. b (alike_peek loose (r ++ v) (r ++ v') al))
lock_loose loose (bad j k k' a b c d) = bad j k k' a b c d
lock_loose loose (past l) = past l

pub left_made : {A B : Type 0} (mk : A → B) (y : Read A) → left (y >>= made mk) ≡ left y
left_made mk (Ok x) = refl
left_made mk (Err k) = refl

pub left_bind : {A B : Type 0} (g : A × List TokenKind → Read B) → ((x : A × List TokenKind) → left (g x) ≤ length x.1) → (y : Read A) → left (y >>= g) ≤ left y
left_bind g falls (Ok x) = falls x
left_bind g falls (Err k) = omega arith

pub lock_made : {A B : Type 0} {coreA : A → A} {coreB : B → B} {loose : Bool} {v v' : List TokenKind} {y y' : Read A} (mk mk' : A → B) → ((a : A) → coreB (mk a) ≡ mk' (coreA a)) → Lock coreA loose v v' y y' → Lock coreB loose v v' (y >>= made mk) (y' >>= made mk')
lock_made {v = v} {v' = v'} mk mk' c (ok t r a b) = ok (mk t) r (ap (λ (z : Read _). z >>= made mk) a) (λ al. ap (λ (z : Read _). z >>= made mk') (b al) ∙ ap (λ (z : _). Ok (z, r ++ v')) (sym (c t)))
lock_made mk mk' c (bad j k k' a b d e) = bad j k k' (ap (λ (z : Read _). z >>= made mk) a) (ap (λ (z : Read _). z >>= made mk') b) d e
lock_made {y = y} mk mk' c (past l) = past (let same_left = left_made mk y in omega arith)

-- what a second reader does where the first one stopped
pub data After {A B : Type 0} (coreA : A → A) (coreB : B → B) (first second : Bool) (v v' : List TokenKind) (g g' : A × List TokenKind → Read B) (a : A) (r : List TokenKind) : Type 0 where
  goes : Alike first (r ++ v) (r ++ v') → Lock coreB second v v' (g (a, r ++ v)) (g' (coreA a, r ++ v')) → After coreA coreB first second v v' g g' a r
  idles : (b : B) → g (a, r ++ v) ≡ Ok (b, r ++ v) → (Alike second (r ++ v) (r ++ v') → Alike first (r ++ v) (r ++ v') × (g' (coreA a, r ++ v') ≡ Ok (coreB b, r ++ v'))) → After coreA coreB first second v v' g g' a r
  leaps : left (g (a, r ++ v)) < length v → After coreA coreB first second v v' g g' a r

module _ {A B : Type 0} {coreA : A → A} {coreB : B → B} {first second : Bool} {v v' : List TokenKind} (g g' : A × List TokenKind → Read B) where
  lock_after : {y y' : Read A} (a : A) (r : List TokenKind) → y ≡ Ok (a, r ++ v) → (Alike first (r ++ v) (r ++ v') → y' ≡ Ok (coreA a, r ++ v')) → After coreA coreB first second v v' g g' a r → Lock coreB second v v' (y >>= g) (y' >>= g')
  lock_after a r e k (goes al lock) = lock_eq (ap (λ (z : Read A). z >>= g) e) (ap (λ (z : Read A). z >>= g') (k al)) lock
  lock_after a r e k (idles b eb kb) = ok b r (ap (λ (z : Read A). z >>= g) e ∙ eb) (λ al. ap (λ (z : Read A). z >>= g') (k (kb al).0) ∙ (kb al).1)
  lock_after a r e k (leaps l) = past (subst (λ (z : Read B). left z < length v) (sym (ap (λ (z : Read A). z >>= g) e)) l)

  pub lock_bind : {y y' : Read A} → ((x : A × List TokenKind) → left (g x) ≤ length x.1) → Lock coreA first v v' y y' → ((a : A) (r : List TokenKind) → y ≡ Ok (a, r ++ v) → After coreA coreB first second v v' g g' a r) → Lock coreB second v v' (y >>= g) (y' >>= g')
  lock_bind falls (ok a r e k) after = lock_after a r e k (after a r e)
  lock_bind falls (bad j k k' a b c d) after = bad j k k' (ap (λ (z : Read A). z >>= g) a) (ap (λ (z : Read A). z >>= g') b) c d
  lock_bind {y = y} falls (past l) after = past (let fall = left_bind g falls y in omega arith)

-- ---- readers

module _ {T : Type 0} {core : T → T} {loose : Bool} {n n' : ℕ} {f f' : Reader T} where
  pub steady_eq : (h h' : Reader T) → ((w : List TokenKind) → h w ≡ f w) → ((w : List TokenKind) → h' w ≡ f' w) → Steady core loose n n' f f' → Steady core loose n n' h h'
  steady_eq h h' e e' l = record {
    within = λ w. subst (λ (z : Read T). left z ≤ length w) (sym (e w)) (l.within w);
    kept = λ p v v' pk s s'. lock_eq (e (p ++ v)) (e' (p ++ v')) (l.kept p v v' pk s s');
  }

  pub cut : (m m' : ℕ) → m ≤ n → m' ≤ n' → Steady core loose n n' f f' → Steady core loose m m' f f'
  cut m m' le le' l = record { within = l.within; kept = λ p v v' pk s s'. l.kept p v v' pk (omega arith) (omega arith) }

pub loosen : {T : Type 0} {core : T → T} (loose : Bool) {n n' : ℕ} {f f' : Reader T} → Steady core false n n' f f' → Steady core loose n n' f f'
loosen loose l = record { within = l.within; kept = λ p v v' pk s s'. lock_loose loose (l.kept p v v' pk s s') }

-- a reader whose depth is the length of the list
pub at_length : {T : Type 0} {core : T → T} {loose : Bool} {n n' : ℕ} (f f' : ℕ → Reader T) → ((m m' : ℕ) → Steady core loose (suc m) (suc m') (f m) (f' m')) → Steady core loose n n' (λ w. f (length w) w) (λ w. f' (length w) w)
at_length f f' l = record {
  within = λ w. (l (length w) 0).within w;
  kept = λ p v v' pk s s'. (l (length (p ++ v)) (length (p ++ v'))).kept p v v' pk (omega arith) (omega arith);
}

-- nothing is read
pub given : {T : Type 0} {core : T → T} {loose : Bool} {n n' : ℕ} (c : ℕ → T) (c' : T) → ((l : ℕ) → core (c l) ≡ c') → Steady core loose n n' (λ w. Ok (c (length w), w)) (λ w. Ok (c', w))
given c c' e = record {
  within = λ w. omega arith;
  kept = λ p v v' pk s s'. ok (c (length (p ++ v))) p refl (λ al. ap (λ (z : _). Ok (z, p ++ v')) (sym (e (length (p ++ v)))));
}

-- the value, changed by a function that may see how many tokens there were
pub made_at : {A B : Type 0} {coreA : A → A} {coreB : B → B} {loose : Bool} {n n' : ℕ} {f f' : Reader A} (mk : ℕ → A → B) (mk' : A → B) → ((l : ℕ) (a : A) → coreB (mk l a) ≡ mk' (coreA a)) → Steady coreA loose n n' f f' → Steady coreB loose n n' (λ w. f w >>= made (mk (length w))) (λ w. f' w >>= made mk')
made_at {f = f} {f' = f'} mk mk' c lf = record {
  within = λ w. let same_left = left_made (mk (length w)) (f w) in let short = lf.within w in omega arith;
  kept = λ p v v' pk s s'. lock_made (mk (length (p ++ v))) mk' (c (length (p ++ v))) (lf.kept p v v' pk s s');
}

-- where a second reader reads nothing unless a certain token stands next
module _ {A B : Type 0} {coreA : A → A} {coreB : B → B} (g g' : A → Reader B) (is : TokenKind → Bool) (loud : (k : TokenKind) → is k ≡ true → quiet k ≡ true) (c : A → B) (rests : (a : A) (w : List TokenKind) → next is w ≡ false → g a w ≡ Ok (c a, w)) (rests' : (a : A) (w : List TokenKind) → next is w ≡ false → g' (coreA a) w ≡ Ok (coreB (c a), w)) where
  turn : (loose first : Bool) (v v' : List TokenKind) → peek v ≡ peek v' → (a : A) (r : List TokenKind) → Lock coreB loose v v' (g a (r ++ v)) (g' (coreA a) (r ++ v')) → (Alike loose (r ++ v) (r ++ v') → Alike first (r ++ v) (r ++ v')) → (next is (r ++ v) ≡ true) ⊎ (next is (r ++ v) ≡ false)
      → After coreA coreB first loose v v' (λ (x : A × List TokenKind). g x.0 x.1) (λ (x : A × List TokenKind). g' x.0 x.1) a r
  turn loose first v v' pk a r lock al (inl e) = goes (alike_is first is loud (r ++ v) (r ++ v') (peek_front r v v' pk) e) lock
  turn loose first v v' pk a r lock al (inr e) = idles (c a) (rests a (r ++ v) e) (λ h. (al h, rests' a (r ++ v') (sym (next_same is (r ++ v) (r ++ v') (peek_front r v v' pk)) ∙ e)))

-- one after the other, the second by the first one's value
module _ {A B : Type 0} {coreA : A → A} {coreB : B → B} {n n' : ℕ} {f f' : Reader A} (g g' : A → Reader B) where
  falls : (loose first : Bool) → Steady coreA first n n' f f' → ((a : A) → Steady coreB loose n n' (g a) (g' (coreA a))) → (w : List TokenKind) → left (f w >>= λ x. g x.0 x.1) ≤ length w
  falls loose first lf lg w = let fall = left_bind (λ (x : A × List TokenKind). g x.0 x.1) (λ x. (lg x.0).within x.1) (f w) in let short = lf.within w in omega arith

  second : (loose first : Bool) → Steady coreA first n n' f f' → ((a : A) → Steady coreB loose n n' (g a) (g' (coreA a))) → (p v v' : List TokenKind) → peek v ≡ peek v' → length (p ++ v) < n → length (p ++ v') < n' → (a : A) (r : List TokenKind) → f (p ++ v) ≡ Ok (a, r ++ v) → Lock coreB loose v v' (g a (r ++ v)) (g' (coreA a) (r ++ v'))
  second loose first lf lg p v v' pk s s' a r e =
      let short = lf.within (p ++ v) in
      let stops : left (f (p ++ v)) ≡ length (r ++ v) = ap left e in
      (lg a).kept r v v' pk (omega arith) (omega (arith, length-append p v, length-append p v', length-append r v, length-append r v'))

  pub seq_near : {loose : Bool} → Steady coreA false n n' f f' → ((a : A) → Steady coreB loose n n' (g a) (g' (coreA a))) → Steady coreB loose n n' (λ w. f w >>= λ x. g x.0 x.1) (λ w. f' w >>= λ x. g' x.0 x.1)
  seq_near {loose = loose} lf lg = record {
    within = falls loose false lf lg;
    kept = λ p v v' pk s s'. lock_bind (λ (x : A × List TokenKind). g x.0 x.1) (λ (x : A × List TokenKind). g' x.0 x.1) (λ x. (lg x.0).within x.1) (lf.kept p v v' pk s s') (λ a r e. goes (peek_front r v v' pk) (second loose false lf lg p v v' pk s s' a r e));
  }

  -- where the second reads nothing unless a certain token stands next
  module _ (is : TokenKind → Bool) (loud : (k : TokenKind) → is k ≡ true → quiet k ≡ true) (c : A → B) (rests : (a : A) (w : List TokenKind) → next is w ≡ false → g a w ≡ Ok (c a, w)) (rests' : (a : A) (w : List TokenKind) → next is w ≡ false → g' (coreA a) w ≡ Ok (coreB (c a), w)) where
    pub seq_by : {loose : Bool} → Steady coreA loose n n' f f' → ((a : A) → Steady coreB loose n n' (g a) (g' (coreA a))) → Steady coreB loose n n' (λ w. f w >>= λ x. g x.0 x.1) (λ w. f' w >>= λ x. g' x.0 x.1)
    seq_by {loose = loose} lf lg = record {
      within = falls loose loose lf lg;
      kept = λ p v v' pk s s'. lock_bind (λ (x : A × List TokenKind). g x.0 x.1) (λ (x : A × List TokenKind). g' x.0 x.1) (λ x. (lg x.0).within x.1) (lf.kept p v v' pk s s') (λ a r e. turn g g' is loud c rests rests' loose loose v v' pk a r (second loose loose lf lg p v v' pk s s' a r e) (λ h. h) (decide (next is (r ++ v))));
    }

module _ {A B : Type 0} {coreA : A → A} {coreB : B → B} {n n' : ℕ} {f f' : Reader A} (g g' : A → Reader B) (loose first : Bool) (far : (a : A) (r v v' : List TokenKind) → peek v ≡ peek v' → Alike first (r ++ v) (r ++ v') ⊎ (left (g a (r ++ v)) < length v)) (lf : Steady coreA first n n' f f') (lg : (a : A) → Steady coreB loose n n' (g a) (g' (coreA a))) where
  on_or_past : (a : A) (r v v' : List TokenKind) → Lock coreB loose v v' (g a (r ++ v)) (g' (coreA a) (r ++ v')) → Alike first (r ++ v) (r ++ v') ⊎ (left (g a (r ++ v)) < length v) → After coreA coreB first loose v v' (λ (x : A × List TokenKind). g x.0 x.1) (λ (x : A × List TokenKind). g' x.0 x.1) a r
  on_or_past a r v v' lock (inl al) = goes al lock
  on_or_past a r v v' lock (inr l) = leaps l

  -- where the second reads past what is shared, or the rest looks the same to the first
  pub seq_far : Steady coreB loose n n' (λ w. f w >>= λ x. g x.0 x.1) (λ w. f' w >>= λ x. g' x.0 x.1)
  seq_far = record {
    within = falls g g' loose first lf lg;
    kept = λ p v v' pk s s'. lock_bind (λ (x : A × List TokenKind). g x.0 x.1) (λ (x : A × List TokenKind). g' x.0 x.1) (λ x. (lg x.0).within x.1) (lf.kept p v v' pk s s') (λ a r e. on_or_past a r v v' (second g g' loose first lf lg p v v' pk s s' a r e) (far a r v v' pk));
  }

-- pairs
paired : {A B : Type 0} (coreA : A → A) {coreB : B → B} {n n' : ℕ} {g g' : Reader B} {loose : Bool} (a : A) → Steady coreB loose n n' g g' → Steady (pair_core coreA coreB) loose n n' (λ w. g w >>= made (λ (b : B). (a, b))) (λ w. g' w >>= made (λ (b : B). (coreA a, b)))
paired coreA a lg = made_at (λ l b. (a, b)) (λ b. (coreA a, b)) (λ l b. refl) lg

module _ {A B : Type 0} {coreA : A → A} {coreB : B → B} {n n' : ℕ} {f f' : Reader A} {g g' : Reader B} where
  pub both_near : {loose : Bool} → Steady coreA false n n' f f' → Steady coreB loose n n' g g' → Steady (pair_core coreA coreB) loose n n' (both f g) (both f' g')
  both_near lf lg = seq_near (λ (a : A) (w : List TokenKind). g w >>= made (λ (b : B). (a, b))) (λ (a : A) (w : List TokenKind). g' w >>= made (λ (b : B). (a, b))) lf (λ a. paired coreA a lg)

  pub both_by : {loose : Bool} (is : TokenKind → Bool) → ((k : TokenKind) → is k ≡ true → quiet k ≡ true) → (c : B) → ((w : List TokenKind) → next is w ≡ false → g w ≡ Ok (c, w)) → ((w : List TokenKind) → next is w ≡ false → g' w ≡ Ok (coreB c, w)) → Steady coreA loose n n' f f' → Steady coreB loose n n' g g' → Steady (pair_core coreA coreB) loose n n' (both f g) (both f' g')
  both_by is loud c rests rests' lf lg =
      seq_by (λ (a : A) (w : List TokenKind). g w >>= made (λ (b : B). (a, b))) (λ (a : A) (w : List TokenKind). g' w >>= made (λ (b : B). (a, b))) is loud (λ a. (a, c))
      (λ a w e. ap (λ (z : Read B). z >>= made (λ (b : B). (a, b))) (rests w e)) (λ a w e. ap (λ (z : Read B). z >>= made (λ (b : B). (coreA a, b))) (rests' w e)) lf (λ a. paired coreA a lg)

pair_far : {A B : Type 0} (a : A) (y : Read B) (l : ℕ) {X : Type 0} → X ⊎ (left y < l) → X ⊎ (left {T = A × B} (y >>= made (λ (b : B). (a, b))) < l)
pair_far a y l (inl x) = inl x
pair_far {A = A} {B = B} a y l (inr far) = inr (let mk : B → A × B = λ b. (a, b) in let same_left : left (y >>= made mk) ≡ left y = left_made mk y in omega arith)

module _ {A B : Type 0} {coreA : A → A} {coreB : B → B} {n n' : ℕ} {f f' : Reader A} {g g' : Reader B} (loose first : Bool) (far : (r v v' : List TokenKind) → peek v ≡ peek v' → Alike first (r ++ v) (r ++ v') ⊎ (left (g (r ++ v)) < length v)) where
  pub both_far : Steady coreA first n n' f f' → Steady coreB loose n n' g g' → Steady (pair_core coreA coreB) loose n n' (both f g) (both f' g')
  both_far lf lg = seq_far (λ (a : A) (w : List TokenKind). g w >>= made (λ (b : B). (a, b))) (λ (a : A) (w : List TokenKind). g' w >>= made (λ (b : B). (a, b))) loose first (λ a r v v' pk. pair_far a (g (r ++ v)) (length v) (far r v v' pk)) lf (λ a. paired coreA a lg)

-- ---- by the first token

pub data Stop {T : Type 0} (core : T → T) (f f' : Reader T) : Type 0 where
  fails : f [] ≡ Err 0 → f' [] ≡ Err 0 → Stop core f f'
  gives : (c : T) → f [] ≡ Ok (c, []) → f' [] ≡ Ok (core c, []) → Stop core f f'

pub data Arm {T : Type 0} (core : T → T) (loose : Bool) (n n' : ℕ) (f f' : Reader T) (k : TokenKind) : Type 0 where
  fault : ((u : List TokenKind) → f (k ∷ u) ≡ Err (suc (length u))) → ((u : List TokenKind) → f' (k ∷ u) ≡ Err (suc (length u))) → Arm core loose n n' f f' k
  idle : (c : ℕ → T) (c' : T) → ((u : List TokenKind) → f (k ∷ u) ≡ Ok (c (length u), k ∷ u)) → ((u : List TokenKind) → f' (k ∷ u) ≡ Ok (c', k ∷ u)) → ((l : ℕ) → core (c l) ≡ c') → Arm core loose n n' f f' k
  reads : Steady core loose n n' (λ u. f (k ∷ u)) (λ u. f' (k ∷ u)) → Arm core loose n n' f f' k

stop_within : {T : Type 0} {core : T → T} {f f' : Reader T} → Stop core f f' → left (f []) ≤ 0
stop_within {f = f} (fails e e') = let l : left (f []) ≡ 0 = ap left e in omega arith
stop_within {f = f} (gives c e e') = let l : left (f []) ≡ 0 = ap left e in omega arith

at_end : {T : Type 0} {core : T → T} (loose : Bool) {f f' : Reader T} → Stop core f f' → Lock core loose [] [] (f []) (f' [])
at_end loose (fails e e') = bad 0 0 0 e e' (omega arith) (omega arith)
at_end loose (gives c e e') = ok c [] e (λ al. e')

module _ {T : Type 0} {core : T → T} {loose : Bool} {n n' : ℕ} {f f' : Reader T} where
  arm_within : (k : TokenKind) (u : List TokenKind) → Arm core loose n n' f f' k → left (f (k ∷ u)) ≤ suc (length u)
  arm_within k u (fault e e') = let l : left (f (k ∷ u)) ≡ suc (length u) = ap left (e u) in omega arith
  arm_within k u (idle c c' e e' h) = let l : left (f (k ∷ u)) ≡ length (k ∷ u) = ap left (e u) in omega arith
  arm_within k u (reads l) = let short = l.within u in omega arith

  at_token : (k : TokenKind) (u u' : List TokenKind) → Arm core loose n n' f f' k → Lock core loose (k ∷ u) (k ∷ u') (f (k ∷ u)) (f' (k ∷ u'))
  at_token k u u' (fault e e') = bad 0 (suc (length u)) (suc (length u')) (e u) (e' u') (omega arith) (omega arith)
  at_token k u u' (idle c c' e e' h) = ok (c (length u)) [] (e u) (λ al. e' u' ∙ ap (λ (z : T). Ok (z, k ∷ u')) (sym (h (length u))))
  at_token k u u' (reads l) = past (let short = l.within u in omega arith)

  behind_token : (k : TokenKind) (p v v' : List TokenKind) → peek v ≡ peek v' → length (k ∷ (p ++ v)) < suc n → length (k ∷ (p ++ v')) < suc n' → Arm core loose n n' f f' k → Lock core loose v v' (f (k ∷ (p ++ v))) (f' (k ∷ (p ++ v')))
  behind_token k p v v' pk s s' (fault e e') = bad (suc (length p)) (suc (length (p ++ v))) (suc (length (p ++ v'))) (e (p ++ v)) (e' (p ++ v')) (omega (arith, length-append p v)) (omega (arith, length-append p v'))
  behind_token k p v v' pk s s' (idle c c' e e' h) = ok (c (length (p ++ v))) (k ∷ p) (e (p ++ v)) (λ al. e' (p ++ v') ∙ ap (λ (z : T). Ok (z, k ∷ (p ++ v'))) (sym (h (length (p ++ v)))))
  behind_token k p v v' pk s s' (reads l) = l.kept p v v' pk (omega arith) (omega arith)

  first_within : Stop core f f' → ((k : TokenKind) → Arm core loose n n' f f' k) → (w : List TokenKind) → left (f w) ≤ length w
  first_within stop arms [] = stop_within stop
  first_within stop arms (k ∷ u) = arm_within k u (arms k)

  first_kept : Stop core f f' → ((k : TokenKind) → Arm core loose n n' f f' k) → (p v v' : List TokenKind) → peek v ≡ peek v' → length (p ++ v) < suc n → length (p ++ v') < suc n' → Lock core loose v v' (f (p ++ v)) (f' (p ++ v'))
  first_kept stop arms [] v v' pk s s' = peeked (λ v v'. Lock core loose v v' (f v) (f' v')) (at_end loose stop) (λ k u u'. at_token k u u' (arms k)) v v' pk
  first_kept stop arms (k ∷ p) v v' pk s s' = behind_token k p v v' pk s s' (arms k)

  pub by_first : Stop core f f' → ((k : TokenKind) → Arm core loose n n' f f' k) → Steady core loose (suc n) (suc n') f f'
  by_first stop arms = record { within = first_within stop arms; kept = first_kept stop arms }

-- by a test of the next token
module _ {T : Type 0} {core : T → T} {loose : Bool} {n n' : ℕ} {g g' h h' : Reader T} (is : TokenKind → Bool) (f f' : Reader T)
    (eg : (w : List TokenKind) → next is w ≡ true → f w ≡ g w) (eg' : (w : List TokenKind) → next is w ≡ true → f' w ≡ g' w) (eh : (w : List TokenKind) → next is w ≡ false → f w ≡ h w) (eh' : (w : List TokenKind) → next is w ≡ false → f' w ≡ h' w)
    (lg : Steady core loose n n' g g') (lh : Steady core loose n n' h h') where
  either_within : (w : List TokenKind) → (next is w ≡ true) ⊎ (next is w ≡ false) → left (f w) ≤ length w
  either_within w (inl e) = subst (λ (z : Read T). left z ≤ length w) (sym (eg w e)) (lg.within w)
  either_within w (inr e) = subst (λ (z : Read T). left z ≤ length w) (sym (eh w e)) (lh.within w)

  either_kept : (p v v' : List TokenKind) → peek v ≡ peek v' → length (p ++ v) < n → length (p ++ v') < n' → (next is (p ++ v) ≡ true) ⊎ (next is (p ++ v) ≡ false) → Lock core loose v v' (f (p ++ v)) (f' (p ++ v'))
  either_kept p v v' pk s s' (inl e) = lock_eq (eg (p ++ v) e) (eg' (p ++ v') (sym (next_same is (p ++ v) (p ++ v') (peek_front p v v' pk)) ∙ e)) (lg.kept p v v' pk s s')
  either_kept p v v' pk s s' (inr e) = lock_eq (eh (p ++ v) e) (eh' (p ++ v') (sym (next_same is (p ++ v) (p ++ v') (peek_front p v v' pk)) ∙ e)) (lh.kept p v v' pk s s')

  pub branch : Steady core loose n n' f f'
  branch = record {
    within = λ w. either_within w (decide (next is w));
    kept = λ p v v' pk s s'. either_kept p v v' pk s s' (decide (next is (p ++ v)));
  }
