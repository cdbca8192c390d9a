-- The letters of answers are the texts that pass the test.
use Rattle.std.proofs.Common.{◌≡◌, ◌≢◌, ℕ, List, [], ◌∷◌, ◌≤◌, length, refl, ap, subst, ◌||◌, Bool, true, false, eqb, map, arith, sym, ◌∙◌}
use Rattle.std.specs.List.{list_all}
use Rattle.std.proofs.lemmas.Bool.{and_parts, and_from, eq-eqb, ne_eqb, eqb-true}
use Rattle.std.proofs.Math.Bool.{or-true}
use Rattle.trace_log.specs.Marks.{is_letter, are_letters, told_by}
use Rattle.trace_log.specs.Texts.{letter, letters}

letter_passes : (one other : ℕ) (a : Bool) → is_letter one other (letter one other a) ≡ true
letter_passes one other true = rw (eq-eqb one one refl) refl
letter_passes one other false = rw (eq-eqb other other refl) (or-true _)

all_pass : (one other : ℕ) (xs : List Bool) → list_all (is_letter one other) (map (letter one other) xs) ≡ true
all_pass one other [] = refl
all_pass one other (a ∷ more) = and_from _ _ (letter_passes one other a) (all_pass one other more)

pub letters_pass : (one other : ℕ) (xs : List Bool) → are_letters one other (letters one other xs) ≡ true
unfolding letters
letters_pass one other [] = refl
letters_pass one other (a ∷ []) = rw (letter_passes one other a) (or-true _)
letters_pass one other (a ∷ b ∷ more) = all_pass one other (a ∷ b ∷ more)

-- the answer of a letter
letter_back : (one other b : ℕ) → is_letter one other b ≡ true → (a : Bool) × (b ≡ letter one other a)
letter_back one other b h = by_test (eqb b one) refl
  where
    by_test : (t : Bool) → eqb b one ≡ t → (a : Bool) × (b ≡ letter one other a)
    by_test true e = (true, eqb-true b one e)
    by_test false e = (false, eqb-true b other (subst (λ x. (x || eqb b other) ≡ true) e h))

all_back : (one other : ℕ) (bs : List ℕ) → list_all (is_letter one other) bs ≡ true → (xs : List Bool) × (bs ≡ map (letter one other) xs)
all_back one other [] h = ([], refl)
all_back one other (b ∷ bs) h =
    let p = and_parts (is_letter one other b) (list_all (is_letter one other) bs) h in
    let first = letter_back one other b p.0 in
    let more = all_back one other bs p.1 in
    (first.0 ∷ more.0, cc)

pub letters_back : (one other : ℕ) (bs : List ℕ) → are_letters one other bs ≡ true → (xs : List Bool) × (bs ≡ letters one other xs)
unfolding letters
letters_back one other [] h = absurd cc
letters_back one other (b ∷ []) h = by_test (eqb b 45) refl
  where
    by_test : (t : Bool) → eqb b 45 ≡ t → (xs : List Bool) × ((b ∷ []) ≡ letters one other xs)
    by_test true e = ([], ap (λ n. n ∷ []) (eqb-true b 45 e))
    by_test false e =
        let passes : is_letter one other b ≡ true = subst (λ x. (x || is_letter one other b) ≡ true) e h in
        let first = letter_back one other b passes in
        (first.0 ∷ [], ap (λ n. n ∷ []) first.1)
letters_back one other (b ∷ c ∷ bs) h =
    let p = and_parts (is_letter one other b) (list_all (is_letter one other) (c ∷ bs)) h in
    let first = letter_back one other b p.0 in
    let more = all_back one other (c ∷ bs) p.1 in
    (first.0 ∷ more.0, cc)

pub many_letters : (one other : ℕ) (bs : List ℕ) → 2 ≤ length bs → list_all (is_letter one other) bs ≡ are_letters one other bs
many_letters one other [] h = absurd (omega arith)
many_letters one other (b ∷ []) h = absurd (omega arith)
many_letters one other (b ∷ c ∷ bs) h = refl

-- letters tell the answers that they are of
letter_told : (one other : ℕ) (a : Bool) → one ≢ other → eqb (letter one other a) one ≡ a
letter_told one other true apart = eq-eqb one one refl
letter_told one other false apart = ne_eqb other one (λ e. apart (sym e))

each_told : (one other : ℕ) (xs : List Bool) → one ≢ other → map (λ x. eqb x one) (map (letter one other) xs) ≡ xs
each_told one other [] apart = refl
each_told one other (a ∷ more) apart = rw (letter_told one other a apart, each_told one other more apart) refl

letter_no_stroke : (one other : ℕ) (a : Bool) → 45 ≢ one → 45 ≢ other → eqb (letter one other a) 45 ≡ false
letter_no_stroke one other true p q = ne_eqb one 45 (λ e. p (sym e))
letter_no_stroke one other false p q = ne_eqb other 45 (λ e. q (sym e))

pub letters_told : (one other : ℕ) (xs : List Bool) → one ≢ other → 45 ≢ one → 45 ≢ other → told_by one (letters one other xs) ≡ xs
unfolding letters
letters_told one other [] apart p q = refl
letters_told one other (a ∷ []) apart p q = rw (letter_no_stroke one other a p q, letter_told one other a apart) refl
letters_told one other (a ∷ b ∷ more) apart p q = each_told one other (a ∷ b ∷ more) apart

-- the same letters are those of the same answers
pub one_letters : (one other : ℕ) (xs ys : List Bool) → one ≢ other → 45 ≢ one → 45 ≢ other → letters one other xs ≡ letters one other ys → xs ≡ ys
one_letters one other xs ys apart p q e = sym (letters_told one other xs apart p q) ∙ ap (told_by one) e ∙ letters_told one other ys apart p q
