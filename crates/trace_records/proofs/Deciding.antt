-- The test of a window decides whether its answers fit.
use Rattle.std.proofs.Common.{◌≡◌, ◌≤◌, ◌<◌, ◌+◌, ◌-◌, ◌⊎◌, ◌&&◌, ℕ, zero, suc, Bool, true, false, cond, is_some, Option, Some, None, List, [], ◌∷◌, ◌++◌, length, map, refl, sym, ap, ◌∙◌, subst, arith, inl, inr, true≢false, ⊎_elim, nat_le, nat_lt}
use Rattle.std.proofs.lemmas.Bool.Decides.{nat_tests}
use Rattle.frame_core.specs.Frames.{somes}
use Rattle.trace_records.specs.Told.{yes, AtNo, Fits, Passed, passed, refusals_fit, begins_true, is_legal, IsToldLegal}
use Rattle.trace_records.proofs.Fitting.{at_none, at_true, at_false, from_true, from_false, here_false, legal_fits, fits_legal}

both_true : (a b : Bool) → a && b ≡ true → (a ≡ true) × (b ≡ true)
both_true true b e = (refl, e)
both_true false b e = absurd (true≢false (sym e))

and_true : (a b : Bool) → a ≡ true → b ≡ true → a && b ≡ true
and_true a b e f = ap (λ (x : Bool). x && b) e ∙ f

le_is : (m n : ℕ) → nat_le m n ≡ true → m ≤ n
le_is m n e = grind (arith, nat_tests)

is_le : (m n : ℕ) → m ≤ n → nat_le m n ≡ true
is_le m n low = grind (arith, nat_tests)

-- a put behind so many chunks may be refused, by the empty takes that are left
pub record IsClear (C floor got : ℕ) (ts : List Bool) (u : ℕ) : Type 0 where
  pub high : floor ≤ u
  pub apart : AtNo ts (λ g. (u ≤ got + g) ⊎ ((got + g) + C ≤ u))

clear_got : (C floor got : ℕ) (ts : List Bool) (u : ℕ) → IsClear C floor got (true ∷ ts) u → IsClear C floor (suc got) ts u
clear_got C floor got ts u is = record {
  high = is.high;
  apart = λ front behind e. ⊎_elim (λ a. inl (omega (arith, a))) (λ b. inr (omega (arith, b)))
      (from_true ts (λ g. (u ≤ got + g) ⊎ ((got + g) + C ≤ u)) is.apart front behind e);
}

got_clear : (C floor got : ℕ) (ts : List Bool) (u : ℕ) → IsClear C floor (suc got) ts u → IsClear C floor got (true ∷ ts) u
got_clear C floor got ts u is = record {
  high = is.high;
  apart = at_true ts (λ g. (u ≤ got + g) ⊎ ((got + g) + C ≤ u)) (λ front behind e. ⊎_elim (λ a. inl (omega (arith, a))) (λ b. inr (omega (arith, b)))
      (is.apart front behind e));
}

clear_empty : (C floor got x : ℕ) (ts : List Bool) (u : ℕ) → got < x → x ≤ u → IsClear C floor got (false ∷ ts) u → IsClear C (got + C) got ts u
clear_empty C floor got x ts u less low is = record {
  high = ⊎_elim (λ a. absurd (omega (arith, a, less, low))) (λ b. omega (arith, b)) (here_false ts (λ g. (u ≤ got + g) ⊎ ((got + g) + C ≤ u)) is.apart);
  apart = from_false ts (λ g. (u ≤ got + g) ⊎ ((got + g) + C ≤ u)) is.apart;
}

empty_clear : (C floor got : ℕ) (ts : List Bool) (u : ℕ) → floor ≤ got + C → IsClear C (got + C) got ts u → IsClear C floor got (false ∷ ts) u
empty_clear C floor got ts u within is = record {
  high = omega (arith, within, is.high);
  apart = at_false ts (λ g. (u ≤ got + g) ⊎ ((got + g) + C ≤ u)) (inr (omega (arith, is.high))) is.apart;
}

-- what passing by takes keeps
pub record Passes (C x got floor : ℕ) (ts : List Bool) (p : Passed) : Type 0 where
  pub within : p.floor ≤ p.got + C
  pub goes : (u : ℕ) → x ≤ u → IsClear C floor got ts u → IsClear C p.floor p.got p.left u
  pub back : (u : ℕ) → x ≤ u → IsClear C p.floor p.got p.left u → IsClear C floor got ts u
  pub here : p.floor ≤ x → IsClear C p.floor p.got p.left x

pub passes : (C x got floor : ℕ) (ts : List Bool) → floor ≤ got + C → Passes C x got floor ts (passed C x got floor ts)
passes C x got floor [] within = record {
  within = within;
  goes = λ u low is. is;
  back = λ u low is. is;
  here = λ high. record { high = high; apart = at_none (λ g. (x ≤ got + g) ⊎ ((got + g) + C ≤ x)) };
}
passes C x got floor (true ∷ ts) within =
    let more = passes C x (suc got) floor ts (omega (arith, within)) in
    record {
      within = more.within;
      goes = λ u low is. more.goes u low (clear_got C floor got ts u is);
      back = λ u low is. got_clear C floor got ts u (more.back u low is);
      here = more.here;
    }
passes C x got floor (false ∷ ts) within = by (nat_lt got x) refl (passes C x got (got + C) ts (omega arith))
  where
    by : (s : Bool) → nat_lt got x ≡ s → Passes C x got (got + C) ts (passed C x got (got + C) ts)
        → Passes C x got floor (false ∷ ts) (cond s (passed C x got (got + C) ts) (record { got = got; floor = floor; left = false ∷ ts }))
    by true e more =
        let less : got < x = grind (arith, nat_tests) in
        record {
          within = more.within;
          goes = λ u low is. more.goes u low (clear_empty C floor got x ts u less low is);
          back = λ u low is. empty_clear C floor got ts u within (more.back u low is);
          here = more.here;
        }
    by false e more =
        let most : x ≤ got = grind (arith, nat_tests) in
        record {
          within = within;
          goes = λ u low is. is;
          back = λ u low is. is;
          here = λ high. record { high = high; apart = λ front behind f. inl (omega (arith, most)) };
        }

-- the test of the refused puts
pub fit_clear : (C count got floor : ℕ) (ps ts : List Bool) → floor ≤ got + C → refusals_fit C count got floor ps ts ≡ true → AtNo ps (λ put. IsClear C floor got ts (count + put))
fit_clear C count got floor [] ts within e = at_none (λ put. IsClear C floor got ts (count + put))
fit_clear C count got floor (true ∷ ps) ts within e =
    at_true ps (λ put. IsClear C floor got ts (count + put)) (λ before after f.
    let same : suc count + yes before ≡ count + suc (yes before) = omega arith in
    subst (IsClear C floor got ts) same (fit_clear C (suc count) got floor ps ts within e before after f))
fit_clear C count got floor (false ∷ ps) ts within e =
    let p : Passed = passed C count got floor ts in
    let is : Passes C count got floor ts p = passes C count got floor ts within in
    let tests = both_true (nat_le p.floor count) (refusals_fit C count p.got p.floor ps p.left) e in
    let zero_more : count ≡ count + 0 = omega arith in
    at_false ps (λ put. IsClear C floor got ts (count + put))
    (subst (IsClear C floor got ts) zero_more (is.back count (omega arith) (is.here (le_is p.floor count tests.0))))
    (λ before after f. is.back (count + yes before) (omega arith) (fit_clear C count p.got p.floor ps p.left is.within tests.1 before after f))

pub clear_fit : (C count got floor : ℕ) (ps ts : List Bool) → floor ≤ got + C → AtNo ps (λ put. IsClear C floor got ts (count + put)) → refusals_fit C count got floor ps ts ≡ true
clear_fit C count got floor [] ts within is = refl
clear_fit C count got floor (true ∷ ps) ts within is =
    clear_fit C (suc count) got floor ps ts within (λ before after f.
    let same : count + suc (yes before) ≡ suc count + yes before = omega arith in
    subst (IsClear C floor got ts) same (from_true ps (λ put. IsClear C floor got ts (count + put)) is before after f))
clear_fit C count got floor (false ∷ ps) ts within is =
    let p : Passed = passed C count got floor ts in
    let pass : Passes C count got floor ts p = passes C count got floor ts within in
    let zero_more : count + 0 ≡ count = omega arith in
    let here : IsClear C floor got ts count = subst (IsClear C floor got ts) zero_more (here_false ps (λ put. IsClear C floor got ts (count + put)) is) in
    and_true (nat_le p.floor count) (refusals_fit C count p.got p.floor ps p.left) (is_le p.floor count (pass.goes count (omega arith) here).high)
    (clear_fit C count p.got p.floor ps p.left pass.within (λ before after f.
    pass.goes (count + yes before) (omega arith) (from_false ps (λ put. IsClear C floor got ts (count + put)) is before after f)))

-- the first answers are true
pub begins_is : (n : ℕ) (ts : List Bool) → begins_true n ts ≡ true → AtNo ts (λ g. n ≤ g)
begins_is zero ts e = λ before after f. omega arith
begins_is (suc n) [] e = at_none (λ g. suc n ≤ g)
begins_is (suc n) (true ∷ ts) e = at_true ts (λ g. suc n ≤ g) (λ before after f. omega (arith, begins_is n ts e before after f))
begins_is (suc n) (false ∷ ts) e = absurd (true≢false (sym e))

pub is_begins : (n : ℕ) (ts : List Bool) → AtNo ts (λ g. n ≤ g) → begins_true n ts ≡ true
is_begins zero ts is = refl
is_begins (suc n) [] is = refl
is_begins (suc n) (true ∷ ts) is = is_begins n ts (λ before after f. omega (arith, from_true ts (λ g. suc n ≤ g) is before after f))
is_begins (suc n) (false ∷ ts) is = absurd (omega (arith, here_false ts (λ g. suc n ≤ g) is))

pub test_fits : (C n : ℕ) (ps ts : List Bool) → is_legal C n ps ts ≡ true → Fits C n ps ts
test_fits C n ps ts e =
    let one = both_true (nat_le (yes ts) (n + yes ps)) _ e in
    let two = both_true (nat_le (n + yes ps) (C + yes ts)) _ one.1 in
    let three = both_true (begins_true n ts) (refusals_fit C n 0 C ps ts) two.1 in
    let clear = fit_clear C n 0 C ps ts (omega arith) three.1 in
    record {
      least = le_is (yes ts) (n + yes ps) one.0;
      most = le_is (n + yes ps) (C + yes ts) two.0;
      fulls = λ before after f. (clear before after f).high;
      empties = begins_is n ts three.0;
      apart = λ before after f front behind g. ⊎_elim (λ a. inl (omega (arith, a))) (λ b. inr (omega (arith, b))) ((clear before after f).apart front behind g);
    }

pub fits_test : (C n : ℕ) (ps ts : List Bool) → Fits C n ps ts → is_legal C n ps ts ≡ true
fits_test C n ps ts is =
    and_true _ _ (is_le (yes ts) (n + yes ps) is.least) (and_true _ _ (is_le (n + yes ps) (C + yes ts) is.most)
    (and_true _ _ (is_begins n ts is.empties) (clear_fit C n 0 C ps ts (omega arith) (λ before after f. record {
      high = is.fulls before after f;
      apart = λ front behind g. ⊎_elim (λ a. inl (omega (arith, a))) (λ b. inr (omega (arith, b))) (is.apart before after f front behind g);
    }))))

-- answers with the same chunk everywhere
given_by : {X : Type 0} → X → List Bool → List (Option X)
given_by x [] = []
given_by x (true ∷ answers) = Some x ∷ given_by x answers
given_by x (false ∷ answers) = None ∷ given_by x answers

copies : {X : Type 0} → X → ℕ → List X
copies x zero = []
copies x (suc n) = x ∷ copies x n

module _ {X : Type 0} (x : X) where
  given_told : (answers : List Bool) → map is_some (given_by x answers) ≡ answers
  unfolding given_by
  given_told [] = refl
  given_told (true ∷ answers) = ap (λ (l : List Bool). true ∷ l) (given_told answers)
  given_told (false ∷ answers) = ap (λ (l : List Bool). false ∷ l) (given_told answers)

  given_somes : (answers : List Bool) → somes (given_by x answers) ≡ copies x (yes answers)
  unfolding given_by copies
  given_somes [] = refl
  given_somes (true ∷ answers) = ap (λ (l : List X). x ∷ l) (given_somes answers)
  given_somes (false ∷ answers) = given_somes answers

  copies_long : (n : ℕ) → length (copies x n) ≡ n
  unfolding copies
  copies_long zero = refl
  copies_long (suc n) = ap suc (copies_long n)

  copies_more : (m n k : ℕ) → m + n ≡ k → copies x m ++ copies x n ≡ copies x k
  unfolding copies
  copies_more zero n k e = (let same : n ≡ k = omega (arith, e) in ap (copies x) same)
  copies_more (suc m) n zero e = absurd (omega (arith, e))
  copies_more (suc m) n (suc k) e = ap (λ (l : List X). x ∷ l) (copies_more m n k (omega (arith, e)))

  -- The test decides whether there is such a window.
  pub test_legal : (C n : ℕ) (ps ts : List Bool) → 1 ≤ C → n ≤ C → is_legal C n ps ts ≡ true → IsToldLegal X C n ps ts
  test_legal C n ps ts some low e =
      let fits = test_fits C n ps ts e in
      let left : ℕ = (n + yes ps) - yes ts in
      let size = copies_long n in
      let one = given_told ps in let two = given_told ts in
      let same : Fits C (length (copies x n)) (map is_some (given_by x ps)) (map is_some (given_by x ts)) =
      subst (λ m. Fits C m (map is_some (given_by x ps)) (map is_some (given_by x ts))) (sym size)
      (subst (λ (l : List Bool). Fits C n l (map is_some (given_by x ts))) (sym one) (subst (λ (l : List Bool). Fits C n ps l) (sym two) fits)) in
      let all : copies x n ++ somes (given_by x ps) ≡ somes (given_by x ts) ++ copies x left =
      ap (λ (l : List X). copies x n ++ l) (given_somes ps) ∙ copies_more n (yes ps) (n + yes ps) refl
      ∙ sym (copies_more (yes ts) left (n + yes ps) (omega (arith, fits.least))) ∙ ap (λ (l : List X). l ++ copies x left) (sym (given_somes ts)) in
      record {
        queue = copies x n;
        rest = copies x left;
        given = given_by x ps;
        taken = given_by x ts;
        opens = size;
        puts_are = one;
        takes_are = two;
        legal = fits_legal (length (given_by x ps) + length (given_by x ts)) C (copies x left) (copies x n) (given_by x ps) (given_by x ts) (omega arith) some (omega (arith, size, low)) same all;
      }

pub legal_test : {X : Type 0} (C n : ℕ) (ps ts : List Bool) → n ≤ C → IsToldLegal X C n ps ts → is_legal C n ps ts ≡ true
legal_test C n ps ts low is =
    let fits : Fits C (length is.queue) (map is_some is.given) (map is_some is.taken) = legal_fits is.legal (omega (arith, low, is.opens)) in
    fits_test C n ps ts (subst (λ m. Fits C m ps ts) is.opens (subst (λ (l : List Bool). Fits C (length is.queue) l ts) is.puts_are
    (subst (λ (l : List Bool). Fits C (length is.queue) (map is_some is.given) l) is.takes_are fits)))
