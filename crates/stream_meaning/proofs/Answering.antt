-- Calls one after another: their answers, and those that they begin.
use Rattle.std.proofs.Common.{◌≡◌, ◌<◌, ◌≤◌, ◌+◌, ◌-◌, ◌∙◌, ◌++◌, ℕ, zero, suc, List, [], ◌∷◌, map, nat_eq, Bool, true, false, cond, refl, ap, sym, subst, append_assoc, append-nil, arith}
use mathlib.Core.Path.{fun_ext}
use Rattle.std.proofs.lemmas.Bool.Decides.{nat_tests}
use Rattle.frame_core.specs.Calls.{Call, Took, Given, Answer}
use Rattle.stream_meaning.specs.Instants.{Setting}
use Rattle.stream_meaning.specs.Calls.{HasAnswers, IsBegin, after_calls, answers_in, joined_between, joined_upto}

pub answers_in-append : (buffer : ℕ) (xs ys : List Call) → answers_in buffer (xs ++ ys) ≡ answers_in buffer xs ++ answers_in buffer ys
answers_in-append buffer [] ys = refl
answers_in-append buffer (Took other answer ∷ xs) ys = by (nat_eq other buffer) (answers_in-append buffer xs ys)
  where
    by : (b : Bool) → answers_in buffer (xs ++ ys) ≡ answers_in buffer xs ++ answers_in buffer ys
        → cond b (answer ∷ answers_in buffer (xs ++ ys)) (answers_in buffer (xs ++ ys)) ≡ cond b (answer ∷ answers_in buffer xs) (answers_in buffer xs) ++ answers_in buffer ys
    by true is = ap (λ (as' : List Answer). answer ∷ as') is
    by false is = is
answers_in-append buffer (Given other cells accepted ∷ xs) ys = answers_in-append buffer xs ys

eq_same : (n : ℕ) → nat_eq n n ≡ true
eq_same n = grind (arith, nat_tests)

pub answers_in-own : (buffer : ℕ) (answers : List Answer) → answers_in buffer (map (Took buffer) answers) ≡ answers
answers_in-own buffer [] = refl
answers_in-own buffer (answer ∷ answers) =
    ap (λ (b : Bool). cond b (answer ∷ answers_in buffer (map (Took buffer) answers)) (answers_in buffer (map (Took buffer) answers))) (eq_same buffer)
    ∙ ap (λ (more : List Answer). answer ∷ more) (answers_in-own buffer answers)

pub answers_in-other : (buffer other : ℕ) (answers : List Answer) → (other ≡ buffer → ⊥) → answers_in buffer (map (Took other) answers) ≡ []
answers_in-other buffer other [] apart = refl
answers_in-other buffer other (answer ∷ answers) apart =
    let differs : nat_eq other buffer ≡ false = grind (arith, nat_tests) in
    ap (λ (b : Bool). cond b (answer ∷ answers_in buffer (map (Took other) answers)) (answers_in buffer (map (Took other) answers))) differs
    ∙ answers_in-other buffer other answers apart

pub after_calls-none : (answers : ℕ → List Answer) → after_calls answers [] ≡ answers
after_calls-none answers = fun_ext (λ buffer. append-nil (answers buffer))

pub after_calls-then : (answers : ℕ → List Answer) (xs ys : List Call) → after_calls answers (xs ++ ys) ≡ after_calls (after_calls answers xs) ys
after_calls-then answers xs ys = fun_ext (λ buffer.
    ap (λ (more : List Answer). answers buffer ++ more) (answers_in-append buffer xs ys) ∙ sym (append_assoc (answers buffer) (answers_in buffer xs) (answers_in buffer ys)))

-- a setting that gives the answers of more calls gives those of the first ones
pub answers_first : (setting : Setting) (answers : ℕ → List Answer) (xs ys : List Call) → HasAnswers setting (after_calls answers (xs ++ ys)) → HasAnswers setting (after_calls answers xs)
answers_first setting answers xs ys has = record {
  rest = λ buffer. answers_in buffer ys ++ has.rest buffer;
  are = λ buffer. has.are buffer
      ∙ ap (λ (f : ℕ → List Answer). f buffer ++ has.rest buffer) (after_calls-then answers xs ys)
      ∙ append_assoc (after_calls answers xs buffer) (answers_in buffer ys) (has.rest buffer);
}

pub answers_then : (setting : Setting) (answers : ℕ → List Answer) (xs ys : List Call) → HasAnswers setting (after_calls answers (xs ++ ys)) → HasAnswers setting (after_calls (after_calls answers xs) ys)
answers_then setting answers xs ys has = subst (HasAnswers setting) (after_calls-then answers xs ys) has

-- calls begin themselves and what comes behind them
pub begin_all : (calls : List Call) → IsBegin calls calls
begin_all calls = record { rest = []; are = sym (append-nil calls) }

pub begin_none : (calls : List Call) → IsBegin [] calls
begin_none calls = record { rest = calls; are = refl }

pub begin_more : (made calls more : List Call) → IsBegin made calls → IsBegin made (calls ++ more)
begin_more made calls more is = record { rest = is.rest ++ more; are = ap (λ (cs : List Call). cs ++ more) is.are ∙ append_assoc made is.rest more }

pub begin_behind : (front made calls : List Call) → IsBegin made calls → IsBegin (front ++ made) (front ++ calls)
begin_behind front made calls is = record { rest = is.rest; are = ap (λ (cs : List Call). front ++ cs) is.are ∙ sym (append_assoc front made is.rest) }

-- the calls of the first ones, and the first of the next one's
pub begin_joined : (calls : ℕ → List Call) (i n : ℕ) (made : List Call) → i < n → IsBegin made (calls i) → IsBegin (joined_upto calls i ++ made) (joined_upto calls n)
begin_joined calls i zero made low is = absurd (omega (arith, low))
begin_joined calls i (suc n) made low is = by (λ less. begin_joined calls i n made less is) (nat_eq i n) refl
  where
    by : (i < n → IsBegin (joined_upto calls i ++ made) (joined_upto calls n)) → (b : Bool) → nat_eq i n ≡ b → IsBegin (joined_upto calls i ++ made) (joined_upto calls (suc n))
    by rec true e = (let same : n ≡ i = grind (arith, nat_tests) in
        subst (λ (m : ℕ). IsBegin (joined_upto calls i ++ made) (joined_upto calls m ++ calls m)) (sym same) (begin_behind (joined_upto calls i) made (calls i) is))
    by rec false e = (let apart : i < n = grind (arith, nat_tests) in
        begin_more (joined_upto calls i ++ made) (joined_upto calls n) (calls n) (rec apart))

pub begin_between : (calls : ℕ → List Call) (from at to : ℕ) (made : List Call) → from ≤ at → at < to → IsBegin made (calls at) → IsBegin (joined_between calls from at ++ made) (joined_between calls from to)
begin_between calls from at to made low high is =
    let same : at ≡ from + (at - from) = omega (arith, low) in
    let less : at - from < to - from = omega (arith, low, high) in
    begin_joined (λ j. calls (from + j)) (at - from) (to - from) made less (subst (λ (n : ℕ). IsBegin made (calls n)) same is)

-- the calls of one more
pub between_none : (calls : ℕ → List Call) (from : ℕ) → joined_between calls from from ≡ []
between_none calls from = let none : from - from ≡ 0 = omega arith in ap (λ (n : ℕ). joined_upto (λ j. calls (from + j)) n) none

pub between_more : (calls : ℕ → List Call) (from at : ℕ) → from ≤ at → joined_between calls from (suc at) ≡ joined_between calls from at ++ calls at
between_more calls from at low =
    let one : suc at - from ≡ suc (at - from) = omega (arith, low) in
    let same : from + (at - from) ≡ at = omega (arith, low) in
    ap (λ (n : ℕ). joined_upto (λ j. calls (from + j)) n) one ∙ ap (λ (n : ℕ). joined_between calls from at ++ calls n) same

-- what makes no calls is passed over
pub joined_skip : (calls : ℕ → List Call) (from n : ℕ) → from ≤ n → ((j : ℕ) → from ≤ j → j < n → calls j ≡ []) → joined_upto calls n ≡ joined_upto calls from
joined_skip calls from zero low none = let same : from ≡ 0 = omega (arith, low) in ap (joined_upto calls) (sym same)
joined_skip calls from (suc n) low none = by (λ less. joined_skip calls from n less (λ j up high. none j up (omega (arith, high)))) (nat_eq from (suc n)) refl
  where
    by : (from ≤ n → joined_upto calls n ≡ joined_upto calls from) → (b : Bool) → nat_eq from (suc n) ≡ b → joined_upto calls (suc n) ≡ joined_upto calls from
    by rec true e = (let same : from ≡ suc n = grind (arith, nat_tests) in ap (joined_upto calls) (sym same))
    by rec false e = (let less : from ≤ n = grind (arith, nat_tests) in
        ap (λ (cs : List Call). joined_upto calls n ++ cs) (none n less (omega arith)) ∙ append-nil (joined_upto calls n)
        ∙ rec less)

-- equal calls are equal joined
pub joined_same : (calls others : ℕ → List Call) (n : ℕ) → ((j : ℕ) → j < n → calls j ≡ others j) → joined_upto calls n ≡ joined_upto others n
joined_same calls others zero same = refl
joined_same calls others (suc n) same =
    ap (λ (cs : List Call). cs ++ calls n) (joined_same calls others n (λ j low. same j (omega (arith, low))))
    ∙ ap (λ (cs : List Call). joined_upto others n ++ cs) (same n (omega arith))
