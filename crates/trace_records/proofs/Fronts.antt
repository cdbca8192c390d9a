-- Fronts of lists, and of calls.
use Rattle.std.proofs.Common.{◌≡◌, ◌<◌, ◌≤◌, ◌∙◌, ◌++◌, ℕ, Bool, true, false, cond, is_some, true≢false, nat_eq, List, [], ◌∷◌, length, map, inl, inr, refl, ap, sym, subst, arith, append_assoc, append-nil, length-append}
use Rattle.std.proofs.lemmas.List.{map-append}
use Rattle.std.proofs.lemmas.Bool.Decides.{nat_tests}
use Rattle.frame_core.specs.declared.cell.Cell.{Cell}
use Rattle.frame_core.specs.Frames.{somes}
use Rattle.frame_core.specs.Calls.{Call, Took, Given, put_of, takes_of, puts_to, Answer}
use Rattle.frame_core.proofs.Lanes.{somes-append}
use Rattle.stream_meaning.specs.Instants.{Setting}
use Rattle.run_records.proofs.Flattening.{takes-append, puts-append}
use Rattle.trace_records.specs.Clocks.{Agree, AreAnswered, IsFront, Joins, Log, puts_in, takes_in}

module _ {A : Type 0} where
  pub head_same : (x y : A) (xs ys : List A) → x ∷ xs ≡ y ∷ ys → x ≡ y
  head_same x y xs ys e = cc

  pub tail_same : (x y : A) (xs ys : List A) → x ∷ xs ≡ y ∷ ys → xs ≡ ys
  tail_same x y xs ys e = cc

  pub no_items : (x : A) (xs : List A) → [] ≡ x ∷ xs → ⊥
  no_items x xs e = cc

  pub front_all : (xs : List A) → IsFront xs xs
  front_all xs = record { rest = []; are = sym (append-nil xs) }

  pub front_none : (xs : List A) → IsFront [] xs
  front_none xs = record { rest = xs; are = refl }

  pub front_first : (xs ys whole : List A) → IsFront (xs ++ ys) whole → IsFront xs whole
  front_first xs ys whole is = record { rest = ys ++ is.rest; are = is.are ∙ append_assoc xs ys is.rest }

  pub front_front : (xs ys zs : List A) → IsFront xs ys → IsFront ys zs → IsFront xs zs
  front_front xs ys zs one two = record {
    rest = one.rest ++ two.rest;
    are = two.are ∙ ap (λ (l : List A). l ++ two.rest) one.are ∙ append_assoc xs one.rest two.rest;
  }

  pub front_long : (xs ys : List A) → IsFront xs ys → length xs ≤ length ys
  front_long xs ys is = let size = length-append xs is.rest in let same = ap (λ (l : List A). length l) is.are in omega (arith, size, same)

  -- two fronts of one list have the same item behind the same ones
  pub here_same : (l r s all : List A) (x y : A) → IsFront (l ++ x ∷ r) all → IsFront (l ++ y ∷ s) all → x ≡ y
  here_same [] r s all x y one two = head_same x y (r ++ one.rest) (s ++ two.rest) (sym one.are ∙ two.are)
  here_same (z ∷ l) r s [] x y one two = absurd (no_items z ((l ++ x ∷ r) ++ one.rest) one.are)
  here_same (z ∷ l) r s (w ∷ all) x y one two =
      here_same l r s all x y (record { rest = one.rest; are = tail_same w z all ((l ++ x ∷ r) ++ one.rest) one.are })
      (record { rest = two.rest; are = tail_same w z all ((l ++ y ∷ s) ++ two.rest) two.are })

  pub here_agree : (l r s all others : List A) (x y : A) → IsFront (l ++ x ∷ r) all → IsFront (l ++ y ∷ s) others → Agree all others → x ≡ y
  here_agree l r s all others x y one two (inl more) = here_same l r s others x y (front_front (l ++ x ∷ r) all others one more) two
  here_agree l r s all others x y one two (inr more) = here_same l r s all x y one (front_front (l ++ y ∷ s) others all two more)

  -- of two items with what comes before them, in one list
  pub data Meets (f u front others : List A) (x y : A) : Type 0 where
    before : (w : List A) → front ≡ f ++ x ∷ w → Meets f u front others x y
    same : f ≡ front → x ≡ y → u ≡ others → Meets f u front others x y
    behind : (w : List A) → f ≡ front ++ y ∷ w → Meets f u front others x y

  pub meets : (f u front others : List A) (x y : A) → f ++ x ∷ u ≡ front ++ y ∷ others → Meets f u front others x y
  meets [] u [] others x y e = same refl (head_same x y u others e) (tail_same x y u others e)
  meets [] u (z ∷ front) others x y e = before front (ap (λ (i : A). i ∷ front) (sym (head_same x z u (front ++ y ∷ others) e)))
  meets (z ∷ f) u [] others x y e = behind f (ap (λ (i : A). i ∷ f) (head_same z y (f ++ x ∷ u) others e))
  meets (z ∷ f) u (w ∷ front) others x y e = by (meets f u front others x y (tail_same z w (f ++ x ∷ u) (front ++ y ∷ others) e)) (head_same z w (f ++ x ∷ u) (front ++ y ∷ others) e)
    where
      by : Meets f u front others x y → z ≡ w → Meets (z ∷ f) u (w ∷ front) others x y
      by (before v is) h = before v (λ i. sym h i ∷ is i)
      by (same is one all) h = same (λ i. h i ∷ is i) one all
      by (behind v is) h = behind v (λ i. h i ∷ is i)

  -- a list that agrees with two goes with the longer
  pub agree_all : (xs : List A) → Agree xs xs
  agree_all xs = inl (front_all xs)

pub told_takes : (b : ℕ) (xs ys : List Call) → map is_some (takes_of b (xs ++ ys)) ≡ map is_some (takes_of b xs) ++ map is_some (takes_of b ys)
told_takes b xs ys = ap (map is_some) (takes-append b xs ys) ∙ map-append is_some (takes_of b xs) (takes_of b ys)

pub told_puts : (b : ℕ) (xs ys : List Call) → map is_some (puts_to b (xs ++ ys)) ≡ map is_some (puts_to b xs) ++ map is_some (puts_to b ys)
told_puts b xs ys = ap (map is_some) (puts-append b xs ys) ∙ map-append is_some (puts_to b xs) (puts_to b ys)

pub got_more : (b : ℕ) (xs ys : List Call) → somes (takes_of b (xs ++ ys)) ≡ somes (takes_of b xs) ++ somes (takes_of b ys)
got_more b xs ys = ap somes (takes-append b xs ys) ∙ somes-append (takes_of b xs) (takes_of b ys)

pub put_more : (b : ℕ) (xs ys : List Call) → somes (puts_to b (xs ++ ys)) ≡ somes (puts_to b xs) ++ somes (puts_to b ys)
put_more b xs ys = ap somes (puts-append b xs ys) ∙ somes-append (puts_to b xs) (puts_to b ys)

module _ (base : Setting) (text : ℕ → Log) where
  pub answered_first : (chunks : ℕ → List (List Cell)) (xs ys : List Call) → AreAnswered base text chunks (xs ++ ys) → AreAnswered base text chunks xs
  answered_first chunks xs ys is = record {
    puts = λ b low. front_first (map is_some (puts_to b xs)) (map is_some (puts_to b ys)) (puts_in (text b)) (subst (λ (l : List Bool). IsFront l (puts_in (text b))) (told_puts b xs ys) (is.puts b low));
    takes = λ b low. front_first (map is_some (takes_of b xs)) (map is_some (takes_of b ys)) (takes_in (text b)) (subst (λ (l : List Bool). IsFront l (takes_in (text b))) (told_takes b xs ys) (is.takes b low));
    got = λ b low joins. front_first (somes (takes_of b xs)) (somes (takes_of b ys)) (chunks b) (subst (λ (l : List (List Cell)). IsFront l (chunks b)) (got_more b xs ys) (is.got b low joins));
  }

  -- with more chunks there
  pub answered_more : (chunks others : ℕ → List (List Cell)) (calls : List Call) → ((b : ℕ) → b < length base.plan.buffers → Joins base b → IsFront (chunks b) (others b)) → AreAnswered base text chunks calls → AreAnswered base text others calls
  answered_more chunks others calls more is = record {
    puts = is.puts;
    takes = is.takes;
    got = λ b low joins. front_front (somes (takes_of b calls)) (chunks b) (others b) (is.got b low joins) (more b low joins);
  }

equal_self : (n : ℕ) → nat_eq n n ≡ true
equal_self n = grind (arith, nat_tests)

pub takes_cons : (b : ℕ) (answer : Answer) (calls : List Call) → takes_of b (Took b answer ∷ calls) ≡ answer ∷ takes_of b calls
takes_cons b answer calls = ap (λ (t : Bool). cond t (answer ∷ takes_of b calls) (takes_of b calls)) (equal_self b)

pub puts_cons : (b : ℕ) (chunk : List Cell) (accepted : Bool) (calls : List Call) → puts_to b (Given b chunk accepted ∷ calls) ≡ put_of chunk accepted ∷ puts_to b calls
puts_cons b chunk accepted calls = ap (λ (t : Bool). cond t (put_of chunk accepted ∷ puts_to b calls) (puts_to b calls)) (equal_self b)

pub put_told : (chunk : List Cell) (one other : Bool) → is_some (put_of chunk one) ≡ is_some (put_of chunk other) → one ≡ other
put_told chunk true true e = refl
put_told chunk false false e = refl
put_told chunk true false e = absurd (true≢false e)
put_told chunk false true e = absurd (true≢false (sym e))
