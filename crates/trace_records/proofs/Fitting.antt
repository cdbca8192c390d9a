-- A window that is told by its answers alone is legal exactly where the conditions hold.
use Rattle.std.proofs.Common.{◌≡◌, ◌≤◌, ◌<◌, ◌+◌, ◌⊎◌, ℕ, zero, suc, Bool, true, false, is_some, Option, Some, None, List, [], ◌∷◌, ◌++◌, length, map, refl, sym, ap, ◌∙◌, subst, arith, inl, inr, append_assoc, append-nil, length-append, true≢false, ⊎_elim}
use Rattle.std.proofs.lemmas.Bool.{cases_lt}
use Rattle.frame_core.specs.Legal.{Legal}
use Rattle.frame_core.specs.Legal.Legal.{all_done, accepted, put_refused, got, empty}
use Rattle.trace_records.specs.Told.{yes, AtNo, Fits}
use Rattle.frame_core.specs.Frames.{somes}

head_is : (x y : Bool) (xs ys : List Bool) → x ∷ xs ≡ y ∷ ys → x ≡ y
head_is x y xs ys e = cc

tail_is : (x y : Bool) (xs ys : List Bool) → x ∷ xs ≡ y ∷ ys → xs ≡ ys
tail_is x y xs ys e = cc

no_list : (x : Bool) (xs : List Bool) → [] ≡ x ∷ xs → ⊥
no_list x xs e = cc

pub at_none : (P : ℕ → Type 0) → AtNo [] P
at_none P [] after e = absurd (no_list false after e)
at_none P (x ∷ before) after e = absurd (no_list x (before ++ false ∷ after) e)

pub at_true : (answers : List Bool) (P : ℕ → Type 0) → AtNo answers (λ n. P (suc n)) → AtNo (true ∷ answers) P
at_true answers P is [] after e = absurd (true≢false (head_is true false answers after e))
at_true answers P is (true ∷ before) after e = is before after (tail_is true true answers (before ++ false ∷ after) e)
at_true answers P is (false ∷ before) after e = absurd (true≢false (head_is true false answers (before ++ false ∷ after) e))

pub at_false : (answers : List Bool) (P : ℕ → Type 0) → P 0 → AtNo answers P → AtNo (false ∷ answers) P
at_false answers P here is [] after e = here
at_false answers P here is (true ∷ before) after e = absurd (true≢false (sym (head_is false true answers (before ++ false ∷ after) e)))
at_false answers P here is (false ∷ before) after e = is before after (tail_is false false answers (before ++ false ∷ after) e)

pub from_true : (answers : List Bool) (P : ℕ → Type 0) → AtNo (true ∷ answers) P → AtNo answers (λ n. P (suc n))
from_true answers P is before after e = is (true ∷ before) after (ap (λ (l : List Bool). true ∷ l) e)

pub from_false : (answers : List Bool) (P : ℕ → Type 0) → AtNo (false ∷ answers) P → AtNo answers P
from_false answers P is before after e = is (false ∷ before) after (ap (λ (l : List Bool). false ∷ l) e)

pub here_false : (answers : List Bool) (P : ℕ → Type 0) → AtNo (false ∷ answers) P → P 0
here_false answers P is = is [] answers refl

-- a legal window fits
module _ {X : Type 0} where
  abbrev told : List (Option X) → List Bool
  told answers = map is_some answers

  pub legal_fits : {C : ℕ} {rest queue : List X} {puts takes : List (Option X)} → Legal C rest queue puts takes → length queue ≤ C → Fits C (length queue) (told puts) (told takes)
  legal_fits {C = C} {rest = rest} all_done low = record {
    least = omega arith;
    most = omega (arith, low);
    fulls = at_none (λ put. C ≤ length rest + put);
    empties = at_none (λ n. length rest ≤ n);
    apart = at_none (λ put. AtNo (told []) (λ n. (length rest + put ≤ n) ⊎ (n + C ≤ length rest + put)));
  }
  legal_fits {C = C} (accepted {queue = queue} {x = x} {puts = puts} {takes = takes} less more) low =
      let size = length-append queue (x ∷ []) in
      let is = legal_fits more (omega (arith, less, size)) in
      record {
        least = omega (arith, is.least, size);
        most = omega (arith, is.most, size);
        fulls = at_true (told puts) (λ put. C ≤ length queue + put) (λ before after e. omega (arith, size, is.fulls before after e));
        empties = λ before after e. omega (arith, size, is.empties before after e);
        apart = at_true (told puts) (λ put. AtNo (told takes) (λ n. (length queue + put ≤ n) ⊎ (n + C ≤ length queue + put)))
            (λ before after e front behind f. ⊎_elim (λ a. inl (omega (arith, a, size))) (λ b. inr (omega (arith, b, size))) (is.apart before after e front behind f));
      }
  legal_fits {C = C} (put_refused {queue = queue} {puts = puts} {takes = takes} most more) low =
      let is = legal_fits more low in
      record {
        least = is.least;
        most = is.most;
        fulls = at_false (told puts) (λ put. C ≤ length queue + put) (omega (arith, most)) is.fulls;
        empties = is.empties;
        apart = at_false (told puts) (λ put. AtNo (told takes) (λ n. (length queue + put ≤ n) ⊎ (n + C ≤ length queue + put)))
            (λ front behind f. inl (omega (arith, is.empties front behind f))) is.apart;
      }
  legal_fits {C = C} (got {queue = queue} {x = x} {puts = puts} {takes = takes} more) low =
      let is = legal_fits more (omega (arith, low)) in
      record {
        least = omega (arith, is.least);
        most = omega (arith, is.most);
        fulls = λ before after e. omega (arith, is.fulls before after e);
        empties = at_true (told takes) (λ n. suc (length queue) ≤ n) (λ before after e. omega (arith, is.empties before after e));
        apart = λ before after e. at_true (told takes) (λ n. (suc (length queue) + yes before ≤ n) ⊎ (n + C ≤ suc (length queue) + yes before))
            (λ front behind f. ⊎_elim (λ a. inl (omega (arith, a))) (λ b. inr (omega (arith, b))) (is.apart before after e front behind f));
      }
  legal_fits {C = C} (empty {puts = puts} {takes = takes} more) low =
      let is = legal_fits more low in
      record {
        least = is.least;
        most = is.most;
        fulls = is.fulls;
        empties = at_false (told takes) (λ n. 0 ≤ n) (omega arith) is.empties;
        apart = λ before after e. at_false (told takes) (λ n. (0 + yes before ≤ n) ⊎ (n + C ≤ 0 + yes before))
            (inr (omega (arith, is.fulls before after e))) (is.apart before after e);
      }

-- what goes on fitting
fits_full : (C n : ℕ) (ps ts : List Bool) → Fits C n (false ∷ ps) ts → Fits C n ps ts
fits_full C n ps ts is = record {
  least = is.least;
  most = is.most;
  fulls = from_false ps (λ put. C ≤ n + put) is.fulls;
  empties = is.empties;
  apart = from_false ps (λ put. AtNo ts (λ g. (n + put ≤ g) ⊎ (g + C ≤ n + put))) is.apart;
}

fits_empty : (C n : ℕ) (ps ts : List Bool) → Fits C n ps (false ∷ ts) → Fits C n ps ts
fits_empty C n ps ts is = record {
  least = is.least;
  most = is.most;
  fulls = is.fulls;
  empties = from_false ts (λ g. n ≤ g) is.empties;
  apart = λ before after e. from_false ts (λ g. (n + yes before ≤ g) ⊎ (g + C ≤ n + yes before)) (is.apart before after e);
}

fits_accepted : (C n : ℕ) (ps ts : List Bool) → Fits C n (true ∷ ps) ts → AtNo ts (λ g. suc n ≤ g) → Fits C (suc n) ps ts
fits_accepted C n ps ts is later = record {
  least = omega (arith, is.least);
  most = omega (arith, is.most);
  fulls = λ before after e. omega (arith, from_true ps (λ put. C ≤ n + put) is.fulls before after e);
  empties = later;
  apart = λ before after e front behind f. ⊎_elim (λ a. inl (omega (arith, a))) (λ b. inr (omega (arith, b)))
      (from_true ps (λ put. AtNo ts (λ g. (n + put ≤ g) ⊎ (g + C ≤ n + put))) is.apart before after e front behind f);
}

fits_got : (C n : ℕ) (ps ts : List Bool) → Fits C (suc n) ps (true ∷ ts) → AtNo ps (λ put. C ≤ n + put) → Fits C n ps ts
fits_got C n ps ts is later = record {
  least = omega (arith, is.least);
  most = omega (arith, is.most);
  fulls = later;
  empties = λ front behind f. omega (arith, from_true ts (λ g. suc n ≤ g) is.empties front behind f);
  apart = λ before after e front behind f. ⊎_elim (λ a. inl (omega (arith, a))) (λ b. inr (omega (arith, b)))
      (from_true ts (λ g. (suc n + yes before ≤ g) ⊎ (g + C ≤ suc n + yes before)) (is.apart before after e) front behind f);
}

-- an empty take at which no more chunks had been got than so many
pub record EmptyBy (n : ℕ) (ts : List Bool) : Type 0 where
  pub front : List Bool
  pub behind : List Bool
  pub there : ts ≡ front ++ false ∷ behind
  pub low : yes front ≤ n

empty_by : (n : ℕ) (ts : List Bool) → AtNo ts (λ g. suc n ≤ g) ⊎ EmptyBy n ts
empty_by n [] = inl (at_none (λ g. suc n ≤ g))
empty_by n (false ∷ ts) = inr (record { front = []; behind = ts; there = refl; low = omega arith })
empty_by zero (true ∷ ts) = inl (at_true ts (λ g. 1 ≤ g) (λ front behind e. omega arith))
empty_by (suc n) (true ∷ ts) = by (empty_by n ts)
  where
    by : AtNo ts (λ g. suc n ≤ g) ⊎ EmptyBy n ts → AtNo (true ∷ ts) (λ g. suc (suc n) ≤ g) ⊎ EmptyBy (suc n) (true ∷ ts)
    by (inl later) = inl (at_true ts (λ g. suc (suc n) ≤ g) (λ front behind e. omega (arith, later front behind e)))
    by (inr found) = inr (record { front = true ∷ found.front; behind = found.behind; there = ap (λ (l : List Bool). true ∷ l) found.there; low = omega (arith, found.low) })

-- where a put that is accepted cannot come next, a take that gets a chunk can
got_next : (C n : ℕ) (ps ts : List Bool) → 1 ≤ C → n ≤ C → Fits C n (true ∷ ps) (true ∷ ts) → (C ≤ n) ⊎ EmptyBy n (true ∷ ts)
    → (m : ℕ) × (n ≡ suc m) × AtNo (true ∷ ps) (λ put. C ≤ m + put)
got_next C zero ps ts some low is (inl most) = absurd (omega (arith, some, most))
got_next C zero ps ts some low is (inr found) = absurd (front_some found.front found.behind found.there found.low)
  where
    front_some : (front behind : List Bool) → true ∷ ts ≡ front ++ false ∷ behind → yes front ≤ 0 → ⊥
    front_some [] behind e low = true≢false (head_is true false ts behind e)
    front_some (true ∷ front) behind e low = omega (arith, low)
    front_some (false ∷ front) behind e low = true≢false (head_is true false ts (front ++ false ∷ behind) e)
got_next C (suc m) ps ts some low is (inl most) = (m, refl, at_true ps (λ put. C ≤ m + put) (λ before after e. omega (arith, low)))
got_next C (suc m) ps ts some low is (inr found) = (
  m,
  refl,
  at_true ps (λ put. C ≤ m + put) (λ before after e.
      ⊎_elim (λ a. absurd (omega (arith, a, found.low))) (λ b. omega (arith, b, is.empties found.front found.behind found.there))
      (is.apart (true ∷ before) after (ap (λ (l : List Bool). true ∷ l) e) found.front found.behind found.there)),
)

module _ {X : Type 0} where
  front_is : (x y : X) (xs ys : List X) → x ∷ xs ≡ y ∷ ys → x ≡ y
  front_is x y xs ys e = cc

  rest_is : (x y : X) (xs ys : List X) → x ∷ xs ≡ y ∷ ys → xs ≡ ys
  rest_is x y xs ys e = cc

  -- a put that is accepted and a take that gets a chunk: one of them comes next
  both : (C : ℕ) (rest queue : List X) (x y : X) (puts takes : List (Option X)) → 1 ≤ C → length queue ≤ C
      → Fits C (length queue) (true ∷ told puts) (true ∷ told takes) → queue ++ x ∷ somes puts ≡ y ∷ somes takes ++ rest
      → (length queue < C) ⊎ (C ≤ length queue) → AtNo (true ∷ told takes) (λ g. suc (length queue) ≤ g) ⊎ EmptyBy (length queue) (true ∷ told takes)
      → (length queue < C → Fits C (length (queue ++ x ∷ [])) (told puts) (true ∷ told takes) → (queue ++ x ∷ []) ++ somes puts ≡ y ∷ somes takes ++ rest
      → Legal C rest (queue ++ x ∷ []) puts (Some y ∷ takes))
      → ((items : List X) → length items ≤ C → Fits C (length items) (true ∷ told puts) (told takes) → items ++ x ∷ somes puts ≡ somes takes ++ rest
      → Legal C rest items (Some x ∷ puts) takes)
      → Legal C rest queue (Some x ∷ puts) (Some y ∷ takes)
  both C rest queue x y puts takes some low is whole room next put_one take_one = by room next
    where
      accept : length queue < C → AtNo (true ∷ told takes) (λ g. suc (length queue) ≤ g) → Legal C rest queue (Some x ∷ puts) (Some y ∷ takes)
      accept room later =
          let one : length (queue ++ x ∷ []) ≡ suc (length queue) = (let size = length-append queue (x ∷ []) in omega (arith, size)) in
          accepted room (put_one room
          (subst (λ n. Fits C n (told puts) (true ∷ told takes)) (sym one) (fits_accepted C (length queue) (told puts) (true ∷ told takes) is later))
          (append_assoc queue (x ∷ []) (somes puts) ∙ whole))

      get : (items : List X) → items ≡ queue → (m : ℕ) × (length queue ≡ suc m) × AtNo (true ∷ told puts) (λ put. C ≤ m + put) → Legal C rest queue (Some x ∷ puts) (Some y ∷ takes)
      get [] e next = absurd (let none = ap (λ (l : List X). length l) e in omega (arith, none, next.1))
      get (z ∷ items) e next =
          let size = ap (λ (l : List X). length l) e in
          let m_is : next.0 ≡ length items = omega (arith, size, next.1) in
          let fits : Fits C (suc (length items)) (true ∷ told puts) (true ∷ told takes) = subst (λ (l : List X). Fits C (length l) (true ∷ told puts) (true ∷ told takes)) (sym e) is in
          let then' : Fits C (length items) (true ∷ told puts) (told takes) = fits_got C (length items) (true ∷ told puts) (told takes) fits (subst (λ m. AtNo (true ∷ told puts) (λ put. C ≤ m + put)) m_is next.2) in
          let all : z ∷ (items ++ x ∷ somes puts) ≡ y ∷ (somes takes ++ rest) = ap (λ (l : List X). l ++ x ∷ somes puts) e ∙ whole in
          let made : Legal C rest (z ∷ items) (Some x ∷ puts) (Some z ∷ takes) =
          got (take_one items (omega (arith, low, size)) then' (rest_is z y (items ++ x ∷ somes puts) (somes takes ++ rest) all)) in
          subst (λ (l : List X). Legal C rest l (Some x ∷ puts) (Some y ∷ takes)) e
          (subst (λ (v : X). Legal C rest (z ∷ items) (Some x ∷ puts) (Some v ∷ takes)) (front_is z y (items ++ x ∷ somes puts) (somes takes ++ rest) all) made)

      by : (length queue < C) ⊎ (C ≤ length queue) → AtNo (true ∷ told takes) (λ g. suc (length queue) ≤ g) ⊎ EmptyBy (length queue) (true ∷ told takes)
          → Legal C rest queue (Some x ∷ puts) (Some y ∷ takes)
      by (inl room) (inl later) = accept room later
      by (inl room) (inr found) = get queue refl (got_next C (length queue) (told puts) (told takes) some low is (inr found))
      by (inr most) found = get queue refl (got_next C (length queue) (told puts) (told takes) some low is (inl most))

  -- Answers that fit are those of a legal window, of any chunks that come out in the order in which they went in.
  pub fits_legal : (fuel C : ℕ) (rest queue : List X) (puts takes : List (Option X)) → length puts + length takes ≤ fuel → 1 ≤ C → length queue ≤ C
      → Fits C (length queue) (told puts) (told takes) → queue ++ somes puts ≡ somes takes ++ rest → Legal C rest queue puts takes
  fits_legal fuel C rest queue [] [] short some low is whole =
      subst (λ (l : List X). Legal C rest l [] []) (sym (sym (append-nil queue) ∙ whole)) all_done
  fits_legal zero C rest queue (put ∷ puts) takes short some low is whole = absurd (omega (arith, short))
  fits_legal zero C rest queue [] (take ∷ takes) short some low is whole = absurd (omega (arith, short))
  fits_legal (suc fuel) C rest queue (None ∷ puts) takes short some low is whole =
      put_refused (omega (arith, low, here_false (told puts) (λ put. C ≤ length queue + put) is.fulls))
      (fits_legal fuel C rest queue puts takes (omega (arith, short)) some low (fits_full C (length queue) (told puts) (told takes) is) whole)
  fits_legal (suc fuel) C rest [] [] (None ∷ takes) short some low is whole =
      empty (fits_legal fuel C rest [] [] takes (omega (arith, short)) some low (fits_empty C 0 [] (told takes) is) whole)
  fits_legal (suc fuel) C rest [] (Some x ∷ puts) (None ∷ takes) short some low is whole =
      empty (fits_legal fuel C rest [] (Some x ∷ puts) takes (omega (arith, short)) some low (fits_empty C 0 (true ∷ told puts) (told takes) is) whole)
  fits_legal (suc fuel) C rest (z ∷ queue) [] (None ∷ takes) short some low is whole =
      absurd (omega (arith, here_false (told takes) (λ g. suc (length queue) ≤ g) is.empties))
  fits_legal (suc fuel) C rest (z ∷ queue) (Some x ∷ puts) (None ∷ takes) short some low is whole =
      absurd (omega (arith, here_false (told takes) (λ g. suc (length queue) ≤ g) is.empties))
  fits_legal (suc fuel) C rest queue (Some x ∷ puts) [] short some low is whole =
      let size = length-append queue (x ∷ []) in
      let room : length queue < C = omega (arith, is.most) in
      let next : Fits C (suc (length queue)) (told puts) [] = fits_accepted C (length queue) (told puts) [] is (at_none (λ g. suc (length queue) ≤ g)) in
      let one : length (queue ++ x ∷ []) ≡ suc (length queue) = omega (arith, size) in
      accepted room (fits_legal fuel C rest (queue ++ x ∷ []) puts [] (omega (arith, short)) some (omega (arith, one, room))
      (subst (λ n. Fits C n (told puts) []) (sym one) next) (append_assoc queue (x ∷ []) (somes puts) ∙ whole))
  fits_legal (suc fuel) C rest [] [] (Some y ∷ takes) short some low is whole = absurd (omega (arith, is.least))
  fits_legal (suc fuel) C rest (z ∷ queue) [] (Some y ∷ takes) short some low is whole =
      let next : Fits C (length queue) [] (told takes) = fits_got C (length queue) [] (told takes) is (at_none (λ put. C ≤ length queue + put)) in
      subst (λ (x : X). Legal C rest (z ∷ queue) [] (Some x ∷ takes)) (front_is z y (queue ++ []) (somes takes ++ rest) whole)
      (got (fits_legal fuel C rest queue [] takes (omega (arith, short)) some (omega (arith, low)) next (rest_is z y (queue ++ []) (somes takes ++ rest) whole)))
  fits_legal (suc fuel) C rest queue (Some x ∷ puts) (Some y ∷ takes) short some low is whole =
      both C rest queue x y puts takes some low is whole (cases_lt (length queue) C) (empty_by (length queue) (true ∷ told takes))
      (λ room fits all. (let one : length (queue ++ x ∷ []) ≤ C = (let size = length-append queue (x ∷ []) in omega (arith, size, room)) in
      fits_legal fuel C rest (queue ++ x ∷ []) puts (Some y ∷ takes) (omega (arith, short)) some one fits all))
      (λ items less fits all. fits_legal fuel C rest items (Some x ∷ puts) takes (omega (arith, short)) some less fits all)
