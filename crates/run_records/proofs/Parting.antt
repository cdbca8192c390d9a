-- Lists of calls one after another that are one, or part at an answer.
use Rattle.std.proofs.Common.{◌≡◌, ◌<◌, ◌≤◌, ◌⊎◌, ◌∙◌, ◌++◌, ℕ, zero, suc, List, [], ◌∷◌, inl, inr, refl, ap, sym, subst, append_assoc, append-nil, arith}
use Rattle.std.proofs.lemmas.Bool.{cases_lt}
use Rattle.frame_core.specs.Calls.{Call}
use Rattle.stream_meaning.specs.Calls.{joined_upto}
use Rattle.run_records.specs.Parting.{ArePart, AreOne, Goes}

pub part_more : (buffers : ℕ) (xs ys zs ws : List Call) → ArePart buffers xs ys → ArePart buffers (xs ++ zs) (ys ++ ws)
part_more buffers xs ys zs ws is = record {
  front = is.front;
  one = is.one;
  other = is.other;
  behind = is.behind ++ zs;
  others = is.others ++ ws;
  first = ap (λ (l : List Call). l ++ zs) is.first ∙ append_assoc is.front (is.one ∷ is.behind) zs;
  second = ap (λ (l : List Call). l ++ ws) is.second ∙ append_assoc is.front (is.other ∷ is.others) ws;
  differ = is.differ;
}

pub part_behind : (buffers : ℕ) (front xs ys : List Call) → ArePart buffers xs ys → ArePart buffers (front ++ xs) (front ++ ys)
part_behind buffers front xs ys is = record {
  front = front ++ is.front;
  one = is.one;
  other = is.other;
  behind = is.behind;
  others = is.others;
  first = ap (λ (l : List Call). front ++ l) is.first ∙ sym (append_assoc front is.front (is.one ∷ is.behind));
  second = ap (λ (l : List Call). front ++ l) is.second ∙ sym (append_assoc front is.front (is.other ∷ is.others));
  differ = is.differ;
}

pub goes_by : {P Q : Type 0} (buffers : ℕ) (xs ys : List Call) → (P → Q) → Goes buffers xs ys P → Goes buffers xs ys Q
goes_by buffers xs ys f (inl part) = inl part
goes_by buffers xs ys f (inr one) = inr (record { same = one.same; now = f one.now })

pub goes_then : {P Q : Type 0} (buffers : ℕ) (xs ys zs ws : List Call) → Goes buffers xs ys P → (P → Goes buffers zs ws Q) → Goes buffers (xs ++ zs) (ys ++ ws) Q
goes_then buffers xs ys zs ws (inl part) more = inl (part_more buffers xs ys zs ws part)
goes_then {P} {Q} buffers xs ys zs ws (inr one) more = by (more one.now)
  where
    by : Goes buffers zs ws Q → Goes buffers (xs ++ zs) (ys ++ ws) Q
    by (inl part) = inl (subst (λ (l : List Call). ArePart buffers (xs ++ zs) (l ++ ws)) one.same (part_behind buffers xs zs ws part))
    by (inr then') = inr (record { same = (λ i. one.same i ++ then'.same i); now = then'.now })

-- the first of joined calls
pub joined_first : (calls : ℕ → List Call) (m n : ℕ) → m ≤ n → (rest : List Call) × (joined_upto calls n ≡ joined_upto calls m ++ rest)
joined_first calls zero zero low = ([], refl)
joined_first calls (suc m) zero low = absurd (omega (arith, low))
joined_first calls m (suc n) low = elim (cases_lt n m) [
  | inl above ↦ (let e : suc n ≡ m = omega (arith, above, low) in ([], ap (joined_upto calls) e ∙ sym (append-nil (joined_upto calls m))))
  | inr below ↦ (let found = joined_first calls m n below in
      (found.0 ++ calls n, ap (λ (l : List Call). l ++ calls n) found.1 ∙ append_assoc (joined_upto calls m) found.0 (calls n)))
]

-- Joined calls, where each rests on a state that the ones before it leave. The second ones go on as long as the first do,
-- and where the first end the second end too.
module _ (buffers : ℕ) (calls others : ℕ → List Call) (n many : ℕ) (state : ℕ → Type 0)
    (step : (j : ℕ) → j < n → state j → Goes buffers (calls j) (others j) (state (suc j)))
    (ahead : (j : ℕ) → j < n → state j → j < many) where
  go_on : (j : ℕ) → j < n → state j → joined_upto calls j ≡ joined_upto others j → Goes buffers (calls j) (others j) (state (suc j))
      → ArePart buffers (joined_upto calls n) (joined_upto others many) ⊎ AreOne (joined_upto calls (suc j)) (joined_upto others (suc j)) (state (suc j))
  go_on j low now same (inr one) = inr (record { same = (λ i. same i ++ one.same i); now = one.now })
  go_on j low now same (inl part) =
      let high : j < many = ahead j low now in
      let first = joined_first calls (suc j) n low in
      let second = joined_first others (suc j) many high in
      let parted : ArePart buffers (joined_upto calls j ++ calls j) (joined_upto others j ++ others j) =
      subst (λ (l : List Call). ArePart buffers (joined_upto calls j ++ calls j) (l ++ others j)) same (part_behind buffers (joined_upto calls j) (calls j) (others j) part) in
      inl (subst (λ (l : List Call). ArePart buffers l (joined_upto others many)) (sym first.1)
      (subst (λ (l : List Call). ArePart buffers (joined_upto calls (suc j) ++ first.0) l) (sym second.1)
      (part_more buffers (joined_upto calls (suc j)) (joined_upto others (suc j)) first.0 second.0 parted)))

  go : state 0 → (j : ℕ) → j ≤ n → ArePart buffers (joined_upto calls n) (joined_upto others many) ⊎ AreOne (joined_upto calls j) (joined_upto others j) (state j)
  go start zero low = inr (record { same = refl; now = start })
  go start (suc j) low = by (go start j (omega (arith, low)))
    where
      by : ArePart buffers (joined_upto calls n) (joined_upto others many) ⊎ AreOne (joined_upto calls j) (joined_upto others j) (state j)
          → ArePart buffers (joined_upto calls n) (joined_upto others many) ⊎ AreOne (joined_upto calls (suc j)) (joined_upto others (suc j)) (state (suc j))
      by (inl part) = inl part
      by (inr one) = go_on j low one.now one.same (step j low one.now)

  pub goes_joined : state 0 → (state n → n ≡ many) → Goes buffers (joined_upto calls n) (joined_upto others many) (state n)
  goes_joined start met = by (go start n (omega arith))
    where
      by : ArePart buffers (joined_upto calls n) (joined_upto others many) ⊎ AreOne (joined_upto calls n) (joined_upto others n) (state n)
          → Goes buffers (joined_upto calls n) (joined_upto others many) (state n)
      by (inl part) = inl part
      by (inr one) = inr (record { same = one.same ∙ ap (joined_upto others) (met one.now); now = one.now })

-- as many of both
pub goes_equal : (buffers : ℕ) (calls others : ℕ → List Call) (n : ℕ) (state : ℕ → Type 0) → ((j : ℕ) → j < n → state j → Goes buffers (calls j) (others j) (state (suc j)))
    → state 0 → Goes buffers (joined_upto calls n) (joined_upto others n) (state n)
goes_equal buffers calls others n state step start = goes_joined buffers calls others n n state step (λ j low now. low) start (λ now. refl)

-- joined calls that do not rest on each other
pub goes_each : (buffers : ℕ) (calls others : ℕ → List Call) (n : ℕ) (state : ℕ → Type 0) → ((j : ℕ) → j < n → Goes buffers (calls j) (others j) (state j))
    → Goes buffers (joined_upto calls n) (joined_upto others n) ((j : ℕ) → j < n → state j)
goes_each buffers calls others n state step = goes_equal buffers calls others n (λ m. (j : ℕ) → j < m → state j)
    (λ m low before. goes_by buffers (calls m) (others m) (λ now j less. elim (cases_lt j m) [
      | inl under ↦ before j under
      | inr over ↦ (let e : m ≡ j = omega (arith, less, over) in subst state e now)
    ]) (step m low)) (λ j low. absurd (omega (arith, low)))
