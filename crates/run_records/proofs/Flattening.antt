-- The windows of a buffer, put together, are the puts of its feeder's ticks and the takes of its reader's.
use Rattle.std.proofs.Common.{◌≡◌, ◌≢◌, ℕ, zero, suc, ◌<◌, ◌≤◌, ◌+◌, ◌-◌, ◌*◌, min, Bool, true, false, cond, List, [], ◌∷◌, ◌++◌, map, slice_index_or, nat_eq, sym, refl, ap, ◌∙◌, arith, inl, inr, append_assoc, append-nil, suc-mul, flat_map, ◌==◌}
use Rattle.std.proofs.lemmas.Bool.{cases_lt, cases_eq}
use Rattle.std.proofs.lemmas.Bool.Decides.{nat_tests}
use Rattle.std.proofs.Math.Nat.{min-eq_left, min-eq_right}
use Rattle.frame_core.specs.Calls.{Call, Took, Given, takes_of, puts_to, put_of, Answer}
use Rattle.stream_meaning.specs.Instants.{Setting}
use Rattle.stream_meaning.specs.Calls.{joined_upto, joined_between}
use Rattle.run_records.specs.Buffers.{feeder, reader}
use Rattle.run_records.specs.Records.{Window, Run, start, on, calls_in, windows_in, answers_of}
use Rattle.run_records.specs.Rounds.{merged, as_one}
use Rattle.run_records.proofs.Turning.{joined_split}
use Rattle.run_records.proofs.Rounding.{on-append}
use Rattle.run_records.specs.Owning.{IsOwn}
use Rattle.std.specs.Prelude.{All}
use Rattle.std.proofs.lemmas.List.Elements.{All-head, All-tail}

pub takes-append : (b : ℕ) (cs ds : List Call) → takes_of b (cs ++ ds) ≡ takes_of b cs ++ takes_of b ds
takes-append b [] ds = refl
takes-append b (Given k c a ∷ cs) ds = takes-append b cs ds
takes-append b (Took k o ∷ cs) ds = go (b == k) (takes-append b cs ds)
  where
    go : (t : Bool) → takes_of b (cs ++ ds) ≡ takes_of b cs ++ takes_of b ds → cond t (o ∷ takes_of b (cs ++ ds)) (takes_of b (cs ++ ds)) ≡ cond t (o ∷ takes_of b cs) (takes_of b cs) ++ takes_of b ds
    go true e = ap (λ (l : List Answer). o ∷ l) e
    go false e = e

pub puts-append : (b : ℕ) (cs ds : List Call) → puts_to b (cs ++ ds) ≡ puts_to b cs ++ puts_to b ds
puts-append b [] ds = refl
puts-append b (Took k o ∷ cs) ds = puts-append b cs ds
puts-append b (Given k c a ∷ cs) ds = go (b == k) (puts-append b cs ds)
  where
    go : (t : Bool) → puts_to b (cs ++ ds) ≡ puts_to b cs ++ puts_to b ds → cond t (put_of c a ∷ puts_to b (cs ++ ds)) (puts_to b (cs ++ ds)) ≡ cond t (put_of c a ∷ puts_to b cs) (puts_to b cs) ++ puts_to b ds
    go true e = ap (λ (l : List Answer). put_of c a ∷ l) e
    go false e = e

pub flat_snoc : {A B : Type 0} (f : A → List B) (xs : List A) (y : A) → flat_map f (xs ++ y ∷ []) ≡ flat_map f xs ++ f y
flat_snoc f [] y = append-nil (f y)
flat_snoc f (x ∷ xs) y = ap (λ l. f x ++ l) (flat_snoc f xs y) ∙ sym (append_assoc (f x) (flat_map f xs) (f y))

pub start_zero : (W N : ℕ) → start W N 0 ≡ 0
start_zero W N = let z : 0 * W ≡ 0 = grind arith in ap (min N) z ∙ min-eq_right (omega arith)

pub start_most : (W N j : ℕ) → start W N j ≤ N
start_most W N j = elim (cases_lt N (j * W)) [
  | inl low ↦ (let e = min-eq_left {n = N} {m = j * W} (omega (arith, low)) in omega (arith, e))
  | inr high ↦ (let e = min-eq_right {n = j * W} {m = N} high in omega (arith, e, high))
]

pub start_up : (W N j : ℕ) → start W N j ≤ start W N (suc j)
start_up W N j =
    let m = suc-mul j W in
    elim (cases_lt N (j * W)) [
      | inl low ↦ (let e = min-eq_left {n = N} {m = j * W} (omega (arith, low)) in let f = min-eq_left {n = N} {m = suc j * W} (omega (arith, low, m)) in omega (arith, e, f))
      | inr high ↦ (let e = min-eq_right {n = j * W} {m = N} high in elim (cases_lt N (suc j * W)) [
        | inl low ↦ (let f = min-eq_left {n = N} {m = suc j * W} (omega (arith, low)) in omega (arith, e, f, high))
        | inr high' ↦ (let f = min-eq_right {n = suc j * W} {m = N} high' in omega (arith, e, f, m))
      ])
    ]

module _ (setting : Setting) (clocks : ℕ) (accepted : ℕ → ℕ → ℕ → Bool) (b W N : ℕ) where
  pub upto_next : (f : ℕ → List Call) (j : ℕ) → joined_upto f (start W N (suc j)) ≡ joined_upto f (start W N j) ++ joined_between f (start W N j) (start W N (suc j))
  upto_next f j =
      let up = start_up W N j in
      let e : start W N (suc j) ≡ start W N j + (start W N (suc j) - start W N j) = omega (arith, up) in
      ap (joined_upto f) e ∙ joined_split f (start W N j) (start W N (suc j) - start W N j)

  pub all_puts : (j : ℕ) → flat_map (λ (w : Window). w.0) (windows_in setting clocks accepted b W N j) ≡ puts_to b (joined_upto (calls_in setting clocks accepted (feeder setting b)) (start W N j))
  all_puts zero = ap (λ (n : ℕ). puts_to b (joined_upto (calls_in setting clocks accepted (feeder setting b)) n)) (sym (start_zero W N))
  all_puts (suc j) =
      let f = calls_in setting clocks accepted (feeder setting b) in let g = calls_in setting clocks accepted (reader setting b) in
      flat_snoc (λ (w : Window). w.0) (windows_in setting clocks accepted b W N j) (puts_to b (joined_between f (start W N j) (start W N (suc j))), takes_of b (joined_between g (start W N j) (start W N (suc j))))
      ∙ ap (λ (l : List Answer). l ++ puts_to b (joined_between f (start W N j) (start W N (suc j)))) (all_puts j)
      ∙ sym (puts-append b (joined_upto f (start W N j)) (joined_between f (start W N j) (start W N (suc j)))) ∙ ap (puts_to b) (sym (upto_next f j))

  pub all_takes : (j : ℕ) → flat_map (λ (w : Window). w.1) (windows_in setting clocks accepted b W N j) ≡ takes_of b (joined_upto (calls_in setting clocks accepted (reader setting b)) (start W N j))
  all_takes zero = ap (λ (n : ℕ). takes_of b (joined_upto (calls_in setting clocks accepted (reader setting b)) n)) (sym (start_zero W N))
  all_takes (suc j) =
      let f = calls_in setting clocks accepted (feeder setting b) in let g = calls_in setting clocks accepted (reader setting b) in
      flat_snoc (λ (w : Window). w.1) (windows_in setting clocks accepted b W N j) (puts_to b (joined_between f (start W N j) (start W N (suc j))), takes_of b (joined_between g (start W N j) (start W N (suc j))))
      ∙ ap (λ (l : List Answer). l ++ takes_of b (joined_between g (start W N j) (start W N (suc j)))) (all_takes j)
      ∙ sym (takes-append b (joined_upto g (start W N j)) (joined_between g (start W N j) (start W N (suc j)))) ∙ ap (takes_of b) (sym (upto_next g j))

-- the calls on one buffer have its puts and takes
pub puts_on : (b : ℕ) (cs : List Call) → puts_to b (on b cs) ≡ puts_to b cs
puts_on b [] = refl
puts_on b (Took x o ∷ cs) = go (b == x) (puts_on b cs)
  where
    go : (s : Bool) → puts_to b (on b cs) ≡ puts_to b cs → puts_to b (cond s (Took x o ∷ on b cs) (on b cs)) ≡ puts_to b cs
    go true e = e
    go false e = e
puts_on b (Given x c a ∷ cs) = go (b == x) refl (puts_on b cs)
  where
    go : (s : Bool) → (b == x) ≡ s → puts_to b (on b cs) ≡ puts_to b cs → puts_to b (cond s (Given x c a ∷ on b cs) (on b cs)) ≡ cond s (put_of c a ∷ puts_to b cs) (puts_to b cs)
    go true is e = ap (λ (z : Bool). cond z (put_of c a ∷ puts_to b (on b cs)) (puts_to b (on b cs))) is ∙ ap (λ (l : List Answer). put_of c a ∷ l) e
    go false is e = e

pub takes_on : (b : ℕ) (cs : List Call) → takes_of b (on b cs) ≡ takes_of b cs
takes_on b [] = refl
takes_on b (Given x c a ∷ cs) = go (b == x) (takes_on b cs)
  where
    go : (s : Bool) → takes_of b (on b cs) ≡ takes_of b cs → takes_of b (cond s (Given x c a ∷ on b cs) (on b cs)) ≡ takes_of b cs
    go true e = e
    go false e = e
takes_on b (Took x o ∷ cs) = go (b == x) refl (takes_on b cs)
  where
    go : (s : Bool) → (b == x) ≡ s → takes_of b (on b cs) ≡ takes_of b cs → takes_of b (cond s (Took x o ∷ on b cs) (on b cs)) ≡ cond s (o ∷ takes_of b cs) (takes_of b cs)
    go true is e = ap (λ (z : Bool). cond z (o ∷ takes_of b (on b cs)) (takes_of b (on b cs))) is ∙ ap (λ (l : List Answer). o ∷ l) e
    go false is e = e

-- a clock that neither feeds nor reads a buffer makes no call on it
pub none_on : (base : Setting) (b m : ℕ) → feeder base b ≢ m → reader base b ≢ m → (calls : List Call) → All (IsOwn base m) calls → on b calls ≡ []
none_on base b m fed read [] each = refl
none_on base b m fed read (Took c answer ∷ calls) each = by (nat_eq b c) refl (none_on base b m fed read calls (All-tail (IsOwn base m) (Took c answer) calls each))
  where
    by : (t : Bool) → nat_eq b c ≡ t → on b calls ≡ [] → on b (Took c answer ∷ calls) ≡ []
    by true e rest = (let same : b ≡ c = grind (arith, nat_tests) in absurd (read (ap (reader base) same ∙ (All-head (IsOwn base m) (Took c answer) calls each))))
    by false e rest = rw e rest
none_on base b m fed read (Given c chunk accepted ∷ calls) each = by (nat_eq b c) refl (none_on base b m fed read calls (All-tail (IsOwn base m) (Given c chunk accepted) calls each))
  where
    by : (t : Bool) → nat_eq b c ≡ t → on b calls ≡ [] → on b (Given c chunk accepted ∷ calls) ≡ []
    by true e rest = (let same : b ≡ c = grind (arith, nat_tests) in absurd (fed (ap (feeder base) same ∙ (All-head (IsOwn base m) (Given c chunk accepted) calls each))))
    by false e rest = rw e rest

-- one clock's calls among those of a round, and of all rounds
round_on : (b f : ℕ) (calls : ℕ → List Call) (n : ℕ) → ((m : ℕ) → m ≢ f → on b (calls m) ≡ []) → (n ≤ f → on b (joined_upto calls n) ≡ []) × (f < n → on b (joined_upto calls n) ≡ on b (calls f))
round_on b f calls zero none = ((λ h. refl), (λ h. absurd (omega (arith, h))))
round_on b f calls (suc n) none =
    let r = round_on b f calls n none in let cut = on-append b (joined_upto calls n) (calls n) in (
      (λ h. cut ∙ (λ i. r.0 (omega (arith, h)) i ++ none n (λ e. omega (arith, e, h)) i)),
      (λ h. elim (cases_eq n f) [
        | inl e ↦ cut ∙ (λ i. r.0 (omega (arith, e)) i ++ on b (calls (e i)))
        | inr off ↦ cut ∙ (λ i. r.1 (omega (arith, h, off)) i ++ none n off i) ∙ append-nil (on b (calls f))
      ]),
    )

pub rounds_on : (b f : ℕ) (calls : ℕ → ℕ → List Call) (clocks : ℕ) (N : ℕ) → f < clocks → ((m t : ℕ) → m ≢ f → on b (calls m t) ≡ [])
    → on b (joined_upto (λ t. joined_upto (λ m. calls m t) clocks) N) ≡ on b (joined_upto (calls f) N)
rounds_on b f calls clocks zero low none = refl
rounds_on b f calls clocks (suc n) low none =
    on-append b (joined_upto (λ t. joined_upto (λ m. calls m t) clocks) n) (joined_upto (λ m. calls m n) clocks)
    ∙ (λ i. rounds_on b f calls clocks n low none i ++ (round_on b f (λ m. calls m n) clocks (λ m off. none m n off)).1 low i)
    ∙ sym (on-append b (joined_upto (calls f) n) (calls f n))

-- the answers of a run stay where its windows are merged
merged_one : (xs : List (List Window)) (b : ℕ) → flat_map (λ (w : Window). w.1) (slice_index_or (map as_one xs) b []) ≡ flat_map (λ (w : Window). w.1) (slice_index_or xs b [])
merged_one [] b = refl
merged_one (x ∷ xs) zero = append-nil (flat_map (λ (w : Window). w.1) x)
merged_one (x ∷ xs) (suc b) = merged_one xs b

pub merged_answers : (run : Run) (b : ℕ) → answers_of (merged run) b ≡ answers_of run b
merged_answers run b = merged_one run.buffers b
