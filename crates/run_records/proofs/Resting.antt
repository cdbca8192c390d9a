-- A buffer whose reader lies in a clock that does not run: it has puts alone, and its windows in one order.
use Rattle.std.proofs.Common.{◌≡◌, ◌≢◌, ℕ, zero, suc, ◌<◌, ◌≤◌, ◌+◌, ◌-◌, Bool, true, false, cond, Option, Some, None, List, [], ◌∷◌, ◌++◌, length, nat_eq, ◌==◌, sym, refl, ap, ◌∙◌, subst, arith}
use Rattle.std.proofs.lemmas.Bool.Decides.{nat_tests}
use Rattle.std.specs.Prelude.{All, ⊤}
use Rattle.std.proofs.lemmas.List.Elements.{All-head, All-tail}
use Rattle.clock_infer.specs.declared.clock_map.ClockMap.{ClockMap}
use Rattle.frame_core.specs.declared.cell.Cell.{Cell}
use Rattle.frame_core.specs.Legal.{Legal, IsHistory}
use Rattle.frame_core.specs.Calls.{Call, Took, Given, takes_of, puts_to, put_of, Answer}
use Rattle.stream_meaning.specs.Instants.{Setting, answered}
use Rattle.stream_meaning.specs.Calls.{joined_upto, joined_between}
use Rattle.stream_meaning.specs.Settings.{IsSetting}
use Rattle.run_records.specs.Buffers.{feeder, reader}
use Rattle.run_records.specs.Owning.{IsOwn}
use Rattle.run_records.specs.Records.{Follows, Window, calls_in, on, start, windows_in}
use Rattle.run_records.proofs.Rounding.{on-append}
use Rattle.run_records.proofs.Running.{own_in, rests_in}
use Rattle.run_records.proofs.Flattening.{start_zero, takes-append, upto_next}

-- what a legal window without takes is made of
abbrev Inverted : (C : ℕ) (r q : List (List Cell)) → List (Option (List Cell)) → List (Option (List Cell)) → Type 0
Inverted C r q puts (take ∷ takes) = ⊤
Inverted C r q [] [] = q ≡ r
Inverted C r q (Some x ∷ puts) [] = (length q < C) × Legal C r (q ++ x ∷ []) puts []
Inverted C r q (None ∷ puts) [] = (length q ≡ C) × Legal C r q puts []

inverted : {C : ℕ} {r q : List (List Cell)} {puts takes : List (Option (List Cell))} → Legal C r q puts takes → Inverted C r q puts takes
inverted Legal.all_done = refl
inverted {takes = []} (Legal.accepted low rest) = (low, rest)
inverted {takes = take ∷ takes} (Legal.accepted low rest) = tt
inverted {takes = []} (Legal.put_refused all rest) = (all, rest)
inverted {takes = take ∷ takes} (Legal.put_refused all rest) = tt
inverted (Legal.got rest) = tt
inverted (Legal.empty rest) = tt

-- calls that take nothing of a buffer, whose puts are legal, stand in order
pub given_follow : (C b : ℕ) (calls : List Call) (q r : List (List Cell)) → takes_of b calls ≡ [] → Legal C r q (puts_to b calls) [] → Follows C q (on b calls) r
given_follow C b [] q r none legal = inverted legal
given_follow C b (Took x o ∷ calls) q r none legal = by (nat_eq b x) refl none (λ quiet. given_follow C b calls q r quiet legal)
  where
    by : (t : Bool) → nat_eq b x ≡ t → takes_of b (Took x o ∷ calls) ≡ [] → (takes_of b calls ≡ [] → Follows C q (on b calls) r) → Follows C q (cond t (Took x o ∷ on b calls) (on b calls)) r
    by true e none' rest = absurd (let g : o ∷ takes_of b calls ≡ [] = ap (λ (z : Bool). cond z (o ∷ takes_of b calls) (takes_of b calls)) (sym e) ∙ none' in cc)
    by false e none' rest = rest (ap (λ (z : Bool). cond z (o ∷ takes_of b calls) (takes_of b calls)) (sym e) ∙ none')
given_follow C b (Given x c a ∷ calls) q r none legal = by (nat_eq b x) a legal (λ q' l. given_follow C b calls q' r none l)
  where
    by : (t accepted : Bool) → Legal C r q (cond t (put_of c accepted ∷ puts_to b calls) (puts_to b calls)) [] → ((q' : List (List Cell)) → Legal C r q' (puts_to b calls) [] → Follows C q' (on b calls) r)
        → Follows C q (cond t (Given x c accepted ∷ on b calls) (on b calls)) r
    by false accepted l rest = rest q l
    by true true l rest = (let i = inverted l in (i.0, rest (q ++ c ∷ []) i.1))
    by true false l rest = (let i = inverted l in (i.0, rest q i.1))

pub follows_then : (C : ℕ) (xs ys : List Call) (q m r : List (List Cell)) → Follows C q xs m → Follows C m ys r → Follows C q (xs ++ ys) r
follows_then C [] ys q m r f g = subst (λ (l : List (List Cell)). Follows C l ys r) (sym f) g
follows_then C (Took b None ∷ xs) ys q m r f g = (f.0, follows_then C xs ys q m r f.1 g)
follows_then C (Took b (Some chunk) ∷ xs) ys q m r f g = (f.0, f.1, follows_then C xs ys f.0 m r f.2 g)
follows_then C (Given b chunk true ∷ xs) ys q m r f g = (f.0, follows_then C xs ys (q ++ chunk ∷ []) m r f.1 g)
follows_then C (Given b chunk false ∷ xs) ys q m r f g = (f.0, follows_then C xs ys q m r f.1 g)

-- a run, and its last window
pub run_split : (C : ℕ) (q r : List (List Cell)) (windows : List Window) (last : Window) → IsHistory C q (windows ++ last ∷ []) r
    → (m : List (List Cell)) × IsHistory C q windows m × Legal C r m last.0 last.1
run_split C q r [] last run = (q, refl, subst (λ (l : List (List Cell)). Legal C l q last.0 last.1) run.2 run.1)
run_split C q r (w ∷ windows) last run = (let s = run_split C run.0 r windows last run.2 in (s.0, (run.0, run.1, s.1), s.2))

-- calls of a clock that does not read a buffer
pub none_took : (setting : Setting) (b m : ℕ) → reader setting b ≢ m → (calls : List Call) → All (IsOwn setting m) calls → takes_of b calls ≡ []
none_took setting b m read [] each = refl
none_took setting b m read (Given c chunk accepted ∷ calls) each = none_took setting b m read calls (All-tail (IsOwn setting m) (Given c chunk accepted) calls each)
none_took setting b m read (Took c answer ∷ calls) each = by (b == c) refl (none_took setting b m read calls (All-tail (IsOwn setting m) (Took c answer) calls each))
  where
    by : (t : Bool) → (b == c) ≡ t → takes_of b calls ≡ [] → takes_of b (Took c answer ∷ calls) ≡ []
    by true e rest = (let same : b ≡ c = grind (arith, nat_tests) in absurd (read (ap (reader setting) same ∙ (All-head (IsOwn setting m) (Took c answer) calls each))))
    by false e rest = rw e rest

pub none_joined : (f : ℕ → List Call) (b n : ℕ) → ((i : ℕ) → takes_of b (f i) ≡ []) → takes_of b (joined_upto f n) ≡ []
none_joined f b zero none = refl
none_joined f b (suc n) none = takes-append b (joined_upto f n) (f n) ∙ (λ i. none_joined f b n none i ++ none n i)

module _ (setting : Setting) (map : ClockMap) (is : IsSetting setting map) (answers : ℕ → List Answer) (clocks : ℕ) (accepted : ℕ → ℕ → ℕ → Bool) (b : ℕ) (runs : feeder setting b < clocks) (rests : clocks ≤ reader setting b) where
  abbrev world : Setting
  world = answered setting answers

  abbrev fed : ℕ → List Call
  fed = calls_in world clocks accepted (feeder setting b)

  -- the clock that feeds it takes nothing of it
  pub feeder_takes_none : (i : ℕ) → takes_of b (fed i) ≡ []
  feeder_takes_none i = none_took setting b (feeder setting b) (λ e. omega (arith, e, runs, rests)) (fed i) (own_in setting map is answers clocks accepted (feeder setting b) i)

  pub reader_takes_none : (i : ℕ) → takes_of b (calls_in world clocks accepted (reader setting b) i) ≡ []
  reader_takes_none i = ap (takes_of b) (rests_in world clocks accepted (reader setting b) i rests)

  -- its windows in one order
  pub windows_follow : (W N j : ℕ) (C : ℕ) (r : List (List Cell)) → IsHistory C [] (windows_in world clocks accepted b W N j) r → Follows C [] (on b (joined_upto fed (start W N j))) r
  windows_follow W N zero C r run = subst (λ (n : ℕ). Follows C [] (on b (joined_upto fed n)) r) (sym (start_zero W N)) run
  windows_follow W N (suc j) C r run =
      let from = start W N j in let to = start W N (suc j) in
      let last : Window = (puts_to b (joined_between fed from to), takes_of b (joined_between (calls_in world clocks accepted (reader setting b)) from to)) in
      let s = run_split C [] r (windows_in world clocks accepted b W N j) last run in
      let before = windows_follow W N j C s.0 s.1 in
      let quiet : last.1 ≡ [] = none_joined (λ i. calls_in world clocks accepted (reader setting b) (from + i)) b (to - from) (λ i. reader_takes_none (from + i)) in
      let legal : Legal C r s.0 (puts_to b (joined_between fed from to)) [] = subst (λ (l : List (Option (List Cell))). Legal C r s.0 last.0 l) quiet s.2 in
      let here = given_follow C b (joined_between fed from to) s.0 r (none_joined (λ i. fed (from + i)) b (to - from) (λ i. feeder_takes_none (from + i))) legal in
      subst (λ (l : List Call). Follows C [] l r) (sym (ap (on b) (upto_next world clocks accepted b W N fed j) ∙ on-append b (joined_upto fed from) (joined_between fed from to)))
      (follows_then C (on b (joined_upto fed from)) (on b (joined_between fed from to)) [] s.0 r before here)
