-- The record of rounds on one thread is that of clocks in one window.
use Rattle.std.proofs.Common.{◌≡◌, ◌≢◌, ◌<◌, ◌≤◌, ◌∙◌, ◌*◌, ◌++◌, ◌==◌, ℕ, zero, suc, Bool, true, false, cond, Option, Some, None, List, [], ◌∷◌, length, nat_eq, refl, ap, sym, subst, arith, inl, inr, append-nil}
use Rattle.std.specs.Prelude.{All}
use Rattle.std.proofs.lemmas.Bool.{cases_eq, cases_lt}
use Rattle.std.proofs.lemmas.Bool.Decides.{nat_tests}
use Rattle.std.proofs.lemmas.List.Elements.{All-head, All-tail}
use Rattle.std.proofs.Math.Nat.{min-eq_left}
use Rattle.clock_infer.specs.declared.clock_map.ClockMap.{ClockMap}
use Rattle.frame_core.specs.declared.cell.Cell.{Cell}
use Rattle.frame_core.specs.Legal.{Legal, IsHistory}
use Rattle.frame_core.specs.Calls.{Call, Took, Given, takes_of, puts_to, put_of, Answer}
use Rattle.stream_meaning.specs.Instants.{Setting}
use Rattle.stream_meaning.specs.Calls.{joined_upto, joined_between}
use Rattle.stream_meaning.specs.Settings.{IsSetting}
use Rattle.run_records.specs.Buffers.{feeder, reader}
use Rattle.run_records.specs.Owning.{IsOwn}
use Rattle.run_records.specs.Records.{AreWindows, Follows, IsRounds, Run, Window, answers_of, calls_in, capacity_of, on, rounds_of, setting_in, start, windows_in, windows_of}
use Rattle.run_records.proofs.Alone.{feeder_runs}
use Rattle.run_records.proofs.Flattening.{none_on, puts-append, rounds_on, start_zero, takes-append, upto_next}
use Rattle.run_records.proofs.Resting.{none_joined, none_took}
use Rattle.run_records.proofs.Running.{own_in, rests_in, rounds_in}

-- calls in their order make a legal window
follows_legal : (C b : ℕ) (calls : List Call) (q r : List (List Cell)) → Follows C q (on b calls) r → Legal C r q (puts_to b calls) (takes_of b calls)
follows_legal C b [] q r f = subst (λ l. Legal C r l [] []) (sym f) Legal.all_done
follows_legal C b (Took x o ∷ calls) q r f = by (nat_eq b x) o (λ q' g. follows_legal C b calls q' r g) f
  where
    by : (t : Bool) (o' : Option (List Cell)) → ((q' : List (List Cell)) → Follows C q' (on b calls) r → Legal C r q' (puts_to b calls) (takes_of b calls))
        → Follows C q (cond t (Took x o' ∷ on b calls) (on b calls)) r → Legal C r q (puts_to b calls) (cond t (o' ∷ takes_of b calls) (takes_of b calls))
    by false o' rest g = rest q g
    by true None rest g = subst (λ l. Legal C r l (puts_to b calls) (None ∷ takes_of b calls)) (sym g.0) (Legal.empty (subst (λ l. Legal C r l (puts_to b calls) (takes_of b calls)) g.0 (rest q g.1)))
    by true (Some chunk) rest g = subst (λ l. Legal C r l (puts_to b calls) (Some chunk ∷ takes_of b calls)) (sym g.1) (Legal.got (rest g.0 g.2))
follows_legal C b (Given x c a ∷ calls) q r f = by (nat_eq b x) a (λ q' g. follows_legal C b calls q' r g) f
  where
    by : (t : Bool) (a' : Bool) → ((q' : List (List Cell)) → Follows C q' (on b calls) r → Legal C r q' (puts_to b calls) (takes_of b calls))
        → Follows C q (cond t (Given x c a' ∷ on b calls) (on b calls)) r → Legal C r q (cond t (put_of c a' ∷ puts_to b calls) (puts_to b calls)) (takes_of b calls)
    by false a' rest g = rest q g
    by true true rest g = Legal.accepted g.0 (rest (q ++ c ∷ []) g.1)
    by true false rest g = Legal.put_refused g.0 (rest q g.1)

-- what is told of each clock's calls, where only one of them tells something
module _ {A : Type 0} (told : List Call → List A) (none : told [] ≡ []) (joins : (xs ys : List Call) → told (xs ++ ys) ≡ told xs ++ told ys) where
  pub round_told : (f : ℕ) (calls : ℕ → List Call) (n : ℕ) → ((m : ℕ) → m ≢ f → told (calls m) ≡ []) → (n ≤ f → told (joined_upto calls n) ≡ []) × (f < n → told (joined_upto calls n) ≡ told (calls f))
  round_told f calls zero others = ((λ h. none), (λ h. absurd (omega (arith, h))))
  round_told f calls (suc n) others =
      let before = round_told f calls n others in let cut = joins (joined_upto calls n) (calls n) in (
        (λ h. cut ∙ (λ i. before.0 (omega (arith, h)) i ++ others n (λ e. omega (arith, e, h)) i)),
        (λ h. elim (cases_eq n f) [
          | inl e ↦ cut ∙ (λ i. before.0 (omega (arith, e)) i ++ told (calls (e i)))
          | inr off ↦ cut ∙ (λ i. before.1 (omega (arith, h, off)) i ++ others n off i) ∙ append-nil (told (calls f))
        ]),
      )

  pub all_told : (f : ℕ) (calls : ℕ → ℕ → List Call) (clocks N : ℕ) → f < clocks → ((m t : ℕ) → m ≢ f → told (calls m t) ≡ [])
      → told (joined_upto (λ t. joined_upto (λ m. calls m t) clocks) N) ≡ told (joined_upto (calls f) N)
  all_told f calls clocks zero low others = refl
  all_told f calls clocks (suc n) low others =
      joins (joined_upto (λ t. joined_upto (λ m. calls m t) clocks) n) (joined_upto (λ m. calls m n) clocks)
      ∙ (λ i. all_told f calls clocks n low others i ++ (round_told f (λ m. calls m n) clocks (λ m off. others m n off)).1 low i)
      ∙ sym (joins (joined_upto (calls f) n) (calls f n))

  -- and none of those that run
  none_told : (f : ℕ) (calls : ℕ → ℕ → List Call) (clocks N : ℕ) → clocks ≤ f → ((m t : ℕ) → m ≢ f → told (calls m t) ≡ []) → told (joined_upto (λ t. joined_upto (λ m. calls m t) clocks) N) ≡ []
  none_told f calls clocks zero high others = none
  none_told f calls clocks (suc n) high others =
      joins (joined_upto (λ t. joined_upto (λ m. calls m t) clocks) n) (joined_upto (λ m. calls m n) clocks)
      ∙ (λ i. none_told f calls clocks n high others i ++ (round_told f (λ m. calls m n) clocks (λ m off. others m n off)).0 high i)

-- calls of a clock that does not feed a buffer
none_gave : (setting : Setting) (b m : ℕ) → feeder setting b ≢ m → (calls : List Call) → All (IsOwn setting m) calls → puts_to b calls ≡ []
none_gave setting b m fed [] each = refl
none_gave setting b m fed (Took c answer ∷ calls) each = none_gave setting b m fed calls (All-tail (IsOwn setting m) (Took c answer) calls each)
none_gave setting b m fed (Given c chunk accepted ∷ calls) each = by (b == c) refl (none_gave setting b m fed calls (All-tail (IsOwn setting m) (Given c chunk accepted) calls each))
  where
    by : (t : Bool) → (b == c) ≡ t → puts_to b calls ≡ [] → puts_to b (Given c chunk accepted ∷ calls) ≡ []
    by true e rest = (let same : b ≡ c = grind (arith, nat_tests) in absurd (fed (ap (feeder setting) same ∙ (All-head (IsOwn setting m) (Given c chunk accepted) calls each))))
    by false e rest = rw e rest

module _ (setting : Setting) (map : ClockMap) (is : IsSetting setting map) (N : ℕ) (run : Run) (some : 0 < N) (rounds : IsRounds setting map.running N run) where
  abbrev now : Setting
  now = setting_in setting run

  abbrev calls : ℕ → ℕ → List Call
  calls = calls_in now map.running rounds.accepted

  start_one : start N N 1 ≡ N
  start_one = let one : 1 * N ≡ N = grind arith in min-eq_left {n = N} {m = 1 * N} (omega (arith, one))

  -- the calls of the one window
  all_calls : (f : ℕ → List Call) → joined_between f (start N N 0) (start N N 1) ≡ joined_upto f N
  all_calls f =
      sym (upto_next now map.running rounds.accepted 0 N N f 0 ∙ ap (λ n. joined_upto f n ++ joined_between f (start N N 0) (start N N 1)) (start_zero N N)) ∙ ap (joined_upto f) start_one

  own : (m t : ℕ) → All (IsOwn setting m) (calls m t)
  own m t = own_in setting map is (answers_of run) map.running rounds.accepted m t

  puts_are : (b : ℕ) → b < length setting.plan.buffers → puts_to b (rounds_of now rounds.accepted map.running N) ≡ puts_to b (joined_upto (calls (feeder setting b)) N)
  puts_are b known =
      ap (puts_to b) (rounds_in now map.running rounds.accepted N)
      ∙ all_told (puts_to b) refl (puts-append b) (feeder setting b) calls map.running N (feeder_runs setting map is b known)
      (λ m t off. none_gave setting b m (λ e. off (sym e)) (calls m t) (own m t))

  takes_are : (b : ℕ) → takes_of b (rounds_of now rounds.accepted map.running N) ≡ takes_of b (joined_upto (calls (reader setting b)) N)
  takes_are b =
      let others : (m t : ℕ) → m ≢ reader setting b → takes_of b (calls m t) ≡ [] = λ m t off. none_took setting b m (λ e. off (sym e)) (calls m t) (own m t) in
      ap (takes_of b) (rounds_in now map.running rounds.accepted N)
      ∙ elim (cases_lt (reader setting b) map.running) [
        | inl low ↦ all_told (takes_of b) refl (takes-append b) (reader setting b) calls map.running N low others
        | inr high ↦ none_told (takes_of b) refl (takes-append b) (reader setting b) calls map.running N high others
            ∙ sym (none_joined (calls (reader setting b)) b N (λ t. ap (takes_of b) (rests_in now map.running rounds.accepted (reader setting b) t high)))
      ]

  windows_are : (b : ℕ) → b < length setting.plan.buffers → windows_of run b ≡ windows_in now map.running rounds.accepted b N N 1
  windows_are b known =
      rounds.are b known
      ∙ (λ i. (puts_are b known i, takes_are b i) ∷ [])
      ∙ (λ i. (puts_to b (sym (all_calls (calls (feeder setting b))) i), takes_of b (sym (all_calls (calls (reader setting b))) i)) ∷ [])

  one_history : (b : ℕ) → b < length setting.plan.buffers → (rest : List (List Cell)) × IsHistory (capacity_of setting b) [] (windows_of run b) rest
  one_history b known =
      let order = rounds.in_order b known in (
        order.0,
        subst (λ (ws : List Window). IsHistory (capacity_of setting b) [] ws order.0) (sym (rounds.are b known))
            (order.0, follows_legal (capacity_of setting b) b (rounds_of now rounds.accepted map.running N) [] order.0 order.1, refl),
      )

  -- one clock's calls alone are on a buffer with both its ends
  on_are : (b : ℕ) → b < length setting.plan.buffers → feeder setting b ≡ reader setting b
      → on b (rounds_of now rounds.accepted map.running N) ≡ on b (joined_upto (calls (feeder setting b)) N)
  on_are b known one =
      ap (on b) (rounds_in now map.running rounds.accepted N)
      ∙ rounds_on b (feeder setting b) calls map.running N (feeder_runs setting map is b known)
      (λ m t off. none_on setting b m (λ e. off (sym e)) (λ e. off (sym (one ∙ e))) (calls m t) (own m t))

  one_window : AreWindows setting map.running N N run
  one_window = record {
    buffers = rounds.buffers;
    accepted = rounds.accepted;
    count = 1;
    whole = start_one;
    tight = λ j low. (let none : j ≡ 0 = omega (arith, low) in let zero_is = start_zero N N in let same : start N N j ≡ start N N 0 = ap (start N N) none in omega (arith, same, zero_is, some));
    are = windows_are;
    legal = one_history;
    in_order = λ b known one. (let order = rounds.in_order b known in (order.0, subst (λ (l : List Call). Follows (capacity_of setting b) [] l order.0) (on_are b known one) order.1));
  }

pub rounds_are_lawful : (setting : Setting) (map : ClockMap) → IsSetting setting map → (N : ℕ) (run : Run) → 0 < N → IsRounds setting map.running N run → AreWindows setting map.running N N run
rounds_are_lawful setting map is N run some rounds = one_window setting map is N run some rounds
