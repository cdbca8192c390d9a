-- The record of a run by its wires is a lawful record of its setting.
use Rattle.std.proofs.Common.{◌≡◌, ◌≢◌, ◌∙◌, ◌<◌, ◌≤◌, ◌+◌, ◌-◌, eqb, ℕ, zero, suc, Bool, cond, List, [], ◌∷◌, ◌++◌, length, length-append, slice_index_or, nat_eq, arith, refl, ap, sym, subst, inl, inr}
use Rattle.std.specs.List.{flat_map}
use Rattle.std.proofs.lemmas.Bool.{cases_lt, lt-ltb, le-ltb}
use Rattle.std.proofs.lemmas.Bool.Decides.{nat_tests}
use mathlib.Core.Path.{fun_ext}
use Rattle.clock_infer.specs.declared.clock_map.ClockMap.{ClockMap}
use Rattle.frame_core.specs.Legal.{IsHistory}
use Rattle.frame_core.specs.Calls.{Call, Took, Given, takes_of, puts_to}
use Rattle.buffer_ends.specs.Local.{on as on_ends}
use Rattle.stream_meaning.specs.Instants.{Setting}
use Rattle.stream_meaning.specs.Calls.{joined_upto}
use Rattle.stream_meaning.specs.Settings.{IsSetting}
use Rattle.run_records.specs.Buffers.{feeder, reader}
use Rattle.run_records.specs.Records.{AreWindows, Follows, Run, Window, answers_of as answers_in_run, calls_in, on, setting_in, start, windows_in, windows_of}
use Rattle.run_records.proofs.Alone.{feeder_runs}
use Rattle.run_records.proofs.Owning.{own_tick}
use Rattle.run_records.proofs.Running.{runs_in, rests_in}
use Rattle.clock_threads.specs.TickCalls.{TickCalls, joined_from}
use Rattle.clock_threads.proofs.Walking.{joined_alike}
use Rattle.clock_threads.specs.declared.wires.Wire.{Wire}
use Rattle.clock_threads.specs.Wires.{wire_at}
use Rattle.clock_threads.specs.Records.{windows_upto}
use Rattle.clock_threads.specs.Lawful.{Answers, AreWires, IsWiredHistory, answers_of, clock_calls_of, meant}
use Rattle.clock_threads.specs.Listed.{listed}
use Rattle.clock_threads.proofs.Sets.{same_or_other}
use Rattle.clock_threads.proofs.Keeping.{takes-append}
use Rattle.clock_threads.proofs.Owning.{no_took}

pub listed_long : {A : Type 0} (n : ℕ) (f : ℕ → A) → length (listed n f) ≡ n
listed_long zero f = refl
listed_long (suc n) f = (let one = listed_long n f in let m = length-append (listed n f) (f n ∷ []) in omega (arith, one, m))

front : {A : Type 0} (xs : List A) (y d : A) (k : ℕ) → k < length xs → slice_index_or (xs ++ y ∷ []) k d ≡ slice_index_or xs k d
front [] y d k h = absurd (omega (arith, h))
front (x ∷ xs) y d zero h = refl
front (x ∷ xs) y d (suc k) h = front xs y d k (omega (arith, h))

last : {A : Type 0} (xs : List A) (y d : A) (k : ℕ) → k ≡ length xs → slice_index_or (xs ++ y ∷ []) k d ≡ y
last [] y d zero h = refl
last [] y d (suc k) h = absurd (omega (arith, h))
last (x ∷ xs) y d zero h = absurd (omega (arith, h))
last (x ∷ xs) y d (suc k) h = last xs y d k (omega (arith, h))

pub past_end : {A : Type 0} (xs : List A) (k : ℕ) (d : A) → length xs ≤ k → slice_index_or xs k d ≡ d
past_end [] k d h = refl
past_end (x ∷ xs) zero d h = absurd (omega (arith, h))
past_end (x ∷ xs) (suc k) d h = past_end xs k d (omega (arith, h))

pub listed_at : {A : Type 0} (n : ℕ) (f : ℕ → A) (k : ℕ) (d : A) → k < n → slice_index_or (listed n f) k d ≡ f k
listed_at zero f k d h = absurd (omega (arith, h))
listed_at (suc n) f k d h = elim (same_or_other k n) [
  | inl e ↦ (let m = listed_long n f in last (listed n f) (f n) d k (omega (arith, m, e)) ∙ ap f (sym e))
  | inr off ↦ (let m = listed_long n f in front (listed n f) (f n) d k (omega (arith, m, off, h)) ∙ listed_at n f k d (omega (arith, off, h)))
]

-- two spellings of the calls on a buffer
pub on_same : (b : ℕ) (cs : List Call) → on_ends b cs ≡ on b cs
on_same b [] = refl
on_same b (Took x o ∷ cs) =
    let same : eqb b x ≡ nat_eq b x = grind (arith, nat_tests) in
    ap (λ z. cond z (Took x o ∷ on_ends b cs) (on_ends b cs)) same ∙ ap (λ l. cond (nat_eq b x) (Took x o ∷ l) l) (on_same b cs)
on_same b (Given x c a ∷ cs) =
    let same : eqb b x ≡ nat_eq b x = grind (arith, nat_tests) in
    ap (λ z. cond z (Given x c a ∷ on_ends b cs) (on_ends b cs)) same ∙ ap (λ l. cond (nat_eq b x) (Given x c a ∷ l) l) (on_same b cs)

pub none_joined : (f : ℕ → List Call) (b n : ℕ) → ((i : ℕ) → takes_of b (f i) ≡ []) → takes_of b (joined_upto f n) ≡ []
none_joined f b zero none = refl
none_joined f b (suc n) none = takes-append b (joined_upto f n) (f n) ∙ (λ i. none_joined f b n none i ++ none n i)

module _ (setting : Setting) (map : ClockMap) (is : IsSetting setting map) (wires : List Wire) (are : AreWires setting map.running wires)
    (W N count : ℕ) (windows : ℕ → List Window) (wired : IsWiredHistory (meant setting) wires W N count windows) where
  abbrev pub run_of : Run
  run_of = record { buffers = listed (length wires) windows }

  pub run_windows : (b : ℕ) → b < length wires → windows_of run_of b ≡ windows b
  run_windows b less = listed_at (length wires) windows b [] less

  pub run_answers : answers_in_run run_of ≡ answers_of windows
  run_answers = fun_ext (λ b. (elim (cases_lt b (length wires)) [
    | inl less ↦ ap (flat_map (λ (w : Window). w.1)) (run_windows b less)
    | inr past ↦ ap (flat_map (λ (w : Window). w.1)) (past_end (listed (length wires) windows) b [] (let n = listed_long (length wires) windows in omega (arith, past, n))) ∙ sym (wired.others b past)
  ]))

  abbrev pub inner : Setting
  inner = setting_in setting run_of

  abbrev calls : ℕ → ℕ → List Call
  calls = calls_in inner map.running wired.accepted

  abbrev hs : ℕ → TickCalls
  hs = clock_calls_of (meant setting) windows wired.accepted

  in_plan : (b : ℕ) → b < length wires → b < length setting.plan.buffers
  in_plan b less = let n = are.many in omega (arith, less, n)

  running_calls : (m : ℕ) → m < map.running → (t : ℕ) → (hs m).calls t ≡ calls m t
  running_calls m runs t = ap (λ (A : Answers). meant setting A (wired.accepted m t) m t) (sym run_answers) ∙ sym (runs_in inner map.running wired.accepted m t runs)

  from_runs : (b : ℕ) → b < length wires → feeder setting b < map.running
  from_runs b less = feeder_runs setting map is b (in_plan b less)

  puts_same : (b : ℕ) (less : b < length wires) (s n : ℕ) → puts_to b (joined_from (hs (wire_at wires b).from).calls s n) ≡ puts_to b (joined_from (calls (feeder setting b)) s n)
  puts_same b less s n =
      (λ i. puts_to b (joined_from (hs ((are.each b less).from_is i)).calls s n))
      ∙ ap (puts_to b) (joined_alike (λ j. (hs (feeder setting b)).calls (s + j)) (λ j. calls (feeder setting b) (s + j)) n (λ j low. running_calls (feeder setting b) (from_runs b less) (s + j)))

  takes_same : (b : ℕ) (less : b < length wires) (s n : ℕ) → takes_of b (joined_from (hs (wire_at wires b).to).calls s n) ≡ takes_of b (joined_from (calls (reader setting b)) s n)
  takes_same b less s n = elim (cases_lt (reader setting b) map.running) [
    | inl runs ↦ (
        let to : (wire_at wires b).to ≡ reader setting b = (are.each b less).to_is ∙ ap (λ (t : Bool). cond t (reader setting b) (feeder setting b)) (lt-ltb (reader setting b) map.running runs) in
        (λ i. takes_of b (joined_from (hs (to i)).calls s n))
        ∙ ap (takes_of b) (joined_alike (λ j. (hs (reader setting b)).calls (s + j)) (λ j. calls (reader setting b) (s + j)) n (λ j low. running_calls (reader setting b) runs (s + j))))
    | inr rests ↦ (
        let to : (wire_at wires b).to ≡ feeder setting b = (are.each b less).to_is ∙ ap (λ (t : Bool). cond t (reader setting b) (feeder setting b)) (le-ltb (reader setting b) map.running rests) in
        let other : reader setting b ≢ feeder setting b = λ e. (let f = from_runs b less in omega (arith, e, f, rests)) in
        (λ i. takes_of b (joined_from (hs (to i)).calls s n))
        ∙ none_joined (λ j. (hs (feeder setting b)).calls (s + j)) b n (λ j. no_took setting b (feeder setting b) other ((hs (feeder setting b)).calls (s + j))
        (own_tick setting map is (answers_of windows) (wired.accepted (feeder setting b) (s + j)) (feeder setting b) (s + j)))
        ∙ sym (none_joined (λ j. calls (reader setting b) (s + j)) b n (λ j. ap (takes_of b) (rests_in inner map.running wired.accepted (reader setting b) (s + j) rests))))
  ]

  windows_same : (b : ℕ) (less : b < length wires) (j : ℕ) → windows_upto (wire_at wires b) hs b W N j ≡ windows_in inner map.running wired.accepted b W N j
  windows_same b less zero = refl
  windows_same b less (suc j) =
      (λ i. windows_same b less j i ++ (puts_same b less (start W N j) (start W N (suc j) - start W N j) i, takes_same b less (start W N j) (start W N (suc j) - start W N j) i) ∷ [])

  -- it is lawful
  pub run_is_lawful : AreWindows setting map.running W N run_of
  run_is_lawful = record {
    buffers = listed_long (length wires) windows ∙ are.many;
    accepted = wired.accepted;
    count = count;
    whole = wired.whole;
    tight = wired.tight;
    are = λ b known. (let less : b < length wires = (let n = are.many in omega (arith, known, n)) in
        run_windows b less ∙ wired.are b less ∙ windows_same b less count);
    legal = λ b known. (let less : b < length wires = (let n = are.many in omega (arith, known, n)) in let l = wired.legal b less in
        (l.0, subst (λ (z : ℕ × List Window). IsHistory z.0 [] z.1 l.0) (λ i. ((are.each b less).capacity_is i, sym (run_windows b less) i)) l.1));
    in_order = λ b known one. (let less : b < length wires = (let n = are.many in omega (arith, known, n)) in
        let w = are.each b less in let runs : reader setting b < map.running = (let f = from_runs b less in omega (arith, f, one)) in
        let to : (wire_at wires b).to ≡ reader setting b = w.to_is ∙ ap (λ (t : Bool). cond t (reader setting b) (feeder setting b)) (lt-ltb (reader setting b) map.running runs) in
        let l = wired.in_order b less (w.from_is ∙ one ∙ sym to) in
        let same : on_ends b (joined_upto (hs (wire_at wires b).from).calls N) ≡ on b (joined_upto (calls (feeder setting b)) N) =
        (λ i. on_ends b (joined_upto (hs (w.from_is i)).calls N)) ∙ on_same b (joined_upto (hs (feeder setting b)).calls N)
        ∙ ap (on b) (joined_alike (hs (feeder setting b)).calls (calls (feeder setting b)) N (λ j low. running_calls (feeder setting b) (from_runs b less) j)) in
        (l.0, subst (λ (z : ℕ × List Call). Follows z.0 [] z.1 l.0) (λ i. (w.capacity_is i, same i)) l.1));
  }
