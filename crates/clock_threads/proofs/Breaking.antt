-- A run that came so far: its record begins that of its setting.
use Rattle.std.proofs.Common.{◌≡◌, ◌≢◌, ◌⊎◌, ◌∙◌, ◌<◌, ◌≤◌, ◌+◌, ◌-◌, ℕ, zero, suc, Bool, cond, Option, List, [], ◌∷◌, ◌++◌, length, nat_lt, arith, refl, ap, sym, subst, inl, inr, append_assoc, append-nil, if◌then◌else◌}
use Rattle.std.specs.List.{flat_map}
use Rattle.std.proofs.lemmas.Bool.{cases_lt, lt-ltb, le-ltb}
use mathlib.Core.Path.{fun_ext}
use Rattle.liq_base.specs.Pieces.{IsPrefix, grown}
use Rattle.clock_infer.specs.declared.clock_map.ClockMap.{ClockMap}
use Rattle.frame_core.specs.declared.cell.Cell.{Cell}
use Rattle.frame_core.specs.Legal.{IsHistory}
use Rattle.frame_core.specs.Calls.{Call, takes_of, puts_to}
use Rattle.stream_meaning.specs.Instants.{Setting, answered, with_rest}
use Rattle.stream_meaning.specs.Sinks.{ticks_bytes, IsOutput}
use Rattle.stream_meaning.specs.Calls.{IsBegin, after_calls, answers_in, calls_of_tick, joined_upto, joined_between}
use Rattle.stream_meaning.specs.Settings.{IsSetting}
use Rattle.run_records.specs.Buffers.{feeder, reader}
use Rattle.run_records.specs.Records.{AreWindowsBegun, Follows, IsWithin, Run, Window, answers_of, calls_in, capacity_of, on, setting_then, start, windows_in, windows_of}
use Rattle.run_records.proofs.Alone.{feeder_runs}
use Rattle.run_records.proofs.Owning.{own_tick}
use Rattle.run_records.proofs.Running.{runs_in, rests_in}
use Rattle.clock_threads.specs.TickCalls.{AreTicks, TickCalls, answers_by, joined_from}
use Rattle.clock_threads.proofs.Walking.{answers-append, joined_alike}
use Rattle.clock_threads.specs.declared.wires.Wire.{Wire}
use Rattle.clock_threads.specs.Wires.{wire_at}
use Rattle.clock_threads.specs.Records.{windows_upto}
use Rattle.clock_threads.specs.Lawful.{Answers, AreWires}
use Rattle.clock_threads.specs.Listed.{listed}
use Rattle.clock_threads.proofs.Sets.{same_or_other}
use Rattle.clock_threads.proofs.Keeping.{takes-append}
use Rattle.clock_threads.proofs.Meeting.{joined_split}
use Rattle.clock_threads.proofs.Starts.{start_climbs, start_up}
use Rattle.clock_threads.proofs.Owning.{in_takes, no_took, take_own, to_reader}
use Rattle.clock_threads.proofs.Lawfully.{all_takes, flat_snoc, takes_none}
use Rattle.buffer_ends.specs.Local.{on as on_ends}
use Rattle.clock_threads.proofs.Recording.{on_same, listed_at, listed_long, none_joined}

front_none : {A : Type 0} (xs ys : List A) → xs ++ ys ≡ [] → xs ≡ []
front_none [] ys e = refl
front_none (x ∷ xs) ys e = absurd cc

behind_none : {A : Type 0} (xs ys : List A) → xs ++ ys ≡ [] → ys ≡ []
behind_none [] ys e = e
behind_none (x ∷ xs) ys e = absurd cc

pub begin_none : (calls : List Call) → IsBegin [] calls
begin_none calls = record { rest = calls; are = refl }

pub itself : (bytes : List ℕ) → IsPrefix bytes bytes
itself bytes = record { rest = []; whole_is = sym (append-nil bytes) }

-- A clock has made so many ticks from the last border on, and tried no more or, after these calls, stopped in the next one; each output
-- has grown by its bytes of the ticks that were made, and by a front of those of the ones that were tried.
pub record Came (setting : Setting) (m s e : ℕ) (tick_calls : TickCalls) (ticks tried : ℕ) (made : List Call) (accepted : ℕ → Bool) (old new : ℕ → Option (List ℕ)) : Type 0 where
  pub inside : ((tried ≡ ticks) × (made ≡ [])) ⊎ (tried ≡ suc ticks)
  pub ticks_are : AreTicks setting m ticks tick_calls
  pub begun : (rest : Answers) → IsBegin made (calls_of_tick (with_rest setting (after_calls (answers_by tick_calls ticks) made) rest) accepted m ticks)
  pub front : (rest : Answers) (sink node : ℕ) (output : IsOutput setting m sink node)
      → (bytes : List ℕ) × IsPrefix (ticks_bytes (with_rest setting (after_calls (answers_by tick_calls ticks) made) rest) output.wide node ticks) bytes
      × IsPrefix bytes (ticks_bytes (with_rest setting (after_calls (answers_by tick_calls ticks) made) rest) output.wide node tried) × (new sink ≡ grown bytes (old sink))

-- what a clock called since the last border; one that does not run called nothing
pub record Reach (setting : Setting) (running m s e : ℕ) (tick_calls : TickCalls) (Stands : (made tried : ℕ) → Answers → Type 0) (old new : ℕ → Option (List ℕ)) : Type 0 where
  pub ticks : ℕ
  pub tried : ℕ
  pub within : IsWithin s e ticks tried
  pub made : List Call
  pub accepted : ℕ → Bool
  pub since : List Call
  pub since_is : m < running → since ≡ joined_from tick_calls.calls s (ticks - s) ++ made
  pub came : m < running → Came setting m s e tick_calls ticks tried made accepted old new
  pub stands : m < running → Stands ticks tried (answers_by tick_calls ticks)
  pub rests : running ≤ m → (since ≡ []) × (ticks ≡ s)

module _ (setting : Setting) (map : ClockMap) (is : IsSetting setting map) (wires : List Wire) (are : AreWires setting map.running wires) (W N closed : ℕ) (hs : ℕ → TickCalls)
    (Stands : ℕ → (made tried : ℕ) → Answers → Type 0) (old new : ℕ → ℕ → Option (List ℕ))
    (reach : (m : ℕ) → Reach setting map.running m (start W N closed) (start W N (suc closed)) (hs m) (Stands m) (old m) (new m)) where
  abbrev s : ℕ
  s = start W N closed

  abbrev e : ℕ
  e = start W N (suc closed)

  abbrev ticks : ℕ → ℕ
  ticks m = (reach m).ticks

  abbrev tried : ℕ → ℕ
  tried m = (reach m).tried

  abbrev made : ℕ → List Call
  made m = (reach m).made

  abbrev since : ℕ → List Call
  since m = (reach m).since

  -- what a tick of clock m accepts
  abbrev accepts : (m t : ℕ) → ℕ → Bool
  accepts m t = if nat_lt t (ticks m) then (hs m).accepted t else (reach m).accepted

  -- all calls of a clock
  abbrev all : ℕ → List Call
  all m = joined_upto (hs m).calls (ticks m) ++ made m

  abbrev windows : ℕ → List Window
  windows b = windows_upto (wire_at wires b) hs b W N closed ++ (puts_to b (since (feeder setting b)), takes_of b (since (reader setting b))) ∷ []

  abbrev pub broken_run : Run
  broken_run = record { buffers = listed (length wires) windows }

  abbrev world : Answers → Setting
  world rest = setting_then setting broken_run rest

  pub windows_are : (b : ℕ) → b < length wires → windows_of broken_run b ≡ windows b
  windows_are b less = listed_at (length wires) windows b [] less

  -- a tick takes nothing of a buffer that its clock does not read
  silent : (m : ℕ) (answers : Answers) (accepted : ℕ → Bool) (t b : ℕ) → (reader setting b ≢ m) ⊎ (length wires ≤ b) → takes_of b (calls_of_tick (answered setting answers) accepted m t) ≡ []
  silent m answers accepted t b (inl other) = no_took setting b m other (calls_of_tick (answered setting answers) accepted m t) (own_tick setting map is answers accepted m t)
  silent m answers accepted t b (inr past) = (take_own setting map is wires are).none answers accepted m t b past

  module _ (m : ℕ) (runs : m < map.running) where
    abbrev came : Came setting m s e (hs m) (ticks m) (tried m) (made m) (reach m).accepted (old m) (new m)
    came = (reach m).came runs

    tick_quiet : (b : ℕ) → (reader setting b ≢ m) ⊎ (length wires ≤ b) → (i : ℕ) → i < ticks m → takes_of b ((hs m).calls i) ≡ []
    tick_quiet b off i less = ap (takes_of b) (came.ticks_are i less (λ x. [])) ∙ silent m (λ x. answers_by (hs m) (suc i) x ++ []) ((hs m).accepted i) i b off

    made_quiet : (b : ℕ) → (reader setting b ≢ m) ⊎ (length wires ≤ b) → takes_of b (made m) ≡ []
    made_quiet b off =
        let begun = came.begun (λ x. []) in
        front_none (takes_of b (made m)) (takes_of b begun.rest) (sym (takes-append b (made m) begun.rest) ∙ ap (takes_of b) (sym begun.are)
        ∙ silent m (λ x. after_calls (answers_by (hs m) (ticks m)) (made m) x ++ []) (reach m).accepted (ticks m) b off)

    quiet : (b : ℕ) → (reader setting b ≢ m) ⊎ (length wires ≤ b) → takes_of b (all m) ≡ []
    quiet b off = takes-append b (joined_upto (hs m).calls (ticks m)) (made m) ∙ (λ i. takes_none (hs m).calls b (ticks m) (tick_quiet b off) i ++ made_quiet b off i)

    since_all : joined_upto (hs m).calls s ++ since m ≡ all m
    since_all =
        let least = (reach m).within.least in let calls = (hs m).calls in
        let n : s + (ticks m - s) ≡ ticks m = omega (arith, least) in
        ap (λ l. joined_upto calls s ++ l) ((reach m).since_is runs) ∙ sym (append_assoc (joined_upto calls s) (joined_from calls s (ticks m - s)) (made m))
        ∙ ap (λ l. l ++ made m) (sym (joined_split calls s (ticks m - s)) ∙ ap (joined_upto calls) n)

    -- what the run got of a buffer that this clock reads
    answers_are : (b : ℕ) → b < length wires → reader setting b ≡ m → answers_of broken_run b ≡ takes_of b (all m)
    answers_are b less read =
        let to : (wire_at wires b).to ≡ m = to_reader setting map is wires are m b less runs read in
        ap (flat_map (λ (w : Window). w.1)) (windows_are b less)
        ∙ flat_snoc (λ (w : Window). w.1) (windows_upto (wire_at wires b) hs b W N closed) (puts_to b (since (feeder setting b)), takes_of b (since (reader setting b)))
        ∙ ap (λ l. l ++ takes_of b (since (reader setting b))) (all_takes W N (wire_at wires b) hs b closed)
        ∙ (λ i. takes_of b (joined_upto (hs (to i)).calls s) ++ takes_of b (since (read i)))
        ∙ sym (takes-append b (joined_upto (hs m).calls s) (since m)) ∙ ap (takes_of b) since_all

    module _ (front behind : List Call) (split : all m ≡ front ++ behind) where
      -- the run's answers begin with what these first calls got
      rests : (b : ℕ) → (rest : List (Option (List Cell))) × (answers_of broken_run b ≡ answers_in b front ++ rest)
      rests b = elim (cases_lt b (length wires)) [
        | inr past ↦ (answers_of broken_run b, ap (λ l. l ++ answers_of broken_run b) (sym (none_in (inr past))))
        | inl less ↦ (elim (same_or_other (reader setting b) m) [
          | inl read ↦ (takes_of b behind, answers_are b less read ∙ ap (takes_of b) split ∙ takes-append b front behind ∙ ap (λ l. l ++ takes_of b behind) (sym (in_takes b front)))
          | inr other ↦ (answers_of broken_run b, ap (λ l. l ++ answers_of broken_run b) (sym (none_in (inl other))))
        ])
      ]
        where
          none_in : (reader setting b ≢ m) ⊎ (length wires ≤ b) → answers_in b front ≡ []
          none_in off = in_takes b front ∙ front_none (takes_of b front) (takes_of b behind) (sym (takes-append b front behind) ∙ ap (takes_of b) (sym split) ∙ quiet b off)

      abbrev later : Answers → Answers
      later rest b = (rests b).0 ++ rest b

      world_is : (rest : Answers) → world rest ≡ with_rest setting (λ b. answers_in b front) (later rest)
      world_is rest = ap (answered setting) (fun_ext (λ b. ap (λ l. l ++ rest b) (rests b).1 ∙ append_assoc (answers_in b front) (rests b).0 (rest b)))

    calls_are : (rest : Answers) (i : ℕ) → i < ticks m → (hs m).calls i ≡ calls_in (world rest) map.running accepts m i
    calls_are rest i less =
        let calls = (hs m).calls in let front = joined_upto calls (suc i) in let behind = joined_from calls (suc i) (ticks m - suc i) ++ made m in
        let n : ticks m ≡ suc i + (ticks m - suc i) = omega (arith, less) in
        let split : all m ≡ front ++ behind = ap (λ l. l ++ made m) (ap (joined_upto calls) n ∙ joined_split calls (suc i) (ticks m - suc i)) ∙ append_assoc front (joined_from calls (suc i) (ticks m - suc i)) (made m) in
        let accepted : (hs m).accepted i ≡ accepts m i = ap (λ (t : Bool). cond t ((hs m).accepted i) (reach m).accepted) (sym (lt-ltb i (ticks m) less)) in
        came.ticks_are i less (later front behind split rest)
        ∙ (λ j. calls_of_tick (sym (world_is front behind split rest) j) (accepted j) m i)
        ∙ sym (runs_in (world rest) map.running accepts m i runs)

    -- what all calls of the clock got, whatever answers follow
    abbrev whole_later : Answers → Answers
    whole_later rest = later (all m) [] (sym (append-nil (all m))) rest

    whole_world : (rest : Answers) → with_rest setting (after_calls (answers_by (hs m) (ticks m)) (made m)) (whole_later rest) ≡ world rest
    whole_world rest =
        ap (λ (A : Answers). with_rest setting A (whole_later rest)) (fun_ext (λ b. sym (answers-append b (joined_upto (hs m).calls (ticks m)) (made m))))
        ∙ sym (world_is (all m) [] (sym (append-nil (all m))) rest)

    part_is : (rest : Answers) → IsBegin (made m) (calls_in (world rest) map.running accepts m (ticks m))
    part_is rest =
        let t = ticks m in let high : t ≤ t = omega arith in
        let accepted : (reach m).accepted ≡ accepts m t = ap (λ (b : Bool). cond b ((hs m).accepted t) (reach m).accepted) (sym (le-ltb t t high)) in
        subst (IsBegin (made m)) ((λ j. calls_of_tick (whole_world rest j) (accepted j) m t) ∙ sym (runs_in (world rest) map.running accepts m t runs)) (came.begun (whole_later rest))

    -- the calls of the window that begins there
    abbrev next_calls : Answers → ℕ → List Call
    next_calls rest j = calls_in (world rest) map.running accepts m (s + j)

    since_is : (rest : Answers) → since m ≡ joined_upto (next_calls rest) (ticks m - s) ++ made m
    since_is rest = (let least = (reach m).within.least in
        (reach m).since_is runs ∙ ap (λ l. l ++ made m) (joined_alike (λ j. (hs m).calls (s + j)) (next_calls rest) (ticks m - s) (λ j low. calls_are rest (s + j) (omega (arith, low, least)))))

    begins_by : (rest : Answers) → ((tried m ≡ ticks m) × (made m ≡ [])) ⊎ (tried m ≡ suc (ticks m)) → IsBegin (since m) (joined_upto (next_calls rest) (tried m - s))
    begins_by rest (inl whole) =
        let n = ticks m - s in let f = next_calls rest in
        record {
          rest = [];
          are = ap (λ t. joined_upto f (t - s)) whole.0 ∙ sym (append-nil (joined_upto f n)) ∙ ap (λ l. joined_upto f n ++ l) (sym whole.1) ∙ sym (since_is rest) ∙ sym (append-nil (since m));
        }
    begins_by rest (inr one) =
        let least = (reach m).within.least in let n = ticks m - s in let f = next_calls rest in let p = part_is rest in
        let cut : tried m - s ≡ suc n = omega (arith, least, one) in
        let at : s + n ≡ ticks m = omega (arith, least) in
        let last : f n ≡ made m ++ p.rest = ap (calls_in (world rest) map.running accepts m) at ∙ p.are in
        record {
          rest = p.rest;
          are = ap (joined_upto f) cut ∙ ap (λ l. joined_upto f n ++ l) last ∙ sym (append_assoc (joined_upto f n) (made m) p.rest) ∙ ap (λ l. l ++ p.rest) (sym (since_is rest));
        }

    -- the calls since the border begin with those of the ticks that were made, and begin those of the ticks that were tried
    pub since_whole : (rest : Answers) → IsBegin (joined_between (calls_in (world rest) map.running accepts m) s (ticks m)) (since m)
    since_whole rest = record { rest = made m; are = since_is rest }

    pub since_begins : (rest : Answers) → IsBegin (since m) (joined_between (calls_in (world rest) map.running accepts m) s (tried m))
    since_begins rest = begins_by rest came.inside

    -- each output of the clock has grown by its bytes of the ticks that were made, and by a front of those that were tried
    pub fronts : (rest : Answers) (sink node : ℕ) (output : IsOutput setting m sink node)
        → (bytes : List ℕ) × IsPrefix (ticks_bytes (world rest) output.wide node (ticks m)) bytes × IsPrefix bytes (ticks_bytes (world rest) output.wide node (tried m)) × (new m sink ≡ grown bytes (old m sink))
    fronts rest sink node output =
        let f = came.front (whole_later rest) sink node output in
        (f.0, subst (λ (w : Setting). IsPrefix (ticks_bytes w output.wide node (ticks m)) f.0) (whole_world rest) f.1, subst (λ (w : Setting). IsPrefix f.0 (ticks_bytes w output.wide node (tried m))) (whole_world rest) f.2, f.3)

    -- it stands for the answers of the run that it got
    pub stood : Stands m (ticks m) (tried m) (answers_by (hs m) (ticks m))
    stood = (reach m).stands runs

    pub given : (rest : Answers) → (more : Answers) × (with_rest setting (answers_by (hs m) (ticks m)) more ≡ world rest)
    given rest =
        let front = joined_upto (hs m).calls (ticks m) in
        (later front (made m) refl rest, sym (world_is front (made m) refl rest))

    -- what was taken since the border of a buffer that it does not read
    since_quiet : (b : ℕ) → reader setting b ≢ m → takes_of b (since m) ≡ []
    since_quiet b other = behind_none (takes_of b (joined_upto (hs m).calls s)) (takes_of b (since m)) (sym (takes-append b (joined_upto (hs m).calls s) (since m)) ∙ ap (takes_of b) since_all ∙ quiet b (inl other))

  in_plan : (b : ℕ) → b < length wires → b < length setting.plan.buffers
  in_plan b less = let n = are.many in omega (arith, less, n)

  -- the windows that were closed
  module _ (rest : Answers) (b : ℕ) (less : b < length wires) where
    abbrev calls : ℕ → ℕ → List Call
    calls = calls_in (world rest) map.running accepts

    from_runs : feeder setting b < map.running
    from_runs = feeder_runs setting map is b (in_plan b less)

    same_calls : (m : ℕ) → m < map.running → (t n : ℕ) → t + n ≤ s → joined_from (hs m).calls t n ≡ joined_from (calls m) t n
    same_calls m runs t n most = (let least = (reach m).within.least in
        joined_alike (λ j. (hs m).calls (t + j)) (λ j. calls m (t + j)) n (λ j low. calls_are m runs rest (t + j) (omega (arith, low, most, least))))

    puts_same : (t n : ℕ) → t + n ≤ s → puts_to b (joined_from (hs (wire_at wires b).from).calls t n) ≡ puts_to b (joined_from (calls (feeder setting b)) t n)
    puts_same t n most = (λ i. puts_to b (joined_from (hs ((are.each b less).from_is i)).calls t n)) ∙ ap (puts_to b) (same_calls (feeder setting b) from_runs t n most)

    takes_same : (t n : ℕ) → t + n ≤ s → takes_of b (joined_from (hs (wire_at wires b).to).calls t n) ≡ takes_of b (joined_from (calls (reader setting b)) t n)
    takes_same t n most = elim (cases_lt (reader setting b) map.running) [
      | inl runs ↦ (
          let to : (wire_at wires b).to ≡ reader setting b = to_reader setting map is wires are (reader setting b) b less runs refl in
          (λ i. takes_of b (joined_from (hs (to i)).calls t n)) ∙ ap (takes_of b) (same_calls (reader setting b) runs t n most))
      | inr high ↦ (
          let to : (wire_at wires b).to ≡ feeder setting b = (are.each b less).to_is ∙ ap (λ (t : Bool). cond t (reader setting b) (feeder setting b)) (le-ltb (reader setting b) map.running high) in
          let other : reader setting b ≢ feeder setting b = λ same. (let f = from_runs in omega (arith, same, f, high)) in
          let least = (reach (feeder setting b)).within.least in
          (λ i. takes_of b (joined_from (hs (to i)).calls t n))
          ∙ takes_none (λ j. (hs (feeder setting b)).calls (t + j)) b n (λ j low. tick_quiet (feeder setting b) from_runs b (inl other) (t + j) (omega (arith, low, most, least)))
          ∙ sym (none_joined (λ j. calls (reader setting b) (t + j)) b n (λ j. ap (takes_of b) (rests_in (world rest) map.running accepts (reader setting b) (t + j) high))))
    ]

    pub windows_same : (j : ℕ) → j ≤ closed → windows_upto (wire_at wires b) hs b W N j ≡ windows_in (world rest) map.running accepts b W N j
    windows_same zero low = refl
    windows_same (suc j) low =
        let up = start_up W N j in let climbs = start_climbs W N (suc j) (closed - suc j) closed (omega (arith, low)) in
        let most : start W N j + (start W N (suc j) - start W N j) ≤ s = omega (arith, up, climbs) in
        (λ i. windows_same j (omega (arith, low)) i ++ (puts_same (start W N j) (start W N (suc j) - start W N j) most i, takes_same (start W N j) (start W N (suc j) - start W N j) most i) ∷ [])

  pub in_wires : (b : ℕ) → b < length setting.plan.buffers → b < length wires
  in_wires b known = let n = are.many in omega (arith, known, n)

  -- the takes of the open window
  open_takes : (b : ℕ) (less : b < length wires) → takes_of b (since (wire_at wires b).to) ≡ takes_of b (since (reader setting b))
  open_takes b less = elim (cases_lt (reader setting b) map.running) [
    | inl runs ↦ (λ i. takes_of b (since (to_reader setting map is wires are (reader setting b) b less runs refl i)))
    | inr high ↦ (
        let from = feeder_runs setting map is b (in_plan b less) in
        let to : (wire_at wires b).to ≡ feeder setting b = (are.each b less).to_is ∙ ap (λ (t : Bool). cond t (reader setting b) (feeder setting b)) (le-ltb (reader setting b) map.running high) in
        (λ i. takes_of b (since (to i))) ∙ since_quiet (feeder setting b) from b (λ e. omega (arith, e, from, high)) ∙ ap (takes_of b) (sym ((reach (reader setting b)).rests high).0))
  ]

  module _ (level_is : (m n : ℕ) → m < map.running → n < map.running → tried m ≡ ticks m → tried n ≡ ticks n → ticks m ≡ ticks n)
      (ended_is : (m n : ℕ) → m < map.running → tried n ≡ suc (ticks n) → tried m ≡ ticks m → ticks m ≡ e)
      (border_is : ((m : ℕ) → m < map.running → tried m ≡ ticks m) → (m : ℕ) → m < map.running → (ticks m ≡ s) ⊎ (ticks m ≡ e))
      (runs_are : (b : ℕ) → b < length wires → (chunks : List (List Cell))
      × IsHistory (wire_at wires b).capacity [] (windows_upto (wire_at wires b) hs b W N closed ++ (puts_to b (since (wire_at wires b).from), takes_of b (since (wire_at wires b).to)) ∷ []) chunks)
      (ordered : (b : ℕ) → b < length wires → (wire_at wires b).from ≡ (wire_at wires b).to → (chunks : List (List Cell))
      × Follows (wire_at wires b).capacity [] (on_ends b (joined_upto (hs (wire_at wires b).from).calls (start W N closed) ++ since (wire_at wires b).from)) chunks) where
    pub legal_is : (b : ℕ) → b < length setting.plan.buffers → (chunks : List (List Cell)) × IsHistory (capacity_of setting b) [] (windows_of broken_run b) chunks
    legal_is b known =
        let less = in_wires b known in let l = runs_are b less in
        let same : windows_upto (wire_at wires b) hs b W N closed ++ (puts_to b (since (wire_at wires b).from), takes_of b (since (wire_at wires b).to)) ∷ [] ≡ windows b =
        (λ i. windows_upto (wire_at wires b) hs b W N closed ++ (puts_to b (since ((are.each b less).from_is i)), open_takes b less i) ∷ []) in
        (l.0, subst (λ (z : ℕ × List Window). IsHistory z.0 [] z.1 l.0) (λ i. ((are.each b less).capacity_is i, (same ∙ sym (windows_are b less)) i)) l.1)

    pub order_is : (rest : Answers) (b : ℕ) → b < length setting.plan.buffers → feeder setting b ≡ reader setting b
        → (chunks : List (List Cell)) × Follows (capacity_of setting b) [] (on b (joined_upto (calls_in (world rest) map.running accepts (feeder setting b)) (start W N closed) ++ since (feeder setting b))) chunks
    order_is rest b known one =
        let less = in_wires b known in let w = are.each b less in
        let from = feeder_runs setting map is b known in let runs : reader setting b < map.running = omega (arith, from, one) in
        let to : (wire_at wires b).to ≡ reader setting b = to_reader setting map is wires are (reader setting b) b less runs refl in
        let l = ordered b less (w.from_is ∙ one ∙ sym to) in
        let least = (reach (feeder setting b)).within.least in
        let calls : joined_upto (hs (feeder setting b)).calls s ≡ joined_upto (calls_in (world rest) map.running accepts (feeder setting b)) s =
        joined_alike (hs (feeder setting b)).calls (calls_in (world rest) map.running accepts (feeder setting b)) s (λ i low. calls_are (feeder setting b) from rest i (omega (arith, low, least))) in
        let same : on_ends b (joined_upto (hs (wire_at wires b).from).calls s ++ since (wire_at wires b).from) ≡ on b (joined_upto (calls_in (world rest) map.running accepts (feeder setting b)) s ++ since (feeder setting b)) =
        (λ i. on_ends b (joined_upto (hs (w.from_is i)).calls s ++ since (w.from_is i))) ∙ on_same b (joined_upto (hs (feeder setting b)).calls s ++ since (feeder setting b)) ∙ ap (λ l. on b (l ++ since (feeder setting b))) calls in
        (l.0, subst (λ (z : ℕ × List Call). Follows z.0 [] z.1 l.0) (λ i. (w.capacity_is i, same i)) l.1)

    pub none_called : (calls : ℕ → List Call) (t : ℕ) → t ≡ s → joined_between calls s t ≡ []
    none_called calls t e = let none : t - s ≡ 0 = omega (arith, e) in ap (joined_upto (λ j. calls (s + j))) none

    -- the record of the run, with as many closed windows, and as many ticks of each clock
    abbrev pub windows_begun : AreWindowsBegun setting map.running W N broken_run
    windows_begun = record {
      buffers = listed_long (length wires) windows ∙ are.many;
      accepted = accepts;
      closed = closed;
      made = ticks;
      tried = tried;
      since = since;
      within = λ m. (reach m).within;
      level = level_is;
      ended = ended_is;
      border = border_is;
      whole = λ rest m. (elim (cases_lt m map.running) [
        | inl runs ↦ since_whole m runs rest
        | inr high ↦ subst (λ l. IsBegin l (since m)) (sym (none_called (calls_in (world rest) map.running accepts m) (ticks m) ((reach m).rests high).1)) (begin_none (since m))
      ]);
      begun = λ rest m. (elim (cases_lt m map.running) [
        | inl runs ↦ since_begins m runs rest
        | inr high ↦ subst (λ l. IsBegin l (joined_between (calls_in (world rest) map.running accepts m) s (tried m))) (sym ((reach m).rests high).0) (begin_none (joined_between (calls_in (world rest) map.running accepts m) s (tried m)))
      ]);
      are = λ rest b known. (let less = in_wires b known in
          windows_are b less ∙ ap (λ l. l ++ (puts_to b (since (feeder setting b)), takes_of b (since (reader setting b))) ∷ []) (windows_same rest b less closed (omega arith)));
      legal = legal_is;
      in_order = order_is;
    }
