-- Runs that were broken off begin what rounds on one thread do.
use Rattle.std.proofs.Common.{◌≡◌, ◌≢◌, ◌⊎◌, ◌<◌, ◌≤◌, ◌+◌, ◌-◌, ◌∙◌, Option, ◌++◌, ℕ, zero, suc, List, [], ◌∷◌, length, inl, inr, refl, ap, sym, subst, arith, append_assoc, append-nil, flat_map, slice_index_or}
use Rattle.std.proofs.lemmas.Bool.{cases_lt, cases_eq}
use mathlib.Core.Path.{fun_ext}
use Rattle.clock_infer.specs.declared.clock_map.ClockMap.{ClockMap}
use Rattle.frame_core.specs.declared.cell.Cell.{Cell}
use Rattle.frame_core.specs.Legal.{IsHistory, Legal}
use Rattle.frame_core.specs.Calls.{Call, takes_of, puts_to, Answer}
use Rattle.stream_meaning.specs.Instants.{Setting, answered}
use Rattle.stream_meaning.specs.Calls.{joined_upto}
use Rattle.stream_meaning.specs.Settings.{IsSetting}
use Rattle.stream_meaning.proofs.Answering.{joined_same}
use Rattle.run_records.specs.Parting.{Goes}
use Rattle.run_records.specs.Alike.{IsTickAlike}
use Rattle.run_records.proofs.Parting.{joined_first}
use Rattle.run_records.proofs.Ticking.{ticks_go}
use Rattle.run_records.specs.Buffers.{feeder, reader}
use Rattle.run_records.specs.Records.{AreRoundsBegun, AreWindowsBegun, Follows, IsRounds, Run, Window, answers_of, calls_in, capacity_of, on, rounds_of, setting_in, setting_then, start, ticks_of, windows_in}
use Rattle.run_records.specs.Rounds.{BeginsRounds, HasNoJoin}
use Rattle.run_records.proofs.Alone.{feeder_runs}
use Rattle.run_records.proofs.Flattening.{all_takes, none_on, rounds_on, start_most, takes-append, takes_on}
use Rattle.run_records.proofs.Resting.{feeder_takes_none, follows_then, given_follow, none_joined, reader_takes_none, run_split, windows_follow}
use Rattle.run_records.proofs.Rounding.{follows_split, not_apart, on-append, rounds_go}
use Rattle.run_records.proofs.Running.{own_in, rests_in, rounds_in, runs_in}
use Rattle.run_records.proofs.Turning.{joined_split}

-- of two lists with one front, either the first goes past this place, or it ends before it
cut_at : {A : Type 0} (front : List A) (x : A) (behind first rest : List A) → front ++ x ∷ behind ≡ first ++ rest → ((more : List A) × (first ≡ front ++ x ∷ more)) ⊎ ((more : List A) × (front ≡ first ++ more))
cut_at front x behind [] rest e = inr (front, refl)
cut_at [] x behind (y ∷ first) rest e = (let same : x ≡ y = cc in inl (first, ap (λ z. z ∷ first) (sym same)))
cut_at (z ∷ front) x behind (y ∷ first) rest e =
    let same : z ≡ y = cc in let tails : front ++ x ∷ behind ≡ first ++ rest = cc in
    elim (cut_at front x behind first rest tails) [
      | inl past ↦ inl (past.0, (λ i. sym same i ∷ past.1 i))
      | inr short ↦ inr (short.0, (λ i. same i ∷ short.1 i))
    ]

pub front_none : {A : Type 0} (xs ys : List A) → xs ++ ys ≡ [] → xs ≡ []
front_none [] ys e = refl
front_none (x ∷ xs) ys e = absurd cc

-- calls that lists follow up to the end of a front have this front in common, if they part at an answer alone
begins : (capacity : ℕ → ℕ) (buffers : ℕ) (front tail ys : List Call) (state : Type 0)
    → ((b : ℕ) → b < buffers → (rest : List (List Cell)) × Follows (capacity b) [] (on b front) rest)
    → ((b : ℕ) → b < buffers → (rest : List (List Cell)) × Follows (capacity b) [] (on b ys) rest)
    → Goes buffers (front ++ tail) ys state → (others : List Call) × (ys ≡ front ++ others)
begins capacity buffers front tail ys state first second (inr one) = (tail, sym one.same)
begins capacity buffers front tail ys state first second (inl part) = elim (cut_at part.front part.one part.behind front tail (sym part.first)) [
  | inl past ↦ absurd (not_apart capacity buffers front ys first second part.front past.0 part.others part.one part.other past.1 part.second part.differ)
  | inr short ↦ (short.0 ++ part.other ∷ part.others, part.second ∙ ap (λ l. l ++ part.other ∷ part.others) short.1 ∙ append_assoc front short.0 (part.other ∷ part.others))
]

-- the answers of a buffer that a run does not have
none_past : (run : Run) (b : ℕ) → length run.buffers ≤ b → answers_of run b ≡ []
none_past run b high = ap (flat_map (λ (w : Window). w.1)) (past run.buffers b high)
  where
    past : (xs : List (List Window)) (k : ℕ) → length xs ≤ k → slice_index_or xs k [] ≡ []
    past [] k h = refl
    past (x ∷ xs) zero h = absurd (omega (arith, h))
    past (x ∷ xs) (suc k) h = past xs k (omega (arith, h))

-- a run whose answers begin those of rounds
begins_by : (setting : Setting) (run rounds : Run) → ((b : ℕ) → (rest : List Answer) × (answers_of run b ++ rest ≡ answers_of rounds b)) → BeginsRounds setting run rounds
begins_by setting run rounds each = record { rest = λ b. (each b).0; same = ap (answered setting) (fun_ext (λ b. (each b).1)) }

module _ (setting : Setting) (map : ClockMap) (is : IsSetting setting map) where
  pub rounds_begin : (clocks N : ℕ) (run rounds : Run) → AreRoundsBegun setting clocks N run → IsRounds setting clocks N rounds → BeginsRounds setting run rounds
  rounds_begin clocks N run rounds begun are =
      let start_of = begun.begun (λ b. []) in
      let ys = rounds_of (setting_in setting rounds) are.accepted clocks N in
      let found = begins (capacity_of setting) (length setting.plan.buffers) begun.calls start_of.1.rest ys ((m : ℕ) → m < clocks → IsTickAlike setting (λ b. answers_of run b ++ []) (answers_of rounds) m N) begun.in_order are.in_order
      (subst (λ xs. Goes (length setting.plan.buffers) xs ys ((m : ℕ) → m < clocks → IsTickAlike setting (λ b. answers_of run b ++ []) (answers_of rounds) m N)) start_of.1.are (rounds_go setting map is (λ b. answers_of run b ++ []) (answers_of rounds) start_of.0 are.accepted clocks N)) in
      begins_by setting run rounds (λ b. (elim (cases_lt b (length setting.plan.buffers)) [
        | inl known ↦ (
          takes_of b found.0,
          ap (λ l. l ++ takes_of b found.0) (ap (flat_map (λ (w : Window). w.1)) (begun.are b known) ∙ append-nil (takes_of b begun.calls))
              ∙ sym (takes-append b begun.calls found.0) ∙ ap (takes_of b) (sym found.1)
              ∙ sym (ap (flat_map (λ (w : Window). w.1)) (are.are b known) ∙ append-nil (takes_of b ys)),
        )
        | inr high ↦ (let m = begun.buffers in let n = are.buffers in
            ([], append-nil (answers_of run b) ∙ none_past run b (omega (arith, high, m)) ∙ sym (none_past rounds b (omega (arith, high, n)))))
      ]))

  -- a broken run by threads, in which no buffer joins two clocks
  module _ (W N : ℕ) (run rounds : Run) (local : HasNoJoin setting map.running) (begun : AreWindowsBegun setting map.running W N run) (are : IsRounds setting map.running N rounds) where
    abbrev many : ℕ
    many = length setting.plan.buffers

    abbrev s : ℕ
    s = start W N begun.closed

    abbrev none : ℕ → List Answer
    none b = []

    -- the calls of the clocks, in the run and in the rounds
    abbrev calls : ℕ → ℕ → List Call
    calls m = calls_in (setting_then setting run none) map.running begun.accepted m

    abbrev round_calls : ℕ → ℕ → List Call
    round_calls m = calls_in (setting_in setting rounds) map.running are.accepted m

    abbrev made : ℕ → List Call
    made m = joined_upto (calls m) s ++ begun.since m

    -- they begin those of the ticks that were tried
    tail : (m : ℕ) → (rest : List Call) × (joined_upto (calls m) (begun.tried m) ≡ made m ++ rest)
    tail m =
        let b = begun.begun none m in let w = begun.within m in let least = w.least in let no_fewer = w.no_fewer in
        let cut : begun.tried m ≡ s + (begun.tried m - s) = omega (arith, least, no_fewer) in (
          b.rest,
          ap (joined_upto (calls m)) cut ∙ joined_split (calls m) s (begun.tried m - s) ∙ ap (λ l. joined_upto (calls m) s ++ l) b.are ∙ sym (append_assoc (joined_upto (calls m) s) (begun.since m) b.rest),
        )

    runs : (b : ℕ) → b < many → feeder setting b < map.running
    runs b known = feeder_runs setting map is b known

    -- the calls of a clock that is neither the feeder nor the reader of a buffer
    quiet : (b m : ℕ) → feeder setting b ≢ m → reader setting b ≢ m → (n : ℕ) → on b (joined_upto (calls m) n) ≡ []
    quiet b m fed read zero = refl
    quiet b m fed read (suc n) = on-append b (joined_upto (calls m) n) (calls m n)
        ∙ (λ i. quiet b m fed read n i ++ none_on setting b m fed read (calls m n) (own_in setting map is (λ c. answers_of run c ++ []) map.running begun.accepted m n) i)

    -- a clock's reader that does not run called nothing
    since_rests : (m : ℕ) → map.running ≤ m → begun.since m ≡ []
    since_rests m high = front_none (begun.since m) (begun.begun none m).rest (sym (begun.begun none m).are ∙ joined_rests (begun.tried m - s))
      where
        joined_rests : (n : ℕ) → joined_upto (λ j. calls m (s + j)) n ≡ []
        joined_rests zero = refl
        joined_rests (suc n) = (λ i. joined_rests n i ++ rests_in (setting_then setting run none) map.running begun.accepted m (s + n) high i)

    -- what its feeder took of a buffer whose reader does not run
    since_none : (b : ℕ) (known : b < many) → map.running ≤ reader setting b → takes_of b (begun.since (feeder setting b)) ≡ []
    since_none b known rests =
        let m = feeder setting b in let g = begun.begun none m in
        front_none (takes_of b (begun.since m)) (takes_of b g.rest) (sym (takes-append b (begun.since m) g.rest) ∙ ap (takes_of b) (sym g.are)
        ∙ none_joined (λ j. calls m (s + j)) b (begun.tried m - s) (λ j. feeder_takes_none setting map is (λ c. answers_of run c ++ []) map.running begun.accepted b (runs b known) rests (s + j)))

    -- each buffer that a clock feeds stands in order
    follows : (b : ℕ) (known : b < many) → (feeder setting b ≡ reader setting b) ⊎ (map.running ≤ reader setting b) → (rest : List (List Cell)) × Follows (capacity_of setting b) [] (on b (made (feeder setting b))) rest
    follows b known (inl one) = begun.in_order none b known one
    follows b known (inr rests) =
        let m = feeder setting b in let l = begun.legal b known in
        let last : Window = (puts_to b (begun.since m), takes_of b (begun.since (reader setting b))) in
        let cut = run_split (capacity_of setting b) [] l.0 (windows_in (setting_then setting run none) map.running begun.accepted b W N begun.closed) last
        (subst (λ (ws : List Window). IsHistory (capacity_of setting b) [] ws l.0) (begun.are none b known) l.1) in
        let before = windows_follow setting map is (λ c. answers_of run c ++ []) map.running begun.accepted b (runs b known) rests W N begun.closed (capacity_of setting b) cut.0 cut.1 in
        let legal : Legal (capacity_of setting b) l.0 cut.0 (puts_to b (begun.since m)) [] =
        subst (λ (ts : List (Option (List Cell))). Legal (capacity_of setting b) l.0 cut.0 (puts_to b (begun.since m)) ts) (ap (takes_of b) (since_rests (reader setting b) rests)) cut.2 in
        let here = given_follow (capacity_of setting b) b (begun.since m) cut.0 l.0 (since_none b known rests) legal in (
          l.0,
          subst (λ (cs : List Call). Follows (capacity_of setting b) [] cs l.0) (sym (on-append b (joined_upto (calls m) s) (begun.since m)))
              (follows_then (capacity_of setting b) (on b (joined_upto (calls m) s)) (on b (begun.since m)) [] cut.0 l.0 before here),
        )

    off_reader : (b m : ℕ) → m < map.running → feeder setting b ≢ m → (feeder setting b ≡ reader setting b) ⊎ (map.running ≤ reader setting b) → reader setting b ≢ m
    off_reader b m low off (inl one) e = off (one ∙ e)
    off_reader b m low off (inr rests) e = omega (arith, low, rests, e)

    first_order : (m : ℕ) → m < map.running → (b : ℕ) → b < many → (rest : List (List Cell)) × Follows (capacity_of setting b) [] (on b (made m)) rest
    first_order m low b known = elim (cases_eq (feeder setting b) m) [
      | inl fed ↦ (let f = follows b known (local b known) in (f.0, subst (λ k. Follows (capacity_of setting b) [] (on b (made k)) f.0) fed f.1))
      | inr off ↦ (let t = tail m in
          let empty : on b (made m) ≡ [] = front_none (on b (made m)) (on b t.0) (sym (on-append b (made m) t.0) ∙ ap (on b) (sym t.1) ∙ quiet b m off (off_reader b m low off (local b known)) (begun.tried m)) in
          ([], subst (λ cs. Follows (capacity_of setting b) [] cs []) (sym empty) refl))
    ]

    -- the calls of the rounds on a buffer are those of its feeder
    rounds_own : (b : ℕ) → b < many → on b (rounds_of (setting_in setting rounds) are.accepted map.running N) ≡ on b (joined_upto (round_calls (feeder setting b)) N)
    rounds_own b known = ap (on b) (rounds_in (setting_in setting rounds) map.running are.accepted N) ∙ rounds_on b (feeder setting b) round_calls map.running N (runs b known) (λ m t off. other b known m t off (local b known))
      where
        other : (b : ℕ) → b < many → (m t : ℕ) → m ≢ feeder setting b → (feeder setting b ≡ reader setting b) ⊎ (map.running ≤ reader setting b) → on b (round_calls m t) ≡ []
        other b known m t off away = elim (cases_lt m map.running) [
          | inl low ↦ none_on setting b m (λ e. off (sym e)) (off_reader b m low (λ e. off (sym e)) away) (round_calls m t) (own_in setting map is (answers_of rounds) map.running are.accepted m t)
          | inr high ↦ ap (on b) (rests_in (setting_in setting rounds) map.running are.accepted m t high)
        ]

    round_quiet : (b m : ℕ) → feeder setting b ≢ m → reader setting b ≢ m → (n : ℕ) → on b (joined_upto (round_calls m) n) ≡ []
    round_quiet b m fed read zero = refl
    round_quiet b m fed read (suc n) = on-append b (joined_upto (round_calls m) n) (round_calls m n)
        ∙ (λ i. round_quiet b m fed read n i ++ none_on setting b m fed read (round_calls m n) (own_in setting map is (answers_of rounds) map.running are.accepted m n) i)

    second_order : (m n : ℕ) → m < map.running → n ≤ N → (b : ℕ) → b < many → (rest : List (List Cell)) × Follows (capacity_of setting b) [] (on b (joined_upto (round_calls m) n)) rest
    second_order m n low most b known = elim (cases_eq (feeder setting b) m) [
      | inl fed ↦ (let f = are.in_order b known in let more = joined_first (round_calls m) n N most in
          let cut = follows_split (capacity_of setting b) (on b (joined_upto (round_calls m) n)) (on b more.0) [] f.0
          (subst (λ cs. Follows (capacity_of setting b) [] cs f.0) (rounds_own b known ∙ ap (λ k. on b (joined_upto (round_calls k) N)) fed ∙ ap (on b) more.1 ∙ on-append b (joined_upto (round_calls m) n) more.0) f.1) in
          (cut.0, cut.1))
      | inr off ↦ ([], subst (λ cs. Follows (capacity_of setting b) [] cs []) (sym (round_quiet b m off (off_reader b m low off (local b known)) n)) refl)
    ]

    -- so the calls of a clock begin those that it makes in the rounds
    same_front : (m : ℕ) → m < map.running → (others : List Call) × (joined_upto (round_calls m) (begun.tried m) ≡ made m ++ others)
    same_front m low =
        let n = begun.tried m in let t = tail m in let top = (begun.within m).most in let last = start_most W N (suc begun.closed) in let most : n ≤ N = omega (arith, top, last) in
        let first : joined_upto (λ i. ticks_of (setting_then setting run none) begun.accepted m i) n ≡ made m ++ t.0 =
        joined_same (λ i. ticks_of (setting_then setting run none) begun.accepted m i) (calls m) n (λ i less. sym (runs_in (setting_then setting run none) map.running begun.accepted m i low)) ∙ t.1 in
        let second : joined_upto (λ i. ticks_of (setting_in setting rounds) are.accepted m i) n ≡ joined_upto (round_calls m) n =
        joined_same (λ i. ticks_of (setting_in setting rounds) are.accepted m i) (round_calls m) n (λ i less. sym (runs_in (setting_in setting rounds) map.running are.accepted m i low)) in
        begins (capacity_of setting) many (made m) t.0 (joined_upto (round_calls m) n) (IsTickAlike setting (λ b. answers_of run b ++ []) (answers_of rounds) m n) (first_order m low) (second_order m n low most)
        (subst (λ (z : List Call × List Call). Goes many z.0 z.1 (IsTickAlike setting (λ b. answers_of run b ++ []) (answers_of rounds) m n)) (λ i. (first i, second i))
        (ticks_go setting map is (λ b. answers_of run b ++ []) (answers_of rounds) (λ i. begun.accepted m i) (λ i. are.accepted m i) m n))

    -- what a buffer's takes got
    run_got : (b : ℕ) → b < many → answers_of run b ≡ takes_of b (made (reader setting b))
    run_got b known =
        ap (flat_map (λ (w : Window). w.1)) (begun.are none b known)
        ∙ flat_snoc (windows_in (setting_then setting run none) map.running begun.accepted b W N begun.closed) (puts_to b (begun.since (feeder setting b)), takes_of b (begun.since (reader setting b)))
        ∙ ap (λ l. l ++ takes_of b (begun.since (reader setting b))) (all_takes (setting_then setting run none) map.running begun.accepted b W N begun.closed)
        ∙ sym (takes-append b (joined_upto (calls (reader setting b)) s) (begun.since (reader setting b)))
      where
        flat_snoc : (xs : List Window) (y : Window) → flat_map (λ (w : Window). w.1) (xs ++ y ∷ []) ≡ flat_map (λ (w : Window). w.1) xs ++ y.1
        flat_snoc [] y = append-nil y.1
        flat_snoc (x ∷ xs) y = ap (λ l. x.1 ++ l) (flat_snoc xs y) ∙ sym (append_assoc x.1 (flat_map (λ (w : Window). w.1) xs) y.1)

    rounds_got : (b : ℕ) → b < many → answers_of rounds b ≡ takes_of b (joined_upto (round_calls (feeder setting b)) N)
    rounds_got b known =
        ap (flat_map (λ (w : Window). w.1)) (are.are b known) ∙ append-nil (takes_of b (rounds_of (setting_in setting rounds) are.accepted map.running N))
        ∙ sym (takes_on b (rounds_of (setting_in setting rounds) are.accepted map.running N)) ∙ ap (takes_of b) (rounds_own b known) ∙ takes_on b (joined_upto (round_calls (feeder setting b)) N)

    answers_begin : (b : ℕ) → b < many → (feeder setting b ≡ reader setting b) ⊎ (map.running ≤ reader setting b) → (rest : List Answer) × (answers_of run b ++ rest ≡ answers_of rounds b)
    answers_begin b known (inl one) =
        let m = reader setting b in let low : m < map.running = (let r = runs b known in omega (arith, r, one)) in
        let f = same_front m low in
        let top = (begun.within m).most in let last = start_most W N (suc begun.closed) in let most : begun.tried m ≤ N = omega (arith, top, last) in
        let more = joined_first (round_calls m) (begun.tried m) N most in (
          takes_of b (f.0 ++ more.0),
          ap (λ l. l ++ takes_of b (f.0 ++ more.0)) (run_got b known) ∙ sym (takes-append b (made m) (f.0 ++ more.0))
              ∙ ap (takes_of b) (sym (append_assoc (made m) f.0 more.0) ∙ ap (λ l. l ++ more.0) (sym f.1) ∙ sym more.1)
              ∙ ap (λ k. takes_of b (joined_upto (round_calls k) N)) (sym one) ∙ sym (rounds_got b known),
        )
    answers_begin b known (inr rests) =
        let m = reader setting b in (
          [],
          append-nil (answers_of run b) ∙ run_got b known ∙ takes-append b (joined_upto (calls m) s) (begun.since m)
              ∙ (λ i. none_joined (calls m) b s (reader_takes_none setting map is (λ c. answers_of run c ++ []) map.running begun.accepted b (runs b known) rests) i ++ takes_of b (since_rests m rests i))
              ∙ sym (none_joined (round_calls (feeder setting b)) b N (feeder_takes_none setting map is (answers_of rounds) map.running are.accepted b (runs b known) rests))
              ∙ sym (rounds_got b known),
        )

    pub windows_begin : BeginsRounds setting run rounds
    windows_begin = begins_by setting run rounds (λ b. (elim (cases_lt b many) [
      | inl known ↦ answers_begin b known (local b known)
      | inr high ↦ (let m = begun.buffers in let n = are.buffers in
          ([], append-nil (answers_of run b) ∙ none_past run b (omega (arith, high, m)) ∙ sym (none_past rounds b (omega (arith, high, n)))))
    ]))
