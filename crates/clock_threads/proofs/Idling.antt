-- Runs in which no clock made a tick: memory was refused before the first, or no clock runs.
use Rattle.std.proofs.Common.{◌≡◌, ◌⊎◌, ◌<◌, ◌≤◌, ℕ, zero, suc, ◌-◌, true, Option, List, [], ◌∷◌, ◌++◌, length, min, slice_index_or, arith, refl, sym, subst, inl, inr}
use Rattle.liq_base.specs.Pieces.{SinkTold}
use Rattle.plan_core.specs.declared.plan.Plan.{Plan}
use Rattle.clock_infer.specs.declared.clock_map.ClockMap.{ClockMap}
use Rattle.buffer_ends.specs.Local.{Answers}
use Rattle.buffer_ends.specs.declared.counts.Counts.{Counts}
use Rattle.buffer_ends.specs.declared.run_end.End.{End}
use Rattle.buffer_ends.specs.declared.run_end.End.TheVariants.{Done, Memory, Write}
use Rattle.stream_meaning.specs.Instants.{Setting}
use Rattle.stream_meaning.specs.Calls.{IsBegin, joined_between, joined_upto}
use Rattle.frame_core.specs.Legal.{Legal, IsHistory}
use Rattle.run_records.specs.Buffers.{feeder}
use Rattle.run_records.specs.Records.{AreWindows, AreWindowsBegun, Follows, Run, Window, calls_in, capacity_of, on, setting_then, start}
use Rattle.run_records.proofs.Alone.{feeder_runs}
use Rattle.clock_ticks.specs.declared.engine.ClockEngine.{ClockEngine}
use Rattle.clock_ticks.specs.Engines.{held_of}
use Rattle.clock_ticks.proofs.Pieces.{got_between, got_none}
use Rattle.clock_threads.specs.Listed.{listed}
use Rattle.clock_threads.proofs.Meeting.{low_or_high}
use Rattle.clock_threads.proofs.Starts.{start_most, start_next, start_zero}
use Rattle.clock_threads.proofs.Breaking.{begin_none}
use Rattle.clock_threads.proofs.Recording.{listed_at, listed_long}
use Rattle.clock_threads.proofs.Sets.{same_or_other}
use Rattle.clock_threads.specs.ThreadRuns.{AreEngines, HasRunAll, HasRunSome}
use Rattle.clock_threads.proofs.Readying.{grown_none, same_not}

-- one window of each buffer, in which nothing was called
abbrev idle_windows : ℕ → List Window
idle_windows b = ([], []) ∷ []

abbrev idle_run : Setting → Run
idle_run setting = record { buffers = listed (length setting.plan.buffers) idle_windows }

abbrev idle_begun : (setting : Setting) (clocks W N : ℕ) → AreWindowsBegun setting clocks W N (idle_run setting)
idle_begun setting clocks W N = record {
  buffers = listed_long (length setting.plan.buffers) idle_windows;
  accepted = λ m t b. true;
  closed = 0;
  made = λ m. 0;
  tried = λ m. 0;
  since = λ m. [];
  within = λ m. record { least = (let z = start_zero W N in omega (arith, z)); most = omega arith; no_fewer = omega arith; one_more = omega arith };
  level = λ m n low less same again. refl;
  ended = λ m n low stopped same. absurd (omega (arith, stopped));
  border = λ none m low. inl (sym (start_zero W N));
  whole = λ rest m. subst (λ n. IsBegin (joined_between (calls_in (setting_then setting (idle_run setting) rest) clocks (λ n t b. true) m) n 0) []) (sym (start_zero W N)) (begin_none []);
  begun = λ rest m. begin_none (joined_between (calls_in (setting_then setting (idle_run setting) rest) clocks (λ n t b. true) m) (start W N 0) 0);
  are = λ rest b less. listed_at (length setting.plan.buffers) idle_windows b [] less;
  legal = λ b less. ([], subst (λ (ws : List Window). IsHistory (capacity_of setting b) [] ws []) (sym (listed_at (length setting.plan.buffers) idle_windows b [] less)) ([], Legal.all_done, refl));
  in_order = λ rest b less one. ([], subst (λ n. Follows (capacity_of setting b) [] (on b (joined_upto (calls_in (setting_then setting (idle_run setting) rest) clocks (λ n t b. true) (feeder setting b)) n ++ [])) []) (sym (start_zero W N)) refl);
}

-- other ends than a write
pub memory_no_write : (clock sink : ℕ) → ◌≡◌ {A = End} Memory (Write clock sink) → ⊥
memory_no_write clock sink e = cc

pub done_no_write : (clock sink : ℕ) → ◌≡◌ {A = End} Done (Write clock sink) → ⊥
done_no_write clock sink e = cc

-- no tick was made
pub none_made : {S : Type 0} (told : S → SinkTold) (plan : Plan) (setting : Setting) (clocks : ClockMap) (W N : ℕ) (engines : List (ClockEngine S)) (end : End)
    → ((clock sink : ℕ) → end ≡ Write clock sink → ⊥) → AreEngines told plan clocks N setting engines → HasRunSome told setting clocks W N engines engines end
none_made told plan setting clocks W N engines end other are = record {
  run = idle_run setting;
  begun = idle_begun setting clocks.running W N;
  many = refl;
  engines = λ k d h. (let engine = slice_index_or engines k d in
      record {
        same = same_not told engine;
        answers = λ b. [];
        given = λ rest. ((setting_then setting (idle_run setting) rest).answers, refl);
        stands = inl (refl, (are.each k d h).stands);
        part = λ rest sink node out. ([], record { rest = []; whole_is = refl }, record { rest = []; whole_is = refl }, grown_none (held_of told engine sink));
        pieces = got_between told 0 0 0 engine.outs engine.outs (omega arith) (omega arith) (got_none told engine.outs);
      });
  write = λ clock sink e. absurd (other clock sink e);
}

-- so many windows there are
pub record HasWindows (W N : ℕ) : Type 0 where
  pub count : ℕ
  pub whole : start W N count ≡ N
  pub tight : (j : ℕ) → j < count → start W N j < N

-- of the first n windows one is the last, or all of them begin below the end
windows_found : (W N n : ℕ) → 0 < W → HasWindows W N ⊎ (((j : ℕ) → j ≤ n → start W N j < N) × (n ≤ start W N n))
windows_found W N n some = by n
  where
    at : (j : ℕ) → ((i : ℕ) → i < j → start W N i < N) → (start W N j < N) ⊎ (N ≤ start W N j) → j ≤ start W N j → HasWindows W N ⊎ (((i : ℕ) → i ≤ j → start W N i < N) × (j ≤ start W N j))
    at j below (inl low) many = inr ((λ i h. (elim (same_or_other i j) [ inl is ↦ subst (λ k. start W N k < N) (sym is) low | inr off ↦ below i (omega (arith, h, off)) ])), many)
    at j below (inr high) many = inl (record { count = j; whole = (let most = start_most W N j in omega (arith, most, high)); tight = below })

    next : (j : ℕ) → HasWindows W N ⊎ (((i : ℕ) → i ≤ j → start W N i < N) × (j ≤ start W N j)) → HasWindows W N ⊎ (((i : ℕ) → i ≤ suc j → start W N i < N) × (suc j ≤ start W N (suc j)))
    next j (inl found) = inl found
    next j (inr going) =
        (let low : start W N j < N = going.0 j (omega arith) in let many = going.1 in
        let more = start_next W N j (start W N j) (min W (N - start W N j)) refl low refl in
        let one : 0 < min W (N - start W N j) = omega (arith, some, low) in
        elim (low_or_high (start W N (suc j)) N) [
          | inl less ↦ at (suc j) (λ i h. going.0 i (omega (arith, h))) (inl less) (omega (arith, many, more, one))
          | inr high ↦ at (suc j) (λ i h. going.0 i (omega (arith, h))) (inr high) (omega (arith, many, more, one))
        ])

    by : (j : ℕ) → HasWindows W N ⊎ (((i : ℕ) → i ≤ j → start W N i < N) × (j ≤ start W N j))
    by zero = at 0 (λ i h. absurd (omega (arith, h))) (low_or_high (start W N 0) N) (omega arith)
    by (suc j) = next j (by j)

pub has_windows : (W N : ℕ) → 0 < W → HasWindows W N
has_windows W N some = elim (windows_found W N N some) [
  | inl found ↦ found
  | inr going ↦ absurd (let low = going.0 N (omega arith) in let many = going.1 in omega (arith, low, many))
]

-- no clock runs, so no buffer is fed, and the record is empty
module _ {S : Type 0} (told : S → SinkTold) (plan : Plan) (setting : Setting) (clocks : ClockMap) (W N : ℕ) (engines : List (ClockEngine S))
    (none : length engines ≡ 0) (some : 0 < W) (are : AreEngines told plan clocks N setting engines) where
  no_buffers : (b : ℕ) → b < length setting.plan.buffers → ⊥
  no_buffers b known = (let runs = feeder_runs setting clocks are.is b known in let all = are.all in omega (arith, runs, all, none))

  empty_lawful : AreWindows setting clocks.running W N (record { buffers = [] })
  empty_lawful =
      let w = has_windows W N some in
      record {
        buffers = elim (low_or_high 0 (length setting.plan.buffers)) [ inl known ↦ absurd (no_buffers 0 known) | inr empty ↦ (let e : 0 ≡ length setting.plan.buffers = omega (arith, empty) in e) ];
        accepted = λ m t b. true;
        count = w.count;
        whole = w.whole;
        tight = w.tight;
        are = λ b known. absurd (no_buffers b known);
        legal = λ b known. absurd (no_buffers b known);
        in_order = λ b known one. absurd (no_buffers b known);
      }

  pub none_run : (counts : List Counts) (logs : List (List Answers)) → counts ≡ [] → logs ≡ [] → HasRunAll told setting clocks W N engines engines counts logs
  none_run counts logs no_counts no_logs = subst (λ (z : List Counts × List (List Answers)). HasRunAll told setting clocks W N engines engines z.0 z.1) (λ i. (sym no_counts i, sym no_logs i)) (record {
    run = record { buffers = [] };
    has_run = record {
      many = refl;
      lawful = empty_lawful;
      engines = λ k d h. absurd (omega (arith, h, none));
    };
    tells = record { logs_are = refl; counts_are = refl };
  })

-- the end of a run may become want of memory
pub some_told : {S : Type 0} (told : S → SinkTold) (setting : Setting) (clocks : ClockMap) (W N : ℕ) (old new : List (ClockEngine S)) (end said : End)
    → ((clock sink : ℕ) → said ≡ Write clock sink → end ≡ Write clock sink) → HasRunSome told setting clocks W N old new end → HasRunSome told setting clocks W N old new said
some_told told setting clocks W N old new end said write has = record {
  run = has.run;
  begun = has.begun;
  many = has.many;
  engines = has.engines;
  write = λ clock sink e. has.write clock sink (write clock sink e);
}
