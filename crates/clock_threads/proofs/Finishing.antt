-- A run by threads that ends well: its record is lawful by its wires, and each output holds its bytes for it.
use Rattle.std.proofs.Common.{◌≡◌, ℕ, suc, ◌<◌, ◌≤◌, List, [], length, slice_index_or, sym, ap, ◌∙◌, subst, arith, Option}
use mathlib.Core.Path.{fun_ext}
use Rattle.liq_base.specs.Pieces.{SinkTold, grown}
use Rattle.frame_core.specs.declared.cell.Cell.{Cell}
use Rattle.buffer_ends.specs.Local.{Answers as Told, on}
use Rattle.buffer_ends.specs.declared.thread_taps.ThreadTaps.{ThreadTaps}
use Rattle.stream_meaning.specs.Instants.{Setting, answered}
use Rattle.stream_meaning.specs.Sinks.{ticks_bytes, IsOutput}
use Rattle.stream_meaning.specs.Calls.{joined_upto}
use Rattle.node_states.proofs.Outputs.{output_moved}
use Rattle.clock_ticks.specs.Engines.{EngineStands, setting_of, held_of}
use Rattle.clock_ticks.specs.declared.engine.ClockEngine.{ClockEngine}
use Rattle.clock_threads.specs.declared.task.Task.{Task}
use Rattle.clock_threads.specs.TickCalls.{TickCalls, answers_by}
use Rattle.clock_threads.specs.declared.wires.Wire.{Wire}
use Rattle.clock_threads.specs.Wires.{wire_at}
use Rattle.run_records.specs.Records.{Follows, Window}
use Rattle.clock_infer.specs.declared.clock_map.ClockMap.{ClockMap}
use Rattle.stream_meaning.specs.Settings.{IsSetting}
use Rattle.clock_threads.specs.WindowRuns.{DoneAt}
use Rattle.clock_threads.specs.Lawful.{Answers, IsWiredHistory, AreWires, TakeOwn, answers_of, meant, and_rest, got_by}
use Rattle.clock_threads.proofs.Owning.{in_takes, take_own}
use Rattle.clock_threads.proofs.Lists.{going_local}
use Rattle.clock_threads.proofs.Lawfully.{windows, is_lawful, rests, answers_whole}

got_same : (h : TickCalls) (t : ℕ) → answers_by h t ≡ got_by h t
got_same h t = fun_ext (λ b. in_takes b (joined_upto h.calls t))

module _ {S R : Type 0} (told : S → SinkTold) (wires : List Wire) (W N : ℕ) (first now : List (Task S (ThreadTaps R))) (logs : List (List Told)) (d : Task S (ThreadTaps R))
    (done : DoneAt told wires W N first now logs d) (setting : Setting) (map : ClockMap) (is : IsSetting setting map) (are : AreWires setting map.running wires) (all_run : length first ≡ map.running) (some : 0 < length first)
    (shared : (k : ℕ) → k < length first → (setting_of (slice_index_or first k d).engine.parts ≡ setting) × ((slice_index_or first k d).engine.parts.clock ≡ k))
    (places : (b : ℕ) → b < length wires → (wire_at wires b).from < length first × ((wire_at wires b).to < length first)) where
  abbrev pub hs : ℕ → TickCalls
  hs = done.going.clock_calls

  abbrev engine_of : ℕ → ClockEngine S
  engine_of k = (slice_index_or now k d).engine

  setting_is : (k : ℕ) → k < length first → setting_of (engine_of k).parts ≡ setting
  setting_is k h = (done.going.clocks k h).same.setting ∙ (shared k h).0

  clock_is : (k : ℕ) → k < length first → (engine_of k).parts.clock ≡ k
  clock_is k h = (done.going.clocks k h).same.clock ∙ (shared k h).1

  ticks : (m : ℕ) → m < length first → (i : ℕ) → i < N → (rest : Answers) → (hs m).calls i ≡ meant setting (and_rest (got_by (hs m) (suc i)) rest) ((hs m).accepted i) m i
  ticks m h i less rest =
      let w = done.all in
      (done.going.clocks m h).gone.ticks i (omega (arith, less, w)) rest
      ∙ (λ j. meant (setting_is m h j) (and_rest (got_same (hs m) (suc i) j) rest) ((hs m).accepted i) (clock_is m h j) i)

  local : (b : ℕ) → b < length wires → (wire_at wires b).from ≡ (wire_at wires b).to → (rest : List (List Cell)) × Follows (wire_at wires b).capacity [] (on b (joined_upto (hs (wire_at wires b).from).calls N)) rest
  local b less e = let f = going_local told wires W N done.windows first now logs d done.going places b less e in
      (f.0, subst (λ n. Follows (wire_at wires b).capacity [] (on b (joined_upto (hs (wire_at wires b).from).calls n)) f.0) done.all f.1)

  abbrev pub own : TakeOwn (meant setting) wires (length first)
  own = subst (TakeOwn (meant setting) wires) (sym all_run) (take_own setting map is wires are)

  abbrev pub done_windows : ℕ → List Window
  done_windows = windows (meant setting) wires (length first) own W N done.windows done.all hs

  pub done_wired : IsWiredHistory (meant setting) wires W N done.windows done_windows
  done_wired = is_lawful (meant setting) wires (length first) own W N done.windows done.all hs done.tight some places ticks (λ b less apart. (let g = done.going.joins b less apart in (g.chunks, g.run))) local

  -- what an output of clock k holds is what its source means, given what the takes of the record got
  pub done_bytes : (k : ℕ) → k < length first → (sink node : ℕ) (output : IsOutput setting k sink node)
      → held_of told (engine_of k) sink
      ≡ grown (ticks_bytes (answered setting (answers_of done_windows)) output.wide node N) (held_of told (slice_index_or first k d).engine sink)
  done_bytes k h sink node output =
      let most : N ≤ N = omega arith in
      let a = answers_whole (meant setting) wires (length first) own W N done.windows done.all hs k h (ticks k h) N most in
      let rest : Answers = λ b. (rests (meant setting) wires (length first) own W N done.windows done.all hs k h (ticks k h) N most b).0 in
      let there : IsOutput (setting_of (engine_of k).parts) (engine_of k).parts.clock sink node =
      output_moved setting (setting_of (engine_of k).parts) k (engine_of k).parts.clock sink node (sym (setting_is k h)) (sym (clock_is k h)) output in
      (done.going.clocks k h).gone.holds rest sink node there
      ∙ (λ j. grown (ticks_bytes (answered (setting_is k h j) (and_rest (got_same (hs k) (done.all j) j) rest)) output.wide node (done.all j)) (held_of told (slice_index_or first k d).engine sink))
      ∙ ap (λ (A : Answers). grown (ticks_bytes (answered setting A) output.wide node N) (held_of told (slice_index_or first k d).engine sink)) a

  -- an engine stands for all its ticks, and for what the takes of the record got of the buffers that it reads
  pub done_stands : (k : ℕ) → k < length first → (answers : Answers) × (rest : Answers) × EngineStands (engine_of k).parts N answers × (and_rest answers rest ≡ answers_of done_windows)
  done_stands k h =
      let most : N ≤ N = omega arith in (
        got_by (hs k) N,
        (λ b. (rests (meant setting) wires (length first) own W N done.windows done.all hs k h (ticks k h) N most b).0),
        subst (λ (z : ℕ × Answers). EngineStands (engine_of k).parts z.0 z.1) (λ j. (done.all j, got_same (hs k) (done.all j) j)) (done.going.clocks k h).gone.stand,
        answers_whole (meant setting) wires (length first) own W N done.windows done.all hs k h (ticks k h) N most,
      )
