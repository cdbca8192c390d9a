-- The logs of a run that ended well.
use Rattle.std.proofs.Common.{◌≡◌, ℕ, suc, ◌<◌, List, [], ◌∷◌, ◌++◌, length, take, map, refl, slice_index_or, sym, ap, ◌∙◌, subst, arith, inl, inr, Option}
use Rattle.liq_base.specs.Pieces.{SinkTold}
use Rattle.buffer_ends.specs.Local.{Answers, empty_buffer}
use Rattle.buffer_ends.specs.declared.counts.Counts.{Counts}
use Rattle.buffer_ends.specs.declared.thread_taps.ThreadTaps.{ThreadTaps}
use Rattle.clock_infer.specs.declared.clock_map.ClockMap.{ClockMap}
use Rattle.stream_meaning.specs.Instants.{Setting}
use Rattle.clock_ticks.specs.declared.engine.ClockEngine.{ClockEngine}
use Rattle.clock_threads.specs.declared.task.Task.{Task}
use Rattle.clock_threads.specs.declared.wires.Wire.{Wire}
use Rattle.buffer_sides.specs.Logs.{told as told_of}
use Rattle.clock_threads.specs.Wires.{wire_at}
use Rattle.clock_threads.specs.Listed.{listed}
use Rattle.clock_threads.proofs.Recording.{listed_long, listed_at}
use Rattle.clock_threads.proofs.Sets.{same_or_other}
use Rattle.clock_threads.specs.Logs.{AreCollected, counts_in}
use Rattle.clock_threads.specs.EngineTasks.{engine_of}
use Rattle.clock_threads.specs.ThreadRuns.{HasRunAll}
use Rattle.clock_threads.specs.WiredRuns.{HasRunTasks}
use Rattle.clock_threads.proofs.Making.{map_get, map_long}

pub same_lists : {A : Type 0} (xs ys : List A) → length xs ≡ length ys → ((k : ℕ) (d : A) → k < length xs → slice_index_or xs k d ≡ slice_index_or ys k d) → xs ≡ ys
same_lists [] [] e each = refl
same_lists [] (y ∷ ys) e each = absurd (omega (arith, e))
same_lists (x ∷ xs) [] e each = absurd (omega (arith, e))
same_lists (x ∷ xs) (y ∷ ys) e each = (λ i. each 0 x (omega arith) i ∷ same_lists xs ys (omega (arith, e)) (λ k d h. each (suc k) d (omega (arith, h))) i)

-- what stands in a vector whose slice was written
pub written_is : {A : Type 0} (n : ℕ) (new rest : List A) → length new ≡ n → take n (new ++ rest) ≡ new
written_is n new rest e = ap (λ k. take k (new ++ rest)) (sym e) ∙ go new rest
  where
    go : {B : Type 0} (xs ys : List B) → take (length xs) (xs ++ ys) ≡ xs
    go [] ys = refl
    go (x ∷ xs) ys = ap (λ l. x ∷ l) (go xs ys)

pub run_told : {S R : Type 0} (told : S → SinkTold) (wires : List Wire) (setting : Setting) (clocks : ClockMap) (W N : ℕ) (old olds engines : List (ClockEngine S)) (tasks : List (Task S (ThreadTaps R)))
    (logs after : List (List Answers)) (counts : List Counts)
    → HasRunTasks told wires setting clocks W N olds tasks logs → olds ≡ old → AreCollected wires tasks logs after → engines ≡ map engine_of tasks → counts ≡ map counts_in after
    → HasRunAll told setting clocks W N old engines counts after
run_told {S} {R} told wires setting clocks W N old olds engines tasks logs after counts run same collected is counted =
    subst (λ (z : List (ClockEngine S) × List (ClockEngine S)). HasRunAll told setting clocks W N z.0 z.1 counts after) (λ i. (same i, sym is i)) (record {
      run = record { buffers = listed (length wires) run.windows };
      has_run = run.run;
      tells = record {
        logs_are = same_lists after (map (map told_of) (listed (length wires) run.windows)) (collected.many ∙ run.logged.many ∙ sym (map_long (map told_of) (listed (length wires) run.windows) ∙ listed_long (length wires) run.windows))
            (λ b d low. (let m = collected.many in let n = run.logged.many in let less : b < length wires = omega (arith, low, m, n) in
            each b d less ∙ ap (map told_of) (sym (listed_at (length wires) run.windows b [] less))
            ∙ sym (map_get (map told_of) (listed (length wires) run.windows) b [] d (let l = listed_long (length wires) run.windows in omega (arith, less, l)))));
        counts_are = counted;
      };
    })
  where
    each : (b : ℕ) (d : List Answers) → b < length wires → slice_index_or after b d ≡ map told_of (run.windows b)
    each b d low = elim (same_or_other (wire_at wires b).from (wire_at wires b).to) [
      | inl e ↦ (
          let from_in = run.places b low in let long = run.lists (wire_at wires b).from from_in in let many = run.logged.many in
          collected.local b d run.one (empty_buffer 0) low (omega (arith, low, many)) e from_in (omega (arith, low, long)) ∙ (run.logged.local b (empty_buffer 0) low e).closed_are)
      | inr apart ↦ collected.joined b d apart ∙ run.logged.joined b d low apart
    ]
