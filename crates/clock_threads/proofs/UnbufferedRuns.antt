-- A run over a plan without buffers is one over no wires.
use Rattle.std.proofs.Common.{◌≡◌, ℕ, ◌<◌, Option, List, [], ◌∷◌, length, map, sym, refl, ap, ◌∙◌, subst, arith}
use Rattle.std.specs.Prelude.{⊤}
use Rattle.liq_base.specs.Pieces.{SinkTold}
use Rattle.plan_core.specs.declared.plan.Plan.{Plan}
use Rattle.plan_core.specs.declared.sink.BufferPlan.{BufferPlan}
use Rattle.clock_infer.specs.declared.clock_map.ClockMap.{ClockMap}
use Rattle.buffer_ends.specs.Local.{Answers, LocalBuffer, planned}
use Rattle.buffer_ends.specs.declared.counts.Counts.{Counts}
use Rattle.buffer_ends.specs.declared.run_end.End.{End}
use Rattle.buffer_ends.specs.declared.run_end.End.TheVariants.{Write}
use Rattle.buffer_ends.specs.declared.thread_taps.ThreadTaps.{ThreadTaps}
use Rattle.stream_meaning.specs.Instants.{Setting}
use Rattle.clock_ticks.specs.declared.engine.ClockEngine.{ClockEngine}
use Rattle.clock_threads.specs.declared.task.Task.{Task}
use Rattle.clock_threads.specs.UnbufferedTasks.{unbuffered_tasks}
use Rattle.clock_threads.specs.Ends.{puts_of as put_ends, takes_of as take_ends}
use Rattle.clock_threads.specs.WindowRuns.{IsReady, IsWriteAt, RunDone, RunPart}
use Rattle.clock_threads.proofs.UnbufferedEngines.{unbuffered_at, unbuffered_long}
use Rattle.clock_threads.specs.Logs.{AreCollected}
use Rattle.clock_threads.specs.Plans.{AreFirstWires}
use Rattle.clock_threads.specs.ThreadRuns.{AreEngines, HasRunAll, HasRunSome}
use Rattle.clock_threads.specs.Starts.{AreJoined}
use Rattle.clock_threads.specs.EngineTasks.{AreTasks, IsBare, engine_of}
use Rattle.clock_threads.specs.WiredRuns.{AreFresh, AreLaid}
use Rattle.clock_threads.proofs.Readying.{has_run, has_run_some, ready}
use Rattle.clock_threads.proofs.Telling.{run_told}
use Rattle.clock_threads.proofs.Wiring.{first_none, fresh_is, laid}

no_lists : (buffers : List BufferPlan) → length buffers ≡ 0 → ◌≡◌ {A = List LocalBuffer} [] (map planned buffers)
no_lists [] none = refl
no_lists (buffer ∷ buffers) none = absurd (omega (arith, none))

engines_back : {S : Type 0} (engines : List (ClockEngine S)) → map (engine_of {S = S} {R = ⊤}) (unbuffered_tasks engines) ≡ engines
engines_back [] = refl
engines_back (engine ∷ engines) = ap (λ rest. engine ∷ rest) (engines_back engines)

module _ {S : Type 0} (told : S → SinkTold) (plan : Plan) (none : length plan.buffers ≡ 0) (W N : ℕ) (engines : List (ClockEngine S)) (some : 0 < length engines)
    (setting : Setting) (clocks : ClockMap) (are : AreEngines told plan clocks N setting engines) where
  abbrev tasks : List (Task S (ThreadTaps ⊤))
  tasks = unbuffered_tasks engines

  low_at : (k : ℕ) → k < length tasks → k < length engines
  low_at k h = let n = unbuffered_long engines in omega (arith, h, n)

  first : AreFirstWires plan clocks (length plan.buffers) []
  first = subst (λ n. AreFirstWires plan clocks n []) (sym none) (first_none plan clocks [] refl)

  are_laid : AreLaid plan (length tasks) []
  are_laid = subst (λ n. AreLaid plan n []) (sym (unbuffered_long engines ∙ are.all)) (laid plan clocks setting are.is are.plan_is [] (omega arith) first)

  are_tasks : AreTasks plan (map engine_of tasks) tasks
  are_tasks = record {
    engines_are = refl;
    each = λ k d h. subst (IsBare plan) (sym (unbuffered_at engines k d (low_at k h))) (record { puts = refl; takes = refl; local = no_lists plan.buffers none });
  }

  are_fresh : AreFresh told plan [] N setting clocks (map engine_of tasks)
  are_fresh = subst (AreFresh told plan [] N setting clocks) (sym (engines_back engines)) (fresh_is told plan clocks N setting engines [] are first)

  are_joined : AreJoined [] 0 tasks tasks
  are_joined = record {
    many = refl;
    same = λ k d h. record { engine = refl; local = refl };
    puts = λ k p d e h low. absurd (let z = ap (λ (x : Task S (ThreadTaps ⊤)). length (put_ends x)) (unbuffered_at engines k d (low_at k h)) in omega (arith, low, z));
    takes = λ k p d e h low. absurd (let z = ap (λ (x : Task S (ThreadTaps ⊤)). length (take_ends x)) (unbuffered_at engines k d (low_at k h)) in omega (arith, low, z));
    opens = λ b high low apart. absurd (omega (arith, low));
  }

  some_tasks : 0 < length tasks
  some_tasks = let n = unbuffered_long engines in omega (arith, some, n)

  pub unbuffered_ready : IsReady told [] W N tasks []
  unbuffered_ready = ready told plan [] W N tasks tasks some_tasks are_laid are_tasks setting clocks are_fresh are_joined [] (record { are_many = refl; each = λ b d low. absurd (omega (arith, low)) })

  pub unbuffered_all : (now : List (ClockEngine S)) (counts : List Counts) (logs : List (List Answers)) → counts ≡ [] → logs ≡ [] → RunDone told [] W N tasks (unbuffered_tasks now) []
      → HasRunAll told setting clocks W N engines now counts logs
  unbuffered_all now counts logs no_counts no_logs done =
      let run = has_run told plan [] W N tasks tasks some_tasks are_laid are_tasks setting clocks are_fresh are_joined (unbuffered_tasks now) [] done in
      let collected : AreCollected [] (unbuffered_tasks now) [] [] = record { many = refl; local = λ b d e f low. absurd (omega (arith, low)); joined = λ b d apart. refl } in
      subst (λ (z : List Counts × List (List Answers)). HasRunAll told setting clocks W N engines now z.0 z.1) (λ i. (sym no_counts i, sym no_logs i))
      (run_told told [] setting clocks W N engines (map engine_of tasks) now (unbuffered_tasks now) [] [] [] run (engines_back engines) collected (sym (engines_back now)) refl)

  pub unbuffered_some : (now : List (ClockEngine S)) (end : End) → RunPart told [] W N tasks (unbuffered_tasks now) → ((clock sink : ℕ) → end ≡ Write clock sink → IsWriteAt told clock sink tasks (unbuffered_tasks now))
      → HasRunSome told setting clocks W N engines now end
  unbuffered_some now end part write =
      subst (λ (z : List (ClockEngine S) × List (ClockEngine S)). HasRunSome told setting clocks W N z.0 z.1 end) (λ i. (engines_back engines i, engines_back now i))
      (has_run_some told plan [] W N tasks tasks some_tasks are_laid are_tasks setting clocks are_fresh are_joined (unbuffered_tasks now) end part write)
