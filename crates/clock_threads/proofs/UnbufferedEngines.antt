-- A run of engines over a plan without buffers is one of tasks without wires.
use Rattle.std.proofs.Common.{◌≡◌, ℕ, ◌<◌, All, List, [], length, slice_index_or, sym, refl, ap, ◌∙◌, subst, arith, Option, Some, None, true}
use Rattle.std.proofs.lemmas.List.{get_or-map, length-map}
use Rattle.std.specs.Prelude.{⊤}
use Rattle.liq_base.specs.Pieces.{SinkTold}
use Rattle.buffer_ends.specs.Sides.{same_sides_refl}
use Rattle.buffer_ends.specs.Same.{same_buffers_refl}
use Rattle.buffer_ends.specs.declared.run_end.End.{End}
use Rattle.buffer_ends.specs.declared.run_end.End.TheVariants.{Memory as NoMemory}
use Rattle.buffer_ends.specs.declared.thread_taps.ThreadTaps.{ThreadTaps}
use Rattle.clock_ticks.specs.declared.engine.ClockEngine.{ClockEngine}
use Rattle.clock_ticks.specs.declared.fault.TickFault.{TickFault}
use Rattle.clock_ticks.specs.declared.fault.TickFault.TheVariants.{Memory as OutOfMemory, Write as Refused}
use Rattle.stream_meaning.specs.Instants.{Setting}
use Rattle.clock_threads.specs.declared.task.Task.{Task}
use Rattle.clock_threads.specs.UnbufferedTicks.{CanRunUnbuffered, WasRunUnbuffered, any_calls, any_taps, no_buffers, with_taps}
use Rattle.clock_threads.specs.TaskRuns.{CanRun, WasRun}
use Rattle.clock_threads.proofs.Retapping.{can_with, ran_with}
use Rattle.clock_threads.specs.UnbufferedTasks.{unbuffered_tasks, unbuffered_task, no_taps}
use Rattle.clock_threads.specs.Ends.{AllClosed, AllShut}
use Rattle.clock_threads.specs.Records.{AllEndedTasks}
use Rattle.clock_threads.specs.WindowRuns.{IsReady, IsToldByLowest, end_by}
use Rattle.clock_threads.proofs.Closing.{same_tasks_refl}
use Rattle.clock_threads.proofs.Ended.{ended_all, ended_none}
use Rattle.clock_threads.proofs.Ending.{Loop, with_one}
use Rattle.clock_threads.proofs.Since.{TapsStand, TapsBuffers, SameTaps}

out_of_memory : (clock : ℕ) (fault : TickFault) → end_by clock fault ≡ NoMemory → fault ≡ OutOfMemory
out_of_memory clock (Refused sink) e = absurd cc
out_of_memory clock OutOfMemory e = refl

module _ {S : Type 0} where
  pub unbuffered_at : (engines : List (ClockEngine S)) (k : ℕ) (d : Task S (ThreadTaps ⊤)) → k < length engines → slice_index_or (unbuffered_tasks engines) k d ≡ unbuffered_task (slice_index_or engines k d.engine)
  unbuffered_at engines k d h = get_or-map unbuffered_task engines k d.engine d h

  pub unbuffered_long : (engines : List (ClockEngine S)) → length (unbuffered_tasks engines) ≡ length engines
  unbuffered_long engines = length-map engines unbuffered_task

  pub unbuffered_runs : (engines : List (ClockEngine S)) → ((k : ℕ) (d : ClockEngine S) → k < length engines → (slice_index_or engines k d).parts.stopped ≡ None)
      → (k : ℕ) (d : Task S (ThreadTaps ⊤)) → k < length (unbuffered_tasks engines) → (slice_index_or (unbuffered_tasks engines) k d).engine.parts.stopped ≡ None
  unbuffered_runs engines runs k d h = let low : k < length engines = (let n = unbuffered_long engines in omega (arith, h, n)) in
      ap (λ (x : Task S (ThreadTaps ⊤)). x.engine.parts.stopped) (unbuffered_at engines k d low) ∙ runs k d.engine low

  pub none_shut : (tasks : List (Task S (ThreadTaps ⊤))) → AllShut [] tasks tasks
  none_shut tasks = record {
    tasks = same_tasks_refl tasks;
    each = λ b put take low apart ran. absurd (omega (arith, low));
  }

  pub none_closed : (tasks : List (Task S (ThreadTaps ⊤))) → AllClosed [] tasks tasks [] []
  none_closed tasks = record {
    shut = none_shut tasks;
    logs_many = refl;
    logged = λ b put take d low apart ran. absurd (omega (arith, low));
  }

  pub none_ended : (tasks : List (Task S (ThreadTaps ⊤))) → AllEndedTasks [] tasks tasks
  none_ended tasks = ended_all [] 0 tasks tasks (omega arith) (ended_none [] tasks)

  module _ (told : S → SinkTold) (W N : ℕ) where
    pub unbuffered_can : (count : ℕ) (now : List (ClockEngine S)) → All (CanRun told TapsBuffers count) (unbuffered_tasks now) → All (CanRunUnbuffered told count) now
    unbuffered_can count now can k d low =
        can_with told count TapsBuffers no_buffers (unbuffered_task (slice_index_or now k d)) tt refl
        (subst (CanRun told TapsBuffers count) (unbuffered_at now k (unbuffered_task d) low) (can k (unbuffered_task d) (let n = unbuffered_long now in omega (arith, low, n))))

    pub unbuffered_ran : (count : ℕ) (now mid : List (ClockEngine S)) → length mid ≡ length now
        → ((i : ℕ) (d : ClockEngine S) → i < length now → WasRunUnbuffered told count (slice_index_or now i d) (slice_index_or mid i d))
        → (k : ℕ) (d : Task S (ThreadTaps ⊤)) → k < length (unbuffered_tasks now) → WasRun told TapsStand TapsBuffers SameTaps count (slice_index_or (unbuffered_tasks now) k d) (slice_index_or (unbuffered_tasks mid) k d)
    unbuffered_ran count now mid many ran k d h =
        let low : k < length now = (let n = unbuffered_long now in omega (arith, h, n)) in
        let old = slice_index_or now k d.engine in let new = slice_index_or mid k d.engine in
        subst (λ (z : Task S (ThreadTaps ⊤) × Task S (ThreadTaps ⊤)). WasRun told TapsStand TapsBuffers SameTaps count z.0 z.1)
        (λ i. (sym (unbuffered_at now k d low) i, sym (unbuffered_at mid k d (omega (arith, low, many))) i))
        (ran_with told count any_calls no_buffers any_taps TapsStand TapsBuffers SameTaps (with_taps tt old) (with_taps tt new) no_taps
        (same_sides_refl [], same_sides_refl [], same_buffers_refl [])
        (λ calls. ((λ p e within. absurd (omega (arith, within))), (λ p e within. absurd (omega (arith, within))), (λ b e within away. absurd (omega (arith, within)))))
        (ran k d.engine low))

    -- no fault was want of memory
    pub unbuffered_memory : (made count : ℕ) (first now mid : List (ClockEngine S)) → IsReady told [] W N (unbuffered_tasks first) [] → Loop told [] W N made (unbuffered_tasks first) (unbuffered_tasks now) []
        → length mid ≡ length now → ((i : ℕ) (d : ClockEngine S) → i < length now → WasRunUnbuffered told count (slice_index_or now i d) (slice_index_or mid i d))
        → (end : End) → IsToldByLowest (unbuffered_tasks mid) end → All (λ engine. engine.parts.cues.keeping ≡ true → ⊥) first → end ≡ NoMemory → ⊥
    unbuffered_memory made count first now mid ready loop many ran end ended_by none_keeps e = with_one (unbuffered_tasks mid) (let w = ended_by.within in omega (arith, w)) (λ d.
        let k = ended_by.place in let within = ended_by.within in
        let in_now : k < length (unbuffered_tasks now) = (let n = unbuffered_long now in let m = unbuffered_long mid in omega (arith, within, n, m, many)) in
        let in_first : k < length (unbuffered_tasks first) = (let n = loop.many in omega (arith, in_now, n)) in
        let refused : ended_by.fault ≡ OutOfMemory = out_of_memory (slice_index_or (unbuffered_tasks mid) k d).engine.parts.clock ended_by.fault (sym (ended_by.end_is d) ∙ e) in
        let engine_first : k < length first = (let n = unbuffered_long first in omega (arith, in_first, n)) in
        let keeping = ((loop.at d).going.clocks k in_first).same.keeping ∙ ap (λ (x : Task S (ThreadTaps ⊤)). x.engine.parts.cues.keeping) (unbuffered_at first k d engine_first) in
        let some = (unbuffered_ran count now mid many ran k d in_now).memory (λ keeps. none_keeps k d.engine engine_first (sym keeping ∙ keeps)) (ended_by.stopped d ∙ ap Some refused) in
        let same = ap (λ (set : Setting). length set.plan.buffers) ((loop.at d).going.clocks k in_first).same.setting in
        let none = ready.buffers k d in_first in
        omega (arith, some, same, none))
