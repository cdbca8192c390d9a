-- What a run ends with, as its record.
use Rattle.std.proofs.Common.{◌≡◌, ◌<◌, ◌≤◌, ◌+◌, ◌*◌, ◌∙◌, ℕ, zero, suc, Bool, true, false, Some, Option, List, [], ◌∷◌, length, get_or, map, nat_lt, slice_get, arith, refl, ap, sym, subst, ◌⊎◌, inl, inr}
use mathlib.Core.Path.{fun_ext}
use native.Mathlib.Nat.{min-eq_left, min-le_left, min-le_right}
use Rattle.std.specs.Option.{option_map_or}
use Rattle.std.proofs.lemmas.Bool.{le-ltb}
use Rattle.std.proofs.lemmas.List.{length-map}
use Rattle.std.proofs.lemmas.Option.{get_or_from_slice_get, slice_get-get_or as read, slice_get_within}
use Rattle.liq_base.specs.Pieces.{SinkTold, grown}
use Rattle.plan_core.specs.declared.plan.Plan.{Plan}
use Rattle.plan_core.specs.Plans.{IsWellFormed}
use Rattle.plan_core.specs.declared.sink.BufferPlan.{BufferPlan}
use Rattle.clock_infer.specs.declared.clock_map.NodeClock.TheVariants.{Main}
use Rattle.frame_core.specs.declared.cell.Cell.{Cell}
use Rattle.frame_core.specs.Calls.{Adds, Call, Answer}
use Rattle.stream_meaning.specs.Instants.{Setting, with_rest}
use Rattle.stream_meaning.specs.Sinks.{ticks_bytes}
use Rattle.stream_meaning.specs.Calls.{IsBegin}
use Rattle.stream_meaning.proofs.Answering.{begin_none}
use Rattle.run_records.specs.Records.{Follows, Window, capacity_of, on as calls_on, rounds_to, setting_in, setting_then}
use Rattle.clock_ticks.specs.declared.engine.ClockEngine.{ClockEngine}
use Rattle.clock_ticks.specs.Engines.{setting_of, held_of}
use Rattle.buffer_ends.specs.Ends.{LocalStands}
use Rattle.buffer_ends.specs.Local.{Answers, Leads, LocalBuffer, all_answers, closed, closed_windows, counts_of, empty_list, held as list_held, on, planned}
use Rattle.buffer_ends.specs.Same.{SameBuffers}
use Rattle.buffer_ends.specs.declared.run_end.End.{End}
use Rattle.buffer_ends.specs.declared.run_end.End.TheVariants.{Done, Write, Memory as NoMemory}
use Rattle.rounds_run.specs.Rounds.{AreTurnsBegun, HasRunTurns, HasRunPart, HaveRunPart, IsWriteEnd, RoundsMade, RoundsStopped, made_by, nothing, ticks_by, world}
use Rattle.buffer_sides.specs.Logs.{told as told_of}
use Rattle.rounds_run.specs.Runs.{AreOver, HasRunAll, HasRunSome, HasRunTicks, counts_of_windows}
use Rattle.rounds_run.proofs.Worlds.{meets, meets_is}
use Rattle.rounds_run.proofs.Going.{none_read, run_none, run_part}
use Rattle.rounds_run.proofs.Lawful.{counted, leads_follow, logged, window_of}
use Rattle.rounds_run.proofs.Records.{all_turns, in_is, rounds_begun, turn_is, rounds_made, run_of, then_is, turned_begun, windows_from, windows_mapped}

-- a clock that has made all its rounds has made no fewer
made_least : (r clock k : ℕ) → r ≤ made_by r clock k
made_least r clock k = by (nat_lt k clock) refl
  where
    by : (b : Bool) → nat_lt k clock ≡ b → r ≤ made_by r clock k
    by true e = (let is : made_by r clock k ≡ suc r = rw e refl in omega (arith, is))
    by false e = (let is : made_by r clock k ≡ r = rw e refl in omega (arith, is))

-- an end that is no write
no_write : (end : End) → ((end ≡ Done → ⊥) → end ≡ NoMemory) → (failed sink : ℕ) → end ≡ Write failed sink → ⊥
no_write Done is failed sink e = cc
no_write NoMemory is failed sink e = cc
no_write (Write clock out) is failed sink e = (let refused : Write clock out ≡ NoMemory = is (λ done. cc) in cc)

write_only : (end : End) (P : Type 0) → (end ≡ NoMemory) ⊎ P → (failed sink : ℕ) → end ≡ Write failed sink → P
write_only end P (inl refused) failed sink e = absurd (no_write end (λ done. refused) failed sink e)
write_only end P (inr cause) failed sink e = cause

-- a list of the plan, after calls
module _ (plan : Plan) (calls : List Call) (lists : List LocalBuffer) (same : SameBuffers (map planned plan.buffers) lists) (stands : LocalStands lists calls) where
  many_lists : length lists ≡ length plan.buffers
  many_lists = same.many ∙ length-map plan.buffers planned

  led : (b : ℕ) (list : LocalBuffer) → slice_get lists b ≡ Some list → Leads (empty_list list.capacity) (on b calls) (list_held list)
  led b list at =
      subst (λ (l : LocalBuffer). Leads (empty_list l.capacity) (on b calls) (list_held l)) (get_or_from_slice_get lists b list list at)
      (stands b list (slice_get_within lists b list at) (λ none. none))

  to_map : {A B : Type 0} (f : A → B) (xs : List A) (k : ℕ) (x : A) → slice_get xs k ≡ Some x → slice_get (map f xs) k ≡ Some (f x)
  to_map f [] k x e = (let within = slice_get_within [] k x e in absurd (omega (arith, within)))
  to_map f (y ∷ xs) zero x e = let same : y ≡ x = cc in ap (λ z. Some (f z)) same
  to_map f (y ∷ xs) (suc k) x e = to_map f xs k x e

  planned_at : (b : ℕ) (list : LocalBuffer) → slice_get lists b ≡ Some list → (buffer : BufferPlan) × (slice_get plan.buffers b ≡ Some buffer) × (list.capacity ≡ buffer.capacity) × (list.closed ≡ [])
  planned_at b list at =
      let low = slice_get_within lists b list at in
      let many = many_lists in
      let d : BufferPlan = record { pre = 0; capacity = 0 } in
      let buffer = get_or plan.buffers b d in
      let there : slice_get plan.buffers b ≡ Some buffer = read plan.buffers b d (omega (arith, low, many)) in
      let was : get_or (map planned plan.buffers) b list ≡ planned buffer = get_or_from_slice_get (map planned plan.buffers) b (planned buffer) list (to_map planned plan.buffers b buffer there) in
      let is : get_or lists b list ≡ list = get_or_from_slice_get lists b list list at in
      let sames = same.each b list (slice_get_within (map planned plan.buffers) b (planned buffer) (to_map planned plan.buffers b buffer there)) in (
        buffer,
        there,
        ap (λ (l : LocalBuffer). l.capacity) (sym is) ∙ sames.capacity ∙ ap (λ (l : LocalBuffer). l.capacity) was,
        ap (λ (l : LocalBuffer). l.closed) (sym is) ∙ sames.closed ∙ ap (λ (l : LocalBuffer). l.closed) was,
      )

  lists_follow : (setting : Setting) → setting.plan ≡ plan → (b : ℕ) → b < length setting.plan.buffers → (rest : List (List Cell)) × Follows (capacity_of setting b) [] (calls_on b calls) rest
  lists_follow setting plan_is b low =
      let many = many_lists in
      let plans : length setting.plan.buffers ≡ length plan.buffers = ap (λ (p : Plan). length p.buffers) plan_is in
      let d : LocalBuffer = record { capacity = 0; chunks = []; closed = []; current = record { puts = []; takes = [] } } in
      let list = get_or lists b d in
      let at : slice_get lists b ≡ Some list = read lists b d (omega (arith, low, many, plans)) in
      let planned = planned_at b list at in
      let size : list.capacity ≡ capacity_of setting b =
      planned.2 ∙ sym (ap (λ (found : Option BufferPlan). option_map_or (λ (one : BufferPlan). one.capacity) found 0) (ap (λ (p : Plan). slice_get p.buffers b) plan_is ∙ planned.1)) in (
        list.chunks,
        subst (λ (c : ℕ). Follows c [] (calls_on b calls) list.chunks) size (leads_follow list.capacity b calls (list_held list) (led b list at)),
      )

  counts_told : map (λ list. counts_of (all_answers list)) lists ≡ map counts_of_windows (windows_from calls 0 (length plan.buffers))
  counts_told =
      windows_mapped (λ (list : LocalBuffer). counts_of (all_answers list)) counts_of_windows calls 0 lists
      (λ k list at. let same_place : k ≡ 0 + k = omega arith in counted k calls list (led k list at) ∙ ap (λ (b : ℕ). counts_of_windows (window_of b calls ∷ [])) same_place)
      ∙ ap (λ (n : ℕ). map counts_of_windows (windows_from calls 0 n)) many_lists

  logs_of_lists : (xs : List LocalBuffer) → map closed_windows (map closed xs) ≡ map (λ list. closed_windows (closed list)) xs
  logs_of_lists [] = refl
  logs_of_lists (x ∷ xs) = ap (λ (rest : List (List Answers)). closed_windows (closed x) ∷ rest) (logs_of_lists xs)

  logs_told : map closed_windows (map closed lists) ≡ map (λ (windows : List Window). map told_of windows) (windows_from calls 0 (length plan.buffers))
  logs_told =
      logs_of_lists lists
      ∙ windows_mapped (λ (list : LocalBuffer). closed_windows (closed list)) (λ (windows : List Window). map told_of windows) calls 0 lists
      (λ k list at. let same_place : k ≡ 0 + k = omega arith in logged k calls list (planned_at k list at).3 (led k list at) ∙ ap (λ (b : ℕ). map told_of (window_of b calls ∷ [])) same_place)
      ∙ ap (λ (n : ℕ). map (λ (windows : List Window). map told_of windows) (windows_from calls 0 n)) many_lists

module _ {S : Type 0} (told : S → SinkTold) (plan : Plan) (ticks : ℕ) (setting : Setting) (first now : List (ClockEngine S)) (over : AreOver told plan ticks setting first) where
  abbrev many : ℕ
  many = length setting.plan.buffers

  -- broken off after these calls
  broken : (end : End) (calls : List Call) → AreTurnsBegun setting (length first) (ticks * length first) calls
      → ((b : ℕ) → b < length setting.plan.buffers → (rest : List (List Cell)) × Follows (capacity_of setting b) [] (calls_on b calls) rest)
      → (round clock : ℕ) → ((rest : ℕ → List Answer) → (accepted : ℕ → ℕ → ℕ → Bool)
      × IsBegin (rounds_to (setting_then setting (run_of many calls) rest) accepted (length first) round clock) calls
      × IsBegin calls (rounds_to (setting_then setting (run_of many calls) rest) accepted (length first) round (suc clock)))
      → HaveRunPart told (world setting calls) (ticks_by ticks round clock) (ticks_by ticks round (clock + 1)) first now
      → ((failed sink : ℕ) → end ≡ Write failed sink → IsWriteEnd told clock first now end) → HasRunSome told setting ticks first now end
  broken end calls begun in_order round clock turn part write =
      let well = subst (λ p. IsWellFormed p) (sym over.plan_is) over.well in
      record {
        run = run_of many calls;
        begun = rounds_begun setting well (length first) (ticks * length first) calls begun ticks refl round clock turn in_order;
        part = subst (λ (worlds : (ℕ → List Answer) → Setting). HaveRunPart told worlds (ticks_by ticks round clock) (ticks_by ticks round (clock + 1)) first now)
            (fun_ext (λ rest. sym (then_is setting well (length first) (ticks * length first) calls begun rest))) part;
        write = write;
      }

  -- an engine that has run whole ticks
  ticks_told : (calls : List Call) (V : Setting) → V ≡ world setting calls nothing → (t : ℕ) (before after : ClockEngine S) → setting_of before.parts ≡ setting → HasRunTurns told calls t before after
      → HasRunTicks told V t before after
  ticks_told calls V is t before after same run =
      let rest = meets (setting_of before.parts) (Main before.parts.clock) calls run.answers run.own nothing in
      let given : with_rest (setting_of before.parts) run.answers rest ≡ V =
      meets_is (setting_of before.parts) (Main before.parts.clock) calls run.answers run.own nothing (none_read told t calls before after after run) ∙ ap (λ s. world s calls nothing) same ∙ sym is in
      record {
        over = run.setting;
        clock = run.clock;
        keeping = run.keeping;
        answers = run.answers;
        rest = rest;
        given = given;
        stands = run.stands;
        grew = λ sink node output. run.grew.each rest sink node output ∙ ap (λ W. grown (ticks_bytes W output.wide node t) (held_of told before sink)) given;
        pieces = run.pieces;
        outs = run.outs;
      }

  module _ (taps_first taps_now : List LocalBuffer) (empty : taps_first ≡ map planned plan.buffers) (stands : LocalStands taps_first []) (same : SameBuffers taps_first taps_now) where
    same_here : SameBuffers (map planned plan.buffers) taps_now
    same_here = subst (λ lists. SameBuffers lists taps_now) empty same

    -- a fault of a tick
    pub one_stopped : (end : End) → RoundsStopped told (Adds LocalStands taps_first taps_now) setting ticks first now end → HasRunSome told setting ticks first now end
    one_stopped end stopped =
        broken end stopped.calls stopped.begun (lists_follow plan stopped.calls taps_now same_here (stopped.taps [] stands) setting over.plan_is) stopped.round stopped.clock
        (turn_is setting (subst (λ p. IsWellFormed p) (sym over.plan_is) over.well) (length first) (ticks * length first) stopped.calls stopped.begun stopped.round stopped.clock stopped.below stopped.turn) stopped.part (write_only end _ stopped.cause)

    module _ (made : RoundsMade told (Adds LocalStands taps_first taps_now) setting ticks first now) where
      -- all ticks
      pub all_made : (end : End) → ((end ≡ Done → ⊥) → end ≡ NoMemory) → HasRunSome told setting ticks first now end
      all_made end is =
          broken end made.calls (turned_begun setting (length first) (ticks * length first) made.calls made.turned)
          (lists_follow plan made.calls taps_now same_here (made.taps [] stands) setting over.plan_is) ticks 0
          (all_turns setting (subst (λ p. IsWellFormed p) (sym over.plan_is) over.well) (length first) (ticks * length first) made.calls (turned_begun setting (length first) (ticks * length first) made.calls made.turned) ticks refl made.turned)
          (record {
            size = made.run.size;
            each = λ k before after was at.
                subst (λ s. HasRunPart told (world s made.calls) (ticks_by ticks ticks 0 k) (ticks_by ticks ticks (0 + 1) k) before after) (over.are.over k before was)
                (run_part told ticks made.calls before after after (made.run.each k before after was at) (ticks_by ticks ticks 0 k) (ticks_by ticks ticks (0 + 1) k)
                (min-le_left ticks (made_by ticks 0 k))
                (let least = made_least ticks (0 + 1) k in let all = min-eq_left {n = ticks} {m = made_by ticks (0 + 1) k} least in omega (arith, all)));
          }) (λ failed sink e. absurd (no_write end is failed sink e))

      -- all ticks, with their answers
      pub all_told : HasRunAll told setting ticks first now (map (λ list. counts_of (all_answers list)) taps_now) (map closed_windows (map closed taps_now))
      all_told =
          let well = subst (λ p. IsWellFormed p) (sym over.plan_is) over.well in
          let begun = turned_begun setting (length first) (ticks * length first) made.calls made.turned in
          let stood = made.taps [] stands in
          let buffers : length plan.buffers ≡ many = ap (λ (p : Plan). length p.buffers) (sym over.plan_is) in
          record {
            run = run_of many made.calls;
            rounds = rounds_made setting well (length first) (ticks * length first) made.calls begun ticks refl (lists_follow plan made.calls taps_now same_here stood setting over.plan_is) made.turned;
            engines = record {
              size = made.run.size;
              each = λ k before after was at. ticks_told made.calls (setting_in setting (run_of many made.calls)) (in_is setting well (length first) (ticks * length first) made.calls begun) ticks before after (over.are.over k before was) (made.run.each k before after was at);
            };
            counts_are = counts_told plan made.calls taps_now same_here stood ∙ ap (λ (n : ℕ). map counts_of_windows (windows_from made.calls 0 n)) buffers;
            logs_are = logs_told plan made.calls taps_now same_here stood ∙ ap (λ (n : ℕ). map (λ (windows : List Window). map told_of windows) (windows_from made.calls 0 n)) buffers;
          }

-- no tick
pub none_made : {S : Type 0} (told : S → SinkTold) (plan : Plan) (ticks : ℕ) (setting : Setting) (first : List (ClockEngine S)) → AreOver told plan ticks setting first
    → (end : End) → end ≡ NoMemory → HasRunSome told setting ticks first first end
none_made told plan ticks setting first over end is =
    broken told plan ticks setting first first over end [] (record { accepted = λ turn buffer. true; begun = λ rest. begin_none _ }) (λ b low. ([], refl)) 0 0 (λ rest. ((λ m t buffer. true), begin_none [], begin_none _))
    (record {
      size = refl;
      each = λ k before after was at.
          let same_some : Some before ≡ Some after = sym was ∙ at in
          let same : before ≡ after = cc in
          subst (λ s. HasRunPart told (world s []) (ticks_by ticks 0 0 k) (ticks_by ticks 0 (0 + 1) k) before after) (over.are.over k before was)
          (subst (λ e. HasRunPart told (world (setting_of before.parts) []) (ticks_by ticks 0 0 k) (ticks_by ticks 0 (0 + 1) k) before e) same
          (run_part told 0 [] before before before (run_none told ticks before (over.are.each k before was)) (ticks_by ticks 0 0 k) (ticks_by ticks 0 (0 + 1) k)
          (let none : made_by 0 0 k ≡ 0 = rw (le-ltb k 0 (omega arith)) refl in let low = min-le_right ticks (made_by 0 0 k) in omega (arith, none, low)) (omega arith)));
    }) (λ failed sink e. absurd (no_write end (λ done. is) failed sink e))
