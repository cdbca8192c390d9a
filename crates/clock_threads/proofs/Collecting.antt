-- The logs of the lists of all clocks are put together.
use Rattle.std.proofs.Common.{◌≡◌, ◌≢◌, ℕ, suc, ◌<◌, ◌≤◌, ◌+◌, List, ◌∷◌, ◌++◌, length, map, slice_index_or, sym, ap, ◌∙◌, subst, arith, inl, inr, take, drop}
use Rattle.std.proofs.lemmas.List.{get_or_default}
use Rattle.buffer_ends.specs.Local.{Answers, LocalBuffer, closed_windows}
use Rattle.buffer_ends.specs.declared.thread_taps.ThreadTaps.{ThreadTaps}
use Rattle.clock_threads.specs.declared.task.Task.{Task}
use Rattle.clock_threads.specs.declared.wires.Wire.{Wire}
use Rattle.clock_threads.specs.Wires.{wire_at}
use Rattle.clock_threads.proofs.Sets.{same_or_other}
use Rattle.clock_threads.specs.Logs.{TookLogs}
use Rattle.clock_threads.proofs.Making.{first_gone, map_get, map_long}

-- the logs below `below` were looked at
pub record TookUpto (wires : List Wire) (clock below : ℕ) (first lists logs after : List (List Answers)) : Type 0 where
  pub many : length after ≡ length logs
  pub lists_many : length lists ≡ length first
  pub here : (b : ℕ) (d : List Answers) → b < below → b < length first → b < length logs → (wire_at wires b).from ≡ (wire_at wires b).to → (wire_at wires b).from ≡ clock → slice_index_or after b d ≡ slice_index_or first b d
  pub joined : (b : ℕ) (d : List Answers) → (wire_at wires b).from ≢ (wire_at wires b).to → slice_index_or after b d ≡ slice_index_or logs b d
  pub others : (b : ℕ) (d : List Answers) → (wire_at wires b).from ≢ clock → slice_index_or after b d ≡ slice_index_or logs b d
  pub todo : (b : ℕ) (d : List Answers) → below ≤ b → slice_index_or lists b d ≡ slice_index_or first b d

module _ {S R : Type 0} (wires : List Wire) where
  -- the logs of the first `k` clocks were taken, and the tasks of the others are left
  pub record Collecting (k : ℕ) (old tasks : List (Task S (ThreadTaps R))) (first logs : List (List Answers)) : Type 0 where
    pub rest : (i : ℕ) (e : Task S (ThreadTaps R)) → i < length tasks → slice_index_or tasks i e ≡ slice_index_or old (k + i) e
    pub all : k + length tasks ≡ length old
    pub many : length logs ≡ length first
    pub local : (b : ℕ) (d : List Answers) (e : Task S (ThreadTaps R)) (f : LocalBuffer) → b < length wires → b < length first → (wire_at wires b).from ≡ (wire_at wires b).to → (wire_at wires b).from < k
        → b < length (slice_index_or old (wire_at wires b).from e).taps.local → slice_index_or logs b d ≡ (slice_index_or (slice_index_or old (wire_at wires b).from e).taps.local b f).closed
    pub joined : (b : ℕ) (d : List Answers) → (wire_at wires b).from ≢ (wire_at wires b).to → slice_index_or logs b d ≡ slice_index_or first b d

  pub collecting_more : (k : ℕ) (old tasks tasks' : List (Task S (ThreadTaps R))) (first logs after : List (List Answers)) (task : Task S (ThreadTaps R)) (lists : List (List Answers)) → Collecting k old tasks first logs → k < length old
      → task ≡ slice_index_or tasks 0 task → tasks' ≡ take 0 tasks ++ drop (0 + 1) tasks → lists ≡ map closed_windows task.taps.local → TookLogs wires k lists logs after → Collecting (k + 1) old tasks' first after
  collecting_more k old tasks tasks' first logs after task lists c less t1 t2 lists_are took =
      let some : 0 < length tasks = (let a = c.all in omega (arith, a, less)) in
      let cut : tasks ≡ task ∷ tasks' = first_gone tasks tasks' task some t1 t2 in
      let zero_more : k + 0 ≡ k = omega arith in
      let here : task ≡ slice_index_or old k task = t1 ∙ c.rest 0 task some ∙ ap (λ n. slice_index_or old n task) zero_more in
      record {
        rest = λ i e low. (let n = ap length cut in let next : k + suc i ≡ k + 1 + i = omega arith in
            ap (λ l. slice_index_or l (suc i) e) (sym cut) ∙ c.rest (suc i) e (omega (arith, low, n)) ∙ ap (λ n'. slice_index_or old n' e) next);
        all = (let n = ap length cut in let a = c.all in omega (arith, n, a));
        many = took.many ∙ c.many;
        local = λ b d e f low in_logs is less' in_list. (elim (same_or_other (wire_at wires b).from k) [
          | inl at ↦ (
              let task_is : slice_index_or old (wire_at wires b).from e ≡ task = ap (λ n. slice_index_or old n e) at ∙ get_or_default old k e task less ∙ sym here in
              let in_local : b < length task.taps.local = subst (λ (t : Task S (ThreadTaps R)). b < length t.taps.local) task_is in_list in
              let in_lists : b < length lists = (let n = ap length lists_are ∙ map_long closed_windows task.taps.local in omega (arith, in_local, n)) in
              took.here b d low in_lists (let m = c.many in omega (arith, in_logs, m)) is at ∙ ap (λ l. slice_index_or l b d) lists_are
              ∙ map_get closed_windows task.taps.local b f d in_local ∙ ap (λ (t : Task S (ThreadTaps R)). (slice_index_or t.taps.local b f).closed) (sym task_is))
          | inr off ↦ took.others b d off ∙ c.local b d e f low in_logs is (omega (arith, less', off)) in_list
        ]);
        joined = λ b d apart. took.joined b d apart ∙ c.joined b d apart;
      }
