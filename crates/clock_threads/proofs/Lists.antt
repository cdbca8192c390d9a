-- The lists of the buffers with both ends in one clock: the calls on each in their order, and its windows as one history.
use Rattle.std.proofs.Common.{◌≡◌, ℕ, ◌<◌, ◌==◌, ◌||◌, eqb, true, false, List, [], length, slice_index_or, ap, subst, arith, inl, inr, ⊎_elim, Option, if◌then◌else◌}
use Rattle.std.proofs.lemmas.Bool.Decides.{eqb_tells}
use Rattle.liq_base.specs.Pieces.{SinkTold}
use Rattle.frame_core.specs.declared.cell.Cell.{Cell}
use Rattle.frame_core.specs.Legal.{IsHistory}
use Rattle.frame_core.specs.Calls.{Call}
use Rattle.buffer_ends.specs.Local.{Answers, LocalBuffer, on, empty_list, empty_buffer, held as held_by}
use Rattle.buffer_ends.specs.declared.thread_taps.ThreadTaps.{ThreadTaps}
use Rattle.stream_meaning.specs.Calls.{joined_upto}
use Rattle.run_records.specs.Records.{Follows, start}
use Rattle.clock_threads.specs.declared.task.Task.{Task}
use Rattle.clock_threads.specs.declared.wires.Wire.{Wire}
use Rattle.clock_threads.specs.Wires.{wire_at, ends_at, kept}
use Rattle.clock_threads.specs.Records.{windows_upto, Going}
use Rattle.clock_threads.proofs.Sets.{same_or_other}
use Rattle.clock_threads.proofs.Keeping.{on_kept}
use Rattle.clock_threads.proofs.Logging.{not_ended}
use Rattle.clock_threads.proofs.Lawfully.{leads_follows, local_run}

pub none_ended : (wire : Wire) (k : ℕ) → wire.from ≡ wire.to → ends_at wire k ≡ false
none_ended wire k e = ⊎_elim (λ (same : (eqb wire.from wire.to ≡ true) × (wire.from ≡ wire.to)). ap (λ z. if z then false else (wire.from == k || wire.to == k)) same.0) (λ off. absurd (off.1 e)) (eqb_tells wire.from wire.to)

module _ {S R : Type 0} (told : S → SinkTold) (wires : List Wire) (W N j : ℕ) (first now : List (Task S (ThreadTaps R))) (logs : List (List Answers)) (d : Task S (ThreadTaps R))
    (going : Going told wires W N j first now logs d) (places : (b : ℕ) → b < length wires → (wire_at wires b).from < length first × ((wire_at wires b).to < length first)) where
  pub going_local : (b : ℕ) → b < length wires → (wire_at wires b).from ≡ (wire_at wires b).to
      → (rest : List (List Cell)) × Follows (wire_at wires b).capacity [] (on b (joined_upto (going.clock_calls (wire_at wires b).from).calls (start W N j))) rest
  going_local b less e =
      let k = (wire_at wires b).from in let c = going.clocks k (places b less).0 in
      let l : LocalBuffer = slice_index_or (slice_index_or now k d).taps.local b (empty_buffer 0) in
      let low : b < length (slice_index_or now k d).taps.local = (let n = c.lists in omega (arith, less, n)) in
      let leads = c.stand.2 b (empty_buffer 0) low (not_ended wires k b (slice_index_or now k d) c.wired e) in
      let follows = leads_follows (empty_list l.capacity) (on b (kept wires k (joined_upto (going.clock_calls k).calls (start W N j)))) (held_by l) leads in
      (l.chunks, subst (λ (z : ℕ × List Call). Follows z.0 [] z.1 l.chunks) (λ i. (c.capacities b (empty_buffer 0) less i, on_kept wires k b (joined_upto (going.clock_calls k).calls (start W N j)) (none_ended (wire_at wires b) k e) i)) follows)

  -- the windows of each buffer so far are one history
  pub going_runs : (b : ℕ) → b < length wires → (chunks : List (List Cell)) × IsHistory (wire_at wires b).capacity [] (windows_upto (wire_at wires b) going.clock_calls b W N j) chunks
  going_runs b less = elim (same_or_other (wire_at wires b).from (wire_at wires b).to) [
    | inl e ↦ (let f = going_local b less e in (f.0, local_run W N (wire_at wires b) going.clock_calls b j f.0 e f.1))
    | inr apart ↦ (let g = going.joins b less apart in (g.chunks, g.run))
  ]
