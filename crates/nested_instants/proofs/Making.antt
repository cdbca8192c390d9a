-- A clock whose crossfades have their items makes its instant.
use Rattle.std.proofs.Common.{◌≡◌, ◌<◌, ◌≤◌, ◌∙◌, ◌&&◌, ◌++◌, ℕ, suc, Bool, true, false, Some, List, ◌∷◌, length, slice_get, arith, refl, ap, sym, subst, inl, inr}
use Rattle.std.proofs.lemmas.Option.{slice_get_within}
use Rattle.plan_core.specs.declared.node.Node.{Node}
use Rattle.plan_core.specs.declared.node.Op.TheVariants.{Crossfade}
use Rattle.clock_infer.specs.declared.clock_map.NodeClock.{NodeClock}
use Rattle.clock_infer.specs.declared.clock_map.NodeClock.TheVariants.{Sub}
use Rattle.frame_core.specs.Slots.{Slot}
use Rattle.op_cross.specs.Runs.{run_of}
use Rattle.frame_core.specs.Calls.{Call}
use Rattle.stream_meaning.specs.Operators.{Reads}
use Rattle.stream_meaning.specs.Instants.{Setting, Moment, Reading, gives, read_on, reading_after, reading_at, clock_of, first_instants, is_root, moment_after, part_at, position, same_clock, work_at}
use Rattle.stream_meaning.specs.Calls.{GoDown, ran_by, takes_at}
use Rattle.stream_meaning.proofs.Answering.{after_calls-then}
use Rattle.stream_meaning.proofs.Existence.{same_clock-true}
use Rattle.stream_meaning.proofs.Sorted.{op_of_fades}
use Rattle.node_states.specs.declared.state.NodeState.{NodeState}
use Rattle.node_states.specs.declared.time.WeekTime.{WeekTime}
use Rattle.node_states.specs.States.{IsSettled, StateStands, reading_by, reads_at}
use Rattle.node_states.proofs.Chunks.{reading_closed, reading_open}
use Rattle.node_states.specs.Ticks.{past_of}
use Rattle.node_states.specs.Times.{TimeStands}
use Rattle.clock_nodes.specs.States.{AreRoots, AreSettled, ClockStands}
use Rattle.nested_instants.specs.declared.clock_states.ClockStates.{ClockStates}
use Rattle.nested_instants.specs.Clocks.{Progress, begun_progress, laned_at}
use Rattle.clock_instants.specs.Takes.{begun_by}
use Rattle.nested_instants.specs.Clocks.{AreFilled, AreOwnRoots, AreReady, HasMadeInstant, HasRanks, IsOpen, RanAsNeeded, Stand, fade_at, is_fade, rest_at}
use Rattle.clock_instants.specs.Held.{IsHeld}
use Rattle.nested_instants.proofs.Kept.{open_kept}
use Rattle.nested_instants.proofs.Equal.{are_same, bumped, bumped-other, bumped-same, same_or_above, same_or_other, they_differ}
use Rattle.nested_instants.proofs.Fading.{fade_of, fade_op, fade_within, reads_fade, reads_work, work_of_op}
use Rattle.nested_instants.proofs.Opened.{begun-no_reader, begun-reads, past_long}
use Rattle.nested_instants.proofs.Taking.{needed_below}
use Rattle.nested_instants.proofs.Fading.{fade_reads}

-- the marks of a clock's own roots
pub roots_are : (setting : Setting) (clock : NodeClock) (own : List Bool) → AreOwnRoots setting own → AreRoots setting clock own
roots_are setting clock own are = record {
  each = λ i within inside. are.each i within ∙ ap (λ c. is_root setting c i) (same_clock-true (clock_of setting i) clock inside);
}

pub long_first_instants : (setting : Setting) (sub : ℕ → ℕ → List Slot) (clock : NodeClock) (n : ℕ) → n ≡ length (first_instants setting sub clock n)
long_first_instants setting sub clock n = sym (past_long setting sub clock n)

-- before its crossfades are settled
pub are_ready : (setting : Setting) (sub : ℕ → ℕ → List Slot) (rank : NodeClock → ℕ) (clock : NodeClock) (progress : Progress) (more : List Call) (all : ClockStates)
    → Stand setting sub rank (rank clock) progress all → RanAsNeeded setting sub rank (rank clock) progress → AreReady setting sub clock (begun_progress setting clock progress more)
are_ready setting sub rank clock progress more all stand needed = record {
  each = λ k overlap node found work here.
      let level : rank (clock_of setting k) ≡ rank clock = ap rank here in
      let fades : fade_at setting k ≡ true = fade_of setting k node found ∙ ap is_fade work in
      let op = op_of_fades setting k overlap node work in
      begun-no_reader setting clock progress.filled k (fade_reads setting k fades)
      ∙ stand.even k fades (omega (arith, level))
      ∙ needed.each k overlap node found op (omega (arith, level))
      ∙ ap (λ c. ran_by sub k overlap (first_instants setting sub c (progress.ran c))) here;
  begun = λ i reading here.
      let level : rank (clock_of setting i) ≡ rank clock = ap rank here in
      begun-reads setting clock progress.filled i (are_same (clock_of setting i) clock here) reading ∙ ap suc (needed.begun i reading (omega (arith, level)) ∙ ap progress.ran here);
}

-- the answers that a reader has taken stay at an instant's end
pub taken_stays : (gave : Bool) (reading : Reading) → (read_on gave reading).taken ≡ reading.taken
taken_stays true reading = refl
taken_stays false reading = refl

reading_next : (setting : Setting) (i buffer : ℕ) (past : List Moment) (moment : Moment)
    → (reading_by setting i buffer (moment ∷ past) (suc (length past))).taken ≡ (reading_by setting i buffer past (suc (length past))).taken
reading_next setting i buffer past moment =
    ap (λ (r : Reading). r.taken) (reading_closed setting i buffer (moment ∷ past))
    ∙ taken_stays (gives moment i) (reading_at setting buffer (length past) (reading_after setting i buffer past))
    ∙ ap (λ (r : Reading). r.taken) (sym (reading_open setting i buffer past))

-- a clock has made one instant more
abbrev one_more : Progress → NodeClock → Progress
one_more progress clock = record { ran = bumped progress.ran clock; filled = progress.filled; front = progress.front }

module _ (setting : Setting) (sub : ℕ → ℕ → List Slot) (rank : NodeClock → ℕ) (clock : NodeClock) (progress : Progress) (begin more : List Call) (all : ClockStates)
    (u : AreFilled setting sub rank clock (length setting.plan.nodes) (begun_progress setting clock progress begin) more all) where
  -- the instants that a node of the clock has seen
  past_is : (i : ℕ) → clock_of setting i ≡ clock → past_of setting sub u.reached.now.ran i ≡ first_instants setting sub clock (u.reached.now.ran clock)
  past_is i inside = ap (λ c. first_instants setting sub c (u.reached.now.ran c)) inside

  pub ran_is : u.reached.now.ran clock ≡ progress.ran clock
  ran_is = u.reached.others clock (omega arith)

  pub clock_stands : ClockStands setting sub clock (first_instants setting sub clock (u.reached.now.ran clock)) u.reached.now.filled all.states.items
  clock_stands = record {
    each = λ i node state inside found.
        let here = same_clock-true (clock_of setting i) clock inside.inside in
        let level : rank (clock_of setting i) ≡ rank clock = ap rank here in
        subst (λ past. StateStands setting sub past (u.reached.now.filled i) i (work_at setting i node) state) (past_is i here)
        (u.reached.stand.stand i node state inside.there found (omega (arith, level)));
  }

  pub are_settled : AreSettled setting sub clock (first_instants setting sub clock (u.reached.now.ran clock)) u.reached.now.filled
  are_settled = record {
    each = λ i node inside.
        let of_clock = same_clock-true (clock_of setting i) clock inside.inside in
        subst (λ past. IsSettled sub past (u.reached.now.filled i) i (work_at setting i node)) (past_is i of_clock)
        (u.reached.items i node (slice_get_within setting.plan.nodes i node inside.there, of_clock) inside.there).settled;
  }

  module _ (ranks : HasRanks setting.clocks rank) (in_clocks : length setting.clocks ≡ length setting.plan.nodes) (first new : ClockStates)
      (stand : Stand setting sub rank (rank clock) progress first) (needed : RanAsNeeded setting sub rank (rank clock) progress)
      (stands : ClockStands setting sub clock (moment_after setting sub clock (first_instants setting sub clock (u.reached.now.ran clock)) ∷ first_instants setting sub clock (u.reached.now.ran clock)) u.reached.now.filled new.states.items)
      (others : (i : ℕ) → same_clock (clock_of setting i) clock ≡ false → slice_get new.states.items i ≡ slice_get all.states.items i)
      (times : new.times.items ≡ all.times.items)
      (held : (i : ℕ) → same_clock (clock_of setting i) clock ≡ false → part_at new.room.held.items i ≡ part_at all.room.held.items i)
      (rests : (i : ℕ) → rest_at new i ≡ rest_at all i) (laned : (i : ℕ) → laned_at all i → laned_at new i) where
    -- no crossfade of the clock's rank or a deeper one has this clock for its sub-clock
    no_sub : (k : ℕ) → k < length setting.plan.nodes → rank clock ≤ rank (clock_of setting k) → Sub k ≡ clock → ⊥
    no_sub k within above e = let up = ranks.deeper k (omega (arith, within, in_clocks)) in let same : rank (Sub k) ≡ rank clock = ap rank e in omega (arith, up, same, above)

    ran_sub : (k : ℕ) → k < length setting.plan.nodes → rank clock ≤ rank (clock_of setting k) → bumped u.reached.now.ran clock (Sub k) ≡ u.reached.now.ran (Sub k)
    ran_sub k within above = bumped-other u.reached.now.ran clock (Sub k) (no_sub k within above)

    past_other : (i : ℕ) → (clock_of setting i ≡ clock → ⊥) → past_of setting sub (bumped u.reached.now.ran clock) i ≡ past_of setting sub u.reached.now.ran i
    past_other i other = ap (λ n. first_instants setting sub (clock_of setting i) n) (bumped-other u.reached.now.ran clock (clock_of setting i) other)

    past_own : (i : ℕ) → clock_of setting i ≡ clock → past_of setting sub (bumped u.reached.now.ran clock) i
        ≡ (moment_after setting sub clock (first_instants setting sub clock (u.reached.now.ran clock)) ∷ first_instants setting sub clock (u.reached.now.ran clock))
    past_own i inside = ap (λ c. first_instants setting sub c (bumped u.reached.now.ran clock c)) inside ∙ ap (λ n. first_instants setting sub clock n) (bumped-same u.reached.now.ran clock)

    stand_all : (i : ℕ) (node : Node) (state : NodeState) → slice_get setting.plan.nodes i ≡ Some node → slice_get new.states.items i ≡ Some state
        → rank clock ≤ rank (clock_of setting i)
        → StateStands setting sub (past_of setting sub (bumped u.reached.now.ran clock) i) (u.reached.now.filled i) i (work_at setting i node) state
    stand_all i node state found stored above = elim (same_or_other (clock_of setting i) clock) [
      | inl inside ↦ subst (λ past. StateStands setting sub past (u.reached.now.filled i) i (work_at setting i node) state) (sym (past_own i inside))
          (stands.each i node state (record { there = found; inside = are_same (clock_of setting i) clock inside }) stored)
      | inr other ↦ subst (λ past. StateStands setting sub past (u.reached.now.filled i) i (work_at setting i node) state) (sym (past_other i other))
          (u.reached.stand.stand i node state found (sym (others i (they_differ (clock_of setting i) clock other)) ∙ stored) above)
    ]

    -- a reader of the clock has begun this instant
    begun_own : (i : ℕ) → reads_at setting i ≡ true → clock_of setting i ≡ clock → u.reached.now.filled i ≡ suc (u.reached.now.ran clock)
    begun_own i reading inside =
        let level : rank (clock_of setting i) ≡ rank clock = ap rank inside in
        u.reached.idle i (reads_fade setting i reading) (omega (arith, level))
        ∙ begun-reads setting clock progress.filled i (are_same (clock_of setting i) clock inside) reading
        ∙ ap suc (needed.begun i reading (omega (arith, level)) ∙ ap progress.ran inside ∙ sym ran_is)

    taken_all : (i buffer : ℕ) (node : Node) → slice_get setting.plan.nodes i ≡ Some node → work_at setting i node ≡ Reads buffer
        → (reading_by setting i buffer (past_of setting sub (bumped u.reached.now.ran clock) i) (u.reached.now.filled i)).taken ≡ length (u.reached.now.front buffer)
    taken_all i buffer node found work =
        elim (same_or_other (clock_of setting i) clock) [
          | inl inside ↦
              (let past = first_instants setting sub clock (u.reached.now.ran clock) in
              let moment = moment_after setting sub clock past in
              let now : u.reached.now.filled i ≡ suc (length past) = begun_own i (reads_work setting i buffer node found work) inside ∙ ap suc (long_first_instants setting sub clock (u.reached.now.ran clock)) in
              ap (λ p. (reading_by setting i buffer p (u.reached.now.filled i)).taken) (past_own i inside)
              ∙ ap (λ n. (reading_by setting i buffer (moment ∷ past) n).taken) now
              ∙ reading_next setting i buffer past moment
              ∙ ap (λ n. (reading_by setting i buffer past n).taken) (sym now)
              ∙ ap (λ p. (reading_by setting i buffer p (u.reached.now.filled i)).taken) (sym (past_is i inside)))
          | inr other ↦ ap (λ p. (reading_by setting i buffer p (u.reached.now.filled i)).taken) (past_other i other)
        ]
        ∙ u.reached.stand.taken i buffer node found work

    -- a node of another clock is where it was
    held_other : (i : ℕ) → (clock_of setting i ≡ clock → ⊥) → rank (clock_of setting i) ≤ rank clock → u.reached.now.filled i ≡ progress.filled i
    held_other i other low =
        u.reached.held i (λ done. other done.1) low
        ∙ ap (λ (b : Bool). begun_by (b && reads_at setting i) (progress.filled i)) (they_differ (clock_of setting i) clock other)

    -- of another clock of the rank, nothing has gone on
    same_rank : (k overlap : ℕ) (node : Node) → slice_get setting.plan.nodes k ≡ Some node → node.op ≡ Crossfade overlap → (clock_of setting k ≡ clock → ⊥)
        → rank clock ≡ rank (clock_of setting k) → u.reached.now.ran (Sub k) ≡ ran_by sub k overlap (past_of setting sub u.reached.now.ran k)
    same_rank k overlap node found op other level =
        let fades = fade_op setting k overlap node found op in
        sym (u.reached.stand.even k fades (omega (arith, level))) ∙ held_other k other (omega (arith, level)) ∙ stand.even k fades (omega (arith, level))
        ∙ needed.each k overlap node found op (omega (arith, level))
        ∙ ap (λ n. ran_by sub k overlap (first_instants setting sub (clock_of setting k) n)) (sym (u.reached.others (clock_of setting k) (omega (arith, level))))

    needed_other : (k overlap : ℕ) (node : Node) → slice_get setting.plan.nodes k ≡ Some node → node.op ≡ Crossfade overlap → (clock_of setting k ≡ clock → ⊥)
        → rank clock ≤ rank (clock_of setting k) → u.reached.now.ran (Sub k) ≡ ran_by sub k overlap (past_of setting sub u.reached.now.ran k)
    needed_other k overlap node found op other above = elim (same_or_above (rank clock) (rank (clock_of setting k)) above) [
      | inl higher ↦ u.reached.stand.needed.each k overlap node found op (omega (arith, higher))
      | inr level ↦ same_rank k overlap node found op other level
    ]

    needed_own : (k overlap : ℕ) (node : Node) → slice_get setting.plan.nodes k ≡ Some node → node.op ≡ Crossfade overlap → clock_of setting k ≡ clock
        → rank clock ≤ rank (clock_of setting k) → u.reached.now.ran (Sub k) ≡ run_of overlap (sub k) (position (first_instants setting sub clock (u.reached.now.ran clock)) k)
    needed_own k overlap node found op inside above =
        let within = slice_get_within setting.plan.nodes k node found in
        sym (u.reached.stand.even k (fade_op setting k overlap node found op) above) ∙ sym ((u.reached.items k node (within, inside) found).run overlap (work_of_op setting k overlap node op))
        ∙ ap (λ past. run_of overlap (sub k) (position past k)) (past_is k inside)

    begun_other : (i : ℕ) → reads_at setting i ≡ true → (clock_of setting i ≡ clock → ⊥) → rank clock ≤ rank (clock_of setting i) → u.reached.now.filled i ≡ u.reached.now.ran (clock_of setting i)
    begun_other i reading other above = elim (same_or_above (rank clock) (rank (clock_of setting i)) above) [
      | inl higher ↦ u.reached.stand.needed.begun i reading (omega (arith, higher))
      | inr level ↦ held_other i other (omega (arith, level)) ∙ needed.begun i reading (omega (arith, level)) ∙ sym (u.reached.others (clock_of setting i) (omega (arith, level)))
    ]

    needed_all : RanAsNeeded setting sub rank (rank clock) (one_more u.reached.now clock)
    needed_all = record {
      each = λ k overlap node found op above.
          ran_sub k (slice_get_within setting.plan.nodes k node found) above ∙ elim (same_or_other (clock_of setting k) clock) [
            | inl inside ↦ needed_own k overlap node found op inside above ∙ ap (ran_by sub k overlap) (sym (past_own k inside))
            | inr other ↦ needed_other k overlap node found op other above ∙ ap (ran_by sub k overlap) (sym (past_other k other))
          ];
      begun = λ i reading above. elim (same_or_other (clock_of setting i) clock) [
        | inl inside ↦ begun_own i reading inside ∙ sym (ap (bumped u.reached.now.ran clock) inside ∙ bumped-same u.reached.now.ran clock)
        | inr other ↦ begun_other i reading other above ∙ sym (bumped-other u.reached.now.ran clock (clock_of setting i) other)
      ];
    }

    time_all : (k : ℕ) (time : WeekTime) → k < length setting.plan.nodes → rank clock ≤ rank (clock_of setting k) → slice_get new.times.items k ≡ Some time
        → TimeStands setting.start (bumped u.reached.now.ran clock (Sub k)) time
    time_all k time within above at =
        subst (λ n. TimeStands setting.start n time) (sym (ran_sub k within above)) (u.reached.stand.time k time above (ap (λ xs. slice_get xs k) (sym times) ∙ at))

    open_all : (k : ℕ) → k < length setting.plan.nodes → rank clock ≤ rank (clock_of setting k) → 0 < rest_at new k
        → IsOpen setting sub k (rest_at new k) (one_more u.reached.now clock) new
    open_all k within above some =
        open_kept setting sub k u.reached.now (one_more u.reached.now clock) all new (ran_sub k within above) (rests k)
        (λ i here.
        let outside = they_differ (clock_of setting i) clock (λ same. no_sub k within above (sym here ∙ same)) in
        (refl, others i outside, held i outside))
        (u.reached.stand.kept k within above) some

    module _ (in_times : length all.times.items ≡ length setting.plan.nodes) (down : GoDown setting sub)
        (opened : begin ≡ takes_at setting clock (first_instants setting sub clock (progress.ran clock)))
        (parts : new.latest.parts.items ≡ (moment_after setting sub clock (first_instants setting sub clock (progress.ran clock))).parts)
        (keeps : IsHeld setting sub clock (first_instants setting sub clock (progress.ran clock)) new.room.held.items) where
      pub made : HasMadeInstant setting sub rank clock progress (begin ++ more) new
      made = record {
        now = one_more u.reached.now clock;
        took = u.reached.took ∙ sym (after_calls-then progress.front begin more);
        stand = record {
          stand = stand_all;
          taken = taken_all;
          even = λ k fades above. u.reached.stand.even k fades above ∙ sym (ran_sub k (fade_within setting k fades) above);
          time = λ k time above at. time_all k time
              (let low = slice_get_within new.times.items k time at in let many = ap length times in omega (arith, low, many, in_times)) above at;
          needed = needed_below setting sub rank (rank clock) (suc (rank clock)) (one_more u.reached.now clock) (omega arith) needed_all;
          kept = open_all;
          laned = λ i within above. laned i (u.reached.stand.laned i within above);
        };
        once = bumped-same u.reached.now.ran clock ∙ ap suc (u.reached.others clock (omega arith));
        others = λ other apart low. bumped-other u.reached.now.ran clock other apart ∙ u.reached.others other low;
        held = held_other;
        needed = needed_all;
        calls = ap (λ (cs : List Call). cs ++ more) opened ∙ ap (λ (cs : List Call). takes_at setting clock (first_instants setting sub clock (progress.ran clock)) ++ cs) u.calls
            ∙ sym (down.each clock (first_instants setting sub clock (progress.ran clock)));
        parts = parts;
        keeps = keeps;
      }
