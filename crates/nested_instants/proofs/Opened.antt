-- The readers of a clock begin its instant.
use Rattle.std.proofs.Common.{◌≡◌, ◌≤◌, ◌<◌, ◌∙◌, ◌&&◌, ◌++◌, ◌%◌, ℕ, zero, suc, Bool, true, false, cond, Some, Option, List, [], length, nat_eq, slice_get, append-nil, arith, refl, ap, sym, subst}
use Rattle.std.specs.Prelude.{slice_index_or, OnErr, OnOk, Result, Ok, Err}
use Rattle.std.proofs.lemmas.Bool.{true≢false}
use Rattle.plan_core.specs.declared.node.Node.{Node}
use Rattle.clock_infer.specs.declared.clock_map.NodeClock.{NodeClock}
use Rattle.clock_infer.specs.declared.clock_map.NodeClock.TheVariants.{Sub}
use Rattle.frame_core.specs.Slots.{Slot}
use Rattle.frame_core.specs.Calls.{Call, Answer}
use Rattle.stream_meaning.specs.Operators.{Work, Plays, Picks, Mixes, Fades, Reads}
use Rattle.stream_meaning.specs.Instants.{Setting, Moment, clock_of, first_instants, lies_in, part_at, work_at}
use Rattle.stream_meaning.specs.Calls.{IsBegin, after_calls, answers_in, takes_at}
use Rattle.stream_meaning.proofs.Existence.{same_clock-true}
use Rattle.node_states.specs.declared.state.NodeState.{NodeState}
use Rattle.node_states.specs.declared.state.NodeState.TheVariants.{Leaf, Select, Turn, Mix, Cross, Read, Idle}
use Rattle.node_states.specs.declared.time.WeekTime.{WeekTime}
use Rattle.node_states.specs.States.{StateStands, reading_by, reads, reads_at, reads_in}
use Rattle.node_states.specs.Ticks.{past_of}
use Rattle.node_states.specs.Times.{TimeStands}
use Rattle.node_states.proofs.Chunks.{reading_closed, reading_stays}
use Rattle.clock_nodes.specs.Nodes.{lies_at}
use Rattle.clock_nodes.specs.States.{ClockStands, IsIn}
use Rattle.clock_instants.specs.Takes.{HasOwnReaders, HaveBegun, HaveTaken, HaveTakenSome, begun_by, begun_in, takes_below}
use Rattle.clock_nodes.specs.Scenes.{setting_over}
use Rattle.clock_nodes.specs.declared.scene.Scene.{Scene}
use Rattle.nested_instants.specs.declared.clock_states.ClockStates.{ClockStates}
use Rattle.clock_instants.specs.Stretches.{HasLanes}
use Rattle.nested_instants.specs.Clocks.{ClockOpened, HasRanks, IsOpen, OpeningStopped, Progress, RanAsNeeded, Stand, begun_progress, rest_at}
use Rattle.nested_instants.proofs.Kept.{open_kept}
use Rattle.nested_instants.proofs.Equal.{they_differ}
use Rattle.nested_instants.proofs.Fading.{fade_reads}

pub past_long : (setting : Setting) (sub : ℕ → ℕ → List Slot) (clock : NodeClock) (n : ℕ) → length (first_instants setting sub clock n) ≡ n
past_long setting sub clock zero = refl
past_long setting sub clock (suc n) = ap suc (past_long setting sub clock n)

none_and : (b : Bool) → (b && false) ≡ false
none_and true = refl
none_and false = refl

-- a state within a tick
stays : (setting : Setting) (sub : ℕ → ℕ → List Slot) (past : List Moment) (filled i : ℕ) (work : Work) (state : NodeState)
    → nat_eq (length past % setting.plan.frame) 0 ≡ false → (reads work ≡ true → filled ≡ length past)
    → StateStands setting sub past filled i work state → StateStands setting sub past (begun_by (reads work) filled) i work state
stays setting sub past filled i (Plays leaf) state within even stands = stands
stays setting sub past filled i (Picks rule eligible) state within even stands = stands
stays setting sub past filled i (Mixes mixing) state within even stands = stands
stays setting sub past filled i (Fades overlap) state within even stands = stands
stays setting sub past filled i (Reads buffer) (Leaf state) within even stands = absurd stands
stays setting sub past filled i (Reads buffer) (Select state) within even stands = absurd stands
stays setting sub past filled i (Reads buffer) (Turn state) within even stands = absurd stands
stays setting sub past filled i (Reads buffer) (Mix mixer) within even stands = absurd stands
stays setting sub past filled i (Reads buffer) (Cross state) within even stands = absurd stands
stays setting sub past filled i (Reads buffer) Idle within even stands = absurd stands
stays setting sub past filled i (Reads buffer) (Read reader) within even stands =
    let same : filled ≡ length past = even refl in
    stands ∙ ap (λ (n : ℕ). (reading_by setting i buffer past n).reader) same
    ∙ ap (λ r. r.reader) (sym (reading_stays setting i buffer past within))
    ∙ ap (λ (n : ℕ). (reading_by setting i buffer past (suc n)).reader) (sym same)

begun-own : (setting : Setting) (clock : NodeClock) (filled : ℕ → ℕ) (i : ℕ) (node : Node) → IsIn setting clock i node
    → begun_in setting clock filled i ≡ begun_by (reads (work_at setting i node)) (filled i)
begun-own setting clock filled i node is =
    ap (λ (b : Bool). begun_by (b && reads_at setting i) (filled i)) is.inside
    ∙ ap (λ (found : Option Node). begun_by (reads_in setting i found) (filled i)) is.there

begun-outside : (setting : Setting) (clock : NodeClock) (filled : ℕ → ℕ) (i : ℕ) → lies_in setting clock i ≡ false → begun_in setting clock filled i ≡ filled i
begun-outside setting clock filled i outside = ap (λ (b : Bool). begun_by (b && reads_at setting i) (filled i)) outside

pub begun-reads : (setting : Setting) (clock : NodeClock) (filled : ℕ → ℕ) (i : ℕ) → lies_in setting clock i ≡ true → reads_at setting i ≡ true → begun_in setting clock filled i ≡ suc (filled i)
begun-reads setting clock filled i inside reading =
    ap (λ (b : Bool). begun_by (b && reads_at setting i) (filled i)) inside ∙ ap (λ (b : Bool). begun_by b (filled i)) reading

pub begun-no_reader : (setting : Setting) (clock : NodeClock) (filled : ℕ → ℕ) (k : ℕ) → reads_at setting k ≡ false → begun_in setting clock filled k ≡ filled k
begun-no_reader setting clock filled k none = ap (λ (b : Bool). begun_by (lies_in setting clock k && b) (filled k)) none ∙ ap (λ (b : Bool). begun_by b (filled k)) (none_and (lies_in setting clock k))

reads_by : (setting : Setting) (i buffer : ℕ) (node : Node) → slice_get setting.plan.nodes i ≡ Some node → work_at setting i node ≡ Reads buffer → reads_at setting i ≡ true
reads_by setting i buffer node found work = ap (reads_in setting i) found ∙ ap reads work

module _ (setting : Setting) (sub : ℕ → ℕ → List Slot) (rank : NodeClock → ℕ) (clock : NodeClock) (progress : Progress)
    (old : ClockStates) (stand : Stand setting sub rank (rank clock) progress old) (needed : RanAsNeeded setting sub rank (rank clock) progress) where
  past_is : (i : ℕ) → lies_in setting clock i ≡ true → past_of setting sub progress.ran i ≡ first_instants setting sub clock (progress.ran clock)
  past_is i inside = ap (λ c. first_instants setting sub c (progress.ran c)) (same_clock-true (clock_of setting i) clock inside)

  even_is : (i : ℕ) → lies_in setting clock i ≡ true → reads_at setting i ≡ true → progress.filled i ≡ length (first_instants setting sub clock (progress.ran clock))
  even_is i inside reading =
      let here = same_clock-true (clock_of setting i) clock inside in
      let level : rank (clock_of setting i) ≡ rank clock = ap rank here in
      needed.begun i reading (omega (arith, level)) ∙ ap progress.ran here ∙ sym (past_long setting sub clock (progress.ran clock))

  pub clock_stands_at : ClockStands setting sub clock (first_instants setting sub clock (progress.ran clock)) progress.filled old.states.items
  clock_stands_at = record {
    each = λ i node state inside found.
        let level : rank (clock_of setting i) ≡ rank clock = ap rank (same_clock-true (clock_of setting i) clock inside.inside) in
        subst (λ past. StateStands setting sub past (progress.filled i) i (work_at setting i node) state) (past_is i inside.inside)
        (stand.stand i node state inside.there found (omega (arith, level)));
  }

  pub have_taken : HaveTaken setting clock (first_instants setting sub clock (progress.ran clock)) progress.filled progress.front
  have_taken = record {
    even = even_is;
    taken = λ i buffer node inside work.
        let past = first_instants setting sub clock (progress.ran clock) in
        let even = even_is i inside.inside (reads_by setting i buffer node inside.there work) in
        ap (λ r. r.taken) (sym (ap (λ p. reading_by setting i buffer p (progress.filled i)) (past_is i inside.inside) ∙ ap (λ n. reading_by setting i buffer past n) even ∙ reading_closed setting i buffer past))
        ∙ stand.taken i buffer node inside.there work;
  }

  -- within a tick nothing is to be done
  pub within_stands : nat_eq (length (first_instants setting sub clock (progress.ran clock)) % setting.plan.frame) 0 ≡ false
      → ClockStands setting sub clock (first_instants setting sub clock (progress.ran clock)) (begun_in setting clock progress.filled) old.states.items
  within_stands within = record {
    each = λ i node state inside found.
        let past = first_instants setting sub clock (progress.ran clock) in
        subst (λ (n : ℕ). StateStands setting sub past n i (work_at setting i node) state) (sym (begun-own setting clock progress.filled i node inside))
        (stays setting sub past (progress.filled i) i (work_at setting i node) state within
        (λ reading. even_is i inside.inside (ap (reads_in setting i) inside.there ∙ reading))
        (clock_stands_at.each i node state inside found));
  }

  pub within_taken : nat_eq (length (first_instants setting sub clock (progress.ran clock)) % setting.plan.frame) 0 ≡ false → (i buffer : ℕ) (node : Node) → IsIn setting clock i node
      → work_at setting i node ≡ Reads buffer
      → (reading_by setting i buffer (first_instants setting sub clock (progress.ran clock)) (suc (length (first_instants setting sub clock (progress.ran clock))))).taken ≡ length (after_calls progress.front [] buffer)
  within_taken within i buffer node inside work =
      let past = first_instants setting sub clock (progress.ran clock) in
      ap (λ r. r.taken) (reading_stays setting i buffer past within ∙ reading_closed setting i buffer past) ∙ have_taken.taken i buffer node inside work
      ∙ ap length (sym (append-nil (progress.front buffer)))

  module _ (ranks : HasRanks setting.clocks rank) (in_clocks : length setting.clocks ≡ length setting.plan.nodes) (own : HasOwnReaders setting) (more : List Call) (new : ClockStates)
      (begun : ClockStands setting sub clock (first_instants setting sub clock (progress.ran clock)) (begun_in setting clock progress.filled) new.states.items)
      (taken : (i buffer : ℕ) (node : Node) → IsIn setting clock i node → work_at setting i node ≡ Reads buffer
      → (reading_by setting i buffer (first_instants setting sub clock (progress.ran clock)) (suc (length (first_instants setting sub clock (progress.ran clock))))).taken ≡ length (after_calls progress.front more buffer))
      (none : (buffer : ℕ) → ((i : ℕ) (node : Node) → IsIn setting clock i node → work_at setting i node ≡ Reads buffer → ⊥) → answers_in buffer more ≡ [])
      (others : (i : ℕ) → lies_in setting clock i ≡ false → slice_get new.states.items i ≡ slice_get old.states.items i)
      (times : new.times.items ≡ old.times.items) (room : new.room ≡ old.room) where
    stand_all : (i : ℕ) (node : Node) (state : NodeState) → slice_get setting.plan.nodes i ≡ Some node → slice_get new.states.items i ≡ Some state
        → rank clock ≤ rank (clock_of setting i)
        → (b : Bool) → lies_in setting clock i ≡ b → StateStands setting sub (past_of setting sub progress.ran i) (begun_in setting clock progress.filled i) i (work_at setting i node) state
    stand_all i node state found stored above true inside =
        subst (λ past. StateStands setting sub past (begun_in setting clock progress.filled i) i (work_at setting i node) state) (sym (past_is i inside))
        (begun.each i node state (record { there = found; inside = inside }) stored)
    stand_all i node state found stored above false outside =
        subst (λ (n : ℕ). StateStands setting sub (past_of setting sub progress.ran i) n i (work_at setting i node) state) (sym (begun-outside setting clock progress.filled i outside))
        (stand.stand i node state found (sym (others i outside) ∙ stored) above)

    taken_all : (i buffer : ℕ) (node : Node) → slice_get setting.plan.nodes i ≡ Some node → work_at setting i node ≡ Reads buffer
        → (b : Bool) → lies_in setting clock i ≡ b → (reading_by setting i buffer (past_of setting sub progress.ran i) (begun_in setting clock progress.filled i)).taken ≡ length (after_calls progress.front more buffer)
    taken_all i buffer node found work true inside =
        let past = first_instants setting sub clock (progress.ran clock) in
        let reading = reads_by setting i buffer node found work in
        ap (λ p. (reading_by setting i buffer p (begun_in setting clock progress.filled i)).taken) (past_is i inside)
        ∙ ap (λ n. (reading_by setting i buffer past n).taken) (begun-reads setting clock progress.filled i inside reading ∙ ap suc (even_is i inside reading))
        ∙ taken i buffer node (record { there = found; inside = inside }) work
    taken_all i buffer node found work false outside =
        ap (λ n. (reading_by setting i buffer (past_of setting sub progress.ran i) n).taken) (begun-outside setting clock progress.filled i outside)
        ∙ stand.taken i buffer node found work
        ∙ ap length (sym (append-nil (progress.front buffer)) ∙ ap (λ (answers : List Answer). progress.front buffer ++ answers)
        (sym (none buffer (λ j other inside same.
        let e = own.each j i buffer other node inside.there found same work in
        true≢false (sym inside.inside ∙ ap (lies_in setting clock) e ∙ outside)))))

    begun_all : (i : ℕ) → reads_at setting i ≡ true → suc (rank clock) ≤ rank (clock_of setting i) → begun_in setting clock progress.filled i ≡ progress.ran (clock_of setting i)
    begun_all i reading above =
        let outside = they_differ (clock_of setting i) clock (λ same. let level : rank (clock_of setting i) ≡ rank clock = ap rank same in omega (arith, level, above)) in
        begun-outside setting clock progress.filled i outside ∙ stand.needed.begun i reading above

    -- the clock is none of the sub-clocks of which instants are kept
    not_kept : (k i : ℕ) → k < length setting.plan.nodes → rank clock ≤ rank (clock_of setting k) → clock_of setting i ≡ Sub k → clock_of setting i ≡ clock → ⊥
    not_kept k i within above here same =
        let up = ranks.deeper k (omega (arith, within, in_clocks)) in
        let one : rank (clock_of setting i) ≡ rank (Sub k) = ap rank here in
        let two : rank (clock_of setting i) ≡ rank clock = ap rank same in
        omega (arith, up, above, one, two)

    open_all : (k : ℕ) → k < length setting.plan.nodes → rank clock ≤ rank (clock_of setting k) → 0 < rest_at new k → IsOpen setting sub k (rest_at new k) (begun_progress setting clock progress more) new
    open_all k within above some =
        open_kept setting sub k progress (begun_progress setting clock progress more) old new refl (ap (λ r. slice_index_or r.rests.items k 0) room)
        (λ i here.
        let outside = they_differ (clock_of setting i) clock (not_kept k i within above here) in
        (begun-outside setting clock progress.filled i outside, others i outside, ap (λ r. part_at r.held.items i) room)) (stand.kept k within above) some

    pub opened_stand : Stand setting sub rank (rank clock) (begun_progress setting clock progress more) new
    opened_stand = record {
      stand = λ i node state found stored above. stand_all i node state found stored above (lies_in setting clock i) refl;
      taken = λ i buffer node found work. taken_all i buffer node found work (lies_in setting clock i) refl;
      even = λ k fades above. begun-no_reader setting clock progress.filled k (fade_reads setting k fades) ∙ stand.even k fades above;
      time = λ k time above at. stand.time k time above (ap (λ ts. slice_get ts k) (sym times) ∙ at);
      needed = record { each = stand.needed.each; begun = begun_all };
      kept = open_all;
      laned = λ i within above. subst (λ r. HasLanes r.left.items r.right.items i) (sym room) (stand.laned i within above);
    }

-- what holds of an answer holds of what follows from it
pub ok_then : {A E P Q : Type 0} (r : Result A E) → (P → Q) → OnOk r P → OnOk r Q
ok_then (Ok x) f p = f p
ok_then (Err e) f p = tt

pub err_then : {A E P Q : Type 0} (r : Result A E) → (P → Q) → OnErr r P → OnErr r Q
err_then (Ok x) f p = tt
err_then (Err e) f p = f p

-- whether an instant begins a tick
pub starts_at : (setting : Setting) (sub : ℕ → ℕ → List Slot) (clock : NodeClock) (n : ℕ) (time : WeekTime) (b : Bool) → time.frame ≡ setting.plan.frame → TimeStands setting.start n time
    → b ≡ nat_eq time.place 0 → nat_eq (length (first_instants setting sub clock n) % setting.plan.frame) 0 ≡ b
starts_at setting sub clock n time b frame at is =
    ap (λ m. nat_eq (m % setting.plan.frame) 0) (past_long setting sub clock n)
    ∙ ap (λ f. nat_eq (n % f) 0) (sym frame) ∙ ap (λ p. nat_eq p 0) (sym at.place) ∙ sym is

pub takes_start : (setting : Setting) (clock : NodeClock) (past : List Moment) → nat_eq (length past % setting.plan.frame) 0 ≡ true
    → takes_below setting clock past (length setting.plan.nodes) ≡ takes_at setting clock past
takes_start setting clock past starts = sym (ap (λ (b : Bool). cond b (takes_below setting clock past (length setting.plan.nodes)) []) starts)

pub takes_within : (setting : Setting) (clock : NodeClock) (past : List Moment) → nat_eq (length past % setting.plan.frame) 0 ≡ false → [] ≡ takes_at setting clock past
takes_within setting clock past starts = sym (ap (λ (b : Bool). cond b (takes_below setting clock past (length setting.plan.nodes)) []) starts)

module _ {T : Type 0} (stands : T → List Call → Type 0) (scene : Scene) (clock : NodeClock) (time : WeekTime) (frame : time.frame ≡ scene.plan.now.frame)
    (tick : true ≡ nat_eq time.place 0) (old : ClockStates) (states : List NodeState) (a b : T) (were : states ≡ old.states.items) where
  -- the readers have begun
  pub opened_by : length scene.clocks.now ≡ length scene.plan.now.nodes → (new : ClockStates) (states_new : List NodeState) → new.states.items ≡ states_new → new.times.items ≡ old.times.items → new.room ≡ old.room
      → ((i : ℕ) → lies_at scene.clocks.now clock i ≡ false → slice_get states_new i ≡ slice_get states i)
      → HaveBegun stands scene clock states states_new a b → ClockOpened stands scene clock time old new a b
  opened_by in_clocks new states_new are times room others has = record {
    more = has.more;
    taps = has.taps;
    opened = λ other sub rank progress ranks own answers stand needed at.
        let S = setting_over scene other in
        let past = first_instants S sub clock (progress.ran clock) in
        let starts = starts_at S sub clock (progress.ran clock) time true frame at tick in
        let begun = has.begun other sub past progress.filled progress.front own starts answers
        (subst (λ xs. ClockStands S sub clock past progress.filled xs) (sym were) (clock_stands_at S sub rank clock progress old stand needed))
        (have_taken S sub rank clock progress old stand needed) in
        record {
          stand = opened_stand S sub rank clock progress old stand needed ranks in_clocks own has.more new
              (subst (λ xs. ClockStands S sub clock past (begun_in S clock progress.filled) xs) (sym are) begun.stand) begun.taken begun.others
              (λ i outside. ap (λ xs. slice_get xs i) are ∙ others i outside ∙ ap (λ xs. slice_get xs i) were) times room;
          calls = begun.calls ∙ takes_start S clock past starts;
        };
  }

  -- some of them have
  pub opening_some : HaveTakenSome stands scene clock states a b → OpeningStopped stands scene clock time old a b
  opening_some has = record {
    made = has.made;
    taps = has.taps;
    begins = λ other sub rank progress own answers stand needed at.
        let S = setting_over scene other in
        let past = first_instants S sub clock (progress.ran clock) in
        let starts = starts_at S sub clock (progress.ran clock) time true frame at tick in
        subst (λ (cs : List Call). IsBegin has.made cs) (takes_start S clock past starts)
        (has.begins other sub past progress.filled progress.front own starts answers
        (subst (λ xs. ClockStands S sub clock past progress.filled xs) (sym were) (clock_stands_at S sub rank clock progress old stand needed))
        (have_taken S sub rank clock progress old stand needed));
  }
