-- The calls by which crossfades get their items, whatever the states stood for.
use Rattle.std.proofs.Common.{◌≡◌, ◌<◌, ◌∙◌, ◌++◌, ℕ, suc, Bool, true, Some, List, [], length, slice_get, arith, ap, sym, subst}
use Rattle.clock_infer.specs.declared.clock_map.NodeClock.{NodeClock}
use Rattle.clock_infer.specs.declared.clock_map.NodeClock.TheVariants.{Sub}
use Rattle.frame_core.specs.Slots.{Slot}
use Rattle.frame_core.specs.Calls.{Adds, Call, Answer}
use Rattle.op_cross.specs.Runs.{run_of}
use Rattle.stream_meaning.specs.Operators.{Work, Fades, Reads}
use Rattle.stream_meaning.specs.Instants.{Setting, Moment, first_instants, position}
use Rattle.stream_meaning.specs.Calls.{HasAnswers, IsBegin, after_calls, takes_at}
use Rattle.stream_meaning.proofs.Answering.{answers_first, answers_then, begin_behind, begin_more}
use Rattle.stream_meaning.proofs.Existence.{same_clock-true}
use Rattle.node_states.specs.declared.state.NodeState.{NodeState}
use Rattle.node_states.specs.declared.time.WeekTime.{WeekTime}
use Rattle.node_states.specs.States.{AreLong, FadesOn, IsSettled, StateStands}
use Rattle.node_states.proofs.Begun.{as_many}
use Rattle.node_states.proofs.Chunks.{adds_none, adds_then}
use Rattle.clock_nodes.specs.Nodes.{IsFirst, lies_at}
use Rattle.stream_meaning.specs.declared.part.Part.{Part}
use Rattle.clock_instants.specs.Held.{IsHeld}
use Rattle.clock_nodes.specs.Scenes.{setting_over}
use Rattle.clock_nodes.specs.declared.scene.Scene.{Scene}
use Rattle.nested_instants.specs.declared.clock_states.ClockStates.{ClockStates}
use Rattle.nested_instants.specs.Stretches.{FilledOn}
use Rattle.nested_instants.specs.Clocks.{AllSettled, AreLeft, ClockOpened, HasRanks, InstantMade, InstantStopped, IsFilling, IsWorld, NodeSettled, NodeStopped, OpeningStopped, Progress, SettlingStopped, Stand, begun_progress, calls_upto, clock_at, fade_at, is_fade, is_in, is_none, rest_at}
use Rattle.nested_instants.proofs.Fading.{fade_of}
use Rattle.nested_instants.proofs.Joining.{begun_here, filled_none, joined, joined_stopped, passed, stand_here}
use Rattle.nested_instants.proofs.Making.{are_ready}
use Rattle.nested_instants.proofs.FilledOn.{TakesSlot, filled_kept, one_filled}
use Rattle.nested_instants.proofs.Gone.{gone_once}
use Rattle.nested_instants.proofs.Taking.{filled_stopped, filling_none, needed_under, reached_fading, reached_item, stand_under, taken, taken_at, time_under}

-- the answers behind those that were taken
answers_behind : (setting : Setting) (progress now : Progress) (before one : List Call) → now.front ≡ after_calls progress.front before → HasAnswers setting (after_calls progress.front (before ++ one))
    → HasAnswers setting (after_calls now.front one)
answers_behind setting progress now before one took has =
    subst (λ (f : ℕ → List Answer). HasAnswers setting (after_calls f one)) (sym took) (answers_then setting progress.front before one has)

-- node k was filled some slots, by these calls
pub record NodeFilling {T : Type 0} (stands : T → List Call → Type 0) (scene : Scene) (own : List Bool)
    (k : ℕ) (old now : ClockStates) (taps_old taps_now : T) : Type 0 where
  pub more : List Call
  pub taps : Adds stands taps_old taps_now more
  pub filling : (other : Setting) (sub : ℕ → ℕ → List Slot) (rank : NodeClock → ℕ) (progress : Progress) →
      let setting = setting_over scene other in
      IsWorld setting sub rank own → HasAnswers setting (after_calls progress.front more)
      → Stand setting sub rank (rank (clock_at scene.clocks.now k)) progress old
      → IsFilling setting sub rank k is_none progress more now

module _ {T : Type 0} (stands : T → List Call → Type 0) (scene : Scene) (own : List Bool)
    (in_clocks : length scene.clocks.now ≡ length scene.plan.now.nodes) (old : ClockStates) (a : T) where
  module _ (k : ℕ) where
    pub node_none : NodeFilling stands scene own k old old a a
    node_none = record {
      more = [];
      taps = adds_none stands a;
      filling = λ other sub rank progress world has stand. filling_none (setting_over scene other) sub rank k progress old stand;
    }

    -- no instants of the sub-clock are kept any more
    pub node_closed : (within : k < length scene.plan.now.nodes) (all kept : ClockStates) (b : T) → kept.states ≡ all.states → kept.times ≡ all.times → kept.room.held ≡ all.room.held
        → rest_at kept k ≡ 0 → ((i : ℕ) → (i ≡ k → ⊥) → rest_at kept i ≡ rest_at all i) → kept.room.left ≡ all.room.left → kept.room.right ≡ all.room.right
        → NodeFilling stands scene own k old all a b → NodeFilling stands scene own k old kept a b
    node_closed within all kept b states times held none others left right so = record {
      more = so.more;
      taps = so.taps;
      filling = λ other sub rank progress world has stand.
          filled_kept (setting_over scene other) sub rank world.ranks in_clocks k within progress so.more all kept 0 states times held none others left right
          (so.filling other sub rank progress world has stand) (λ some. absurd (omega (arith, some)));
    }

    module _ (within : k < length scene.plan.now.nodes) (all : ClockStates) (b : T) (state : NodeState) (at : slice_get all.states.items k ≡ Some state)
        (so : NodeFilling stands scene own k old all a b) where
      module _ (fades : (setting : Setting) (sub : ℕ → ℕ → List Slot) (past : List Moment) (filled i : ℕ) (work : Work) → AreLong sub → StateStands setting sub past filled i work state → FadesOn sub past filled i work)
          (c : T) (time : WeekTime) (timed : slice_get all.times.items k ≡ Some time) where
        pub node_more : rest_at all k ≡ 0 → (made slotted new : ClockStates) → ((rank : NodeClock → ℕ) → HasRanks scene.clocks.now rank → AreLeft scene.clocks.now rank (rank (Sub k)) (is_in scene.clocks.now (Sub k)) all made)
            → length made.states.items ≡ length scene.plan.now.nodes → length made.times.items ≡ length scene.plan.now.nodes
            → ((other : Setting) (sub : ℕ → ℕ → List Slot) → TakesSlot (setting_over scene other) sub k made slotted) → slotted.latest ≡ made.latest → slotted.room ≡ made.room
            → InstantMade stands scene own (Sub k) time all made b c → FilledOn scene k time slotted new
            → NodeFilling stands scene own k old new a c
        node_more idle made slotted new left in_states in_times takes latest room one on = record {
          more = so.more ++ one.more;
          taps = adds_then stands a b c so.more one.more so.taps one.taps;
          filling = λ other sub rank progress world has stand.
              let S = setting_over scene other in
              let f = so.filling other sub rank progress world (answers_first S progress.front so.more one.more has) stand in
              let n = reached_fading S sub rank k progress so.more all state within at (λ past n work stands. fades S sub past n k work (as_many S sub world.meaning) stands) f in
              let fading : fade_at S k ≡ true = fade_of S k n.0 n.2 ∙ ap is_fade n.3 in
              let now = time_under S sub rank world.ranks in_clocks k within progress so.more all f time timed in
              let m = one.made other sub rank f.reached.now world (answers_behind S progress f.reached.now so.more one.more f.reached.took has)
              (stand_under S sub rank world.ranks in_clocks k within progress so.more all f)
              (needed_under S sub rank world.ranks in_clocks k within progress so.more all f) now in
              let gone = gone_once S sub rank (Sub k) f.reached.now made one.more m in
              let fills = one_filled S sub k (f.reached.now.ran (Sub k)) made slotted world.meaning m.parts (takes other sub) in
              let one_more = taken_at S sub rank world.ranks in_clocks k within progress so.more all f fading 1 made slotted one.more gone (left rank world.ranks) in_states in_times fills idle in
              on.filled other sub rank progress (so.more ++ one.more) own (f.reached.now.ran (Sub k)) world fading
              (taken S sub rank world.ranks in_clocks k within progress so.more all f fading 1 made slotted one.more gone (left rank world.ranks) in_states in_times fills idle)
              (omega (arith, one_more)) (ap (λ it. it.parts.items) latest ∙ m.parts)
              (subst (λ (ps : List Part). IsHeld S sub (Sub k) (first_instants S sub (Sub k) (f.reached.now.ran (Sub k))) ps) (sym (ap (λ it. it.held.items) room)) m.keeps) now;
        }

        pub node_stopped : InstantStopped stands scene own (Sub k) time all b c → NodeStopped stands scene own k old a c
        node_stopped one = record {
          made = so.more ++ one.made;
          taps = adds_then stands a b c so.more one.made so.taps one.taps;
          begins = λ other sub rank progress world has stand.
              let S = setting_over scene other in
              let f = so.filling other sub rank progress world (answers_first S progress.front so.more one.made has) stand in
              let n = reached_fading S sub rank k progress so.more all state within at (λ past n work stands. fades S sub past n k work (as_many S sub world.meaning) stands) f in
              let fading : fade_at S k ≡ true = fade_of S k n.0 n.2 ∙ ap is_fade n.3 in
              filled_stopped S sub rank world.ranks in_clocks k within progress so.more all f fading one.made n.1 n.0 n.2 n.3 n.4
              (one.begins other sub rank f.reached.now world (answers_behind S progress f.reached.now so.more one.made f.reached.took has)
              (stand_under S sub rank world.ranks in_clocks k within progress so.more all f)
              (needed_under S sub rank world.ranks in_clocks k within progress so.more all f)
              (time_under S sub rank world.ranks in_clocks k within progress so.more all f time timed));
        }

      pub node_settled : ((setting : Setting) (sub : ℕ → ℕ → List Slot) (past : List Moment) (filled i : ℕ) (work : Work) → StateStands setting sub past filled i work state
          → ((buffer : ℕ) → work ≡ Reads buffer → filled ≡ suc (length past)) → IsSettled sub past filled i work)
          → ((setting : Setting) (sub : ℕ → ℕ → List Slot) (past : List Moment) (filled i overlap : ℕ) → AreLong sub → StateStands setting sub past filled i (Fades overlap) state → run_of overlap (sub i) (position past i) ≡ filled)
          → NodeSettled stands scene own k old all a b
      node_settled settles runs = record {
        more = so.more;
        taps = so.taps;
        settled = λ other sub rank progress world has stand begun.
            let S = setting_over scene other in
            reached_item S sub rank k progress so.more all state at (λ past n work stands begun. settles S sub past n k work stands begun)
            (λ past n overlap stands. runs S sub past n k overlap (as_many S sub world.meaning) stands) begun (so.filling other sub rank progress world has stand);
      }

  module _ (clock : NodeClock) where
    pub all_none : (n : ℕ) → IsFirst scene.clocks.now clock 0 n → AllSettled stands scene own clock n old old a a
    all_none n first = record {
      more = [];
      taps = adds_none stands a;
      settled = λ other sub rank progress world has stand ready.
          passed (setting_over scene other) sub rank clock 0 n progress [] old first (filled_none (setting_over scene other) sub rank clock progress old stand);
    }

    module _ (i : ℕ) (within : i < length scene.plan.now.nodes) (inside : lies_at scene.clocks.now clock i ≡ true) (all : ClockStates) (b c : T) (so : AllSettled stands scene own clock i old all a b) where
      here : clock_at scene.clocks.now i ≡ clock
      here = same_clock-true (clock_at scene.clocks.now i) clock inside

      pub all_more : (new : ClockStates) (n : ℕ) → IsFirst scene.clocks.now clock (suc i) n → NodeSettled stands scene own i all new b c → AllSettled stands scene own clock n old new a c
      all_more new n first one = record {
        more = so.more ++ one.more;
        taps = adds_then stands a b c so.more one.more so.taps one.taps;
        settled = λ other sub rank progress world has stand ready.
            let S = setting_over scene other in
            let u = so.settled other sub rank progress world (answers_first S progress.front so.more one.more has) stand ready in
            passed S sub rank clock (suc i) n progress (so.more ++ one.more) new first
            (joined S sub rank clock i progress so.more all u ready here one.more new within
            (one.settled other sub rank u.reached.now world (answers_behind S progress u.reached.now so.more one.more u.reached.took has)
            (stand_here S sub rank clock i progress so.more all u ready here) (begun_here S sub rank clock i progress so.more all u ready here)));
      }

      pub all_stopped : NodeStopped stands scene own i all b c → SettlingStopped stands scene own clock old a c
      all_stopped one = record {
        made = so.more ++ one.made;
        taps = adds_then stands a b c so.more one.made so.taps one.taps;
        begins = λ other sub rank progress world has stand ready.
            let S = setting_over scene other in
            let u = so.settled other sub rank progress world (answers_first S progress.front so.more one.made has) stand ready in
            joined_stopped S sub rank clock i progress so.more all u ready here one.made within
            (one.begins other sub rank u.reached.now world (answers_behind S progress u.reached.now so.more one.made u.reached.took has)
            (stand_here S sub rank clock i progress so.more all u ready here));
      }

    -- the first calls of an instant: some takes
    pub opening_stopped : (time : WeekTime) (b : T) → OpeningStopped stands scene clock time old a b → InstantStopped stands scene own clock time old a b
    opening_stopped time b one = record {
      made = one.made;
      taps = one.taps;
      begins = λ other sub rank progress world has stand needed at.
          let S = setting_over scene other in
          let past = first_instants S sub clock (progress.ran clock) in
          subst (λ (cs : List Call). IsBegin one.made cs) (sym (world.down.each clock past))
          (begin_more one.made (takes_at S clock past) (calls_upto S sub clock past (length scene.plan.now.nodes)) (one.begins other sub rank progress world.readers has stand needed at));
    }

    -- the takes, and some calls of sub-clocks
    pub settling_stopped : (time : WeekTime) (all : ClockStates) (b c : T) → ClockOpened stands scene clock time old all a b → SettlingStopped stands scene own clock all b c
        → InstantStopped stands scene own clock time old a c
    settling_stopped time all b c opened one = record {
      made = opened.more ++ one.made;
      taps = adds_then stands a b c opened.more one.made opened.taps one.taps;
      begins = λ other sub rank progress world has stand needed at.
          let S = setting_over scene other in
          let past = first_instants S sub clock (progress.ran clock) in
          let o = opened.opened other sub rank progress world.ranks world.readers (answers_first S progress.front opened.more one.made has) stand needed at in
          subst (λ (cs : List Call). IsBegin (opened.more ++ one.made) cs) (sym (world.down.each clock past))
          (subst (λ (cs : List Call). IsBegin (cs ++ one.made) (takes_at S clock past ++ calls_upto S sub clock past (length scene.plan.now.nodes))) (sym o.calls)
          (begin_behind (takes_at S clock past) one.made (calls_upto S sub clock past (length scene.plan.now.nodes))
          (one.begins other sub rank (begun_progress S clock progress opened.more) world (answers_then S progress.front opened.more one.made has) o.stand
          (are_ready S sub rank clock progress opened.more old stand needed))));
    }
