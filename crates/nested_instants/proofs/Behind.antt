-- A clock makes many instants at once, which go on as its latest one did.
use Rattle.std.proofs.Common.{◌≡◌, ◌<◌, ◌≤◌, ◌+◌, ◌%◌, ◌∙◌, ◌&&◌, ◌||◌, ℕ, zero, suc, Bool, true, false, cond, Some, None, List, [], ◌∷◌, length, nat_eq, slice_get, arith, refl, ap, sym, subst, inl, inr}
use Rattle.std.specs.Prelude.{is_some, slice_index_or}
use Rattle.std.specs.Option.{option_map_or}
use Rattle.std.proofs.lemmas.Bool.{false≢true, true≢false}
use Rattle.std.proofs.lemmas.Option.{slice_get_within}
use Rattle.plan_core.specs.declared.node.Node.{Node}
use Rattle.plan_core.specs.declared.node.Op.TheVariants.{Crossfade}
use Rattle.plan_core.specs.Plans.{AreNodes}
use Rattle.clock_infer.specs.declared.clock_map.NodeClock.{NodeClock}
use Rattle.clock_infer.specs.declared.clock_map.NodeClock.TheVariants.{Sub}
use Rattle.frame_core.specs.Slots.{Slot, title_of}
use Rattle.op_cross.specs.Runs.{run_of}
use Rattle.frame_core.specs.Calls.{Answer}
use Rattle.op_leaf.proofs.Laid.{lane_of_same}
use Rattle.stream_meaning.specs.Operators.{Work, Plays, Picks, Mixes, Fades, Reads}
use Rattle.stream_meaning.specs.Instants.{Setting, Moment, Reading, IsMeaning, clock_of, crossfaded, gives, first_instants, lies_in, moment_after, offer, part_at, position, reading_after, reading_at, same_clock, work_at}
use Rattle.stream_meaning.specs.Calls.{calls_of, ran_by}
use Rattle.stream_meaning.proofs.Existence.{same_clock-true}
use Rattle.stream_meaning.proofs.Sorted.{op_of_fades}
use Rattle.stretch_laws.specs.Stretches.{AreFilled, AreQuiet, IsNode, IsStretch, going_on, lane}
use Rattle.stretch_laws.proofs.Filling.{are_filled}
use Rattle.stretch_laws.proofs.Quiet.{no_calls}
use Rattle.stretch_laws.proofs.Stretching.{alike_all, on_all}
use Rattle.op_mix.specs.Stretches.{samples_of}
use Rattle.node_states.specs.declared.state.NodeState.{NodeState}
use Rattle.node_states.specs.declared.state.NodeState.TheVariants.{Leaf, Select, Turn, Mix, Cross, Read, Idle}
use Rattle.node_states.specs.declared.time.WeekTime.{WeekTime}
use Rattle.node_states.specs.Passing.{LaneFills, asked, passes}
use Rattle.stretch_laws.proofs.Titling.{keeps_title}
use Rattle.node_states.specs.Stretches.{filled_on}
use Rattle.node_states.specs.States.{StateStands, reading_by, reads_at}
use Rattle.node_states.specs.Ticks.{past_of}
use Rattle.node_states.specs.Times.{TimeStands}
use Rattle.node_states.proofs.Begun.{as_many}
use Rattle.node_states.proofs.Chunks.{reading_closed, reading_open, reading_stays}
use Rattle.node_states.proofs.Running.{filled_none, needed_kept}
use Rattle.clock_instants.specs.Held.{IsHeld, goes_through, passes_at}
use Rattle.clock_instants.specs.Stretches.{HasGoneOn, IsBehind, IsGoing, begun_on}
use Rattle.clock_nodes.specs.States.{ClockStands}
use Rattle.clock_instants.proofs.Samples.{samples_none}
use Rattle.nested_instants.specs.declared.clock_states.ClockStates.{ClockStates}
use Rattle.nested_instants.specs.Clocks.{Progress, laned_at}
use Rattle.nested_instants.specs.Clocks.{HasRanks, IsOpen, RanAsNeeded, Stand, fade_at, is_fade, is_in, rest_at}
use Rattle.nested_instants.proofs.Titled.{held_title}
use Rattle.nested_instants.specs.Stretches.{AreAbove, CanGoOn, HasMadeOn, IsStretchOf, SubsMade}
use Rattle.nested_instants.proofs.Children.{root_gives}
use Rattle.nested_instants.proofs.Equal.{are_same, item_at, same_itself, same_or_above, same_or_other, they_differ}
use Rattle.nested_instants.proofs.Fading.{fade_of, fade_op, fade_reads, fade_within, reads_work, work_of_op}
use Rattle.nested_instants.proofs.Kept.{open_kept}
use Rattle.nested_instants.proofs.Opened.{clock_stands_at, past_long}
use Rattle.nested_instants.proofs.Making.{taken_stays}
use Rattle.nested_instants.proofs.Taking.{needed_below}

-- a clock's count becomes another number
abbrev pub put_at : (NodeClock → ℕ) → NodeClock → ℕ → NodeClock → ℕ
put_at ran clock n other = cond (same_clock other clock) n (ran other)

put-same : (ran : NodeClock → ℕ) (clock : NodeClock) (n : ℕ) → put_at ran clock n clock ≡ n
put-same ran clock n = let same = same_itself clock in rw same refl

put-other : (ran : NodeClock → ℕ) (clock : NodeClock) (n : ℕ) (other : NodeClock) → (other ≡ clock → ⊥) → put_at ran clock n other ≡ ran other
put-other ran clock n other apart = let differ = they_differ other clock apart in rw differ refl

-- instants that come one behind another
first_instants_on : (setting : Setting) (sub : ℕ → ℕ → List Slot) (clock : NodeClock) (n j : ℕ) → first_instants setting sub clock (n + j) ≡ going_on setting sub clock j (first_instants setting sub clock n)
first_instants_on setting sub clock n zero = let e : n + 0 ≡ n = omega arith in ap (first_instants setting sub clock) e
first_instants_on setting sub clock n (suc j) =
    let e : n + suc j ≡ suc (n + j) = omega arith in
    ap (first_instants setting sub clock) e ∙ ap (λ past. moment_after setting sub clock past ∷ past) (first_instants_on setting sub clock n j)

going_long : (setting : Setting) (sub : ℕ → ℕ → List Slot) (clock : NodeClock) (past : List Moment) (j : ℕ) → length (going_on setting sub clock j past) ≡ length past + j
going_long setting sub clock past zero = omega arith
going_long setting sub clock past (suc j) = let e = going_long setting sub clock past j in omega (arith, e)

none_there : (slot : Slot) → is_some slot ≡ false → slot ≡ None
none_there None e = refl
none_there (Some cell) e = absurd (true≢false e)

-- cells pass through crossfades alone
passing : (setting : Setting) (sub : ℕ → ℕ → List Slot) (past : List Moment) (filled i : ℕ) (work : Work) (state : NodeState) → StateStands setting sub past filled i work state
    → passes state ≡ true → is_fade work ≡ true
passing setting sub past filled i work (Leaf state) s e = absurd (false≢true e)
passing setting sub past filled i work (Select state) s e = absurd (false≢true e)
passing setting sub past filled i work (Turn state) s e = absurd (false≢true e)
passing setting sub past filled i work (Mix mixer) s e = absurd (false≢true e)
passing setting sub past filled i (Plays leaf) (Cross state) s e = absurd s
passing setting sub past filled i (Picks choice eligible) (Cross state) s e = absurd s
passing setting sub past filled i (Mixes mixing) (Cross state) s e = absurd s
passing setting sub past filled i (Fades overlap) (Cross state) s e = refl
passing setting sub past filled i (Reads buffer) (Cross state) s e = absurd s
passing setting sub past filled i work (Read reader) s e = absurd (false≢true e)
passing setting sub past filled i work Idle s e = absurd (false≢true e)

-- the states stand behind instant n
pub are_behind : (setting : Setting) (sub : ℕ → ℕ → List Slot) (rank : NodeClock → ℕ) (clock : NodeClock) (n : ℕ) (progress : Progress) (all : ClockStates)
    (time : WeekTime) → HasRanks setting.clocks rank → length setting.clocks ≡ length setting.plan.nodes → AreNodes setting.plan.nodes → IsMeaning setting sub
    → Stand setting sub rank (rank clock) progress all → RanAsNeeded setting sub rank (rank clock) progress → progress.ran clock ≡ suc n
    → all.latest.parts.items ≡ (moment_after setting sub clock (first_instants setting sub clock n)).parts → IsHeld setting sub clock (first_instants setting sub clock n) all.room.held.items
    → TimeStands setting.start n time
    → IsBehind setting sub clock (first_instants setting sub clock n) progress.filled time all.latest.parts.items all.room.held.items all.states.items all.room.rests.items
are_behind setting sub rank clock n progress all time ranks in_clocks nodes meaning stand needed at parts held time_is = record {
  long = as_many setting sub meaning;
  stands = subst (λ past. ClockStands setting sub clock past progress.filled all.states.items) (ap (first_instants setting sub clock) at)
      (clock_stands_at setting sub rank clock progress all stand needed);
  parts_are = parts;
  held_are = held;
  begun = record {
    each = λ i node buffer is work.
        let inside = same_clock-true (clock_of setting i) clock is.inside in
        let level : rank (clock_of setting i) ≡ rank clock = ap rank inside in
        needed.begun i (reads_work setting i buffer node is.there work) (omega (arith, level)) ∙ ap progress.ran inside ∙ at ∙ ap suc (sym (past_long setting sub clock n));
  };
  time_is = subst (λ m. TimeStands setting.start m time) (sym (past_long setting sub clock n)) time_is;
  filled_on = record {
    each = λ k node state is found gave through.
        let inside = same_clock-true (clock_of setting k) clock is.inside in
        let level : rank (clock_of setting k) ≡ rank clock = ap rank inside in
        let stands = stand.stand k node state is.there found (omega (arith, level)) in
        let fades : fade_at setting k ≡ true = fade_of setting k node is.there ∙ passing setting sub (past_of setting sub progress.ran k) (progress.filled k) k (work_at setting k node) state stands through in
        filled_by k (slice_get_within setting.plan.nodes k node is.there) (omega (arith, level)) fades (rest_at all k) refl;
  };
}
  where
    filled_by : (k : ℕ) → k < length setting.plan.nodes → rank clock ≤ rank (clock_of setting k) → fade_at setting k ≡ true → (rest : ℕ) → rest_at all k ≡ rest
        → AreFilled setting sub k (progress.filled k) rest (title_of (part_at all.room.held.items (crossfaded setting.plan.nodes k)).slot)
    filled_by k within above fades zero is = filled_none setting sub k (progress.filled k) (title_of (part_at all.room.held.items (crossfaded setting.plan.nodes k)).slot)
    filled_by k within above fades (suc more) is =
        let o = stand.kept k within above (omega (arith, is)) in
        subst (λ m. AreFilled setting sub k m (suc more) (title_of (part_at all.room.held.items (crossfaded setting.plan.nodes k)).slot)) (sym (stand.even k fades above ∙ o.at))
        (subst (λ t. AreFilled setting sub k (suc o.n) (suc more) t)
        (sym (held_title setting sub (Sub k) (first_instants setting sub (Sub k) o.n) all.room.held.items (crossfaded setting.plan.nodes k) o.goes.held_is o.gave))
        (are_filled setting sub meaning k o.n (suc (suc more)) nodes
        (subst (λ m. IsStretch setting sub (Sub k) (first_instants setting sub (Sub k) o.n) (suc m)) is o.goes.stretch) o.gave (suc o.n) (suc more) (omega arith) (omega arith)))

module _ (setting : Setting) (sub : ℕ → ℕ → List Slot) (rank : NodeClock → ℕ) (own : List Bool) (in_clocks : length setting.clocks ≡ length setting.plan.nodes)
    (nodes : AreNodes setting.plan.nodes) (clock : NodeClock) (n many : ℕ) (some : 0 < many) (progress : Progress) (old mid new : ClockStates)
    (can : CanGoOn setting sub rank own clock n many progress old)
    (s : SubsMade setting sub rank clock many (goes_through (moment_after setting sub clock (first_instants setting sub clock n)) old.states.items) (length setting.plan.nodes) progress mid)
    (above : AreAbove setting.clocks rank (rank clock) (is_in setting.clocks clock) old mid)
    (times : new.times ≡ mid.times) (held : new.room.held ≡ mid.room.held) (rests : new.room.rests ≡ mid.room.rests)
    (others : (i : ℕ) → lies_in setting clock i ≡ false → slice_get new.states.items i ≡ slice_get mid.states.items i)
    (in_times : length mid.times.items ≡ length setting.plan.nodes) (mid_states : length mid.states.items ≡ length setting.plan.nodes)
    (laned : (i : ℕ) → laned_at mid i → laned_at new i)
    (goes_on : (past : List Moment) (filled : ℕ → ℕ) → IsGoing setting sub clock past many filled mid.room.held.items mid.states.items mid.room.left.items mid.room.right.items
    → HasGoneOn setting sub clock past many filled mid.states.items new.room.left.items new.room.right.items new.states.items) where
  abbrev Past : List Moment
  Past = first_instants setting sub clock n

  abbrev First : Moment
  First = moment_after setting sub clock Past

  abbrev Later : List Moment
  Later = going_on setting sub clock (suc many) Past

  abbrev Through : ℕ → Bool
  Through = goes_through First mid.states.items

  abbrev Now : NodeClock → ℕ
  Now = put_at s.now.ran clock (progress.ran clock + many)

  abbrev Filled : ℕ → ℕ
  Filled = begun_on setting clock Through many s.now.filled

  abbrev After : Progress
  After = record { ran = Now; filled = Filled; front = s.now.front }

  level : (i : ℕ) → clock_of setting i ≡ clock → rank (clock_of setting i) ≡ rank clock
  level i inside = ap rank inside

  through_is : (i : ℕ) → clock_of setting i ≡ clock → Through i ≡ goes_through First old.states.items i
  through_is i inside = ap (λ found. gives First i && option_map_or passes found false) (above.states i (let l = level i inside in omega (arith, l)))

  filled_kept : (i : ℕ) → clock_of setting i ≡ clock → s.now.filled i ≡ progress.filled i
  filled_kept i inside = s.held i (let l = level i inside in omega (arith, l))

  past_at : (j : ℕ) → first_instants setting sub clock (progress.ran clock + j) ≡ going_on setting sub clock (suc j) Past
  past_at j =
      let at = can.at in
      let e : progress.ran clock + j ≡ n + suc j = omega (arith, at) in
      ap (first_instants setting sub clock) e ∙ first_instants_on setting sub clock n (suc j)

  past_before : (i : ℕ) → clock_of setting i ≡ clock → past_of setting sub progress.ran i ≡ First ∷ Past
  past_before i inside = ap (λ c. first_instants setting sub c (progress.ran c)) inside ∙ ap (first_instants setting sub clock) can.at

  past_own : (i : ℕ) → clock_of setting i ≡ clock → past_of setting sub Now i ≡ Later
  past_own i inside = ap (λ c. first_instants setting sub c (Now c)) inside ∙ ap (first_instants setting sub clock) (put-same s.now.ran clock (progress.ran clock + many)) ∙ past_at many

  past_other : (i : ℕ) → (clock_of setting i ≡ clock → ⊥) → past_of setting sub Now i ≡ past_of setting sub s.now.ran i
  past_other i apart = ap (first_instants setting sub (clock_of setting i)) (put-other s.now.ran clock (progress.ran clock + many) (clock_of setting i) apart)

  past_level : (i : ℕ) → rank (clock_of setting i) ≤ rank clock → past_of setting sub s.now.ran i ≡ past_of setting sub progress.ran i
  past_level i low = ap (first_instants setting sub (clock_of setting i)) (s.others (clock_of setting i) low)

  filled_other : (i : ℕ) → (clock_of setting i ≡ clock → ⊥) → Filled i ≡ s.now.filled i
  filled_other i apart = ap (λ (b : Bool). filled_on (b && (Through i || reads_at setting i)) many (s.now.filled i)) (they_differ (clock_of setting i) clock apart)

  filled_own : (i : ℕ) → clock_of setting i ≡ clock → Filled i ≡ filled_on (Through i || reads_at setting i) many (progress.filled i)
  filled_own i inside =
      ap (λ (b : Bool). filled_on (b && (Through i || reads_at setting i)) many (s.now.filled i)) (are_same (clock_of setting i) clock inside)
      ∙ ap (filled_on (Through i || reads_at setting i) many) (filled_kept i inside)

  or_true : (b : Bool) → (b || true) ≡ true
  or_true true = refl
  or_true false = refl

  or_false : (b : Bool) → (b || false) ≡ b
  or_false true = refl
  or_false false = refl

  filled_reads : (i : ℕ) → clock_of setting i ≡ clock → reads_at setting i ≡ true → Filled i ≡ progress.filled i + many
  filled_reads i inside reading =
      filled_own i inside ∙ ap (λ (b : Bool). filled_on (Through i || b) many (progress.filled i)) reading ∙ ap (λ (b : Bool). filled_on b many (progress.filled i)) (or_true (Through i))

  filled_fades : (k : ℕ) → clock_of setting k ≡ clock → fade_at setting k ≡ true → Filled k ≡ filled_on (Through k) many (progress.filled k)
  filled_fades k inside fades =
      filled_own k inside ∙ ap (λ (b : Bool). filled_on (Through k || b) many (progress.filled k)) (fade_reads setting k fades) ∙ ap (λ (b : Bool). filled_on b many (progress.filled k)) (or_false (Through k))

  -- ---- the run of the clock's own nodes

  -- no crossfade of the clock's rank or a deeper one has this clock for its sub-clock
  no_sub : (k : ℕ) → k < length setting.plan.nodes → rank clock ≤ rank (clock_of setting k) → Sub k ≡ clock → ⊥
  no_sub k within high e = let up = can.world.ranks.deeper k (omega (arith, within, in_clocks)) in let same : rank (Sub k) ≡ rank clock = ap rank e in omega (arith, up, same, high)

  now_sub : (k : ℕ) → k < length setting.plan.nodes → rank clock ≤ rank (clock_of setting k) → Now (Sub k) ≡ s.now.ran (Sub k)
  now_sub k within high = put-other s.now.ran clock (progress.ran clock + many) (Sub k) (no_sub k within high)

  stands_mid : ClockStands setting sub clock (First ∷ Past) s.now.filled mid.states.items
  stands_mid = record {
    each = λ i node state is found.
        let inside = same_clock-true (clock_of setting i) clock is.inside in
        subst (λ m. StateStands setting sub (First ∷ Past) m i (work_at setting i node) state) (sym (filled_kept i inside))
        (subst (λ past. StateStands setting sub past (progress.filled i) i (work_at setting i node) state) (past_before i inside)
        (can.stand.stand i node state is.there (sym (above.states i (let l = level i inside in omega (arith, l))) ∙ found) (let l = level i inside in omega (arith, l))));
  }

  -- a node of the clock through which cells pass is a crossfade
  passing_fade : (k : ℕ) (node : Node) (state : NodeState) → IsNode setting clock k node → slice_get mid.states.items k ≡ Some state → passes state ≡ true → fade_at setting k ≡ true
  passing_fade k node state is found through =
      fade_of setting k node is.there
      ∙ passing setting sub (First ∷ Past) (s.now.filled k) k (work_at setting k node) state (stands_mid.each k node state (record { there = is.there; inside = is.inside }) found) through

  passes_there : (k : ℕ) (state : NodeState) → clock_of setting k ≡ clock → slice_get mid.states.items k ≡ Some state → gives First k ≡ true → passes state ≡ true
      → goes_through First old.states.items k ≡ true
  passes_there k state inside found gave through =
      sym (through_is k inside) ∙ ap (λ (b : Bool). b && passes_at mid.states.items k) gave ∙ ap (λ it. option_map_or passes it false) found ∙ through

  even_before : (k : ℕ) → clock_of setting k ≡ clock → fade_at setting k ≡ true → progress.filled k ≡ progress.ran (Sub k)
  even_before k inside fades = can.stand.even k fades (let l = level k inside in omega (arith, l))

  going : IsGoing setting sub clock Past many s.now.filled mid.room.held.items mid.states.items mid.room.left.items mid.room.right.items
  going = record {
    long = as_many setting sub can.world.meaning;
    stretch = can.goes.stretch;
    stands = stands_mid;
    held_are = record {
      each = λ i within inside.
          let here = same_clock-true (clock_of setting i) clock inside in
          above.held i (let l = level i here in omega (arith, l)) ∙ can.goes.held_is.each i within inside;
    };
    begun = record {
      each = λ i node buffer is work.
          let inside = same_clock-true (clock_of setting i) clock is.inside in
          filled_kept i inside ∙ can.needed.begun i (reads_work setting i buffer node is.there work) (let l = level i inside in omega (arith, l)) ∙ ap progress.ran inside ∙ can.at
          ∙ ap suc (sym (past_long setting sub clock n));
    };
    laned = λ i node is.
        let inside = same_clock-true (clock_of setting i) clock is.inside in
        above.laned i (can.stand.laned i (slice_get_within setting.plan.nodes i node is.there) (let l = level i inside in omega (arith, l)));
    supplied = record {
      each = λ k node state is found gave through.
          let inside = same_clock-true (clock_of setting k) clock is.inside in
          let fades = passing_fade k node state is found through in
          subst (λ m. LaneFills (sub k) m many (title_of (part_at mid.room.held.items (crossfaded setting.plan.nodes k)).slot) (samples_of mid.room.left.items (crossfaded setting.plan.nodes k) many) (samples_of mid.room.right.items (crossfaded setting.plan.nodes k) many))
          (sym (filled_kept k inside ∙ even_before k inside fades))
          (let within = slice_get_within setting.plan.nodes k node is.there in s.fills k within inside within (passes_there k state inside found gave through));
      apart = λ k node state is found gave through.
          let inside = same_clock-true (clock_of setting k) clock is.inside in
          let within = slice_get_within setting.plan.nodes k node is.there in
          let child = s.inside k within inside within (passes_there k state inside found gave through) in
          they_differ (clock_of setting (crossfaded setting.plan.nodes k)) clock (λ e. no_sub k within (let l = level k inside in omega (arith, l)) (sym child ∙ e));
    };
  }

  went : HasGoneOn setting sub clock Past many s.now.filled mid.states.items new.room.left.items new.room.right.items new.states.items
  went = goes_on Past s.now.filled going

  -- ---- states

  -- a state of another clock of the rank
  stand_level : (i : ℕ) (node : Node) (state : NodeState) → slice_get setting.plan.nodes i ≡ Some node → slice_get new.states.items i ≡ Some state
      → (clock_of setting i ≡ clock → ⊥) → rank clock ≡ rank (clock_of setting i) → StateStands setting sub (past_of setting sub s.now.ran i) (s.now.filled i) i (work_at setting i node) state
  stand_level i node state found stored apart same =
      subst (λ past. StateStands setting sub past (s.now.filled i) i (work_at setting i node) state) (sym (past_level i (omega (arith, same))))
      (subst (λ m. StateStands setting sub (past_of setting sub progress.ran i) m i (work_at setting i node) state) (sym (s.held i (omega (arith, same))))
      (can.stand.stand i node state found (sym (above.states i (omega (arith, same))) ∙ sym (others i (they_differ (clock_of setting i) clock apart)) ∙ stored) (omega (arith, same))))

  stand_other : (i : ℕ) (node : Node) (state : NodeState) → slice_get setting.plan.nodes i ≡ Some node → slice_get new.states.items i ≡ Some state
      → (clock_of setting i ≡ clock → ⊥) → rank clock ≤ rank (clock_of setting i) → StateStands setting sub (past_of setting sub s.now.ran i) (s.now.filled i) i (work_at setting i node) state
  stand_other i node state found stored apart high = elim (same_or_above (rank clock) (rank (clock_of setting i)) high) [
    | inl higher ↦ s.stand.stand i node state found (sym (others i (they_differ (clock_of setting i) clock apart)) ∙ stored) (omega (arith, higher))
    | inr same ↦ stand_level i node state found stored apart same
  ]

  stand_all : (i : ℕ) (node : Node) (state : NodeState) → slice_get setting.plan.nodes i ≡ Some node → slice_get new.states.items i ≡ Some state
      → rank clock ≤ rank (clock_of setting i) → StateStands setting sub (past_of setting sub Now i) (Filled i) i (work_at setting i node) state
  stand_all i node state found stored high = elim (same_or_other (clock_of setting i) clock) [
    | inl inside ↦ subst (λ past. StateStands setting sub past (Filled i) i (work_at setting i node) state) (sym (past_own i inside))
        (went.stands.each i node state (record { there = found; inside = are_same (clock_of setting i) clock inside }) stored)
    | inr apart ↦ subst (λ past. StateStands setting sub past (Filled i) i (work_at setting i node) state) (sym (past_other i apart))
        (subst (λ m. StateStands setting sub (past_of setting sub s.now.ran i) m i (work_at setting i node) state) (sym (filled_other i apart))
        (stand_other i node state found stored apart high))
  ]

  -- no reader takes
  no_tick : (i : ℕ) (node : Node) (buffer j : ℕ) → IsNode setting clock i node → work_at setting i node ≡ Reads buffer → 0 < j → j ≤ many
      → nat_eq (length (going_on setting sub clock j Past) % setting.plan.frame) 0 ≡ false
  no_tick i node buffer j is work more within =
      ap (λ m. nat_eq (m % setting.plan.frame) 0) (going_long setting sub clock Past j) ∙ can.goes.stretch.ticks i node buffer j is work more (omega (arith, within))

  taken_on : (i : ℕ) (node : Node) (buffer j : ℕ) → IsNode setting clock i node → work_at setting i node ≡ Reads buffer → j ≤ many
      → (reading_after setting i buffer (going_on setting sub clock (suc j) Past)).taken ≡ (reading_after setting i buffer (First ∷ Past)).taken
  taken_on i node buffer zero is work within = refl
  taken_on i node buffer (suc j) is work within =
      let L : List Moment = going_on setting sub clock (suc j) Past in
      let same : reading_at setting buffer (length L) (reading_after setting i buffer L) ≡ reading_after setting i buffer L =
      sym (reading_open setting i buffer L) ∙ reading_stays setting i buffer L (no_tick i node buffer (suc j) is work (omega arith) within) ∙ reading_closed setting i buffer L in
      taken_stays (gives (moment_after setting sub clock L) i) (reading_at setting buffer (length L) (reading_after setting i buffer L))
      ∙ ap (λ (r : Reading). r.taken) same ∙ taken_on i node buffer j is work (omega (arith, within))

  begun_before : (i : ℕ) → reads_at setting i ≡ true → clock_of setting i ≡ clock → progress.filled i ≡ suc n
  begun_before i reading inside = can.needed.begun i reading (let l = level i inside in omega (arith, l)) ∙ ap progress.ran inside ∙ can.at

  taken_own : (i buffer : ℕ) (node : Node) → slice_get setting.plan.nodes i ≡ Some node → work_at setting i node ≡ Reads buffer → clock_of setting i ≡ clock
      → (reading_by setting i buffer Later (Filled i)).taken ≡ (reading_by setting i buffer (First ∷ Past) (progress.filled i)).taken
  taken_own i buffer node found work inside =
      let reading = reads_work setting i buffer node found work in
      let is : IsNode setting clock i node = record { there = found; inside = are_same (clock_of setting i) clock inside } in
      let was = begun_before i reading inside in
      let more = filled_reads i inside reading in
      let short : length Past ≡ n = past_long setting sub clock n in
      let reach : length Later ≡ length Past + suc many = going_long setting sub clock Past (suc many) in
      let last : Filled i ≡ length Later = omega (arith, was, more, short, reach) in
      let before : progress.filled i ≡ length (First ∷ Past) = omega (arith, was, short) in
      ap (λ m. (reading_by setting i buffer Later m).taken) last ∙ ap (λ (r : Reading). r.taken) (reading_closed setting i buffer Later)
      ∙ taken_on i node buffer many is work (omega arith)
      ∙ sym (ap (λ m. (reading_by setting i buffer (First ∷ Past) m).taken) before ∙ ap (λ (r : Reading). r.taken) (reading_closed setting i buffer (First ∷ Past)))

  taken_all : (i buffer : ℕ) (node : Node) → slice_get setting.plan.nodes i ≡ Some node → work_at setting i node ≡ Reads buffer
      → (reading_by setting i buffer (past_of setting sub Now i) (Filled i)).taken ≡ length (s.now.front buffer)
  taken_all i buffer node found work = elim (same_or_other (clock_of setting i) clock) [
    | inl inside ↦ ap (λ p. (reading_by setting i buffer p (Filled i)).taken) (past_own i inside) ∙ taken_own i buffer node found work inside
        ∙ ap (λ p. (reading_by setting i buffer p (progress.filled i)).taken) (sym (past_before i inside)) ∙ can.stand.taken i buffer node found work ∙ ap (λ (f : ℕ → List Answer). length (f buffer)) (sym s.took)
    | inr apart ↦ ap (λ p. (reading_by setting i buffer p (Filled i)).taken) (past_other i apart) ∙ ap (λ m. (reading_by setting i buffer (past_of setting sub s.now.ran i) m).taken) (filled_other i apart)
        ∙ s.stand.taken i buffer node found work
  ]

  -- ---- sub-clocks

  -- each crossfade of the clock was filled what its sub-clock made
  even_by : (k : ℕ) → k < length setting.plan.nodes → clock_of setting k ≡ clock → fade_at setting k ≡ true → (b : Bool) → Through k ≡ b → filled_on b many (progress.filled k) ≡ s.now.ran (Sub k)
  even_by k within inside fades true e =
      ap (λ m. m + many) (even_before k inside fades) ∙ sym (s.went k within inside within (sym (through_is k inside) ∙ e))
  even_by k within inside fades false e =
      even_before k inside fades ∙ sym (s.stayed k within (level k inside) (λ here low. sym (through_is k inside) ∙ e))

  even_own : (k : ℕ) → k < length setting.plan.nodes → clock_of setting k ≡ clock → fade_at setting k ≡ true → Filled k ≡ s.now.ran (Sub k)
  even_own k within inside fades = filled_fades k inside fades ∙ even_by k within inside fades (Through k) refl

  even_all : (k : ℕ) → fade_at setting k ≡ true → rank clock ≤ rank (clock_of setting k) → Filled k ≡ Now (Sub k)
  even_all k fades high =
      let within = fade_within setting k fades in
      elim (same_or_other (clock_of setting k) clock) [
        | inl inside ↦ even_own k within inside fades
        | inr apart ↦ filled_other k apart ∙ elim (same_or_above (rank clock) (rank (clock_of setting k)) high) [
          | inl higher ↦ s.stand.even k fades (omega (arith, higher))
          | inr same ↦ s.held k (omega (arith, same)) ∙ can.stand.even k fades high ∙ sym (s.stayed k within (sym same) (λ inside low. absurd (apart inside)))
        ]
      ] ∙ sym (now_sub k within high)

  module _ (k overlap : ℕ) (node : Node) (found : slice_get setting.plan.nodes k ≡ Some node) (op : node.op ≡ Crossfade overlap) (inside : clock_of setting k ≡ clock) where
    is_one : IsNode setting clock k node
    is_one = record { there = found; inside = are_same (clock_of setting k) clock inside }

    work : work_at setting k node ≡ Fades overlap
    work = work_of_op setting k overlap node op

    fades : fade_at setting k ≡ true
    fades = fade_op setting k overlap node found op

    low : k < length setting.plan.nodes
    low = slice_get_within setting.plan.nodes k node found

    -- as many slots as were filled have settled its latest item
    filled_is : ran_by sub k overlap (First ∷ Past) ≡ progress.filled k
    filled_is =
        sym (ap (ran_by sub k overlap) (past_before k inside)) ∙ sym (can.needed.each k overlap node found op (let l = level k inside in omega (arith, l))) ∙ sym (even_before k inside fades)

    -- a slot for each item, where cells pass
    asks_next : gives First k ≡ true → (j : ℕ) → j < many → run_of overlap (sub k) (suc (position Past k) + j) ≡ progress.filled k + asked (Through k) j
    asks_next gave j less =
        let state = item_at mid.states.items k (let l = low in omega (arith, l, mid_states)) in
        can.goes.asks.each k overlap j node state.0 (let l = low in omega (arith, l, in_clocks)) is_one work (sym (above.states k (let l = level k inside in omega (arith, l))) ∙ state.1) gave less
        ∙ ap (λ b. progress.filled k + asked b j) (sym (ap (λ (b : Bool). b && passes_at mid.states.items k) gave ∙ ap (λ it. option_map_or passes it false) state.1))

    asks_by : (m : ℕ) → many ≡ suc m → (gave : Bool) → gives First k ≡ gave → ran_by sub k overlap (going_on setting sub clock (suc (suc m)) Past) ≡ filled_on (Through k) (suc m) (progress.filled k)
    asks_by m same true e =
        let one : position (going_on setting sub clock (suc m) Past) k ≡ position Past k + suc m =
        (on_all setting sub clock Past (suc many) nodes can.goes.stretch (suc m) (omega (arith, same))).passed k e in
        let place : position (going_on setting sub clock (suc m) Past) k ≡ suc (position Past k) + m = omega (arith, one) in
        ap (run_of overlap (sub k)) place ∙ asks_next e m (omega (arith, same)) ∙ asked_all (Through k) m (progress.filled k)
      where
        asked_all : (b : Bool) (m f : ℕ) → f + asked b m ≡ filled_on b (suc m) f
        asked_all true m f = refl
        asked_all false m f = omega arith
    asks_by m same false e =
        let next : 1 + suc m ≡ suc (suc m) = omega arith in
        let all : suc many ≡ suc (suc m) = omega (arith, same) in
        sym (ap (λ j. ran_by sub k overlap (going_on setting sub clock j Past)) next)
        ∙ needed_kept setting sub clock Past (suc (suc m)) 1 (suc m) nodes (subst (IsStretch setting sub clock Past) all can.goes.stretch) (omega arith) (omega arith) (omega arith) k node is_one overlap work e
        ∙ filled_is ∙ ap (λ (b : Bool). filled_on (b && passes_at mid.states.items k) (suc m) (progress.filled k)) (sym e)

    asks_all : (m : ℕ) → many ≡ m → Filled k ≡ ran_by sub k overlap Later
    asks_all zero same = absurd (omega (arith, same, some))
    asks_all (suc m) same =
        filled_fades k inside fades ∙ ap (λ c. filled_on (Through k) c (progress.filled k)) same ∙ sym (asks_by m same (gives First k) refl)
        ∙ ap (λ c. ran_by sub k overlap (going_on setting sub clock (suc c) Past)) (sym same)

    -- the slots for item j of the run, from its latest one on
    asks_at : gives First k ≡ true → (j : ℕ) → j ≤ many → run_of overlap (sub k) (position Past k + j) ≡ filled_on (Through k) j (progress.filled k)
    asks_at gave zero within = let e : position Past k + 0 ≡ position Past k = omega arith in ap (run_of overlap (sub k)) e ∙ filled_is ∙ by (Through k)
      where
        by : (b : Bool) → progress.filled k ≡ filled_on b 0 (progress.filled k)
        by true = omega arith
        by false = refl
    asks_at gave (suc j) within = let e : position Past k + suc j ≡ suc (position Past k) + j = omega arith in ap (run_of overlap (sub k)) e ∙ asks_next gave j (omega (arith, within)) ∙ by (Through k)
      where
        by : (b : Bool) → progress.filled k + asked b j ≡ filled_on b (suc j) (progress.filled k)
        by true = refl
        by false = omega arith

    -- the instants of the sub-clock between two items
    quiet_by : (i m : ℕ) → i < many → (b : Bool) → Through k ≡ b → filled_on b i (progress.filled k) ≤ m → m < filled_on b (suc i) (progress.filled k) → calls_of setting sub (Sub k) (first_instants setting sub (Sub k) m) ≡ []
    quiet_by i m less true e from to =
        let even = even_before k inside fades in
        let here : progress.ran (Sub k) + i ≡ m = omega (arith, from, to, even) in
        subst (λ x. calls_of setting sub (Sub k) (first_instants setting sub (Sub k) x) ≡ []) here (s.quiet k i low inside low (sym (through_is k inside) ∙ e) less)
    quiet_by i m less false e from to = absurd (omega (arith, from, to))

  needed_other : (k overlap : ℕ) (node : Node) → slice_get setting.plan.nodes k ≡ Some node → node.op ≡ Crossfade overlap → (clock_of setting k ≡ clock → ⊥)
      → rank clock ≤ rank (clock_of setting k) → s.now.ran (Sub k) ≡ ran_by sub k overlap (past_of setting sub s.now.ran k)
  needed_other k overlap node found op apart high = elim (same_or_above (rank clock) (rank (clock_of setting k)) high) [
    | inl higher ↦ s.needed.each k overlap node found op (omega (arith, higher))
    | inr same ↦ s.stayed k (slice_get_within setting.plan.nodes k node found) (sym same) (λ inside low. absurd (apart inside)) ∙ can.needed.each k overlap node found op high
        ∙ ap (ran_by sub k overlap) (sym (past_level k (omega (arith, same))))
  ]

  begun_other : (i : ℕ) → reads_at setting i ≡ true → rank clock ≤ rank (clock_of setting i) → s.now.filled i ≡ s.now.ran (clock_of setting i)
  begun_other i reading high = elim (same_or_above (rank clock) (rank (clock_of setting i)) high) [
    | inl higher ↦ s.needed.begun i reading (omega (arith, higher))
    | inr same ↦ s.held i (omega (arith, same)) ∙ can.needed.begun i reading high ∙ sym (s.others (clock_of setting i) (omega (arith, same)))
  ]

  needed_all : RanAsNeeded setting sub rank (rank clock) After
  needed_all = record {
    each = λ k overlap node found op high.
        let within = slice_get_within setting.plan.nodes k node found in
        now_sub k within high ∙ elim (same_or_other (clock_of setting k) clock) [
          | inl inside ↦ sym (even_own k within inside (fade_op setting k overlap node found op)) ∙ asks_all k overlap node found op inside many refl ∙ ap (ran_by sub k overlap) (sym (past_own k inside))
          | inr apart ↦ needed_other k overlap node found op apart high ∙ ap (ran_by sub k overlap) (sym (past_other k apart))
        ];
    begun = λ i reading high. elim (same_or_other (clock_of setting i) clock) [
      | inl inside ↦ filled_reads i inside reading ∙ ap (λ m. m + many) (can.needed.begun i reading high ∙ ap progress.ran inside) ∙ sym (ap Now inside ∙ put-same s.now.ran clock (progress.ran clock + many))
      | inr apart ↦ filled_other i apart ∙ begun_other i reading high ∙ sym (put-other s.now.ran clock (progress.ran clock + many) (clock_of setting i) apart)
    ];
  }

  open_all : (k : ℕ) → k < length setting.plan.nodes → rank clock ≤ rank (clock_of setting k) → 0 < rest_at new k → IsOpen setting sub k (rest_at new k) After new
  open_all k within high more =
      open_kept setting sub k s.now After mid new (now_sub k within high) (ap (λ xs. slice_index_or xs.items k 0) rests)
      (λ j here.
      let apart : clock_of setting j ≡ clock → ⊥ = λ e. no_sub k within high (sym here ∙ e) in
      (filled_other j apart, others j (they_differ (clock_of setting j) clock apart), ap (λ ps. part_at ps.items j) held))
      (λ was. elim (same_or_above (rank clock) (rank (clock_of setting k)) high) [
        | inl higher ↦ s.stand.kept k within (omega (arith, higher)) was
        | inr same ↦ s.kept k within (sym same) was
      ]) more

  -- ---- calls

  are_quiet : AreQuiet setting sub clock Past (suc many)
  are_quiet = record {
    each = λ k node overlap i m is at_work gave within from to.
        let inside = same_clock-true (clock_of setting k) clock is.inside in
        let op = op_of_fades setting k overlap node at_work in
        quiet_by k overlap node is.there op inside i m (omega (arith, within)) (Through k) refl
        (subst (λ x. x ≤ m) (asks_at k overlap node is.there op inside gave i (omega (arith, within))) from)
        (subst (λ x. m < x) (asks_at k overlap node is.there op inside gave (suc i) (omega (arith, within))) to);
  }

  quiet : (j : ℕ) → j < many → calls_of setting sub clock (first_instants setting sub clock (progress.ran clock + j)) ≡ []
  quiet j low =
      ap (calls_of setting sub clock) (past_at j) ∙ no_calls setting sub clock Past (suc many) nodes can.goes.stretch j (omega (arith, low)) can.world.down are_quiet

  -- ---- slots

  slot_same : (i j : ℕ) → offer (moment_after setting sub clock (first_instants setting sub clock (progress.ran clock + j))) i ≡ lane setting sub clock Past (suc j) i
  slot_same i j = ap (λ past. offer (moment_after setting sub clock past) i) (past_at j)

  run_of_root : (i : ℕ) → slice_index_or own i false ≡ true
      → IsStretchOf (λ j. offer (moment_after setting sub clock (first_instants setting sub clock (progress.ran clock + j))) i) many (offer First i)
      (samples_of new.room.left.items i many) (samples_of new.room.right.items i many)
  run_of_root i is = record {
    given = λ there. lane_of_same (λ j. lane setting sub clock Past (suc j) i) (λ j. offer (moment_after setting sub clock (first_instants setting sub clock (progress.ran clock + j))) i) many
        (samples_of new.room.left.items i many) (samples_of new.room.right.items i many) (λ j low. slot_same i j)
        (went.lanes i (root_gives setting sub clock Past own can.world.roots i is there));
    titled = λ there j low. ap title_of (slot_same i j)
        ∙ keeps_title setting sub clock Past (suc many) i (suc j) nodes can.goes.stretch (omega (arith, low)) (root_gives setting sub clock Past own can.world.roots i is there);
    silent = λ none j low.
        let like = alike_all setting sub clock Past (suc many) nodes can.goes.stretch (suc j) (omega arith) (omega (arith, low)) in
        slot_same i j ∙ none_there (lane setting sub clock Past (suc j) i) ((like.slots i).there ∙ none);
  }

  pub has_run_on : HasMadeOn setting sub rank own clock n many progress new
  has_run_on = record {
    now = After;
    took = s.took;
    stand = record {
      stand = stand_all;
      taken = taken_all;
      even = even_all;
      time = λ k time high stored.
          let stored_mid : slice_get mid.times.items k ≡ Some time = sym (ap (λ xs. slice_get xs.items k) times) ∙ stored in
          let low : k < length setting.plan.nodes = (let l = slice_get_within mid.times.items k time stored_mid in omega (arith, l, in_times)) in
          subst (λ m. TimeStands setting.start m time) (sym (now_sub k low high)) (s.time k time low high stored_mid);
      needed = needed_below setting sub rank (rank clock) (suc (rank clock)) After (omega arith) needed_all;
      kept = open_all;
      laned = λ i within high. laned i (above.laned i (can.stand.laned i within high));
    };
    once = put-same s.now.ran clock (progress.ran clock + many);
    others = λ other apart low. put-other s.now.ran clock (progress.ran clock + many) other apart ∙ s.others other low;
    held = λ i apart low. filled_other i apart ∙ s.held i low;
    needed = needed_all;
    quiet = quiet;
    slots = run_of_root;
  }

-- no instant more
pub has_run_none : (setting : Setting) (sub : ℕ → ℕ → List Slot) (rank : NodeClock → ℕ) (own : List Bool) (clock : NodeClock) (n : ℕ) (progress : Progress) (all : ClockStates)
    → Stand setting sub rank (rank clock) progress all → RanAsNeeded setting sub rank (rank clock) progress → HasMadeOn setting sub rank own clock n 0 progress all
has_run_none setting sub rank own clock n progress all stand needed = record {
  now = progress;
  took = refl;
  stand = stand;
  once = omega arith;
  others = λ other apart low. refl;
  held = λ i apart low. refl;
  needed = needed;
  quiet = λ j low. absurd (omega (arith, low));
  slots = λ i is. record {
    given = λ there. record { left_is = samples_none all.room.left.items i; right_is = samples_none all.room.right.items i; inner = λ j low. absurd (omega (arith, low)) };
    titled = λ there j low. absurd (omega (arith, low));
    silent = λ none j low. absurd (omega (arith, low));
  };
}
