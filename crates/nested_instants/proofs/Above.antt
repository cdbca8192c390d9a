-- What the stretches of sub-clocks leave as it was.
use Rattle.std.proofs.Common.{◌≡◌, ◌<◌, ◌≤◌, ◌&&◌, ◌∙◌, ℕ, Bool, true, false, Option, List, length, slice_get, arith, refl, ap, sym, inl, inr}
use Rattle.std.specs.Prelude.{is_some, slice_index_or}
use Rattle.std.specs.Option.{option_map_or}
use Rattle.std.proofs.lemmas.Bool.{cases_lt, false≢true}
use Rattle.std.proofs.lemmas.List.{get_or_past}
use Rattle.clock_infer.specs.declared.clock_map.NodeClock.{NodeClock}
use Rattle.clock_infer.specs.declared.clock_map.NodeClock.TheVariants.{Sub}
use Rattle.stream_meaning.specs.Instants.{part_at, same_clock}
use Rattle.stream_meaning.proofs.Existence.{same_clock-true}
use Rattle.node_states.specs.declared.state.NodeState.{NodeState}
use Rattle.node_states.specs.Passing.{passes}
use Rattle.clock_instants.specs.Held.{AllPassOn, gave_at, passes_at}
use Rattle.clock_nodes.specs.Nodes.{lies_at}
use Rattle.clock_instants.specs.Stretches.{AllLieAhead}
use Rattle.clock_instants.proofs.Ahead.{ahead_same}
use Rattle.clock_nodes.specs.declared.scene.Scene.{Scene}
use Rattle.nested_instants.specs.declared.clock_states.ClockStates.{ClockStates}
use Rattle.nested_instants.specs.Clocks.{AreLeft, HasRanks, IsIdle, clock_at, is_in, laned_at, rest_at}
use Rattle.nested_instants.specs.Stretches.{AreAbove, AreSamplesLeft}
use Rattle.nested_instants.proofs.Equal.{item_at, they_differ}

pub above_none : (clocks : List NodeClock) (rank : NodeClock → ℕ) (level : ℕ) (touched : ℕ → Type 0) (all : ClockStates) → AreAbove clocks rank level touched all all
above_none clocks rank level touched all = record { states = λ i low. refl; held = λ i low. refl; times = λ i other low. refl; rests = λ i other low. refl; laned = λ i has. has }

pub above_then : (clocks : List NodeClock) (rank : NodeClock → ℕ) (level lower : ℕ) (touched first next : ℕ → Type 0) (a b c : ClockStates) → level ≤ lower
    → ((i : ℕ) → rank (clock_at clocks i) ≤ level → first i → touched i) → ((i : ℕ) → rank (clock_at clocks i) ≤ level → next i → touched i)
    → AreAbove clocks rank level first a b → AreAbove clocks rank lower next b c → AreAbove clocks rank level touched a c
above_then clocks rank level lower touched first next a b c down from to one two = record {
  states = λ i low. two.states i (omega (arith, low, down)) ∙ one.states i low;
  held = λ i low. two.held i (omega (arith, low, down)) ∙ one.held i low;
  times = λ i other low. two.times i (λ m. other (to i low m)) (omega (arith, low, down)) ∙ one.times i (λ m. other (from i low m)) low;
  rests = λ i other low. two.rests i (λ m. other (to i low m)) (omega (arith, low, down)) ∙ one.rests i (λ m. other (from i low m)) low;
  laned = λ i has. two.laned i (one.laned i has);
}

-- a sub-clock of which no instants are kept
idle_by : (clocks : List NodeClock) (rank : NodeClock → ℕ) (clock : NodeClock) (a b : ClockStates) (nodes : ℕ) → HasRanks clocks rank → nodes ≡ length clocks → length b.room.rests.items ≡ nodes
    → ((k : ℕ) → k < length clocks → rank (clock_at clocks k) < rank clock → rest_at b k ≡ rest_at a k) → IsIdle clock a → IsIdle clock b
idle_by clocks rank clock a b nodes ranks all in_rests same idle = record {
  none = λ k e. elim (cases_lt k (length clocks)) [
    | inl low ↦ (let up = ranks.deeper k low in let is : rank clock ≡ rank (Sub k) = ap rank e in same k low (omega (arith, up, is)) ∙ idle.none k e)
    | inr high ↦ get_or_past b.room.rests.items k 0 (omega (arith, in_rests, all, high))
  ];
}

pub idle_above : (clocks : List NodeClock) (rank : NodeClock → ℕ) (clock : NodeClock) (touched : ℕ → Type 0) (a b : ClockStates) (nodes : ℕ) → HasRanks clocks rank → nodes ≡ length clocks → length b.room.rests.items ≡ nodes
    → ((i : ℕ) → touched i → rank clock ≤ rank (clock_at clocks i)) → AreAbove clocks rank (rank clock) touched a b → IsIdle clock a → IsIdle clock b
idle_above clocks rank clock touched a b nodes ranks all in_rests high above idle =
    idle_by clocks rank clock a b nodes ranks all in_rests
    (λ k low under. above.rests k (λ m. let h = high k m in omega (arith, h, under)) (omega (arith, under))) idle

pub idle_left : (clocks : List NodeClock) (rank : NodeClock → ℕ) (clock : NodeClock) (touched : ℕ → Type 0) (level : ℕ) (a b : ClockStates) (nodes : ℕ) → HasRanks clocks rank → nodes ≡ length clocks → length b.room.rests.items ≡ nodes
    → rank clock ≤ level → ((i : ℕ) → touched i → rank clock ≤ rank (clock_at clocks i)) → AreLeft clocks rank level touched a b → IsIdle clock a → IsIdle clock b
idle_left clocks rank clock touched level a b nodes ranks all in_rests deep high left idle =
    idle_by clocks rank clock a b nodes ranks all in_rests
    (λ k low under. left.rests k (λ m. let h = high k m in omega (arith, h, under)) (omega (arith, under, deep))) idle

pub samples_none : (clocks : List NodeClock) (rank : NodeClock → ℕ) (level : ℕ) (touched : ℕ → Type 0) (many : ℕ) (all : ClockStates) → AreSamplesLeft clocks rank level touched many all all
samples_none clocks rank level touched many all = record { left = λ i other low. refl; right = λ i other low. refl }

pub samples_then : (clocks : List NodeClock) (rank : NodeClock → ℕ) (level lower : ℕ) (touched first next : ℕ → Type 0) (many : ℕ) (a b c : ClockStates) → level ≤ lower
    → ((i : ℕ) → rank (clock_at clocks i) ≤ level → first i → touched i) → ((i : ℕ) → rank (clock_at clocks i) ≤ level → next i → touched i)
    → AreSamplesLeft clocks rank level first many a b → AreSamplesLeft clocks rank lower next many b c → AreSamplesLeft clocks rank level touched many a c
samples_then clocks rank level lower touched first next many a b c down from to one two = record {
  left = λ i other low. two.left i (λ m. other (to i low m)) (omega (arith, low, down)) ∙ one.left i (λ m. other (from i low m)) low;
  right = λ i other low. two.right i (λ m. other (to i low m)) (omega (arith, low, down)) ∙ one.right i (λ m. other (from i low m)) low;
}

-- a clock's own nodes go on behind the sub-clocks
pub left_above : (clocks : List NodeClock) (rank : NodeClock → ℕ) (clock : NodeClock) (a b c : ClockStates) → AreAbove clocks rank (rank clock) (is_in clocks clock) a b
    → ((i : ℕ) → same_clock (clock_at clocks i) clock ≡ false → slice_get c.states.items i ≡ slice_get b.states.items i) → c.times ≡ b.times → c.room.held ≡ b.room.held → c.room.rests ≡ b.room.rests
    → ((i : ℕ) → laned_at b i → laned_at c i) → AreLeft clocks rank (rank clock) (is_in clocks clock) a c
left_above clocks rank clock a b c above states times held rests laned = record {
  states = λ i other low. states i (they_differ (clock_at clocks i) clock other) ∙ above.states i low;
  times = λ i other low. ap (λ xs. slice_get xs.items i) times ∙ above.times i other low;
  held = λ i other low. ap (λ ps. part_at ps.items i) held ∙ above.held i low;
  rests = λ i other low. ap (λ xs. slice_index_or xs.items i 0) rests ∙ above.rests i other low;
  laned = λ i has. laned i (above.laned i has);
}

-- what a clock's nodes have ahead
pub ahead_above : (scene : Scene) (rank : NodeClock → ℕ) (clock : NodeClock) (touched : ℕ → Type 0) (a b : ClockStates) (count : ℕ) → AreAbove scene.clocks.now rank (rank clock) touched a b
    → AllLieAhead scene clock a.room.held.items a.states.items count → AllLieAhead scene clock b.room.held.items b.states.items count
ahead_above scene rank clock touched a b count above ahead =
    ahead_same scene clock a.room.held.items b.room.held.items a.states.items b.states.items count
    (λ i inside. ap (λ p. is_some p.slot) (above.held i (low i inside))) (λ i inside. above.states i (low i inside)) ahead
  where
    low : (i : ℕ) → lies_at scene.clocks.now clock i ≡ true → rank (clock_at scene.clocks.now i) ≤ rank clock
    low i inside = let e : rank (clock_at scene.clocks.now i) ≡ rank clock = ap rank (same_clock-true (clock_at scene.clocks.now i) clock inside) in omega (arith, e)

and_left : (a b : Bool) → (a && b) ≡ true → a ≡ true
and_left true b e = refl
and_left false b e = absurd (false≢true e)

and_right : (a b : Bool) → (a && b) ≡ true → b ≡ true
and_right true b e = e
and_right false b e = absurd (false≢true e)

-- how long a crossfade through which cells pass goes on
pub pass_above : (scene : Scene) (rank : NodeClock → ℕ) (clock : NodeClock) (touched : ℕ → Type 0) (a b : ClockStates) (i count : ℕ) → clock_at scene.clocks.now i ≡ clock → lies_at scene.clocks.now clock i ≡ true → i < length scene.clocks.now
    → i < length b.states.items → (touched i → ⊥) → AreAbove scene.clocks.now rank (rank clock) touched a b
    → AllPassOn scene clock a.room.held.items a.states.items a.room.rests.items count → (gave_at b.room.held.items i && passes_at b.states.items i) ≡ true → count ≤ rest_at b i
pass_above scene rank clock touched a b i count here inside within in_states other above on so =
    let e : rank (clock_at scene.clocks.now i) ≡ rank clock = ap rank here in
    let low : rank (clock_at scene.clocks.now i) ≤ rank clock = omega (arith, e) in
    let state = item_at b.states.items i in_states in
    let gave = and_left (gave_at b.room.held.items i) (passes_at b.states.items i) so in
    let through = and_right (gave_at b.room.held.items i) (passes_at b.states.items i) so in
    let most = on.each i state.0 within inside (sym (above.states i low) ∙ state.1) (sym (ap (λ p. is_some p.slot) (above.held i low)) ∙ gave)
    (sym (ap (λ (found : Option NodeState). option_map_or passes found false) state.1) ∙ through) in
    let same = above.rests i other low in
    omega (arith, most, same)
