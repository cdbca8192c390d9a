-- How far down sub-clocks go, and what they leave as it was.
use Rattle.std.proofs.Common.{◌≡◌, ◌<◌, ◌≤◌, ◌-◌, ◌∙◌, ℕ, false, List, length, slice_get, arith, refl, ap, sym, subst}
use Rattle.std.specs.Prelude.{Vec, ℤ, slice_index_or}
use Rattle.std.specs.declared.alloc.Global.{Global}
use Rattle.clock_infer.specs.declared.clock_map.NodeClock.{NodeClock}
use Rattle.clock_infer.specs.declared.clock_map.NodeClock.TheVariants.{Sub}
use Rattle.stream_meaning.specs.Instants.{part_at, same_clock}
use Rattle.clock_instants.specs.Stretches.{HasLanes}
use Rattle.nested_instants.specs.declared.clock_states.ClockStates.{ClockStates}
use Rattle.nested_instants.specs.Clocks.{AreLeft, HasLevels, HasRanks, clock_at, is_in, is_node, laned_at, rest_at}
use Rattle.nested_instants.proofs.Equal.{they_differ}

pub levels_some : (clocks : List NodeClock) (k levels : ℕ) → k < length clocks → HasLevels clocks (clock_at clocks k) levels → 0 < levels
levels_some clocks k levels within has =
    let up = has.ranks.deeper k within in
    let low = has.enough k within in omega (arith, up, low)

pub levels_under : (clocks : List NodeClock) (k levels : ℕ) → k < length clocks → HasLevels clocks (clock_at clocks k) levels → HasLevels clocks (Sub k) (levels - 1)
levels_under clocks k levels within has = record {
  rank = has.rank;
  ranks = has.ranks;
  enough = λ j inside.
      let up = has.ranks.deeper k within in
      let here = has.enough k within in
      let low = has.enough j inside in omega (arith, up, here, low);
}

pub levels_at : (clocks : List NodeClock) (k levels : ℕ) (clock : NodeClock) → clock_at clocks k ≡ clock → HasLevels clocks clock levels → HasLevels clocks (clock_at clocks k) levels
levels_at clocks k levels clock e has = subst (λ c. HasLevels clocks c levels) (sym e) has

-- a clock of a crossfade's rank or a lower one is not its sub-clock
pub not_under : (clocks : List NodeClock) (rank : NodeClock → ℕ) (k i : ℕ) → HasRanks clocks rank → k < length clocks → rank (clock_at clocks i) ≤ rank (clock_at clocks k)
    → clock_at clocks i ≡ Sub k → ⊥
not_under clocks rank k i ranks within low e =
    let up = ranks.deeper k within in
    let same : rank (clock_at clocks i) ≡ rank (Sub k) = ap rank e in omega (arith, up, same, low)

-- lanes that are the same
pub lanes_same : (a b : ClockStates) → b.room.left ≡ a.room.left → b.room.right ≡ a.room.right → (i : ℕ) → laned_at a i → laned_at b i
lanes_same a b left right i has =
    subst (λ (l : Vec (Vec ℤ Global) Global). HasLanes l.items b.room.right.items i) (sym left)
    (subst (λ (r : Vec (Vec ℤ Global) Global). HasLanes a.room.left.items r.items i) (sym right) has)

pub left_none : (clocks : List NodeClock) (rank : NodeClock → ℕ) (level : ℕ) (touched : ℕ → Type 0) (all : ClockStates) → AreLeft clocks rank level touched all all
left_none clocks rank level touched all = record { states = λ i other low. refl; times = λ i other low. refl; held = λ i other low. refl; rests = λ i other low. refl; laned = λ i has. has }

pub left_then : (clocks : List NodeClock) (rank : NodeClock → ℕ) (level lower : ℕ) (touched more : ℕ → Type 0) (a b c : ClockStates) → level ≤ lower
    → ((i : ℕ) → rank (clock_at clocks i) ≤ level → more i → touched i)
    → AreLeft clocks rank level touched a b → AreLeft clocks rank lower more b c → AreLeft clocks rank level touched a c
left_then clocks rank level lower touched more a b c down inside first next = record {
  states = λ i other low. next.states i (λ m. other (inside i low m)) (omega (arith, low, down)) ∙ first.states i other low;
  times = λ i other low. next.times i (λ m. other (inside i low m)) (omega (arith, low, down)) ∙ first.times i other low;
  held = λ i other low. next.held i (λ m. other (inside i low m)) (omega (arith, low, down)) ∙ first.held i other low;
  rests = λ i other low. next.rests i (λ m. other (inside i low m)) (omega (arith, low, down)) ∙ first.rests i other low;
  laned = λ i has. next.laned i (first.laned i has);
}

-- what an instant of the sub-clock and the slot of it leave
pub left_filled : (clocks : List NodeClock) (rank : NodeClock → ℕ) (k : ℕ) (a b c d : ClockStates) → HasRanks clocks rank → k < length clocks
    → AreLeft clocks rank (rank (clock_at clocks k)) (is_node k) a b → AreLeft clocks rank (rank (Sub k)) (is_in clocks (Sub k)) b c
    → ((i : ℕ) → (i ≡ k → ⊥) → slice_get d.states.items i ≡ slice_get c.states.items i) → ((i : ℕ) → (i ≡ k → ⊥) → slice_get d.times.items i ≡ slice_get c.times.items i)
    → d.room ≡ c.room → AreLeft clocks rank (rank (clock_at clocks k)) (is_node k) a d
left_filled clocks rank k a b c d ranks within first made states times room =
    left_then clocks rank (rank (clock_at clocks k)) (rank (clock_at clocks k)) (is_node k) (is_node k) a c d (omega arith) (λ i low same. same)
    (left_then clocks rank (rank (clock_at clocks k)) (rank (Sub k)) (is_node k) (is_in clocks (Sub k)) a b c (let up = ranks.deeper k within in omega (arith, up))
    (λ i low e. absurd (not_under clocks rank k i ranks within low e)) first made)
    (record {
      states = λ i other low. states i other;
      times = λ i other low. times i other;
      held = λ i other low. ap (λ r. part_at r.held.items i) room;
      rests = λ i other low. ap (λ r. slice_index_or r.rests.items i 0) room;
      laned = λ i has. subst (λ r. HasLanes r.left.items r.right.items i) (sym room) has;
    })

-- what an instant of the sub-clock leaves
pub left_under : (clocks : List NodeClock) (rank : NodeClock → ℕ) (k : ℕ) (a b c : ClockStates) → HasRanks clocks rank → k < length clocks
    → AreLeft clocks rank (rank (clock_at clocks k)) (is_node k) a b → AreLeft clocks rank (rank (Sub k)) (is_in clocks (Sub k)) b c → AreLeft clocks rank (rank (clock_at clocks k)) (is_node k) a c
left_under clocks rank k a b c ranks within first made =
    left_then clocks rank (rank (clock_at clocks k)) (rank (Sub k)) (is_node k) (is_in clocks (Sub k)) a b c (let up = ranks.deeper k within in omega (arith, up))
    (λ i low e. absurd (not_under clocks rank k i ranks within low e)) first made

pub left_settled : (clocks : List NodeClock) (rank : NodeClock → ℕ) (clock : NodeClock) (i : ℕ) (a b c : ClockStates) → clock_at clocks i ≡ clock
    → AreLeft clocks rank (rank clock) (is_in clocks clock) a b → AreLeft clocks rank (rank (clock_at clocks i)) (is_node i) b c
    → AreLeft clocks rank (rank clock) (is_in clocks clock) a c
left_settled clocks rank clock i a b c here first next =
    left_then clocks rank (rank clock) (rank (clock_at clocks i)) (is_in clocks clock) (is_node i) a b c (let same : rank (clock_at clocks i) ≡ rank clock = ap rank here in omega (arith, same))
    (λ j low e. ap (clock_at clocks) e ∙ here) first next

pub left_finished : (clocks : List NodeClock) (rank : NodeClock → ℕ) (clock : NodeClock) (a b c : ClockStates)
    → AreLeft clocks rank (rank clock) (is_in clocks clock) a b
    → ((i : ℕ) → same_clock (clock_at clocks i) clock ≡ false → slice_get c.states.items i ≡ slice_get b.states.items i) → c.times.items ≡ b.times.items
    → ((i : ℕ) → same_clock (clock_at clocks i) clock ≡ false → part_at c.room.held.items i ≡ part_at b.room.held.items i) → ((i : ℕ) → rest_at c i ≡ rest_at b i)
    → ((i : ℕ) → laned_at b i → laned_at c i) → AreLeft clocks rank (rank clock) (is_in clocks clock) a c
left_finished clocks rank clock a b c first states times held rests laned =
    left_then clocks rank (rank clock) (rank clock) (is_in clocks clock) (is_in clocks clock) a b c (omega arith) (λ i low inside. inside) first
    (record {
      states = λ i other low. states i (they_differ (clock_at clocks i) clock other);
      times = λ i other low. ap (λ xs. slice_get xs i) times;
      held = λ i other low. held i (they_differ (clock_at clocks i) clock other);
      rests = λ i other low. rests i;
      laned = laned;
    })

-- an instant of its sub-clock leaves a crossfade's state
pub kept_at : (clocks : List NodeClock) (rank : NodeClock → ℕ) (k : ℕ) (a b : ClockStates) → HasRanks clocks rank → k < length clocks
    → AreLeft clocks rank (rank (Sub k)) (is_in clocks (Sub k)) a b → slice_get b.states.items k ≡ slice_get a.states.items k
kept_at clocks rank k a b ranks within left =
    left.states k (not_under clocks rank k k ranks within (omega arith)) (let up = ranks.deeper k within in omega (arith, up))

-- and what is kept of the sub-clock
pub rest_kept : (clocks : List NodeClock) (rank : NodeClock → ℕ) (k : ℕ) (a b : ClockStates) → HasRanks clocks rank → k < length clocks
    → AreLeft clocks rank (rank (Sub k)) (is_in clocks (Sub k)) a b → rest_at b k ≡ rest_at a k
rest_kept clocks rank k a b ranks within left =
    left.rests k (not_under clocks rank k k ranks within (omega arith)) (let up = ranks.deeper k within in omega (arith, up))

-- other instants are kept of a sub-clock
pub left_kept : (clocks : List NodeClock) (rank : NodeClock → ℕ) (level k : ℕ) (a b : ClockStates) → b.states ≡ a.states → b.times ≡ a.times → b.room.held ≡ a.room.held
    → ((i : ℕ) → (i ≡ k → ⊥) → rest_at b i ≡ rest_at a i) → b.room.left ≡ a.room.left → b.room.right ≡ a.room.right → AreLeft clocks rank level (is_node k) a b
left_kept clocks rank level k a b states times held rests left right = record {
  states = λ i other low. ap (λ xs. slice_get xs.items i) states;
  times = λ i other low. ap (λ xs. slice_get xs.items i) times;
  held = λ i other low. ap (λ ps. part_at ps.items i) held;
  rests = λ i other low. rests i other;
  laned = lanes_same a b left right;
}
