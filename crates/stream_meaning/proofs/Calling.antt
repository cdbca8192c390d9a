-- The calls of an instant are the takes of its clock and the calls of the sub-clocks' instants, at each depth.
use Rattle.std.proofs.Common.{◌≡◌, ◌<◌, ◌≤◌, ◌+◌, ◌++◌, ℕ, zero, suc, Some, None, Option, List, length, slice_get, Bool, true, false, arith, refl, ap}
use mathlib.Core.Path.{fun_ext}
use Rattle.std.proofs.lemmas.Option.{slice_get_within}
use Rattle.plan_core.specs.declared.node.Node.{Node}
use Rattle.clock_infer.specs.declared.clock_map.ClockMap.{ClockMap}
use Rattle.clock_infer.specs.declared.clock_map.NodeClock.{NodeClock}
use Rattle.clock_infer.specs.declared.clock_map.NodeClock.TheVariants.{Sub}
use Rattle.clock_infer.proofs.MapLaws.{ranks}
use Rattle.frame_core.specs.Slots.{Slot}
use Rattle.frame_core.specs.Calls.{Call}
use Rattle.op_cross.specs.Runs.{run_of}
use Rattle.stream_meaning.specs.Operators.{Work, Plays, Picks, Mixes, Fades, Reads}
use Rattle.stream_meaning.specs.Instants.{Setting, Moment, clock_of, lies_in, position, work_at, first_instants}
use Rattle.stream_meaning.specs.Calls.{joined_upto, joined_between, takes_at, ran_by, fades_by, fades_in, calls_at, calls_of}
use Rattle.stream_meaning.specs.Settings.{IsSetting}
use Rattle.stream_meaning.proofs.Ranks.{AreNested, deeper, rank_below}
use Rattle.stream_meaning.proofs.Existence.{same_clock-true, are_nested}

fades_by-same : (sub : ℕ → ℕ → List Slot) (below other : ℕ → ℕ → List Call) (past : List Moment) (k : ℕ) (work : Work) → below k ≡ other k
    → fades_by sub below past k work ≡ fades_by sub other past k work
fades_by-same sub below other past k (Plays leaf) same = refl
fades_by-same sub below other past k (Picks choice eligible) same = refl
fades_by-same sub below other past k (Mixes mixing) same = refl
fades_by-same sub below other past k (Fades overlap) same = ap (λ f. joined_between f (ran_by sub k overlap past) (run_of overlap (sub k) (position past k))) same
fades_by-same sub below other past k (Reads buffer) same = refl

fades_in-same : (setting : Setting) (sub : ℕ → ℕ → List Slot) (below other : ℕ → ℕ → List Call) (inside : Bool) (past : List Moment) (k : ℕ) (found : Option Node)
    → (inside ≡ true → (node : Node) → found ≡ Some node → below k ≡ other k) → fades_in setting sub below inside past k found ≡ fades_in setting sub other inside past k found
fades_in-same setting sub below other inside past k None same = refl
fades_in-same setting sub below other false past k (Some node) same = refl
fades_in-same setting sub below other true past k (Some node) same = fades_by-same sub below other past k (work_at setting k node) (same refl node refl)

-- a clock of this rank, and its crossfades too
pub record HasCrossfades (setting : Setting) (rank : ℕ → ℕ) (clock : NodeClock) (s : ℕ) : Type 0 where
  pub low : s ≤ length setting.plan.nodes
  pub each : (i : ℕ) → i < length setting.plan.nodes → clock_of setting i ≡ clock → rank i ≡ s

module _ (setting : Setting) (sub : ℕ → ℕ → List Slot) (clocks : ClockMap) (rank : ℕ → ℕ) (deepest : ℕ)
    (nested : AreNested clocks (clock_of setting) (length setting.plan.nodes) rank deepest) where
  sub_ranked : (k : ℕ) → k < length setting.plan.nodes → HasCrossfades setting rank (Sub k) (suc (rank k))
  sub_ranked k h = record {
    low = (let low = rank_below clocks (clock_of setting) (length setting.plan.nodes) rank deepest nested k h in omega (arith, low));
    each = λ i inside e. deeper clocks (clock_of setting) (length setting.plan.nodes) rank deepest nested i k inside e;
  }

  calls_at-more : (depth : ℕ) (clock : NodeClock) (s : ℕ) (past : List Moment) → HasCrossfades setting rank clock s → length setting.plan.nodes < depth + s
      → calls_at setting sub depth clock past ≡ calls_at setting sub (suc depth) clock past
  calls_at-more zero clock s past has enough = let low = has.low in absurd (omega (arith, low, enough))
  calls_at-more (suc depth) clock s past has enough =
      ap (λ (f : ℕ → List Call). takes_at setting clock past ++ joined_upto f (length setting.plan.nodes)) (fun_ext (λ k.
      fades_in-same setting sub (λ j m. calls_at setting sub depth (Sub j) (first_instants setting sub (Sub j) m))
      (λ j m. calls_at setting sub (suc depth) (Sub j) (first_instants setting sub (Sub j) m))
      (lies_in setting clock k) past k (slice_get setting.plan.nodes k)
      (λ inside node found. fun_ext (λ m.
      let there = slice_get_within setting.plan.nodes k node found in
      let same = has.each k there (same_clock-true (clock_of setting k) clock inside) in
      calls_at-more depth (Sub k) (suc (rank k)) (first_instants setting sub (Sub k) m) (sub_ranked k there) (omega (arith, same, enough))))))

  -- the calls of an instant, with those of the sub-clocks' instants at the same depth
  pub calls_are : (clock : NodeClock) (past : List Moment) → ((k : ℕ) → k < length setting.plan.nodes → clock_of setting k ≡ clock → length setting.plan.nodes < length setting.plan.nodes + suc (rank k))
      → calls_of setting sub clock past ≡ takes_at setting clock past ++ joined_upto (λ k. fades_in setting sub (λ j m. calls_of setting sub (Sub j) (first_instants setting sub (Sub j) m))
      (lies_in setting clock k) past k (slice_get setting.plan.nodes k)) (length setting.plan.nodes)
  calls_are clock past enough =
      ap (λ (f : ℕ → List Call). takes_at setting clock past ++ joined_upto f (length setting.plan.nodes)) (fun_ext (λ k.
      fades_in-same setting sub (λ j m. calls_at setting sub (length setting.plan.nodes) (Sub j) (first_instants setting sub (Sub j) m))
      (λ j m. calls_of setting sub (Sub j) (first_instants setting sub (Sub j) m))
      (lies_in setting clock k) past k (slice_get setting.plan.nodes k)
      (λ inside node found. fun_ext (λ m.
      let there = slice_get_within setting.plan.nodes k node found in
      calls_at-more (length setting.plan.nodes) (Sub k) (suc (rank k)) (first_instants setting sub (Sub k) m) (sub_ranked k there)
      (enough k there (same_clock-true (clock_of setting k) clock inside))))))

-- the calls of an instant of a clock are its readers' takes, and then for each of its crossfades those of the instants of its sub-clock
pub calls_of-is : (setting : Setting) (clocks : ClockMap) → IsSetting setting clocks → (sub : ℕ → ℕ → List Slot) (clock : NodeClock) (past : List Moment)
    → calls_of setting sub clock past ≡ takes_at setting clock past ++ joined_upto (λ k. fades_in setting sub (λ j m. calls_of setting sub (Sub j) (first_instants setting sub (Sub j) m))
    (lies_in setting clock k) past k (slice_get setting.plan.nodes k)) (length setting.plan.nodes)
calls_of-is setting clocks is sub clock past =
    let found = ranks setting.plan clocks is.map in
    calls_are setting sub clocks found.0 found.1 (are_nested setting clocks is found.0 found.1 found.2) clock past (λ k h e. omega arith)
