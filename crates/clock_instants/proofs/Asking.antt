-- What crossfades ask for where a clock goes on.
use Rattle.std.proofs.Common.{◌≡◌, ◌<◌, ◌≤◌, ◌+◌, ◌∙◌, ℕ, suc, true, Some, List, slice_get, arith, sym, subst, inl, inr}
use Rattle.std.proofs.lemmas.Bool.{cases_lt, true≢false}
use Rattle.plan_core.specs.declared.node.Node.{Node}
use Rattle.clock_infer.specs.declared.clock_map.NodeClock.{NodeClock}
use Rattle.frame_core.specs.Slots.{Slot}
use Rattle.op_cross.specs.Runs.{run_of}
use Rattle.stream_meaning.specs.Operators.{Fades}
use Rattle.stream_meaning.specs.Instants.{Setting, Moment, gives, moment_after, position, work_at}
use Rattle.stretch_laws.specs.Stretches.{IsNode}
use Rattle.node_states.specs.declared.state.NodeState.{NodeState}
use Rattle.node_states.specs.Passing.{asked, passes}
use Rattle.clock_instants.specs.Held.{AllAsk}
use Rattle.clock_nodes.specs.Nodes.{IsFirst}
use Rattle.clock_nodes.proofs.Places.{same_or_other}

module _ (setting : Setting) (sub : ℕ → ℕ → List Slot) (clock : NodeClock) (past : List Moment) (filled : ℕ → ℕ) (states : List NodeState) where
  pub asks_none : (count : ℕ) → AllAsk setting sub clock past filled states 0 count
  asks_none count = record { each = λ k overlap j node state low is at found gave less. absurd (omega (arith, low)) }

  pub asks_skip : (i n count : ℕ) → IsFirst setting.clocks clock i n → AllAsk setting sub clock past filled states i count → AllAsk setting sub clock past filled states n count
  asks_skip i n count first all = record {
    each = λ k overlap j node state low is at found gave less. elim (cases_lt k i) [
      | inl under ↦ all.each k overlap j node state under is at found gave less
      | inr high ↦ absurd (true≢false (sym is.inside ∙ first.skips k high low))
    ];
  }

  pub asks_step : (i count few : ℕ) → few ≤ count
      → ((overlap j : ℕ) (node : Node) (state : NodeState) → IsNode setting clock i node → work_at setting i node ≡ Fades overlap → slice_get states i ≡ Some state
      → gives (moment_after setting sub clock past) i ≡ true → j < few → run_of overlap (sub i) (suc (position past i) + j) ≡ filled i + asked (passes state) j)
      → AllAsk setting sub clock past filled states i count → AllAsk setting sub clock past filled states (suc i) few
  asks_step i count few under here all = record {
    each = λ k overlap j node state low is at found gave less. elim (same_or_other i k) [
      | inl same ↦ subst (λ n. IsNode setting clock n node → work_at setting n node ≡ Fades overlap → slice_get states n ≡ Some state
          → gives (moment_after setting sub clock past) n ≡ true → j < few → run_of overlap (sub n) (suc (position past n) + j) ≡ filled n + asked (passes state) j) same
          (here overlap j node state) is at found gave less
      | inr apart ↦ all.each k overlap j node state (omega (arith, low, apart)) is at found gave (omega (arith, less, under))
    ];
  }

  pub asks_all : (n m count : ℕ) → n ≡ m → AllAsk setting sub clock past filled states n count → AllAsk setting sub clock past filled states m count
  asks_all n m count same all = subst (λ k. AllAsk setting sub clock past filled states k count) same all
