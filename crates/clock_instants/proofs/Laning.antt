-- The lanes of a plan's nodes, one more each time.
use Rattle.std.proofs.Common.{◌≡◌, ◌<◌, ◌≤◌, ◌+◌, ◌∙◌, ◌++◌, ℕ, ℤ, zero, suc, Some, List, [], ◌∷◌, length, replicate, slice_get, arith, refl, ap, sym, subst, inl, inr}
use Rattle.std.specs.Prelude.{Vec}
use Rattle.std.specs.declared.alloc.Global.{Global}
use Rattle.std.proofs.lemmas.Bool.{cases_lt}
use Rattle.std.proofs.lemmas.List.{get_or-replicate, get_or_past, length-append, length-replicate}
use Rattle.stream_meaning.specs.declared.part.Part.{Part}
use Rattle.stream_meaning.specs.Instants.{part_at, silent}
use Rattle.op_mix.specs.Stretches.{HasLane, Lanes, lane_at}
use Rattle.node_states.specs.declared.state.NodeState.{NodeState}
use Rattle.node_states.specs.declared.state.NodeState.TheVariants.{Idle}
use Rattle.clock_instants.specs.Stretches.{HaveLanes}

front_at : (lanes : Lanes) (lane : Vec ℤ Global) (k : ℕ) → k < length lanes → lane_at (lanes ++ lane ∷ []) k ≡ lane_at lanes k
front_at [] lane k low = absurd (omega (arith, low))
front_at (first ∷ lanes) lane zero low = refl
front_at (first ∷ lanes) lane (suc k) low = front_at lanes lane k (omega (arith, low))

last_at : (lanes : Lanes) (lane : Vec ℤ Global) → lane_at (lanes ++ lane ∷ []) (length lanes) ≡ lane.items
last_at [] lane = refl
last_at (first ∷ lanes) lane = last_at lanes lane

pub lanes_more : (states : List NodeState) (i : ℕ) (lanes : Lanes) (lane : Vec ℤ Global)
    → ((state : NodeState) → slice_get states i ≡ Some state → (state ≡ Idle → ⊥) → length lane.items ≡ 2048)
    → HaveLanes states i lanes → HaveLanes states (i + 1) (lanes ++ lane ∷ [])
lanes_more states i lanes lane own before = record {
  size = length-append lanes (lane ∷ []) ∙ ap (λ n. n + 1) before.size;
  each = λ k state low found busy. elim (cases_lt k i) [
    | inl less ↦ subst (λ l. 2048 ≤ length l) (sym (front_at lanes lane k (let size = before.size in omega (arith, less, size)))) (before.each k state less found busy)
    | inr high ↦ (let last : length lanes ≡ k = (let size = before.size in omega (arith, size, low, high)) in
        let at : k ≡ i = omega (arith, low, high) in
        let long = own state (subst (λ n. slice_get states n ≡ Some state) at found) busy in
        subst (λ n. HasLane (lanes ++ lane ∷ []) n) last (subst (λ l. 2048 ≤ length l) (sym (last_at lanes lane)) (omega (arith, long))))
  ];
}

-- equal parts that are silent
pub none_given : (parts : List Part) (n : ℕ) → parts ≡ replicate n silent → (j : ℕ) → part_at parts j ≡ silent
none_given parts n alike j = ap (λ ps. part_at ps j) alike ∙ elim (cases_lt j n) [
  | inl low ↦ get_or-replicate n j silent silent low
  | inr high ↦ get_or_past (replicate n silent) j silent (let long = length-replicate n silent in omega (arith, high, long))
]
