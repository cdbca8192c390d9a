-- The parts of a new engine, one by one.
use Rattle.std.proofs.Common.{◌≡◌, ◌+◌, ◌∙◌, ◌++◌, ◌⊎◌, inl, inr, ℕ, zero, suc, Bool, false, Some, List, [], ◌∷◌, length, get_or, slice_get, arith, refl, ap, sym, subst}
use Rattle.std.proofs.lemmas.List.{length-append}
use Rattle.plan_core.specs.declared.node.Node.{Node}
use Rattle.plan_core.specs.declared.plan.Plan.{Plan}
use Rattle.clock_infer.specs.declared.clock_map.NodeClock.{NodeClock}
use Rattle.node_states.specs.declared.state.NodeState.{NodeState}
use Rattle.clock_ticks.proofs.Numbered.{no_item}
use Rattle.clock_ticks.specs.Beginnings.{AreNewStates, IsNewState}

pub behind : (xs : List Bool) (x : Bool) (k : ℕ) → k ≡ length xs → get_or (xs ++ x ∷ []) k false ≡ x
behind [] x zero e = refl
behind [] x (suc k) e = absurd (omega (arith, e))
behind (y ∷ xs) x zero e = absurd (omega (arith, e))
behind (y ∷ xs) x (suc k) e = behind xs x k (omega (arith, e))

-- an item behind one more
pub pushed : {A : Type 0} (xs : List A) (x y : A) (k : ℕ) → slice_get (xs ++ x ∷ []) k ≡ Some y → (slice_get xs k ≡ Some y) ⊎ ((k ≡ length xs) × (x ≡ y))
pushed [] x y zero e = inr (refl, (let same : x ≡ y = cc in same))
pushed [] x y (suc k) e = absurd (no_item k y e)
pushed (z ∷ xs) x y zero e = inl e
pushed (z ∷ xs) x y (suc k) e = elim (pushed xs x y k e) [ inl old ↦ inl old | inr new ↦ inr (ap suc new.0, new.1) ]

pub states_more : (plan : Plan) (clocks : List NodeClock) (m i : ℕ) (states : List NodeState) (state : NodeState)
    → ((node : Node) → slice_get plan.nodes i ≡ Some node → IsNewState plan clocks m i node state)
    → AreNewStates plan clocks m i states → AreNewStates plan clocks m (i + 1) (states ++ state ∷ [])
states_more plan clocks m i states state new before = record {
  size = length-append states (state ∷ []) ∙ ap (λ n. n + 1) before.size;
  each = λ k node s found stored. elim (pushed states state s k stored) [
    | inl old ↦ before.each k node s found old
    | inr last ↦ (let at : i ≡ k = sym before.size ∙ sym last.0 in
        subst (λ j. slice_get plan.nodes j ≡ Some node → IsNewState plan clocks m j node s) at
        (λ there. subst (λ z. IsNewState plan clocks m i node z) last.1 (new node there)) found)
  ];
}
