-- Demands rest on what is demanded of itself at the nodes that are there.
use Rattle.std.proofs.Common.{◌≡◌, ◌<◌, ◌≤◌, ◌+◌, ◌∙◌, ◌&&◌, ℕ, suc, List, [], ◌∷◌, length, get_or, Bool, true, false, arith, refl, ap, subst, sym}
use Rattle.clock_infer.specs.declared.clock_map.NodeClock.{NodeClock}
use Rattle.frame_core.specs.Slots.{Slot}
use Rattle.plan_core.specs.declared.node.Node.{Node}
use Rattle.stream_meaning.specs.declared.part.Part.{Part}
use Rattle.stream_meaning.specs.Instants.{Setting, Moment, demands_from, is_root, lies_in, moment_after, uses_from}
use Rattle.clock_instants.specs.Demands.{PicksOffer}
use Rattle.clock_nodes.specs.States.{AreRoots}
use Rattle.clock_instants.proofs.Picks.{picks_offer}

-- the demands of nodes, with roots that are the same at those nodes
demands_from-same : (f g : ℕ → Bool) (i : ℕ) (uses : List (List ℕ)) → ((j : ℕ) → i ≤ j → j < i + length uses → f j ≡ g j) → demands_from f i uses ≡ demands_from g i uses
demands_from-same f g i [] same = refl
demands_from-same f g i (used ∷ uses) same =
    let later : demands_from f (suc i) uses ≡ demands_from g (suc i) uses = demands_from-same f g (suc i) uses (λ j low high. same j (omega arith) (omega arith)) in
    let here : f i ≡ g i = same i (omega arith) (omega arith) in
    rw (later, here) refl

length-uses : (setting : Setting) (parts : List Part) (i : ℕ) (nodes : List Node) → length (uses_from setting parts i nodes) ≡ length nodes
length-uses setting parts i [] = refl
length-uses setting parts i (node ∷ nodes) = ap suc (length-uses setting parts (suc i) nodes)

-- a node of a clock is one of its roots where it tells so of itself
own_root : (inside own root : Bool) → (test : Bool) → inside ≡ test → (inside ≡ true → own ≡ root) → (inside && own) ≡ (inside && root)
own_root inside own root true e is = ap (λ b. inside && b) (is e)
own_root inside own root false e is = rw e refl

-- what a walk over an instant's parts marks, from the roots of its clock on, are the demands of the instant
pub demands_are : (setting : Setting) (sub : ℕ → ℕ → List Slot) (clock : NodeClock) (past : List Moment) (own roots marks : List Bool) (parts : List Part)
    → parts ≡ (moment_after setting sub clock past).parts → AreRoots setting clock own
    → ((j : ℕ) → j < length setting.plan.nodes → get_or roots j false ≡ (lies_in setting clock j && get_or own j false))
    → (PicksOffer setting.plan.nodes parts → marks ≡ demands_from (λ j. get_or roots j false) 0 (uses_from setting parts 0 setting.plan.nodes))
    → marks ≡ (moment_after setting sub clock past).demands
demands_are setting sub clock past own roots marks parts are own_are roots_are marked =
    marked (subst (λ ps. PicksOffer setting.plan.nodes ps) (sym are) (picks_offer setting sub clock past))
    ∙ demands_from-same (λ j. get_or roots j false) (λ j. lies_in setting clock j && is_root setting clock j) 0 _
    (λ j low high.
    let many = length-uses setting parts 0 setting.plan.nodes in
    roots_are j (omega (arith, high, many))
    ∙ own_root (lies_in setting clock j) _ _ (lies_in setting clock j) refl (λ inside. own_are.each j (omega (arith, high, many)) inside))
    ∙ ap (λ ps. demands_from (λ j. lies_in setting clock j && is_root setting clock j) 0 (uses_from setting ps 0 setting.plan.nodes)) are
