use Rattle.std.proofs.Common.{◌≡◌, ◌≤◌, ℕ, drop, max, get_or}
use Rattle.std.specs.Prelude.{map}
use Rattle.liq_base.specs.declared.limits.TheConstants.{MAX_CROSSFADES}
use Rattle.plan_core.specs.Plans.{crossfade_counts, greatest}
use Rattle.plan_core.proofs.draft.Draft.crossfades_from.Given as goal

abbrev pub invariant-children : goal.invariant-children
invariant-children l =
    let f : ℕ → ℕ = λ child. get_or (crossfade_counts l.self.nodes) child 0 in
    (l.most ≤ MAX_CROSSFADES) × (max l.most (greatest (map f (drop l.child-index l.children))) ≡ greatest (map f l.children))
