-- The children of a source that is looked up.
use Rattle.std.proofs.Common.{◌≡◌, ℕ, ◌<◌, ◌≤◌, List, [], Option, length, get_or, sym, ap, ◌∙◌}
use Rattle.std.specs.Option.{option_map_or}
use Rattle.std.proofs.lemmas.Option.{slice_get-get_or, slice_get_past}
use Rattle.plan_core.specs.declared.node.Node.{Node}
use Rattle.plan_blames.specs.Faults.{children_at}

abbrev children_of : Option Node → List ℕ
children_of found = option_map_or (λ node. node.children) found []

pub children_there : (nodes : List Node) (k : ℕ) (node : Node) → node ≡ get_or nodes k node → k < length nodes → node.children ≡ children_at nodes k
children_there nodes k node is here = ap (λ (n : Node). n.children) is ∙ sym (ap children_of (slice_get-get_or nodes k node here))

pub no_children : (nodes : List Node) (k : ℕ) → length nodes ≤ k → [] ≡ children_at nodes k
no_children nodes k past = sym (ap children_of (slice_get_past nodes k past))
