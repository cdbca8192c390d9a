-- The leaves of nodes that play one file.
use Rattle.std.specs.Prelude.{◌≡◌, ℕ, [], Some, List, length, slice_get, slice_index_or}
use Rattle.plan_core.specs.declared.node.Node.{Node}
use Rattle.plan_core.specs.declared.node.Op.{Op}
use Rattle.plan_core.specs.declared.node.Op.TheVariants.{Single}

-- if a node with this operator is a `single`, its leaf (the numbers of the files that it plays) has one file
abbrev pub HasOne : Op → (leaf : List ℕ) → Type 0
HasOne op leaf = (file : List ℕ) → op ≡ Single file → length leaf ≡ 1

-- the leaf of each `single` among these nodes (the numbers of the files that it plays) has one file; `leaves` has the
-- leaf of each node
abbrev pub HaveSingles : List Node → (leaves : List (List ℕ)) → Type 0
HaveSingles nodes leaves = (i : ℕ) (node : Node) (file : List ℕ) → slice_get nodes i ≡ Some node → node.op ≡ Single file
    → length (slice_index_or leaves i []) ≡ 1
