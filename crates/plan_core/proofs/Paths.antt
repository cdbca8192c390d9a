-- Paths down through children, and fronts of the nodes.
use Rattle.std.proofs.Common.{◌≡◌, ℕ, zero, suc, ◌<◌, ◌≤◌, inl, inr, List, [], ◌∷◌, ◌++◌, length, take, get_or, Some, refl, sym, ap, ◌∙◌, arith, subst}
use Rattle.std.specs.Prelude.{map, slice_get, Contains}
use Rattle.std.proofs.lemmas.List.{length-take-le, take-take, take-append-le}
use Rattle.std.proofs.Math.Seq.{take-length}
use Rattle.std.proofs.lemmas.Option.{slice_get_within}
use Rattle.plan_core.specs.declared.node.Node.{Node}
use Rattle.plan_core.specs.Plans.{own_crossfades, greatest, crossfade_counts, IsNodeOver, AreNodes, IsPathDown, crossfades_at, crossfades_on}
use Rattle.plan_core.proofs.Lists.{of_each, in_front, one_more, greatest_of, greatest_is, there}
use Rattle.plan_core.proofs.Counts.{count_at, count_front}

-- the children of a node are there and smaller
pub child_below : (nodes : List Node) (i child : ℕ) (node : Node) → AreNodes nodes → slice_get nodes i ≡ Some node → Contains node.children child → child < i
child_below nodes i child node are is among =
    let stands : i < length nodes = slice_get_within nodes i node is in
    let below : child < length (take i nodes) = of_each (λ c. c < length (take i nodes)) node.children child (are i node is).children among in
    let long = length-take-le i nodes (omega arith) in
    omega arith

-- a front of the nodes meets the same
pub front_nodes : (nodes : List Node) (n : ℕ) → AreNodes nodes → AreNodes (take n nodes)
front_nodes nodes n are = λ i node is.
    let p = in_front nodes n i node is in
    subst (λ (below : List Node). IsNodeOver below node) (sym (take-take i n nodes (omega arith))) (are i node p.1)

-- and so do the nodes with one more that stands over them
pub more_nodes : (nodes : List Node) (last : Node) → AreNodes nodes → IsNodeOver nodes last → AreNodes (nodes ++ last ∷ [])
more_nodes nodes last are over = λ i node is.
    elim (one_more nodes last i node is) [
      | inl p ↦ subst (λ (below : List Node). IsNodeOver below node) (sym (take-append-le i nodes (last ∷ []) (omega (arith, p.0)))) (are i node p.1)
      | inr p ↦ subst (λ (below : List Node). IsNodeOver below node) (sym (ap (λ (k : ℕ). take k (nodes ++ last ∷ [])) p.0 ∙ take-append-le (length nodes) nodes (last ∷ []) (omega arith) ∙ take-length nodes)) (subst (λ (m : Node). IsNodeOver nodes m) p.1 over)
    ]

-- what a node has itself
at_node : (nodes : List Node) (i : ℕ) (node : Node) → slice_get nodes i ≡ Some node → crossfades_at nodes i ≡ own_crossfades node.op
at_node nodes i node is = rw is refl

-- a path goes down from a node that is there
stands_there : (nodes : List Node) (i : ℕ) (path : List ℕ) → IsPathDown nodes i path → i < length nodes
stands_there nodes i [] down = down
stands_there nodes i (child ∷ path) ((node, is, among), down) = slice_get_within nodes i node is

-- no path has more crossfades than the count of the node that it goes down from
pub path_bounded : (nodes : List Node) (i : ℕ) (path : List ℕ) → AreNodes nodes → IsPathDown nodes i path → crossfades_on nodes i path ≤ get_or (crossfade_counts nodes) i 0
path_bounded nodes i [] are down =
    let (node, is) = there nodes i down in
    let at = at_node nodes i node is in
    let count = count_at nodes i node is in
    omega arith
path_bounded nodes i (child ∷ path) are ((node, is, among), down) =
    let at = at_node nodes i node is in
    let count = count_at nodes i node is in
    let stands : i < length nodes = slice_get_within nodes i node is in
    let below : child < i = child_below nodes i child node are is among in
    let later = path_bounded nodes child path are down in
    let front = count_front nodes i child (omega arith) below in
    let most = greatest_of (λ c. get_or (crossfade_counts (take i nodes)) c 0) node.children child among in
    omega arith

-- a path down from a node, with its crossfades
abbrev pub Reaches : List Node → ℕ → ℕ → Type 0
Reaches nodes i count = (path : List ℕ) × IsPathDown nodes i path × (crossfades_on nodes i path ≡ count)

-- some path has as many as the count, if the same is so of the nodes below
reached : (nodes : List Node) (i : ℕ) → AreNodes nodes → i < length nodes → (node : Node) → slice_get nodes i ≡ Some node → ((child : ℕ) → child < i → Reaches nodes child (get_or (crossfade_counts nodes) child 0)) → (children : List ℕ) → node.children ≡ children → Reaches nodes i (get_or (crossfade_counts nodes) i 0)
reached nodes i are within node is below [] none =
    let at = at_node nodes i node is in
    let count = count_at nodes i node is in
    let nothing : greatest (map (λ c. get_or (crossfade_counts (take i nodes)) c 0) node.children) ≡ 0 = ap (λ (cs : List ℕ). greatest (map (λ c. get_or (crossfade_counts (take i nodes)) c 0) cs)) none in
    ([], within, omega arith)
reached nodes i are within node is below (c ∷ cs) some =
    let (child, among, most) = greatest_is (λ c. get_or (crossfade_counts (take i nodes)) c 0) c cs in
    let of_node : Contains node.children child = subst (λ (all : List ℕ). Contains all child) (sym some) among in
    let lower : child < i = child_below nodes i child node are is of_node in
    let (path, down, many) = below child lower in
    let at = at_node nodes i node is in
    let count = count_at nodes i node is in
    let front = count_front nodes i child (omega arith) lower in
    let top : greatest (map (λ c. get_or (crossfade_counts (take i nodes)) c 0) node.children) ≡ get_or (crossfade_counts (take i nodes)) child 0 = ap (λ (all : List ℕ). greatest (map (λ c. get_or (crossfade_counts (take i nodes)) c 0) all)) some ∙ most in
    (child ∷ path, ((node, is, of_node), down), omega arith)

path_reached_below : (most : ℕ) (nodes : List Node) (i : ℕ) → AreNodes nodes → i < most → i < length nodes → Reaches nodes i (get_or (crossfade_counts nodes) i 0)
path_reached_below zero nodes i are low within = absurd (omega arith)
path_reached_below (suc most) nodes i are low within =
    let (node, is) = there nodes i within in
    reached nodes i are within node is (λ child below. path_reached_below most nodes child are (omega arith) (omega arith)) node.children refl

-- some path has as many crossfades as the count of the node that it goes down from
pub path_reached : (nodes : List Node) (i : ℕ) → AreNodes nodes → i < length nodes → Reaches nodes i (get_or (crossfade_counts nodes) i 0)
path_reached nodes i are within = path_reached_below (suc i) nodes i are (omega arith) within

-- no path has more than four
pub four_at_most : (nodes : List Node) (i : ℕ) (path : List ℕ) → AreNodes nodes → IsPathDown nodes i path → crossfades_on nodes i path ≤ 4
four_at_most nodes i path are down =
    let bound = path_bounded nodes i path are down in
    let (node, is) = there nodes i (stands_there nodes i path down) in
    let count = count_at nodes i node is in
    let few = (are i node is).crossfades in
    omega arith
