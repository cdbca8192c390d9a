-- What a draft keeps of its nodes, as they change.
use Rattle.std.proofs.Common.{◌≡◌, ℕ, ◌≤◌, List, [], ◌∷◌, ◌++◌, length, take, sym, ap, ◌∙◌, arith}
use Rattle.std.specs.Prelude.{All}
use Rattle.std.proofs.Math.Seq.{take-append_seam}
use Rattle.std.proofs.lemmas.List.Elements.{All-append}
use Rattle.liq_base.specs.declared.limits.TheConstants.{MAX_CROSSFADES}
use Rattle.plan_core.specs.declared.node.Node.{Node}
use Rattle.plan_core.specs.Plans.{crossfade_counts, crossfades_from}
use Rattle.plan_core.proofs.Counts.{count_apart, count_length}
use Rattle.plan_core.proofs.Grown.{each_of_one}

abbrev pub Keeps : List ℕ → List Node → Type 0
Keeps counts nodes = (counts ≡ crossfade_counts nodes) × All (λ count. count ≤ MAX_CROSSFADES) counts

counts_more : (nodes : List Node) (node : Node) → crossfade_counts (nodes ++ node ∷ []) ≡ crossfade_counts nodes ++ crossfades_from nodes node ∷ []
counts_more nodes node = count_apart [] nodes (node ∷ [])

-- one more
pub more_kept : (counts : List ℕ) (nodes : List Node) (count : ℕ) (node : Node) → Keeps counts nodes → count ≡ crossfades_from nodes node → crossfades_from nodes node ≤ MAX_CROSSFADES → Keeps (counts ++ count ∷ []) (nodes ++ node ∷ [])
more_kept counts nodes count node kept is few =
    let P : ℕ → Type 0 = λ c. c ≤ MAX_CROSSFADES in
    let low : count ≤ MAX_CROSSFADES = omega (arith, is) in
    (ap (λ (c : List ℕ). c ++ count ∷ []) kept.0 ∙ ap (λ (x : ℕ). crossfade_counts nodes ++ x ∷ []) is ∙ sym (counts_more nodes node), All-append P counts (count ∷ []) kept.1 (each_of_one P count low))

-- and back again
pub back : (counts : List ℕ) (nodes : List Node) (count n : ℕ) → Keeps counts nodes → n ≡ length nodes → take n (counts ++ count ∷ []) ≡ counts
back counts nodes count n kept is =
    let long : length counts ≡ length nodes = (let counted = count_length [] nodes in let same = ap length kept.0 in omega arith) in
    ap (λ (k : ℕ). take k (counts ++ count ∷ [])) (is ∙ sym long) ∙ take-append_seam counts (count ∷ [])
