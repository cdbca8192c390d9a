-- The counts of crossfades.
use Rattle.std.proofs.Common.{◌≡◌, ℕ, suc, ◌+◌, ◌<◌, ◌≤◌, List, [], ◌∷◌, ◌++◌, length, length-append, take, drop, get_or, Some, refl, sym, ap, ◌∙◌, arith}
use Rattle.std.specs.Prelude.{slice_get}
use Rattle.std.proofs.Math.ListN.{get_or-append}
use Rattle.std.proofs.Math.Seq.{get_or-append_seam}
use Rattle.std.proofs.lemmas.List.{length-take-le, take-append-drop}
use Rattle.std.proofs.lemmas.Option.{slice_get_within}
use Rattle.plan_core.specs.declared.node.Node.{Node}
use Rattle.plan_core.specs.Plans.{crossfades_over, counts_after, crossfade_counts, crossfades_from}
use Rattle.plan_core.proofs.Lists.{part_at}

pub count_length : (counts : List ℕ) (nodes : List Node) → length (counts_after counts nodes) ≡ length counts + length nodes
count_length counts [] = omega arith
count_length counts (n ∷ ns) = let later = count_length (counts ++ crossfades_over counts n ∷ []) ns in let more = length-append counts (crossfades_over counts n ∷ []) in omega arith

-- the counts stay as more nodes follow
pub count_stays : (counts : List ℕ) (nodes : List Node) (i : ℕ) → i < length counts → get_or (counts_after counts nodes) i 0 ≡ get_or counts i 0
count_stays counts [] i lt = refl
count_stays counts (n ∷ ns) i lt =
    let more = length-append counts (crossfades_over counts n ∷ []) in
    count_stays (counts ++ crossfades_over counts n ∷ []) ns i (omega arith) ∙ get_or-append counts (crossfades_over counts n ∷ []) 0 i lt

pub count_apart : (counts : List ℕ) (front behind : List Node) → counts_after counts (front ++ behind) ≡ counts_after (counts_after counts front) behind
count_apart counts [] behind = refl
count_apart counts (n ∷ ns) behind = count_apart (counts ++ crossfades_over counts n ∷ []) ns behind

front_length : (nodes : List Node) (n : ℕ) → n ≤ length nodes → length (crossfade_counts (take n nodes)) ≡ n
front_length nodes n le = let counted = count_length [] (take n nodes) in let long = length-take-le n nodes le in omega arith

-- a node's count is that of a node over the ones before it
pub count_at : (nodes : List Node) (i : ℕ) (node : Node) → slice_get nodes i ≡ Some node → get_or (crossfade_counts nodes) i 0 ≡ crossfades_from (take i nodes) node
count_at nodes i node is =
    let there : i < length nodes = slice_get_within nodes i node is in
    let long : length (crossfade_counts (take i nodes)) ≡ i = front_length nodes i (omega arith) in
    let parted : crossfade_counts nodes ≡ counts_after (crossfade_counts (take i nodes) ++ crossfades_over (crossfade_counts (take i nodes)) node ∷ []) (drop (suc i) nodes) = ap crossfade_counts (part_at nodes i node is) ∙ count_apart [] (take i nodes) (node ∷ drop (suc i) nodes) in
    let more = length-append (crossfade_counts (take i nodes)) (crossfades_over (crossfade_counts (take i nodes)) node ∷ []) in
    ap (λ (c : List ℕ). get_or c i 0) parted
    ∙ count_stays (crossfade_counts (take i nodes) ++ crossfades_over (crossfade_counts (take i nodes)) node ∷ []) (drop (suc i) nodes) i (omega arith)
    ∙ ap (λ (k : ℕ). get_or (crossfade_counts (take i nodes) ++ crossfades_over (crossfade_counts (take i nodes)) node ∷ []) k 0) (sym long)
    ∙ get_or-append_seam (crossfade_counts (take i nodes)) (crossfades_over (crossfade_counts (take i nodes)) node) [] 0

-- the counts of a front are those of the whole
pub count_front : (nodes : List Node) (n i : ℕ) → n ≤ length nodes → i < n → get_or (crossfade_counts (take n nodes)) i 0 ≡ get_or (crossfade_counts nodes) i 0
count_front nodes n i le lt =
    let long : length (crossfade_counts (take n nodes)) ≡ n = front_length nodes n le in
    sym (ap (λ (c : List ℕ). get_or c i 0) (ap crossfade_counts (sym (take-append-drop n nodes)) ∙ count_apart [] (take n nodes) (drop n nodes)) ∙ count_stays (crossfade_counts (take n nodes)) (drop n nodes) i (omega arith))
