-- The steps of the walk, one entry and one node after another.
use Rattle.std.proofs.Common.{◌≡◌, ◌<◌, ℕ, suc, ◌+◌, ◌∷◌, ◌++◌, [], List, length, drop, get_or, map, refl, subst, sym, ap, ◌∙◌, arith, inl, inr}
use Rattle.std.specs.Prelude.{Result, Ok, Err, Vec}
use Rattle.std.specs.declared.alloc.Global.{Global}
use Rattle.std.proofs.Math.Seq.{drop-cons}
use Rattle.liq_base.specs.Files.{Files}
use Rattle.plan_core.specs.declared.node.Node.{Node}
use Rattle.track_library.specs.Walk.{Heard, Walked, use_audio, entries_played, entry_played, nodes_walked, leaf_added, leaf_of}
use Rattle.track_library.specs.Reads.{FirstRead, EntriesRead, LeafReads, NodesRead}
use Rattle.track_library.specs.declared.rules.Rules.{Rules}
use Rattle.track_library.specs.declared.fault.LoadFault.{LoadFault}

pub entries_end : (rules : Rules) (files : Files) (names : List (List ℕ)) (e : LoadFault) → entries_played rules files names (Err e) ≡ Err e
entries_end rules files [] e = refl
entries_end rules files (name ∷ names) e = entries_end rules files names e

pub next_entry : (rules : Rules) (files : Files) (names : List (List ℕ)) (at : ℕ) (heard : Heard) (leaf : List ℕ) (d : List ℕ) → at < length names
    → entries_played rules files (drop at names) (Ok (heard, leaf))
    ≡ entries_played rules files (drop (at + 1) names) (entry_played leaf (use_audio rules files heard (get_or names at d)))
next_entry rules files names at heard leaf d below =
    let next : suc at ≡ at + 1 = omega arith in
    ap (λ l. entries_played rules files l (Ok (heard, leaf))) (drop-cons names at d below)
    ∙ ap (λ n. entries_played rules files (drop n names) (entry_played leaf (use_audio rules files heard (get_or names at d)))) next

pub nodes_end : (rules : Rules) (files : Files) (nodes : List Node) (e : LoadFault) → nodes_walked rules files nodes (Err e) ≡ Err e
nodes_end rules files [] e = refl
nodes_end rules files (node ∷ nodes) e = nodes_end rules files nodes e

pub next_node : (rules : Rules) (files : Files) (nodes : List Node) (at : ℕ) (walked : Walked) (leaves : List (List ℕ)) (d : Node) → at < length nodes
    → nodes_walked rules files (drop at nodes) (Ok (walked, leaves))
    ≡ nodes_walked rules files (drop (at + 1) nodes) (leaf_added leaves (leaf_of rules files (get_or nodes at d).op walked))
next_node rules files nodes at walked leaves d below =
    let next : suc at ≡ at + 1 = omega arith in
    ap (λ l. nodes_walked rules files l (Ok (walked, leaves))) (drop-cons nodes at d below)
    ∙ ap (λ n. nodes_walked rules files (drop n nodes) (leaf_added leaves (leaf_of rules files (get_or nodes at d).op walked))) next

pub next_entry_of : (rules : Rules) (files : Files) (names : List (List ℕ)) (at : ℕ) (heard : Heard) (leaf : List ℕ) (item name : List ℕ) → at < length names
    → item ≡ get_or names at item → name ≡ item
    → entries_played rules files (drop at names) (Ok (heard, leaf)) ≡ entries_played rules files (drop (at + 1) names) (entry_played leaf (use_audio rules files heard name))
next_entry_of rules files names at heard leaf item name below is same =
    next_entry rules files names at heard leaf item below
    ∙ ap (λ (n : List ℕ). entries_played rules files (drop (at + 1) names) (entry_played leaf (use_audio rules files heard n))) (sym is ∙ sym same)

pub next_node_of : (rules : Rules) (files : Files) (slice nodes : List Node) (at : ℕ) (walked : Walked) (leaves : List (List ℕ)) (node : Node)
    → slice ≡ nodes → at < length slice → node ≡ get_or slice at node
    → nodes_walked rules files (drop at nodes) (Ok (walked, leaves))
    ≡ nodes_walked rules files (drop (at + 1) nodes) (leaf_added leaves (leaf_of rules files node.op walked))
next_node_of rules files slice nodes at walked leaves node same below is =
    let b : at < length nodes = subst (λ (s : List Node). at < length s) same below in
    let e : node ≡ get_or nodes at node = is ∙ ap (λ (s : List Node). get_or s at node) same in
    next_node rules files nodes at walked leaves node b
    ∙ ap (λ (n : Node). nodes_walked rules files (drop (at + 1) nodes) (leaf_added leaves (leaf_of rules files n.op walked))) (sym e)

-- what the next entry reads, and what those behind it do
pub next_read : (rules : Rules) (files : Files) (names : List (List ℕ)) (at : ℕ) (heard : Heard) (leaf : List ℕ) (item name read : List ℕ) → at < length names
    → item ≡ get_or names at item → name ≡ item → FirstRead heard.names name read → EntriesRead rules files (drop at names) (Ok (heard, leaf)) read
next_read rules files names at heard leaf item name read below is same h =
    let here : get_or names at item ≡ name = sym is ∙ sym same in
    subst (λ (l : List (List ℕ)). EntriesRead rules files l (Ok (heard, leaf)) read) (sym (drop-cons names at item below))
    (inl (subst (λ (n : List ℕ). FirstRead heard.names n read) (sym here) h))

pub later_read : (rules : Rules) (files : Files) (names : List (List ℕ)) (at : ℕ) (heard : Heard) (leaf : List ℕ) (item name read : List ℕ) (next : Result (Heard × List ℕ) LoadFault)
    → at < length names → item ≡ get_or names at item → name ≡ item → entry_played leaf (use_audio rules files heard name) ≡ next
    → EntriesRead rules files (drop (at + 1) names) next read → EntriesRead rules files (drop at names) (Ok (heard, leaf)) read
later_read rules files names at heard leaf item name read next below is same e h =
    let here : get_or names at item ≡ name = sym is ∙ sym same in
    let more : suc at ≡ at + 1 = omega arith in
    let was : entry_played leaf (use_audio rules files heard (get_or names at item)) ≡ next = ap (λ (n : List ℕ). entry_played leaf (use_audio rules files heard n)) here ∙ e in
    let rest : EntriesRead rules files (drop (at + 1) names) (entry_played leaf (use_audio rules files heard (get_or names at item))) read =
    subst (λ (p : Result (Heard × List ℕ) LoadFault). EntriesRead rules files (drop (at + 1) names) p read) (sym was) h in
    subst (λ (l : List (List ℕ)). EntriesRead rules files l (Ok (heard, leaf)) read) (sym (drop-cons names at item below))
    (inr (subst (λ (n : ℕ). EntriesRead rules files (drop n names) (entry_played leaf (use_audio rules files heard (get_or names at item))) read) (sym more) rest))

-- what the next node reads, and what those behind it do
pub next_node_reads : (rules : Rules) (files : Files) (slice nodes : List Node) (at : ℕ) (walked : Walked) (leaves : List (List ℕ)) (node : Node) (read : List ℕ)
    → slice ≡ nodes → at < length slice → node ≡ get_or slice at node → LeafReads rules files node.op walked read → NodesRead rules files (drop at nodes) (Ok (walked, leaves)) read
next_node_reads rules files slice nodes at walked leaves node read same below is h =
    let b : at < length nodes = subst (λ (s : List Node). at < length s) same below in
    let e : node ≡ get_or nodes at node = is ∙ ap (λ (s : List Node). get_or s at node) same in
    subst (λ (l : List Node). NodesRead rules files l (Ok (walked, leaves)) read) (sym (drop-cons nodes at node b))
    (inl (subst (λ (n : Node). LeafReads rules files n.op walked read) e h))

pub later_node_reads : (rules : Rules) (files : Files) (slice nodes : List Node) (at : ℕ) (walked : Walked) (leaves : List (List ℕ)) (node : Node) (read : List ℕ)
    (next : Result (Walked × List (List ℕ)) LoadFault)
    → slice ≡ nodes → at < length slice → node ≡ get_or slice at node → leaf_added leaves (leaf_of rules files node.op walked) ≡ next
    → NodesRead rules files (drop (at + 1) nodes) next read → NodesRead rules files (drop at nodes) (Ok (walked, leaves)) read
later_node_reads rules files slice nodes at walked leaves node read next same below is e h =
    let b : at < length nodes = subst (λ (s : List Node). at < length s) same below in
    let here : node ≡ get_or nodes at node = is ∙ ap (λ (s : List Node). get_or s at node) same in
    let more : suc at ≡ at + 1 = omega arith in
    let was : leaf_added leaves (leaf_of rules files (get_or nodes at node).op walked) ≡ next = ap (λ (n : Node). leaf_added leaves (leaf_of rules files n.op walked)) (sym here) ∙ e in
    let rest : NodesRead rules files (drop (at + 1) nodes) (leaf_added leaves (leaf_of rules files (get_or nodes at node).op walked)) read =
    subst (λ (p : Result (Walked × List (List ℕ)) LoadFault). NodesRead rules files (drop (at + 1) nodes) p read) (sym was) h in
    subst (λ (l : List Node). NodesRead rules files l (Ok (walked, leaves)) read) (sym (drop-cons nodes at node b))
    (inr (subst (λ (n : ℕ). NodesRead rules files (drop n nodes) (leaf_added leaves (leaf_of rules files (get_or nodes at node).op walked)) read) (sym more) rest))

pub items_pushed : (old new : List (Vec ℕ Global)) (leaf : Vec ℕ Global) → new ≡ old ++ leaf ∷ []
    → map (λ (v : Vec ℕ Global). v.items) new ≡ map (λ (v : Vec ℕ Global). v.items) old ++ leaf.items ∷ []
items_pushed old new leaf e = ap (map (λ (v : Vec ℕ Global). v.items)) e ∙ pushed old where
  pushed : (l : List (Vec ℕ Global)) → map (λ (v : Vec ℕ Global). v.items) (l ++ leaf ∷ []) ≡ map (λ (v : Vec ℕ Global). v.items) l ++ leaf.items ∷ []
  pushed [] = refl
  pushed (v ∷ vs) = ap (λ ls. v.items ∷ ls) (pushed vs)
