-- What the walk over the nodes of a plan gives each of them.
use Rattle.std.proofs.Common.{◌≡◌, ℕ, zero, suc, List, [], ◌∷◌, ◌++◌, length, refl, sym, ap, ◌∙◌, append_assoc, append-nil, subst}
use Rattle.std.specs.Prelude.{⊤, Some, Result, Ok, Err, slice_get, slice_index_or}
use Rattle.liq_base.specs.Files.{Files}
use Rattle.frame_core.specs.Library.{Sounds, tracks_of}
use Rattle.plan_core.specs.declared.node.Node.{Node}
use Rattle.plan_core.specs.declared.node.Op.{Op}
use Rattle.plan_core.specs.declared.node.Op.TheVariants.{Single}
use Rattle.track_library.specs.declared.fault.LoadFault.{LoadFault}
use Rattle.track_library.specs.declared.fault.Unusable.{Unusable}
use Rattle.track_library.specs.declared.rules.Rules.{Rules}
use Rattle.track_library.specs.Walk.{Heard, Walked, load_of, leaf_of, leaf_added, nodes_walked, single_leaf, sounds_or_fault, with_lists, use_audio, nothing_met}

-- the leaf of a `single` has one file
abbrev pub HasOne : Op → List ℕ → Type 0
HasOne op leaf = (file : List ℕ) → op ≡ Single file → length leaf ≡ 1

-- each node has its leaf
abbrev pub AreLeaves : List Node → List (List ℕ) → Type 0
AreLeaves [] [] = ⊤
AreLeaves [] (leaf ∷ leaves) = ⊥
AreLeaves (node ∷ nodes) [] = ⊥
AreLeaves (node ∷ nodes) (leaf ∷ leaves) = HasOne node.op leaf × AreLeaves nodes leaves

-- the leaf of a step, and the leaves of a walk and of a library
abbrev leaf_in : {X : Type 0} → Result (X × List ℕ) LoadFault → List ℕ
leaf_in (Ok found) = found.1
leaf_in (Err fault) = []

abbrev leaves_in : {X : Type 0} → Result (X × List (List ℕ)) LoadFault → List (List ℕ)
leaves_in (Ok found) = found.1
leaves_in (Err fault) = []

abbrev leaves_of : Result Sounds LoadFault → List (List ℕ)
leaves_of (Ok library) = library.leaves
leaves_of (Err fault) = []

one_file : (name : List ℕ) (used : Result (Heard × Result ℕ Unusable) LoadFault) (heard : Heard) (leaf : List ℕ)
    → single_leaf name used ≡ Ok (heard, leaf) → length leaf ≡ 1
one_file name (Err fault) heard leaf is = absurd (cc)
one_file name (Ok (met, Err fault)) heard leaf is = absurd (cc)
one_file name (Ok (met, Ok number)) heard leaf is = let e : number ∷ [] ≡ leaf = ap leaf_in is in ap length (sym e)

one_with : (lists : List (List ℕ × List (List ℕ))) (name : List ℕ) (single : Result (Heard × List ℕ) LoadFault) (walked : Walked) (leaf : List ℕ)
    → ((heard : Heard) (leaf : List ℕ) → single ≡ Ok (heard, leaf) → length leaf ≡ 1)
    → with_lists lists single ≡ Ok (walked, leaf) → length leaf ≡ 1
one_with lists name (Err fault) walked leaf f is = absurd (cc)
one_with lists name (Ok (heard, found)) walked leaf f is = let e : found ≡ leaf = ap leaf_in is in ap length (sym e) ∙ f heard found refl

leaf_has_one : (rules : Rules) (files : Files) (op : Op) (walked after : Walked) (leaf : List ℕ) → leaf_of rules files op walked ≡ Ok (after, leaf) → HasOne op leaf
leaf_has_one rules files op walked after leaf is name single =
    let used = use_audio rules files walked.heard name in
    let at : with_lists walked.lists (single_leaf name used) ≡ Ok (after, leaf) = ap (λ o. leaf_of rules files o walked) (sym single) ∙ is in
    one_with walked.lists name (single_leaf name used) after leaf (λ heard found. one_file name used heard found) at

-- a walk that ended stays so
ended : (rules : Rules) (files : Files) (nodes : List Node) (fault : LoadFault) → nodes_walked rules files nodes (Err fault) ≡ Err fault
ended rules files [] fault = refl
ended rules files (node ∷ nodes) fault = ended rules files nodes fault

-- a walk that goes on adds a leaf for each node
pub record Goes (nodes : List Node) (before after : List (List ℕ)) : Type 0 where
  pub more : List (List ℕ)
  pub added : after ≡ before ++ more
  pub are : AreLeaves nodes more

steps : (rules : Rules) (files : Files) (node : Node) (nodes : List Node) (walked after : Walked) (before leaves : List (List ℕ))
    → ((on : Walked) (leaf : List ℕ) → nodes_walked rules files nodes (Ok (on, before ++ leaf ∷ [])) ≡ Ok (after, leaves) → Goes nodes (before ++ leaf ∷ []) leaves)
    → (found : Result (Walked × List ℕ) LoadFault) → leaf_of rules files node.op walked ≡ found
    → nodes_walked rules files nodes (leaf_added before found) ≡ Ok (after, leaves) → Goes (node ∷ nodes) before leaves
steps rules files node nodes walked after before leaves goes (Err fault) at is =
    absurd (let e = sym (ended rules files nodes fault) ∙ is in cc)
steps rules files node nodes walked after before leaves goes (Ok (on, leaf)) at is =
    let rest = goes on leaf is in
    record {
      more = leaf ∷ rest.more;
      added = rest.added ∙ append_assoc before (leaf ∷ []) rest.more;
      are = (leaf_has_one rules files node.op walked on leaf at, rest.are);
    }

walks : (rules : Rules) (files : Files) (nodes : List Node) (walked after : Walked) (before leaves : List (List ℕ))
    → nodes_walked rules files nodes (Ok (walked, before)) ≡ Ok (after, leaves) → Goes nodes before leaves
walks rules files [] walked after before leaves is =
    let e : before ≡ leaves = ap leaves_in is in record { more = []; added = sym e ∙ sym (append-nil before); are = tt }
walks rules files (node ∷ nodes) walked after before leaves is =
    steps rules files node nodes walked after before leaves (λ on leaf. walks rules files nodes on after (before ++ leaf ∷ []) leaves)
    (leaf_of rules files node.op walked) refl is

as_many : (nodes : List Node) (leaves : List (List ℕ)) → AreLeaves nodes leaves → length leaves ≡ length nodes
as_many [] [] are = refl
as_many [] (leaf ∷ leaves) are = absurd are
as_many (node ∷ nodes) [] are = absurd are
as_many (node ∷ nodes) (leaf ∷ leaves) are = ap suc (as_many nodes leaves are.1)

one_at : (nodes : List Node) (leaves : List (List ℕ)) → AreLeaves nodes leaves → (i : ℕ) (node : Node) (file : List ℕ)
    → slice_get nodes i ≡ Some node → node.op ≡ Single file → length (slice_index_or leaves i []) ≡ 1
one_at [] leaves are i node file at single = absurd (cc)
one_at (first ∷ nodes) [] are i node file at single = absurd are
one_at (first ∷ nodes) (leaf ∷ leaves) are zero node file at single =
    let e : first ≡ node = (cc) in are.0 file (ap (λ n. n.op) e ∙ single)
one_at (first ∷ nodes) (leaf ∷ leaves) are (suc i) node file at single = one_at nodes leaves are.1 i node file at single

loaded : (rules : Rules) (files : Files) (walked : Result (Walked × List (List ℕ)) LoadFault) (library : Sounds) → sounds_or_fault rules files walked ≡ Ok library
    → (after : Walked) × (walked ≡ Ok (after, library.leaves))
loaded rules files (Err fault) library is = absurd (cc)
loaded rules files (Ok (after, leaves)) library is =
    let e : leaves ≡ library.leaves = ap leaves_of is in (after, ap (λ ls. Ok (after, ls)) e)

pub leaves_are : (rules : Rules) (files : Files) (nodes : List Node) (library : Sounds) → load_of rules files nodes ≡ Ok library → AreLeaves nodes library.leaves
leaves_are rules files nodes library is =
    let at = loaded rules files (nodes_walked rules files nodes (Ok (nothing_met, []))) library is in
    let goes = walks rules files nodes nothing_met at.0 [] library.leaves at.1 in
    subst (AreLeaves nodes) (sym goes.added) goes.are

pub leaves_long : (rules : Rules) (files : Files) (nodes : List Node) (library : Sounds) → load_of rules files nodes ≡ Ok library → length library.leaves ≡ length nodes
leaves_long rules files nodes library is = as_many nodes library.leaves (leaves_are rules files nodes library is)

pub singles_have_one : (rules : Rules) (files : Files) (nodes : List Node) (library : Sounds) → load_of rules files nodes ≡ Ok library
    → (i : ℕ) (node : Node) (file : List ℕ) → slice_get nodes i ≡ Some node → node.op ≡ Single file → length (tracks_of library i) ≡ 1
singles_have_one rules files nodes library is = one_at nodes library.leaves (leaves_are rules files nodes library is)
