-- The sources for which a source may offer nothing, and where a silence is to be mended.
use Rattle.std.specs.Prelude.{◌≡◌, ◌≢◌, ℕ, Bool, true, false, ◌&&◌, List, Option, Some, None, nat_eq, slice_get}
use Rattle.std.specs.List.{list_any, zip}
use Rattle.std.specs.Option.{option_map_or}
use Rattle.plan_core.specs.declared.node.Node.{Node}
use Rattle.plan_core.specs.declared.node.Op.{Op}
use Rattle.time_pred.specs.Predicates.{Predicate, is_always}
use Rattle.fallible_infer.specs.Infallible.{Rests, OnCases, OnLast, last_of, rests_of}

-- whether the number `other` is that of this child
abbrev pub is_child : (child other : ℕ) → Bool
is_child child other = nat_eq other child

-- whether a case of a switch, a predicate with its child, leads to this child and is always true by the form of its
-- predicate
abbrev pub is_case : (child : ℕ) → Predicate × ℕ → Bool
is_case child pair = is_always pair.0 && is_child child pair.1

-- whether a source with these children has the child with number `child` among them
abbrev pub some_child : (children : List ℕ) → (child : ℕ) → Bool
some_child children child = list_any (is_child child) children

-- whether this child is the last of a source's children, on which a sequence ends up
abbrev pub is_last : (children : List ℕ) → (child : ℕ) → Bool
is_last children child = option_map_or (is_child child) (last_of children) false

-- whether a switch with these predicates and children has a case for this child that is always true by the form of its
-- predicate
abbrev pub some_case : List Predicate → (children : List ℕ) → (child : ℕ) → Bool
some_case preds children child = list_any (is_case child) (zip preds children)

-- Whether a source that may offer nothing needs this child, so that it would always offer something if this child did.
-- What it rests on says how: on its last child, it needs that one. On the cases of a switch, it needs each whose
-- predicate is always true; otherwise it needs each child.
abbrev pub needs_on : Rests → (children : List ℕ) → (child : ℕ) → Bool
needs_on (OnCases preds) children child = some_case preds children child
needs_on OnLast children child = is_last children child
needs_on _ children child = some_child children child

-- whether a source of this operator that may offer nothing needs this child, so that it would always offer something if
-- this child did
abbrev pub needs : Op → (children : List ℕ) → (child : ℕ) → Bool
needs op children child = needs_on (rests_of op) children child

-- No number but `one` passes the test. So it is said that of a source's children no other one is needed.
abbrev pub IsAlone : (ℕ → Bool) → ℕ → Type 0
IsAlone test one = (other : ℕ) → test other ≡ true → other ≡ one

-- Some number other than `one` passes the test. So it is said that of a source's children another one is needed too.
abbrev pub HasOther : (ℕ → Bool) → ℕ → Type 0
HasOther test one = (other : ℕ) × (test other ≡ true) × (other ≢ one)

-- the one number that passes the test, as the one child of a source that is needed; `None` where none does, or several
-- do
abbrev pub IsOnly : (ℕ → Bool) → Option ℕ → Type 0
IsOnly test (Some one) = (test one ≡ true) × IsAlone test one
IsOnly test None = (one : ℕ) → test one ≡ true → HasOther test one

-- The one child that source n needs, so that it would always offer something if this child did. It is `None` where it
-- needs none, or several.
pub record IsOnlyNeeded (nodes : List Node) (n : ℕ) (needed : Option ℕ) : Type 0 where
  pub node : Node
  pub there : slice_get nodes n ≡ Some node
  pub only : IsOnly (needs node.op node.children) needed

-- A way leads down from source `from` to a source: each source on it needs the next one, its child, and no other. A
-- source needs a child if it would always offer something if this child did.
pub data Leads (nodes : List Node) (from : ℕ) : ℕ → Type 0 where
  here : Leads nodes from from
  below : (n child : ℕ) → Leads nodes from n → IsOnlyNeeded nodes n (Some child) → Leads nodes from child

-- A silence of source `from` is to be mended at source n. A way leads down to it on which each source needs the next
-- one alone, and n needs no child alone.
pub record IsCause (nodes : List Node) (from n : ℕ) : Type 0 where
  pub leads : Leads nodes from n
  pub ends : IsOnlyNeeded nodes n None
