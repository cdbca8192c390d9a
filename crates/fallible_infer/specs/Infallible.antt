-- Nodes that offer a cell at each instant.
use Rattle.std.specs.Prelude.{◌≡◌, ℕ, ◌-◌, ◌&&◌, not, Bool, true, false, Option, Some, List, length, slice_get, slice_index_or}
use Rattle.std.specs.List.{list_any, zip}
use Rattle.std.specs.Option.{option_map_or}
use Rattle.plan_core.specs.declared.node.Node.{Node}
use Rattle.plan_core.specs.declared.node.Op.{Op}
use Rattle.plan_core.specs.declared.node.Op.TheVariants.{Single, Playlist, Blank, Square, Fail, Switch, Sequence, Buffer}
use Rattle.plan_core.specs.declared.sink.SinkPlan.{SinkPlan}
use Rattle.plan_core.specs.declared.sink.SinkPlan.TheVariants.{Output, Feed}
use Rattle.time_pred.specs.Predicates.{Predicate, is_always}

-- whether node i is marked as infallible, as one that always offers a cell; the list has a flag for each node, and one
-- without a flag is not
abbrev pub mark_at : List Bool → ℕ → Bool
mark_at marks i = slice_index_or marks i false

-- the number of the last child of a node, if there is one
abbrev pub last_of : List ℕ → Option ℕ
last_of children = slice_get children (length children - 1)

-- what makes a node infallible: nothing, itself, some child, some case, or the last child
pub data Rests : Type 0 where
  ByNothing : Rests
  ByItself : Rests
  OnSome : Rests
  OnCases : List Predicate → Rests
  OnLast : Rests

-- what makes a node of this operator infallible: a file that is repeated, zeros and a square wave are so by themselves,
-- and nothing makes a playlist, a fail or a reader so; a switch rests on its cases, a sequence on its last child, and
-- any other on some child
abbrev pub rests_of : Op → Rests
rests_of (Single file) = ByItself
rests_of (Playlist file again) = ByNothing
rests_of (Blank track) = ByItself
rests_of (Square pitch) = ByItself
rests_of Fail = ByNothing
rests_of (Switch sensitive preds) = OnCases preds
rests_of Sequence = OnLast
rests_of (Buffer number) = ByNothing
rests_of _ = OnSome

-- Whether a node with these children always offers a cell, by what makes nodes like it do so. `mark` says which
-- children always do: some child has to, or one whose predicate is always true by its form, or the last child.
abbrev pub rests_on : (mark : ℕ → Bool) → Rests → List ℕ → Bool
rests_on mark ByNothing children = false
rests_on mark ByItself children = true
rests_on mark OnSome children = list_any mark children
rests_on mark (OnCases preds) children = list_any (λ pair. is_always pair.0 && mark pair.1) (zip preds children)
rests_on mark OnLast children = option_map_or mark (last_of children) false

-- whether a node of this operator always offers a cell over these children, where `mark` says which of them always do
abbrev pub infallible_by : (mark : ℕ → Bool) → Op → List ℕ → Bool
infallible_by mark op children = rests_on mark (rests_of op) children

-- `mark` says of each node whether it is infallible, that is, always offers a cell: by its operator and the marks of
-- its children
abbrev pub IsMarking : List Node → (mark : ℕ → Bool) → Type 0
IsMarking nodes mark = (i : ℕ) (node : Node) → slice_get nodes i ≡ Some node
    → mark i ≡ infallible_by mark node.op node.children

-- whether a sink needs an infallible node and has none: an output does, unless it is written with `fallible=true`, and
-- a feed does not
abbrev pub refuses : (mark : ℕ → Bool) → SinkPlan → Bool
refuses mark (Output name node fallible wide) = not fallible && not (mark node)
refuses mark (Feed buffer node) = false
