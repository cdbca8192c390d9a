-- What a node does, sorted: a leaf, a choice among its children, a mix of them, a crossfade or a reader. Nothing else
-- tells operators apart.
use Rattle.std.specs.Prelude.{Bool, true, Option, List, ℕ, map, replicate}
use Rattle.liq_base.specs.declared.memory.Kind.{Kind}
use Rattle.time_pred.specs.Predicates.{Predicate, holds}
use Rattle.plan_core.specs.declared.node.Op.{Op}
use Rattle.plan_core.specs.declared.node.Op.TheVariants.{Single, Playlist, Blank, Square, Fail, Fallback, Switch, Sequence, Rotate, Random, Add, Amplify, Mean, Stereo, Crossfade, Buffer, Clock}
use Rattle.op_leaf.specs.declared.leaf.Leaf.{Leaf}
use Rattle.op_leaf.specs.declared.leaf.Leaf.TheVariants.{Files, Never}
use Rattle.op_select.specs.declared.rule.Rule.{Rule}
use Rattle.op_select.specs.declared.rule.Rule.TheVariants.{First, Turns}
use Rattle.op_select.specs.Selection.{pick_of}
use Rattle.frame_core.specs.Slots.{Slot}
use Rattle.op_turn.specs.declared.turn.Turn.{Turn}
use Rattle.op_turn.specs.Turns.{used_child}
use Rattle.stream_meaning.specs.Arithmetic.{Mixing, Adds, Scales, Halves, Doubles, Passes}

-- which children of a node may be chosen: every one, or those whose predicates hold
pub data Eligible : Type 0 where
  Every : Eligible
  Where : List Predicate → Eligible

-- for each of a node's `children` many children, whether it may be chosen in this second of the week: true or false
abbrev pub marks_at : Eligible → (second children : ℕ) → List Bool
marks_at Every second children = replicate children true
marks_at (Where preds) second children = map (λ pred. holds pred second) preds

-- how a node chooses among its children: by a rule over what they offer at the instant, or one after another or by lot,
-- as a rotate or a random does
pub data Choice : Type 0 where
  Selects : Rule → Choice
  TakesTurns : Turn → Choice

-- The child that a node uses at an instant: `slots` is what its children offer, `eligible` which of them may be chosen,
-- `last` the child that it used last, and `choices` how often it has chosen. None where it uses none.
abbrev pub child_used : Choice → List Slot → List Bool → (last : Option ℕ) → (choices : ℕ) → Option ℕ
child_used (Selects rule) slots eligible last choices = pick_of rule slots eligible last
child_used (TakesTurns turn) slots eligible last choices = used_child turn (record {
  last = last;
  choices = choices;
}) slots

-- what a node does: it plays, picks a child, mixes its children, fades from track to track with an overlap of so many
-- cells, or reads the buffer of this number
pub data Work : Type 0 where
  Plays : Leaf → Work
  Picks : Choice → Eligible → Work
  Mixes : Mixing → Work
  Fades : ℕ → Work
  Reads : ℕ → Work

-- the work of node i, by its operator and by whether it is mono or stereo, in a plan of `rate` samples a second
abbrev pub work_of : (rate i : ℕ) → Kind → Op → Work
work_of rate i kind (Single file) = Plays (Files i true kind)
work_of rate i kind (Playlist file again) = Plays (Files i again kind)
work_of rate i kind (Blank track) = Plays (Leaf.Blank track)
work_of rate i kind (Square pitch) = Plays (Leaf.Square pitch rate kind)
work_of rate i kind Fail = Plays Never
work_of rate i kind (Fallback sensitive) = Picks (Selects (First sensitive)) Every
work_of rate i kind (Switch sensitive preds) = Picks (Selects (First sensitive)) (Where preds)
work_of rate i kind Sequence = Picks (Selects Turns) Every
work_of rate i kind Rotate = Picks (TakesTurns Turn.Rotate) Every
work_of rate i kind (Random seed) = Picks (TakesTurns (Turn.Random seed)) Every
work_of rate i kind (Add normalize) = Mixes (Adds normalize)
work_of rate i kind (Amplify factor) = Mixes (Scales factor.millionths)
work_of rate i kind Mean = Mixes Halves
work_of rate i kind Stereo = Mixes Doubles
work_of rate i kind (Crossfade overlap) = Fades overlap
work_of rate i kind (Buffer buffer) = Reads buffer
work_of rate i kind (Clock id) = Mixes Passes
