-- What is told of the week of a plan.
use Rattle.std.specs.Prelude.{◌≡◌, ◌↔◌, ℕ, zero, suc, ◌+◌, Bool, true, false, not, ◌&&◌, ◌||◌, Some, List, [], ◌∷◌, ◌++◌, length, map, get_or, slice_get, codes, decimal}
use Rattle.std.specs.List.{concat}
use Rattle.std.specs.Option.{option_map_or}
use Rattle.plan_core.specs.declared.node.Node.{Node}
use Rattle.plan_core.specs.declared.node.Op.{Op}
use Rattle.plan_core.specs.declared.node.Op.TheVariants.{Switch}
use Rattle.plan_core.specs.declared.plan.Plan.{Plan}
use Rattle.time_pred.specs.Predicates.{Predicate}
use Rattle.week_plan.specs.Cases.{AreFates}
use Rattle.week_plan.specs.Spans.{AreHoles, IsDaily, some_case_holds}
use Rattle.week_plan.specs.Tables.{how_many}
use Rattle.week_plan.specs.declared.cases.Fate.{Fate}
use Rattle.week_plan.specs.declared.cases.Fate.TheVariants.{Chosen, Hidden, Never}
use Rattle.week_plan.specs.declared.span.Span.{Span}
use Rattle.week_lines.specs.Instead.{IsBelow, instead_of}
use Rattle.week_lines.specs.Lines.{hole_line, sum_line, switch_text}
use Rattle.week_lines.specs.declared.above.Instead.{Instead}
use Rattle.week_lines.specs.declared.above.Instead.TheVariants.{Silence, Next, Unknown}

-- The line about the holes of switch `number`, the spans of the week in which no case of it holds; nothing if it has
-- none. It says what plays `instead`. `daily` tells the spans once for all days, `sensitive` says that the switch is
-- track-sensitive, and `below` that it lies below a crossfade.
abbrev pub holes_text : (number : ℕ) → List Span → (daily : Bool) → Instead → (sensitive below : Bool) → List ℕ
holes_text number [] daily instead sensitive below = []
holes_text number (span ∷ spans) daily instead sensitive below =
    hole_line number (span ∷ spans) daily instead sensitive below

-- how a line begins that is about a case of switch `number`; cases are counted from 0 here, and from 1 in the text
abbrev pub case_text : (number case : ℕ) → List ℕ
case_text number case = switch_text number ++ (codes "case " ++ decimal (case + 1))

-- The line about a case of switch `number` that is never chosen: it never holds, or an earlier case that always plays
-- hides it. There is none for a case that is chosen at some time.
abbrev pub fate_text : (number case : ℕ) → Fate → List ℕ
fate_text number case Chosen = []
fate_text number case Hidden = case_text number case
    ++ codes " is never chosen: where it holds, an earlier case does that always plays\n"
fate_text number case Never = case_text number case ++ codes " never holds\n"

-- the lines about those cases of switch `number` that are never chosen; `case` is the number of the first of these
-- cases
abbrev pub fates_text : (number case : ℕ) → List Fate → List ℕ
fates_text number case [] = []
fates_text number case (fate ∷ fates) = fate_text number case fate ++ fates_text number (suc case) fates

-- The text that is told of switch `number`, with these predicates: a line of its holes, in which no case holds and
-- `instead` plays, and lines of cases that are never chosen. `sure` says which children always play, `sensitive` that
-- it is track-sensitive, and `below` that it lies below a crossfade.
pub record IsSwitchText (number : ℕ) (instead : Instead) (sensitive below : Bool) (preds : List Predicate)
    (sure : List Bool) (text : List ℕ) : Type 0 where
  pub spans : List Span
  pub holes : AreHoles preds spans
  pub daily : Bool
  pub is_daily : (daily ≡ true) ↔ IsDaily (λ at. not (some_case_holds preds at))
  pub fates : List Fate
  pub are_fates : AreFates preds sure fates
  pub lines : text ≡ holes_text number spans daily instead sensitive below ++ fates_text number 0 fates

-- This text is told of source `number` of a plan, a switch with these predicates and children. It says what plays where
-- no case holds, and which cases are never chosen. `mark` says whether a source never falls silent, and `sensitive`
-- that the switch is track-sensitive.
abbrev pub IsOfSwitch : Plan → (mark : ℕ → Bool) → (number : ℕ) → (sensitive : Bool) → List Predicate
    → (children : List ℕ) → (text : List ℕ) → Type 0
IsOfSwitch plan mark number sensitive preds children text =
    (below : Bool) × ((below ≡ true) ↔ IsBelow plan.nodes number)
    × IsSwitchText number (instead_of plan number) sensitive below preds (map mark children) text

-- This text is told of source `number` of a plan, with its operator and children: nothing unless it is a switch. `mark`
-- says whether a source never falls silent.
abbrev pub IsOfSource : Plan → (mark : ℕ → Bool) → (number : ℕ) → Op → (children : List ℕ) → (text : List ℕ) → Type 0
IsOfSource plan mark number (Switch sensitive preds) children text =
    IsOfSwitch plan mark number sensitive preds children text
IsOfSource plan mark number _ children text = text ≡ []

-- This text is what is told of all switches of a plan, in the order of its sources. `mark` says whether a source never
-- falls silent.
pub record AreLines (plan : Plan) (mark : ℕ → Bool) (text : List ℕ) : Type 0 where
  pub parts : List (List ℕ)
  pub size : length parts ≡ length plan.nodes
  pub each : (number : ℕ) (node : Node) → slice_get plan.nodes number ≡ Some node
      → IsOfSource plan mark number node.op node.children (get_or parts number [])
  pub joined : text ≡ concat parts

-- whether what plays in the place of a switch, while no case of it holds, is known to be silence
abbrev pub is_silence : Instead → Bool
is_silence Silence = true
is_silence Next = false
is_silence Unknown = false

-- whether a source with this operator is known to be silent at second `at` of the week: it is a switch, no case of it
-- holds then, and silence plays in its place
abbrev pub is_silent_by : Plan → (number : ℕ) → Op → (at : ℕ) → Bool
is_silent_by plan number (Switch sensitive preds) at =
    is_silence (instead_of plan number) && not (some_case_holds preds at)
is_silent_by plan number _ at = false

-- whether source `number` of a plan is a switch that is known to be silent at second `at` of the week
abbrev pub is_silent : Plan → (number at : ℕ) → Bool
is_silent plan number at = option_map_or (λ node. is_silent_by plan number node.op at) (slice_get plan.nodes number) false

-- whether one of the first n sources of a plan is a switch that is known to be silent at second `at` of the week
abbrev pub some_silent : Plan → (n at : ℕ) → Bool
some_silent plan zero at = false
some_silent plan (suc n) at = some_silent plan n at || is_silent plan n at

-- This text is what is told of the week of a plan: the lines of its switches, and for how many seconds it is silent.
-- `mark` says whether a source never falls silent.
pub record IsWeek (plan : Plan) (mark : ℕ → Bool) (text : List ℕ) : Type 0 where
  pub lines : List ℕ
  pub of_sources : AreLines plan mark lines
  pub told : text ≡ lines ++ sum_line (how_many (some_silent plan (length plan.nodes)) 604800)
