-- What is told of the hours of a plan's switches.
use Rattle.std.specs.Prelude.{◌≡◌, ℕ, ◌+◌, ◌/◌, min, max, List, [], ◌∷◌, ◌++◌, length, codes, decimal, nat_le, if◌then◌else◌}
use Rattle.json.specs.Print.{print}
use Rattle.json.specs.Token.{Token, begin_array, end_array, key, number}
use Rattle.plan_core.specs.declared.node.Node.{Node}
use Rattle.plan_core.specs.declared.node.Op.{Op}
use Rattle.plan_core.specs.declared.node.Op.TheVariants.{Switch}
use Rattle.plan_core.specs.declared.plan.Plan.{Plan}
use Rattle.time_pred.specs.Predicates.{Predicate}
use Rattle.week_plan.specs.declared.span.Span.{Span}
use Rattle.week_windows.specs.Windows.{case_spans, hole_spans}
use Rattle.station_facts.specs.Members.{list_member, number_member, object}

-- how many cases a switch has, and one more for the seconds at which none holds; 0 of another source
abbrev pub cases_in : Op → ℕ
cases_in (Switch sensitive preds) = length preds + 1
cases_in _ = 0

-- how many cases the switches among these sources have, added to n; 100,001 if that is more than 100,000
abbrev pub cases_to : ℕ → List Node → ℕ
cases_to n [] = n
cases_to n (node ∷ nodes) = cases_to (min (n + cases_in node.op) 100001) nodes

-- How many spans are told of a case at most: 2000, or, if there are many cases, so few that all of them have no more
-- than 100,000.
abbrev pub most_spans : List Node → ℕ
most_spans nodes = min (100000 / max (cases_to 0 nodes) 1) 2000

-- a span of seconds of the week as a JSON list: its first second, and the second behind its last one
abbrev pub span_list : Span → List Token
span_list span = begin_array ∷ number (decimal span.from) ∷ number (decimal span.to) ∷ end_array ∷ []

-- the member `spans`, the spans of a case; none if they are more than `most`
abbrev pub spans_member : (most : ℕ) → List Span → List Token
spans_member most spans = if nat_le (length spans) most then list_member (codes "spans") span_list spans else []

-- the JSON object of a case: how many spans of the week it has, and these, unless they are more than `most`
abbrev pub hours_object : (most : ℕ) → List Span → List Token
hours_object most spans = object (number_member (codes "count") (length spans) ++ spans_member most spans)

-- The JSON object of a switch: its number, the byte of the script at which the call that made it begins, the spans in
-- which each case is the first that holds, and those in which none holds.
abbrev pub switch_of : (most place : ℕ) → (cases : List (List Span)) → (none : List Span) → (at : ℕ) → List Token
switch_of most place cases none at = object (number_member (codes "source") place
    ++ (number_member (codes "at") at
    ++ (list_member (codes "cases") (hours_object most) cases
    ++ (key (codes "none") ∷ hours_object most none))))

-- The JSON object of switch `place`, by the predicates of its cases. Its call begins at byte `at` of the script, and
-- no more than `most` spans are told of a case.
abbrev pub switch_object : (most place : ℕ) → List Predicate → (at : ℕ) → List Token
switch_object most place preds at = switch_of most place (case_spans [] preds) (hole_spans preds) at

-- The JSON object of source `place` if it is a switch; nothing of another source. Its call begins at byte `at` of the
-- script, and no more than `most` spans are told of a case.
abbrev pub source_hours : (most place : ℕ) → Op → (at : ℕ) → List Token
source_hours most place (Switch sensitive preds) at = switch_object most place preds at
source_hours most place _ at = []

-- The JSON objects of the switches among these sources. The first source has number `place`, `ats` has the byte of the
-- script at which the call of each begins, and no more than `most` spans are told of a case.
abbrev pub switches_from : (most place : ℕ) → List Node → (ats : List ℕ) → List Token
switches_from most place [] ats = []
switches_from most place (node ∷ nodes) [] = []
switches_from most place (node ∷ nodes) (at ∷ ats) =
    source_hours most place node.op at ++ switches_from most (place + 1) nodes ats

-- the JSON object of the switches among these sources; no more than `most` spans are told of a case
abbrev pub switches_object : (most : ℕ) → List Node → (ats : List ℕ) → List Token
switches_object most nodes ats = object (number_member (codes "most") most
    ++ (key (codes "switches") ∷ begin_array ∷ (switches_from most 0 nodes ats ++ end_array ∷ [])))

-- the whole JSON object of the hours of a plan: when in the week each case of its switches holds
abbrev pub week_object : Plan → (ats : List ℕ) → List Token
week_object plan ats = switches_object (most_spans plan.nodes) plan.nodes ats

-- `told` is the text of what is told of the hours of a plan, as JSON: when in the week each case of its switches holds.
-- `ats` has the byte of the script at which the call of each source begins.
abbrev pub AreHours : Plan → (ats : List ℕ) → (told : List ℕ) → Type 0
AreHours plan ats told = told ≡ print (week_object plan ats)
