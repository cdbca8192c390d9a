-- What is told of the bytes of a script.
use Rattle.std.specs.Prelude.{◌≡◌, ◌≢◌, ◌<◌, ℕ, Bool, true, false, All, List, length, map, Option, Some, None, slice_get}
use Rattle.about_cli.specs.declared.verb.Question.{Question}
use Rattle.about_cli.specs.declared.verb.Question.TheVariants.{Week, Picture, Files, Hours, Tokens}
use Rattle.fallible_infer.specs.Infallible.{mark_at, refuses}
use Rattle.liq_base.specs.Shelves.{ShelfTold}
use Rattle.liq_base.specs.declared.limits.TheConstants.{MAX_ALL_BYTES, MAX_FILE_BYTES}
use Rattle.plan_core.specs.declared.plan.Plan.{Plan}
use Rattle.plan_core.specs.declared.sink.SinkPlan.{SinkPlan}
use Rattle.plan_picture.specs.Pictures.{IsPicture}
use Rattle.script_lex.specs.Tokens.{AreTokens}
use Rattle.script_lex.specs.declared.token.Token.{Token}
use Rattle.script_places.specs.Starts.{start}
use Rattle.script_plan.specs.Plans.{IsPlan, IsPlanFault}
use Rattle.script_plan.specs.Sources.{HasSources}
use Rattle.script_plan.specs.declared.fault.ScriptFault.{ScriptFault}
use Rattle.script_plan.specs.declared.fault.ScriptFault.TheVariants as fault
use Rattle.station_facts.specs.Files.{IsTold}
use Rattle.station_facts.specs.Hours.{AreHours}
use Rattle.station_facts.specs.Plans.{IsInferred}
use Rattle.station_facts.specs.Tokens.{AreTold}
use Rattle.station_facts.specs.declared.inferred.Inferred.{Inferred}
use Rattle.track_library.specs.Loads.{rules_for}
use Rattle.track_library.specs.declared.rules.Sizes.{Sizes}
use Rattle.week_lines.specs.Weeks.{IsWeek}

-- the most bytes of one sound, and of all sounds, as `liq` has them
abbrev pub sizes : Sizes
sizes = record { file = MAX_FILE_BYTES; all = MAX_ALL_BYTES }

-- The Option is the number of the first sink of a plan that may fall silent and must not; it is `None` where there is
-- no such sink. `mark` says of each node whether it is infallible (always has a cell to play).
abbrev pub IsRefused : Plan → (mark : ℕ → Bool) → Option ℕ → Type 0
IsRefused plan mark None = All (λ sink. refuses mark sink ≡ false) plan.sinks
IsRefused plan mark (Some k) = ((sink : SinkPlan) × (slice_get plan.sinks k ≡ Some sink) × (refuses mark sink ≡ true))
    × ((j : ℕ) (sink : SinkPlan) → j < k → slice_get plan.sinks j ≡ Some sink → refuses mark sink ≡ false)

-- The text `drawn` is the picture of a plan. It shows its clocks, its infallible nodes and the first sink that may
-- fall silent and must not, all as inferred from the plan.
pub record IsDrawn (plan : Plan) (drawn : List ℕ) : Type 0 where
  pub inferred : Inferred
  pub is_inferred : IsInferred plan inferred
  pub refused : Option ℕ
  pub is_refused : IsRefused plan (mark_at inferred.marks.items) refused
  pub picture : IsPicture plan (mark_at inferred.marks.items) refused inferred.clocks drawn

-- the text has a plan, and P holds of it
pub record OfPlan (text : List ℕ) (P : Plan → Type 0) : Type 0 where
  pub plan : Plan
  pub is_plan : IsPlan text plan
  pub holds : P plan

-- The text has a plan, and P holds of it and of some places in the text: the bytes at which the calls begin that make
-- its sources.
pub record OfSources (text : List ℕ) (P : Plan → (ats : List ℕ) → Type 0) : Type 0 where
  pub plan : Plan
  pub calls : List ℕ
  pub sources : HasSources text plan calls
  pub tokens : List Token
  pub are_tokens : AreTokens text tokens
  pub holds : P plan (map (start (length text) tokens) calls)

-- The text `told` is the lines about the week of a plan: when its sources play, and how long it is silent.
pub record IsWeekOf (plan : Plan) (told : List ℕ) : Type 0 where
  pub inferred : Inferred
  pub is_inferred : IsInferred plan inferred
  pub lines : IsWeek plan (mark_at inferred.marks.items) told

-- The bytes `told` are the right answer to a question about a script with the bytes `text`. `old` and `new` are what
-- the shelf of its audio files tells before and after they were looked at.
abbrev pub Tells : Question → (text : List ℕ) → (old new : ShelfTold) → (told : List ℕ) → Type 0
Tells Tokens text old new told = AreTold text told
Tells Files text old new told = OfSources text (λ plan ats. IsTold (rules_for plan sizes) plan ats old new told)
Tells Hours text old new told = OfSources text (λ plan ats. AreHours plan ats told)
Tells Picture text old new told = OfPlan text (λ plan. IsDrawn plan told)
Tells Week text old new told = OfPlan text (λ plan. IsWeekOf plan told)

-- a text has no plan, for a fault of it
pub record HasNoPlan (text : List ℕ) : Type 0 where
  pub cause : ScriptFault
  pub meant : cause ≢ fault.Memory
  pub is_fault : IsPlanFault text cause
