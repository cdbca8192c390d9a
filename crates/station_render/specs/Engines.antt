-- The engines of all clocks, which hold the sinks of the outputs.
use Rattle.std.specs.Prelude.{◌≡◌, ◌<◌, ℕ, Bool, List, [], ◌∷◌, Some, map, slice_get}
use Rattle.stream_meaning.specs.Instants.{Setting, with_rest}
use Rattle.clock_ticks.specs.declared.engine.ClockEngine.{ClockEngine}
use Rattle.clock_ticks.specs.Engines.{EngineStands, setting_of}
use Rattle.frame_core.specs.Calls.{Answer}
use Rattle.rounds_run.specs.Rounds.{nothing}

-- for each engine (which runs one clock), the sinks that it writes
abbrev pub outs_of : {S : Type 0} → List (ClockEngine S) → List (List S)
outs_of engines = map (λ engine. engine.outs) engines

-- Sinks of engines put back to their clocks: the second list of lists, with its first items replaced by those of the
-- first. Each item is the list of one clock's sinks.
abbrev pub pooled : {S : Type 0} → List (List S) → List (List S) → List (List S)
pooled [] lists = lists
pooled (first ∷ others) [] = []
pooled (first ∷ others) (list ∷ lists) = first ∷ pooled others lists

-- the first n lists are empty, as those are whose sinks the engines took
abbrev pub AreEmptyBelow : {S : Type 0} → (n : ℕ) → List (List S) → Type 0
AreEmptyBelow n lists = (m : ℕ) (list : List _) → m < n → slice_get lists m ≡ Some list → list ≡ []

-- An engine of main clock m is at its beginning, before any tick. `setting` is what its streams are computed from,
-- such as the plan and the files.
pub record IsAt {S : Type 0} (setting : Setting) (m : ℕ) (engine : ClockEngine S) : Type 0 where
  pub over : setting_of engine.parts ≡ setting
  pub clock_is : engine.parts.clock ≡ m
  pub stands : EngineStands engine.parts 0 nothing

-- The engines of all clocks, in clock order, are at their beginning, before any tick. `setting` is what their streams
-- are computed from, such as the plan and the files.
pub record AreAt {S : Type 0} (setting : Setting) (engines : List (ClockEngine S)) : Type 0 where
  pub each : (m : ℕ) (engine : ClockEngine S) → slice_get engines m ≡ Some engine → IsAt setting m engine

-- An engine of main clock m has made so many ticks. `setting` is what its streams are computed from, such as the plan
-- and the files. `world` is that setting where its buffers answer what they did answer, and then anything.
pub record IsPast {S : Type 0} (setting world : Setting) (ticks m : ℕ) (engine : ClockEngine S) : Type 0 where
  pub over : setting_of engine.parts ≡ setting
  pub clock_is : engine.parts.clock ≡ m
  pub answers : ℕ → List Answer
  pub rest : ℕ → List Answer
  pub given : with_rest setting answers rest ≡ world
  pub stands : EngineStands engine.parts ticks answers

-- The engines of all clocks, in clock order, have made so many ticks. `setting` is what their streams are computed
-- from, such as the plan and the files. `world` is that setting where their buffers answer as they did.
pub record ArePast {S : Type 0} (setting world : Setting) (ticks : ℕ) (engines : List (ClockEngine S)) : Type 0 where
  pub each : (m : ℕ) (engine : ClockEngine S) → slice_get engines m ≡ Some engine → IsPast setting world ticks m engine

-- each engine keeps marks of where tracks begin if cue files are wanted, and keeps none otherwise
abbrev pub AreKeeping : {S : Type 0} → (wanted : Bool) → List (ClockEngine S) → Type 0
AreKeeping wanted engines = (m : ℕ) (engine : ClockEngine _) → slice_get engines m ≡ Some engine
    → engine.parts.cues.keeping ≡ wanted
