-- The calls that a tick of a main clock makes of its buffers.
use Rattle.std.specs.Prelude.{◌≡◌, Bool, true, false, Option, Some, None, List, [], ◌∷◌, ◌++◌, ℕ, zero, suc, ◌+◌, ◌-◌, ◌*◌, ◌%◌, length, map, nat_eq, slice_get, if◌then◌else◌}
use Rattle.std.specs.List.{flat_map}
use Rattle.frame_core.specs.declared.cell.Cell.{Cell}
use Rattle.plan_core.specs.declared.node.Node.{Node}
use Rattle.plan_core.specs.declared.sink.SinkPlan.{SinkPlan}
use Rattle.plan_core.specs.declared.sink.SinkPlan.TheVariants.{Output, Feed}
use Rattle.clock_infer.specs.declared.clock_map.NodeClock.{NodeClock}
use Rattle.clock_infer.specs.declared.clock_map.NodeClock.TheVariants.{Main, Sub}
use Rattle.frame_core.specs.Slots.{Slot}
use Rattle.frame_core.specs.Calls.{Call, Took, Given, Answer}
use Rattle.op_cross.specs.Runs.{run_of}
use Rattle.op_leaf.specs.Readers.{reader_takes}
use Rattle.stream_meaning.specs.Operators.{Work, Plays, Picks, Mixes, Fades, Reads}
use Rattle.stream_meaning.specs.Instants.{Setting, Moment, clock_of, lies_in, position, next_answers, reading_after, work_at, first_instants, sub_of}
use Rattle.stream_meaning.specs.Sinks.{feed_cells}

-- the first n of the lists of calls `calls 0`, `calls 1` and so on, one behind another
abbrev pub joined_upto : (ℕ → List Call) → ℕ → List Call
joined_upto calls zero = []
joined_upto calls (suc n) = joined_upto calls n ++ calls n

-- the lists `calls from` to `calls (to - 1)`, one behind another
abbrev pub joined_between : (ℕ → List Call) → (from to : ℕ) → List Call
joined_between calls from to = joined_upto (λ j. calls (from + j)) (to - from)

-- the takes that node i makes of its buffer at the instant after `past`, where a tick of its clock begins; none where
-- its work is not to read a buffer
abbrev pub takes_by : Setting → List Moment → ℕ → Work → List Call
takes_by setting past i (Reads buffer) =
    let reading = reading_after setting i buffer past in
    map (Took buffer) (reader_takes (next_answers (setting.answers buffer) reading) reading.reader)
takes_by setting past i _ = []

-- the takes of node i at the instant after `past`, where a tick begins; none if the node is not in the clock (`inside`
-- is false) or not in the plan
abbrev pub takes_in : Setting → Bool → List Moment → ℕ → Option Node → List Call
takes_in setting inside past i None = []
takes_in setting false past i (Some node) = []
takes_in setting true past i (Some node) = takes_by setting past i (work_at setting i node)

-- the takes of a clock's readers before the instant that follows `past`, in node order; none where no tick begins there
abbrev pub takes_at : Setting → NodeClock → List Moment → List Call
takes_at setting clock past =
    if nat_eq (length past % setting.plan.frame) 0
    then joined_upto (λ i. takes_in setting (lies_in setting clock i) past i (slice_get setting.plan.nodes i))
    (length setting.plan.nodes)
    else []

-- how many instants the sub-clock of crossfade k has made by the end of these instants; `sub` has the slots that its
-- sub-clock offers, and `overlap` is the length of its mix
abbrev pub ran_by : (sub : ℕ → ℕ → List Slot) → (k overlap : ℕ) → List Moment → ℕ
ran_by sub k overlap [] = 0
ran_by sub k overlap (moment ∷ past) = run_of overlap (sub k) (position past k)

-- The calls of the instants that node k's sub-clock makes at the instant of its clock after `past`, if its work is a
-- crossfade. `below k m` has the calls of instant m of that sub-clock, and `sub k m` the first m slots of its child.
abbrev pub fades_by : (sub : ℕ → ℕ → List Slot) → (below : ℕ → ℕ → List Call) → List Moment → ℕ → Work → List Call
fades_by sub below past k (Fades overlap) = joined_between (below k) (ran_by sub k overlap past)
    (run_of overlap (sub k) (position past k))
fades_by sub below past k _ = []

-- The calls of the instants that node k's sub-clock makes at the instant after `past`, if the node is a crossfade in
-- this clock (`inside` is true). `below k m` has the calls of instant m of that sub-clock, and `sub k m` the first m
-- slots of its child.
abbrev pub fades_in : Setting → (sub : ℕ → ℕ → List Slot) → (below : ℕ → ℕ → List Call) → Bool → List Moment → ℕ
    → Option Node → List Call
fades_in setting sub below inside past k None = []
fades_in setting sub below false past k (Some node) = []
fades_in setting sub below true past k (Some node) = fades_by sub below past k (work_at setting k node)

-- The calls of the instant of a clock after `past`: its readers' takes, and then, for its crossfades in node order, the
-- calls of the instants that their sub-clocks make at it. `depth` bounds how deep sub-clocks nest. `sub k m` has the
-- first m slots of crossfade k's child.
abbrev pub calls_at : Setting → (sub : ℕ → ℕ → List Slot) → (depth : ℕ) → NodeClock → List Moment → List Call
calls_at setting sub zero clock past = []
calls_at setting sub (suc depth) clock past =
    takes_at setting clock past
    ++ joined_upto (λ k. fades_in setting sub
    (λ j m. calls_at setting sub depth (Sub j) (first_instants setting sub (Sub j) m))
    (lies_in setting clock k) past k (slice_get setting.plan.nodes k)) (length setting.plan.nodes)

-- The calls of the instant of a clock after `past`, with those of its sub-clocks, however deep these nest. `sub k m`
-- has the first m slots of crossfade k's child.
abbrev pub calls_of : Setting → (sub : ℕ → ℕ → List Slot) → NodeClock → List Moment → List Call
calls_of setting sub clock past = calls_at setting sub (suc (length setting.plan.nodes)) clock past

-- the call by which these cells are put to a buffer, as a list of one, with the buffer's answer, whether it accepted
-- them; no call without cells
abbrev pub given : (buffer : ℕ) → List Cell → Bool → List Call
given buffer [] accepted = []
given buffer (cell ∷ cells) accepted = Given buffer (cell ∷ cells) accepted ∷ []

-- the put that a sink makes at the end of tick t of main clock m, if it is a feed in this clock and has cells;
-- `accepted b` is the answer of buffer b
abbrev pub give_by : Setting → (accepted : ℕ → Bool) → (m t : ℕ) → SinkPlan → List Call
give_by setting accepted m t (Output name node fallible wide) = []
give_by setting accepted m t (Feed buffer node) =
    if lies_in setting (Main m) node then given buffer (feed_cells setting node t) (accepted buffer) else []

-- the puts of main clock m at the end of tick t; `accepted b` is the answer of buffer b
abbrev pub gives_of_tick : Setting → (accepted : ℕ → Bool) → (m t : ℕ) → List Call
gives_of_tick setting accepted m t = flat_map (give_by setting accepted m t) setting.plan.sinks

-- all takes from buffers during tick t of main clock m, in their order, also those of its sub-clocks
abbrev pub takes_of_tick : Setting → (m t : ℕ) → List Call
takes_of_tick setting m t = joined_upto
    (λ j. calls_of setting (sub_of setting) (Main m)
    (first_instants setting (sub_of setting) (Main m) (t * setting.plan.frame + j)))
    setting.plan.frame

-- the calls of tick t of main clock m: its takes and then its puts, where `accepted b` is the answer of buffer b
abbrev pub calls_of_tick : Setting → (accepted : ℕ → Bool) → (m t : ℕ) → List Call
calls_of_tick setting accepted m t = takes_of_tick setting m t ++ gives_of_tick setting accepted m t

-- the answers that the takes of this buffer got among these calls, in their order
abbrev pub answers_in : ℕ → List Call → List Answer
answers_in buffer [] = []
answers_in buffer (Took other answer ∷ calls) = if nat_eq other buffer then answer ∷ answers_in buffer calls
    else answers_in buffer calls
answers_in buffer (Given other cells accepted ∷ calls) = answers_in buffer calls

-- the answers for a buffer, and behind them those that these calls got
abbrev pub after_calls : (ℕ → List Answer) → List Call → ℕ → List Answer
after_calls answers calls buffer = answers buffer ++ answers_in buffer calls

-- `answers` has the first answers of each buffer in this setting; it may give more behind them
pub record HasAnswers (setting : Setting) (answers : ℕ → List Answer) : Type 0 where
  pub rest : ℕ → List Answer
  pub are : (buffer : ℕ) → setting.answers buffer ≡ answers buffer ++ rest buffer

-- the calls `made` are the beginning of the list `calls`, or all of it
pub record IsBegin (made calls : List Call) : Type 0 where
  pub rest : List Call
  pub are : calls ≡ made ++ rest

-- The calls of an instant follow one rule in every clock, with no bound on the depth: first its readers' takes, then
-- the calls of the instants that its sub-clocks make at it. `sub k m` has the first m slots of crossfade k's child.
pub record GoDown (setting : Setting) (sub : ℕ → ℕ → List Slot) : Type 0 where
  pub each : (clock : NodeClock) (past : List Moment) → calls_of setting sub clock past
      ≡ takes_at setting clock past
      ++ joined_upto (λ k. fades_in setting sub
      (λ j m. calls_of setting sub (Sub j) (first_instants setting sub (Sub j) m))
      (lies_in setting clock k) past k (slice_get setting.plan.nodes k)) (length setting.plan.nodes)

-- node i lies in a clock, or below it: `rank` says through how many crossfades, each of which drives a sub-clock
abbrev pub IsBelow : Setting → NodeClock → (rank i : ℕ) → Type 0
IsBelow setting clock zero i = clock_of setting i ≡ clock
IsBelow setting clock (suc rank) i = (k : ℕ) × (clock_of setting i ≡ Sub k) × IsBelow setting clock rank k

-- no reader of this buffer lies in the clock, nor in any sub-clock below it
pub record IsUnread (setting : Setting) (clock : NodeClock) (buffer : ℕ) : Type 0 where
  pub none : (rank i : ℕ) (node : Node) → slice_get setting.plan.nodes i ≡ Some node
      → work_at setting i node ≡ Reads buffer → IsBelow setting clock rank i → ⊥
