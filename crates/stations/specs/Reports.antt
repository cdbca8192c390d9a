-- What a call tells of a station.
use Rattle.std.specs.Prelude.{ℕ, suc, ◌*◌, Bool, List, [], ◌∷◌, ◌++◌, codes, count_by, decimal, is_none, is_some, slice_index_or, if◌then◌else◌}
use Rattle.plan_core.specs.declared.sink.BufferPlan.{BufferPlan}
use Rattle.plan_core.specs.declared.sink.SinkPlan.{SinkPlan}
use Rattle.plan_core.specs.declared.sink.SinkPlan.TheVariants.{Output, Feed}
use Rattle.clock_infer.specs.declared.clock_map.ClockMap.{ClockMap}
use Rattle.clock_infer.specs.declared.clock_map.NodeClock.{NodeClock}
use Rattle.clock_infer.specs.declared.clock_map.NodeClock.TheVariants.{Main, Sub}
use Rattle.run_records.specs.Buffers.{feeder, reader}
use Rattle.run_records.specs.Records.{Run, answers_of, puts_of}
use Rattle.stations.specs.Stations.{Station, bare}
use Rattle.stations.specs.Streams.{gaps_of}

-- what a report says of an output that was rendered, without its line end: its name, its samples and its gaps
abbrev pub counted_part : (name : List ℕ) (samples gaps : ℕ) → List ℕ
counted_part name samples gaps = codes "output " ++ name ++ codes " samples " ++ decimal samples ++ codes " gaps "
    ++ decimal gaps

-- the line of a report for an output that was rendered: its name, its samples and its gaps
abbrev pub rendered_line : (name : List ℕ) (samples gaps : ℕ) → List ℕ
rendered_line name samples gaps = counted_part name samples gaps ++ codes "\n"

-- the lines of a report for the outputs among these sinks, as a run of the station rendered them
abbrev pub rendered_lines : Station → Run → List SinkPlan → List ℕ
rendered_lines station run [] = []
rendered_lines station run (Output name node fallible wide ∷ sinks) =
    rendered_line name (station.ticks * station.plan.frame) (gaps_of station run node)
    ++ rendered_lines station run sinks
rendered_lines station run (Feed buffer node ∷ sinks) = rendered_lines station run sinks

-- the line of a report for a buffer, by four counts: how many of its puts were accepted and how many found it full,
-- how many of its takes got a chunk and how many found it empty
abbrev pub answers_line : (buffer accepted full got empty : ℕ) → List ℕ
answers_line buffer accepted full got empty =
    codes "buffer " ++ decimal buffer ++ codes " accepted " ++ decimal accepted ++ codes " full " ++ decimal full
    ++ codes " got " ++ decimal got ++ codes " empty " ++ decimal empty ++ codes "\n"

-- the line of a report for a buffer after a rendering: the counts of how its puts and takes were answered in the run
abbrev pub answered_line : Run → (buffer : ℕ) → List ℕ
answered_line run buffer = answers_line buffer
    (count_by is_some (puts_of run buffer)) (count_by is_none (puts_of run buffer))
    (count_by is_some (answers_of run buffer)) (count_by is_none (answers_of run buffer))

-- the lines of a report for these buffers after a rendering, of which the first has the number `buffer`
abbrev pub answered_lines : Run → (buffer : ℕ) → List BufferPlan → List ℕ
answered_lines run buffer [] = []
answered_lines run buffer (plan ∷ plans) = answered_line run buffer ++ answered_lines run (suc buffer) plans

-- the report of a rendering: a line for each output, and then one for each buffer
abbrev pub report_of : Station → Run → List ℕ
report_of station run = rendered_lines station run station.plan.sinks ++ answered_lines run 0 station.plan.buffers

-- the name of a main clock, looked up by its number in `names`; empty for a sub-clock, which has none
abbrev pub main_name : List (List ℕ) → NodeClock → List ℕ
main_name names (Main m) = slice_index_or names m []
main_name names (Sub k) = []

-- the name of the main clock in which a node lies; empty if it lies in a sub-clock
abbrev pub clock_name : ClockMap → (node : ℕ) → List ℕ
clock_name clocks node = main_name clocks.names (slice_index_or clocks.of node (Main 0))

-- the word in a report for a node that always has a cell, or does not
abbrev pub fallible_word : Bool → List ℕ
fallible_word infallible = if infallible then codes "infallible" else codes "fallible"

-- the line in the report of a check for an output: its name, its clock, and whether its node is infallible, which
-- `mark` says
abbrev pub checked_line : ClockMap → (mark : ℕ → Bool) → (name : List ℕ) (node : ℕ) → List ℕ
checked_line clocks mark name node =
    codes "output " ++ name ++ codes " clock " ++ clock_name clocks node ++ codes " " ++ fallible_word (mark node)
    ++ codes "\n"

-- the lines in the report of a check for the outputs among these sinks; `mark` says which nodes are infallible
abbrev pub checked_lines : ClockMap → (mark : ℕ → Bool) → List SinkPlan → List ℕ
checked_lines clocks mark [] = []
checked_lines clocks mark (Output name node fallible wide ∷ sinks) =
    checked_line clocks mark name node ++ checked_lines clocks mark sinks
checked_lines clocks mark (Feed buffer node ∷ sinks) = checked_lines clocks mark sinks

-- the line in the report of a check for a buffer: the main clocks in which its feed and its reader lie, the samples
-- that it gathers before it plays, and the chunks that it may hold
abbrev pub joining_line : (buffer : ℕ) (from to : List ℕ) → BufferPlan → List ℕ
joining_line buffer from to plan =
    codes "buffer " ++ decimal buffer ++ codes " from " ++ from ++ codes " to " ++ to
    ++ codes " pre " ++ decimal plan.pre ++ codes " capacity " ++ decimal plan.capacity ++ codes "\n"

-- the line in the report of a check for a buffer of the station, with its number
abbrev pub buffer_line : Station → (buffer : ℕ) → BufferPlan → List ℕ
buffer_line station buffer plan =
    joining_line buffer (slice_index_or station.clocks.names (feeder (bare station) buffer) [])
    (slice_index_or station.clocks.names (reader (bare station) buffer) []) plan

-- the lines in the report of a check for these buffers of the station, of which the first has the number `buffer`
abbrev pub buffer_lines : Station → (buffer : ℕ) → List BufferPlan → List ℕ
buffer_lines station buffer [] = []
buffer_lines station buffer (plan ∷ plans) = buffer_line station buffer plan ++ buffer_lines station (suc buffer) plans

-- the report of a check: a line for each output, and then one for each buffer; `mark` says which nodes are infallible
abbrev pub check_report_of : Station → (mark : ℕ → Bool) → List ℕ
check_report_of station mark = checked_lines station.clocks mark station.plan.sinks
    ++ buffer_lines station 0 station.plan.buffers
