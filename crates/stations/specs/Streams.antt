-- What the outputs of a station hold, and their gaps.
use Rattle.std.specs.Prelude.{◌≡◌, ℕ, ◌*◌, ◌%◌, Bool, true, false, List, [], ◌∷◌, ◌++◌, Contains, replicate}
use Rattle.liq_base.specs.declared.memory.Kind.{Kind}
use Rattle.plan_core.specs.declared.sink.SinkPlan.{SinkPlan}
use Rattle.plan_core.specs.declared.sink.SinkPlan.TheVariants.{Output, Feed}
use Rattle.fallible_infer.specs.Infallible.{IsMarking}
use Rattle.stream_meaning.specs.Instants.{Setting}
use Rattle.stream_meaning.specs.Sinks.{block_length, kind_of, ticks_bytes, gaps}
use Rattle.wav_io.specs.Header.{header_bytes, wide_header_bytes}
use Rattle.stations.specs.Outputs.{OutputFile, OutputPart}
use Rattle.frame_core.specs.Calls.{Answer}
use Rattle.run_records.specs.Buffers.{main_of}
use Rattle.run_records.specs.Records.{Run}
use Rattle.stations.specs.Stations.{IsBegun, Station, setting_of_run, setting_with}

-- the WAV header of a file with so many samples in each channel, of 24 bits if `wide` says so, and otherwise of 16 bits
abbrev pub header_bytes_at : (wide : Bool) → Kind → (rate samples : ℕ) → List ℕ
header_bytes_at false kind rate samples = header_bytes kind rate samples
header_bytes_at true kind rate samples = wide_header_bytes kind rate samples

-- the WAV header of an output that plays this node for so many ticks; `wide` says that its samples have 24 bits
abbrev pub header_for : Setting → (wide : Bool) → (ticks node : ℕ) → List ℕ
header_for setting wide ticks node = header_bytes_at wide (kind_of setting node) setting.plan.rate
    (ticks * setting.plan.frame)

-- what is written to the file of an output that plays this node for so many ticks: its header, and tick by tick what
-- the node offers; `wide` says that its samples have 24 bits
abbrev pub output_bytes : Setting → (wide : Bool) → (ticks node : ℕ) → List ℕ
output_bytes setting wide ticks node = header_for setting wide ticks node ++ ticks_bytes setting wide node ticks

-- what is written to the file of an output that plays this node when `made` of its ticks are made: its header, which
-- counts all ticks, and what the node offers in these; `wide` says that its samples have 24 bits
abbrev pub front_bytes : Setting → (wide : Bool) → (ticks made node : ℕ) → List ℕ
front_bytes setting wide ticks made node = header_for setting wide ticks node ++ ticks_bytes setting wide node made

-- how many bytes of samples the file of an output that plays this node for so many ticks has after its header; `wide`
-- says that its samples have 24 bits
abbrev pub body_size : Setting → (wide : Bool) → (ticks node : ℕ) → ℕ
body_size setting wide ticks node = ticks * (setting.plan.frame * block_length wide (kind_of setting node))

-- one zero byte after samples of so many bytes, where that is odd
abbrev pub zeros_after : (size : ℕ) → List ℕ
zeros_after size = replicate (size % 2) 0

-- all bytes of the file of an output that plays this node for so many ticks: its header, its samples, and a zero byte
-- where those have an odd number of bytes; `wide` says that its samples have 24 bits
abbrev pub file_bytes : Setting → (wide : Bool) → (ticks node : ℕ) → List ℕ
file_bytes setting wide ticks node = output_bytes setting wide ticks node
    ++ zeros_after (body_size setting wide ticks node)

-- the files of the outputs among these sinks, in their order
abbrev pub outputs_in : Setting → (ticks : ℕ) → List SinkPlan → List OutputFile
outputs_in setting ticks [] = []
outputs_in setting ticks (Output name node fallible wide ∷ sinks) =
    record { name = name; bytes = file_bytes setting wide ticks node } ∷ outputs_in setting ticks sinks
outputs_in setting ticks (Feed buffer node ∷ sinks) = outputs_in setting ticks sinks

-- What the files of the outputs among these sinks hold when a run of so many ticks breaks off. Clock m made just
-- `made m` ticks and began `tried m`. Here `least` has the bytes of the ticks that the output's clock made, and
-- `most` those of the ticks that it began.
abbrev pub parts_in : Setting → (ticks : ℕ) → (made tried : ℕ → ℕ) → List SinkPlan → List OutputPart
parts_in setting ticks made tried [] = []
parts_in setting ticks made tried (Output name node fallible wide ∷ sinks) =
    record {
      name = name;
      least = front_bytes setting wide ticks (made (main_of setting node)) node;
      most = front_bytes setting wide ticks (tried (main_of setting node)) node;
    }
    ∷ parts_in setting ticks made tried sinks
parts_in setting ticks made tried (Feed buffer node ∷ sinks) = parts_in setting ticks made tried sinks

-- What the files of the outputs among these sinks hold where all ticks were made: `least` lacks the zero byte that ends
-- a file with an odd number of bytes of samples, and `most` has it.
abbrev pub ends_in : Setting → (ticks : ℕ) → List SinkPlan → List OutputPart
ends_in setting ticks [] = []
ends_in setting ticks (Output name node fallible wide ∷ sinks) =
    record {
      name = name;
      least = output_bytes setting wide ticks node;
      most = file_bytes setting wide ticks node;
    } ∷ ends_in setting ticks sinks
ends_in setting ticks (Feed buffer node ∷ sinks) = ends_in setting ticks sinks

-- the gaps of the outputs among these sinks, in their order
abbrev pub counts_in : Setting → (ticks : ℕ) → List SinkPlan → List ℕ
counts_in setting ticks [] = []
counts_in setting ticks (Output name node fallible wide ∷ sinks) = gaps setting node ticks
    ∷ counts_in setting ticks sinks
counts_in setting ticks (Feed buffer node ∷ sinks) = counts_in setting ticks sinks

-- all bytes of an output of a node in a run of the station
abbrev pub bytes_of : Station → Run → (wide : Bool) → (node : ℕ) → List ℕ
bytes_of station run wide node = file_bytes (setting_of_run station run) wide station.ticks node

-- at how many instants of a run a node offers nothing
abbrev pub gaps_of : Station → Run → (node : ℕ) → ℕ
gaps_of station run node = gaps (setting_of_run station run) node station.ticks

-- the files of the outputs that a run writes, in sink order
abbrev pub output_files : Station → Run → List OutputFile
output_files station run = outputs_in (setting_of_run station run) station.ticks station.plan.sinks

-- what a run which was broken off has written of its outputs, if the answers of `rest` had followed
abbrev pub parts_with : (station : Station) (run : Run) → IsBegun station run → (rest : ℕ → List Answer)
    → List OutputPart
parts_with station run begun rest = parts_in (setting_with station run rest) station.ticks begun.made begun.tried
    station.plan.sinks

-- What the files of the outputs of a run hold once all its ticks are made: `least` lacks the zero byte that ends a file
-- with an odd number of bytes of samples, and `most` has it.
abbrev pub ends_of : Station → Run → List OutputPart
ends_of station run = ends_in (setting_of_run station run) station.ticks station.plan.sinks

-- the gaps of the outputs of a run, in sink order
abbrev pub gaps_in_order : Station → Run → List ℕ
gaps_in_order station run = counts_in (setting_of_run station run) station.ticks station.plan.sinks

-- an output of an infallible node has no gap
abbrev pub HasNoGaps : Station → Run → Type 0
HasNoGaps station run = (mark : ℕ → Bool) (name : List ℕ) (node : ℕ) (fallible wide : Bool)
    → IsMarking station.plan.nodes mark
    → Contains station.plan.sinks (Output name node fallible wide) → mark node ≡ true → gaps_of station run node ≡ 0
