-- What clauses see of the sink of a file.
use Rattle.std.specs.Prelude.{ℕ, List, Option}
use Rattle.std.specs.Io.Buffered.{writer_buffer, writer_capacity, writer_contents, writer_inner}
use Rattle.file_sinks.specs.declared.certain.Certain.{Certain}
use Rattle.file_sinks.specs.declared.outputs.FileSink.{FileSink}
use Rattle.file_sinks.specs.declared.outputs.Place.{Place}

-- how often a write to the sink of a file failed
abbrev pub faults_of : {W : Type 0} → FileSink W → ℕ
faults_of sink = sink.to.faults

-- how many bytes the sink of a file took so far
abbrev pub taken_of : {W : Type 0} → FileSink W → ℕ
taken_of sink = sink.taken

-- how many bytes the sink of a file is to take in all, as was said when it was created
abbrev pub room_of : {W : Type 0} → FileSink W → ℕ
room_of sink = sink.room

-- the bytes that the sink of a file holds in memory and has not handed on to its writer yet
abbrev pub kept_of : {W : Type 0} → FileSink W → List ℕ
kept_of sink = writer_buffer sink.to.to

-- All bytes that the sink of a file took, where they are known: those that it handed on to its writer, and behind them
-- those that it still keeps in memory. `contents` tells what a writer got, if that is known.
abbrev pub tells_of : {W : Type 0} → (W → Option (List ℕ)) → FileSink W → Option (List ℕ)
tells_of contents sink = writer_contents contents sink.to.to

-- the writer to which the sink of a file hands on its bytes, as an open file of the system
abbrev pub writer_of : {W : Type 0} → FileSink W → W
writer_of sink = writer_inner sink.to.to

-- how many bytes the sink of a file may keep in memory before it hands them on
abbrev pub capacity_of : {W : Type 0} → FileSink W → ℕ
capacity_of sink = writer_capacity sink.to.to

-- under which name the bytes of a file that is written stand until it is closed: its own, or a temporary one
abbrev pub place_of : {W : Type 0} → FileSink W → Place
place_of sink = sink.place

-- the writer of a file that was written whole and synced, so that all its bytes are certain to be on the disk
abbrev pub certain_writer : {W : Type 0} → Certain W → W
certain_writer certain = certain.writer

-- under which name the bytes of a file stand that was written whole and synced to the disk: its own, or a temporary one
abbrev pub certain_place : {W : Type 0} → Certain W → Place
certain_place certain = certain.place
