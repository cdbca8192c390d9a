-- What was read of the words. Only private functions cite this.
use Rattle.std.specs.Prelude.{List, ℕ, Option, Some, None, option_map}
use Rattle.std.specs.Borrow.{Bor}
use Rattle.station_jobs.specs.Words.{Asked, Check, Make, Options, Render, Rendering, Replay, rendering_by}
use Rattle.station_jobs.specs.declared.form.Form.{Form}
use Rattle.station_jobs.specs.declared.form.Form.TheVariants.{Check as checks, Alone as alone, Threads as threads, Make as makes, Replay as replays}
use Rattle.station_jobs.specs.declared.form.Rendering.{Rendering as ReadRendering}
use Rattle.station_jobs.specs.declared.options.Options.{Options as ReadOptions}

-- The bytes of a file name that a word may have said; `None` where no word said one.
abbrev pub named : Option (Bor (List ℕ)) → Option (List ℕ)
named name = option_map (λ name. name.now) name

-- The options that the program read from the words of a call, as plain data for the specification.
abbrev pub options_of : ReadOptions → Options
options_of options = record {
  one_thread = options.one_thread;
  window = option_map (λ window. window.ticks) options.window;
  start = option_map (λ start. start.second) options.start;
  trace = named options.trace;
  cues = options.cues;
}

-- The rendering that the program read from the words of a call, as plain data: its script, start, ticks, trace and cue
-- files.
abbrev pub rendering_read : ReadRendering → Rendering
rendering_read asked =
    rendering_by asked.file.now asked.start.second asked.ticks.count (named asked.trace) asked.cues

-- What a call asks for, as plain data, from the form that the program read its words as: a check, a rendering on one
-- thread or by threads, a workload or a replay.
abbrev pub asked_of : Form → Asked
asked_of (checks file) = Check file.now
asked_of (alone asked) = Render (rendering_read asked) None
asked_of (threads asked window) = Render (rendering_read asked) (Some window.ticks)
asked_of (makes seed size) = Make seed size.files
asked_of (replays file start ticks trace) = Replay file.now start.second ticks.count trace.now
