use Rattle.std.proofs.Common.{drop}
use Rattle.station_jobs.specs.Read.{options_of}
use Rattle.station_jobs.specs.Words.{AreOptions, Options, no_options, texts}
use Rattle.station_jobs.proofs.options.read_options.Given as goal

-- all words say what those that are left say beside the options so far
abbrev pub invariant-loop-word : goal.invariant-loop-word
invariant-loop-word l = record {
  found : (all : Options) → AreOptions (options_of l.options) (texts (drop l.word-index l.words)) all → AreOptions no_options (texts l.words) all;
  only : (all : Options) → AreOptions no_options (texts l.words) all → AreOptions (options_of l.options) (texts (drop l.word-index l.words)) all;
}
