use Rattle.std.proofs.Common.{◌≡◌, map}
use Rattle.seed_words.specs.Words.{words_from}
use Rattle.workload_gen.specs.Files.{begin_of, file_of, tracks}
use Rattle.workload_gen.proofs.workload.make.Given as goal

abbrev pub invariant-loop-number : goal.invariant-loop-number
invariant-loop-number l = (l.words ≡ words_from l.seed (begin_of l.seed l.number)) × (map file_of l.files.items ≡ tracks l.seed l.number)
