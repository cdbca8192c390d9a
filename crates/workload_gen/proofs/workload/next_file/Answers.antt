use Rattle.std.proofs.Common.{◌∙◌, ap, sym}
use Rattle.seed_words.specs.Words.{words_from}
use Rattle.workload_gen.specs.Files.{begin_of}
use Rattle.workload_gen.proofs.Drawing.{next_begin}
use Rattle.workload_gen.proofs.workload.next_file.Goals as goal

pub returns-clause-words : goal.returns-clause-words
returns-clause-words c = λ seed at. c.in_ok-bytes.ensures.words seed (begin_of seed c.args.number) at ∙ ap (words_from seed) (sym (next_begin seed c.args.number))
