use Rattle.std.proofs.Common.{rules, ◌≡◌, ◌∙◌}
use Rattle.seed_words.specs.Words.{word}
use Rattle.workload_gen.proofs.Drawing.{next_is}
use Rattle.workload_gen.proofs.track.next_sample.Goals as goal

pub returns-clause-sample : goal.returns-clause-sample
returns-clause-sample c = λ seed n at.
    let is : c.next_word.result ≡ word seed n = c.next_word.ensures.word ∙ next_is seed n c.args.words.now at in
    search rules
