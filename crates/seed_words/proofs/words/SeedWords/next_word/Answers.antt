use Rattle.std.proofs.Common.{◌∙◌, suc, ap}
use Rattle.seed_words.proofs.Drawing.{drew}
use Rattle.seed_words.proofs.words.SeedWords.next_word.Goals as goal

pub returns-clause-words : goal.returns-clause-words
returns-clause-words c = λ seed n at.
    drew seed (suc n) _ _ _ (ap (λ u. u.behind) (c.self.view_is ∙ at)) c.next_word-self-inside.ensures
