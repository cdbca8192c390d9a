use Rattle.std.proofs.Common.{◌∙◌, sym}
use Rattle.seed_words.proofs.Drawing.{drew, first_generator}
use Rattle.seed_words.proofs.words.SeedWords.new.Goals as goal

pub returns : goal.returns
returns c = drew c.args.seed 0 _ _ _ (c.seed_from_u64-behind.ensures ∙ sym (first_generator c.args.seed)) c.next_word-next.ensures
