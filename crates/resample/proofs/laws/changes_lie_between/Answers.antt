use Rattle.std.proofs.Common.{arith}
use Rattle.resample.proofs.Formulas.{resampled_at, same_rate, sample_lies}
use Rattle.resample.proofs.laws.changes_lie_between.Goals as goal

pub returns : goal.returns
returns c = record {
  between = λ from to kind samples j side rates below less. rw (resampled_at from to kind samples j side below less) (sample_lies from to kind samples j side rates);
  unchanged = λ rate kind samples rates file. same_rate rate kind samples rates.some file;
}
