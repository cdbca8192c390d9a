use Rattle.std.proofs.Common.{◌≡◌, ◌∙◌, ◌*◌, ◌/◌, ap, sym, max, arith}
use Rattle.resample.specs.Resampled.{output_length}
use Rattle.resample.proofs.Moves.{same_length}
use Rattle.resample.proofs.rates.length.Goals as goal

pub returns : goal.returns
returns c =
    let count = c.args.count in
    let from = c.args.from in
    let to = c.args.to in
    let turned : c.max.result ≡ max (count * to / from) 1 =
    c.max.ensures
    ∙ ap (λ n. max (count * n / c.from-2.result) 1) c.from.ensures
    ∙ ap (λ n. max (count * to / n) 1) c.from-2.ensures in
    let is : c.max.result ≡ output_length count from to = omega (arith, turned) in record {
      length = is;
      some = omega (arith, turned);
      unchanged = λ same. is ∙ ap (λ n. output_length count from n) (sym same) ∙ same_length count from c.requires.some c.requires.rates.some;
    }
