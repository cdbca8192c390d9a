use Rattle.std.proofs.Common.{◌∙◌, ap, length, arith}
use Rattle.std.specs.Prelude.{slice_index_or}
use Rattle.general_types.proofs.Counting.{count_at, counts_many}
use Rattle.general_types.proofs.generalising.open_before.Goals as goal

pub bounds-counts-number : goal.bounds-counts-number
bounds-counts-number c =
    let many = ap length c.requires.counts ∙ counts_many 0 c.args.parameters.now in
    omega (arith, many, c.requires.inside)

pub returns : goal.returns
returns c =
    let at = count_at 0 c.args.parameters.now c.args.number 0 c.requires.inside in
    ap (λ ns. slice_index_or ns c.args.number 0) c.requires.counts ∙ count_at 0 c.args.parameters.now c.args.number 0 c.requires.inside ∙ omega arith
