use Rattle.std.proofs.Common.{◌≡◌, rules, length, replicate, sym, subst, refl}
use Rattle.std.specs.Simd.Lanes.{Each2}
use Rattle.sample_kernels.specs.Samples.{IsSumOf}
use Rattle.op_mix.proofs.Levels.{each_of}
use Rattle.op_mix.proofs.lane.level_all.Goals as goal

pub divide-requires-clause-sums : goal.divide-requires-clause-sums
divide-requires-clause-sums c =
    let filled : c.fill.new.self ≡ replicate (length c.args.sums.now) c.args.parts = search rules in
    subst (λ l. Each2 IsSumOf l c.args.sums.now) (sym filled) (each_of c.args.parts c.args.sums.now (length c.args.sums.now) refl c.requires.sums)
