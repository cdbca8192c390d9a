use Rattle.std.proofs.Common.{◌+◌, pos, get_or, sym, subst, w32, FitsSigned, rules}
use Rattle.std.specs.Simd.Lanes.{chunk, Each1}
use Rattle.sample_kernels.proofs.Lanes.{eight_of, back}
use Rattle.sample_kernels.proofs.loading.load_sums.Goals as goal

pub returns : goal.returns
returns c =
    let f0 : FitsSigned w32 (get_or c.args.sums.now c.args.at (pos 0)) = search rules in
    let f1 : FitsSigned w32 (get_or c.args.sums.now (c.args.at + 1) (pos 0)) = search rules in
    let f2 : FitsSigned w32 (get_or c.args.sums.now (c.args.at + 2) (pos 0)) = search rules in
    let f3 : FitsSigned w32 (get_or c.args.sums.now (c.args.at + 3) (pos 0)) = search rules in
    let f4 : FitsSigned w32 (get_or c.args.sums.now (c.args.at + 4) (pos 0)) = search rules in
    let f5 : FitsSigned w32 (get_or c.args.sums.now (c.args.at + 5) (pos 0)) = search rules in
    let f6 : FitsSigned w32 (get_or c.args.sums.now (c.args.at + 6) (pos 0)) = search rules in
    let f7 : FitsSigned w32 (get_or c.args.sums.now (c.args.at + 7) (pos 0)) = search rules in
    let fit = subst (Each1 (FitsSigned w32)) (sym (eight_of c.args.sums.now c.args.at (pos 0) c.requires)) (f0, (f1, (f2, (f3, (f4, (f5, (f6, (f7, tt)))))))) in
    record { lanes = back w32 (chunk c.args.at 8 c.args.sums.now) fit; fit = fit }
