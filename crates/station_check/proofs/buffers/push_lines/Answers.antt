use Rattle.std.proofs.Common.{◌<◌, length, arith, ap}
use Rattle.station_check.proofs.Lines.{found_at, lines_told}
use Rattle.station_check.proofs.buffers.push_lines.Goals as goal

pub loop-number-preserved : goal.loop-number-preserved
loop-number-preserved c =
    let k = c.loop-number.number in
    let within : k < length c.args.plan.now.buffers = omega (arith, c.loop-number-test.true, ap length c.as_slice-buffers.ensures) in
    let in_fed : k < length c.args.fed.now = omega (arith, within, c.requires.many_fed) in
    let in_read : k < length c.args.read.now = omega (arith, within, c.requires.many_read) in
    record {
      within = omega (arith, within);
      told = λ station is. lines_told _ _ station _ _ _ _ _ k _ _ _ is c.requires.fed c.requires.read in_fed in_read
          (c.clock_name-from.ensures station is) (c.clock_name-to.ensures station is)
          (found_at _ _ k _ c.as_slice-buffers.ensures c.loop-number-test.true) c.in_ok-push_line.ensures (c.loop-number.invariant.told station is);
    }
