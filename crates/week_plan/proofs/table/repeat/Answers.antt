use Rattle.std.proofs.Common.{◌<◌, ◌-◌, ◌∙◌, ℕ, length, get_or, ap, sym, arith}
use Rattle.std.proofs.Math.ListN.{length-set}
use Rattle.std.proofs.Math.Nat.{mod-eq_of_lt}
use Rattle.week_plan.proofs.Tables.{repeated_more, repeated_told, small_set}
use Rattle.week_plan.proofs.table.repeat.Goals as goal

pub loop-k-init : goal.loop-k-init
loop-k-init c = record {
  size = c.requires.into.size;
  small = c.requires.into.small;
  done = λ j low. ap (λ (n : ℕ). get_or c.args.into.now n 0) (sym (mod-eq_of_lt low));
}

pub loop-k-preserved : goal.loop-k-preserved
loop-k-preserved c =
    let k = c.loop-k.k in
    let words = c.loop-k.into in
    let w = get_or words (k - c.args.minutes) 0 in
    let here : k < length words = omega (arith, c.loop-k-test.true, c.loop-k.invariant.size) in
    record {
      size = length-set words k w ∙ c.loop-k.invariant.size;
      small = small_set words k w here c.loop-k.invariant.small (c.loop-k.invariant.small (k - c.args.minutes));
      done = repeated_more c.args.into.now words c.args.minutes k here (omega arith) c.requires.some c.loop-k.invariant.done;
    }

pub returns-clause-same : goal.returns-clause-same
returns-clause-same c = repeated_told c.args.into.now c.loop-k.into c.args.minutes c.requires.some (λ j low. c.loop-k.invariant.done j (omega (arith, c.loop-k-test.false, low)))
