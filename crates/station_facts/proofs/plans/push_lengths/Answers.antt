use Rattle.std.proofs.Common.{◌≡◌, false, rules}
use Rattle.std.specs.Prelude.{nat_eq}
use Rattle.station_facts.proofs.Each.{join}
use Rattle.station_facts.proofs.plans.push_lengths.Goals as goal

pub returns : goal.returns
returns c =
    let some : nat_eq c.args.windows.count 0 ≡ false = search rules in
    rw some (join c.in_ok-push_number.ensures c.in_ok-push_number-2.ensures)
