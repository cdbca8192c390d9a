use Rattle.station_facts.proofs.Each.{join}
use Rattle.station_facts.proofs.plans.push_output.Goals as goal

pub returns-in_ok-end-in-Output : goal.returns-in_ok-end-in-Output
returns-in_ok-end-in-Output c =
    rw c.in-Output.is
    (join c.in_ok-begin-in-Output.ensures (join (join (rw c.as_str.ensures.same at c.in_ok-push_text-in-Output.ensures)
    (join (rw c.from.ensures at c.in_ok-push_number-in-Output.ensures) (join (rw c.bits_of.ensures at c.in_ok-push_number-in-Output-2.ensures)
    (join c.in_ok-push_flag-in-Output.ensures (join (rw c.as_slice.ensures at c.in_ok-push_sides-in-Output.ensures)
    c.in_ok-push_clock-in-Output.ensures))))) c.in_ok-end-in-Output.ensures))
