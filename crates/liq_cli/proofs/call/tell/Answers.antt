use Rattle.std.proofs.Common.{refl, inl, inr}
use Rattle.liq_cli.proofs.call.tell.Goals as goal

pub returns-in-Ok : goal.returns-in-Ok
returns-in-Ok g c = inl (refl, rw c.as_bytes.ensures.value at c.in-Ok.ensures.took)

pub returns-in-Err : goal.returns-in-Err
returns-in-Err g c = inr (refl, rw c.as_bytes.ensures.value at c.in-Err.ensures.part)
