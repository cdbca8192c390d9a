use Rattle.std.proofs.Common.{◌∙◌, refl, inl, inr}
use Rattle.liq_cli.proofs.call.refuse.Goals as goal

pub returns-in-Ok : goal.returns-in-Ok
returns-in-Ok g c = inr (rw (c.as_str.ensures.value ∙ c.in-Ok.ensures) at c.tell.ensures)

pub returns-in-Err : goal.returns-in-Err
returns-in-Err g c = inl (refl, refl)
