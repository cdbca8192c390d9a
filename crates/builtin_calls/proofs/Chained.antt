-- A chain of steps that ends at a fault of one of them.
use Rattle.std.proofs.Common.{◌≡◌, Result, Err}
use Rattle.script_values.specs.declared.fault.Stop.{Stop}
use Rattle.script_values.specs.declared.fault.Stop.TheVariants as faults
use Rattle.script_values.specs.Gives.{Fails}

-- the whole fails as the step does, where the whole is the fault if the step is
pub ends_with : {A B : Type 0} (e : Stop) (whole : Result B Stop) (step : Result A Stop) → Fails e step → (step ≡ Err e → whole ≡ Err e) → Fails e whole
ends_with faults.Memory whole step is then = tt
ends_with faults.BadSetting whole step is then = then is
ends_with (faults.BadValue at) whole step is then = then is
ends_with faults.TooMuchWork whole step is then = then is
ends_with faults.TooManySources whole step is then = then is
ends_with (faults.SameOutput name) whole step is then = then is
ends_with (faults.TooLarge limit) whole step is then = then is
ends_with faults.Stuck whole step is then = then is
