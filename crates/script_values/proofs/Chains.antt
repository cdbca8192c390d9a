-- Steps that end at their first fault.
use Rattle.std.proofs.Common.{◌≡◌, Result, ap, subst}
use Rattle.script_values.specs.declared.fault.Stop.{Stop}
use Rattle.script_values.specs.declared.fault.Stop.TheVariants as faults
use Rattle.script_values.specs.Gives.{Fails}
use Rattle.script_values.specs.Outcomes.{◌>>=◌}

-- a fault ends what comes behind it
pub fails_on : {A B : Type 0} (e : Stop) (r : Result A Stop) (f : A → Result B Stop) → Fails e r → Fails e (r >>= f)
fails_on faults.Memory r f is = tt
fails_on faults.BadSetting r f is = ap (λ (x : Result _ Stop). x >>= f) is
fails_on (faults.BadValue at) r f is = ap (λ (x : Result _ Stop). x >>= f) is
fails_on faults.TooMuchWork r f is = ap (λ (x : Result _ Stop). x >>= f) is
fails_on faults.TooManySources r f is = ap (λ (x : Result _ Stop). x >>= f) is
fails_on (faults.SameOutput name) r f is = ap (λ (x : Result _ Stop). x >>= f) is
fails_on (faults.TooLarge limit) r f is = ap (λ (x : Result _ Stop). x >>= f) is
fails_on faults.Stuck r f is = ap (λ (x : Result _ Stop). x >>= f) is

pub fails_same : {A : Type 0} (e : Stop) (r q : Result A Stop) → r ≡ q → Fails e r → Fails e q
fails_same e r q same is = subst (λ (x : Result _ Stop). Fails e x) same is
