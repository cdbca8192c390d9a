-- What a function of the evaluator returned, against what evaluation gives.
use Rattle.std.specs.Prelude.{◌≡◌, Result, Ok, Err}
use Rattle.script_values.specs.declared.fault.Stop.{Stop}
use Rattle.script_values.specs.declared.fault.Stop.TheVariants.{Memory, BadSetting, BadValue, TooMuchWork, TooManySources, SameOutput, TooLarge, Stuck}

-- The program's evaluator stopped for this reason, and so does evaluation as it is defined, whose result is `meant`.
-- Only want of memory, which the definition does not know, says nothing of it.
abbrev pub Fails : {Y : Type 0} → Stop → Result Y Stop → Type 0
Fails Memory meant = Unit {0}
Fails BadSetting meant = meant ≡ Err BadSetting
Fails (BadValue at) meant = meant ≡ Err (BadValue at)
Fails TooMuchWork meant = meant ≡ Err TooMuchWork
Fails TooManySources meant = meant ≡ Err TooManySources
Fails (SameOutput name) meant = meant ≡ Err (SameOutput name)
Fails (TooLarge limit) meant = meant ≡ Err (TooLarge limit)
Fails Stuck meant = meant ≡ Err Stuck

-- What a function of the program's evaluator returned is the result of evaluation as it is defined (`meant`): the same
-- value, by way of `view` from program data to plain data, or the same error. Only want of memory says nothing.
abbrev pub Gives : {X Y : Type 0} → (X → Y) → Result X Stop → Result Y Stop → Type 0
Gives view (Ok x) meant = meant ≡ Ok (view x)
Gives view (Err e) meant = Fails e meant
