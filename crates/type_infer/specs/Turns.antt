-- What typing one statement more comes to.
use Rattle.std.specs.Prelude.{ℕ, ◌+◌, Bool, true, false}
use Rattle.script_grammar.specs.Tree.{Script}
use Rattle.typing_rules.specs.Scripts.{Targets, first_of}
use Rattle.type_infer.specs.Clashes.{IsClashAt}
use Rattle.type_infer.specs.States.{IsAfter}
use Rattle.type_infer.specs.declared.steps.Typing.{Typing}

-- What the answer of typing on statement i (counted from 0) among the first n of the `script` means. True: t is the
-- state of typing after it; false: it is the first clash of types. `targets` says what the script's names mean.
abbrev pub IsTurned : Targets → Script → ℕ → ℕ → Typing → Bool → Type 0
IsTurned targets script n i t true = IsAfter targets (first_of (i + 1) script) t
IsTurned targets script n i t false = IsClashAt targets script n (i + 1)
