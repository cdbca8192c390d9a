-- A clash among the statements without a fault of names.
use Rattle.std.specs.Prelude.{ℕ, ◌<◌, ◌≤◌, ◌-◌, ⊤}
use Rattle.script_grammar.specs.Tree.{Script}
use Rattle.typing_rules.specs.declared.fault.TypeFault.{TypeFault}
use Rattle.typing_rules.specs.declared.fault.TypeFault.TheVariants as fault
use Rattle.typing_rules.specs.Scripts.{HasTyping, Targets, first_of}
use Rattle.type_steps.specs.Statements.{HasNoTypings}

-- Statement k (counted from 1) of the script is the first clash of types among the first n: those before it can be
-- typed, and with it they cannot. `targets` says what the names mean.
pub record IsClashAt (targets : Targets) (script : Script) (n k : ℕ) : Type 0 where
  pub first : 0 < k
  pub last : k ≤ n
  pub before : HasTyping targets (first_of (k - 1) script)
  pub none : HasNoTypings targets (first_of k script)

-- The fault is one that typing may tell of the first n statements of a script: a first clash of types, or want of
-- memory. Faults of names are none of these. `targets` says what the names mean.
abbrev pub IsClashIn : Targets → Script → ℕ → TypeFault → Type 0
IsClashIn targets script n (fault.TypeClash k) = IsClashAt targets script n k
IsClashIn targets script n fault.Memory = ⊤
IsClashIn targets script n (fault.UnknownName k at) = ⊥
IsClashIn targets script n (fault.MissingArgument k at label) = ⊥
IsClashIn targets script n (fault.ExtraArgument k at) = ⊥
IsClashIn targets script n (fault.RepeatedName k at) = ⊥
