-- The plan of a script and the calls of its sources: its statements in order, and the end of its settings.
use Rattle.std.specs.Prelude.{◌≡◌, ℕ, ◌+◌, ℤ, pos, int_le, nat_le, List, [], ◌∷◌, ◌++◌, Bool, true, false, ◌&&◌, Option, Some, None, Result, Ok, Err, ⊤}
use Rattle.std.specs.List.{list_any}
use Rattle.liq_base.specs.declared.limits.TheConstants.{MAX_FRAME, MAX_CALLS}
use Rattle.fixed_text.specs.Texts.{samples_in}
use Rattle.script_grammar.specs.Tree.{Tree, Many, none, more, AStmt, APart, Stmt, BindPart, DefPart, CallPart, IfPart, Bind, Script}
use Rattle.plan_core.specs.declared.plan.Plan.{Plan}
use Rattle.plan_core.specs.Plans.{is_output}
use Rattle.typing_rules.specs.declared.uses.Use.{Use}
use Rattle.script_values.specs.declared.fault.Stop.{Stop}
use Rattle.script_values.specs.declared.fault.EvalFault.{EvalFault}
use Rattle.script_values.specs.declared.fault.EvalFault.TheVariants as told
use Rattle.script_values.specs.declared.machine.Machine.{Machine}
use Rattle.script_values.specs.Faults.{fault_in}
use Rattle.script_values.specs.Machines.{first_machine}
use Rattle.script_values.specs.Outcomes.{◌>>=◌}
use Rattle.script_values.specs.Slots.{SlotValue}
use Rattle.eval_meaning.specs.Calls.{is_setting}
use Rattle.eval_meaning.specs.Meaning.{Surroundings, full, call, choice, call_by}

-- the environment in which a statement is evaluated: `globals` are the values of the statements before it, and up to 16
-- calls may run within each other
abbrev pub top_scope : Script → List Use → List SlotValue → Surroundings
top_scope script uses globals = record {
  uses = uses;
  slots = globals;
  kinds = [];
  call = call_by (record { script = script; uses = uses; globals = globals }) MAX_CALLS;
}

-- What a statement makes of `slots`, the values of the bindings before it, and of the state: a binding adds its value.
-- A call or an `if` that is a whole statement counts no step of work itself.
unfoldable pub statement : Surroundings → Tree APart → List SlotValue → Machine
    → Result (List SlotValue × Machine) Stop
statement s (BindPart (Bind at name f)) slots m = full s f m >>= λ x. Ok (slots ++ (at, x.0) ∷ [], x.1)
statement s (DefPart d) slots m = Ok (slots, m)
statement s (CallPart c) slots m = call s c m >>= λ x. Ok (slots, x.1)
statement s (IfPart i) slots m = choice s i m >>= λ x. Ok (slots, x.1)

-- why a script has no plan: its fault, or none where a value has a wrong type, which no typed script comes to
abbrev pub Ending : Type 0
Ending = Option EvalFault

-- a step, and the next one over what it gives; the first fault ends the script
abbrev pub and_then : {A B : Type 0} → Result A Ending → (A → Result B Ending) → Result B Ending
and_then (Ok x) f = f x
and_then (Err e) f = Err e

-- what a step in statement n gives, with its stop told as a fault of the script
abbrev pub ending_in : {A : Type 0} → ℕ → Result A Stop → Result A Ending
ending_in n (Ok x) = Ok x
ending_in n (Err e) = Err (fault_in n e)

-- whether a tick of this duration, in millionths of a second, has from 1 to MAX_FRAME samples at this rate
abbrev pub is_tick : ℤ → ℕ → Bool
is_tick duration rate = int_le (pos 0) duration
    && (nat_le 1 (samples_in duration rate) && nat_le (samples_in duration rate) MAX_FRAME)

-- how many samples a tick of this duration has, in millionths of a second; none if it is no length for a tick
abbrev pub tick_of : ℤ → ℕ → Option ℕ
tick_of duration rate = elim (is_tick duration rate) [ true ↦ Some (samples_in duration rate) | false ↦ None ]

-- the end of the settings: the plan gets a tick of `frame` samples, and no setting is allowed any more; without a
-- tick the last setting was bad
abbrev pub closed : Machine → Option ℕ → Result Machine Ending
closed m (Some frame) = Ok (record m {
  plan = record m.plan { frame = frame };
  settings = record m.settings { allowed = false };
})
closed m None = Err (Some (told.BadSetting m.settings.last))

-- The end of the settings: the tick is that of the duration and of the rate in force, whichever was set first. A bad
-- one is blamed on the last statement that set either.
unfoldable pub settings_ended : Machine → Result Machine Ending
settings_ended m = closed m (tick_of m.settings.duration.millionths m.plan.rate)

-- What is done before a statement, where the flag says whether it is a setting. If it is none and settings were still
-- allowed, they end here; else the state stays as it was.
abbrev pub settings_settled : Bool → Machine → Result Machine Ending
settings_settled true m = Ok m
settings_settled false m = elim m.settings.allowed [ true ↦ settings_ended m | false ↦ Ok m ]

-- the state (the machine), which now has n as the number of the statement that is evaluated
abbrev pub numbered : ℕ → Machine → Machine
numbered n m = record m { settings = record m.settings { statement = n } }

-- Statement number n evaluated: the values of bindings and the state after it; `slots` and m are those before. If it is
-- no setting, and settings were still allowed, these end first.
unfoldable pub turned : Script → List Use → Tree APart → ℕ → List SlotValue → Machine
    → Result (List SlotValue × Machine) Ending
turned script uses part n slots m = and_then (settings_settled (is_setting uses part) m)
    (λ b. ending_in n (statement (top_scope script uses slots) part slots (numbered n b)))

-- the state behind these statements, which follow the first n of the script; `slots` has the values that the first n
-- have bound
unfoldable pub statements : Script → List Use → Tree (Many AStmt) → ℕ → List SlotValue → Machine → Result Machine Ending
statements script uses none n slots m = settings_settled false m
statements script uses (more (Stmt part semicolon) rest) n slots m = and_then (turned script uses part (n + 1) slots m)
    (λ x. statements script uses rest (n + 1) x.0 x.1)

-- the plan of the state behind all statements; without an output there is none
abbrev pub plan_of : Machine → Result Plan Ending
plan_of m =
    elim (list_any is_output m.plan.sinks) [
      | true ↦ Ok m.plan
      | false ↦ Err (Some told.NoOutput)
    ]

-- the state (the machine) after all statements of a script, or the script's first fault
abbrev pub ran : Script → List Use → Result Machine Ending
ran script uses = statements script uses script 0 [] first_machine

-- what a script means, where its names stand for these uses: its plan, or its first fault
abbrev pub evaluation : Script → List Use → Result Plan Ending
evaluation script uses = and_then (ran script uses) plan_of

-- the plan of the state behind all statements, with the calls of its sources
abbrev pub sources_of : Machine → Result (Plan × List ℕ) Ending
sources_of m = and_then (plan_of m) (λ plan. Ok (plan, m.calls))

-- the plan of a script, and for each of its sources the token of the call that made it: of calls that run within each
-- other, the outermost; or its first fault
abbrev pub sources : Script → List Use → Result (Plan × List ℕ) Ending
sources script uses = and_then (ran script uses) sources_of

-- the fault that the program's evaluation returned is the defined one, `meant`; only want of memory may be told at
-- any time
abbrev pub Ends : {Y : Type 0} → EvalFault → Result Y Ending → Type 0
Ends told.Memory meant = ⊤
Ends (told.BadSetting n) meant = meant ≡ Err (Some (told.BadSetting n))
Ends (told.BadValue n at) meant = meant ≡ Err (Some (told.BadValue n at))
Ends (told.TooMuchWork n) meant = meant ≡ Err (Some (told.TooMuchWork n))
Ends told.TooManySources meant = meant ≡ Err (Some told.TooManySources)
Ends told.NoOutput meant = meant ≡ Err (Some told.NoOutput)
Ends (told.SameOutput name) meant = meant ≡ Err (Some (told.SameOutput name))
Ends (told.TooLarge limit) meant = meant ≡ Err (Some (told.TooLarge limit))

-- what the program's evaluation returned, seen by `view`, is the defined result `meant`; only want of memory may be
-- told in its place
abbrev pub Answers : {X Y : Type 0} → (X → Y) → Result X EvalFault → Result Y Ending → Type 0
Answers view (Ok x) meant = meant ≡ Ok (view x)
Answers view (Err e) meant = Ends e meant
