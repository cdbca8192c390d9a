-- The state of evaluation: the first one, and what counting work and noting calls make of one.
use Rattle.std.specs.Prelude.{ℕ, ◌+◌, ◌-◌, pos, T, true, false, List, [], ◌++◌, length, take, replicate, nat_le, Result, Ok, Err}
use Rattle.liq_base.specs.declared.limits.TheConstants.{MAX_WORK}
use Rattle.fixed_text.specs.declared.decimal.Decimal.{Decimal}
use Rattle.script_values.specs.declared.machine.Machine.{Machine}
use Rattle.script_values.specs.declared.fault.Stop.{Stop}
use Rattle.script_values.specs.declared.fault.Stop.TheVariants.{TooMuchWork}

-- The decimal number of m millionths, where m is at most 10^15, the bound of decimals.
abbrev pub some_millionths : (m : ℕ) → T (nat_le m 1000000000000000) → Decimal
some_millionths m few = record { millionths = pos m; low = record { le = tt }; high = record { le = few } }

-- The state of evaluation before the first statement: an empty plan of 44100 samples a second and ticks of 0.04 seconds
-- (1764 samples), no work done, and settings still allowed.
abbrev pub first_machine : Machine
first_machine = record {
  plan = record { rate = 44100; frame = 1764; nodes = []; sinks = []; buffers = [] };
  work = 0;
  settings = record { duration = some_millionths 40000 tt; last = 0; statement = 0; allowed = true };
  calls = [];
}

-- Counts `steps` more steps of evaluation in the state. Past the bound on the work of a script it is a fault.
unfoldable pub count_work : ℕ → Machine → Result Machine Stop
count_work steps m =
    elim (nat_le (m.work + steps) MAX_WORK) [
      | true ↦ Ok (record m { work = m.work + steps })
      | false ↦ Err TooMuchWork
    ]

-- For each source the token of the call that made it, once there are so many `sources`: those known so far (`calls`),
-- and the call at token `at` for each further source.
abbrev pub filled : (at : ℕ) → (sources : ℕ) → List ℕ → List ℕ
filled at sources calls = calls ++ replicate (sources - length calls) at

-- Notes in the state m which call made which source: all sources from number `before` on are noted as made by the call
-- at token `at`, also those that calls within it made.
abbrev pub noted_by : (at before : ℕ) → Machine → Machine
noted_by at before m = record m { calls = filled at (length m.plan.nodes) (take before m.calls) }
