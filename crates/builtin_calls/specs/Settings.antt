-- The two settings that a script makes. All other keys have no effect.
use Rattle.std.specs.Prelude.{ℕ, ℤ, pos, int_le, unsigned_abs, List, true, false, ◌&&◌, bytes_eq, codes, Result, Ok, Err}
use Rattle.liq_base.specs.declared.limits.TheConstants.{MIN_RATE, MAX_RATE}
use Rattle.fixed_text.specs.declared.decimal.Decimal.{Decimal}
use Rattle.script_values.specs.declared.fault.Stop.{Stop}
use Rattle.script_values.specs.declared.fault.Stop.TheVariants.{BadSetting}
use Rattle.script_values.specs.declared.machine.Machine.{Machine}
use Rattle.script_values.specs.Outcomes.{◌>>=◌, Outcome}
use Rattle.script_values.specs.Values.{Value, Int, Number, UnitValue}

-- Notes in the state of evaluation that the statement at hand makes a setting, or is a fault where none may stand.
-- Settings come first: a setting is a call of `set` at top level that holds no other call, with only settings before
-- it.
abbrev pub settings_opened : Machine → Result Machine Stop
settings_opened m =
    elim m.settings.allowed [
      | true ↦ Ok (record m { settings = record m.settings { last = m.settings.statement } })
      | false ↦ Err BadSetting
    ]

-- Checks a sample rate: gives n samples a second where it is within the bounds, and else the fault of a bad setting.
abbrev pub rate_within : ℤ → Result ℕ Stop
rate_within n =
    elim (int_le (pos MIN_RATE) n && int_le n (pos MAX_RATE)) [
      | true ↦ Ok (unsigned_abs n)
      | false ↦ Err BadSetting
    ]

-- Reads the value of the setting of the sample rate: an int within the bounds. Any other value is a bad setting.
unfoldable pub rate_of : Value → Result ℕ Stop
rate_of (Int n) = rate_within n
rate_of v = Err BadSetting

-- Reads the value of the setting of the tick: a decimal of seconds. Any other value is a bad setting. Its range is
-- checked once all settings are known.
unfoldable pub duration_of : Value → Result Decimal Stop
duration_of (Number d) = Ok d
duration_of v = Err BadSetting

-- Sets the sample rate of the plan, in samples a second. A fault, where settings are over or the value is no such rate.
unfoldable pub set_rate : Value → Machine → Outcome
set_rate v m = do
  c ← settings_opened m
  rate ← rate_of v
  Ok (UnitValue, record c { plan = record c.plan { rate = rate } })

-- Sets how many seconds a tick lasts. A fault, where settings are over or the value is no decimal.
unfoldable pub set_duration : Value → Machine → Outcome
set_duration v m = do
  c ← settings_opened m
  d ← duration_of v
  Ok (UnitValue, record c { settings = record c.settings { duration = d } })

-- What `set` does, by the key: sets the sample rate, or the duration of a tick. Any other key changes nothing.
unfoldable pub setting : List ℕ → Value → Machine → Outcome
setting key v m =
    elim (bytes_eq key (codes "frame.audio.samplerate")) [
      | true ↦ set_rate v m
      | false ↦ elim (bytes_eq key (codes "frame.duration")) [
        | true ↦ set_duration v m
        | false ↦ Ok (UnitValue, m)
      ]
    ]
