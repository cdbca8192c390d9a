-- Clocks in a list in which buffers lead onward.
use Rattle.std.specs.Prelude.{◌≡◌, ◌<◌, ℕ, suc, List, [], ◌∷◌, ◌++◌, length, nat_eq, if◌then◌else◌}
use Rattle.stream_meaning.specs.Instants.{Setting}
use Rattle.run_records.specs.Buffers.{feeder, reader}
use Rattle.trace_records.specs.Clocks.{Joins}

-- how often clock m stands in a list of clocks
abbrev pub seen : ℕ → List ℕ → ℕ
seen m [] = 0
seen m (k ∷ ks) = if nat_eq k m then suc (seen m ks) else seen m ks

-- Each of clocks 0 to `clocks - 1` stands in the listing once, and for each buffer that joins two clocks the clock that
-- feeds it stands before the clock that reads it.
pub record LeadOnward (base : Setting) (clocks : ℕ) (listing : List ℕ) : Type 0 where
  pub all : (m : ℕ) → m < clocks → seen m listing ≡ 1
  pub each : (before behind : List ℕ) (m : ℕ) → listing ≡ before ++ m ∷ behind → m < clocks
  pub onward : (before behind : List ℕ) (m b : ℕ) → listing ≡ before ++ m ∷ behind → b < length base.plan.buffers
      → Joins base b → reader base b ≡ m → seen (feeder base b) before ≡ 1
