-- The walk from a clock up to its main clock.
use Rattle.std.proofs.Common.{◌≡◌, ℕ, zero, suc, ap, refl}
use Rattle.clock_infer.specs.declared.clock_map.NodeClock.{NodeClock}
use Rattle.clock_infer.specs.declared.clock_map.NodeClock.TheVariants.{Main, Sub}
use Rattle.run_records.specs.Buffers.{main_within}
use Rattle.stream_meaning.specs.Instants.{Setting}

-- no step is left, or none is needed
pub walked : (setting : Setting) (depth : ℕ) (clock : NodeClock) → depth ≡ 0 → main_within setting depth clock ≡ main_within setting 0 clock
walked setting depth clock is = ap (λ n. main_within setting n clock) is

pub arrived : (setting : Setting) (depth : ℕ) (clock : NodeClock) → ((k : ℕ) → clock ≡ Sub k → ⊥) → main_within setting depth clock ≡ main_within setting 0 clock
arrived setting zero clock main = refl
arrived setting (suc depth) (Main m) main = refl
arrived setting (suc depth) (Sub k) main = absurd (main k refl)
