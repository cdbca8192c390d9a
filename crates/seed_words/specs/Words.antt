-- The words of a seed, on which everything that is drawn by chance rests.
use Rattle.std.specs.Prelude.{ℕ, zero, suc}
use Rattle.rand_core.specs.Pcg32Seed.{pcg32_seed}
use Rattle.rand_pcg.specs.Lcg.{Lcg}
use Rattle.rand_pcg.specs.Pcg.{pcg32, pcg32_of_seed}

-- the state of the generator of random numbers that begins with this seed, after it gave its first n numbers
unfoldable pub generator_after : (seed n : ℕ) → Lcg
generator_after seed zero = pcg32_of_seed (pcg32_seed 16 seed)
generator_after seed (suc n) = (pcg32 (generator_after seed n)).1

-- the random number, a word of 32 bits, that the generator with this seed gives after its first n
abbrev pub word : (seed n : ℕ) → ℕ
word seed n = (pcg32 (generator_after seed n)).0

-- What a seed still has to give of its random numbers: the next one, and the state of the generator behind it.
pub record Unread : Type 0 where
  pub next : ℕ
  pub behind : Lcg

-- the random numbers that a seed has still to give after its first n
abbrev pub words_from : (seed n : ℕ) → Unread
words_from seed n = record { next = word seed n; behind = generator_after seed (suc n) }
