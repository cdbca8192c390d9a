-- One word more of a seed.
use Rattle.std.proofs.Common.{◌≡◌, ◌∙◌, ℕ, suc, ap, refl, sym}
use Rattle.rand_core.specs.Pcg32Seed.{pcg32_seed}
use Rattle.rand_pcg.specs.Lcg.{Lcg}
use Rattle.rand_pcg.specs.Pcg.{pcg32, pcg32_of_seed}
use Rattle.seed_words.specs.Words.{Unread, generator_after, word, words_from}

pub first_generator : (seed : ℕ) → generator_after seed 0 ≡ pcg32_of_seed (pcg32_seed 16 seed)
unfolding generator_after
first_generator seed = refl

next_generator : (seed n : ℕ) → generator_after seed (suc n) ≡ (pcg32 (generator_after seed n)).1
unfolding generator_after
next_generator seed n = refl

abbrev unread : ℕ × Lcg → Unread
unread drawn = record { next = drawn.0; behind = drawn.1 }

read_on : (seed n : ℕ) → unread (pcg32 (generator_after seed n)) ≡ words_from seed n
read_on seed n = ap (λ behind. unread (word seed n, behind)) (sym (next_generator seed n))

-- a word was drawn
pub drew : (seed n next : ℕ) (old behind : Lcg) → old ≡ generator_after seed n → (next, behind) ≡ pcg32 old
    → ◌≡◌ {A = Unread} (record { next = next; behind = behind }) (words_from seed n)
drew seed n next old behind at is = ap unread is ∙ ap (λ g. unread (pcg32 g)) at ∙ read_on seed n
