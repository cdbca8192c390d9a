use Rattle.std.proofs.Common.{◌≡◌, ◌+◌, ◌++◌, ℕ}
use Rattle.seed_words.specs.Words.{words_from}
use Rattle.workload_gen.specs.Files.{drawn_bytes}
use Rattle.workload_gen.proofs.track.draw.Given as goal

abbrev pub invariant-loop : goal.invariant-loop
invariant-loop l = (seed from : ℕ) → l.fn.words ≡ words_from seed from → (l.words ≡ words_from seed (from + l.counter)) × (l.bytes.items ≡ l.fn.bytes.items ++ drawn_bytes seed from l.counter)
