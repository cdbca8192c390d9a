-- Texts without a byte, and the letters of answers.
use Rattle.std.specs.List.{list_all}
use Rattle.std.specs.Prelude.{Bool, false, ◌==◌, ◌||◌, ◌≢◌, ℕ, List, [], ◌∷◌, map, if◌then◌else◌}

-- No byte of this text is `stop`. It is said of a piece of a line, which goes on up to the first such byte.
abbrev pub Lacks : ℕ → List ℕ → Type 0
Lacks stop [] = Unit {0}
Lacks stop (b ∷ more) = (b ≢ stop) × Lacks stop more

-- whether a byte is one of the two letters `one` and `other`, which tell the two answers of a put or a take
abbrev pub is_letter : ℕ → ℕ → ℕ → Bool
is_letter one other b = b == one || b == other

-- Whether a text is the letters of some answers, `one` for true and `other` for false. The stroke `-` alone, which is
-- byte 45, is the text for no answer.
abbrev pub are_letters : ℕ → ℕ → List ℕ → Bool
are_letters one other [] = false
are_letters one other (b ∷ []) = b == 45 || is_letter one other b
are_letters one other (b ∷ c ∷ bs) = list_all (is_letter one other) (b ∷ c ∷ bs)

-- The answers that the letters of a trace's line tell: true for the letter `one` and false for another. A stroke `-`
-- alone, which is byte 45, tells no answer.
abbrev pub told_by : ℕ → List ℕ → List Bool
told_by one [] = []
told_by one (b ∷ []) = if b == 45 then [] else (b == one) ∷ []
told_by one (b ∷ c ∷ bs) = map (λ x. x == one) (b ∷ c ∷ bs)
