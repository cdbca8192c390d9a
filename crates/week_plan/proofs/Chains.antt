-- Three and four texts, one behind the other.
use Rattle.std.proofs.Common.{◌≡◌, ℕ, List, ◌++◌, ap, ◌∙◌, append_assoc}

pub three : (a b c d x y z : List ℕ) → b ≡ a ++ x → c ≡ b ++ y → d ≡ c ++ z → d ≡ a ++ (x ++ (y ++ z))
three a b c d x y z first second third =
    third ∙ ap (λ (t : List ℕ). t ++ z) (second ∙ ap (λ (t : List ℕ). t ++ y) first)
    ∙ append_assoc (a ++ x) y z ∙ append_assoc a x (y ++ z)

pub four : (a b c d e w x y z : List ℕ) → b ≡ a ++ w → c ≡ b ++ x → d ≡ c ++ y → e ≡ d ++ z → e ≡ a ++ (w ++ (x ++ (y ++ z)))
four a b c d e w x y z first second third last =
    three b c d e x y z second third last ∙ ap (λ (t : List ℕ). t ++ (x ++ (y ++ z))) first ∙ append_assoc a w (x ++ (y ++ z))
