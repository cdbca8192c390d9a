-- Texts, one behind the other.
use Rattle.std.proofs.Common.{◌≡◌, ℕ, List, ◌++◌, ap, ◌∙◌, append_assoc}

pub two : (a b c x y : List ℕ) → b ≡ a ++ x → c ≡ b ++ y → c ≡ a ++ (x ++ y)
two a b c x y first second = second ∙ ap (λ (t : List ℕ). t ++ y) first ∙ append_assoc a x y

pub four : (a b c d e w x y z : List ℕ) → b ≡ a ++ w → c ≡ b ++ x → d ≡ c ++ y → e ≡ d ++ z → e ≡ a ++ (w ++ (x ++ (y ++ z)))
four a b c d e w x y z first second third last =
    two a b e w (x ++ (y ++ z)) first (two b c e x (y ++ z) second (two c d e y z third last))

pub seven : (a b c d e f g h s t u w x y z : List ℕ) → b ≡ a ++ s → c ≡ b ++ t → d ≡ c ++ u → e ≡ d ++ w → f ≡ e ++ x → g ≡ f ++ y → h ≡ g ++ z
    → h ≡ a ++ (s ++ (t ++ (u ++ (w ++ (x ++ (y ++ z))))))
seven a b c d e f g h s t u w x y z first second third fourth fifth sixth last =
    two a b h s (t ++ (u ++ (w ++ (x ++ (y ++ z))))) first
    (two b c h t (u ++ (w ++ (x ++ (y ++ z)))) second (two c d h u (w ++ (x ++ (y ++ z))) third (four d e f g h w x y z fourth fifth sixth last)))
