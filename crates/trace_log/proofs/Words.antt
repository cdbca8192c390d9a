-- A word at the front of a text, and the parts of line 0.
use Rattle.std.proofs.Common.{◌≡◌, ◌≢◌, ℕ, List, ◌∷◌, ◌++◌, sym, ap, ◌∙◌, Option, None, Some, IfSome, IsSomeAnd, MatchOption, append_assoc, Bor, codes, decimal}
use Rattle.std.proofs.lemmas.List.{append_cancel_left}
use Rattle.trace_log.specs.Texts.{header, letters, line}
use Rattle.buffer_ends.specs.Local.{Answers}

pub word_found : (s p : List ℕ) (r : Option (Bor (List ℕ))) → MatchOption r ((rest : List ℕ) → s ≢ p ++ rest) (λ x. s ≡ p ++ x.now) → IfSome r (λ x. s ≡ p ++ x.now)
word_found s p None m = tt
word_found s p (Some x) m = m

pub word_only : (s p : List ℕ) (r : Option (Bor (List ℕ))) → MatchOption r ((rest : List ℕ) → s ≢ p ++ rest) (λ x. s ≡ p ++ x.now) → (f : List ℕ) → s ≡ p ++ f → IsSomeAnd r (λ x. x.now ≡ f)
word_only s p None m f e = absurd (m f e)
word_only s p (Some x) m f e = append_cancel_left p x.now f (sym m ∙ e)

pub parts : (a d1 e1 d2 e2 d3 e3 f : List ℕ) → (a ++ d1 ++ e1 ++ d2 ++ e2 ++ d3 ++ e3) ++ f ≡ a ++ (d1 ++ (e1 ++ (d2 ++ (e2 ++ (d3 ++ (e3 ++ f))))))
parts a d1 e1 d2 e2 d3 e3 f = simp append_assoc

pub header_parts : (n w b : ℕ) (f : List ℕ) → header n w b ++ f ≡ codes "liq trace 1 " ++ (decimal n ++ 32 ∷ (decimal w ++ 32 ∷ (decimal b ++ 10 ∷ f)))
unfolding header
header_parts n w b f = parts (codes "liq trace 1 ") (decimal n) (codes " ") (decimal w) (codes " ") (decimal b) (codes "\n") f

pub header_joins : (n w b : ℕ) (text r1 r2 r3 f : List ℕ) → text ≡ codes "liq trace 1 " ++ r1 → r1 ≡ decimal n ++ 32 ∷ r2 → r2 ≡ decimal w ++ 32 ∷ r3 → r3 ≡ decimal b ++ 10 ∷ f
    → text ≡ header n w b ++ f
header_joins n w b text r1 r2 r3 f p q r s =
    p ∙ ap (λ (t : List ℕ). codes "liq trace 1 " ++ t) (q ∙ ap (λ (t : List ℕ). decimal n ++ 32 ∷ t) (r ∙ ap (λ (t : List ℕ). decimal w ++ 32 ∷ t) s)) ∙ sym (header_parts n w b f)

pub parts_of_line : (a d e b g p h t k f : List ℕ) → (a ++ d ++ e ++ b ++ g ++ p ++ h ++ t ++ k) ++ f ≡ a ++ (d ++ (e ++ (b ++ (g ++ (p ++ (h ++ (t ++ (k ++ f))))))))
parts_of_line a d e b g p h t k f = simp append_assoc

pub line_parts : (j i : ℕ) (log : Answers) (f : List ℕ) → line j i log ++ f ≡ codes "window " ++ (decimal j ++ 32 ∷ (codes "buffer " ++ (decimal i ++ 32 ∷ (codes "puts "
    ++ (letters 65 70 log.puts ++ 32 ∷ (codes "takes " ++ (letters 71 69 log.takes ++ 10 ∷ f)))))))
unfolding line
line_parts j i log f = parts_of_line (codes "window ") (decimal j) (codes " buffer ") (decimal i) (codes " puts ") (letters 65 70 log.puts) (codes " takes ") (letters 71 69 log.takes) (codes "\n") f

pub line_joins : (j i : ℕ) (log : Answers) (text r1 r2 r3 f : List ℕ) → text ≡ codes "window " ++ (decimal j ++ 32 ∷ r1) → r1 ≡ codes "buffer " ++ (decimal i ++ 32 ∷ r2)
    → r2 ≡ codes "puts " ++ (letters 65 70 log.puts ++ 32 ∷ r3) → r3 ≡ codes "takes " ++ (letters 71 69 log.takes ++ 10 ∷ f) → text ≡ line j i log ++ f
line_joins j i log text r1 r2 r3 f a b c d =
    let puts : r2 ≡ codes "puts " ++ (letters 65 70 log.puts ++ 32 ∷ (codes "takes " ++ (letters 71 69 log.takes ++ 10 ∷ f))) = c ∙ ap (λ (t : List ℕ). codes "puts " ++ (letters 65 70 log.puts ++ 32 ∷ t)) d in
    let buffer : r1 ≡ codes "buffer " ++ (decimal i ++ 32 ∷ (codes "puts " ++ (letters 65 70 log.puts ++ 32 ∷ (codes "takes " ++ (letters 71 69 log.takes ++ 10 ∷ f))))) = b ∙ ap (λ (t : List ℕ). codes "buffer " ++ (decimal i ++ 32 ∷ t)) puts in
    a ∙ ap (λ (t : List ℕ). codes "window " ++ (decimal j ++ 32 ∷ t)) buffer ∙ sym (line_parts j i log f)
