-- A text that is cut where it is long.
use Rattle.std.proofs.Common.{◌≡◌, ◌≤◌, ◌<◌, ℕ, zero, suc, ◌+◌, ◌-◌, Bool, true, false, List, [], ◌∷◌, ◌++◌, codes, decimal, drop, length, take, refl, sym, ap, ◌∙◌, arith, append_assoc}
use Rattle.std.specs.Prelude.{nat_le, if◌then◌else◌}
use Rattle.std.proofs.lemmas.Bool.Decides.{nat_tests}
use Rattle.std.proofs.lemmas.List.{length-drop}
use Rattle.plan_picture.specs.Predicates.{shown}

le_to : (a b : ℕ) → a ≤ b → nat_le a b ≡ true
le_to a b h = grind (arith, nat_tests)

gt_to : (a b : ℕ) → b < a → nat_le a b ≡ false
gt_to a b h = grind (arith, nat_tests)

-- the whole from its two parts
parts : (before : ℕ) (text : List ℕ) → take before text ++ drop before text ≡ text
parts zero text = refl
parts (suc n) [] = refl
parts (suc n) (x ∷ xs) = ap (λ (t : List ℕ). x ∷ t) (parts n xs)

take_nil : (n : ℕ) → ◌≡◌ {A = List ℕ} (take n []) []
take_nil zero = refl
take_nil (suc n) = refl

take_on : (before more : ℕ) (text : List ℕ) → take (before + more) text ≡ take before text ++ take more (drop before text)
take_on zero more text =
    let same : zero + more ≡ more = omega arith in
    ap (λ (n : ℕ). take n text) same
take_on (suc n) more [] = take_nil (suc n + more) ∙ sym (take_nil more)
take_on (suc n) more (x ∷ xs) =
    let same : suc n + more ≡ suc (n + more) = omega arith in
    ap (λ (m : ℕ). take m (x ∷ xs)) same ∙ ap (λ (t : List ℕ). x ∷ t) (take_on n more xs)

abbrev end_of : ℕ → List ℕ
end_of count = codes ".. (" ++ decimal count ++ codes " characters)"

pub short : (before count : ℕ) (text : List ℕ) → count ≡ length text - before → count ≤ 200 → text ≡ take before text ++ shown (drop before text)
short before count text is low =
    let rest = drop before text in
    let size : length rest ≡ count = length-drop before text ∙ sym is in
    let whole : shown rest ≡ rest = ap (λ (b : Bool). if b then rest else take 200 rest ++ end_of (length rest)) (le_to (length rest) 200 (omega (arith, size, low))) in
    sym (parts before text) ∙ ap (λ (t : List ℕ). take before text ++ t) (sym whole)

pub long : (before count : ℕ) (text cut : List ℕ) → count ≡ length text - before → 200 < count → cut ≡ take (before + 200) text
    → cut ++ end_of count ≡ take before text ++ shown (drop before text)
long before count text cut is high cut_is =
    let rest = drop before text in
    let size : length rest ≡ count = length-drop before text ∙ sym is in
    let shorter : shown rest ≡ take 200 rest ++ end_of (length rest) =
    ap (λ (b : Bool). if b then rest else take 200 rest ++ end_of (length rest)) (gt_to (length rest) 200 (omega (arith, size, high))) in
    ap (λ (t : List ℕ). t ++ end_of count) (cut_is ∙ take_on before 200 text)
    ∙ append_assoc (take before text) (take 200 rest) (end_of count)
    ∙ ap (λ (n : ℕ). take before text ++ (take 200 rest ++ end_of n)) (sym size)
    ∙ ap (λ (t : List ℕ). take before text ++ t) (sym shorter)

front : (one two : List ℕ) → take (length one) (one ++ two) ≡ one
front [] two = refl
front (x ∷ xs) two = ap (λ (t : List ℕ). x ∷ t) (front xs two)

back : (one two : List ℕ) → drop (length one) (one ++ two) ≡ two
back [] two = refl
back (x ∷ xs) two = back xs two

pub cut_behind : (before : ℕ) (old written text : List ℕ) → before ≡ length old → written ≡ old ++ text
    → take before written ++ shown (drop before written) ≡ old ++ shown text
cut_behind before old written text is wrote =
    ap (λ (w : List ℕ). take before w ++ shown (drop before w)) wrote
    ∙ ap (λ (n : ℕ). take n (old ++ text) ++ shown (drop n (old ++ text))) is
    ∙ ap (λ (t : List ℕ). t ++ shown (drop (length old) (old ++ text))) (front old text)
    ∙ ap (λ (t : List ℕ). old ++ shown t) (back old text)
