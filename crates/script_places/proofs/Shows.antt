-- Characters as they are shown, one by one.
use Rattle.std.proofs.Common.{◌≡◌, ℕ, zero, suc, ◌+◌, ◌-◌, ◌<◌, ◌≤◌, List, [], ◌∷◌, ◌++◌, length, take, drop, Bool, refl, sym, ap, ◌∙◌, arith, append_assoc, append-nil}
use Rattle.std.specs.Prelude.{get_or}
use Rattle.std.proofs.lemmas.List.{at_drop_more, at_drop_all}
use Rattle.script_places.specs.Counting.{width}
use Rattle.script_places.specs.Showing.{byte_shown, character_shown, is_hidden, shown, shown_within}

-- the rest of a character that has begun, and what stands behind it
behind : (n : ℕ) (hidden : Bool) (bs : List ℕ) → shown_within n hidden bs ≡ character_shown hidden (take n bs) ++ shown (drop n bs)
unfolding shown_within
behind zero hidden [] = refl
behind zero hidden (b ∷ bs) = refl
behind (suc n) hidden [] = refl
behind (suc n) hidden (b ∷ bs) = ap (λ (r : List ℕ). byte_shown hidden b ++ r) (behind n hidden bs) ∙ sym (append_assoc (byte_shown hidden b) (character_shown hidden (take n bs)) (shown (drop n bs)))

one_more : (b : ℕ) (bs : List ℕ) (w : ℕ) → width (b ∷ bs) ≡ w → 0 < w → shown (b ∷ bs) ≡ character_shown (is_hidden (b ∷ bs)) (take w (b ∷ bs)) ++ shown (drop w (b ∷ bs))
unfolding shown_within
one_more b bs zero e wide = absurd (omega (arith, wide))
one_more b bs (suc w) e wide =
    let less : width (b ∷ bs) - 1 ≡ w = omega (arith, e) in
    let hidden = is_hidden (b ∷ bs) in
    ap (λ (n : ℕ). byte_shown hidden b ++ shown_within n hidden bs) less
    ∙ ap (λ (r : List ℕ). byte_shown hidden b ++ r) (behind w hidden bs)
    ∙ sym (append_assoc (byte_shown hidden b) (character_shown hidden (take w bs)) (shown (drop w bs)))

-- the first character, and what stands behind it
pub first_shown : (bs : List ℕ) (w : ℕ) → 0 < length bs → w ≡ width bs → 0 < w → shown bs ≡ character_shown (is_hidden bs) (take w bs) ++ shown (drop w bs)
first_shown [] w some e wide = absurd (omega (arith, some))
first_shown (b ∷ bs) w some e wide = one_more b bs w (sym e) wide

pub none_shown : (bs : List ℕ) → length bs ≡ 0 → shown bs ≡ []
unfolding shown_within
none_shown [] e = refl
none_shown (b ∷ bs) e = absurd (omega (arith, e))

pub all_shown : (out rest whole : List ℕ) → length rest ≡ 0 → out ++ shown rest ≡ whole → out ≡ whole
all_shown out rest whole empty e = sym (append-nil out) ∙ (ap (λ (bs : List ℕ). out ++ bs) (sym (none_shown rest empty)) ∙ e)

-- a character more
pub character_more : (out bs new : List ℕ) (w : ℕ) → 0 < length bs → w ≡ width bs → 0 < w → new ≡ out ++ character_shown (is_hidden bs) (take w bs) → new ++ shown (drop w bs) ≡ out ++ shown bs
character_more out bs new w some e wide is =
    ap (λ (r : List ℕ). r ++ shown (drop w bs)) is
    ∙ append_assoc out (character_shown (is_hidden bs) (take w bs)) (shown (drop w bs))
    ∙ ap (λ (r : List ℕ). out ++ r) (sym (first_shown bs w some e wide))

-- a byte more
pub byte_more : (out cs new : List ℕ) (hidden : Bool) (i : ℕ) → i < length cs → new ≡ out ++ byte_shown hidden (get_or cs i 0) → new ++ character_shown hidden (drop (i + 1) cs) ≡ out ++ character_shown hidden (drop i cs)
byte_more out cs new hidden i lt e =
    ap (λ (r : List ℕ). r ++ character_shown hidden (drop (i + 1) cs)) e
    ∙ append_assoc out (byte_shown hidden (get_or cs i 0)) (character_shown hidden (drop (i + 1) cs))
    ∙ ap (λ (r : List ℕ). out ++ r) (sym (at_drop_more (λ (l : List ℕ). character_shown hidden l) cs i 0 lt))

pub all_bytes : (out cs whole : List ℕ) (hidden : Bool) (i : ℕ) → length cs ≤ i → out ++ character_shown hidden (drop i cs) ≡ whole → out ≡ whole
all_bytes out cs whole hidden i over e = sym (append-nil out) ∙ (ap (λ (r : List ℕ). out ++ r) (sym (at_drop_all (λ (l : List ℕ). character_shown hidden l) cs i over)) ∙ e)
