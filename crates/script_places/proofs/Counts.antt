-- Characters, one by one; the ends of lines, one byte more.
use Rattle.std.proofs.Common.{◌≡◌, ℕ, zero, suc, ◌+◌, ◌-◌, ◌<◌, List, [], ◌∷◌, ◌++◌, length, map, take, drop, Bool, true, false, refl, sym, ap, ◌∙◌, arith, append-nil, IsUtf8}
use Rattle.std.specs.Prelude.{get_or}
use Rattle.std.specs.List.{count_by}
use Rattle.std.specs.Str.{is_utf8}
use Rattle.std.proofs.lemmas.Str.{IsUtf8-from_is_utf8}
use Rattle.std.proofs.lemmas.List.Sums.{count_by_more_yes, count_by_more_no}
use Rattle.script_places.specs.Counting.{is_lf, are_utf8, width, begun, characters}
use Rattle.script_places.specs.Pointing.{blank_for, blanks_for}

-- bytes that are not UTF-8, as the test says it
pub not_utf8 : (bs : List ℕ) → (IsUtf8 bs → ⊥) → is_utf8 bs ≡ false
not_utf8 bs never = by_case (is_utf8 bs) refl where
  by_case : (b : Bool) → is_utf8 bs ≡ b → is_utf8 bs ≡ false
  by_case true e = absurd (never (IsUtf8-from_is_utf8 bs e))
  by_case false e = e

pub width_1 : (bs : List ℕ) → are_utf8 1 bs ≡ true → 1 ≡ width bs
unfolding width
width_1 bs e = rw e refl

pub width_2 : (bs : List ℕ) → are_utf8 1 bs ≡ false → are_utf8 2 bs ≡ true → 2 ≡ width bs
unfolding width
width_2 bs a e = rw (a, e) refl

pub width_3 : (bs : List ℕ) → are_utf8 1 bs ≡ false → are_utf8 2 bs ≡ false → are_utf8 3 bs ≡ true → 3 ≡ width bs
unfolding width
width_3 bs a b e = rw (a, b, e) refl

pub width_4 : (bs : List ℕ) → are_utf8 1 bs ≡ false → are_utf8 2 bs ≡ false → are_utf8 3 bs ≡ false → are_utf8 4 bs ≡ true → 4 ≡ width bs
unfolding width
width_4 bs a b c e = rw (a, b, c, e) refl

pub width_none : (bs : List ℕ) → are_utf8 1 bs ≡ false → are_utf8 2 bs ≡ false → are_utf8 3 bs ≡ false → are_utf8 4 bs ≡ false → 1 ≡ width bs
unfolding width
width_none bs a b c e = rw (a, b, c, e) refl

-- what belongs to a character that has begun counts for nothing
behind : (n : ℕ) (bs : List ℕ) → begun n bs ≡ begun 0 (drop n bs)
unfolding begun
behind zero bs = refl
behind (suc n) [] = refl
behind (suc n) (b ∷ bs) = behind n bs

pub one_more : (b : ℕ) (bs : List ℕ) (w : ℕ) → width (b ∷ bs) ≡ w → 0 < w → characters (b ∷ bs) ≡ b ∷ characters (drop w (b ∷ bs))
unfolding begun
one_more b bs zero e wide = absurd (omega (arith, wide))
one_more b bs (suc w) e wide =
    let less : width (b ∷ bs) - 1 ≡ w = omega (arith, e) in
    ap (λ (n : ℕ). b ∷ begun n bs) less ∙ ap (λ (cs : List ℕ). b ∷ cs) (behind w bs)

pub first_of_them : (bs : List ℕ) (w : ℕ) → 0 < length bs → w ≡ width bs → 0 < w → characters bs ≡ get_or bs 0 0 ∷ characters (drop w bs)
first_of_them [] w some e wide = absurd (omega (arith, some))
first_of_them (c ∷ bs) w some e wide = one_more c bs w (sym e) wide

pub none_of_them : (bs : List ℕ) → length bs ≡ 0 → characters bs ≡ []
unfolding begun
none_of_them [] e = refl
none_of_them (b ∷ bs) e = absurd (omega (arith, e))

pub all_counted : (bs rest : List ℕ) (n : ℕ) → n + length (characters rest) ≡ length (characters bs) → length rest ≡ 0 → n ≡ length (characters bs)
all_counted bs rest n e empty = let none = ap length (none_of_them rest empty) in omega (arith, e, none)

pub all_blank : (out rest whole : List ℕ) → length rest ≡ 0 → out ++ blanks_for rest ≡ whole → out ≡ whole
all_blank out rest whole empty e = sym (append-nil out) ∙ (ap (λ (cs : List ℕ). out ++ map blank_for cs) (sym (none_of_them rest empty)) ∙ e)

pub ends : (bs : List ℕ) (i b n : ℕ) → i < length bs → b ≡ get_or bs i b → (is_lf b ≡ true → n ≡ 1) → (is_lf b ≡ false → n ≡ 0) → count_by is_lf (take i bs) + n ≡ count_by is_lf (take (i + 1) bs)
ends bs i b n lt e one none = by_case (is_lf b) refl where
  by_case : (c : Bool) → is_lf b ≡ c → count_by is_lf (take i bs) + n ≡ count_by is_lf (take (i + 1) bs)
  by_case true h = let more = count_by_more_yes is_lf bs i b lt (ap is_lf (sym e) ∙ h) in omega (arith, more, one h)
  by_case false h = let same = count_by_more_no is_lf bs i b lt (ap is_lf (sym e) ∙ h) in omega (arith, same, none h)
