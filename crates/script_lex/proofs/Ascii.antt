-- A name is ASCII.
use Rattle.std.proofs.Common.{◌≡◌, ℕ, ◌<◌, true, ◌&&◌, eqb, leb, List, [], ◌∷◌, arith, ⊎_elim, IsUtf8}
use Rattle.std.proofs.lemmas.Bool.{or_cases, and_parts, eqb-true, leb-true}
use Rattle.std.proofs.lemmas.Str.{IsUtf8-from_ascii}
use Rattle.std.proofs.lemmas.Str.Ascii.{IsAscii-nil, IsAscii-cons}
use Rattle.std.specs.Char.{is_ascii_digit, is_ascii_alphabetic}
use Rattle.std.specs.Str.{IsAscii}
use Rattle.script_lex.specs.Bytes.{is_letter, is_word, starts_part}
use Rattle.script_lex.specs.Reading.{after_name, front}
use Rattle.script_lex.proofs.Fronts.{choose, front_more, front_whole}
use Rattle.script_lex.proofs.Names.{goes, goes_true, goes_false, after_name_le}

letter_low : (b : ℕ) → is_letter b ≡ true → b < 128
letter_low b e =
    ⊎_elim
    (λ a. ⊎_elim (λ x. let h = leb-true b 90 (and_parts (leb 65 b) (leb b 90) x).1 in omega arith) (λ x. let h = leb-true b 122 (and_parts (leb 97 b) (leb b 122) x).1 in omega arith) (or_cases (leb 65 b && leb b 90) (leb 97 b && leb b 122) a))
    (λ u. let h = eqb-true b 95 u in omega arith)
    (or_cases (is_ascii_alphabetic b) (eqb b 95) e)

goes_low : (b : ℕ) (bs : List ℕ) → goes b bs ≡ true → b < 128
goes_low b bs e =
    ⊎_elim
    (λ w. ⊎_elim (letter_low b) (λ d. let h = leb-true b 57 (and_parts (leb 48 b) (leb b 57) d).1 in omega arith) (or_cases (is_letter b) (is_ascii_digit b) w))
    (λ p. let h = eqb-true b 46 (and_parts (eqb b 46) (starts_part bs) p).0 in omega arith)
    (or_cases (is_word b) (eqb b 46 && starts_part bs) e)

name_ascii : (bs : List ℕ) → IsAscii (front bs (after_name bs))
name_ascii [] = IsAscii-nil
name_ascii (b ∷ bs) =
    choose (goes b bs)
    (λ e. rw (goes_true b bs e, front_more b bs (after_name bs) (after_name_le bs)) (IsAscii-cons b (front bs (after_name bs)) (goes_low b bs e) (name_ascii bs)))
    (λ e. rw (goes_false b bs e, front_whole (b ∷ bs)) IsAscii-nil)

-- the bytes of a name are a text
pub name_utf8 : (bs : List ℕ) → IsUtf8 (front bs (after_name bs))
name_utf8 bs = IsUtf8-from_ascii (front bs (after_name bs)) (name_ascii bs)
