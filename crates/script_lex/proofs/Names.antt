-- The longest name at the front.
use Rattle.std.proofs.Common.{◌≡◌, ℕ, ◌≤◌, Bool, true, false, ◌&&◌, ◌||◌, eqb, List, [], ◌∷◌, ◌++◌, length, refl, sym, ap, ◌∙◌, subst, arith, append_assoc}
use Rattle.std.proofs.lemmas.Bool.{or_left, or_from, and_parts, eqb-true}
use Rattle.std.specs.Char.{is_ascii_digit}
use Rattle.script_lex.specs.Bytes.{is_letter, is_word, starts_part}
use Rattle.script_lex.specs.Reading.{after_name}
use Rattle.script_lex.specs.Spelling.{AllWord, IsPart, AreParts, behind_points, IsDotted}
use Rattle.script_lex.proofs.Fronts.{choose}

-- whether a name goes on with this byte
abbrev pub goes : ℕ → List ℕ → Bool
goes b bs = is_word b || (eqb b 46 && starts_part bs)

pub goes_true : (b : ℕ) (bs : List ℕ) → goes b bs ≡ true → after_name (b ∷ bs) ≡ after_name bs
goes_true b bs e = rw e refl

pub goes_false : (b : ℕ) (bs : List ℕ) → goes b bs ≡ false → after_name (b ∷ bs) ≡ b ∷ bs
goes_false b bs e = rw e refl

pub word_more : (b : ℕ) (bs : List ℕ) → is_word b ≡ true → after_name (b ∷ bs) ≡ after_name bs
word_more b bs e = goes_true b bs (or_left (is_word b) (eqb b 46 && starts_part bs) e)

pub letter_is_word : (b : ℕ) → is_letter b ≡ true → is_word b ≡ true
letter_is_word b e = or_left (is_letter b) (is_ascii_digit b) e

-- the parts of a name are read over, whatever follows
words_eaten : (w r : List ℕ) → AllWord w → after_name (w ++ r) ≡ after_name r
words_eaten [] r all = refl
words_eaten (b ∷ w) r all = word_more b (w ++ r) all.0 ∙ words_eaten w r all.1

part_eaten : (p r : List ℕ) → IsPart p → after_name (p ++ r) ≡ after_name r
part_eaten [] r part = absurd part
part_eaten (b ∷ w) r part = word_more b (w ++ r) (letter_is_word b part.0) ∙ words_eaten w r part.1

point_eaten : (p r : List ℕ) → IsPart p → after_name (46 ∷ (p ++ r)) ≡ after_name r
point_eaten [] r part = absurd part
point_eaten (b ∷ w) r part = goes_true 46 (b ∷ (w ++ r)) part.0 ∙ part_eaten (b ∷ w) r part

points_eaten : (ps : List (List ℕ)) (r : List ℕ) → AreParts ps → after_name (behind_points ps ++ r) ≡ after_name r
points_eaten [] r parts = refl
points_eaten (p ∷ ps) r parts = ap (λ l. after_name (46 ∷ l)) (append_assoc p (behind_points ps) r) ∙ point_eaten p (behind_points ps ++ r) parts.0 ∙ points_eaten ps r parts.1

pub dotted_eaten : (t r : List ℕ) → IsDotted t → after_name (t ++ r) ≡ after_name r
dotted_eaten t r (part, parts, is_part, are_parts, is) =
    ap (λ l. after_name (l ++ r)) is ∙ ap after_name (append_assoc part (behind_points parts) r) ∙ part_eaten part (behind_points parts ++ r) is_part ∙ points_eaten parts r are_parts

pub after_name_le : (bs : List ℕ) → length (after_name bs) ≤ length bs
after_name_le [] = omega arith
after_name_le (b ∷ bs) = choose (goes b bs) (λ e. rw (goes_true b bs e) (let ih = after_name_le bs in omega arith)) (λ e. rw (goes_false b bs e) (omega arith))

-- what is read over are word bytes, and parts behind points
pub record Goes (bs : List ℕ) : Type 0 where
  pub word : List ℕ
  pub parts : List (List ℕ)
  pub is_word : AllWord word
  pub are_parts : AreParts parts
  pub split : bs ≡ (word ++ behind_points parts) ++ after_name bs

goes_on : (b : ℕ) (bs : List ℕ) → is_word b ≡ true → Goes bs → Goes (b ∷ bs)
goes_on b bs e g = record {
  word = b ∷ g.word;
  parts = g.parts;
  is_word = (e, g.is_word);
  are_parts = g.are_parts;
  split = rw (word_more b bs e) (ap (λ (l : List ℕ). b ∷ l) g.split);
}

stops : (b : ℕ) (bs : List ℕ) → goes b bs ≡ false → Goes (b ∷ bs)
stops b bs e = record { word = []; parts = []; is_word = tt; are_parts = tt; split = sym (goes_false b bs e) }

point_on : (b d : ℕ) (ds : List ℕ) → eqb b 46 ≡ true → is_letter d ≡ true → Goes ds → Goes (b ∷ d ∷ ds)
point_on b d ds point letter g =
    let is : b ≡ 46 = eqb-true b 46 point in
    let over : after_name (46 ∷ d ∷ ds) ≡ after_name ds = goes_true 46 (d ∷ ds) letter ∙ word_more d ds (letter_is_word d letter) in
    let P : ℕ → Type 0 = λ n. Goes (n ∷ d ∷ ds) in
    subst P (sym is) (record {
      word = [];
      parts = (d ∷ g.word) ∷ g.parts;
      is_word = tt;
      are_parts = ((letter, g.is_word), g.are_parts);
      split = rw over (ap (λ (l : List ℕ). 46 ∷ d ∷ l) g.split);
    })

pub goes_all : (bs : List ℕ) → Goes bs
goes_all [] = record { word = []; parts = []; is_word = tt; are_parts = tt; split = refl }
goes_all (b ∷ []) =
    choose (is_word b) (λ w. goes_on b [] w (goes_all []))
    (λ w. choose (eqb b 46 && false) (λ p. let q = and_parts (eqb b 46) false p in cc) (λ p. stops b [] (or_from (is_word b) (eqb b 46 && false) w p)))
goes_all (b ∷ d ∷ ds) =
    choose (is_word b) (λ w. goes_on b (d ∷ ds) w (goes_all (d ∷ ds)))
    (λ w. choose (eqb b 46 && is_letter d) (λ p. let q = and_parts (eqb b 46) (is_letter d) p in point_on b d ds q.0 q.1 (goes_all ds)) (λ p. stops b (d ∷ ds) (or_from (is_word b) (eqb b 46 && is_letter d) w p)))
