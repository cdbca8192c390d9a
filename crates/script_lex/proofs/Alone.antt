-- A spelling alone is read whole.
use Rattle.std.proofs.Common.{◌≡◌, ℕ, true, false, ◌||◌, eqb, List, [], ◌∷◌, ◌++◌, refl, sym, ap, ◌∙◌, subst, arith, Option, Some, None, Ok, ⊎_elim}
use Rattle.std.proofs.lemmas.Bool.{or_cases, eqb-true}
use Rattle.std.specs.Str.Parse.{IsNumeral, AllDigits}
use Rattle.script_lex.specs.Bytes.{is_unit, starts_digit}
use Rattle.script_lex.specs.Words.{keyword_of, symbol_of, symbol_with_equals, symbol_text}
use Rattle.script_lex.specs.Spelling.{Shape, AWord, AnOpen, AnInt, ANumber, ATime, AText, AWav, ASymbol, SpellsShape, IsDotted, behind_points, IsShortTime, IsTimeText, time_text}
use Rattle.script_lex.specs.Reading.{Found, front, after_name, after_digits, word_or_open, word_at, number_from, number_at, part_at, minutes_after, time_at, wav_at, symbol_at, shape_at}
use Rattle.script_lex.specs.declared.token.Keyword.{Keyword}
use Rattle.script_lex.specs.declared.token.Symbol.{Symbol}
use Rattle.script_lex.specs.declared.token.Symbol.TheVariants as symbols
use Rattle.fixed_text.proofs.Numerals.{digit_back}
use Rattle.script_lex.proofs.Fronts.{front_is}
use Rattle.script_lex.proofs.Names.{dotted_eaten}
use Rattle.script_lex.proofs.Eaten.{digits_eaten, digits_alone, digits_stop, unit_not_digit, numeral_first}
use Rattle.script_lex.proofs.Times.{time_starts}
use Rattle.script_lex.proofs.Marks.{PartRead, part_end}
use Rattle.script_lex.proofs.Reach.{behind_parts, units, units_are, whole_is, exact, short_is, from_hour}
use Rattle.script_lex.proofs.Numerals.{unit_is}
use Rattle.script_lex.proofs.Whole.{at_letter, at_digit}

append_nil : (a : List ℕ) → a ++ [] ≡ a
append_nil [] = refl
append_nil (x ∷ a) = ap (λ (l : List ℕ). x ∷ l) (append_nil a)

front_nil : (t : List ℕ) → front t [] ≡ t
front_nil t = ap (λ l. front l []) (sym (append_nil t)) ∙ front_is t []

-- words
by_letter : (t : List ℕ) → IsDotted t → (more : List ℕ) → shape_at (t ++ more) ≡ Ok (word_at (t ++ more))
by_letter t ([], parts, is_part, are, is) more = absurd is_part
by_letter t (b ∷ w, parts, is_part, are, is) more =
    let P : List ℕ → Type 0 = λ l. shape_at (l ++ more) ≡ Ok (word_at (l ++ more)) in
    subst P (sym is) (at_letter b ((w ++ behind_points parts) ++ more) is_part.0)

word_end : (word : List ℕ) (k : Option Keyword) → word_or_open word k [] ≡ (AWord word, [])
word_end word (Some k) = refl
word_end word None = refl

word_alone : (t : List ℕ) → IsDotted t → word_at t ≡ (AWord t, [])
unfolding word_at
word_alone t dotted =
    let over : after_name t ≡ [] = ap after_name (sym (append_nil t)) ∙ dotted_eaten t [] dotted in
    let F : List ℕ → Found = λ r. word_or_open (front t r) (keyword_of (front t r)) r in
    let G : List ℕ → Found = λ w. word_or_open w (keyword_of w) [] in
    ap F over ∙ ap G (front_nil t) ∙ word_end t (keyword_of t)

open_alone : (n : List ℕ) → IsDotted n → keyword_of n ≡ None → word_at (n ++ 40 ∷ []) ≡ (AnOpen n, [])
unfolding word_at
open_alone n dotted name =
    let t = n ++ 40 ∷ [] in
    let over : after_name t ≡ 40 ∷ [] = dotted_eaten n (40 ∷ []) dotted in
    let F : List ℕ → Found = λ r. word_or_open (front t r) (keyword_of (front t r)) r in
    let G : List ℕ → Found = λ w. word_or_open w (keyword_of w) (40 ∷ []) in
    ap F over ∙ ap G (front_is n (40 ∷ [])) ∙ ap (λ k. word_or_open n k (40 ∷ [])) name

-- numbers
by_digit : (t more : List ℕ) → IsNumeral 10 t → shape_at (t ++ more) ≡ Ok (number_at (t ++ more))
by_digit [] more n = absurd (let h = n.0 in omega arith)
by_digit (b ∷ t) more n = at_digit b (t ++ more) (digit_back b n.1.0)

int_alone : (t : List ℕ) → IsNumeral 10 t → number_at t ≡ (AnInt t, [])
unfolding number_at
int_alone t n =
    let F : List ℕ → Found = λ r. number_from t (front t r) r in
    let G : List ℕ → Found = λ d. number_from t d [] in
    ap F (digits_alone t n.1) ∙ ap G (front_nil t)

number_alone : (w f : List ℕ) → IsNumeral 10 w → AllDigits 10 f → number_at (w ++ 46 ∷ f) ≡ (ANumber w f, [])
unfolding number_at
number_alone w f n all =
    let t = w ++ 46 ∷ f in
    let over : after_digits t ≡ 46 ∷ f = digits_eaten w (46 ∷ f) n.1 in
    let F : List ℕ → Found = λ r. number_from t (front t r) r in
    let G : List ℕ → Found = λ d. number_from t d (46 ∷ f) in
    let H : List ℕ → Found = λ r. (ANumber w (front f r), r) in
    let K : List ℕ → Found = λ d. (ANumber w d, []) in
    ap F over ∙ ap G (front_is w (46 ∷ f)) ∙ ap H (digits_alone f all) ∙ ap K (front_nil f)

-- times
nothing_behind : (day hour minute second : Option (List ℕ)) → minutes_after day hour minute second [] ≡ (ATime day hour minute second, [])
nothing_behind day (Some h) None None = refl
nothing_behind day hour minute second = refl

whole_alone : (day hour minute second : Option (List ℕ)) (t : List ℕ) → IsTimeText day hour minute second t → t ≡ time_text day hour minute second → time_at t ≡ (ATime day hour minute second, [])
unfolding time_at
whole_alone day hour minute second t text whole =
    let all : t ≡ behind_parts units (day ∷ hour ∷ minute ∷ second ∷ []) [] = whole ∙ sym (append_nil (time_text day hour minute second)) ∙ whole_is day hour minute second [] in
    let F : PartRead → Found = λ p. let h = part_at 104 p.1 in let m = part_at 109 h.1 in let s = part_at 115 m.1 in minutes_after p.0 h.0 m.0 s.0 s.1 in
    let G : PartRead → Found = λ h. let m = part_at 109 h.1 in let s = part_at 115 m.1 in minutes_after day h.0 m.0 s.0 s.1 in
    let H : PartRead → Found = λ m. let s = part_at 115 m.1 in minutes_after day hour m.0 s.0 s.1 in
    let K : PartRead → Found = λ s. minutes_after day hour minute s.0 s.1 in
    let d = text.day_digits in let h = text.hour_digits in let m = text.minute_digits in let s = text.second_digits in
    ap time_at all
    ∙ ap F (exact 119 (104 ∷ 109 ∷ 115 ∷ []) day (hour ∷ minute ∷ second ∷ []) [] units_are (d, (h, (m, (s, tt)))) refl)
    ∙ ap G (exact 104 (109 ∷ 115 ∷ []) hour (minute ∷ second ∷ []) [] units_are.2 (h, (m, (s, tt))) refl)
    ∙ ap H (exact 109 (115 ∷ []) minute (second ∷ []) [] units_are.2.2 (m, (s, tt)) refl)
    ∙ ap K (exact 115 [] second [] [] units_are.2.2.2 (s, tt) refl)
    ∙ nothing_behind day hour minute second

short_alone : (day hour minute second : Option (List ℕ)) (t : List ℕ) → IsTimeText day hour minute second t → IsShortTime day hour minute second t → time_at t ≡ (ATime day hour minute second, [])
short_alone day (Some h) (Some m) None t text short =
    let n = text.minute_digits in
    let end = digits_alone m n.1 in
    let G : PartRead → Found = λ minute. let second = part_at 115 minute.1 in minutes_after day (Some h) minute.0 second.0 second.1 in
    let H : PartRead → Found = λ second. minutes_after day (Some h) None second.0 second.1 in
    let K : List ℕ → Found = λ r. (ATime day (Some h) (Some (front m r)) None, r) in
    let L : List ℕ → Found = λ d. (ATime day (Some h) (Some d) None, []) in
    let some : starts_digit m ≡ true = ap starts_digit (sym (append_nil m)) ∙ numeral_first m [] n in
    ap time_at short ∙ from_hour day h m text.day_digits text.hour_digits ∙ ap G (part_end 109 m end) ∙ ap H (part_end 115 m end) ∙ short_is day h m some ∙ ap K end ∙ ap L (front_nil m)
short_alone day (Some h) (Some m) (Some s) t text short = absurd short
short_alone day (Some h) None second t text short = absurd short
short_alone day None minute second t text short = absurd short

unit_no_point : (u : ℕ) → is_unit u ≡ true → eqb u 46 ≡ false
unit_no_point u e =
    ⊎_elim (λ a. ap (λ n. eqb n 46) (eqb-true u 119 a))
    (λ a. ⊎_elim (λ x. ap (λ n. eqb n 46) (eqb-true u 104 x)) (λ x. ⊎_elim (λ y. ap (λ n. eqb n 46) (eqb-true u 109 y)) (λ y. ap (λ n. eqb n 46) (eqb-true u 115 y)) (or_cases (eqb u 109) (eqb u 115) x)) (or_cases (eqb u 104) (eqb u 109 || eqb u 115) a))
    (or_cases (eqb u 119) (eqb u 104 || (eqb u 109 || eqb u 115)) e)

time_alone : (day hour minute second : Option (List ℕ)) (t : List ℕ) → IsTimeText day hour minute second t → number_at t ≡ (ATime day hour minute second, [])
unfolding number_at
time_alone day hour minute second t text =
    let s = time_starts day hour minute second t text in
    let over : after_digits t ≡ s.unit ∷ s.more = ap after_digits s.is ∙ digits_eaten s.digits (s.unit ∷ s.more) s.numeral.1 ∙ digits_stop s.unit s.more (unit_not_digit s.unit s.is_unit) in
    let F : List ℕ → Found = λ r. number_from t (front t r) r in
    ap F over ∙ unit_is t (front t (s.unit ∷ s.more)) s.more s.unit (unit_no_point s.unit s.is_unit) s.is_unit
    ∙ ⊎_elim (whole_alone day hour minute second t text) (short_alone day hour minute second t text) text.spelled

wav_alone : shape_at (37 ∷ 119 ∷ 97 ∷ 118 ∷ []) ≡ Ok (AWav, [])
unfolding shape_at wav_at
wav_alone = refl

symbol_alone : (s : Symbol) → shape_at (symbol_text s) ≡ Ok (ASymbol s, [])
unfolding shape_at wav_at symbol_at symbol_of symbol_with_equals
symbol_alone symbols.Assign = refl
symbol_alone symbols.Equal = refl
symbol_alone symbols.Differs = refl
symbol_alone symbols.Less = refl
symbol_alone symbols.AtMost = refl
symbol_alone symbols.Greater = refl
symbol_alone symbols.AtLeast = refl
symbol_alone symbols.Plus = refl
symbol_alone symbols.Minus = refl
symbol_alone symbols.Star = refl
symbol_alone symbols.Slash = refl
symbol_alone symbols.OpenRound = refl
symbol_alone symbols.CloseRound = refl
symbol_alone symbols.OpenSquare = refl
symbol_alone symbols.CloseSquare = refl
symbol_alone symbols.OpenCurly = refl
symbol_alone symbols.CloseCurly = refl
symbol_alone symbols.Comma = refl
symbol_alone symbols.Semicolon = refl
symbol_alone symbols.Tilde = refl

-- a shape and nothing behind it
abbrev pub Whole : Shape → List ℕ → Type 0
Whole shape text = shape_at text ≡ Ok (shape, [])

pub read_alone : (shape : Shape) (text : List ℕ) → SpellsShape shape text → ((value : List ℕ) → shape ≡ AText value → ⊥) → Whole shape text
read_alone (AWord w) text s other =
    let C : List ℕ → Type 0 = λ l. shape_at l ≡ Ok (word_at l) in
    subst C (append_nil text) (by_letter text s.0 []) ∙ ap Ok (word_alone text s.0 ∙ ap (λ x. (AWord x, [])) (sym s.1))
read_alone (AnOpen n) text s other = ap shape_at s.2 ∙ by_letter n s.0 (40 ∷ []) ∙ ap Ok (open_alone n s.0 s.1)
read_alone (AnInt d) text s other =
    let C : List ℕ → Type 0 = λ l. shape_at l ≡ Ok (number_at l) in
    subst C (append_nil text) (by_digit text [] s.0) ∙ ap Ok (int_alone text s.0 ∙ ap (λ x. (AnInt x, [])) (sym s.1))
read_alone (ANumber w f) text s other = ap shape_at s.2 ∙ by_digit w (46 ∷ f) s.0 ∙ ap Ok (number_alone w f s.0 s.1)
read_alone (ATime day hour minute second) text t other =
    let s = time_starts day hour minute second text t in
    let C : List ℕ → Type 0 = λ l. shape_at l ≡ Ok (number_at l) in
    subst C (sym s.is) (by_digit s.digits (s.unit ∷ s.more) s.numeral) ∙ ap Ok (time_alone day hour minute second text t)
read_alone (AText v) text s other = absurd (other v refl)
read_alone AWav text s other = ap shape_at s ∙ wav_alone
read_alone (ASymbol symbol) text s other = ap shape_at s ∙ symbol_alone symbol
