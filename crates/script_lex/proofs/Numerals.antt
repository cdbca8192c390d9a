-- The longest number at the front.
use Rattle.std.proofs.Common.{◌≡◌, ℕ, suc, ◌+◌, ◌≤◌, true, false, eqb, List, [], ◌∷◌, ◌++◌, length, refl, sym, ap, ◌∙◌, subst, arith, append_assoc, length-append, Option}
use Rattle.std.proofs.lemmas.Bool.{eqb-true, eq-eqb}
use Rattle.std.specs.Char.{is_ascii_digit}
use Rattle.std.specs.Str.Parse.{AllDigits}
use Rattle.script_lex.specs.Bytes.{is_unit}
use Rattle.script_lex.specs.Spelling.{Shape, AnInt, ANumber, ATime, SpellsShape, IsTimeText}
use Rattle.script_lex.specs.Reading.{after_digits, front, number_from, number_at, time_at}
use Rattle.fixed_text.proofs.Numerals.{digit_is, digit_back}
use Rattle.script_lex.proofs.Fronts.{choose, front_is, after_digits_le}
use Rattle.script_lex.proofs.Eaten.{digits_more, digits_stop, digits_eaten, front_digits, unit_not_digit}
use Rattle.script_lex.proofs.Firsts.{Digit, class, first_of, digit_class}
use Rattle.script_lex.proofs.Times.{time_starts}
use Rattle.script_lex.proofs.Moments.{time_found}
use Rattle.script_lex.proofs.Apart.{FoundAt, differ, cons_tail, cons_head, lengths}

rest_is : (d rest : List ℕ) → after_digits (d ++ rest) ≡ rest → (n behind : List ℕ) → AllDigits 10 n → d ++ rest ≡ n ++ behind → rest ≡ after_digits behind
rest_is d rest here n behind digits is = sym here ∙ ap after_digits is ∙ digits_eaten n behind digits

-- behind the digits of another time stands its unit
unit_here : (d rest : List ℕ) → after_digits (d ++ rest) ≡ rest → (day hour minute second : Option (List ℕ)) (more behind : List ℕ) → d ++ rest ≡ more ++ behind → IsTimeText day hour minute second more → (u : ℕ) × (x : List ℕ) × (is_unit u ≡ true) × (rest ≡ u ∷ x)
unit_here d rest here day hour minute second more behind is t =
    let s = time_starts day hour minute second more t in
    let whole : d ++ rest ≡ s.digits ++ (s.unit ∷ (s.more ++ behind)) = is ∙ ap (λ (x : List ℕ). x ++ behind) s.is ∙ append_assoc s.digits (s.unit ∷ s.more) behind in
    (s.unit, s.more ++ behind, s.is_unit, rest_is d rest here s.digits (s.unit ∷ (s.more ++ behind)) s.numeral.1 whole ∙ digits_stop s.unit (s.more ++ behind) (unit_not_digit s.unit s.is_unit))

digit_first : (b : ℕ) (d rest : List ℕ) → AllDigits 10 (b ∷ d) → (other : Shape) (more behind : List ℕ) → (b ∷ d) ++ rest ≡ more ++ behind → SpellsShape other more → Digit ≡ class other
digit_first b d rest all other more behind is s = sym (digit_class b (digit_back b all.0)) ∙ first_of other b (d ++ rest) more behind s is

-- no spelling is longer than the digits, unless it is the digits, a point and digits, or a time
among : (b : ℕ) (d rest : List ℕ) (all : AllDigits 10 (b ∷ d)) → after_digits ((b ∷ d) ++ rest) ≡ rest → (other : Shape) (more behind : List ℕ) → (b ∷ d) ++ rest ≡ more ++ behind → SpellsShape other more → (limit : ℕ) → suc (length d) ≤ limit → ((f : List ℕ) → AllDigits 10 f → rest ≡ 46 ∷ (f ++ behind) → suc (suc (length d)) + length f ≤ limit) → ((u : ℕ) (x : List ℕ) → is_unit u ≡ true → rest ≡ u ∷ x → ⊥) → length more ≤ limit
among b d rest all here (AnInt n) more behind is s limit low points units =
    let r = ap length (rest_is (b ∷ d) rest here more behind s.0.1 is) in
    let le = after_digits_le behind in
    let sum = lengths (b ∷ d) rest more behind is in
    omega arith
among b d rest all here (ANumber w f) more behind is s limit low points units =
    let whole : (b ∷ d) ++ rest ≡ w ++ (46 ∷ (f ++ behind)) = is ∙ ap (λ (x : List ℕ). x ++ behind) s.2 ∙ append_assoc w (46 ∷ f) behind in
    let r : rest ≡ 46 ∷ (f ++ behind) = rest_is (b ∷ d) rest here w (46 ∷ (f ++ behind)) s.0.1 whole in
    let p = points f s.1 r in
    let sum = lengths (b ∷ d) rest w (46 ∷ (f ++ behind)) whole in
    let same = ap length r in
    let size = ap length s.2 ∙ length-append w (46 ∷ f) in
    omega arith
among b d rest all here (ATime day hour minute second) more behind is s limit low points units =
    let u = unit_here (b ∷ d) rest here day hour minute second more behind is s in absurd (units u.0 u.1 u.2 u.3)
among b d rest all here other more behind is s limit low points units = let c = digit_first b d rest all other more behind is s in absurd cc

int_here : (b : ℕ) (d rest : List ℕ) (all : AllDigits 10 (b ∷ d)) → after_digits ((b ∷ d) ++ rest) ≡ rest → ((f : List ℕ) → rest ≡ 46 ∷ f → ⊥) → ((u : ℕ) (x : List ℕ) → is_unit u ≡ true → rest ≡ u ∷ x → ⊥) → FoundAt ((b ∷ d) ++ rest) (AnInt (b ∷ d), rest)
int_here b d rest all here no_point no_unit = record {
  text = b ∷ d;
  split = refl;
  spelled = ((omega arith, all), refl);
  longest = λ other more behind is s. among b d rest all here other more behind is s (suc (length d)) (omega arith) (λ f digits r. absurd (no_point (f ++ behind) r)) no_unit;
}

point_here : (b : ℕ) (d cs : List ℕ) (all : AllDigits 10 (b ∷ d)) → after_digits ((b ∷ d) ++ (46 ∷ cs)) ≡ 46 ∷ cs → FoundAt ((b ∷ d) ++ (46 ∷ cs)) (ANumber (b ∷ d) (front cs (after_digits cs)), after_digits cs)
point_here b d cs all here =
    let g = front_digits cs in
    let f = front cs (after_digits cs) in
    let size : length ((b ∷ d) ++ 46 ∷ f) ≡ suc (length d) + suc (length f) = length-append (b ∷ d) (46 ∷ f) in
    record {
      text = (b ∷ d) ++ 46 ∷ f;
      split = ap (λ (x : List ℕ). (b ∷ d) ++ (46 ∷ x)) g.1 ∙ sym (append_assoc (b ∷ d) (46 ∷ f) (after_digits cs));
      spelled = ((omega arith, all), g.0, refl);
      longest = λ other more behind is s. among b d (46 ∷ cs) all here other more behind is s (length ((b ∷ d) ++ 46 ∷ f)) (omega arith) (λ h h_digits r.
          let inner : cs ≡ h ++ behind = cons_tail 46 46 cs (h ++ behind) r in
          let over : after_digits cs ≡ after_digits behind = ap after_digits inner ∙ digits_eaten h behind h_digits in
          let o = ap length over in
          let le = after_digits_le behind in
          let x = lengths f (after_digits cs) h behind (sym g.1 ∙ inner) in
          omega arith) (λ u x unit r. let same : u ≡ 46 = cons_head u 46 x cs (sym r) in differ (sym unit ∙ ap is_unit same));
    }

pub unit_is : (bytes digits cs : List ℕ) (c : ℕ) → eqb c 46 ≡ false → is_unit c ≡ true → number_from bytes digits (c ∷ cs) ≡ time_at bytes
unit_is bytes digits cs c e f = rw (e, f) refl

int_is : (bytes digits cs : List ℕ) (c : ℕ) → eqb c 46 ≡ false → is_unit c ≡ false → number_from bytes digits (c ∷ cs) ≡ (AnInt digits, c ∷ cs)
int_is bytes digits cs c e f = rw (e, f) refl

number_from_found : (b : ℕ) (d rest : List ℕ) (all : AllDigits 10 (b ∷ d)) → after_digits ((b ∷ d) ++ rest) ≡ rest → FoundAt ((b ∷ d) ++ rest) (number_from ((b ∷ d) ++ rest) (b ∷ d) rest)
number_from_found b d [] all here = int_here b d [] all here (λ f r. cc) (λ u x unit r. cc)
number_from_found b d (c ∷ cs) all here =
    choose (eqb c 46)
    (λ e.
    let P : ℕ → Type 0 = λ n. after_digits ((b ∷ d) ++ (n ∷ cs)) ≡ n ∷ cs → FoundAt ((b ∷ d) ++ (n ∷ cs)) (number_from ((b ∷ d) ++ (n ∷ cs)) (b ∷ d) (n ∷ cs)) in
    let at : P c = subst P (sym (eqb-true c 46 e)) (point_here b d cs all) in
    at here)
    (λ e. choose (is_unit c)
    (λ u. subst (FoundAt ((b ∷ d) ++ (c ∷ cs))) (sym (unit_is ((b ∷ d) ++ (c ∷ cs)) (b ∷ d) cs c e u)) (time_found b (d ++ (c ∷ cs)) c cs (digit_back b all.0) u here))
    (λ u. subst (FoundAt ((b ∷ d) ++ (c ∷ cs))) (sym (int_is ((b ∷ d) ++ (c ∷ cs)) (b ∷ d) cs c e u)) (int_here b d (c ∷ cs) all here (λ f r. let c46 : c ≡ 46 = cc in differ (sym (eq-eqb c 46 c46) ∙ e)) (λ v x unit r. let same : v ≡ c = cons_head v c x cs (sym r) in differ (sym unit ∙ ap is_unit same ∙ u)))))

pub number_found : (b : ℕ) (bs : List ℕ) → is_ascii_digit b ≡ true → FoundAt (b ∷ bs) (number_at (b ∷ bs))
unfolding number_at
number_found b bs e =
    let rest = after_digits (b ∷ bs) in
    let g = front_digits bs in
    let t = b ∷ front bs (after_digits bs) in
    let over : rest ≡ after_digits bs = digits_more b bs e in
    let whole : b ∷ bs ≡ t ++ rest = ap (λ (l : List ℕ). b ∷ l) g.1 ∙ ap (λ l. t ++ l) (sym over) in
    let before : front (b ∷ bs) rest ≡ t = ap (λ x. front x rest) whole ∙ front_is t rest in
    let here : after_digits (t ++ rest) ≡ rest = ap after_digits (sym whole) in
    let all : AllDigits 10 t = ((digit_is b e).0, g.0) in
    let same : number_from (b ∷ bs) (front (b ∷ bs) rest) rest ≡ number_from (t ++ rest) t rest = ap (λ x. number_from (b ∷ bs) x rest) before ∙ ap (λ x. number_from x t rest) whole in
    let P : List ℕ → Type 0 = λ x. FoundAt x (number_from (t ++ rest) t rest) in
    subst (FoundAt (b ∷ bs)) (sym same) (subst P (sym whole) (number_from_found b (front bs (after_digits bs)) rest all here))
