-- The longest time at the front.
use Rattle.std.proofs.Common.{◌≡◌, ◌≢◌, ℕ, ◌<◌, ◌≤◌, true, eqb, List, [], ◌∷◌, ◌++◌, length, refl, sym, ap, ◌∙◌, subst, arith, append_assoc, length-append, Option, Some, None, ⊎_elim, inl, inr, ◌||◌}
use Rattle.std.proofs.lemmas.Bool.{eqb-true, or_cases}
use Rattle.std.specs.Char.{is_ascii_digit}
use Rattle.std.specs.Str.Parse.{IsNumeral}
use Rattle.script_lex.specs.Bytes.{is_unit, starts_digit}
use Rattle.script_lex.specs.Spelling.{Shape, AnInt, ANumber, ATime, SpellsShape, IsDigits, IsTimeText, part_text, time_text}
use Rattle.script_lex.specs.Reading.{Found, after_digits, front, part_at, minutes_after, time_at}
use Rattle.script_lex.proofs.Fronts.{choose, after_digits_le}
use Rattle.script_lex.proofs.Eaten.{digits_eaten, front_digits, numeral_front}
use Rattle.script_lex.proofs.Firsts.{Digit, class, first_of, digit_class}
use Rattle.script_lex.proofs.Marks.{part_spelled}
use Rattle.script_lex.proofs.Reach.{behind_parts, units, whole_is, short_is, bare_is, time_far}
use Rattle.script_lex.proofs.Apart.{FoundAt, differ, cons_head, lengths}

-- digits and one unit are a time
one_part : (digits : List ℕ) (unit : ℕ) → is_unit unit ≡ true → IsNumeral 10 digits → (day hour minute second : Option (List ℕ)) × IsTimeText day hour minute second (digits ++ unit ∷ [])
one_part digits unit e n =
    ⊎_elim
    (λ a. (Some digits, None, None, None, record { day_digits = n; hour_digits = tt; minute_digits = tt; second_digits = tt; some = some digits unit; spelled = inl (ap (λ u. digits ++ u ∷ []) (eqb-true unit 119 a) ∙ sym (nothing_behind (digits ++ 119 ∷ []))) }))
    (λ a. ⊎_elim
    (λ b. (None, Some digits, None, None, record { day_digits = tt; hour_digits = n; minute_digits = tt; second_digits = tt; some = some digits unit; spelled = inl (ap (λ u. digits ++ u ∷ []) (eqb-true unit 104 b) ∙ sym (nothing_behind (digits ++ 104 ∷ []))) }))
    (λ b. ⊎_elim
    (λ c. (None, None, Some digits, None, record { day_digits = tt; hour_digits = tt; minute_digits = n; second_digits = tt; some = some digits unit; spelled = inl (ap (λ u. digits ++ u ∷ []) (eqb-true unit 109 c) ∙ sym (nothing_behind (digits ++ 109 ∷ []))) }))
    (λ c. (None, None, None, Some digits, record { day_digits = tt; hour_digits = tt; minute_digits = tt; second_digits = n; some = some digits unit; spelled = inl (ap (λ u. digits ++ u ∷ []) (eqb-true unit 115 c)) }))
    (or_cases (eqb unit 109) (eqb unit 115) b))
    (or_cases (eqb unit 104) (eqb unit 109 || eqb unit 115) a))
    (or_cases (eqb unit 119) (eqb unit 104 || (eqb unit 109 || eqb unit 115)) e)
  where
    nothing_behind : (a : List ℕ) → a ++ [] ≡ a
    nothing_behind [] = refl
    nothing_behind (x ∷ a) = ap (λ (l : List ℕ). x ∷ l) (nothing_behind a)

    some : (digits : List ℕ) (unit : ℕ) → digits ++ unit ∷ [] ≢ []
    some digits unit = λ is. let size = ap length is in let sum = length-append digits (unit ∷ []) in omega arith

-- reading goes behind the first unit
behind_unit : (bytes : List ℕ) (c : ℕ) (cs : List ℕ) → starts_digit bytes ≡ true → is_unit c ≡ true → after_digits bytes ≡ c ∷ cs → length (time_at bytes).1 ≤ length cs
behind_unit bytes c cs first unit here =
    let digits = front bytes (after_digits bytes) in
    let o = one_part digits c unit (numeral_front bytes first) in
    let whole : bytes ≡ (digits ++ c ∷ []) ++ cs = (front_digits bytes).1 ∙ ap (λ (l : List ℕ). digits ++ l) here ∙ sym (append_assoc digits (c ∷ []) cs) in
    time_far o.0 o.1 o.2 o.3 bytes (digits ++ c ∷ []) cs o.4 whole

-- and as far as any shape
all_far : (b : ℕ) (bs : List ℕ) (c : ℕ) (cs : List ℕ) → is_ascii_digit b ≡ true → is_unit c ≡ true → after_digits (b ∷ bs) ≡ c ∷ cs → (other : Shape) (more behind : List ℕ) → b ∷ bs ≡ more ++ behind → SpellsShape other more → length (time_at (b ∷ bs)).1 ≤ length behind
all_far b bs c cs digit unit here (ATime day hour minute second) more behind is s = time_far day hour minute second (b ∷ bs) more behind s is
all_far b bs c cs digit unit here (AnInt n) more behind is s =
    let over : c ∷ cs ≡ after_digits behind = sym here ∙ ap after_digits is ∙ digits_eaten more behind s.0.1 in
    let size = ap length over in
    let le = after_digits_le behind in
    let less = behind_unit (b ∷ bs) c cs digit unit here in
    omega arith
all_far b bs c cs digit unit here (ANumber w f) more behind is s =
    let whole : b ∷ bs ≡ w ++ (46 ∷ (f ++ behind)) = is ∙ ap (λ (x : List ℕ). x ++ behind) s.2 ∙ append_assoc w (46 ∷ f) behind in
    let over : c ∷ cs ≡ 46 ∷ (f ++ behind) = sym here ∙ ap after_digits whole ∙ digits_eaten w (46 ∷ (f ++ behind)) s.0.1 in
    absurd (differ (sym unit ∙ ap is_unit (cons_head c 46 cs (f ++ behind) over)))
all_far b bs c cs digit unit here other more behind is s =
    let k : Digit ≡ class other = sym (digit_class b digit) ∙ first_of other b bs more behind s is in absurd cc

-- a time that is read, and its text
pub record TimeRead (bytes : List ℕ) (found : Found) : Type 0 where
  pub day : Option (List ℕ)
  pub hour : Option (List ℕ)
  pub minute : Option (List ℕ)
  pub second : Option (List ℕ)
  pub rest : List ℕ
  pub text : List ℕ
  pub is : found ≡ (ATime day hour minute second, rest)
  pub split : bytes ≡ text ++ rest
  pub spelled : IsTimeText day hour minute second text

not_empty : (bytes text rest : List ℕ) → bytes ≡ text ++ rest → length rest < length bytes → text ≢ []
not_empty bytes text rest is less = λ empty. let size = ap length (is ∙ ap (λ (l : List ℕ). l ++ rest) empty) in omega arith

plain_read : (day hour minute second : Option (List ℕ)) (bytes rest : List ℕ) (found : Found) → IsDigits day → IsDigits hour → IsDigits minute → IsDigits second → bytes ≡ behind_parts units (day ∷ hour ∷ minute ∷ second ∷ []) rest → found ≡ (ATime day hour minute second, rest) → length found.1 < length bytes → TimeRead bytes found
plain_read day hour minute second bytes rest found d h m s all is less =
    let split : bytes ≡ time_text day hour minute second ++ rest = all ∙ sym (whole_is day hour minute second rest) in
    let L : Found → ℕ = λ f. length f.1 in
    let same = ap L is in
    record {
      day = day;
      hour = hour;
      minute = minute;
      second = second;
      rest = rest;
      text = time_text day hour minute second;
      is = is;
      split = split;
      spelled = record { day_digits = d; hour_digits = h; minute_digits = m; second_digits = s; some = not_empty bytes (time_text day hour minute second) rest split (omega arith); spelled = inl refl };
    }

short_read : (day : Option (List ℕ)) (h bytes rest : List ℕ) (found : Found) → IsDigits day → IsNumeral 10 h → bytes ≡ part_text day 119 ++ ((h ++ 104 ∷ []) ++ rest) → starts_digit rest ≡ true → found ≡ (ATime day (Some h) (Some (front rest (after_digits rest))) None, after_digits rest) → length found.1 < length bytes → TimeRead bytes found
short_read day h bytes rest found d n all first is less =
    let a = part_text day 119 in let b = h ++ 104 ∷ [] in let f = front rest (after_digits rest) in
    let split : bytes ≡ (a ++ (b ++ f)) ++ after_digits rest =
    all ∙ ap (λ (l : List ℕ). a ++ (b ++ l)) (front_digits rest).1 ∙ sym (append_assoc a (b ++ f) (after_digits rest) ∙ ap (λ (l : List ℕ). a ++ l) (append_assoc b f (after_digits rest))) in
    let L : Found → ℕ = λ x. length x.1 in
    let same = ap L is in
    record {
      day = day;
      hour = Some h;
      minute = Some f;
      second = None;
      rest = after_digits rest;
      text = a ++ (b ++ f);
      is = is;
      split = split;
      spelled = record { day_digits = d; hour_digits = n; minute_digits = numeral_front rest first; second_digits = tt; some = not_empty bytes (a ++ (b ++ f)) (after_digits rest) split (omega arith); spelled = inr refl };
    }

minutes_read : (day hour minute second : Option (List ℕ)) (bytes rest : List ℕ) → IsDigits day → IsDigits hour → IsDigits minute → IsDigits second → bytes ≡ behind_parts units (day ∷ hour ∷ minute ∷ second ∷ []) rest → length (minutes_after day hour minute second rest).1 < length bytes → TimeRead bytes (minutes_after day hour minute second rest)
minutes_read day (Some h) None None bytes rest d n m s all less =
    choose (starts_digit rest)
    (λ e. short_read day h bytes rest (minutes_after day (Some h) None None rest) d n all e (short_is day h rest e) less)
    (λ e. plain_read day (Some h) None None bytes rest (minutes_after day (Some h) None None rest) d n m s all (bare_is day h rest e) less)
minutes_read day hour minute second bytes rest d n m s all less = plain_read day hour minute second bytes rest (minutes_after day hour minute second rest) d n m s all refl less

time_read : (bytes : List ℕ) → length (time_at bytes).1 < length bytes → TimeRead bytes (time_at bytes)
unfolding time_at
time_read bytes less =
    let a = part_at 119 bytes in let b = part_at 104 a.1 in let c = part_at 109 b.1 in let d = part_at 115 c.1 in
    let w = part_spelled 119 bytes in let h = part_spelled 104 a.1 in let m = part_spelled 109 b.1 in let s = part_spelled 115 c.1 in
    let all : bytes ≡ part_text a.0 119 ++ (part_text b.0 104 ++ (part_text c.0 109 ++ (part_text d.0 115 ++ d.1))) =
    w.1 ∙ ap (λ (l : List ℕ). part_text a.0 119 ++ l) (h.1 ∙ ap (λ (l : List ℕ). part_text b.0 104 ++ l) (m.1 ∙ ap (λ (l : List ℕ). part_text c.0 109 ++ l) s.1)) in
    minutes_read a.0 b.0 c.0 d.0 bytes d.1 w.0 h.0 m.0 s.0 all less

pub time_found : (b : ℕ) (bs : List ℕ) (c : ℕ) (cs : List ℕ) → is_ascii_digit b ≡ true → is_unit c ≡ true → after_digits (b ∷ bs) ≡ c ∷ cs → FoundAt (b ∷ bs) (time_at (b ∷ bs))
time_found b bs c cs digit unit here =
    let size = ap length here in
    let le = after_digits_le (b ∷ bs) in
    let less = behind_unit (b ∷ bs) c cs digit unit here in
    let t = time_read (b ∷ bs) (omega arith) in
    let L : Found → ℕ = λ f. length f.1 in
    let same = ap L t.is in
    let at : FoundAt (b ∷ bs) (ATime t.day t.hour t.minute t.second, t.rest) = record {
      text = t.text;
      split = t.split;
      spelled = t.spelled;
      longest = λ other more behind is s.
          let far = all_far b bs c cs digit unit here other more behind is s in
          let sum = lengths t.text t.rest more behind (sym t.split ∙ is) in
          omega arith;
    } in
    subst (FoundAt (b ∷ bs)) (sym t.is) at
