-- How far the parts of a time go.
use Rattle.std.proofs.Common.{◌≡◌, ℕ, ◌≤◌, true, false, eqb, List, [], ◌∷◌, ◌++◌, length, refl, sym, ap, ◌∙◌, subst, arith, append_assoc, Option, Some, None, ⊎_elim, ◌⊎◌, inl, inr}
use Rattle.std.specs.Str.Parse.{IsNumeral}
use Rattle.script_lex.specs.Bytes.{is_unit, starts_digit}
use Rattle.script_lex.specs.Spelling.{ATime, IsDigits, IsShortTime, IsTimeText, part_text, time_text}
use Rattle.script_lex.specs.Reading.{Found, after_digits, front, part_before, part_at, minutes_after, time_at}
use Rattle.script_lex.proofs.Fronts.{choose, after_digits_le}
use Rattle.script_lex.proofs.Eaten.{digits_stop, digits_eaten, unit_not_digit, numeral_first}
use Rattle.script_lex.proofs.Marks.{PartRead, some_is, part_here, part_other, part_end, part_spelled}

-- these parts, each with its unit, before x
abbrev pub behind_parts : List ℕ → List (Option (List ℕ)) → List ℕ → List ℕ
behind_parts [] os x = x
behind_parts (u ∷ us) [] x = x
behind_parts (u ∷ us) (o ∷ os) x = part_text o u ++ behind_parts us os x

-- what is left when the parts of these units are read
abbrev pub left_of_parts : List ℕ → List ℕ → List ℕ
left_of_parts [] bytes = bytes
left_of_parts (u ∷ us) bytes = left_of_parts us (part_at u bytes).1

abbrev pub AllParts : List (Option (List ℕ)) → Type 0
AllParts [] = Unit {0}
AllParts (o ∷ os) = IsDigits o × AllParts os

abbrev pub AllApart : ℕ → List ℕ → Type 0
AllApart u [] = Unit {0}
AllApart u (v ∷ vs) = (eqb v u ≡ false) × AllApart u vs

abbrev pub AreUnits : List ℕ → Type 0
AreUnits [] = Unit {0}
AreUnits (u ∷ us) = (is_unit u ≡ true) × AllApart u us × AreUnits us

abbrev pub units : List ℕ
units = 119 ∷ 104 ∷ 109 ∷ 115 ∷ []

pub units_are : AreUnits units
units_are = (refl, (refl, (refl, (refl, tt))), (refl, (refl, (refl, tt)), (refl, (refl, tt), (refl, tt, tt))))

-- behind parts stands what follows, or digits and one of the units
abbrev pub Next : List ℕ → List ℕ → List ℕ → Type 0
Next us x bytes = (bytes ≡ x) ⊎ ((v : ℕ) × (r : List ℕ) × (after_digits bytes ≡ v ∷ r) × ((u : ℕ) → AllApart u us → eqb v u ≡ false))

next_of : (us : List ℕ) (os : List (Option (List ℕ))) (x : List ℕ) → AreUnits us → AllParts os → Next us x (behind_parts us os x)
next_of [] os x are all = inl refl
next_of (u ∷ us) [] x are all = inl refl
next_of (u ∷ us) (Some ds ∷ os) x are all =
    let rest = behind_parts us os x in
    inr (u, rest, ap after_digits (append_assoc ds (u ∷ []) rest) ∙ digits_eaten ds (u ∷ rest) all.0.1 ∙ digits_stop u rest (unit_not_digit u are.0), λ w apart. apart.0)
next_of (u ∷ us) (None ∷ os) x are all =
    ⊎_elim (λ e. inl e) (λ n. inr (n.0, n.1, n.2, λ w apart. n.3 w apart.1)) (next_of us os x are.2 all.1)

left_le : (us bytes : List ℕ) → length (left_of_parts us bytes) ≤ length bytes
left_le [] bytes = omega arith
left_le (u ∷ us) bytes = let p = part_spelled u bytes in let h = left_le us (part_at u bytes).1 in let le = p.2 in omega arith

some_part : (u : ℕ) (ds rest : List ℕ) → is_unit u ≡ true → IsNumeral 10 ds → part_at u ((ds ++ u ∷ []) ++ rest) ≡ (Some ds, rest)
some_part u ds rest unit n = ap (part_at u) (append_assoc ds (u ∷ []) rest) ∙ part_here u ds rest unit n

second : PartRead → List ℕ
second p = p.1

-- reading goes at least as far as any parts do
pub far : (us : List ℕ) (os : List (Option (List ℕ))) (x : List ℕ) → AreUnits us → AllParts os → length (left_of_parts us (behind_parts us os x)) ≤ length x
unfolding second
far [] os x are all = omega arith
far (u ∷ us) [] x are all = left_le (u ∷ us) x
far (u ∷ us) (Some ds ∷ os) x are all =
    let rest = behind_parts us os x in
    let is : (part_at u ((ds ++ u ∷ []) ++ rest)).1 ≡ rest = ap second (some_part u ds rest are.0 all.0) in
    let P : List ℕ → Type 0 = λ l. length (left_of_parts us l) ≤ length x in
    subst P (sym is) (far us os x are.2 all.1)
far (u ∷ us) (None ∷ os) x are all =
    let bytes = behind_parts us os x in
    ⊎_elim
    (λ e. let le = left_le (u ∷ us) bytes in let size = ap length e in omega arith)
    (λ n.
    let is : (part_at u bytes).1 ≡ bytes = ap second (part_other u n.0 bytes n.1 n.2 (n.3 u are.1)) in
    let P : List ℕ → Type 0 = λ l. length (left_of_parts us l) ≤ length x in
    subst P (sym is) (far us os x are.2 all.1))
    (next_of us os x are.2 all.1)

-- where no unit follows, each part is read as it is
pub exact : (u : ℕ) (us : List ℕ) (o : Option (List ℕ)) (os : List (Option (List ℕ))) (x : List ℕ) → AreUnits (u ∷ us) → AllParts (o ∷ os) → after_digits x ≡ [] → part_at u (behind_parts (u ∷ us) (o ∷ os) x) ≡ (o, behind_parts us os x)
exact u us (Some ds) os x are all end = some_part u ds (behind_parts us os x) are.0 all.0
exact u us None os x are all end =
    let bytes = behind_parts us os x in
    ⊎_elim
    (λ e. part_end u bytes (ap after_digits e ∙ end))
    (λ n. part_other u n.0 bytes n.1 n.2 (n.3 u are.1))
    (next_of us os x are.2 all.1)

pub whole_is : (day hour minute second : Option (List ℕ)) (x : List ℕ) → time_text day hour minute second ++ x ≡ behind_parts units (day ∷ hour ∷ minute ∷ second ∷ []) x
whole_is day hour minute second x =
    let a = part_text day 119 in let b = part_text hour 104 in let c = part_text minute 109 in let d = part_text second 115 in
    append_assoc a (b ++ (c ++ d)) x ∙ ap (λ (l : List ℕ). a ++ l) (append_assoc b (c ++ d) x ∙ ap (λ (l : List ℕ). b ++ l) (append_assoc c d x))

-- minutes without a unit
pub minutes_le : (day hour minute second : Option (List ℕ)) (bytes : List ℕ) → length (minutes_after day hour minute second bytes).1 ≤ length bytes
minutes_le day (Some h) None None bytes = choose (starts_digit bytes) (λ e. rw e (after_digits_le bytes)) (λ e. rw e (omega arith))
minutes_le day hour minute second bytes = omega arith

pub short_is : (day : Option (List ℕ)) (h bytes : List ℕ) → starts_digit bytes ≡ true → minutes_after day (Some h) None None bytes ≡ (ATime day (Some h) (Some (front bytes (after_digits bytes))) None, after_digits bytes)
short_is day h bytes e = rw e refl

pub bare_is : (day : Option (List ℕ)) (h bytes : List ℕ) → starts_digit bytes ≡ false → minutes_after day (Some h) None None bytes ≡ (ATime day (Some h) None None, bytes)
bare_is day h bytes e = rw e refl

-- behind an hour
abbrev pub after_hour : Option (List ℕ) → List ℕ → List ℕ → Found
after_hour day h y =
    let minute = part_at 109 y in
    let second = part_at 115 minute.1 in
    minutes_after day (Some h) minute.0 second.0 second.1

day_exact : (day : Option (List ℕ)) (h y : List ℕ) → IsDigits day → IsNumeral 10 h → part_at 119 (part_text day 119 ++ ((h ++ 104 ∷ []) ++ y)) ≡ (day, (h ++ 104 ∷ []) ++ y)
day_exact (Some d) h y digits n = some_part 119 d ((h ++ 104 ∷ []) ++ y) refl digits
day_exact None h y digits n = part_other 119 104 ((h ++ 104 ∷ []) ++ y) y (ap after_digits (append_assoc h (104 ∷ []) y) ∙ digits_eaten h (104 ∷ y) n.1) refl

pub from_hour : (day : Option (List ℕ)) (h y : List ℕ) → IsDigits day → IsNumeral 10 h → time_at (part_text day 119 ++ ((h ++ 104 ∷ []) ++ y)) ≡ after_hour day h y
unfolding time_at
from_hour day h y digits n =
    let F : PartRead → Found = λ p. let hour = part_at 104 p.1 in let minute = part_at 109 hour.1 in let second = part_at 115 minute.1 in minutes_after p.0 hour.0 minute.0 second.0 second.1 in
    let G : PartRead → Found = λ hour. let minute = part_at 109 hour.1 in let second = part_at 115 minute.1 in minutes_after day hour.0 minute.0 second.0 second.1 in
    ap F (day_exact day h y digits n) ∙ ap G (some_part 104 h y refl n)

some_at : (u : ℕ) (y zs : List ℕ) (v : ℕ) → starts_digit y ≡ true → eqb v u ≡ true → after_digits y ≡ v ∷ zs → part_at u y ≡ (Some (front y (v ∷ zs)), zs)
unfolding part_at
some_at u y zs v first e is = ap (part_before u y) is ∙ some_is u y zs v first e

-- from there reading goes at least behind the digits
hour_far : (day : Option (List ℕ)) (h y z : List ℕ) → starts_digit y ≡ true → after_digits y ≡ z → length (after_hour day h y).1 ≤ length z
hour_far day h y [] first is =
    let G : PartRead → Found = λ minute. let second = part_at 115 minute.1 in minutes_after day (Some h) minute.0 second.0 second.1 in
    let H : PartRead → Found = λ second. minutes_after day (Some h) None second.0 second.1 in
    let all : after_hour day h y ≡ (ATime day (Some h) (Some (front y (after_digits y))) None, after_digits y) = ap G (part_end 109 y is) ∙ ap H (part_end 115 y is) ∙ short_is day h y first in
    let L : Found → ℕ = λ f. length f.1 in
    let size = ap L all in let zero = ap length is in omega arith
hour_far day h y (v ∷ zs) first is =
    let G : PartRead → Found = λ minute. let second = part_at 115 minute.1 in minutes_after day (Some h) minute.0 second.0 second.1 in
    let H : PartRead → Found = λ second. minutes_after day (Some h) None second.0 second.1 in
    let L : Found → ℕ = λ f. length f.1 in
    choose (eqb v 109)
    (λ e.
    let minute : part_at 109 y ≡ (Some (front y (v ∷ zs)), zs) = some_at 109 y zs v first e is in
    let size = ap L (ap G minute) in
    let p = part_spelled 115 zs in
    let le = minutes_le day (Some h) (Some (front y (v ∷ zs))) (part_at 115 zs).0 (part_at 115 zs).1 in
    let less = p.2 in
    omega arith)
    (λ e. choose (eqb v 115)
    (λ f.
    let all : after_hour day h y ≡ (ATime day (Some h) None (Some (front y (v ∷ zs))), zs) = ap G (part_other 109 v y zs is e) ∙ ap H (some_at 115 y zs v first f is) in
    let size = ap L all in omega arith)
    (λ f.
    let all : after_hour day h y ≡ (ATime day (Some h) (Some (front y (after_digits y))) None, after_digits y) = ap G (part_other 109 v y zs is e) ∙ ap H (part_other 115 v y zs is f) ∙ short_is day h y first in
    let size = ap L all in let same = ap length is in omega arith))

whole_far : (day hour minute second : Option (List ℕ)) (bytes more behind : List ℕ) → IsTimeText day hour minute second more → bytes ≡ more ++ behind → more ≡ time_text day hour minute second → length (time_at bytes).1 ≤ length behind
unfolding time_at
whole_far day hour minute second bytes more behind t is whole =
    let all : bytes ≡ behind_parts units (day ∷ hour ∷ minute ∷ second ∷ []) behind = is ∙ ap (λ (l : List ℕ). l ++ behind) whole ∙ whole_is day hour minute second behind in
    let f = far units (day ∷ hour ∷ minute ∷ second ∷ []) behind units_are (t.day_digits, (t.hour_digits, (t.minute_digits, (t.second_digits, tt)))) in
    let P : List ℕ → Type 0 = λ l. length (left_of_parts units l) ≤ length behind in
    let g : length (left_of_parts units bytes) ≤ length behind = subst P (sym all) f in
    let a = part_at 119 bytes in let b = part_at 104 a.1 in let c = part_at 109 b.1 in let d = part_at 115 c.1 in
    let le = minutes_le a.0 b.0 c.0 d.0 d.1 in
    omega arith

short_far : (day hour minute second : Option (List ℕ)) (bytes more behind : List ℕ) → IsTimeText day hour minute second more → bytes ≡ more ++ behind → IsShortTime day hour minute second more → length (time_at bytes).1 ≤ length behind
short_far day (Some h) (Some m) None bytes more behind t is short =
    let a = part_text day 119 in let b = h ++ 104 ∷ [] in
    let all : bytes ≡ a ++ (b ++ (m ++ behind)) = is ∙ ap (λ (l : List ℕ). l ++ behind) short ∙ append_assoc a (b ++ m) behind ∙ ap (λ (l : List ℕ). a ++ l) (append_assoc b m behind) in
    let L : Found → ℕ = λ f. length f.1 in
    let size = ap L (ap time_at all ∙ from_hour day h (m ++ behind) t.day_digits t.hour_digits) in
    let le = hour_far day h (m ++ behind) (after_digits behind) (numeral_first m behind t.minute_digits) (digits_eaten m behind t.minute_digits.1) in
    let less = after_digits_le behind in
    omega arith
short_far day (Some h) (Some m) (Some s) bytes more behind t is short = absurd short
short_far day (Some h) None second bytes more behind t is short = absurd short
short_far day None minute second bytes more behind t is short = absurd short

-- reading goes at least as far as any time does
pub time_far : (day hour minute second : Option (List ℕ)) (bytes more behind : List ℕ) → IsTimeText day hour minute second more → bytes ≡ more ++ behind → length (time_at bytes).1 ≤ length behind
time_far day hour minute second bytes more behind t is =
    ⊎_elim (whole_far day hour minute second bytes more behind t is) (short_far day hour minute second bytes more behind t is) t.spelled
