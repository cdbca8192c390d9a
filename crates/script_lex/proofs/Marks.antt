-- The longest time at the front.
use Rattle.std.proofs.Common.{◌≡◌, ℕ, ◌≤◌, Bool, true, false, ◌&&◌, eqb, List, [], ◌∷◌, ◌++◌, length, refl, sym, ap, ◌∙◌, subst, arith, append_assoc, Option, Some, None}
use Rattle.std.proofs.lemmas.Bool.{eqb-true, eq-eqb, and_parts}
use Rattle.std.specs.Str.Parse.{IsNumeral}
use Rattle.script_lex.specs.Bytes.{is_unit, starts_digit}
use Rattle.script_lex.specs.Spelling.{IsDigits, part_text}
use Rattle.script_lex.specs.Reading.{after_digits, front, part_before, part_at}
use Rattle.script_lex.proofs.Fronts.{choose, front_is, after_digits_le}
use Rattle.script_lex.proofs.Eaten.{digits_stop, digits_eaten, front_digits, unit_not_digit, numeral_front, numeral_first}

abbrev pub PartRead : Type 0
PartRead = Option (List ℕ) × List ℕ

-- the part of this unit that stands at the front
pub some_is : (u : ℕ) (bytes bs : List ℕ) (b : ℕ) → starts_digit bytes ≡ true → eqb b u ≡ true → part_before u bytes (b ∷ bs) ≡ (Some (front bytes (b ∷ bs)), bs)
some_is u bytes bs b e f = rw (e, f) refl

none_is : (u : ℕ) (bytes bs : List ℕ) (b : ℕ) → (starts_digit bytes && eqb b u) ≡ false → part_before u bytes (b ∷ bs) ≡ (None, bytes)
none_is u bytes bs b e = rw e refl

pub part_here : (u : ℕ) (ds r : List ℕ) → is_unit u ≡ true → IsNumeral 10 ds → part_at u (ds ++ (u ∷ r)) ≡ (Some ds, r)
unfolding part_at
part_here u ds r unit n =
    let over : after_digits (ds ++ (u ∷ r)) ≡ u ∷ r = digits_eaten ds (u ∷ r) n.1 ∙ digits_stop u r (unit_not_digit u unit) in
    let P : List ℕ → PartRead = λ x. (Some x, r) in
    ap (part_before u (ds ++ (u ∷ r))) over ∙ some_is u (ds ++ (u ∷ r)) r u (numeral_first ds (u ∷ r) n) (eq-eqb u u refl) ∙ ap P (front_is ds (u ∷ r))

pub part_other : (u v : ℕ) (bytes r : List ℕ) → after_digits bytes ≡ v ∷ r → eqb v u ≡ false → part_at u bytes ≡ (None, bytes)
unfolding part_at
part_other u v bytes r is e = ap (part_before u bytes) is ∙ none_is u bytes r v (and_false (starts_digit bytes) (eqb v u) e)
  where
    and_false : (a b : Bool) → b ≡ false → (a && b) ≡ false
    and_false true b e = e
    and_false false b e = refl

pub part_end : (u : ℕ) (bytes : List ℕ) → after_digits bytes ≡ [] → part_at u bytes ≡ (None, bytes)
unfolding part_at
part_end u bytes is = ap (part_before u bytes) is

-- what a part that is read says
abbrev pub Part : ℕ → List ℕ → PartRead → Type 0
Part u bytes p = IsDigits p.0 × (bytes ≡ part_text p.0 u ++ p.1) × (length p.1 ≤ length bytes)

pub part_spelled : (u : ℕ) (bytes : List ℕ) → Part u bytes (part_at u bytes)
unfolding part_at
part_spelled u bytes = cases u bytes (after_digits bytes) refl
  where
    cases : (u : ℕ) (bytes rest : List ℕ) → after_digits bytes ≡ rest → Part u bytes (part_before u bytes rest)
    cases u bytes [] is = (tt, refl, omega arith)
    cases u bytes (b ∷ bs) is =
        choose (starts_digit bytes && eqb b u)
        (λ e.
        let p = and_parts (starts_digit bytes) (eqb b u) e in
        let g = front_digits bytes in
        let n = numeral_front bytes p.0 in
        let N : List ℕ → Type 0 = λ x. IsNumeral 10 (front bytes x) in
        let same = eqb-true b u p.1 in
        let W : List ℕ → Type 0 = λ x. bytes ≡ front bytes x ++ x in
        let whole : bytes ≡ front bytes (b ∷ bs) ++ (b ∷ bs) = subst W is g.1 in
        let unit : bytes ≡ (front bytes (b ∷ bs) ++ u ∷ []) ++ bs = whole ∙ ap (λ n. front bytes (b ∷ bs) ++ (n ∷ bs)) same ∙ sym (append_assoc (front bytes (b ∷ bs)) (u ∷ []) bs) in
        let size = ap length is in
        let le = after_digits_le bytes in
        subst (Part u bytes) (sym (some_is u bytes bs b p.0 p.1)) (subst N is n, unit, omega arith))
        (λ e. subst (Part u bytes) (sym (none_is u bytes bs b e)) (tt, refl, omega arith))
