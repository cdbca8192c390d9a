-- The number that a line names is found where it stands, and nowhere else.
use Rattle.std.proofs.Common.{◌≡◌, ℕ, ◌+◌, ◌-◌, ◌<◌, ◌≤◌, ◌^◌, List, [], ◌∷◌, ◌++◌, length, take, drop, Bool, true, false, not, eqb, refl, sym, ap, subst, ◌∙◌, arith, append_assoc, Option, Some, None, get_or, add-one, decimal}
use Rattle.std.specs.Prelude.{option_map, nat_eq, IfSome}
use Rattle.std.specs.Char.{is_ascii_digit}
use Rattle.std.specs.List.{position, prefix_len, suffix_len, ends_with}
use Rattle.std.specs.Str.Parse.{AllDigits}
use Rattle.std.proofs.lemmas.Bool.{ne_eqb, lt-ltb, le-leb, eqb-true, eq-eqb}
use Rattle.std.proofs.lemmas.Bool.Decides.{Decides-eqb}
use Rattle.std.proofs.lemmas.Fmt.{decimal_is_IsNumeral}
use Rattle.std.proofs.lemmas.List.{length-append, take-append-drop, get_or_append_left, get_or-append-add, get_or-append_right}
use Rattle.std.proofs.lemmas.List.Quantifiers.{position-Some}
use Rattle.std.proofs.lemmas.List.Sums.{suffix_len_is}
use Rattle.std.proofs.lemmas.Slice.Eq.{ends_is}
use Rattle.std.proofs.lemmas.Str.Parse.{digit_at, digit_from_value}
use Rattle.std.proofs.Math.Seq.{drop-cons}
use Rattle.script_places.specs.Naming.{EndsIn, IsNamed, IsNamedBy, IsNumbered, Leads, form_of, is_no_blank}
use Rattle.script_places.specs.declared.forms.Form.{Form}
use Rattle.script_places.specs.declared.named.Named.{Named}

take_there : (xs ys : List ℕ) → take (length xs) (xs ++ ys) ≡ xs
take_there [] ys = refl
take_there (x ∷ xs) ys = ap (λ (r : List ℕ). x ∷ r) (take_there xs ys)

drop_there : (xs ys : List ℕ) → drop (length xs) (xs ++ ys) ≡ ys
drop_there [] ys = refl
drop_there (x ∷ xs) ys = drop_there xs ys

-- ---- a number at the end
all_digits : (n : ℕ) → n < 2 ^ 64 → AllDigits 10 (decimal n)
all_digits n small = (decimal_is_IsNumeral n small).0.1

some_words : (words : List ℕ) → get_or words (length words - 1) 0 ≡ 32 → 0 < length words
some_words [] e = absurd cc
some_words (b ∷ words) e = omega arith

last_is_blank : (xs words ds : List ℕ) → get_or words (length words - 1) 0 ≡ 32 → is_no_blank (get_or ((xs ++ words) ++ ds) (length (xs ++ words) - 1) 0) ≡ false
last_is_blank xs words ds e =
    let some = some_words words e in
    let long = length-append xs words in
    let at : length (xs ++ words) - 1 ≡ length xs + (length words - 1) = omega (arith, long, some) in
    let is : get_or ((xs ++ words) ++ ds) (length (xs ++ words) - 1) 0 ≡ 32 =
    get_or_append_left (xs ++ words) ds 0 (length (xs ++ words) - 1) (omega (arith, long, some))
    ∙ ap (λ i. get_or (xs ++ words) i 0) at ∙ get_or-append-add xs words (length words - 1) 0 ∙ e in
    ap (λ b. not (eqb b 32)) is

digits_are_none : (xs ds : List ℕ) → AllDigits 10 ds → (k : ℕ) → length xs ≤ k → k < length (xs ++ ds) → is_no_blank (get_or (xs ++ ds) k 0) ≡ true
digits_are_none xs ds digits k from to =
    let long = length-append xs ds in
    let range = digit_at ds (k - length xs) digits (omega (arith, long, from, to)) in
    ap (λ b. not (eqb b 32)) (get_or-append_right xs ds (length xs) k 0 refl from)
    ∙ ap not (ne_eqb (get_or ds (k - length xs) 0) 32 (λ e. omega (arith, e, range)))

-- where the last word begins, if it is a number behind words that end in a blank
word_begins : (xs words line : List ℕ) (n s : ℕ) → n < 2 ^ 64 → get_or words (length words - 1) 0 ≡ 32 → line ≡ (xs ++ words) ++ decimal n
    → s ≡ length line - suffix_len is_no_blank line → s ≡ length (xs ++ words)
word_begins xs words line n s small e is at =
    let whole = (xs ++ words) ++ decimal n in
    let long = length-append (xs ++ words) (decimal n) in
    let there = suffix_len_is is_no_blank whole (length (xs ++ words)) 0 (omega (arith, long)) (digits_are_none (xs ++ words) (decimal n) (all_digits n small)) (λ some. last_is_blank xs words (decimal n) e) in
    let back : s ≡ length whole - suffix_len is_no_blank whole = at ∙ ap (λ (l : List ℕ). length l - suffix_len is_no_blank l) is in
    omega (arith, back, there, long)

pub at_end_is : (line words front number : List ℕ) (s n : ℕ) → n < 2 ^ 64 → get_or words (length words - 1) 0 ≡ 32 → EndsIn words line n
    → s ≡ length line - suffix_len is_no_blank line → front ≡ take s line → number ≡ drop s line → (xs : List ℕ) × (front ≡ xs ++ words) × (number ≡ decimal n)
at_end_is line words front number s n small e h at before behind =
    let is : line ≡ (h.front ++ words) ++ decimal n = h.spelled ∙ sym (append_assoc h.front words (decimal n)) in
    let begins = word_begins h.front words line n s small e is at in (
      h.front,
      before ∙ ap (λ i. take i line) begins ∙ ap (take (length (h.front ++ words))) is ∙ take_there (h.front ++ words) (decimal n),
      behind ∙ ap (λ i. drop i line) begins ∙ ap (drop (length (h.front ++ words))) is ∙ drop_there (h.front ++ words) (decimal n),
    )

-- the words stand there, or not
pub ended : (front words : List ℕ) (r : Bool) → r ≡ ends_with nat_eq front words → (r ≡ true → front ≡ take (length front - length words) front ++ words) × ((xs : List ℕ) → front ≡ xs ++ words → r ≡ true)
ended front words r is = ends_is Decides-eqb front words r is

pub ends_in : (line words front number : List ℕ) (s n : ℕ) → front ≡ take s line → number ≡ drop s line → front ≡ take (length front - length words) front ++ words → number ≡ decimal n → EndsIn words line n
ends_in line words front number s n before behind words_are is =
    let k = length front - length words in
    record {
      front = take k front;
      spelled = sym (take-append-drop s line) ∙ ap (λ (l : List ℕ). l ++ drop s line) (sym before ∙ words_are) ∙ append_assoc (take k front) words (drop s line)
          ∙ ap (λ (l : List ℕ). take k front ++ (words ++ l)) (sym behind ∙ is);
    }

-- ---- a number in front
is_digit : (b : ℕ) → 48 ≤ b → b ≤ 57 → is_ascii_digit b ≡ true
is_digit b low high = rw (le-leb 48 b low, le-leb b 57 high) refl

-- digits are read over
passed : (w f : List ℕ) (byte : ℕ) → AllDigits 10 w → is_ascii_digit byte ≡ false → prefix_len (λ x. not (eqb x byte)) (w ++ byte ∷ f) ≡ length w
passed [] f byte digits none = rw (eq-eqb byte byte refl) refl
passed (b ∷ bs) f byte digits none =
    let range = digit_from_value b digits.0 in
    let is = is_digit b (omega (arith, range)) (omega (arith, range)) in
    rw (ne_eqb b byte (λ e. let same = ap is_ascii_digit e in cc), passed bs f byte digits.1 none) (omega arith)

stands : (w f : List ℕ) (byte : ℕ) → AllDigits 10 w → is_ascii_digit byte ≡ false → position (λ x. eqb x byte) (w ++ byte ∷ f) ≡ Some (length w)
stands w f byte digits none = rw (passed w f byte digits none, lt-ltb (length w) (length (w ++ byte ∷ f)) (let long = length-append w (byte ∷ f) in omega (arith, long))) refl

-- it stands behind the number
pub leads_there : (text : List ℕ) (byte n : ℕ) → n < 2 ^ 64 → is_ascii_digit byte ≡ false → Leads byte text n → position (λ x. eqb x byte) text ≡ Some (length (decimal n))
leads_there text byte n small none h = ap (position (λ x. eqb x byte)) h.spelled ∙ stands (decimal n) h.rest byte (all_digits n small) none

pub leads_number : (text : List ℕ) (byte n i : ℕ) → n < 2 ^ 64 → is_ascii_digit byte ≡ false → Leads byte text n → Some i ≡ position (λ x. eqb x byte) text → take i text ≡ decimal n
leads_number text byte n i small none h is =
    let there = leads_there text byte n small none h in
    let at : i ≡ length (decimal n) = cc in
    ap (λ k. take k text) at ∙ ap (take (length (decimal n))) h.spelled ∙ take_there (decimal n) (byte ∷ h.rest)

pub leads_from : (text number : List ℕ) (byte n i : ℕ) → Some i ≡ position (λ x. eqb x byte) text → number ≡ take i text → number ≡ decimal n → Leads byte text n
leads_from text number byte n i is front digits =
    let at = position-Some (λ x. eqb x byte) text i 0 (sym is) in
    let there : get_or text i 0 ≡ byte = eqb-true (get_or text i 0) byte at.1 in
    record {
      rest = drop (i + 1) text;
      spelled = sym (take-append-drop i text) ∙ ap (λ (l : List ℕ). l ++ drop i text) (sym front ∙ digits)
          ∙ ap (λ (l : List ℕ). decimal n ++ l) (drop-cons text i 0 at.0 ∙ rw there (rw add-one refl));
    }

-- ---- places
pub each_found : {P Q : ℕ → Type 0} (found : Option ℕ) → ((n : ℕ) → P n → Q n) → IfSome found P → IfSome found Q
each_found None f is = tt
each_found (Some n) f is = f n is

pub numbered : {place : ℕ → Named} {Holds : ℕ → Type 0} {found : Option ℕ} → ((n : ℕ) → n < 2 ^ 64 → Holds n → found ≡ Some n)
    → (named : Named) → IsNumbered place Holds named → option_map place found ≡ Some named
numbered {place} only named h = ap (option_map place) (only h.number h.small h.holds) ∙ ap Some (sym h.is)

-- the same, where the text is what stands behind the first words
pub numbered_behind : {place : ℕ → Named} {byte : ℕ} {text whole : List ℕ} {found : Option ℕ} → text ≡ whole → ((n : ℕ) → n < 2 ^ 64 → Leads byte text n → found ≡ Some n)
    → (named : Named) → IsNumbered place (Leads byte whole) named → option_map place found ≡ Some named
numbered_behind {place} {byte} {text} {whole} {found} is only named h =
    ap (option_map place) (only h.number h.small (subst (λ t. Leads byte t h.number) (sym is) h.holds)) ∙ ap Some (sym h.is)

-- a line and its bytes are named alike
pub same_found : (found : Option Named) (form : Form) (bytes line : List ℕ) → form ≡ form_of bytes → bytes ≡ line → IfSome found (IsNamedBy form bytes) → IfSome found (IsNamed line)
same_found found form bytes line is same h = subst (λ l. IfSome found (IsNamed l)) same (subst (λ f. IfSome found (IsNamedBy f bytes)) is h)

pub same_only : (found : Option Named) (form : Form) (bytes line : List ℕ) → form ≡ form_of bytes → bytes ≡ line → ((named : Named) → IsNamedBy form bytes named → found ≡ Some named)
    → (named : Named) → IsNamed line named → found ≡ Some named
same_only found form bytes line is same only named h = only named (subst (λ f. IsNamedBy f bytes named) (sym is) (subst (λ l. IsNamed l named) (sym same) h))
