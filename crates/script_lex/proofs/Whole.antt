-- What is read stands there.
use Rattle.std.proofs.Common.{◌≡◌, ◌≢◌, ℕ, true, false, List, [], ◌∷◌, length, refl, sym, ap, ◌∙◌, subst, Option, Some, None, Ok, Err, inl, ⊎_elim}
use Rattle.std.specs.Char.{is_ascii_digit}
use Rattle.script_lex.specs.Bytes.{is_letter, is_quote}
use Rattle.script_lex.specs.Spelling.{LexStop, Bad, BeginsNothing, IsQuote}
use Rattle.script_lex.specs.Reading.{Found, Read, word_at, number_at, text_at, wav_at, symbol_at, first_of_two, sign_or_bad, shape_at}
use Rattle.script_lex.proofs.Fronts.{choose}
use Rattle.script_lex.proofs.Firsts.{Quote, Sign, class_of, quote_class, digit_not_letter, is_quote_of}
use Rattle.script_lex.proofs.Found.{word_found}
use Rattle.script_lex.proofs.Numerals.{number_found}
use Rattle.script_lex.proofs.Signs.{symbol_found, symbol_nothing}
use Rattle.script_lex.proofs.Wav.{wav_found}
use Rattle.script_lex.proofs.Texts.{text_found}
use Rattle.script_lex.proofs.Faults.{text_fault}
use Rattle.script_lex.proofs.Apart.{StopsAt, FoundAt, ok_is}

abbrev pub sign_at : ℕ → List ℕ → Read
sign_at b bs = sign_or_bad (first_of_two (wav_at (b ∷ bs)) (symbol_at b bs)) (length (b ∷ bs))

pub at_letter : (b : ℕ) (bs : List ℕ) → is_letter b ≡ true → shape_at (b ∷ bs) ≡ Ok (word_at (b ∷ bs))
unfolding shape_at
at_letter b bs e = rw e refl

pub at_digit : (b : ℕ) (bs : List ℕ) → is_ascii_digit b ≡ true → shape_at (b ∷ bs) ≡ Ok (number_at (b ∷ bs))
unfolding shape_at
at_digit b bs e = rw (digit_not_letter b e, e) refl

pub at_quote : (b : ℕ) (bs : List ℕ) → IsQuote b → shape_at (b ∷ bs) ≡ text_at b bs
unfolding shape_at
at_quote b bs quote = let P : ℕ → Type 0 = λ n. shape_at (n ∷ bs) ≡ text_at n bs in ⊎_elim (λ e. subst P (sym e) refl) (λ e. subst P (sym e) refl) quote

pub at_sign : (b : ℕ) (bs : List ℕ) → is_letter b ≡ false → is_ascii_digit b ≡ false → is_quote b ≡ false → (shape_at (b ∷ bs) ≡ sign_at b bs) × (class_of b ≡ Sign)
unfolding shape_at
at_sign b bs e f g = (rw (e, f, g) refl, rw (e, f, g) refl)

pub data Dispatch (b : ℕ) (bs : List ℕ) : Type 0 where
  ByLetter : is_letter b ≡ true → Dispatch b bs
  ByDigit : is_ascii_digit b ≡ true → Dispatch b bs
  ByQuote : IsQuote b → Dispatch b bs
  BySign : shape_at (b ∷ bs) ≡ sign_at b bs → class_of b ≡ Sign → Dispatch b bs

pub dispatch : (b : ℕ) (bs : List ℕ) → Dispatch b bs
dispatch b bs =
    choose (is_letter b) (λ e. ByLetter e)
    (λ e. choose (is_ascii_digit b) (λ f. ByDigit f)
    (λ f. choose (is_quote b) (λ g. ByQuote (is_quote_of b g)) (λ g. let s = at_sign b bs e f g in BySign s.0 s.1)))

found_never : (f : Found) (n : ℕ) → let x : Read = Err (Bad n) in x ≡ Ok f → ⊥
found_never f n is = cc

sign_found : (b : ℕ) (bs : List ℕ) → class_of b ≡ Sign → (w s : Option Found) → wav_at (b ∷ bs) ≡ w → symbol_at b bs ≡ s → (f : Found) → sign_or_bad (first_of_two w s) (length (b ∷ bs)) ≡ Ok f → FoundAt (b ∷ bs) f
sign_found b bs sign (Some g) s wav symbol f is = subst (FoundAt (b ∷ bs)) (ok_is g f is) (wav_found (b ∷ bs) g wav)
sign_found b bs sign None (Some g) wav symbol f is = subst (FoundAt (b ∷ bs)) (ok_is g f is) (symbol_found b bs sign wav g symbol)
sign_found b bs sign None None wav symbol f is = absurd (found_never f (length (b ∷ bs)) is)

err_never : (f : Found) (e : LexStop) → let x : Read = Ok f in x ≡ Err e → ⊥
err_never f e is = cc

err_is : (a e : LexStop) → let x : Read = Err a in x ≡ Err e → a ≡ e
err_is a e is = cc

no_quote : (b q : ℕ) (bs rest : List ℕ) → class_of b ≡ Sign → IsQuote q → b ∷ bs ≡ q ∷ rest → ⊥
no_quote b q bs rest sign quote is = let same : b ≡ q = cc in let k : Sign ≡ Quote = sym sign ∙ ap class_of same ∙ quote_class q quote in cc

sign_fault : (b : ℕ) (bs : List ℕ) → class_of b ≡ Sign → (w s : Option Found) → wav_at (b ∷ bs) ≡ w → symbol_at b bs ≡ s → (e : LexStop) → sign_or_bad (first_of_two w s) (length (b ∷ bs)) ≡ Err e → StopsAt e (b ∷ bs)
sign_fault b bs sign (Some g) s wav symbol e is = absurd (err_never g e is)
sign_fault b bs sign None (Some g) wav symbol e is = absurd (err_never g e is)
sign_fault b bs sign None None wav symbol e is =
    let nothing : BeginsNothing (b ∷ bs) = record {
      some = λ h. cc;
      no_shape = λ shape text rest at s. symbol_nothing b bs sign wav symbol shape text rest at s;
      no_quote = λ q rest quote at. no_quote b q bs rest sign quote at;
    } in
    let P : LexStop → Type 0 = λ x. StopsAt x (b ∷ bs) in
    subst P (err_is (Bad (length (b ∷ bs))) e is) (inl (nothing, refl))

found_by : (b : ℕ) (bs : List ℕ) → Dispatch b bs → (f : Found) → shape_at (b ∷ bs) ≡ Ok f → FoundAt (b ∷ bs) f
found_by b bs (ByLetter e) f is = subst (FoundAt (b ∷ bs)) (ok_is (word_at (b ∷ bs)) f (sym (at_letter b bs e) ∙ is)) (word_found b bs e)
found_by b bs (ByDigit e) f is = subst (FoundAt (b ∷ bs)) (ok_is (number_at (b ∷ bs)) f (sym (at_digit b bs e) ∙ is)) (number_found b bs e)
found_by b bs (ByQuote quote) f is = text_found b quote bs f (sym (at_quote b bs quote) ∙ is)
found_by b bs (BySign at sign) f is = sign_found b bs sign (wav_at (b ∷ bs)) (symbol_at b bs) refl refl f (sym at ∙ is)

-- what is read is the longest spelling at its place
pub shape_found : (bs : List ℕ) (f : Found) → shape_at bs ≡ Ok f → FoundAt bs f
unfolding shape_at
shape_found [] f is = absurd (found_never f 0 is)
shape_found (b ∷ bs) f is = found_by b bs (dispatch b bs) f is

fault_by : (b : ℕ) (bs : List ℕ) → Dispatch b bs → (e : LexStop) → shape_at (b ∷ bs) ≡ Err e → StopsAt e (b ∷ bs)
fault_by b bs (ByLetter l) e is = absurd (err_never (word_at (b ∷ bs)) e (sym (at_letter b bs l) ∙ is))
fault_by b bs (ByDigit d) e is = absurd (err_never (number_at (b ∷ bs)) e (sym (at_digit b bs d) ∙ is))
fault_by b bs (ByQuote quote) e is = text_fault b quote bs e (sym (at_quote b bs quote) ∙ is)
fault_by b bs (BySign at sign) e is = sign_fault b bs sign (wav_at (b ∷ bs)) (symbol_at b bs) refl refl e (sym at ∙ is)

-- and where none is read, the fault stands there
pub shape_fault : (bs : List ℕ) (e : LexStop) → bs ≢ [] → shape_at bs ≡ Err e → StopsAt e bs
shape_fault [] e some is = absurd (some refl)
shape_fault (b ∷ bs) e some is = fault_by b bs (dispatch b bs) e is
