-- A text whose bytes are UTF-8 up to the stop, and one whose bytes are not.
use Rattle.std.proofs.Common.{◌≡◌, ℕ, ◌+◌, ◌-◌, Bool, true, false, List, length, refl, sym, Err, IsUtf8}
use Rattle.std.specs.Str.{is_utf8}
use Rattle.std.specs.Str.Lossy.{utf8_valid_len}
use Rattle.std.proofs.lemmas.Str.{is_utf8-from_IsUtf8, IsUtf8-from_is_utf8}
use Rattle.script_lex.specs.Spelling.{Bad}
use Rattle.script_lex.specs.Reading.{text_at, text_from, body_end, front}
use Rattle.script_lex.specs.declared.body.BodyEnd.{BodyEnd}

pub text_valid : (quote : ℕ) (bytes : List ℕ) (end : BodyEnd) (rest : List ℕ) → (end, rest) ≡ body_end quote bytes → IsUtf8 (front bytes rest) → text_at quote bytes ≡ text_from (front bytes rest) rest end (length bytes + 1)
unfolding text_at
text_valid quote bytes end rest stop utf8 = rw (sym stop, is_utf8-from_IsUtf8 (front bytes rest) utf8) refl

not_utf8 : (bs : List ℕ) → (IsUtf8 bs → ⊥) → is_utf8 bs ≡ false
not_utf8 bs never = let f : (b : Bool) → is_utf8 bs ≡ b → is_utf8 bs ≡ false = λ b. elim b as (λ b. is_utf8 bs ≡ b → is_utf8 bs ≡ false) [ true ↦ λ e. absurd (never (IsUtf8-from_is_utf8 bs e)) | false ↦ λ e. e ] in f (is_utf8 bs) refl

pub text_invalid : (quote : ℕ) (bytes : List ℕ) (end : BodyEnd) (rest : List ℕ) → (end, rest) ≡ body_end quote bytes → (IsUtf8 (front bytes rest) → ⊥) → text_at quote bytes ≡ Err (Bad (length bytes - utf8_valid_len (front bytes rest)))
unfolding text_at
text_invalid quote bytes end rest stop never = rw (sym stop, not_utf8 (front bytes rest) never) refl
