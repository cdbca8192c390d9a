-- The first line of some bytes, and the names of a list line by line.
use Rattle.std.proofs.Common.{◌≡◌, ◌<◌, ℕ, zero, suc, ◌∷◌, [], List, ◌+◌, ◌-◌, length, take, drop, cond, Bool, true, false, sym, ap, ◌∙◌, arith}
use Rattle.std.specs.Prelude.{nat_eq, slice_index}
use Rattle.std.specs.Prelude.{◌&&◌, not}
use Rattle.std.specs.Str.{is_utf8}
use Rattle.std.proofs.lemmas.List.{take_rest}
use Rattle.track_library.specs.Lists.{lines, with_first, names_among, is_name, without_cr}

-- a line ends at the first LF
pub cut_at : (at : ℕ) (bytes : List ℕ) → at < length bytes → ((k : ℕ) → k < at → nat_eq (slice_index bytes k) 10 ≡ false)
    → nat_eq (slice_index bytes at) 10 ≡ true → lines bytes ≡ take at bytes ∷ lines (drop (suc at) bytes)
cut_at at [] below none here = absurd (omega arith)
cut_at zero (b ∷ bytes) below none here = ap (λ t. cond t ([] ∷ lines bytes) (with_first b (lines bytes))) here
cut_at (suc at) (b ∷ bytes) below none here =
    ap (λ t. cond t ([] ∷ lines bytes) (with_first b (lines bytes))) (none 0 (omega arith))
    ∙ ap (with_first b) (cut_at at bytes (omega arith) (λ k h. none (suc k) (omega arith)) here)

pub cut_here : (at : ℕ) (bytes : List ℕ) → at < length bytes → ((k : ℕ) → k < at → nat_eq (slice_index bytes k) 10 ≡ false)
    → nat_eq (slice_index bytes at) 10 ≡ true → lines bytes ≡ take at bytes ∷ lines (take (length bytes - (at + 1)) (drop (at + 1) bytes))
cut_here at bytes below none here =
    let next : suc at ≡ at + 1 = omega arith in
    cut_at at bytes below none here ∙ ap (λ n. take at bytes ∷ lines (drop n bytes)) next ∙ ap (λ l. take at bytes ∷ lines l) (sym (take_rest bytes (at + 1)))

-- bytes without an LF are one line
pub one_line : (bytes : List ℕ) → 0 < length bytes → ((k : ℕ) → k < length bytes → nat_eq (slice_index bytes k) 10 ≡ false) → lines bytes ≡ bytes ∷ []
one_line [] some none = absurd (omega arith)
one_line (b ∷ []) some none = ap (λ t. cond t ([] ∷ []) (with_first b [])) (none 0 (omega arith))
one_line (b ∷ c ∷ bytes) some none =
    ap (λ t. cond t ([] ∷ lines (c ∷ bytes)) (with_first b (lines (c ∷ bytes)))) (none 0 (omega arith))
    ∙ ap (with_first b) (one_line (c ∷ bytes) (omega arith) (λ k h. none (suc k) (omega arith)))

pub no_name : (line : List ℕ) (rest : List (List ℕ)) → is_name (without_cr line) ≡ false → names_among (line ∷ rest) ≡ names_among rest
no_name line rest e = ap (λ t. cond t (without_cr line ∷ names_among rest) (names_among rest)) e

-- what a line has to be for a name
pub is_named : (line : List ℕ) (utf8 : Bool) → nat_eq (length line) 0 ≡ false → nat_eq (slice_index line 0) 35 ≡ false → is_utf8 line ≡ utf8 → is_name line ≡ utf8
is_named line utf8 some mark text =
    ap (λ t. not t && not (nat_eq (slice_index line 0) 35) && is_utf8 line) some
    ∙ ap (λ t. not t && is_utf8 line) mark ∙ text
