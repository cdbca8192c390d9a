-- A text as it is read.
use Rattle.std.proofs.Common.{◌≡◌, ℕ, suc, ◌+◌, ◌-◌, ◌<◌, ◌≤◌, Bool, true, eqb, List, [], ◌∷◌, ◌++◌, length, refl, sym, ap, ◌∙◌, subst, arith, append_assoc, length-append, ⊎_elim, inr, Ok, Err, IsUtf8}
use Rattle.std.proofs.lemmas.Bool.{eq-eqb, or_cases, eqb-true}
use Rattle.std.proofs.lemmas.Str.{IsUtf8-from_is_utf8, IsUtf8-append, IsUtf8-encode, IsUtf8-nil, encode_ascii, len_utf8_bounds, length-encode}
use Rattle.std.proofs.Math.Utf8.{encodes, low_scalar}
use Rattle.std.specs.Str.{is_utf8}
use Rattle.std.specs.Str.Lossy.{utf8_valid_len}
use Rattle.std.specs.List.{flat_map}
use Rattle.script_lex.specs.Bytes.{is_escapable}
use Rattle.script_lex.specs.Reading.{Found, body_end, unescaped, tail, text_at, text_from, front}
use Rattle.script_lex.specs.Spelling.{Shape, AText, SpellsShape, IsUnclosed, IsBadInText, LexStop, Bad, OpenText, BeginsNoPiece, IsQuote, written, meant_bytes, TextPiece, PlainPiece, Escaped, IsPiece, ArePieces}
use Rattle.script_lex.specs.declared.body.BodyEnd.{BodyEnd}
use Rattle.script_lex.specs.declared.body.BodyEnd.TheVariants as ends
use Rattle.script_lex.proofs.Fronts.{choose, front_is}
use Rattle.script_lex.proofs.Firsts.{Quote, class, first_of, quote_class}
use Rattle.script_lex.proofs.Apart.{StopsAt, FoundAt, chosen, ok_is, cons_tail, cons_head, lengths}
use Rattle.script_lex.proofs.Pieces.{Stop, Known, quote_low, at_quote, at_escape, each_stop, stop_le, stop_known, piece_eaten, pieces_eaten}
use Rattle.script_lex.proofs.Closed.{Written, Fits, pieces_of}

-- the stop is an end of the bytes
pub stop_split : (q : ℕ) → IsQuote q → (bs : List ℕ) → (t : List ℕ) × (bs ≡ t ++ (body_end q bs).1)
stop_split q quote bs = each_stop q quote (λ bs s. (t : List ℕ) × (bs ≡ t ++ s.1)) ([], refl) (λ bs. ([], refl)) (λ b bs s h. (b ∷ h.0, ap (λ (l : List ℕ). b ∷ l) h.1)) ([], refl) (λ c bs s h. (92 ∷ c ∷ h.0, ap (λ (l : List ℕ). 92 ∷ c ∷ l) h.1)) (λ c bs e. ([], refl)) (λ b bs e. ([], refl)) bs

-- the characters up to a stop
upto : (q : ℕ) → IsQuote q → (t : List ℕ) → IsUtf8 t → (e : BodyEnd) (rest : List ℕ) → body_end q (t ++ rest) ≡ (e, rest) → Written q t
upto q quote t (cs, (ok, is)) e rest stop =
    let P : Stop → Type 0 = λ s. Fits rest s in
    let fits : Fits rest (body_end q (encodes cs ++ rest)) = subst P (sym (ap (λ l. body_end q (l ++ rest)) is ∙ stop)) (omega arith, λ x rs r esc. omega arith) in
    subst (Written q) is (pieces_of q quote cs ok rest fits)

stop_rest : (q : ℕ) (bs : List ℕ) (e f : BodyEnd) (x y : List ℕ) → body_end q bs ≡ (e, x) → body_end q bs ≡ (f, y) → x ≡ y
stop_rest q bs e f x y a b = let second : Stop → List ℕ = λ s. s.1 in ap second (sym a ∙ b)

-- no spelling is longer than the text that closes there
closed_longest : (q : ℕ) → IsQuote q → (t r : List ℕ) → body_end q (t ++ (q ∷ r)) ≡ (ends.Closed, q ∷ r) → (other : Shape) (more behind : List ℕ) → q ∷ (t ++ (q ∷ r)) ≡ more ++ behind → SpellsShape other more → length more ≤ suc (suc (length t))
closed_longest q quote t r stop (AText v) more behind is s =
    let whole : q ∷ (t ++ (q ∷ r)) ≡ s.quote ∷ (flat_map written s.pieces ++ (s.quote ∷ behind)) = is ∙ ap (λ (l : List ℕ). l ++ behind) s.spelled ∙ ap (λ (l : List ℕ). s.quote ∷ l) (append_assoc (flat_map written s.pieces) (s.quote ∷ []) behind) in
    let inner = cons_tail q s.quote _ _ whole in
    let same : q ≡ s.quote = cons_head q s.quote _ _ whole in
    let P : ℕ → Type 0 = λ n. body_end n (flat_map written s.pieces ++ (s.quote ∷ behind)) ≡ (ends.Closed, s.quote ∷ behind) in
    let other_stop : body_end q (flat_map written s.pieces ++ (s.quote ∷ behind)) ≡ (ends.Closed, s.quote ∷ behind) = subst P (sym same) (pieces_eaten s.quote s.is_quote s.pieces s.allowed (s.quote ∷ behind) ∙ at_quote s.quote s.quote behind (eq-eqb s.quote s.quote refl)) in
    let rests : q ∷ r ≡ s.quote ∷ behind = stop_rest q (t ++ (q ∷ r)) _ _ _ _ stop (ap (body_end q) inner ∙ other_stop) in
    let size = ap length rests in
    let sum = lengths (q ∷ t) (q ∷ r) more behind is in
    omega arith
closed_longest q quote t r stop other more behind is s = let k : Quote ≡ class other = sym (quote_class q quote) ∙ first_of other q (t ++ (q ∷ r)) more behind s is in absurd cc

closed_found : (q : ℕ) → IsQuote q → (t r : List ℕ) → IsUtf8 t → body_end q (t ++ (q ∷ r)) ≡ (ends.Closed, q ∷ r) → FoundAt (q ∷ (t ++ (q ∷ r))) (AText (unescaped t), r)
closed_found q quote t r utf8 stop =
    let w = upto q quote t utf8 ends.Closed (q ∷ r) stop in
    let size : length (q ∷ (t ++ q ∷ [])) ≡ suc (suc (length t)) = ap suc (length-append t (q ∷ [])) ∙ (let e : suc (length t + 1) ≡ suc (suc (length t)) = omega arith in e) in
    record {
      text = q ∷ (t ++ q ∷ []);
      split = ap (λ (l : List ℕ). q ∷ l) (sym (append_assoc t (q ∷ []) r));
      spelled = record { quote = q; pieces = w.pieces; is_quote = quote; allowed = w.allowed; spelled = ap (λ (l : List ℕ). q ∷ (l ++ q ∷ [])) w.spelled; means = w.means };
      longest = λ other more behind is s. let le = closed_longest q quote t r stop other more behind is s in omega arith;
    }

cut_unclosed : (q : ℕ) → IsQuote q → (t rest : List ℕ) → IsUtf8 t → body_end q (t ++ rest) ≡ (ends.Cut, rest) → IsUnclosed (q ∷ (t ++ rest))
cut_unclosed q quote t rest utf8 stop =
    let w = upto q quote t utf8 ends.Cut rest stop in
    record { quote = q; pieces = w.pieces; last = rest; is_quote = quote; allowed = w.allowed; spelled = ap (λ (l : List ℕ). q ∷ (l ++ rest)) w.spelled; cut = subst (Known q) stop (stop_known q quote (t ++ rest)) }

-- where reading stops at once, no character of a text begins
broken_here : (q : ℕ) → IsQuote q → (bs : List ℕ) → body_end q bs ≡ (ends.Broken, bs) → 1 ≤ length bs → BeginsNoPiece q bs
broken_here q quote bs stop some = record {
  no_piece = λ p rest piece is.
      let over : body_end q rest ≡ (ends.Broken, bs) = sym (ap (body_end q) is ∙ piece_eaten q quote p piece rest) ∙ stop in
      let le = stop_le q quote rest in
      let second : Stop → ℕ = λ s. length s.1 in
      let size = ap second over in
      let sum = ap length is ∙ length-append (written p) rest in
      let some_piece = piece_some p in
      omega arith;
  no_quote = λ rest is. let other : Stop = (ends.Closed, q ∷ rest) in let here : Stop = (ends.Broken, bs) in closed_broken other here (sym (ap (body_end q) is ∙ at_quote q q rest (eq-eqb q q refl)) ∙ stop) refl refl;
  no_end = (λ is. let other : Stop = (ends.Cut, []) in let here : Stop = (ends.Broken, bs) in cut_broken other here (sym (ap (body_end q) is) ∙ stop) refl refl, λ is. let other : Stop = (ends.Cut, 92 ∷ []) in let here : Stop = (ends.Broken, bs) in cut_broken other here (sym (ap (body_end q) is ∙ at_escape q [] (quote_low q quote).1) ∙ stop) refl refl);
}
  where
    piece_some : (p : TextPiece) → 1 ≤ length (written p)
    piece_some (PlainPiece c) = let n = len_utf8_bounds c in let l = length-encode c in omega arith
    piece_some (Escaped c) = omega arith

    closed_broken : (x y : Stop) → x ≡ y → x.0 ≡ ends.Closed → y.0 ≡ ends.Broken → ⊥
    closed_broken x y is a b = let first : Stop → BodyEnd = λ s. s.0 in let e : ends.Closed ≡ ends.Broken = sym a ∙ ap first is ∙ b in cc

    cut_broken : (x y : Stop) → x ≡ y → x.0 ≡ ends.Cut → y.0 ≡ ends.Broken → ⊥
    cut_broken x y is a b = let first : Stop → BodyEnd = λ s. s.0 in let e : ends.Cut ≡ ends.Broken = sym a ∙ ap first is ∙ b in cc

broken_bad : (q : ℕ) → IsQuote q → (t rest : List ℕ) → IsUtf8 t → body_end q (t ++ rest) ≡ (ends.Broken, rest) → IsBadInText (q ∷ (t ++ rest)) (length rest)
broken_bad q quote t rest utf8 stop =
    let w = upto q quote t utf8 ends.Broken rest stop in
    let known = subst (Known q) stop (stop_known q quote (t ++ rest)) in
    record { quote = q; pieces = w.pieces; bad = rest; is_quote = quote; allowed = w.allowed; spelled = ap (λ (l : List ℕ). q ∷ (l ++ rest)) w.spelled; no_piece = broken_here q quote rest known.0 known.1; place = refl }

-- a text that is UTF-8 up to the stop
read_valid : (q : ℕ) → IsQuote q → (t rest : List ℕ) (e : BodyEnd) → IsUtf8 t → body_end q (t ++ rest) ≡ (e, rest) → (left : ℕ) (f : Found) → text_from t rest e left ≡ Ok f → FoundAt (q ∷ (t ++ rest)) f
read_valid q quote t rest ends.Closed utf8 stop left f is =
    let known = subst (Known q) stop (stop_known q quote (t ++ rest)) in
    let same : (AText (unescaped t), tail rest) ≡ f = ok_is (AText (unescaped t), tail rest) f is in
    let behind : tail rest ≡ known.0 = ap tail known.1 in
    let P : List ℕ → Type 0 = λ x. body_end q (t ++ x) ≡ (ends.Closed, x) in
    let R : List ℕ → Type 0 = λ x. FoundAt (q ∷ (t ++ x)) (AText (unescaped t), known.0) in
    let at : FoundAt (q ∷ (t ++ rest)) (AText (unescaped t), known.0) = subst R (sym known.1) (closed_found q quote t known.0 utf8 (subst P known.1 stop)) in
    let K : List ℕ → Type 0 = λ x. FoundAt (q ∷ (t ++ rest)) (AText (unescaped t), x) in
    subst (FoundAt (q ∷ (t ++ rest))) same (subst K (sym behind) at)
read_valid q quote t rest ends.Broken utf8 stop left f is = cc
read_valid q quote t rest ends.Cut utf8 stop left f is = cc

pub fault_valid : (q : ℕ) → IsQuote q → (t rest : List ℕ) (e : BodyEnd) → IsUtf8 t → body_end q (t ++ rest) ≡ (e, rest) → (left : ℕ) → left ≡ suc (length (t ++ rest)) → (f : LexStop) → text_from t rest e left ≡ Err f → StopsAt f (q ∷ (t ++ rest))
fault_valid q quote t rest ends.Closed utf8 stop left size f is = cc
fault_valid q quote t rest ends.Broken utf8 stop left size f is =
    let same : Bad (length rest) ≡ f = cc in
    let P : LexStop → Type 0 = λ x. StopsAt x (q ∷ (t ++ rest)) in
    subst P same (inr (broken_bad q quote t rest utf8 stop))
fault_valid q quote t rest ends.Cut utf8 stop left size f is =
    let same : OpenText left ≡ f = cc in
    let P : LexStop → Type 0 = λ x. StopsAt x (q ∷ (t ++ rest)) in
    subst P same (cut_unclosed q quote t rest utf8 stop, size)

pub text_found : (q : ℕ) → IsQuote q → (bs : List ℕ) (f : Found) → text_at q bs ≡ Ok f → FoundAt (q ∷ bs) f
unfolding text_at
text_found q quote bs f is =
    let s = stop_split q quote bs in
    let stop = body_end q bs in
    let before : front bs stop.1 ≡ s.0 = ap (λ x. front x stop.1) s.1 ∙ front_is s.0 stop.1 in
    let P : Bool → Type 0 = λ b. chosen b (text_from (front bs stop.1) stop.1 stop.0 (length bs + 1)) (Err (Bad (length bs - utf8_valid_len (front bs stop.1)))) ≡ Ok f in
    choose (is_utf8 (front bs stop.1))
    (λ u.
    let is' = subst P u is in
    let utf8 : IsUtf8 s.0 = subst IsUtf8 before (IsUtf8-from_is_utf8 (front bs stop.1) u) in
    let Q : List ℕ → Type 0 = λ x. text_from x stop.1 stop.0 (length bs + 1) ≡ Ok f in
    let R : List ℕ → Type 0 = λ x. FoundAt (q ∷ x) f in
    subst R (sym s.1) (read_valid q quote s.0 stop.1 stop.0 utf8 (ap (body_end q) (sym s.1)) (length bs + 1) f (subst Q before is')))
    (λ u. let is' = subst P u is in cc)

-- the characters of a text are UTF-8
meant_utf8 : (q : ℕ) (p : TextPiece) → IsPiece q p → IsUtf8 (meant_bytes p)
meant_utf8 q (PlainPiece c) h = IsUtf8-encode c h.0
meant_utf8 q (Escaped c) h = let low = escapable_low c h in subst IsUtf8 (encode_ascii c low) (IsUtf8-encode c (low_scalar c (omega arith)))
  where
    escapable_low : (c : ℕ) → is_escapable c ≡ true → c < 128
    escapable_low c h =
        ⊎_elim (λ e. let is = eqb-true c 34 e in omega arith)
        (λ e. ⊎_elim (λ x. let is = eqb-true c 39 x in omega arith) (λ x. let is = eqb-true c 92 x in omega arith) (or_cases (eqb c 39) (eqb c 92) e))
        (or_cases (eqb c 34) _ h)

all_meant_utf8 : (q : ℕ) (ps : List TextPiece) → ArePieces q ps → IsUtf8 (flat_map meant_bytes ps)
all_meant_utf8 q [] h = IsUtf8-nil
all_meant_utf8 q (p ∷ ps) h = IsUtf8-append (meant_bytes p) (flat_map meant_bytes ps) (meant_utf8 q p h.0) (all_meant_utf8 q ps h.1)

pub closed_utf8 : (q : ℕ) → IsQuote q → (bytes : List ℕ) (e : BodyEnd) (rest : List ℕ) → (e, rest) ≡ body_end q bytes → e ≡ ends.Closed → IsUtf8 (front bytes rest) → IsUtf8 (unescaped (front bytes rest))
closed_utf8 q quote bytes e rest stop closed utf8 =
    let s = stop_split q quote bytes in
    let second : Stop → List ℕ = λ x. x.1 in
    let same : (body_end q bytes).1 ≡ rest = ap second (sym stop) in
    let whole : bytes ≡ s.0 ++ rest = s.1 ∙ ap (λ (l : List ℕ). s.0 ++ l) same in
    let before : front bytes rest ≡ s.0 = ap (λ x. front x rest) whole ∙ front_is s.0 rest in
    let w = upto q quote s.0 (subst IsUtf8 before utf8) e rest (ap (body_end q) (sym whole) ∙ sym stop) in
    subst IsUtf8 (sym (ap unescaped before ∙ w.means)) (all_meant_utf8 q w.pieces w.allowed)
