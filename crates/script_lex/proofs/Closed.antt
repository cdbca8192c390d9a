-- The longest text at the front.
use Rattle.std.proofs.Common.{◌≡◌, ℕ, suc, ◌<◌, ◌≤◌, true, false, ◌&&◌, eqb, leb, ltb, List, [], ◌∷◌, ◌++◌, length, refl, sym, ap, ◌∙◌, subst, arith, append_assoc, length-append, ⊎_elim}
use Rattle.std.proofs.lemmas.Bool.{eqb-true, eqb-false, ne_eqb, or_cases, and_parts, ltb-true, ltb-false, leb-true}
use Rattle.std.proofs.lemmas.Str.{encode_ascii, len_utf8_bounds, length-encode}
use Rattle.std.proofs.Math.Utf8.{encode, encodes, scalar, scalars}
use Rattle.std.specs.List.{flat_map}
use Rattle.script_lex.specs.Bytes.{is_inner, is_escapable}
use Rattle.script_lex.specs.Reading.{body_end, unescaped}
use Rattle.script_lex.specs.Spelling.{TextPiece, PlainPiece, Escaped, written, meant_bytes, IsPiece, ArePieces, IsQuote}
use Rattle.script_lex.specs.declared.body.BodyEnd.TheVariants as ends
use Rattle.script_lex.proofs.Fronts.{choose}
use Rattle.script_lex.proofs.Pieces.{Stop, quote_low, at_quote, at_inner, at_bad, at_escape, escape_good, escape_bad, stop_le, AllHigh, encode_high, high_eaten}

-- the characters of these bytes of a text
pub record Written (q : ℕ) (body : List ℕ) : Type 0 where
  pub pieces : List TextPiece
  pub allowed : ArePieces q pieces
  pub spelled : body ≡ flat_map written pieces
  pub means : unescaped body ≡ flat_map meant_bytes pieces

-- the stop is not before the rest; and where a character behind a backslash begins the rest, not behind it
abbrev pub Fits : List ℕ → Stop → Type 0
Fits rest s = (length s.1 ≤ length rest) × ((x : ℕ) (rs : List ℕ) → rest ≡ x ∷ rs → is_escapable x ≡ true → length rest ≤ length s.1)

unescaped_more : (b : ℕ) (bs : List ℕ) → eqb b 92 ≡ false → unescaped (b ∷ bs) ≡ b ∷ unescaped bs
unescaped_more b bs e = rw e refl

unescaped_high : (h r : List ℕ) → AllHigh h → unescaped (h ++ r) ≡ h ++ unescaped r
unescaped_high [] r high = refl
unescaped_high (b ∷ h) r high = unescaped_more b (h ++ r) (ne_eqb b 92 (λ e. omega (arith, high.0))) ∙ ap (λ (l : List ℕ). b ∷ l) (unescaped_high h r high.1)

unescaped_plain : (c : ℕ) (r : List ℕ) → eqb c 92 ≡ false → unescaped (encode c ++ r) ≡ encode c ++ unescaped r
unescaped_plain c r e =
    choose (ltb c 128)
    (λ low. let is = encode_ascii c (ltb-true c 128 low) in ap (λ (l : List ℕ). unescaped (l ++ r)) is ∙ unescaped_more c r e ∙ ap (λ (l : List ℕ). l ++ unescaped r) (sym is))
    (λ high. unescaped_high (encode c) r (encode_high c (ltb-false c 128 high)))

-- a plain character before written ones
plain_more : (q c : ℕ) (x : List ℕ) → IsPiece q (PlainPiece c) → eqb c 92 ≡ false → Written q x → Written q (encode c ++ x)
plain_more q c x piece e w = record {
  pieces = PlainPiece c ∷ w.pieces;
  allowed = (piece, w.allowed);
  spelled = ap (λ (l : List ℕ). encode c ++ l) w.spelled;
  means = unescaped_plain c x e ∙ ap (λ (l : List ℕ). encode c ++ l) w.means;
}

escaped_more : (q c : ℕ) (x : List ℕ) → is_escapable c ≡ true → Written q x → Written q (92 ∷ c ∷ x)
escaped_more q c x e w = record {
  pieces = Escaped c ∷ w.pieces;
  allowed = (e, w.allowed);
  spelled = ap (λ (l : List ℕ). 92 ∷ c ∷ l) w.spelled;
  means = ap (λ (l : List ℕ). c ∷ l) w.means;
}

too_early : (l rest : List ℕ) → length l ≤ length rest → suc (length rest) ≤ length l → ⊥
too_early l rest a b = omega arith

longer : (x rest : List ℕ) (n : ℕ) → suc (length rest) ≤ suc (length (x ++ rest))
longer x rest n = let e = length-append x rest in omega arith

plain_case : (q : ℕ) → IsQuote q → (c : ℕ) → scalar c ≡ true → (x rest : List ℕ) → eqb c 92 ≡ false → Fits rest (body_end q ((encode c ++ x) ++ rest)) → (Fits rest (body_end q (x ++ rest)) → Written q x) → Written q (encode c ++ x)
plain_case q quote c is_scalar x rest slash fits go =
    choose (ltb c 128)
    (λ low.
    let below = ltb-true c 128 low in
    let is : (encode c ++ x) ++ rest ≡ c ∷ (x ++ rest) = ap (λ (l : List ℕ). (l ++ x) ++ rest) (encode_ascii c below) in
    let fits' : Fits rest (body_end q (c ∷ (x ++ rest))) = subst (λ l. Fits rest (body_end q l)) is fits in
    choose (eqb c q)
    (λ e. let f : Fits rest (ends.Closed, c ∷ (x ++ rest)) = subst (Fits rest) (at_quote q c (x ++ rest) e) fits' in absurd (too_early (c ∷ (x ++ rest)) rest f.0 (longer x rest 0)))
    (λ e. choose (is_inner c)
    (λ g.
    let range = inner_low c below g in
    plain_more q c x (is_scalar, range.0, λ h. omega (arith, range.1), eqb-false c 92 slash, eqb-false c q e) slash (go (subst (Fits rest) (at_inner q c (x ++ rest) e slash g) fits')))
    (λ g. let f : Fits rest (ends.Broken, c ∷ (x ++ rest)) = subst (Fits rest) (at_bad q c (x ++ rest) e slash g) fits' in absurd (too_early (c ∷ (x ++ rest)) rest f.0 (longer x rest 0)))))
    (λ high.
    let above = ltb-false c 128 high in
    let low = (quote_low q quote).0 in
    let over : body_end q ((encode c ++ x) ++ rest) ≡ body_end q (x ++ rest) = ap (body_end q) (append_assoc (encode c) x rest) ∙ high_eaten q quote (encode c) (x ++ rest) (encode_high c above) in
    plain_more q c x (is_scalar, omega arith, λ h. omega arith, λ h. omega arith, λ h. omega arith) slash (go (subst (Fits rest) over fits)))
  where
    inner_low : (c : ℕ) → c < 128 → is_inner c ≡ true → (32 ≤ c) × (c ≤ 126)
    inner_low c below g = ⊎_elim (λ h. let p = and_parts (leb 32 c) (leb c 126) h in (leb-true 32 c p.0, leb-true c 126 p.1)) (λ h. let p = leb-true 128 c h in absurd (omega arith)) (or_cases (leb 32 c && leb c 126) (leb 128 c) g)

-- a byte of a higher character stands behind no backslash
pub high_not_escapable : (b : ℕ) → 128 ≤ b → is_escapable b ≡ false
high_not_escapable b high = rw (ne_eqb b 34 (λ e. omega arith), ne_eqb b 39 (λ e. omega arith), ne_eqb b 92 (λ e. omega arith)) refl

-- what stands behind a backslash
behind_slash : (q : ℕ) → IsQuote q → (l rest : List ℕ) → length rest ≤ length l → Fits rest (body_end q (92 ∷ l)) → (c : ℕ) (cs : List ℕ) → l ≡ c ∷ cs → (is_escapable c ≡ true) × Fits rest (body_end q cs)
behind_slash q quote l rest long fits c cs is =
    let f1 : Fits rest (body_end q (92 ∷ c ∷ cs)) = subst (λ x. Fits rest (body_end q (92 ∷ x))) is fits in
    let size = ap length is in
    choose (is_escapable c)
    (λ e. (e, subst (Fits rest) (at_escape q (c ∷ cs) (quote_low q quote).1 ∙ escape_good q c cs e) f1))
    (λ e. let f2 : Fits rest (ends.Broken, 92 ∷ c ∷ cs) = subst (Fits rest) (at_escape q (c ∷ cs) (quote_low q quote).1 ∙ escape_bad q c cs e) f1 in absurd (let h = f2.0 in omega arith))

slash_last : (q : ℕ) → IsQuote q → (rest : List ℕ) → Fits rest (body_end q (92 ∷ rest)) → ⊥
slash_last q quote [] fits = let f : Fits [] (ends.Cut, 92 ∷ []) = subst (Fits []) (at_escape q [] (quote_low q quote).1) fits in let h = f.0 in omega arith
slash_last q quote (x ∷ rs) fits =
    let b = behind_slash q quote (x ∷ rs) (x ∷ rs) (omega arith) fits x rs refl in
    let h = b.1.1 x rs refl b.0 in
    let le = stop_le q quote rs in
    omega arith

pub pieces_of : (q : ℕ) → IsQuote q → (cs : List ℕ) → scalars cs ≡ true → (rest : List ℕ) → Fits rest (body_end q (encodes cs ++ rest)) → Written q (encodes cs)
pieces_of q quote [] ok rest fits = record { pieces = []; allowed = tt; spelled = refl; means = refl }
pieces_of q quote (c ∷ []) ok rest fits =
    let p = and_parts (scalar c) true ok in
    choose (eqb c 92)
    (λ e. let is : encode c ≡ 92 ∷ [] = ap encode (eqb-true c 92 e) ∙ encode_ascii 92 (omega arith) in
    absurd (slash_last q quote rest (subst (λ l. Fits rest (body_end q ((l ++ []) ++ rest))) is fits)))
    (λ e. plain_case q quote c p.0 [] rest e fits (λ f. pieces_of q quote [] refl rest f))
pieces_of q quote (c ∷ d ∷ ds) ok rest fits =
    let p = and_parts (scalar c) (scalars (d ∷ ds)) ok in
    choose (eqb c 92)
    (λ e.
    let is : encode c ≡ 92 ∷ [] = ap encode (eqb-true c 92 e) ∙ encode_ascii 92 (omega arith) in
    let fits' : Fits rest (body_end q (92 ∷ (encodes (d ∷ ds) ++ rest))) = subst (λ l. Fits rest (body_end q ((l ++ encodes (d ∷ ds)) ++ rest))) is fits in
    let size = length-append (encodes (d ∷ ds)) rest in
    let P : List ℕ → Type 0 = λ l. Written q (l ++ encodes (d ∷ ds)) in
    subst P (sym is)
    (choose (ltb d 128)
    (λ low.
    let one = encode_ascii d (ltb-true d 128 low) in
    let b = behind_slash q quote (encodes (d ∷ ds) ++ rest) rest (omega arith) fits' d (encodes ds ++ rest) (ap (λ (l : List ℕ). (l ++ encodes ds) ++ rest) one) in
    let R : List ℕ → Type 0 = λ l. Written q (92 ∷ (l ++ encodes ds)) in
    subst R (sym one) (escaped_more q d (encodes ds) b.0 (pieces_of q quote ds (and_parts (scalar d) (scalars ds) p.1).1 rest b.1)))
    (λ high. absurd (never d ds (ltb-false d 128 high) rest fits' (encode d) refl (encode_high d (ltb-false d 128 high)) (omega arith)))))
    (λ e. plain_case q quote c p.0 (encodes (d ∷ ds)) rest e fits (λ f. pieces_of q quote (d ∷ ds) p.1 rest f))
  where
    never : (d : ℕ) (ds : List ℕ) → 128 ≤ d → (rest : List ℕ) → Fits rest (body_end q (92 ∷ (encodes (d ∷ ds) ++ rest))) → (h : List ℕ) → encode d ≡ h → AllHigh h → length rest ≤ length (encodes (d ∷ ds) ++ rest) → ⊥
    never d ds above rest fits [] is high long = let n = len_utf8_bounds d in let l = length-encode d in let z = ap length is in omega arith
    never d ds above rest fits (b ∷ h) is high long =
        let r = behind_slash q quote (encodes (d ∷ ds) ++ rest) rest long fits b ((h ++ encodes ds) ++ rest) (ap (λ (l : List ℕ). (l ++ encodes ds) ++ rest) is) in
        differ (sym r.0 ∙ high_not_escapable b high.0)
      where
        differ : true ≡ false → ⊥
        differ x = cc
