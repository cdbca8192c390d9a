-- The bytes of a text and the characters that they write.
use Rattle.std.proofs.Common.{◌≡◌, ◌≢◌, ℕ, ◌<◌, ◌≤◌, true, false, ◌&&◌, eqb, leb, ltb, List, [], ◌∷◌, ◌++◌, length, refl, sym, ap, ◌∙◌, subst, arith, append_assoc, ⊎_elim, ◌⊎◌, inl, inr}
use Rattle.std.proofs.lemmas.Bool.{eqb-true, ne_eqb, or_left, or_right, and_from, le-leb, le-ltb, ltb-true, ltb-false}
use Rattle.std.proofs.lemmas.Str.{encode_ascii}
use Rattle.std.proofs.Math.Utf8.{encode}
use Rattle.std.specs.List.{flat_map}
use Rattle.script_lex.specs.Bytes.{is_inner, is_escapable}
use Rattle.script_lex.specs.Reading.{body_end, escape_end}
use Rattle.script_lex.specs.Spelling.{TextPiece, PlainPiece, Escaped, written, IsPiece, ArePieces, IsQuote}
use Rattle.script_lex.specs.declared.body.BodyEnd.{BodyEnd}
use Rattle.script_lex.specs.declared.body.BodyEnd.TheVariants as ends
use Rattle.script_lex.proofs.Fronts.{choose}

abbrev pub Stop : Type 0
Stop = BodyEnd × List ℕ

pub quote_low : (q : ℕ) → IsQuote q → (q < 92) × (eqb 92 q ≡ false)
quote_low q quote = ⊎_elim (λ e. (omega arith, ne_eqb 92 q (λ h. omega arith))) (λ e. (omega arith, ne_eqb 92 q (λ h. omega arith))) quote

-- one step
pub at_quote : (q b : ℕ) (bs : List ℕ) → eqb b q ≡ true → body_end q (b ∷ bs) ≡ (ends.Closed, b ∷ bs)
at_quote q b bs e = rw e refl

pub at_inner : (q b : ℕ) (bs : List ℕ) → eqb b q ≡ false → eqb b 92 ≡ false → is_inner b ≡ true → body_end q (b ∷ bs) ≡ body_end q bs
at_inner q b bs e f g = rw (e, f, g) refl

pub at_bad : (q b : ℕ) (bs : List ℕ) → eqb b q ≡ false → eqb b 92 ≡ false → is_inner b ≡ false → body_end q (b ∷ bs) ≡ (ends.Broken, b ∷ bs)
at_bad q b bs e f g = rw (e, f, g) refl

pub at_escape : (q : ℕ) (bs : List ℕ) → eqb 92 q ≡ false → body_end q (92 ∷ bs) ≡ escape_end q 92 bs
at_escape q bs e = rw e refl

pub escape_good : (q c : ℕ) (bs : List ℕ) → is_escapable c ≡ true → escape_end q 92 (c ∷ bs) ≡ body_end q bs
escape_good q c bs e = rw e refl

pub escape_bad : (q c : ℕ) (bs : List ℕ) → is_escapable c ≡ false → escape_end q 92 (c ∷ bs) ≡ (ends.Broken, 92 ∷ c ∷ bs)
escape_bad q c bs e = rw e refl

-- what holds at each stop
module _ (q : ℕ) (quote : IsQuote q) (P : List ℕ → Stop → Type 0)
    (at_end : P [] (ends.Cut, []))
    (closed : (bs : List ℕ) → P (q ∷ bs) (ends.Closed, q ∷ bs))
    (inner : (b : ℕ) (bs : List ℕ) (s : Stop) → P bs s → P (b ∷ bs) s)
    (lone : P (92 ∷ []) (ends.Cut, 92 ∷ []))
    (escaped : (c : ℕ) (bs : List ℕ) (s : Stop) → P bs s → P (92 ∷ c ∷ bs) s)
    (bad_escape : (c : ℕ) (bs : List ℕ) → body_end q (92 ∷ c ∷ bs) ≡ (ends.Broken, 92 ∷ c ∷ bs) → P (92 ∷ c ∷ bs) (ends.Broken, 92 ∷ c ∷ bs))
    (bad : (b : ℕ) (bs : List ℕ) → body_end q (b ∷ bs) ≡ (ends.Broken, b ∷ bs) → P (b ∷ bs) (ends.Broken, b ∷ bs)) where
  pub each_stop : (bs : List ℕ) → P bs (body_end q bs)
  each_stop [] = at_end
  each_stop (b ∷ []) =
      choose (eqb b q) (λ e. subst (P (b ∷ [])) (sym (at_quote q b [] e)) (let R : ℕ → Type 0 = λ n. P (n ∷ []) (ends.Closed, n ∷ []) in subst R (sym (eqb-true b q e)) (closed [])))
      (λ e. choose (eqb b 92)
      (λ f. let R : ℕ → Type 0 = λ n. P (n ∷ []) (body_end q (n ∷ [])) in subst R (sym (eqb-true b 92 f)) (subst (P (92 ∷ [])) (sym (at_escape q [] (quote_low q quote).1)) lone))
      (λ f. choose (is_inner b)
      (λ g. subst (P (b ∷ [])) (sym (at_inner q b [] e f g)) (inner b [] _ at_end))
      (λ g. subst (P (b ∷ [])) (sym (at_bad q b [] e f g)) (bad b [] (at_bad q b [] e f g)))))
  each_stop (b ∷ c ∷ bs) =
      choose (eqb b q) (λ e. subst (P (b ∷ c ∷ bs)) (sym (at_quote q b (c ∷ bs) e)) (let R : ℕ → Type 0 = λ n. P (n ∷ c ∷ bs) (ends.Closed, n ∷ c ∷ bs) in subst R (sym (eqb-true b q e)) (closed (c ∷ bs))))
      (λ e. choose (eqb b 92)
      (λ f. let R : ℕ → Type 0 = λ n. P (n ∷ c ∷ bs) (body_end q (n ∷ c ∷ bs)) in subst R (sym (eqb-true b 92 f))
      (choose (is_escapable c)
      (λ g. subst (P (92 ∷ c ∷ bs)) (sym (at_escape q (c ∷ bs) (quote_low q quote).1 ∙ escape_good q c bs g)) (escaped c bs _ (each_stop bs)))
      (λ g. let is = at_escape q (c ∷ bs) (quote_low q quote).1 ∙ escape_bad q c bs g in subst (P (92 ∷ c ∷ bs)) (sym is) (bad_escape c bs is))))
      (λ f. choose (is_inner b)
      (λ g. subst (P (b ∷ c ∷ bs)) (sym (at_inner q b (c ∷ bs) e f g)) (inner b (c ∷ bs) _ (each_stop (c ∷ bs))))
      (λ g. subst (P (b ∷ c ∷ bs)) (sym (at_bad q b (c ∷ bs) e f g)) (bad b (c ∷ bs) (at_bad q b (c ∷ bs) e f g)))))

-- the stop is no longer than the bytes
pub stop_le : (q : ℕ) → IsQuote q → (bs : List ℕ) → length (body_end q bs).1 ≤ length bs
stop_le q quote bs = each_stop q quote (λ bs s. length s.1 ≤ length bs) (omega arith) (λ bs. omega arith) (λ b bs s h. omega arith) (omega arith) (λ c bs s h. omega arith) (λ c bs e. omega arith) (λ b bs e. omega arith) bs

-- what is known of where it stops
abbrev pub Known : ℕ → Stop → Type 0
Known q (ends.Closed, r) = (rest : List ℕ) × (r ≡ q ∷ rest)
Known q (ends.Broken, r) = (body_end q r ≡ (ends.Broken, r)) × (1 ≤ length r)
Known q (ends.Cut, r) = (r ≡ []) ⊎ (r ≡ 92 ∷ [])

pub stop_known : (q : ℕ) → IsQuote q → (bs : List ℕ) → Known q (body_end q bs)
stop_known q quote bs = each_stop q quote (λ bs s. Known q s) (inl refl) (λ bs. (bs, refl)) (λ b bs s h. h) (inr refl) (λ c bs s h. h) (λ c bs e. (e, omega arith)) (λ b bs e. (e, omega arith)) bs

-- bytes of characters from U+0080 on
abbrev pub AllHigh : List ℕ → Type 0
AllHigh [] = Unit {0}
AllHigh (b ∷ bs) = (128 ≤ b) × AllHigh bs

pub encode_high : (c : ℕ) → 128 ≤ c → AllHigh (encode c)
unfolding encode
encode_high c high =
    choose (ltb c 2048) (λ e. rw (le-ltb c 128 high, e) (omega arith, (omega arith, tt)))
    (λ e. choose (ltb c 65536) (λ f. rw (le-ltb c 128 high, e, f) (omega arith, (omega arith, (omega arith, tt))))
    (λ f. rw (le-ltb c 128 high, e, f) (omega arith, (omega arith, (omega arith, (omega arith, tt))))))

high_inner : (b : ℕ) → 128 ≤ b → is_inner b ≡ true
high_inner b high = or_right (leb 32 b && leb b 126) (leb 128 b) (le-leb 128 b high)

pub high_eaten : (q : ℕ) → IsQuote q → (h r : List ℕ) → AllHigh h → body_end q (h ++ r) ≡ body_end q r
high_eaten q quote [] r high = refl
high_eaten q quote (b ∷ h) r high = let low = quote_low q quote in at_inner q b (h ++ r) (ne_eqb b q (λ e. omega (arith, high.0, low.0))) (ne_eqb b 92 (λ e. omega (arith, high.0))) (high_inner b high.0) ∙ high_eaten q quote h r high.1

pub plain_eaten : (q c : ℕ) → IsQuote q → 32 ≤ c → c ≢ 127 → c ≢ 92 → c ≢ q → (r : List ℕ) → body_end q (encode c ++ r) ≡ body_end q r
plain_eaten q c quote low not_del not_slash not_quote r =
    choose (ltb c 128)
    (λ e. let below = ltb-true c 128 e in ap (λ (l : List ℕ). body_end q (l ++ r)) (encode_ascii c below) ∙ at_inner q c r (ne_eqb c q not_quote) (ne_eqb c 92 not_slash) (or_left (leb 32 c && leb c 126) (leb 128 c) (and_from (leb 32 c) (leb c 126) (le-leb 32 c low) (le-leb c 126 (omega arith)))))
    (λ e. high_eaten q quote (encode c) r (encode_high c (ltb-false c 128 e)))

pub piece_eaten : (q : ℕ) → IsQuote q → (p : TextPiece) → IsPiece q p → (r : List ℕ) → body_end q (written p ++ r) ≡ body_end q r
piece_eaten q quote (PlainPiece c) h r = plain_eaten q c quote h.1 h.2 h.3 h.4 r
piece_eaten q quote (Escaped c) h r = at_escape q (c ∷ r) (quote_low q quote).1 ∙ escape_good q c r h

pub pieces_eaten : (q : ℕ) → IsQuote q → (ps : List TextPiece) → ArePieces q ps → (r : List ℕ) → body_end q (flat_map written ps ++ r) ≡ body_end q r
pieces_eaten q quote [] h r = refl
pieces_eaten q quote (p ∷ ps) h r = ap (body_end q) (append_assoc (written p) (flat_map written ps) r) ∙ piece_eaten q quote p h.0 (flat_map written ps ++ r) ∙ pieces_eaten q quote ps h.1 r
