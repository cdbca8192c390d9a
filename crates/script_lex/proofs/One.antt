-- At one place stands one token, or one fault.
use Rattle.std.proofs.Common.{◌≡◌, ◌≢◌, ℕ, List, [], ◌∷◌, ◌++◌, length, refl, sym, ap, ◌∙◌, subst, arith, ⊎_elim}
use Rattle.std.specs.List.{flat_map}
use Rattle.script_lex.specs.Spelling.{Shape, ANumber, AText, SpellsShape, IsLongest, IsToken, Means, is_within, LexStop, Bad, OpenText, Large, FaultAt, IsUnclosed, IsBadInText, BeginsNothing, IsQuote, meant_bytes}
use Rattle.script_lex.specs.Reading.{Found}
use Rattle.script_lex.specs.declared.token.TokenKind.{TokenKind}
use Rattle.script_lex.specs.declared.token.TokenKind.TheVariants as kinds
use Rattle.script_lex.proofs.Same.{same_decimal}
use Rattle.script_lex.proofs.Firsts.{Quote, class, starts, first_of, quote_class}
use Rattle.script_lex.proofs.Halts.{Halt, halts_one, closed_halt, cut_halt, bad_halt}
use Rattle.script_lex.proofs.Alone.{Whole, read_alone}
use Rattle.script_lex.proofs.Apart.{FoundAt, StopsAt, ok_is, differ, cons_tail, cons_head, same_front}

same_rest : (s t r r' : List ℕ) → s ++ r ≡ t ++ r' → length s ≡ length t → r ≡ r'
same_rest [] [] r r' is size = is
same_rest [] (y ∷ t) r r' is size = absurd (omega arith)
same_rest (x ∷ s) [] r r' is size = absurd (omega arith)
same_rest (x ∷ s) (y ∷ t) r r' is size = same_rest s t r r' (cons_tail x y (s ++ r) (t ++ r') is) (omega arith)

-- two longest spellings at one place have one rest
one_rest : (x y : Shape) (bs r r' : List ℕ) → IsLongest x bs r → IsLongest y bs r' → r ≡ r'
one_rest x y bs r r' a b =
    let le = b.longest x a.text r a.split a.spelled in
    let ge = a.longest y b.text r' b.split b.spelled in
    same_rest a.text b.text r r' (sym a.split ∙ b.split) (omega arith)

append_nil : (a : List ℕ) → a ++ [] ≡ a
append_nil [] = refl
append_nil (x ∷ a) = ap (λ (l : List ℕ). x ∷ l) (append_nil a)

same_class : (x y : Shape) (text : List ℕ) → SpellsShape x text → SpellsShape y text → class x ≡ class y
same_class x y text a b =
    let s = starts x text a in
    sym s.first ∙ first_of y s.head s.tail text [] b (sym s.is ∙ sym (append_nil text))

not_text : (x : Shape) → (class x ≡ Quote → ⊥) → (value : List ℕ) → x ≡ AText value → ⊥
not_text x other value is = other (ap class is)

by_reading : (x y : Shape) (text : List ℕ) → SpellsShape x text → SpellsShape y text → (class x ≡ Quote → ⊥) → (class y ≡ Quote → ⊥) → x ≡ y
by_reading x y text a b p q =
    let first : Found → Shape = λ f. f.0 in
    let left : Whole x text = read_alone x text a (not_text x p) in
    let right : Whole y text = read_alone y text b (not_text y q) in
    ap first (ok_is (x, []) (y, []) (sym left ∙ right))

-- one text spells one shape
one_shape : (x y : Shape) (text : List ℕ) → SpellsShape x text → SpellsShape y text → x ≡ y
one_shape (AText v) (AText w) text a b =
    let h = halts_one text (closed_halt v text [] text a (sym (append_nil text))) (closed_halt w text [] text b (sym (append_nil text))) in
    ap AText (a.means ∙ ap (flat_map meant_bytes) h.0 ∙ sym b.means)
one_shape (AText v) y text a b = let k : Quote ≡ class y = same_class (AText v) y text a b in absurd cc
one_shape x (AText w) text a b = let k : class x ≡ Quote = same_class x (AText w) text a b in absurd cc
one_shape x y text a b = by_reading x y text a b (λ k. cc) (λ k. cc)

pub one_longest : (bs : List ℕ) (f g : Found) → FoundAt bs f → FoundAt bs g → f ≡ g
one_longest bs f g a b =
    let rest = one_rest f.0 g.0 bs f.1 g.1 a b in
    let text : a.text ≡ b.text = same_front a.text b.text f.1 (sym a.split ∙ b.split ∙ ap (λ (l : List ℕ). b.text ++ l) (sym rest)) in
    let S : List ℕ → Type 0 = λ l. SpellsShape f.0 l in
    let shape = one_shape f.0 g.0 b.text (subst S text a.spelled) b.spelled in
    let left : (f.0, f.1) ≡ (g.0, f.1) = ap (λ s. (s, f.1)) shape in
    let right : (g.0, f.1) ≡ (g.0, g.1) = ap (λ (r : List ℕ). (g.0, r)) rest in
    left ∙ right

some_front : (bs : List ℕ) (f : Found) → FoundAt bs f → bs ≢ []
some_front bs f a = λ empty.
    let s = starts f.0 a.text a.spelled in
    let size = ap length (sym empty ∙ a.split ∙ ap (λ (l : List ℕ). l ++ f.1) s.is) in
    omega arith

-- a text that stands there, where another run of characters stops
text_halts : (bs : List ℕ) (shape : Shape) (rest : List ℕ) → IsLongest shape bs rest → (h : Halt bs) → (r : List ℕ) × (h.end ≡ h.quote ∷ r)
text_halts bs (AText v) rest a h =
    let t = closed_halt v a.text rest bs a.spelled a.split in
    let one = halts_one bs h t in
    (rest, one.1 ∙ ap (λ n. n ∷ rest) (sym one.2))
text_halts bs other rest a h =
    let s = starts other a.text a.spelled in
    let whole : h.quote ∷ (flat_map _ h.pieces ++ h.end) ≡ a.text ++ rest = sym h.spelled ∙ a.split in
    let k : Quote ≡ class other = sym (quote_class h.quote h.is_quote) ∙ first_of other h.quote _ a.text rest a.spelled whole in
    absurd cc

no_cut : (q : ℕ) (r last : List ℕ) → IsQuote q → last ≡ q ∷ r → (last ≡ []) → ⊥
no_cut q r last quote is empty = let size = ap length (sym is ∙ empty) in omega arith

no_slash : (q : ℕ) (r last : List ℕ) → IsQuote q → last ≡ q ∷ r → (last ≡ 92 ∷ []) → ⊥
no_slash q r last quote is slash = let same = cons_head q 92 r [] (sym is ∙ slash) in ⊎_elim (λ e. omega arith) (λ e. omega arith) quote

-- a shape that stands there leaves no fault
stops_never : (bs : List ℕ) (f : Found) → FoundAt bs f → (e : LexStop) → StopsAt e bs → ⊥
stops_never bs f a (Bad left) stop =
    ⊎_elim
    (λ n. n.0.no_shape f.0 a.text f.1 a.split a.spelled)
    (λ t. let q = text_halts bs f.0 f.1 a (bad_halt bs left t) in t.no_piece.no_quote q.0 q.1)
    stop
stops_never bs f a (OpenText left) stop =
    let t = stop.0 in
    let q = text_halts bs f.0 f.1 a (cut_halt bs t) in
    ⊎_elim (no_cut t.quote q.0 t.last t.is_quote q.1) (no_slash t.quote q.0 t.last t.is_quote q.1) t.cut
stops_never bs f a (Large left) stop = stop

nothing_text : (bs : List ℕ) → BeginsNothing bs → Halt bs → ⊥
nothing_text bs n h = n.no_quote h.quote _ h.is_quote h.spelled

bad_open : (bs : List ℕ) (left : ℕ) → IsBadInText bs left → IsUnclosed bs → ⊥
bad_open bs left t u =
    let one = halts_one bs (bad_halt bs left t) (cut_halt bs u) in
    ⊎_elim (λ e. t.no_piece.no_end.0 (one.1 ∙ e)) (λ e. t.no_piece.no_end.1 (one.1 ∙ e)) u.cut

one_stop : (bs : List ℕ) (e g : LexStop) → StopsAt e bs → StopsAt g bs → e ≡ g
one_stop bs (Bad m) (Bad n) a b =
    ⊎_elim
    (λ x. ⊎_elim (λ y. ap Bad (x.1 ∙ sym y.1)) (λ y. absurd (nothing_text bs x.0 (bad_halt bs n y))) b)
    (λ x. ⊎_elim (λ y. absurd (nothing_text bs y.0 (bad_halt bs m x))) (λ y. ap Bad (x.place ∙ ap length (halts_one bs (bad_halt bs m x) (bad_halt bs n y)).1 ∙ sym y.place)) b)
    a
one_stop bs (Bad m) (OpenText n) a b = ⊎_elim (λ x. absurd (nothing_text bs x.0 (cut_halt bs b.0))) (λ x. absurd (bad_open bs m x b.0)) a
one_stop bs (OpenText m) (Bad n) a b = ⊎_elim (λ x. absurd (nothing_text bs x.0 (cut_halt bs a.0))) (λ x. absurd (bad_open bs n x a.0)) b
one_stop bs (OpenText m) (OpenText n) a b = ap OpenText (a.1 ∙ sym b.1)
one_stop bs (Large m) g a b = absurd a
one_stop bs e (Large n) a b = absurd b

-- and so is its kind
means_one : (shape : Shape) (k l : TokenKind) → Means shape k → Means shape l → k ≡ l
means_one (ANumber w f) k l a b = a.1 ∙ ap kinds.Number (same_decimal a.0 b.0 (a.2 ∙ sym b.2)) ∙ sym b.1
means_one shape k l a b = a ∙ sym b

pub token_one : (bs : List ℕ) (k l : TokenKind) (r s : List ℕ) → IsToken bs k r → IsToken bs l s → (k ≡ l) × (r ≡ s)
token_one bs k l r s a b =
    let same = one_longest bs (a.shape, r) (b.shape, s) a.longest b.longest in
    let first : Found → Shape = λ f. f.0 in
    let second : Found → List ℕ = λ f. f.1 in
    let M : Shape → Type 0 = λ x. Means x k in
    (means_one b.shape k l (subst M (ap first same) a.means) b.means, ap second same)

pub token_never : (bs : List ℕ) (k : TokenKind) (r : List ℕ) (e : LexStop) → IsToken bs k r → FaultAt e bs → ⊥
token_never bs k r (Bad n) a stop = stops_never bs (a.shape, r) a.longest (Bad n) stop
token_never bs k r (OpenText n) a stop = stops_never bs (a.shape, r) a.longest (OpenText n) stop
token_never bs k r (Large n) a stop =
    let t = stop.0 in
    let first : Found → Shape = λ f. f.0 in
    let same = ap first (one_longest bs (a.shape, r) (t.shape, t.rest) a.longest t.longest) in
    differ (sym a.within ∙ ap is_within same ∙ t.past)

pub token_some : (bs : List ℕ) (k : TokenKind) (r : List ℕ) → IsToken bs k r → bs ≢ []
token_some bs k r a = some_front bs (a.shape, r) a.longest

pub fault_one : (bs : List ℕ) (e g : LexStop) → FaultAt e bs → FaultAt g bs → e ≡ g
fault_one bs (Large m) (Large n) a b = ap Large (a.1 ∙ sym b.1)
fault_one bs (Large m) (Bad n) a b = absurd (stops_never bs (a.0.shape, a.0.rest) a.0.longest (Bad n) b)
fault_one bs (Large m) (OpenText n) a b = absurd (stops_never bs (a.0.shape, a.0.rest) a.0.longest (OpenText n) b)
fault_one bs (Bad m) (Large n) a b = absurd (stops_never bs (b.0.shape, b.0.rest) b.0.longest (Bad m) a)
fault_one bs (OpenText m) (Large n) a b = absurd (stops_never bs (b.0.shape, b.0.rest) b.0.longest (OpenText m) a)
fault_one bs (Bad m) (Bad n) a b = one_stop bs (Bad m) (Bad n) a b
fault_one bs (Bad m) (OpenText n) a b = one_stop bs (Bad m) (OpenText n) a b
fault_one bs (OpenText m) (Bad n) a b = one_stop bs (OpenText m) (Bad n) a b
fault_one bs (OpenText m) (OpenText n) a b = one_stop bs (OpenText m) (OpenText n) a b

pub fault_some : (bs : List ℕ) (e : LexStop) → FaultAt e bs → bs ≢ []
fault_some bs (Bad n) a = ⊎_elim (λ x. x.0.some) (λ x. λ empty. halt_some bs (bad_halt bs n x) empty) a
  where
    halt_some : (bs : List ℕ) → Halt bs → bs ≢ []
    halt_some bs h = λ empty. let size = ap length (sym empty ∙ h.spelled) in omega arith
fault_some bs (OpenText n) a = λ empty. let h = cut_halt bs a.0 in let size = ap length (sym empty ∙ h.spelled) in omega arith
fault_some bs (Large n) a = some_front bs (a.0.shape, a.0.rest) a.0.longest
