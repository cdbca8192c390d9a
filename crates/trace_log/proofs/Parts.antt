-- The parts of a text that has the form are found in one way.
use Rattle.std.proofs.Common.{◌≡◌, ◌<◌, ◌/◌, ◌%◌, ◌^◌, ℕ, zero, suc, List, [], ◌∷◌, ◌++◌, refl, sym, ap, ◌∙◌, subst, arith, append_assoc, append-nil, codes, decimal, Bool, inl, inr}
use Rattle.std.specs.Str.Parse.{digits_value}
use Rattle.std.proofs.lemmas.Bool.Decides.{eqb_tells}
use Rattle.std.proofs.lemmas.Fmt.{decimal_is_IsNumeral}
use Rattle.std.proofs.lemmas.List.{append_cancel_left}
use Rattle.buffer_ends.specs.Local.{Answers}
use Rattle.trace_log.specs.Marks.{Lacks}
use Rattle.trace_log.specs.Texts.{header, lines_below, place_line, log_at, line, letters, InBounds}
use Rattle.trace_log.specs.Stops.{Lines}
use Rattle.trace_log.specs.Stops.Lines.{no_lines, one_line_more}
use Rattle.trace_log.proofs.Marks.{decimal_lacks, letters_lack}
use Rattle.trace_log.proofs.Letters.{one_letters}
use Rattle.trace_log.proofs.Words.{header_parts, line_parts}

-- what stands before and behind the first such byte
pub one_cut : (s : ℕ) (w v f g : List ℕ) → Lacks s w → Lacks s v → w ++ s ∷ f ≡ v ++ s ∷ g → (w ≡ v) × (f ≡ g)
one_cut s [] [] f g a b e = (refl, cc)
one_cut s [] (c ∷ v) f g a b e = absurd (b.0 cc)
one_cut s (c ∷ w) [] f g a b e = absurd (a.0 cc)
one_cut s (c ∷ w) (d ∷ v) f g a b e = let tails : w ++ s ∷ f ≡ v ++ s ∷ g = cc in let p = one_cut s w v f g a.1 b.1 tails in (cc, p.1)

pub one_number : (n m : ℕ) → n < 2 ^ 64 → m < 2 ^ 64 → decimal n ≡ decimal m → n ≡ m
one_number n m a b e = sym (decimal_is_IsNumeral n a).1 ∙ ap (λ t. digits_value 10 t) e ∙ (decimal_is_IsNumeral m b).1

-- line 0 has one reading
pub one_header : (n w b n' w' b' : ℕ) (f g : List ℕ) → InBounds n w b → InBounds n' w' b' → header n w b ++ f ≡ header n' w' b' ++ g → (n ≡ n') × (w ≡ w') × (b ≡ b') × (f ≡ g)
one_header n w b n' w' b' f g p q e =
    let a : n < 2 ^ 64 = omega (arith, p.ticks_most) in
    let a' : n' < 2 ^ 64 = omega (arith, q.ticks_most) in
    let c : w < 2 ^ 64 = omega (arith, p.window_most) in
    let c' : w' < 2 ^ 64 = omega (arith, q.window_most) in
    let d : b < 2 ^ 64 = omega (arith, p.buffers_most) in
    let d' : b' < 2 ^ 64 = omega (arith, q.buffers_most) in
    let x = append_cancel_left (codes "liq trace 1 ") _ _ (sym (header_parts n w b f) ∙ e ∙ header_parts n' w' b' g) in
    let y = one_cut 32 (decimal n) (decimal n') _ _ (decimal_lacks 32 n (omega arith) a) (decimal_lacks 32 n' (omega arith) a') x in
    let z = one_cut 32 (decimal w) (decimal w') _ _ (decimal_lacks 32 w (omega arith) c) (decimal_lacks 32 w' (omega arith) c') y.1 in
    let u = one_cut 10 (decimal b) (decimal b') _ _ (decimal_lacks 10 b (omega arith) d) (decimal_lacks 10 b' (omega arith) d') z.1 in
    (one_number n n' a a' y.0, one_number w w' c c' z.0, one_number b b' d d' u.0, u.1)

pub puts_lack : (xs : List Bool) → Lacks 32 (letters 65 70 xs)
puts_lack xs = letters_lack 32 65 70 (λ x. omega arith) (λ x. omega arith) (λ x. omega arith) xs

pub takes_lack : (xs : List Bool) → Lacks 10 (letters 71 69 xs)
takes_lack xs = letters_lack 10 71 69 (λ x. omega arith) (λ x. omega arith) (λ x. omega arith) xs

-- a line has one reading
pub one_line : (j i : ℕ) (log other : Answers) (f g : List ℕ) → line j i log ++ f ≡ line j i other ++ g → (log ≡ other) × (f ≡ g)
one_line j i log other f g e =
    let a = append_cancel_left (codes "window ") _ _ (sym (line_parts j i log f) ∙ e ∙ line_parts j i other g) in
    let b = append_cancel_left (decimal j) _ _ a in
    let c = append_cancel_left (32 ∷ codes "buffer ") _ _ b in
    let d = append_cancel_left (decimal i) _ _ c in
    let h = append_cancel_left (32 ∷ codes "puts ") _ _ d in
    let k = one_cut 32 (letters 65 70 log.puts) (letters 65 70 other.puts) _ _ (puts_lack log.puts) (puts_lack other.puts) h in
    let l = append_cancel_left (codes "takes ") _ _ k.1 in
    let m = one_cut 10 (letters 71 69 log.takes) (letters 71 69 other.takes) _ _ (takes_lack log.takes) (takes_lack other.takes) l in
    let puts : log.puts ≡ other.puts = one_letters 65 70 log.puts other.puts (λ x. omega arith) (λ x. omega arith) (λ x. omega arith) k.0 in
    let takes : log.takes ≡ other.takes = one_letters 71 69 log.takes other.takes (λ x. omega arith) (λ x. omega arith) (λ x. omega arith) m.0 in
    (λ i. record { puts = puts i; takes = takes i }, m.1)

-- what follows some lines
pub one_rest : (b k : ℕ) (t u f g : List ℕ) → Lines b k t → Lines b k u → t ++ f ≡ u ++ g → f ≡ g
one_rest b zero _ _ f g no_lines no_lines e = e
one_rest b (suc k) _ _ f g (one_line_more _ t log x) (one_line_more _ u other y) e =
    let inner : t ++ (line (k / b) (k % b) log ++ f) ≡ u ++ (line (k / b) (k % b) other ++ g) = sym (append_assoc t _ f) ∙ e ∙ append_assoc u _ g in
    (one_line (k / b) (k % b) log other f g (one_rest b k t u _ _ x y inner)).1

-- the line of a place among more lines
pub record Among (b k : ℕ) (text : List ℕ) : Type 0 where
  pub before : List ℕ
  pub log : Answers
  pub after : List ℕ
  pub form : Lines b k before
  pub is : text ≡ before ++ (line (k / b) (k % b) log ++ after)

pub among : (b m k : ℕ) (text : List ℕ) → Lines b m text → k < m → Among b k text
among b zero k _ no_lines h = absurd (omega arith)
among b (suc m) k _ (one_line_more _ t log form) h = elim (eqb_tells k m) [
  | inl p ↦ subst (λ j. Among b j (t ++ line (m / b) (m % b) log)) (sym p.1) (record { before = t; log = log; after = []; form = form; is = rw (append-nil (line (m / b) (m % b) log)) refl })
  | inr p ↦
      let below : k < m = omega (arith, p.1, h) in
      let r = among b m k t form below in
      record {
        before = r.before;
        log = r.log;
        after = r.after ++ line (m / b) (m % b) log;
        form = r.form;
        is = ap (λ (u : List ℕ). u ++ line (m / b) (m % b) log) r.is ∙ simp append_assoc;
      }
]

-- the lines of logs have the form
pub lines_are : (bs : List (List Answers)) (m k : ℕ) → Lines m k (lines_below bs m k)
unfolding lines_below place_line
lines_are bs m zero = no_lines
lines_are bs m (suc k) = one_line_more k (lines_below bs m k) (log_at bs (k % m) (k / m)) (lines_are bs m k)
