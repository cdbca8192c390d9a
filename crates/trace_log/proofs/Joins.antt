-- Parts of a line, appended one by one.
use Rattle.std.proofs.Common.{append_assoc, map, ◌≤◌, ◌+◌, append-nil, add-one, take, drop, ◌≡◌, ℕ, ◌++◌, ap, ◌∙◌, ◌<◌, ◌*◌, ◌/◌, ◌%◌, zero, suc, List, [], ◌∷◌, Bool, length, arith, refl, sym}
use Rattle.std.proofs.Math.Seq.{take-append_seam}
use Rattle.std.proofs.lemmas.List.{take-append-drop}
use Rattle.std.proofs.Math.Nat.{div-lt_iff_lt-mul}
use Rattle.trace_log.specs.Texts.{header, letter, letters, lines_below, place_line, places_of, trace_text}
use Rattle.buffer_ends.specs.Local.{Answers}
use Rattle.trace_log.specs.Values.{TraceValue}

pub letters_none : (one other : ℕ) (answers : List Bool) → length answers ≡ 0 → letters one other answers ≡ 45 ∷ []
unfolding letters
letters_none one other [] e = refl
letters_none one other (a ∷ more) e = absurd (omega arith)

pub letters_some : (one other : ℕ) (answers : List Bool) → 1 ≤ length answers → letters one other answers ≡ map (letter one other) answers
unfolding letters
letters_some one other [] e = absurd (omega arith)
letters_some one other (a ∷ more) e = refl

pub three : (o a b c d e f g i1 i2 i3 i4 : List ℕ) → i1 ≡ o ++ a ++ b → i2 ≡ i1 ++ c ++ d → i3 ≡ i2 ++ e ++ f → i4 ≡ i3 ++ g
    → i4 ≡ o ++ (a ++ b ++ c ++ d ++ e ++ f ++ g)
three o a b c d e f g i1 i2 i3 i4 p q r s = rw (s, r, q, p) (sym (simp append_assoc))

pub four : (o a b c d e f g h k i1 i2 i3 i4 i5 : List ℕ) → i1 ≡ o ++ a ++ b → i2 ≡ i1 ++ c ++ d → i3 ≡ i2 ++ e ++ f → i4 ≡ i3 ++ g ++ h → i5 ≡ i4 ++ k
    → i5 ≡ o ++ (a ++ b ++ c ++ d ++ e ++ f ++ g ++ h ++ k)
four o a b c d e f g h k i1 i2 i3 i4 i5 p q r s t = rw (t, s, r, q, p) (sym (simp append_assoc))

pub window_inside : (p w m : ℕ) → p < w * m → p / m < w
window_inside p w zero h = absurd (omega arith)
window_inside p w (suc m) h = (div-lt_iff_lt-mul (omega arith)).1 h

pub buffer_inside : (p w m : ℕ) → p < w * m → p % m < m
buffer_inside p w zero h = absurd (omega arith)
buffer_inside p w (suc m) h = omega arith

pub some_inside : (p w m : ℕ) → p < w * m → 0 < m
some_inside p w zero h = absurd (omega arith)
some_inside p w (suc m) h = omega arith

-- the lines behind line 0
pub lines_first : (o h i : List ℕ) (bs : List (List Answers)) (m : ℕ) → i ≡ o ++ h → i ≡ o ++ (h ++ lines_below bs m 0)
unfolding lines_below
lines_first o h i bs m e = rw (append-nil h) e

pub lines_more : (o h i1 i2 : List ℕ) (bs : List (List Answers)) (m k : ℕ) → i1 ≡ o ++ (h ++ lines_below bs m k) → i2 ≡ i1 ++ place_line bs m k
    → i2 ≡ o ++ (h ++ lines_below bs m (k + 1))
unfolding lines_below
lines_more o h i1 i2 bs m k p q =
    let opened : lines_below bs m (k + 1) ≡ lines_below bs m k ++ place_line bs m k = rw add-one refl in
    rw (q, p, opened) (simp append_assoc)

pub lines_all : (t : TraceValue) (o i : List ℕ) (k : ℕ) → k ≡ places_of t
    → i ≡ o ++ (header t.ticks t.window (length t.buffers) ++ lines_below t.buffers (length t.buffers) k) → i ≡ o ++ trace_text t
unfolding trace_text
lines_all t o i k e p = rw (sym e) p

pub kept_by : (a x i : List ℕ) → i ≡ a ++ x → take (length a) i ≡ a
kept_by a x i e = rw e (take-append_seam a x)

-- a front that is kept twice is kept
pub kept_on : (a b i : List ℕ) → take (length a) b ≡ a → take (length b) i ≡ b → take (length a) i ≡ a
kept_on a b i p q =
    let first : b ≡ a ++ drop (length a) b = sym (take-append-drop (length a) b) ∙ ap (λ (t : List ℕ). t ++ drop (length a) b) p in
    let second : i ≡ b ++ drop (length b) i = sym (take-append-drop (length b) i) ∙ ap (λ (t : List ℕ). t ++ drop (length b) i) q in
    kept_by a (drop (length a) b ++ drop (length b) i) i (second ∙ ap (λ (t : List ℕ). t ++ drop (length b) i) first ∙ append_assoc a (drop (length a) b) (drop (length b) i))
