-- The lines of a text that has the form are read to its end.
use Rattle.std.proofs.Common.{◌≡◌, ◌<◌, ◌≤◌, ◌*◌, ◌+◌, ◌-◌, ◌/◌, ◌%◌, ◌^◌, inl, inr, Bool, ℕ, List, [], ◌++◌, length, get_or, refl, sym, ap, ◌∙◌, subst, arith, append-nil}
use Rattle.std.proofs.lemmas.Nat.{div-add-mod', div-mul-add, mod-mul-add, mul-le}
use Rattle.buffer_ends.specs.Local.{Answers}
use Rattle.trace_log.specs.Texts.{header, letters, line, lines_below, trace_text, window_count, InBounds, IsTrace}
use Rattle.trace_log.specs.Marks.{told_by}
use Rattle.trace_log.specs.Stops.{Lines, HasLine, IsText}
use Rattle.trace_log.proofs.Letters.{letters_told}
use Rattle.trace_log.proofs.Parts.{among, lines_are, one_header, one_rest}
use Rattle.trace_log.proofs.Filling.{AreRead}

-- what stands behind line 0
pub lines_behind : (text : List ℕ) (n w b : ℕ) (behind : List ℕ) → IsText text → InBounds n w b → text ≡ header n w b ++ behind → Lines b (window_count n w * b) behind
lines_behind text n w b behind t bounds is =
    let p = one_header n w b t.ticks t.window t.buffers behind t.lines bounds t.bounds (sym is ∙ t.is) in
    let same : window_count n w * b ≡ window_count t.ticks t.window * t.buffers = rw (p.0, p.1, p.2) refl in
    let others : Lines b (window_count t.ticks t.window * t.buffers) t.lines = subst (λ j. Lines j (window_count t.ticks t.window * t.buffers) t.lines) (sym p.2) t.form in
    subst (λ l. Lines b (window_count n w * b) l) (sym p.3) (subst (λ j. Lines b j t.lines) (sym same) others)

-- the line of the next place is there
pub line_there : (text : List ℕ) (bs : List (List Answers)) (m n k : ℕ) (rest : List ℕ) → Lines m n text → AreRead text bs m k rest → k < n → HasLine (k / m) (k % m) rest
line_there text bs m n k rest form r below =
    let a = among m n k text form below in
    (a.log, a.after, one_rest m k (lines_below bs m k) a.before rest (line (k / m) (k % m) a.log ++ a.after) (lines_are bs m k) a.form (sym r.is ∙ a.is))

-- nothing is left behind the last line
pub lines_end : (text : List ℕ) (bs : List (List Answers)) (m n k : ℕ) (rest : List ℕ) → Lines m n text → AreRead text bs m k rest → k ≡ n → text ≡ lines_below bs m n
lines_end text bs m n k rest form r all =
    let read : text ≡ lines_below bs m n ++ rest = r.is ∙ ap (λ j. lines_below bs m j ++ rest) all in
    let empty : rest ≡ [] = one_rest m n (lines_below bs m n) text rest [] (lines_are bs m n) form (sym read ∙ sym (append-nil text)) in
    read ∙ ap (λ (t : List ℕ). lines_below bs m n ++ t) empty ∙ append-nil (lines_below bs m n)

-- each buffer has all its windows then
pub windows_end : (text : List ℕ) (bs : List (List Answers)) (m w k : ℕ) (rest : List ℕ) → AreRead text bs m k rest → k ≡ w * m → (b : ℕ) → b < m → length (get_or bs b []) ≡ w
windows_end text bs m w k rest r all b h =
    let some : 0 < m = omega (arith, h) in
    let at : k ≡ w * m + 0 = omega (arith, all) in
    let whole : k / m ≡ w = ap (λ j. j / m) at ∙ div-mul-add w m 0 some in
    let first : k % m ≡ 0 = ap (λ j. j % m) at ∙ mod-mul-add w m 0 some in
    elim (r.filled.each b h) [
      | inl p ↦ absurd (omega (arith, p.0, first))
      | inr p ↦ p.1 ∙ whole
    ]

-- logs whose lines stand behind line 0 are a trace, and the text is its text
pub whole_trace : (text : List ℕ) (n w b : ℕ) (behind : List ℕ) (bs : List (List Answers)) → InBounds n w b → text ≡ header n w b ++ behind → length bs ≡ b
    → ((k : ℕ) → k < b → length (get_or bs k []) ≡ window_count n w) → behind ≡ lines_below bs b (window_count n w * b)
    → IsTrace (record { ticks = n; window = w; buffers = bs }) × (text ≡ trace_text (record { ticks = n; window = w; buffers = bs }))
unfolding trace_text
whole_trace text n w b behind bs bounds is all logs lines = (
  record { bounds = subst (λ j. InBounds n w j) (sym all) bounds; logs = λ k h. logs k (omega (arith, h, all)) },
  is ∙ ap (λ (t : List ℕ). header n w b ++ t) lines ∙ ap (λ j. header n w j ++ lines_below bs j (window_count n w * j)) (sym all),
)

-- the places of a trace are counted by a number of 64 bits
pub places_fit : (n w b : ℕ) → InBounds n w b → window_count n w * b < 2 ^ 64
places_fit n w b bounds =
    let some : 0 < w = omega (arith, bounds.window_least) in
    let most : window_count n w ≤ n + (w - 1) = div_most (n + (w - 1)) w some in
    let product : window_count n w * b ≤ 1001000000 * 4096 = mul-le (window_count n w) b 1001000000 4096 (omega (arith, most, bounds.ticks_most, bounds.window_most)) bounds.buffers_most in
    omega (arith, product)
  where
    div_most : (a c : ℕ) → 0 < c → a / c ≤ a
    div_most a c some = let whole : a / c * c + a % c ≡ a = div-add-mod' a c in let more : a / c * 1 ≤ a / c * c = mul-le (a / c) 1 (a / c) c (omega arith) some in omega (arith, whole, more)

-- what the letters of a line tell is its log
pub line_read : (text puts takes : List ℕ) (j i : ℕ) (log : Answers) (ps ts : List Bool) (rest : List ℕ) → puts ≡ letters 65 70 log.puts → takes ≡ letters 71 69 log.takes
    → text ≡ line j i log ++ rest → ps ≡ told_by 65 puts → ts ≡ told_by 71 takes → text ≡ line j i (record { puts = ps; takes = ts }) ++ rest
line_read text puts takes j i log ps ts rest p t e a b =
    let put : log.puts ≡ ps = sym (a ∙ ap (told_by 65) p ∙ letters_told 65 70 log.puts (λ x. omega arith) (λ x. omega arith) (λ x. omega arith)) in
    let take : log.takes ≡ ts = sym (b ∙ ap (told_by 71) t ∙ letters_told 71 69 log.takes (λ x. omega arith) (λ x. omega arith) (λ x. omega arith)) in
    e ∙ (λ k. line j i (record { puts = put k; takes = take k }) ++ rest)
