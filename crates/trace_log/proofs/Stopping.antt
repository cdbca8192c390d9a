-- The lines of a text, one by one.
use Rattle.std.proofs.Common.{◌≡◌, ◌<◌, ◌+◌, ◌*◌, ◌/◌, ◌%◌, ℕ, List, [], ◌++◌, sym, ap, ◌∙◌, subst, append-nil, append_assoc, add-one}
use Rattle.buffer_ends.specs.Local.{Answers}
use Rattle.trace_log.specs.Texts.{header, line, window_count, InBounds}
use Rattle.trace_log.specs.Stops.{Lines, NoLine, StopsAt, Stands, IsText}
use Rattle.trace_log.specs.Stops.Lines.{no_lines, one_line_more}
use Rattle.trace_log.specs.Stops.StopsAt.{first, inside, past_lines}

pub stands_first : (text : List ℕ) (n w b : ℕ) (rest : List ℕ) → text ≡ header n w b ++ rest → Stands text n w b 0 rest
stands_first text n w b rest e = record { lines = []; form = no_lines; is = rw (append-nil (header n w b)) e }

pub stands_more : (text : List ℕ) (n w b k : ℕ) (rest after : List ℕ) (log : Answers) → Stands text n w b k rest → rest ≡ line (k / b) (k % b) log ++ after → Stands text n w b (k + 1) after
stands_more text n w b k rest after log s e = subst (λ j. Stands text n w b j after) (sym (add-one _)) (record {
  lines = s.lines ++ line (k / b) (k % b) log;
  form = one_line_more k s.lines log s.form;
  is = s.is ∙ ap (λ (t : List ℕ). header n w b ++ s.lines ++ t) e ∙ simp append_assoc;
})

pub stops_first : (text : List ℕ) → ((n w b : ℕ) (rest : List ℕ) → InBounds n w b → text ≡ header n w b ++ rest → ⊥) → StopsAt text 0
stops_first text fails = first fails

pub stops_inside : (text : List ℕ) (n w b k : ℕ) (rest : List ℕ) → InBounds n w b → Stands text n w b k rest → k < window_count n w * b → NoLine b k rest → StopsAt text (k + 1)
stops_inside text n w b k rest bounds s below fails = subst (λ j. StopsAt text j) (sym (add-one _)) (inside n w b k s.lines rest bounds s.form s.is below fails)

pub stops_behind : (text : List ℕ) (n w b k : ℕ) (rest : List ℕ) → InBounds n w b → Stands text n w b k rest → k ≡ window_count n w * b → (rest ≡ [] → ⊥) → StopsAt text (window_count n w * b + 1)
stops_behind text n w b k rest bounds s all some =
    subst (λ j. StopsAt text j) (sym (add-one _)) (past_lines n w b s.lines rest bounds (subst (λ j. Lines b j s.lines) all s.form) s.is some)

pub whole : (text : List ℕ) (n w b k : ℕ) (rest : List ℕ) → InBounds n w b → Stands text n w b k rest → k ≡ window_count n w * b → rest ≡ [] → IsText text
whole text n w b k rest bounds s all empty = record {
  ticks = n;
  window = w;
  buffers = b;
  lines = s.lines;
  bounds = bounds;
  form = subst (λ j. Lines b j s.lines) all s.form;
  is = s.is ∙ ap (λ (t : List ℕ). header n w b ++ s.lines ++ t) empty ∙ append-nil (header n w b ++ s.lines);
}
