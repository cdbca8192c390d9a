-- A text has one first line outside the form, and a text of the form has none.
use Rattle.std.proofs.Common.{◌≡◌, ◌<◌, ◌*◌, ◌/◌, ◌%◌, ℕ, suc, List, [], ◌++◌, refl, sym, ap, ◌∙◌, subst, append_assoc, append-nil, length, inl, inr}
use Rattle.std.proofs.lemmas.Bool.{cases_order}
use Rattle.trace_log.specs.Values.{TraceValue}
use Rattle.trace_log.specs.Texts.{header, lines_below, places_of, trace_text, IsTrace, line, window_count, InBounds}
use Rattle.trace_log.specs.Stops.{Lines, NoLine, StopsAt, IsText}
use Rattle.trace_log.specs.Stops.StopsAt.{first, inside, past_lines}
use Rattle.trace_log.proofs.Parts.{among, lines_are, one_header, one_rest}

-- a text of the form has no line outside it
pub stop_excludes : (text : List ℕ) (at : ℕ) → StopsAt text at → IsText text → ⊥
stop_excludes text _ (first fails) t = fails t.ticks t.window t.buffers t.lines t.bounds t.is
stop_excludes text _ (inside n w b k front rest bounds form is below fails) t =
    let p = one_header n w b t.ticks t.window t.buffers (front ++ rest) t.lines bounds t.bounds (sym (append_assoc (header n w b) front rest) ∙ sym is ∙ t.is) in
    let same : window_count n w * b ≡ window_count t.ticks t.window * t.buffers = rw (p.0, p.1, p.2) refl in
    let others : Lines b (window_count t.ticks t.window * t.buffers) t.lines = subst (λ j. Lines j (window_count t.ticks t.window * t.buffers) t.lines) (sym p.2) t.form in
    let a = among b (window_count t.ticks t.window * t.buffers) k t.lines others (subst (λ j. k < j) same below) in
    fails a.log a.after (one_rest b k front a.before rest (line (k / b) (k % b) a.log ++ a.after) form a.form (p.3 ∙ a.is))
stop_excludes text _ (past_lines n w b front rest bounds form is some) t =
    let p = one_header n w b t.ticks t.window t.buffers (front ++ rest) t.lines bounds t.bounds (sym (append_assoc (header n w b) front rest) ∙ sym is ∙ t.is) in
    let same : window_count n w * b ≡ window_count t.ticks t.window * t.buffers = rw (p.0, p.1, p.2) refl in
    let others : Lines b (window_count t.ticks t.window * t.buffers) t.lines = subst (λ j. Lines j (window_count t.ticks t.window * t.buffers) t.lines) (sym p.2) t.form in
    let again : Lines b (window_count n w * b) t.lines = subst (λ j. Lines b j t.lines) (sym same) others in
    some (one_rest b (window_count n w * b) front t.lines rest [] form again (p.3 ∙ sym (append-nil t.lines)))

regroup : (x y z o : List ℕ) → (x ++ (y ++ z)) ++ o ≡ x ++ (y ++ (z ++ o))
regroup x y z o = simp append_assoc

-- where no line of place k stands, no reading goes further
meets : (text : List ℕ) (n w b n' w' b' k m : ℕ) (front rest other others' : List ℕ) → InBounds n w b → InBounds n' w' b' → Lines b k front → Lines b' m other
    → text ≡ header n w b ++ front ++ rest → text ≡ header n' w' b' ++ other ++ others' → NoLine b k rest → k < m → ⊥
meets text n w b n' w' b' k m front rest other others' bounds bounds' form form' is is' fails below =
    let p = one_header n w b n' w' b' (front ++ rest) (other ++ others') bounds bounds' (sym (append_assoc (header n w b) front rest) ∙ sym is ∙ is' ∙ append_assoc (header n' w' b') other others') in
    let others : Lines b m other = subst (λ j. Lines j m other) (sym p.2) form' in
    let a = among b m k other others below in
    let joined : other ++ others' ≡ a.before ++ (line (k / b) (k % b) a.log ++ (a.after ++ others')) = ap (λ (t : List ℕ). t ++ others') a.is ∙ regroup a.before (line (k / b) (k % b) a.log) a.after others' in
    fails a.log (a.after ++ others') (one_rest b k front a.before rest (line (k / b) (k % b) a.log ++ (a.after ++ others')) form a.form (p.3 ∙ joined))

places_same : (text : List ℕ) (n w b n' w' b' : ℕ) (front rest other others' : List ℕ) → InBounds n w b → InBounds n' w' b'
    → text ≡ header n w b ++ front ++ rest → text ≡ header n' w' b' ++ other ++ others' → window_count n w * b ≡ window_count n' w' * b'
places_same text n w b n' w' b' front rest other others' bounds bounds' is is' =
    let p = one_header n w b n' w' b' (front ++ rest) (other ++ others') bounds bounds' (sym (append_assoc (header n w b) front rest) ∙ sym is ∙ is' ∙ append_assoc (header n' w' b') other others') in
    rw (p.0, p.1, p.2) refl

-- a text has one first line outside the form
pub one_stop : (text : List ℕ) (i j : ℕ) → StopsAt text i → StopsAt text j → i ≡ j
one_stop text _ _ (first f) (first g) = refl
one_stop text _ _ (first f) (inside n w b k front rest bounds form is below g) = absurd (f n w b (front ++ rest) bounds (is ∙ append_assoc (header n w b) front rest))
one_stop text _ _ (first f) (past_lines n w b front rest bounds form is some) = absurd (f n w b (front ++ rest) bounds (is ∙ append_assoc (header n w b) front rest))
one_stop text _ _ (inside n w b k front rest bounds form is below g) (first f) = absurd (f n w b (front ++ rest) bounds (is ∙ append_assoc (header n w b) front rest))
one_stop text _ _ (past_lines n w b front rest bounds form is some) (first f) = absurd (f n w b (front ++ rest) bounds (is ∙ append_assoc (header n w b) front rest))
one_stop text _ _ (inside n w b k front rest bounds form is below f) (inside n' w' b' k' front' rest' bounds' form' is' below' g) = elim (cases_order k k') [
  | inl e ↦ ap suc e
  | inr h ↦ elim h [
    | inl l ↦ absurd (meets text n w b n' w' b' k k' front rest front' rest' bounds bounds' form form' is is' f l)
    | inr l ↦ absurd (meets text n' w' b' n w b k' k front' rest' front rest bounds' bounds form' form is' is g l)
  ]
]
one_stop text _ _ (inside n w b k front rest bounds form is below f) (past_lines n' w' b' front' rest' bounds' form' is' some) =
    let same = places_same text n w b n' w' b' front rest front' rest' bounds bounds' is is' in
    absurd (meets text n w b n' w' b' k (window_count n' w' * b') front rest front' rest' bounds bounds' form form' is is' f (subst (λ j. k < j) same below))
one_stop text _ _ (past_lines n' w' b' front' rest' bounds' form' is' some) (inside n w b k front rest bounds form is below f) =
    let same = places_same text n w b n' w' b' front rest front' rest' bounds bounds' is is' in
    absurd (meets text n w b n' w' b' k (window_count n' w' * b') front rest front' rest' bounds bounds' form form' is is' f (subst (λ j. k < j) same below))
one_stop text _ _ (past_lines n w b front rest bounds form is some) (past_lines n' w' b' front' rest' bounds' form' is' some') =
    ap suc (places_same text n w b n' w' b' front rest front' rest' bounds bounds' is is')

-- the text of a trace has the form
pub text_is : (t : TraceValue) → IsTrace t → IsText (trace_text t)
unfolding trace_text
text_is t is = record {
  ticks = t.ticks;
  window = t.window;
  buffers = length t.buffers;
  lines = lines_below t.buffers (length t.buffers) (places_of t);
  bounds = is.bounds;
  form = lines_are t.buffers (length t.buffers) (places_of t);
  is = refl;
}
