-- A text is that of one trace.
use Rattle.std.proofs.Common.{◌≡◌, ◌<◌, ◌*◌, ◌+◌, ◌/◌, ◌%◌, inl, inr, ℕ, zero, suc, List, [], ◌++◌, length, get_or, refl, sym, ap, ◌∙◌, subst, arith, append-nil}
use Rattle.std.proofs.lemmas.Bool.Decides.{eqb_tells}
use Rattle.std.proofs.lemmas.Nat.{div-mul-add, mod-mul-add, mul-add-lt}
use Rattle.std.proofs.Math.Nat.{mul_comm}
use Rattle.std.proofs.lemmas.List.{append_cancel_right, ext_get_or}
use Rattle.buffer_ends.specs.Local.{Answers, no_answers}
use Rattle.trace_log.specs.Values.{TraceValue}
use Rattle.trace_log.specs.Texts.{line, lines_below, log_at, place_line, places_of, trace_text, window_count, IsTrace}
use Rattle.trace_log.proofs.Parts.{lines_are, one_header, one_line, one_rest}

-- the same lines are those of the same logs
logs_same : (bs cs : List (List Answers)) (m n : ℕ) → lines_below bs m n ≡ lines_below cs m n → (k : ℕ) → k < n → log_at bs (k % m) (k / m) ≡ log_at cs (k % m) (k / m)
unfolding lines_below place_line
logs_same bs cs m zero e k h = absurd (omega (arith, h))
logs_same bs cs m (suc n) e k h =
    let last : line (n / m) (n % m) (log_at bs (n % m) (n / m)) ≡ line (n / m) (n % m) (log_at cs (n % m) (n / m)) =
    one_rest m n (lines_below bs m n) (lines_below cs m n) _ _ (lines_are bs m n) (lines_are cs m n) e in
    let fewer : lines_below bs m n ≡ lines_below cs m n =
    append_cancel_right (lines_below bs m n) (lines_below cs m n) (line (n / m) (n % m) (log_at bs (n % m) (n / m)))
    (e ∙ ap (λ (t : List ℕ). lines_below cs m n ++ t) (sym last)) in
    let log : log_at bs (n % m) (n / m) ≡ log_at cs (n % m) (n / m) = (one_line (n / m) (n % m) _ _ [] [] (append-nil _ ∙ last ∙ sym (append-nil _))).0 in
    elim (eqb_tells k n) [
      | inl p ↦ subst (λ j. log_at bs (j % m) (j / m) ≡ log_at cs (j % m) (j / m)) (sym p.1) log
      | inr p ↦ logs_same bs cs m n fewer k (omega (arith, h, p.1))
    ]

-- the same logs at each place are the same buffers
buffers_same : (bs cs : List (List Answers)) (m w : ℕ) → length bs ≡ m → length cs ≡ m → ((b : ℕ) → b < m → length (get_or bs b []) ≡ w) → ((b : ℕ) → b < m → length (get_or cs b []) ≡ w)
    → ((k : ℕ) → k < w * m → log_at bs (k % m) (k / m) ≡ log_at cs (k % m) (k / m)) → bs ≡ cs
buffers_same bs cs m w all all' long long' logs = ext_get_or [] bs cs (all ∙ sym all') (λ b h.
    let below : b < m = omega (arith, h, all) in
    ext_get_or no_answers (get_or bs b []) (get_or cs b []) (long b below ∙ sym (long' b below)) (λ j l.
    let early : j < w = omega (arith, l, long b below) in
    let here : log_at bs ((j * m + b) % m) ((j * m + b) / m) ≡ log_at cs ((j * m + b) % m) ((j * m + b) / m) = logs (j * m + b) (subst (λ x. j * m + b < x) (mul_comm m w) (mul-add-lt j m b w early below)) in
    subst (λ x. log_at bs b x ≡ log_at cs b x) (div-mul-add j m b below) (subst (λ x. log_at bs x ((j * m + b) / m) ≡ log_at cs x ((j * m + b) / m)) (mod-mul-add j m b below) here)))

pub one_trace : (t u : TraceValue) → IsTrace t → IsTrace u → trace_text t ≡ trace_text u → t ≡ u
unfolding trace_text
one_trace t u is is' e =
    let p = one_header t.ticks t.window (length t.buffers) u.ticks u.window (length u.buffers) _ _ is.bounds is'.bounds e in
    let windows : window_count t.ticks t.window ≡ window_count u.ticks u.window = rw (p.0, p.1) refl in
    let lines : lines_below t.buffers (length t.buffers) (places_of t) ≡ lines_below u.buffers (length t.buffers) (places_of t) = p.3 ∙ rw (p.0, p.1, p.2) refl in
    let buffers : t.buffers ≡ u.buffers = buffers_same t.buffers u.buffers (length t.buffers) (window_count t.ticks t.window) refl (sym p.2) is.logs
    (λ b h. is'.logs b (omega (arith, h, p.2)) ∙ sym windows) (logs_same t.buffers u.buffers (length t.buffers) (places_of t) lines) in
    (λ i. record { ticks = p.0 i; window = p.1 i; buffers = buffers i })
