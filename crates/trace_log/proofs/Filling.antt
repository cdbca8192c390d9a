-- The logs of lines are put to their buffers, one line after the other.
use Rattle.std.proofs.Common.{◌≡◌, ◌≢◌, ◌<◌, ◌≤◌, ◌+◌, ◌*◌, ◌/◌, ◌%◌, ◌⊎◌, inl, inr, ℕ, zero, suc, List, [], ◌∷◌, ◌++◌, length, get_or, set, replicate, refl, sym, ap, ◌∙◌, subst, arith, append_assoc, add-one, length-append}
use Rattle.std.proofs.lemmas.Bool.{cases_lt}
use Rattle.std.proofs.lemmas.Bool.Decides.{eqb_tells}
use Rattle.std.proofs.lemmas.Nat.{div-add-mod', div-mul-add, mod-mul-add, mod_below, mul-le}
use Rattle.std.proofs.lemmas.List.{length-set, length-replicate, get_or-replicate, get_or-set_same, get_or-set_other, get_or_append_left, get_or_push}
use Rattle.buffer_ends.specs.Local.{Answers, no_answers}
use Rattle.trace_log.specs.Texts.{line, lines_below, log_at, place_line}

-- buffer b has n windows where the lines before place k are read
abbrev pub WindowsBefore : ℕ → ℕ → ℕ → ℕ → Type 0
WindowsBefore m k b n = ((b < k % m) × (n ≡ k / m + 1)) ⊎ ((k % m ≤ b) × (n ≡ k / m))

pub record Filled (buffers : List (List Answers)) (m k : ℕ) : Type 0 where
  pub all : length buffers ≡ m
  pub each : (b : ℕ) → b < m → WindowsBefore m k b (length (get_or buffers b []))

-- the buffer of place k with a log more
abbrev pub longer : List (List Answers) → ℕ → ℕ → Answers → List Answers
longer buffers m k log = get_or buffers (k % m) [] ++ log ∷ []

-- the buffers with it
abbrev pub with_log : List (List Answers) → ℕ → ℕ → Answers → List (List Answers)
with_log buffers m k log = set buffers (k % m) (longer buffers m k log)

-- where the next place is: in the same window, or in the first buffer of the next
next_place : (k m : ℕ) → 0 < m → ((k % m + 1 < m) × (((k + 1) / m ≡ k / m) × ((k + 1) % m ≡ k % m + 1))) ⊎ ((k % m + 1 ≡ m) × (((k + 1) / m ≡ k / m + 1) × ((k + 1) % m ≡ 0)))
next_place k m some =
    let whole : k / m * m + k % m ≡ k = div-add-mod' k m in
    let below : k % m < m = mod_below k m some in
    elim (cases_lt (k % m + 1) m) [
      | inl h ↦
          let e : k + 1 ≡ k / m * m + (k % m + 1) = omega (arith, whole) in
          inl (h, (ap (λ x. x / m) e ∙ div-mul-add (k / m) m (k % m + 1) h, ap (λ x. x % m) e ∙ mod-mul-add (k / m) m (k % m + 1) h))
      | inr h ↦
          let last : k % m + 1 ≡ m = omega (arith, below, h) in
          let more : (k / m + 1) * m ≡ k / m * m + m = omega arith in
          let e : k + 1 ≡ (k / m + 1) * m + 0 = omega (arith, whole, last, more) in
          inr (last, (ap (λ x. x / m) e ∙ div-mul-add (k / m + 1) m 0 some, ap (λ x. x % m) e ∙ mod-mul-add (k / m + 1) m 0 some))
    ]

own_windows : (m k n : ℕ) → WindowsBefore m k (k % m) n → n ≡ k / m
own_windows m k n w = elim w [ inl p ↦ absurd (omega (arith, p.0)) | inr p ↦ p.1 ]

own_more : (m k n : ℕ) → 0 < m → WindowsBefore m k (k % m) n → WindowsBefore m (k + 1) (k % m) (n + 1)
own_more m k n some w =
    let now : n ≡ k / m = own_windows m k n w in
    elim (next_place k m some) [
      | inl p ↦ inl (omega (arith, p.1.1), omega (arith, now, p.1.0))
      | inr p ↦ inr (omega (arith, p.1.1), omega (arith, now, p.1.0))
    ]

other_same : (m k b n : ℕ) → 0 < m → b < m → b ≢ k % m → WindowsBefore m k b n → WindowsBefore m (k + 1) b n
other_same m k b n some below apart w = elim (next_place k m some) [
  | inl p ↦ elim w [
    | inl q ↦ inl (omega (arith, p.1.1, q.0), omega (arith, p.1.0, q.1))
    | inr q ↦ inr (omega (arith, p.1.1, q.0, apart), omega (arith, p.1.0, q.1))
  ]
  | inr p ↦ elim w [
    | inl q ↦ inr (omega (arith, p.1.1), omega (arith, p.1.0, q.1))
    | inr q ↦ absurd (omega (arith, p.0, q.0, apart, below))
  ]
]

pub filled_none : (m : ℕ) → Filled (replicate m []) m 0
filled_none m = record {
  all = length-replicate m [];
  each = λ b h. let some : 0 < m = omega (arith, h) in
      let nothing : 0 ≡ 0 * m + 0 = omega arith in
      let first : 0 % m ≡ 0 = ap (λ x. x % m) nothing ∙ mod-mul-add 0 m 0 some in
      let whole : 0 / m ≡ 0 = ap (λ x. x / m) nothing ∙ div-mul-add 0 m 0 some in
      inr (omega (arith, first), ap length (get_or-replicate m b [] [] h) ∙ sym whole);
}

pub filled_more : (bs : List (List Answers)) (m k : ℕ) (log : Answers) → 0 < m → Filled bs m k → Filled (with_log bs m k log) m (k + 1)
filled_more bs m k log some f = record {
  all = length-set bs (k % m) (longer bs m k log) ∙ f.all;
  each = λ b h. elim (eqb_tells b (k % m)) [
    | inl p ↦ subst (λ i. WindowsBefore m (k + 1) i (length (get_or (with_log bs m k log) i []))) (sym p.1) (own h)
    | inr p ↦ subst (λ n. WindowsBefore m (k + 1) b n) (sym (ap length (get_or-set_other bs (k % m) b (longer bs m k log) [] p.1))) (other_same m k b _ some h p.1 (f.each b h))
  ];
}
  where
    inside : k % m < length bs
    inside = omega (arith, f.all, mod_below k m some)

    long : length (get_or (with_log bs m k log) (k % m) []) ≡ length (get_or bs (k % m) []) + 1
    long = ap length (get_or-set_same bs (k % m) (longer bs m k log) [] inside) ∙ length-append (get_or bs (k % m) []) (log ∷ [])

    own : {b : ℕ} → b < m → WindowsBefore m (k + 1) (k % m) (length (get_or (with_log bs m k log) (k % m) []))
    own h = subst (λ n. WindowsBefore m (k + 1) (k % m) n) (sym long) (own_more m k _ some (f.each (k % m) (mod_below k m some)))

-- an earlier line of the same buffer is of an earlier window
earlier : (j k m : ℕ) → j < k → j % m ≡ k % m → j / m < k / m
earlier j k m below same =
    let a : j / m * m + j % m ≡ j = div-add-mod' j m in
    let b : k / m * m + k % m ≡ k = div-add-mod' k m in
    elim (cases_lt (j / m) (k / m)) [
      | inl h ↦ h
      | inr h ↦ let c : k / m * m ≤ j / m * m = mul-le (k / m) m (j / m) m h (omega arith) in absurd (omega (arith, a, b, c, below, same))
    ]

log_kept : (bs : List (List Answers)) (m k j : ℕ) (log : Answers) → 0 < m → Filled bs m k → j < k → log_at (with_log bs m k log) (j % m) (j / m) ≡ log_at bs (j % m) (j / m)
log_kept bs m k j log some f below = elim (eqb_tells (j % m) (k % m)) [
  | inl p ↦
      let inside : k % m < length bs = omega (arith, f.all, mod_below k m some) in
      let now : length (get_or bs (k % m) []) ≡ k / m = own_windows m k _ (f.each (k % m) (mod_below k m some)) in
      let short : j / m < length (get_or bs (k % m) []) = omega (arith, now, earlier j k m below p.1) in
      subst (λ i. log_at (with_log bs m k log) i (j / m) ≡ log_at bs i (j / m)) (sym p.1)
      (ap (λ (l : List Answers). get_or l (j / m) no_answers) (get_or-set_same bs (k % m) (longer bs m k log) [] inside) ∙ get_or_append_left (get_or bs (k % m) []) (log ∷ []) no_answers (j / m) short)
  | inr p ↦ ap (λ (l : List Answers). get_or l (j / m) no_answers) (get_or-set_other bs (k % m) (j % m) (longer bs m k log) [] p.1)
]

log_new : (bs : List (List Answers)) (m k : ℕ) (log : Answers) → 0 < m → Filled bs m k → log_at (with_log bs m k log) (k % m) (k / m) ≡ log
log_new bs m k log some f =
    let inside : k % m < length bs = omega (arith, f.all, mod_below k m some) in
    ap (λ (l : List Answers). get_or l (k / m) no_answers) (get_or-set_same bs (k % m) (longer bs m k log) [] inside)
    ∙ get_or_push (get_or bs (k % m) []) log no_answers (k / m) (own_windows m k _ (f.each (k % m) (mod_below k m some)))

lines_kept : (bs : List (List Answers)) (m k : ℕ) (log : Answers) → 0 < m → Filled bs m k → (j : ℕ) → j ≤ k → lines_below (with_log bs m k log) m j ≡ lines_below bs m j
unfolding lines_below place_line
lines_kept bs m k log some f zero h = refl
lines_kept bs m k log some f (suc j) h =
    let fewer : lines_below (with_log bs m k log) m j ≡ lines_below bs m j = lines_kept bs m k log some f j (omega (arith, h)) in
    ap (λ (t : List ℕ). t ++ line (j / m) (j % m) (log_at (with_log bs m k log) (j % m) (j / m))) fewer
    ∙ ap (λ (l : Answers). lines_below bs m j ++ line (j / m) (j % m) l) (log_kept bs m k j log some f (omega (arith, h)))

lines_with : (bs : List (List Answers)) (m k : ℕ) (log : Answers) → 0 < m → Filled bs m k → lines_below (with_log bs m k log) m (k + 1) ≡ lines_below bs m k ++ line (k / m) (k % m) log
unfolding lines_below place_line
lines_with bs m k log some f =
    ap (λ n. lines_below (with_log bs m k log) m n) (add-one k)
    ∙ ap (λ (t : List ℕ). t ++ line (k / m) (k % m) (log_at (with_log bs m k log) (k % m) (k / m))) (lines_kept bs m k log some f k (omega arith))
    ∙ ap (λ (l : Answers). lines_below bs m k ++ line (k / m) (k % m) l) (log_new bs m k log some f)

-- The lines before place k are read into the buffers, and this is what follows.
pub record AreRead (text : List ℕ) (buffers : List (List Answers)) (m k : ℕ) (rest : List ℕ) : Type 0 where
  pub filled : Filled buffers m k
  pub is : text ≡ lines_below buffers m k ++ rest

pub none_read : (text : List ℕ) (bs : List (List Answers)) (m : ℕ) → bs ≡ replicate m [] → AreRead text bs m 0 text
unfolding lines_below
none_read text bs m e = record { filled = subst (λ (l : List (List Answers)). Filled l m 0) (sym e) (filled_none m); is = refl }

pub more_read : (text : List ℕ) (bs new : List (List Answers)) (m k : ℕ) (log : Answers) (rest after : List ℕ) → 0 < m → AreRead text bs m k rest
    → new ≡ with_log bs m k log → rest ≡ line (k / m) (k % m) log ++ after → AreRead text new m (k + 1) after
more_read text bs new m k log rest after some r e s = subst (λ (l : List (List Answers)). AreRead text l m (k + 1) after) (sym e) (record {
  filled = filled_more bs m k log some r.filled;
  is = r.is ∙ ap (λ (t : List ℕ). lines_below bs m k ++ t) s ∙ sym (append_assoc (lines_below bs m k) (line (k / m) (k % m) log) after) ∙ ap (λ (t : List ℕ). t ++ after) (sym (lines_with bs m k log some r.filled));
})
