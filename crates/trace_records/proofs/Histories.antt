-- Windows that are legal as they are told are legal with their chunks.
use Rattle.std.proofs.Common.{◌≡◌, ◌≤◌, ◌+◌, ◌-◌, ◌∙◌, ◌++◌, ◌&&◌, ℕ, suc, Bool, true, false, is_some, Option, Some, None, List, [], ◌∷◌, length, map, flat_map, refl, ap, sym, subst, arith, append_assoc, append-nil, length-append, true≢false}
use Rattle.frame_core.specs.Frames.{somes}
use Rattle.frame_core.specs.Legal.{IsHistory}
use Rattle.frame_core.proofs.Lanes.{somes-append}
use Rattle.frame_core.proofs.Laws.{legal_whole}
use Rattle.trace_records.specs.Told.{are_legal, is_legal, yes}
use Rattle.trace_records.proofs.Deciding.{test_fits, fits_test}
use Rattle.trace_records.proofs.Fitting.{fits_legal, legal_fits}
use Rattle.trace_records.proofs.Fronts.{head_same, tail_same}

both_true : (a b : Bool) → a && b ≡ true → (a ≡ true) × (b ≡ true)
both_true true b e = (refl, e)
both_true false b e = absurd (true≢false (sym e))

and_true : (a b : Bool) → a ≡ true → b ≡ true → a && b ≡ true
and_true a b e f = ap (λ (x : Bool). x && b) e ∙ f

module _ {X : Type 0} where
  pub yes_long : (answers : List (Option X)) → yes (map is_some answers) ≡ length (somes answers)
  yes_long [] = refl
  yes_long (None ∷ answers) = yes_long answers
  yes_long (Some x ∷ answers) = ap suc (yes_long answers)

  -- a list cut in two ways
  pub cut : (xs ys zs ws : List X) → xs ++ ys ≡ zs ++ ws → length zs ≤ length xs → (left : List X) × (xs ≡ zs ++ left) × (left ++ ys ≡ ws)
  cut xs ys [] ws e low = (xs, refl, e)
  cut [] ys (z ∷ zs) ws e low = absurd (omega (arith, low))
  cut (x ∷ xs) ys (z ∷ zs) ws e low =
      let more = cut xs ys zs ws (tail_same x z (xs ++ ys) (zs ++ ws) e) (omega (arith, low)) in
      let here : x ≡ z = head_same x z (xs ++ ys) (zs ++ ws) e in
      (more.0, (λ i. here i ∷ more.1 i), more.2)

  abbrev told_by : List (Option X) × List (Option X) → List Bool × List Bool
  told_by window = (map is_some window.0, map is_some window.1)

  -- windows that are told as legal ones, whose chunks come out in the order in which they went in
  pub told_run : (C : ℕ) (q rest : List X) (windows : List (List (Option X) × List (Option X))) → 1 ≤ C → length q ≤ C → are_legal C (length q) (map told_by windows) ≡ true
      → q ++ somes (flat_map (λ w. w.0) windows) ≡ somes (flat_map (λ w. w.1) windows) ++ rest → IsHistory C q windows rest
  told_run C q rest [] some low legal whole = sym (append-nil q) ∙ whole
  told_run C q rest (w ∷ windows) some low legal whole =
      let puts : List (Option X) = flat_map (λ w. w.0) windows in
      let takes : List (Option X) = flat_map (λ w. w.1) windows in
      let tests = both_true (is_legal C (length q) (map is_some w.0) (map is_some w.1)) _ legal in
      let fits = test_fits C (length q) (map is_some w.0) (map is_some w.1) tests.0 in
      let put = yes_long w.0 in let got = yes_long w.1 in
      let size = length-append q (somes w.0) in
      let all : (q ++ somes w.0) ++ somes puts ≡ somes w.1 ++ (somes takes ++ rest) =
      append_assoc q (somes w.0) (somes puts) ∙ ap (λ l. q ++ l) (sym (somes-append w.0 puts)) ∙ whole
      ∙ ap (λ l. l ++ rest) (somes-append w.1 takes) ∙ append_assoc (somes w.1) (somes takes) rest in
      let least = fits.least in
      let parts = cut (q ++ somes w.0) (somes puts) (somes w.1) (somes takes ++ rest) all (omega (arith, size, put, got, least)) in
      let left = parts.0 in
      let more = length-append (somes w.1) left in
      let same = ap (λ (l : List X). length l) parts.1 in
      let next : (length q + yes (map is_some w.0)) - yes (map is_some w.1) ≡ length left = omega (arith, more, same, size, put, got) in
      let most = fits.most in (
        left,
        fits_legal (length w.0 + length w.1) C left q w.0 w.1 (omega arith) some low fits parts.1,
        told_run C left rest windows some (omega (arith, more, same, size, put, got, most))
            (subst (λ n. are_legal C n (map told_by windows) ≡ true) next tests.1) parts.2,
      )

  -- and legal windows are told as such
  pub run_told : (C : ℕ) (q rest : List X) (windows : List (List (Option X) × List (Option X))) → length q ≤ C → IsHistory C q windows rest → are_legal C (length q) (map told_by windows) ≡ true
  run_told C q rest [] low run = refl
  run_told C q rest (w ∷ windows) low run =
      let fits = legal_fits run.1 low in
      let put = yes_long w.0 in let got = yes_long w.1 in
      let whole = ap (λ (l : List X). length l) (legal_whole run.1) in
      let size = length-append q (somes w.0) in
      let more = length-append (somes w.1) run.0 in
      let next : length run.0 ≡ (length q + yes (map is_some w.0)) - yes (map is_some w.1) = omega (arith, whole, size, more, put, got) in
      let most = fits.most in
      and_true (is_legal C (length q) (map is_some w.0) (map is_some w.1)) _ (fits_test C (length q) (map is_some w.0) (map is_some w.1) fits)
      (subst (λ n. are_legal C n (map told_by windows) ≡ true) next (run_told C run.0 rest windows (omega (arith, whole, size, more, put, got, most)) run.2))
