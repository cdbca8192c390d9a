-- A buffer with room for two windows and what its reader may owe refuses no put.
use Rattle.std.proofs.Common.{◌≡◌, ◌≤◌, ◌⊎◌, ◌+◌, ℕ, Bool, true, false, Option, Some, None, List, [], ◌∷◌, ◌++◌, length, flat_map, inl, inr, refl, ap, sym, arith, length-append, true≢false}
use Rattle.frame_core.specs.declared.cell.Cell.{Cell}
use Rattle.frame_core.specs.Legal.{Legal, IsHistory}
use Rattle.frame_core.specs.Legal.Legal.{all_done, accepted, put_refused, got, empty}
use Rattle.run_records.specs.Records.{Window}
use Rattle.run_records.specs.Pace.{has_none, KeepPace}

abbrev Answers : Type 0
Answers = List (Option (List Cell))

-- a window leaves no more than it found, less its takes, with its puts, where each take got one
taken : {C : ℕ} {r q : List (List Cell)} {puts takes : Answers} → has_none takes ≡ false → Legal C r q puts takes → length r + length takes ≤ length q + length puts
taken n all_done = omega arith
taken n (accepted {queue = q} {x = x} {puts = puts} {takes = takes} less rest) = omega (arith, taken n rest, length-append q (x ∷ []))
taken n (put_refused is rest) = omega (arith, taken n rest)
taken n (got rest) = omega (arith, taken n rest)
taken n (empty rest) = absurd (true≢false n)

-- it leaves no more than it found, and its puts
most : {C : ℕ} {r q : List (List Cell)} {puts takes : Answers} → Legal C r q puts takes → length r ≤ length q + length puts
most all_done = omega arith
most (accepted {queue = q} {x = x} less rest) = omega (arith, most rest, length-append q (x ∷ []))
most (put_refused is rest) = omega (arith, most rest)
most (got rest) = omega (arith, most rest)
most (empty rest) = most rest

-- and where a take got nothing, no more than its puts
emptied : {C : ℕ} {r q : List (List Cell)} {puts takes : Answers} → has_none takes ≡ true → Legal C r q puts takes → length r ≤ length puts
emptied n all_done = absurd (true≢false (sym n))
emptied n (accepted less rest) = omega (arith, emptied n rest)
emptied n (put_refused is rest) = omega (arith, emptied n rest)
emptied n (got rest) = emptied n rest
emptied n (empty rest) = omega (arith, most rest)

-- no put is refused where there is room for all of them
pub room : {C : ℕ} {r q : List (List Cell)} {puts takes : Answers} → length q + length puts ≤ C → Legal C r q puts takes → has_none puts ≡ false
room h all_done = refl
room h (accepted {queue = q} {x = x} less rest) = room (omega (arith, h, length-append q (x ∷ []))) rest
room h (put_refused is rest) = absurd (omega (arith, h, is))
room h (got rest) = room (omega (arith, h)) rest
room h (empty rest) = room h rest

pub has_none-append : (xs ys : Answers) → has_none xs ≡ false → has_none ys ≡ false → has_none (xs ++ ys) ≡ false
has_none-append [] ys e f = f
has_none-append (None ∷ xs) ys e f = absurd (true≢false e)
has_none-append (Some x ∷ xs) ys e f = has_none-append xs ys e f

module _ (C W D : ℕ) (wide : W + W + D ≤ C) where
  -- with what is owed, no window opens with more than W + D chunks
  next : {r q : List (List Cell)} (puts takes : Answers) (owed left : ℕ) → length q + owed ≤ W + D → length puts ≤ W → left ≤ D
      → (has_none takes ≡ true) ⊎ (length puts + left ≤ length takes + owed) → Legal C r q puts takes → length r + left ≤ W + D
  next puts takes owed left h p l (inl none) legal = omega (arith, p, l, emptied none legal)
  next {r = r} {q = q} puts takes owed left h p l (inr enough) legal = by (has_none takes) refl
    where
      by : (t : Bool) → has_none takes ≡ t → length r + left ≤ W + D
      by true e = omega (arith, p, l, emptied e legal)
      by false e = omega (arith, h, enough, taken e legal)

  owed_most : (owed : ℕ) (windows : List Window) → KeepPace W D owed windows → owed ≤ D
  owed_most owed [] pace = pace
  owed_most owed (window ∷ windows) pace = pace.1

  pub none_refused : (owed : ℕ) (q rest : List (List Cell)) (windows : List Window) → length q + owed ≤ W + D → KeepPace W D owed windows
      → IsHistory C q windows rest → has_none (flat_map (λ (window : Window). window.0) windows) ≡ false
  none_refused owed q rest [] h pace run = refl
  none_refused owed q rest (window ∷ windows) h pace run =
      has_none-append window.0 (flat_map (λ (w : Window). w.0) windows)
      (room (omega (arith, h, pace.0, wide)) run.1)
      (none_refused pace.2 run.0 rest windows (next window.0 window.1 owed pace.2 h pace.0 (owed_most pace.2 windows pace.4) pace.3 run.1) pace.4 run.2)

  -- behind windows that keep pace no more than W + D chunks are left
  pub most_left : (owed : ℕ) (q rest : List (List Cell)) (windows : List Window) → length q + owed ≤ W + D → KeepPace W D owed windows → IsHistory C q windows rest → length rest ≤ W + D
  most_left owed q rest [] h pace run = let same = ap (λ (l : List (List Cell)). length l) run in omega (arith, h, same)
  most_left owed q rest (window ∷ windows) h pace run =
      most_left pace.2 run.0 rest windows (next window.0 window.1 owed pace.2 h pace.0 (owed_most pace.2 windows pace.4) pace.3 run.1) pace.4 run.2

-- windows that keep pace, from an empty buffer
pub paced_windows_refuse_nothing : (capacity W D : ℕ) (windows : List Window) (rest : List (List Cell)) → W + W + D ≤ capacity → KeepPace W D D windows → IsHistory capacity [] windows rest
    → has_none (flat_map (λ (window : Window). window.0) windows) ≡ false
paced_windows_refuse_nothing capacity W D windows rest wide pace run = none_refused capacity W D wide D [] rest windows (omega arith) pace run
