-- Silence that is only counted.
use Rattle.std.proofs.Common.{◌≡◌, ◌<◌, ◌≤◌, ◌+◌, ◌-◌, ◌∙◌, ◌++◌, ℕ, zero, suc, ℤ, pos, List, [], ◌∷◌, length, take, drop, replicate, arith, ap, refl, sym, append-nil}
use Rattle.std.proofs.lemmas.List.{length-append, length-replicate, drop-replicate, replicate-append-replicate}
use Rattle.circular_buffer.specs.Buffer.{Buffer, buffer, keep_last}
use Rattle.cell_ring.proofs.Moves.{lane_more}

abbrev pub zeros : ℕ → List ℤ
zeros n = replicate n (pos 0)

-- so many zeros, and these samples
abbrev pub behind_zeros : ℕ → List ℤ → (room : ℕ) → Buffer ℤ
behind_zeros n held room = buffer (zeros n ++ held) room

pub first_zeros : (n k : ℕ) → n ≤ k → take n (zeros k) ≡ zeros n
first_zeros zero k le = refl
first_zeros (suc n) zero le = absurd (omega (arith, le))
first_zeros (suc n) (suc k) le = ap (λ xs. pos 0 ∷ xs) (first_zeros n k (omega (arith, le)))

pub only_zeros : (k : ℕ) (held : List ℤ) (was : Buffer ℤ) (room : ℕ) → held ≡ [] → behind_zeros k held room ≡ was → zeros k ≡ was.items
only_zeros k held was room none is = sym (append-nil (zeros k)) ∙ ap (λ xs. zeros k ++ xs) (sym none) ∙ ap (λ (b : Buffer ℤ). b.items) is

-- zeros are taken
pub taken : (n k : ℕ) (held : List ℤ) (was : Buffer ℤ) (room : ℕ) → held ≡ [] → n ≤ k → behind_zeros k held room ≡ was → zeros n ≡ take n was.items
taken n k held was room none le is = sym (first_zeros n k le) ∙ ap (take n) (only_zeros k held was room none is)

pub left_over : (n k : ℕ) (held : List ℤ) (was : Buffer ℤ) (room : ℕ) → held ≡ [] → behind_zeros k held room ≡ was
    → behind_zeros (k - n) held room ≡ buffer (drop n was.items) was.capacity
left_over n k held was room none is =
    ap (λ xs. behind_zeros (k - n) xs room) none ∙ ap (λ xs. buffer xs room) (append-nil (zeros (k - n)) ∙ sym (drop-replicate n k (pos 0)))
    ∙ ap (λ xs. buffer (drop n xs) room) (only_zeros k held was room none is) ∙ ap (λ (b : Buffer ℤ). buffer (drop n was.items) b.capacity) is

-- zeros come
pub more_zeros : (k : ℕ) (held samples : List ℤ) (was : Buffer ℤ) (room : ℕ) → held ≡ [] → samples ≡ zeros (length samples) → behind_zeros k held room ≡ was
    → behind_zeros (k + length samples) held room ≡ buffer (was.items ++ samples) was.capacity
more_zeros k held samples was room none silent is =
    ap (λ xs. behind_zeros (k + length samples) xs room) none
    ∙ ap (λ xs. buffer xs room) (append-nil (zeros (k + length samples)) ∙ sym (replicate-append-replicate k (length samples) (pos 0)))
    ∙ ap (λ xs. buffer (zeros k ++ xs) room) (sym silent)
    ∙ ap (λ xs. buffer (xs ++ samples) room) (only_zeros k held was room none is) ∙ ap (λ (b : Buffer ℤ). buffer (was.items ++ samples) b.capacity) is

-- the zeros are held
swapped : (k : ℕ) (held : List ℤ) → (0 < k → held ≡ []) → held ++ zeros k ≡ zeros k ++ held
swapped zero held none = append-nil held
swapped (suc k) held none =
    let is = none (omega arith) in ap (λ xs. xs ++ zeros (suc k)) is ∙ sym (append-nil (zeros (suc k))) ∙ ap (λ xs. zeros (suc k) ++ xs) (sym is)

pub held_after : (k : ℕ) (held samples : List ℤ) (was kept now : Buffer ℤ) (room : ℕ) → (0 < k → held ≡ []) → behind_zeros k held room ≡ was
    → length was.items + length samples ≤ was.capacity → kept ≡ buffer (held ++ zeros k) room
    → now ≡ buffer (keep_last kept.capacity (kept.items ++ samples)) kept.capacity
    → behind_zeros 0 now.items now.capacity ≡ buffer (was.items ++ samples) was.capacity
held_after k held samples was kept now room none is fits put more =
    let same : kept ≡ was = put ∙ ap (λ xs. buffer xs room) (swapped k held none) ∙ is in
    ap (λ (b : Buffer ℤ). behind_zeros 0 b.items b.capacity)
    (lane_more kept now samples (omega (arith, fits, ap (λ (b : Buffer ℤ). length b.items) same, ap (λ (b : Buffer ℤ). b.capacity) same)) more)
    ∙ ap (λ (b : Buffer ℤ). buffer (b.items ++ samples) b.capacity) same

pub none_there : (xs : List ℤ) → length xs ≡ 0 → xs ≡ []
none_there [] none = refl
none_there (x ∷ xs) none = absurd (omega (arith, none))

pub long_view : (k : ℕ) (held : List ℤ) (was : Buffer ℤ) (room : ℕ) → behind_zeros k held room ≡ was → (length was.items ≡ k + length held) × (room ≡ was.capacity)
long_view k held was room is = (
  sym (ap (λ (b : Buffer ℤ). length b.items) is) ∙ length-append (zeros k) held ∙ ap (λ n. n + length held) (length-replicate k (pos 0)),
  ap (λ (b : Buffer ℤ). b.capacity) is,
)
