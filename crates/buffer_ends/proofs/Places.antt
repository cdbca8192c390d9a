-- Where an end stands among ends that go from the last buffer to the first.
use Rattle.std.proofs.Common.{◌≡◌, ◌≢◌, ℕ, ◌<◌, ◌≤◌, Bool, true, false, List, length, get_or, slice_index_or, sym, ap, ◌∙◌, subst, arith, ⊎_elim, eqb, leb, ltb, ltb-true, ltb-false, lt-ltb}
use Rattle.std.specs.List.Sorted.{IsPartitionPoint, IsPartitionedBy}
use Rattle.std.proofs.lemmas.Bool.Decides.{eqb_tells, leb_tells}
use Rattle.buffer_ends.specs.Sides.{Side, Falling}

-- the test by which the ends are halved: that an end is of a later buffer
abbrev pub is_later : ℕ → Side → Bool
is_later b side = ltb b side.buffer

-- a buffer has one place
pub one_place : (sides : List Side) → Falling sides → (i j : ℕ) (d : Side) → i < length sides → j < length sides
    → (slice_index_or sides i d).buffer ≡ (slice_index_or sides j d).buffer → i ≡ j
one_place sides falling i j d h g same =
    let up : i < j → ⊥ = λ less. (let f = falling i j d less g in omega (arith, f, same)) in
    let down : j < i → ⊥ = λ less. (let f = falling j i d less h in omega (arith, f, same)) in
    ⊎_elim (λ (t : (eqb i j ≡ true) × (i ≡ j)). t.1) (λ t. let off = t.1 in
    ⊎_elim (λ (t : (leb i j ≡ true) × (i ≤ j)). absurd (up (omega (arith, t.1, off)))) (λ t. absurd (down t.1)) (leb_tells i j)) (eqb_tells i j)

-- the ends of later buffers stand before the others
pub later_first : (sides : List Side) (b : ℕ) → Falling sides → IsPartitionedBy (is_later b) sides
later_first sides b falling i j d le low later =
    ⊎_elim (λ (t : (eqb i j ≡ true) × (i ≡ j)). subst (λ k. is_later b (get_or sides k d) ≡ true) (sym t.1) later)
    (λ t. let off = t.1 in let f = falling i j d (omega (arith, le, off)) low in let l = ltb-true b (get_or sides j d).buffer later in lt-ltb b (get_or sides i d).buffer (omega (arith, f, l))) (eqb_tells i j)

-- where the first of the others is of another buffer, there is no end of this one
pub none_there : (sides : List Side) (b place : ℕ) → Falling sides → IsPartitionPoint (λ s. is_later b s ≡ true) (λ s. is_later b s ≡ false) sides place
    → ((d : Side) → place < length sides → (slice_index_or sides place d).buffer ≢ b)
    → (k : ℕ) (d : Side) → k < length sides → (slice_index_or sides k d).buffer ≢ b
none_there sides b place falling point other k d low is =
    ⊎_elim (λ (t : (eqb k place ≡ true) × (k ≡ place)). other d (omega (arith, low, t.1)) (sym (ap (λ n. (get_or sides n d).buffer) t.1) ∙ is))
    (λ t. let off = t.1 in ⊎_elim
    (λ (t : (leb place k ≡ true) × (place ≤ k)). let past : place < k = omega (arith, t.1, off) in
    let l = ltb-false b (get_or sides place d).buffer (point.1 place d (omega arith) (omega (arith, past, low))) in
    let f = falling place k d past low in omega (arith, l, f, is))
    (λ t. let l = ltb-true b (get_or sides k d).buffer (point.0 k d (omega arith) t.1) in omega (arith, l, is))
    (leb_tells place k)) (eqb_tells k place)
