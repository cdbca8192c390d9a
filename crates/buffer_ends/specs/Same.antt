-- What no call on a list changes.
use Rattle.std.specs.Prelude.{◌≡◌, ℕ, ◌<◌, List, length, slice_index_or, refl}
use Rattle.std.proofs.Common.{◌∙◌, arith}
use Rattle.buffer_ends.specs.Local.{LocalBuffer}

-- a call left a buffer its capacity and its closed windows: it changed at most its chunks and the open window
pub record SameBuffer (before after : LocalBuffer) : Type 0 where
  pub capacity : after.capacity ≡ before.capacity
  pub closed : after.closed ≡ before.closed

-- calls left each buffer its capacity and its closed windows: they changed at most chunks and open windows
pub record SameBuffers (before after : List LocalBuffer) : Type 0 where
  pub many : length after ≡ length before
  pub each : (k : ℕ) (d : LocalBuffer) → k < length before
      → SameBuffer (slice_index_or before k d) (slice_index_or after k d)

-- lists that stay have the capacities and closed windows that they had
pub same_buffers_refl : (bs : List LocalBuffer) → SameBuffers bs bs
same_buffers_refl bs = record { many = refl; each = λ k d h. record { capacity = refl; closed = refl } }

-- lists that stay so in each of two steps do in both
pub same_buffers_trans : (bs cs ds : List LocalBuffer) → SameBuffers bs cs → SameBuffers cs ds → SameBuffers bs ds
same_buffers_trans bs cs ds a b = record {
  many = b.many ∙ a.many;
  each = λ k d h. let x = a.each k d h in let y = b.each k d (omega (arith, a.many, h)) in
      record { capacity = y.capacity ∙ x.capacity; closed = y.closed ∙ x.closed };
}
