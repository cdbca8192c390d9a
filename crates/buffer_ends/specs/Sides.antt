-- A clock's end of a buffer that joins it to another clock: the buffer's number, and the window that is open.
use Rattle.std.specs.Prelude.{◌≡◌, ℕ, ◌<◌, List, length, slice_index_or, Option, refl}
use Rattle.std.specs.Coded.{Coded, code_by, coded×, coded_ℕ}
use Rattle.std.proofs.Common.{◌∙◌, arith}
use Rattle.frame_core.specs.declared.cell.Cell.{Cell}
use Rattle.frame_core.specs.declared.chunk.Gave.{Gave}
use Rattle.buffer_queue.specs.Window.{Window, window_coded, Puts, Takes}

-- One end of a buffer that joins two clocks, as the clock at this end has it: the buffer's number, and the open window
-- (the calls since the ends last met).
pub record Side : Type 0 where
  pub buffer : ℕ
  pub window : Window

-- how a buffer's end is coded as a number, by way of pairs, so that contracts may see a value that holds it
abbrev pub side_coded : Coded Side
side_coded = code_by (ℕ × Window) (coded× coded_ℕ window_coded) (λ s. (s.buffer, s.window)) (λ p. record {
  buffer = p.0;
  window = p.1;
}) (λ _. refl)

-- a clock's ends stand by falling numbers of their buffers, so that each buffer is there at most once
abbrev pub Falling : List Side → Type 0
Falling sides =
    (i j : ℕ) (d : Side) → i < j → j < length sides
    → (slice_index_or sides j d).buffer < (slice_index_or sides i d).buffer

-- an end before and after a put of this chunk, which gave this answer
abbrev pub PutsSide : Side → List Cell → Side → Gave → Type 0
PutsSide before chunk after gave = (after.buffer ≡ before.buffer) × Puts before.window chunk after.window gave

-- an end before and after a take, which gave this answer: a chunk, or nothing
abbrev pub TakesSide : Side → Option (List Cell) → Side → Type 0
TakesSide before answer after = (after.buffer ≡ before.buffer) × Takes before.window after.window answer

-- A clock's end of a buffer is still the same one, from `before` to `after`: of the same buffer and queue, and in a
-- window that opened with the same chunks. Only the calls in the window may differ.
pub record SameSide (before after : Side) : Type 0 where
  pub buffer : after.buffer ≡ before.buffer
  pub queue : after.window.queue ≡ before.window.queue
  pub opening : after.window.opening ≡ before.window.opening

-- each of a clock's ends is still the same one: of the same buffer and queue, and in a window that opened with the same
-- chunks
pub record SameSides (before after : List Side) : Type 0 where
  pub many : length after ≡ length before
  pub each : (k : ℕ) (d : Side) → k < length before → SameSide (slice_index_or before k d) (slice_index_or after k d)

-- ends that stay are the same ones
pub same_sides_refl : (ss : List Side) → SameSides ss ss
same_sides_refl ss = record { many = refl; each = λ k d h. record { buffer = refl; queue = refl; opening = refl } }

-- ends that stay the same in each of two steps do in both
pub same_sides_trans : (ss ts us : List Side) → SameSides ss ts → SameSides ts us → SameSides ss us
same_sides_trans ss ts us a b = record {
  many = b.many ∙ a.many;
  each = λ k d h. let x = a.each k d h in let y = b.each k d (omega (arith, a.many, h)) in
      record { buffer = y.buffer ∙ x.buffer; queue = y.queue ∙ x.queue; opening = y.opening ∙ x.opening };
}
