-- The walk over the chunks, one step after another.
use Rattle.std.proofs.Common.{◌≡◌, ◌≤◌, ◌<◌, ℕ, zero, suc, ◌+◌, ◌∷◌, [], List, length, cond, Bool, true, false, refl, sym, ap, ◌∙◌, arith, subst, inl, inr}
use Rattle.std.specs.Prelude.{◌⊎◌, nat_le, Some, None, codes}
use Rattle.std.proofs.lemmas.Bool.{leb-true, le-leb, leb-false, lt-leb}
use Rattle.std.specs.Str.{bytes_eq}
use Rattle.wav_io.specs.Chunks.{chunk_at, chunks_from, chunks_behind, place_behind, AreChunks, first_named, before_named}
use Rattle.wav_io.specs.Reading.{format_chunk}
use Rattle.wav_io.specs.declared.chunks.Chunk.{Chunk}

-- one number is within another or above it
pub within_or : (m n : ℕ) → (m ≤ n) ⊎ (n < m)
within_or m n = at_test (nat_le m n) refl where
  at_test : (b : Bool) → nat_le m n ≡ b → (m ≤ n) ⊎ (n < m)
  at_test true e = inl (leb-true m n e)
  at_test false e = inr (leb-false m n e)

chosen_none : (b : Bool) (chunk : Chunk) (chunks : List Chunk) → b ≡ false → cond b (chunk ∷ chunks) [] ≡ []
chosen_none false chunk chunks e = refl
chosen_none true chunk chunks e = absurd (cc)

-- no chunk stands where fewer than eight bytes are left
pub no_chunk : (most : ℕ) (bytes : List ℕ) (place : ℕ) → length bytes < place + 8 → chunks_from most bytes place ≡ []
unfolding chunks_from
no_chunk zero bytes place short = refl
no_chunk (suc most) bytes place short = chosen_none (nat_le (place + 8) (length bytes)) _ _ (lt-leb (place + 8) (length bytes) short)

pub one_chunk : (most : ℕ) (bytes : List ℕ) (place : ℕ) → place + 8 ≤ length bytes
    → chunks_from (suc most) bytes place ≡ chunk_at bytes place ∷ chunks_from most bytes (place_behind (chunk_at bytes place))
unfolding chunks_from
one_chunk most bytes place long = ap (λ t. cond t (chunk_at bytes place ∷ chunks_from most bytes (place_behind (chunk_at bytes place))) []) (le-leb (place + 8) (length bytes) long)

-- more than the bytes that are left makes no difference
same_chunks : (most more : ℕ) (bytes : List ℕ) (place : ℕ) → length bytes ≤ place + most → length bytes ≤ place + more → chunks_from most bytes place ≡ chunks_from more bytes place
same_chunks zero more bytes place a b = no_chunk zero bytes place (omega arith) ∙ sym (no_chunk more bytes place (omega arith))
same_chunks (suc most) zero bytes place a b = no_chunk (suc most) bytes place (omega arith) ∙ sym (no_chunk zero bytes place (omega arith))
same_chunks (suc most) (suc more) bytes place a b =
    at_place (within_or (place + 8) (length bytes)) (λ long. same_chunks most more bytes (place_behind (chunk_at bytes place)) (omega arith) (omega arith)) where
      at_place : (place + 8 ≤ length bytes) ⊎ (length bytes < place + 8)
          → (place + 8 ≤ length bytes → chunks_from most bytes (place_behind (chunk_at bytes place)) ≡ chunks_from more bytes (place_behind (chunk_at bytes place)))
          → chunks_from (suc most) bytes place ≡ chunks_from (suc more) bytes place
      at_place (inl long) later = one_chunk most bytes place long ∙ ap (λ l. chunk_at bytes place ∷ l) (later long) ∙ sym (one_chunk more bytes place long)
      at_place (inr short) later = no_chunk (suc most) bytes place short ∙ sym (no_chunk (suc more) bytes place short)

positive : (n : ℕ) → 0 < n → (m : ℕ) × (n ≡ suc m)
positive zero h = absurd (omega arith)
positive (suc m) h = (m, refl)

-- a chunk, and then those behind it
pub next_chunk : (bytes : List ℕ) (place : ℕ) → place + 8 ≤ length bytes
    → chunks_behind bytes place ≡ chunk_at bytes place ∷ chunks_behind bytes (place_behind (chunk_at bytes place))
next_chunk bytes place long =
    let (m, is) = positive (length bytes) (omega arith) in
    ap (λ n. chunks_from n bytes place) is ∙ one_chunk m bytes place long
    ∙ ap (λ l. chunk_at bytes place ∷ l) (same_chunks m (length bytes) bytes (place_behind (chunk_at bytes place)) (omega arith) (omega arith))

-- the chunks that are counted are those that are there
are_chunks_from : (most : ℕ) (bytes : List ℕ) (place : ℕ) → length bytes ≤ place + most → AreChunks bytes place (chunks_from most bytes place)
are_chunks_from zero bytes place few = subst (λ l. AreChunks bytes place l) (sym (no_chunk zero bytes place (omega arith))) (omega arith)
are_chunks_from (suc most) bytes place few =
    at_place (within_or (place + 8) (length bytes)) (λ long. are_chunks_from most bytes (place_behind (chunk_at bytes place)) (omega arith)) where
      at_place : (place + 8 ≤ length bytes) ⊎ (length bytes < place + 8)
          → (place + 8 ≤ length bytes → AreChunks bytes (place_behind (chunk_at bytes place)) (chunks_from most bytes (place_behind (chunk_at bytes place))))
          → AreChunks bytes place (chunks_from (suc most) bytes place)
      at_place (inl long) later = subst (λ l. AreChunks bytes place l) (sym (one_chunk most bytes place long)) (long, refl, later long)
      at_place (inr short) later = subst (λ l. AreChunks bytes place l) (sym (no_chunk (suc most) bytes place short)) short

pub are_chunks : (bytes : List ℕ) (place : ℕ) → AreChunks bytes place (chunks_behind bytes place)
are_chunks bytes place = are_chunks_from (length bytes) bytes place (omega arith)

module _ (bytes : List ℕ) (place : ℕ) (chunk : Chunk) (long : place + 8 ≤ length bytes) (is : chunk ≡ chunk_at bytes place) where
  behind_here : chunks_behind bytes place ≡ chunk ∷ chunks_behind bytes (place_behind chunk)
  behind_here = next_chunk bytes place long ∙ ap (λ c. c ∷ chunks_behind bytes (place_behind c)) (sym is)

  -- the chunk at this place has the name, or it is looked for behind it
  pub first_here : (name : List ℕ) → bytes_eq chunk.name name ≡ true → first_named name (chunks_behind bytes place) ≡ Some chunk
  first_here name e = ap (first_named name) behind_here ∙ ap (λ t. cond t (Some chunk) (first_named name (chunks_behind bytes (place_behind chunk)))) e

  pub first_later : (name : List ℕ) → bytes_eq chunk.name name ≡ false → first_named name (chunks_behind bytes place) ≡ first_named name (chunks_behind bytes (place_behind chunk))
  first_later name e = ap (first_named name) behind_here ∙ ap (λ t. cond t (Some chunk) (first_named name (chunks_behind bytes (place_behind chunk)))) e

  -- the chunk at this place ends the search for a format, or is the format, or is neither
  pub format_ends : bytes_eq chunk.name (codes "data") ≡ true → format_chunk (chunks_behind bytes place) ≡ None
  format_ends e = ap format_chunk behind_here
      ∙ ap (λ t. first_named (codes "fmt ") (cond t [] (chunk ∷ before_named (codes "data") (chunks_behind bytes (place_behind chunk))))) e

  no_data : bytes_eq chunk.name (codes "data") ≡ false
      → format_chunk (chunks_behind bytes place) ≡ cond (bytes_eq chunk.name (codes "fmt ")) (Some chunk) (format_chunk (chunks_behind bytes (place_behind chunk)))
  no_data e = ap format_chunk behind_here
      ∙ ap (λ t. first_named (codes "fmt ") (cond t [] (chunk ∷ before_named (codes "data") (chunks_behind bytes (place_behind chunk))))) e

  pub format_here : bytes_eq chunk.name (codes "data") ≡ false → bytes_eq chunk.name (codes "fmt ") ≡ true → format_chunk (chunks_behind bytes place) ≡ Some chunk
  format_here d e = no_data d ∙ ap (λ t. cond t (Some chunk) (format_chunk (chunks_behind bytes (place_behind chunk)))) e

  pub format_later : bytes_eq chunk.name (codes "data") ≡ false → bytes_eq chunk.name (codes "fmt ") ≡ false
      → format_chunk (chunks_behind bytes place) ≡ format_chunk (chunks_behind bytes (place_behind chunk))
  format_later d e = no_data d ∙ ap (λ t. cond t (Some chunk) (format_chunk (chunks_behind bytes (place_behind chunk)))) e

-- the walk's end
pub first_never : (bytes : List ℕ) (place : ℕ) (name : List ℕ) → length bytes < place + 8 → first_named name (chunks_behind bytes place) ≡ None
first_never bytes place name short = ap (first_named name) (no_chunk (length bytes) bytes place short)

pub format_never : (bytes : List ℕ) (place : ℕ) → length bytes < place + 8 → format_chunk (chunks_behind bytes place) ≡ None
format_never bytes place short = ap format_chunk (no_chunk (length bytes) bytes place short)
