-- Blocks of bytes, one behind another.
use Rattle.std.proofs.Common.{◌≡◌, ◌<◌, ◌≤◌, ◌+◌, ◌∙◌, ◌++◌, ℕ, zero, suc, ℤ, List, [], ◌∷◌, length, take, get_or, set, arith, ap, sym, refl}
use Rattle.std.specs.List.{concat, flat_map}
use Rattle.std.specs.Simd.Lanes.{zip2, put_chunk}
use Rattle.std.proofs.lemmas.List.{append-nil, take_more}
use Rattle.std.proofs.lemmas.List.Concat.{flat_map-append}
use Rattle.std.proofs.lemmas.List.Folds.{concat-append}
use Rattle.liq_base.specs.declared.memory.Kind.{Kind}
use Rattle.liq_base.specs.declared.memory.Kind.TheVariants.{Mono}
use Rattle.frame_core.specs.Bytes.{sample_bytes}
use Rattle.sample_bytes.specs.Encoded.{block_of, encoded}
use Rattle.sample_kernels.proofs.Places.{zip2_more}

pub put-none : {A : Type 0} (xs : List A) → put_chunk 0 xs [] ≡ xs
put-none [] = refl
put-none (x ∷ xs) = refl

put-two : {A : Type 0} (xs : List A) (i : ℕ) (a b : A) → i + 2 ≤ length xs → set (set xs i a) (suc i) b ≡ put_chunk i xs (a ∷ b ∷ [])
put-two [] i a b room = absurd (omega (arith, room))
put-two (x ∷ []) zero a b room = absurd (omega (arith, room))
put-two (x ∷ y ∷ xs) zero a b room = ap (λ l. a ∷ b ∷ l) (sym (put-none xs))
put-two (x ∷ xs) (suc i) a b room = ap (λ l. x ∷ l) (put-two xs i a b (omega (arith, room)))

-- two bytes are written
pub two_written : {A : Type 0} (xs : List A) (i j : ℕ) (a b : A) → j ≡ i + 1 → i + 2 ≤ length xs → set (set xs i a) j b ≡ put_chunk i xs (a ∷ b ∷ [])
two_written xs i j a b next room =
    let n : j ≡ suc i = omega (arith, next) in
    ap (λ k. set (set xs i a) k b) n ∙ put-two xs i a b room

-- what is written behind what was written
pub put-behind : {A : Type 0} (i j : ℕ) (xs ys zs : List A) → j ≡ i + length ys → put_chunk j (put_chunk i xs ys) zs ≡ put_chunk i xs (ys ++ zs)
put-behind i j [] ys zs next = refl
put-behind zero zero (x ∷ xs) [] zs next = refl
put-behind zero (suc j) (x ∷ xs) [] zs next = absurd (omega (arith, next))
put-behind zero zero (x ∷ xs) (y ∷ ys) zs next = absurd (omega (arith, next))
put-behind zero (suc j) (x ∷ xs) (y ∷ ys) zs next = ap (λ l. y ∷ l) (put-behind zero j xs ys zs (omega (arith, next)))
put-behind (suc i) zero (x ∷ xs) ys zs next = absurd (omega (arith, next))
put-behind (suc i) (suc j) (x ∷ xs) ys zs next = ap (λ l. x ∷ l) (put-behind i j xs ys zs (omega (arith, next)))

-- one block more
pub encoded_more : (kind : Kind) (left right : List ℤ) (i : ℕ) (d e : ℤ) → i < length left → length right ≡ length left →
    encoded kind (take (i + 1) left) (take (i + 1) right) ≡ encoded kind (take i left) (take i right) ++ block_of kind (get_or left i d) (get_or right i e)
encoded_more kind left right i d e within same =
    ap concat (zip2_more (block_of kind) left right i d e within same)
    ∙ concat-append (zip2 (block_of kind) (take i left) (take i right)) (block_of kind (get_or left i d) (get_or right i e) ∷ [])
    ∙ ap (λ l. encoded kind (take i left) (take i right) ++ l) (append-nil (block_of kind (get_or left i d) (get_or right i e)))

-- one sample more
pub samples_more : (samples : List ℤ) (i : ℕ) (d : ℤ) → i < length samples →
    flat_map sample_bytes (take (i + 1) samples) ≡ flat_map sample_bytes (take i samples) ++ sample_bytes (get_or samples i d)
samples_more samples i d within =
    ap (flat_map sample_bytes) (take_more samples i d within)
    ∙ flat_map-append sample_bytes (take i samples) (get_or samples i d ∷ [])
    ∙ ap (λ l. flat_map sample_bytes (take i samples) ++ l) (append-nil (sample_bytes (get_or samples i d)))

pub encoded_mono : (left right : List ℤ) → length right ≡ length left → flat_map sample_bytes left ≡ encoded Mono left right
encoded_mono [] right same = refl
encoded_mono (l ∷ left) [] same = absurd (omega (arith, same))
encoded_mono (l ∷ left) (r ∷ right) same = ap (λ bytes. sample_bytes l ++ bytes) (encoded_mono left right (omega (arith, same)))
