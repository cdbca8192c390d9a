-- Samples of three bytes.
use Rattle.std.proofs.Common.{◌≡◌, ◌<◌, ◌≤◌, ◌+◌, ◌*◌, ◌∙◌, ◌++◌, ℕ, zero, suc, ℤ, List, [], ◌∷◌, length, take, get_or, set, arith, ap, sym, refl, append_assoc}
use Rattle.std.specs.List.{concat, flat_map}
use Rattle.std.specs.Simd.Lanes.{zip2, put_chunk}
use Rattle.std.proofs.lemmas.List.{append-nil, take_more, length-take}
use Rattle.std.proofs.lemmas.List.Concat.{flat_map-append}
use Rattle.std.proofs.lemmas.List.Folds.{concat-append}
use Rattle.liq_base.specs.declared.memory.Kind.{Kind}
use Rattle.liq_base.specs.declared.memory.Kind.TheVariants.{Mono}
use Rattle.frame_core.specs.Bytes.{sample_in}
use Rattle.sample_bytes.specs.Wide.{wide_bytes, wide_block_of, encoded_wide, wide_samples_in}
use Rattle.sample_bytes.proofs.Blocks.{put-none}
use Rattle.sample_kernels.proofs.Places.{zip2_more}

put-three : {A : Type 0} (xs : List A) (i : ℕ) (a b e : A) → i + 3 ≤ length xs → set (set (set xs i a) (suc i) b) (suc (suc i)) e ≡ put_chunk i xs (a ∷ b ∷ e ∷ [])
put-three [] i a b e room = absurd (omega (arith, room))
put-three (x ∷ []) zero a b e room = absurd (omega (arith, room))
put-three (x ∷ y ∷ []) zero a b e room = absurd (omega (arith, room))
put-three (x ∷ y ∷ z ∷ xs) zero a b e room = ap (λ l. a ∷ b ∷ e ∷ l) (sym (put-none xs))
put-three (x ∷ xs) (suc i) a b e room = ap (λ l. x ∷ l) (put-three xs i a b e (omega (arith, room)))

-- three bytes are written
pub three_written : {A : Type 0} (xs : List A) (i j k : ℕ) (a b e : A) → j ≡ i + 1 → k ≡ i + 2 → i + 3 ≤ length xs →
    set (set (set xs i a) j b) k e ≡ put_chunk i xs (a ∷ b ∷ e ∷ [])
three_written xs i j k a b e next after room =
    let n : j ≡ suc i = omega (arith, next) in
    let m : k ≡ suc (suc i) = omega (arith, after) in
    ap (λ p. set (set (set xs i a) p b) k e) n ∙ ap (λ p. set (set (set xs i a) (suc i) b) p e) m ∙ put-three xs i a b e room

-- one block more
pub wide_more : (kind : Kind) (left right : List ℤ) (i : ℕ) (d e : ℤ) → i < length left → length right ≡ length left →
    encoded_wide kind (take (i + 1) left) (take (i + 1) right) ≡ encoded_wide kind (take i left) (take i right) ++ wide_block_of kind (get_or left i d) (get_or right i e)
wide_more kind left right i d e within same =
    ap concat (zip2_more (wide_block_of kind) left right i d e within same)
    ∙ concat-append (zip2 (wide_block_of kind) (take i left) (take i right)) (wide_block_of kind (get_or left i d) (get_or right i e) ∷ [])
    ∙ ap (λ l. encoded_wide kind (take i left) (take i right) ++ l) (append-nil (wide_block_of kind (get_or left i d) (get_or right i e)))

-- one sample more
pub wide_sample_more : (samples : List ℤ) (i : ℕ) (d : ℤ) → i < length samples →
    flat_map wide_bytes (take (i + 1) samples) ≡ flat_map wide_bytes (take i samples) ++ wide_bytes (get_or samples i d)
wide_sample_more samples i d within =
    ap (flat_map wide_bytes) (take_more samples i d within)
    ∙ flat_map-append wide_bytes (take i samples) (get_or samples i d ∷ [])
    ∙ ap (λ l. flat_map wide_bytes (take i samples) ++ l) (append-nil (wide_bytes (get_or samples i d)))

pub wide_mono : (left right : List ℤ) → length right ≡ length left → flat_map wide_bytes left ≡ encoded_wide Mono left right
wide_mono [] right same = refl
wide_mono (l ∷ left) [] same = absurd (omega (arith, same))
wide_mono (l ∷ left) (r ∷ right) same = ap (λ bytes. wide_bytes l ++ bytes) (wide_mono left right (omega (arith, same)))

pub wide-append : (n : ℕ) (xs ys : List ℕ) → length xs ≡ 3 * n → wide_samples_in (xs ++ ys) ≡ wide_samples_in xs ++ wide_samples_in ys
wide-append n [] ys even = refl
wide-append n (x ∷ []) ys even = absurd (omega (arith, even))
wide-append n (x ∷ y ∷ []) ys even = absurd (omega (arith, even))
wide-append zero (x ∷ y ∷ z ∷ xs) ys even = absurd (omega (arith, even))
wide-append (suc n) (x ∷ y ∷ z ∷ xs) ys even = ap (λ l. sample_in y z ∷ l) (wide-append n xs ys (omega (arith, even)))

-- three bytes more
pub wide_three_more : (bytes : List ℕ) (i : ℕ) → 3 * (i + 1) ≤ length bytes →
    wide_samples_in (take (3 * (i + 1)) bytes) ≡ wide_samples_in (take (3 * i) bytes) ++ sample_in (get_or bytes (3 * i + 1) 0) (get_or bytes (3 * i + 2) 0) ∷ []
wide_three_more bytes i room =
    let lowest = get_or bytes (3 * i) 0 in
    let low = get_or bytes (3 * i + 1) 0 in
    let high = get_or bytes (3 * i + 2) 0 in
    let front = length-take (3 * i) bytes in
    let n : 3 * (i + 1) ≡ 3 * i + 2 + 1 = omega arith in
    let m : 3 * i + 2 ≡ 3 * i + 1 + 1 = omega arith in
    ap (λ k. wide_samples_in (take k bytes)) n
    ∙ ap wide_samples_in (take_more bytes (3 * i + 2) 0 (omega (arith, room)))
    ∙ ap (λ k. wide_samples_in (take k bytes ++ high ∷ [])) m
    ∙ ap (λ l. wide_samples_in (l ++ high ∷ [])) (take_more bytes (3 * i + 1) 0 (omega (arith, room)))
    ∙ ap (λ l. wide_samples_in ((l ++ low ∷ []) ++ high ∷ [])) (take_more bytes (3 * i) 0 (omega (arith, room)))
    ∙ ap wide_samples_in (append_assoc (take (3 * i) bytes ++ lowest ∷ []) (low ∷ []) (high ∷ []) ∙ append_assoc (take (3 * i) bytes) (lowest ∷ []) (low ∷ high ∷ []))
    ∙ wide-append i (take (3 * i) bytes) (lowest ∷ low ∷ high ∷ []) (omega (arith, front, room))
