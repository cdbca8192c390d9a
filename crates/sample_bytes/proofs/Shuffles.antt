-- Samples of three bytes, eight at a time.
use Rattle.std.proofs.Common.{◌≡◌, ◌+◌, ◌*◌, ◌∙◌, ◌++◌, ℕ, zero, suc, ℤ, List, [], ◌∷◌, length, map, take, drop, arith, ap, sym, refl, w8, w16, to_z, Fits, append_assoc}
use Rattle.std.specs.List.{concat, flat_map}
use Rattle.std.specs.Prelude.{replicate}
use Rattle.std.specs.Simd.Lanes.{zip2, chunk, Each1}
use lib.Lanes.{pick_l, number_l, digits_l}
use Rattle.std.proofs.Math.Seq.{take-add}
use Rattle.std.proofs.lemmas.List.{length-take, take-append-drop}
use Rattle.std.proofs.lemmas.List.Concat.{flat_map-append}
use Rattle.std.proofs.lemmas.List.Folds.{concat-append}
use Rattle.liq_base.specs.declared.memory.Kind.TheVariants.{Stereo}
use Rattle.frame_core.specs.Bytes.{samples_from, sample_bytes}
use Rattle.sample_bytes.specs.Wide.{wide_bytes, wide_block_of, encoded_wide, wide_samples_in}
use Rattle.sample_kernels.proofs.Lanes.{zip2-append}
use Rattle.sample_bytes.proofs.Woven.{by_items, woven, woven-append, length-woven, decoded_lanes}

-- ---- the three bytes of eight samples
abbrev pub front_bytes : List ℕ → List ℕ
front_bytes bs = pick_l 0 (bs ++ replicate 16 0) (16 ∷ 0 ∷ 1 ∷ 16 ∷ 2 ∷ 3 ∷ 16 ∷ 4 ∷ 5 ∷ 16 ∷ 6 ∷ 7 ∷ 16 ∷ 8 ∷ 9 ∷ 16 ∷ [])

abbrev pub back_bytes : List ℕ → List ℕ
back_bytes bs = pick_l 0 (bs ++ replicate 16 0) (10 ∷ 11 ∷ 16 ∷ 12 ∷ 13 ∷ 16 ∷ 14 ∷ 15 ∷ [])

pub laid_wide : (xs : List ℤ) → length xs ≡ 8 → front_bytes (flat_map sample_bytes xs) ++ back_bytes (flat_map sample_bytes xs) ≡ flat_map wide_bytes xs
laid_wide = by_items 8 (λ xs. front_bytes (flat_map sample_bytes xs) ++ back_bytes (flat_map sample_bytes xs) ≡ flat_map wide_bytes xs) (λ x0 x1 x2 x3 x4 x5 x6 x7. refl)

-- ---- the samples of three bytes each
abbrev pub picked_bytes : List ℕ → List ℕ → List ℕ
picked_bytes front back = pick_l 0 (front ++ back) (1 ∷ 2 ∷ 4 ∷ 5 ∷ 7 ∷ 8 ∷ 10 ∷ 11 ∷ 13 ∷ 14 ∷ 24 ∷ 25 ∷ 27 ∷ 28 ∷ 30 ∷ 31 ∷ [])

pub picked_samples : (bs : List ℕ) → length bs ≡ 24 → samples_from (picked_bytes (take 16 bs) (drop 8 bs)) ≡ wide_samples_in bs
picked_samples = by_items 24 (λ bs. samples_from (picked_bytes (take 16 bs) (drop 8 bs)) ≡ wide_samples_in bs)
    (λ b0 b1 b2 b3 b4 b5 b6 b7 b8 b9 b10 b11 b12 b13 b14 b15 b16 b17 b18 b19 b20 b21 b22 b23. refl)

picked_fit : (bs : List ℕ) → length bs ≡ 24 → Each1 (Fits w8) bs → Each1 (Fits w8) (picked_bytes (take 16 bs) (drop 8 bs))
picked_fit = by_items 24 (λ bs. Each1 (Fits w8) bs → Each1 (Fits w8) (picked_bytes (take 16 bs) (drop 8 bs)))
    (λ b0 b1 b2 b3 b4 b5 b6 b7 b8 b9 b10 b11 b12 b13 b14 b15 b16 b17 b18 b19 b20 b21 b22 b23 (f0, (f1, (f2, (f3, (f4, (f5, (f6, (f7, (f8, (f9, (f10, (f11, (f12, (f13, (f14, (f15, (f16, (f17, (f18, (f19, (f20, (f21, (f22, (f23, none)))))))))))))))))))))))).
    (f1, (f2, (f4, (f5, (f7, (f8, (f10, (f11, (f13, (f14, (f16, (f17, (f19, (f20, (f22, (f23, tt)))))))))))))))))

pub decoded_wide : (bs : List ℕ) → length bs ≡ 24 → Each1 (Fits w8) bs →
    map (to_z w16) (digits_l 65536 8 (number_l 256 (picked_bytes (take 16 bs) (drop 8 bs)))) ≡ wide_samples_in bs
decoded_wide bs long fit = decoded_lanes 8 (picked_bytes (take 16 bs) (drop 8 bs)) refl (picked_fit bs long fit) ∙ picked_samples bs long

-- ---- left and right samples by turns
woven_wide : (xs ys : List ℤ) → flat_map wide_bytes (woven xs ys) ≡ encoded_wide Stereo xs ys
woven_wide [] ys = refl
woven_wide (x ∷ xs) [] = refl
woven_wide (x ∷ xs) (y ∷ ys) = ap (λ l. wide_bytes x ++ (wide_bytes y ++ l)) (woven_wide xs ys) ∙ sym (append_assoc (wide_bytes x) (wide_bytes y) (encoded_wide Stereo xs ys))

pub length-wide : (xs : List ℤ) → length (flat_map wide_bytes xs) ≡ 3 * length xs
length-wide [] = refl
length-wide (x ∷ xs) = let long = length-wide xs in omega (arith, long)

-- half of eight instants takes 24 bytes
pub half_wide_long : (xs ys : List ℤ) → length xs ≡ 4 → length ys ≡ 4 → length (flat_map wide_bytes (woven xs ys)) ≡ 24
half_wide_long xs ys long_x long_y =
    let woven_long = length-woven xs ys (long_x ∙ sym long_y) in
    let long = length-wide (woven xs ys) in
    omega (arith, woven_long, long, long_x)

pub both_wide_halves : (ls rs : List ℤ) → length rs ≡ length ls →
    flat_map wide_bytes (woven (take 4 ls) (take 4 rs)) ++ flat_map wide_bytes (woven (drop 4 ls) (drop 4 rs)) ≡ encoded_wide Stereo ls rs
both_wide_halves ls rs same =
    let front_l = length-take 4 ls in
    let front_r = length-take 4 rs in
    sym (flat_map-append wide_bytes (woven (take 4 ls) (take 4 rs)) (woven (drop 4 ls) (drop 4 rs)))
    ∙ ap (flat_map wide_bytes) (woven-append (take 4 ls) (drop 4 ls) (take 4 rs) (drop 4 rs) (omega (arith, front_l, front_r, same)))
    ∙ ap (λ l. flat_map wide_bytes (woven l (take 4 rs ++ drop 4 rs))) (take-append-drop 4 ls)
    ∙ ap (λ l. flat_map wide_bytes (woven ls l)) (take-append-drop 4 rs)
    ∙ woven_wide ls rs

-- so many blocks more
pub more_wide : (left right : List ℤ) (at n : ℕ) → length right ≡ length left →
    encoded_wide Stereo (take (at + n) left) (take (at + n) right) ≡ encoded_wide Stereo (take at left) (take at right) ++ encoded_wide Stereo (chunk at n left) (chunk at n right)
more_wide left right at n same =
    let front_l = length-take at left in
    let front_r = length-take at right in
    ap (λ l. encoded_wide Stereo l (take (at + n) right)) (take-add at n left)
    ∙ ap (λ l. encoded_wide Stereo (take at left ++ chunk at n left) l) (take-add at n right)
    ∙ ap concat (zip2-append (wide_block_of Stereo) (take at left) (chunk at n left) (take at right) (chunk at n right) (omega (arith, front_l, front_r, same)))
    ∙ concat-append (zip2 (wide_block_of Stereo) (take at left) (take at right)) (zip2 (wide_block_of Stereo) (chunk at n left) (chunk at n right))

pub length-encoded_wide : (xs ys : List ℤ) → length ys ≡ length xs → length (encoded_wide Stereo xs ys) ≡ 6 * length xs
length-encoded_wide xs ys same =
    let woven_long = length-woven xs ys (sym same) in
    let long = length-wide (woven xs ys) in
    let is = ap length (woven_wide xs ys) in
    omega (arith, woven_long, long, is)

-- the samples of so many bytes more
pub length-wide_samples : (n : ℕ) (xs : List ℕ) → length xs ≡ 3 * n → length (wide_samples_in xs) ≡ n
length-wide_samples zero [] even = refl
length-wide_samples (suc n) [] even = absurd (omega (arith, even))
length-wide_samples n (x ∷ []) even = absurd (omega (arith, even))
length-wide_samples n (x ∷ y ∷ []) even = absurd (omega (arith, even))
length-wide_samples zero (x ∷ y ∷ z ∷ xs) even = absurd (omega (arith, even))
length-wide_samples (suc n) (x ∷ y ∷ z ∷ xs) even = ap suc (length-wide_samples n xs (omega (arith, even)))
