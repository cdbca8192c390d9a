-- Samples as bytes, eight at a time.
use Rattle.std.proofs.Common.{◌≡◌, ◌<◌, ◌+◌, ◌*◌, ◌/◌, ◌%◌, ◌∙◌, ◌++◌, ℕ, zero, suc, ℤ, List, [], ◌∷◌, length, map, take, drop, arith, ap, sym, refl, w8, w16, to_z, of_z, Fits, FitsSigned, append_assoc}
use Rattle.std.specs.List.{flat_map}
use Rattle.std.specs.Simd.Lanes.{zip2, chunk, Each1}
use lib.Lanes.{pick_l, number_l, digits_l}
use Rattle.std.proofs.Math.Seq.{take-add}
use Rattle.std.proofs.lemmas.List.{length-take, take-append-drop}
use Rattle.std.proofs.lemmas.List.Concat.{flat_map-append}
use Rattle.std.proofs.lemmas.List.Folds.{concat-append}
use Rattle.std.specs.List.{concat}
use Rattle.std.proofs.lemmas.Simd.{Each1-chunk}
use Rattle.std.proofs.lemmas.Int.{ints}
use Rattle.liq_base.specs.declared.memory.Kind.TheVariants.{Stereo}
use Rattle.frame_core.specs.Bytes.{sample_in, samples_from, sample_bytes}
use Rattle.sample_bytes.specs.Encoded.{block_of, encoded}
use Rattle.sample_kernels.proofs.Lanes.{back, zip2-append}

abbrev pub twice : ℕ → ℕ
twice zero = zero
twice (suc n) = suc (suc (twice n))

-- ---- the bytes of samples
bits_below : (x : ℤ) → FitsSigned w16 x → of_z w16 x < 65536
bits_below x f = omega (arith, ints, f)

pub encoded_lanes : (n : ℕ) (xs : List ℤ) → length xs ≡ n → Each1 (FitsSigned w16) xs → digits_l 256 (twice n) (number_l 65536 (map (of_z w16) xs)) ≡ flat_map sample_bytes xs
encoded_lanes zero [] long fit = refl
encoded_lanes zero (x ∷ xs) long fit = absurd (omega (arith, long))
encoded_lanes (suc n) [] long fit = absurd (omega (arith, long))
encoded_lanes (suc n) (x ∷ xs) long fit =
    let b = of_z w16 x in
    let m = number_l 65536 (map (of_z w16) xs) in
    let small = bits_below x fit.0 in
    let low : (b + 65536 * m) % 256 ≡ b % 256 = omega (arith, small) in
    let high : (b + 65536 * m) / 256 % 256 ≡ b / 256 % 256 = omega (arith, small) in
    let rest : (b + 65536 * m) / 256 / 256 ≡ m = omega (arith, small) in
    ap (λ k. k ∷ (b + 65536 * m) / 256 % 256 ∷ digits_l 256 (twice n) ((b + 65536 * m) / 256 / 256)) low
    ∙ ap (λ k. b % 256 ∷ k ∷ digits_l 256 (twice n) ((b + 65536 * m) / 256 / 256)) high
    ∙ ap (λ k. b % 256 ∷ b / 256 % 256 ∷ digits_l 256 (twice n) k) rest
    ∙ ap (λ l. b % 256 ∷ b / 256 % 256 ∷ l) (encoded_lanes n xs (omega (arith, long)) fit.1)

-- ---- the samples of bytes
pub decoded_lanes : (n : ℕ) (bs : List ℕ) → length bs ≡ twice n → Each1 (Fits w8) bs → map (to_z w16) (digits_l 65536 n (number_l 256 bs)) ≡ samples_from bs
decoded_lanes zero [] long fit = refl
decoded_lanes zero (b ∷ bs) long fit = absurd (omega (arith, long))
decoded_lanes (suc n) [] long fit = absurd (omega (arith, long))
decoded_lanes (suc n) (l ∷ []) long fit = absurd (omega (arith, long))
decoded_lanes (suc n) (l ∷ h ∷ bs) long fit =
    let m = number_l 256 bs in
    let small_low = fit.0 in
    let small_high = fit.1.0 in
    let first : (l + 256 * (h + 256 * m)) % 65536 ≡ l + 256 * h = omega (arith, small_low, small_high) in
    let rest : (l + 256 * (h + 256 * m)) / 65536 ≡ m = omega (arith, small_low, small_high) in
    ap (λ k. to_z w16 k ∷ map (to_z w16) (digits_l 65536 n ((l + 256 * (h + 256 * m)) / 65536))) first
    ∙ ap (λ k. sample_in l h ∷ map (to_z w16) (digits_l 65536 n k)) rest
    ∙ ap (λ s. sample_in l h ∷ s) (decoded_lanes n bs (omega (arith, long)) fit.1.1)

pub samples-append : (n : ℕ) (xs ys : List ℕ) → length xs ≡ 2 * n → samples_from (xs ++ ys) ≡ samples_from xs ++ samples_from ys
samples-append n [] ys even = refl
samples-append n (x ∷ []) ys even = absurd (omega (arith, even))
samples-append zero (x ∷ y ∷ xs) ys even = absurd (omega (arith, even))
samples-append (suc n) (x ∷ y ∷ xs) ys even = ap (λ l. sample_in x y ∷ l) (samples-append n xs ys (omega (arith, even)))

pub length-samples : (n : ℕ) (xs : List ℕ) → length xs ≡ 2 * n → length (samples_from xs) ≡ n
length-samples zero [] even = refl
length-samples (suc n) [] even = absurd (omega (arith, even))
length-samples n (x ∷ []) even = absurd (omega (arith, even))
length-samples zero (x ∷ y ∷ xs) even = absurd (omega (arith, even))
length-samples (suc n) (x ∷ y ∷ xs) even = ap suc (length-samples n xs (omega (arith, even)))

-- ---- left and right samples by turns
abbrev pub woven : List ℤ → List ℤ → List ℤ
woven [] ys = []
woven (x ∷ xs) [] = []
woven (x ∷ xs) (y ∷ ys) = x ∷ y ∷ woven xs ys

pub woven_bytes : (xs ys : List ℤ) → flat_map sample_bytes (woven xs ys) ≡ encoded Stereo xs ys
woven_bytes [] ys = refl
woven_bytes (x ∷ xs) [] = refl
woven_bytes (x ∷ xs) (y ∷ ys) = ap (λ l. sample_bytes x ++ (sample_bytes y ++ l)) (woven_bytes xs ys) ∙ sym (append_assoc (sample_bytes x) (sample_bytes y) (encoded Stereo xs ys))

-- ---- a fact of each list of so many items
abbrev pub Every : {A : Type 0} → ℕ → (List A → Type 0) → Type 0
Every zero P = P []
Every {A} (suc n) P = (x : A) → Every n (λ xs. P (x ∷ xs))

pub by_items : {A : Type 0} (n : ℕ) (P : List A → Type 0) → Every n P → (xs : List A) → length xs ≡ n → P xs
by_items zero P every [] long = every
by_items zero P every (x ∷ xs) long = absurd (omega (arith, long))
by_items (suc n) P every [] long = absurd (omega (arith, long))
by_items (suc n) P every (x ∷ xs) long = by_items n (λ ys. P (x ∷ ys)) (every x) xs (omega (arith, long))

-- what the two halves of two interleaved vectors hold
abbrev pub front_half : List ℤ → List ℤ → List ℤ
front_half ls rs = map (to_z w16) (pick_l 0 (map (of_z w16) ls ++ map (of_z w16) rs) (0 ∷ 8 ∷ 1 ∷ 9 ∷ 2 ∷ 10 ∷ 3 ∷ 11 ∷ []))

abbrev pub back_half : List ℤ → List ℤ → List ℤ
back_half ls rs = map (to_z w16) (pick_l 0 (map (of_z w16) ls ++ map (of_z w16) rs) (4 ∷ 12 ∷ 5 ∷ 13 ∷ 6 ∷ 14 ∷ 7 ∷ 15 ∷ []))

pub halves_woven : (ls rs : List ℤ) → length ls ≡ 8 → length rs ≡ 8 → Each1 (FitsSigned w16) ls → Each1 (FitsSigned w16) rs →
    (front_half ls rs ≡ woven (take 4 ls) (take 4 rs)) × (back_half ls rs ≡ woven (drop 4 ls) (drop 4 rs))
halves_woven ls rs long_l long_r =
    by_items 8 (λ xs. Each1 (FitsSigned w16) xs → Each1 (FitsSigned w16) rs → (front_half xs rs ≡ woven (take 4 xs) (take 4 rs)) × (back_half xs rs ≡ woven (drop 4 xs) (drop 4 rs)))
    (λ a0 a1 a2 a3 a4 a5 a6 a7. by_items 8 (λ ys. Each1 (FitsSigned w16) (a0 ∷ a1 ∷ a2 ∷ a3 ∷ a4 ∷ a5 ∷ a6 ∷ a7 ∷ []) → Each1 (FitsSigned w16) ys →
    (front_half (a0 ∷ a1 ∷ a2 ∷ a3 ∷ a4 ∷ a5 ∷ a6 ∷ a7 ∷ []) ys ≡ woven (take 4 (a0 ∷ a1 ∷ a2 ∷ a3 ∷ a4 ∷ a5 ∷ a6 ∷ a7 ∷ [])) (take 4 ys)) × (back_half (a0 ∷ a1 ∷ a2 ∷ a3 ∷ a4 ∷ a5 ∷ a6 ∷ a7 ∷ []) ys ≡ woven (drop 4 (a0 ∷ a1 ∷ a2 ∷ a3 ∷ a4 ∷ a5 ∷ a6 ∷ a7 ∷ [])) (drop 4 ys)))
    (λ b0 b1 b2 b3 b4 b5 b6 b7 f g. (back w16 (a0 ∷ b0 ∷ a1 ∷ b1 ∷ a2 ∷ b2 ∷ a3 ∷ b3 ∷ []) (f.0, (g.0, (f.1.0, (g.1.0, (f.1.1.0, (g.1.1.0, (f.1.1.1.0, (g.1.1.1.0, tt)))))))), back w16 (a4 ∷ b4 ∷ a5 ∷ b5 ∷ a6 ∷ b6 ∷ a7 ∷ b7 ∷ []) (f.1.1.1.1.0, (g.1.1.1.1.0, (f.1.1.1.1.1.0, (g.1.1.1.1.1.0, (f.1.1.1.1.1.1.0, (g.1.1.1.1.1.1.0, (f.1.1.1.1.1.1.1.0, (g.1.1.1.1.1.1.1.0, tt)))))))))) rs long_r)
    ls long_l

pub front_fit : (ls rs : List ℤ) → Each1 (FitsSigned w16) ls → Each1 (FitsSigned w16) rs → Each1 (FitsSigned w16) (woven ls rs)
front_fit [] rs f g = tt
front_fit (l ∷ ls) [] f g = tt
front_fit (l ∷ ls) (r ∷ rs) f g = (f.0, (g.0, front_fit ls rs f.1 g.1))

fit-drop : (i : ℕ) (xs : List ℤ) → Each1 (FitsSigned w16) xs → Each1 (FitsSigned w16) (drop i xs)
fit-drop zero xs fit = fit
fit-drop (suc i) [] fit = tt
fit-drop (suc i) (x ∷ xs) fit = fit-drop i xs fit.1

pub woven_halves_fit : (ls rs : List ℤ) → Each1 (FitsSigned w16) ls → Each1 (FitsSigned w16) rs →
    Each1 (FitsSigned w16) (woven (take 4 ls) (take 4 rs)) × Each1 (FitsSigned w16) (woven (drop 4 ls) (drop 4 rs))
woven_halves_fit ls rs f g = (
  front_fit (take 4 ls) (take 4 rs) (Each1-chunk (FitsSigned w16) 0 4 ls f) (Each1-chunk (FitsSigned w16) 0 4 rs g),
  front_fit (drop 4 ls) (drop 4 rs) (fit-drop 4 ls f) (fit-drop 4 rs g),
)

-- what a vector holds that is passed on
abbrev pub again : List ℤ → List ℤ
again xs = map (to_z w16) (map (of_z w16) xs)

pub woven-append : (ls ms rs ns : List ℤ) → length ls ≡ length rs → woven ls rs ++ woven ms ns ≡ woven (ls ++ ms) (rs ++ ns)
woven-append [] ms [] ns same = refl
woven-append [] ms (r ∷ rs) ns same = absurd (omega (arith, same))
woven-append (l ∷ ls) ms [] ns same = absurd (omega (arith, same))
woven-append (l ∷ ls) ms (r ∷ rs) ns same = ap (λ w. l ∷ r ∷ w) (woven-append ls ms rs ns (omega (arith, same)))

pub length-encoded : (xs : List ℤ) → length (flat_map sample_bytes xs) ≡ 2 * length xs
length-encoded [] = refl
length-encoded (x ∷ xs) = let long = length-encoded xs in omega (arith, long)

pub length-woven : (xs ys : List ℤ) → length xs ≡ length ys → length (woven xs ys) ≡ 2 * length xs
length-woven [] ys same = refl
length-woven (x ∷ xs) [] same = absurd (omega (arith, same))
length-woven (x ∷ xs) (y ∷ ys) same = let long = length-woven xs ys (omega (arith, same)) in omega (arith, long)

pub length-encoded_stereo : (xs ys : List ℤ) → length ys ≡ length xs → length (encoded Stereo xs ys) ≡ 4 * length xs
length-encoded_stereo xs ys same =
    let woven_long = length-woven xs ys (sym same) in
    let long = length-encoded (woven xs ys) in
    let is = ap length (woven_bytes xs ys) in
    omega (arith, woven_long, long, is)

-- half of eight instants takes 16 bytes
pub half_long : (xs ys : List ℤ) → length xs ≡ 4 → length ys ≡ 4 → length (flat_map sample_bytes (woven xs ys)) ≡ 16
half_long xs ys long_x long_y =
    let woven_long = length-woven xs ys (long_x ∙ sym long_y) in
    let long = length-encoded (woven xs ys) in
    omega (arith, woven_long, long, long_x)

pub both_halves : (ls rs : List ℤ) → length rs ≡ length ls →
    flat_map sample_bytes (woven (take 4 ls) (take 4 rs)) ++ flat_map sample_bytes (woven (drop 4 ls) (drop 4 rs)) ≡ encoded Stereo ls rs
both_halves ls rs same =
    let front_l = length-take 4 ls in
    let front_r = length-take 4 rs in
    sym (flat_map-append sample_bytes (woven (take 4 ls) (take 4 rs)) (woven (drop 4 ls) (drop 4 rs)))
    ∙ ap (flat_map sample_bytes) (woven-append (take 4 ls) (drop 4 ls) (take 4 rs) (drop 4 rs) (omega (arith, front_l, front_r, same)))
    ∙ ap (λ l. flat_map sample_bytes (woven l (take 4 rs ++ drop 4 rs))) (take-append-drop 4 ls)
    ∙ ap (λ l. flat_map sample_bytes (woven ls l)) (take-append-drop 4 rs)
    ∙ woven_bytes ls rs

-- so many blocks more
pub more_encoded : (left right : List ℤ) (at n : ℕ) → length right ≡ length left →
    encoded Stereo (take (at + n) left) (take (at + n) right) ≡ encoded Stereo (take at left) (take at right) ++ encoded Stereo (chunk at n left) (chunk at n right)
more_encoded left right at n same =
    let front_l = length-take at left in
    let front_r = length-take at right in
    ap (λ l. encoded Stereo l (take (at + n) right)) (take-add at n left)
    ∙ ap (λ l. encoded Stereo (take at left ++ chunk at n left) l) (take-add at n right)
    ∙ ap concat (zip2-append (block_of Stereo) (take at left) (chunk at n left) (take at right) (chunk at n right) (omega (arith, front_l, front_r, same)))
    ∙ concat-append (zip2 (block_of Stereo) (take at left) (take at right)) (zip2 (block_of Stereo) (chunk at n left) (chunk at n right))
