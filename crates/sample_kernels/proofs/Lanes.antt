-- Vectors of eight numbers, as the lists of what their lanes hold.
use Rattle.std.proofs.Common.{◌≡◌, ◌<◌, ◌≤◌, ◌+◌, ◌∙◌, ◌++◌, ℕ, zero, suc, ℤ, pos, negsuc, ◌+ℤ◌, List, [], ◌∷◌, length, map, get_or, take, drop, cond, arith, ap, sym, subst, refl, w16, w32, to_z, of_z, Fits, FitsSigned}
use Rattle.std.specs.Prelude.{int_div, ◌*◌}
use Rattle.std.specs.Simd.Lanes.{zip2, chunk, put_chunk, Each1, Each2}
use Rattle.std.proofs.Math.Seq.{take-add}
use Rattle.std.proofs.lemmas.Int.{ints, clamps, to_z-of_z, to_z_pos, quot_fits}
use Rattle.std.proofs.lemmas.List.{map-append, length-take}
use Rattle.std.proofs.lemmas.Simd.{Each1-from_get_or, get_or-chunk, length-chunk, take_more_put_chunk, length-zip2}
use borrow.Rule.Simd.Lanes.{act1, act2, Asks1, Asks2}
use borrow.Table.Row.{s_int}
use mir.Syntax.{wrap_add, cast, div, lt, mask, signed, unsigned}
use lib.Signed.{lt_z}
use lib.Lanes.{sel_l, top}
use Rattle.std.specs.Int.{int_max, int_min}
use borrow.Author.Differences.{up, down}
use Rattle.std.specs.Prelude.{Bool, true, false, All, replicate}
use Rattle.std.specs.Int.{Width}
use Rattle.std.proofs.lemmas.List.Elements.{All-get_or}
use Rattle.sample_kernels.specs.Samples.{IsSumOf, clamped, half_of, mean_of}
use Rattle.sample_kernels.proofs.Bounds.{quotient}
use Rattle.sample_kernels.proofs.Cuts.{clamped_fits}
use Rattle.sample_kernels.proofs.Means.{mean_fits, sum_fits}

-- ---- what a vector's operation does to the bits of one lane
abbrev pub widened : ℕ → ℕ
widened = act1 (cast signed signed w32) (s_int w16) (s_int w32)

abbrev pub narrowed : ℕ → ℕ
narrowed = act1 (cast signed signed w16) (s_int w32) (s_int w16)

abbrev pub added : ℕ → ℕ → ℕ
added = act2 wrap_add (s_int w32) (s_int w32) (s_int w32)

abbrev pub divided : ℕ → ℕ → ℕ
divided = act2 (div signed) (s_int w32) (s_int w32) (s_int w32)

-- ---- eight places of a list
chunk_step : {A : Type 0} (xs : List A) (i j n : ℕ) (d : A) → j ≡ i + 1 → i < length xs → take (suc n) (drop i xs) ≡ get_or xs i d ∷ take n (drop j xs)
chunk_step [] i j n d next within = absurd (omega (arith, within))
chunk_step (x ∷ xs) zero zero n d next within = absurd (omega (arith, next))
chunk_step (x ∷ xs) zero (suc j) n d next within = let none : 0 ≡ j = omega (arith, next) in ap (λ k. x ∷ take n (drop k xs)) none
chunk_step (x ∷ xs) (suc i) zero n d next within = absurd (omega (arith, next))
chunk_step (x ∷ xs) (suc i) (suc j) n d next within = chunk_step xs i j n d (omega (arith, next)) (omega (arith, within))

pub eight_of : {A : Type 0} (xs : List A) (i : ℕ) (d : A) → i + 8 ≤ length xs →
    chunk i 8 xs ≡ get_or xs i d ∷ get_or xs (i + 1) d ∷ get_or xs (i + 2) d ∷ get_or xs (i + 3) d ∷ get_or xs (i + 4) d ∷ get_or xs (i + 5) d ∷ get_or xs (i + 6) d ∷ get_or xs (i + 7) d ∷ []
eight_of xs i d room =
    chunk_step xs i (i + 1) 7 d (omega arith) (omega (arith, room))
    ∙ ap (λ l. get_or xs i d ∷ l) (chunk_step xs (i + 1) (i + 2) 6 d (omega arith) (omega (arith, room))
    ∙ ap (λ l. get_or xs (i + 1) d ∷ l) (chunk_step xs (i + 2) (i + 3) 5 d (omega arith) (omega (arith, room))
    ∙ ap (λ l. get_or xs (i + 2) d ∷ l) (chunk_step xs (i + 3) (i + 4) 4 d (omega arith) (omega (arith, room))
    ∙ ap (λ l. get_or xs (i + 3) d ∷ l) (chunk_step xs (i + 4) (i + 5) 3 d (omega arith) (omega (arith, room))
    ∙ ap (λ l. get_or xs (i + 4) d ∷ l) (chunk_step xs (i + 5) (i + 6) 2 d (omega arith) (omega (arith, room))
    ∙ ap (λ l. get_or xs (i + 5) d ∷ l) (chunk_step xs (i + 6) (i + 7) 1 d (omega arith) (omega (arith, room))
    ∙ ap (λ l. get_or xs (i + 6) d ∷ l) (chunk_step xs (i + 7) (i + 8) 0 d (omega arith) (omega (arith, room)))))))))

-- ---- wider and narrower lanes
pub wide_asked : (xs : List ℤ) → Each1 (FitsSigned w16) xs → Each1 (Asks1 (cast signed signed w32) (s_int w16)) (map (of_z w16) xs)
wide_asked [] fit = tt
wide_asked (x ∷ xs) fit =
    let f = fit.0 in
    let is : FitsSigned w32 (to_z w16 (of_z w16 x)) = rw (to_z-of_z w16 x f) (omega (arith, ints, f)) in
    (is, wide_asked xs fit.1)

pub widened_is : (xs : List ℤ) → Each1 (FitsSigned w16) xs → map widened (map (of_z w16) xs) ≡ map (of_z w32) xs
widened_is [] fit = refl
widened_is (x ∷ xs) fit =
    ap (λ y. of_z w32 y ∷ map widened (map (of_z w16) xs)) (to_z-of_z w16 x fit.0) ∙ ap (λ l. of_z w32 x ∷ l) (widened_is xs fit.1)

pub wider : (xs : List ℤ) → Each1 (FitsSigned w16) xs → Each1 (FitsSigned w32) xs
wider [] fit = tt
wider (x ∷ xs) fit = let f = fit.0 in (omega (arith, ints, f), wider xs fit.1)

pub narrow_asked : (xs : List ℤ) → Each1 (FitsSigned w16) xs → Each1 (Asks1 (cast signed signed w16) (s_int w32)) (map (of_z w32) xs)
narrow_asked [] fit = tt
narrow_asked (x ∷ xs) fit =
    let f = fit.0 in
    let wide : FitsSigned w32 x = omega (arith, ints, f) in
    let is : FitsSigned w16 (to_z w32 (of_z w32 x)) = rw (to_z-of_z w32 x wide) f in
    (is, narrow_asked xs fit.1)

pub narrowed_is : (xs : List ℤ) → Each1 (FitsSigned w16) xs → map (to_z w16) (map narrowed (map (of_z w32) xs)) ≡ xs
narrowed_is [] fit = refl
narrowed_is (x ∷ xs) fit =
    let f = fit.0 in
    let wide : FitsSigned w32 x = omega (arith, ints, f) in
    ap (λ y. to_z w16 (of_z w16 y) ∷ map (to_z w16) (map narrowed (map (of_z w32) xs))) (to_z-of_z w32 x wide)
    ∙ ap (λ y. y ∷ map (to_z w16) (map narrowed (map (of_z w32) xs))) (to_z-of_z w16 x f)
    ∙ ap (λ l. x ∷ l) (narrowed_is xs fit.1)

pub back : (w : Width) (xs : List ℤ) → Each1 (FitsSigned w) xs → map (to_z w) (map (of_z w) xs) ≡ xs
back w [] fit = refl
back w (x ∷ xs) fit = ap (λ y. y ∷ map (to_z w) (map (of_z w) xs)) (to_z-of_z w x fit.0) ∙ ap (λ l. x ∷ l) (back w xs fit.1)

-- ---- sums and quotients
pub one_added : (x y : ℤ) → FitsSigned w32 x → FitsSigned w32 y → FitsSigned w32 (x +ℤ y) → added (of_z w32 x) (of_z w32 y) ≡ of_z w32 (x +ℤ y)
one_added x y f g fits = omega (arith, ints, f, g, fits)

pub added_is : (xs ys : List ℤ) → Each1 (FitsSigned w32) xs → Each1 (FitsSigned w32) ys → Each1 (FitsSigned w32) (zip2 ◌+ℤ◌ xs ys) →
    zip2 added (map (of_z w32) xs) (map (of_z w32) ys) ≡ map (of_z w32) (zip2 ◌+ℤ◌ xs ys)
added_is [] ys f g fits = refl
added_is (x ∷ xs) [] f g fits = refl
added_is (x ∷ xs) (y ∷ ys) f g fits =
    ap (λ n. n ∷ zip2 added (map (of_z w32) xs) (map (of_z w32) ys)) (one_added x y f.0 g.0 fits.0)
    ∙ ap (λ l. of_z w32 (x +ℤ y) ∷ l) (added_is xs ys f.1 g.1 fits.1)

-- ---- a loop that goes on by as many places
pub map_more : {A B : Type 0} (f : A → B) (xs : List A) (into ys : List B) (at n : ℕ) → at + n ≤ length xs → length into ≡ length xs →
    take at into ≡ map f (take at xs) → ys ≡ map f (chunk at n xs) → length ys ≡ n → take (at + n) (put_chunk at into ys) ≡ map f (take (at + n) xs)
map_more f xs into ys at n room same before is long =
    take_more_put_chunk at into ys (at + n) (omega (arith, long)) (omega (arith, room, same))
    ∙ ap (λ l. l ++ ys) before
    ∙ ap (λ l. map f (take at xs) ++ l) is
    ∙ sym (map-append f (take at xs) (chunk at n xs))
    ∙ ap (map f) (sym (take-add at n xs))

pub zip2-append : {A B C : Type 0} (f : A → B → C) (xs zs : List A) (ys us : List B) → length xs ≡ length ys → zip2 f (xs ++ zs) (ys ++ us) ≡ zip2 f xs ys ++ zip2 f zs us
zip2-append f [] zs [] us same = refl
zip2-append f [] zs (y ∷ ys) us same = absurd (omega (arith, same))
zip2-append f (x ∷ xs) zs [] us same = absurd (omega (arith, same))
zip2-append f (x ∷ xs) zs (y ∷ ys) us same = ap (λ l. f x y ∷ l) (zip2-append f xs zs ys us (omega (arith, same)))

pub zip2_more : {A B C : Type 0} (f : A → B → C) (xs : List A) (ys : List B) (into : List C) (at n : ℕ) → at + n ≤ length xs → length ys ≡ length xs → length into ≡ length xs →
    take at into ≡ zip2 f (take at xs) (take at ys) → take (at + n) (put_chunk at into (zip2 f (chunk at n xs) (chunk at n ys))) ≡ zip2 f (take (at + n) xs) (take (at + n) ys)
zip2_more f xs ys into at n room same same_into before =
    let long_x = length-chunk at n xs room in
    let long_y = length-chunk at n ys (omega (arith, room, same)) in
    let long = length-zip2 f (chunk at n xs) (chunk at n ys) (omega (arith, long_x, long_y)) in
    let front_x = length-take at xs in
    let front_y = length-take at ys in
    take_more_put_chunk at into (zip2 f (chunk at n xs) (chunk at n ys)) (at + n) (omega (arith, long, long_x)) (omega (arith, room, same_into))
    ∙ ap (λ l. l ++ zip2 f (chunk at n xs) (chunk at n ys)) before
    ∙ sym (zip2-append f (take at xs) (chunk at n xs) (take at ys) (chunk at n ys) (omega (arith, front_x, front_y, room, same)))
    ∙ ap (λ l. zip2 f l (take at ys ++ chunk at n ys)) (sym (take-add at n xs))
    ∙ ap (λ l. zip2 f (take (at + n) xs) l) (sym (take-add at n ys))

-- the places behind those that are written
pub drop-put : {A : Type 0} (i m : ℕ) (xs ys : List A) → m ≡ i + length ys → drop m (put_chunk i xs ys) ≡ drop m xs
drop-put i m [] ys next = refl
drop-put zero m (x ∷ xs) [] next = refl
drop-put zero zero (x ∷ xs) (y ∷ ys) next = absurd (omega (arith, next))
drop-put zero (suc m) (x ∷ xs) (y ∷ ys) next = drop-put zero m xs ys (omega (arith, next))
drop-put (suc i) zero (x ∷ xs) ys next = absurd (omega (arith, next))
drop-put (suc i) (suc m) (x ∷ xs) ys next = drop-put i m xs ys (omega (arith, next))

-- ---- a mean of two, and of so many
abbrev pub signed_of : ℕ → ℕ
signed_of = act1 (cast unsigned signed w32) (s_int w16) (s_int w32)

pub halved_asked : (xs : List ℤ) (n : ℕ) → length xs ≡ n → Each1 (FitsSigned w32) xs → Each2 (Asks2 (div signed) (s_int w32) (s_int w32)) (map (of_z w32) xs) (replicate n 2)
halved_asked [] n long fit = tt
halved_asked (x ∷ xs) zero long fit = absurd (omega (arith, long))
halved_asked (x ∷ xs) (suc n) long fit =
    let f = fit.0 in
    let fits : FitsSigned w32 (int_div x (pos 2)) = quot_fits w32 x (pos 2) f (omega (arith, ints)) in
    let is : FitsSigned w32 (int_div (to_z w32 (of_z w32 x)) (pos 2)) = rw (to_z-of_z w32 x f) fits in
    ((omega arith, is), halved_asked xs n (omega (arith, long)) fit.1)

pub halved_is : (xs : List ℤ) (n : ℕ) → length xs ≡ n → Each1 (FitsSigned w32) xs →
    zip2 divided (map (of_z w32) xs) (replicate n 2) ≡ map (of_z w32) (map (λ x. int_div x (pos 2)) xs)
halved_is [] n long fit = refl
halved_is (x ∷ xs) zero long fit = absurd (omega (arith, long))
halved_is (x ∷ xs) (suc n) long fit =
    ap (λ y. of_z w32 (int_div y (pos 2)) ∷ zip2 divided (map (of_z w32) xs) (replicate n 2)) (to_z-of_z w32 x fit.0)
    ∙ ap (λ l. of_z w32 (int_div x (pos 2)) ∷ l) (halved_is xs n (omega (arith, long)) fit.1)

pub halves_of_sums : (xs ys : List ℤ) → map (λ x. int_div x (pos 2)) (zip2 ◌+ℤ◌ xs ys) ≡ zip2 half_of xs ys
halves_of_sums [] ys = refl
halves_of_sums (x ∷ xs) [] = refl
halves_of_sums (x ∷ xs) (y ∷ ys) = ap (λ l. half_of x y ∷ l) (halves_of_sums xs ys)

pub two_fit : (xs ys : List ℤ) → Each1 (FitsSigned w16) xs → Each1 (FitsSigned w16) ys → Each1 (FitsSigned w32) (zip2 ◌+ℤ◌ xs ys)
two_fit [] ys f g = tt
two_fit (x ∷ xs) [] f g = tt
two_fit (x ∷ xs) (y ∷ ys) f g = let a = f.0 in let b = g.0 in (omega (arith, ints, a, b), two_fit xs ys f.1 g.1)

one_half : (x y : ℤ) → FitsSigned w16 x → FitsSigned w16 y → FitsSigned w16 (half_of x y)
one_half x y f g =
    let above : up (x +ℤ y) ≤ 32767 * 2 + down (x +ℤ y) = omega (arith, ints, f, g) in
    let below : down (x +ℤ y) ≤ 32768 * 2 + up (x +ℤ y) = omega (arith, ints, f, g) in
    quotient (x +ℤ y) 2 (omega arith) above below

pub halves_fit : (xs ys : List ℤ) → Each1 (FitsSigned w16) xs → Each1 (FitsSigned w16) ys → Each1 (FitsSigned w16) (zip2 half_of xs ys)
halves_fit [] ys f g = tt
halves_fit (x ∷ xs) [] f g = tt
halves_fit (x ∷ xs) (y ∷ ys) f g = (one_half x y f.0 g.0, halves_fit xs ys f.1 g.1)

pub halves_lanes : (xs ys : List ℤ) (n : ℕ) → length xs ≡ n → length ys ≡ n → Each1 (FitsSigned w16) xs → Each1 (FitsSigned w16) ys →
    zip2 divided (zip2 added (map widened (map (of_z w16) xs)) (map widened (map (of_z w16) ys))) (replicate n 2) ≡ map (of_z w32) (zip2 half_of xs ys)
halves_lanes xs ys n long_x long_y f g =
    ap (λ l. zip2 divided (zip2 added l (map widened (map (of_z w16) ys))) (replicate n 2)) (widened_is xs f)
    ∙ ap (λ l. zip2 divided (zip2 added (map (of_z w32) xs) l) (replicate n 2)) (widened_is ys g)
    ∙ ap (λ l. zip2 divided l (replicate n 2)) (added_is xs ys (wider xs f) (wider ys g) (two_fit xs ys f g))
    ∙ halved_is (zip2 ◌+ℤ◌ xs ys) n (length-zip2 ◌+ℤ◌ xs ys (long_x ∙ sym long_y) ∙ long_x) (two_fit xs ys f g)
    ∙ ap (map (of_z w32)) (halves_of_sums xs ys)

pub halves_asked : (xs ys : List ℤ) (n : ℕ) → length xs ≡ n → length ys ≡ n → Each1 (FitsSigned w16) xs → Each1 (FitsSigned w16) ys →
    Each2 (Asks2 (div signed) (s_int w32) (s_int w32)) (zip2 added (map widened (map (of_z w16) xs)) (map widened (map (of_z w16) ys))) (replicate n 2)
halves_asked xs ys n long_x long_y f g =
    let is : zip2 added (map widened (map (of_z w16) xs)) (map widened (map (of_z w16) ys)) ≡ map (of_z w32) (zip2 ◌+ℤ◌ xs ys) =
    ap (λ l. zip2 added l (map widened (map (of_z w16) ys))) (widened_is xs f)
    ∙ ap (λ l. zip2 added (map (of_z w32) xs) l) (widened_is ys g)
    ∙ added_is xs ys (wider xs f) (wider ys g) (two_fit xs ys f g) in
    subst (λ l. Each2 (Asks2 (div signed) (s_int w32) (s_int w32)) l (replicate n 2)) (sym is)
    (halved_asked (zip2 ◌+ℤ◌ xs ys) n (length-zip2 ◌+ℤ◌ xs ys (long_x ∙ sym long_y) ∙ long_x) (two_fit xs ys f g))

pub means_asked : (xs : List ℤ) (ns : List ℕ) → Each1 (FitsSigned w32) xs → Each1 (Fits w16) ns → Each1 (λ n. 0 < n) ns →
    Each2 (Asks2 (div signed) (s_int w32) (s_int w32)) (map (of_z w32) xs) (map signed_of ns)
means_asked [] ns f g some = tt
means_asked (x ∷ xs) [] f g some = tt
means_asked (x ∷ xs) (n ∷ ns) f g some =
    let fx = f.0 in
    let fn = g.0 in
    let more = some.0 in
    let small : n < 2147483648 = omega (arith, fn) in
    let fits : FitsSigned w32 (int_div x (pos n)) = quot_fits w32 x (pos n) fx (omega (arith, ints, more)) in
    let is : FitsSigned w32 (int_div (to_z w32 (of_z w32 x)) (to_z w32 n)) = rw (to_z-of_z w32 x fx, to_z_pos w32 n small) fits in
    ((more, is), means_asked xs ns f.1 g.1 some.1)

pub means_is : (xs : List ℤ) (ns : List ℕ) → Each1 (FitsSigned w32) xs → Each1 (Fits w16) ns →
    zip2 divided (map (of_z w32) xs) (map signed_of ns) ≡ map (of_z w32) (zip2 mean_of xs ns)
means_is [] ns f g = refl
means_is (x ∷ xs) [] f g = refl
means_is (x ∷ xs) (n ∷ ns) f g =
    let fn = g.0 in
    let small : n < 2147483648 = omega (arith, fn) in
    ap (λ y. of_z w32 (int_div y (to_z w32 n)) ∷ zip2 divided (map (of_z w32) xs) (map signed_of ns)) (to_z-of_z w32 x f.0)
    ∙ ap (λ d. of_z w32 (int_div x d) ∷ zip2 divided (map (of_z w32) xs) (map signed_of ns)) (to_z_pos w32 n small)
    ∙ ap (λ l. of_z w32 (mean_of x n) ∷ l) (means_is xs ns f.1 g.1)

pub means_fit : (xs : List ℤ) (ns : List ℕ) → Each1 (λ n. 0 < n) ns → Each2 IsSumOf ns xs → Each1 (FitsSigned w16) (zip2 mean_of xs ns)
means_fit [] ns some sums = tt
means_fit (x ∷ xs) [] some sums = tt
means_fit (x ∷ xs) (n ∷ ns) some sums = (mean_fits x n some.0 sums.0, means_fit xs ns some.1 sums.1)

pub sums_fit : (xs ys : List ℤ) → Each1 (IsSumOf 65535) xs → Each1 (FitsSigned w16) ys → Each1 (FitsSigned w32) (zip2 ◌+ℤ◌ xs ys)
sums_fit [] ys room f = tt
sums_fit (x ∷ xs) [] room f = tt
sums_fit (x ∷ xs) (y ∷ ys) room f = (sum_fits x y room.0 f.0, sums_fit xs ys room.1 f.1)

-- ---- what holds of all holds of those that are loaded
pub each_of_all : {A : Type 0} (P : A → Type 0) (d : A) (i n : ℕ) (xs : List A) → i + n ≤ length xs → All P xs → Each1 P (chunk i n xs)
each_of_all P d i n xs room all =
    Each1-from_get_or P (chunk i n xs) d
    (λ k less. let long = length-chunk i n xs room in rw (get_or-chunk i n xs k d (omega (arith, less, long))) (All-get_or P xs (i + k) d (omega (arith, less, long, room)) all))

pub each-append : {A : Type 0} (P : A → Type 0) (xs ys : List A) → Each1 P xs → Each1 P ys → Each1 P (xs ++ ys)
each-append P [] ys here there = there
each-append P (x ∷ xs) ys here there = (here.0, each-append P xs ys here.1 there)

each_none : {A B : Type 0} (P : A → B → Type 0) (xs : List A) → Each2 P xs []
each_none P [] = tt
each_none P (x ∷ xs) = tt

pub each-drop : {A B : Type 0} (P : A → B → Type 0) (i : ℕ) (xs : List A) (ys : List B) → Each2 P xs ys → Each2 P (drop i xs) (drop i ys)
each-drop P zero xs ys each = each
each-drop P (suc i) [] ys each = tt
each-drop P (suc i) (x ∷ xs) [] each = each_none P (drop i xs)
each-drop P (suc i) (x ∷ xs) (y ∷ ys) each = each-drop P i xs ys each.1

pub each-take : {A B : Type 0} (P : A → B → Type 0) (n : ℕ) (xs : List A) (ys : List B) → Each2 P xs ys → Each2 P (take n xs) (take n ys)
each-take P zero xs ys each = tt
each-take P (suc n) [] ys each = tt
each-take P (suc n) (x ∷ xs) [] each = tt
each-take P (suc n) (x ∷ xs) (y ∷ ys) each = (each.0, each-take P n xs ys each.1)

-- ---- the cut to the range of a sample
abbrev pub below : ℕ → ℕ → ℕ
below = act2 (mask (lt signed)) (s_int w32) (s_int w32) (s_int w32)

abbrev pub raised_lanes : List ℕ → List ℕ → List ℕ
raised_lanes vs lows = sel_l (map (top 31) (zip2 below vs lows)) lows vs

abbrev pub cut_lanes : List ℕ → List ℕ → List ℕ
cut_lanes vs highs = sel_l (map (top 31) (zip2 below vs highs)) vs highs

abbrev pub chosen : Bool → ℕ → ℕ → ℕ
chosen b p q = cond (top 31 (cond b 4294967295 0)) p q

pub chosen_is : (b : Bool) (p q : ℤ) → chosen b (of_z w32 p) (of_z w32 q) ≡ of_z w32 (cond b p q)
chosen_is true p q = refl
chosen_is false p q = refl

one_raised : (x : ℤ) → FitsSigned w32 x → chosen (lt_z (to_z w32 (of_z w32 x)) (negsuc 32767)) 4294934528 (of_z w32 x) ≡ of_z w32 (int_max (negsuc 32767) x)
one_raised x f =
    ap (λ y. chosen (lt_z y (negsuc 32767)) 4294934528 (of_z w32 x)) (to_z-of_z w32 x f) ∙ chosen_is (lt_z x (negsuc 32767)) (negsuc 32767) x

least_by : (y : ℤ) → cond (lt_z y (pos 32767)) y (pos 32767) ≡ int_min y (pos 32767)
least_by (pos a) = grind (arith, ints)
least_by (negsuc k) = refl

one_cut : (x : ℤ) → FitsSigned w32 x → chosen (lt_z (to_z w32 (of_z w32 x)) (pos 32767)) (of_z w32 x) 32767 ≡ of_z w32 (int_min x (pos 32767))
one_cut x f =
    ap (λ y. chosen (lt_z y (pos 32767)) (of_z w32 x) 32767) (to_z-of_z w32 x f)
    ∙ chosen_is (lt_z x (pos 32767)) x (pos 32767)
    ∙ ap (of_z w32) (least_by x)

one_clamped : (x : ℤ) → FitsSigned w32 x →
    let r = chosen (lt_z (to_z w32 (of_z w32 x)) (negsuc 32767)) 4294934528 (of_z w32 x) in
    chosen (lt_z (to_z w32 r) (pos 32767)) r 32767 ≡ of_z w32 (clamped x)
one_clamped x f =
    let fits : FitsSigned w32 (int_max (negsuc 32767) x) = omega (arith, ints, clamps, f) in
    let same : int_min (int_max (negsuc 32767) x) (pos 32767) ≡ clamped x = omega (arith, ints, clamps) in
    ap (λ r. chosen (lt_z (to_z w32 r) (pos 32767)) r 32767) (one_raised x f)
    ∙ one_cut (int_max (negsuc 32767) x) fits
    ∙ ap (of_z w32) same

clamped_none : (n : ℕ) → cut_lanes (raised_lanes [] (replicate n 4294934528)) (replicate n 32767) ≡ []
clamped_none n = refl

pub clamped_lanes : (xs : List ℤ) (n : ℕ) → length xs ≡ n → Each1 (FitsSigned w32) xs →
    cut_lanes (raised_lanes (map (of_z w32) xs) (replicate n 4294934528)) (replicate n 32767) ≡ map (of_z w32) (map clamped xs)
clamped_lanes [] n long fit = clamped_none n
clamped_lanes (x ∷ xs) zero long fit = absurd (omega (arith, long))
clamped_lanes (x ∷ xs) (suc n) long fit =
    ap (λ r. r ∷ cut_lanes (raised_lanes (map (of_z w32) xs) (replicate n 4294934528)) (replicate n 32767)) (one_clamped x fit.0)
    ∙ ap (λ l. of_z w32 (clamped x) ∷ l) (clamped_lanes xs n (omega (arith, long)) fit.1)

pub clamped_all_fit : (xs : List ℤ) → Each1 (FitsSigned w16) (map clamped xs)
clamped_all_fit [] = tt
clamped_all_fit (x ∷ xs) = (clamped_fits x, clamped_all_fit xs)
