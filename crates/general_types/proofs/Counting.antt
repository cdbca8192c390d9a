-- Open parameters counted, one by one.
use Rattle.std.proofs.Common.{◌≡◌, ◌∙◌, sym, ap, refl, ℕ, zero, suc, ◌+◌, ◌<◌, List, [], ◌∷◌, ◌++◌, append_assoc, length, take, drop, get_or, arith}
use Rattle.type_instances.specs.declared.general.KindParameter.{KindParameter}
use Rattle.type_instances.specs.declared.general.KindParameter.TheVariants.{Open, Unread, Outer}
use Rattle.type_instances.specs.Schemes.{open_numbers}
use Rattle.general_types.specs.Texts.{open_counts}

pub same_count : (m n : ℕ) (ps : List KindParameter) → length (open_numbers m ps) ≡ length (open_numbers n ps)
same_count m n [] = refl
same_count m n (Open ∷ ps) = ap suc (same_count (suc m) (suc n) ps)
same_count m n (Unread ∷ ps) = same_count (suc m) (suc n) ps
same_count m n (Outer k ∷ ps) = same_count (suc m) (suc n) ps

-- ---- the counts before each place

one_more_count : (p : KindParameter) (ps : List KindParameter) → length (open_numbers 0 (p ∷ ps)) ≡ length (open_numbers 0 (p ∷ [])) + length (open_numbers 0 ps)
one_more_count Open ps =
    let f = same_count 1 0 ps in
    let here : length (open_numbers 0 (Open ∷ ps)) ≡ suc (length (open_numbers 1 ps)) = refl in
    let alone : length (open_numbers 0 (Open ∷ [])) ≡ 1 = refl in
    omega (arith, f, here, alone)
one_more_count Unread ps =
    let f = same_count 1 0 ps in
    let here : length (open_numbers 0 (Unread ∷ ps)) ≡ length (open_numbers 1 ps) = refl in
    let alone : length (open_numbers 0 (Unread ∷ [])) ≡ 0 = refl in
    omega (arith, f, here, alone)
one_more_count (Outer k) ps =
    let f = same_count 1 0 ps in
    let here : length (open_numbers 0 (Outer k ∷ ps)) ≡ length (open_numbers 1 ps) = refl in
    let alone : length (open_numbers 0 (Outer k ∷ [])) ≡ 0 = refl in
    omega (arith, f, here, alone)

pub counts_many : (n : ℕ) (ps : List KindParameter) → length (open_counts n ps) ≡ length ps
counts_many n [] = refl
counts_many n (p ∷ ps) = ap suc (counts_many (n + length (open_numbers 0 (p ∷ []))) ps)

pub count_at : (n : ℕ) (ps : List KindParameter) (i d : ℕ) → i < length ps → get_or (open_counts n ps) i d ≡ n + length (open_numbers 0 (take i ps))
count_at n [] i d l = absurd (omega (arith, l))
count_at n (p ∷ ps) zero d l = omega arith
count_at n (p ∷ ps) (suc i) d l =
    let f = count_at (n + length (open_numbers 0 (p ∷ []))) ps i d (omega (arith, l)) in
    let g = one_more_count p (take i ps) in
    omega (arith, f, g)

from_here : (ps : List KindParameter) (i : ℕ) (d : KindParameter) → i < length ps → drop i ps ≡ get_or ps i d ∷ drop (suc i) ps
from_here [] i d l = absurd (omega (arith, l))
from_here (p ∷ ps) zero d l = refl
from_here (p ∷ ps) (suc i) d l = from_here ps i d (omega (arith, l))

pub counts_next : (ps : List KindParameter) (i n m : ℕ) (d p : KindParameter) (ns more all : List ℕ) → i < length ps → p ≡ get_or ps i d → m ≡ length (open_numbers 0 (p ∷ [])) → more ≡ ns ++ (n ∷ []) → ns ++ open_counts n (drop i ps) ≡ all → more ++ open_counts (n + m) (drop (i + 1) ps) ≡ all
counts_next ps i n m d p ns more all l is one pushed h =
    let on : i + 1 ≡ suc i = omega arith in
    ap (λ (xs : List ℕ). xs ++ open_counts (n + m) (drop (i + 1) ps)) pushed
    ∙ append_assoc ns (n ∷ []) (open_counts (n + m) (drop (i + 1) ps))
    ∙ ap (λ (j : ℕ). ns ++ (n ∷ open_counts (n + m) (drop j ps))) on
    ∙ ap (λ (j : ℕ). ns ++ (n ∷ open_counts (n + j) (drop (suc i) ps))) (one ∙ ap (λ (q : KindParameter). length (open_numbers 0 (q ∷ []))) is)
    ∙ sym (ap (λ (qs : List KindParameter). ns ++ open_counts n qs) (from_here ps i d l))
    ∙ h
