-- The loops over the uses of a text.
use Rattle.std.proofs.Common.{◌≡◌, ◌∙◌, sym, ap, subst, refl, arith, ℕ, zero, suc, ◌+◌, ◌<◌, ◌≤◌, length, List, [], ◌∷◌, ◌++◌, map, take, drop, get_or, append_assoc, min}
use Rattle.std.proofs.lemmas.List.{append-nil, map-append, take_more}
use Rattle.type_terms.specs.declared.ty.KindTerm.{KindTerm}
use Rattle.general_types.specs.declared.generalising.TextKind.{TextKind}
use Rattle.type_steps.specs.Environment.{Found, TextUse}
use Rattle.expression_types.specs.Seen.{found, founds, text_use}
use Rattle.expression_types.specs.declared.environment.FoundUse.{FoundUse}
use Rattle.expression_types.specs.declared.environment.TextUse.{TextUse as ATextUse}
use Rattle.type_infer.specs.TextUses.{kinds_in, text_uses, use_of}

kinds_append : (fs gs : List Found) → kinds_in (fs ++ gs) ≡ kinds_in fs ++ kinds_in gs
kinds_append [] gs = refl
kinds_append (f ∷ fs) gs = ap (λ (l : List KindTerm). f.kinds ++ l) (kinds_append fs gs) ∙ sym (append_assoc f.kinds (kinds_in fs) (kinds_in gs))

pub kinds_next : (xs : List FoundUse) (i : ℕ) (x : FoundUse) → i < length xs → x ≡ get_or xs i x → (ks new : List KindTerm) → ks ≡ kinds_in (founds (take i xs)) → new ≡ ks ++ x.kinds.items → new ≡ kinds_in (founds (take (i + 1) xs))
kinds_next xs i x lt is ks new so grown =
    let taken : founds (take (i + 1) xs) ≡ founds (take i xs) ++ found x ∷ [] = ap founds (take_more xs i x lt ∙ ap (λ (y : FoundUse). take i xs ++ y ∷ []) (sym is)) ∙ map-append found (take i xs) (x ∷ []) in
    grown ∙ ap (λ (l : List KindTerm). l ++ x.kinds.items) so
    ∙ ap (λ (l : List KindTerm). kinds_in (founds (take i xs)) ++ l) (sym (append-nil x.kinds.items))
    ∙ sym (kinds_append (founds (take i xs)) (found x ∷ [])) ∙ ap kinds_in (sym taken)

min_suc : (n m : ℕ) → min (suc n) (suc m) ≡ suc (min n m)
min_suc n m = omega arith

take_nothing : {A : Type 0} (k : ℕ) → take {A = A} k [] ≡ []
take_nothing zero = refl
take_nothing (suc k) = refl

drop_nothing : {A : Type 0} (k : ℕ) → drop {A = A} k [] ≡ []
drop_nothing zero = refl
drop_nothing (suc k) = refl

take_short : {A : Type 0} (n : ℕ) (xs : List A) → take (min n (length xs)) xs ≡ take n xs
take_short zero xs = ap (λ k. take k xs) (let z : min 0 (length xs) ≡ 0 = omega arith in z)
take_short (suc n) [] = take_nothing (min (suc n) 0)
take_short (suc n) (x ∷ xs) = ap (λ k. take k (x ∷ xs)) (min_suc n (length xs)) ∙ ap (λ l. x ∷ l) (take_short n xs)

drop_short : {A : Type 0} (n : ℕ) (xs : List A) → drop (min n (length xs)) xs ≡ drop n xs
drop_short zero xs = ap (λ k. drop k xs) (let z : min 0 (length xs) ≡ 0 = omega arith in z)
drop_short (suc n) [] = drop_nothing (min (suc n) 0)
drop_short (suc n) (x ∷ xs) = ap (λ k. drop k (x ∷ xs)) (min_suc n (length xs)) ∙ drop_short n xs

take_least : {A : Type 0} (n m : ℕ) (xs : List A) → m ≡ min n (length xs) → take m xs ≡ take n xs
take_least n m xs e = subst (λ k. take k xs ≡ take n xs) (sym e) (take_short n xs)

drop_least : {A : Type 0} (n m : ℕ) (xs : List A) → m ≡ min n (length xs) → drop m xs ≡ drop n xs
drop_least n m xs e = subst (λ k. drop k xs ≡ drop n xs) (sym e) (drop_short n xs)

drop_after : (xs : List FoundUse) (i : ℕ) (x : FoundUse) → i < length xs → x ≡ get_or xs i x → drop i xs ≡ x ∷ drop (suc i) xs
drop_after [] i x lt is = absurd (omega (arith, lt))
drop_after (y ∷ xs) zero x lt is = ap (λ (z : FoundUse). z ∷ xs) (sym is)
drop_after (y ∷ xs) (suc i) x lt is = drop_after xs i x (omega (arith, lt)) is

drop_next : (xs : List FoundUse) (i : ℕ) (x : FoundUse) → i < length xs → x ≡ get_or xs i x → drop i xs ≡ x ∷ drop (i + 1) xs
drop_next xs i x lt is = drop_after xs i x lt is ∙ ap (λ (k : ℕ). x ∷ drop k xs) (let z : suc i ≡ i + 1 = omega arith in z)

pub uses_next : (xs : List FoundUse) (i : ℕ) (x : FoundUse) → i < length xs → x ≡ get_or xs i x → (done new : List ATextUse) (u : ATextUse) (left own rest : List TextKind) (m : ℕ) (whole : List TextUse) → m ≡ min (length x.kinds.items) (length left) → own ≡ take m left → rest ≡ drop m left →
    text_use u ≡ use_of (found x) own → new ≡ done ++ u ∷ [] → map text_use done ++ text_uses (founds (drop i xs)) left ≡ whole → map text_use new ++ text_uses (founds (drop (i + 1) xs)) rest ≡ whole
uses_next xs i x lt is done new u left own rest m whole least own_is rest_is use_is grown so =
    let n = length x.kinds.items in
    let one : text_use u ≡ use_of (found x) (take n left) = use_is ∙ ap (use_of (found x)) (own_is ∙ take_least n m left least) in
    let others : text_uses (founds (drop (i + 1) xs)) rest ≡ text_uses (founds (drop (i + 1) xs)) (drop n left) = ap (text_uses (founds (drop (i + 1) xs))) (rest_is ∙ drop_least n m left least) in
    let here : text_uses (founds (drop i xs)) left ≡ use_of (found x) (take n left) ∷ text_uses (founds (drop (i + 1) xs)) (drop n left) = ap (λ (l : List FoundUse). text_uses (founds l) left) (drop_next xs i x lt is) in
    ap (λ (l : List ATextUse). map text_use l ++ text_uses (founds (drop (i + 1) xs)) rest) grown
    ∙ ap (λ (l : List TextUse). l ++ text_uses (founds (drop (i + 1) xs)) rest) (map-append text_use done (u ∷ []))
    ∙ append_assoc (map text_use done) (text_use u ∷ []) (text_uses (founds (drop (i + 1) xs)) rest)
    ∙ ap (λ (l : List TextUse). map text_use done ++ text_use u ∷ l) others
    ∙ ap (λ (v : TextUse). map text_use done ++ v ∷ text_uses (founds (drop (i + 1) xs)) (drop n left)) one
    ∙ ap (λ (l : List TextUse). map text_use done ++ l) (sym here) ∙ so

drop_end : (xs : List FoundUse) (i : ℕ) → length xs ≤ i → drop i xs ≡ []
drop_end [] zero le = refl
drop_end [] (suc i) le = refl
drop_end (x ∷ xs) zero le = absurd (omega (arith, le))
drop_end (x ∷ xs) (suc i) le = drop_end xs i (omega (arith, le))

pub uses_end : (xs : List FoundUse) (i : ℕ) → length xs ≤ i → (done : List ATextUse) (left : List TextKind) (whole : List TextUse) → map text_use done ++ text_uses (founds (drop i xs)) left ≡ whole → map text_use done ≡ whole
uses_end xs i le done left whole so = sym (append-nil (map text_use done)) ∙ ap (λ (l : List FoundUse). map text_use done ++ text_uses (founds l) left) (sym (drop_end xs i le)) ∙ so

pub uses_begin : (done : List ATextUse) (whole : List TextUse) → done ≡ [] → map text_use done ++ whole ≡ whole
uses_begin done whole is = ap (λ (l : List ATextUse). map text_use l ++ whole) is
