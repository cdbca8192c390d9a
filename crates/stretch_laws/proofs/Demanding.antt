-- Which nodes are demanded rests on what those that are demanded use.
use Rattle.std.proofs.Common.{◌≡◌, ◌<◌, ◌+◌, ◌∙◌, ℕ, zero, suc, List, [], ◌∷◌, length, get_or, Bool, true, false, arith, refl, ap, subst, nat_eq}
use Rattle.std.specs.Prelude.{◌&&◌, ◌||◌}
use Rattle.std.specs.List.{list_any}
use Rattle.std.proofs.lemmas.Bool.{false≢true}
use Rattle.stream_meaning.specs.Instants.{is_used, demands_from}

and_same : (d a b : Bool) → (d ≡ true → a ≡ b) → (d && a) ≡ (d && b)
and_same true a b h = h refl
and_same false a b h = refl

used_same : (demands : List Bool) (uses others : List (List ℕ)) → length others ≡ length uses
    → ((k : ℕ) → get_or demands k false ≡ true → get_or others k [] ≡ get_or uses k []) → (i : ℕ) → is_used demands others i ≡ is_used demands uses i
used_same [] uses others long same i = refl
used_same (d ∷ ds) [] [] long same i = refl
used_same (d ∷ ds) [] (o ∷ os) long same i = absurd (omega (arith, long))
used_same (d ∷ ds) (u ∷ us) [] long same i = absurd (omega (arith, long))
used_same (d ∷ ds) (u ∷ us) (o ∷ os) long same i =
    ap (λ now. now || is_used ds os i) (and_same d (list_any (nat_eq i) o) (list_any (nat_eq i) u) (λ e. ap (λ used. list_any (nat_eq i) used) (same 0 e)))
    ∙ ap (λ later. (d && list_any (nat_eq i) u) || later) (used_same ds us os (omega (arith, long)) (λ k e. same (suc k) e) i)

-- where the demanded nodes use the same, the same are demanded
pub demands_same : (roots : ℕ → Bool) (i : ℕ) (uses others : List (List ℕ)) → length others ≡ length uses
    → ((k : ℕ) → get_or (demands_from roots i uses) k false ≡ true → get_or others k [] ≡ get_or uses k [])
    → demands_from roots i others ≡ demands_from roots i uses
demands_same roots i [] [] long same = refl
demands_same roots i [] (o ∷ os) long same = absurd (omega (arith, long))
demands_same roots i (u ∷ us) [] long same = absurd (omega (arith, long))
demands_same roots i (u ∷ us) (o ∷ os) long same =
    let later : demands_from roots (suc i) os ≡ demands_from roots (suc i) us = demands_same roots (suc i) us os (omega (arith, long)) (λ k e. same (suc k) e) in
    ap (λ later. (roots i || is_used later os i) ∷ later) later
    ∙ ap (λ now. (roots i || now) ∷ demands_from roots (suc i) us) (used_same (demands_from roots (suc i) us) us os (omega (arith, long)) (λ k e. same (suc k) e) i)

or_left : (a b : Bool) → a ≡ true → (a || b) ≡ true
or_left true b e = refl
or_left false b e = absurd (false≢true e)

or_right : (a b : Bool) → b ≡ true → (a || b) ≡ true
or_right true b e = refl
or_right false b e = e

and_both : (a b : Bool) → a ≡ true → b ≡ true → (a && b) ≡ true
and_both true b d e = e
and_both false b d e = absurd (false≢true d)

used_by : (demands : List Bool) (uses : List (List ℕ)) (k i : ℕ) → get_or demands k false ≡ true → list_any (nat_eq i) (get_or uses k []) ≡ true → is_used demands uses i ≡ true
used_by [] uses k i d u = absurd (false≢true d)
used_by (d ∷ ds) [] k i dem u = absurd (false≢true u)
used_by (d ∷ ds) (used ∷ us) zero i dem u = or_left (d && list_any (nat_eq i) used) (is_used ds us i) (and_both d (list_any (nat_eq i) used) dem u)
used_by (d ∷ ds) (used ∷ us) (suc k) i dem u = or_right (d && list_any (nat_eq i) used) (is_used ds us i) (used_by ds us k i dem u)

-- what a demanded node uses below itself is demanded
pub used_demanded : (roots : ℕ → Bool) (i : ℕ) (uses : List (List ℕ)) (k c : ℕ) → get_or (demands_from roots i uses) k false ≡ true → c < k
    → list_any (nat_eq (i + c)) (get_or uses k []) ≡ true → get_or (demands_from roots i uses) c false ≡ true
used_demanded roots i [] k c d below u = absurd (false≢true d)
used_demanded roots i (used ∷ us) zero c d below u = absurd (omega (arith, below))
used_demanded roots i (used ∷ us) (suc k) zero d below u =
    let e : i + 0 ≡ i = omega arith in
    or_right (roots i) (is_used (demands_from roots (suc i) us) us i)
    (used_by (demands_from roots (suc i) us) us k i d (subst (λ n. list_any (nat_eq n) (get_or us k []) ≡ true) e u))
used_demanded roots i (used ∷ us) (suc k) (suc c) d below u =
    let e : i + suc c ≡ suc i + c = omega arith in
    used_demanded roots (suc i) us k c d (omega (arith, below)) (subst (λ n. list_any (nat_eq n) (get_or us k []) ≡ true) e u)
