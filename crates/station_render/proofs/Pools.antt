-- Lists of sinks that engines took, and give back.
use Rattle.std.proofs.Common.{◌≡◌, ◌<◌, ◌∙◌, ◌++◌, ℕ, zero, suc, Some, List, [], ◌∷◌, length, get_or, set, slice_get, arith, refl, ap, sym, inl, inr, nat_eq}
use Rattle.std.proofs.lemmas.Bool.{cases_Bool, eqb-true, eqb-false}
use Rattle.station_render.specs.Engines.{AreEmptyBelow, pooled}
use Rattle.station_render.proofs.Lists.{got, set_here, set_other}

module _ {S : Type 0} where
  -- one more list was taken
  pub pool_more : (outs lists : List (List S)) (out : List S) → slice_get lists (length outs) ≡ Some out → pooled (outs ++ out ∷ []) (set lists (length outs) []) ≡ pooled outs lists
  pool_more [] [] out at = absurd (cc)
  pool_more [] (list ∷ lists) out at = let same : list ≡ out = (cc) in ap (λ l. l ∷ lists) (sym same)
  pool_more (o ∷ outs) [] out at = absurd (cc)
  pool_more (o ∷ outs) (list ∷ lists) out at = ap (λ ls. o ∷ ls) (pool_more outs lists out at)

  -- the last one comes back
  pub pool_back : (outs lists : List (List S)) (out : List S) → length outs < length lists → pooled (outs ++ out ∷ []) lists ≡ pooled outs (set lists (length outs) out)
  pool_back [] [] out low = absurd (omega (arith, low))
  pool_back [] (list ∷ lists) out low = refl
  pool_back (o ∷ outs) [] out low = absurd (omega (arith, low))
  pool_back (o ∷ outs) (list ∷ lists) out low = ap (λ ls. o ∷ ls) (pool_back outs lists out (omega (arith, low)))

  pub pool_all : (outs lists : List (List S)) → length outs ≡ length lists → pooled outs lists ≡ outs
  pool_all [] [] size = refl
  pool_all [] (list ∷ lists) size = absurd (omega (arith, size))
  pool_all (o ∷ outs) [] size = absurd (omega (arith, size))
  pool_all (o ∷ outs) (list ∷ lists) size = ap (λ ls. o ∷ ls) (pool_all outs lists (omega (arith, size)))

  pub empty_below_more : (n : ℕ) (lists : List (List S)) → n < length lists → AreEmptyBelow n lists → AreEmptyBelow (suc n) (set lists n [])
  empty_below_more n lists low all m list below at = elim (cases_Bool (nat_eq n m)) [
    | inl same ↦ (let here : n ≡ m = eqb-true n m same in
        let there : Some [] ≡ Some list = sym (set_here lists n [] low) ∙ ap (slice_get (set lists n [])) here ∙ at in (cc))
    | inr other ↦ (let apart = eqb-false n m other in
        all m list (other_below n m below apart) (sym (set_other lists n m [] apart) ∙ at))
  ]
    where
      other_below : (n m : ℕ) → m < suc n → (n ≡ m → ⊥) → m < n
      other_below zero zero below apart = absurd (apart refl)
      other_below zero (suc m) below apart = absurd (omega (arith, below))
      other_below (suc n) zero below apart = omega arith
      other_below (suc n) (suc m) below apart = let rest = other_below n m (omega (arith, below)) (λ e. apart (ap suc e)) in omega (arith, rest)

  pub empty_below_fewer : (n : ℕ) (lists : List (List S)) (out : List S) → AreEmptyBelow (suc n) lists → AreEmptyBelow n (set lists n out)
  empty_below_fewer n lists out all m list below at =
      all m list (omega (arith, below)) (sym (set_other lists n m out (λ e. omega (arith, below, e))) ∙ at)

  -- the last of the empty lists
  pub empty_last : (n : ℕ) (lists : List (List S)) → n < length lists → AreEmptyBelow (suc n) lists → slice_get lists n ≡ Some []
  empty_last n lists low all =
      let there : slice_get lists n ≡ Some (get_or lists n []) = got lists n [] low in
      there ∙ ap Some (all n (get_or lists n []) (omega arith) there)
