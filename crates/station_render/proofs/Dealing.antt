-- Sinks that are dealt to clocks.
use Rattle.std.proofs.Common.{◌≡◌, ◌<◌, ◌+◌, ◌∙◌, ◌++◌, ℕ, zero, suc, Bool, true, false, Some, List, [], ◌∷◌, length, slice_get, nat_eq, arith, refl, ap, sym, subst, inl, inr, if◌then◌else◌}
use Rattle.std.proofs.lemmas.Bool.{cases_Bool, eqb-true, eqb-false, eq-eqb}
use Rattle.std.specs.List.{AllZip}
use Rattle.std.proofs.lemmas.List.{length-append}
use Rattle.station_render.specs.Sinks.{AreCreated, HaveSizes, WasAdded, WasTaken, AreBelow, of_clock, count_of}
use Rattle.station_render.proofs.Lists.{within, set_other, set_here, set_many}

-- what is dealt to a clock, with one more item at the end
pub dealt_more_here : {Y : Type 0} (m c : ℕ) (order : List ℕ) (ys : List Y) (y : Y) → length ys ≡ length order → nat_eq c m ≡ true → of_clock m (order ++ c ∷ []) (ys ++ y ∷ []) ≡ of_clock m order ys ++ y ∷ []
dealt_more_here m c [] [] y size e = rw e refl
dealt_more_here m c [] (x ∷ ys) y size e = absurd (omega (arith, size))
dealt_more_here m c (d ∷ order) [] y size e = absurd (omega (arith, size))
dealt_more_here m c (d ∷ order) (x ∷ ys) y size e =
    let rest = dealt_more_here m c order ys y (omega (arith, size)) e in
    by_test (nat_eq d m) rest
  where
    by_test : (b : Bool) → of_clock m (order ++ c ∷ []) (ys ++ y ∷ []) ≡ of_clock m order ys ++ y ∷ []
        → (if b then x ∷ of_clock m (order ++ c ∷ []) (ys ++ y ∷ []) else of_clock m (order ++ c ∷ []) (ys ++ y ∷ []))
        ≡ (if b then x ∷ of_clock m order ys else of_clock m order ys) ++ y ∷ []
    by_test true rest = ap (λ zs. x ∷ zs) rest
    by_test false rest = rest

pub dealt_more_other : {Y : Type 0} (m c : ℕ) (order : List ℕ) (ys : List Y) (y : Y) → length ys ≡ length order → nat_eq c m ≡ false → of_clock m (order ++ c ∷ []) (ys ++ y ∷ []) ≡ of_clock m order ys
dealt_more_other m c [] [] y size e = rw e refl
dealt_more_other m c [] (x ∷ ys) y size e = absurd (omega (arith, size))
dealt_more_other m c (d ∷ order) [] y size e = absurd (omega (arith, size))
dealt_more_other m c (d ∷ order) (x ∷ ys) y size e =
    let rest = dealt_more_other m c order ys y (omega (arith, size)) e in
    by_test (nat_eq d m) rest
  where
    by_test : (b : Bool) → of_clock m (order ++ c ∷ []) (ys ++ y ∷ []) ≡ of_clock m order ys
        → (if b then x ∷ of_clock m (order ++ c ∷ []) (ys ++ y ∷ []) else of_clock m (order ++ c ∷ []) (ys ++ y ∷ []))
        ≡ (if b then x ∷ of_clock m order ys else of_clock m order ys)
    by_test true rest = ap (λ zs. x ∷ zs) rest
    by_test false rest = rest

pub counted : {Y : Type 0} (m : ℕ) (order : List ℕ) (ys : List Y) → length ys ≡ length order → length (of_clock m order ys) ≡ count_of m order
counted m [] ys size = refl
counted m (c ∷ order) [] size = absurd (omega (arith, size))
counted m (c ∷ order) (y ∷ ys) size = by_test (nat_eq c m) (counted m order ys (omega (arith, size)))
  where
    by_test : (b : Bool) → length (of_clock m order ys) ≡ count_of m order
        → length (if b then y ∷ of_clock m order ys else of_clock m order ys) ≡ (if b then suc (count_of m order) else count_of m order)
    by_test true rest = ap suc rest
    by_test false rest = rest

module _ {Y S : Type 0} (So : Y → S → Type 0) where
  pub zip_size : (ys : List Y) (xs : List S) → AllZip So ys xs → length xs ≡ length ys
  zip_size [] [] z = refl
  zip_size [] (x ∷ xs) z = absurd z
  zip_size (y ∷ ys) [] z = absurd z
  zip_size (y ∷ ys) (x ∷ xs) z = ap suc (zip_size ys xs z.1)

  pub zip_more : (ys : List Y) (xs : List S) (y : Y) (x : S) → AllZip So ys xs → So y x → AllZip So (ys ++ y ∷ []) (xs ++ x ∷ [])
  zip_more [] [] y x z so = (so, tt)
  zip_more [] (a ∷ xs) y x z so = absurd z
  zip_more (b ∷ ys) [] y x z so = absurd z
  zip_more (b ∷ ys) (a ∷ xs) y x z so = (z.0, zip_more ys xs y x z.1 so)

  pub zip_at : (ys : List Y) (xs : List S) (k : ℕ) (y : Y) (x : S) → AllZip So ys xs → slice_get ys k ≡ Some y → slice_get xs k ≡ Some x → So y x
  zip_at [] xs k y x z at there = absurd (cc)
  zip_at (b ∷ ys) [] k y x z at there = absurd z
  zip_at (b ∷ ys) (a ∷ xs) zero y x z at there = let same : b ≡ y = (cc) in let same_too : a ≡ x = (cc) in subst (λ b. So b x) same (subst (λ a. So b a) same_too z.0)
  zip_at (b ∷ ys) (a ∷ xs) (suc k) y x z at there = zip_at ys xs k y x z.1 at there

  pub zip_from : (ys : List Y) (xs : List S) → length xs ≡ length ys → ((k : ℕ) (y : Y) (x : S) → slice_get ys k ≡ Some y → slice_get xs k ≡ Some x → So y x) → AllZip So ys xs
  zip_from [] [] size each = tt
  zip_from [] (a ∷ xs) size each = absurd (omega (arith, size))
  zip_from (b ∷ ys) [] size each = absurd (omega (arith, size))
  zip_from (b ∷ ys) (a ∷ xs) size each = (each 0 b a refl refl, zip_from ys xs (omega (arith, size)) (λ k y x at there. each (suc k) y x at there))

  pub sizes : (ys : List Y) (order : List ℕ) (groups : List (List S)) → AreCreated So ys order groups → HaveSizes order groups
  sizes ys order groups are = record {
    below = are.below;
    each = λ m group there. zip_size (of_clock m order ys) group (are.each m group there) ∙ counted m order ys are.size;
  }

  below_more : (clocks : ℕ) (order : List ℕ) (last : ℕ) → last < clocks → AreBelow clocks order → AreBelow clocks (order ++ last ∷ [])
  below_more clocks [] last low all zero clock there = (let same : last ≡ clock = (cc) in subst (λ c. c < clocks) same low)
  below_more clocks [] last low all (suc k) clock there = absurd (cc)
  below_more clocks (c ∷ order) last low all zero clock there = all 0 clock there
  below_more clocks (c ∷ order) last low all (suc k) clock there = below_more clocks order last low (λ j other at. all (suc j) other at) k clock there

  -- one more
  module _ (ys : List Y) (order : List ℕ) (old new : List (List S)) (y : Y) (clock : ℕ) (sink : S) (low : clock < length old) (are : AreCreated So ys order old)
      (so : So y sink) (added : WasAdded clock sink old new) where
    pub one_added : AreCreated So (ys ++ y ∷ []) (order ++ clock ∷ []) new
    one_added = record {
      size = length-append ys (y ∷ []) ∙ ap (λ n. n + 1) are.size ∙ sym (length-append order (clock ∷ []));
      below = subst (λ n. AreBelow n (order ++ clock ∷ [])) (sym (ap length added.is ∙ set_many old clock (added.before ++ sink ∷ []))) (below_more (length old) order clock low are.below);
      each = λ m group there. elim (cases_Bool (nat_eq clock m)) [
        | inl same ↦ (let here : clock ≡ m = eqb-true clock m same in
            let at : Some (added.before ++ sink ∷ []) ≡ Some group =
            sym (set_here old clock (added.before ++ sink ∷ []) low) ∙ ap (λ gs. slice_get gs clock) (sym added.is) ∙ ap (slice_get new) here ∙ there in
            let is : added.before ++ sink ∷ [] ≡ group = cc in
            let before = are.each m added.before (ap (slice_get old) (sym here) ∙ added.was) in
            subst (λ g. AllZip So (of_clock m (order ++ clock ∷ []) (ys ++ y ∷ [])) g) is
            (subst (λ dealt. AllZip So dealt (added.before ++ sink ∷ [])) (sym (dealt_more_here m clock order ys y are.size same))
            (zip_more (of_clock m order ys) added.before y sink before so)))
        | inr other ↦ (let apart : clock ≡ m → ⊥ = eqb-false clock m other in
            let at : slice_get old m ≡ Some group = sym (set_other old clock m (added.before ++ sink ∷ []) apart) ∙ ap (λ gs. slice_get gs m) (sym added.is) ∙ there in
            subst (λ dealt. AllZip So dealt group) (sym (dealt_more_other m clock order ys y are.size other)) (are.each m group at))
      ];
    }

  dealt_here : (m c : ℕ) (order : List ℕ) (y : Y) (ys : List Y) → nat_eq c m ≡ true → of_clock m (c ∷ order) (y ∷ ys) ≡ y ∷ of_clock m order ys
  dealt_here m c order y ys e = ap (λ b. if b then y ∷ of_clock m order ys else of_clock m order ys) e

  dealt_other : (m c : ℕ) (order : List ℕ) (y : Y) (ys : List Y) → nat_eq c m ≡ false → of_clock m (c ∷ order) (y ∷ ys) ≡ of_clock m order ys
  dealt_other m c order y ys e = ap (λ b. if b then y ∷ of_clock m order ys else of_clock m order ys) e

  -- one less
  module _ (clock : ℕ) (order : List ℕ) (old new : List (List S)) (sink : S) (taken : WasTaken clock old sink new) where
    here : nat_eq clock clock ≡ true
    here = eq-eqb clock clock refl

    pub first_so : (y : Y) (ys : List Y) → AreCreated So (y ∷ ys) (clock ∷ order) old → So y sink × AllZip So (of_clock clock order ys) taken.rest
    first_so y ys are = subst (λ dealt. AllZip So dealt (sink ∷ taken.rest)) (dealt_here clock clock order y ys here) (are.each clock (sink ∷ taken.rest) taken.was)

    pub others_so : (y : Y) (ys : List Y) → AreCreated So (y ∷ ys) (clock ∷ order) old → AreCreated So ys order new
    others_so y ys are = record {
      size = omega (arith, are.size);
      below = subst (λ n. AreBelow n order) (sym (ap length taken.is ∙ set_many old clock taken.rest)) (λ k c at. are.below (suc k) c at);
      each = λ m group there. elim (cases_Bool (nat_eq clock m)) [
        | inl same ↦ (let is_here : clock ≡ m = eqb-true clock m same in
            let at : Some taken.rest ≡ Some group = sym (set_here old clock taken.rest (within old clock (sink ∷ taken.rest) taken.was))
            ∙ ap (λ gs. slice_get gs clock) (sym taken.is) ∙ ap (slice_get new) is_here ∙ there in
            let is : taken.rest ≡ group = cc in
            subst (λ g. AllZip So (of_clock m order ys) g) is (subst (λ c. AllZip So (of_clock c order ys) taken.rest) is_here (first_so y ys are).1))
        | inr other ↦ (let apart : clock ≡ m → ⊥ = eqb-false clock m other in
            let at : slice_get old m ≡ Some group = sym (set_other old clock m taken.rest apart) ∙ ap (λ gs. slice_get gs m) (sym taken.is) ∙ there in
            subst (λ dealt. AllZip So dealt group) (dealt_other m clock order y ys other) (are.each m group at))
      ];
    }
