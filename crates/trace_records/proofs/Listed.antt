-- A buffer with both ends in one clock is a list that answers the clock's calls in their order.
use Rattle.std.proofs.Common.{◌≡◌, ◌≢◌, ◌<◌, ◌≤◌, ◌+◌, ◌∙◌, ◌++◌, ◌⊎◌, ℕ, zero, suc, Bool, true, false, cond, nat_eq, Some, None, List, [], ◌∷◌, length, drop, slice_get, inl, inr, refl, ap, sym, subst, arith, append_assoc, append-nil, length-append}
use Rattle.std.proofs.lemmas.Bool.{cases_eq}
use Rattle.std.proofs.lemmas.Bool.Decides.{nat_tests}
use Rattle.std.proofs.lemmas.List.{drop-append-le, length-drop}
use Rattle.std.proofs.Math.ListN.{drop_of_length-le}
use Rattle.frame_core.specs.declared.cell.Cell.{Cell}
use Rattle.frame_core.specs.Frames.{somes}
use Rattle.frame_core.specs.Calls.{Call, Took, Given, put_of, puts_to, takes_of, Answer}
use Rattle.stream_meaning.specs.Instants.{Setting}
use Rattle.run_records.specs.Buffers.{feeder, reader}
use Rattle.run_records.specs.Records.{Follows, capacity_of, on}
use Rattle.trace_records.specs.Clocks.{AreInOrder, Suits, got_in}
use Rattle.trace_records.proofs.Fronts.{got_more, put_more}
use Rattle.trace_records.proofs.Turning.{got_within}

drop_some : {A : Type 0} (xs : List A) (n : ℕ) (x : A) → slice_get xs n ≡ Some x → drop n xs ≡ x ∷ drop (suc n) xs
drop_some [] n x e = absurd cc
drop_some (y ∷ xs) zero x e = (let here : Some y ≡ Some x = e in let is : y ≡ x = cc in ap (λ z. z ∷ xs) is)
drop_some (y ∷ xs) (suc n) x e = drop_some xs n x e

module _ (base : Setting) (b : ℕ) (known : b < length base.plan.buffers) (local : feeder base b ≡ reader base b) where
  abbrev put : List Call → List (List Cell)
  put done = somes (puts_to b done)

  abbrev left : List Call → List (List Cell)
  left done = drop (got_in b done) (put done)

  abbrev Goes : List Call → List Call → Type 0
  Goes done rest = Follows (capacity_of base b) (left done) (on b rest) (left (done ++ rest))

  off_by : (c : ℕ) → b ≢ c → nat_eq b c ≡ false
  off_by c other = grind (arith, nat_tests)

  here_by : (c : ℕ) → b ≡ c → nat_eq b c ≡ true
  here_by c same = grind (arith, nat_tests)

  -- what one call more leaves
  left_took : (done : List Call) (c : ℕ) (answer : Answer) → put (done ++ Took c answer ∷ []) ≡ put done
  left_took done c answer = put_more b done (Took c answer ∷ []) ∙ append-nil (put done)

  got_given : (done : List Call) (c : ℕ) (chunk : List Cell) (accepted : Bool) → got_in b (done ++ Given c chunk accepted ∷ []) ≡ got_in b done
  got_given done c chunk accepted = ap (λ (l : List (List Cell)). length l) (got_more b done (Given c chunk accepted ∷ []) ∙ append-nil (somes (takes_of b done)))

  -- the test of a number in a call on a buffer
  abbrev took_on : Bool → (c : ℕ) → Answer → List Call → List Call
  took_on s c answer rest = cond s (Took c answer ∷ on b rest) (on b rest)

  step : (done rest : List Call) (call : Call) → AreInOrder base (done ++ call ∷ rest) → Goes (done ++ call ∷ []) rest → Goes done (call ∷ rest)
  step done rest (Took c answer) order more = by (cases_eq b c) answer (order.each done rest (Took c answer) refl) more
    where
      whole : (answer : Answer) → left ((done ++ Took c answer ∷ []) ++ rest) ≡ left (done ++ Took c answer ∷ rest)
      whole answer = ap left (append_assoc done (Took c answer ∷ []) rest)

      got_off : (answer : Answer) → nat_eq b c ≡ false → got_in b (done ++ Took c answer ∷ []) ≡ got_in b done
      got_off answer e = ap (λ (l : List (List Cell)). length l) (got_more b done (Took c answer ∷ []) ∙ ap (λ (s : Bool). somes (takes_of b done) ++ somes (cond s (answer ∷ []) [])) e ∙ append-nil (somes (takes_of b done)))

      got_here : (answer : Answer) → nat_eq b c ≡ true → got_in b (done ++ Took c answer ∷ []) ≡ length (somes (takes_of b done) ++ somes (answer ∷ []))
      got_here answer e = ap (λ (l : List (List Cell)). length l) (got_more b done (Took c answer ∷ []) ∙ ap (λ (s : Bool). somes (takes_of b done) ++ somes (cond s (answer ∷ []) [])) e)

      by : (b ≡ c) ⊎ (b ≢ c) → (answer : Answer) → (c < length base.plan.buffers → feeder base c ≡ reader base c → Suits (capacity_of base c) (somes (puts_to c done)) (got_in c done) (Took c answer))
          → Goes (done ++ Took c answer ∷ []) rest → Goes done (Took c answer ∷ rest)
      by (inr other) answer suits more =
          let e = off_by c other in
          let same : left (done ++ Took c answer ∷ []) ≡ left done = (λ i. drop (got_off answer e i) (left_took done c answer i)) in
          subst (λ (l : List Call). Follows (capacity_of base b) (left done) l (left (done ++ Took c answer ∷ rest))) (sym (ap (λ (s : Bool). took_on s c answer rest) e))
          (subst (λ (l : List (List Cell)). Follows (capacity_of base b) l (on b rest) (left (done ++ Took c answer ∷ rest))) same
          (subst (Follows (capacity_of base b) (left (done ++ Took c answer ∷ [])) (on b rest)) (whole answer) more))
      by (inl here) None suits more =
          let e = here_by c here in
          let suit : length (put done) ≡ got_in b done = subst (λ (k : ℕ). length (somes (puts_to k done)) ≡ got_in k done) (sym here) (suits (subst (λ (k : ℕ). k < length base.plan.buffers) here known) (subst (λ (k : ℕ). feeder base k ≡ reader base k) here local)) in
          let none : left done ≡ [] = drop_of_length-le (put done) (omega (arith, suit)) in
          let gets : got_in b (done ++ Took c None ∷ []) ≡ got_in b done = got_here None e ∙ ap (λ (l : List (List Cell)). length l) (append-nil (somes (takes_of b done))) in
          let same : left (done ++ Took c None ∷ []) ≡ left done = (λ i. drop (gets i) (left_took done c None i)) in
          subst (λ (l : List Call). Follows (capacity_of base b) (left done) l (left (done ++ Took c None ∷ rest))) (sym (ap (λ (s : Bool). took_on s c None rest) e)) (
            none,
            subst (λ (l : List (List Cell)). Follows (capacity_of base b) l (on b rest) (left (done ++ Took c None ∷ rest))) same
                (subst (Follows (capacity_of base b) (left (done ++ Took c None ∷ [])) (on b rest)) (whole None) more),
          )
      by (inl here) (Some chunk) suits more =
          let e = here_by c here in
          let suit : slice_get (put done) (got_in b done) ≡ Some chunk = subst (λ (k : ℕ). slice_get (somes (puts_to k done)) (got_in k done) ≡ Some chunk) (sym here)
          (suits (subst (λ (k : ℕ). k < length base.plan.buffers) here known) (subst (λ (k : ℕ). feeder base k ≡ reader base k) here local)) in
          let size = length-append (somes (takes_of b done)) (chunk ∷ []) in
          let gets : got_in b (done ++ Took c (Some chunk) ∷ []) ≡ suc (got_in b done) = (let g = got_here (Some chunk) e in omega (arith, g, size)) in
          let same : left (done ++ Took c (Some chunk) ∷ []) ≡ drop (suc (got_in b done)) (put done) = (λ i. drop (gets i) (left_took done c (Some chunk) i)) in
          subst (λ (l : List Call). Follows (capacity_of base b) (left done) l (left (done ++ Took c (Some chunk) ∷ rest))) (sym (ap (λ (s : Bool). took_on s c (Some chunk) rest) e)) (
            drop (suc (got_in b done)) (put done),
            drop_some (put done) (got_in b done) chunk suit,
            subst (λ (l : List (List Cell)). Follows (capacity_of base b) l (on b rest) (left (done ++ Took c (Some chunk) ∷ rest))) same
                (subst (Follows (capacity_of base b) (left (done ++ Took c (Some chunk) ∷ [])) (on b rest)) (whole (Some chunk)) more),
          )
  step done rest (Given c chunk accepted) order more = by (cases_eq b c) accepted (order.each done rest (Given c chunk accepted) refl) low more
    where
      low : got_in b done ≤ length (put done)
      low = got_within base b known local [] done (record { each = λ front behind call at. order.each front (behind ++ Given c chunk accepted ∷ rest) call (ap (λ (l : List Call). l ++ Given c chunk accepted ∷ rest) at ∙ append_assoc front (call ∷ behind) (Given c chunk accepted ∷ rest)) }) (omega arith)

      whole : (accepted : Bool) → left ((done ++ Given c chunk accepted ∷ []) ++ rest) ≡ left (done ++ Given c chunk accepted ∷ rest)
      whole accepted = ap left (append_assoc done (Given c chunk accepted ∷ []) rest)

      put_by_test : (accepted : Bool) (s : Bool) → nat_eq b c ≡ s → put (done ++ Given c chunk accepted ∷ []) ≡ put done ++ somes (cond s (put_of chunk accepted ∷ []) [])
      put_by_test accepted s e = put_more b done (Given c chunk accepted ∷ []) ∙ ap (λ (s : Bool). put done ++ somes (cond s (put_of chunk accepted ∷ []) [])) e

      by : (b ≡ c) ⊎ (b ≢ c) → (accepted : Bool) → (c < length base.plan.buffers → feeder base c ≡ reader base c → Suits (capacity_of base c) (somes (puts_to c done)) (got_in c done) (Given c chunk accepted))
          → got_in b done ≤ length (put done) → Goes (done ++ Given c chunk accepted ∷ []) rest → Goes done (Given c chunk accepted ∷ rest)
      by (inr other) accepted suits low more =
          let e = off_by c other in
          let same : left (done ++ Given c chunk accepted ∷ []) ≡ left done = (λ i. drop (got_given done c chunk accepted i) ((put_by_test accepted false e ∙ append-nil (put done)) i)) in
          subst (λ (l : List Call). Follows (capacity_of base b) (left done) l (left (done ++ Given c chunk accepted ∷ rest))) (sym (ap (λ (s : Bool). cond s (Given c chunk accepted ∷ on b rest) (on b rest)) e))
          (subst (λ (l : List (List Cell)). Follows (capacity_of base b) l (on b rest) (left (done ++ Given c chunk accepted ∷ rest))) same
          (subst (Follows (capacity_of base b) (left (done ++ Given c chunk accepted ∷ [])) (on b rest)) (whole accepted) more))
      by (inl here) true suits low more =
          let e = here_by c here in
          let suit : length (put done) < capacity_of base b + got_in b done = subst (λ (k : ℕ). length (somes (puts_to k done)) < capacity_of base k + got_in k done) (sym here)
          (suits (subst (λ (k : ℕ). k < length base.plan.buffers) here known) (subst (λ (k : ℕ). feeder base k ≡ reader base k) here local)) in
          let size = length-drop (got_in b done) (put done) in
          let same : left (done ++ Given c chunk true ∷ []) ≡ left done ++ chunk ∷ [] = (λ i. drop (got_given done c chunk true i) (put_by_test true true e i)) ∙ drop-append-le (got_in b done) (put done) (chunk ∷ []) low in
          subst (λ (l : List Call). Follows (capacity_of base b) (left done) l (left (done ++ Given c chunk true ∷ rest))) (sym (ap (λ (s : Bool). cond s (Given c chunk true ∷ on b rest) (on b rest)) e)) (
            omega (arith, suit, size, low),
            subst (λ (l : List (List Cell)). Follows (capacity_of base b) l (on b rest) (left (done ++ Given c chunk true ∷ rest))) same
                (subst (Follows (capacity_of base b) (left (done ++ Given c chunk true ∷ [])) (on b rest)) (whole true) more),
          )
      by (inl here) false suits low more =
          let e = here_by c here in
          let suit : length (put done) ≡ capacity_of base b + got_in b done = subst (λ (k : ℕ). length (somes (puts_to k done)) ≡ capacity_of base k + got_in k done) (sym here)
          (suits (subst (λ (k : ℕ). k < length base.plan.buffers) here known) (subst (λ (k : ℕ). feeder base k ≡ reader base k) here local)) in
          let size = length-drop (got_in b done) (put done) in
          let same : left (done ++ Given c chunk false ∷ []) ≡ left done = (λ i. drop (got_given done c chunk false i) ((put_by_test false true e ∙ append-nil (put done)) i)) in
          subst (λ (l : List Call). Follows (capacity_of base b) (left done) l (left (done ++ Given c chunk false ∷ rest))) (sym (ap (λ (s : Bool). cond s (Given c chunk false ∷ on b rest) (on b rest)) e)) (
            omega (arith, suit, size, low),
            subst (λ (l : List (List Cell)). Follows (capacity_of base b) l (on b rest) (left (done ++ Given c chunk false ∷ rest))) same
                (subst (Follows (capacity_of base b) (left (done ++ Given c chunk false ∷ [])) (on b rest)) (whole false) more),
          )

  pub suits_follow : (done rest : List Call) → AreInOrder base (done ++ rest) → Goes done rest
  suits_follow done [] order = ap left (sym (append-nil done))
  suits_follow done (call ∷ rest) order =
      step done rest call order (suits_follow (done ++ call ∷ []) rest (subst (AreInOrder base) (sym (append_assoc done (call ∷ []) rest)) order))
