-- Laws over lists alone.
use Rattle.std.specs.Prelude.{◌≡◌, ℕ, suc, ◌+◌, ◌<◌, ◌≤◌, Bool, true, false, List, [], ◌∷◌, ◌++◌, length, map, drop, Option, Some, None, refl}
use Rattle.std.proofs.Common.{sym, ap, ◌∙◌, subst, arith, append_assoc, length-append, append-nil}
use Rattle.frame_core.specs.Frames.{somes}
use Rattle.frame_core.specs.Legal.{Legal, IsHistory}
use Rattle.frame_core.specs.Legal.Legal.{all_done, accepted, put_refused, got, empty}
use Rattle.frame_core.specs.Order.{Move, puts_of, gots_of, Ordered, last_or, Fits, answers_of, left_by}
use Rattle.frame_core.specs.Order.Move.{Put, Got}

-- no false answer comes first
abbrev Clean : List Bool → Type 0
Clean [] = Unit {0}
Clean (true ∷ bs) = Unit {0}
Clean (false ∷ bs) = ⊥

module _ {X : Type 0} where
  pub puts_of-put : (es : List (Move X)) (c : X) (n : ℕ) → puts_of (es ++ Put c n ∷ []) ≡ puts_of es ++ (c, n) ∷ []
  puts_of-put [] c n = refl
  puts_of-put (Put d m ∷ es) c n = ap (λ l. (d, m) ∷ l) (puts_of-put es c n)
  puts_of-put (Got d m ∷ es) c n = puts_of-put es c n

  pub puts_of-got : (es : List (Move X)) (c : X) (n : ℕ) → puts_of (es ++ Got c n ∷ []) ≡ puts_of es
  puts_of-got [] c n = refl
  puts_of-got (Put d m ∷ es) c n = ap (λ l. (d, m) ∷ l) (puts_of-got es c n)
  puts_of-got (Got d m ∷ es) c n = puts_of-got es c n

  pub gots_of-put : (es : List (Move X)) (c : X) (n : ℕ) → gots_of (es ++ Put c n ∷ []) ≡ gots_of es
  gots_of-put [] c n = refl
  gots_of-put (Put d m ∷ es) c n = gots_of-put es c n
  gots_of-put (Got d m ∷ es) c n = ap (λ l. (d, m) ∷ l) (gots_of-put es c n)

  pub gots_of-got : (es : List (Move X)) (c : X) (n : ℕ) → gots_of (es ++ Got c n ∷ []) ≡ gots_of es ++ (c, n) ∷ []
  gots_of-got [] c n = refl
  gots_of-got (Put d m ∷ es) c n = gots_of-got es c n
  gots_of-got (Got d m ∷ es) c n = ap (λ l. (d, m) ∷ l) (gots_of-got es c n)

  -- a put comes last
  pub ordered_put : (C : ℕ) (es : List (Move X)) (q r : List X) (c : X) → length r < C → Ordered C q es r
      → Ordered C q (es ++ Put c (length (r ++ c ∷ [])) ∷ []) (r ++ c ∷ [])
  ordered_put C [] q r c h e = (subst (λ (l : List X). length l < C) (sym e) h, ap (λ (l : List X). length (l ++ c ∷ [])) (sym e), ap (λ (l : List X). l ++ c ∷ []) e)
  ordered_put C (Put d m ∷ es) q r c h o = (o.0, o.1, ordered_put C es (q ++ d ∷ []) r c h o.2)
  ordered_put C (Got d m ∷ es) q r c h o = (o.0, o.1, o.2, ordered_put C es o.0 r c h o.3)

  -- a get comes last
  pub ordered_got : (C : ℕ) (es : List (Move X)) (q r : List X) (c : X) → Ordered C q es (c ∷ r) → Ordered C q (es ++ Got c (length r) ∷ []) r
  ordered_got C [] q r c e = (r, e, refl, refl)
  ordered_got C (Put d m ∷ es) q r c o = (o.0, o.1, ordered_got C es (q ++ d ∷ []) r c o.2)
  ordered_got C (Got d m ∷ es) q r c o = (o.0, o.1, o.2, ordered_got C es o.0 r c o.3)

  -- the queue is never over full
  pub ordered_most : (C : ℕ) (es : List (Move X)) (q r : List X) → length q ≤ C → Ordered C q es r → length r ≤ C
  ordered_most C [] q r h e = subst (λ (l : List X). length l ≤ C) e h
  ordered_most C (Put c n ∷ es) q r h o = ordered_most C es (q ++ c ∷ []) r (omega (arith, length-append q (c ∷ []), o.0)) o.2
  ordered_most C (Got c n ∷ es) q r h o = ordered_most C es o.0 r (omega (arith, ap length o.1)) o.3

  last_or_most : (d e : ℕ) (ms : List (X × ℕ)) → d ≤ e → last_or d ms ≤ last_or e ms
  last_or_most d e [] h = h
  last_or_most d e (m ∷ ms) h = omega arith

  -- since the last put only gets have come
  pub puts_bound : (C : ℕ) (es : List (Move X)) (q r : List X) → Ordered C q es r → length r ≤ last_or (length q) (puts_of es)
  puts_bound C [] q r e = omega (arith, ap length e)
  puts_bound C (Put c n ∷ es) q r o = subst (λ k. length r ≤ last_or k (puts_of es)) (sym o.1) (puts_bound C es (q ++ c ∷ []) r o.2)
  puts_bound C (Got c n ∷ es) q r o = omega (arith, puts_bound C es o.0 r o.3, last_or_most (length o.0) (length q) (puts_of es) (omega (arith, ap length o.1)))

  -- since the last get only puts have come
  pub gots_bound : (C : ℕ) (es : List (Move X)) (q r : List X) → Ordered C q es r → last_or (length q) (gots_of es) ≤ length r
  gots_bound C [] q r e = omega (arith, ap length e)
  gots_bound C (Put c n ∷ es) q r o = omega (arith, gots_bound C es (q ++ c ∷ []) r o.2, last_or_most (length q) (length (q ++ c ∷ [])) (gots_of es) (omega (arith, length-append q (c ∷ []))))
  gots_bound C (Got c n ∷ es) q r o = subst (λ k. last_or k (gots_of es) ≤ length r) (sym o.2) (gots_bound C es o.0 r o.3)

  -- no put left more than C chunks
  pub puts_most : (C : ℕ) (es : List (Move X)) (q r : List X) (d : ℕ) → d ≤ C → Ordered C q es r → last_or d (puts_of es) ≤ C
  puts_most C [] q r d h e = h
  puts_most C (Put c n ∷ es) q r d h o = puts_most C es (q ++ c ∷ []) r n (omega (arith, length-append q (c ∷ []), o.0, o.1)) o.2
  puts_most C (Got c n ∷ es) q r d h o = puts_most C es o.0 r d h o.3

  -- a full queue: the last put, or the beginning, left C chunks
  pub full_left : (C : ℕ) (es : List (Move X)) (q r : List X) → length q ≤ C → Ordered C q es r → length r ≡ C → last_or (length q) (puts_of es) ≡ C
  full_left C es q r h o e = omega (arith, puts_most C es q r (length q) h o, puts_bound C es q r o)

  -- an empty queue: the last get, or the beginning, left none
  pub empty_left : (C : ℕ) (es : List (Move X)) (q r : List X) → Ordered C q es r → length r ≡ 0 → last_or (length q) (gots_of es) ≡ 0
  empty_left C es q r o e = omega (arith, gots_bound C es q r o)

  -- what the moves leave
  pub ordered_left : (C : ℕ) (es : List (Move X)) (q r : List X) → Ordered C q es r → r ≡ left_by q (puts_of es) (gots_of es)
  ordered_left C [] q r e = sym (append-nil q ∙ e)
  ordered_left C (Put c n ∷ es) q r o =
      ordered_left C es (q ++ c ∷ []) r o.2 ∙ ap (λ l. drop (length (gots_of es)) l) (append_assoc q (c ∷ []) (map (λ m. m.0) (puts_of es)))
  ordered_left C (Got c n ∷ es) q r o =
      ordered_left C es o.0 r o.3 ∙ ap (λ l. drop (suc (length (gots_of es))) (l ++ map (λ m. m.0) (puts_of es))) (sym o.1)

  pub fits_yes : (s d : ℕ) (bs : List Bool) (ms : List (X × ℕ)) (m : X × ℕ) → Fits s d bs ms → Fits s d (bs ++ true ∷ []) (ms ++ m ∷ [])
  fits_yes s d [] [] m f = tt
  fits_yes s d [] (k ∷ ms) m f = absurd f
  fits_yes s d (true ∷ bs) [] m f = absurd f
  fits_yes s d (true ∷ bs) (k ∷ ms) m f = fits_yes s k.1 bs ms m f
  fits_yes s d (false ∷ bs) ms m f = (f.0, fits_yes s d bs ms m f.1)

  pub fits_no : (s d : ℕ) (bs : List Bool) (ms : List (X × ℕ)) → last_or d ms ≡ s → Fits s d bs ms → Fits s d (bs ++ false ∷ []) ms
  fits_no s d [] [] e f = (e, tt)
  fits_no s d [] (k ∷ ms) e f = absurd f
  fits_no s d (true ∷ bs) [] e f = absurd f
  fits_no s d (true ∷ bs) (k ∷ ms) e f = fits_no s k.1 bs ms e f
  fits_no s d (false ∷ bs) ms e f = (f.0, fits_no s d bs ms e f.1)

  pub answers_yes : (s d : ℕ) (bs : List Bool) (ms : List (X × ℕ)) (m : X × ℕ) → Fits s d bs ms → answers_of (bs ++ true ∷ []) (ms ++ m ∷ []) ≡ answers_of bs ms ++ Some m.0 ∷ []
  answers_yes s d [] [] m f = refl
  answers_yes s d [] (k ∷ ms) m f = absurd f
  answers_yes s d (true ∷ bs) [] m f = absurd f
  answers_yes s d (true ∷ bs) (k ∷ ms) m f = ap (λ l. Some k.0 ∷ l) (answers_yes s k.1 bs ms m f)
  answers_yes s d (false ∷ bs) ms m f = ap (λ l. None ∷ l) (answers_yes s d bs ms m f.1)

  pub answers_no : (s d : ℕ) (bs : List Bool) (ms : List (X × ℕ)) → Fits s d bs ms → answers_of (bs ++ false ∷ []) ms ≡ answers_of bs ms ++ None ∷ []
  answers_no s d [] [] f = refl
  answers_no s d [] (k ∷ ms) f = absurd f
  answers_no s d (true ∷ bs) [] f = absurd f
  answers_no s d (true ∷ bs) (k ∷ ms) f = ap (λ l. Some k.0 ∷ l) (answers_no s k.1 bs ms f)
  answers_no s d (false ∷ bs) ms f = ap (λ l. None ∷ l) (answers_no s d bs ms f.1)

  -- the Full answers directly behind a put stand there
  full_first : (C : ℕ) (r q : List X) (bs : List Bool) (ms : List (X × ℕ)) (takes : List (Option X)) → Fits C (length q) bs ms
      → ((cs : List Bool) → Clean cs → Fits C (length q) cs ms → Legal C r q (answers_of cs ms) takes) → Legal C r q (answers_of bs ms) takes
  full_first C r q [] ms takes f go = go [] tt f
  full_first C r q (true ∷ bs) ms takes f go = go (true ∷ bs) tt f
  full_first C r q (false ∷ bs) ms takes f go = put_refused (f.0) (full_first C r q bs ms takes f.1 go)

  -- the empty answers directly behind a get stand there
  empty_first : (C : ℕ) (r q : List X) (puts : List (Option X)) (bs : List Bool) (ms : List (X × ℕ)) → Fits 0 (length q) bs ms
      → ((cs : List Bool) → Clean cs → Fits 0 (length q) cs ms → Legal C r q puts (answers_of cs ms)) → Legal C r q puts (answers_of bs ms)
  empty_first C r q puts [] ms f go = go [] tt f
  empty_first C r q puts (true ∷ bs) ms f go = go (true ∷ bs) tt f
  empty_first C r [] puts (false ∷ bs) ms f go = empty (empty_first C r [] puts bs ms f.1 go)
  empty_first C r (c ∷ q) puts (false ∷ bs) ms f go = absurd (omega (arith, f.0))

  -- a clean list of answers does not ask what came before
  clean_any : (s d e : ℕ) (bs : List Bool) (ms : List (X × ℕ)) → Clean bs → Fits s d bs ms → Fits s e bs ms
  clean_any s d e [] [] c f = f
  clean_any s d e [] (m ∷ ms) c f = f
  clean_any s d e (true ∷ bs) [] c f = f
  clean_any s d e (true ∷ bs) (m ∷ ms) c f = f
  clean_any s d e (false ∷ bs) ms c f = absurd c

  legal_clean : (C : ℕ) (r : List X) (es : List (Move X)) (q : List X) (bs cs : List Bool) → Clean bs → Clean cs → Ordered C q es r
      → Fits C (length q) bs (puts_of es) → Fits 0 (length q) cs (gots_of es) → Legal C r q (answers_of bs (puts_of es)) (answers_of cs (gots_of es))
  legal_clean C r [] q [] [] x y o f g = subst (λ (l : List X). Legal C r l [] []) (sym o) all_done
  legal_clean C r [] q (true ∷ bs) cs x y o f g = absurd f
  legal_clean C r [] q (false ∷ bs) cs x y o f g = absurd x
  legal_clean C r [] q [] (true ∷ cs) x y o f g = absurd g
  legal_clean C r [] q [] (false ∷ cs) x y o f g = absurd y
  legal_clean C r (Put c n ∷ es) q [] cs x y o f g = absurd f
  legal_clean C r (Put c n ∷ es) q (false ∷ bs) cs x y o f g = absurd x
  legal_clean C r (Put c n ∷ es) q (true ∷ bs) cs x y o f g =
      let f' : Fits C (length (q ++ c ∷ [])) bs (puts_of es) = subst (λ k. Fits C k bs (puts_of es)) o.1 f in
      let g' : Fits 0 (length (q ++ c ∷ [])) cs (gots_of es) = clean_any 0 (length q) (length (q ++ c ∷ [])) cs (gots_of es) y g in
      accepted o.0 (full_first C r (q ++ c ∷ []) bs (puts_of es) (answers_of cs (gots_of es)) f' (λ ds z h. legal_clean C r es (q ++ c ∷ []) ds cs z y o.2 h g'))
  legal_clean C r (Got c n ∷ es) q bs [] x y o f g = absurd g
  legal_clean C r (Got c n ∷ es) q bs (false ∷ cs) x y o f g = absurd y
  legal_clean C r (Got c n ∷ es) q bs (true ∷ cs) x y o f g =
      let f' : Fits C (length o.0) bs (puts_of es) = clean_any C (length q) (length o.0) bs (puts_of es) x f in
      let g' : Fits 0 (length o.0) cs (gots_of es) = subst (λ k. Fits 0 k cs (gots_of es)) o.2 g in
      subst (λ (l : List X). Legal C r l (answers_of bs (puts_of es)) (Some c ∷ answers_of cs (gots_of es))) (sym o.1)
      (got (empty_first C r o.0 (answers_of bs (puts_of es)) cs (gots_of es) g' (λ ds z h. legal_clean C r es o.0 bs ds x z o.3 f' h)))

  -- every Full and every empty answer has its place in the order of the moves
  pub legal_of_order : (C : ℕ) (r : List X) (es : List (Move X)) (q : List X) (bs cs : List Bool) → Ordered C q es r
      → Fits C (length q) bs (puts_of es) → Fits 0 (length q) cs (gots_of es) → Legal C r q (answers_of bs (puts_of es)) (answers_of cs (gots_of es))
  legal_of_order C r es q bs cs o f g =
      full_first C r q bs (puts_of es) (answers_of cs (gots_of es)) f
      (λ ds z h. empty_first C r q (answers_of ds (puts_of es)) cs (gots_of es) g (λ ts w k. legal_clean C r es q ds ts z w o h k))

  -- what was there and what was put is what was got and what is left
  pub ordered_sum : (C : ℕ) (es : List (Move X)) (q r : List X) → Ordered C q es r → length q + length (puts_of es) ≡ length r + length (gots_of es)
  ordered_sum C [] q r e = omega (arith, ap length e)
  ordered_sum C (Put c n ∷ es) q r o = omega (arith, length-append q (c ∷ []), ordered_sum C es (q ++ c ∷ []) r o.2)
  ordered_sum C (Got c n ∷ es) q r o = omega (arith, ap length o.1, ordered_sum C es o.0 r o.3)

  -- as many items as there are moves
  pub length-answers_of : (s d : ℕ) (bs : List Bool) (ms : List (X × ℕ)) → Fits s d bs ms → length (somes (answers_of bs ms)) ≡ length ms
  length-answers_of s d [] [] f = refl
  length-answers_of s d [] (m ∷ ms) f = absurd f
  length-answers_of s d (true ∷ bs) [] f = absurd f
  length-answers_of s d (true ∷ bs) (m ∷ ms) f = ap suc (length-answers_of s m.1 bs ms f)
  length-answers_of s d (false ∷ bs) ms f = length-answers_of s d bs ms f.1

  -- the items got, and then what is left, are what was there and then what was accepted
  pub legal_whole : {C : ℕ} {r q : List X} {puts takes : List (Option X)} → Legal C r q puts takes → q ++ somes puts ≡ somes takes ++ r
  legal_whole {r = r} all_done = append-nil r
  legal_whole (accepted {queue = q} {x = x} {puts = puts} less rest) = sym (append_assoc q (x ∷ []) (somes puts)) ∙ legal_whole rest
  legal_whole (put_refused is rest) = legal_whole rest
  legal_whole (got {x = x} rest) = ap (λ l. x ∷ l) (legal_whole rest)
  legal_whole (empty rest) = legal_whole rest

  -- one window more
  pub run_more : (C : ℕ) (q m r : List X) (windows : List (List (Option X) × List (Option X))) (puts takes : List (Option X))
      → IsHistory C q windows m → Legal C r m puts takes → IsHistory C q (windows ++ (puts, takes) ∷ []) r
  run_more C q m r [] puts takes run window = (r, subst (λ (l : List X). Legal C r l puts takes) (sym run) window, refl)
  run_more C q m r (w ∷ windows) puts takes run window = (run.0, run.1, run_more C run.0 m r windows puts takes run.2 window)
