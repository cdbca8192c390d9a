-- The kinds that a text names, in the order of first mention.
use Rattle.std.proofs.Common.{◌≡◌, ◌∙◌, sym, ap, subst, refl, ℕ, zero, suc, ◌+◌, ◌<◌, ◌≤◌, Bool, true, false, cond, not, ◌||◌, List, [], ◌∷◌, ◌++◌, length, length-append, map, take, slice_get, nat_eq, nat_lt, if◌then◌else◌, Option, Some, None, ltb-true, ltb-false, eqb-true, append_assoc, arith}
use Rattle.std.specs.Prelude.{⊤}
use Rattle.std.specs.List.{flat_map, list_any, position_or_len}
use Rattle.std.proofs.lemmas.List.{append-nil}
use Rattle.type_terms.specs.Term.{InTerms, source_term, terms_of}
use Rattle.type_terms.specs.declared.ty.KindTerm.{KindTerm}
use Rattle.type_terms.specs.declared.ty.KindTerm.TheVariants.{Fixed, Var}
use Rattle.typing_rules.specs.Kinds.{numbered_on}
use Rattle.type_instances.specs.declared.general.KindParameter.{KindParameter}
use Rattle.type_instances.specs.declared.general.KindParameter.TheVariants.{Open as OpenKind, Unread, Outer as OuterKind}
use Rattle.type_instances.specs.Schemes.{open_numbers}
use Rattle.type_instances.proofs.Reading.{none_is, some_is}
use Rattle.general_types.specs.Generals.{open_of}
use Rattle.general_types.specs.Holding.{HeldVariables}
use Rattle.general_types.specs.Numbering.{kind_parameters, place_of}
use Rattle.general_types.specs.Texts.{text_kind, variable_in_text}
use Rattle.general_types.proofs.KindLists.{open_among_first}
use Rattle.general_types.proofs.Members.{number_same}

-- ---- one more

lt_true : (a b : ℕ) → a < b → nat_lt a b ≡ true
lt_true a b l = by (nat_lt a b) refl where
  by : (x : Bool) → nat_lt a b ≡ x → nat_lt a b ≡ true
  by true e = e
  by false e = absurd (let g = ltb-false a b e in omega (arith, l, g))

counted_old : (n i : ℕ) (js : List ℕ) → i < n → numbered_on n (i ∷ js) ≡ numbered_on n js
counted_old n i js l = ap (λ (b : Bool). cond b (numbered_on n js) (cond (nat_eq i n) (numbered_on (suc n) js) None)) (lt_true i n l)

counted_new : (n i : ℕ) (js : List ℕ) → i ≡ n → numbered_on n (i ∷ js) ≡ numbered_on (suc n) js
counted_new n i js e =
    ap (λ (b : Bool). cond b (numbered_on n js) (cond (nat_eq i n) (numbered_on (suc n) js) None)) (lt_same i n e)
    ∙ ap (λ (b : Bool). cond b (numbered_on (suc n) js) None) (eq_same i n e)
  where
    lt_same : (i n : ℕ) → i ≡ n → nat_lt i n ≡ false
    lt_same i n e = by (nat_lt i n) refl where
      by : (x : Bool) → nat_lt i n ≡ x → nat_lt i n ≡ false
      by true f = absurd (let g = ltb-true i n f in omega (arith, e, g))
      by false f = f

    eq_same : (i n : ℕ) → i ≡ n → nat_eq i n ≡ true
    eq_same i n e = subst (λ m. nat_eq i m ≡ true) e (number_same i)

-- ---- the place of a number

place_absent : (xs : List ℕ) (k : ℕ) → list_any (nat_eq k) xs ≡ false → position_or_len (nat_eq k) xs ≡ length xs
place_absent [] k e = refl
place_absent (x ∷ xs) k e = by (nat_eq k x) e (place_absent xs k) where
  by : (b : Bool) → (b || list_any (nat_eq k) xs) ≡ false → (list_any (nat_eq k) xs ≡ false → position_or_len (nat_eq k) xs ≡ length xs) → cond (not b) (1 + position_or_len (nat_eq k) xs) 0 ≡ suc (length xs)
  by true f r = absurd (let g : true ≡ false = f in cc)
  by false f r = let e = r f in omega (arith, e)

place_there : (xs : List ℕ) (k : ℕ) → list_any (nat_eq k) xs ≡ true → position_or_len (nat_eq k) xs < length xs
place_there [] k e = absurd (let g : false ≡ true = e in cc)
place_there (x ∷ xs) k e = by (nat_eq k x) e (place_there xs k) where
  by : (b : Bool) → (b || list_any (nat_eq k) xs) ≡ true → (list_any (nat_eq k) xs ≡ true → position_or_len (nat_eq k) xs < length xs) → cond (not b) (1 + position_or_len (nat_eq k) xs) 0 < suc (length xs)
  by true f r = omega arith
  by false f r = let l = r f in omega (arith, l)

pub place_counted : (xs ys : List ℕ) (k i : ℕ) → ys ≡ (if list_any (nat_eq k) xs then xs else xs ++ k ∷ []) → i ≡ position_or_len (nat_eq k) xs → numbered_on (length xs) (i ∷ []) ≡ Some (length ys)
place_counted xs ys k i e f = by (list_any (nat_eq k) xs) refl e where
  by : (b : Bool) → list_any (nat_eq k) xs ≡ b → ys ≡ (if b then xs else xs ++ k ∷ []) → numbered_on (length xs) (i ∷ []) ≡ Some (length ys)
  by true g h = counted_old (length xs) i [] (subst (λ j. j < length xs) (sym f) (place_there xs k g)) ∙ ap (λ (zs : List ℕ). Some (length zs)) (sym h)
  by false g h =
      let long : length ys ≡ suc (length xs) = (let l : length ys ≡ length xs + 1 = ap (λ (zs : List ℕ). length zs) h ∙ length-append xs (k ∷ []) in omega (arith, l)) in
      counted_new (length xs) i [] (f ∙ place_absent xs k g) ∙ ap Some (sym long)

-- ---- the places that kinds name

counted_append : (js ks : List ℕ) (n m : ℕ) → numbered_on n js ≡ Some m → numbered_on n (js ++ ks) ≡ numbered_on m ks
counted_append [] ks n m h = ap (λ (k : ℕ). numbered_on k ks) (some_is n m h)
counted_append (j ∷ js) ks n m h = by (nat_lt j n) (nat_eq j n) (counted_append js ks n m) (counted_append js ks (suc n) m) h where
  by : (b c : Bool) → (numbered_on n js ≡ Some m → numbered_on n (js ++ ks) ≡ numbered_on m ks) → (numbered_on (suc n) js ≡ Some m → numbered_on (suc n) (js ++ ks) ≡ numbered_on m ks) → cond b (numbered_on n js) (cond c (numbered_on (suc n) js) None) ≡ Some m → cond b (numbered_on n (js ++ ks)) (cond c (numbered_on (suc n) (js ++ ks)) None) ≡ numbered_on m ks
  by true c f g e = f e
  by false true f g e = g e
  by false false f g e = none_is m e

places_push : (cs : List KindTerm) (c : KindTerm) → flat_map place_of (cs ++ (c ∷ [])) ≡ flat_map place_of cs ++ place_of c
places_push [] c = append-nil (place_of c)
places_push (d ∷ cs) c = ap (λ (js : List ℕ). place_of d ++ js) (places_push cs c) ∙ sym (append_assoc (place_of d) (flat_map place_of cs) (place_of c))

pub places_next : (cs cs' : List KindTerm) (c : KindTerm) (n m k : ℕ) → cs' ≡ cs ++ (c ∷ []) → numbered_on n (flat_map place_of cs) ≡ Some m → numbered_on m (place_of c) ≡ Some k → numbered_on n (flat_map place_of cs') ≡ Some k
places_next cs cs' c n m k pushed before here =
    ap (λ (ds : List KindTerm). numbered_on n (flat_map place_of ds)) pushed ∙ ap (numbered_on n) (places_push cs c) ∙ counted_append (flat_map place_of cs) (place_of c) n m before ∙ here

record Below (n m : ℕ) (cs : List KindTerm) : Type 0 where
  pub rises : n ≤ m
  pub below : InTerms (λ k. ⊤) (λ i. i < m) (terms_of (map source_term cs))

places_below : (n m : ℕ) (cs : List KindTerm) → numbered_on n (flat_map place_of cs) ≡ Some m → Below n m cs
places_below n m [] e = let d = some_is n m e in record { rises = omega (arith, d); below = tt }
places_below n m (Fixed k ∷ cs) e = let r = places_below n m cs e in record { rises = r.rises; below = (tt, r.below) }
places_below n m (Var i ∷ cs) e = by (nat_lt i n) (nat_eq i n) refl refl (places_below n m cs) (places_below (suc n) m cs) e where
  by : (b c : Bool) → nat_lt i n ≡ b → nat_eq i n ≡ c → (numbered_on n (flat_map place_of cs) ≡ Some m → Below n m cs) → (numbered_on (suc n) (flat_map place_of cs) ≡ Some m → Below (suc n) m cs) →
      cond b (numbered_on n (flat_map place_of cs)) (cond c (numbered_on (suc n) (flat_map place_of cs)) None) ≡ Some m → Below n m (Var i ∷ cs)
  by true c p q same more f =
      let r = same f in
      let l : i < n = ltb-true i n p in
      let up = r.rises in
      record { rises = up; below = (omega (arith, l, up), r.below) }
  by false true p q same more f =
      let r = more f in
      let is : i ≡ n = eqb-true i n q in
      let up = r.rises in
      record { rises = omega (arith, up); below = (omega (arith, is, up), r.below) }
  by false false p q same more f = none_is m f

pub places_inside : (m : ℕ) (cs : List KindTerm) → numbered_on 0 (flat_map place_of cs) ≡ Some m → InTerms (λ k. ⊤) (λ i. i < m) (terms_of (map source_term cs))
places_inside m cs e = (places_below 0 m cs e).below

-- ---- the open ones before a place

abbrev rank : List KindParameter → ℕ → ℕ
rank ps i = length (open_numbers 0 (take i ps))

abbrev added : Option KindParameter → ℕ
added None = 0
added (Some OpenKind) = 1
added (Some Unread) = 0
added (Some (OuterKind k)) = 0

rank_more : (m : ℕ) (ps : List KindParameter) (i : ℕ) → length (open_numbers m (take (suc i) ps)) ≡ length (open_numbers m (take i ps)) + added (slice_get ps i)
rank_more m [] zero = refl
rank_more m [] (suc i) = refl
rank_more m (OpenKind ∷ ps) zero = refl
rank_more m (Unread ∷ ps) zero = refl
rank_more m (OuterKind k ∷ ps) zero = refl
rank_more m (OpenKind ∷ ps) (suc i) = let e = rank_more (suc m) ps i in omega (arith, e)
rank_more m (Unread ∷ ps) (suc i) = rank_more (suc m) ps i
rank_more m (OuterKind k ∷ ps) (suc i) = rank_more (suc m) ps i

rank_below : (m : ℕ) (ps : List KindParameter) (j n : ℕ) → j < n → slice_get ps j ≡ Some OpenKind → length (open_numbers m (take j ps)) < length (open_numbers m (take n ps))
rank_below m ps j zero l e = absurd (omega (arith, l))
rank_below m [] j (suc n) l e = none_is OpenKind e
rank_below m (OpenKind ∷ ps) zero (suc n) l e = omega arith
rank_below m (Unread ∷ ps) zero (suc n) l e = absurd (let g : Some Unread ≡ Some OpenKind = e in cc)
rank_below m (OuterKind k ∷ ps) zero (suc n) l e = absurd (let g : Some (OuterKind k) ≡ Some OpenKind = e in cc)
rank_below m (OpenKind ∷ ps) (suc j) (suc n) l e = let r = rank_below (suc m) ps j n (omega (arith, l)) e in omega (arith, r)
rank_below m (Unread ∷ ps) (suc j) (suc n) l e = rank_below (suc m) ps j n (omega (arith, l)) e
rank_below m (OuterKind k ∷ ps) (suc j) (suc n) l e = rank_below (suc m) ps j n (omega (arith, l)) e

-- ---- the open kinds of the text

module _ (ps : List KindParameter) (i : ℕ) (rest : List ℕ) where
  -- a place that was named before
  old_kind : (n : ℕ) → i < n → (o : Option KindParameter) → slice_get ps i ≡ o → numbered_on (rank ps n) (open_of (variable_in_text i (rank ps i) o) ++ rest) ≡ numbered_on (rank ps n) rest
  old_kind n l None e = refl
  old_kind n l (Some OpenKind) e = counted_old (rank ps n) (rank ps i) rest (rank_below 0 ps i n l e)
  old_kind n l (Some Unread) e = refl
  old_kind n l (Some (OuterKind k)) e = refl

  -- a new one
  new_kind : (n : ℕ) → i ≡ n → (o : Option KindParameter) → slice_get ps i ≡ o → numbered_on (rank ps n) (open_of (variable_in_text i (rank ps i) o) ++ rest) ≡ numbered_on (rank ps (suc n)) rest
  new_kind n same o e = by o e (subst (λ j. rank ps (suc j) ≡ rank ps j + added (slice_get ps i)) same (rank_more 0 ps i) ∙ ap (λ (x : Option KindParameter). rank ps n + added x) e) where
    by : (o : Option KindParameter) → slice_get ps i ≡ o → rank ps (suc n) ≡ rank ps n + added o → numbered_on (rank ps n) (open_of (variable_in_text i (rank ps i) o) ++ rest) ≡ numbered_on (rank ps (suc n)) rest
    by None e r = ap (λ j. numbered_on j rest) (let z : rank ps n ≡ rank ps (suc n) = omega (arith, r) in z)
    by (Some OpenKind) e r = counted_new (rank ps n) (rank ps i) rest (ap (rank ps) same) ∙ ap (λ j. numbered_on j rest) (let z : suc (rank ps n) ≡ rank ps (suc n) = omega (arith, r) in z)
    by (Some Unread) e r = ap (λ j. numbered_on j rest) (let z : rank ps n ≡ rank ps (suc n) = omega (arith, r) in z)
    by (Some (OuterKind k)) e r = ap (λ j. numbered_on j rest) (let z : rank ps n ≡ rank ps (suc n) = omega (arith, r) in z)

opens_counted : (ps : List KindParameter) (cs : List KindTerm) (n m : ℕ) → numbered_on n (flat_map place_of cs) ≡ Some m → numbered_on (rank ps n) (flat_map open_of (map (text_kind ps) cs)) ≡ Some (rank ps m)
opens_counted ps [] n m e = ap (λ j. Some (rank ps j)) (some_is n m e)
opens_counted ps (Fixed k ∷ cs) n m e = opens_counted ps cs n m e
opens_counted ps (Var i ∷ cs) n m e = by (nat_lt i n) (nat_eq i n) refl refl (opens_counted ps cs n m) (opens_counted ps cs (suc n) m) e where
  by : (b c : Bool) → nat_lt i n ≡ b → nat_eq i n ≡ c →
      (numbered_on n (flat_map place_of cs) ≡ Some m → numbered_on (rank ps n) (flat_map open_of (map (text_kind ps) cs)) ≡ Some (rank ps m)) →
      (numbered_on (suc n) (flat_map place_of cs) ≡ Some m → numbered_on (rank ps (suc n)) (flat_map open_of (map (text_kind ps) cs)) ≡ Some (rank ps m)) →
      cond b (numbered_on n (flat_map place_of cs)) (cond c (numbered_on (suc n) (flat_map place_of cs)) None) ≡ Some m →
      numbered_on (rank ps n) (flat_map open_of (map (text_kind ps) (Var i ∷ cs))) ≡ Some (rank ps m)
  by true c p q same more f = old_kind ps i (flat_map open_of (map (text_kind ps) cs)) n (ltb-true i n p) (slice_get ps i) refl ∙ same f
  by false true p q same more f = new_kind ps i (flat_map open_of (map (text_kind ps) cs)) n (eqb-true i n q) (slice_get ps i) refl ∙ more f
  by false false p q same more f = none_is m f

pub text_counted : (h : HeldVariables) (n : ℕ) (ks : List ℕ) (cs : List KindTerm) → numbered_on 0 (flat_map place_of cs) ≡ Some n → numbered_on 0 (flat_map open_of (map (text_kind (kind_parameters h n ks)) cs)) ≡ Some (length (open_numbers 0 (kind_parameters h n ks)))
text_counted h n ks cs e = opens_counted (kind_parameters h n ks) cs 0 n e ∙ ap Some (sym (open_among_first h n ks 0))
