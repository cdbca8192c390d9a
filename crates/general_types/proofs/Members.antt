-- Numbers among others.
use Rattle.std.proofs.Common.{◌≡◌, ◌∙◌, sym, ap, subst, refl, ℕ, ◌+◌, ◌<◌, ◌≤◌, ◌⊎◌, inl, inr, Bool, true, false, ◌||◌, cond, List, [], ◌∷◌, ◌++◌, length, take, take_all, get_or, nat_eq, eqb-true, eq-eqb, Option, Some, None, is_some}
use Rattle.std.proofs.lemmas.List.{take_more}
use Rattle.std.proofs.lemmas.List.Folds.{list_any-append, list_any_at}
use Rattle.general_types.specs.Holding.{is_held}
use Rattle.general_types.specs.Renewing.{FindsBut}

pub either : {A B C : Type 0} → (A → C) → (B → C) → A ⊎ B → C
either f g (inl a) = f a
either f g (inr b) = g b

or_cases : (a b : Bool) → (a || b) ≡ true → (a ≡ true) ⊎ (b ≡ true)
or_cases true b e = inl refl
or_cases false b e = inr e

or_left : (a b : Bool) → a ≡ true → (a || b) ≡ true
or_left true b e = refl
or_left false b e = absurd (let f : false ≡ true = e in cc)

or_right : (a b : Bool) → b ≡ true → (a || b) ≡ true
or_right true b e = refl
or_right false b e = e

pub same_number : (k n : ℕ) → nat_eq k n ≡ true → k ≡ n
same_number k n e = eqb-true k n e

pub number_same : (k : ℕ) → nat_eq k k ≡ true
number_same k = eq-eqb k k refl

pub held_append : (xs ys : List ℕ) (k : ℕ) → is_held (xs ++ ys) k ≡ true → (is_held xs k ≡ true) ⊎ (is_held ys k ≡ true)
held_append xs ys k e = or_cases (is_held xs k) (is_held ys k) (sym (list_any-append (nat_eq k) xs ys) ∙ e)

pub held_left : (xs ys : List ℕ) (k : ℕ) → is_held xs k ≡ true → is_held (xs ++ ys) k ≡ true
held_left xs ys k e = list_any-append (nat_eq k) xs ys ∙ or_left (is_held xs k) (is_held ys k) e

pub held_right : (xs ys : List ℕ) (k : ℕ) → is_held ys k ≡ true → is_held (xs ++ ys) k ≡ true
held_right xs ys k e = list_any-append (nat_eq k) xs ys ∙ or_right (is_held xs k) (is_held ys k) e

pub held_one : (k n : ℕ) → is_held (n ∷ []) k ≡ true → k ≡ n
held_one k n e = by (or_cases (nat_eq k n) false e)
  where
    by : ((nat_eq k n ≡ true) ⊎ (false ≡ true)) → k ≡ n
    by (inl f) = same_number k n f
    by (inr f) = absurd (let g : false ≡ true = f in cc)

-- ---- a set that grows by one number

cond_yes : (b c : Bool) → c ≡ true → cond b true c ≡ true
cond_yes true c e = refl
cond_yes false c e = e

cond_cases : (b c : Bool) → cond b true c ≡ true → (b ≡ true) ⊎ (c ≡ true)
cond_cases true c e = inl refl
cond_cases false c e = inr e

abbrev pub Inserts : ℕ → List ℕ → List ℕ → Type 0
Inserts x old new = (q : ℕ) → is_held new q ≡ cond (nat_eq x q) true (is_held old q)

pub inserted_kept : (x : ℕ) (old new : List ℕ) → Inserts x old new → (k : ℕ) → is_held old k ≡ true → is_held new k ≡ true
inserted_kept x old new u k e = u k ∙ cond_yes (nat_eq x k) (is_held old k) e

pub inserted_here : (x : ℕ) (old new : List ℕ) → Inserts x old new → is_held new x ≡ true
inserted_here x old new u = u x ∙ ap (λ b. cond b true (is_held old x)) (number_same x)

pub inserted_only : (x : ℕ) (old new : List ℕ) → Inserts x old new → (k : ℕ) → is_held new k ≡ true → (k ≡ x) ⊎ (is_held old k ≡ true)
inserted_only x old new u k e = either (λ f. inl (sym (same_number x k f))) (λ f. inr f) (cond_cases (nat_eq x k) (is_held old k) (sym (u k) ∙ e))

-- ---- a set that loses one number

abbrev pub Removes : ℕ → List ℕ → List ℕ → Type 0
Removes x old new = (q : ℕ) → is_held new q ≡ cond (nat_eq x q) false (is_held old q)

pub removed_only : (x : ℕ) (old new : List ℕ) → Removes x old new → (k : ℕ) → is_held new k ≡ true → (is_held old k ≡ true) × (k ≡ x → ⊥)
removed_only x old new u k e = by (nat_eq x k) refl (sym (u k) ∙ e)
  where
    by : (b : Bool) → nat_eq x k ≡ b → cond b false (is_held old k) ≡ true → (is_held old k ≡ true) × (k ≡ x → ⊥)
    by true n f = absurd (let g : ◌≡◌ {A = Bool} false true = f in cc)
    by false n f = (f, λ j. let g : ◌≡◌ {A = Bool} true false = sym (subst (λ i. nat_eq x i ≡ true) (sym j) (number_same x)) ∙ n in cc)

pub removed_else : (x : ℕ) (old new : List ℕ) → Removes x old new → (k : ℕ) → is_held old k ≡ true → (k ≡ x) ⊎ (is_held new k ≡ true)
removed_else x old new u k e = by (nat_eq x k) refl
  where
    by : (b : Bool) → nat_eq x k ≡ b → (k ≡ x) ⊎ (is_held new k ≡ true)
    by true n = inl (sym (same_number x k n))
    by false n = inr (u k ∙ ap (λ b. cond b false (is_held old k)) n ∙ e)

-- ---- some numbers of a list, found one by one

pub nothing_there : {A : Type 0} (o : Option A) → is_some o ≡ false → o ≡ None
nothing_there None e = refl
nothing_there (Some x) e = absurd (let g : ◌≡◌ {A = Bool} true false = e in cc)

pub finds_none : (P : ℕ → Type 0) (found : List ℕ) → found ≡ [] → FindsBut P [] found
finds_none P found e = record {
  among = λ k f. absurd (let g : ◌≡◌ {A = Bool} false true = sym (ap (λ xs. is_held xs k) e) ∙ f in cc);
  others = λ k f. absurd (let g : ◌≡◌ {A = Bool} false true = f in cc);
}

pub finds_next : (P : ℕ → Type 0) (ns found : List ℕ) (i d : ℕ) → i < length ns → FindsBut P (take i ns) found → FindsBut P (take (i + 1) ns) (found ++ get_or ns i d ∷ [])
finds_next P ns found i d l h =
    let x : ℕ = get_or ns i d in
    subst (λ ms. FindsBut P ms (found ++ x ∷ [])) (sym (take_more ns i d l)) (record {
      among = λ k f. either (λ g. held_left (take i ns) (x ∷ []) k (h.among k g)) (λ g. held_right (take i ns) (x ∷ []) k g) (held_append found (x ∷ []) k f);
      others = λ k f. either (λ g. either (λ y. inl (held_left found (x ∷ []) k y)) (λ y. inr y) (h.others k g)) (λ g. inl (held_right found (x ∷ []) k g)) (held_append (take i ns) (x ∷ []) k f);
    })

pub passes_next : (P : ℕ → Type 0) (ns found : List ℕ) (i d : ℕ) → i < length ns → P (get_or ns i d) → FindsBut P (take i ns) found → FindsBut P (take (i + 1) ns) found
passes_next P ns found i d l p h =
    let x : ℕ = get_or ns i d in
    subst (λ ms. FindsBut P ms found) (sym (take_more ns i d l)) (record {
      among = λ k f. held_left (take i ns) (x ∷ []) k (h.among k f);
      others = λ k f. either (λ g. h.others k g) (λ g. inr (subst P (sym (held_one k x g)) p)) (held_append (take i ns) (x ∷ []) k f);
    })

pub finds_all : (P : ℕ → Type 0) (ns found : List ℕ) (i : ℕ) → length ns ≤ i → FindsBut P (take i ns) found → FindsBut P ns found
finds_all P ns found i l h = subst (λ ms. FindsBut P ms found) (take_all i ns l) h

pub number_there : (xs : List ℕ) (i : ℕ) → i < length xs → is_held xs (get_or xs i 0) ≡ true
number_there xs i l = list_any_at (nat_eq (get_or xs i 0)) xs i 0 l (number_same (get_or xs i 0))
