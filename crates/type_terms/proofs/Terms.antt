-- Laws of terms under choices and heights, by induction on the term.
use Rattle.std.proofs.Common.{◌≡◌, ℕ, ◌+◌, max, ◌≤◌, refl, ap, ap₂, arith}
use Rattle.type_terms.specs.Ground.{list, tuple, source, and_more, Assignment}
use Rattle.type_terms.specs.Term.{Term, Terms, base_term, list_term, tuple_term, source_term, variable, no_terms, one_more, meaning, meanings, kind_meaning, InKind, InTerm, InTerms, height, heights}
use Rattle.type_terms.specs.declared.ty.KindTerm.{KindTerm}
use Rattle.type_terms.specs.declared.ty.KindTerm.TheVariants.{Fixed, Var}

pub InKind-map : {Q Q' : ℕ → Type 0} → ((n : ℕ) → Q n → Q' n) → (k : KindTerm) → InKind Q k → InKind Q' k
InKind-map g (Fixed k) h = tt
InKind-map g (Var n) h = g n h

mutual
  pub InTerm-map : {P P' Q Q' : ℕ → Type 0} → ((n : ℕ) → P n → P' n) → ((n : ℕ) → Q n → Q' n) → (t : Term) → InTerm P Q t → InTerm P' Q' t
  InTerm-map f g (base_term b) h = tt
  InTerm-map f g (list_term t) h = InTerm-map f g t h
  InTerm-map f g (tuple_term ts) h = InTerms-map f g ts h
  InTerm-map f g (source_term k) h = InKind-map g k h
  InTerm-map f g (variable n) h = f n h

  pub InTerms-map : {P P' Q Q' : ℕ → Type 0} → ((n : ℕ) → P n → P' n) → ((n : ℕ) → Q n → Q' n) → (ts : Terms) → InTerms P Q ts → InTerms P' Q' ts
  InTerms-map f g no_terms h = tt
  InTerms-map f g (one_more t ts) h = (InTerm-map f g t h.0, InTerms-map f g ts h.1)

pub kind_meaning_same : (a b : Assignment) (k : KindTerm) → InKind (λ n. a.kind_of n ≡ b.kind_of n) k → kind_meaning a k ≡ kind_meaning b k
kind_meaning_same a b (Fixed k) h = refl
kind_meaning_same a b (Var n) h = h

mutual
  -- choices that agree on a term's variables agree on the term
  pub meaning_same : (a b : Assignment) (t : Term) → InTerm (λ n. a.type_of n ≡ b.type_of n) (λ n. a.kind_of n ≡ b.kind_of n) t → meaning a t ≡ meaning b t
  meaning_same a b (base_term u) h = refl
  meaning_same a b (list_term t) h = ap list (meaning_same a b t h)
  meaning_same a b (tuple_term ts) h = ap tuple (meanings_same a b ts h)
  meaning_same a b (source_term k) h = ap source (kind_meaning_same a b k h)
  meaning_same a b (variable n) h = h

  pub meanings_same : (a b : Assignment) (ts : Terms) → InTerms (λ n. a.type_of n ≡ b.type_of n) (λ n. a.kind_of n ≡ b.kind_of n) ts → meanings a ts ≡ meanings b ts
  meanings_same a b no_terms h = refl
  meanings_same a b (one_more t ts) h = ap₂ and_more (meaning_same a b t h.0) (meanings_same a b ts h.1)

mutual
  -- heights that agree on a term's variables agree on the term
  pub height_same : (f g : ℕ → ℕ) (t : Term) → InTerm (λ n. f n ≡ g n) (λ _. Unit {0}) t → height f t ≡ height g t
  height_same f g (base_term b) h = refl
  height_same f g (list_term t) h = ap (λ n. 1 + n) (height_same f g t h)
  height_same f g (tuple_term ts) h = ap (λ n. 1 + n) (heights_same f g ts h)
  height_same f g (source_term k) h = refl
  height_same f g (variable n) h = h

  pub heights_same : (f g : ℕ → ℕ) (ts : Terms) → InTerms (λ n. f n ≡ g n) (λ _. Unit {0}) ts → heights f ts ≡ heights g ts
  heights_same f g no_terms h = refl
  heights_same f g (one_more t ts) h = ap₂ max (height_same f g t h.0) (heights_same f g ts h.1)

pub any_kind : {Q : ℕ → Type 0} → ((n : ℕ) → Q n) → (k : KindTerm) → InKind Q k
any_kind g (Fixed k) = tt
any_kind g (Var n) = g n

mutual
  -- a variable weighs at most as much as the term that it stands in
  pub variables_weigh : (w : ℕ → ℕ) (m : ℕ) (t : Term) → height w t ≤ m → InTerm (λ n. w n ≤ m) (λ _. Unit {0}) t
  variables_weigh w m (base_term b) h = tt
  variables_weigh w m (list_term t) h = variables_weigh w m t (omega arith)
  variables_weigh w m (tuple_term ts) h = variables_of_all_weigh w m ts (omega arith)
  variables_weigh w m (source_term k) h = any_kind (λ n. tt) k
  variables_weigh w m (variable n) h = h

  pub variables_of_all_weigh : (w : ℕ → ℕ) (m : ℕ) (ts : Terms) → heights w ts ≤ m → InTerms (λ n. w n ≤ m) (λ _. Unit {0}) ts
  variables_of_all_weigh w m no_terms h = tt
  variables_of_all_weigh w m (one_more t ts) h =
      (variables_weigh w m t (omega arith), variables_of_all_weigh w m ts (omega arith))

mutual
  -- where each variable rises by at most c, the term does
  pub height_rises : (f g : ℕ → ℕ) (c : ℕ) → ((n : ℕ) → f n ≤ g n + c) → (t : Term) → height f t ≤ height g t + c
  height_rises f g c h (base_term b) = omega arith
  height_rises f g c h (list_term t) = omega (arith, height_rises f g c h t)
  height_rises f g c h (tuple_term ts) = omega (arith, heights_rise f g c h ts)
  height_rises f g c h (source_term k) = omega arith
  height_rises f g c h (variable n) = h n

  pub heights_rise : (f g : ℕ → ℕ) (c : ℕ) → ((n : ℕ) → f n ≤ g n + c) → (ts : Terms) → heights f ts ≤ heights g ts + c
  heights_rise f g c h no_terms = omega arith
  heights_rise f g c h (one_more t ts) = omega (arith, height_rises f g c h t, heights_rise f g c h ts)
