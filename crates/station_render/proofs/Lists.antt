-- Places of lists, and lists of sinks.
use Rattle.std.proofs.Common.{◌≡◌, ◌<◌, ◌≤◌, ◌+◌, ◌∙◌, ◌++◌, ℕ, zero, suc, Some, List, [], ◌∷◌, length, map, get_or, set, slice_get, arith, refl, ap, sym, subst, vec_len}
use Rattle.std.specs.Prelude.{Vec}
use Rattle.std.specs.declared.alloc.Global.{Global}
use Rattle.std.specs.Prelude.{OnOk, Result, Ok, Err, vec_capacity, drop}
use Rattle.std.proofs.lemmas.List.{map-set, map-append, length-append}
use Rattle.station_render.specs.Sinks.{lists_of, AreAllEmpty, AreEmpty, HasPlace, WasAdded, WasTaken}

pub got : {A : Type 0} (xs : List A) (k : ℕ) (d : A) → k < length xs → slice_get xs k ≡ Some (get_or xs k d)
got [] k d h = absurd (omega (arith, h))
got (x ∷ xs) zero d h = refl
got (x ∷ xs) (suc k) d h = got xs k d (omega (arith, h))

pub within : {A : Type 0} (xs : List A) (k : ℕ) (x : A) → slice_get xs k ≡ Some x → k < length xs
within [] k x e = absurd (cc)
within (y ∷ xs) zero x e = omega arith
within (y ∷ xs) (suc k) x e = let low = within xs k x e in omega (arith, low)

pub got_is : {A : Type 0} (xs : List A) (k : ℕ) (x d : A) → slice_get xs k ≡ Some x → get_or xs k d ≡ x
got_is xs k x d e = let there : Some (get_or xs k d) ≡ Some x = sym (got xs k d (within xs k x e)) ∙ e in cc

pub same_set : {A : Type 0} (xs : List A) (k : ℕ) (x : A) → slice_get xs k ≡ Some x → set xs k x ≡ xs
same_set [] k x e = refl
same_set (y ∷ xs) zero x e = let same : y ≡ x = (cc) in ap (λ z. z ∷ xs) (sym same)
same_set (y ∷ xs) (suc k) x e = ap (λ zs. y ∷ zs) (same_set xs k x e)

pub mapped : {A B : Type 0} (f : A → B) (xs : List A) (k : ℕ) (x : A) → slice_get xs k ≡ Some x → slice_get (map f xs) k ≡ Some (f x)
mapped f [] k x e = absurd (cc)
mapped f (y ∷ xs) zero x e = let same : y ≡ x = (cc) in ap (λ z. Some (f z)) same
mapped f (y ∷ xs) (suc k) x e = mapped f xs k x e

pub unmapped : {A B : Type 0} (f : A → B) (xs : List A) (k : ℕ) (y : B) → slice_get (map f xs) k ≡ Some y → (x : A) × (slice_get xs k ≡ Some x) × (f x ≡ y)
unmapped f [] k y e = absurd (cc)
unmapped f (x ∷ xs) zero y e = (x, refl, (let same : Some (f x) ≡ Some y = e in cc))
unmapped f (x ∷ xs) (suc k) y e = unmapped f xs k y e

pub many_mapped : {A B : Type 0} (f : A → B) (xs : List A) → length (map f xs) ≡ length xs
many_mapped f [] = refl
many_mapped f (x ∷ xs) = ap suc (many_mapped f xs)

module _ {S : Type 0} (groups : List (Vec S Global)) where
  -- the list of a clock
  pub list_at : (k : ℕ) (d : Vec S Global) → k < length (lists_of groups) → slice_get (lists_of groups) k ≡ Some ((get_or groups k d).items)
  list_at k d low =
      let many = many_mapped (λ (group : Vec S Global). group.items) groups in
      mapped (λ (group : Vec S Global). group.items) groups k (get_or groups k d) (got groups k d (omega (arith, low, many)))

  pub list_set : (k : ℕ) (group : Vec S Global) → lists_of (set groups k group) ≡ set (lists_of groups) k group.items
  list_set k group = map-set (λ (group : Vec S Global). group.items) groups k group

  -- nothing changes where the list of a clock is as it was
  pub list_kept : (k : ℕ) (d group : Vec S Global) → k < length (lists_of groups) → group.items ≡ (get_or groups k d).items → lists_of (set groups k group) ≡ lists_of groups
  list_kept k d group low same =
      list_set k group ∙ same_set (lists_of groups) k group.items (list_at k d low ∙ ap Some (sym same))

-- an empty list as the last of lists that are empty
pub last_empty : {S : Type 0} (front : List (List S)) (last : List S) → AreAllEmpty (front ++ last ∷ []) → last ≡ []
last_empty [] last all = all 0 last refl
last_empty (x ∷ front) last all = last_empty front last (λ m group e. all (suc m) group e)

pub front_empty : {S : Type 0} (front : List (List S)) (last : List S) → AreAllEmpty (front ++ last ∷ []) → AreAllEmpty front
front_empty [] last all m group e = absurd (cc)
front_empty (x ∷ front) last all zero group e = all 0 group e
front_empty (x ∷ front) last all (suc m) group e = front_empty front last (λ n other f. all (suc n) other f) m group e

pub empty_more : {S : Type 0} (front : List (List S)) → AreAllEmpty front → AreAllEmpty (front ++ [] ∷ [])
empty_more [] all zero group e = let same : Some [] ≡ Some group = e in (cc)
empty_more [] all (suc m) group e = absurd (cc)
empty_more (x ∷ front) all zero group e = all 0 group e
empty_more (x ∷ front) all (suc m) group e = empty_more front (λ n other f. all (suc n) other f) m group e

pub set_other : {C : Type 0} (xs : List C) (i k : ℕ) (x : C) → (i ≡ k → ⊥) → slice_get (set xs i x) k ≡ slice_get xs k
set_other [] i k x other = refl
set_other (s ∷ xs) zero zero x other = absurd (other refl)
set_other (s ∷ xs) zero (suc k) x other = refl
set_other (s ∷ xs) (suc i) zero x other = refl
set_other (s ∷ xs) (suc i) (suc k) x other = set_other xs i k x (λ e. other (ap suc e))

pub set_here : {C : Type 0} (xs : List C) (i : ℕ) (x : C) → i < length xs → slice_get (set xs i x) i ≡ Some x
set_here [] i x h = absurd (omega arith)
set_here (s ∷ xs) zero x h = refl
set_here (s ∷ xs) (suc i) x h = set_here xs i x (omega arith)

pub set_many : {C : Type 0} (xs : List C) (i : ℕ) (x : C) → length (set xs i x) ≡ length xs
set_many [] i x = refl
set_many (s ∷ xs) zero x = refl
set_many (s ∷ xs) (suc i) x = ap suc (set_many xs i x)

-- what holds of each of these at its place, and of one more at the next place, holds of each of them all
pub each_more : {A : Type 0} (P : ℕ → A → Type 0) (xs : List A) (last : A) → ((k : ℕ) (x : A) → slice_get xs k ≡ Some x → P k x) → P (length xs) last
    → (k : ℕ) (x : A) → slice_get (xs ++ last ∷ []) k ≡ Some x → P k x
each_more P [] last each is zero x there = let same : last ≡ x = cc in subst (λ y. P 0 y) same is
each_more P [] last each is (suc k) x there = absurd cc
each_more P (y ∷ xs) last each is zero x there = each 0 x there
each_more P (y ∷ xs) last each is (suc k) x there = each_more (λ n. P (suc n)) xs last (λ j z at. each (suc j) z at) is k x there

pub on_ok : {T E : Type 0} (r : Result T E) (P Q : Type 0) → (P → Q) → OnOk r P → OnOk r Q
on_ok (Ok x) P Q f p = f p
on_ok (Err e) P Q f p = p

pub no_items : {A : Type 0} (xs : List A) → length xs ≡ 0 → xs ≡ []
no_items [] e = refl
no_items (x ∷ xs) e = absurd (omega (arith, e))

module _ {S : Type 0} (groups : List (Vec S Global)) where
  -- the list that a clock's place was found to hold
  pub here_is : (k : ℕ) (here : Vec S Global) → here ≡ get_or groups k here → k < length (lists_of groups) → slice_get (lists_of groups) k ≡ Some here.items
  here_is k here is low = list_at groups k here low ∙ ap (λ (group : Vec S Global). Some group.items) (sym is)

  pub popped : (front : List (Vec S Global)) (last : Vec S Global) → groups ≡ front ++ last ∷ [] → lists_of groups ≡ lists_of front ++ last.items ∷ []
  popped front last is = ap lists_of is ∙ map-append (λ (group : Vec S Global). group.items) front (last ∷ [])

  pub was_taken : (k : ℕ) (here now : Vec S Global) (sink first : S) (rest : List S) → here ≡ get_or groups k here → slice_get (lists_of groups) k ≡ Some (first ∷ rest)
      → sink ≡ get_or here.items 0 sink → now.items ≡ drop 1 here.items → WasTaken k (lists_of groups) sink (lists_of (set groups k now))
  was_taken k here now sink first rest is there value items =
      let low = within (lists_of groups) k (first ∷ rest) there in
      let at : Some here.items ≡ Some (first ∷ rest) = sym (here_is k here is low) ∙ there in
      let are : here.items ≡ first ∷ rest = cc in
      let first_is : sink ≡ first = value ∙ ap (λ xs. get_or xs 0 sink) are in
      let rest_is : now.items ≡ rest = items ∙ ap (drop 1) are in
      record {
        rest = rest;
        was = there ∙ ap (λ x. Some (x ∷ rest)) (sym first_is);
        is = list_set groups k now ∙ ap (set (lists_of groups) k) rest_is;
      }

  pub was_added : (k : ℕ) (here now : Vec S Global) (sink : S) → here ≡ get_or groups k here → k < length (lists_of groups) → now.items ≡ here.items ++ sink ∷ []
      → WasAdded k sink (lists_of groups) (lists_of (set groups k now))
  was_added k here now sink is low items = record {
    before = here.items;
    was = here_is k here is low;
    is = list_set groups k now ∙ ap (set (lists_of groups) k) items;
  }

  pub kept : (k : ℕ) (here now : Vec S Global) → here ≡ get_or groups k here → k < length (lists_of groups) → now.items ≡ here.items → lists_of (set groups k now) ≡ lists_of groups
  kept k here now is low items = list_kept groups k here now low (items ∙ ap (λ (group : Vec S Global). group.items) is)

  pub has_place : (k : ℕ) (now : Vec S Global) → k < length (lists_of groups) → vec_len now + 1 ≤ vec_capacity now → HasPlace k (set groups k now)
  has_place k now low room = record {
    room = λ group at.
        let many = many_mapped (λ (group : Vec S Global). group.items) groups in
        let there : Some now ≡ Some group = sym (set_here groups k now (omega (arith, low, many))) ∙ at in
        let same : now ≡ group = cc in
        subst (λ (v : Vec S Global). vec_len v + 1 ≤ vec_capacity v) same room;
  }

  -- one more clock without sinks
  pub one_more : (clocks : ℕ) (now : List (Vec S Global)) (fresh : Vec S Global) → AreEmpty clocks (lists_of groups) → fresh.items ≡ [] → now ≡ groups ++ fresh ∷ []
      → AreEmpty (clocks + 1) (lists_of now)
  one_more clocks now fresh are empty is =
      let parts : lists_of now ≡ lists_of groups ++ [] ∷ [] =
      ap lists_of is ∙ map-append (λ (group : Vec S Global). group.items) groups (fresh ∷ []) ∙ ap (λ x. lists_of groups ++ x ∷ []) empty in
      record {
        size = ap length parts ∙ length-append (lists_of groups) ([] ∷ []) ∙ ap (λ n. n + 1) are.size;
        each = subst (λ gs. AreAllEmpty gs) (sym parts) (empty_more (lists_of groups) are.each);
      }

pub lists_many : {S : Type 0} (groups : List (Vec S Global)) → length (lists_of groups) ≡ length groups
lists_many groups = many_mapped (λ group. group.items) groups
