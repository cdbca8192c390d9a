-- Arguments found by a table of their labels.
use Rattle.std.proofs.Common.{◌≡◌, refl, sym, ap, ap₂, subst, ◌∙◌, ℕ, zero, suc, arith, ◌+◌, ◌-◌, ◌<◌, ◌≤◌, List, [], ◌∷◌, length, drop, get_or, set, replicate, drop-cons, drop_of_length-le, Option, Some, None, option_map, Bool, true, false, cond, map, nat_eq, ne_eqb, Bor}
use Rattle.std.proofs.lemmas.Map.Text.{hash_map_updates_str}
use Rattle.std.specs.Cmp.Lexicographic.{bytes_decides, nat_list_eq_equiv}
use Rattle.indexmap.specs.IndexMap.{IndexMap, Updates, get_by}
use Rattle.std.specs.Prelude.{is_some}
use Rattle.std.specs.Str.{bytes_eq}
use Rattle.std.proofs.lemmas.List.{get_or-set_other, get_or-set_same}
use Rattle.typing_rules.specs.Arguments.{GivenArgument, Parameter, after, argument, first_missing, is_label, label_of, left_over, missing_or, others}
use Rattle.name_scope.specs.Labelled.{AreHeads, AreLinked, first_of, flat, head_at, left_in, next_at, on, placed}

abbrev Taken : Type 0
Taken = Option (ℕ × List (GivenArgument ℕ))

some_pair : (a b : ℕ × List (GivenArgument ℕ)) → Some a ≡ Some b → a ≡ b
some_pair a b e = cc

-- ---- links

link_head : (next : ℕ → Option ℕ) (g : GivenArgument ℕ) (gs : List (GivenArgument ℕ)) → AreLinked next (g ∷ gs) → next g.1 ≡ first_of g.0 gs
link_head next g gs l = cc

link_tail : (next : ℕ → Option ℕ) (g : GivenArgument ℕ) (gs : List (GivenArgument ℕ)) → AreLinked next (g ∷ gs) → AreLinked next gs
link_tail next g gs l = cc

link_more : (next : ℕ → Option ℕ) (g : GivenArgument ℕ) (gs : List (GivenArgument ℕ)) → next g.1 ≡ first_of g.0 gs → AreLinked next gs → AreLinked next (g ∷ gs)
link_more next g gs e l = ap₂ (λ (x : Option ℕ) (xs : List (Option ℕ)). x ∷ xs) e l

-- ---- labels

same_label : (a b : Option (List ℕ)) → is_label a b ≡ true → a ≡ b
same_label None None e = refl
same_label None (Some b) e = absurd (let f : ◌≡◌ {A = Bool} false true = e in cc)
same_label (Some a) None e = absurd (let f : ◌≡◌ {A = Bool} false true = e in cc)
same_label (Some a) (Some b) e = ap Some ((bytes_decides a b).0 e)

own_label : (a b : Option (List ℕ)) → a ≡ b → is_label a b ≡ true
own_label None None e = refl
own_label None (Some b) e = absurd (let f : ◌≡◌ {A = Option (List ℕ)} None (Some b) = e in cc)
own_label (Some a) None e = absurd (let f : ◌≡◌ {A = Option (List ℕ)} (Some a) None = e in cc)
own_label (Some a) (Some b) e = (bytes_decides a b).1 (let f : a ≡ b = cc in f)

-- ---- the first with a label

first_after : (g : GivenArgument ℕ) (o : Taken) → option_map (λ (x : ℕ × List (GivenArgument ℕ)). x.0) (after g o) ≡ option_map (λ (x : ℕ × List (GivenArgument ℕ)). x.0) o
first_after g None = refl
first_after g (Some x) = refl

first_step : (label : Option (List ℕ)) (g : GivenArgument ℕ) (gs : List (GivenArgument ℕ)) → first_of label (g ∷ gs) ≡ cond (is_label label g.0) (Some g.1) (first_of label gs)
first_step label g gs = by (is_label label g.0) where
  by : (b : Bool) → option_map (λ (x : ℕ × List (GivenArgument ℕ)). x.0) (cond b (Some (g.1, gs)) (after g (argument label gs))) ≡ cond b (Some g.1) (first_of label gs)
  by true = refl
  by false = first_after g (argument label gs)

-- one more in front
pub heads_more : (head head' : Option (List ℕ) → Option ℕ) (g : GivenArgument ℕ) (gs : List (GivenArgument ℕ)) → AreHeads head gs → ((other : Option (List ℕ)) → head' other ≡ cond (is_label other g.0) (Some g.1) (head other)) → AreHeads head' (g ∷ gs)
heads_more head head' g gs h s label = s label ∙ ap (cond (is_label label g.0) (Some g.1)) (h label) ∙ sym (first_step label g gs)

-- a name's place is written
pub named_set : {S : Type 0} (m n : IndexMap (Bor (List ℕ)) (Option ℕ) S) (plain : Option ℕ) (name : Bor (List ℕ)) (place : Option ℕ) → Updates (λ x y. bytes_eq x.now y.now) m n name (Some place) → (other : Option (List ℕ)) → head_at n plain other ≡ cond (is_label other (Some name.now)) place (head_at m plain other)
named_set m n plain name place u None = refl
named_set m n plain name place u (Some other) =
    ap flat (hash_map_updates_str name.now m n (Some place) u other)
    ∙ ap (λ t. flat (cond t (Some place) (get_by (λ key. bytes_eq other key.now) m))) (nat_list_eq_equiv.symm name.now other)
    ∙ by (bytes_eq other name.now)
  where
    by : (b : Bool) → flat (cond b (Some place) (get_by (λ key. bytes_eq other key.now) m)) ≡ cond b place (flat (get_by (λ key. bytes_eq other key.now) m))
    by true = refl
    by false = refl

-- ---- one is taken

-- what a list becomes where the first with a label is taken, if there is one
record TakenOut (label : Option (List ℕ)) (gs rest : List (GivenArgument ℕ)) (i : ℕ) : Type 0 where
  pub elsewhere : (other : Option (List ℕ)) → is_label other label ≡ false → first_of other rest ≡ first_of other gs
  pub linked : (next : ℕ → Option ℕ) → AreLinked next gs → (next i ≡ first_of label rest) × AreLinked next rest

other_first : (label other : Option (List ℕ)) (g : GivenArgument ℕ) (gs : List (GivenArgument ℕ)) → is_label label g.0 ≡ true → is_label other label ≡ false → first_of other gs ≡ first_of other (g ∷ gs)
other_first label other g gs e n = by (is_label other g.0) refl ∙ sym (first_step other g gs) where
  by : (b : Bool) → is_label other g.0 ≡ b → first_of other gs ≡ cond (is_label other g.0) (Some g.1) (first_of other gs)
  by true f = absurd (let c : ◌≡◌ {A = Bool} true false = sym (own_label other label (same_label other g.0 f ∙ sym (same_label label g.0 e))) ∙ n in cc)
  by false f = sym (ap (λ b. cond b (Some g.1) (first_of other gs)) f)

taken_out : (label : Option (List ℕ)) (gs rest : List (GivenArgument ℕ)) (i : ℕ) → argument label gs ≡ Some (i, rest) → TakenOut label gs rest i
taken_out label [] rest i e = absurd (let f : ◌≡◌ {A = Taken} None (Some (i, rest)) = e in cc)
taken_out label (g ∷ gs) rest i e = by (taken_out label gs) (is_label label g.0) refl (argument label gs) refl e where
  here : is_label label g.0 ≡ true → g.1 ≡ i → gs ≡ rest → TakenOut label (g ∷ gs) rest i
  here f is are = record {
    elsewhere = λ other n. ap (first_of other) (sym are) ∙ other_first label other g gs f n;
    linked = λ next l. (ap next (sym is) ∙ link_head next g gs l ∙ ap (λ (m : Option (List ℕ)). first_of m gs) (sym (same_label label g.0 f)) ∙ ap (first_of label) are, subst (AreLinked next) are (link_tail next g gs l));
  }

  behind : (more : List (GivenArgument ℕ)) → is_label label g.0 ≡ false → TakenOut label gs more i → g ∷ more ≡ rest → TakenOut label (g ∷ gs) rest i
  behind more f t are = record {
    elsewhere = λ other n. ap (first_of other) (sym are) ∙ first_step other g more ∙ ap (cond (is_label other g.0) (Some g.1)) (t.elsewhere other n) ∙ sym (first_step other g gs);
    linked = λ next l.
        let later = t.linked next (link_tail next g gs l) in
        let n : is_label g.0 label ≡ false = turned (is_label g.0 label) refl in (
          later.0 ∙ sym (ap (λ b. cond b (Some g.1) (first_of label more)) f) ∙ sym (first_step label g more) ∙ ap (first_of label) are,
          subst (AreLinked next) are (link_more next g more (link_head next g gs l ∙ sym (t.elsewhere g.0 n)) later.1),
        );
  } where
    turned : (b : Bool) → is_label g.0 label ≡ b → is_label g.0 label ≡ false
    turned true h = absurd (let c : ◌≡◌ {A = Bool} true false = sym (own_label label g.0 (sym (same_label g.0 label h))) ∙ f in cc)
    turned false h = h

  by : ((more : List (GivenArgument ℕ)) (j : ℕ) → argument label gs ≡ Some (j, more) → TakenOut label gs more j) → (b : Bool) → is_label label g.0 ≡ b → (o : Taken) → argument label gs ≡ o → cond b (Some (g.1, gs)) (after g o) ≡ Some (i, rest) → TakenOut label (g ∷ gs) rest i
  by later true f o q h = let p = some_pair (g.1, gs) (i, rest) h in here f (ap (λ x. x.0) p) (ap (λ x. x.1) p)
  by later false f None q h = absurd (let c : ◌≡◌ {A = Taken} None (Some (i, rest)) = h in cc)
  by later false f (Some x) q h =
      let p = some_pair (x.0, g ∷ x.1) (i, rest) h in
      let is : x.0 ≡ i = ap (λ y. y.0) p in
      let are : (g ∷ x.1) ≡ rest = ap (λ y. y.1) p in
      behind x.1 f (later x.1 i (q ∙ ap (λ j. Some (j, x.1)) is)) are

first_some : (label : Option (List ℕ)) (gs : List (GivenArgument ℕ)) (i : ℕ) → Some i ≡ first_of label gs → argument label gs ≡ Some (i, others gs (argument label gs))
first_some label gs i = by (argument label gs) where
  by : (o : Taken) → Some i ≡ option_map (λ (x : ℕ × List (GivenArgument ℕ)). x.0) o → o ≡ Some (i, others gs o)
  by None e = absurd (let c : ◌≡◌ {A = Option ℕ} (Some i) None = e in cc)
  by (Some x) e = let is : x.0 ≡ i = cc in ap (λ j. Some (j, x.1)) is

pub some_first : (label : Option (List ℕ)) (gs : List (GivenArgument ℕ)) → is_some (first_of label gs) ≡ is_some (argument label gs)
some_first label gs = by (argument label gs) where
  by : (o : Taken) → is_some (option_map (λ (x : ℕ × List (GivenArgument ℕ)). x.0) o) ≡ is_some o
  by None = refl
  by (Some x) = refl

-- ---- by places

-- the one at a place is taken
record TakenAt (label : Option (List ℕ)) (k : ℕ) (ls : List (Option (List ℕ))) (ts : List Bool) (i : ℕ) (rest : List (GivenArgument ℕ)) : Type 0 where
  pub above : k ≤ i
  pub below : i < k + length ls
  pub same : (d : Option (List ℕ)) → get_or ls (i - k) d ≡ label
  pub left : left_in k ls (set ts (i - k) true) ≡ rest

taken_at : (label : Option (List ℕ)) (k : ℕ) (ls : List (Option (List ℕ))) (ts : List Bool) (i : ℕ) (rest : List (GivenArgument ℕ)) → length ts ≡ length ls → argument label (left_in k ls ts) ≡ Some (i, rest) → TakenAt label k ls ts i rest
taken_at label k [] ts i rest long e = absurd (let c : ◌≡◌ {A = Taken} None (Some (i, rest)) = e in cc)
taken_at label k (l ∷ ls) [] i rest long e = absurd (omega (arith, long))
taken_at label k (l ∷ ls) (true ∷ ts) i rest long e = behind (taken_at label (suc k) ls ts i rest (omega (arith, long)) e) where
  behind : TakenAt label (suc k) ls ts i rest → TakenAt label k (l ∷ ls) (true ∷ ts) i rest
  behind t =
      let above = t.above in
      let below = t.below in
      let is : i - k ≡ suc (i - suc k) = omega (arith, above) in
      record {
        above = omega (arith, above);
        below = omega (arith, below);
        same = λ d. ap (λ j. get_or (l ∷ ls) j d) is ∙ t.same d;
        left = ap (λ j. left_in k (l ∷ ls) (set (true ∷ ts) j true)) is ∙ t.left;
      }
taken_at label k (l ∷ ls) (false ∷ ts) i rest long e = by (λ more. taken_at label (suc k) ls ts i more (omega (arith, long))) (is_label label l) refl (argument label (left_in (suc k) ls ts)) refl e where
  here : is_label label l ≡ true → k ≡ i → left_in (suc k) ls ts ≡ rest → TakenAt label k (l ∷ ls) (false ∷ ts) i rest
  here f at are =
      let is : i - k ≡ 0 = omega (arith, at) in
      record {
        above = omega (arith, at);
        below = omega (arith, at);
        same = λ d. ap (λ j. get_or (l ∷ ls) j d) is ∙ sym (same_label label l f);
        left = ap (λ j. left_in k (l ∷ ls) (set (false ∷ ts) j true)) is ∙ are;
      }

  behind : (more : List (GivenArgument ℕ)) → TakenAt label (suc k) ls ts i more → (l, k) ∷ more ≡ rest → TakenAt label k (l ∷ ls) (false ∷ ts) i rest
  behind more t are =
      let above = t.above in
      let below = t.below in
      let is : i - k ≡ suc (i - suc k) = omega (arith, above) in
      record {
        above = omega (arith, above);
        below = omega (arith, below);
        same = λ d. ap (λ j. get_or (l ∷ ls) j d) is ∙ t.same d;
        left = ap (λ j. left_in k (l ∷ ls) (set (false ∷ ts) j true)) is ∙ ap (λ (gs : List (GivenArgument ℕ)). (l, k) ∷ gs) t.left ∙ are;
      }

  by : ((more : List (GivenArgument ℕ)) → argument label (left_in (suc k) ls ts) ≡ Some (i, more) → TakenAt label (suc k) ls ts i more) → (b : Bool) → is_label label l ≡ b → (o : Taken) → argument label (left_in (suc k) ls ts) ≡ o → cond b (Some (k, left_in (suc k) ls ts)) (after (l, k) o) ≡ Some (i, rest) → TakenAt label k (l ∷ ls) (false ∷ ts) i rest
  by later true f o q h = let p = some_pair (k, left_in (suc k) ls ts) (i, rest) h in here f (ap (λ x. x.0) p) (ap (λ x. x.1) p)
  by later false f None q h = absurd (let c : ◌≡◌ {A = Taken} None (Some (i, rest)) = h in cc)
  by later false f (Some x) q h =
      let p = some_pair (x.0, (l, k) ∷ x.1) (i, rest) h in
      let is : x.0 ≡ i = ap (λ y. y.0) p in
      let are : ((l, k) ∷ x.1) ≡ rest = ap (λ y. y.1) p in
      behind x.1 (later x.1 (q ∙ ap (λ j. Some (j, x.1)) is)) are

got_map : {A : Type 0} (f : A → Option (List ℕ)) (xs : List A) (i : ℕ) (d : A) → get_or (map f xs) i (f d) ≡ f (get_or xs i d)
got_map f [] i d = refl
got_map f (x ∷ xs) zero d = refl
got_map f (x ∷ xs) (suc i) d = got_map f xs i d

pub map_long : {A : Type 0} (f : A → Option (List ℕ)) (xs : List A) → length (map f xs) ≡ length xs
map_long f [] = refl
map_long f (x ∷ xs) = ap suc (map_long f xs)

placed_all : (k : ℕ) (ls : List (Option (List ℕ))) → left_in k ls (replicate (length ls) false) ≡ placed k ls
placed_all k [] = refl
placed_all k (l ∷ ls) = ap (λ (gs : List (GivenArgument ℕ)). (l, k) ∷ gs) (placed_all (suc k) ls)

-- none is taken
pub all_left : {A : Type 0} (see : A → Option (List ℕ)) (xs : List A) (ts : List Bool) (n : ℕ) → ts ≡ replicate n false → n ≡ length xs → left_in 0 (map see xs) ts ≡ placed 0 (map see xs)
all_left see xs ts n e l = ap (left_in 0 (map see xs)) (e ∙ ap (λ m. replicate m false) (l ∙ sym (map_long see xs))) ∙ placed_all 0 (map see xs)

-- one call of `take`, by what the tables say
module _ {A : Type 0} (see : A → Option (List ℕ)) (xs : List A) (ts : List Bool) (label : Option (List ℕ)) (place : ℕ) (long : length ts ≡ length xs) (found : Some place ≡ first_of label (left_in 0 (map see xs) ts)) where
  abbrev pub before : List (GivenArgument ℕ)
  before = left_in 0 (map see xs) ts

  abbrev pub rest : List (GivenArgument ℕ)
  rest = others before (argument label before)

  at_place : TakenAt label 0 (map see xs) ts place rest
  at_place = taken_at label 0 (map see xs) ts place rest (long ∙ sym (map_long see xs)) (first_some label before place found)

  pub place_inside : place < length xs
  place_inside = let b = at_place.below in let m = map_long see xs in omega (arith, b, m)

  zero_less : place - 0 ≡ place
  zero_less = omega arith

  pub now_left : left_in 0 (map see xs) (set ts place true) ≡ rest
  now_left = ap (λ j. left_in 0 (map see xs) (set ts j true)) (sym zero_less) ∙ at_place.left

  own_is : (own : A) → own ≡ get_or xs place own → see own ≡ label
  own_is own is = ap see is ∙ sym (got_map see xs place own) ∙ ap (λ j. get_or (map see xs) j (see own)) (sym zero_less) ∙ at_place.same (see own)

  pub now_linked : (next : ℕ → Option ℕ) → AreLinked next before → AreLinked next (left_in 0 (map see xs) (set ts place true))
  now_linked next l = subst (AreLinked next) (sym now_left) ((taken_out label before rest place (first_some label before place found)).linked next l).1

  pub now_heads : (head head' : Option (List ℕ) → Option ℕ) (next : ℕ → Option ℕ) (own : A) (v : Option ℕ) → own ≡ get_or xs place own → v ≡ next place → AreHeads head before → AreLinked next before → ((other : Option (List ℕ)) → head' other ≡ cond (is_label other (see own)) v (head other)) →
      AreHeads head' (left_in 0 (map see xs) (set ts place true))
  now_heads head head' next own v is nv h l s other =
      s other ∙ ap (λ (m : Option (List ℕ)). cond (is_label other m) v (head other)) (own_is own is) ∙ by (is_label other label) refl ∙ ap (first_of other) (sym now_left)
    where
      by : (b : Bool) → is_label other label ≡ b → cond b v (head other) ≡ first_of other rest
      by true e = nv ∙ ((taken_out label before rest place (first_some label before place found)).linked next l).0 ∙ ap (λ (m : Option (List ℕ)). first_of m rest) (sym (same_label other label e))
      by false e = h other ∙ sym ((taken_out label before rest place (first_some label before place found)).elsewhere other e)

drop_here : {A : Type 0} (f : A → Option (List ℕ)) (xs : List A) (i : ℕ) (d : A) → i < length xs → placed i (map f (drop i xs)) ≡ (f (get_or xs i d), i) ∷ placed (suc i) (map f (drop (suc i) xs))
drop_here {A = A} f xs i d l = ap (λ (ys : List A). placed i (map f ys)) (drop-cons xs i d l)

-- what is written at a place before those of a list changes none of its links
linked_later : (next next' : ℕ → Option ℕ) (k : ℕ) (ls : List (Option (List ℕ))) → ((j : ℕ) → k ≤ j → next' j ≡ next j) → AreLinked next (placed k ls) → AreLinked next' (placed k ls)
linked_later next next' k [] e l = refl
linked_later next next' k (x ∷ ls) e l =
    link_more next' (x, k) (placed (suc k) ls) (e k (omega arith) ∙ link_head next (x, k) (placed (suc k) ls) l) (linked_later next next' (suc k) ls (λ j f. e j (omega (arith, f))) (link_tail next (x, k) (placed (suc k) ls) l))

-- the tables of the arguments from one place on, and one more before it
module _ {A : Type 0} (see : A → Option (List ℕ)) (xs : List A) (back place : ℕ) (x : A) (lt : back < length xs) (is : place ≡ length xs - 1 - back) (at : x ≡ get_or xs place x) where
  abbrev pub from : ℕ → List (GivenArgument ℕ)
  from n = placed (length xs - n) (map see (drop (length xs - n) xs))

  behind_is : length xs - back ≡ suc place
  behind_is = omega (arith, lt, is)

  here_is : length xs - (back + 1) ≡ place
  here_is = omega (arith, lt, is)

  from_next : from (back + 1) ≡ (see x, place) ∷ from back
  from_next =
      ap (λ j. placed j (map see (drop j xs))) here_is
      ∙ drop_here see xs place x (omega (arith, lt, is))
      ∙ ap (λ (y : A). (see y, place) ∷ placed (suc place) (map see (drop (suc place) xs))) (sym at)
      ∙ ap (λ j. (see x, place) ∷ placed j (map see (drop j xs))) (sym behind_is)

  pub heads_next : (head head' : Option (List ℕ) → Option ℕ) → AreHeads head (from back) → ((other : Option (List ℕ)) → head' other ≡ cond (is_label other (see x)) (Some place) (head other)) → AreHeads head' (from (back + 1))
  heads_next head head' h s = subst (AreHeads head') (sym from_next) (heads_more head head' (see x, place) (from back) h s)

  pub linked_next : (head : Option (List ℕ) → Option ℕ) (next : List (Option ℕ)) (v : Option ℕ) → length next ≡ length xs → AreHeads head (from back) → v ≡ head (see x) → AreLinked (next_at next) (from back) → AreLinked (next_at (set next place v)) (from (back + 1))
  linked_next head next v long h e l =
      subst (AreLinked (next_at (set next place v))) (sym from_next)
      (link_more (next_at (set next place v)) (see x, place) (from back) (get_or-set_same next place v None (omega (arith, long, lt, is)) ∙ e ∙ h (see x))
      (linked_later (next_at next) (next_at (set next place v)) (length xs - back) (map see (drop (length xs - back) xs)) (λ j f. get_or-set_other next place j v None (λ q. absurd (omega (arith, f, q, behind_is)))) l))

pub from_none : {A : Type 0} (see : A → Option (List ℕ)) (xs : List A) → placed (length xs - 0) (map see (drop (length xs - 0) xs)) ≡ []
from_none {A = A} see xs = ap (λ (ys : List A). placed (length xs - 0) (map see ys)) (drop_of_length-le xs (omega arith))

pub from_all : {A : Type 0} (see : A → Option (List ℕ)) (xs : List A) (n : ℕ) → length xs ≤ n → placed (length xs - n) (map see (drop (length xs - n) xs)) ≡ placed 0 (map see xs)
from_all see xs n l = ap (λ j. placed j (map see (drop j xs))) (let e : length xs - n ≡ 0 = omega (arith, l) in e)

-- ---- what is left, from one place on

left_at : (ls : List (Option (List ℕ))) (ts : List Bool) (i : ℕ) → i < length ls → i < length ts → left_in i (drop i ls) (drop i ts) ≡ left_in i (get_or ls i None ∷ drop (suc i) ls) (get_or ts i false ∷ drop (suc i) ts)
left_at ls ts i l m =
    ap (λ (xs : List (Option (List ℕ))). left_in i xs (drop i ts)) (drop-cons ls i None l)
    ∙ ap (left_in i (get_or ls i None ∷ drop (suc i) ls)) (drop-cons ts i false m)

pub taken_behind : (ls : List (Option (List ℕ))) (ts : List Bool) (i : ℕ) (all : List (GivenArgument ℕ)) → i < length ls → i < length ts → get_or ts i false ≡ true → left_in i (drop i ls) (drop i ts) ≡ all → left_in (i + 1) (drop (i + 1) ls) (drop (i + 1) ts) ≡ all
taken_behind ls ts i all l m e h =
    ap (λ j. left_in j (drop j ls) (drop j ts)) (let q : i + 1 ≡ suc i = omega arith in q)
    ∙ sym (ap (λ b. left_in i (get_or ls i None ∷ drop (suc i) ls) (b ∷ drop (suc i) ts)) e) ∙ sym (left_at ls ts i l m) ∙ h

pub one_left : (ls : List (Option (List ℕ))) (ts : List Bool) (i : ℕ) (all : List (GivenArgument ℕ)) → i < length ls → i < length ts → get_or ts i false ≡ false → left_in i (drop i ls) (drop i ts) ≡ all → false ≡ nat_eq (length all) 0
one_left ls ts i all l m e h =
    let is : (get_or ls i None, i) ∷ left_in (suc i) (drop (suc i) ls) (drop (suc i) ts) ≡ all = sym (ap (λ b. left_in i (get_or ls i None ∷ drop (suc i) ls) (b ∷ drop (suc i) ts)) e) ∙ sym (left_at ls ts i l m) ∙ h in
    some all is
  where
    some : (gs : List (GivenArgument ℕ)) → (get_or ls i None, i) ∷ left_in (suc i) (drop (suc i) ls) (drop (suc i) ts) ≡ gs → false ≡ nat_eq (length gs) 0
    some [] q = absurd (let c : ((get_or ls i None, i) ∷ left_in (suc i) (drop (suc i) ls) (drop (suc i) ts)) ≡ [] = q in cc)
    some (g ∷ gs) q = sym (ne_eqb (suc (length gs)) 0 (λ e. absurd (omega (arith, e))))

pub none_from : (ls : List (Option (List ℕ))) (ts : List Bool) (i : ℕ) (all : List (GivenArgument ℕ)) → length ls ≤ i → left_in i (drop i ls) (drop i ts) ≡ all → true ≡ nat_eq (length all) 0
none_from ls ts i all l h = ap (λ (gs : List (GivenArgument ℕ)). nat_eq (length gs) 0) (sym (ap (λ (xs : List (Option (List ℕ))). left_in i xs (drop i ts)) (drop_of_length-le ls l)) ∙ h)

-- ---- the same arguments with something else in place of their places

abbrev taken_on : (ℕ → ℕ) → Taken → Taken
taken_on f None = None
taken_on f (Some x) = Some (f x.0, map (on f) x.1)

after_on : (f : ℕ → ℕ) (g : GivenArgument ℕ) (o : Taken) → after (on f g) (taken_on f o) ≡ taken_on f (after g o)
after_on f g None = refl
after_on f g (Some x) = refl

argument_on : (f : ℕ → ℕ) (label : Option (List ℕ)) (gs : List (GivenArgument ℕ)) → argument label (map (on f) gs) ≡ taken_on f (argument label gs)
argument_on f label [] = refl
argument_on f label (g ∷ gs) = by (argument_on f label gs) (is_label label g.0) where
  by : argument label (map (on f) gs) ≡ taken_on f (argument label gs) → (b : Bool) → cond b (Some (f g.1, map (on f) gs)) (after (on f g) (argument label (map (on f) gs))) ≡ taken_on f (cond b (Some (g.1, gs)) (after g (argument label gs)))
  by later true = refl
  by later false = ap (after (on f g)) later ∙ after_on f g (argument label gs)

others_on : (f : ℕ → ℕ) (gs : List (GivenArgument ℕ)) (o : Taken) → others (map (on f) gs) (taken_on f o) ≡ map (on f) (others gs o)
others_on f gs None = refl
others_on f gs (Some x) = refl

pub others_argument_on : (f : ℕ → ℕ) (label : Option (List ℕ)) (gs : List (GivenArgument ℕ)) → others (map (on f) gs) (argument label (map (on f) gs)) ≡ map (on f) (others gs (argument label gs))
others_argument_on f label gs = ap (others (map (on f) gs)) (argument_on f label gs) ∙ others_on f gs (argument label gs)

pub first_on : (f : ℕ → ℕ) (label : Option (List ℕ)) (gs : List (GivenArgument ℕ)) → first_of label (map (on f) gs) ≡ option_map f (first_of label gs)
first_on f label gs = ap (option_map (λ (x : ℕ × List (GivenArgument ℕ)). x.0)) (argument_on f label gs) ∙ by (argument label gs) where
  by : (o : Taken) → option_map (λ (x : ℕ × List (GivenArgument ℕ)). x.0) (taken_on f o) ≡ option_map f (option_map (λ (x : ℕ × List (GivenArgument ℕ)). x.0) o)
  by None = refl
  by (Some x) = refl

missing_on : (f : ℕ → ℕ) (p : Parameter) (o : Taken) (m : Option (List ℕ)) → missing_or p (taken_on f o) m ≡ missing_or p o m
missing_on f p None m = refl
missing_on f p (Some x) m = refl

pub first_missing_on : (f : ℕ → ℕ) (ps : List Parameter) (gs : List (GivenArgument ℕ)) → first_missing ps (map (on f) gs) ≡ first_missing ps gs
first_missing_on f [] gs = refl
first_missing_on f (p ∷ ps) gs =
    ap (λ (hs : List (GivenArgument ℕ)). missing_or p (argument (label_of p) (map (on f) gs)) (first_missing ps hs)) (others_argument_on f (label_of p) gs)
    ∙ ap (λ (o : Taken). missing_or p o (first_missing ps (map (on f) (others gs (argument (label_of p) gs))))) (argument_on f (label_of p) gs)
    ∙ missing_on f p (argument (label_of p) gs) (first_missing ps (map (on f) (others gs (argument (label_of p) gs))))
    ∙ ap (missing_or p (argument (label_of p) gs)) (first_missing_on f ps (others gs (argument (label_of p) gs)))

pub left_over_on : (f : ℕ → ℕ) (ps : List Parameter) (gs : List (GivenArgument ℕ)) → left_over ps (map (on f) gs) ≡ map (on f) (left_over ps gs)
left_over_on f [] gs = refl
left_over_on f (p ∷ ps) gs = ap (left_over ps) (others_argument_on f (label_of p) gs) ∙ left_over_on f ps (others gs (argument (label_of p) gs))

-- arguments by their places are the arguments
pub placed_on : {A : Type 0} (see : A → GivenArgument ℕ) (f : ℕ → ℕ) (k : ℕ) (xs : List A) → ((j : ℕ) (x : A) → j < length xs → f (k + j) ≡ (see (get_or xs j x)).1) → map (on f) (placed k (map (λ x. (see x).0) xs)) ≡ map see xs
placed_on see f k [] h = refl
placed_on see f k (x ∷ xs) h =
    let same : f k ≡ (see x).1 = ap f (let e : k ≡ k + 0 = omega arith in e) ∙ h 0 x (omega arith) in
    ap₂ (λ (g : GivenArgument ℕ) (gs : List (GivenArgument ℕ)). g ∷ gs) (ap (λ n. ((see x).0, n)) same) (placed_on see f (suc k) xs (λ j y l. ap f (let e : suc k + j ≡ k + suc j = omega arith in e) ∙ h (suc j) y (omega (arith, l))))
