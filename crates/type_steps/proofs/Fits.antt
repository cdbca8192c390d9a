-- Arguments are matched one parameter at a time.
use Rattle.std.proofs.Common.{◌≡◌, ◌≢◌, ◌∙◌, sym, ap, ap₂, subst, refl, ℕ, zero, suc, ◌+◌, ◌<◌, ◌≤◌, length, List, [], ◌∷◌, ◌++◌, drop, take, get_or, map, arith, Some, None, Option, Bool, true, false, cond, nat_eq}
use Rattle.std.proofs.lemmas.Bool.{eqb-true}
use Rattle.std.proofs.lemmas.List.{drop_more, take_more, map-append}
use Rattle.std.specs.Prelude.{option_map}
use Rattle.std.specs.List.{remove}
use Rattle.type_terms.specs.Ground.{Ground, Assignment}
use Rattle.type_terms.specs.Term.{Term, meaning}
use Rattle.type_terms.specs.Table.{Table, Solves}
use Rattle.type_terms.specs.Agrees.{Agrees, Follows}
use Rattle.typing_rules.specs.Arguments.{Parameter, GivenArgument, Matched, TakenAs, after, argument, first_missing, is_label, is_needed, label_of, left_over, missing_or, others, arguments_taken}
use Rattle.type_steps.specs.Flow.{Restricts, Never, IsMade, AreInside, AreTermsOver, given_under}
use Rattle.type_steps.specs.Fitting.{FitsOne, IsInside}
use Rattle.type_steps.proofs.Tables.{over_later, follows_same, follows_both, agrees_same, agrees_both, meaning_over}
use Rattle.type_steps.proofs.Parts.{inside_later, given_over}

-- ---- an argument by its types

abbrev pub Taken : Type 0
Taken = Option (ℕ × List (GivenArgument ℕ))

abbrev pub under_taken : Assignment → Taken → Option (Ground × List (GivenArgument Ground))
under_taken a None = None
under_taken a (Some x) = Some (a.type_of x.0, given_under a x.1)

after_under : (a : Assignment) (g : GivenArgument ℕ) (o : Taken) → after (g.0, a.type_of g.1) (under_taken a o) ≡ under_taken a (after g o)
after_under a g None = refl
after_under a g (Some x) = refl

argument_under : (a : Assignment) (label : Option (List ℕ)) (gs : List (GivenArgument ℕ)) → argument label (given_under a gs) ≡ under_taken a (argument label gs)
argument_under a label [] = refl
argument_under a label (g ∷ gs) = by_label (argument_under a label gs) (is_label label g.0) where
  by_label : argument label (given_under a gs) ≡ under_taken a (argument label gs) → (b : Bool) → cond b (Some (a.type_of g.1, given_under a gs)) (after (g.0, a.type_of g.1) (argument label (given_under a gs))) ≡ under_taken a (cond b (Some (g.1, gs)) (after g (argument label gs)))
  by_label later true = refl
  by_label later false = ap (after (g.0, a.type_of g.1)) later ∙ after_under a g (argument label gs)

-- ---- one parameter

-- a match where the first parameter takes what x says
abbrev pub MatchedBy : Parameter → List Parameter → List (GivenArgument Ground) → Option (Ground × List (GivenArgument Ground)) → Ground → List Ground → Type 0
MatchedBy p ps gs x t ts = (missing_or p x (first_missing ps (others gs x)) ≡ None) × (left_over ps (others gs x) ≡ []) × TakenAs (option_map (λ y. y.0) x ∷ arguments_taken ps (others gs x)) (t ∷ ts)

needed_not : (b : Bool) (name : List ℕ) (later : Option (List ℕ)) → cond b (Some name) later ≡ None → (b ≡ false) × (later ≡ None)
needed_not true name later e = absurd (let c : ◌≡◌ {A = Option (List ℕ)} (Some name) None = e in cc)
needed_not false name later e = (refl, e)

abbrev pub first_of : Taken → Option ℕ
first_of o = option_map (λ x. x.0) o

by_one : (a : Assignment) (p : Parameter) (ps : List Parameter) (gs : List (GivenArgument ℕ)) (t : Ground) (ts : List Ground) (o : Taken) → FitsOne p (option_map a.type_of (first_of o)) t → Matched ps (given_under a (others gs o)) ts → MatchedBy p ps (given_under a gs) (under_taken a o) t ts
by_one a p ps gs t ts None e h = (ap (λ b. cond b (Some p.name) (first_missing ps (given_under a gs))) e ∙ h.0, h.1, h.2)
by_one a p ps gs t ts (Some x) e h = (h.0, h.1, (e, h.2))

of_one : (a : Assignment) (p : Parameter) (ps : List Parameter) (gs : List (GivenArgument ℕ)) (t : Ground) (ts : List Ground) (o : Taken) → MatchedBy p ps (given_under a gs) (under_taken a o) t ts → FitsOne p (option_map a.type_of (first_of o)) t × Matched ps (given_under a (others gs o)) ts
of_one a p ps gs t ts None h = let n = needed_not (is_needed p.form) p.name (first_missing ps (given_under a gs)) h.0 in (n.0, (n.1, h.1, h.2))
of_one a p ps gs t ts (Some x) h = (h.2.0, (h.0, h.1, h.2.1))

pub match_one : (a : Assignment) (p : Parameter) (ps : List Parameter) (gs : List (GivenArgument ℕ)) (t : Ground) (ts : List Ground) → FitsOne p (option_map a.type_of (first_of (argument (label_of p) gs))) t → Matched ps (given_under a (others gs (argument (label_of p) gs))) ts → Matched (p ∷ ps) (given_under a gs) (t ∷ ts)
match_one a p ps gs t ts e h = subst (λ x. MatchedBy p ps (given_under a gs) x t ts) (sym (argument_under a (label_of p) gs)) (by_one a p ps gs t ts (argument (label_of p) gs) e h)

pub one_matched : (a : Assignment) (p : Parameter) (ps : List Parameter) (gs : List (GivenArgument ℕ)) (t : Ground) (ts : List Ground) → Matched (p ∷ ps) (given_under a gs) (t ∷ ts) → FitsOne p (option_map a.type_of (first_of (argument (label_of p) gs))) t × Matched ps (given_under a (others gs (argument (label_of p) gs))) ts
one_matched a p ps gs t ts h = of_one a p ps gs t ts (argument (label_of p) gs) (subst (λ x. MatchedBy p ps (given_under a gs) x t ts) (argument_under a (label_of p) gs) h)

-- ---- as many types as parameters

fits_length : (os : List (Option Ground)) (ts : List Ground) → TakenAs os ts → length os ≡ length ts
fits_length [] [] h = refl
fits_length [] (t ∷ ts) h = absurd h
fits_length (o ∷ os) [] h = absurd h
fits_length (None ∷ os) (t ∷ ts) h = ap suc (fits_length os ts h)
fits_length (Some x ∷ os) (t ∷ ts) h = ap suc (fits_length os ts h.1)

taken_length : (ps : List Parameter) (gs : List (GivenArgument Ground)) → length (arguments_taken ps gs) ≡ length ps
taken_length [] gs = refl
taken_length (p ∷ ps) gs = ap suc (taken_length ps (others gs (argument (label_of p) gs)))

pub matched_length : (ps : List Parameter) (gs : List (GivenArgument Ground)) (ts : List Ground) → Matched ps gs ts → length ps ≡ length ts
matched_length ps gs ts h = sym (taken_length ps gs) ∙ fits_length (arguments_taken ps gs) ts h.2

pub map_length : {A B : Type 0} (f : A → B) (xs : List A) → length (map f xs) ≡ length xs
map_length f [] = refl
map_length f (x ∷ xs) = ap suc (map_length f xs)

pub lengths_never : (s : Table) (ps : List Parameter) (gs : List (GivenArgument ℕ)) (us : List Term) → length ps ≢ length us → Never s (λ a. Matched ps (given_under a gs) (map (meaning a) us))
lengths_never s ps gs us n a m h = n (matched_length ps (given_under a gs) (map (meaning a) us) h ∙ map_length (meaning a) us)

-- ---- the loop

pub record Fitting (s0 s : Table) (ps qs : List Parameter) (us vs : List Term) (gs0 gs : List (GivenArgument ℕ)) : Type 0 where
  pub follows : Follows s0 s
  pub inside : AreInside s gs
  pub over : AreTermsOver s vs
  pub sound : (a : Assignment) → Solves a s → Matched qs (given_under a gs) (map (meaning a) vs) → Matched ps (given_under a gs0) (map (meaning a) us)
  pub complete : (a : Assignment) → Solves a s0 → Matched ps (given_under a gs0) (map (meaning a) us) → (b : Assignment) × Solves b s × Agrees s0 a b × Matched qs (given_under b gs) (map (meaning b) vs)

pub fitting_none : (s : Table) (ps : List Parameter) (us : List Term) (gs : List (GivenArgument ℕ)) → AreInside s gs → AreTermsOver s us → Fitting s s ps ps us us gs gs
fitting_none s ps us gs i o = record { follows = follows_same s; inside = i; over = o; sound = λ a m h. h; complete = λ a m h. (a, m, agrees_same s a, h) }

inside_others : (s : Table) (label : Option (List ℕ)) (gs : List (GivenArgument ℕ)) → AreInside s gs → AreInside s (others gs (argument label gs))
inside_others s label [] o = tt
inside_others s label (g ∷ gs) o = by_label (inside_others s label gs o.1) (is_label label g.0) where
  behind : (x : Taken) → AreInside s (others gs x) → AreInside s (others (g ∷ gs) (after g x))
  behind None h = o
  behind (Some x) h = (o.0, h)

  by_label : AreInside s (others gs (argument label gs)) → (b : Bool) → AreInside s (others (g ∷ gs) (cond b (Some (g.1, gs)) (after g (argument label gs))))
  by_label later true = o.1
  by_label later false = behind (argument label gs) later

pub taken_inside : (s : Table) (label : Option (List ℕ)) (gs : List (GivenArgument ℕ)) → AreInside s gs → IsInside s (option_map (λ x. x.0) (argument label gs))
taken_inside s label [] o = tt
taken_inside s label (g ∷ gs) o = by_label (taken_inside s label gs o.1) (is_label label g.0) where
  behind : (x : Taken) → IsInside s (option_map (λ y. y.0) x) → IsInside s (option_map (λ y. y.0) (after g x))
  behind None h = tt
  behind (Some x) h = h

  by_label : IsInside s (option_map (λ x. x.0) (argument label gs)) → (b : Bool) → IsInside s (option_map (λ x. x.0) (cond b (Some (g.1, gs)) (after g (argument label gs))))
  by_label later true = o.0
  by_label later false = behind (argument label gs) later

terms_later : (s s' : Table) (ts : List Term) → Follows s s' → AreTermsOver s ts → AreTermsOver s' ts
terms_later s s' [] f o = tt
terms_later s s' (t ∷ ts) f o = (over_later s s' t f o.0, terms_later s s' ts f o.1)

terms_over : (s : Table) (a b : Assignment) (ts : List Term) → AreTermsOver s ts → Agrees s a b → map (meaning a) ts ≡ map (meaning b) ts
terms_over s a b [] o g = refl
terms_over s a b (t ∷ ts) o g = ap₂ (λ (x : Ground) (xs : List Ground). x ∷ xs) (meaning_over s a b t o.0 g) (terms_over s a b ts o.1 g)

-- what is left to match at a later assignment
matched_over : (s : Table) (a b : Assignment) (ps : List Parameter) (gs : List (GivenArgument ℕ)) (us : List Term) → AreInside s gs → AreTermsOver s us → Agrees s a b → Matched ps (given_under a gs) (map (meaning a) us) → Matched ps (given_under b gs) (map (meaning b) us)
matched_over s a b ps gs us i o g h = subst (λ (xs : List (GivenArgument Ground)). Matched ps xs (map (meaning b) us)) (given_over s a b gs i g) (subst (λ (ts : List Ground). Matched ps (given_under a gs) ts) (terms_over s a b us o g) h)

module _ (s0 s : Table) (ps qs : List Parameter) (us vs : List Term) (gs0 gs : List (GivenArgument ℕ)) (p : Parameter) (u : Term) (f : Fitting s0 s ps (p ∷ qs) us (u ∷ vs) gs0 gs) where
  abbrev pub rest : List (GivenArgument ℕ)
  rest = others gs (argument (label_of p) gs)

  abbrev pub took : Option ℕ
  took = option_map (λ x. x.0) (argument (label_of p) gs)

  pub fitting_next : (s1 : Table) → Restricts s s1 (λ a. FitsOne p (option_map a.type_of took) (meaning a u)) → Fitting s0 s1 ps qs us vs gs0 rest
  fitting_next s1 h = record {
    follows = follows_both s0 s s1 f.follows h.follows;
    inside = inside_later s s1 rest h.follows (inside_others s (label_of p) gs f.inside);
    over = terms_later s s1 vs h.follows f.over.1;
    sound = λ a m x. f.sound a (h.follows.solves a m) (match_one a p qs gs (meaning a u) (map (meaning a) vs) (h.sound a m) x);
    complete = λ a m x. further a (f.complete a m x);
  } where
    narrowed : (a b : Assignment) → Agrees s0 a b → Matched qs (given_under b rest) (map (meaning b) vs) → ((c : Assignment) × Solves c s1 × Agrees s b c) → (c : Assignment) × Solves c s1 × Agrees s0 a c × Matched qs (given_under c rest) (map (meaning c) vs)
    narrowed a b g x r = (r.0, r.1, agrees_both s0 s a b r.0 f.follows g r.2, matched_over s b r.0 qs rest vs (inside_others s (label_of p) gs f.inside) f.over.1 r.2 x)

    further : (a : Assignment) → ((b : Assignment) × Solves b s × Agrees s0 a b × Matched (p ∷ qs) (given_under b gs) (meaning b u ∷ map (meaning b) vs)) → (c : Assignment) × Solves c s1 × Agrees s0 a c × Matched qs (given_under c rest) (map (meaning c) vs)
    further a r =
        let one = one_matched r.0 p qs gs (meaning r.0 u) (map (meaning r.0) vs) r.3 in
        narrowed a r.0 r.2 one.1 (h.complete r.0 r.1 one.0)

  pub fitting_never : Never s (λ a. FitsOne p (option_map a.type_of took) (meaning a u)) → Never s0 (λ a. Matched ps (given_under a gs0) (map (meaning a) us))
  fitting_never n a m x = absent (f.complete a m x) where
    absent : ((b : Assignment) × Solves b s × Agrees s0 a b × Matched (p ∷ qs) (given_under b gs) (meaning b u ∷ map (meaning b) vs)) → ⊥
    absent r = n r.0 r.1 (one_matched r.0 p qs gs (meaning r.0 u) (map (meaning r.0) vs) r.3).0

-- at the end nothing may be left over
pub fitting_end : (ended : Bool) (s0 s : Table) (ps : List Parameter) (us : List Term) (gs0 gs : List (GivenArgument ℕ)) → (ended ≡ true → gs ≡ []) → (ended ≡ false → gs ≢ []) → Fitting s0 s ps [] us [] gs0 gs → IsMade ended s0 s (λ a. Matched ps (given_under a gs0) (map (meaning a) us))
fitting_end true s0 s ps us gs0 gs is isn f = record {
  follows = f.follows;
  sound = λ a m. f.sound a m (refl, ap (given_under a) (is refl), tt);
  complete = λ a m h. let r = f.complete a m h in (r.0, r.1, r.2);
}
fitting_end false s0 s ps us gs0 gs is isn f = λ a m h. let r = f.complete a m h in isn refl (none_left r.0 gs r.3.1) where
  none_left : (b : Assignment) (hs : List (GivenArgument ℕ)) → given_under b hs ≡ [] → hs ≡ []
  none_left b [] e = refl
  none_left b (x ∷ hs) e = absurd (let c : ((x.0, b.type_of x.1) ∷ given_under b hs) ≡ [] = e in cc)

-- ---- taking an argument out of a list

module _ {A : Type 0} (see : A → GivenArgument ℕ) (label : Option (List ℕ)) where
  none_behind : (g : GivenArgument ℕ) (rest : List (GivenArgument ℕ)) (b : Bool) (o : Taken) → cond b (Some (g.1, rest)) (after g o) ≡ None → (b ≡ false) × (o ≡ None)
  none_behind g rest true o h = absurd (let c : ◌≡◌ {A = Taken} (Some (g.1, rest)) None = h in cc)
  none_behind g rest false None h = (refl, refl)
  none_behind g rest false (Some x) h = absurd (let c : ◌≡◌ {A = Taken} (Some (x.0, g ∷ x.1)) None = h in cc)

  pub taken_at : (gs : List A) (i : ℕ) (x : A) → i < length gs → x ≡ get_or gs i x → argument label (map see (take i gs)) ≡ None → is_label label (see x).0 ≡ true → argument label (map see gs) ≡ Some ((see x).1, map see (remove gs i))
  taken_at [] i x lt is h same = absurd (omega (arith, lt))
  taken_at (g ∷ gs) zero x lt is h same = ap (λ (y : A). cond (is_label label (see y).0) (Some ((see y).1, map see gs)) (after (see y) (argument label (map see gs)))) (sym is) ∙ ap (λ b. cond b (Some ((see x).1, map see gs)) (after (see x) (argument label (map see gs)))) same
  taken_at (g ∷ gs) (suc i) x lt is h same =
      let parts = none_behind (see g) (map see (take i gs)) (is_label label (see g).0) (argument label (map see (take i gs))) h in
      let later = taken_at gs i x (omega (arith, lt)) is parts.1 same in
      ap (λ b. cond b (Some ((see g).1, map see gs)) (after (see g) (argument label (map see gs)))) parts.0 ∙ ap (after (see g)) later

  none_more : (gs : List (GivenArgument ℕ)) (x : GivenArgument ℕ) → argument label gs ≡ None → is_label label x.0 ≡ false → argument label (gs ++ x ∷ []) ≡ None
  none_more [] x h other = ap (λ b. cond b (Some (x.1, [])) None) other
  none_more (g ∷ gs) x h other =
      let parts = none_behind g gs (is_label label g.0) (argument label gs) h in
      ap (λ b. cond b (Some (g.1, gs ++ x ∷ [])) (after g (argument label (gs ++ x ∷ [])))) parts.0 ∙ ap (after g) (none_more gs x parts.1 other)

  pub one_more_none : (gs : List A) (i : ℕ) (x : A) → i < length gs → x ≡ get_or gs i x → argument label (map see (take i gs)) ≡ None → is_label label (see x).0 ≡ false → argument label (map see (take (i + 1) gs)) ≡ None
  one_more_none gs i x lt is h other =
      ap (λ (l : List A). argument label (map see l)) (take_more gs i x lt ∙ ap (λ (y : A). take i gs ++ y ∷ []) (sym is))
      ∙ ap (argument label) (map-append see (take i gs) (x ∷ []))
      ∙ none_more (map see (take i gs)) (see x) h other

-- ---- one step of the loop over the parameters

module _ {A B : Type 0} (s0 s : Table) (params : List A) (types : List B) (see : A → Parameter) (term : B → Term) (gs0 gs : List (GivenArgument ℕ)) (i : ℕ) (p : A) (t : B) (label : Option (List ℕ)) (took_one : Option ℕ)
    (lt : i < length params) (lt' : i < length types) (at : p ≡ get_or params i p) (at' : t ≡ get_or types i t) (named : label ≡ label_of (see p)) (taken_is : took_one ≡ option_map (λ (x : ℕ × List (GivenArgument ℕ)). x.0) (argument label gs))
    (f : Fitting s0 s (map see params) (map see (drop i params)) (map term types) (map term (drop i types)) gs0 gs) where
  now_at : Fitting s0 s (map see params) (see p ∷ map see (drop (i + 1) params)) (map term types) (term t ∷ map term (drop (i + 1) types)) gs0 gs
  now_at =
      let e : map see (drop i params) ≡ see p ∷ map see (drop (i + 1) params) = ap (map see) (drop_more params i p lt) ∙ ap (λ (y : A). see y ∷ map see (drop (i + 1) params)) (sym at) in
      let d : map term (drop i types) ≡ term t ∷ map term (drop (i + 1) types) = ap (map term) (drop_more types i t lt') ∙ ap (λ (y : B). term y ∷ map term (drop (i + 1) types)) (sym at') in
      subst (λ (vs : List Term). Fitting s0 s (map see params) (see p ∷ map see (drop (i + 1) params)) (map term types) vs gs0 gs) d
      (subst (λ (qs : List Parameter). Fitting s0 s (map see params) qs (map term types) (map term (drop i types)) gs0 gs) e f)

  took_is : took_one ≡ option_map (λ (x : ℕ × List (GivenArgument ℕ)). x.0) (argument (label_of (see p)) gs)
  took_is = taken_is ∙ ap (λ l. option_map (λ (x : ℕ × List (GivenArgument ℕ)). x.0) (argument l gs)) named

  pub fitting_step : (s1 : Table) (hs : List (GivenArgument ℕ)) → hs ≡ others gs (argument label gs) → Restricts s s1 (λ a. FitsOne (see p) (option_map a.type_of took_one) (meaning a (term t))) → Fitting s0 s1 (map see params) (map see (drop (i + 1) params)) (map term types) (map term (drop (i + 1) types)) gs0 hs
  fitting_step s1 hs left h =
      subst (λ (xs : List (GivenArgument ℕ)). Fitting s0 s1 (map see params) (map see (drop (i + 1) params)) (map term types) (map term (drop (i + 1) types)) gs0 xs) (sym (left ∙ ap (λ l. others gs (argument l gs)) named))
      (fitting_next s0 s (map see params) (map see (drop (i + 1) params)) (map term types) (map term (drop (i + 1) types)) gs0 gs (see p) (term t) now_at s1 (subst (λ (o : Option ℕ). Restricts s s1 (λ a. FitsOne (see p) (option_map a.type_of o) (meaning a (term t)))) took_is h))

  pub fitting_stops : Never s (λ a. FitsOne (see p) (option_map a.type_of took_one) (meaning a (term t))) → Never s0 (λ a. Matched (map see params) (given_under a gs0) (map (meaning a) (map term types)))
  fitting_stops n =
      fitting_never s0 s (map see params) (map see (drop (i + 1) params)) (map term types) (map term (drop (i + 1) types)) gs0 gs (see p) (term t) now_at (subst (λ (o : Option ℕ). Never s (λ a. FitsOne (see p) (option_map a.type_of o) (meaning a (term t)))) took_is n)

pub inside_by : (s : Table) (o : Option ℕ) (label : Option (List ℕ)) (gs : List (GivenArgument ℕ)) → o ≡ option_map (λ (x : ℕ × List (GivenArgument ℕ)). x.0) (argument label gs) → AreInside s gs → IsInside s o
inside_by s o label gs e h = subst (IsInside s) (sym e) (taken_inside s label gs h)

drop_all : {X : Type 0} (n : ℕ) (xs : List X) → length xs ≤ n → drop n xs ≡ []
drop_all zero [] h = refl
drop_all zero (x ∷ xs) h = absurd (omega (arith, h))
drop_all (suc n) [] h = refl
drop_all (suc n) (x ∷ xs) h = drop_all n xs (omega (arith, h))

-- behind the last parameter
pub fitting_done : {A B : Type 0} (ended : Bool) (s0 s : Table) (params : List A) (types : List B) (see : A → Parameter) (term : B → Term) (gs0 gs : List (GivenArgument ℕ)) (i : ℕ) → length params ≤ i → length types ≤ i → (ended ≡ true → gs ≡ []) → (ended ≡ false → gs ≢ []) →
    Fitting s0 s (map see params) (map see (drop i params)) (map term types) (map term (drop i types)) gs0 gs → IsMade ended s0 s (λ a. Matched (map see params) (given_under a gs0) (map (meaning a) (map term types)))
fitting_done ended s0 s params types see term gs0 gs i le le' is isn f =
    fitting_end ended s0 s (map see params) (map term types) gs0 gs is isn
    (subst (λ (vs : List Term). Fitting s0 s (map see params) [] (map term types) vs gs0 gs) (ap (map term) (drop_all i types le'))
    (subst (λ (qs : List Parameter). Fitting s0 s (map see params) qs (map term types) (map term (drop i types)) gs0 gs) (ap (map see) (drop_all i params le)) f))

pub none_left : {A B : Type 0} (b : Bool) (xs : List A) (f : A → B) → b ≡ nat_eq (length xs) 0 → b ≡ true → map f xs ≡ []
none_left b [] f e t = refl
none_left b (x ∷ xs) f e t = let zero_long : length (x ∷ xs) ≡ 0 = eqb-true (length (x ∷ xs)) 0 (sym e ∙ t) in absurd (omega (arith, zero_long))

pub some_left : {A B : Type 0} (b : Bool) (xs : List A) (f : A → B) → b ≡ nat_eq (length xs) 0 → b ≡ false → map f xs ≢ []
some_left b [] f e t = absurd (let c : ◌≡◌ {A = Bool} true false = sym e ∙ t in cc)
some_left b (x ∷ xs) f e t = λ h. absurd (let c : (f x ∷ map f xs) ≡ [] = h in cc)
