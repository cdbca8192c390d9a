-- Numbering a type's variables by their places.
use Rattle.std.proofs.Common.{◌≡◌, ◌∙◌, sym, ap, ap₂, subst, refl, ℕ, ◌<◌, List, [], ◌∷◌, ◌++◌, length, map, slice_get, Some}
use Rattle.type_terms.specs.Naming.{instance, instances, kind_instance, new_number, number_or}
use Rattle.type_terms.specs.Term.{Term, Terms, base_term, list_term, tuple_term, source_term, variable, no_terms, one_more, terms_of, InKind, InTerm, InTerms}
use Rattle.type_terms.specs.declared.ty.Base.{Base}
use Rattle.type_terms.specs.declared.ty.KindTerm.{KindTerm}
use Rattle.type_terms.specs.declared.ty.KindTerm.TheVariants.{Fixed, Var}
use Rattle.type_terms.proofs.Renaming.{instances_map}
use Rattle.type_terms.proofs.Terms.{InTerms-map}
use Rattle.type_instances.proofs.Reading.{get_some, get_below}
use Rattle.general_types.specs.Numbering.{IsFront, IsNumbered, AreNumbered}

pub front_itself : (xs : List ℕ) → IsFront xs xs
front_itself xs = record { same = λ i k e. e }

pub front_both : (xs ys zs : List ℕ) → IsFront xs ys → IsFront ys zs → IsFront xs zs
front_both xs ys zs f g = record { same = λ i k e. g.same i k (f.same i k e) }

pub below_front : (xs ys : List ℕ) → IsFront xs ys → (i : ℕ) → i < length xs → i < length ys
below_front xs ys f i l = let p = get_some xs i l in get_below ys i p.0 (f.same i p.0 p.1)

number_front : (xs ys : List ℕ) → IsFront xs ys → (i : ℕ) → i < length xs → new_number ys i ≡ new_number xs i
number_front xs ys f i l = let p = get_some xs i l in ap (number_or i) (f.same i p.0 p.1) ∙ sym (ap (number_or i) p.1)

module _ (ts ks ts' ks' : List ℕ) (f : IsFront ts ts') (g : IsFront ks ks') where
  kind_later : (k : KindTerm) → InKind (λ n. n < length ks) k → kind_instance ks' k ≡ kind_instance ks k
  kind_later (Fixed k) h = refl
  kind_later (Var n) h = ap Var (number_front ks ks' g n h)

  mutual
    pub instance_later : (t : Term) → InTerm (λ n. n < length ts) (λ n. n < length ks) t → instance ts' ks' t ≡ instance ts ks t
    instance_later (base_term b) h = refl
    instance_later (list_term t) h = ap list_term (instance_later t h)
    instance_later (tuple_term us) h = ap tuple_term (instances_later us h)
    instance_later (source_term k) h = ap source_term (kind_later k h)
    instance_later (variable n) h = ap variable (number_front ts ts' f n h)

    pub instances_later : (us : Terms) → InTerms (λ n. n < length ts) (λ n. n < length ks) us → instances ts' ks' us ≡ instances ts ks us
    instances_later no_terms h = refl
    instances_later (one_more t us) h = ap₂ one_more (instance_later t h.0) (instances_later us h.1)

  pub insides_later : (us : Terms) → InTerms (λ n. n < length ts) (λ n. n < length ks) us → InTerms (λ n. n < length ts') (λ n. n < length ks') us
  insides_later us h = InTerms-map (below_front ts ts' f) (below_front ks ks' g) us h

  pub map_later : (us : List Term) → InTerms (λ n. n < length ts) (λ n. n < length ks) (terms_of us) → map (instance ts' ks') us ≡ map (instance ts ks) us
  map_later [] h = refl
  map_later (u ∷ us) h = ap₂ (λ (x : Term) (xs : List Term). x ∷ xs) (instance_later u h.0) (map_later us h.1)

-- ---- each shape

pub numbered_base : (ts ks : List ℕ) (t u : Term) (b : Base) → t ≡ base_term b → u ≡ base_term b → IsNumbered ts ks ts ks t u
numbered_base ts ks t u b e f = subst (λ x. IsNumbered ts ks ts ks x u) (sym e) (subst (λ y. IsNumbered ts ks ts ks (base_term b) y) (sym f) (record { types = front_itself ts; kinds = front_itself ks; inside = tt; same = refl }))

pub numbered_source : (ts ks ks' : List ℕ) (t u : Term) (c d : KindTerm) → t ≡ source_term c → u ≡ source_term d → IsNumbered ts ks ts ks' (source_term c) (source_term d) → IsNumbered ts ks ts ks' t u
numbered_source ts ks ks' t u c d e f h = subst (λ x. IsNumbered ts ks ts ks' x u) (sym e) (subst (λ y. IsNumbered ts ks ts ks' (source_term c) y) (sym f) h)

pub numbered_variable : (ts ks ts' : List ℕ) (t u : Term) (n i : ℕ) → t ≡ variable n → u ≡ variable i → IsFront ts ts' → slice_get ts' i ≡ Some n → IsNumbered ts ks ts' ks t u
numbered_variable ts ks ts' t u n i e f g h = subst (λ x. IsNumbered ts ks ts' ks x u) (sym e) (subst (λ y. IsNumbered ts ks ts' ks (variable n) y) (sym f) (record { types = g; kinds = front_itself ks; inside = get_below ts' i n h; same = ap (λ o. variable (number_or i o)) h }))

pub numbered_tuple : (ts ks ts' ks' : List ℕ) (t u : Term) (xs us : List Term) → t ≡ tuple_term (terms_of xs) → u ≡ tuple_term (terms_of us) → AreNumbered ts ks ts' ks' xs us → IsNumbered ts ks ts' ks' t u
numbered_tuple ts ks ts' ks' t u xs us e f h = subst (λ z. IsNumbered ts ks ts' ks' z u) (sym e) (subst (λ z. IsNumbered ts ks ts' ks' (tuple_term (terms_of xs)) z) (sym f) (record { types = h.types; kinds = h.kinds; inside = h.inside; same = ap tuple_term (sym (instances_map ts' ks' us) ∙ ap terms_of h.same) }))

-- ---- several types

pub numbered_none : (ts ks : List ℕ) (us : List Term) → us ≡ [] → AreNumbered ts ks ts ks [] us
numbered_none ts ks us e = subst (λ z. AreNumbered ts ks ts ks [] z) (sym e) (record { types = front_itself ts; kinds = front_itself ks; inside = tt; same = refl })

pub insides_push : (P Q : ℕ → Type 0) (ts : List Term) (t : Term) → InTerms P Q (terms_of ts) → InTerm P Q t → InTerms P Q (terms_of (ts ++ (t ∷ [])))
insides_push P Q [] t a h = (h, tt)
insides_push P Q (u ∷ ts) t a h = (a.0, insides_push P Q ts t a.1 h)

map_push : (f : Term → Term) (us : List Term) (u : Term) → map f (us ++ (u ∷ [])) ≡ map f us ++ (f u ∷ [])
map_push f [] u = refl
map_push f (v ∷ us) u = ap (λ (xs : List Term). f v ∷ xs) (map_push f us u)

pub numbered_more : (ts ks ts1 ks1 ts2 ks2 : List ℕ) (xs us : List Term) (t u : Term) → AreNumbered ts ks ts1 ks1 xs us → IsNumbered ts1 ks1 ts2 ks2 t u → AreNumbered ts ks ts2 ks2 (xs ++ (t ∷ [])) (us ++ (u ∷ []))
numbered_more ts ks ts1 ks1 ts2 ks2 xs us t u h r = record {
  types = front_both ts ts1 ts2 h.types r.types;
  kinds = front_both ks ks1 ks2 h.kinds r.kinds;
  inside = insides_push _ _ us u (insides_later ts1 ks1 ts2 ks2 r.types r.kinds (terms_of us) h.inside) r.inside;
  same = map_push (instance ts2 ks2) us u ∙ ap₂ (λ (ys : List Term) (y : Term). ys ++ (y ∷ [])) (map_later ts1 ks1 ts2 ks2 r.types r.kinds us h.inside ∙ h.same) r.same;
}
