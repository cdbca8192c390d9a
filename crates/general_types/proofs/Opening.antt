-- The scheme of a def's types is their general type.
use Rattle.std.proofs.Common.{◌≡◌, ◌∙◌, sym, ap, ap₂, subst, refl, ℕ, zero, suc, ◌+◌, ◌<◌, List, [], ◌∷◌, length, map, take, slice_get, nat_eq, Bool, true, false, cond, Some, arith}
use Rattle.std.specs.List.{IsDistinct}
use Rattle.std.specs.Prelude.{⊤}
use Rattle.std.proofs.lemmas.List.{length-map}
use Rattle.liq_base.specs.declared.memory.Kind.{Kind}
use Rattle.type_terms.specs.Extends.{Extends}
use Rattle.type_terms.specs.Ground.{Ground, Assignment, IsNumber, source}
use Rattle.type_terms.specs.Naming.{behind}
use Rattle.type_terms.specs.Table.{Table, Solves, number_at}
use Rattle.type_terms.specs.Term.{Term, meaning, kind_meaning, source_term, terms_of, InKind, InTerms}
use Rattle.type_terms.specs.declared.ty.KindTerm.{KindTerm}
use Rattle.type_terms.specs.declared.ty.KindTerm.TheVariants.{Fixed, Var}
use Rattle.type_terms.proofs.Terms.{InTerm-map, InTerms-map}
use Rattle.typing_rules.specs.Kinds.{known_kind, kinds_of, put}
use Rattle.type_instances.specs.declared.general.TypeParameter.{TypeParameter}
use Rattle.type_instances.specs.declared.general.TypeParameter.TheVariants.{Any, Number, Outer as OuterType}
use Rattle.type_instances.specs.declared.general.KindParameter.{KindParameter}
use Rattle.type_instances.specs.declared.general.KindParameter.TheVariants.{Open as OpenKind, Unread, Outer as OuterKind}
use Rattle.type_instances.specs.Schemes.{Scheme, IsInstance, IsSchemeOver, KindMayBe, open_numbers}
use Rattle.type_instances.proofs.Reading.{none_is}
use Rattle.general_types.specs.declared.generalising.TextKind.{TextKind}
use Rattle.general_types.specs.Generals.{AreKindsOf, AreTextKindsOver, IsGeneral, IsNumberedText, settled}
use Rattle.general_types.specs.Holding.{HeldVariables, IsHeldBy, SameTypes, is_held}
use Rattle.general_types.specs.Numbering.{type_parameter, kind_parameter, kind_parameters}
use Rattle.general_types.specs.Texts.{DefTerms, OpensDef, scheme_with, text_kind, variable_in_text}
use Rattle.general_types.proofs.Generality.{KindsMayBe, parameter_from, types_seen, kinds_seen, spread, spread_numbers, spread_names, spread_means, spread_mean, seen_mean, seen_means}
use Rattle.general_types.proofs.KindLists.{IsFree, IsNamed, Names, kinds_from, kinds_many, named_all}
use Rattle.general_types.proofs.Ordering.{places_inside, text_counted}
use Rattle.general_types.proofs.TextOver.{text_is_over}

-- ---- the kinds of the text

-- an open variable's kind stands at its place among the open ones
opened_at : (f : ℕ → Kind) (ps : List KindParameter) (i m : ℕ) → slice_get ps i ≡ Some OpenKind → slice_get (map f (open_numbers m ps)) (length (open_numbers m (take i ps))) ≡ Some (f (m + i))
opened_at f [] i m e = none_is OpenKind e
opened_at f (OpenKind ∷ ps) zero m e = ap (λ n. Some (f n)) (let z : m ≡ m + 0 = omega arith in z)
opened_at f (Unread ∷ ps) zero m e = absurd (let g : Some Unread ≡ Some OpenKind = e in cc)
opened_at f (OuterKind n ∷ ps) zero m e = absurd (let g : Some (OuterKind n) ≡ Some OpenKind = e in cc)
opened_at f (OpenKind ∷ ps) (suc i) m e = opened_at f ps i (suc m) e ∙ ap (λ n. Some (f n)) (let z : suc m + i ≡ m + suc i = omega arith in z)
opened_at f (Unread ∷ ps) (suc i) m e = opened_at f ps i (suc m) e ∙ ap (λ n. Some (f n)) (let z : suc m + i ≡ m + suc i = omega arith in z)
opened_at f (OuterKind n ∷ ps) (suc i) m e = opened_at f ps i (suc m) e ∙ ap (λ n. Some (f n)) (let z : suc m + i ≡ m + suc i = omega arith in z)

module _ (a at : Assignment) (ps : List KindParameter) (kinds : (i : ℕ) (x : KindParameter) → slice_get ps i ≡ Some x → KindMayBe a x (at.kind_of i)) where
  variable_text : (i : ℕ) (x : KindParameter) → slice_get ps i ≡ Some x → IsNamed x → known_kind (map at.kind_of (open_numbers 0 ps)) (settled a (variable_in_text i (length (open_numbers 0 (take i ps))) (Some x))) ≡ Some (at.kind_of i)
  variable_text i OpenKind e named = opened_at at.kind_of ps i 0 e ∙ ap (λ n. Some (at.kind_of n)) (let z : 0 + i ≡ i = omega arith in z)
  variable_text i Unread e named = absurd named
  variable_text i (OuterKind n) e named = ap Some (sym (kinds i (OuterKind n) e))

  one_text : (c : KindTerm) → InKind (λ n. Names ps n) c → known_kind (map at.kind_of (open_numbers 0 ps)) (settled a (text_kind ps c)) ≡ Some (kind_meaning at c)
  one_text (Fixed k) h = refl
  one_text (Var i) h =
      ap (λ o. known_kind (map at.kind_of (open_numbers 0 ps)) (settled a (variable_in_text i (length (open_numbers 0 (take i ps))) o))) h.1 ∙ variable_text i h.0 h.1 h.2

  pub text_means : (cs : List KindTerm) → InTerms (λ _. ⊤) (λ n. Names ps n) (terms_of (map source_term cs)) → kinds_of (map at.kind_of (open_numbers 0 ps)) (map (settled a) (map (text_kind ps) cs)) ≡ Some (map (kind_meaning at) cs)
  text_means [] h = refl
  text_means (c ∷ cs) h = ap₂ put (one_text c h.0) (text_means cs h.1)

-- sources of the same types have the same kinds
same_kinds : (a b : Assignment) (cs ds : List KindTerm) → map (meaning a) (map source_term cs) ≡ map (meaning b) (map source_term ds) → map (kind_meaning a) cs ≡ map (kind_meaning b) ds
same_kinds a b [] [] e = refl
same_kinds a b [] (d ∷ ds) e = absurd (let g : [] ≡ source (kind_meaning b d) ∷ map (meaning b) (map source_term ds) = e in cc)
same_kinds a b (c ∷ cs) [] e = absurd (let g : source (kind_meaning a c) ∷ map (meaning a) (map source_term cs) ≡ [] = e in cc)
same_kinds a b (c ∷ cs) (d ∷ ds) e =
    let f : source (kind_meaning a c) ≡ source (kind_meaning b d) = cc in
    let g : kind_meaning a c ≡ kind_meaning b d = cc in
    let r : map (meaning a) (map source_term cs) ≡ map (meaning b) (map source_term ds) = cc in
    ap₂ (λ (x : Kind) (xs : List Kind). x ∷ xs) g (same_kinds a b cs ds r)

-- ---- the two directions

-- the kinds of the text over the scheme's variables
abbrev pub def_text : HeldVariables → ℕ → List ℕ → List KindTerm → List TextKind
def_text h n ks cs = map (text_kind (kind_parameters h n ks)) cs

module _ (s : Table) (h : HeldVariables) (ts ks : List ℕ) (read : ℕ) (kinds cs : List KindTerm) (named : InTerms (λ _. ⊤) (λ n. Names (kind_parameters h read ks) n) (terms_of (map source_term cs))) where
  pub text_is_of : (a at b : Assignment) → KindsMayBe h ks read a at → map (meaning at) (map source_term cs) ≡ map (meaning b) (map source_term kinds) → AreKindsOf a (def_text h read ks cs) (map at.kind_of (open_numbers 0 (kind_parameters h read ks))) kinds b
  text_is_of a at b may e = text_means a at (kind_parameters h read ks) may cs named ∙ ap Some (same_kinds at b cs kinds e)

-- the kinds of the text may be named
text_names : (s : Table) (h : HeldVariables) (found : DefTerms) (ts ks : List ℕ) (read : ℕ) (opened : DefTerms) → OpensDef s found ts ks read opened → InTerms (λ _. ⊤) (λ n. Names (kind_parameters h read ks) n) (terms_of (map source_term opened.kinds))
text_names s h found ts ks read opened o = named_all h read ks (λ n. n < length ts) opened.kinds (places_inside read opened.kinds o.order) o.sources.inside

module _ (s : Table) (names : List Term) (h : HeldVariables) (holds : IsHeldBy s names h) (ts ks : List ℕ) (found : DefTerms) (read : ℕ) (opened : DefTerms) (o : OpensDef s found ts ks read opened) where
  named : InTerms (λ _. ⊤) (λ n. Names (kind_parameters h read ks) n) (terms_of (map source_term opened.kinds))
  named = text_names s h found ts ks read opened o

  general_complete : (a b : Assignment) → Solves a s → Solves b s → SameTypes names a b → (opens : List Kind) × IsInstance (scheme_with s h ts ks read opened) a (map (meaning b) found.params) (meaning b found.result) opens × AreKindsOf a (def_text h read ks opened.kinds) opens found.kinds b
  general_complete a b m n e =
      let at : Assignment = behind ts ks b in
      let may = kinds_seen s names h holds ts ks read a b m n e in (
        map at.kind_of (open_numbers 0 (kind_parameters h read ks)),
        record {
          at = at;
          types = types_seen s names h holds ts ks read a b m n e;
          kinds = may;
          params = seen_mean b ts ks o.params.settled opened.params o.params.same ∙ o.params.are.same b n;
          result = seen_means b ts ks o.result.settled opened.result o.result.same ∙ o.result.is.same b n;
          opened = refl;
        },
        text_is_of s h ts ks read found.kinds opened.kinds named a at b may (seen_mean b ts ks o.sources.settled (map source_term opened.kinds) o.sources.same ∙ o.sources.are.same b n),
      )

  module _ (distinct : IsDistinct nat_eq ts) (distinct_kinds : IsDistinct nat_eq ks) (extends : (p : Assignment) → ((k : ℕ) → number_at s.types k ≡ true → IsNumber (p.type_of k)) → (a : Assignment) × Extends s p a) where
    general_sound : (a : Assignment) → Solves a s → (gs : List Ground) (r : Ground) (opens : List Kind) → IsInstance (scheme_with s h ts ks read opened) a gs r opens → (b : Assignment) × Solves b s × SameTypes names a b × (map (meaning b) found.params ≡ gs) × (meaning b found.result ≡ r) × AreKindsOf a (def_text h read ks opened.kinds) opens found.kinds b
    general_sound a m gs r opens i =
        let p = extends (spread s names h holds ts ks read distinct distinct_kinds a i.at m i.types i.kinds) (spread_numbers s names h holds ts ks read distinct distinct_kinds a i.at m i.types i.kinds) in
        let b : Assignment = p.0 in
        let e = p.1 in
        let mean = spread_mean s names h holds ts ks read distinct distinct_kinds a i.at m i.types i.kinds b e in (
          b,
          e.solves,
          spread_names s names h holds ts ks read distinct distinct_kinds a i.at m i.types i.kinds b e,
          sym (o.params.are.same b e.solves) ∙ mean o.params.settled opened.params o.params.same o.params.inside o.params.are.unbound ∙ i.params,
          sym (o.result.is.same b e.solves) ∙ spread_means s names h holds ts ks read distinct distinct_kinds a i.at m i.types i.kinds b e o.result.settled opened.result o.result.same o.result.inside o.result.is.unbound ∙ i.result,
          subst (λ js. AreKindsOf a (def_text h read ks opened.kinds) js found.kinds b) i.opened (text_is_of s h ts ks read found.kinds opened.kinds named a i.at b i.kinds (sym (mean o.sources.settled (map source_term opened.kinds) o.sources.same o.sources.inside o.sources.are.unbound) ∙ o.sources.are.same b e.solves)),
        )

    pub is_general : IsGeneral s names found.params found.result found.kinds (scheme_with s h ts ks read opened) (def_text h read ks opened.kinds)
    is_general = record { sound = general_sound; complete = general_complete }

-- ---- what a scheme of these names from outside is there

pub scheme_with_over : (s : Table) (names : List Term) (h : HeldVariables) → IsHeldBy s names h → (ts ks : List ℕ) (found : DefTerms) (read : ℕ) (opened : DefTerms) → OpensDef s found ts ks read opened → IsSchemeOver s (scheme_with s h ts ks read opened)
scheme_with_over s names h holds ts ks found read opened o = record {
  params = InTerms-map (λ n l. subst (λ m. n < m) (sym (length-map ts (type_parameter s h))) l) (λ n l. subst (λ m. n < m) (sym (kinds_many h read ks)) l) (terms_of opened.params) o.params.inside;
  result = InTerm-map (λ n l. subst (λ m. n < m) (sym (length-map ts (type_parameter s h))) l) (λ n l. subst (λ m. n < m) (sym (kinds_many h read ks)) l) opened.result o.result.inside;
  types = λ i k e. (let p = parameter_from (type_parameter s h) ts i (OuterType k) e in outer_type_there s names h holds p.0 k p.2);
  kinds = λ i k e. (let p = kinds_from h read ks i (OuterKind k) e in outer_kind_there s names h holds p.1 p.2 p.0 k p.4);
}
  where
    outer_type_there : (s : Table) (names : List Term) (h : HeldVariables) → IsHeldBy s names h → (j k : ℕ) → type_parameter s h j ≡ OuterType k → k < length s.types
    outer_type_there s names h holds j k e = by (is_held h.types j) refl (number_at s.types j) e
      where
        by : (b : Bool) → is_held h.types j ≡ b → (c : Bool) → cond b (OuterType j) (cond c Number Any) ≡ OuterType k → k < length s.types
        by true f c g = subst (λ n. n < length s.types) (let d : j ≡ k = cc in d) (holds.free_types j f).0
        by false f true g = absurd (let d : Number ≡ OuterType k = g in cc)
        by false f false g = absurd (let d : Any ≡ OuterType k = g in cc)

    outer_kind_there : (s : Table) (names : List Term) (h : HeldVariables) → IsHeldBy s names h → (free : KindParameter) → IsFree free → (j k : ℕ) → kind_parameter h free j ≡ OuterKind k → k < length s.kinds
    outer_kind_there s names h holds free is j k e = by (is_held h.kinds j) refl e
      where
        not_outer : (free : KindParameter) → IsFree free → free ≡ OuterKind k → ⊥
        not_outer OpenKind f g = let d : OpenKind ≡ OuterKind k = g in cc
        not_outer Unread f g = let d : Unread ≡ OuterKind k = g in cc
        not_outer (OuterKind n) f g = f

        by : (b : Bool) → is_held h.kinds j ≡ b → cond b (OuterKind j) free ≡ OuterKind k → k < length s.kinds
        by true f g = subst (λ n. n < length s.kinds) (let d : j ≡ k = cc in d) (holds.free_kinds j f).0
        by false f g = absurd (not_outer free is g)

-- ---- as the code makes it

module _ (s : Table) (h : HeldVariables) (ts ks : List ℕ) (found : DefTerms) (read : ℕ) (opened : DefTerms) (o : OpensDef s found ts ks read opened) (ps : List TypeParameter) (qs : List KindParameter) (types_are : ps ≡ map (type_parameter s h) ts) (kinds_are : qs ≡ kind_parameters h read ks) where
  scheme_is : scheme_with s h ts ks read opened ≡ (record { params = opened.params; result = opened.result; types = ps; kinds = qs })
  scheme_is = sym (ap₂ (λ (y : List TypeParameter) (z : List KindParameter). let g : Scheme = record { params = opened.params; result = opened.result; types = y; kinds = z } in g) types_are kinds_are)

  module _ (names : List Term) (holds : IsHeldBy s names h) where
    pub over_of : IsSchemeOver s (record { params = opened.params; result = opened.result; types = ps; kinds = qs })
    over_of = subst (IsSchemeOver s) scheme_is (scheme_with_over s names h holds ts ks found read opened o)

  module _ (text : List TextKind) (qs' : List KindParameter) (cs' : List KindTerm) (same_kinds_given : qs' ≡ qs) (same_text : cs' ≡ opened.kinds) (texts : text ≡ map (text_kind qs') cs') where
    text_as : def_text h read ks opened.kinds ≡ text
    text_as = sym (texts ∙ ap₂ (λ (z : List KindParameter) (ds : List KindTerm). map (text_kind z) ds) (same_kinds_given ∙ kinds_are) same_text)

    pub numbered_of : IsNumberedText (record { params = opened.params; result = opened.result; types = ps; kinds = qs }) text
    numbered_of = subst (λ g. IsNumberedText g text) scheme_is (subst (λ (ws : List TextKind). IsNumberedText (scheme_with s h ts ks read opened) ws) text_as (text_counted h read ks opened.kinds o.order))

    module _ (names : List Term) (holds : IsHeldBy s names h) where
      pub text_over_of : AreTextKindsOver s text
      text_over_of = subst (AreTextKindsOver s) text_as (text_is_over s (kind_parameters h read ks) ((scheme_with_over s names h holds ts ks found read opened o).kinds) opened.kinds (text_names s h found ts ks read opened o))

      module _ (distinct : IsDistinct nat_eq ts) (distinct_kinds : IsDistinct nat_eq ks) (extends : (p : Assignment) → ((k : ℕ) → number_at s.types k ≡ true → IsNumber (p.type_of k)) → (a : Assignment) × Extends s p a) where
        pub general_of : IsGeneral s names found.params found.result found.kinds (record { params = opened.params; result = opened.result; types = ps; kinds = qs }) text
        general_of = subst (λ g. IsGeneral s names found.params found.result found.kinds g text) scheme_is
            (subst (λ (ws : List TextKind). IsGeneral s names found.params found.result found.kinds (scheme_with s h ts ks read opened) ws) text_as
            (is_general s names h holds ts ks found read opened o distinct distinct_kinds extends))
