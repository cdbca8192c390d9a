-- The kinds of a text that come from outside are there.
use Rattle.std.proofs.Common.{◌≡◌, sym, subst, ℕ, ◌<◌, length, List, [], ◌∷◌, map, take, Option, Some, slice_get}
use Rattle.std.specs.Prelude.{⊤}
use Rattle.type_terms.specs.Table.{Table}
use Rattle.type_terms.specs.Term.{InTerms, source_term, terms_of}
use Rattle.type_terms.specs.declared.ty.KindTerm.{KindTerm}
use Rattle.type_terms.specs.declared.ty.KindTerm.TheVariants.{Fixed, Var}
use Rattle.type_instances.specs.declared.general.KindParameter.{KindParameter}
use Rattle.type_instances.specs.declared.general.KindParameter.TheVariants.{Open as OpenKind, Unread, Outer as OuterKind}
use Rattle.type_instances.specs.Schemes.{open_numbers}
use Rattle.general_types.specs.Generals.{AreTextKindsOver, IsTextKindOver}
use Rattle.general_types.specs.Texts.{text_kind, variable_in_text}
use Rattle.general_types.proofs.KindLists.{IsNamed, Names}

module _ (s : Table) (ps : List KindParameter) (outer : (i k : ℕ) → slice_get ps i ≡ Some (OuterKind k) → k < length s.kinds) where
  seen_over : (i before : ℕ) (x : KindParameter) → slice_get ps i ≡ Some x → IsNamed x → IsTextKindOver s (variable_in_text i before (Some x))
  seen_over i before OpenKind is named = tt
  seen_over i before Unread is named = absurd named
  seen_over i before (OuterKind n) is named = outer i n is

  kind_over : (i : ℕ) → Names ps i → IsTextKindOver s (text_kind ps (Var i))
  kind_over i p =
      let before = length (open_numbers 0 (take i ps)) in
      subst (λ (o : Option KindParameter). IsTextKindOver s (variable_in_text i before o)) (sym p.1) (seen_over i before p.0 p.1 p.2)

  pub text_is_over : (kinds : List KindTerm) → InTerms (λ n. ⊤) (λ n. Names ps n) (terms_of (map source_term kinds)) → AreTextKindsOver s (map (text_kind ps) kinds)
  text_is_over [] o = tt
  text_is_over (Fixed k ∷ kinds) o = (tt, text_is_over kinds o.1)
  text_is_over (Var i ∷ kinds) o = (kind_over i o.0, text_is_over kinds o.1)
