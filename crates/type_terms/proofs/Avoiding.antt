-- Terms in which a variable does not stand.
use Rattle.std.proofs.Common.{◌≡◌, ◌≢◌, ◌∙◌, sym, ap, refl, ℕ, Bool, true, false, List, Some, None, Option, eqb, eqb-true, eq-eqb, is_some, ne_eqb}
use Rattle.std.specs.Bool.{OnTrue}
use Rattle.type_terms.specs.Variables.{Variable}
use Rattle.type_terms.specs.Table.{Avoids, bound_at}
use Rattle.type_terms.specs.Term.{Term, base_of, base_term, list_term, source_term, tuple_term, variable, InTerm}
use Rattle.type_terms.specs.declared.ty.Base.{Base}
use Rattle.type_terms.specs.declared.ty.KindTerm.{KindTerm}
use Rattle.type_terms.specs.declared.ty.KindTerm.TheVariants.{Fixed, Var}
use Rattle.type_terms.proofs.Terms.{InTerm-map}

-- a term with no variables avoids each
pub avoids_closed : (vs : List Variable) (x : ℕ) (t : Term) → InTerm (λ _. ⊥) (λ _. Unit {0}) t → Avoids vs x t
avoids_closed vs x t h = record {
  reached = λ _. false;
  without = refl;
  closed = λ k s e r. absurd (let f : ◌≡◌ {A = Bool} false true = r in cc);
  within = InTerm-map (λ n i. absurd i) (λ _ _. tt) t h;
}

pub avoids_base : (vs : List Variable) (x : ℕ) (b : Base) → Avoids vs x (base_term b)
avoids_base vs x b = avoids_closed vs x (base_term b) tt

pub avoids_free : (vs : List Variable) (x k : ℕ) → k ≢ x → bound_at vs k ≡ None → Avoids vs x (variable k)
avoids_free vs x k ne free = record {
  reached = λ j. eqb j k;
  without = ne_eqb x k (λ e. ne (sym e));
  closed = λ j s e r. absurd (let is : j ≡ k = eqb-true j k r in let f : ◌≡◌ {A = Option Term} None (Some s) = sym free ∙ ap (bound_at vs) (sym is) ∙ e in cc);
  within = eq-eqb k k refl;
}

-- what has no parts and is no variable

pub leaf_source : (k : KindTerm) → InTerm (λ _. ⊥) (λ _. Unit {0}) (source_term k)
leaf_source (Fixed c) = tt
leaf_source (Var n) = tt

pub leaf_base : (t : Term) (b : Bool) → b ≡ is_some (base_of t) → OnTrue b (InTerm (λ _. ⊥) (λ _. Unit {0}) t)
leaf_base t false e = tt
leaf_base (base_term b) true e = tt
leaf_base (list_term t) true e = cc
leaf_base (tuple_term ts) true e = cc
leaf_base (source_term k) true e = leaf_source k
leaf_base (variable n) true e = cc
