use Rattle.std.proofs.Common.{◌≡◌, is_some, rules, sym, subst}
use Rattle.type_terms.specs.Term.{InTerm, base_of, term_of}
use Rattle.type_terms.proofs.Avoiding.{leaf_base, leaf_source}
use Rattle.type_terms.proofs.Views.{term_Source}
use Rattle.type_terms.proofs.occurs.is_leaf.Goals as goal

pub returns-in-Source : goal.returns-in-Source
returns-in-Source c = subst (λ t. InTerm (λ _. ⊥) (λ _. Unit {0}) t) (sym (term_Source _ _ c.in-Source.is)) (leaf_source _)

pub returns-in_default : goal.returns-in_default
returns-in_default c =
    let same : c.is_some.result ≡ is_some (base_of (term_of c.args.ty.now)) = search rules in
    leaf_base (term_of c.args.ty.now) c.is_some.result same
