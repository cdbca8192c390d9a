use Rattle.std.proofs.Common.{◌≡◌, ◌∙◌, sym, ap, subst, ◌<◌, Some, length}
use Rattle.type_terms.specs.Term.{term_of, InTerm}
use Rattle.type_terms.specs.Table.{bound_at}
use Rattle.type_terms.proofs.Views.{term_Var, variable_injective}
use Rattle.type_terms.proofs.Lookups.{bound_none, bound_read, bound_height, bound_value}
use Rattle.type_terms.proofs.occurs.resolve.Goals as goal
use Rattle.type_terms.proofs.occurs.resolve.Goals.{In-Some}

is_bound : (c : In-Some) → bound_at c.args.types.now c.in-Var.k ≡ Some (term_of c.in-Some.next.now)
is_bound c = bound_read c.args.types.now c.in-Var.k c.index-types-k.result _ (subst (λ t. InTerm (λ n. n < length c.args.types.now) (λ _. Unit {0}) t) (term_Var _ _ c.in-Var.is) c.loop-t.invariant.over) c.index-types-k.is c.in-Some.ensures

pub loop-t-smaller : goal.loop-t-smaller
loop-t-smaller c = let h = bound_height c.args.types.now c.requires.triangular c.in-Var.k _ c.loop-t.t.now c.in-Var.is (is_bound c) in h

pub loop-t-preserved : goal.loop-t-preserved
loop-t-preserved c = record {
  value = λ a m. bound_value c.args.types.now a m c.in-Var.k _ c.loop-t.t.now c.in-Var.is (is_bound c) ∙ c.loop-t.invariant.value a m;
  over = c.requires.triangular.over c.in-Var.k (term_of c.in-Some.next.now) (is_bound c);
  kept = λ s e h o. h.over c.in-Var.k (term_of c.in-Some.next.now) (ap (λ vs. bound_at vs c.in-Var.k) e ∙ is_bound c);
}

pub returns-in-None-clause-free : goal.returns-in-None-clause-free
returns-in-None-clause-free c k e =
    let h = bound_none c.args.types.now c.in-Var.k c.index-types-k.result (subst (λ t. InTerm (λ n. n < length c.args.types.now) (λ _. Unit {0}) t) (term_Var _ _ c.in-Var.is) c.loop-t.invariant.over) c.index-types-k.is c.in-None.ensures in
    let same : c.in-Var.k ≡ k = variable_injective _ _ (sym (term_Var _ _ c.in-Var.is) ∙ e) in
    ap (bound_at c.args.types.now) (sym same) ∙ h
