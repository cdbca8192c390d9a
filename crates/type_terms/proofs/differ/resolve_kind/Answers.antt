use Rattle.std.proofs.Common.{◌≡◌, ◌∙◌, sym, ap, subst, ◌<◌, arith, length, Some}
use Rattle.type_terms.specs.Term.{InKind, kind_meaning}
use Rattle.type_terms.specs.Table.{kind_at}
use Rattle.type_terms.proofs.KindLemmas.{kind_at-get_or, kind_height, lower, lower_over, var_injective}
use Rattle.type_terms.proofs.differ.resolve_kind.Goals as goal

pub loop-k-smaller : goal.loop-k-smaller
loop-k-smaller c =
    let b : kind_at c.args.kinds.now c.in-Var.n ≡ Some c.in-Some.next = kind_at-get_or c.args.kinds.now c.in-Var.n ∙ c.in-Some.is in
    let l = lower c.args.kinds.now c.requires.falls c.in-Var.n c.in-Some.next b in
    let e = ap kind_height c.in-Var.is in omega arith

pub loop-k-preserved : goal.loop-k-preserved
loop-k-preserved c =
    let b : kind_at c.args.kinds.now c.in-Var.n ≡ Some c.in-Some.next = kind_at-get_or c.args.kinds.now c.in-Var.n ∙ c.in-Some.is in
    record {
      value = λ a m. sym (m c.in-Var.n c.in-Some.next b) ∙ sym (ap (kind_meaning a) c.in-Var.is) ∙ c.loop-k.invariant.value a m;
      over = lower_over c.args.kinds.now c.requires.falls c.in-Var.n c.in-Some.next (subst (λ k. InKind (λ n. n < length c.args.kinds.now) k) c.in-Var.is c.loop-k.invariant.over) b;
    }

pub returns-in-None-clause-free : goal.returns-in-None-clause-free
returns-in-None-clause-free c n e = ap (kind_at c.args.kinds.now) (sym (var_injective _ _ e)) ∙ kind_at-get_or c.args.kinds.now c.in-Var.n ∙ c.in-None.is
