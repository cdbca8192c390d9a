use Rattle.std.proofs.Common.{◌≡◌, ◌∙◌, sym, ap, ◌++◌, append-nil, None, option_map, option_copied}
use Rattle.type_terms.specs.Nested.{terms}
use Rattle.type_terms.specs.Term.{term_of}
use Rattle.type_terms.proofs.Lookups.{read_bound, read_free}
use Rattle.type_terms.proofs.Views.{term_Var}
use Rattle.type_terms.proofs.Walks.{below_bound, below_free, terms-append}
use Rattle.type_terms.proofs.occurs.push_below.Goals as goal

pub returns-in_ok-push-in-Var : goal.returns-in_ok-push-in-Var
returns-in_ok-push-in-Var c =
    ap terms c.in_ok-push-in-Var.ensures.items ∙ terms-append _ _
    ∙ ap (λ us. terms c.args.work.now.items ++ us)
    (sym (below_bound c.args.types.now c.args.deep c.in-Var.k _ _ (term_Var _ _ c.in-Var.is) c.if-deep.true (read_bound c.args.types.now c.in-Var.k c.index-types-k.result _ _ c.in-Var.is c.requires c.index-types-k.is c.in-Some.ensures)))

pub returns-in_default-bound : goal.returns-in_default-bound
returns-in_default-bound c =
    sym (append-nil (terms c.args.work.now.items))
    ∙ ap (λ us. terms c.args.work.now.items ++ us)
    (sym (below_free c.args.types.now c.args.deep c.in-Var.k _ (term_Var _ _ c.in-Var.is) (read_free c.args.types.now c.in-Var.k c.index-types-k.result _ c.in-Var.is c.requires c.index-types-k.is none)))
  where
    none : None ≡ c.index-types-k.result.bound
    none = sym (ap (λ o. option_map term_of (option_copied o)) c.in_default-bound.is) ∙ c.bound.ensures
