use Rattle.std.proofs.Common.{◌∙◌, ap, ap₂, ◌++◌, ◌∷◌, []}
use Rattle.type_terms.specs.Agenda.{pairs_of}
use Rattle.type_terms.proofs.Stack.{pairs_of-append}
use Rattle.type_terms.proofs.differ.push_copies.Goals as goal

pub returns : goal.returns
returns c =
    ap pairs_of c.in_ok-push.ensures.items ∙ pairs_of-append c.args.work.now.items ((c.in_ok-left.left, c.in_ok-right.right) ∷ [])
    ∙ ap₂ (λ t u. pairs_of c.args.work.now.items ++ ((t, u) ∷ [])) c.in_ok-left.ensures c.in_ok-right.ensures
