use Rattle.std.proofs.Common.{◌∙◌, ap, sym, ℕ, List, Option, cond, Bor}
use Rattle.name_scope.proofs.Labelling.{named_set}
use Rattle.name_scope.specs.Labelled.{head_at, seen_label}
use Rattle.typing_rules.specs.Arguments.{is_label}
use Rattle.name_scope.proofs.labels.set_head.Goals as goal

pub returns-in_ok-insert-in-Some-clause-set : goal.returns-in_ok-insert-in-Some-clause-set
returns-in_ok-insert-in-Some-clause-set c other =
    named_set c.args.named.now c.insert.new.self c.args.plain.now c.in-Some.name c.args.head c.in_ok-insert-in-Some.ensures.updates other
    ∙ ap (λ (l : Option (Bor (List ℕ))). cond (is_label other (seen_label l)) c.args.head (head_at c.args.named.now c.args.plain.now other)) (sym c.in-Some.is)
