use Rattle.std.proofs.Common.{sym, ◌∙◌, length}
use Rattle.std.specs.Prelude.{IfSome}
use Rattle.std.proofs.Common.{Option, ℕ, subst}
use Rattle.script_grammar.specs.View.{view_script}
use Rattle.where_lines.specs.Beginning.{IsStatementAt}
use Rattle.where_lines.proofs.Beginnings.{none_first, statement_at}
use Rattle.where_lines.proofs.Faults.{no_script, of_tokens}
use Rattle.where_lines.proofs.places.statement_among.Goals as goal

pub returns-in-Ok-clause-place : goal.returns-in-Ok-clause-place
returns-in-Ok-clause-place c =
    subst (λ (found : Option ℕ). IfSome found (IsStatementAt c.args.text.now c.args.statement)) (sym c.beginning_of.ensures)
    (statement_at c.args.text.now c.args.tokens.now (view_script c.in-Ok.script) c.args.statement c.first_token.result c.requires c.in-Ok.ensures.spelled c.in-Ok.ensures.placed c.in-Ok.ensures.shallow (sym c.first_token.ensures))

pub returns-in-Ok-clause-none : goal.returns-in-Ok-clause-none
returns-in-Ok-clause-none c = λ none.
    of_tokens c.args.tokens.now (view_script c.in-Ok.script) c.args.statement (λ s spelled placed shallow. (c.in-Ok.ensures.only s spelled placed shallow).1)
    (sym c.first_token.ensures ∙ none_first (length c.args.text.now) c.args.tokens.now c.first_token.result (sym c.beginning_of.ensures ∙ none))

pub returns-in-Err-clause-none : goal.returns-in-Err-clause-none
returns-in-Err-clause-none c =
    no_script c.args.tokens.now c.args.statement c.in-Err.fault c.no_script.result (λ s spelled placed shallow. (c.in-Err.ensures.only s spelled placed shallow).0) c.no_script.ensures.fault
