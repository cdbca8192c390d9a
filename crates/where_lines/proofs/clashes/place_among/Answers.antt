use Rattle.script_grammar.specs.View.{view_script}
use Rattle.where_lines.proofs.Faults.{no_script, of_tokens_if}
use Rattle.where_lines.proofs.clashes.place_among.Goals as goal

pub returns-in-Ok-clause-none : goal.returns-in-Ok-clause-none
returns-in-Ok-clause-none c =
    of_tokens_if c.args.tokens.now (view_script c.in-Ok.script) c.args.statement c.place_within.result
    (λ s spelled placed shallow. (c.in-Ok.ensures.only s spelled placed shallow).1) c.place_within.ensures.none

pub returns-in-Err-clause-none : goal.returns-in-Err-clause-none
returns-in-Err-clause-none c =
    no_script c.args.tokens.now c.args.statement c.in-Err.fault c.no_script.result (λ s spelled placed shallow. (c.in-Err.ensures.only s spelled placed shallow).0) c.no_script.ensures.fault
