use Rattle.std.proofs.Common.{◌∙◌}
use Rattle.where_lines.proofs.Faults.{no_statement, of_text}
use Rattle.where_lines.proofs.clashes.clash_place.Goals as goal

pub returns-in-Ok-clause-none : goal.returns-in-Ok-clause-none
returns-in-Ok-clause-none c = of_text c.args.text.now c.deref.result.now c.args.statement c.place_among.result (λ ts are. c.deref.ensures.value ∙ (c.in-Ok.ensures.only ts are).1) c.place_among.ensures.none

pub returns-in-Err-clause-none : goal.returns-in-Err-clause-none
returns-in-Err-clause-none c = no_statement c.args.text.now c.args.statement c.in-Err.fault c.no_tokens.result (λ ts are. (c.in-Err.ensures.only ts are).0) c.no_tokens.ensures.fault
