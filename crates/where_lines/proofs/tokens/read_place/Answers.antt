use Rattle.where_lines.proofs.Faults.{no_tokens}
use Rattle.where_lines.proofs.tokens.read_place.Goals as goal

pub returns-in-Err-clause-none : goal.returns-in-Err-clause-none
returns-in-Err-clause-none c = no_tokens (λ ts. ⊥) c.args.text.now c.in-Err.fault c.no_tokens.result (λ ts are. (c.in-Err.ensures.only ts are).0) c.no_tokens.ensures.fault
