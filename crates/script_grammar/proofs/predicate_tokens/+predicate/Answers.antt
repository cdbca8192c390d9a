use Rattle.script_grammar.proofs.Spelled.{por_spelled, pand_spelled}
use Rattle.script_grammar.proofs.predicate_tokens.+predicate.Goals as goal

pub put_por-returns : goal.put_por-returns
put_por-returns t c = rw (por_spelled c.args.pred.now _ c.deref.ensures.value) c.put_por_parts.ensures

pub put_pand-returns : goal.put_pand-returns
put_pand-returns t c = rw (pand_spelled c.args.pred.now _ c.deref.ensures.value) c.put_pand_parts.ensures
