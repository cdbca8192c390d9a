use Rattle.script_grammar.proofs.DefSpelled.{def_parts}
use Rattle.script_grammar.proofs.script_tokens.put_def.Goals as goal

pub returns : goal.returns
returns c = def_parts c.put_body.result c.args.def.now _ _ _ _ _ _ c.deref.ensures.value c.deref-2.ensures.value c.in_ok-put_head.ensures c.in_ok-put_if.ensures c.put_body.ensures
