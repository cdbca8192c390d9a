use Rattle.type_infer.proofs.Beginning.{begun_after}
use Rattle.type_infer.proofs.script.begun.Goals as goal

pub returns : goal.returns
returns c = λ targets. begun_after targets _ c.has_defaults.ensures c.new-4.ensures.items c.new.ensures c.new-2.ensures c.new-5.ensures.items c.new-3.ensures.none
