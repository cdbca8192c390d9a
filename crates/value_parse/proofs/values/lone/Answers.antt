use Rattle.value_parse.proofs.LoneTree.{lone_made, lone_whole}
use Rattle.value_parse.proofs.values.lone.Goals as goal

pub returns : goal.returns
returns c = record {
  made = lone_made c.args.negated c.args.operand c.new.result c.new-2.result c.new-3.result c.new-4.result c.new.ensures.items c.new-2.ensures.items c.new-3.ensures.items c.new-4.ensures.items;
  whole = λ h. lone_whole c.args.negated c.args.operand c.new.result c.new-2.result c.new-3.result c.new-4.result c.new.ensures.items c.new-2.ensures.items c.new-3.ensures.items c.new-4.ensures.items h;
}
