use Rattle.script_grammar.specs.View.{view_script}
use Rattle.script_eval.proofs.Answered.{answers_plan, each_called, made_well}
use Rattle.script_eval.proofs.script.eval_with_calls.Goals as goal

pub returns : goal.returns
returns c =
    let plan = answers_plan (view_script c.args.script.now) c.args.uses.now c.answered.result c.answered.ensures in
    record {
      exact = c.answered.ensures;
      plan = plan;
      well_formed = made_well (view_script c.args.script.now) c.args.uses.now c.answered.result plan;
      each = each_called (view_script c.args.script.now) c.args.uses.now c.answered.result c.answered.ensures;
    }
