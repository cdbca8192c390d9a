use Rattle.std.proofs.Common.{◌∙◌, sym}
use Rattle.engine_tests.proofs.Outputs.{one_output}
use Rattle.engine_tests.proofs.small_engines.begun.Goals as goal

pub new-requires-clause-outs : goal.new-requires-clause-outs
new-requires-clause-outs c =
    c.requires.one ∙ sym (one_output c.args.plan.now c.args.library.now c.args.clocks.now c.args.node c.requires.clock c.requires.sinks)
