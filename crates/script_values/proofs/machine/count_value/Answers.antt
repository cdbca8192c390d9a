use Rattle.std.proofs.Common.{Result, subst}
use Rattle.script_values.specs.declared.machine.Machine.{Machine}
use Rattle.script_values.specs.declared.fault.Stop.{Stop}
use Rattle.script_values.specs.Gives.{Gives}
use Rattle.script_values.specs.Values.{size}
use Rattle.script_values.specs.View.{view_value}
use Rattle.script_values.proofs.Steps.{count_cut}
use Rattle.script_values.proofs.machine.count_value.Goals as goal

pub returns : goal.returns
returns c = subst (λ (r : Result Machine Stop). Gives (λ _. c.count.new.machine) c.count.result r) (count_cut (size (view_value c.args.value.now)) c.size.result c.args.machine.now c.size.ensures) c.count.ensures
