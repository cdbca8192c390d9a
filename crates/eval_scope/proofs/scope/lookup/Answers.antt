use Rattle.std.proofs.Common.{sym, ◌∙◌}
use Rattle.std.specs.Prelude.{map}
use Rattle.script_values.specs.Views.{view_slot}
use Rattle.eval_scope.proofs.Searches.{slot_first, slot_second}
use Rattle.eval_scope.proofs.scope.lookup.Goals as goal

pub returns-in-Some : goal.returns-in-Some
returns-in-Some c = slot_first c.args.at (map view_slot c.args.scope.now.locals.now) (map view_slot c.args.scope.now.globals.now.all.items) _ c.in-Some.ensures

pub returns-in-None : goal.returns-in-None
returns-in-None c = c.find.ensures ∙ sym (slot_second c.args.at (map view_slot c.args.scope.now.locals.now) (map view_slot c.args.scope.now.globals.now.all.items) c.in-None.ensures)
