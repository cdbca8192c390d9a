use Rattle.std.proofs.Common.{◌≡◌, ◌<◌, [], length, drop}
use Rattle.std.specs.Prelude.{map, All}
use Rattle.time_pred.specs.View.{view_shared}
use Rattle.script_values.specs.Values.{many}
use Rattle.script_values.specs.View.{view_value}
use Rattle.builtin_calls.specs.Parts.{pairs_from}
use Rattle.builtin_calls.proofs.sources.pairs_in.Given as goal

abbrev pub invariant-loop-part : goal.invariant-loop-part
invariant-loop-part l = (pairs_from l.plan.nodes l.kind (many (map view_value (drop l.part-index l.parts))) (map view_shared l.preds.items) l.sources.items ≡ pairs_from l.plan.nodes l.kind (many (map view_value l.parts)) [] []) × All (λ n. n < length l.plan.nodes) l.sources.items
