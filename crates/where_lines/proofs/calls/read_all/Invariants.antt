use Rattle.std.proofs.Common.{◌≡◌, drop}
use Rattle.where_lines.specs.Calls.{calls_from}
use Rattle.where_lines.proofs.calls.read_all.Given as goal

abbrev pub invariant-loop-token : goal.invariant-loop-token
invariant-loop-token l = calls_from l.text (record { texts = l.texts.items; brackets = l.brackets.items }) (drop l.token-index l.tokens) ≡ calls_from l.text (record { texts = l.fn.texts.items; brackets = l.fn.brackets.items }) l.tokens
