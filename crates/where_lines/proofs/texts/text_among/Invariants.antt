use Rattle.std.proofs.Common.{◌≡◌, drop}
use Rattle.where_lines.specs.Texts.{text_among}
use Rattle.where_lines.proofs.texts.text_among.Given as goal

abbrev pub invariant-loop-token : goal.invariant-loop-token
invariant-loop-token l = text_among l.name (drop l.token-index l.tokens) ≡ text_among l.name l.tokens
