use Rattle.std.proofs.Common.{ap}
use Rattle.std.specs.Option.{option_map}
use Rattle.where_lines.specs.Passes.{NoScript}
use Rattle.where_lines.proofs.passing.behind_of.Goals as goal

pub returns-in-None-clause-behind : goal.returns-in-None-clause-behind
returns-in-None-clause-behind c = rw c.new.ensures.items (NoScript (ap (option_map (λ bytes. bytes.now)) c.in-None.is))
