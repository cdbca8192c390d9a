use Rattle.std.proofs.Common.{◌+◌, refl, rules, subst}
use Rattle.trace_turns.specs.Answering.{BufferState, SameBuffer}
use Rattle.trace_turns.specs.contracts.told.ToldBuffer.{the_view}
use Rattle.trace_turns.proofs.Letting.{accepted_same}
use Rattle.trace_turns.proofs.told.ToldBuffer.accept.Goals as goal

pub returns-in-Ok-clause-same : goal.returns-in-Ok-clause-same
returns-in-Ok-clause-same c =
    subst (λ (s : BufferState). SameBuffer s (the_view (record c.self.inside { put_at = c.self.inside.put_at + 1; put = c.in-Some.put; held = c.push_back.new.self; spare = c.pop_front.new.self }))) c.self.view_is
    (accepted_same (the_view c.self.inside) c.self.inside.held.items c.push_back.new.self.items c.args.chunk refl (search rules))
