use Rattle.buffer_ends.proofs.Steps.{list_took, ok_map}
use Rattle.buffer_ends.proofs.local_taps.LocalTapsTaps.take.Goals as goal

pub returns-clause-call : goal.returns-clause-call
returns-clause-call c = ok_map c.take_of.result (λ o h calls stand. list_took (λ b. ⊥) c.args.self.now c.take_of.new.self c.args.buffer o c.requires h calls stand) c.take_of.ensures.ok
