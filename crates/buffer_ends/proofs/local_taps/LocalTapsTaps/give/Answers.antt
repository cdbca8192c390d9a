use Rattle.buffer_ends.proofs.Steps.{list_gave, ok_map}
use Rattle.buffer_ends.proofs.local_taps.LocalTapsTaps.give.Goals as goal

pub returns-clause-call : goal.returns-clause-call
returns-clause-call c =
    ok_map c.give_to.result (λ g h. (h.2, h.3, list_gave (λ b. ⊥) c.args.self.now c.give_to.new.self c.args.buffer c.args.chunk g c.requires h)) c.give_to.ensures.ok
